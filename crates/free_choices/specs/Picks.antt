-- What a rule finds at a node.
use Rattle.std.specs.Prelude.{Some, None}
use Rattle.disp_model.specs.declared.settings.Rule.{Rule}
use Rattle.disp_model.specs.Node.{Node}
use Rattle.disp_model.specs.Earliest.{IsEarliest, IsPicked}
use Rattle.branch_rules.specs.declared.pick.Pick.{Pick}
use Rattle.branch_rules.specs.declared.pick.Pick.TheVariants.{Choice, Plan}

-- what a rule finds: the choice that is picked, or that none is, and the plan of earliest starts
abbrev pub IsPickBy : Rule → Node → Pick → Type 0
IsPickBy rule node (Choice choice) = IsPicked node rule (Some choice)
IsPickBy rule node (Plan plan) = IsPicked node rule None × IsEarliest node plan
