-- What a mark promises of an edition.
use Rattle.std.specs.Prelude.{◌≡◌, List}
use Rattle.disp_model.specs.declared.entry.Mark.{Mark}
use Rattle.disp_model.specs.declared.entry.Mark.TheVariants as mark
use Rattle.disp_model.specs.declared.fixing.Fixing.{Fixing}
use Rattle.disp_model.specs.declared.problem.Problem.{Problem}
use Rattle.disp_model.specs.declared.settings.Settings.{Settings}
use Rattle.disp_model.specs.Cost.{IsLeast, IsInfeasible}
use Rattle.stop_laws.specs.Bounded.{CostsAtLeast}

-- 'optimal' says that some valid plan costs so much and none less, 'infeasible' that no plan is
-- valid, and 'stopped' that the whole budget is spent and that no valid plan costs less than the
-- bound; nothing is worked on any more
abbrev pub Promises : Problem → Settings → List Fixing → Mark → Type 0
Promises problem settings fixings mark.Working = ⊥
Promises problem settings fixings (mark.Optimal cost) = IsLeast problem fixings cost
Promises problem settings fixings mark.Infeasible = IsInfeasible problem fixings
Promises problem settings fixings (mark.Stopped spent bound) =
    (spent ≡ settings.budget) × CostsAtLeast problem fixings bound
