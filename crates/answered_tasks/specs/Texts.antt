-- The lines that the program prints.
use Rattle.std.specs.Prelude.{ℕ, List, [], ◌∷◌, ◌++◌, length, codes, Option, Some, None}
use Rattle.std.specs.Fmt.{decimal}
use Rattle.disp_model.specs.declared.plan.Event.{Event}
use Rattle.disp_model.specs.declared.entry.Mark.{Mark}
use Rattle.disp_model.specs.declared.entry.Mark.TheVariants.{Working, Optimal, Infeasible, Stopped}
use Rattle.disp_model.specs.declared.entry.Standing.{Standing}
use Rattle.disp_model.specs.declared.problem.Problem.{Problem}
use Rattle.disp_model.specs.WellFormed.{operation_count}
use Rattle.problem_text.specs.Texts.{problem_text}
use Rattle.solution_text.specs.Texts.{solution_text}
use Rattle.solution_verifier.specs.declared.fault.Fault.{Fault}
use Rattle.solution_verifier.specs.FaultText.{with_numbers, fault_text}
use Rattle.disp_model.specs.declared.tree.Verdict.{Verdict}
use Rattle.disp_model.specs.declared.tree.Verdict.TheVariants as verdict
use Rattle.tree_checker.specs.declared.why.Why.{Why}
use Rattle.tree_checker.specs.declared.why.Why.TheVariants.{BadName, BadChoice, HasRoute, NotCycle, EmptyWalk, NotForced, BadArc, NotLate, RepeatedComponent, RepeatedTrain, WrongTrain, WrongEnd, NoVerdict, BelowCost}

-- a text and the end of its line
abbrev pub line : List ℕ → List ℕ
line text = text ++ codes "\n"

-- the solution of a plan with its cost, as a file or a line
abbrev pub plan_line : List Event × ℕ → List ℕ
plan_line plan = line (solution_text plan.0 plan.1)

-- the line of a plan, where there is one
abbrev pub plan_lines : Option (List Event × ℕ) → List (List ℕ)
plan_lines None = []
plan_lines (Some plan) = plan_line plan ∷ []

abbrev pub edition_line : ℕ → List ℕ
edition_line number = line (codes "edition " ++ decimal number)

abbrev pub cost_or_none : Option ℕ → List ℕ
cost_or_none None = codes "none"
cost_or_none (Some cost) = decimal cost

abbrev pub optimal_line : ℕ → List ℕ
optimal_line cost = line (codes "optimal " ++ decimal cost)

abbrev pub infeasible_line : List ℕ
infeasible_line = line (codes "infeasible")

abbrev pub unfinished_line : Option ℕ → ℕ → ℕ → List ℕ
unfinished_line best bound spent =
    line (codes "unfinished best " ++ cost_or_none best ++ codes " bound " ++ decimal bound
    ++ codes " spent " ++ decimal spent)

-- the lines for where the search stands, with the last published plan: the edition, the verdict,
-- and the plan, where there is one
abbrev pub answer_lines : Standing → Option (List Event × ℕ) → Mark → List (List ℕ)
answer_lines standing plan Working = []
answer_lines standing plan (Optimal cost) = edition_line standing.edition ∷ optimal_line cost
    ∷ plan_lines plan
answer_lines standing plan Infeasible = edition_line standing.edition ∷ infeasible_line ∷ []
answer_lines standing plan (Stopped spent bound) = edition_line standing.edition
    ∷ unfinished_line standing.best bound spent ∷ plan_lines plan

-- the line of the verdict, where there is one
abbrev pub standing_verdict_line : Standing → Mark → List ℕ
standing_verdict_line standing Working = []
standing_verdict_line standing (Optimal cost) = optimal_line cost
standing_verdict_line standing Infeasible = infeasible_line
standing_verdict_line standing (Stopped spent bound) = unfinished_line standing.best bound spent

abbrev pub trains_line : ℕ → List ℕ
trains_line count = line (codes "trains " ++ decimal count)

abbrev pub operations_line : ℕ → List ℕ
operations_line count = line (codes "operations " ++ decimal count)

-- the lines for a problem that was made: how large it is, and where its search stands
abbrev pub made_lines : Problem → Standing → List (List ℕ)
made_lines problem standing =
    trains_line (length problem.trains) ∷ operations_line (operation_count problem.trains)
    ∷ standing_verdict_line standing standing.mark ∷ []

-- the text of a problem, as a file
abbrev pub problem_file : Problem → List ℕ
problem_file problem = line (problem_text problem)

-- the line for a plan that is valid, with its cost
abbrev pub valid_line : ℕ → List ℕ
valid_line cost = line (codes "valid " ++ decimal cost)

-- the line for a plan's fault
abbrev pub fault_line : Problem → Fault → List ℕ
fault_line problem fault = line (fault_text problem fault)

-- the line for a tree that is accepted
abbrev pub accepted_line : Verdict → List ℕ
accepted_line (verdict.Optimal cost) = line (codes "accepted optimal " ++ decimal cost)
accepted_line verdict.Infeasible = line (codes "accepted infeasible")

-- the rule that a node of a tree breaks
abbrev pub rule_text : Why → List ℕ
rule_text BadName = codes "BadName"
rule_text BadChoice = codes "BadChoice"
rule_text HasRoute = codes "HasRoute"
rule_text NotCycle = codes "NotCycle"
rule_text EmptyWalk = codes "EmptyWalk"
rule_text NotForced = codes "NotForced"
rule_text BadArc = codes "BadArc"
rule_text NotLate = codes "NotLate"
rule_text RepeatedComponent = codes "RepeatedComponent"
rule_text RepeatedTrain = codes "RepeatedTrain"
rule_text WrongTrain = codes "WrongTrain"
rule_text WrongEnd = codes "WrongEnd"
rule_text NoVerdict = codes "NoVerdict"
rule_text (BelowCost bound cost) = with_numbers (codes "BelowCost") bound cost

-- the line for a tree that is refused at a node, counted from 0
abbrev pub refused_line : ℕ → Why → List ℕ
refused_line node why = line (codes "refused " ++ decimal node ++ codes " " ++ rule_text why)

-- the line for the fault of a plan behind an accepted tree
abbrev pub plan_fault_line : Problem → Fault → List ℕ
plan_fault_line problem fault = line (codes "plan: " ++ fault_text problem fault)

-- the line for a plan of a problem that has none
abbrev pub no_plan_line : List ℕ
no_plan_line = line (codes "plan: NoPlanWanted")
