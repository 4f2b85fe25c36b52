-- What `read_problem` answers, beside the bytes.
use Rattle.std.specs.Prelude.{◌≡◌, ◌≢◌, ◌⊎◌, ◌≤◌, ◌<◌, ℕ, List, Option, Some, None, codes, Result, Ok, Err}
use Rattle.serde_json.specs.Data.{Data}
use Rattle.displib_reader.specs.declared.place.Place.{Place}
use Rattle.displib_reader.specs.declared.fault.ProblemNo.{ProblemNo}
use Rattle.displib_reader.specs.declared.fault.ProblemNo.TheVariants.{NotJson, Shape, NotWhole, TooLarge, TooMany, BadIndex, NotOneEntry, NotOneExit, Loop, UnknownObjective, TooCostly, Memory}
use Rattle.json_claims.specs.declared.rule.Rule.{Rule}
use Rattle.json_claims.specs.declared.rule.Rule.TheVariants as rule
use Rattle.disp_model.specs.declared.problem.Problem.{Problem}
use Rattle.disp_model.specs.declared.train.Operation.{Operation}
use Rattle.disp_model.specs.declared.train.Component.{Component}
use Rattle.disp_model.specs.declared.limits.TheConstants.{GREATEST_COST}
use Rattle.json_claims.specs.Json.{IsJson, IsNoJson}
use Rattle.json_claims.specs.Field.{members_at}
use Rattle.json_claims.specs.Claims.{first_broken, ArePlain}
use Rattle.json_claims.specs.Refusals.{BreaksFirst}
use Rattle.displib_reader.specs.Claims.{problem_claims}
use Rattle.displib_reader.specs.Counts.{too_many}
use Rattle.train_graphs.specs.Graphs.{entry_count, exit_count, first_not_one, IsFirstLoop, HaveGraphs}
use Rattle.train_graphs.specs.Costs.{greatest_sum}
use Rattle.displib_reader.specs.Types.{first_unknown}
use Rattle.displib_reader.specs.ProblemOf.{trains_of, components_of, IsProblemOf}

-- ---- the rules, each with those before it

-- the first place of the value that breaks the rule
abbrev pub broken_at : Rule → Data → Option Place
broken_at rule d = first_broken rule (problem_claims d)

-- each value is of its kind, needed ones are there, and numbers are whole and within the limit
abbrev pub IsPlain : Data → Type 0
IsPlain d = ArePlain (problem_claims d)

-- there are few enough trains, operations and components, and each index names something that is
-- there
pub record IsLinked (d : Data) : Type 0 where
  pub plain : IsPlain d
  pub few : too_many d ≡ None
  pub index : broken_at rule.Index d ≡ None

-- the value keeps these rules, and these are its trains
pub record HasTrains (d : Data) (trains : List (List Operation)) : Type 0 where
  pub linked : IsLinked d
  pub trains_are : trains_of d ≡ Some trains

-- each component is of the one type that there is, and these are the value's components
pub record HasComponents (d : Data) (components : List Component) : Type 0 where
  pub types : first_unknown 0 (members_at (codes "objective") d) ≡ None
  pub components_are : components_of d ≡ Some components

-- no rule is broken
pub record KeepsRules (d : Data) (trains : List (List Operation)) (components : List Component)
    : Type 0 where
  pub has_trains : HasTrains d trains
  pub graphs : HaveGraphs trains
  pub has_components : HasComponents d components
  pub cheap : greatest_sum trains components ≤ GREATEST_COST

-- ---- the answers

-- the bytes are JSON, no rule is broken, and the problem is that of their value
pub record IsReadAs (bytes : List ℕ) (problem : Problem) : Type 0 where
  pub value : Data
  pub json : IsJson bytes value
  pub keeps : KeepsRules value problem.trains problem.components
  pub problem_is : IsProblemOf value problem

-- the trains break a rule on their graphs first: all are judged for entries before any is for exits
abbrev pub BreaksGraphs : List (List Operation) → ProblemNo → Type 0
BreaksGraphs trains NotJson = ⊥
BreaksGraphs trains (Shape place) = ⊥
BreaksGraphs trains (NotWhole place) = ⊥
BreaksGraphs trains (TooLarge place) = ⊥
BreaksGraphs trains (TooMany kind count) = ⊥
BreaksGraphs trains (BadIndex place) = ⊥
BreaksGraphs trains (NotOneEntry t count) = first_not_one entry_count 0 trains ≡ Some (t, count)
BreaksGraphs trains (NotOneExit t count) = (first_not_one entry_count 0 trains ≡ None)
    × (first_not_one exit_count 0 trains ≡ Some (t, count))
BreaksGraphs trains (Loop t o) = (first_not_one entry_count 0 trains ≡ None)
    × (first_not_one exit_count 0 trains ≡ None) × IsFirstLoop trains t o
BreaksGraphs trains (UnknownObjective c) = ⊥
BreaksGraphs trains (TooCostly sum) = ⊥
BreaksGraphs trains Memory = Unit {0}

-- the value has trains, and they break a rule on their graphs first
pub record HasBrokenGraphs (d : Data) (why : ProblemNo) : Type 0 where
  pub trains : List (List Operation)
  pub has_trains : HasTrains d trains
  pub broken : BreaksGraphs trains why

-- the graphs are in order, and a component, the first, is of an unknown type
pub record HasUnknown (d : Data) (c : ℕ) : Type 0 where
  pub trains : List (List Operation)
  pub has_trains : HasTrains d trains
  pub graphs : HaveGraphs trains
  pub unknown : first_unknown 0 (members_at (codes "objective") d) ≡ Some c

-- the components may cost too much, and all other rules are kept
pub record CostsTooMuch (d : Data) (sum : ℕ) : Type 0 where
  pub trains : List (List Operation)
  pub components : List Component
  pub has_trains : HasTrains d trains
  pub graphs : HaveGraphs trains
  pub has_components : HasComponents d components
  pub sum_is : greatest_sum trains components ≡ sum
  pub above : GREATEST_COST < sum

-- the value breaks the rule of the refusal, there, and none before it
abbrev pub Breaks : Data → ProblemNo → Type 0
Breaks d NotJson = ⊥
Breaks d (Shape place) = broken_at rule.Shape d ≡ Some place
Breaks d (NotWhole place) = (broken_at rule.Shape d ≡ None) × (broken_at rule.Whole d ≡ Some place)
Breaks d (TooLarge place) = (broken_at rule.Shape d ≡ None) × (broken_at rule.Whole d ≡ None)
    × (broken_at rule.Limit d ≡ Some place)
Breaks d (TooMany kind count) = IsPlain d × (too_many d ≡ Some (kind, count))
Breaks d (BadIndex place) = IsPlain d × (too_many d ≡ None) × (broken_at rule.Index d ≡ Some place)
Breaks d (NotOneEntry t count) = HasBrokenGraphs d (NotOneEntry t count)
Breaks d (NotOneExit t count) = HasBrokenGraphs d (NotOneExit t count)
Breaks d (Loop t o) = HasBrokenGraphs d (Loop t o)
Breaks d (UnknownObjective c) = HasUnknown d c
Breaks d (TooCostly sum) = CostsTooMuch d sum
Breaks d Memory = Unit {0}

-- why there is no problem of the bytes; want of memory may come whatever they are
abbrev pub IsRefused : List ℕ → ProblemNo → Type 0
IsRefused bytes NotJson = IsNoJson bytes
IsRefused bytes (Shape place) = BreaksFirst Breaks bytes (Shape place)
IsRefused bytes (NotWhole place) = BreaksFirst Breaks bytes (NotWhole place)
IsRefused bytes (TooLarge place) = BreaksFirst Breaks bytes (TooLarge place)
IsRefused bytes (TooMany kind count) = BreaksFirst Breaks bytes (TooMany kind count)
IsRefused bytes (BadIndex place) = BreaksFirst Breaks bytes (BadIndex place)
IsRefused bytes (NotOneEntry t count) = BreaksFirst Breaks bytes (NotOneEntry t count)
IsRefused bytes (NotOneExit t count) = BreaksFirst Breaks bytes (NotOneExit t count)
IsRefused bytes (Loop t o) = BreaksFirst Breaks bytes (Loop t o)
IsRefused bytes (UnknownObjective c) = BreaksFirst Breaks bytes (UnknownObjective c)
IsRefused bytes (TooCostly sum) = BreaksFirst Breaks bytes (TooCostly sum)
IsRefused bytes Memory = Unit {0}

-- a problem is read of the text, or it is refused for another cause than want of memory
abbrev pub HasAnswer : List ℕ → Type 0
HasAnswer bytes = ((problem : Problem) × IsReadAs bytes problem)
    ⊎ ((why : ProblemNo) × IsRefused bytes why × (why ≢ Memory))

-- ---- for private clauses

-- the problem of a value, or the rule that it breaks first
abbrev pub Answers : Result Problem ProblemNo → Data → Type 0
Answers (Ok problem) d = KeepsRules d problem.trains problem.components × IsProblemOf d problem
Answers (Err why) d = Breaks d why

-- the first component of an unknown type
abbrev pub BreaksTypes : Data → ProblemNo → Type 0
BreaksTypes d NotJson = ⊥
BreaksTypes d (Shape place) = ⊥
BreaksTypes d (NotWhole place) = ⊥
BreaksTypes d (TooLarge place) = ⊥
BreaksTypes d (TooMany kind count) = ⊥
BreaksTypes d (BadIndex place) = ⊥
BreaksTypes d (NotOneEntry t count) = ⊥
BreaksTypes d (NotOneExit t count) = ⊥
BreaksTypes d (Loop t o) = ⊥
BreaksTypes d (UnknownObjective c) = first_unknown 0 (members_at (codes "objective") d) ≡ Some c
BreaksTypes d (TooCostly sum) = ⊥
BreaksTypes d Memory = Unit {0}

-- the components of a value, or the first that is of an unknown type
abbrev pub FindsComponents : Result (List Component) ProblemNo → Data → Type 0
FindsComponents (Ok components) d = HasComponents d components
FindsComponents (Err why) d = BreaksTypes d why
