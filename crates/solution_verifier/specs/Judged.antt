-- What judging an event by its rules answers.
use Rattle.std.specs.Prelude.{◌≡◌, ℕ, List, [], length, Option, Result, MatchOption, MatchResult}
use Rattle.disp_model.specs.declared.plan.Event.{Event}
use Rattle.disp_model.specs.declared.problem.Problem.{Problem}
use Rattle.solution_verifier.specs.declared.fault.Fault.{Fault}
use Rattle.solution_verifier.specs.declared.fault.Fault.TheVariants.{UnknownTrain, UnknownOperation, TimeBackwards, NotEntry, NotSuccessor, TooEarly, TooLate, TooShort}
use Rattle.solution_verifier.specs.Rules.{EndsWith, Rule, train_there, operation_there, time_rises, first_is_entry, next_is_successor, from_lower, until_upper, lasts_its_duration, KeepsRule, IsFirstBroken}

-- the last event of a list, if there is one
abbrev pub IsLast : List Event → Option Event → Type 0
IsLast events found = MatchOption found (events ≡ []) (λ d. EndsWith events d)

-- the fault of a rule that the event at a position breaks
abbrev pub fault_of : Rule → ℕ → Fault
fault_of train_there j = UnknownTrain j
fault_of operation_there j = UnknownOperation j
fault_of time_rises j = TimeBackwards j
fault_of first_is_entry j = NotEntry j
fault_of next_is_successor j = NotSuccessor j
fault_of from_lower j = TooEarly j
fault_of until_upper j = TooLate j
fault_of lasts_its_duration j = TooShort j

-- the fault is that of the first rule that the event breaks
abbrev pub IsFaultOf : Problem → List Event → Event → Fault → Type 0
IsFaultOf problem stood e fault = (rule : Rule) × (fault ≡ fault_of rule (length stood))
    × IsFirstBroken problem stood e rule

-- the event keeps each rule, or the fault is that of the first that it breaks
abbrev pub IsEventJudged : Problem → List Event → Event → Result (Unit {0}) Fault → Type 0
IsEventJudged problem stood e answer = MatchResult answer
    (λ _. (rule : Rule) → KeepsRule problem stood e rule) (IsFaultOf problem stood e)
