-- The text of a fault: the name of its variant, its numbers, and the JSON text of a resource's
-- name, one space between.
use Rattle.std.specs.Prelude.{ℕ, List, [], ◌++◌, codes, slice_index_or}
use Rattle.std.specs.Fmt.{decimal}
use Rattle.serde_json.specs.Data.{string}
use Rattle.serde_json.specs.Written.{compact_text}
use Rattle.disp_model.specs.declared.problem.Problem.{Problem}
use Rattle.solution_verifier.specs.declared.fault.Fault.{Fault}
use Rattle.solution_verifier.specs.declared.fault.Fault.TheVariants.{UnknownTrain, UnknownOperation, TimeBackwards, NotEntry, NotSuccessor, TooEarly, TooLate, TooShort, Held, Incomplete, FixingUnmet, WrongCost}

-- words, a space and a number
abbrev pub with_number : List ℕ → ℕ → List ℕ
with_number words number = words ++ codes " " ++ decimal number

-- words, a space and two numbers with a space between
abbrev pub with_numbers : List ℕ → ℕ → ℕ → List ℕ
with_numbers words first second = words ++ codes " " ++ decimal first ++ codes " " ++ decimal second

-- the name of a resource as JSON, as `serde_json` writes it; the empty name where there is no such
-- resource
abbrev pub resource_text : Problem → ℕ → List ℕ
resource_text problem resource = compact_text (string (slice_index_or problem.names resource []))

-- the text of a fault of a plan for a problem
abbrev pub fault_text : Problem → Fault → List ℕ
fault_text problem (UnknownTrain j) = with_number (codes "UnknownTrain") j
fault_text problem (UnknownOperation j) = with_number (codes "UnknownOperation") j
fault_text problem (TimeBackwards j) = with_number (codes "TimeBackwards") j
fault_text problem (NotEntry j) = with_number (codes "NotEntry") j
fault_text problem (NotSuccessor j) = with_number (codes "NotSuccessor") j
fault_text problem (TooEarly j) = with_number (codes "TooEarly") j
fault_text problem (TooLate j) = with_number (codes "TooLate") j
fault_text problem (TooShort j) = with_number (codes "TooShort") j
fault_text problem (Held i j resource) = with_numbers (codes "Held") i j ++ codes " "
    ++ resource_text problem resource
fault_text problem (Incomplete t) = with_number (codes "Incomplete") t
fault_text problem (FixingUnmet k) = with_number (codes "FixingUnmet") k
fault_text problem (WrongCost claimed actual) = with_numbers (codes "WrongCost") claimed actual
