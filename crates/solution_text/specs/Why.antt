-- The printed text of a refusal: the variant's name, then its place or count, one space between.
use Rattle.std.specs.Prelude.{ℕ, List, ◌++◌, codes}
use Rattle.std.specs.Fmt.{decimal}
use Rattle.solution_text.specs.declared.place.SolutionPlace.{SolutionPlace}
use Rattle.solution_text.specs.declared.place.SolutionPlace.TheVariants as place
use Rattle.solution_text.specs.declared.place.EventKey.{EventKey}
use Rattle.solution_text.specs.declared.place.EventKey.TheVariants.{Operation, Time, Train}
use Rattle.solution_text.specs.declared.fault.SolutionNo.{SolutionNo}
use Rattle.solution_text.specs.declared.fault.SolutionNo.TheVariants.{NotJson, Shape, NotWhole, TooLarge, TooMany, Memory}

abbrev pub key_text : EventKey → List ℕ
key_text Operation = codes "operation"
key_text Time = codes "time"
key_text Train = codes "train"

-- a place as a JSON pointer, but for the root, whose pointer is the empty text
abbrev pub solution_place_text : SolutionPlace → List ℕ
solution_place_text place.Root = codes "/"
solution_place_text place.Events = codes "/events"
solution_place_text (place.Event k) = codes "/events/" ++ decimal k
solution_place_text (place.EventKey k key) = codes "/events/" ++ decimal k ++ codes "/"
    ++ key_text key
solution_place_text place.ObjectiveValue = codes "/objective_value"

abbrev pub solution_why_text : SolutionNo → List ℕ
solution_why_text NotJson = codes "NotJson"
solution_why_text (Shape place) = codes "Shape " ++ solution_place_text place
solution_why_text (NotWhole place) = codes "NotWhole " ++ solution_place_text place
solution_why_text (TooLarge place) = codes "TooLarge " ++ solution_place_text place
solution_why_text (TooMany count) = codes "TooMany " ++ decimal count
solution_why_text Memory = codes "Memory"
