-- The printed text of a refusal: the variant's name, then its numbers and places, one space
-- between.
use Rattle.std.specs.Prelude.{ℕ, List, ◌++◌, codes}
use Rattle.std.specs.Fmt.{decimal}
use Rattle.displib_reader.specs.declared.place.Place.{Place}
use Rattle.displib_reader.specs.declared.place.Place.TheVariants as place
use Rattle.displib_reader.specs.declared.place.OperationKey.{OperationKey}
use Rattle.displib_reader.specs.declared.place.OperationKey.TheVariants.{StartLb, StartUb, MinDuration, Resources, Successors}
use Rattle.displib_reader.specs.declared.place.ListingKey.{ListingKey}
use Rattle.displib_reader.specs.declared.place.ListingKey.TheVariants.{Resource, ReleaseTime}
use Rattle.displib_reader.specs.declared.place.ComponentKey.{ComponentKey}
use Rattle.displib_reader.specs.declared.place.ComponentKey.TheVariants as key
use Rattle.displib_reader.specs.declared.fault.Kind.{Kind}
use Rattle.displib_reader.specs.declared.fault.Kind.TheVariants as kind
use Rattle.displib_reader.specs.declared.fault.ProblemNo.{ProblemNo}
use Rattle.displib_reader.specs.declared.fault.ProblemNo.TheVariants.{NotJson, Shape, NotWhole, TooLarge, TooMany, BadIndex, NotOneEntry, NotOneExit, Loop, UnknownObjective, TooCostly, Memory}

abbrev pub operation_key_text : OperationKey → List ℕ
operation_key_text StartLb = codes "start_lb"
operation_key_text StartUb = codes "start_ub"
operation_key_text MinDuration = codes "min_duration"
operation_key_text Resources = codes "resources"
operation_key_text Successors = codes "successors"

abbrev pub listing_key_text : ListingKey → List ℕ
listing_key_text Resource = codes "resource"
listing_key_text ReleaseTime = codes "release_time"

abbrev pub component_key_text : ComponentKey → List ℕ
component_key_text key.Kind = codes "type"
component_key_text key.Train = codes "train"
component_key_text key.Operation = codes "operation"
component_key_text key.Threshold = codes "threshold"
component_key_text key.Increment = codes "increment"
component_key_text key.Coeff = codes "coeff"

-- a step of a JSON pointer into a list
abbrev pub step_text : ℕ → List ℕ
step_text n = codes "/" ++ decimal n

abbrev pub train_text : ℕ → List ℕ
train_text t = codes "/trains" ++ step_text t

abbrev pub operation_text : ℕ → ℕ → List ℕ
operation_text t o = train_text t ++ step_text o

abbrev pub listing_text : ℕ → ℕ → ℕ → List ℕ
listing_text t o k = operation_text t o ++ (codes "/resources" ++ step_text k)

abbrev pub component_text : ℕ → List ℕ
component_text c = codes "/objective" ++ step_text c

-- a place as a JSON pointer, but for the root, whose pointer is the empty text
abbrev pub place_text : Place → List ℕ
place_text place.Root = codes "/"
place_text place.Trains = codes "/trains"
place_text (place.Train t) = train_text t
place_text (place.Operation t o) = operation_text t o
place_text (place.OperationKey t o k) = operation_text t o ++ codes "/" ++ operation_key_text k
place_text (place.Listing t o k) = listing_text t o k
place_text (place.ListingKey t o k key) = listing_text t o k ++ codes "/" ++ listing_key_text key
place_text (place.Successor t o k) = operation_text t o ++ codes "/successors" ++ step_text k
place_text place.Objective = codes "/objective"
place_text (place.Component c) = component_text c
place_text (place.ComponentKey c k) = component_text c ++ codes "/" ++ component_key_text k

abbrev pub kind_text : Kind → List ℕ
kind_text kind.Trains = codes "trains"
kind_text kind.Operations = codes "operations"
kind_text kind.Components = codes "components"

abbrev pub why_text : ProblemNo → List ℕ
why_text NotJson = codes "NotJson"
why_text (Shape place) = codes "Shape " ++ place_text place
why_text (NotWhole place) = codes "NotWhole " ++ place_text place
why_text (TooLarge place) = codes "TooLarge " ++ place_text place
why_text (TooMany kind count) = codes "TooMany " ++ kind_text kind ++ codes " " ++ decimal count
why_text (BadIndex place) = codes "BadIndex " ++ place_text place
why_text (NotOneEntry t count) = codes "NotOneEntry " ++ decimal t ++ codes " " ++ decimal count
why_text (NotOneExit t count) = codes "NotOneExit " ++ decimal t ++ codes " " ++ decimal count
why_text (Loop t o) = codes "Loop " ++ decimal t ++ codes " " ++ decimal o
why_text (UnknownObjective c) = codes "UnknownObjective " ++ decimal c
why_text (TooCostly sum) = codes "TooCostly " ++ decimal sum
why_text Memory = codes "Memory"
