-- The JSON value that a problem is written as.
use Rattle.std.proofs.Common.{ℕ, List, [], ◌∷◌, Option, Some, None}
use Rattle.std.specs.Prelude.{codes}
use Rattle.serde_json.specs.Data.{unsigned, Data, number, string, array, object, Items, no_items, item, Members, no_members, member}
use Rattle.disp_model.specs.declared.train.Listing.{Listing}
use Rattle.disp_model.specs.declared.train.Operation.{Operation}
use Rattle.disp_model.specs.declared.train.Component.{Component}
use Rattle.text_laws.specs.Listed.{name_of}

abbrev pub number_data : ℕ → Data
number_data n = number (unsigned n)

abbrev pub items_data : {X : Type 0} → (X → Data) → List X → Items
items_data form [] = no_items
items_data form (x ∷ xs) = item (form x) (items_data form xs)

abbrev pub list_data : {X : Type 0} → (X → Data) → List X → Data
list_data form xs = array (items_data form xs)

abbrev pub listing_data : List (List ℕ) → Listing → Data
listing_data names l =
    object (member (codes "release_time") (number_data l.release) (member (codes "resource") (string (name_of names l)) no_members))

-- the members of an operation from its upper end on, where it has one
abbrev pub upper_members : Option ℕ → Members → Members
upper_members None rest = rest
upper_members (Some u) rest = member (codes "start_ub") (number_data u) rest

abbrev pub operation_parts : List (List ℕ) → ℕ → Option ℕ → ℕ → List Listing → List ℕ → Data
operation_parts names lower upper min listings next =
    object
    (member (codes "min_duration") (number_data min)
    (member (codes "resources") (list_data (listing_data names) listings)
    (member (codes "start_lb") (number_data lower)
    (upper_members upper (member (codes "successors") (list_data number_data next) no_members)))))

abbrev pub operation_data : List (List ℕ) → Operation → Data
operation_data names o = operation_parts names o.lower o.upper o.min o.listings o.next

abbrev pub train_data : List (List ℕ) → List Operation → Data
train_data names train = list_data (operation_data names) train

abbrev pub component_data : Component → Data
component_data c =
    object
    (member (codes "coeff") (number_data c.coeff)
    (member (codes "increment") (number_data c.increment)
    (member (codes "operation") (number_data c.operation)
    (member (codes "threshold") (number_data c.threshold)
    (member (codes "train") (number_data c.train)
    (member (codes "type") (string (codes "op_delay")) no_members))))))

abbrev pub problem_data : List (List ℕ) → List (List Operation) → List Component → Data
problem_data names trains components =
    object (member (codes "objective") (list_data component_data components) (member (codes "trains") (list_data (train_data names) trains) no_members))
