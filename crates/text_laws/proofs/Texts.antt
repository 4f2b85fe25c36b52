-- The text of the value that a problem is written as is the text of the problem.
use Rattle.std.proofs.Common.{◌≡◌, ℕ, List, [], ◌∷◌, ◌++◌, true, Option, Some, None, refl, sym, ap, ◌∙◌, append_assoc, decimal}
use Rattle.std.specs.Prelude.{codes}
use Rattle.std.specs.List.{flat_map}
use Rattle.json.specs.Print.{escape_byte}
use Rattle.serde_json.specs.Data.{Data, string}
use Rattle.serde_json.specs.Written.{compact_text, items_text}
use Rattle.disp_model.specs.declared.train.Listing.{Listing}
use Rattle.disp_model.specs.declared.train.Operation.{Operation}
use Rattle.disp_model.specs.declared.train.Component.{Component}
use Rattle.disp_model.specs.declared.problem.Problem.{Problem}
use Rattle.problem_text.specs.Texts.{behind_comma, listed, name_text, written_listing, upper_text, written_operation, written_train, written_component, problem_text}
use Rattle.text_laws.specs.Listed.{name_of}
use Rattle.text_laws.proofs.Data.{number_data, items_data, list_data, listing_data, operation_parts, operation_data, train_data, component_data, problem_data}

-- ---- lists

items_written : {X : Type 0} (form : X → Data) (text : X → List ℕ) → ((x : X) → compact_text (form x) ≡ text x) → (xs : List X) → items_text true (items_data form xs) ≡ flat_map (behind_comma text) xs ++ codes "]"
items_written form text same [] = refl
items_written form text same (x ∷ xs) =
    ap (λ t. codes "," ++ (t ++ items_text true (items_data form xs))) (same x)
    ∙ ap (λ t. behind_comma text x ++ t) (items_written form text same xs)
    ∙ sym (append_assoc (behind_comma text x) (flat_map (behind_comma text) xs) (codes "]"))

pub four_to_the_right : (a b c d : List ℕ) → a ++ b ++ c ++ d ≡ a ++ (b ++ (c ++ d))
four_to_the_right a b c d = simp append_assoc

pub list_written : {X : Type 0} (form : X → Data) (text : X → List ℕ) → ((x : X) → compact_text (form x) ≡ text x) → (xs : List X) → compact_text (list_data form xs) ≡ listed text xs
list_written form text same [] = refl
list_written form text same (x ∷ xs) =
    ap (λ t. codes "[" ++ (t ++ items_text true (items_data form xs))) (same x)
    ∙ ap (λ t. codes "[" ++ (text x ++ t)) (items_written form text same xs)
    ∙ sym (four_to_the_right (codes "[") (text x) (flat_map (behind_comma text) xs) (codes "]"))

-- ---- listings and operations

five_to_the_right : (a b c d e : List ℕ) → a ++ b ++ c ++ d ++ e ≡ a ++ (b ++ (c ++ (d ++ e)))
five_to_the_right a b c d e = simp append_assoc

-- a listing's text, piece by piece from the right
abbrev pub listing_pieces : List (List ℕ) → Listing → List ℕ
listing_pieces names l = codes "{\"release_time\":" ++ (decimal l.release ++ (codes ",\"resource\":" ++ (compact_text (string (name_of names l)) ++ codes "}")))

pub listing_spelled : (names : List (List ℕ)) (l : Listing) → compact_text (listing_data names l) ≡ listing_pieces names l
unfolding escape_byte
listing_spelled names l = refl

pub listing_written : (names : List (List ℕ)) (l : Listing) → compact_text (listing_data names l) ≡ written_listing names l
listing_written names l =
    listing_spelled names l
    ∙ sym (five_to_the_right (codes "{\"release_time\":") (decimal l.release) (codes ",\"resource\":") (name_text names l.resource) (codes "}"))

-- an operation's text, piece by piece from the right, with the texts of what it lists
abbrev pub operation_pieces : ℕ → Option ℕ → ℕ → List ℕ → List ℕ → List ℕ
operation_pieces lower upper min listings next =
    codes "{\"min_duration\":" ++ (decimal min ++ (codes ",\"resources\":" ++ (listings ++ (codes ",\"start_lb\":" ++ (decimal lower ++ (upper_text upper ++ (codes ",\"successors\":" ++ (next ++ codes "}"))))))))

pub operation_spelled : (names : List (List ℕ)) (lower : ℕ) (upper : Option ℕ) (min : ℕ) (listings : List Listing) (next : List ℕ)
    → compact_text (operation_parts names lower upper min listings next) ≡ operation_pieces lower upper min (compact_text (list_data (listing_data names) listings)) (compact_text (list_data number_data next))
unfolding escape_byte
operation_spelled names lower None min listings next = refl
operation_spelled names lower (Some u) min listings next = refl

ten_to_the_right : (a b c d e f g h i j : List ℕ) → a ++ b ++ c ++ d ++ e ++ f ++ g ++ h ++ i ++ j ≡ a ++ (b ++ (c ++ (d ++ (e ++ (f ++ (g ++ (h ++ (i ++ j))))))))
ten_to_the_right a b c d e f g h i j = simp append_assoc

numbers_written : (ns : List ℕ) → compact_text (list_data number_data ns) ≡ listed decimal ns
numbers_written ns = list_written number_data decimal (λ n. refl) ns

pub operation_written : (names : List (List ℕ)) (o : Operation) → compact_text (operation_data names o) ≡ written_operation names o
operation_written names o =
    operation_spelled names o.lower o.upper o.min o.listings o.next
    ∙ ap (λ t. operation_pieces o.lower o.upper o.min t (compact_text (list_data number_data o.next))) (list_written (listing_data names) (written_listing names) (listing_written names) o.listings)
    ∙ ap (λ t. operation_pieces o.lower o.upper o.min (listed (written_listing names) o.listings) t) (numbers_written o.next)
    ∙ sym (ten_to_the_right (codes "{\"min_duration\":") (decimal o.min) (codes ",\"resources\":") (listed (written_listing names) o.listings) (codes ",\"start_lb\":") (decimal o.lower) (upper_text o.upper) (codes ",\"successors\":") (listed decimal o.next) (codes "}"))

pub train_written : (names : List (List ℕ)) (train : List Operation) → compact_text (train_data names train) ≡ written_train names train
train_written names train = list_written (operation_data names) (written_operation names) (operation_written names) train

-- ---- components

abbrev pub component_pieces : Component → List ℕ
component_pieces c =
    codes "{\"coeff\":" ++ (decimal c.coeff ++ (codes ",\"increment\":" ++ (decimal c.increment ++ (codes ",\"operation\":" ++ (decimal c.operation ++ (codes ",\"threshold\":" ++ (decimal c.threshold ++ (codes ",\"train\":" ++ (decimal c.train ++ codes ",\"type\":\"op_delay\"}")))))))))

pub component_spelled : (c : Component) → compact_text (component_data c) ≡ component_pieces c
unfolding escape_byte
component_spelled c = refl

eleven_to_the_right : (a b c d e f g h i j k : List ℕ) → a ++ b ++ c ++ d ++ e ++ f ++ g ++ h ++ i ++ j ++ k ≡ a ++ (b ++ (c ++ (d ++ (e ++ (f ++ (g ++ (h ++ (i ++ (j ++ k)))))))))
eleven_to_the_right a b c d e f g h i j k = simp append_assoc

pub component_written : (c : Component) → compact_text (component_data c) ≡ written_component c
component_written c =
    component_spelled c
    ∙ sym (eleven_to_the_right (codes "{\"coeff\":") (decimal c.coeff) (codes ",\"increment\":") (decimal c.increment) (codes ",\"operation\":") (decimal c.operation) (codes ",\"threshold\":") (decimal c.threshold) (codes ",\"train\":") (decimal c.train) (codes ",\"type\":\"op_delay\"}"))

-- ---- problems

abbrev pub problem_pieces : List ℕ → List ℕ → List ℕ
problem_pieces components trains = codes "{\"objective\":" ++ (components ++ (codes ",\"trains\":" ++ (trains ++ codes "}")))

pub problem_spelled : (names : List (List ℕ)) (trains : List (List Operation)) (components : List Component)
    → compact_text (problem_data names trains components) ≡ problem_pieces (compact_text (list_data component_data components)) (compact_text (list_data (train_data names) trains))
unfolding escape_byte
problem_spelled names trains components = refl

pub problem_written : (problem : Problem) → compact_text (problem_data problem.names problem.trains problem.components) ≡ problem_text problem
problem_written problem =
    problem_spelled problem.names problem.trains problem.components
    ∙ ap (λ t. problem_pieces t (compact_text (list_data (train_data problem.names) problem.trains))) (list_written component_data written_component component_written problem.components)
    ∙ ap (λ t. problem_pieces (listed written_component problem.components) t) (list_written (train_data problem.names) (written_train problem.names) (train_written problem.names) problem.trains)
    ∙ sym (five_to_the_right (codes "{\"objective\":") (listed written_component problem.components) (codes ",\"trains\":") (listed (written_train problem.names) problem.trains) (codes "}"))
