-- What is written for a plan and a cost is JSON, and its value is the one that has them.
use Rattle.std.proofs.Common.{◌≡◌, ℕ, ◌^◌, ◌<◌, ◌≤◌, List, [], ◌∷◌, ◌++◌, true, false, Some, refl, sym, ap, ◌∙◌, subst, arith, append_assoc, append-nil, decimal}
use Rattle.std.specs.Prelude.{codes, option_and_then}
use Rattle.std.specs.List.{AllByRecursion, flat_map}
use Rattle.std.specs.Str.{IsUtf8}
use Rattle.std.proofs.lemmas.Str.{IsUtf8-nil, IsUtf8-append, IsUtf8-from_ascii}
use Rattle.std.proofs.lemmas.Fmt.{IsAscii-decimal}
use Rattle.json.specs.Lex.{tokens}
use Rattle.json.specs.Json as json
use Rattle.json.specs.Print.{escape_byte}
use Rattle.json.specs.Tree as tree
use Rattle.json.proofs.Printed.Decimals.{IsNumber-decimal}
use Rattle.json.proofs.Printed.Tokens.{tokens-print}
use Rattle.json.proofs.Printed.Trees.{value-json_tokens, ArePrintable-json_tokens}
use Rattle.json.proofs.Printed.Utf8.{IsUtf8-are_ascii}
use Rattle.serde_json.specs.Data.{unsigned, Data, number, array, object, Items, no_items, item, no_members, member}
use Rattle.serde_json.specs.Read.{of_json, of_items, read, max_depth}
use Rattle.serde_json.specs.Written.{outline, items_outline, compact_text, items_text}
use Rattle.serde_json.proofs.Numbers.{number_of-decimal}
use Rattle.serde_json.proofs.Texts.{print-outline}
use Rattle.disp_model.specs.declared.plan.Event.{Event}
use Rattle.solution_text.specs.Texts.{event_text, next_event_text, events_text, solution_text}
use Rattle.json_claims.specs.Json.{IsJson}
use Rattle.solution_text.specs.Limits.{IsEventWithin}

-- ---- the value

abbrev pub number_data : ℕ → Data
number_data n = number (unsigned n)

abbrev pub event_data : Event → Data
event_data e =
    object (member (codes "operation") (number_data e.operation) (member (codes "time") (number_data e.time) (member (codes "train") (number_data e.train) no_members)))

abbrev pub events_data : List Event → Items
events_data [] = no_items
events_data (e ∷ plan) = item (event_data e) (events_data plan)

abbrev pub solution_data : List Event → ℕ → Data
solution_data plan cost =
    object (member (codes "events") (array (events_data plan)) (member (codes "objective_value") (number_data cost) no_members))

-- ---- its text

to_the_right : (a b c d e f g : List ℕ) → a ++ b ++ c ++ d ++ e ++ f ++ g ≡ a ++ (b ++ (c ++ (d ++ (e ++ (f ++ g)))))
to_the_right a b c d e f g = simp append_assoc

-- the text of an event, piece by piece from the right
abbrev spelled : Event → List ℕ
spelled e = codes "{\"operation\":" ++ (decimal e.operation ++ (codes ",\"time\":" ++ (decimal e.time ++ (codes ",\"train\":" ++ (decimal e.train ++ codes "}")))))

event_spelled : (e : Event) → event_text e ≡ spelled e
event_spelled e = to_the_right (codes "{\"operation\":") (decimal e.operation) (codes ",\"time\":") (decimal e.time) (codes ",\"train\":") (decimal e.train) (codes "}")

data_spelled : (e : Event) → compact_text (event_data e) ≡ spelled e
unfolding escape_byte
data_spelled e = refl

event_written : (e : Event) → compact_text (event_data e) ≡ event_text e
event_written e = data_spelled e ∙ sym (event_spelled e)

next_written : (plan : List Event) → items_text true (events_data plan) ≡ flat_map next_event_text plan ++ codes "]"
next_written [] = refl
next_written (e ∷ plan) =
    ap (λ t. codes "," ++ (t ++ items_text true (events_data plan))) (event_written e)
    ∙ ap (λ t. next_event_text e ++ t) (next_written plan)
    ∙ sym (append_assoc (next_event_text e) (flat_map next_event_text plan) (codes "]"))

events_written : (plan : List Event) → items_text false (events_data plan) ≡ events_text plan ++ codes "]"
events_written [] = refl
events_written (e ∷ plan) =
    ap (λ t. t ++ items_text true (events_data plan)) (event_written e)
    ∙ ap (λ t. event_text e ++ t) (next_written plan)
    ∙ sym (append_assoc (event_text e) (flat_map next_event_text plan) (codes "]"))

-- what follows the events
abbrev stated_text : ℕ → List ℕ
stated_text cost = codes ",\"objective_value\":" ++ (decimal cost ++ codes "}")

five_to_the_right : (a b c d e : List ℕ) → a ++ b ++ c ++ d ++ e ≡ a ++ (b ++ (c ++ (d ++ e)))
five_to_the_right a b c d e = simp append_assoc

solution_spelled : (plan : List Event) (cost : ℕ) → solution_text plan cost ≡ codes "{\"events\":[" ++ (events_text plan ++ (codes "]" ++ stated_text cost))
solution_spelled plan cost = five_to_the_right (codes "{\"events\":[") (events_text plan) (codes "],\"objective_value\":") (decimal cost) (codes "}")

outside_written : (plan : List Event) (cost : ℕ) → compact_text (solution_data plan cost) ≡ codes "{\"events\":[" ++ (items_text false (events_data plan) ++ stated_text cost)
unfolding escape_byte
outside_written plan cost = refl

solution_written : (plan : List Event) (cost : ℕ) → compact_text (solution_data plan cost) ≡ solution_text plan cost
solution_written plan cost =
    outside_written plan cost
    ∙ ap (λ t. codes "{\"events\":[" ++ (t ++ stated_text cost)) (events_written plan)
    ∙ ap (λ t. codes "{\"events\":[" ++ t) (append_assoc (events_text plan) (codes "]") (stated_text cost))
    ∙ sym (solution_spelled plan cost)

-- ---- the text is read as the value

-- numbers of at most 64 bits
abbrev AreShort : Event → Type 0
AreShort e = (e.operation < 2 ^ 64) × (e.time < 2 ^ 64) × (e.train < 2 ^ 64)

event_read : (e : Event) → AreShort e → of_json (outline (event_data e)) ≡ Some (event_data e)
event_read e short = rw (number_of-decimal e.operation short.0, number_of-decimal e.time short.1, number_of-decimal e.train short.2) refl

events_read : (plan : List Event) → AllByRecursion AreShort plan → of_items (items_outline (events_data plan)) ≡ Some (events_data plan)
events_read [] short = refl
events_read (e ∷ plan) short = rw (event_read e short.0, events_read plan short.1) refl

solution_read : (plan : List Event) (cost : ℕ) → AllByRecursion AreShort plan → cost < 2 ^ 64 → of_json (outline (solution_data plan cost)) ≡ Some (solution_data plan cost)
solution_read plan cost short fits = rw (events_read plan short, number_of-decimal cost fits) refl

events_numbers : (plan : List Event) → AllByRecursion AreShort plan → tree.ItemsHaveNumbers (items_outline (events_data plan))
events_numbers [] short = tt
events_numbers (e ∷ plan) short =
    ((IsNumber-decimal e.operation short.0.0, (IsNumber-decimal e.time short.0.1, (IsNumber-decimal e.train short.0.2, tt))), events_numbers plan short.1)

solution_numbers : (plan : List Event) (cost : ℕ) → AllByRecursion AreShort plan → cost < 2 ^ 64 → tree.HasNumbers (outline (solution_data plan cost))
solution_numbers plan cost short fits = (events_numbers plan short, (IsNumber-decimal cost fits, tt))

events_flat : (plan : List Event) → tree.items_depth (items_outline (events_data plan)) ≤ 1
events_flat [] = omega arith
events_flat (e ∷ plan) = omega (arith, events_flat plan)

solution_flat : (plan : List Event) (cost : ℕ) → tree.depth (outline (solution_data plan cost)) ≤ max_depth
solution_flat plan cost = omega (arith, events_flat plan)

text_read : (plan : List Event) (cost : ℕ) → AllByRecursion AreShort plan → cost < 2 ^ 64 → read (solution_text plan cost) ≡ Some (solution_data plan cost)
text_read plan cost short fits =
    let j = outline (solution_data plan cost) in
    let printed = ap tokens (print-outline (solution_data plan cost) ∙ solution_written plan cost) in
    let lexed = sym printed ∙ tokens-print (tree.json_tokens j) (ArePrintable-json_tokens j (solution_numbers plan cost short fits)) in
    ap (λ ts. option_and_then of_json (option_and_then (λ p. json.if_last p.0 p.1) (json.value max_depth ts))) (lexed ∙ sym (append-nil (tree.json_tokens j)))
    ∙ ap (λ r. option_and_then of_json (option_and_then (λ p. json.if_last p.0 p.1) r)) (value-json_tokens j max_depth [] (solution_flat plan cost))
    ∙ solution_read plan cost short fits

-- ---- the text is UTF-8

decimal_utf8 : (n : ℕ) → n < 2 ^ 64 → IsUtf8 (decimal n)
decimal_utf8 n fits = IsUtf8-from_ascii (decimal n) (IsAscii-decimal n fits)

-- a word, a number, and what follows
piece_utf8 : (word : List ℕ) (n : ℕ) (rest : List ℕ) → IsUtf8 word → n < 2 ^ 64 → IsUtf8 rest → IsUtf8 (word ++ (decimal n ++ rest))
piece_utf8 word n rest word-is fits rest-is = IsUtf8-append word (decimal n ++ rest) word-is (IsUtf8-append (decimal n) rest (decimal_utf8 n fits) rest-is)

closed_utf8 : IsUtf8 (codes "}")
closed_utf8 = IsUtf8-are_ascii (codes "}") refl

event_utf8 : (e : Event) → AreShort e → IsUtf8 (event_text e)
event_utf8 e short =
    subst IsUtf8 (sym (event_spelled e))
    (piece_utf8 (codes "{\"operation\":") e.operation _ (IsUtf8-are_ascii (codes "{\"operation\":") refl) short.0
    (piece_utf8 (codes ",\"time\":") e.time _ (IsUtf8-are_ascii (codes ",\"time\":") refl) short.1
    (piece_utf8 (codes ",\"train\":") e.train _ (IsUtf8-are_ascii (codes ",\"train\":") refl) short.2 closed_utf8)))

next_utf8 : (plan : List Event) → AllByRecursion AreShort plan → IsUtf8 (flat_map next_event_text plan)
next_utf8 [] short = IsUtf8-nil
next_utf8 (e ∷ plan) short =
    IsUtf8-append (next_event_text e) (flat_map next_event_text plan) (IsUtf8-append (codes ",") (event_text e) (IsUtf8-are_ascii (codes ",") refl) (event_utf8 e short.0)) (next_utf8 plan short.1)

events_utf8 : (plan : List Event) → AllByRecursion AreShort plan → IsUtf8 (events_text plan)
events_utf8 [] short = IsUtf8-nil
events_utf8 (e ∷ plan) short = IsUtf8-append (event_text e) (flat_map next_event_text plan) (event_utf8 e short.0) (next_utf8 plan short.1)

text_utf8 : (plan : List Event) (cost : ℕ) → AllByRecursion AreShort plan → cost < 2 ^ 64 → IsUtf8 (solution_text plan cost)
text_utf8 plan cost short fits =
    let head = codes "{\"events\":[" in
    subst IsUtf8 (sym (solution_spelled plan cost))
    (IsUtf8-append head _ (IsUtf8-are_ascii head refl)
    (IsUtf8-append (events_text plan) _ (events_utf8 plan short)
    (piece_utf8 (codes "],\"objective_value\":") cost (codes "}") (IsUtf8-are_ascii (codes "],\"objective_value\":") refl) fits closed_utf8)))

within_short : (plan : List Event) → AllByRecursion IsEventWithin plan → AllByRecursion AreShort plan
within_short [] within = tt
within_short (e ∷ plan) within =
    let here = within.0 in
    ((omega (arith, here.operation), omega (arith, here.time), omega (arith, here.train)), within_short plan within.1)

-- the text of events within their limits, and of a cost of 64 bits
pub text_is_json : (plan : List Event) (cost : ℕ) → AllByRecursion IsEventWithin plan → cost < 2 ^ 64 → IsJson (solution_text plan cost) (solution_data plan cost)
text_is_json plan cost within fits =
    let short = within_short plan within in
    record { utf8 = text_utf8 plan cost short fits; value = text_read plan cost short fits }
