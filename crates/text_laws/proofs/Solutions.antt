-- A solution that is written is read again as the same with one LF behind it.
use Rattle.std.proofs.Common.{◌≡◌, ℕ, ◌^◌, ◌<◌, List, [], ◌∷◌, ◌++◌, Some, refl, sym, ap, ◌∙◌, subst, arith, append_assoc, decimal}
use Rattle.std.specs.Prelude.{codes}
use Rattle.std.specs.List.{AllByRecursion, flat_map}
use Rattle.std.specs.Str.{IsUtf8}
use Rattle.std.proofs.lemmas.List.Elements.{recursion_from_All}
use Rattle.std.proofs.lemmas.Option.{same_Some}
use Rattle.json.proofs.Printed.Decimals.{IsNumber-decimal}
use Rattle.json.proofs.Printed.Utf8.{IsUtf8-are_ascii}
use Rattle.json.specs.Print.{escape_byte}
use Rattle.serde_json.specs.Data.{Data, object, no_members, member}
use Rattle.serde_json.specs.Written.{compact_text}
use Rattle.serde_json.proofs.Numbers.{number_of-decimal}
use Rattle.disp_model.specs.declared.plan.Event.{Event}
use Rattle.json_claims.specs.Json.{IsJson}
use Rattle.solution_text.specs.Limits.{IsEventWithin, IsWithinLimits}
use Rattle.solution_text.specs.Reading.{IsReadAsSolution}
use Rattle.solution_text.specs.Texts.{event_text, next_event_text, events_text, solution_text}
use Rattle.solution_text.proofs.ReadBack.{read_again}
use Rattle.problem_text.specs.Texts.{listed}
use Rattle.text_laws.proofs.Data.{number_data, list_data}
use Rattle.text_laws.proofs.Texts.{four_to_the_right, list_written}
use Rattle.text_laws.proofs.Readings.{IsRead, number_read, list_read, items_back, piece, closed, text_is_json, line_is_json}

abbrev event_data : Event → Data
event_data e = object (member (codes "operation") (number_data e.operation) (member (codes "time") (number_data e.time) (member (codes "train") (number_data e.train) no_members)))

abbrev solution_data : List Event → ℕ → Data
solution_data plan cost = object (member (codes "events") (list_data event_data plan) (member (codes "objective_value") (number_data cost) no_members))

-- ---- the text

abbrev event_pieces : Event → List ℕ
event_pieces e = codes "{\"operation\":" ++ (decimal e.operation ++ (codes ",\"time\":" ++ (decimal e.time ++ (codes ",\"train\":" ++ (decimal e.train ++ codes "}")))))

event_spelled : (e : Event) → compact_text (event_data e) ≡ event_pieces e
unfolding escape_byte
event_spelled e = refl

seven_to_the_right : (a b c d e f g : List ℕ) → a ++ b ++ c ++ d ++ e ++ f ++ g ≡ a ++ (b ++ (c ++ (d ++ (e ++ (f ++ g)))))
seven_to_the_right a b c d e f g = simp append_assoc

event_written : (e : Event) → compact_text (event_data e) ≡ event_text e
event_written e = event_spelled e ∙ sym (seven_to_the_right (codes "{\"operation\":") (decimal e.operation) (codes ",\"time\":") (decimal e.time) (codes ",\"train\":") (decimal e.train) (codes "}"))

three_to_the_right : (a b c d : List ℕ) → a ++ ((b ++ c) ++ d) ≡ a ++ (b ++ (c ++ d))
three_to_the_right a b c d = simp append_assoc

-- the events in brackets
bracketed : (plan : List Event) → listed event_text plan ≡ codes "[" ++ (events_text plan ++ codes "]")
bracketed [] = refl
bracketed (e ∷ plan) =
    four_to_the_right (codes "[") (event_text e) (flat_map next_event_text plan) (codes "]") ∙ sym (three_to_the_right (codes "[") (event_text e) (flat_map next_event_text plan) (codes "]"))

abbrev solution_pieces : List ℕ → ℕ → List ℕ
solution_pieces events cost = codes "{\"events\":" ++ (events ++ (codes ",\"objective_value\":" ++ (decimal cost ++ codes "}")))

solution_spelled : (plan : List Event) (cost : ℕ) → compact_text (solution_data plan cost) ≡ solution_pieces (compact_text (list_data event_data plan)) cost
unfolding escape_byte
solution_spelled plan cost = refl

joined : (events cost : List ℕ)
    → codes "{\"events\":" ++ ((codes "[" ++ (events ++ codes "]")) ++ (codes ",\"objective_value\":" ++ (cost ++ codes "}"))) ≡ codes "{\"events\":[" ++ events ++ codes "],\"objective_value\":" ++ cost ++ codes "}"
joined events cost = simp append_assoc

solution_written : (plan : List Event) (cost : ℕ) → compact_text (solution_data plan cost) ≡ solution_text plan cost
solution_written plan cost =
    solution_spelled plan cost
    ∙ ap (λ t. solution_pieces t cost) (list_written event_data event_text event_written plan ∙ bracketed plan)
    ∙ joined (events_text plan) (decimal cost)

-- ---- the reading

event_read : (e : Event) → IsEventWithin e → IsRead (event_data e) 1
event_read e within =
    let operation : e.operation < 2 ^ 64 = omega (arith, within.operation) in
    let time : e.time < 2 ^ 64 = omega (arith, within.time) in
    let train : e.train < 2 ^ 64 = omega (arith, within.train) in
    record {
      back = rw (number_of-decimal e.operation operation, number_of-decimal e.time time, number_of-decimal e.train train) refl;
      numbers = (IsNumber-decimal e.operation operation, (IsNumber-decimal e.time time, (IsNumber-decimal e.train train, tt)));
      flat = omega arith;
      utf8 =
          subst IsUtf8 (sym (event_spelled e))
          (piece (codes "{\"operation\":") (decimal e.operation) _ (IsUtf8-are_ascii (codes "{\"operation\":") refl) (number_read e.operation operation).utf8
          (piece (codes ",\"time\":") (decimal e.time) _ (IsUtf8-are_ascii (codes ",\"time\":") refl) (number_read e.time time).utf8
          (piece (codes ",\"train\":") (decimal e.train) _ (IsUtf8-are_ascii (codes ",\"train\":") refl) (number_read e.train train).utf8 closed)));
    }

events_read : (plan : List Event) → AllByRecursion IsEventWithin plan → AllByRecursion (λ e. IsRead (event_data e) 1) plan
events_read [] within = tt
events_read (e ∷ plan) within = (event_read e within.0, events_read plan within.1)

solution_read : (plan : List Event) (cost : ℕ) → AllByRecursion IsEventWithin plan → cost < 2 ^ 64 → IsRead (solution_data plan cost) 3
solution_read plan cost within fits =
    let events = list_read event_data 1 plan (events_read plan within) in
    record {
      back = rw (items_back event_data 1 plan (events_read plan within), number_of-decimal cost fits) refl;
      numbers = (events.numbers, (IsNumber-decimal cost fits, tt));
      flat = omega (arith, events.flat);
      utf8 =
          subst IsUtf8 (sym (solution_spelled plan cost))
          (piece (codes "{\"events\":") (compact_text (list_data event_data plan)) _ (IsUtf8-are_ascii (codes "{\"events\":") refl) events.utf8
          (piece (codes ",\"objective_value\":") (decimal cost) _ (IsUtf8-are_ascii (codes ",\"objective_value\":") refl) (number_read cost fits).utf8 closed));
    }

pub solution_line : (plan : List Event) (cost : ℕ) → IsWithinLimits plan cost → IsReadAsSolution (solution_text plan cost ++ codes "\n") plan (Some cost)
solution_line plan cost within =
    let once = read_again plan cost within in
    let d = solution_data plan cost in
    let r = solution_read plan cost (recursion_from_All IsEventWithin plan within.events_fit) (omega (arith, within.cost_fits)) in
    let text : IsJson (solution_text plan cost) d = subst (λ t. IsJson t d) (solution_written plan cost) (text_is_json d 3 r (omega arith)) in
    let line : IsJson (solution_text plan cost ++ codes "\n") d = subst (λ t. IsJson (t ++ codes "\n") d) (solution_written plan cost) (line_is_json d 3 r (omega arith)) in
    let same : d ≡ once.value = same_Some d once.value (sym text.value ∙ once.json.value) in
    record {
      value = once.value;
      json = subst (IsJson (solution_text plan cost ++ codes "\n")) same line;
      keeps = once.keeps;
      plan_is = once.plan_is;
      stated_is = once.stated_is;
    }
