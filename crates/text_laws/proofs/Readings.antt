-- The text of the value that a problem is written as is read as that value.
use Rattle.std.proofs.Common.{◌≡◌, ℕ, suc, ◌^◌, ◌<◌, ◌≤◌, List, [], ◌∷◌, ◌++◌, true, false, Option, Some, None, refl, sym, ap, ◌∙◌, subst, arith, append-nil, decimal}
use Rattle.std.specs.Prelude.{codes, option_and_then}
use Rattle.std.specs.Option.{ForSome}
use Rattle.std.specs.List.{AllByRecursion}
use Rattle.std.specs.Str.{IsUtf8}
use Rattle.std.proofs.lemmas.Str.{IsUtf8-append, IsUtf8-from_ascii}
use Rattle.std.proofs.lemmas.Fmt.{IsAscii-decimal}
use Rattle.json.specs.Lex.{tokens}
use Rattle.json.specs.Json as json
use Rattle.json.specs.Tree as tree
use Rattle.json.proofs.Printed.Decimals.{IsNumber-decimal}
use Rattle.json.proofs.Printed.Tokens.{tokens-print}
use Rattle.json.proofs.Printed.Trees.{value-json_tokens, ArePrintable-json_tokens}
use Rattle.json.proofs.Printed.Utf8.{IsUtf8-are_ascii, IsUtf8-quoted}
use Rattle.serde_json.specs.Data.{Data, string}
use Rattle.serde_json.specs.Read.{of_json, of_items, read, max_depth}
use Rattle.serde_json.specs.Written.{outline, items_outline, compact_text, items_text}
use Rattle.serde_json.proofs.Numbers.{number_of-decimal}
use Rattle.serde_json.proofs.Texts.{print-outline}
use Rattle.json_claims.specs.Json.{IsJson}
use Rattle.disp_model.specs.declared.train.Listing.{Listing}
use Rattle.disp_model.specs.declared.train.Component.{Component}
use Rattle.problem_text.specs.Texts.{upper_text}
use Rattle.text_laws.specs.Listed.{name_of}
use Rattle.text_laws.proofs.Lines.{tokens_line}
use Rattle.text_laws.proofs.Data.{number_data, items_data, list_data, listing_data, operation_parts, component_data, train_data, problem_data}
use Rattle.text_laws.proofs.Texts.{listing_spelled, operation_spelled, component_spelled, problem_spelled}

-- the text of a value with so many levels at most is read as the value
pub record IsRead (d : Data) (levels : ℕ) : Type 0 where
  pub back : of_json (outline d) ≡ Some d
  pub numbers : tree.HasNumbers (outline d)
  pub flat : tree.depth (outline d) ≤ levels
  pub utf8 : IsUtf8 (compact_text d)

from_tokens : (d : Data) (levels : ℕ) (text : List ℕ) → IsRead d levels → levels ≤ max_depth → tokens text ≡ tree.json_tokens (outline d) → read text ≡ Some d
from_tokens d levels text r few lexed =
    let j = outline d in
    ap (λ ts. option_and_then of_json (option_and_then (λ p. json.if_last p.0 p.1) (json.value max_depth ts))) (lexed ∙ sym (append-nil (tree.json_tokens j)))
    ∙ ap (λ p. option_and_then of_json (option_and_then (λ q. json.if_last q.0 q.1) p)) (value-json_tokens j max_depth [] (omega (arith, r.flat)))
    ∙ r.back

text_back : (d : Data) (levels : ℕ) → IsRead d levels → levels ≤ max_depth → read (compact_text d) ≡ Some d
text_back d levels r few =
    let ts = tree.json_tokens (outline d) in
    from_tokens d levels (compact_text d) r few (ap tokens (sym (print-outline d)) ∙ tokens-print ts (ArePrintable-json_tokens (outline d) r.numbers))

-- with one LF behind it
line_back : (d : Data) (levels : ℕ) → IsRead d levels → levels ≤ max_depth → read (compact_text d ++ codes "\n") ≡ Some d
line_back d levels r few =
    let ts = tree.json_tokens (outline d) in
    from_tokens d levels (compact_text d ++ codes "\n") r few (ap (λ text. tokens (text ++ codes "\n")) (sym (print-outline d)) ∙ tokens_line ts (ArePrintable-json_tokens (outline d) r.numbers))

pub text_is_json : (d : Data) (levels : ℕ) → IsRead d levels → levels ≤ max_depth → IsJson (compact_text d) d
text_is_json d levels r few = record { utf8 = r.utf8; value = text_back d levels r few }

pub line_is_json : (d : Data) (levels : ℕ) → IsRead d levels → levels ≤ max_depth → IsJson (compact_text d ++ codes "\n") d
line_is_json d levels r few = record { utf8 = IsUtf8-append (compact_text d) (codes "\n") r.utf8 (IsUtf8-are_ascii (codes "\n") refl); value = line_back d levels r few }

-- ---- numbers, texts and lists

decimal_utf8 : (n : ℕ) → n < 2 ^ 64 → IsUtf8 (decimal n)
decimal_utf8 n fits = IsUtf8-from_ascii (decimal n) (IsAscii-decimal n fits)

pub number_read : (n : ℕ) → n < 2 ^ 64 → IsRead (number_data n) 0
number_read n fits = record { back = rw (number_of-decimal n fits) refl; numbers = IsNumber-decimal n fits; flat = omega arith; utf8 = decimal_utf8 n fits }

pub items_back : {X : Type 0} (form : X → Data) (levels : ℕ) (xs : List X) → AllByRecursion (λ x. IsRead (form x) levels) xs → of_items (items_outline (items_data form xs)) ≡ Some (items_data form xs)
items_back form levels [] all = refl
items_back form levels (x ∷ xs) all = rw (all.0.back, items_back form levels xs all.1) refl

items_numbers : {X : Type 0} (form : X → Data) (levels : ℕ) (xs : List X) → AllByRecursion (λ x. IsRead (form x) levels) xs → tree.ItemsHaveNumbers (items_outline (items_data form xs))
items_numbers form levels [] all = tt
items_numbers form levels (x ∷ xs) all = (all.0.numbers, items_numbers form levels xs all.1)

items_flat : {X : Type 0} (form : X → Data) (levels : ℕ) (xs : List X) → AllByRecursion (λ x. IsRead (form x) levels) xs → tree.items_depth (items_outline (items_data form xs)) ≤ levels
items_flat form levels [] all = omega arith
items_flat form levels (x ∷ xs) all = omega (arith, all.0.flat, items_flat form levels xs all.1)

next_utf8 : {X : Type 0} (form : X → Data) (levels : ℕ) (xs : List X) → AllByRecursion (λ x. IsRead (form x) levels) xs → IsUtf8 (items_text true (items_data form xs))
next_utf8 form levels [] all = IsUtf8-are_ascii (93 ∷ []) refl
next_utf8 form levels (x ∷ xs) all =
    IsUtf8-append (44 ∷ []) _ (IsUtf8-are_ascii (44 ∷ []) refl) (IsUtf8-append (compact_text (form x)) _ all.0.utf8 (next_utf8 form levels xs all.1))

items_utf8 : {X : Type 0} (form : X → Data) (levels : ℕ) (xs : List X) → AllByRecursion (λ x. IsRead (form x) levels) xs → IsUtf8 (items_text false (items_data form xs))
items_utf8 form levels [] all = IsUtf8-are_ascii (93 ∷ []) refl
items_utf8 form levels (x ∷ xs) all = IsUtf8-append (compact_text (form x)) _ all.0.utf8 (next_utf8 form levels xs all.1)

pub list_read : {X : Type 0} (form : X → Data) (levels : ℕ) (xs : List X) → AllByRecursion (λ x. IsRead (form x) levels) xs → IsRead (list_data form xs) (suc levels)
list_read form levels xs all = record {
  back = rw (items_back form levels xs all) refl;
  numbers = items_numbers form levels xs all;
  flat = omega (arith, items_flat form levels xs all);
  utf8 = IsUtf8-append (91 ∷ []) _ (IsUtf8-are_ascii (91 ∷ []) refl) (items_utf8 form levels xs all);
}

all_numbers : (ns : List ℕ) → AllByRecursion (λ n. n < 2 ^ 64) ns → AllByRecursion (λ n. IsRead (number_data n) 0) ns
all_numbers [] all = tt
all_numbers (n ∷ ns) all = (number_read n all.0, all_numbers ns all.1)

-- ---- listings and operations

-- a word, a text, and what follows
pub piece : (word text rest : List ℕ) → IsUtf8 word → IsUtf8 text → IsUtf8 rest → IsUtf8 (word ++ (text ++ rest))
piece word text rest word-is text-is rest-is = IsUtf8-append word (text ++ rest) word-is (IsUtf8-append text rest text-is rest-is)

pub closed : IsUtf8 (codes "}")
closed = IsUtf8-are_ascii (codes "}") refl

pub listing_read : (names : List (List ℕ)) (l : Listing) → l.release < 2 ^ 64 → IsUtf8 (name_of names l) → IsRead (listing_data names l) 1
listing_read names l fits named = record {
  back = rw (number_of-decimal l.release fits) refl;
  numbers = (IsNumber-decimal l.release fits, (tt, tt));
  flat = omega arith;
  utf8 =
      subst IsUtf8 (sym (listing_spelled names l))
      (piece (codes "{\"release_time\":") (decimal l.release) _ (IsUtf8-are_ascii (codes "{\"release_time\":") refl) (decimal_utf8 l.release fits)
      (piece (codes ",\"resource\":") (compact_text (string (name_of names l))) _ (IsUtf8-are_ascii (codes ",\"resource\":") refl) (IsUtf8-quoted (name_of names l) named) closed));
}

upper_utf8 : (upper : Option ℕ) (rest : List ℕ) → ForSome upper (λ u. u < 2 ^ 64) → IsUtf8 rest → IsUtf8 (upper_text upper ++ rest)
upper_utf8 None rest fits is = is
upper_utf8 (Some u) rest fits is = piece (codes ",\"start_ub\":") (decimal u) rest (IsUtf8-are_ascii (codes ",\"start_ub\":") refl) (decimal_utf8 u (fits u refl)) is

operation_utf8 : (names : List (List ℕ)) (lower : ℕ) (upper : Option ℕ) (min : ℕ) (listings : List Listing) (next : List ℕ) → lower < 2 ^ 64 → ForSome upper (λ u. u < 2 ^ 64) → min < 2 ^ 64
    → IsRead (list_data (listing_data names) listings) 2 → IsRead (list_data number_data next) 1 → IsUtf8 (compact_text (operation_parts names lower upper min listings next))
operation_utf8 names lower upper min listings next lower-fits upper-fits min-fits listings-read next-read =
    subst IsUtf8 (sym (operation_spelled names lower upper min listings next))
    (piece (codes "{\"min_duration\":") (decimal min) _ (IsUtf8-are_ascii (codes "{\"min_duration\":") refl) (decimal_utf8 min min-fits)
    (piece (codes ",\"resources\":") (compact_text (list_data (listing_data names) listings)) _ (IsUtf8-are_ascii (codes ",\"resources\":") refl) listings-read.utf8
    (piece (codes ",\"start_lb\":") (decimal lower) _ (IsUtf8-are_ascii (codes ",\"start_lb\":") refl) (decimal_utf8 lower lower-fits)
    (upper_utf8 upper _ upper-fits
    (piece (codes ",\"successors\":") (compact_text (list_data number_data next)) _ (IsUtf8-are_ascii (codes ",\"successors\":") refl) next-read.utf8 closed)))))

pub operation_read : (names : List (List ℕ)) (lower : ℕ) (upper : Option ℕ) (min : ℕ) (listings : List Listing) (next : List ℕ) → lower < 2 ^ 64 → ForSome upper (λ u. u < 2 ^ 64) → min < 2 ^ 64
    → AllByRecursion (λ l. IsRead (listing_data names l) 1) listings → AllByRecursion (λ n. n < 2 ^ 64) next → IsRead (operation_parts names lower upper min listings next) 3
operation_read names lower None min listings next lower-fits upper-fits min-fits listings-read next-fit =
    let l = list_read (listing_data names) 1 listings listings-read in
    let n = list_read number_data 0 next (all_numbers next next-fit) in
    record {
      back = rw (number_of-decimal min min-fits, items_back (listing_data names) 1 listings listings-read, number_of-decimal lower lower-fits, items_back number_data 0 next (all_numbers next next-fit)) refl;
      numbers = (IsNumber-decimal min min-fits, (l.numbers, (IsNumber-decimal lower lower-fits, (n.numbers, tt))));
      flat = omega (arith, l.flat, n.flat);
      utf8 = operation_utf8 names lower None min listings next lower-fits upper-fits min-fits l n;
    }
operation_read names lower (Some u) min listings next lower-fits upper-fits min-fits listings-read next-fit =
    let l = list_read (listing_data names) 1 listings listings-read in
    let n = list_read number_data 0 next (all_numbers next next-fit) in
    record {
      back = rw (number_of-decimal min min-fits, items_back (listing_data names) 1 listings listings-read, number_of-decimal lower lower-fits, number_of-decimal u (upper-fits u refl), items_back number_data 0 next (all_numbers next next-fit)) refl;
      numbers = (IsNumber-decimal min min-fits, (l.numbers, (IsNumber-decimal lower lower-fits, (IsNumber-decimal u (upper-fits u refl), (n.numbers, tt)))));
      flat = omega (arith, l.flat, n.flat);
      utf8 = operation_utf8 names lower (Some u) min listings next lower-fits upper-fits min-fits l n;
    }

-- ---- components and problems

-- numbers of at most 64 bits
pub record IsShort (c : Component) : Type 0 where
  pub coeff : c.coeff < 2 ^ 64
  pub increment : c.increment < 2 ^ 64
  pub operation : c.operation < 2 ^ 64
  pub threshold : c.threshold < 2 ^ 64
  pub train : c.train < 2 ^ 64

pub component_read : (c : Component) → IsShort c → IsRead (component_data c) 1
component_read c short = record {
  back = rw (number_of-decimal c.coeff short.coeff, number_of-decimal c.increment short.increment, number_of-decimal c.operation short.operation, number_of-decimal c.threshold short.threshold, number_of-decimal c.train short.train) refl;
  numbers = (IsNumber-decimal c.coeff short.coeff, (IsNumber-decimal c.increment short.increment, (IsNumber-decimal c.operation short.operation, (IsNumber-decimal c.threshold short.threshold, (IsNumber-decimal c.train short.train, (tt, tt))))));
  flat = omega arith;
  utf8 =
      subst IsUtf8 (sym (component_spelled c))
      (piece (codes "{\"coeff\":") (decimal c.coeff) _ (IsUtf8-are_ascii (codes "{\"coeff\":") refl) (decimal_utf8 c.coeff short.coeff)
      (piece (codes ",\"increment\":") (decimal c.increment) _ (IsUtf8-are_ascii (codes ",\"increment\":") refl) (decimal_utf8 c.increment short.increment)
      (piece (codes ",\"operation\":") (decimal c.operation) _ (IsUtf8-are_ascii (codes ",\"operation\":") refl) (decimal_utf8 c.operation short.operation)
      (piece (codes ",\"threshold\":") (decimal c.threshold) _ (IsUtf8-are_ascii (codes ",\"threshold\":") refl) (decimal_utf8 c.threshold short.threshold)
      (piece (codes ",\"train\":") (decimal c.train) _ (IsUtf8-are_ascii (codes ",\"train\":") refl) (decimal_utf8 c.train short.train)
      (IsUtf8-are_ascii (codes ",\"type\":\"op_delay\"}") refl))))));
}

pub problem_read : (names : List (List ℕ)) (trains : _) (components : List Component) → AllByRecursion (λ t. IsRead (train_data names t) 4) trains → AllByRecursion (λ c. IsRead (component_data c) 1) components
    → IsRead (problem_data names trains components) 6
problem_read names trains components trains-read components-read =
    let t = list_read (train_data names) 4 trains trains-read in
    let c = list_read component_data 1 components components-read in
    record {
      back = rw (items_back component_data 1 components components-read, items_back (train_data names) 4 trains trains-read) refl;
      numbers = (c.numbers, (t.numbers, tt));
      flat = omega (arith, t.flat, c.flat);
      utf8 =
          subst IsUtf8 (sym (problem_spelled names trains components))
          (piece (codes "{\"objective\":") (compact_text (list_data component_data components)) _ (IsUtf8-are_ascii (codes "{\"objective\":") refl) c.utf8
          (piece (codes ",\"trains\":") (compact_text (list_data (train_data names) trains)) _ (IsUtf8-are_ascii (codes ",\"trains\":") refl) t.utf8 closed));
    }
