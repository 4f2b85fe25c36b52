-- The names of a problem that is read are UTF-8.
use Rattle.std.proofs.Common.{ℕ, zero, suc, List, [], ◌∷◌, ◌++◌, length, Ordering, Less, Equal, Greater, Bool, true, false, Option, Some, None, option_map, subst}
use Rattle.std.specs.Prelude.{All, codes, option_and_then, is_some, if◌then◌else◌}
use Rattle.std.specs.Option.{option_map_or}
use Rattle.std.specs.Ordering.{nat_cmp, match_ordering}
use Rattle.std.specs.Cmp.Lexicographic.{slice_cmp}
use Rattle.std.specs.List.{AllByRecursion, flat_map, filter_map, cons_option}
use Rattle.std.specs.Str.{IsUtf8, bytes_eq}
use Rattle.std.proofs.lemmas.List.Elements.{All-from_recursion}
use Rattle.json.specs.Token as t
use Rattle.json.specs.Lex.{tokens}
use Rattle.json.specs.Json as json
use Rattle.serde_json.specs.Data.{Num, Data, null, boolean, number, string, array, object, Items, no_items, item, Members, no_members, member, put}
use Rattle.serde_json.specs.Find.{get_member, get, as_null, as_str, as_array}
use Rattle.serde_json.specs.Read.{number_of, of_json, of_items, of_members, read, max_depth}
use Rattle.json_claims.specs.Field.{present, field, values_of, members_in, members_at, text_at}
use Rattle.disp_model.specs.declared.problem.Problem.{Problem}
use Rattle.displib_reader.specs.Outcome.{IsReadAs}
use Rattle.displib_reader.specs.ProblemOf.{names_of_operation, names_of_train, names_in}
use Rattle.displib_reader.proofs.Distinct.{once_all}
use Rattle.text_laws.proofs.Strings.{Holds, chained, mapped, held, AreTextTokens, tokens_are}

-- ---- the grammar

abbrev mutual
  IsTextJson : json.Json → Type 0
  IsTextJson json.null = Unit {0}
  IsTextJson (json.boolean b) = Unit {0}
  IsTextJson (json.number s) = Unit {0}
  IsTextJson (json.string s) = IsUtf8 s
  IsTextJson (json.array js) = AreTextItems js
  IsTextJson (json.object ms) = AreTextMembers ms

  AreTextItems : json.Items → Type 0
  AreTextItems json.no_items = Unit {0}
  AreTextItems (json.item j js) = IsTextJson j × AreTextItems js

  AreTextMembers : json.Members → Type 0
  AreTextMembers json.no_members = Unit {0}
  AreTextMembers (json.member k j ms) = IsTextJson j × AreTextMembers ms

-- what was parsed, and what is left
abbrev Parsed : {A : Type 0} → (A → Type 0) → Option (A × List t.Token) → Type 0
Parsed P r = Holds (λ p. P p.0 × AreTextTokens p.1) r

-- a parser whose values are of a kind
abbrev Parses : {A : Type 0} → (A → Type 0) → (List t.Token → Option (A × List t.Token)) → Type 0
Parses P parser = (ts : List t.Token) → AreTextTokens ts → Parsed P (parser ts)

none_parses : {A : Type 0} (P : A → Type 0) → Parses P (λ ts. None)
none_parses P ts all = tt

parse_mapped : {A B : Type 0} (P : A → Type 0) (Q : B → Type 0) (f : A → B) (r : Option (A × List t.Token)) → ((x : A) → P x → Q (f x)) → Parsed P r → Parsed Q (json.parse_map f r)
parse_mapped P Q f r each h = mapped (λ p. P p.0 × AreTextTokens p.1) (λ p. Q p.0 × AreTextTokens p.1) (λ p. (f p.0, p.1)) r (λ p is. (each p.0 is.0, is.1)) h

after_array : (ts : List t.Token) → AreTextTokens ts → Holds AreTextTokens (json.after_end_array ts)
after_array [] all = tt
after_array (t.begin_object ∷ ts) all = tt
after_array (t.end_object ∷ ts) all = tt
after_array (t.begin_array ∷ ts) all = tt
after_array (t.end_array ∷ ts) all = all.1
after_array (t.key s ∷ ts) all = tt
after_array (t.string s ∷ ts) all = tt
after_array (t.number s ∷ ts) all = tt
after_array (t.boolean b ∷ ts) all = tt
after_array (t.null ∷ ts) all = tt
after_array (t.bad ∷ ts) all = tt

after_key : (ts : List t.Token) → AreTextTokens ts → Parsed (λ key. Unit {0}) (json.read_key ts)
after_key [] all = tt
after_key (t.begin_object ∷ ts) all = tt
after_key (t.end_object ∷ ts) all = (tt, all.1)
after_key (t.begin_array ∷ ts) all = tt
after_key (t.end_array ∷ ts) all = tt
after_key (t.key s ∷ ts) all = (tt, all.1)
after_key (t.string s ∷ ts) all = tt
after_key (t.number s ∷ ts) all = tt
after_key (t.boolean b ∷ ts) all = tt
after_key (t.null ∷ ts) all = tt
after_key (t.bad ∷ ts) all = tt

-- a value, and then more
value_then : {A B : Type 0} (P : A → Type 0) (Q R : B → Type 0) (parser : List t.Token → Option (A × List t.Token)) (more : List t.Token → Option (B × List t.Token)) (f : A → B → B)
    → ((x : A) (y : B) → P x → Q y → R (f x y)) → Parses P parser → Parses Q more → (ts : List t.Token) → AreTextTokens ts → Parsed R (option_and_then (λ p. json.parse_map (f p.0) (more p.1)) (parser ts))
value_then P Q R parser more f joined parses goes ts all =
    chained (λ p. R p.0 × AreTextTokens p.1) (parser ts) (λ p. json.parse_map (f p.0) (more p.1)) (λ p is.
    let first = held (λ q. P q.0 × AreTextTokens q.1) (parser ts) p is (parses ts all) in
    parse_mapped Q R (f p.0) (more p.1) (λ y h. joined p.0 y first.0 h) (goes p.1 first.1))

items_step : (parser : json.Parse json.Json) (more : json.Parse json.Items) (ts : List t.Token) (o : Option (List t.Token)) → Parses IsTextJson parser → Parses AreTextItems more → AreTextTokens ts → Holds AreTextTokens o
    → Parsed AreTextItems (json.items_step parser more ts o)
items_step parser more ts (Some rest) parses goes all h = (tt, h)
items_step parser more ts None parses goes all h = value_then IsTextJson AreTextItems AreTextItems parser more json.item (λ j js is are. (is, are)) parses goes ts all

items_parse : (parser : json.Parse json.Json) (n : ℕ) → Parses IsTextJson parser → Parses AreTextItems (json.items parser n)
unfolding json.items
items_parse parser zero parses ts all = tt
items_parse parser (suc n) parses ts all = items_step parser (json.items parser n) ts (json.after_end_array ts) parses (items_parse parser n parses) all (after_array ts all)

members_step : (parser : json.Parse json.Json) (more : json.Parse json.Members) (key : Option (List ℕ)) (ts : List t.Token) → Parses IsTextJson parser → Parses AreTextMembers more → AreTextTokens ts → Parsed AreTextMembers (json.members_step parser more key ts)
members_step parser more None ts parses goes all = (tt, all)
members_step parser more (Some k) ts parses goes all = value_then IsTextJson AreTextMembers AreTextMembers parser more (json.member k) (λ j ms is are. (is, are)) parses goes ts all

members_parse : (parser : json.Parse json.Json) (n : ℕ) → Parses IsTextJson parser → Parses AreTextMembers (json.members parser n)
unfolding json.members
members_parse parser zero parses ts all = tt
members_parse parser (suc n) parses ts all =
    chained (λ p. AreTextMembers p.0 × AreTextTokens p.1) (json.read_key ts) (λ p. json.members_step parser (json.members parser n) p.0 p.1) (λ p is.
    let first = held (λ q. Unit {0} × AreTextTokens q.1) (json.read_key ts) p is (after_key ts all) in
    members_step parser (json.members parser n) p.0 p.1 parses (members_parse parser n parses) first.1)

value_step : (a : json.Parse json.Items) (o : json.Parse json.Members) → Parses AreTextItems a → Parses AreTextMembers o → Parses IsTextJson (json.value_with a o)
value_step a o items members [] all = tt
value_step a o items members (t.begin_object ∷ ts) all = parse_mapped AreTextMembers IsTextJson json.object (o ts) (λ ms is. is) (members ts all.1)
value_step a o items members (t.end_object ∷ ts) all = tt
value_step a o items members (t.begin_array ∷ ts) all = parse_mapped AreTextItems IsTextJson json.array (a ts) (λ js is. is) (items ts all.1)
value_step a o items members (t.end_array ∷ ts) all = tt
value_step a o items members (t.key s ∷ ts) all = tt
value_step a o items members (t.string s ∷ ts) all = (all.0, all.1)
value_step a o items members (t.number s ∷ ts) all = (tt, all.1)
value_step a o items members (t.boolean b ∷ ts) all = (tt, all.1)
value_step a o items members (t.null ∷ ts) all = (tt, all.1)
value_step a o items members (t.bad ∷ ts) all = tt

value_parses : (levels : ℕ) → Parses IsTextJson (json.value levels)
unfolding json.value
value_parses zero ts all = value_step (λ us. None) (λ us. None) (none_parses AreTextItems) (none_parses AreTextMembers) ts all
value_parses (suc levels) ts all =
    value_step (λ us. json.items (json.value levels) (length us) us) (λ us. json.members (json.value levels) (length us) us)
    (λ us are. items_parse (json.value levels) (length us) (value_parses levels) us are) (λ us are. members_parse (json.value levels) (length us) (value_parses levels) us are) ts all

last_is : (j : json.Json) (ts : List t.Token) → IsTextJson j → Holds IsTextJson (json.if_last j ts)
last_is j [] is = is
last_is j (k ∷ ts) is = tt

-- ---- values

abbrev mutual
  IsTextData : Data → Type 0
  IsTextData null = Unit {0}
  IsTextData (boolean b) = Unit {0}
  IsTextData (number n) = Unit {0}
  IsTextData (string s) = IsUtf8 s
  IsTextData (array ds) = AreTextValues ds
  IsTextData (object ms) = HasTextValues ms

  AreTextValues : Items → Type 0
  AreTextValues no_items = Unit {0}
  AreTextValues (item d ds) = IsTextData d × AreTextValues ds

  HasTextValues : Members → Type 0
  HasTextValues no_members = Unit {0}
  HasTextValues (member k d ms) = IsTextData d × HasTextValues ms

ordered : {A : Type 0} (P : A → Type 0) (o : Ordering) (a b c : A) → P a → P b → P c → P (match_ordering o a b c)
ordered P Less a b c x y z = x
ordered P Equal a b c x y z = y
ordered P Greater a b c x y z = z

put_is : (k : List ℕ) (d : Data) (ms : Members) → IsTextData d → HasTextValues ms → HasTextValues (put k d ms)
put_is k d no_members is has = (is, tt)
put_is k d (member l e ms) is has =
    ordered HasTextValues (slice_cmp nat_cmp k l) (member k d (member l e ms)) (member l d ms) (member l e (put k d ms)) (is, has) (is, has.1) (has.0, put_is k d ms is has.1)

number_is : (o : Option Num) → Holds IsTextData (option_map number o)
number_is None = tt
number_is (Some n) = tt

mutual
  json_data : (j : json.Json) → IsTextJson j → Holds IsTextData (of_json j)
  json_data json.null is = tt
  json_data (json.boolean b) is = tt
  json_data (json.number s) is = number_is (number_of s)
  json_data (json.string s) is = is
  json_data (json.array js) is = mapped AreTextValues IsTextData array (of_items js) (λ ds h. h) (items_data js is)
  json_data (json.object ms) is = mapped HasTextValues IsTextData object (of_members ms no_members) (λ found h. h) (members_data ms no_members is tt)

  items_data : (js : json.Items) → AreTextItems js → Holds AreTextValues (of_items js)
  items_data json.no_items is = tt
  items_data (json.item j js) is = chained AreTextValues (of_json j) (λ d. option_map (item d) (of_items js)) (λ d e.
      let first = held IsTextData (of_json j) d e (json_data j is.0) in
      mapped AreTextValues AreTextValues (item d) (of_items js) (λ ds h. (first, h)) (items_data js is.1))

  members_data : (ms : json.Members) (found : Members) → AreTextMembers ms → HasTextValues found → Holds HasTextValues (of_members ms found)
  members_data json.no_members found is has = has
  members_data (json.member k j ms) found is has = chained HasTextValues (of_json j) (λ d. of_members ms (put k d found)) (λ d e.
      let first = held IsTextData (of_json j) d e (json_data j is.0) in
      members_data ms (put k d found) is.1 (put_is k d found first has))

read_data : (bytes : List ℕ) → IsUtf8 bytes → Holds IsTextData (read bytes)
read_data bytes u =
    let parsed = value_parses max_depth (tokens bytes) (tokens_are bytes u) in
    chained IsTextData (option_and_then (λ p. json.if_last p.0 p.1) (json.value max_depth (tokens bytes))) of_json (λ j e.
    json_data j (held IsTextJson (option_and_then (λ p. json.if_last p.0 p.1) (json.value max_depth (tokens bytes))) j e
    (chained IsTextJson (json.value max_depth (tokens bytes)) (λ p. json.if_last p.0 p.1) (λ p is. last_is p.0 p.1 (held (λ q. IsTextJson q.0 × AreTextTokens q.1) (json.value max_depth (tokens bytes)) p is parsed).0))))

-- ---- names

member_is : (k : List ℕ) (ms : Members) → HasTextValues ms → Holds IsTextData (get_member k ms)
member_is k no_members has = tt
member_is k (member l e ms) has = ordered (Holds IsTextData) (slice_cmp nat_cmp k l) (get_member k ms) (Some e) (get_member k ms) (member_is k ms has.1) has.0 (member_is k ms has.1)

get_is : (k : List ℕ) (d : Data) → IsTextData d → Holds IsTextData (get k d)
get_is k null is = tt
get_is k (boolean b) is = tt
get_is k (number n) is = tt
get_is k (string s) is = tt
get_is k (array ds) is = tt
get_is k (object ms) is = member_is k ms is

present_is : (found : Option Data) → Holds IsTextData found → Holds IsTextData (present found)
present_is None h = tt
present_is (Some d) h = by (is_some (as_null d))
  where
    by : (b : Bool) → Holds IsTextData (if b then None else Some d)
    by true = tt
    by false = h

field_is : (k : List ℕ) (d : Data) → IsTextData d → Holds IsTextData (field k d)
field_is k d is = present_is (get k d) (get_is k d is)

str_is : (d : Data) → IsTextData d → Holds IsUtf8 (as_str d)
str_is null is = tt
str_is (boolean b) is = tt
str_is (number n) is = tt
str_is (string s) is = is
str_is (array ds) is = tt
str_is (object ms) is = tt

text_is : (k : List ℕ) (d : Data) → IsTextData d → Holds IsUtf8 (text_at k d)
text_is k d is = chained IsUtf8 (field k d) as_str (λ v e. str_is v (held IsTextData (field k d) v e (field_is k d is)))

values_are : (ds : Items) → AreTextValues ds → AllByRecursion IsTextData (values_of ds)
values_are no_items are = tt
values_are (item d ds) are = (are.0, values_are ds are.1)

array_is : (d : Data) → IsTextData d → AllByRecursion IsTextData (option_map_or values_of (as_array d) [])
array_is null is = tt
array_is (boolean b) is = tt
array_is (number n) is = tt
array_is (string s) is = tt
array_is (array ds) is = values_are ds is
array_is (object ms) is = tt

members_are : (found : Option Data) → Holds IsTextData found → AllByRecursion IsTextData (members_in found)
members_are None h = tt
members_are (Some d) h = array_is d h

all_both : {A : Type 0} (P : A → Type 0) (a b : List A) → AllByRecursion P a → AllByRecursion P b → AllByRecursion P (a ++ b)
all_both P [] b one two = two
all_both P (x ∷ a) b one two = (one.0, all_both P a b one.1 two)

cons_is : (o : Option (List ℕ)) (rest : List (List ℕ)) → Holds IsUtf8 o → AllByRecursion IsUtf8 rest → AllByRecursion IsUtf8 (cons_option o rest)
cons_is None rest h all = all
cons_is (Some s) rest h all = (h, all)

texts_are : (k : List ℕ) (ds : List Data) → AllByRecursion IsTextData ds → AllByRecursion IsUtf8 (filter_map (text_at k) ds)
texts_are k [] all = tt
texts_are k (d ∷ ds) all = cons_is (text_at k d) (filter_map (text_at k) ds) (text_is k d all.0) (texts_are k ds all.1)

flat_are : (f : Data → List (List ℕ)) → ((d : Data) → IsTextData d → AllByRecursion IsUtf8 (f d)) → (ds : List Data) → AllByRecursion IsTextData ds → AllByRecursion IsUtf8 (flat_map f ds)
flat_are f each [] all = tt
flat_are f each (d ∷ ds) all = all_both IsUtf8 (f d) (flat_map f ds) (each d all.0) (flat_are f each ds all.1)

operation_names : (d : Data) → IsTextData d → AllByRecursion IsUtf8 (names_of_operation d)
operation_names d is = texts_are (codes "resource") (members_at (codes "resources") d) (members_are (field (codes "resources") d) (field_is (codes "resources") d is))

train_names : (d : Data) → IsTextData d → AllByRecursion IsUtf8 (names_of_train d)
train_names d is = flat_are names_of_operation operation_names (members_in (Some d)) (members_are (Some d) is)

names_are : (d : Data) → IsTextData d → AllByRecursion IsUtf8 (names_in d)
names_are d is =
    once_all IsUtf8 bytes_eq (flat_map names_of_train (members_at (codes "trains") d))
    (flat_are names_of_train train_names (members_at (codes "trains") d) (members_are (field (codes "trains") d) (field_is (codes "trains") d is)))

pub read_texts : (bytes : List ℕ) (problem : Problem) → IsReadAs bytes problem → All IsUtf8 problem.names
read_texts bytes problem r =
    let is = held IsTextData (read bytes) r.value r.json.value (read_data bytes r.json.utf8) in
    subst (λ names. All IsUtf8 names) r.problem_is.names (All-from_recursion IsUtf8 (names_in r.value) (names_are r.value is))
