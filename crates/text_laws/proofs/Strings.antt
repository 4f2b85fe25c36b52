-- The texts of strings that are read of UTF-8 are UTF-8.
use Rattle.std.proofs.Common.{◌≡◌, ℕ, zero, suc, ◌+◌, ◌*◌, ◌<◌, ◌≤◌, ◌&&◌, ◌||◌, List, [], ◌∷◌, ◌++◌, length, get_or, Bool, true, false, cond, Option, Some, None, option_map, refl, sym, subst, arith, append_assoc, inl, inr, ltb-true}
use Rattle.std.specs.Prelude.{◌==◌, ◌⊎◌, slice_index, nat_lt, nat_le, option_and_then}
use Rattle.std.specs.Char.{digit_value, is_digit, encode_utf8, IsScalar}
use Rattle.std.specs.Str.{IsUtf8}
use Rattle.std.proofs.Math.Seq.{take-append_seam, drop-append-add, get_or-append_seam}
use Rattle.std.proofs.lemmas.Bool.{cases_lt, and_parts, eqb-true, le-ltb, lt-ltb, le-leb, ltb-false}
use Rattle.std.proofs.lemmas.List.{length-append}
use Rattle.std.proofs.lemmas.Str.{IsUtf8-nil, IsUtf8-append, IsUtf8-encode, IsUtf8-from_ascii, IsUtf8-take, IsUtf8-drop, IsCharBoundary-before_ascii, IsCharBoundary-after_ascii}
use Rattle.json.specs.Text.{code_unit, short_escape, is_high_surrogate, is_low_surrogate, surrogate_pair, plain, after_backslash, after_u, after_high, prepend, content}
use Rattle.json.specs.Token as t
use Rattle.json.specs.Lex.{Lexeme, token, comma, colon, Class, quote, backslash, operator, space, other, class, operator_lexeme, string_token, Mode, between, in_word, in_string, in_escape, lex_byte, lex, Place, fresh, after_value, after_comma, after_key, begins_colon, may_begin, may_close, if_allowed, place_token, punctuate, tokens}
use Rattle.json.specs.Word.{is_operator, is_space, head, ends_word, after_number, number_before, literal, word}
use Rattle.json.specs.Ascii.{true_text, false_text, null_text}

-- ---- what holds of a value that may be absent

abbrev pub Holds : {A : Type 0} → (A → Type 0) → Option A → Type 0
Holds P None = Unit {0}
Holds P (Some x) = P x

pub either : {A : Type 0} (P : A → Type 0) (b : Bool) (x y : A) → (b ≡ true → P x) → (b ≡ false → P y) → P (cond b x y)
either P true x y yes-is no-is = yes-is refl
either P false x y yes-is no-is = no-is refl

pub chained : {A B : Type 0} (P : B → Type 0) (o : Option A) (f : A → Option B) → ((x : A) → o ≡ Some x → Holds P (f x)) → Holds P (option_and_then f o)
chained P None f each = tt
chained P (Some x) f each = each x refl

pub mapped : {A B : Type 0} (P : A → Type 0) (Q : B → Type 0) (f : A → B) (o : Option A) → ((x : A) → P x → Q (f x)) → Holds P o → Holds Q (option_map f o)
mapped P Q f None each h = tt
mapped P Q f (Some x) each h = each x h

pub held : {A : Type 0} (P : A → Type 0) (o : Option A) (x : A) → o ≡ Some x → Holds P o → P x
held P o x is h = subst (Holds P) is h

-- ---- cuts at an ASCII byte

front : (p : List ℕ) (x : ℕ) (xs : List ℕ) → IsUtf8 (p ++ x ∷ xs) → x < 128 → IsUtf8 p
front p x xs u small =
    let bs = p ++ x ∷ xs in
    let here : get_or bs (length p) 0 ≡ x = get_or-append_seam p x xs 0 in
    let long : length bs ≡ length p + length (x ∷ xs) = length-append p (x ∷ xs) in
    subst IsUtf8 (take-append_seam p (x ∷ xs)) (IsUtf8-take bs (length p) u (IsCharBoundary-before_ascii bs (length p) (omega (arith, long)) (omega (arith, here, small))))

behind : (p : List ℕ) (x : ℕ) (xs : List ℕ) → IsUtf8 (p ++ x ∷ xs) → x < 128 → IsUtf8 xs
behind p x xs u small =
    let bs = p ++ x ∷ xs in
    let here : get_or bs (length p) 0 ≡ x = get_or-append_seam p x xs 0 in
    let long : length bs ≡ length p + length (x ∷ xs) = length-append p (x ∷ xs) in
    subst IsUtf8 (drop-append-add p (x ∷ xs) 1) (IsUtf8-drop bs (length p + 1) u (IsCharBoundary-after_ascii bs (length p) u (omega (arith, long)) (omega (arith, here, small))))

tail : (x : ℕ) (xs : List ℕ) → IsUtf8 (x ∷ xs) → x < 128 → IsUtf8 xs
tail x xs u small = behind [] x xs u small

one_more : (p : List ℕ) (x : ℕ) (xs : List ℕ) → IsUtf8 (p ++ x ∷ xs) → IsUtf8 ((p ++ x ∷ []) ++ xs)
one_more p x xs u = subst IsUtf8 (sym (append_assoc p (x ∷ []) xs)) u

-- ---- escapes

digit_small : (c : ℕ) → digit_value c < 16 → c < 128
digit_small c lt = elim (cases_lt c 128) [
  | inl small ↦ small
  | inr ge ↦
      let none : digit_value c ≡ 36 = rw (le-ltb c 48 (omega (arith, ge)), le-ltb c 58 (omega (arith, ge)), le-ltb c 65 (omega (arith, ge)), le-ltb c 91 (omega (arith, ge)), le-ltb c 97 (omega (arith, ge)), le-ltb c 123 (omega (arith, ge))) refl in
      absurd (omega (arith, none, lt))
]

record IsUnit (a b c d v : ℕ) : Type 0 where
  pub a_small : a < 128
  pub b_small : b < 128
  pub c_small : c < 128
  pub d_small : d < 128
  pub small : v < 65536

hex_digit : (c : ℕ) → is_digit c 16 ≡ true → digit_value c < 16
hex_digit c e = ltb-true (digit_value c) 16 e

unit_is : (a b c d : ℕ) → Holds (IsUnit a b c d) (code_unit a b c d)
unfolding code_unit
unit_is a b c d = either (Holds (IsUnit a b c d)) (is_digit a 16 && is_digit b 16 && is_digit c 16 && is_digit d 16) _ None four (λ e. tt)
  where
    four : (is_digit a 16 && is_digit b 16 && is_digit c 16 && is_digit d 16) ≡ true → IsUnit a b c d (digit_value a * 4096 + digit_value b * 256 + digit_value c * 16 + digit_value d)
    four e =
        let three = and_parts _ _ e in
        let two = and_parts _ _ three.0 in
        let one = and_parts _ _ two.0 in
        let first = hex_digit a one.0 in
        let second = hex_digit b one.1 in
        let third = hex_digit c two.1 in
        let fourth = hex_digit d three.1 in
        record { a_small = digit_small a first; b_small = digit_small b second; c_small = digit_small c third; d_small = digit_small d fourth; small = omega (arith, first, second, third, fourth) }

either_true : (a b : Bool) → (a || b) ≡ true → (a ≡ true) ⊎ (b ≡ true)
either_true true b e = inl refl
either_true false b e = inr e

abbrev BothSmall : ℕ → ℕ → Type 0
BothSmall x c = (x < 128) × (c < 128)

short_is : (x : ℕ) → Holds (BothSmall x) (short_escape x)
unfolding short_escape
short_is x =
    either (Holds (BothSmall x)) ((x == 34) || (x == 92) || (x == 47)) (Some x) _ itself
    (λ _. either (Holds (BothSmall x)) (x == 98) (Some 8) _ (λ e. named 98 8 e (omega arith) (omega arith))
    (λ _. either (Holds (BothSmall x)) (x == 102) (Some 12) _ (λ e. named 102 12 e (omega arith) (omega arith))
    (λ _. either (Holds (BothSmall x)) (x == 110) (Some 10) _ (λ e. named 110 10 e (omega arith) (omega arith))
    (λ _. either (Holds (BothSmall x)) (x == 114) (Some 13) _ (λ e. named 114 13 e (omega arith) (omega arith))
    (λ _. either (Holds (BothSmall x)) (x == 116) (Some 9) None (λ e. named 116 9 e (omega arith) (omega arith)) (λ _. tt))))))
  where
    named : (n c : ℕ) → (x == n) ≡ true → n < 128 → c < 128 → BothSmall x c
    named n c e small fits = let same : x ≡ n = eqb-true x n e in (omega (arith, same, small), fits)

    itself : ((x == 34) || (x == 92) || (x == 47)) ≡ true → BothSmall x x
    itself e = elim (either_true ((x == 34) || (x == 92)) (x == 47) e) [
      | inl one ↦ elim (either_true (x == 34) (x == 92) one) [
        | inl first ↦ let same : x ≡ 34 = eqb-true x 34 first in (omega (arith, same), omega (arith, same))
        | inr second ↦ let same : x ≡ 92 = eqb-true x 92 second in (omega (arith, same), omega (arith, same))
      ]
      | inr third ↦ let same : x ≡ 47 = eqb-true x 47 third in (omega (arith, same), omega (arith, same))
    ]

not_both : (a b : Bool) → (a && b) ≡ false → a ≡ true → b ≡ false
not_both true b e is = e
not_both false b e is = absurd cc

no_surrogate : (v : ℕ) → v < 65536 → is_high_surrogate v ≡ false → is_low_surrogate v ≡ false → IsScalar v
no_surrogate v small high low = elim (cases_lt v 55296) [
  | inl below ↦ rw (lt-ltb v 55296 below) refl
  | inr ge ↦
      let past : 56320 ≤ v = ltb-false v 56320 (not_both (nat_le 55296 v) (nat_lt v 56320) high (le-leb 55296 v ge)) in
      let above : 57344 ≤ v = ltb-false v 57344 (not_both (nat_le 56320 v) (nat_lt v 57344) low (le-leb 56320 v past)) in
      rw (le-ltb v 55296 ge, le-leb 57344 v above, lt-ltb v 1114112 (omega (arith, small))) refl
]

pair_is : (h l : ℕ) → is_high_surrogate h ≡ true → is_low_surrogate l ≡ true → IsScalar (surrogate_pair h l)
pair_is h l high low =
    let hs = and_parts (nat_le 55296 h) (nat_lt h 56320) high in
    let ls = and_parts (nat_le 56320 l) (nat_lt l 57344) low in
    let h_below : h < 56320 = ltb-true h 56320 hs.1 in
    let l_below : l < 57344 = ltb-true l 57344 ls.1 in
    let large : 65536 ≤ surrogate_pair h l = omega arith in
    let fits : surrogate_pair h l < 1114112 = omega (arith, h_below, l_below) in
    rw (le-ltb (surrogate_pair h l) 55296 (omega (arith, large)), le-leb 57344 (surrogate_pair h l) (omega (arith, large)), lt-ltb (surrogate_pair h l) 1114112 fits) refl

-- ---- contents

ahead : (c : List ℕ) (o : Option (List ℕ)) → IsUtf8 c → Holds IsUtf8 o → Holds IsUtf8 (prepend c o)
ahead c o u h = mapped IsUtf8 IsUtf8 (λ s. c ++ s) o (λ s is. IsUtf8-append c s u is) h

ascii_one : (c : ℕ) → c < 128 → IsUtf8 (c ∷ [])
ascii_one c small = IsUtf8-from_ascii (c ∷ []) each
  where
    each : (k : ℕ) → slice_index (c ∷ []) k < 128
    each zero = small
    each (suc k) = omega arith

kept : (p : List ℕ) (o : Option (List ℕ)) → IsUtf8 p → Holds IsUtf8 o → Holds (λ s. IsUtf8 (p ++ s)) o
kept p None u h = tt
kept p (Some s) u h = IsUtf8-append p s u h

past : (a b c d v : ℕ) (xs : List ℕ) → IsUnit a b c d v → IsUtf8 (a ∷ b ∷ c ∷ d ∷ xs) → IsUtf8 xs
past a b c d v xs unit u = tail d xs (tail c (d ∷ xs) (tail b (c ∷ d ∷ xs) (tail a (b ∷ c ∷ d ∷ xs) u unit.a_small) unit.b_small) unit.c_small) unit.d_small

mutual
  unfolding content

  plain_utf8 : (p xs : List ℕ) → IsUtf8 (p ++ xs) → Holds (λ s. IsUtf8 (p ++ s)) (content plain xs)
  plain_utf8 p [] u = tt
  plain_utf8 p (x ∷ xs) u =
      either (Holds (λ s. IsUtf8 (p ++ s))) (x == 34) (Some []) _ (λ e. let same : x ≡ 34 = eqb-true x 34 e in IsUtf8-append p [] (front p x xs u (omega (arith, same))) IsUtf8-nil)
      (λ _. either (Holds (λ s. IsUtf8 (p ++ s))) (x == 92) (content after_backslash xs) _
      (λ e. let same : x ≡ 92 = eqb-true x 92 e in kept p (content after_backslash xs) (front p x xs u (omega (arith, same))) (backslash_utf8 xs (behind p x xs u (omega (arith, same)))))
      (λ _. either (Holds (λ s. IsUtf8 (p ++ s))) (nat_lt x 32) None (prepend (x ∷ []) (content plain xs)) (λ _. tt)
      (λ _. mapped (λ s. IsUtf8 ((p ++ x ∷ []) ++ s)) (λ s. IsUtf8 (p ++ s)) (λ s. (x ∷ []) ++ s) (content plain xs) (λ s is. subst IsUtf8 (append_assoc p (x ∷ []) s) is) (plain_utf8 (p ++ x ∷ []) xs (one_more p x xs u)))))

  backslash_utf8 : (xs : List ℕ) → IsUtf8 xs → Holds IsUtf8 (content after_backslash xs)
  backslash_utf8 [] u = tt
  backslash_utf8 (x ∷ xs) u =
      either (Holds IsUtf8) (x == 117) (content after_u xs) _ (λ e. let same : x ≡ 117 = eqb-true x 117 e in u_utf8 xs (tail x xs u (omega (arith, same))))
      (λ _. chained IsUtf8 (short_escape x) _ (λ c is. let small = held (BothSmall x) (short_escape x) c is (short_is x) in ahead (c ∷ []) (content plain xs) (ascii_one c small.1) (plain_utf8 [] xs (tail x xs u small.0))))

  u_utf8 : (xs : List ℕ) → IsUtf8 xs → Holds IsUtf8 (content after_u xs)
  u_utf8 [] u = tt
  u_utf8 (a ∷ []) u = tt
  u_utf8 (a ∷ b ∷ []) u = tt
  u_utf8 (a ∷ b ∷ c ∷ []) u = tt
  u_utf8 (a ∷ b ∷ c ∷ d ∷ xs) u = chained IsUtf8 (code_unit a b c d) _ (λ v is.
      let unit = held (IsUnit a b c d) (code_unit a b c d) v is (unit_is a b c d) in
      let rest = past a b c d v xs unit u in
      either (Holds IsUtf8) (is_high_surrogate v) (content (after_high v) xs) _ (λ high. high_utf8 v xs high rest)
      (λ not-high. either (Holds IsUtf8) (is_low_surrogate v) None _ (λ _. tt) (λ not-low. ahead (encode_utf8 v) (content plain xs) (IsUtf8-encode v (no_surrogate v unit.small not-high not-low)) (plain_utf8 [] xs rest))))

  high_utf8 : (h : ℕ) (xs : List ℕ) → is_high_surrogate h ≡ true → IsUtf8 xs → Holds IsUtf8 (content (after_high h) xs)
  high_utf8 h [] high u = tt
  high_utf8 h (s ∷ []) high u = tt
  high_utf8 h (s ∷ x ∷ []) high u = tt
  high_utf8 h (s ∷ x ∷ a ∷ []) high u = tt
  high_utf8 h (s ∷ x ∷ a ∷ b ∷ []) high u = tt
  high_utf8 h (s ∷ x ∷ a ∷ b ∷ c ∷ []) high u = tt
  high_utf8 h (s ∷ x ∷ a ∷ b ∷ c ∷ d ∷ xs) high u = either (Holds IsUtf8) ((s == 92) && (x == 117)) _ None (λ e.
      let two = and_parts (s == 92) (x == 117) e in
      let first : s ≡ 92 = eqb-true s 92 two.0 in
      let second : x ≡ 117 = eqb-true x 117 two.1 in
      let later = tail x (a ∷ b ∷ c ∷ d ∷ xs) (tail s (x ∷ a ∷ b ∷ c ∷ d ∷ xs) u (omega (arith, first))) (omega (arith, second)) in
      chained IsUtf8 (code_unit a b c d) _ (λ l is.
      let unit = held (IsUnit a b c d) (code_unit a b c d) l is (unit_is a b c d) in
      either (Holds IsUtf8) (is_low_surrogate l) _ None (λ low. ahead (encode_utf8 (surrogate_pair h l)) (content plain xs) (IsUtf8-encode (surrogate_pair h l) (pair_is h l high low)) (plain_utf8 [] xs (past a b c d l xs unit later))) (λ _. tt)))
      (λ _. tt)

-- ---- lexemes

-- what follows an ASCII byte is UTF-8
abbrev Tails : List ℕ → Type 0
Tails [] = Unit {0}
Tails (x ∷ xs) = (x < 128 → IsUtf8 xs) × Tails xs

tails_of : (p xs : List ℕ) → IsUtf8 (p ++ xs) → Tails xs
tails_of p [] u = tt
tails_of p (x ∷ xs) u = (λ small. behind p x xs u small, tails_of (p ++ x ∷ []) xs (one_more p x xs u))

abbrev IsTextToken : t.Token → Type 0
IsTextToken t.begin_object = Unit {0}
IsTextToken t.end_object = Unit {0}
IsTextToken t.begin_array = Unit {0}
IsTextToken t.end_array = Unit {0}
IsTextToken (t.key s) = Unit {0}
IsTextToken (t.string s) = IsUtf8 s
IsTextToken (t.number s) = Unit {0}
IsTextToken (t.boolean b) = Unit {0}
IsTextToken t.null = Unit {0}
IsTextToken t.bad = Unit {0}

abbrev pub AreTextTokens : List t.Token → Type 0
AreTextTokens [] = Unit {0}
AreTextTokens (k ∷ ks) = IsTextToken k × AreTextTokens ks

abbrev IsTextLexeme : Lexeme → Type 0
IsTextLexeme (token k) = IsTextToken k
IsTextLexeme comma = Unit {0}
IsTextLexeme colon = Unit {0}

abbrev AreTextLexemes : List Lexeme → Type 0
AreTextLexemes [] = Unit {0}
AreTextLexemes (l ∷ ls) = IsTextLexeme l × AreTextLexemes ls

string_is : (o : Option (List ℕ)) → Holds IsUtf8 o → IsTextToken (string_token o)
string_is None h = tt
string_is (Some s) h = h

literal_is : (name : List ℕ) (k : t.Token) (xs : List ℕ) → IsTextToken k → IsTextToken (literal name k xs)
literal_is name k xs is = either IsTextToken _ k t.bad (λ _. is) (λ _. tt)

number_is : (xs : List ℕ) (o : Option (List ℕ)) → IsTextToken (number_before xs o)
number_is xs None = tt
number_is xs (Some rest) = either IsTextToken (ends_word rest) _ t.bad (λ _. tt) (λ _. tt)

word_is : (xs : List ℕ) → IsTextToken (word xs)
unfolding word
word_is xs =
    either IsTextToken (head xs == 116) (literal true_text (t.boolean true) xs) _ (λ _. literal_is true_text (t.boolean true) xs tt)
    (λ _. either IsTextToken (head xs == 102) (literal false_text (t.boolean false) xs) _ (λ _. literal_is false_text (t.boolean false) xs tt)
    (λ _. either IsTextToken (head xs == 110) (literal null_text t.null xs) (number_before xs (after_number xs)) (λ _. literal_is null_text t.null xs tt) (λ _. number_is xs (after_number xs))))

operator_is : (x : ℕ) → IsTextLexeme (operator_lexeme x)
operator_is x =
    either IsTextLexeme (x == 123) (token t.begin_object) _ (λ _. tt)
    (λ _. either IsTextLexeme (x == 125) (token t.end_object) _ (λ _. tt)
    (λ _. either IsTextLexeme (x == 91) (token t.begin_array) _ (λ _. tt)
    (λ _. either IsTextLexeme (x == 93) (token t.end_array) _ (λ _. tt)
    (λ _. either IsTextLexeme (x == 44) comma colon (λ _. tt) (λ _. tt)))))

byte_is : (m : Mode) (c : Class) (x : ℕ) (xs : List ℕ) (k : Mode → List Lexeme) → (c ≡ quote → IsUtf8 xs) → ((next : Mode) → AreTextLexemes (k next)) → AreTextLexemes (lex_byte m c x xs k)
byte_is between quote x xs k u rest = (string_is (content plain xs) (plain_utf8 [] xs (u refl)), rest in_string)
byte_is between backslash x xs k u rest = (tt, rest in_word)
byte_is between operator x xs k u rest = (operator_is x, rest between)
byte_is between space x xs k u rest = rest between
byte_is between other x xs k u rest = (word_is (x ∷ xs), rest in_word)
byte_is in_word quote x xs k u rest = rest in_word
byte_is in_word backslash x xs k u rest = rest in_word
byte_is in_word operator x xs k u rest = (operator_is x, rest between)
byte_is in_word space x xs k u rest = rest between
byte_is in_word other x xs k u rest = rest in_word
byte_is in_string quote x xs k u rest = rest between
byte_is in_string backslash x xs k u rest = rest in_escape
byte_is in_string operator x xs k u rest = rest in_string
byte_is in_string space x xs k u rest = rest in_string
byte_is in_string other x xs k u rest = rest in_string
byte_is in_escape c x xs k u rest = rest in_string

quote_is : (q b o s : Bool) → cond q quote (cond b backslash (cond o operator (cond s space other))) ≡ quote → q ≡ true
quote_is true b o s e = refl
quote_is false true o s e = absurd cc
quote_is false false true s e = absurd cc
quote_is false false false true e = absurd cc
quote_is false false false false e = absurd cc

lexed : (m : Mode) (xs : List ℕ) → Tails xs → AreTextLexemes (lex m xs)
unfolding lex
lexed m [] tails = tt
lexed m (x ∷ xs) tails =
    byte_is m (class x) x xs (λ next. lex next xs) (λ e. let same : x ≡ 34 = eqb-true x 34 (quote_is (x == 34) (x == 92) (is_operator x) (is_space x) e) in tails.0 (omega (arith, same))) (λ next. lexed next xs tails.1)

-- ---- tokens

allowed : (b : Bool) (k : t.Token) (more : Place → List t.Token) (next : Place) → IsTextToken k → AreTextTokens (more next) → AreTextTokens (if_allowed b k more next)
allowed true k more next is rest = (is, rest)
allowed false k more next is rest = (tt, tt)

placed : (p : Place) (k : t.Token) (before : Bool) (more : Place → List t.Token) → IsTextToken k → ((next : Place) → AreTextTokens (more next)) → AreTextTokens (place_token p k before more)
placed p t.begin_object before more is rest = allowed (may_begin p) t.begin_object more fresh tt (rest fresh)
placed p t.end_object before more is rest = allowed (may_close p) t.end_object more after_value tt (rest after_value)
placed p t.begin_array before more is rest = allowed (may_begin p) t.begin_array more fresh tt (rest fresh)
placed p t.end_array before more is rest = allowed (may_close p) t.end_array more after_value tt (rest after_value)
placed p (t.key s) before more is rest = (tt, tt)
placed p (t.string s) true more is rest = allowed (may_begin p) (t.key s) more after_key tt (rest after_key)
placed p (t.string s) false more is rest = allowed (may_begin p) (t.string s) more after_value is (rest after_value)
placed p (t.number s) before more is rest = allowed (may_begin p) (t.number s) more after_value tt (rest after_value)
placed p (t.boolean b) before more is rest = allowed (may_begin p) (t.boolean b) more after_value tt (rest after_value)
placed p t.null before more is rest = allowed (may_begin p) t.null more after_value tt (rest after_value)
placed p t.bad before more is rest = (tt, tt)

punctuated : (p : Place) (ls : List Lexeme) → AreTextLexemes ls → AreTextTokens (punctuate p ls)
unfolding punctuate
punctuated fresh [] all = tt
punctuated after_value [] all = tt
punctuated after_comma [] all = (tt, tt)
punctuated after_key [] all = (tt, tt)
punctuated fresh (token k ∷ ls) all = placed fresh k (begins_colon ls) (λ next. punctuate next ls) all.0 (λ next. punctuated next ls all.1)
punctuated after_value (token k ∷ ls) all = placed after_value k (begins_colon ls) (λ next. punctuate next ls) all.0 (λ next. punctuated next ls all.1)
punctuated after_comma (token k ∷ ls) all = placed after_comma k (begins_colon ls) (λ next. punctuate next ls) all.0 (λ next. punctuated next ls all.1)
punctuated after_key (token k ∷ ls) all = placed after_key k (begins_colon ls) (λ next. punctuate next ls) all.0 (λ next. punctuated next ls all.1)
punctuated fresh (comma ∷ ls) all = (tt, tt)
punctuated after_value (comma ∷ ls) all = punctuated after_comma ls all.1
punctuated after_comma (comma ∷ ls) all = (tt, tt)
punctuated after_key (comma ∷ ls) all = (tt, tt)
punctuated fresh (colon ∷ ls) all = (tt, tt)
punctuated after_value (colon ∷ ls) all = (tt, tt)
punctuated after_comma (colon ∷ ls) all = (tt, tt)
punctuated after_key (colon ∷ ls) all = punctuated fresh ls all.1

pub tokens_are : (bs : List ℕ) → IsUtf8 bs → AreTextTokens (tokens bs)
tokens_are bs u = punctuated fresh (lex between bs) (lexed between bs (tails_of [] bs u))
