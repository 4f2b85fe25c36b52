-- The fields that are read are those that were written.
use Rattle.std.proofs.Common.{◌≡◌, ◌⊎◌, inl, inr, ℕ, zero, suc, ◌<◌, ◌≤◌, ◌^◌, Bool, true, false, cond, List, [], ◌∷◌, ◌++◌, length, take, drop, All, Option, Some, None, Result, Ok, Err, refl, sym, ap, subst, ◌∙◌, append_assoc, arith, eqb-true, leb-true}
use Rattle.std.specs.Prelude.{◌&&◌, ◌==◌, nat_eq, nat_le, ⊤}
use Rattle.std.specs.Fmt.{decimal}
use Rattle.std.specs.Char.{digit_value}
use Rattle.std.specs.Cmp.Lexicographic.{pointwise}
use Rattle.std.specs.Str.Parse.{AllDigits}
use Rattle.std.proofs.lemmas.Fmt.{decimal-digits_value}
use Rattle.std.proofs.lemmas.List.{take-append-drop}
use Rattle.std.proofs.lemmas.List.Elements.{All-nil, All-cons, All-tail}
use Rattle.plain_values.specs.Decimal.{AreDigits, value_of}
use Rattle.disp_model.specs.declared.train.Op.{Op}
use Rattle.disp_model.specs.declared.limits.TheConstants.{GREATEST_NUMBER}
use Rattle.disp_model.specs.Trees.{FitsOp}
use Rattle.tree_certificate.specs.declared.fault.Fault.{Fault}
use Rattle.tree_certificate.specs.TreeTexts.{op_text, ops_text}
use Rattle.tree_certificate.specs.Reading.{◌>>=◌}
use Rattle.tree_certificate.specs.FieldsRead.{before, from, behind, is_decimal, whole_field, field_number, op_at, ops_at, line_ended, found, word_at, or_word}
use Rattle.tree_certificate.proofs.Numbers.{decimal_true}
use Rattle.tree_certificate.proofs.FieldsAgain.{own}

-- the value of a step that did not fail
pub bind_ok : {A B : Type 0} (r : Result A Fault) (f : A → Result B Fault) (y : B) → (r >>= f) ≡ Ok y → (x : A) × (r ≡ Ok x) × (f x ≡ Ok y)
bind_ok (Ok x) f y e = (x, refl, e)
bind_ok (Err d) f y e = absurd cc

-- a test that did not fail
pub test_ok : {A : Type 0} (b : Bool) (x : Result A Fault) (d : Fault) (y : A) → cond b x (Err d) ≡ Ok y → (b ≡ true) × (x ≡ Ok y)
test_ok true x d y e = (refl, e)
test_ok false x d y e = absurd cc

abbrev pub done : {A : Type 0} → A → Result A Fault
done x = Ok x

pub ok_is : {A : Type 0} (x y : A) → done x ≡ done y → x ≡ y
ok_is x y e = cc

-- the parts of what was read
pub parts : {A B : Type 0} (a c : A) (b d : B) → done {A = A × B} (a, b) ≡ done {A = A × B} (c, d) → (a ≡ c) × (b ≡ d)
parts {A} {B} a c b d e =
    let p : (a, b) ≡ (c, d) = ok_is {A = A × B} (a, b) (c, d) e in
    (ap (λ (x : A × B). x.0) p, ap (λ (x : A × B). x.1) p)

all_digits : (bytes : List ℕ) → AreDigits bytes → AllDigits 10 bytes
all_digits [] digits = tt
all_digits (c ∷ cs) digits = (digits 0 0 (omega arith), all_digits cs (All-tail (λ (byte : ℕ). digit_value byte < 10) c cs digits))

pub number_taken : (left most : ℕ) (field : List ℕ) (n : ℕ) → most < 2 ^ 64 → whole_field left most field ≡ Ok n → (field ≡ decimal n) × (n ≤ most)
unfolding whole_field
number_taken left most field n small e =
    let outer = test_ok (is_decimal field) _ _ n e in
    let inner = test_ok (nat_le (value_of field) most) _ _ n outer.1 in
    let within : value_of field ≤ most = leb-true (value_of field) most inner.0 in
    let same : value_of field ≡ n = ok_is (value_of field) n inner.1 in
    let is = decimal_true field outer.0 in
    let text : decimal (value_of field) ≡ field = decimal-digits_value own field (all_digits field is.digits) is.some is.zero_alone (omega (arith, within, small)) in
    (sym text ∙ ap decimal same, rw (← same) within)

-- the bytes before and from such a byte are all
pub joined_again : (byte : ℕ) (bytes : List ℕ) → bytes ≡ before byte bytes ++ from byte bytes
joined_again byte [] = refl
joined_again byte (b ∷ bytes) = by_test (b == byte) (joined_again byte bytes)
  where
    by_test : (t : Bool) → bytes ≡ before byte bytes ++ from byte bytes → b ∷ bytes ≡ cond t [] (b ∷ before byte bytes) ++ cond t (b ∷ bytes) (from byte bytes)
    by_test true more = refl
    by_test false more = ap (λ (l : List ℕ). b ∷ l) more

pub field_taken : (left most : ℕ) (bytes : List ℕ) (n : ℕ) (rest : List ℕ) → most < 2 ^ 64 → field_number left most bytes ≡ Ok (n, rest) → (bytes ≡ 32 ∷ (decimal n ++ rest)) × (n ≤ most)
unfolding field_number
field_taken left most [] n rest small e = absurd cc
field_taken left most (space ∷ bytes) n rest small e =
    let outer = test_ok (space == 32) _ _ (n, rest) e in
    let inner = bind_ok (whole_field left most (before 32 bytes)) (λ m. Ok (m, from 32 bytes)) (n, rest) outer.1 in
    let both = parts inner.0 n (from 32 bytes) rest inner.2 in
    let read = number_taken left most (before 32 bytes) inner.0 small inner.1 in
    let is : space ≡ 32 = eqb-true space 32 outer.0 in
    let text : bytes ≡ decimal n ++ rest = joined_again 32 bytes ∙ ap (λ (l : List ℕ). l ++ from 32 bytes) (read.0 ∙ ap decimal both.0) ∙ ap (λ (l : List ℕ). decimal n ++ l) both.1 in
    (ap (λ (s : ℕ). s ∷ bytes) is ∙ ap (λ (l : List ℕ). 32 ∷ l) text, rw (← both.0) read.1)

pub op_taken : (left : ℕ) (bytes : List ℕ) (o : Op) (rest : List ℕ) → op_at left bytes ≡ Ok (o, rest) → (bytes ≡ op_text o ++ rest) × FitsOp o
unfolding op_at
op_taken left bytes o rest e =
    let a = bind_ok (field_number left GREATEST_NUMBER bytes) _ (o, rest) e in
    let b = bind_ok (field_number left GREATEST_NUMBER a.0.1) _ (o, rest) a.2 in
    let both = parts _ o _ rest b.2 in
    let t = field_taken left GREATEST_NUMBER bytes a.0.0 a.0.1 (omega arith) a.1 in
    let u = field_taken left GREATEST_NUMBER a.0.1 b.0.0 b.0.1 (omega arith) b.1 in
    let text : bytes ≡ op_text (record { train = a.0.0; op = b.0.0 }) ++ b.0.1 =
    t.0 ∙ ap (λ (l : List ℕ). 32 ∷ (decimal a.0.0 ++ l)) u.0 ∙ sym (simp append_assoc) in
    (text ∙ ap (λ (x : Op). op_text x ++ b.0.1) both.0 ∙ ap (λ (l : List ℕ). op_text o ++ l) both.1, subst FitsOp both.0 (t.1, u.1))

pub end_taken : (left : ℕ) (bytes : List ℕ) (x : ⊤) → line_ended left bytes ≡ Ok x → bytes ≡ []
unfolding line_ended
end_taken left [] x e = refl
end_taken left (b ∷ bytes) x e = absurd cc

pub ops_taken : (left most : ℕ) (bytes : List ℕ) (ops : List Op) → ops_at left most bytes ≡ Ok ops → (bytes ≡ ops_text ops) × All FitsOp ops
unfolding ops_at
ops_taken left most [] ops e =
    let none : [] ≡ ops = ok_is [] ops e in
    subst (λ (l : List Op). ([] ≡ ops_text l) × All FitsOp l) none (refl, All-nil FitsOp)
ops_taken left zero (b ∷ bytes) ops e = absurd cc
ops_taken left (suc most) (b ∷ bytes) ops e =
    let a = bind_ok (op_at left (b ∷ bytes)) _ ops e in
    let more = bind_ok (ops_at left most a.0.1) _ ops a.2 in
    let t = op_taken left (b ∷ bytes) a.0.0 a.0.1 a.1 in
    let u = ops_taken left most a.0.1 more.0 more.1 in
    let same : a.0.0 ∷ more.0 ≡ ops = ok_is (a.0.0 ∷ more.0) ops more.2 in
    subst (λ (l : List Op). (b ∷ bytes ≡ ops_text l) × All FitsOp l) same
    (t.0 ∙ ap (λ (l : List ℕ). op_text a.0.0 ++ l) u.0, All-cons FitsOp a.0.0 more.0 t.1 u.1)

and_true : (p q : Bool) → (p && q) ≡ true → (p ≡ true) × (q ≡ true)
and_true true q both = (refl, both)
and_true false q both = absurd cc

pointwise_is : (a b : List ℕ) → pointwise nat_eq a b ≡ true → a ≡ b
pointwise_is [] [] same = refl
pointwise_is [] (b ∷ bs) same = absurd cc
pointwise_is (a ∷ more) [] same = absurd cc
pointwise_is (a ∷ more) (b ∷ bs) same =
    let both = and_true (nat_eq a b) (pointwise nat_eq more bs) same in
    ap (λ (x : ℕ). x ∷ more) (eqb-true a b both.0) ∙ ap (λ (l : List ℕ). b ∷ l) (pointwise_is more bs both.1)

-- what stands behind a word
behind_by : (word line fields : List ℕ) (t : Bool) → pointwise nat_eq (take (length word) line) word ≡ t → cond t (Some (drop (length word) line)) None ≡ Some fields → line ≡ word ++ fields
behind_by word line fields true is e =
    let front : take (length word) line ≡ word = pointwise_is (take (length word) line) word is in
    let rest : drop (length word) line ≡ fields = cc in
    sym (take-append-drop (length word) line) ∙ ap (λ (l : List ℕ). l ++ drop (length word) line) front ∙ ap (λ (l : List ℕ). word ++ l) rest
behind_by word line fields false is e = absurd cc

pub behind_taken : (word line fields : List ℕ) → behind word line ≡ Some fields → line ≡ word ++ fields
behind_taken word line fields e = behind_by word line fields (pointwise nat_eq (take (length word) line) word) refl e

pub word_taken : (left : ℕ) (word line fields : List ℕ) → word_at left word line ≡ Ok fields → line ≡ word ++ fields
word_taken left word line fields e = by_option (behind word line) refl e
  where
    by_option : (o : Option (List ℕ)) → behind word line ≡ o → found left o ≡ Ok fields → line ≡ word ++ fields
    by_option None is f = absurd cc
    by_option (Some rest) is f = behind_taken word line fields (is ∙ ap Some (ok_is rest fields f))

-- which of several words it was
pub or_word_taken : {W : Type 0} (o : Option (List ℕ)) (word : W) (other : Result (W × List ℕ) Fault) (x : W × List ℕ) → or_word o word other ≡ Ok x
    → ((o ≡ Some x.1) × (word ≡ x.0)) ⊎ (other ≡ Ok x)
or_word_taken {W} (Some fields) word other x e =
    let both = parts word x.0 fields x.1 e in
    inl (ap Some both.1, both.0)
or_word_taken {W} None word other x e = inr e
