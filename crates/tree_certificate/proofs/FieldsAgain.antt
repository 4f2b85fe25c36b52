-- The fields that were written are read again.
use Rattle.std.proofs.Common.{◌≡◌, ℕ, zero, suc, ◌<◌, ◌≤◌, ◌^◌, Bool, true, false, List, [], ◌∷◌, ◌++◌, length, get_or, All, Ok, refl, sym, ap, subst, ◌∙◌, append_assoc, arith, length-append, eq-eqb}
use Rattle.std.specs.Prelude.{codes, not, ◌==◌, ◌&&◌}
use Rattle.std.specs.List.{list_all}
use Rattle.std.specs.Fmt.{decimal}
use Rattle.std.specs.Char.{digit_value}
use Rattle.std.specs.Str.Parse.{AllDigits, digits_value}
use Rattle.std.proofs.lemmas.Str.Parse.{IsNumeralModel, numerals_by_value, tells_digits, not_in_digits}
use Rattle.std.proofs.lemmas.Fmt.{digits_decimal, digits_value-decimal, decimal_nonempty, decimal_digit, first_decimal}
use Rattle.std.proofs.lemmas.List.{append-nil}
use Rattle.std.proofs.lemmas.List.Elements.{All-nil, All-cons, All-head, All-tail, All-append}
use Rattle.std.proofs.lemmas.Grind.{get_or_default_zero}
use Rattle.plain_values.specs.Decimal.{AreDigits, IsDecimal}
use Rattle.disp_model.specs.declared.train.Op.{Op}
use Rattle.disp_model.specs.declared.limits.TheConstants.{GREATEST_NUMBER}
use Rattle.disp_model.specs.Trees.{FitsOp}
use Rattle.tree_certificate.specs.TreeTexts.{op_text, ops_text}
use Rattle.tree_certificate.specs.FieldsRead.{HasNone, before, from, whole_field, field_number, op_at, ops_at}
use Rattle.tree_certificate.proofs.Cutting.{none_is, around}
use Rattle.tree_certificate.proofs.Numbers.{reads_number}
use Rattle.tree_certificate.proofs.Looping.{step_ops}

pub own : IsNumeralModel (AllDigits 10) (digits_value 10)
own = numerals_by_value (AllDigits 10) tells_digits

are_digits : (bytes : List ℕ) → AllDigits 10 bytes → AreDigits bytes
are_digits [] digits = All-nil (λ (byte : ℕ). digit_value byte < 10)
are_digits (c ∷ cs) digits = All-cons (λ (byte : ℕ). digit_value byte < 10) c cs digits.0 (are_digits cs digits.1)

alone : (n : ℕ) → n < 2 ^ 64 → get_or (decimal n) 0 0 ≡ 48 → length (decimal n) ≡ 1
alone zero small first = ap length (decimal_digit 0 (omega arith))
alone (suc n) small first =
    let above : 48 < get_or (decimal (suc n)) 0 0 = first_decimal (suc n) (omega arith) small in
    absurd (omega (arith, above, first))

text_is_decimal : (n : ℕ) → n < 2 ^ 64 → IsDecimal (decimal n)
text_is_decimal n small = record {
  some = decimal_nonempty n small;
  digits = are_digits (decimal n) (digits_decimal own n small);
  zero_alone = alone n small;
}

pub number_again : (left most n : ℕ) → n ≤ most → most < 2 ^ 64 → whole_field left most (decimal n) ≡ Ok n
number_again left most n within small =
    let fits : n < 2 ^ 64 = omega (arith, within, small) in
    reads_number left most (decimal n) n (record { decimal = text_is_decimal n fits; value = sym (digits_value-decimal own n fits); within = within })

-- a number's text has no such byte
pub none_in_number : (byte n : ℕ) → n < 2 ^ 64 → byte < 48 → HasNone byte (decimal n)
none_in_number byte n small below i d within is =
    not_in_digits own (decimal n) byte (digits_decimal own n small) (λ h. omega (arith, h)) i within (sym (get_or_default_zero (decimal n) i d within) ∙ is)

-- a text has no such byte, by a test
pub none_by : (byte : ℕ) (bytes : List ℕ) → list_all (λ b. not (b == byte)) bytes ≡ true → HasNone byte bytes
none_by byte [] all = All-nil (λ (b : ℕ). b ≡ byte → ⊥)
none_by byte (b ∷ bytes) all = All-cons (λ (c : ℕ). c ≡ byte → ⊥) b bytes (differs (b == byte) refl all) (none_by byte bytes (behind_and (not (b == byte)) _ all))
  where
    behind_and : (p q : Bool) → (p && q) ≡ true → q ≡ true
    behind_and true q e = e
    behind_and false q e = absurd cc

    differs : (p : Bool) → (b == byte) ≡ p → (not (b == byte) && list_all (λ c. not (c == byte)) bytes) ≡ true → b ≡ byte → ⊥
    differs true is e same = absurd (let f : (not true && list_all (λ c. not (c == byte)) bytes) ≡ true = rw is at e in cc)
    differs false is e same = let t : (b == byte) ≡ true = eq-eqb b byte same in cc

-- the end of the line, or a space
abbrev pub IsSep : List ℕ → Type 0
IsSep [] = Unit {0}
IsSep (b ∷ bytes) = b ≡ 32

sep_cut : (d r : List ℕ) → HasNone 32 d → IsSep r → (before 32 (d ++ r) ≡ d) × (from 32 (d ++ r) ≡ r)
sep_cut d [] none sep =
    let e = none_is 32 d none in
    (rw (append-nil d) e.0, rw (append-nil d) e.1)
sep_cut d (b ∷ r) none sep = subst (λ (c : ℕ). (before 32 (d ++ c ∷ r) ≡ d) × (from 32 (d ++ c ∷ r) ≡ c ∷ r)) (sym sep) (around 32 d r none)

pub field_again : (left most n : ℕ) (r : List ℕ) → n ≤ most → most < 2 ^ 64 → IsSep r → field_number left most (32 ∷ (decimal n ++ r)) ≡ Ok (n, r)
unfolding field_number
field_again left most n r within small sep =
    let cut = sep_cut (decimal n) r (none_in_number 32 n (omega (arith, within, small)) (omega arith)) sep in
    rw (cut.0, cut.1, number_again left most n within small) refl

pub last_again : (left most n : ℕ) → n ≤ most → most < 2 ^ 64 → field_number left most (32 ∷ decimal n) ≡ Ok (n, [])
last_again left most n within small =
    subst (λ (l : List ℕ). field_number left most (32 ∷ l) ≡ Ok (n, [])) (append-nil (decimal n)) (field_again left most n [] within small tt)

pub op_again : (left : ℕ) (o : Op) (r : List ℕ) → FitsOp o → IsSep r → op_at left (op_text o ++ r) ≡ Ok (o, r)
unfolding op_at
op_again left o r fits sep =
    let regrouped : op_text o ++ r ≡ 32 ∷ (decimal o.train ++ (32 ∷ (decimal o.op ++ r))) = simp append_assoc in
    ap (op_at left) regrouped
    ∙ rw (field_again left GREATEST_NUMBER o.train (32 ∷ (decimal o.op ++ r)) fits.0 (omega arith) refl, field_again left GREATEST_NUMBER o.op r fits.1 (omega arith) sep) refl

pub sep_ops : (ops : List Op) → IsSep (ops_text ops)
sep_ops [] = tt
sep_ops (o ∷ ops) = refl

some_ops : (o : Op) (r : List ℕ) → op_text o ++ r ≡ [] → ⊥
some_ops o r e = absurd cc

pub ops_again : (left most : ℕ) (ops : List Op) → length ops ≤ most → All FitsOp ops → ops_at left most (ops_text ops) ≡ Ok ops
unfolding ops_at
ops_again left most [] le fits = refl
ops_again left zero (o ∷ ops) le fits = absurd (omega (arith, le))
ops_again left (suc most) (o ∷ ops) le fits =
    step_ops left most (op_text o ++ ops_text ops) (some_ops o (ops_text ops))
    ∙ rw (op_again left o (ops_text ops) (All-head FitsOp o ops fits) (sep_ops ops), ops_again left most ops (omega (arith, le)) (All-tail FitsOp o ops fits)) refl

pub ops_len : (ops : List Op) → length ops ≤ length (ops_text ops)
ops_len [] = omega arith
ops_len (o ∷ ops) = omega (arith, length-append (op_text o) (ops_text ops), ops_len ops)

-- operations to the end of the line
pub all_ops_again : (left : ℕ) (ops : List Op) → All FitsOp ops → ops_at left (length (ops_text ops)) (ops_text ops) ≡ Ok ops
all_ops_again left ops fits = ops_again left (length (ops_text ops)) ops (ops_len ops) fits

-- no field ends the line
abbrev NotEnd : ℕ → Type 0
NotEnd b = b ≡ 10 → ⊥

pub none_in_op : (o : Op) → FitsOp o → HasNone 10 (op_text o)
none_in_op o fits =
    All-append NotEnd (codes " " ++ decimal o.train ++ codes " ") (decimal o.op)
    (All-append NotEnd (codes " " ++ decimal o.train) (codes " ")
    (All-append NotEnd (codes " ") (decimal o.train) (none_by 10 (codes " ") refl) (none_in_number 10 o.train (omega (arith, fits.0)) (omega arith)))
    (none_by 10 (codes " ") refl))
    (none_in_number 10 o.op (omega (arith, fits.1)) (omega arith))

pub none_in_ops : (ops : List Op) → All FitsOp ops → HasNone 10 (ops_text ops)
none_in_ops [] fits = All-nil NotEnd
none_in_ops (o ∷ ops) fits = All-append NotEnd (op_text o) (ops_text ops) (none_in_op o (All-head FitsOp o ops fits)) (none_in_ops ops (All-tail FitsOp o ops fits))
