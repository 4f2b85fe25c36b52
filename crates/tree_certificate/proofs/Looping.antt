-- Reading one thing after the other, as a loop does.
use Rattle.std.proofs.Common.{◌≡◌, ℕ, suc, ◌-◌, ◌+◌, ◌≤◌, ◌<◌, List, [], ◌∷◌, ◌++◌, Result, Ok, Err, refl, sym, ap, ◌∙◌, append_assoc, arith, length, eqb-true}
use Rattle.std.specs.Prelude.{⊤, Bool, true, false, ◌==◌}
use Rattle.std.proofs.lemmas.List.{append-nil}
use Rattle.disp_model.specs.declared.train.Op.{Op}
use Rattle.tree_certificate.specs.declared.fault.Fault.{Fault}
use Rattle.tree_certificate.specs.declared.fault.ReadError.{ReadError}
use Rattle.tree_certificate.specs.declared.fault.ReadError.TheVariants as errors
use Rattle.tree_certificate.specs.Reading.{◌>>=◌, FailsRead}
use Rattle.tree_certificate.specs.FieldsRead.{op_at, ops_at, line_ended}
use Rattle.tree_certificate.specs.LinesRead.{items_at}

-- ---- so many of one kind

-- what was read before, and what is still read
abbrev pub with_front : {A : Type 0} → List A → Result (List A × List ℕ) Fault → Result (List A × List ℕ) Fault
with_front front read = read >>= λ x. Ok (front ++ x.0, x.1)

pub regroup : {A : Type 0} (front : List A) (n : A) (read : Result (List A × List ℕ) Fault) → with_front front (read >>= λ x. Ok (n ∷ x.0, x.1)) ≡ with_front (front ++ n ∷ []) read
regroup {A} front n (Ok x) = ap (λ (ns : List A). Ok (ns, x.1)) (simp append_assoc)
regroup {A} front n (Err f) = refl

pub goes_on : {A : Type 0} (item : List ℕ → Result (A × List ℕ) Fault) (front : List A) (count i : ℕ) (bytes : List ℕ) (n : A) (after : List ℕ) (total : Result (List A × List ℕ) Fault) → i < count
    → item bytes ≡ Ok (n, after) → with_front front (items_at item (count - i) bytes) ≡ total → with_front (front ++ n ∷ []) (items_at item (count - (i + 1)) after) ≡ total
unfolding items_at
goes_on {A} item front count i bytes n after total lt h so_far =
    let k : count - i ≡ suc (count - (i + 1)) = omega arith in
    let one : with_front front (items_at item (count - i) bytes) ≡ with_front (front ++ n ∷ []) (items_at item (count - (i + 1)) after) = rw (k, h) (regroup front n (items_at item (count - (i + 1)) after)) in
    sym one ∙ so_far

pub ends : {A : Type 0} (item : List ℕ → Result (A × List ℕ) Fault) (e : ReadError) (front : List A) (count i : ℕ) (bytes : List ℕ) (total : Result (List A × List ℕ) Fault) → i < count
    → FailsRead e (item bytes) → with_front front (items_at item (count - i) bytes) ≡ total → FailsRead e total
unfolding items_at
ends item errors.Memory front count i bytes total lt h so_far = tt
ends item (errors.Fault f) front count i bytes total lt h so_far =
    let k : count - i ≡ suc (count - (i + 1)) = omega arith in
    let one : with_front front (items_at item (count - i) bytes) ≡ Err f = rw (k, h) refl in
    sym so_far ∙ one

pub is_done : {A : Type 0} (item : List ℕ → Result (A × List ℕ) Fault) (front : List A) (count i : ℕ) (bytes : List ℕ) (total : Result (List A × List ℕ) Fault) → count ≤ i
    → with_front front (items_at item (count - i) bytes) ≡ total → total ≡ Ok (front, bytes)
unfolding items_at
is_done {A} item front count i bytes total le so_far =
    let k : count - i ≡ 0 = omega arith in
    let one : with_front front (items_at item (count - i) bytes) ≡ Ok (front, bytes) = rw k (ap (λ (ns : List A). Ok (ns, bytes)) (append-nil front)) in
    sym so_far ∙ one

-- ---- whether bytes are none

pub empty_is : (bytes : List ℕ) (b : Bool) → b ≡ (length bytes == 0) → b ≡ true → bytes ≡ []
empty_is [] b is yes_it_is = refl
empty_is (c ∷ bytes) b is yes_it_is = absurd (omega (arith, eqb-true (length (c ∷ bytes)) 0 (sym is ∙ yes_it_is)))

pub not_empty : (bytes : List ℕ) (b : Bool) → b ≡ (length bytes == 0) → b ≡ false → bytes ≡ [] → ⊥
not_empty [] b is no_it_is e = absurd cc
not_empty (c ∷ bytes) b is no_it_is e = cc

-- ---- operations up to the end of the line

abbrev pub ops_front : List Op → Result (List Op) Fault → Result (List Op) Fault
ops_front front read = read >>= λ ops. Ok (front ++ ops)

regroup_ops : (front : List Op) (o : Op) (read : Result (List Op) Fault) → ops_front front (read >>= λ ops. Ok (o ∷ ops)) ≡ ops_front (front ++ o ∷ []) read
regroup_ops front o (Ok ops) = ap Ok (simp append_assoc)
regroup_ops front o (Err f) = refl

-- at the end of the line all is read
pub ops_done : (left most : ℕ) (front : List Op) (bytes : List ℕ) (total : Result (List Op) Fault) → bytes ≡ [] → ops_front front (ops_at left most bytes) ≡ total → total ≡ Ok front
unfolding ops_at
ops_done left most front [] total e so_far = sym so_far ∙ ap Ok (append-nil front)
ops_done left most front (b ∷ bytes) total e so_far = absurd cc

pub step_ops : (left k : ℕ) (bytes : List ℕ) → (bytes ≡ [] → ⊥) → ops_at left (suc k) bytes ≡ (op_at left bytes >>= λ o. ops_at left k o.1 >>= λ ops. Ok (o.0 ∷ ops))
unfolding ops_at
step_ops left k [] some = absurd (some refl)
step_ops left k (b ∷ bytes) some = refl

pub ops_go_on : (left count i : ℕ) (front : List Op) (bytes : List ℕ) (o : Op) (after : List ℕ) (total : Result (List Op) Fault) → i < count → (bytes ≡ [] → ⊥) → op_at left bytes ≡ Ok (o, after)
    → ops_front front (ops_at left (count - i) bytes) ≡ total → ops_front (front ++ o ∷ []) (ops_at left (count - (i + 1)) after) ≡ total
ops_go_on left count i front bytes o after total lt some h so_far =
    let k : count - i ≡ suc (count - (i + 1)) = omega arith in
    let one : ops_front front (ops_at left (count - i) bytes) ≡ ops_front (front ++ o ∷ []) (ops_at left (count - (i + 1)) after) =
    rw (k, step_ops left (count - (i + 1)) bytes some, h) (regroup_ops front o (ops_at left (count - (i + 1)) after)) in
    sym one ∙ so_far

pub ops_end : (e : ReadError) (left count i : ℕ) (front : List Op) (bytes : List ℕ) (total : Result (List Op) Fault) → i < count → (bytes ≡ [] → ⊥) → FailsRead e (op_at left bytes)
    → ops_front front (ops_at left (count - i) bytes) ≡ total → FailsRead e total
ops_end errors.Memory left count i front bytes total lt some h so_far = tt
ops_end (errors.Fault f) left count i front bytes total lt some h so_far =
    let k : count - i ≡ suc (count - (i + 1)) = omega arith in
    let one : ops_front front (ops_at left (count - i) bytes) ≡ Err f = rw (k, step_ops left (count - (i + 1)) bytes some, h) refl in
    sym so_far ∙ one

-- behind as many as there may be the line ends
last_ops : (left : ℕ) (front : List Op) (bytes : List ℕ) → ops_front front (ops_at left 0 bytes) ≡ (line_ended left bytes >>= λ done. Ok front)
unfolding ops_at line_ended
last_ops left front [] = ap Ok (append-nil front)
last_ops left front (b ∷ bytes) = refl

pub ops_last : (left count i : ℕ) (front : List Op) (bytes : List ℕ) (total : Result (List Op) Fault) (done : ⊤) → count ≤ i → line_ended left bytes ≡ Ok done → ops_front front (ops_at left (count - i) bytes) ≡ total → total ≡ Ok front
ops_last left count i front bytes total done le h so_far =
    let k : count - i ≡ 0 = omega arith in
    let one : ops_front front (ops_at left (count - i) bytes) ≡ Ok front = rw (k, last_ops left front bytes, h) refl in
    sym so_far ∙ one

pub ops_surplus : (e : ReadError) (left count i : ℕ) (front : List Op) (bytes : List ℕ) (total : Result (List Op) Fault) → count ≤ i → FailsRead e (line_ended left bytes) → ops_front front (ops_at left (count - i) bytes) ≡ total → FailsRead e total
ops_surplus errors.Memory left count i front bytes total le h so_far = tt
ops_surplus (errors.Fault f) left count i front bytes total le h so_far =
    let k : count - i ≡ 0 = omega arith in
    let one : ops_front front (ops_at left (count - i) bytes) ≡ Err f = rw (k, last_ops left front bytes, h) refl in
    sym so_far ∙ one
