-- What one fixing more says of the operations, and the windows by what all say.
use Rattle.std.proofs.Common.{◌≡◌, ℕ, ◌+◌, ◌-◌, ◌<◌, List, [], ◌∷◌, ◌++◌, length, get_or, set, drop, replicate, Some, None, false, refl, sym, ap, subst, ◌∙◌, inl, inr, arith}
use Rattle.std.specs.Prelude.{nat_eq, slice_get, reverse, ◌&&◌}
use Rattle.std.proofs.lemmas.Bool.{cases_Bool, eqb-true, eqb-false, eq-eqb}
use Rattle.std.proofs.lemmas.Option.{get_or_from_slice_get, slice_get-get_or, same_Some}
use Rattle.std.proofs.lemmas.List.{length-set, get_or-set_same, get_or-set_other, length-replicate, get_or-replicate, length-reverse, get_or-reverse, drop_more}
use Rattle.disp_model.specs.declared.train.Op.{Op}
use Rattle.disp_model.specs.declared.problem.Problem.{Problem}
use Rattle.disp_model.specs.declared.fixing.Fixing.{Fixing}
use Rattle.disp_model.specs.declared.fixing.Fixing.TheVariants.{Started, Chosen, NotBefore}
use Rattle.disp_model.specs.WellFormed.{operation_count}
use Rattle.disp_model.specs.Numbers.{number_of}
use Rattle.event_windows.specs.declared.times.FixedTimes.{FixedTimes}
use Rattle.event_windows.specs.declared.starts.Window.{Window}
use Rattle.event_windows.specs.Operations.{HasOperation, IsAtNumber, AreOperationsOf}
use Rattle.event_windows.specs.Windows.{train_fixed, operation_fixed, times_with, fixed_times, AreTimesOf, window_by, AreWindowsOf}
use Rattle.event_windows.proofs.Numbering.{at_pushed, below, apart}

-- the operation that a fixing is of
abbrev pub op_fixed : Fixing → Op
op_fixed fixing = record { train = train_fixed fixing; op = operation_fixed fixing }

pub op_is : (t p : ℕ) (fixing : Fixing) → t ≡ train_fixed fixing → p ≡ operation_fixed fixing → record { train = t; op = p } ≡ op_fixed fixing
op_is t p fixing train operation = ap (λ (k : ℕ). record { train = k; op = p }) train ∙ ap (λ (k : ℕ). record { train = train_fixed fixing; op = k }) operation

-- ---- one fixing and one operation

said_of_own : (fixing : Fixing) (rest : List Fixing) → fixed_times (fixing ∷ rest) (op_fixed fixing) ≡ times_with fixing (fixed_times rest (op_fixed fixing))
said_of_own (Started t p time) rest = rw (eq-eqb t t refl, eq-eqb p p refl) refl
said_of_own (Chosen t p next) rest = refl
said_of_own (NotBefore t p time) rest = rw (eq-eqb t t refl, eq-eqb p p refl) refl

other_test : (t p : ℕ) (o : Op) → (record { train = t; op = p } ≡ o → ⊥) → (nat_eq t o.train && nat_eq p o.op) ≡ false
other_test t p o other = elim (cases_Bool (nat_eq t o.train)) [
  | inl is ↦ elim (cases_Bool (nat_eq p o.op)) [
    | inl too ↦ absurd (other (ap (λ (k : ℕ). record { train = k; op = p }) (eqb-true t o.train is) ∙ ap (λ (k : ℕ). record { train = o.train; op = k }) (eqb-true p o.op too)))
    | inr differs ↦ rw (is, differs) refl
  ]
  | inr differs ↦ rw differs refl
]

said_of_other : (fixing : Fixing) (rest : List Fixing) (o : Op) → (op_fixed fixing ≡ o → ⊥) → fixed_times (fixing ∷ rest) o ≡ fixed_times rest o
said_of_other (Started t p time) rest o other = rw (other_test t p o other) refl
said_of_other (Chosen t p next) rest o other = refl
said_of_other (NotBefore t p time) rest o other = rw (other_test t p o other) refl

-- ---- one fixing and all operations

pub times_free : (problem : Problem) (count : ℕ) (times : List FixedTimes) → count ≡ operation_count problem.trains → times ≡ replicate count (record { start = None; not_before = 0 }) → AreTimesOf problem [] times
times_free problem count times is free = rw free (record {
  long = length-replicate count none ∙ is;
  said = λ o has.
      let lt : number_of problem o < count = omega (arith, below problem o has, is) in
      slice_get-get_or (replicate count none) (number_of problem o) none (omega (arith, lt, length-replicate count none)) ∙ ap Some (get_or-replicate count (number_of problem o) none none lt);
})
  where
    none : FixedTimes
    none = record { start = None; not_before = 0 }

pub times_kept : (problem : Problem) (fixing : Fixing) (rest : List Fixing) (times : List FixedTimes) → (HasOperation problem (op_fixed fixing) → ⊥) → AreTimesOf problem rest times → AreTimesOf problem (fixing ∷ rest) times
times_kept problem fixing rest times none are = record {
  long = are.long;
  said = λ o has. are.said o has ∙ ap Some (sym (said_of_other fixing rest o (λ e. none (subst (HasOperation problem) (sym e) has))));
}

pub times_set : (problem : Problem) (fixing : Fixing) (rest : List Fixing) (times : List FixedTimes) (n : ℕ) (x d : FixedTimes) → IsAtNumber problem (op_fixed fixing) n → x ≡ times_with fixing (get_or times n d)
    → AreTimesOf problem rest times → AreTimesOf problem (fixing ∷ rest) (set times n x)
times_set problem fixing rest times n x d at is are = record {
  long = length-set times n x ∙ are.long;
  said = λ o has. elim (cases_Bool (nat_eq (number_of problem o) n)) [
    | inl same ↦ subst (λ (p : Op). slice_get (set times n x) (number_of problem p) ≡ Some (fixed_times (fixing ∷ rest) p)) (apart problem own o at.there has (at.number ∙ sym (eqb-true (number_of problem o) n same)))
        (ap (λ (k : ℕ). slice_get (set times n x) k) at.number ∙ slice_get-get_or (set times n x) n d (omega (arith, within, length-set times n x)) ∙ ap Some (get_or-set_same times n x d within ∙ value))
    | inr differs ↦
        let k = number_of problem o in
        let lt : number_of problem o < length times = omega (arith, below problem o has, are.long) in
        slice_get-get_or (set times n x) k d (omega (arith, lt, length-set times n x)) ∙ ap Some (get_or-set_other times n k x d (λ e. eqb-false k n differs e)) ∙ sym (slice_get-get_or times k d lt) ∙ are.said o has
        ∙ ap Some (sym (said_of_other fixing rest o (λ e. eqb-false k n differs (ap (λ (p : Op). number_of problem p) (sym e) ∙ at.number))))
  ];
}
  where
    own : Op
    own = op_fixed fixing

    within : n < length times
    within = omega (arith, below problem own at.there, at.number, are.long)

    value : x ≡ fixed_times (fixing ∷ rest) own
    value = is ∙ ap (times_with fixing) (get_or_from_slice_get times n (fixed_times rest own) d (ap (λ (k : ℕ). slice_get times k) (sym at.number) ∙ are.said own at.there)) ∙ sym (said_of_own fixing rest)

-- the fixings from the last so many on, with one more
pub one_more : (fixings : List Fixing) (n : ℕ) (fixing : Fixing) → n < length (reverse fixings) → fixing ≡ get_or (reverse fixings) n fixing → fixing ∷ drop (length fixings - n) fixings ≡ drop (length fixings - (n + 1)) fixings
one_more fixings n fixing lt is =
    let inside : n < length fixings = omega (arith, lt, length-reverse fixings) in
    let place : length fixings - 1 - n ≡ length fixings - (n + 1) = omega arith in
    let next : length fixings - (n + 1) + 1 ≡ length fixings - n = omega arith in
    ap (λ (x : Fixing). x ∷ drop (length fixings - n) fixings) (is ∙ get_or-reverse fixings n fixing inside ∙ ap (λ (k : ℕ). get_or fixings k fixing) place)
    ∙ ap (λ (k : ℕ). get_or fixings (length fixings - (n + 1)) fixing ∷ drop k fixings) (sym next)
    ∙ sym (drop_more fixings (length fixings - (n + 1)) fixing (omega arith))

-- ---- the windows

-- what is read of an operation, at its number
pub times_read : (problem : Problem) (fixings : List Fixing) (ops : List Op) (times : List FixedTimes) (n : ℕ) (o : Op) (d : FixedTimes) → AreOperationsOf problem ops → AreTimesOf problem fixings times → slice_get ops n ≡ Some o
    → get_or times n d ≡ fixed_times fixings o
times_read problem fixings ops times n o d listed said e =
    let at = listed.numbered n o e in
    get_or_from_slice_get times n (fixed_times fixings o) d (ap (λ (k : ℕ). slice_get times k) (sym at.number) ∙ said.said o at.there)

pub windows_more : (problem : Problem) (fixings : List Fixing) (ops : List Op) (windows new : List Window) (n : ℕ) (op : Op) (window : Window) → new ≡ windows ++ window ∷ [] → length windows ≡ n → slice_get ops n ≡ Some op
    → window ≡ window_by problem fixings op → ((k : ℕ) (o : Op) → k < n → slice_get ops k ≡ Some o → slice_get windows k ≡ Some (window_by problem fixings o))
    → (k : ℕ) (o : Op) → k < n + 1 → slice_get ops k ≡ Some o → slice_get new k ≡ Some (window_by problem fixings o)
windows_more problem fixings ops windows new n op window pushed long at is before k o lt e = rw pushed (at_pushed windows window (window_by problem fixings o) k
    (λ less. before k o (omega (arith, less, long)) e)
    (λ same. is ∙ ap (window_by problem fixings) (same_Some op o (sym at ∙ ap (λ (i : ℕ). slice_get ops i) (sym (same ∙ long)) ∙ e)))
    (omega (arith, lt, long)))

pub windows_all : (problem : Problem) (fixings : List Fixing) (ops : List Op) (windows : List Window) (n : ℕ) → AreOperationsOf problem ops → length windows ≡ n → length ops ≡ n
    → ((k : ℕ) (o : Op) → k < n → slice_get ops k ≡ Some o → slice_get windows k ≡ Some (window_by problem fixings o)) → AreWindowsOf problem fixings windows
windows_all problem fixings ops windows n listed long whole said = record {
  long = omega (arith, long, whole, listed.long);
  said = λ o has. said (number_of problem o) o (omega (arith, below problem o has, whole, listed.long)) (listed.listed o has);
}
