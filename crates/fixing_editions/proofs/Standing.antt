-- What stands, and what is taken back, after one more change.
use Rattle.std.proofs.Common.{◌≡◌, ℕ, zero, suc, ◌+◌, ◌<◌, ◌≤◌, List, [], ◌∷◌, ◌++◌, length, take, drop, get_or, set, add-one, drop-cons, append_assoc, length-append, Option, Some, None, Bool, true, false, refl, sym, ap, subst, ◌∙◌, inl, inr, arith}
use Rattle.std.specs.Prelude.{nat_eq, slice_get, map, not, ◌||◌}
use Rattle.std.specs.List.{filter}
use Rattle.std.proofs.lemmas.Bool.{cases_Bool, eqb-true, eqb-false, eq-eqb}
use Rattle.std.proofs.lemmas.Option.{none-some, same_Some, slice_get-get_or}
use Rattle.std.proofs.lemmas.List.{length-set}
use Rattle.disp_model.specs.declared.fixing.Fixing.{Fixing}
use Rattle.disp_model.specs.declared.fixing.Change.{Change}
use Rattle.disp_model.specs.declared.fixing.Change.TheVariants.{Fix, Withdraw}
use Rattle.disp_model.specs.Changes.{is_withdrawn, standing_from, numbered_standing, standing_of, withdrawn_from}
use Rattle.fixing_editions.specs.declared.train_fixings.Numbered.{Numbered}
use Rattle.fixing_editions.specs.Edition.{AreWithdrawn, left_standing}
use Rattle.fixing_editions.specs.Own.{train_of, own_of, without}

-- ---- what is taken back

-- no change takes back the fixing of this number
pub none_withdraws : (n m : ℕ) (changes : List Change)
    → ((i k : ℕ) → slice_get changes i ≡ Some (Withdraw k) → k ≡ n → ⊥) → withdrawn_from n m changes ≡ None
none_withdraws n m [] none = refl
none_withdraws n m (Fix fixing ∷ changes) none = none_withdraws n (m + 1) changes (λ i k at. none (suc i) k at)
none_withdraws n m (Withdraw k ∷ changes) none = elim (cases_Bool (nat_eq k n)) [
  | inl is ↦ absurd (none 0 k refl (eqb-true k n is))
  | inr is ↦ rw is (none_withdraws n (m + 1) changes (λ i k at. none (suc i) k at))
]

pub not_withdrawn : (n m : ℕ) (changes : List Change) → withdrawn_from n m changes ≡ None → is_withdrawn n changes ≡ false
not_withdrawn n m [] none = refl
not_withdrawn n m (Fix fixing ∷ changes) none = not_withdrawn n (m + 1) changes none
not_withdrawn n m (Withdraw k ∷ changes) none = elim (cases_Bool (nat_eq k n)) [
  | inl is ↦ absurd (none-some m (sym (rw is at none)))
  | inr is ↦ rw is (not_withdrawn n (m + 1) changes (rw is at none))
]

pub some_withdrawn : (n m by : ℕ) (changes : List Change) → withdrawn_from n m changes ≡ Some by → is_withdrawn n changes ≡ true
some_withdrawn n m by [] some = absurd (none-some by some)
some_withdrawn n m by (Fix fixing ∷ changes) some = some_withdrawn n (m + 1) by changes some
some_withdrawn n m by (Withdraw k ∷ changes) some = elim (cases_Bool (nat_eq k n)) [
  | inl is ↦ rw is refl
  | inr is ↦ rw is (some_withdrawn n (m + 1) by changes (rw is at some))
]

pub withdrawn_after_fix : (n m : ℕ) (changes : List Change) (fixing : Fixing)
    → withdrawn_from n m (changes ++ Fix fixing ∷ []) ≡ withdrawn_from n m changes
withdrawn_after_fix n m [] fixing = refl
withdrawn_after_fix n m (Fix other ∷ changes) fixing = withdrawn_after_fix n (m + 1) changes fixing
withdrawn_after_fix n m (Withdraw k ∷ changes) fixing = elim (cases_Bool (nat_eq k n)) [
  | inl is ↦ rw is refl
  | inr is ↦ rw is (withdrawn_after_fix n (m + 1) changes fixing)
]

pub withdrawn_by_last : (n m number : ℕ) (changes : List Change) → withdrawn_from n m changes ≡ None → number ≡ n
    → withdrawn_from n m (changes ++ Withdraw number ∷ []) ≡ Some (m + length changes)
withdrawn_by_last n m number [] none same = rw (eq-eqb number n same) (ap (λ (x : ℕ). Some x) (omega arith))
withdrawn_by_last n m number (Fix other ∷ changes) none same =
    withdrawn_by_last n (m + 1) number changes none same ∙ ap (λ (x : ℕ). Some x) (omega arith)
withdrawn_by_last n m number (Withdraw k ∷ changes) none same = elim (cases_Bool (nat_eq k n)) [
  | inl is ↦ absurd (none-some m (sym (rw is at none)))
  | inr is ↦ rw is (withdrawn_by_last n (m + 1) number changes (rw is at none) same ∙ ap (λ (x : ℕ). Some x) (omega arith))
]

pub withdrawn_by_others : (n m number : ℕ) (changes : List Change) → (number ≡ n → ⊥)
    → withdrawn_from n m (changes ++ Withdraw number ∷ []) ≡ withdrawn_from n m changes
withdrawn_by_others n m number [] other = elim (cases_Bool (nat_eq number n)) [
  | inl is ↦ absurd (other (eqb-true number n is))
  | inr is ↦ rw is refl
]
withdrawn_by_others n m number (Fix fixing ∷ changes) other = withdrawn_by_others n (m + 1) number changes other
withdrawn_by_others n m number (Withdraw k ∷ changes) other = elim (cases_Bool (nat_eq k n)) [
  | inl is ↦ rw is refl
  | inr is ↦ rw is (withdrawn_by_others n (m + 1) number changes other)
]

-- ---- what stands

any_after_fix : (n : ℕ) (changes : List Change) (fixing : Fixing)
    → is_withdrawn n (changes ++ Fix fixing ∷ []) ≡ is_withdrawn n changes
any_after_fix n [] fixing = refl
any_after_fix n (Fix other ∷ changes) fixing = any_after_fix n changes fixing
any_after_fix n (Withdraw k ∷ changes) fixing = ap (λ (b : Bool). (nat_eq k n) || b) (any_after_fix n changes fixing)

any_after_withdrawal : (n number : ℕ) (changes : List Change)
    → is_withdrawn n (changes ++ Withdraw number ∷ []) ≡ (is_withdrawn n changes || (nat_eq number n))
any_after_withdrawal n number [] = elim (cases_Bool (nat_eq number n)) [ inl is ↦ rw is refl | inr is ↦ rw is refl ]
any_after_withdrawal n number (Fix other ∷ changes) = any_after_withdrawal n number changes
any_after_withdrawal n number (Withdraw k ∷ changes) = elim (cases_Bool (nat_eq k n)) [
  | inl is ↦ rw is refl
  | inr is ↦ rw is (any_after_withdrawal n number changes)
]

standing_push : (all : List Change) (m : ℕ) (changes : List Change) (change : Change)
    → standing_from all m (changes ++ change ∷ []) ≡ standing_from all m changes ++ standing_from all (m + length changes) (change ∷ [])
standing_push all m [] change = ap (λ (x : ℕ). standing_from all x (change ∷ [])) (omega arith)
standing_push all m (Withdraw k ∷ changes) change =
    standing_push all (m + 1) changes change
    ∙ ap (λ (x : ℕ). standing_from all (m + 1) changes ++ standing_from all x (change ∷ [])) (omega arith)
standing_push all m (Fix fixing ∷ changes) change =
    let later : standing_from all (m + 1) (changes ++ change ∷ []) ≡ standing_from all (m + 1) changes ++ standing_from all (m + length (Fix fixing ∷ changes)) (change ∷ []) =
    standing_push all (m + 1) changes change
    ∙ ap (λ (x : ℕ). standing_from all (m + 1) changes ++ standing_from all x (change ∷ [])) (omega arith) in
    elim (cases_Bool (is_withdrawn m all)) [
      | inl is ↦ rw is later
      | inr is ↦ rw is (ap (λ (l : List (ℕ × Fixing)). (m, fixing) ∷ l) later)
    ]

standing_alike : (all other : List Change) (m : ℕ) (changes : List Change)
    → ((n : ℕ) → is_withdrawn n all ≡ is_withdrawn n other) → standing_from all m changes ≡ standing_from other m changes
standing_alike all other m [] same = refl
standing_alike all other m (Withdraw k ∷ changes) same = standing_alike all other (m + 1) changes same
standing_alike all other m (Fix fixing ∷ changes) same = elim (cases_Bool (is_withdrawn m other)) [
  | inl is ↦ rw (same m, is) (standing_alike all other (m + 1) changes same)
  | inr is ↦ rw (same m, is) (ap (λ (l : List (ℕ × Fixing)). (m, fixing) ∷ l) (standing_alike all other (m + 1) changes same))
]

-- a fixing that no change takes back stands behind the others
pub numbered_more : (changes : List Change) (fixing : Fixing) → withdrawn_from (1 + length changes) 1 changes ≡ None
    → numbered_standing (changes ++ Fix fixing ∷ []) ≡ numbered_standing changes ++ (1 + length changes, fixing) ∷ []
numbered_more changes fixing none =
    standing_push all 1 changes (Fix fixing)
    ∙ ap (λ (l : List (ℕ × Fixing)). l ++ standing_from all (1 + length changes) (Fix fixing ∷ [])) (standing_alike all changes 1 changes (λ n. any_after_fix n changes fixing))
    ∙ ap (λ (l : List (ℕ × Fixing)). numbered_standing changes ++ l) last
  where
    all : List Change
    all = changes ++ Fix fixing ∷ []

    last : standing_from (changes ++ Fix fixing ∷ []) (1 + length changes) (Fix fixing ∷ []) ≡ (1 + length changes, fixing) ∷ []
    last = rw (any_after_fix (1 + length changes) changes fixing ∙ not_withdrawn (1 + length changes) 1 changes none) refl

-- all but the one of a number
abbrev pub all_but : ℕ → List (ℕ × Fixing) → List (ℕ × Fixing)
all_but number standing = filter (λ p. not (nat_eq p.0 number)) standing

turned : (m n : ℕ) (b : Bool) → nat_eq m n ≡ b → nat_eq n m ≡ b
turned m n true same = eq-eqb n m (sym (eqb-true m n same))
turned m n false other = elim (cases_Bool (nat_eq n m)) [
  | inl same ↦ absurd (eqb-false m n other (sym (eqb-true n m same)))
  | inr differs ↦ differs
]

standing_without : (all : List Change) (number m : ℕ) (changes : List Change)
    → standing_from (all ++ Withdraw number ∷ []) m changes ≡ all_but number (standing_from all m changes)
standing_without all number m [] = refl
standing_without all number m (Withdraw k ∷ changes) = standing_without all number (m + 1) changes
standing_without all number m (Fix fixing ∷ changes) = elim (cases_Bool (is_withdrawn m all)) [
  | inl is ↦ rw (any_after_withdrawal m number all, is) (standing_without all number (m + 1) changes)
  | inr is ↦ elim (cases_Bool (nat_eq m number)) [
    | inl same ↦ rw (any_after_withdrawal m number all, is, turned m number true same, same) (standing_without all number (m + 1) changes)
    | inr other ↦ rw (any_after_withdrawal m number all, is, turned m number false other, other) (ap (λ (l : List (ℕ × Fixing)). (m, fixing) ∷ l) (standing_without all number (m + 1) changes))
  ]
]

append_none : (standing : List (ℕ × Fixing)) → standing ++ [] ≡ standing
append_none [] = refl
append_none (p ∷ standing) = ap (λ (l : List (ℕ × Fixing)). p ∷ l) (append_none standing)

pub numbered_less : (changes : List Change) (number : ℕ)
    → numbered_standing (changes ++ Withdraw number ∷ []) ≡ all_but number (numbered_standing changes)
numbered_less changes number =
    standing_push (changes ++ Withdraw number ∷ []) 1 changes (Withdraw number)
    ∙ append_none (standing_from (changes ++ Withdraw number ∷ []) 1 changes)
    ∙ standing_without changes number 1 changes

pub fewer_stand : (number : ℕ) (standing : List (ℕ × Fixing)) → length (all_but number standing) ≤ length standing
fewer_stand number [] = omega arith
fewer_stand number (p ∷ standing) = elim (cases_Bool (nat_eq p.0 number)) [
  | inl is ↦ rw is (omega (arith, fewer_stand number standing))
  | inr is ↦ rw is (omega (arith, fewer_stand number standing))
]

pub as_many : (standing : List (ℕ × Fixing)) → length (map (λ p. p.1) standing) ≡ length standing
as_many [] = refl
as_many (p ∷ standing) = ap suc (as_many standing)

pub fixings_push : (standing : List (ℕ × Fixing)) (p : ℕ × Fixing) → map (λ q. q.1) (standing ++ p ∷ []) ≡ map (λ q. q.1) standing ++ p.1 ∷ []
fixings_push [] p = refl
fixings_push (q ∷ standing) p = ap (λ (l : List Fixing). q.1 ∷ l) (fixings_push standing p)

-- ---- the fixings of one train

pub own_more : (t n : ℕ) (standing : List (ℕ × Fixing)) (fixing : Fixing) → train_of fixing ≡ t
    → own_of t (standing ++ (n, fixing) ∷ []) ≡ own_of t standing ++ record { number = n; fixing = fixing } ∷ []
own_more t n [] fixing own = rw (eq-eqb (train_of fixing) t own) refl
own_more t n (p ∷ standing) fixing own = elim (cases_Bool (nat_eq (train_of p.1) t)) [
  | inl is ↦ rw is (ap (λ (l : List Numbered). record { number = p.0; fixing = p.1 } ∷ l) (own_more t n standing fixing own))
  | inr is ↦ rw is (own_more t n standing fixing own)
]

pub own_kept : (t n : ℕ) (standing : List (ℕ × Fixing)) (fixing : Fixing) → (train_of fixing ≡ t → ⊥)
    → own_of t (standing ++ (n, fixing) ∷ []) ≡ own_of t standing
own_kept t n [] fixing other = elim (cases_Bool (nat_eq (train_of fixing) t)) [
  | inl is ↦ absurd (other (eqb-true (train_of fixing) t is))
  | inr is ↦ rw is refl
]
own_kept t n (p ∷ standing) fixing other = elim (cases_Bool (nat_eq (train_of p.1) t)) [
  | inl is ↦ rw is (ap (λ (l : List Numbered). record { number = p.0; fixing = p.1 } ∷ l) (own_kept t n standing fixing other))
  | inr is ↦ rw is (own_kept t n standing fixing other)
]

pub own_less : (t number : ℕ) (standing : List (ℕ × Fixing)) → own_of t (all_but number standing) ≡ without number (own_of t standing)
own_less t number [] = refl
own_less t number (p ∷ standing) = elim (cases_Bool (nat_eq p.0 number)) [
  | inl same ↦ elim (cases_Bool (nat_eq (train_of p.1) t)) [
    | inl is ↦ rw (same, is, same) (own_less t number standing)
    | inr is ↦ rw (same, is) (own_less t number standing)
  ]
  | inr other ↦ elim (cases_Bool (nat_eq (train_of p.1) t)) [
    | inl is ↦ rw (other, is, other) (ap (λ (l : List Numbered). record { number = p.0; fixing = p.1 } ∷ l) (own_less t number standing))
    | inr is ↦ rw (other, is) (own_less t number standing)
  ]
]

-- the fixing of a number is taken back from its own train alone
pub own_else : (t number m : ℕ) (fixing : Fixing) (all changes : List Change) → (train_of fixing ≡ t → ⊥)
    → ((i : ℕ) (g : Fixing) → slice_get changes i ≡ Some (Fix g) → number ≡ m + i → g ≡ fixing)
    → own_of t (all_but number (standing_from all m changes)) ≡ own_of t (standing_from all m changes)
own_else t number m fixing all [] other one = refl
own_else t number m fixing all (Withdraw k ∷ changes) other one =
    own_else t number (m + 1) fixing all changes other (λ i g at is. one (suc i) g at (omega (arith, is)))
own_else t number m fixing all (Fix g ∷ changes) other one =
    let later : own_of t (all_but number (standing_from all (m + 1) changes)) ≡ own_of t (standing_from all (m + 1) changes) =
    own_else t number (m + 1) fixing all changes other (λ i g at is. one (suc i) g at (omega (arith, is))) in
    elim (cases_Bool (is_withdrawn m all)) [
      | inl is ↦ rw is later
      | inr is ↦ elim (cases_Bool (nat_eq m number)) [
        | inl same ↦
            let here : g ≡ fixing = one 0 g refl (omega (arith, eqb-true m number same)) in
            elim (cases_Bool (nat_eq (train_of g) t)) [
              | inl own ↦ absurd (other (ap train_of (sym here) ∙ eqb-true (train_of g) t own))
              | inr own ↦ rw (is, same, own) later
            ]
        | inr differs ↦ elim (cases_Bool (nat_eq (train_of g) t)) [
          | inl own ↦ rw (is, differs, own) (ap (λ (l : List Numbered). record { number = m; fixing = g } ∷ l) later)
          | inr own ↦ rw (is, differs, own) later
        ]
      ]
    ]

-- ---- put in order, change by change

taken_set : (standing : List Fixing) (count : ℕ) (fixing : Fixing) → count < length standing → take (count + 1) (set standing count fixing) ≡ take count standing ++ fixing ∷ []
taken_set [] count fixing lt = absurd (omega (arith, lt))
taken_set (f ∷ standing) zero fixing lt = refl
taken_set (f ∷ standing) (suc count) fixing lt =
    let one : suc count + 1 ≡ suc (count + 1) = omega arith in
    subst (λ (n : ℕ). take n (set (f ∷ standing) (suc count) fixing) ≡ take (suc count) (f ∷ standing) ++ fixing ∷ []) (sym one) (ap (λ (l : List Fixing). f ∷ l) (taken_set standing count fixing (omega (arith, lt))))

length-take-le : (count : ℕ) (standing : List Fixing) → count ≤ length standing → length (take count standing) ≡ count
length-take-le zero standing le = refl
length-take-le (suc count) [] le = absurd (omega (arith, le))
length-take-le (suc count) (f ∷ standing) le = ap suc (length-take-le count standing (omega (arith, le)))

opens : (changes : List Change) (i : ℕ) (d : Change) → i < length changes → drop i changes ≡ get_or changes i d ∷ drop (i + 1) changes
opens changes i d lt = rw (add-one, drop-cons changes i d) refl

left_some : (changes rest : List Change) (i : ℕ) (change : Change) (by : Option ℕ) (fixing : Fixing) → left_standing change by ≡ Some fixing
    → withdrawn_from (i + 1) 1 changes ≡ by → standing_from changes (1 + i) (change ∷ rest) ≡ (1 + i, fixing) ∷ standing_from changes (1 + (i + 1)) rest
left_some changes rest i (Withdraw number) by fixing some is = absurd (none-some fixing some)
left_some changes rest i (Fix g) (Some k) fixing some is = absurd (none-some fixing some)
left_some changes rest i (Fix g) None fixing some is =
    let stands : is_withdrawn (1 + i) changes ≡ false =
    not_withdrawn (1 + i) 1 changes (subst (λ (n : ℕ). withdrawn_from n 1 changes ≡ None) (omega arith) is) in
    rw stands (ap (λ (f : Fixing). (1 + i, f) ∷ standing_from changes (1 + i + 1) rest) (same_Some g fixing some)
    ∙ ap (λ (n : ℕ). (1 + i, fixing) ∷ standing_from changes n rest) (omega arith))

left_none : (changes rest : List Change) (i : ℕ) (change : Change) (by : Option ℕ) → left_standing change by ≡ None
    → withdrawn_from (i + 1) 1 changes ≡ by → standing_from changes (1 + i) (change ∷ rest) ≡ standing_from changes (1 + (i + 1)) rest
left_none changes rest i (Withdraw number) by none is = ap (λ (n : ℕ). standing_from changes n rest) (omega arith)
left_none changes rest i (Fix g) None none is = absurd (none-some g (sym none))
left_none changes rest i (Fix g) (Some k) none is =
    let taken : is_withdrawn (1 + i) changes ≡ true =
    some_withdrawn (1 + i) 1 k changes (subst (λ (n : ℕ). withdrawn_from n 1 changes ≡ Some k) (omega arith) is) in
    rw taken (ap (λ (n : ℕ). standing_from changes n rest) (omega arith))

-- what is in order, before what stands of the changes from a place on
pub record IsInOrder (changes : List Change) (place count : ℕ) (standing : List Fixing) : Type 0 where
  pub done : take count standing ++ map (λ p. p.1) (standing_from changes (1 + place) (drop place changes)) ≡ standing_of changes
  pub within : count ≤ length standing
  pub room : length (standing_of changes) ≤ length standing

at_place : (changes : List Change) (withdrawn : List (Option ℕ)) (i : ℕ) (o : Option ℕ) → AreWithdrawn changes withdrawn → i < length changes → withdrawn_from (i + 1) 1 changes ≡ get_or withdrawn i o
at_place changes withdrawn i o are lt = are.each i (get_or withdrawn i o) (slice_get-get_or withdrawn i o (omega (arith, lt, are.long)))

some_rest : (changes : List Change) (withdrawn : List (Option ℕ)) (i : ℕ) (d : Change) (o : Option ℕ) (fixing : Fixing) → AreWithdrawn changes withdrawn → i < length changes
    → left_standing (get_or changes i d) (get_or withdrawn i o) ≡ Some fixing
    → map (λ p. p.1) (standing_from changes (1 + i) (drop i changes)) ≡ fixing ∷ map (λ p. p.1) (standing_from changes (1 + (i + 1)) (drop (i + 1) changes))
some_rest changes withdrawn i d o fixing are lt some =
    ap (λ (l : List Change). map (λ p. p.1) (standing_from changes (1 + i) l)) (opens changes i d lt)
    ∙ ap (λ (l : List (ℕ × Fixing)). map (λ p. p.1) l) (left_some changes (drop (i + 1) changes) i (get_or changes i d) (get_or withdrawn i o) fixing some (at_place changes withdrawn i o are lt))

pub has_room : (changes : List Change) (withdrawn : List (Option ℕ)) (i count : ℕ) (standing : List Fixing) (d : Change) (o : Option ℕ) (fixing : Fixing)
    → AreWithdrawn changes withdrawn → i < length changes → left_standing (get_or changes i d) (get_or withdrawn i o) ≡ Some fixing → IsInOrder changes i count standing → count < length standing
has_room changes withdrawn i count standing d o fixing are lt some order =
    let rest : List Fixing = map (λ p. p.1) (standing_from changes (1 + (i + 1)) (drop (i + 1) changes)) in
    let all : take count standing ++ fixing ∷ rest ≡ standing_of changes =
    ap (λ (l : List Fixing). take count standing ++ l) (sym (some_rest changes withdrawn i d o fixing are lt some)) ∙ order.done in
    omega (arith, order.within, order.room, ap (λ (l : List Fixing). length l) all, length-append (take count standing) (fixing ∷ rest), length-take-le count standing order.within)

pub order_some : (changes : List Change) (withdrawn : List (Option ℕ)) (i count : ℕ) (standing : List Fixing) (d : Change) (o : Option ℕ) (fixing : Fixing)
    → AreWithdrawn changes withdrawn → i < length changes → left_standing (get_or changes i d) (get_or withdrawn i o) ≡ Some fixing → IsInOrder changes i count standing
    → IsInOrder changes (i + 1) (count + 1) (set standing count fixing)
order_some changes withdrawn i count standing d o fixing are lt some order = record {
  done = ap (λ (l : List Fixing). l ++ rest) (taken_set standing count fixing room) ∙ append_assoc (take count standing) (fixing ∷ []) rest
      ∙ ap (λ (l : List Fixing). take count standing ++ l) (sym (some_rest changes withdrawn i d o fixing are lt some)) ∙ order.done;
  within = omega (arith, room, length-set standing count fixing);
  room = omega (arith, order.room, length-set standing count fixing);
}
  where
    room : count < length standing
    room = has_room changes withdrawn i count standing d o fixing are lt some order

    rest : List Fixing
    rest = map (λ p. p.1) (standing_from changes (1 + (i + 1)) (drop (i + 1) changes))

pub order_none : (changes : List Change) (withdrawn : List (Option ℕ)) (i count : ℕ) (standing : List Fixing) (d : Change) (o : Option ℕ)
    → AreWithdrawn changes withdrawn → i < length changes → left_standing (get_or changes i d) (get_or withdrawn i o) ≡ None → IsInOrder changes i count standing
    → IsInOrder changes (i + 1) count standing
order_none changes withdrawn i count standing d o are lt none order = record {
  done = ap (λ (l : List Fixing). take count standing ++ l) (sym same) ∙ order.done;
  within = order.within;
  room = order.room;
}
  where
    same : map (λ p. p.1) (standing_from changes (1 + i) (drop i changes)) ≡ map (λ p. p.1) (standing_from changes (1 + (i + 1)) (drop (i + 1) changes))
    same = ap (λ (l : List Change). map (λ p. p.1) (standing_from changes (1 + i) l)) (opens changes i d lt)
        ∙ ap (λ (l : List (ℕ × Fixing)). map (λ p. p.1) l) (left_none changes (drop (i + 1) changes) i (get_or changes i d) (get_or withdrawn i o) none (at_place changes withdrawn i o are lt))

-- ---- no more stand than there are changes

few_from : (all : List Change) (m : ℕ) (changes : List Change) → length (standing_from all m changes) ≤ length changes
few_from all m [] = omega arith
few_from all m (Withdraw k ∷ changes) = omega (arith, few_from all (m + 1) changes)
few_from all m (Fix fixing ∷ changes) = elim (cases_Bool (is_withdrawn m all)) [
  | inl is ↦ rw is (omega (arith, few_from all (m + 1) changes))
  | inr is ↦ rw is (omega (arith, few_from all (m + 1) changes))
]

pub few_stand : (changes : List Change) → length (standing_of changes) ≤ length changes
few_stand changes = omega (arith, as_many (numbered_standing changes), few_from changes 1 changes)
