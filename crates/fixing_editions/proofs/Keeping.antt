-- What is kept of an edition agrees with its changes after each step.
use Rattle.std.proofs.Common.{◌≡◌, ℕ, zero, suc, ◌+◌, ◌-◌, ◌<◌, ◌≤◌, List, [], ◌∷◌, ◌++◌, length, get_or, set, take, replicate, Option, Some, None, refl, sym, ap, subst, ◌∙◌, inl, inr, arith}
use Rattle.std.specs.Prelude.{nat_eq, slice_get, map}
use Rattle.std.proofs.lemmas.Bool.{cases_Bool, cases_lt, eqb-true, eqb-false, false≢true}
use Rattle.std.proofs.lemmas.Option.{none-some, same_Some, slice_get_within}
use Rattle.std.proofs.lemmas.List.{length-set, length_push, get_or-set_same, get_or-set_other, get_or-replicate, length-replicate}
use Rattle.disp_model.specs.declared.fixing.Fixing.{Fixing}
use Rattle.disp_model.specs.declared.fixing.Change.{Change}
use Rattle.disp_model.specs.declared.fixing.Change.TheVariants.{Fix, Withdraw}
use Rattle.disp_model.specs.declared.problem.Problem.{Problem}
use Rattle.disp_model.specs.declared.limits.TheConstants.{MOST_CHANGES}
use Rattle.disp_model.specs.declared.reply.Reply.TheVariants.{Accepted}
use Rattle.disp_model.specs.Changes.{numbered_standing, standing_of, change_at, withdrawn_from}
use Rattle.disp_model.specs.Replies.{IsReply, IsEdition}
use Rattle.fixing_editions.specs.declared.kept.Kept.{Kept}
use Rattle.fixing_editions.specs.declared.train_fixings.Numbered.{Numbered}
use Rattle.fixing_editions.specs.Own.{train_of, own_of, without}
use Rattle.fixing_editions.specs.Edition.{AreOwn, AreWithdrawn, IsKeptOf, IsAsBefore, EntersFixing, TakesBack, SettlesChanges}
use Rattle.train_orders.proofs.Places.{get_push_cases, set_at, set_elsewhere}
use Rattle.fixing_editions.proofs.Standing.{none_withdraws, withdrawn_after_fix, withdrawn_by_last, withdrawn_by_others, numbered_more, numbered_less, fewer_stand, as_many, fixings_push, own_more, own_kept, own_less, own_else}
use Rattle.fixing_editions.proofs.Accepting.{IsNew, IsTakenBack, accepted_new, accepted_back, change_within, edition_more}

-- ---- a withdrawal is of a change before it

taken_short : (i : ℕ) (changes : List Change) → length (take i changes) ≤ i
taken_short zero changes = omega arith
taken_short (suc i) [] = omega arith
taken_short (suc i) (c ∷ changes) = omega (arith, taken_short i changes)

behind : (problem : Problem) (changes : List Change) → IsEdition problem changes → (i k : ℕ) → slice_get changes i ≡ Some (Withdraw k) → k ≤ i
behind problem changes edition i k at =
    let back = accepted_back (take i changes) k (i + 1) (edition i (Withdraw k) at) in
    let found = change_within (take i changes) k (Fix back.fixing) back.there in
    omega (arith, found.1, found.2, taken_short i changes)

-- the next change is not taken back
none_yet : (problem : Problem) (changes : List Change) → IsEdition problem changes → withdrawn_from (1 + length changes) 1 changes ≡ None
none_yet problem changes edition =
    none_withdraws (1 + length changes) 1 changes (λ i k at same. omega (arith, same, behind problem changes edition i k at, slice_get_within changes i (Withdraw k) at))

-- ---- what is taken back

withdrawn_more : (changes : List Change) (fixing : Fixing) (withdrawn : List (Option ℕ)) → AreWithdrawn changes withdrawn
    → withdrawn_from (1 + length changes) 1 changes ≡ None → AreWithdrawn (changes ++ Fix fixing ∷ []) (withdrawn ++ None ∷ [])
withdrawn_more changes fixing withdrawn are none = record {
  long = length_push withdrawn None ∙ ap (λ (n : ℕ). n + 1) are.long ∙ sym (length_push changes (Fix fixing));
  each = λ i by at. withdrawn_after_fix (i + 1) 1 changes fixing ∙ (elim (get_push_cases withdrawn None by i at) [
    | inl early ↦ are.each i by early
    | inr last ↦ subst (λ (n : ℕ). withdrawn_from n 1 changes ≡ by) (omega (arith, last.0, are.long)) (none ∙ last.1)
  ]);
}

withdrawn_back : (changes : List Change) (number n : ℕ) (withdrawn : List (Option ℕ)) → AreWithdrawn changes withdrawn
    → withdrawn_from (1 + length changes) 1 changes ≡ None → withdrawn_from number 1 changes ≡ None → 0 < number → number ≤ length changes → n ≡ length changes + 1
    → AreWithdrawn (changes ++ Withdraw number ∷ []) (set (withdrawn ++ None ∷ []) (number - 1) (Some n))
withdrawn_back changes number n withdrawn are next none some within is = record {
  long = length-set (withdrawn ++ None ∷ []) (number - 1) (Some n) ∙ length_push withdrawn None ∙ ap (λ (x : ℕ). x + 1) are.long ∙ sym (length_push changes (Withdraw number));
  each = λ i by at. elim (cases_Bool (nat_eq i (number - 1))) [
    | inl same ↦ here i by (eqb-true i (number - 1) same) at
    | inr other ↦ elsewhere i by (λ e. eqb-false i (number - 1) other e) at
  ];
}
  where
    inside : number - 1 < length (withdrawn ++ None ∷ [])
    inside = omega (arith, some, within, are.long, length_push withdrawn None)

    here : (i : ℕ) (by : Option ℕ) → i ≡ number - 1 → slice_get (set (withdrawn ++ None ∷ []) (number - 1) (Some n)) i ≡ Some by → withdrawn_from (i + 1) 1 (changes ++ Withdraw number ∷ []) ≡ by
    here i by same at =
        let found : Some n ≡ by = same_Some (Some n) by (sym (set_at (withdrawn ++ None ∷ []) (number - 1) (Some n) inside) ∙ ap (slice_get (set (withdrawn ++ None ∷ []) (number - 1) (Some n))) (sym same) ∙ at) in
        let number_is : number ≡ i + 1 = omega (arith, same, some) in
        withdrawn_by_last (i + 1) 1 number changes (subst (λ (x : ℕ). withdrawn_from x 1 changes ≡ None) number_is none) number_is
        ∙ ap (λ (x : ℕ). Some x) (omega (arith, is)) ∙ found

    elsewhere : (i : ℕ) (by : Option ℕ) → (i ≡ number - 1 → ⊥) → slice_get (set (withdrawn ++ None ∷ []) (number - 1) (Some n)) i ≡ Some by → withdrawn_from (i + 1) 1 (changes ++ Withdraw number ∷ []) ≡ by
    elsewhere i by other at =
        let before : slice_get (withdrawn ++ None ∷ []) i ≡ Some by = sym (set_elsewhere (withdrawn ++ None ∷ []) (number - 1) i (Some n) other) ∙ at in
        let differs : number ≡ i + 1 → ⊥ = λ e. other (omega (arith, e)) in
        withdrawn_by_others (i + 1) 1 number changes differs ∙ (elim (get_push_cases withdrawn None by i before) [
          | inl early ↦ are.each i by early
          | inr last ↦ subst (λ (x : ℕ). withdrawn_from x 1 changes ≡ by) (omega (arith, last.0, are.long)) (next ∙ last.1)
        ])

-- ---- the fixings of the trains

own_after : (changes : List Change) (fixing : Fixing) (by_train : List (List Numbered)) (n : ℕ) → AreOwn changes by_train → train_of fixing < length by_train
    → withdrawn_from (1 + length changes) 1 changes ≡ None → n ≡ length changes + 1
    → AreOwn (changes ++ Fix fixing ∷ []) (set by_train (train_of fixing) (get_or by_train (train_of fixing) [] ++ record { number = n; fixing = fixing } ∷ []))
own_after changes fixing by_train n own inside none is u lt = elim (cases_Bool (nat_eq u (train_of fixing))) [
  | inl same ↦ subst (λ (x : ℕ). get_or (set by_train (train_of fixing) entered) x [] ≡ own_of x (numbered_standing (changes ++ Fix fixing ∷ []))) (sym (eqb-true u (train_of fixing) same)) here
  | inr other ↦ get_or-set_other by_train (train_of fixing) u entered [] (λ e. eqb-false u (train_of fixing) other e)
      ∙ own u (omega (arith, lt, length-set by_train (train_of fixing) entered))
      ∙ sym (ap (own_of u) (numbered_more changes fixing none) ∙ own_kept u (1 + length changes) (numbered_standing changes) fixing (λ e. eqb-false u (train_of fixing) other (sym e)))
]
  where
    entered : List Numbered
    entered = get_or by_train (train_of fixing) [] ++ record { number = n; fixing = fixing } ∷ []

    here : get_or (set by_train (train_of fixing) (get_or by_train (train_of fixing) [] ++ record { number = n; fixing = fixing } ∷ [])) (train_of fixing) [] ≡ own_of (train_of fixing) (numbered_standing (changes ++ Fix fixing ∷ []))
    here = get_or-set_same by_train (train_of fixing) (get_or by_train (train_of fixing) [] ++ record { number = n; fixing = fixing } ∷ []) [] inside
        ∙ ap (λ (l : List Numbered). l ++ record { number = n; fixing = fixing } ∷ []) (own (train_of fixing) inside)
        ∙ ap (λ (m : ℕ). own_of (train_of fixing) (numbered_standing changes) ++ record { number = m; fixing = fixing } ∷ []) (omega (arith, is))
        ∙ sym (ap (own_of (train_of fixing)) (numbered_more changes fixing none) ∙ own_more (train_of fixing) (1 + length changes) (numbered_standing changes) fixing refl)

same_fixing : (f g : Fixing) → Fix f ≡ Fix g → f ≡ g
same_fixing f g e = cc

own_back : (changes : List Change) (number : ℕ) (fixing : Fixing) (by_train : List (List Numbered)) → AreOwn changes by_train → train_of fixing < length by_train
    → change_at changes number ≡ Some (Fix fixing)
    → AreOwn (changes ++ Withdraw number ∷ []) (set by_train (train_of fixing) (without number (get_or by_train (train_of fixing) [])))
own_back changes number fixing by_train own inside there u lt = elim (cases_Bool (nat_eq u (train_of fixing))) [
  | inl same ↦ subst (λ (x : ℕ). get_or (set by_train (train_of fixing) left) x [] ≡ own_of x (numbered_standing (changes ++ Withdraw number ∷ []))) (sym (eqb-true u (train_of fixing) same)) here
  | inr other ↦ get_or-set_other by_train (train_of fixing) u left [] (λ e. eqb-false u (train_of fixing) other e)
      ∙ own u (omega (arith, lt, length-set by_train (train_of fixing) left))
      ∙ sym (ap (own_of u) (numbered_less changes number) ∙ own_else u number 1 fixing changes changes (λ e. eqb-false u (train_of fixing) other (sym e)) alone)
]
  where
    left : List Numbered
    left = without number (get_or by_train (train_of fixing) [])

    here : get_or (set by_train (train_of fixing) (without number (get_or by_train (train_of fixing) []))) (train_of fixing) [] ≡ own_of (train_of fixing) (numbered_standing (changes ++ Withdraw number ∷ []))
    here = get_or-set_same by_train (train_of fixing) (without number (get_or by_train (train_of fixing) [])) [] inside
        ∙ ap (without number) (own (train_of fixing) inside)
        ∙ sym (ap (own_of (train_of fixing)) (numbered_less changes number) ∙ own_less (train_of fixing) number (numbered_standing changes))

    alone : (i : ℕ) (g : Fixing) → slice_get changes i ≡ Some (Fix g) → number ≡ 1 + i → g ≡ fixing
    alone i g at is =
        let found = change_within changes number (Fix fixing) there in
        let same : i ≡ found.0 = omega (arith, is, found.1) in
        same_fixing g fixing (same_Some (Fix g) (Fix fixing) (sym at ∙ ap (slice_get changes) same ∙ found.3))

-- ---- the fixings that stand

standing_more : (changes : List Change) (fixing : Fixing) → withdrawn_from (1 + length changes) 1 changes ≡ None → standing_of (changes ++ Fix fixing ∷ []) ≡ standing_of changes ++ fixing ∷ []
standing_more changes fixing none =
    ap (λ (l : List (ℕ × Fixing)). map (λ p. p.1) l) (numbered_more changes fixing none) ∙ fixings_push (numbered_standing changes) (1 + length changes, fixing)

standing_less : (changes : List Change) (number : ℕ) → length (standing_of (changes ++ Withdraw number ∷ [])) ≤ length (standing_of changes)
standing_less changes number =
    let fewer : length (numbered_standing (changes ++ Withdraw number ∷ [])) ≤ length (numbered_standing changes) =
    subst (λ (l : List (ℕ × Fixing)). length l ≤ length (numbered_standing changes)) (sym (numbered_less changes number)) (fewer_stand number (numbered_standing changes)) in
    omega (arith, fewer, as_many (numbered_standing (changes ++ Withdraw number ∷ [])), as_many (numbered_standing changes))

-- ---- the steps

room_left : (changes : List Change) (change : Change) → length changes ≤ MOST_CHANGES → (length changes ≡ MOST_CHANGES → ⊥) → length (changes ++ change ∷ []) ≤ MOST_CHANGES
room_left changes change fits room = elim (cases_lt (length changes) MOST_CHANGES) [
  | inl lt ↦ omega (arith, lt, length_push changes change)
  | inr le ↦ absurd (room (omega (arith, le, fits)))
]

pub kept_more : (problem : Problem) (changes more : List Change) (fixing : Fixing) (n : ℕ) (old new : Kept) → IsKeptOf problem changes old
    → IsReply problem changes (Fix fixing) (Accepted n) → more ≡ changes ++ Fix fixing ∷ [] → EntersFixing n fixing old new → IsKeptOf problem more new
kept_more problem changes more fixing n old new kept reply is enters = rw is (record {
  edition = edition_more problem changes (Fix fixing) n kept.edition reply fresh.newest.number;
  fits = room_left changes (Fix fixing) kept.fits fresh.newest.room;
  withdrawn = subst (AreWithdrawn (changes ++ Fix fixing ∷ [])) (sym enters.withdrawn) (withdrawn_more changes fixing old.withdrawn.items kept.withdrawn none);
  long = ap (λ (l : List (List Numbered)). length l) enters.by_train ∙ length-set old.by_train.items (train_of fixing) _ ∙ kept.long;
  own = subst (AreOwn (changes ++ Fix fixing ∷ [])) (sym enters.by_train) (own_after changes fixing old.by_train.items n kept.own inside none fresh.newest.number);
  stands = λ stale. enters.standing ∙ ap (λ (l : List Fixing). l ++ fixing ∷ []) (kept.stands (sym enters.stale ∙ stale)) ∙ sym (standing_more changes fixing none);
  room = omega (arith, kept.room, ap (λ (l : List Fixing). length l) enters.standing, length_push old.standing.items fixing, ap (λ (l : List Fixing). length l) (standing_more changes fixing none), length_push (standing_of changes) fixing);
})
  where
    fresh : IsNew problem changes fixing n
    fresh = accepted_new problem changes fixing n reply

    none : withdrawn_from (1 + length changes) 1 changes ≡ None
    none = none_yet problem changes kept.edition

    inside : train_of fixing < length old.by_train.items
    inside = omega (arith, (accepted_new problem changes fixing n reply).train, kept.long)

pub kept_less : (problem : Problem) (changes more : List Change) (number n : ℕ) (fixing : Fixing) (old new : Kept) → IsKeptOf problem changes old
    → IsReply problem changes (Withdraw number) (Accepted n) → change_at changes number ≡ Some (Fix fixing) → train_of fixing < length old.by_train.items
    → more ≡ changes ++ Withdraw number ∷ [] → TakesBack n number fixing old new → IsKeptOf problem more new
kept_less problem changes more number n fixing old new kept reply there inside is takes = rw is (record {
  edition = edition_more problem changes (Withdraw number) n kept.edition reply back.newest.number;
  fits = room_left changes (Withdraw number) kept.fits back.newest.room;
  withdrawn = subst (AreWithdrawn (changes ++ Withdraw number ∷ [])) (sym takes.withdrawn)
      (withdrawn_back changes number n old.withdrawn.items kept.withdrawn (none_yet problem changes kept.edition) back.stands (omega (arith, found.1)) (omega (arith, found.1, found.2)) back.newest.number);
  long = ap (λ (l : List (List Numbered)). length l) takes.by_train ∙ length-set old.by_train.items (train_of fixing) _ ∙ kept.long;
  own = subst (AreOwn (changes ++ Withdraw number ∷ [])) (sym takes.by_train) (own_back changes number fixing old.by_train.items kept.own inside there);
  stands = λ fresh. absurd (false≢true (sym fresh ∙ takes.stale));
  room = omega (arith, kept.room, standing_less changes number, ap (λ (l : List Fixing). length l) takes.standing);
})
  where
    back : IsTakenBack changes number n
    back = accepted_back changes number n reply

    found : (i : ℕ) × (number ≡ i + 1) × (i < length changes) × (slice_get changes i ≡ Some (Fix fixing))
    found = change_within changes number (Fix fixing) there

pub kept_same : (problem : Problem) (changes : List Change) (old new : Kept) → IsKeptOf problem changes old → IsAsBefore old new → IsKeptOf problem changes new
kept_same problem changes old new kept same = record {
  edition = kept.edition;
  fits = kept.fits;
  withdrawn = subst (AreWithdrawn changes) (sym same.withdrawn) kept.withdrawn;
  long = ap (λ (l : List (List Numbered)). length l) same.by_train ∙ kept.long;
  own = subst (AreOwn changes) (sym same.by_train) kept.own;
  stands = λ stale. same.standing ∙ kept.stands (sym same.stale ∙ stale);
  room = omega (arith, kept.room, ap (λ (l : List Fixing). length l) same.standing);
}

pub kept_settled : (problem : Problem) (changes : List Change) (old new : Kept) → IsKeptOf problem changes old → SettlesChanges changes old new → IsKeptOf problem changes new
kept_settled problem changes old new kept settles = record {
  edition = kept.edition;
  fits = kept.fits;
  withdrawn = subst (AreWithdrawn changes) (sym settles.withdrawn) kept.withdrawn;
  long = ap (λ (l : List (List Numbered)). length l) settles.by_train ∙ kept.long;
  own = subst (AreOwn changes) (sym settles.by_train) kept.own;
  stands = λ stale. settles.standing;
  room = omega (arith, ap (λ (l : List Fixing). length l) settles.standing);
}

pub kept_first : (problem : Problem) (kept : Kept) → kept.withdrawn.items ≡ [] → kept.by_train.items ≡ replicate (length problem.trains) [] → kept.standing.items ≡ [] → IsKeptOf problem [] kept
kept_first problem kept none is stands = record {
  edition = λ i c here. absurd (none-some c here);
  fits = omega arith;
  withdrawn = record { long = ap (λ (l : List (Option ℕ)). length l) none; each = λ i by at. absurd (none-some by (subst (λ (l : List (Option ℕ)). slice_get l i ≡ Some by) none at)) };
  long = ap (λ (l : List (List Numbered)). length l) is ∙ length-replicate (length problem.trains) [];
  own = λ t lt. ap (λ (l : List (List Numbered)). get_or l t []) is ∙ get_or-replicate (length problem.trains) t [] [] (omega (arith, lt, ap (λ (l : List (List Numbered)). length l) is, length-replicate {A = List Numbered} (length problem.trains) []));
  stands = λ fresh. stands;
  room = omega arith;
}

-- the train of an accepted fixing is there
pub train_there : (problem : Problem) (changes : List Change) (number : ℕ) (fixing : Fixing) → IsEdition problem changes → change_at changes number ≡ Some (Fix fixing) → train_of fixing < length problem.trains
train_there problem changes number fixing edition there =
    let found = change_within changes number (Fix fixing) there in
    (accepted_new problem (take found.0 changes) fixing (found.0 + 1) (edition found.0 (Fix fixing) found.3)).train
