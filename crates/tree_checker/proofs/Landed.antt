-- Bases that are raised to the lengths of walks, one walk after another.
use Rattle.std.proofs.Common.{◌≡◌, ℕ, zero, suc, ◌+◌, ◌^◌, ◌<◌, ◌≤◌, List, [], ◌∷◌, ◌++◌, length, take, get_or, cond, Bool, true, false, Option, Some, None, refl, sym, ap, subst, ◌∙◌, inl, inr, arith}
use Rattle.std.specs.Prelude.{nat_eq, slice_index, max, ◌↔◌}
use Rattle.std.proofs.lemmas.Bool.{cases_lt}
use Rattle.std.proofs.lemmas.Option.{none-some}
use Rattle.std.proofs.lemmas.List.{length_push, get_or_append_left, get_or_push, get_or_past, take_more, take_all}
use Rattle.disp_model.specs.declared.train.Op.{Op}
use Rattle.disp_model.specs.declared.fixing.Fixing.{Fixing}
use Rattle.disp_model.specs.declared.problem.Problem.{Problem}
use Rattle.disp_model.specs.Node.{Node}
use Rattle.disp_model.specs.Walks.{lower_of, IsWalk, EndsIn}
use Rattle.disp_model.specs.Shares.{Arrival, AreWalksOn, greatest_to}
use Rattle.tree_checker.specs.declared.landings.Landing.{Landing}
use Rattle.tree_checker.specs.TrainCosts.{IsLanding, Raises, AreRaised, AreLowers}

-- ---- walks, one after another

are_more : (node : Node) (t : ℕ) (walks : List (List Op)) (arrivals : List Arrival) (walk : List Op) (arrival : Arrival) → AreWalksOn node t walks arrivals → EndsIn walk (record { train = t; op = arrival.operation }) → IsWalk node walk arrival.total
    → AreWalksOn node t (walks ++ walk ∷ []) (arrivals ++ arrival ∷ [])
are_more node t [] [] walk arrival are ends is = (ends, is, tt)
are_more node t [] (a ∷ arrivals) walk arrival are ends is = absurd are
are_more node t (w ∷ walks) [] walk arrival are ends is = absurd are
are_more node t (w ∷ walks) (a ∷ arrivals) walk arrival are ends is = (are.0, are.1, are_more node t walks arrivals walk arrival are.2 ends is)

greatest_more : (o : ℕ) (arrivals : List Arrival) (arrival : Arrival) → greatest_to o (arrivals ++ arrival ∷ []) ≡ cond (nat_eq arrival.operation o) (max arrival.total (greatest_to o arrivals)) (greatest_to o arrivals)
greatest_more o [] arrival = refl
greatest_more o (a ∷ arrivals) arrival = by (nat_eq a.operation o) (nat_eq arrival.operation o) (greatest_more o arrivals arrival)
  where
    by : (one other : Bool) → greatest_to o (arrivals ++ arrival ∷ []) ≡ cond other (max arrival.total (greatest_to o arrivals)) (greatest_to o arrivals)
        → cond one (max a.total (greatest_to o (arrivals ++ arrival ∷ []))) (greatest_to o (arrivals ++ arrival ∷ []))
        ≡ cond other (max arrival.total (cond one (max a.total (greatest_to o arrivals)) (greatest_to o arrivals))) (cond one (max a.total (greatest_to o arrivals)) (greatest_to o arrivals))
    by true true same = omega (arith, same)
    by true false same = omega (arith, same)
    by false true same = omega (arith, same)
    by false false same = omega (arith, same)

-- each of the walks ends on the train
walk_among : (node : Node) (t : ℕ) (walks : List (List Op)) (arrivals : List Arrival) (i : ℕ) (walk : List Op) → AreWalksOn node t walks arrivals → i < length walks → walk ≡ get_or walks i walk
    → (arrival : Arrival) × EndsIn walk (record { train = t; op = arrival.operation }) × IsWalk node walk arrival.total
walk_among node t [] arrivals i walk are lt is = absurd (omega (arith, lt))
walk_among node t (w ∷ walks) [] i walk are lt is = absurd are
walk_among node t (w ∷ walks) (a ∷ arrivals) zero walk are lt is =
    (a, subst (λ (l : List Op). EndsIn l (record { train = t; op = a.operation })) (sym is) are.0, subst (λ (l : List Op). IsWalk node l a.total) (sym is) are.1)
walk_among node t (w ∷ walks) (a ∷ arrivals) (suc i) walk are lt is = walk_among node t walks arrivals i walk are.2 (omega (arith, lt)) is

-- ---- bases

pub none_raised : (node : Node) (t : ℕ) (walks : List (List Op)) (old : List ℕ) → AreRaised node t [] old old
none_raised node t walks old = record { arrivals = []; are = tt; long = refl; raised = λ o lt. omega arith; small = λ small o. small o }

pub raised_more : (node : Node) (t : ℕ) (walks : List (List Op)) (i : ℕ) (walk shown : List Op) (landing : Landing) (old middle new : List ℕ) → i < length walks → walk ≡ get_or walks i walk → shown ≡ walk
    → AreRaised node t (take i walks) old middle → IsLanding node t shown (Some landing) → Raises landing.operation landing.total middle new → AreRaised node t (take (i + 1) walks) old new
raised_more node t walks i walk shown landing old middle new lt is same before lands raises = record {
  arrivals = before.arrivals ++ arrival ∷ [];
  are = subst (λ (l : List (List Op)). AreWalksOn node t l (before.arrivals ++ arrival ∷ [])) (sym taken)
      (are_more node t (take i walks) before.arrivals walk arrival before.are (subst (λ (l : List Op). EndsIn l (record { train = t; op = landing.operation })) same lands.0) (subst (λ (l : List Op). IsWalk node l landing.total) same lands.1));
  long = raises.long ∙ before.long;
  raised = λ o within. by o (nat_eq landing.operation o) (raises.raised o (omega (arith, within, before.long))) (before.raised o within) (greatest_more o before.arrivals arrival);
  small = λ small o. raises.small lands.2 (before.small small) o;
}
  where
    arrival : Arrival
    arrival = record { operation = landing.operation; total = landing.total }

    taken : take (i + 1) walks ≡ take i walks ++ walk ∷ []
    taken = subst (λ (l : List Op). take (i + 1) walks ≡ take i walks ++ l ∷ []) (sym is) (take_more walks i walk lt)

    by : (o : ℕ) (here : Bool) → slice_index new o ≡ cond here (max landing.total (slice_index middle o)) (slice_index middle o) → slice_index middle o ≡ max (slice_index old o) (greatest_to o before.arrivals)
        → greatest_to o (before.arrivals ++ arrival ∷ []) ≡ cond here (max landing.total (greatest_to o before.arrivals)) (greatest_to o before.arrivals) → slice_index new o ≡ max (slice_index old o) (greatest_to o (before.arrivals ++ arrival ∷ []))
    by o true now earlier greatest = omega (arith, now, earlier, greatest)
    by o false now earlier greatest = omega (arith, now, earlier, greatest)

pub raised_all : (node : Node) (t : ℕ) (walks : List (List Op)) (i : ℕ) (old new : List ℕ) → length walks ≤ i → AreRaised node t (take i walks) old new → AreRaised node t walks old new
raised_all node t walks i old new past is = subst (λ (l : List (List Op)). AreRaised node t l old new) (take_all i walks past) is

pub not_raised : (node : Node) (t : ℕ) (walks : List (List Op)) (i : ℕ) (walk shown : List Op) → i < length walks → walk ≡ get_or walks i walk → shown ≡ walk → IsLanding node t shown None → (arrivals : List Arrival) → AreWalksOn node t walks arrivals → ⊥
not_raised node t walks i walk shown lt is same none arrivals are =
    let found = walk_among node t walks arrivals i walk are lt is in
    none found.0.operation found.0.total (subst (λ (l : List Op). EndsIn l (record { train = t; op = found.0.operation })) (sym same) found.1) (subst (λ (l : List Op). IsWalk node l found.0.total) (sym same) found.2)

-- ---- where a walk ends

pub landing_nowhere : (node : Node) (t : ℕ) (walk : List Op) (found : Option Op) → ((o : Op) → (found ≡ Some o) ↔ EndsIn walk o) → ((o : Op) → found ≡ Some o → o.train ≡ t → ⊥) → IsLanding node t walk None
landing_nowhere node t walk found says other o n ends is = other (record { train = t; op = o }) ((says (record { train = t; op = o })).1 ends) refl

pub landing_no_walk : (node : Node) (t : ℕ) (walk : List Op) (found : Option ℕ) → ((n : ℕ) → (found ≡ Some n) ↔ IsWalk node walk n) → found ≡ None → IsLanding node t walk None
landing_no_walk node t walk found says none o n ends is = none-some n (sym none ∙ (says n).1 is)

pub landing_is : (node : Node) (t : ℕ) (walk : List Op) (end : Op) (total : ℕ) → EndsIn walk end → end.train ≡ t → IsWalk node walk total → total ≤ 2 ^ 127 → IsLanding node t walk (Some (record { operation = end.op; total = total }))
landing_is node t walk end total ends same is small = (subst (λ (u : ℕ). EndsIn walk (record { train = u; op = end.op })) same ends, is, small)

-- ---- lowers

pub none_lowers : (problem : Problem) (fixings : List Fixing) (t : ℕ) (bases : List ℕ) → bases ≡ [] → AreLowers problem fixings t 0 bases
none_lowers problem fixings t bases none = rw none (record { long = refl; are = λ o lt. absurd (omega (arith, lt)); small = λ o. omega arith })

pub lowers_more : (problem : Problem) (fixings : List Fixing) (t i : ℕ) (bases : List ℕ) (lower : ℕ) → lower ≡ lower_of problem fixings (record { train = t; op = i }) → lower < 2 ^ 64 → AreLowers problem fixings t i bases
    → AreLowers problem fixings t (i + 1) (bases ++ lower ∷ [])
lowers_more problem fixings t i bases lower is low before = record {
  long = length_push bases lower ∙ ap (λ (n : ℕ). n + 1) before.long;
  are = λ o lt. elim (cases_lt o i) [
    | inl early ↦ get_or_append_left bases (lower ∷ []) 0 o (omega (arith, early, before.long)) ∙ before.are o early
    | inr late ↦
        let same : i ≡ o = omega (arith, lt, late) in
        subst (λ (p : ℕ). slice_index (bases ++ lower ∷ []) p ≡ lower_of problem fixings (record { train = t; op = p })) same (get_or_push bases lower 0 i before.long ∙ is)
  ];
  small = λ o. elim (cases_lt o i) [
    | inl early ↦ omega (arith, get_or_append_left bases (lower ∷ []) 0 o (omega (arith, early, before.long)), before.small o)
    | inr late ↦ elim (cases_lt i o) [
      | inl past ↦ omega (arith, get_or_past (bases ++ lower ∷ []) o 0 (omega (arith, past, length_push bases lower, before.long)))
      | inr at ↦ let same : i ≡ o = omega (arith, late, at) in subst (λ (p : ℕ). slice_index (bases ++ lower ∷ []) p ≤ 2 ^ 64) same (omega (arith, get_or_push bases lower 0 i before.long, low))
    ]
  ];
}
