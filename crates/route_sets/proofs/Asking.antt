-- What a demand adds to what is asked of a train's routes.
use Rattle.std.proofs.Common.{◌≡◌, ℕ, zero, suc, ◌+◌, ◌<◌, ◌≤◌, List, [], ◌∷◌, ◌++◌, length, take, get_or, set, replicate, cond, Option, Some, None, Bool, true, false, refl, sym, ap, subst, ◌∙◌, inl, inr, arith}
use Rattle.std.specs.Prelude.{nat_eq, Contains, All, ◌↔◌, ◌||◌, not, ◌⊎◌}
use Rattle.std.proofs.lemmas.Bool.{cases_Bool, eqb-true, eqb-false, eq-eqb, false≢true}
use Rattle.std.proofs.lemmas.Option.{none-some, same_Some}
use Rattle.std.proofs.lemmas.List.{length-set, length-replicate, get_or-set_same, get_or-set_other, take_more}
use Rattle.std.proofs.lemmas.List.Elements.{All-nil, All-push, All-pop}
use Rattle.disp_model.specs.declared.fixing.Fixing.{Fixing}
use Rattle.disp_model.specs.declared.fixing.Fixing.TheVariants.{Started, Chosen, NotBefore}
use Rattle.disp_model.specs.declared.decision.Decision.{Decision}
use Rattle.disp_model.specs.declared.decision.Decision.TheVariants.{Go, First, Run, Skip}
use Rattle.disp_model.specs.Fixing.{after}
use Rattle.disp_model.specs.Routes.{AgreesWithFixing, AgreesWithDecision}
use Rattle.disp_laws.proofs.Paths.{IsIn, contains_in}
use Rattle.route_sets.specs.declared.asks.Ask.{Ask}
use Rattle.route_sets.specs.declared.asks.Demand.{Demand}
use Rattle.route_sets.specs.Asks.{MeetsAsk, free, ask_at, AreMet, AreWithinTrain, differ, first_some, joined, demand_of_fixing, demand_of_decision, TakesAsks, AreAsks}

-- ---- what is followed is there

after_in : (o n : ℕ) (route : List ℕ) → after o route ≡ Some n → IsIn o route
after_in o n [] e = absurd (none-some n e)
after_in o n (p ∷ []) e = absurd (none-some n e)
after_in o n (p ∷ q ∷ rest) e = elim (cases_Bool (nat_eq p o)) [
  | inl is ↦ inl (eqb-true p o is)
  | inr is ↦ inr (after_in o n (q ∷ rest) (rw is at e))
]

pub after_contains : (o n : ℕ) (route : List ℕ) → after o route ≡ Some n → Contains route o
after_contains o n route e = contains_in o route (after_in o n route e)

-- ---- single demands

meets_free : (route : List ℕ) (o : ℕ) → MeetsAsk route o free
meets_free route o = record { wanted = λ e. absurd (false≢true e); skipped = λ e there. false≢true e; next = λ n e there. absurd (none-some n e) }

meets_visited : (route : List ℕ) (o : ℕ) → Contains route o ↔ MeetsAsk route o (record { wanted = true; skipped = false; next = None })
meets_visited route o = (
  λ there. record { wanted = λ e. there; skipped = λ e there. false≢true e; next = λ n e there. absurd (none-some n e) },
  λ met. met.wanted refl,
)

meets_chosen : (route : List ℕ) (o next : ℕ) → (after o route ≡ Some next) ↔ MeetsAsk route o (record { wanted = true; skipped = false; next = Some next })
meets_chosen route o next = (
  λ is. record { wanted = λ e. after_contains o next route is; skipped = λ e there. false≢true e; next = λ n e there. is ∙ e },
  λ met. met.next next refl (met.wanted refl),
)

meets_followed : (route : List ℕ) (o next : ℕ) → (Contains route o → after o route ≡ Some next) ↔ MeetsAsk route o (record { wanted = false; skipped = false; next = Some next })
meets_followed route o next = (
  λ is. record { wanted = λ e. absurd (false≢true e); skipped = λ e there. false≢true e; next = λ n e there. is there ∙ e },
  λ met there. met.next next refl there,
)

meets_skipped : (route : List ℕ) (o : ℕ) → (Contains route o → ⊥) ↔ MeetsAsk route o (record { wanted = false; skipped = true; next = None })
meets_skipped route o = (
  λ not_there. record { wanted = λ e. absurd (false≢true e); skipped = λ e there. not_there there; next = λ n e there. absurd (none-some n e) },
  λ met there. met.skipped refl there,
)

-- a demand of a train alone, by a test of its number
demanded : (u t : ℕ) (route : List ℕ) (op : ℕ) (ask : Ask) (P : Type 0) → (P ↔ MeetsAsk route op ask)
    → (u ≡ t → P) ↔ MeetsAsk route (cond {A = Demand} (nat_eq u t) (record { op = op; ask = ask }) (record { op = 0; ask = free })).op (cond {A = Demand} (nat_eq u t) (record { op = op; ask = ask }) (record { op = 0; ask = free })).ask
demanded u t route op ask P says = elim (cases_Bool (nat_eq u t)) [
  | inl is ↦ rw is (λ h. says.0 (h (eqb-true u t is)), λ met e. says.1 met)
  | inr is ↦ rw is (λ h. meets_free route 0, λ met e. absurd (eqb-false u t is e))
]

pub fixing_asks : (t : ℕ) (route : List ℕ) (fixing : Fixing) → AgreesWithFixing t route fixing ↔ MeetsAsk route (demand_of_fixing t fixing).op (demand_of_fixing t fixing).ask
fixing_asks t route (Started u o time) = demanded u t route o (record { wanted = true; skipped = false; next = None }) (Contains route o) (meets_visited route o)
fixing_asks t route (Chosen u o next) = demanded u t route o (record { wanted = true; skipped = false; next = Some next }) (after o route ≡ Some next) (meets_chosen route o next)
fixing_asks t route (NotBefore u o time) = (λ h. meets_free route 0, λ met. tt)

pub decision_asks : (t : ℕ) (route : List ℕ) (decision : Decision) → AgreesWithDecision t route decision ↔ MeetsAsk route (demand_of_decision t decision).op (demand_of_decision t decision).ask
decision_asks t route (Go o next) = demanded o.train t route o.op (record { wanted = false; skipped = false; next = Some next }) (Contains route o.op → after o.op route ≡ Some next) (meets_followed route o.op next)
decision_asks t route (First a b) = (λ h. meets_free route 0, λ met. tt)
decision_asks t route (Run o) = demanded o.train t route o.op (record { wanted = true; skipped = false; next = None }) (Contains route o.op) (meets_visited route o.op)
decision_asks t route (Skip o) = demanded o.train t route o.op (record { wanted = false; skipped = true; next = None }) (Contains route o.op → ⊥) (meets_skipped route o.op)

-- ---- joined demands

or_true : (a b : Bool) → (a || b) ≡ true → (a ≡ true) ⊎ (b ≡ true)
or_true true b e = inl refl
or_true false b e = inr e

or_left : (a b : Bool) → a ≡ true → (a || b) ≡ true
or_left true b e = refl
or_left false b e = absurd (false≢true e)

or_right : (a b : Bool) → b ≡ true → (a || b) ≡ true
or_right true b e = refl
or_right false b e = e

-- what both ask for is one operation, or a route has not the one that they ask it of
both_next : (route : List ℕ) (o : ℕ) (a b : Option ℕ) → ((n : ℕ) → a ≡ Some n → Contains route o → after o route ≡ Some n) → ((n : ℕ) → b ≡ Some n → Contains route o → after o route ≡ Some n)
    → differ a b ≡ true → Contains route o → ⊥
both_next route o None b one other e there = false≢true e
both_next route o (Some n) None one other e there = false≢true e
both_next route o (Some n) (Some m) one other e there =
    let same : n ≡ m = same_Some n m (sym (one n refl there) ∙ other m refl there) in
    false≢true (sym (ap not (eq-eqb n m same)) ∙ e)

joined_next : (route : List ℕ) (o : ℕ) (a b : Option ℕ) → ((n : ℕ) → a ≡ Some n → Contains route o → after o route ≡ Some n) → ((n : ℕ) → b ≡ Some n → Contains route o → after o route ≡ Some n)
    → (n : ℕ) → first_some a b ≡ Some n → Contains route o → after o route ≡ Some n
joined_next route o None b one other n e there = other n e there
joined_next route o (Some m) b one other n e there = one n e there

next_left : (route : List ℕ) (o : ℕ) (a b : Option ℕ) → ((n : ℕ) → first_some a b ≡ Some n → Contains route o → after o route ≡ Some n)
    → (n : ℕ) → a ≡ Some n → Contains route o → after o route ≡ Some n
next_left route o None b both n e there = absurd (none-some n e)
next_left route o (Some m) b both n e there = both n e there

next_right : (route : List ℕ) (o : ℕ) (a b : Option ℕ) → ((n : ℕ) → first_some a b ≡ Some n → Contains route o → after o route ≡ Some n) → (differ a b ≡ true → Contains route o → ⊥)
    → (n : ℕ) → b ≡ Some n → Contains route o → after o route ≡ Some n
next_right route o None b both not_differ n e there = both n e there
next_right route o (Some m) None both not_differ n e there = absurd (none-some n e)
next_right route o (Some m) (Some k) both not_differ n e there = elim (cases_Bool (nat_eq m k)) [
  | inl is ↦ both n (ap Some (eqb-true m k is) ∙ e) there
  | inr is ↦ absurd (not_differ (ap not is) there)
]

pub joined_met : (route : List ℕ) (o : ℕ) (a b : Ask) → (MeetsAsk route o a × MeetsAsk route o b) ↔ MeetsAsk route o (joined a b)
joined_met route o a b = (
  λ h. record {
    wanted = λ e. elim (or_true a.wanted b.wanted e) [ inl is ↦ h.0.wanted is | inr is ↦ h.1.wanted is ];
    skipped = λ e there. elim (or_true (a.skipped || b.skipped) (differ a.next b.next) e) [
      | inl is ↦ elim (or_true a.skipped b.skipped is) [ inl one ↦ h.0.skipped one there | inr other ↦ h.1.skipped other there ]
      | inr is ↦ both_next route o a.next b.next h.0.next h.1.next is there
    ];
    next = joined_next route o a.next b.next h.0.next h.1.next;
  },
  λ met. (
    record { wanted = λ e. met.wanted (or_left a.wanted b.wanted e); skipped = λ e. met.skipped (or_left (a.skipped || b.skipped) (differ a.next b.next) (or_left a.skipped b.skipped e)); next = next_left route o a.next b.next met.next },
    record {
      wanted = λ e. met.wanted (or_right a.wanted b.wanted e);
      skipped = λ e. met.skipped (or_left (a.skipped || b.skipped) (differ a.next b.next) (or_right a.skipped b.skipped e));
      next = next_right route o a.next b.next met.next (λ e. met.skipped (or_right (a.skipped || b.skipped) (differ a.next b.next) e));
    },
  ),
)

-- ---- a demand is added

pub adds : (asks : List Ask) (o : ℕ) (ask : Ask) → o < length asks → TakesAsks (λ route. MeetsAsk route o ask) asks (set asks o (joined (ask_at asks o) ask))
adds asks o ask lt = record {
  long = length-set asks o more;
  both = λ route within. (
    λ h p. elim (cases_Bool (nat_eq p o)) [
      | inl same ↦ subst (λ (x : ℕ). MeetsAsk route x (ask_at (set asks o more) x)) (sym (eqb-true p o same)) (subst (MeetsAsk route o) (sym (get_or-set_same asks o more free lt)) ((joined_met route o (ask_at asks o) ask).0 (h.0 o, h.1)))
      | inr other ↦ subst (MeetsAsk route p) (sym (get_or-set_other asks o p more free (λ e. eqb-false p o other e))) (h.0 p)
    ],
    λ met. (λ p. back route met p, (own route met).1),
  );
}
  where
    more : Ask
    more = joined (ask_at asks o) ask

    own : (route : List ℕ) → AreMet (set asks o more) route → MeetsAsk route o (ask_at asks o) × MeetsAsk route o ask
    own route met = (joined_met route o (ask_at asks o) ask).1 (subst (MeetsAsk route o) (get_or-set_same asks o more free lt) (met o))

    back : (route : List ℕ) → AreMet (set asks o more) route → (p : ℕ) → MeetsAsk route p (ask_at asks p)
    back route met p = elim (cases_Bool (nat_eq p o)) [
      | inl same ↦ subst (λ (x : ℕ). MeetsAsk route x (ask_at asks x)) (sym (eqb-true p o same)) (own route met).0
      | inr other ↦ subst (MeetsAsk route p) (get_or-set_other asks o p more free (λ e. eqb-false p o other e)) (met p)
    ]

-- the first operation is asked what no route can do, where one is wanted that is not there
pub adds_past : (asks : List Ask) (o : ℕ) (ask impossible : Ask) → length asks ≤ o → 0 < length asks → ask.wanted ≡ true → impossible.wanted ≡ true → impossible.skipped ≡ true
    → TakesAsks (λ route. MeetsAsk route o ask) asks (set asks 0 impossible)
adds_past asks o ask impossible past some wanted to_have to_skip = record {
  long = length-set asks 0 impossible;
  both = λ route within. (
    λ h. absurd (omega (arith, past, within o (h.1.wanted wanted))),
    λ met. absurd (refused route (subst (MeetsAsk route 0) (get_or-set_same asks 0 impossible free some) (met 0))),
  );
}
  where
    refused : (route : List ℕ) → MeetsAsk route 0 impossible → ⊥
    refused route met = met.skipped to_skip (met.wanted to_have)

pub adds_nothing : (asks : List Ask) (o : ℕ) (ask : Ask) → length asks ≤ o → ask.wanted ≡ false → TakesAsks (λ route. MeetsAsk route o ask) asks asks
adds_nothing asks o ask past not_wanted = record {
  long = refl;
  both = λ route within. (
    λ h. h.0,
    λ met. (
      met,
      record {
        wanted = λ e. absurd (false≢true (sym not_wanted ∙ e));
        skipped = λ e there. omega (arith, past, within o there);
        next = λ n e there. absurd (omega (arith, past, within o there));
      },
    ),
  );
}

-- ---- one after another

pub takes_none : {X : Type 0} (Agrees : List ℕ → X → Type 0) (asks : List Ask) → TakesAsks (λ route. All (Agrees route) []) asks asks
takes_none Agrees asks = record { long = refl; both = λ route within. (λ h. h.0, λ met. (met, All-nil (Agrees route))) }

pub takes_more : {X : Type 0} (Agrees : List ℕ → X → Type 0) (demand_of : X → Demand) (xs : List X) (i : ℕ) (d : X) (demand : Demand) (old mid new : List Ask) → i < length xs
    → ((route : List ℕ) (x : X) → Agrees route x ↔ MeetsAsk route (demand_of x).op (demand_of x).ask) → demand ≡ demand_of (get_or xs i d)
    → TakesAsks (λ route. All (Agrees route) (take i xs)) old mid → TakesAsks (λ route. MeetsAsk route demand.op demand.ask) mid new → TakesAsks (λ route. All (Agrees route) (take (i + 1) xs)) old new
takes_more Agrees demand_of xs i d demand old mid new lt asks is before added = rw (take_more xs i d lt) (record {
  long = added.long ∙ before.long;
  both = λ route within. (
    λ h. let both = pushed route h.1 in (added.both route (inside route within)).0 ((before.both route within).0 (h.0, both.0), (says route).0 both.1),
    λ met.
        let late = (added.both route (inside route within)).1 met in
        let early = (before.both route within).1 late.0 in
        (early.0, All-push (Agrees route) (take i xs) (get_or xs i d) early.1 ((says route).1 late.1)),
  );
})
  where
    says : (route : List ℕ) → Agrees route (get_or xs i d) ↔ MeetsAsk route demand.op demand.ask
    says route = rw is (asks route (get_or xs i d))

    pushed : (route : List ℕ) → All (Agrees route) (take i xs ++ get_or xs i d ∷ []) → All (Agrees route) (take i xs) × Agrees route (get_or xs i d)
    pushed route h = All-pop (Agrees route) (take i xs ++ get_or xs i d ∷ []) (take i xs) (Some (get_or xs i d)) refl h

    inside : (route : List ℕ) → AreWithinTrain (length old) route → AreWithinTrain (length mid) route
    inside route within o there = omega (arith, within o there, before.long)

free_at : (count o : ℕ) → ask_at (replicate count free) o ≡ free
free_at zero o = refl
free_at (suc count) zero = refl
free_at (suc count) (suc o) = free_at count o

pub asks_all : (count t : ℕ) (fixings : List Fixing) (decisions : List Decision) (first second third : List Ask) → first ≡ replicate count free
    → TakesAsks (λ route. All (AgreesWithFixing t route) fixings) first second → TakesAsks (λ route. All (AgreesWithDecision t route) decisions) second third → AreAsks count t fixings decisions third
asks_all count t fixings decisions first second third none fixed decided = record {
  long = decided.long ∙ fixed.long ∙ long;
  met = λ route within. (
    λ h. (decided.both route (two route within)).0 ((fixed.both route (one route within)).0 (λ o. subst (λ (l : List Ask). MeetsAsk route o (ask_at l o)) (sym none) (subst (MeetsAsk route o) (sym (free_at count o)) (meets_free route o)), h.0), h.1),
    λ met.
        let late = (decided.both route (two route within)).1 met in
        (((fixed.both route (one route within)).1 late.0).1, late.1),
  );
}
  where
    long : length first ≡ count
    long = ap (λ (l : List Ask). length l) none ∙ length-replicate count free

    one : (route : List ℕ) → AreWithinTrain count route → AreWithinTrain (length first) route
    one route within o there = omega (arith, within o there, long)

    two : (route : List ℕ) → AreWithinTrain count route → AreWithinTrain (length second) route
    two route within o there = omega (arith, within o there, long, fixed.long)
