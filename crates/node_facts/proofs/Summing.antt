-- The least sums of ways, one operation after another.
use Rattle.std.proofs.Common.{◌≡◌, ℕ, zero, suc, ◌+◌, ◌*◌, ◌^◌, ◌<◌, ◌≤◌, ◌⊎◌, List, [], ◌∷◌, ◌++◌, length, take, get_or, set, replicate, Option, Some, None, refl, sym, ap, subst, ◌∙◌, inl, inr, arith}
use Rattle.std.specs.Prelude.{slice_get, Contains, min, ◌↔◌, IfSome}
use Rattle.std.specs.Option.{option_map_or}
use Rattle.std.proofs.lemmas.Bool.{cases_lt}
use Rattle.std.proofs.lemmas.Option.{none-some, same_Some, slice_get-get_or}
use Rattle.std.proofs.lemmas.List.{length-set, take_more, take_all, get_or-set_same, get_or-set_other, get_or_past}
use Rattle.std.proofs.lemmas.List.Elements.{Contains-append_left, Contains-push, Contains-push_cases}
use Rattle.disp_model.specs.declared.train.Operation.{Operation}
use Rattle.disp_model.specs.Train.{next_of, duration_of, IsSuccessor}
use Rattle.disp_laws.proofs.RouteSearch.{within_train}
use Rattle.train_orders.specs.Orders.{IsBehind, IsOrder}
use Rattle.train_orders.proofs.Searching.{next_at}
use Rattle.train_orders.proofs.Places.{contains_at, contains_none, same_number}
use Rattle.node_facts.specs.declared.demands.Demand.{Demand}
use Rattle.node_facts.specs.Ways.{MayGo, IsWay, way_sum, IsLeastSuch, IsLeastOf, lesser, HasSum, AreSums, IsOnward, GoesOnward, IsSumBy}
use Rattle.route_marks.specs.Marks.{sum_at}

-- ---- the least of numbers

-- what has a lesser number on each side has one least
pub least_same : (P Q : ℕ → Type 0) (least : Option ℕ) → ((n : ℕ) → P n → Q n) → ((n : ℕ) → Q n → (m : ℕ) × P m × (m ≤ n)) → IsLeastOf P least → IsLeastOf Q least
least_same P Q None to from is = λ n h. let lower = from n h in is lower.0 lower.1
least_same P Q (Some least) to from is = record { reached = to least is.reached; at_most = λ n h. let lower = from n h in omega (arith, is.at_most lower.0 lower.1, lower.2) }

least_two : (P Q R : ℕ → Type 0) (sum other : Option ℕ) → IsLeastOf P sum → ((n : ℕ) → (other ≡ Some n) ↔ Q n) → ((n : ℕ) → R n ↔ (P n ⊎ Q n)) → IsLeastOf R (lesser sum other)
least_two P Q R None None is says means = λ n h. elim ((means n).0 h) [ inl p ↦ is n p | inr q ↦ none-some n ((says n).1 q) ]
least_two P Q R None (Some m) is says means = record {
  reached = (means m).1 (inr ((says m).0 refl));
  at_most = λ n h. elim ((means n).0 h) [ inl p ↦ absurd (is n p) | inr q ↦ omega (arith, same_Some m n ((says n).1 q)) ];
}
least_two P Q R (Some k) None is says means = record {
  reached = (means k).1 (inl is.reached);
  at_most = λ n h. elim ((means n).0 h) [ inl p ↦ is.at_most n p | inr q ↦ absurd (none-some n ((says n).1 q)) ];
}
least_two P Q R (Some k) (Some m) is says means = record {
  reached = elim (cases_lt k m) [
    | inl lt ↦ let e : min k m ≡ k = omega (arith, lt) in subst R (sym e) ((means k).1 (inl is.reached))
    | inr ge ↦ let e : min k m ≡ m = omega (arith, ge) in subst R (sym e) ((means m).1 (inr ((says m).0 refl)))
  ];
  at_most = λ n h. elim ((means n).0 h) [ inl p ↦ omega (arith, is.at_most n p) | inr q ↦ omega (arith, same_Some m n ((says n).1 q)) ];
}

-- ---- the operations that come next, one after another

pub onward_none : (places : List ℕ) (demands : List Demand) (sums : List (Option ℕ)) (o : ℕ) → IsLeastOf (GoesOnward places demands sums o []) None
onward_none places demands sums o n goes = contains_none goes.next goes.is_next

pub onward_more : (places : List ℕ) (demands : List Demand) (sums : List (Option ℕ)) (o : ℕ) (nexts : List ℕ) (i d : ℕ) (least other : Option ℕ) → i < length nexts
    → ((n : ℕ) → (other ≡ Some n) ↔ IsOnward places demands sums o (get_or nexts i d) n) → IsLeastOf (GoesOnward places demands sums o (take i nexts)) least
    → IsLeastOf (GoesOnward places demands sums o (take (i + 1) nexts)) (lesser least other)
onward_more places demands sums o nexts i d least other lt says before =
    least_two (GoesOnward places demands sums o (take i nexts)) (IsOnward places demands sums o x) (GoesOnward places demands sums o (take (i + 1) nexts)) least other before says (λ n. rw (take_more nexts i d lt) (parts n, whole n))
  where
    x : ℕ
    x = get_or nexts i d

    parts : (n : ℕ) → GoesOnward places demands sums o (take i nexts ++ x ∷ []) n → GoesOnward places demands sums o (take i nexts) n ⊎ IsOnward places demands sums o x n
    parts n goes = elim (Contains-push_cases (take i nexts) x goes.next goes.is_next) [
      | inl early ↦ inl (record { next = goes.next; is_next = early; onward = goes.onward })
      | inr e ↦ inr (subst (λ (s : ℕ). IsOnward places demands sums o s n) (sym e) goes.onward)
    ]

    whole : (n : ℕ) → GoesOnward places demands sums o (take i nexts) n ⊎ IsOnward places demands sums o x n → GoesOnward places demands sums o (take i nexts ++ x ∷ []) n
    whole n (inl goes) = record { next = goes.next; is_next = Contains-append_left (take i nexts) (x ∷ []) goes.next goes.is_next; onward = goes.onward }
    whole n (inr goes) = record { next = x; is_next = Contains-push (take i nexts) x; onward = goes }

pub onward_all : (places : List ℕ) (demands : List Demand) (sums : List (Option ℕ)) (o : ℕ) (nexts : List ℕ) (i : ℕ) (least : Option ℕ) → length nexts ≤ i
    → IsLeastOf (GoesOnward places demands sums o (take i nexts)) least → IsLeastOf (GoesOnward places demands sums o nexts) least
onward_all places demands sums o nexts i least past is = subst (λ (l : List ℕ). IsLeastOf (GoesOnward places demands sums o l) least) (take_all i nexts past) is

-- ---- an operation by its successors

nothing_in : (x : ℕ) (xs : List ℕ) → xs ≡ [] → Contains xs x → ⊥
nothing_in x xs e there = contains_none x (subst (λ (l : List ℕ). Contains l x) e there)

pub by_end : (operation : Operation) (places : List ℕ) (demands : List Demand) (sums : List (Option ℕ)) (o : ℕ) → operation.next ≡ [] → MayGo places demands o None → IsLeastOf (IsSumBy operation places demands sums o) (Some 0)
by_end operation places demands sums o last may = record { reached = inl (record { last = last; may = may; sum_is = refl }); at_most = λ n h. omega arith }

pub by_no_end : (operation : Operation) (places : List ℕ) (demands : List Demand) (sums : List (Option ℕ)) (o : ℕ) → operation.next ≡ [] → (MayGo places demands o None → ⊥) → IsLeastOf (IsSumBy operation places demands sums o) None
by_no_end operation places demands sums o last never n (inl end) = never end.may
by_no_end operation places demands sums o last never n (inr over) = nothing_in over.onward.next operation.next last over.onward.is_next

pub by_none : (operation : Operation) (places : List ℕ) (demands : List Demand) (sums : List (Option ℕ)) (o : ℕ) → (operation.next ≡ [] → ⊥) → IsLeastOf (GoesOnward places demands sums o operation.next) None
    → IsLeastOf (IsSumBy operation places demands sums o) None
by_none operation places demands sums o some is n (inl end) = some end.last
by_none operation places demands sums o some is n (inr over) = is over.behind over.onward

pub by_some : (operation : Operation) (places : List ℕ) (demands : List Demand) (sums : List (Option ℕ)) (o least : ℕ) → (operation.next ≡ [] → ⊥) → IsLeastSuch (GoesOnward places demands sums o operation.next) least
    → IsLeastSuch (IsSumBy operation places demands sums o) (operation.min + least)
by_some operation places demands sums o least some is = record {
  reached = inr (record { behind = least; onward = is.reached; sum_is = refl });
  at_most = λ n h. elim h [ inl end ↦ absurd (some end.last) | inr over ↦ omega (arith, is.at_most over.behind over.onward, over.sum_is) ];
}

pub by_some_small : (places : List ℕ) (demands : List Demand) (sums : List (Option ℕ)) (o least most : ℕ) (nexts : List ℕ) → IsLeastSuch (GoesOnward places demands sums o nexts) least → ((s n : ℕ) → sum_at sums s ≡ Some n → n ≤ most) → least ≤ most
by_some_small places demands sums o least most nexts is small = small is.reached.next least is.reached.onward.known

-- ---- the sums so far

pub record AreSummed (train : List Operation) (order places : List ℕ) (demands : List Demand) (i : ℕ) (sums : List (Option ℕ)) : Type 0 where
  pub long : length sums ≡ length train
  pub are : (o : ℕ) → Contains (take i order) o → IsLeastOf (HasSum train places demands o) (sum_at sums o)
  pub small : (o n : ℕ) → sum_at sums o ≡ Some n → n ≤ i * 2 ^ 32

min_at : (train : List Operation) (at : ℕ) (operation : Operation) → operation ≡ get_or train at operation → at < length train → duration_of train at ≡ operation.min
min_at train at operation is lt = ap (λ (found : Option Operation). option_map_or (λ p. p.min) found 0) (slice_get-get_or train at operation lt ∙ ap Some (sym is))

-- a way from an operation whose successors' sums are known
pub sum_by_ways : (train : List Operation) (order places : List ℕ) (demands : List Demand) (i o : ℕ) (sums : List (Option ℕ)) (operation : Operation) (sum : Option ℕ)
    → IsBehind train order → slice_get order i ≡ Some o → AreSummed train order places demands i sums → next_of train o ≡ operation.next → duration_of train o ≡ operation.min
    → IsLeastOf (IsSumBy operation places demands sums o) sum → IsLeastOf (HasSum train places demands o) sum
sum_by_ways train order places demands i o sums operation sum behind here before nexts min_is is = least_same (IsSumBy operation places demands sums o) (HasSum train places demands o) sum to from is
  where
    there : o < length train
    there = behind.within o (contains_at order o i here)

    known : (s : ℕ) → IsSuccessor train o s → IsLeastOf (HasSum train places demands s) (sum_at sums s)
    known s next = before.are s (behind.behind i o s here next)

    to : (n : ℕ) → IsSumBy operation places demands sums o n → HasSum train places demands o n
    to n (inl end) = record { rest = []; way = (record { there = there; last = nexts ∙ end.last }, end.may); sum_is = sym end.sum_is }
    to n (inr over) = onward (known s next)
      where
        s : ℕ
        s = over.onward.next

        next : IsSuccessor train o s
        next = subst (λ (l : List ℕ). Contains l s) (sym nexts) over.onward.is_next

        onward : IsLeastOf (HasSum train places demands s) (sum_at sums s) → HasSum train places demands o n
        onward least =
            let way = (subst (λ (found : Option ℕ). IsLeastOf (HasSum train places demands s) found) over.onward.onward.known least).reached in
            record { rest = s ∷ way.rest; way = (next, over.onward.onward.may, way.way); sum_is = omega (arith, way.sum_is, min_is, over.sum_is) }

    lower : (s n : ℕ) (found : Option ℕ) → IsLeastOf (HasSum train places demands s) found → HasSum train places demands s n → (m : ℕ) × (found ≡ Some m) × (m ≤ n)
    lower s n None is h = absurd (is n h)
    lower s n (Some m) is h = (m, refl, is.at_most n h)

    from : (n : ℕ) → HasSum train places demands o n → (m : ℕ) × IsSumBy operation places demands sums o m × (m ≤ n)
    from n has = by has.rest has.way has.sum_is
      where
        by : (rest : List ℕ) → IsWay train places demands o rest → way_sum train o rest ≡ n → (m : ℕ) × IsSumBy operation places demands sums o m × (m ≤ n)
        by [] way sum_is = (0, inl (record { last = sym nexts ∙ way.0.last; may = way.1; sum_is = refl }), omega arith)
        by (s ∷ rest) way sum_is =
            let found = lower s (way_sum train s rest) (sum_at sums s) (known s way.0) (record { rest = rest; way = way.2; sum_is = refl }) in (
              operation.min + found.0,
              inr (record {
                behind = found.0;
                onward = record { next = s; is_next = subst (λ (l : List ℕ). Contains l s) nexts way.0; onward = record { may = way.1; known = found.1 } };
                sum_is = refl;
              }),
              omega (arith, found.2, sum_is, min_is),
            )

-- ---- one more operation

pub summed_more : (train : List Operation) (order places : List ℕ) (demands : List Demand) (i : ℕ) (sums read : List (Option ℕ)) (operation : Operation) (sum : Option ℕ) → IsOrder train order → i < length order
    → AreSummed train order places demands i sums → read ≡ sums → operation ≡ get_or train (get_or order i 0) operation → IsLeastOf (IsSumBy operation places demands read (get_or order i 0)) sum
    → ((most : ℕ) → ((s n : ℕ) → sum_at read s ≡ Some n → n ≤ most) → IfSome sum (λ n. n ≤ most + 2 ^ 32)) → AreSummed train order places demands (i + 1) (set sums (get_or order i 0) sum)
summed_more train order places demands i sums read operation sum is lt before same found least rises = record {
  long = length-set sums o sum ∙ before.long;
  are = λ p there. elim (same_number p o) [
    | inl e ↦ subst (λ (x : ℕ). IsLeastOf (HasSum train places demands x) (sum_at (set sums o sum) x)) (sym e) (subst (λ (v : Option ℕ). IsLeastOf (HasSum train places demands o) v) (sym (get_or-set_same sums o sum None within)) own)
    | inr other ↦ subst (λ (v : Option ℕ). IsLeastOf (HasSum train places demands p) v) (sym (get_or-set_other sums o p sum None other)) (before.are p (earlier p other there))
  ];
  small = λ p n at. elim (same_number p o) [
    | inl e ↦ bounded n sum (rises (i * 2 ^ 32) (λ s k known. before.small s k (subst (λ (l : List (Option ℕ)). sum_at l s ≡ Some k) same known))) (sym (get_or-set_same sums o sum None within) ∙ subst (λ (x : ℕ). sum_at (set sums o sum) x ≡ Some n) e at)
    | inr other ↦ omega (arith, before.small p n (sym (get_or-set_other sums o p sum None other) ∙ at))
  ];
}
  where
    o : ℕ
    o = get_or order i 0

    here : slice_get order i ≡ Some o
    here = slice_get-get_or order i 0 lt

    there : o < length train
    there = is.is_behind.within o (contains_at order o i here)

    within : o < length sums
    within = omega (arith, there, before.long)

    by_known : IsLeastOf (IsSumBy operation places demands sums o) sum
    by_known = subst (λ (l : List (Option ℕ)). IsLeastOf (IsSumBy operation places demands l o) sum) same least

    own : IsLeastOf (HasSum train places demands o) sum
    own = sum_by_ways train order places demands i o sums operation sum is.is_behind here before (next_at train o operation found there) (min_at train o operation found there) by_known

    earlier : (p : ℕ) → (p ≡ o → ⊥) → Contains (take (i + 1) order) p → Contains (take i order) p
    earlier p other at = elim (Contains-push_cases (take i order) o p (subst (λ (l : List ℕ). Contains l p) (take_more order i 0 lt) at)) [ inl early ↦ early | inr e ↦ absurd (other (sym e)) ]

    bounded : (n : ℕ) (sum : Option ℕ) → IfSome sum (λ n. n ≤ i * 2 ^ 32 + 2 ^ 32) → sum ≡ Some n → n ≤ (i + 1) * 2 ^ 32
    bounded n None within e = absurd (none-some n e)
    bounded n (Some m) within e = omega (arith, same_Some m n e, within)

pub nothing_summed : (train : List Operation) (order places : List ℕ) (demands : List Demand) (sums : List (Option ℕ)) → length sums ≡ length train → sums ≡ replicate (length train) None → AreSummed train order places demands 0 sums
nothing_summed train order places demands sums long none = record {
  long = long;
  are = λ o there. absurd (contains_none o there);
  small = λ o n at. absurd (nothing (length train) o n (subst (λ (l : List (Option ℕ)). sum_at l o ≡ Some n) none at));
}
  where
    nothing : (k o n : ℕ) → sum_at (replicate k None) o ≡ Some n → ⊥
    nothing zero o n at = none-some n at
    nothing (suc k) zero n at = none-some n at
    nothing (suc k) (suc o) n at = nothing k o n at

pub summed_all : (train : List Operation) (order places : List ℕ) (demands : List Demand) (i : ℕ) (sums : List (Option ℕ)) → IsOrder train order → length order ≤ i → AreSummed train order places demands i sums → AreSums train places demands sums
summed_all train order places demands i sums is past summed o = elim (cases_lt o (length train)) [
  | inl lt ↦ summed.are o (subst (λ (l : List ℕ). Contains l o) (sym (take_all i order past)) (is.has o lt))
  | inr past ↦ subst (λ (v : Option ℕ). IsLeastOf (HasSum train places demands o) v) (sym (get_or_past sums o None (omega (arith, summed.long, past)))) (λ n has. omega (arith, past, no_way has.rest has.way))
]
  where
    no_way : (rest : List ℕ) → IsWay train places demands o rest → o < length train
    no_way [] way = way.0.there
    no_way (s ∷ rest) way = within_train train o s way.0

pub within_order : (train : List Operation) (order : List ℕ) (i : ℕ) → IsOrder train order → i < length order → get_or order i 0 < length train
within_order train order i is lt = is.is_behind.within (get_or order i 0) (contains_at order (get_or order i 0) i (slice_get-get_or order i 0 lt))

pub not_empty : (xs : List ℕ) (n : ℕ) → n ≡ length xs → (n ≡ 0 → ⊥) → xs ≡ [] → ⊥
not_empty xs n is some e = some (is ∙ ap (λ (l : List ℕ). length l) e)
