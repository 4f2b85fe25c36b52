-- What is left to pay from operations on, one operation after another.
use Rattle.std.proofs.Common.{◌≡◌, ℕ, zero, suc, ◌+◌, ◌<◌, ◌≤◌, List, [], ◌∷◌, length, take, get_or, set, replicate, Option, Some, None, refl, sym, ap, subst, ◌∙◌, inl, inr, arith}
use Rattle.std.specs.Prelude.{slice_get, slice_index, Contains}
use Rattle.std.proofs.lemmas.Option.{none-some, same_Some, slice_get-get_or}
use Rattle.std.proofs.lemmas.List.{take_more, take_all, get_or-set_same, get_or-set_other}
use Rattle.std.proofs.lemmas.List.Elements.{Contains-push_cases}
use Rattle.disp_model.specs.declared.train.Operation.{Operation}
use Rattle.disp_model.specs.Train.{next_of}
use Rattle.disp_laws.proofs.RouteSearch.{within_train}
use Rattle.train_orders.specs.Orders.{IsOrder}
use Rattle.train_orders.proofs.Searching.{next_at}
use Rattle.train_orders.proofs.Places.{contains_at, contains_none, same_number}
use Rattle.node_facts.specs.declared.demands.Demand.{Demand}
use Rattle.node_facts.specs.Ways.{IsWay, IsLeastOf, GoesOnward}
use Rattle.route_marks.specs.Marks.{sum_at}
use Rattle.node_facts.specs.Costs.{capped}
use Rattle.tree_checker.specs.TrainCosts.{price_along, ArePrices, IsCostBy, AreCosts}

-- what is left to pay is known of the operations within so many of the first places
pub record ArePaid (train : List Operation) (order places : List ℕ) (demands : List Demand) (price : ℕ → ℕ) (i : ℕ) (costs : List (Option ℕ)) : Type 0 where
  pub there : (o cost : ℕ) → sum_at costs o ≡ Some cost → (rest : List ℕ) × IsWay train places demands o rest × (cost ≡ capped (price_along price (o ∷ rest)))
  pub least : (o : ℕ) → Contains (take i order) o → (rest : List ℕ) → IsWay train places demands o rest → (cost : ℕ) × (sum_at costs o ≡ Some cost) × (cost ≤ price_along price (o ∷ rest))

pub none_paid : (train : List Operation) (order places : List ℕ) (demands : List Demand) (price : ℕ → ℕ) (costs : List (Option ℕ)) → costs ≡ replicate (length train) None → ArePaid train order places demands price 0 costs
none_paid train order places demands price costs none = record {
  there = λ o cost at. absurd (nothing (length train) o cost (subst (λ (l : List (Option ℕ)). sum_at l o ≡ Some cost) none at));
  least = λ o there rest way. absurd (contains_none o there);
}
  where
    nothing : (k o n : ℕ) → sum_at (replicate k None) o ≡ Some n → ⊥
    nothing zero o n at = none-some n at
    nothing (suc k) zero n at = none-some n at
    nothing (suc k) (suc o) n at = nothing k o n at

-- ---- an operation by those that come next

own_there : (train : List Operation) (order places : List ℕ) (demands : List Demand) (price : ℕ → ℕ) (i o own : ℕ) (costs : List (Option ℕ)) (operation : Operation) (cost : Option ℕ) → o < length train → next_of train o ≡ operation.next
    → own ≡ capped (price o) → ArePaid train order places demands price i costs → IsCostBy operation places demands costs o own cost → (n : ℕ) → cost ≡ Some n
    → (rest : List ℕ) × IsWay train places demands o rest × (n ≡ capped (price_along price (o ∷ rest)))
own_there train order places demands price i o own costs operation None there nexts own_is before by n e = absurd (none-some n e)
own_there train order places demands price i o own costs operation (Some cost) there nexts own_is before (inl (last, may, same)) n e =
    ([], (record { there = there; last = nexts ∙ last }, may), omega (arith, same_Some cost n e, same, own_is))
own_there train order places demands price i o own costs operation (Some cost) there nexts own_is before (inr (behind, some, least, same)) n e =
    let goes = least.reached in
    let later = before.there goes.next behind goes.onward.known in (
      goes.next ∷ later.0,
      (subst (λ (l : List ℕ). Contains l goes.next) (sym nexts) goes.is_next, goes.onward.may, later.1),
      omega (arith, same_Some cost n e, same, own_is, later.2),
    )

own_least : (train : List Operation) (order places : List ℕ) (demands : List Demand) (price : ℕ → ℕ) (i o own : ℕ) (costs : List (Option ℕ)) (operation : Operation) (cost : Option ℕ) → IsOrder train order → slice_get order i ≡ Some o
    → next_of train o ≡ operation.next → own ≡ capped (price o) → ArePaid train order places demands price i costs → IsCostBy operation places demands costs o own cost → (rest : List ℕ) → IsWay train places demands o rest
    → (n : ℕ) × (cost ≡ Some n) × (n ≤ price_along price (o ∷ rest))
own_least train order places demands price i o own costs operation None is here nexts own_is before by [] way = absurd (by.0 (sym nexts ∙ way.0.last) way.1)
own_least train order places demands price i o own costs operation (Some cost) is here nexts own_is before (inl (last, may, same)) [] way = (cost, refl, omega (arith, same, own_is))
own_least train order places demands price i o own costs operation (Some cost) is here nexts own_is before (inr (behind, some, least, same)) [] way = absurd (some (sym nexts ∙ way.0.last))
own_least train order places demands price i o own costs operation cost is here nexts own_is before by (s ∷ rest) way = at cost by
  where
    found : (n : ℕ) × (sum_at costs s ≡ Some n) × (n ≤ price_along price (s ∷ rest))
    found = before.least s (is.is_behind.behind i o s here way.0) rest way.2

    among : Contains operation.next s
    among = subst (λ (l : List ℕ). Contains l s) nexts way.0

    goes : GoesOnward places demands costs o operation.next found.0
    goes = record { next = s; is_next = among; onward = record { may = way.1; known = found.1 } }

    at : (cost : Option ℕ) → IsCostBy operation places demands costs o own cost → (n : ℕ) × (cost ≡ Some n) × (n ≤ price_along price (o ∷ s ∷ rest))
    at None by = absurd (by.1 found.0 goes)
    at (Some cost) (inl (last, may, same)) = absurd (contains_none s (subst (λ (l : List ℕ). Contains l s) last among))
    at (Some cost) (inr (behind, some, least, same)) = (cost, refl, omega (arith, same, own_is, least.at_most found.0 goes, found.2))

-- ---- one more operation

pub paid_more : (train : List Operation) (order places : List ℕ) (demands : List Demand) (price : ℕ → ℕ) (prices : List ℕ) (i own : ℕ) (costs read : List (Option ℕ)) (operation : Operation) (cost : Option ℕ) → IsOrder train order → i < length order
    → length costs ≡ length train → ArePrices train price prices → own ≡ slice_index prices (get_or order i 0) → read ≡ costs → operation ≡ get_or train (get_or order i 0) operation
    → ArePaid train order places demands price i costs → IsCostBy operation places demands read (get_or order i 0) own cost → ArePaid train order places demands price (i + 1) (set costs (get_or order i 0) cost)
paid_more train order places demands price prices i own costs read operation cost is lt long priced own_is same found before by = record {
  there = λ p n at. elim (same_number p o) [
    | inl e ↦
        subst (λ (q : ℕ). (rest : List ℕ) × IsWay train places demands q rest × (n ≡ capped (price_along price (q ∷ rest)))) (sym e)
        (own_there train order places demands price i o own costs operation cost there nexts own_price before by_costs n (sym set_is ∙ subst (λ (q : ℕ). sum_at (set costs o cost) q ≡ Some n) e at))
    | inr other ↦ before.there p n (sym (get_or-set_other costs o p cost None other) ∙ at)
  ];
  least = λ p among rest way. elim (same_number p o) [
    | inl e ↦
        let least = own_least train order places demands price i o own costs operation cost is here nexts own_price before by_costs rest (subst (λ (q : ℕ). IsWay train places demands q rest) e way) in
        subst (λ (q : ℕ). (n : ℕ) × (sum_at (set costs o cost) q ≡ Some n) × (n ≤ price_along price (q ∷ rest))) (sym e) (least.0, set_is ∙ least.1, least.2)
    | inr other ↦ let least = before.least p (earlier p other among) rest way in (least.0, get_or-set_other costs o p cost None other ∙ least.1, least.2)
  ];
}
  where
    o : ℕ
    o = get_or order i 0

    here : slice_get order i ≡ Some o
    here = slice_get-get_or order i 0 lt

    there : o < length train
    there = is.is_behind.within o (contains_at order o i here)

    nexts : next_of train o ≡ operation.next
    nexts = next_at train o operation found there

    own_price : own ≡ capped (price o)
    own_price = own_is ∙ priced o there

    set_is : sum_at (set costs o cost) o ≡ cost
    set_is = get_or-set_same costs o cost None (omega (arith, there, long))

    by_costs : IsCostBy operation places demands costs o own cost
    by_costs = subst (λ (l : List (Option ℕ)). IsCostBy operation places demands l o own cost) same by

    earlier : (p : ℕ) → (p ≡ o → ⊥) → Contains (take (i + 1) order) p → Contains (take i order) p
    earlier p other at = elim (Contains-push_cases (take i order) o p (subst (λ (l : List ℕ). Contains l p) (take_more order i 0 lt) at)) [ inl early ↦ early | inr e ↦ absurd (other (sym e)) ]

pub paid_all : (train : List Operation) (order places : List ℕ) (demands : List Demand) (price : ℕ → ℕ) (i : ℕ) (costs : List (Option ℕ)) → IsOrder train order → length order ≤ i → ArePaid train order places demands price i costs
    → AreCosts train places demands price costs
paid_all train order places demands price i costs is past before = record {
  there = before.there;
  least = λ o rest way. before.least o (subst (λ (l : List ℕ). Contains l o) (sym (take_all i order past)) (is.has o (within o rest way))) rest way;
}
  where
    within : (o : ℕ) (rest : List ℕ) → IsWay train places demands o rest → o < length train
    within o [] way = way.0.there
    within o (s ∷ rest) way = within_train train o s way.0

-- nothing comes next from which something is left to pay
pub cost_by_none : (operation : Operation) (places : List ℕ) (demands : List Demand) (costs : List (Option ℕ)) (o price : ℕ) (nexts : List ℕ) → nexts ≡ operation.next → (length nexts ≡ 0 → ⊥) → IsLeastOf (GoesOnward places demands costs o nexts) None
    → IsCostBy operation places demands costs o price None
cost_by_none operation places demands costs o price nexts same some none = (
  λ last may. some (ap (λ (l : List ℕ). length l) (same ∙ last)),
  λ n goes. none n (subst (λ (l : List ℕ). GoesOnward places demands costs o l n) (sym same) goes),
)
