-- Who holds each operation, one operation after another.
use Rattle.std.proofs.Common.{◌≡◌, ℕ, zero, suc, ◌+◌, ◌<◌, ◌≤◌, List, [], length, get_or, set, replicate, Option, Some, None, Bool, true, false, refl, sym, ap, subst, ◌∙◌, inl, inr, arith}
use Rattle.std.specs.Prelude.{IsTrue, IfSome, MatchOption, Contains, All, slice_get, slice_index_or, ◌↔◌}
use Rattle.std.specs.Option.{option_map_or}
use Rattle.std.proofs.lemmas.Bool.{cases_lt}
use Rattle.std.proofs.lemmas.Option.{none-some, same_Some, slice_get_within, get_or_from_slice_get}
use Rattle.std.proofs.lemmas.List.{length-set, get_or-set_same, get_or-set_other}
use Rattle.disp_model.specs.declared.train.Operation.{Operation}
use Rattle.disp_model.specs.Train.{IsSuccessor}
use Rattle.disp_model.specs.Valid.{train_at}
use Rattle.disp_model.specs.Node.{Node}
use Rattle.disp_model.specs.Routes.{HasRoute, IsForced}
use Rattle.disp_laws.proofs.RouteSearch.{within_train}
use Rattle.train_orders.specs.Orders.{IsInside}
use Rattle.train_orders.proofs.Places.{at_contains, contains_none, same_number}
use Rattle.node_facts.specs.declared.demands.Demand.{Demand}
use Rattle.node_facts.specs.declared.train.TrainKnowledge.{TrainKnowledge}
use Rattle.route_marks.specs.Marks.{sum_at}
use Rattle.node_facts.specs.Holders.{Holds, noted, AreHolders}
use Rattle.node_facts.specs.Known.{op_numbered, IsKnown, IsHolder}
use Rattle.node_facts.proofs.Knowing.{forced_is}
use Rattle.node_facts.proofs.Stepping.{goes_step, step_goes}

-- the holders among the operations so far
pub record AreHeldTo (i : ℕ) (train : List Operation) (places : List ℕ) (demands : List Demand) (sums : List (Option ℕ)) (needed : List Bool) (holders : List (Option ℕ)) : Type 0 where
  pub long : length holders ≡ length train
  pub at : (o : ℕ) → MatchOption (sum_at holders o) ((h : ℕ) → h < i → Holds train places demands sums needed h o → ⊥) (λ h. Holds train places demands sums needed h o)

pub none_held : (train : List Operation) (places : List ℕ) (demands : List Demand) (sums : List (Option ℕ)) (needed : List Bool) (holders : List (Option ℕ)) → holders ≡ replicate (length train) None → length holders ≡ length train
    → AreHeldTo 0 train places demands sums needed holders
none_held train places demands sums needed holders none long = record {
  long = long;
  at = λ o. subst (λ (x : Option ℕ). MatchOption x ((h : ℕ) → h < 0 → Holds train places demands sums needed h o → ⊥) (λ h. Holds train places demands sums needed h o)) (sym (empty o)) (λ h lt holds. absurd (omega (arith, lt)));
}
  where
    nothing : (k o : ℕ) → sum_at (replicate k None) o ≡ None
    nothing zero o = refl
    nothing (suc k) zero = refl
    nothing (suc k) (suc o) = nothing k o

    empty : (o : ℕ) → sum_at holders o ≡ None
    empty o = ap (λ (l : List (Option ℕ)). sum_at l o) none ∙ nothing (length train) o

pub held_more : (i : ℕ) (train : List Operation) (places : List ℕ) (demands : List Demand) (sums : List (Option ℕ)) (needed : List Bool) (old new : List (Option ℕ)) (held : Option ℕ) → ((s : ℕ) → (held ≡ Some s) ↔ Holds train places demands sums needed i s)
    → IfSome held (λ s. s < length old) → new ≡ noted old i held → AreHeldTo i train places demands sums needed old → AreHeldTo (i + 1) train places demands sums needed new
held_more i train places demands sums needed old new held says within is before = by held says within is
  where
    H : ℕ → ℕ → Type 0
    H h o = Holds train places demands sums needed h o

    Says : ℕ → ℕ → Option ℕ → Type 0
    Says k o x = MatchOption x ((h : ℕ) → h < k → H h o → ⊥) (λ h. H h o)

    -- where this one does not hold the operation
    kept : (o : ℕ) (x : Option ℕ) → (H i o → ⊥) → Says i o x → Says (i + 1) o x
    kept o (Some h) not holds = holds
    kept o None not none = λ h lt holds. elim (cases_lt h i) [
      | inl early ↦ none h early holds
      | inr late ↦ let same : h ≡ i = omega (arith, lt, late) in not (subst (λ (k : ℕ). H k o) same holds)
    ]

    by : (held : Option ℕ) → ((s : ℕ) → (held ≡ Some s) ↔ H i s) → IfSome held (λ s. s < length old) → new ≡ noted old i held → AreHeldTo (i + 1) train places demands sums needed new
    by None says within is = subst (AreHeldTo (i + 1) train places demands sums needed) (sym is) (record {
      long = before.long;
      at = λ o. kept o (sum_at old o) (λ holds. none-some o ((says o).1 holds)) (before.at o);
    })
    by (Some s) says within is = subst (AreHeldTo (i + 1) train places demands sums needed) (sym is) (record {
      long = length-set old s (Some i) ∙ before.long;
      at = λ o. elim (same_number o s) [
        | inl e ↦
            let here : sum_at (set old s (Some i)) o ≡ Some i = subst (λ (p : ℕ). sum_at (set old s (Some i)) p ≡ Some i) (sym e) (get_or-set_same old s (Some i) None within) in
            subst (Says (i + 1) o) (sym here) (subst (H i) (sym e) ((says s).0 refl))
        | inr other ↦
            let elsewhere : sum_at (set old s (Some i)) o ≡ sum_at old o = get_or-set_other old s o (Some i) None other in
            subst (Says (i + 1) o) (sym elsewhere) (kept o (sum_at old o) (λ holds. other (sym (same_Some s o ((says o).1 holds)))) (before.at o))
      ];
    })

pub held_all : (i : ℕ) (train : List Operation) (places : List ℕ) (demands : List Demand) (sums : List (Option ℕ)) (needed : List Bool) (holders : List (Option ℕ)) → length train ≤ i → AreHeldTo i train places demands sums needed holders
    → AreHolders train places demands sums needed holders
held_all i train places demands sums needed holders past before o = by (sum_at holders o) (before.at o)
  where
    by : (x : Option ℕ) → MatchOption x ((h : ℕ) → h < i → Holds train places demands sums needed h o → ⊥) (λ h. Holds train places demands sums needed h o)
        → MatchOption x ((h : ℕ) → Holds train places demands sums needed h o → ⊥) (λ h. Holds train places demands sums needed h o)
    by None none = λ h holds. none h (omega (arith, past, within_train train h o holds.only.there)) holds
    by (Some h) holds = holds

-- what is kept of an operation is the holder at the node, where some route is left
pub holder_is : (node : Node) (t o : ℕ) (known : TrainKnowledge) (found : Option ℕ) → IsKnown node t known → HasRoute node t → found ≡ sum_at known.holders.items o
    → MatchOption found ((h : ℕ) → IsHolder node t o h → ⊥) (IsHolder node t o)
holder_is node t o known found is left same = subst (λ (x : Option ℕ). MatchOption x ((h : ℕ) → IsHolder node t o h → ⊥) (IsHolder node t o)) (sym same) (by (sum_at known.holders.items o) (is.holders_are o))
  where
    H : ℕ → Type 0
    H h = Holds (train_at node.problem t) known.places.items known.demands.items known.sums.items known.needed.items h o

    marks : (h : ℕ) → IsTrue (slice_index_or known.needed.items h false) ↔ IsForced node (op_numbered t h)
    marks h = forced_is node t h known true (slice_index_or known.needed.items h false) is (λ yes. left, λ has. refl) refl

    by : (x : Option ℕ) → MatchOption x ((h : ℕ) → H h → ⊥) H → MatchOption x ((h : ℕ) → IsHolder node t o h → ⊥) (IsHolder node t o)
    by None none = λ h holder. none h (record { marked = (marks h).1 holder.forced; only = goes_step node t h o known is holder.forced holder.goes })
    by (Some h) holds = let forced = (marks h).0 holds.marked in record { forced = forced; goes = step_goes node t h o known is forced holds.only }

-- where none is left there is no holder
pub no_holder : (node : Node) (t o : ℕ) → (HasRoute node t → ⊥) → (h : ℕ) → IsHolder node t o h → ⊥
no_holder node t o none h holder = none holder.forced.allowed

-- what comes next is within the train
pub inside_next : (train : List Operation) (o s : ℕ) → IsInside train → IsSuccessor train o s → s < length train
inside_next train o s inside next = by (slice_get train o) refl next
  where
    by : (found : Option Operation) → slice_get train o ≡ found → Contains (option_map_or (λ p. p.next) found []) s → s < length train
    by None at next = absurd (contains_none s next)
    by (Some p) at next =
        let lt = slice_get_within train o p at in
        let same : get_or train o p ≡ p = get_or_from_slice_get train o p p at in
        let each = subst (λ (q : Operation). All (λ (x : ℕ). x < length train) q.next) same (inside o p lt) in
        let place = at_contains p.next s next in
        let within = each place.0 0 (slice_get_within p.next place.0 s place.1) in
        let found : get_or p.next place.0 0 ≡ s = get_or_from_slice_get p.next place.0 s 0 place.1 in
        omega (arith, within, found)

pub held_within : (train : List Operation) (places : List ℕ) (demands : List Demand) (sums : List (Option ℕ)) (needed : List Bool) (count i : ℕ) (held : Option ℕ) → IsInside train → count ≡ length train
    → ((s : ℕ) → (held ≡ Some s) ↔ Holds train places demands sums needed i s) → IfSome held (λ s. s < count)
held_within train places demands sums needed count i None inside long says = tt
held_within train places demands sums needed count i (Some s) inside long says = let lt = inside_next train i s inside ((says s).0 refl).only.there in omega (arith, long, lt)
