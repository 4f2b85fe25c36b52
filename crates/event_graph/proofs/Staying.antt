-- Operations whose orders ask no more than before, and the arcs of the orders of the others.
use Rattle.std.proofs.Common.{◌≡◌, ◌∙◌, ℕ, ◌+◌, ◌<◌, ◌≤◌, List, length, get_or, Bool, true, false, Option, Some, None, refl, sym, ap, subst, inl, inr, arith}
use Rattle.std.specs.Prelude.{nat_eq, not, Contains, IsTrue, ◌↔◌, ◌⊎◌}
use Rattle.std.specs.Option.{option_eq}
use Rattle.std.proofs.lemmas.Bool.{cases_Bool, cases_lt, eqb-true, false≢true}
use Rattle.disp_model.specs.declared.train.Op.{Op}
use Rattle.disp_model.specs.WellFormed.{operation_count}
use Rattle.disp_model.specs.Numbers.{number_of}
use Rattle.disp_model.specs.Valid.{train_at}
use Rattle.disp_model.specs.Node.{Node}
use Rattle.disp_model.specs.Routes.{IsForced}
use Rattle.disp_model.specs.Arcs.{Conflicts, GoesTo}
use Rattle.disp_laws.proofs.Numbered.{below_count}
use Rattle.incremental_paths.specs.declared.arc.Arc.{Arc}
use Rattle.route_sets.specs.Sets.{op_of_train}
use Rattle.event_arcs.specs.declared.placed.Placed.{Placed}
use Rattle.event_arcs.specs.Ordering.{LeadsAsOrdered}
use Rattle.event_arcs.specs.Placed.{ArePlaced}
use Rattle.event_arcs.proofs.Deciding.{number_from}
use Rattle.event_arcs.proofs.Offsets.{placed_at}
use Rattle.event_graph.specs.declared.orders.Pair.{Pair}
use Rattle.event_graph.specs.Pairs.{Touches, AddsTouching}
use Rattle.event_graph.specs.Touched.{StaysAs, AddsChanged}
use Rattle.event_graph.proofs.Touching.{ordered_kept}

pub not_forced_stays : (before node : Node) (t o : ℕ) (forced : Bool) → (IsTrue forced ↔ IsForced node (op_of_train t o)) → forced ≡ false → StaysAs before node (op_of_train t o)
not_forced_stays before node t o forced says not = record {
  forced = λ is. absurd (false≢true (sym not ∙ says.1 is));
  next = λ n is goes. absurd (false≢true (sym not ∙ says.1 is));
}

pub same_next_stays : (before node : Node) (t o : ℕ) (was : Bool) (old new : Option ℕ) → (IsTrue was ↔ IsForced before (op_of_train t o)) → was ≡ true
    → ((s : ℕ) → (old ≡ Some s) ↔ (IsForced before (op_of_train t o) × GoesTo before (op_of_train t o) (op_of_train t s))) → ((s : ℕ) → (new ≡ Some s) ↔ (IsForced node (op_of_train t o) × GoesTo node (op_of_train t o) (op_of_train t s))) → old ≡ new
    → StaysAs before node (op_of_train t o)
same_next_stays before node t o was old new says is first second same = record {
  forced = λ forced. says.0 is;
  next = λ n forced goes.
      let own : n ≡ op_of_train t n.op = ap (λ (u : ℕ). op_of_train u n.op) goes.0 in
      let found : new ≡ Some n.op = (second n.op).1 (forced, subst (λ (m : Op). GoesTo node (op_of_train t o) m) own goes) in
      subst (λ (m : Op). GoesTo before (op_of_train t o) m) (sym own) ((first n.op).0 (same ∙ found)).1;
}

pub same_if : (a b : Option ℕ) → not (option_eq nat_eq a b) ≡ false → a ≡ b
same_if None None is = refl
same_if None (Some y) is = absurd (false≢true (sym is))
same_if (Some x) None is = absurd (false≢true (sym is))
same_if (Some x) (Some y) is = elim (cases_Bool (nat_eq x y)) [
  | inl e ↦ ap Some (eqb-true x y e)
  | inr e ↦ absurd (false≢true (sym (rw e at is)))
]

-- ---- operation after operation

pub changed_none : (before node : Node) (t : ℕ) (pairs : List Pair) (arcs : List Arc) → AddsChanged before node t 0 pairs arcs arcs
changed_none before node t pairs arcs = record { kept = λ arc there. there; sound = λ decided sound. sound; each = λ o lt. absurd (omega (arith, lt)) }

-- the orders of the operation lead as they ask
abbrev pub LeadsTouching : Node → ℕ → List Pair → List Arc → Type 0
LeadsTouching node number pairs arcs =
    (pair : Pair) → Contains pairs pair → Touches pair number → IsForced node pair.first → IsForced node pair.second → Conflicts node.problem pair.first pair.second → LeadsAsOrdered node arcs pair.first pair.second

pub changed_more : (before node : Node) (t k number : ℕ) (pairs : List Pair) (old mid new : List Arc) → AddsChanged before node t k pairs old mid → AddsTouching (λ pair. Touches pair number) node pairs mid new → number ≡ number_of node.problem (op_of_train t k)
    → AddsChanged before node t (k + 1) pairs old new
changed_more before node t k number pairs old mid new first adds is = record {
  kept = λ arc there. adds.kept arc (first.kept arc there);
  sound = λ decided sound. adds.sound decided (first.sound decided sound);
  each = λ o lt. elim (cases_lt o k) [ inl early ↦ earlier o (first.each o early) | inr le ↦ inr (here o (let same : o ≡ k = omega (arith, lt, le) in same)) ];
}
  where
    earlier : (o : ℕ) → StaysAs before node (op_of_train t o) ⊎ LeadsTouching node (number_of node.problem (op_of_train t o)) pairs mid → StaysAs before node (op_of_train t o) ⊎ LeadsTouching node (number_of node.problem (op_of_train t o)) pairs new
    earlier o (inl stays) = inl stays
    earlier o (inr leads) = inr (λ pair there touches one other conflicts. ordered_kept node mid new pair adds.kept (leads pair there touches one other conflicts))

    here : (o : ℕ) → o ≡ k → LeadsTouching node (number_of node.problem (op_of_train t o)) pairs new
    here o same pair there touches one other conflicts =
        adds.leads pair there (subst (λ (n : ℕ). Touches pair n) (ap (λ (k : ℕ). number_of node.problem (op_of_train t k)) same ∙ sym is) touches) one other conflicts

pub changed_same : (before node : Node) (t k : ℕ) (pairs : List Pair) (old mid : List Arc) → AddsChanged before node t k pairs old mid → StaysAs before node (op_of_train t k) → AddsChanged before node t (k + 1) pairs old mid
changed_same before node t k pairs old mid first stays = record {
  kept = first.kept;
  sound = first.sound;
  each = λ o lt. elim (cases_lt o k) [ inl early ↦ first.each o early | inr le ↦ inl (subst (λ (q : ℕ). StaysAs before node (op_of_train t q)) (let same : k ≡ o = omega (arith, lt, le) in same) stays) ];
}

-- ---- the number of an operation of the train

pub numbered : (node : Node) (each : List Placed) (t o : ℕ) (placed : Placed) → ArePlaced node each → t < length node.problem.trains → placed ≡ get_or each t placed → placed.first + o ≡ number_of node.problem (op_of_train t o)
numbered node each t o placed are there at = number_from node t o placed (placed_at node each t placed are (omega (arith, there, are.long)) at)

pub numbered_within : (node : Node) (each : List Placed) (t o : ℕ) (placed : Placed) → ArePlaced node each → t < length node.problem.trains → o < length (train_at node.problem t) → placed ≡ get_or each t placed
    → placed.first + o < operation_count node.problem.trains
numbered_within node each t o placed are there within at = omega (arith, numbered node each t o placed are there at, below_count node.problem (op_of_train t o) there within)

pub changed_all : (before node : Node) (t k count : ℕ) (pairs : List Pair) (old new : List Arc) → count ≤ k → AddsChanged before node t k pairs old new → AddsChanged before node t count pairs old new
changed_all before node t k count pairs old new le adds = record { kept = adds.kept; sound = adds.sound; each = λ o lt. adds.each o (omega (arith, lt, le)) }
