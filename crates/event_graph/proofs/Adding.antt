-- What a decision about the routes of a train adds.
use Rattle.std.proofs.Common.{◌≡◌, ◌∙◌, ℕ, ◌<◌, List, [], ◌∷◌, ◌++◌, length, Some, refl, sym, ap, subst, inl, inr}
use Rattle.std.specs.Prelude.{nat_eq, All, Contains, ◌⊎◌}
use Rattle.std.proofs.lemmas.Bool.{cases_Bool, eqb-true, eqb-false}
use Rattle.std.proofs.lemmas.Option.{same_Some}
use Rattle.std.proofs.lemmas.List.Elements.{All-nil, All-append, All-contains, All-contains_itself, All-weaker, Contains-append_left, Contains-append_right, Contains-append_cases}
use Rattle.disp_model.specs.declared.train.Op.{Op}
use Rattle.disp_model.specs.declared.decision.Decision.{Decision}
use Rattle.disp_model.specs.declared.decision.Decision.TheVariants.{First}
use Rattle.disp_model.specs.Numbers.{number_of}
use Rattle.disp_model.specs.Valid.{train_at}
use Rattle.disp_model.specs.Node.{Node, with_decision}
use Rattle.disp_model.specs.Routes.{IsForced}
use Rattle.disp_model.specs.Arcs.{Conflicts, GoesTo}
use Rattle.disp_laws.proofs.LongestWalks.{forced_within}
use Rattle.incremental_paths.specs.declared.arc.Arc.{Arc}
use Rattle.route_sets.specs.Sets.{op_of_train}
use Rattle.event_arcs.specs.Listed.{IsArcOf}
use Rattle.event_arcs.specs.Chained.{AddsChain}
use Rattle.event_arcs.specs.Owned.{train_of_decision}
use Rattle.event_arcs.proofs.Numbering.{forced_is_op}
use Rattle.event_arcs.proofs.Joining.{leads_kept}
use Rattle.event_graph.specs.declared.orders.Pair.{Pair}
use Rattle.event_graph.specs.Pairs.{IsDecidedAt}
use Rattle.event_graph.specs.Touched.{StaysAs, AddsChanged}
use Rattle.event_graph.specs.States.{pair_of, AreOrdersOf, IsOldOrNew, AddsTrain}
use Rattle.event_graph.proofs.Narrowing.{IsApart, forced_before, goes_before}
use Rattle.event_graph.proofs.Staying.{LeadsTouching}

-- an operation that is forced now is as it was before, or the arcs of its orders are added
abbrev pub IsSame : Node → Decision → Op → Type 0
IsSame node d o = IsForced node o × ((n : Op) → GoesTo (with_decision node d) o n → GoesTo node o n)

same_or_added : (node : Node) (d : Decision) (t : ℕ) (pairs : List Pair) (old new : List Arc) (o : Op) → train_of_decision d ≡ Some t → AddsChanged node (with_decision node d) t (length (train_at node.problem t)) pairs old new
    → IsForced (with_decision node d) o → IsSame node d o ⊎ LeadsTouching (with_decision node d) (number_of node.problem o) pairs new
same_or_added node d t pairs old new o about adds forced = elim (cases_Bool (nat_eq o.train t)) [
  | inr e ↦
      let apart : IsApart d o.train = λ own. eqb-false o.train t e (same_Some o.train t (sym own ∙ about)) in
      inl (forced_before node d o apart forced, λ n goes. goes_before node d o n apart goes)
  | inl e ↦ by (eqb-true o.train t e)
]
  where
    by : o.train ≡ t → IsSame node d o ⊎ LeadsTouching (with_decision node d) (number_of node.problem o) pairs new
    by own =
        let is : op_of_train t o.op ≡ o = ap (λ (u : ℕ). op_of_train u o.op) (sym own) in
        let within : o.op < length (train_at node.problem t) = subst (λ (u : ℕ). o.op < length (train_at node.problem u)) own (forced_within (with_decision node d) o forced) in
        elim (adds.each o.op within) [
          | inl stays ↦
              let all = subst (λ (p : Op). StaysAs node (with_decision node d) p) is stays in
              inl (all.forced forced, λ n goes. all.next n forced goes)
          | inr leads ↦ inr (subst (λ (p : Op). LeadsTouching (with_decision node d) (number_of node.problem p) pairs new) is leads)
        ]

pub adds_train : (node : Node) (d : Decision) (t : ℕ) (pairs : List Pair) (old chain new : List Arc) → train_of_decision d ≡ Some t → AreOrdersOf node pairs → All (IsArcOf (with_decision node d)) old → AddsChain (with_decision node d) t (old ++ []) (old ++ chain)
    → AddsChanged node (with_decision node d) t (length (train_at node.problem t)) pairs chain new → AddsTrain node d t old new
adds_train node d t pairs old chain new about orders stay chained adds = record {
  about = about;
  sound = adds.sound (All-weaker (IsDecidedAt node) (IsDecidedAt next) (λ pair decided. Contains-append_left node.decisions (d ∷ []) (First pair.first pair.second) decided) pairs orders.decided) chain_sound;
  chained = λ u v sum own from to arc. leads_kept (old ++ chain) (old ++ new) (number_of node.problem u) (number_of node.problem v) sum kept (chained.leads u v sum own from to arc);
  ordered = λ a b decided one other conflicts.
      ordered a b decided one other conflicts (same_or_added node d t pairs chain new a about adds one) (same_or_added node d t pairs chain new b about adds other);
}
  where
    next : Node
    next = with_decision node d

    all_sound : All (IsArcOf next) (old ++ chain)
    all_sound = chained.extends.sound (All-append (IsArcOf next) old [] stay (All-nil (IsArcOf next)))

    chain_sound : All (IsArcOf next) chain
    chain_sound = All-weaker (Contains chain) (IsArcOf next) (λ arc there. All-contains (IsArcOf next) (old ++ chain) arc all_sound (Contains-append_right old chain arc there)) chain (All-contains_itself chain)

    kept : (arc : Arc) → Contains (old ++ chain) arc → Contains (old ++ new) arc
    kept arc there = elim (Contains-append_cases old chain arc there) [
      | inl before ↦ Contains-append_left old new arc before
      | inr added ↦ Contains-append_right old new arc (adds.kept arc added)
    ]

    ordered : (a b : Op) → Contains node.decisions (First a b) → IsForced next a → IsForced next b → Conflicts node.problem a b
        → IsSame node d a ⊎ LeadsTouching next (number_of node.problem a) pairs new → IsSame node d b ⊎ LeadsTouching next (number_of node.problem b) pairs new → IsOldOrNew node d new a b
    ordered a b decided one other conflicts (inl first) (inl second) = inl (first.0, second.0, first.1)
    ordered a b decided one other conflicts (inr leads) second = inr (leads (pair_of node.problem a b) (orders.listed a b decided (forced_is_op next a one) (forced_is_op next b other)) (inl refl) one other conflicts)
    ordered a b decided one other conflicts (inl first) (inr leads) = inr (leads (pair_of node.problem a b) (orders.listed a b decided (forced_is_op next a one) (forced_is_op next b other)) (inr refl) one other conflicts)
