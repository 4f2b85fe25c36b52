-- Bounds of a node that is no wider than another and is not dead are no less, by each rule.
use Rattle.std.proofs.Common.{ℕ, zero, suc, ◌<◌, ◌≤◌, List, [], ◌∷◌, length, refl, inl, inr, arith}
use Rattle.disp_model.specs.declared.train.Op.{Op}
use Rattle.disp_model.specs.declared.train.Component.{Component}
use Rattle.disp_model.specs.declared.fixing.Fixing.{Fixing}
use Rattle.disp_model.specs.declared.decision.Decision.{Decision}
use Rattle.disp_model.specs.declared.settings.Rule.{Rule}
use Rattle.disp_model.specs.declared.settings.Rule.TheVariants.{Fixed, Free}
use Rattle.disp_model.specs.Node.{Node, node_at}
use Rattle.disp_model.specs.Nodes.{component_op, AddsForced, ForcedAddUp, IsDead}
use Rattle.disp_model.specs.Routes.{IsForced}
use Rattle.disp_model.specs.Shares.{IsBase, AddsShare, SharesAddUp, IsBound}
use Rattle.disp_model.specs.Walks.{lower_of, IsLongest}
use Rattle.disp_laws.proofs.Costs.{costs_grow}
use Rattle.disp_laws.proofs.LeavesStay.{HaveRoutes, routes_or_none}
use Rattle.disp_laws.proofs.LongestWalks.{from_once}
use Rattle.disp_laws.proofs.Shares.{share_grows}
use Rattle.deeper_nodes.proofs.Tighter.{IsTighter, still_forced}
use Rattle.deeper_nodes.proofs.Dying.{longest_grows}

-- a forced operation's longest walk is no shorter than its lower
lower_within : (node : Node) (o : Op) (most : ℕ) → IsForced node o → IsLongest node o most → lower_of node.problem node.fixings o ≤ most
lower_within node o most forced longest =
    longest.none_longer (o ∷ []) (lower_of node.problem node.fixings o) ([], refl) (from_once (o ∷ []) ((λ there. there), tt)) (forced, refl)

module _ (node : Node) (fixings : List Fixing) (decisions : List Decision) (tightens : IsTighter node fixings decisions) (all : HaveRoutes (node_at node.problem fixings decisions)) where
  abbrev later : Node
  later = node_at node.problem fixings decisions

  forced_later : (o : Op) → IsForced node o → IsForced later o
  forced_later o forced = still_forced node fixings decisions tightens o forced (all o.train forced.train)

  -- ---- what forced components add up to

  adds_grow : (c : Component) (cost other : ℕ) → AddsForced node c cost → AddsForced later c other → cost ≤ other
  adds_grow c cost other (inl (m, forced, longest, is)) (inl (n, again, then, too)) =
      omega (arith, is, too, costs_grow c m n (longest_grows node fixings decisions tightens all (component_op c) m n longest then))
  adds_grow c cost other (inl (m, forced, longest, is)) (inr (free, too)) = absurd (free (forced_later (component_op c) forced))
  adds_grow c cost other (inr (free, is)) then = omega (arith, is)

  forced_rise : (components : List Component) (bound other : ℕ) → ForcedAddUp node components bound → ForcedAddUp later components other → bound ≤ other
  forced_rise [] bound other adds then = omega (arith, adds)
  forced_rise (c ∷ components) bound other adds then =
      omega (arith, adds.4, then.4, adds_grow c adds.0 then.0 adds.2 then.2, forced_rise components adds.1 then.1 adds.3 then.3)

  -- ---- what shares add up to

  base_grows : (o : Op) (base other : ℕ) → IsBase node o base → IsBase later o other → base ≤ other
  base_grows o base other (inl (forced, longest)) (inl (again, then)) = longest_grows node fixings decisions tightens all o base other longest then
  base_grows o base other (inl (forced, longest)) (inr (free, is)) = absurd (free (forced_later o forced))
  base_grows o base other (inr (free, is)) (inl (forced, longest)) = omega (arith, is, tightens.lowers o, lower_within later o other forced longest)
  base_grows o base other (inr (free, is)) (inr (again, too)) = omega (arith, is, too, tightens.lowers o)

  share_rises : (t cost other : ℕ) → t < length node.problem.trains → AddsShare node t cost → AddsShare later t other → cost ≤ other
  share_rises t cost other there (inl is) (inl then) =
      share_grows node later t is.base then.base cost other refl (tightens.fewer t)
      (λ o. base_grows (record { train = t; op = o }) (is.base o) (then.base o) (is.base_is o) (then.base_is o)) is.over then.over
  share_rises t cost other there (inl is) (inr (none, too)) = absurd (none (all t there))
  share_rises t cost other there (inr (none, is)) then = omega (arith, is)

  shares_rise : (n : ℕ) → n ≤ length node.problem.trains → (bound other : ℕ) → SharesAddUp node n bound → SharesAddUp later n other → bound ≤ other
  shares_rise zero le bound other adds then = omega (arith, adds)
  shares_rise (suc t) le bound other adds then =
      omega (
        arith,
        adds.4,
        then.4,
        share_rises t adds.0 then.0 (omega (arith, le)) adds.2 then.2,
        shares_rise t (omega (arith, le)) adds.1 then.1 adds.3 then.3,
      )

  each_rises : (rule : Rule) (bound other : ℕ) → IsBound node rule bound → IsBound later rule other → bound ≤ other
  each_rises Fixed bound other is then = forced_rise node.problem.components bound other is then
  each_rises Free bound other is then = shares_rise (length node.problem.trains) (omega arith) bound other is then

pub bound_rises : (node : Node) (fixings : List Fixing) (decisions : List Decision) (rule : Rule) (bound other : ℕ) → IsTighter node fixings decisions
    → IsBound node rule bound → IsBound (node_at node.problem fixings decisions) rule other → (IsDead (node_at node.problem fixings decisions) → ⊥) → bound ≤ other
bound_rises node fixings decisions rule bound other tightens is then alive = elim (routes_or_none (node_at node.problem fixings decisions)) [
  | inl none ↦ absurd (alive (inl none))
  | inr all ↦ each_rises node fixings decisions tightens all rule bound other is then
]
