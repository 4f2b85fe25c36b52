-- A tree whose places are filled, where no leaf is wanted: it is accepted.
use Rattle.std.proofs.Common.{◌≡◌, ◌∙◌, ℕ, zero, suc, ◌+◌, ◌<◌, ◌≤◌, inl, inr, List, [], ◌∷◌, ◌++◌, length, map, refl, sym, ap, subst, arith}
use Rattle.std.specs.Prelude.{Option, Some, None, slice_get, option_to_list}
use Rattle.std.proofs.lemmas.Bool.{cases_lt}
use Rattle.std.proofs.lemmas.Option.{slice_get_within, get_or_from_slice_get}
use Rattle.disp_model.specs.declared.decision.Decision.{Decision}
use Rattle.disp_model.specs.declared.fixing.Fixing.{Fixing}
use Rattle.disp_model.specs.declared.problem.Problem.{Problem}
use Rattle.disp_model.specs.declared.tree.TreeNode.{TreeNode}
use Rattle.disp_model.specs.declared.tree.TreeNode.TheVariants.{Branch, Leaf}
use Rattle.disp_model.specs.declared.tree.Leaf.{Leaf as TreeLeaf}
use Rattle.disp_model.specs.declared.tree.Leaf.TheVariants.{NoRoute, Cycle, Late, Costs, Shares}
use Rattle.disp_model.specs.declared.tree.Verdict.TheVariants.{Optimal}
use Rattle.disp_model.specs.Node.{Node, node_at, with_decision, root_of}
use Rattle.disp_model.specs.Trees.{children_of, LeafHolds, Fills, Accepts}
use Rattle.open_nodes.specs.declared.place.Place.{Place}
use Rattle.open_nodes.specs.declared.place.Above.{Above}
use Rattle.open_nodes.specs.States.{State, above_at, above_of, decisions_of, HaveSmallerParents, IsWanted, NoneWanted}
use Rattle.open_nodes.specs.Preorder.{next_at, order}
use Rattle.open_nodes.specs.Shown.{shown_at, shown_by, all_shown, tree_of}
use Rattle.open_nodes.specs.Grafts.{kind_of}
use Rattle.open_nodes.specs.Filled.{LinksLead, Spot, spots_for, AreFilled, IsTree, AllHold, verdict_for}
use Rattle.open_nodes.proofs.Paths.{decisions_up, up_is, up_more}

-- the links give the numbers in preorder
pub order_is : (places : List Place) (at : Option ℕ) (numbers : List ℕ) (fuel : ℕ) → LinksLead (slice_get places) at numbers None → length numbers ≤ fuel → order at fuel places ≡ numbers
order_is places at [] fuel leads le = ap (λ (a : Option ℕ). order a fuel places) leads
order_is places at (n ∷ numbers) zero leads le = absurd (omega (arith, le))
order_is places at (n ∷ numbers) (suc fuel) leads le =
    ap (λ (a : Option ℕ). order a (suc fuel) places) leads.0
    ∙ ap (λ (ns : List ℕ). n ∷ ns) (order_is places (next_at places n) numbers fuel leads.1 (omega (arith, le)))

-- what holds for a bound holds for each cost at most as great
lower_holds : (node : Node) (bound c : ℕ) (leaf : TreeLeaf) → c ≤ bound → LeafHolds node (Optimal bound) leaf → LeafHolds node (Optimal c) leaf
lower_holds node bound c leaf le (inl none) = inl none
lower_holds node bound c NoRoute le (inr shows) = inr shows
lower_holds node bound c (Cycle nodes) le (inr shows) = inr shows
lower_holds node bound c (Late walk) le (inr shows) = inr shows
lower_holds node bound c (Costs walks) le (inr shows) =
    inr (record { distinct = shows.distinct; sum = shows.sum; sum_is = shows.sum_is; enough = omega (arith, le, shows.enough) })
lower_holds node bound c (Shares walks trains) le (inr shows) = inr (record {
  distinct = shows.distinct;
  distinct_trains = shows.distinct_trains;
  others = shows.others;
  sum = shows.sum;
  sum_is = shows.sum_is;
  shares = shows.shares;
  shares_is = shows.shares_is;
  enough = omega (arith, le, shows.enough);
})

reached : (bound c : ℕ) → (bound < c → ⊥) → c ≤ bound
reached bound c not = elim (cases_lt bound c) [
  | inl lt ↦ absurd (not lt)
  | inr le ↦ le
]

-- a leaf that is not wanted holds for the best cost, and where there is no best, for no cost
unwanted_holds : (node : Node) (place : Place) (best : Option ℕ) (leaf : TreeLeaf) → place.kind ≡ kind_of leaf → (IsWanted best place → ⊥)
    → LeafHolds node (Optimal place.bound) leaf → LeafHolds node (verdict_for best) leaf
unwanted_holds node place best NoRoute is not (inl none) = inl none
unwanted_holds node place best NoRoute is not (inr shows) = inr shows
unwanted_holds node place best (Cycle nodes) is not (inl none) = inl none
unwanted_holds node place best (Cycle nodes) is not (inr shows) = inr shows
unwanted_holds node place best (Late walk) is not (inl none) = inl none
unwanted_holds node place best (Late walk) is not (inr shows) = inr shows
unwanted_holds node place None (Costs walks) is not holds = absurd (not (is, tt))
unwanted_holds node place (Some c) (Costs walks) is not holds = lower_holds node place.bound c (Costs walks) (reached place.bound c (λ lt. not (is, lt))) holds
unwanted_holds node place None (Shares walks trains) is not holds = absurd (not (is, tt))
unwanted_holds node place (Some c) (Shares walks trains) is not holds = lower_holds node place.bound c (Shares walks trains) (reached place.bound c (λ lt. not (is, lt))) holds

module _ (problem : Problem) (fixings : List Fixing) (places : List Place) (kept : List TreeNode) (small : HaveSmallerParents places) where
  abbrev pub nodes_for : List Spot → List Node
  nodes_for [] = []
  nodes_for (s ∷ spots) = node_at problem fixings (decisions_up s.above places) ∷ nodes_for spots

  pub children_nodes : (n number : ℕ) (node : Node) (spots : List Spot) (cs : List Decision) → node ≡ node_at problem fixings (decisions_up (above_at places n) places)
      → nodes_for (spots_for n number cs ++ spots) ≡ map (with_decision node) cs ++ nodes_for spots
  children_nodes n number node spots [] e = refl
  children_nodes n number node spots (d ∷ cs) e =
      let up : Above = record { parent = n; decision = d } in
      let first : node_at problem fixings (decisions_up (Some up) places) ≡ with_decision node d =
      ap (λ (ds : List Decision). node_at problem fixings ds) (up_more places small up) ∙ sym (ap (λ (m : Node). with_decision m d) e) in
      ap (λ (m : Node). m ∷ nodes_for (spots_for n (number + 1) cs ++ spots)) first
      ∙ ap (λ (ms : List Node). with_decision node d ∷ ms) (children_nodes n (number + 1) node spots cs e)

  module _ (best : Option ℕ) (hold : AllHold problem fixings places kept) (none : (n : ℕ) (place : Place) → slice_get places n ≡ Some place → IsWanted best place → ⊥) where
    filled_fills : (spots : List Spot) (numbers : List ℕ) → AreFilled problem (slice_get places) kept spots numbers
        → Fills (verdict_for best) (nodes_for spots) (all_shown places kept numbers)
    filled_fills [] [] filled = tt
    filled_fills [] (n ∷ numbers) filled = absurd filled
    filled_fills (s ∷ spots) [] filled = absurd filled
    filled_fills (s ∷ spots) (n ∷ numbers) (p, is, inl (leaf, shows, rest)) =
        let here : shown_at places kept n ≡ Some (Leaf leaf) = ap (shown_by kept) is.there ∙ shows.shown in
        let above : above_at places n ≡ s.above = ap above_of is.there ∙ is.above_is in
        let node : node_at problem fixings (decisions_of places n) ≡ node_at problem fixings (decisions_up s.above places) =
        ap (λ (ds : List Decision). node_at problem fixings ds) (up_is places small n ∙ ap (λ (a : Option Above). decisions_up a places) above) in
        let holds : LeafHolds (node_at problem fixings (decisions_up s.above places)) (Optimal p.bound) leaf =
        subst (λ (m : Node). LeafHolds m (Optimal p.bound) leaf) node (hold n p leaf is.there shows.shown) in
        subst (λ (o : Option TreeNode). Fills (verdict_for best) (nodes_for (s ∷ spots)) (option_to_list o ++ all_shown places kept numbers)) (sym here)
        (unwanted_holds (node_at problem fixings (decisions_up s.above places)) p best leaf shows.kind_is (none n p is.there) holds, filled_fills spots numbers rest)
    filled_fills (s ∷ spots) (n ∷ numbers) (p, is, inr (choice, first, shows, rest)) =
        let here : shown_at places kept n ≡ Some (Branch choice shows.children) = ap (shown_by kept) is.there ∙ shows.shown in
        let above : above_at places n ≡ s.above = ap above_of is.there ∙ is.above_is in
        let top : Node = node_at problem fixings (decisions_up s.above places) in
        let same : top ≡ node_at problem fixings (decisions_up (above_at places n) places) =
        ap (λ (a : Option Above). node_at problem fixings (decisions_up a places)) (sym above) in
        let more : Fills (verdict_for best) (map (with_decision top) (children_of problem choice) ++ nodes_for spots) (all_shown places kept numbers) =
        subst (λ (ms : List Node). Fills (verdict_for best) ms (all_shown places kept numbers)) (children_nodes n first top spots (children_of problem choice) same)
        (filled_fills (spots_for n first (children_of problem choice) ++ spots) numbers rest) in
        subst (λ (o : Option TreeNode). Fills (verdict_for best) (nodes_for (s ∷ spots)) (option_to_list o ++ all_shown places kept numbers)) (sym here)
        (shows.is_choice, shows.children_are, more)

-- no place of a list is wanted, by numbers
none_at : (best : Option ℕ) (places : List Place) → NoneWanted best places → (n : ℕ) (place : Place) → slice_get places n ≡ Some place → IsWanted best place → ⊥
none_at best places none n place at = subst (λ (q : Place). IsWanted best q → ⊥) (get_or_from_slice_get places n place place at) (none n place (slice_get_within places n place at))

pub tree_accepted : (problem : Problem) (fixings : List Fixing) (state : State) (best : Option ℕ) → IsTree problem state → AllHold problem fixings state.places state.kept
    → NoneWanted best state.places → Accepts problem fixings (verdict_for best) (tree_of state)
tree_accepted problem fixings state best tree hold none =
    subst (λ (ns : List ℕ). Fills (verdict_for best) (root_of problem fixings ∷ []) (all_shown state.places state.kept ns))
    (sym (order_is state.places (Some 0) tree.numbers (length state.places) tree.leads (omega (arith, tree.count))))
    (filled_fills problem fixings state.places state.kept tree.parents best hold (none_at best state.places none)
    (record { number = 0; above = None } ∷ []) tree.numbers tree.filled)
