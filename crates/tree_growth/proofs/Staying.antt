-- Kept bounds stay where one place is changed: taken, given back, or fallen back.
use Rattle.std.proofs.Common.{◌≡◌, ◌∙◌, ℕ, zero, suc, inl, inr, List, [], set, refl, sym, ap, subst, arith}
use Rattle.std.specs.Prelude.{Bool, Option, Some, None, slice_get, if◌then◌else◌}
use Rattle.std.proofs.lemmas.Bool.{cases_eq}
use Rattle.std.proofs.lemmas.Option.{none-some, same_Some, slice_get_within}
use Rattle.std.proofs.lemmas.List.Elements.{All-nil}
use Rattle.disp_model.specs.declared.decision.Decision.{Decision}
use Rattle.disp_model.specs.declared.fixing.Fixing.{Fixing}
use Rattle.disp_model.specs.declared.problem.Problem.{Problem}
use Rattle.disp_model.specs.declared.settings.Rule.{Rule}
use Rattle.disp_model.specs.declared.settings.Rule.TheVariants.{Fixed, Free}
use Rattle.disp_model.specs.declared.tree.ComponentWalk.{ComponentWalk}
use Rattle.disp_model.specs.declared.tree.Leaf.{Leaf as TreeLeaf}
use Rattle.disp_model.specs.declared.tree.Leaf.TheVariants.{Costs}
use Rattle.disp_model.specs.declared.tree.TreeNode.{TreeNode}
use Rattle.disp_model.specs.declared.tree.TreeNode.TheVariants.{Leaf}
use Rattle.disp_model.specs.Node.{Node, node_at}
use Rattle.disp_model.specs.Trees.{FitsWalk}
use Rattle.open_nodes.specs.declared.place.Kind.{Kind}
use Rattle.open_nodes.specs.declared.place.Kind.TheVariants.{Open, Dead, Branch as Branched}
use Rattle.open_nodes.specs.declared.place.Place.{Place}
use Rattle.open_nodes.specs.declared.work.GiveBack.{GiveBack}
use Rattle.open_nodes.specs.declared.work.GiveBack.TheVariants.{Back, Gone}
use Rattle.open_nodes.specs.declared.work.Take.{Take}
use Rattle.open_nodes.specs.declared.work.Take.TheVariants.{Ripe, Taken, AllOut, Dry}
use Rattle.open_nodes.specs.declared.work.Work.{Work}
use Rattle.open_nodes.specs.States.{State, first_place, one_open_leaf, with_places, with_out, marked, errand_of, decisions_of, Takes, GivesBack}
use Rattle.open_nodes.specs.Shown.{leaf_in, fallen, fallen_by, fallen_in, fallen_at}
use Rattle.open_nodes.specs.Filled.{IsTree}
use Rattle.open_nodes.proofs.Holding.{decisions_same}
use Rattle.open_nodes.proofs.Keeping.{same_above}
use Rattle.open_nodes.proofs.Places.{get_set_same, get_set_other}
use Rattle.tree_growth.specs.Grown.{LeafCounts, KeepsBound}
use Rattle.tree_growth.specs.Keeping.{AllKeep}

-- ---- the empty list of walks

-- a list of walks counts by each rule
costs_count : (rule : Rule) (walks : List ComponentWalk) (bound : ℕ) → LeafCounts rule (Costs walks) bound
costs_count Fixed walks bound = tt
costs_count Free walks bound = tt

-- at each node it keeps the bound 0
pub empty_keeps : (rule : Rule) (node : Node) → KeepsBound rule node (Costs []) 0
empty_keeps rule node = record {
  holds = inr (record { distinct = λ i j v w lt at there. absurd (none-some v at); sum = 0; sum_is = refl; enough = omega arith });
  counts = costs_count rule [] 0;
  fits = (omega arith, All-nil FitsWalk);
}

-- so does a leaf that is read as it
empty_read : (rule : Rule) (node : Node) (shown : Option TreeNode) (leaf : TreeLeaf) → shown ≡ Some (Leaf (Costs [])) → shown ≡ Some (Leaf leaf) → KeepsBound rule node leaf 0
empty_read rule node shown leaf empty is = subst (λ (l : TreeLeaf). KeepsBound rule node l 0) (same_Some (Costs []) leaf (ap leaf_in (sym empty ∙ is))) (empty_keeps rule node)

-- the first leaf shows it, with the bound 0
pub first_keeps : (rule : Rule) (problem : Problem) (fixings : List Fixing) → AllKeep rule problem fixings one_open_leaf
first_keeps rule problem fixings n p leaf at shown = subst (λ (q : Place). slice_get one_open_leaf.kept q.shows ≡ Some (Leaf leaf) → KeepsBound rule (node_at problem fixings (decisions_of one_open_leaf.places n)) leaf q.bound)
    (only n at) (λ is. empty_read rule (node_at problem fixings (decisions_of one_open_leaf.places n)) (Some (Leaf (Costs []))) leaf refl is) shown
  where
    only : (m : ℕ) → slice_get one_open_leaf.places m ≡ Some p → first_place ≡ p
    only zero here = same_Some first_place p here
    only (suc m) here = absurd (none-some p here)

-- ---- one place is changed

module _ (rule : Rule) (problem : Problem) (fixings : List Fixing) (state : State) (tree : IsTree problem state) (keep : AllKeep rule problem fixings state) where
  -- a place keeps its bound at a node, where it shows a leaf
  abbrev KeepsAt : Node → Place → Type 0
  KeepsAt node p = (leaf : TreeLeaf) → slice_get state.kept p.shows ≡ Some (Leaf leaf) → KeepsBound rule node leaf p.bound

  -- where a place keeps its bound as the one before it did, all do
  touched_keeps : (n : ℕ) (x q : Place) → slice_get state.places n ≡ Some x → x.above ≡ q.above → ((node : Node) → KeepsAt node x → KeepsAt node q)
      → AllKeep rule problem fixings (with_places state (set state.places n q))
  touched_keeps n x q there above carries m p leaf at shown = elim (cases_eq m n) [
    | inl e ↦
        let here : slice_get state.places m ≡ Some x = ap (λ (k : ℕ). slice_get state.places k) e ∙ there in
        let is : q ≡ p = same_Some q p (sym (get_set_same state.places n q x there) ∙ ap (λ (k : ℕ). slice_get (set state.places n q) k) (sym e) ∙ at) in
        subst (λ (r : Place). KeepsAt (node_at problem fixings (decisions_of (set state.places n q) m)) r) is
        (carries (node_at problem fixings (decisions_of (set state.places n q) m)) (before m x here)) leaf shown
    | inr other ↦ before m p (sym (get_set_other state.places n m q other) ∙ at) leaf shown
  ]
    where
      before : (k : ℕ) (r : Place) → slice_get state.places k ≡ Some r → KeepsAt (node_at problem fixings (decisions_of (set state.places n q) k)) r
      before k r here l is = subst (λ (ds : List Decision). KeepsBound rule (node_at problem fixings ds) l r.bound)
          (sym (decisions_same state.places (set state.places n q) tree.parents (λ j lt. same_above state.places 0 0 n x q there above j) k (slice_get_within state.places k r here)))
          (keep k r l here is)

  -- ---- what the calls change

  pub takes_keep : (best : Option ℕ) (free want seen : ℕ) (take : Take) (after : State) → Takes state best free want seen take after → AllKeep rule problem fixings after
  takes_keep best free want seen Ripe after takes = subst (λ (s : State). AllKeep rule problem fixings s) (sym takes.1) keep
  takes_keep best free want seen (Taken work) after takes =
      let x = takes.1.place in
      subst (λ (s : State). AllKeep rule problem fixings s) (sym takes.1.after_is)
      (touched_keeps work.node x (with_out x (Some (errand_of work))) takes.1.there refl (λ node is leaf shown. is leaf shown))
  takes_keep best free want seen (AllOut count) after takes = subst (λ (s : State). AllKeep rule problem fixings s) (sym takes.3) keep
  takes_keep best free want seen Dry after takes = subst (λ (s : State). AllKeep rule problem fixings s) (sym takes.2) keep

  pub back_keeps : (work : Work) (examined : Bool) (answer : GiveBack) (after : State) → GivesBack state work examined answer after → AllKeep rule problem fixings after
  back_keeps work examined Back after back =
      let x = back.place in
      subst (λ (s : State). AllKeep rule problem fixings s) (sym back.after_is)
      (touched_keeps work.node x (marked x (if examined then Some work.edition else x.examined)) back.is_out.there refl (λ node is leaf shown. is leaf shown))
  back_keeps work examined (Gone node) after back = subst (λ (s : State). AllKeep rule problem fixings s) (sym back.2) keep

  pub fallen_keeps : (n : ℕ) → AllKeep rule problem fixings (fallen_at state n)
  fallen_keeps n = by_place (slice_get state.places n) refl
    where
      falls : (x : Place) → slice_get state.places n ≡ Some x → AllKeep rule problem fixings (with_places state (set state.places n (fallen x)))
      falls x there = touched_keeps n x (fallen x) there refl (λ node is leaf shown. empty_read rule node (slice_get state.kept 0) leaf tree.empty shown)

      by_kind : (x : Place) → slice_get state.places n ≡ Some x → (k : Kind) → AllKeep rule problem fixings (with_places state (fallen_by state.places n x k))
      by_kind x there Branched = keep
      by_kind x there Dead = falls x there
      by_kind x there Open = falls x there

      by_place : (o : Option Place) → slice_get state.places n ≡ o → AllKeep rule problem fixings (with_places state (fallen_in state.places n o))
      by_place None e = keep
      by_place (Some x) e = by_kind x e x.kind
