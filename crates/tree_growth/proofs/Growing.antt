-- Where nodes grow at the spots that wait, each new leaf keeps its bound, and there are as many splits as branches.
use Rattle.std.proofs.Common.{◌≡◌, ◌∙◌, ℕ, suc, ◌+◌, ◌-◌, inl, inr, List, [], ◌∷◌, ◌++◌, length, sym, ap, subst, arith}
use Rattle.std.specs.Prelude.{Option, Some, ◌⊎◌, slice_get}
use Rattle.std.proofs.lemmas.Bool.{cases_eq}
use Rattle.std.proofs.lemmas.Option.{same_Some}
use Rattle.std.proofs.lemmas.List.{length-append}
use Rattle.disp_model.specs.declared.decision.Decision.{Decision}
use Rattle.disp_model.specs.declared.entry.Split.{Split}
use Rattle.disp_model.specs.declared.fixing.Fixing.{Fixing}
use Rattle.disp_model.specs.declared.problem.Problem.{Problem}
use Rattle.disp_model.specs.declared.settings.Rule.{Rule}
use Rattle.disp_model.specs.declared.tree.Leaf.{Leaf as TreeLeaf}
use Rattle.disp_model.specs.declared.tree.TreeNode.{TreeNode}
use Rattle.disp_model.specs.declared.tree.TreeNode.TheVariants.{Branch, Leaf}
use Rattle.disp_model.specs.Node.{Node, node_at}
use Rattle.disp_model.specs.Trees.{children_of}
use Rattle.open_nodes.specs.declared.place.Above.{Above}
use Rattle.open_nodes.specs.declared.place.Place.{Place}
use Rattle.open_nodes.specs.States.{above_at, above_of, HaveSmallerParents}
use Rattle.open_nodes.specs.Grafts.{Graft, FillPlaces, leaf_at, branch_at, grafted}
use Rattle.open_nodes.specs.Shown.{leaf_in}
use Rattle.open_nodes.specs.Filled.{Spot, HaveChoices}
use Rattle.open_nodes.proofs.Paths.{no_some, decisions_up}
use Rattle.open_nodes.proofs.Filling.{next_spot, IsApart, IsOwn, KeepsFrom, length_spots, grafted_fills}
use Rattle.open_nodes.proofs.Accepting.{nodes_for, children_nodes}
use Rattle.tree_growth.specs.Grown.{KeepsBound, KeepBounds, branches}
use Rattle.tree_growth.proofs.Stepping.{AreReady, Steps, with_leaf, leaf_steps, leaf_made, with_branch, spots_with, branch_steps, branch_made}

module _ (problem : Problem) (fixings : List Fixing) (rule : Rule) (last own : ℕ) (kept : List TreeNode) (behind : Option ℕ)
    (places all : List Place) (small : HaveSmallerParents places) (agree : (n : ℕ) → IsOwn last own n → slice_get places n ≡ slice_get all (n - last)) where
  -- a place, where it is a leaf, keeps its bound at the node of its decisions
  abbrev pub IsHeld : Place → Type 0
  IsHeld p = (leaf : TreeLeaf) → slice_get kept p.shows ≡ Some (Leaf leaf) → KeepsBound rule (node_at problem fixings (decisions_up p.above places)) leaf p.bound

  -- each place is as before and has no spot, or it keeps its bound
  abbrev pub AreHeld : List Place → List Spot → Type 0
  AreHeld grown spots = (j : ℕ) (p : Place) → slice_get all j ≡ Some p → (IsApart last j spots × (slice_get grown j ≡ Some p)) ⊎ IsHeld p

  -- what a fragment makes where spots wait: its places keep their bounds, and so many splits are told
  pub record Made (grown : List Place) (spots : List Spot) (many : ℕ) (graft : Graft) : Type 0 where
    pub held : AreHeld grown spots
    pub splits : length graft.splits ≡ many

  -- the nodes of the decisions above the spots
  abbrev nodes : List Spot → List Node
  nodes spots = nodes_for problem fixings places kept small spots

  -- where a spot is filled by a place that keeps its bound, and the rest do, all do
  held_on : (grown : List Place) (s : Spot) (spots : List Spot) (after : List Place) (more : List Spot) (q : Place) → Steps last own behind grown s spots after more q
      → slice_get all (s.number - last) ≡ Some q → IsHeld q → AreHeld after more → AreHeld grown (s ∷ spots)
  held_on grown s spots after more q steps there here rest j p at = elim (cases_eq j (s.number - last)) [
    | inl e ↦ inr (subst IsHeld (same_Some q p (sym there ∙ ap (λ (k : ℕ). slice_get all k) (sym e) ∙ at)) here)
    | inr other ↦ elim (rest j p at) [
      | inl (apart, old) ↦ let b = steps.before j p other apart old in inl ((other, b.0), b.1)
      | inr held ↦ inr held
    ]
  ]

  -- a leaf keeps its bound at the node of its spot
  leaf_held : (p : Place) (s : Spot) (shows : ℕ) (leaf : TreeLeaf) (bound : ℕ) → p.above ≡ s.above → slice_get kept shows ≡ Some (Leaf leaf)
      → KeepsBound rule (node_at problem fixings (decisions_up s.above places)) leaf bound → IsHeld (leaf_at p shows leaf bound)
  leaf_held p s shows leaf bound above shown holds other found =
      let same : leaf ≡ other = same_Some leaf other (ap leaf_in (sym shown ∙ found)) in
      subst (λ (l : TreeLeaf). KeepsBound rule (node_at problem fixings (decisions_up p.above places)) l bound) same
      (subst (λ (a : Option Above). KeepsBound rule (node_at problem fixings (decisions_up a places)) leaf bound) (sym above) holds)

  -- one induction over the nodes of a fragment
  pub grows_there : (tree : List TreeNode) (shows : ℕ) (grown : List Place) (spots : List Spot) (bounds : List ℕ) (splits : List Split) → AreReady last own behind grown spots
      → FillPlaces problem (length spots) tree bounds → HaveChoices problem tree → KeepsFrom kept shows tree → KeepBounds rule (nodes spots) tree bounds
      → (grafted problem last shows tree (record { grown = grown; at = next_spot behind spots; bounds = bounds; splits = splits })).grown ≡ all
      → Made grown spots (length splits + branches tree) (grafted problem last shows tree (record { grown = grown; at = next_spot behind spots; bounds = bounds; splits = splits }))
  grows_there [] shows grown [] [] splits ready fill choices keeps grows e = record {
    held = λ j p at. inl (tt, ap (λ (l : List Place). slice_get l j) e ∙ at);
    splits = omega arith;
  }
  grows_there [] shows grown [] (bound ∷ bounds) splits ready fill choices keeps grows e = absurd fill
  grows_there [] shows grown (s ∷ spots) bounds splits ready fill choices keeps grows e = absurd fill
  grows_there (node ∷ tree) shows grown [] bounds splits ready fill choices keeps grows e = absurd fill
  grows_there (Leaf leaf ∷ tree) shows grown (s ∷ spots) [] splits ready fill choices keeps grows e = absurd fill
  grows_there (Leaf leaf ∷ tree) shows grown (s ∷ spots) (bound ∷ bounds) splits ready fill choices keeps grows e =
      let i : ℕ = s.number - last in
      let w = ready.wait.0 in
      let q : Place = leaf_at w.place shows leaf bound in
      let after : List Place = with_leaf last own behind grown s q in
      let x : Graft = record { grown = after; at = next_spot behind spots; bounds = bounds; splits = splits } in
      let steps = leaf_steps last own behind grown s spots ready shows leaf bound in
      let made = leaf_made last own behind grown s spots ready shows leaf bound problem bounds splits in
      let on : (grafted problem last (shows + 1) tree x).grown ≡ all = ap (λ (g : Graft). (grafted problem last (shows + 1) tree g).grown) (sym made) ∙ e in
      let (numbers, f) = grafted_fills problem last own kept behind tree (shows + 1) after spots bounds splits steps.ready.some steps.ready.wait steps.ready.apart steps.ready.owned
      fill choices keeps.1 in
      let there : slice_get all i ≡ Some q = ap (λ (l : List Place). slice_get l i) (sym on) ∙ f.others i q steps.apart steps.here in
      let rest = grows_there tree (shows + 1) after spots bounds splits steps.ready fill choices keeps.1 grows.1 on in
      subst (λ (g : Graft). Made grown (s ∷ spots) (length splits + branches tree) (grafted problem last (shows + 1) tree g)) (sym made) (record {
        held = held_on grown s spots after spots q steps there (leaf_held w.place s shows leaf bound w.above_is keeps.0 grows.0) rest.held;
        splits = rest.splits;
      })
  grows_there (Branch choice children ∷ tree) shows grown (s ∷ spots) bounds splits ready fill choices keeps grows e =
      let n : ℕ = s.number in
      let i : ℕ = n - last in
      let w = ready.wait.0 in
      let cs : List Decision = children_of problem choice in
      let first : ℕ = last + length grown in
      let q : Place = branch_at w.place first shows in
      let after : List Place = with_branch last own behind grown s spots cs q in
      let more : List Spot = spots_with last own behind grown s spots cs in
      let split : List Split = splits ++ record { node = n; choice = choice } ∷ [] in
      let x : Graft = record { grown = after; at = next_spot behind more; bounds = bounds; splits = split } in
      let steps = branch_steps last own behind grown s spots ready shows cs in
      let made = branch_made last own behind grown s spots ready shows problem choice children choices.0 bounds splits in
      let on : (grafted problem last (shows + 1) tree x).grown ≡ all = ap (λ (g : Graft). (grafted problem last (shows + 1) tree g).grown) (sym made) ∙ e in
      let long : length more ≡ children + length spots = omega (arith, length_spots last n spots first cs, fill.0) in
      let filled : FillPlaces problem (length more) tree bounds = subst (λ (k : ℕ). FillPlaces problem k tree bounds) (sym long) fill.1 in
      let (numbers, f) = grafted_fills problem last own kept behind tree (shows + 1) after more bounds split steps.ready.some steps.ready.wait steps.ready.apart steps.ready.owned
      filled choices.1 keeps.1 in
      let there : slice_get all i ≡ Some q = ap (λ (l : List Place). slice_get l i) (sym on) ∙ f.others i q steps.apart steps.here in
      let above : above_at places n ≡ s.above = ap above_of (agree n ready.owned.0 ∙ there) ∙ w.above_is in
      let top : Node = node_at problem fixings (decisions_up s.above places) in
      let same : top ≡ node_at problem fixings (decisions_up (above_at places n) places) = ap (λ (a : Option Above). node_at problem fixings (decisions_up a places)) (sym above) in
      let grows_on : KeepBounds rule (nodes more) tree bounds = subst (λ (ms : List Node). KeepBounds rule ms tree bounds)
      (sym (children_nodes problem fixings places kept small n first top spots cs same)) grows.2 in
      let rest = grows_there tree (shows + 1) after more bounds split steps.ready filled choices.1 keeps.1 grows_on on in
      subst (λ (g : Graft). Made grown (s ∷ spots) (length splits + suc (branches tree)) (grafted problem last (shows + 1) tree g)) (sym made) (record {
        held = held_on grown s spots after more q steps there (λ leaf found. absurd (no_some leaf (ap leaf_in (sym keeps.0 ∙ found)))) rest.held;
        splits = omega (arith, rest.splits, length-append splits (record { node = n; choice = choice } ∷ []));
      })
