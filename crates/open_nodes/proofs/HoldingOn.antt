-- Where a leaf of a tree has grown, what held at the other leaves does as before.
use Rattle.std.proofs.Common.{◌≡◌, ◌∙◌, ℕ, ◌-◌, ◌<◌, inl, inr, List, [], ◌∷◌, ◌++◌, length, set, refl, sym, ap, subst, arith}
use Rattle.std.specs.Prelude.{Some, None, ◌⊎◌, ◌≤◌, slice_get}
use Rattle.std.proofs.lemmas.Bool.{cases_eq, cases_lt}
use Rattle.std.proofs.lemmas.Option.{same_Some}
use Rattle.disp_model.specs.declared.decision.Decision.{Decision}
use Rattle.disp_model.specs.declared.entry.Split.{Split}
use Rattle.disp_model.specs.declared.fixing.Fixing.{Fixing}
use Rattle.disp_model.specs.declared.problem.Problem.{Problem}
use Rattle.disp_model.specs.declared.tree.Leaf.{Leaf as TreeLeaf}
use Rattle.disp_model.specs.declared.tree.TreeNode.{TreeNode}
use Rattle.disp_model.specs.declared.tree.TreeNode.TheVariants.{Leaf}
use Rattle.disp_model.specs.declared.tree.Verdict.TheVariants.{Optimal}
use Rattle.disp_model.specs.Node.{Node, node_at}
use Rattle.disp_model.specs.Trees.{LeafHolds}
use Rattle.open_nodes.specs.declared.place.Place.{Place}
use Rattle.open_nodes.specs.declared.work.Fragment.{Fragment}
use Rattle.open_nodes.specs.States.{State, decisions_of}
use Rattle.open_nodes.specs.Grafts.{AllStand, placed, grown_at, Grows}
use Rattle.open_nodes.specs.Filled.{IsTree, AllHold, NewHold}
use Rattle.open_nodes.proofs.Growing.{get_more, made_stand, made_some}
use Rattle.open_nodes.proofs.Joining.{every_in}
use Rattle.open_nodes.proofs.Planting.{other_same, above_same}
use Rattle.open_nodes.proofs.Holding.{shows_kept, decisions_same}

module _ (K : Node → TreeLeaf → ℕ → Type 0) (problem : Problem) (fixings : List Fixing) where
  -- each leaf has this of its node and its kept bound
  abbrev pub AllHave : List Place → List TreeNode → Type 0
  AllHave places kept = (n : ℕ) (place : Place) (leaf : TreeLeaf) → slice_get places n ≡ Some place → slice_get kept place.shows ≡ Some (Leaf leaf)
      → K (node_at problem fixings (decisions_of places n)) leaf place.bound

  -- the leaf of a number, and those of numbers from one on, have it
  abbrev pub NewHave : ℕ → ℕ → List Place → List TreeNode → Type 0
  NewHave from number places kept = (n : ℕ) (place : Place) (leaf : TreeLeaf) → (n ≡ number) ⊎ (from ≤ n) → slice_get places n ≡ Some place
      → slice_get kept place.shows ≡ Some (Leaf leaf) → K (node_at problem fixings (decisions_of places n)) leaf place.bound

  module _ (state : State) (tree : IsTree problem state) (n : ℕ) (x : Place) (there : slice_get state.places n ≡ Some x)
      (more : List TreeNode) (keeps : (k : ℕ) (node : TreeNode) → slice_get state.kept k ≡ Some node → slice_get more k ≡ Some node)
      (have : AllHave state.places state.kept) where
    held : (grown : List Place) → 0 < length grown → AllStand (length state.places - 1) x.above grown
        → NewHave (length state.places) n (placed state.places n grown) more → AllHave (placed state.places n grown) more
    held [] some all new m p leaf at shown = absurd (omega (arith, some))
    held (root ∷ fresh) some all new m p leaf at shown = elim (cases_eq m n) [
      | inl e ↦ new m p leaf (inl e) at shown
      | inr ne ↦ elim (cases_lt m (length state.places)) [
        | inl lt ↦
            let before : slice_get state.places m ≡ Some p = sym (other_same problem state.places state.kept more n x root fresh there keeps m ne lt) ∙ at in
            let on_links = every_in problem state.places state.kept (record { number = 0; above = None } ∷ []) tree.numbers (Some 0) tree.leads tree.filled tree.count m lt in
            let (node, kept_there) = shows_kept problem state.places state.kept (record { number = 0; above = None } ∷ []) tree.numbers tree.filled m on_links p before in
            let is : node ≡ Leaf leaf = same_Some node (Leaf leaf) (sym (keeps p.shows node kept_there) ∙ shown) in
            subst (λ (ds : List Decision). K (node_at problem fixings ds) leaf p.bound)
            (sym (decisions_same state.places (set (state.places ++ fresh) n root) tree.parents
            (above_same problem state.places state.kept more n x root fresh there keeps (all 0 root refl).up) m lt))
            (have m p leaf before (kept_there ∙ ap Some is))
        | inr le ↦ new m p leaf (inr le) at shown
      ]
    ]

  pub grown_have : (state : State) (fragment : Fragment) (splits : List Split) (after : State) → IsTree problem state
      → Grows problem state fragment splits after → AllHave state.places state.kept
      → NewHave (length state.places) fragment.work.node after.places after.kept → AllHave after.places after.kept
  grown_have state fragment splits after tree grows have =
      let x = grows.place in
      let n = fragment.work.node in
      let last : ℕ = length state.places - 1 in
      subst (λ (s : State). NewHave (length state.places) n s.places s.kept → AllHave s.places s.kept) (sym grows.after_is)
      (held state tree n x grows.out.there (state.kept ++ fragment.subtree) (λ k node e. get_more state.kept fragment.subtree k node e) have
      (grown_at problem state n x fragment.subtree fragment.bounds).grown
      (made_some problem last (length state.kept) n x fragment.subtree fragment.bounds)
      (made_stand problem last (length state.kept) n x fragment.subtree fragment.bounds))

-- so each leaf holds for its kept bound if the new ones do
pub grown_hold : (problem : Problem) (fixings : List Fixing) (state : State) (fragment : Fragment) (splits : List Split) (after : State) → IsTree problem state
    → Grows problem state fragment splits after → AllHold problem fixings state.places state.kept
    → NewHold problem fixings (length state.places) fragment.work.node after.places after.kept → AllHold problem fixings after.places after.kept
grown_hold problem fixings state fragment splits after tree grows hold new =
    grown_have (λ node leaf bound. LeafHolds node (Optimal bound) leaf) problem fixings state fragment splits after tree grows hold new
