-- Where a fragment grew that keeps its bounds at the node of its work, so do all leaves, and there are as many splits as branches.
use Rattle.std.proofs.Common.{◌≡◌, ◌∙◌, ℕ, ◌+◌, ◌-◌, ◌<◌, inl, inr, List, [], ◌∷◌, ◌++◌, length, set, refl, sym, ap, subst, arith}
use Rattle.std.specs.Prelude.{Option, Some, None, slice_get}
use Rattle.std.proofs.lemmas.Option.{slice_get_within}
use Rattle.disp_model.specs.declared.decision.Decision.{Decision}
use Rattle.disp_model.specs.declared.entry.Split.{Split}
use Rattle.disp_model.specs.declared.fixing.Fixing.{Fixing}
use Rattle.disp_model.specs.declared.problem.Problem.{Problem}
use Rattle.disp_model.specs.declared.settings.Rule.{Rule}
use Rattle.disp_model.specs.declared.tree.TreeNode.{TreeNode}
use Rattle.disp_model.specs.Node.{node_at}
use Rattle.open_nodes.specs.declared.place.Above.{Above}
use Rattle.open_nodes.specs.declared.place.Place.{Place}
use Rattle.open_nodes.specs.declared.work.Fragment.{Fragment}
use Rattle.open_nodes.specs.States.{State, above_at, above_of, decisions_of, HaveSmallerParents, with_out}
use Rattle.open_nodes.specs.Grafts.{Graft, AllStand, placed, grown_at, Grows as GrowsTo}
use Rattle.open_nodes.specs.Filled.{IsTree}
use Rattle.open_nodes.proofs.Paths.{decisions_up, up_is}
use Rattle.open_nodes.proofs.Growing.{get_more, made_stand, made_some}
use Rattle.open_nodes.proofs.Filling.{IsOwn}
use Rattle.open_nodes.proofs.Planting.{root_there, own_same, above_same, keeps_from, tree_grows}
use Rattle.open_nodes.proofs.Holding.{decisions_same}
use Rattle.open_nodes.proofs.HoldingOn.{NewHave, grown_have}
use Rattle.tree_growth.specs.Grown.{KeepsBound, KeepBounds, branches}
use Rattle.tree_growth.specs.Keeping.{AllKeep}
use Rattle.tree_growth.proofs.Filling.{keeps_fill, Filled}
use Rattle.tree_growth.proofs.Stepping.{AreReady}
use Rattle.tree_growth.proofs.Growing.{Made, grows_there}

-- the leaf that has grown and the new ones keep their bounds, and so many splits are told
pub record Holds (rule : Rule) (problem : Problem) (fixings : List Fixing) (from number : ℕ) (places : List Place) (kept : List TreeNode) (many : ℕ) (splits : List Split) : Type 0 where
  pub leaves : NewHave (KeepsBound rule) problem fixings from number places kept
  pub splits_are : length splits ≡ many

module _ (problem : Problem) (fixings : List Fixing) (rule : Rule) (state : State) (tree : IsTree problem state) (n : ℕ) (x : Place) (there : slice_get state.places n ≡ Some x)
    (subtree : List TreeNode) (bounds : List ℕ) (fill : Filled problem 1 subtree bounds)
    (grows : KeepBounds rule (node_at problem fixings (decisions_of state.places n) ∷ []) subtree bounds) where
  abbrev last : ℕ
  last = length state.places - 1

  abbrev more : List TreeNode
  more = state.kept ++ subtree

  abbrev made : Graft
  made = grown_at problem state n x subtree bounds

  keeps : (k : ℕ) (node : TreeNode) → slice_get state.kept k ≡ Some node → slice_get more k ≡ Some node
  keeps k node at = get_more state.kept subtree k node at

  module _ (root : Place) (fresh : List Place) (up : root.above ≡ x.above) (small : HaveSmallerParents (set (state.places ++ fresh) n root)) where
    abbrev after : List Place
    after = set (state.places ++ fresh) n root

    -- the work's decisions are those above the leaf that has grown
    root_node : decisions_of state.places n ≡ decisions_up x.above after
    root_node =
        let here : above_at after n ≡ x.above = ap above_of (root_there problem state.places state.kept more n x root fresh there keeps) ∙ up in
        sym (decisions_same state.places after tree.parents (above_same problem state.places state.kept more n x root fresh there keeps up) n (slice_get_within state.places n x there))
        ∙ up_is after small n ∙ ap (λ (a : Option Above). decisions_up a after) here

    agree : (q : ℕ) → IsOwn last n q → slice_get after q ≡ slice_get (root ∷ fresh) (q - last)
    agree q own = own_same problem state.places state.kept more n x root fresh there keeps q own

    ready : AreReady last n x.next (with_out x None ∷ []) (record { number = n; above = x.above } ∷ [])
    ready =
        let first : n - last ≡ 0 = omega (arith, slice_get_within state.places n x there) in
        record {
          some = omega arith;
          wait = (record { place = with_out x None; there = ap (λ (k : ℕ). slice_get (with_out x None ∷ []) k) first; above_is = refl; next_is = refl }, tt);
          apart = (tt, tt);
          owned = (inl refl, tt);
        }

    all_made : made.grown ≡ root ∷ fresh
        → Made problem fixings rule last n more x.next after (root ∷ fresh) small agree (with_out x None ∷ []) (record { number = n; above = x.above } ∷ []) (0 + branches subtree) made
    all_made e = grows_there problem fixings rule last n more x.next after (root ∷ fresh) small agree subtree (length state.kept) (with_out x None ∷ [])
        (record { number = n; above = x.above } ∷ []) bounds [] ready fill.fill fill.choices (keeps_from state.kept subtree)
        (subst (λ (ds : List Decision). KeepBounds rule (node_at problem fixings ds ∷ []) subtree bounds) root_node grows) e

    new_hold : made.grown ≡ root ∷ fresh → NewHave (KeepsBound rule) problem fixings (length state.places) n after more
    new_hold e q p leaf own at shown =
        let within : n < length state.places = slice_get_within state.places n x there in
        let mine : IsOwn last n q = elim own [ inl same ↦ inl same | inr le ↦ inr (omega (arith, within, le)) ] in
        let found : slice_get (root ∷ fresh) (q - last) ≡ Some p = sym (agree q mine) ∙ at in
        elim ((all_made e).held (q - last) p found) [
          | inl (apart, before) ↦
              let zeroth : q - last < 1 = slice_get_within (with_out x None ∷ []) (q - last) p before in
              absurd (apart.0 (omega (arith, zeroth, within)))
          | inr held ↦
              let same : decisions_up p.above after ≡ decisions_of after q = ap (λ (a : Option Above). decisions_up a after) (sym (ap above_of at)) ∙ sym (up_is after small q) in
              subst (λ (ds : List Decision). KeepsBound rule (node_at problem fixings ds) leaf p.bound) same (held leaf shown)
        ]

  -- the leaf that grows is the first of the places that it makes
  by_root : (grown : List Place) → made.grown ≡ grown → 0 < length grown → AllStand last x.above grown → HaveSmallerParents (placed state.places n grown)
      → Holds rule problem fixings (length state.places) n (placed state.places n grown) more (branches subtree) made.splits
  by_root [] e some all small = absurd (omega (arith, some))
  by_root (root ∷ fresh) e some all small = record {
    leaves = new_hold root fresh (all 0 root refl).up small e;
    splits_are = omega (arith, (all_made root fresh (all 0 root refl).up small e).splits);
  }

pub grown_holds : (problem : Problem) (fixings : List Fixing) (rule : Rule) (state : State) (fragment : Fragment) (splits : List Split) (after : State) → IsTree problem state
    → GrowsTo problem state fragment splits after
    → KeepBounds rule (node_at problem fixings fragment.work.decisions ∷ []) fragment.subtree fragment.bounds
    → Holds rule problem fixings (length state.places) fragment.work.node after.places after.kept (branches fragment.subtree) splits
grown_holds problem fixings rule state fragment splits after tree to grows =
    let x = to.place in
    let n = fragment.work.node in
    let subtree = fragment.subtree in
    let bounds = fragment.bounds in
    let last : ℕ = length state.places - 1 in
    let made : Graft = grown_at problem state n x subtree bounds in
    let grown : State = record { places = placed state.places n made.grown; kept = state.kept ++ subtree; edition = state.edition } in
    let fill = keeps_fill problem rule subtree (node_at problem fixings fragment.work.decisions ∷ []) bounds (refl, tt) grows in
    let tree_after : IsTree problem grown = subst (λ (s : State). IsTree problem s) to.after_is (tree_grows problem state fragment splits after tree to fill.fill fill.choices) in
    let here : KeepBounds rule (node_at problem fixings (decisions_of state.places n) ∷ []) subtree bounds =
    subst (λ (ds : List Decision). KeepBounds rule (node_at problem fixings ds ∷ []) subtree bounds) to.out.decisions grows in
    let holds : Holds rule problem fixings (length state.places) n grown.places grown.kept (branches subtree) made.splits =
    by_root problem fixings rule state tree n x to.out.there subtree bounds fill here made.grown refl
    (made_some problem last (length state.kept) n x subtree bounds) (made_stand problem last (length state.kept) n x subtree bounds) tree_after.parents in
    subst (λ (s : State). Holds rule problem fixings (length state.places) n s.places s.kept (branches subtree) splits) (sym to.after_is)
    (subst (λ (l : List Split). Holds rule problem fixings (length state.places) n grown.places grown.kept (branches subtree) l) (sym to.splits_are) holds)

-- each leaf keeps its bound if each did before
pub grown_keep : (problem : Problem) (fixings : List Fixing) (rule : Rule) (state : State) (fragment : Fragment) (splits : List Split) (after : State) → IsTree problem state
    → GrowsTo problem state fragment splits after
    → KeepBounds rule (node_at problem fixings fragment.work.decisions ∷ []) fragment.subtree fragment.bounds → AllKeep rule problem fixings state → AllKeep rule problem fixings after
grown_keep problem fixings rule state fragment splits after tree to grows keep =
    grown_have (KeepsBound rule) problem fixings state fragment splits after tree to keep (grown_holds problem fixings rule state fragment splits after tree to grows).leaves
