-- What keeps its bounds under an edition keeps them under a newer one, where no change between them takes one back.
use Rattle.std.proofs.Common.{◌≡◌, ◌∙◌, ℕ, zero, suc, ◌+◌, ◌≤◌, inl, inr, List, [], ◌∷◌, ◌++◌, length, map, take, drop, refl, sym, ap, subst, arith}
use Rattle.std.specs.Prelude.{Some, None, Option, MatchOption, slice_get}
use Rattle.std.proofs.lemmas.List.{take_all, map-append}
use Rattle.std.proofs.lemmas.List.Elements.{All-head, All-tail}
use Rattle.std.proofs.lemmas.Option.{none-some, same_Some, slice_get_cases}
use Rattle.disp_model.specs.declared.decision.Decision.{Decision}
use Rattle.disp_model.specs.declared.fixing.Change.{Change}
use Rattle.disp_model.specs.declared.fixing.Change.TheVariants.{Fix, Withdraw}
use Rattle.disp_model.specs.declared.fixing.Fixing.{Fixing}
use Rattle.disp_model.specs.declared.problem.Problem.{Problem}
use Rattle.disp_model.specs.declared.settings.Rule.{Rule}
use Rattle.disp_model.specs.declared.tree.Leaf.{Leaf as TreeLeaf}
use Rattle.disp_model.specs.declared.tree.TreeNode.{TreeNode}
use Rattle.disp_model.specs.declared.tree.TreeNode.TheVariants.{Branch, Leaf}
use Rattle.disp_model.specs.declared.tree.Verdict.TheVariants.{Optimal}
use Rattle.disp_model.specs.Changes.{standing_of}
use Rattle.disp_model.specs.History.{changes_of, fixings_after, edition_of}
use Rattle.disp_model.specs.Node.{Node, node_at, with_decision}
use Rattle.disp_model.specs.Replies.{IsEdition}
use Rattle.disp_model.specs.Trees.{children_of}
use Rattle.disp_laws.proofs.LeavesStay.{leaf_stays}
use Rattle.disp_laws.proofs.Tightened.{accepted_tightens}
use Rattle.history_laws.proofs.Legality.{editions_are}
use Rattle.open_nodes.specs.declared.work.Fragment.{Fragment}
use Rattle.open_nodes.specs.declared.work.Growth.{Growth}
use Rattle.open_nodes.specs.Grafts.{FillPlaces, GrowsBy}
use Rattle.open_nodes.specs.States.{State}
use Rattle.tree_growth.specs.Grown.{KeepsBound, KeepBounds}
use Rattle.tree_growth.proofs.Helping.{grows_keeps}
use Rattle.tree_growth.specs.Left.{IsLeft}
use Rattle.tree_growth.proofs.Filling.{keeps_fill}
use Rattle.tree_growth.proofs.Leaving.{all_left, left_keeps}
use Rattle.dispatch_core.specs.Asked.{IsGrowth}
use Rattle.dispatch_core.specs.Pending.{lists_below}
use Rattle.dispatch_core.specs.Remaining.{IsWithdrawal, AreFixingChanges, AreLeftOf, with_tree}
use Rattle.dispatch_core.specs.States.{Core, IsSound}
use Rattle.dispatch_core.proofs.Behind.{stands_behind}
use Rattle.dispatch_core.proofs.Leaving.{children_are}

-- ---- under other fixings

-- where each leaf keeps its bound, so do all
module _ (problem : Problem) (old new : List Fixing) (rule : Rule)
    (carries : (ds : List Decision) (leaf : TreeLeaf) (bound : ℕ) → KeepsBound rule (node_at problem old ds) leaf bound → KeepsBound rule (node_at problem new ds) leaf bound) where
  abbrev under : List Fixing → List (List Decision) → List Node
  under fixings dss = map (λ ds. node_at problem fixings ds) dss

  below_first : (fixings : List Fixing) (above children : List Decision) (dss : List (List Decision))
      → under fixings (lists_below above children ++ dss) ≡ map (with_decision (node_at problem fixings above)) children ++ under fixings dss
  below_first fixings above children dss =
      map-append (λ ds. node_at problem fixings ds) (lists_below above children) dss ∙ ap (λ (ns : List Node). ns ++ under fixings dss) (children_are problem fixings above children)

  all_carry : (tree : List TreeNode) (dss : List (List Decision)) (bounds : List ℕ) → KeepBounds rule (under old dss) tree bounds → KeepBounds rule (under new dss) tree bounds
  all_carry [] [] [] keeps = keeps
  all_carry [] [] (bound ∷ bounds) keeps = absurd keeps
  all_carry (top ∷ tree) [] bounds keeps = absurd keeps
  all_carry [] (ds ∷ dss) bounds keeps = absurd keeps
  all_carry (Leaf leaf ∷ tree) (ds ∷ dss) [] keeps = absurd keeps
  all_carry (Leaf leaf ∷ tree) (ds ∷ dss) (bound ∷ bounds) keeps = (carries ds leaf bound keeps.0, all_carry tree dss bounds keeps.1)
  all_carry (Branch choice children ∷ tree) (ds ∷ dss) bounds keeps =
      let cs : List Decision = children_of problem choice in
      let more : List (List Decision) = lists_below ds cs ++ dss in
      let on : KeepBounds rule (under old more) tree bounds = subst (λ (ns : List Node). KeepBounds rule ns tree bounds) (sym (below_first old ds cs dss)) keeps.2 in
      (keeps.0, keeps.1, subst (λ (ns : List Node). KeepBounds rule ns tree bounds) (below_first new ds cs dss) (all_carry tree more bounds on))

-- ---- along the changes of an edition

module _ (problem : Problem) (changes : List Change) (edition : IsEdition problem changes) where
  module _ (rule : Rule) (decisions : List Decision) (tree : List TreeNode) (bounds : List ℕ) where
    -- the nodes keep their bounds after so many changes
    abbrev KeepAt : ℕ → Type 0
    KeepAt count = KeepBounds rule (node_at problem (standing_of (take count changes)) decisions ∷ []) tree bounds

    one_on : (j : ℕ) (change : Change) → slice_get changes j ≡ Some change → (IsWithdrawal change → ⊥) → KeepAt j → KeepAt (j + 1)
    one_on j (Withdraw number) at fixes keeps = absurd (fixes tt)
    one_on j (Fix fixing) at fixes keeps =
        let old : List Fixing = standing_of (take j changes) in
        subst (λ (fs : List Fixing). KeepBounds rule (node_at problem fs decisions ∷ []) tree bounds) (sym (stands_behind problem changes edition j fixing at))
        (all_carry problem old (old ++ fixing ∷ []) rule
        (λ ds leaf bound k. record {
          holds = leaf_stays (node_at problem old ds) (fixing ∷ []) (Optimal bound) leaf (accepted_tightens problem (take j changes) fixing (j + 1) (edition j (Fix fixing) at)) k.holds;
          counts = k.counts;
          fits = k.fits;
        }) tree (decisions ∷ []) bounds keeps)

    -- past the changes nothing is new
    past : (j : ℕ) → length changes ≤ j → KeepAt j → KeepAt (j + 1)
    past j all keeps = subst (λ (l : List Change). KeepBounds rule (node_at problem (standing_of l) decisions ∷ []) tree bounds)
        (take_all j changes all ∙ sym (take_all (j + 1) changes (omega (arith, all)))) keeps

    module _ (from : ℕ) (fixes : (i : ℕ) (change : Change) → from ≤ i → slice_get changes i ≡ Some change → IsWithdrawal change → ⊥) where
      on : (more : ℕ) → KeepAt from → KeepAt (from + more)
      on zero keeps = let none : from ≡ from + 0 = omega arith in subst KeepAt none keeps
      on (suc more) keeps =
          let j : ℕ = from + more in
          let next : j + 1 ≡ from + suc more = omega arith in
          let here : KeepAt j = on more keeps in
          subst KeepAt next (elim (slice_get_cases changes j).1 [
            | inl found ↦ one_on j found.0 found.2 (fixes j found.0 (omega arith) found.2) here
            | inr none ↦ past j none.0 here
          ])

      all_on : KeepAt from → KeepBounds rule (node_at problem (standing_of changes) decisions ∷ []) tree bounds
      all_on keeps = subst (λ (l : List Change). KeepBounds rule (node_at problem (standing_of l) decisions ∷ []) tree bounds)
          (take_all (from + length changes) changes (omega arith)) (on (length changes) keeps)

-- the changes behind the first ones, by their places
dropped_fixings : (from : ℕ) (changes : List Change) → AreFixingChanges (drop from changes) → (i : ℕ) (change : Change) → from ≤ i → slice_get changes i ≡ Some change → IsWithdrawal change → ⊥
dropped_fixings from [] fixings i change later at = absurd (none-some change at)
dropped_fixings zero (first ∷ changes) fixings zero change later at = subst (λ (c : Change). IsWithdrawal c → ⊥) (same_Some first change at) (All-head (λ c. IsWithdrawal c → ⊥) first changes fixings)
dropped_fixings zero (first ∷ changes) fixings (suc i) change later at = dropped_fixings zero changes (All-tail (λ c. IsWithdrawal c → ⊥) first changes fixings) i change (omega arith) at
dropped_fixings (suc from) (first ∷ changes) fixings zero change later at = absurd (omega (arith, later))
dropped_fixings (suc from) (first ∷ changes) fixings (suc i) change later at = dropped_fixings from changes fixings i change (omega (arith, later)) at

-- all of a fragment is left
pub all_stays : (core : Core) → IsSound core → (fragment : Fragment) → IsGrowth core fragment → AreFixingChanges (drop fragment.work.edition (changes_of core.history))
    → AreLeftOf core fragment fragment.subtree fragment.bounds
all_stays core sound fragment growth fixings =
    let node = node_at core.problem (edition_of core.history) fragment.work.decisions in
    let rule = core.settings.rule in
    let then = grows_keeps rule fragment.work.best fragment.subtree (node_at core.problem (fixings_after fragment.work.edition core.history) fragment.work.decisions ∷ []) fragment.bounds growth.grows in
    all_left rule fragment.subtree (node ∷ []) fragment.bounds
    (all_on core.problem (changes_of core.history) (editions_are core.problem core.settings core.history sound.legal) rule fragment.work.decisions fragment.subtree fragment.bounds
    fragment.work.edition (dropped_fixings fragment.work.edition (changes_of core.history) fixings) then)

-- ---- what fills the place of the leaf

-- of the same problem, nodes and bounds
fills_as : (problem other : Problem) (tree same : List TreeNode) (bounds equal : List ℕ) → problem ≡ other → tree ≡ same → bounds ≡ equal → FillPlaces other 1 same equal → FillPlaces problem 1 tree bounds
fills_as problem other tree same bounds equal problem_is tree_is bounds_are fills =
    subst (λ (p : Problem). FillPlaces p 1 tree bounds) (sym problem_is)
    (subst (λ (t : List TreeNode). FillPlaces other 1 t bounds) (sym tree_is) (subst (λ (bs : List ℕ). FillPlaces other 1 same bs) (sym bounds_are) fills))

-- what grows fills it
pub growth_fills : (core : Core) (fragment : Fragment) → IsGrowth core fragment → (problem : Problem) (tree : List TreeNode) (bounds : List ℕ)
    → problem ≡ core.problem → tree ≡ fragment.subtree → bounds ≡ fragment.bounds → FillPlaces problem 1 tree bounds
growth_fills core fragment growth problem tree bounds problem_is tree_is bounds_are =
    let places = node_at core.problem (fixings_after fragment.work.edition core.history) fragment.work.decisions ∷ [] in
    fills_as problem core.problem tree fragment.subtree bounds fragment.bounds problem_is tree_is bounds_are
    (keeps_fill core.problem core.settings.rule fragment.subtree places fragment.bounds (refl, tt)
    (grows_keeps core.settings.rule fragment.work.best fragment.subtree places fragment.bounds growth.grows)).fill

-- what is left fills it too
left_fills : (core : Core) (fragment : Fragment) → IsGrowth core fragment → (nodes : List TreeNode) (bounds : List ℕ) → AreLeftOf core fragment nodes bounds → FillPlaces core.problem 1 nodes bounds
left_fills core fragment growth nodes bounds left =
    let then = fixings_after fragment.work.edition core.history in
    let now = edition_of core.history in
    let ds = fragment.work.decisions in
    (keeps_fill core.problem core.settings.rule nodes (node_at core.problem now ds ∷ []) bounds (refl, tt)
    (left_keeps core.problem then now core.settings.rule fragment.subtree (ds ∷ []) fragment.bounds nodes bounds
    (grows_keeps core.settings.rule fragment.work.best fragment.subtree (node_at core.problem then ds ∷ []) fragment.bounds growth.grows) left)).fill

-- whether all is left, or these nodes and bounds
module _ {L : Type 0} (nodes_in : L → List TreeNode) (bounds_in : L → List ℕ) (core : Core) (fragment : Fragment) where
  abbrev pub IsLeftIn : Option L → Type 0
  IsLeftIn left = MatchOption left (AreLeftOf core fragment fragment.subtree fragment.bounds) (λ l. AreLeftOf core fragment (nodes_in l) (bounds_in l))

  pub either_fills : IsGrowth core fragment → (left : Option L) → IsLeftIn left → (problem : Problem) → problem ≡ core.problem
      → MatchOption left (FillPlaces problem 1 fragment.subtree fragment.bounds) (λ l. FillPlaces problem 1 (nodes_in l) (bounds_in l))
  either_fills growth None is problem same = growth_fills core fragment growth problem fragment.subtree fragment.bounds same refl refl
  either_fills growth (Some l) is problem same =
      subst (λ (p : Problem). FillPlaces p 1 (nodes_in l) (bounds_in l)) (sym same) (left_fills core fragment growth (nodes_in l) (bounds_in l) is)

  -- what has grown is what is left of the fragment
  pub either_grows : (left : Option L) → IsLeftIn left → (answer : Growth) (nodes : State)
      → MatchOption left (GrowsBy core.problem core.nodes fragment answer nodes) (λ l. GrowsBy core.problem core.nodes (with_tree fragment (nodes_in l) (bounds_in l)) answer nodes)
      → (part : Fragment) × IsLeft core.problem (edition_of core.history) fragment part × GrowsBy core.problem core.nodes part answer nodes
  either_grows None is answer nodes grows = (fragment, record { work = refl; nodes = is }, grows)
  either_grows (Some l) is answer nodes grows = (with_tree fragment (nodes_in l) (bounds_in l), record { work = refl; nodes = is }, grows)
