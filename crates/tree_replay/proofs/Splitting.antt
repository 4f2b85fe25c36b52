-- What the splits of a fragment make of the grown tree: its leaf gives way to the nodes, in preorder.
use Rattle.std.proofs.Common.{◌≡◌, ◌≢◌, ◌∙◌, ℕ, ◌+◌, ◌<◌, ◌≤◌, List, [], ◌∷◌, ◌++◌, length, refl, sym, ap, append_assoc, arith, eq-eqb, ne_eqb}
use Rattle.std.specs.Prelude.{Option, Some, slice_get}
use Rattle.disp_model.specs.declared.decision.Choice.{Choice}
use Rattle.disp_model.specs.declared.decision.Decision.{Decision}
use Rattle.disp_model.specs.declared.problem.Problem.{Problem}
use Rattle.disp_model.specs.declared.tree.TreeNode.{TreeNode}
use Rattle.disp_model.specs.declared.tree.TreeNode.TheVariants.{Branch, Leaf}
use Rattle.disp_model.specs.Replay.{Place as Grown, branch, leaf, Growth, leaves_for, split_places, after_split, after_splits, above_leaf}
use Rattle.disp_model.specs.Trees.{children_of}
use Rattle.open_nodes.specs.declared.place.Place.{Place}
use Rattle.open_nodes.specs.declared.place.Above.{Above}
use Rattle.open_nodes.specs.States.{State, above_at, above_of, decisions_of, HaveSmallerParents}
use Rattle.open_nodes.specs.Filled.{Spot, spots_for}
use Rattle.open_nodes.proofs.Paths.{decisions_up, up_is, up_more}
use Rattle.tree_replay.specs.Replayed.{AreShownAt}
use Rattle.tree_replay.proofs.Following.{numbers_for, splits_for, unused_for, ShowsAt, Follows}

-- ---- the leaf of a number that none in front has

-- a fact holds of the number of each leaf
abbrev pub EachLeaf : (ℕ → Type 0) → List Grown → Type 0
EachLeaf P [] = Unit {0}
EachLeaf P (branch choice ∷ places) = EachLeaf P places
EachLeaf P (leaf number above ∷ places) = P number × EachLeaf P places

pub each_map : (P Q : ℕ → Type 0) (places : List Grown) → ((n : ℕ) → P n → Q n) → EachLeaf P places → EachLeaf Q places
each_map P Q [] f all = tt
each_map P Q (branch choice ∷ places) f all = each_map P Q places f all
each_map P Q (leaf number above ∷ places) f all = (f number all.0, each_map P Q places f all.1)

each_more : (P : ℕ → Type 0) (xs ys : List Grown) → EachLeaf P xs → EachLeaf P ys → EachLeaf P (xs ++ ys)
each_more P [] ys all more = more
each_more P (branch choice ∷ xs) ys all more = each_more P xs ys all more
each_more P (leaf number above ∷ xs) ys all more = (all.0, each_more P xs ys all.1 more)

module _ (n : ℕ) (above : List Decision) (behind : List Grown) where
  split_front : (problem : Problem) (choice : Choice) (unused : ℕ) (front : List Grown) → EachLeaf (λ m. m ≢ n) front
      → split_places problem (record { node = n; choice = choice }) unused (front ++ leaf n above ∷ behind)
      ≡ front ++ branch choice ∷ (leaves_for unused above (children_of problem choice) ++ behind)
  split_front problem choice unused [] other = rw (eq-eqb n n refl) refl
  split_front problem choice unused (branch c ∷ front) other = ap (λ (l : List Grown). branch c ∷ l) (split_front problem choice unused front other)
  split_front problem choice unused (leaf m up ∷ front) other = rw (ne_eqb m n other.0) (ap (λ (l : List Grown). leaf m up ∷ l) (split_front problem choice unused front other.1))

  pub above_front : (front : List Grown) → EachLeaf (λ m. m ≢ n) front → above_leaf n (front ++ leaf n above ∷ behind) ≡ Some above
  above_front [] other = rw (eq-eqb n n refl) refl
  above_front (branch c ∷ front) other = above_front front other
  above_front (leaf m up ∷ front) other = rw (ne_eqb m n other.0) (above_front front other.1)

-- ---- the spots that wait, by their numbers

-- no spot has this number
abbrev IsNone : ℕ → List Spot → Type 0
IsNone n [] = Unit {0}
IsNone n (s ∷ spots) = (n ≢ s.number) × IsNone n spots

-- the spots have numbers below the next unused one, and no two the same
abbrev AreUsed : ℕ → List Spot → Type 0
AreUsed unused [] = Unit {0}
AreUsed unused (s ∷ spots) = (s.number < unused) × IsNone s.number spots × AreUsed unused spots

-- a leaf that is passed: its number is used, and none of those that wait
abbrev pub IsPassed : List Spot → ℕ → ℕ → Type 0
IsPassed spots unused n = (n < unused) × IsNone n spots

-- the leaves in front are passed, and those that wait have numbers of their own
pub record Stands (front : List Grown) (spots : List Spot) (unused : ℕ) : Type 0 where
  pub passed : EachLeaf (IsPassed spots unused) front
  pub waiting : AreUsed unused spots

none_above : (unused n : ℕ) (spots : List Spot) → unused ≤ n → AreUsed unused spots → IsNone n spots
none_above unused n [] le used = tt
none_above unused n (s ∷ spots) le used = (λ e. omega (arith, le, e, used.0), none_above unused n spots le used.2)

used_more : (unused later : ℕ) (spots : List Spot) → unused ≤ later → AreUsed unused spots → AreUsed later spots
used_more unused later [] le used = tt
used_more unused later (s ∷ spots) le used = (omega (arith, le, used.0), used.1, used_more unused later spots le used.2)

module _ (parent : ℕ) (spots : List Spot) where
  none_new : (n number : ℕ) (cs : List Decision) → n < number → IsNone n spots → IsNone n (spots_for parent number cs ++ spots)
  none_new n number [] lt none = none
  none_new n number (d ∷ cs) lt none = (λ e. omega (arith, lt, e), none_new n (number + 1) cs (omega (arith, lt)) none)

  used_new : (unused later number : ℕ) (cs : List Decision) → unused ≤ number → number + length cs ≤ later → AreUsed unused spots → AreUsed later (spots_for parent number cs ++ spots)
  used_new unused later number [] le fits used = used_more unused later spots (omega (arith, le, fits)) used
  used_new unused later number (d ∷ cs) le fits used = (
    omega (arith, fits),
    none_new number (number + 1) cs (omega arith) (none_above unused number spots le used),
    used_new unused later (number + 1) cs (omega (arith, le)) (omega (arith, fits)) used,
  )

module _ (s : Spot) (spots : List Spot) (unused : ℕ) (front : List Grown) (stands : Stands front (s ∷ spots) unused) where
  pub lacks : EachLeaf (λ m. m ≢ s.number) front
  lacks = each_map (IsPassed (s ∷ spots) unused) (λ m. m ≢ s.number) front (λ m h. h.1.0) stands.passed

  pub leaf_stands : (above : List Decision) → Stands (front ++ leaf s.number above ∷ []) spots unused
  leaf_stands above = record {
    passed = each_more (IsPassed spots unused) front (leaf s.number above ∷ [])
        (each_map (IsPassed (s ∷ spots) unused) (IsPassed spots unused) front (λ m h. (h.0, h.1.1)) stands.passed)
        ((stands.waiting.0, stands.waiting.1), tt);
    waiting = stands.waiting.2;
  }

  pub branch_stands : (choice : Choice) (cs : List Decision) → Stands (front ++ branch choice ∷ []) (spots_for s.number unused cs ++ spots) (unused + length cs)
  branch_stands choice cs =
      let more : List Spot = spots_for s.number unused cs ++ spots in
      record {
        passed = each_more (IsPassed more (unused + length cs)) front (branch choice ∷ [])
            (each_map (IsPassed (s ∷ spots) unused) (IsPassed more (unused + length cs)) front
            (λ m h. (let lt : m < unused = h.0 in omega (arith, lt), none_new s.number spots m unused cs h.0 h.1.1)) stands.passed)
            tt;
        waiting = used_new s.number spots unused (unused + length cs) unused cs (omega arith) (omega arith) stands.waiting.2;
      }

-- ---- the leaves that wait, and what the nodes make of them

module _ (problem : Problem) (places : List Place) where
  -- the leaves of the spots that wait
  abbrev pub leaves_of : List Spot → List Grown
  leaves_of [] = []
  leaves_of (s ∷ spots) = leaf s.number (decisions_up s.above places) ∷ leaves_of spots

  -- the nodes in the place of the leaves
  abbrev pub part_for : List TreeNode → List Spot → ℕ → List Grown
  part_for [] spots unused = []
  part_for (node ∷ tree) [] unused = []
  part_for (Leaf shown ∷ tree) (s ∷ spots) unused = leaf s.number (decisions_up s.above places) ∷ part_for tree spots unused
  part_for (Branch choice children ∷ tree) (s ∷ spots) unused =
      branch choice ∷ part_for tree (spots_for s.number unused (children_of problem choice) ++ spots) (unused + length (children_of problem choice))

  -- the places that are passed, those that wait, and those behind
  abbrev pub growth_of : List Grown → List Spot → List Grown → ℕ → Growth
  growth_of front spots behind unused = record { places = front ++ (leaves_of spots ++ behind); unused = unused }

  module _ (small : HaveSmallerParents places) where
    children_leaves : (n number : ℕ) (above : List Decision) (spots : List Spot) (cs : List Decision) → above ≡ decisions_up (above_at places n) places
        → leaves_for number above cs ++ leaves_of spots ≡ leaves_of (spots_for n number cs ++ spots)
    children_leaves n number above spots [] e = refl
    children_leaves n number above spots (d ∷ cs) e =
        let up : Above = record { parent = n; decision = d } in
        let first : above ++ d ∷ [] ≡ decisions_up (Some up) places = ap (λ (ds : List Decision). ds ++ d ∷ []) e ∙ sym (up_more places small up) in
        ap (λ (ds : List Decision). leaf number ds ∷ (leaves_for (number + 1) above cs ++ leaves_of spots)) first
        ∙ ap (λ (l : List Grown). leaf number (decisions_up (Some up) places) ∷ l) (children_leaves n (number + 1) above spots cs e)

    module _ (kept : List TreeNode) (behind : List Grown) where
      -- a leaf is passed
      pub leaf_passed : (s : Spot) (spots : List Spot) (front : List Grown) (unused : ℕ)
          → growth_of front (s ∷ spots) behind unused ≡ growth_of (front ++ leaf s.number (decisions_up s.above places) ∷ []) spots behind unused
      leaf_passed s spots front unused =
          ap (λ (l : List Grown). record { places = l; unused = unused })
          (sym (append_assoc front (leaf s.number (decisions_up s.above places) ∷ []) (leaves_of spots ++ behind)))

      -- a leaf is split
      pub leaf_split : (s : Spot) (spots : List Spot) (front : List Grown) (unused : ℕ) (choice : Choice) (node : TreeNode) → ShowsAt (slice_get places) kept s node
          → Stands front (s ∷ spots) unused
          → after_split problem (growth_of front (s ∷ spots) behind unused) (record { node = s.number; choice = choice })
          ≡ growth_of (front ++ branch choice ∷ []) (spots_for s.number unused (children_of problem choice) ++ spots) behind (unused + length (children_of problem choice))
      leaf_split s spots front unused choice node is stands =
          let cs : List Decision = children_of problem choice in
          let above : List Decision = decisions_up s.above places in
          let up : above ≡ decisions_up (above_at places s.number) places =
          ap (λ (o : Option Above). decisions_up o places) (sym (ap above_of is.there ∙ is.above_is)) in
          let parts : leaves_for unused above cs ++ (leaves_of spots ++ behind) ≡ leaves_of (spots_for s.number unused cs ++ spots) ++ behind =
          sym (append_assoc (leaves_for unused above cs) (leaves_of spots) behind)
          ∙ ap (λ (l : List Grown). l ++ behind) (children_leaves s.number unused above spots cs up) in
          let places_are : split_places problem (record { node = s.number; choice = choice }) unused (front ++ (leaves_of (s ∷ spots) ++ behind))
          ≡ (front ++ branch choice ∷ []) ++ (leaves_of (spots_for s.number unused cs ++ spots) ++ behind) =
          split_front s.number above (leaves_of spots ++ behind) problem choice unused front (lacks s spots unused front stands)
          ∙ ap (λ (l : List Grown). front ++ branch choice ∷ l) parts
          ∙ sym (append_assoc front (branch choice ∷ []) (leaves_of (spots_for s.number unused cs ++ spots) ++ behind)) in
          ap (λ (l : List Grown). record { places = l; unused = unused + length cs }) places_are

      -- all splits, one after the other
      pub splits_make : (tree : List TreeNode) (spots : List Spot) (unused : ℕ) (front : List Grown) → Follows problem (slice_get places) kept tree spots unused
          → Stands front spots unused
          → after_splits problem (growth_of front spots behind unused) (splits_for problem tree spots unused)
          ≡ record { places = front ++ (part_for tree spots unused ++ behind); unused = unused_for problem tree spots unused }
      splits_make [] [] unused front f stands = refl
      splits_make [] (s ∷ spots) unused front f stands = absurd f
      splits_make (node ∷ tree) [] unused front f stands = absurd f
      splits_make (Leaf shown ∷ tree) (s ∷ spots) unused front f stands =
          let here : Grown = leaf s.number (decisions_up s.above places) in
          ap (λ (g : Growth). after_splits problem g (splits_for problem tree spots unused)) (leaf_passed s spots front unused)
          ∙ splits_make tree spots unused (front ++ here ∷ []) f.1 (leaf_stands s spots unused front stands (decisions_up s.above places))
          ∙ ap (λ (l : List Grown). record { places = l; unused = unused_for problem tree spots unused }) (append_assoc front (here ∷ []) (part_for tree spots unused ++ behind))
      splits_make (Branch choice children ∷ tree) (s ∷ spots) unused front f stands =
          let cs : List Decision = children_of problem choice in
          let more : List Spot = spots_for s.number unused cs ++ spots in
          let later : ℕ = unused + length cs in
          ap (λ (g : Growth). after_splits problem g (splits_for problem tree more later)) (leaf_split s spots front unused choice (Branch choice children) f.0 stands)
          ∙ splits_make tree more later (front ++ branch choice ∷ []) f.1 (branch_stands s spots unused front stands choice cs)
          ∙ ap (λ (l : List Grown). record { places = l; unused = unused_for problem tree more later }) (append_assoc front (branch choice ∷ []) (part_for tree more later ++ behind))

-- ---- what the nodes make is shown

module _ (problem : Problem) (state : State) (small : HaveSmallerParents state.places) where
  pub part_shown : (tree : List TreeNode) (spots : List Spot) (unused : ℕ) → Follows problem (slice_get state.places) state.kept tree spots unused
      → AreShownAt state (numbers_for problem tree spots unused) (part_for problem state.places tree spots unused)
  part_shown [] [] unused f = tt
  part_shown [] (s ∷ spots) unused f = absurd f
  part_shown (node ∷ tree) [] unused f = absurd f
  part_shown (Leaf shown ∷ tree) (s ∷ spots) unused (is, rest) =
      let up : above_at state.places s.number ≡ s.above = ap above_of is.there ∙ is.above_is in
      let decisions : decisions_up s.above state.places ≡ decisions_of state.places s.number =
      ap (λ (o : Option Above). decisions_up o state.places) (sym up) ∙ sym (up_is state.places small s.number) in
      ((is.place, shown, is.there, is.shown, refl, decisions), part_shown tree spots unused rest)
  part_shown (Branch choice children ∷ tree) (s ∷ spots) unused (is, rest) =
      let cs : List Decision = children_of problem choice in
      ((is.place, children, is.there, is.shown), part_shown tree (spots_for s.number unused cs ++ spots) (unused + length cs) rest)
