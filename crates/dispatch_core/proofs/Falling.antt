-- Leaves that no longer hold have fallen back: what stays true of the tree.
use Rattle.std.proofs.Common.{◌≡◌, ◌≢◌, ◌∙◌, ℕ, zero, suc, ◌<◌, ◌≤◌, inl, inr, List, [], ◌∷◌, length, get_or, set, refl, sym, ap, subst, arith}
use Rattle.std.specs.Prelude.{◌⊎◌, Option, Some, slice_get, sum_by, unwrap_or}
use Rattle.std.proofs.Math.Nat.{le_refl}
use Rattle.std.proofs.lemmas.Bool.{cases_eq}
use Rattle.std.proofs.lemmas.List.{ext_get_or, length-set}
use Rattle.std.proofs.lemmas.List.Sums.{sum_by-cons}
use Rattle.std.proofs.lemmas.Option.{same_Some, slice_get_within, slice_get-get_or, unwrap_or-slice_get}
use Rattle.disp_model.specs.declared.decision.Decision.{Decision}
use Rattle.disp_model.specs.declared.fixing.Fixing.{Fixing}
use Rattle.disp_model.specs.declared.problem.Problem.{Problem}
use Rattle.disp_model.specs.declared.settings.Rule.{Rule}
use Rattle.disp_model.specs.declared.tree.Leaf.{Leaf as TreeLeaf}
use Rattle.disp_model.specs.declared.tree.Leaf.TheVariants.{NoRoute, Cycle, Late, Costs, Shares}
use Rattle.disp_model.specs.declared.tree.TreeNode.{TreeNode}
use Rattle.disp_model.specs.declared.tree.TreeNode.TheVariants.{Leaf}
use Rattle.disp_model.specs.declared.tree.Verdict.TheVariants.{Optimal}
use Rattle.disp_model.specs.Node.{Node, node_at}
use Rattle.disp_model.specs.Replay.{Growth}
use Rattle.disp_model.specs.Trees.{LeafHolds}
use Rattle.disp_laws.proofs.LeavesDecided.{leaf_or_not}
use Rattle.open_nodes.specs.declared.place.Kind.{Kind}
use Rattle.open_nodes.specs.declared.place.Kind.TheVariants.{Branch as Branched}
use Rattle.open_nodes.specs.declared.place.Place.{Place}
use Rattle.open_nodes.specs.Filled.{IsTree}
use Rattle.open_nodes.specs.Grafts.{kind_of}
use Rattle.open_nodes.specs.Shown.{leaf_in, fallen, fallen_at}
use Rattle.open_nodes.specs.States.{State, first_place, with_places, above_at, above_of, decisions_of}
use Rattle.open_nodes.proofs.Falling.{fallen_is}
use Rattle.open_nodes.proofs.Holding.{decisions_same}
use Rattle.open_nodes.proofs.Places.{get_set_same, get_set_other}
use Rattle.open_nodes.proofs.Touching.{is_branched, fallen_tree}
use Rattle.tree_growth.specs.Grown.{KeepsBound}
use Rattle.tree_growth.specs.Keeping.{AllKeep}
use Rattle.tree_growth.proofs.Staying.{empty_keeps}
use Rattle.tree_replay.specs.Replayed.{IsReplayed}
use Rattle.tree_replay.proofs.Showing.{leaf_or_branch, shows_one}
use Rattle.tree_replay.proofs.Staying.{fallen_stays}
use Rattle.dispatch_core.specs.States.{DoesNotHold, Settles}

-- ---- lists of places

-- lists with the same elements are equal
same_places : (xs ys : List Place) → length xs ≡ length ys → ((n : ℕ) → n < length xs → slice_get xs n ≡ slice_get ys n) → xs ≡ ys
same_places xs ys long same = ext_get_or first_place xs ys long (λ n lt.
    sym (unwrap_or-slice_get xs n first_place) ∙ ap (λ (o : Option Place). unwrap_or o first_place) (same n lt) ∙ unwrap_or-slice_get ys n first_place)

-- so are sums over lists whose elements add the same
same_sums : (f : Place → ℕ) (xs ys : List Place) → length xs ≡ length ys → ((n : ℕ) (p q : Place) → slice_get xs n ≡ Some p → slice_get ys n ≡ Some q → f p ≡ f q)
    → sum_by f xs ≡ sum_by f ys
same_sums f [] [] long same = refl
same_sums f [] (q ∷ ys) long same = absurd (omega (arith, long))
same_sums f (p ∷ xs) [] long same = absurd (omega (arith, long))
same_sums f (p ∷ xs) (q ∷ ys) long same =
    let rest = same_sums f xs ys (omega (arith, long)) (λ n. same (suc n)) in
    let first = same 0 p q refl refl in
    omega (arith, sum_by-cons f p xs, sum_by-cons f q ys, first, rest)

-- and states with the same parts
same_state : (s t : State) → s.places ≡ t.places → s.kept ≡ t.kept → s.edition ≡ t.edition → s ≡ t
same_state s t places kept edition =
    ap (λ (ps : List Place). record { places = ps; kept = s.kept; edition = s.edition }) places
    ∙ ap (λ (ks : List TreeNode). record { places = t.places; kept = ks; edition = s.edition }) kept
    ∙ ap (λ (e : ℕ). record { places = t.places; kept = t.kept; edition = e }) edition

-- no leaf has the kind of a branch
no_branch_kind : (leaf : TreeLeaf) (k : Kind) → k ≡ kind_of leaf → k ≢ Branched
no_branch_kind NoRoute k is b = subst is_branched (sym b ∙ is) tt
no_branch_kind (Cycle nodes) k is b = subst is_branched (sym b ∙ is) tt
no_branch_kind (Late walk) k is b = subst is_branched (sym b ∙ is) tt
no_branch_kind (Costs walks) k is b = subst is_branched (sym b ∙ is) tt
no_branch_kind (Shares walks trains) k is b = subst is_branched (sym b ∙ is) tt

-- a place that shows a leaf is not known as a branch
pub leaf_no_branch : (problem : Problem) (state : State) (tree : IsTree problem state) (n : ℕ) (x : Place) (leaf : TreeLeaf) → slice_get state.places n ≡ Some x
    → slice_get state.kept x.shows ≡ Some (Leaf leaf) → x.kind ≢ Branched
leaf_no_branch problem state tree n x leaf there shown = elim (shows_one problem state tree n x there) [
  | inl (listed, shows) ↦ no_branch_kind listed x.kind shows.kind_is
  | inr (choice, first, shows) ↦ absurd (leaf_or_branch state.kept x.shows leaf choice shows.children shown shows.shown)
]

-- ---- one after the other

-- of the first numbers the places are as after, of the others as before
record IsSettledTo (before after : State) (P : State → Type 0) (k : ℕ) (s : State) : Type 0 where
  front : (m : ℕ) → m < k → slice_get s.places m ≡ slice_get after.places m
  back : (m : ℕ) → k ≤ m → slice_get s.places m ≡ slice_get before.places m
  count : length s.places ≡ length before.places
  kept : s.kept ≡ before.kept
  edition : s.edition ≡ before.edition
  has : P s

module _ (problem : Problem) (fixings : List Fixing) (before after : State) (tree : IsTree problem before) (settles : Settles problem fixings before after) where
  -- what stays where one leaf falls back stays
  module _ (P : State → Type 0) (falls : (s : State) (n : ℕ) → P s → P (fallen_at s n)) where
    settled_more : (k : ℕ) (s : State) → k < length before.places → IsSettledTo before after P k s → (t : State) × IsSettledTo before after P (suc k) t
    settled_more k s lt so_far =
        let x = get_or before.places k first_place in
        let there : slice_get before.places k ≡ Some x = slice_get-get_or before.places k first_place lt in
        let here : slice_get s.places k ≡ Some x = so_far.back k (le_refl k) ∙ there in
        elim (settles.each k x there) [
          | inl (fails, found) ↦
              let same : with_places s (set s.places k (fallen x)) ≡ fallen_at s k =
              ap (with_places s) (fallen_is s.places k x here (leaf_no_branch problem before tree k x fails.0 there fails.1)) in (
                with_places s (set s.places k (fallen x)),
                record {
                  front = λ m less. elim (cases_eq m k) [
                    | inl e ↦ subst (λ (j : ℕ). slice_get (set s.places k (fallen x)) j ≡ slice_get after.places j) (sym e) (get_set_same s.places k (fallen x) x here ∙ sym found)
                    | inr other ↦ get_set_other s.places k m (fallen x) other ∙ so_far.front m (omega (arith, less, other))
                  ];
                  back = λ m le. get_set_other s.places k m (fallen x) (λ e. omega (arith, le, e)) ∙ so_far.back m (omega (arith, le));
                  count = length-set s.places k (fallen x) ∙ so_far.count;
                  kept = so_far.kept;
                  edition = so_far.edition;
                  has = subst P (sym same) (falls s k so_far.has);
                },
              )
          | inr (stays, found) ↦ (
            s,
            record {
              front = λ m less. elim (cases_eq m k) [
                | inl e ↦ subst (λ (j : ℕ). slice_get s.places j ≡ slice_get after.places j) (sym e) (here ∙ sym found)
                | inr other ↦ so_far.front m (omega (arith, less, other))
              ];
              back = λ m le. so_far.back m (omega (arith, le));
              count = so_far.count;
              kept = so_far.kept;
              edition = so_far.edition;
              has = so_far.has;
            },
          )
        ]

    settled_to : P before → (k : ℕ) → k ≤ length before.places → (s : State) × IsSettledTo before after P k s
    settled_to holds zero le = (before, record { front = λ m less. absurd (omega (arith, less)); back = λ m _. refl; count = refl; kept = refl; edition = refl; has = holds })
    settled_to holds (suc k) le =
        let so_far = settled_to holds k (omega (arith, le)) in
        settled_more k so_far.0 (omega (arith, le)) so_far.1

    settled_has : P before → P after
    settled_has holds =
        let all = settled_to holds (length before.places) (le_refl (length before.places)) in
        let s = all.0 in
        let places : s.places ≡ after.places = same_places s.places after.places (all.1.count ∙ sym settles.count) (λ n lt. all.1.front n (omega (arith, lt, all.1.count))) in
        subst P (same_state s after places (all.1.kept ∙ sym settles.kept) (all.1.edition ∙ sym settles.edition)) all.1.has

  -- the tree stays one, and the one that was grown
  pub settled_tree : (growth : Growth) → IsReplayed growth before → IsTree problem after × IsReplayed growth after
  settled_tree growth replayed = settled_has (λ (s : State). IsTree problem s × IsReplayed growth s)
      (λ s n has. (fallen_tree problem s n has.0, fallen_stays problem growth s has.0 has.1 n)) (tree, replayed)

  -- ---- place by place

  -- each place is as before, or has fallen back
  pub came_from : (n : ℕ) (p : Place) → slice_get after.places n ≡ Some p → (x : Place) × (slice_get before.places n ≡ Some x)
      × ((p ≡ fallen x) ⊎ ((DoesNotHold problem fixings before n x → ⊥) × (p ≡ x)))
  came_from n p at =
      let lt : n < length before.places = omega (arith, slice_get_within after.places n p at, settles.count) in
      let x = get_or before.places n first_place in
      let there : slice_get before.places n ≡ Some x = slice_get-get_or before.places n first_place lt in
      elim (settles.each n x there) [
        | inl (fails, found) ↦ (x, there, inl (same_Some p (fallen x) (sym at ∙ found)))
        | inr (stays, found) ↦ (x, there, inr (stays, same_Some p x (sym at ∙ found)))
      ]

  -- what a leaf is out with stays
  pub same_out : (n : ℕ) (p x : Place) → slice_get after.places n ≡ Some p → slice_get before.places n ≡ Some x → p.out ≡ x.out
  same_out n p x at there =
      let came = came_from n p at in
      let is : came.0 ≡ x = same_Some came.0 x (sym came.1 ∙ there) in
      elim came.2 [
        | inl e ↦ ap (λ (q : Place). q.out) e ∙ ap (λ (q : Place). q.out) is
        | inr (stays, e) ↦ ap (λ (q : Place). q.out) e ∙ ap (λ (q : Place). q.out) is
      ]

  same_above : (n : ℕ) → n < length before.places → above_at after.places n ≡ above_at before.places n
  same_above n lt =
      let x = get_or before.places n first_place in
      let there : slice_get before.places n ≡ Some x = slice_get-get_or before.places n first_place lt in
      elim (settles.each n x there) [
        | inl (fails, found) ↦ ap above_of found ∙ sym (ap above_of there)
        | inr (stays, found) ↦ ap above_of found ∙ sym (ap above_of there)
      ]

  -- so do the decisions above each place
  pub same_decisions : (n : ℕ) → n < length before.places → decisions_of after.places n ≡ decisions_of before.places n
  same_decisions = decisions_same before.places after.places tree.parents same_above

  -- each leaf keeps its bound under these fixings: one that stays as it holds, one that has fallen back as the empty list of
  -- walks does anywhere
  pub settled_keep : (rule : Rule) (old : List Fixing) → AllKeep rule problem old before → AllKeep rule problem fixings after
  settled_keep rule old keep n p leaf at shown =
      let came = came_from n p at in
      let x = came.0 in
      let node : Node = node_at problem fixings (decisions_of before.places n) in
      let keeps : KeepsBound rule node leaf p.bound = elim came.2 [
        | inl e ↦
            let first : slice_get after.kept p.shows ≡ slice_get before.kept 0 =
            ap (λ (q : Place). slice_get after.kept q.shows) e ∙ ap (λ (ks : List TreeNode). slice_get ks 0) settles.kept in
            let is : Costs [] ≡ leaf = same_Some (Costs []) leaf (ap leaf_in (sym tree.empty ∙ sym first ∙ shown)) in
            subst (λ (q : Place). KeepsBound rule node leaf q.bound) (sym e) (subst (λ (l : TreeLeaf). KeepsBound rule node l 0) is (empty_keeps rule node))
        | inr (stays, e) ↦
            let here : slice_get before.kept x.shows ≡ Some (Leaf leaf) =
            ap (λ (ks : List TreeNode). slice_get ks x.shows) (sym settles.kept) ∙ ap (λ (q : Place). slice_get after.kept q.shows) (sym e) ∙ shown in
            let had = keep n x leaf came.1 here in
            let holds : LeafHolds node (Optimal x.bound) leaf = elim (leaf_or_not node (Optimal x.bound) leaf) [ inl h ↦ h | inr not ↦ absurd (stays (leaf, here, not)) ] in
            subst (λ (q : Place). KeepsBound rule node leaf q.bound) (sym e) (record { holds = holds; counts = had.counts; fits = had.fits })
      ] in
      subst (λ (ds : List Decision). KeepsBound rule (node_at problem fixings ds) leaf p.bound)
      (sym (same_decisions n (slice_get_within before.places n x came.1))) keeps

  -- what is added over what leaves are out with stays
  pub same_total : (f : Place → ℕ) → ((p q : Place) → p.out ≡ q.out → f p ≡ f q) → sum_by f after.places ≡ sum_by f before.places
  same_total f of_out = same_sums f after.places before.places settles.count (λ n p q at there. of_out p q (same_out n p q at there))
