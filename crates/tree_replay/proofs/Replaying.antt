-- Where a fragment has grown, the tree is the one that its splits grow.
use Rattle.std.proofs.Common.{◌≡◌, ◌≢◌, ◌∙◌, ℕ, ◌+◌, ◌-◌, ◌<◌, inl, inr, List, [], ◌∷◌, ◌++◌, length, set, refl, sym, ap, subst, arith}
use Rattle.std.specs.Prelude.{Option, Some, None, slice_get}
use Rattle.std.proofs.lemmas.Bool.{cases_eq}
use Rattle.std.proofs.lemmas.Option.{slice_get_within}
use Rattle.std.proofs.lemmas.List.{length-append, length-set}
use Rattle.disp_model.specs.declared.decision.Decision.{Decision}
use Rattle.disp_model.specs.declared.entry.Split.{Split}
use Rattle.disp_model.specs.declared.problem.Problem.{Problem}
use Rattle.disp_model.specs.declared.tree.TreeNode.{TreeNode}
use Rattle.disp_model.specs.declared.tree.TreeNode.TheVariants.{Branch, Leaf}
use Rattle.disp_model.specs.Replay.{Place as Grown, branch, leaf, Growth, after_splits}
use Rattle.open_nodes.specs.declared.place.Place.{Place}
use Rattle.open_nodes.specs.declared.place.Above.{Above}
use Rattle.open_nodes.specs.declared.place.Errand.{Errand}
use Rattle.open_nodes.specs.declared.work.Fragment.{Fragment}
use Rattle.open_nodes.specs.Preorder.{link_of, preorder}
use Rattle.open_nodes.specs.States.{State, above_at, above_of, decisions_of, HaveSmallerParents, with_out}
use Rattle.open_nodes.specs.Grafts.{Graft, AllStand, FillPlaces, placed, grown_at, Grows}
use Rattle.open_nodes.specs.Filled.{LinksLead, Spot, IsTree, HaveChoices}
use Rattle.open_nodes.proofs.Paths.{decisions_up, up_is}
use Rattle.open_nodes.proofs.Growing.{get_more, made_stand, made_some}
use Rattle.open_nodes.proofs.Filling.{NumbersOwn}
use Rattle.open_nodes.proofs.Joining.{IsIn, no_return, leads_append, leads_same}
use Rattle.open_nodes.proofs.Planting.{numbers_own, keeps_from, root_there, other_same, own_same, tree_grows}
use Rattle.open_nodes.proofs.Holding.{decisions_same}
use Rattle.tree_replay.specs.Replayed.{IsShownAt, AreShownAt, IsReplayed}
use Rattle.tree_replay.proofs.Showing.{on_links, numbers_are, no_branch, each_shown, shown_append, shown_place}
use Rattle.tree_replay.proofs.Following.{numbers_for, splits_for, unused_for, Follows, follows_same, Comes, grafted_comes}
use Rattle.tree_replay.proofs.Splitting.{IsPassed, Stands, part_for, growth_of, splits_make, part_shown}
use Rattle.tree_replay.proofs.Parting.{same_leads, parted, shown_parted, each_leaf}

-- a growth by its parts
growth_from : (growth : Growth) (gs : List Grown) (k : ℕ) → growth.places ≡ gs → growth.unused ≡ k → growth ≡ record { places = gs; unused = k }
growth_from growth gs k e f = ap (λ (l : List Grown). record { places = l; unused = growth.unused }) e ∙ ap (λ (m : ℕ). record { places = gs; unused = m }) f

-- the spot of the leaf that grows
abbrev pub spot_of : ℕ → Place → Spot
spot_of n x = record { number = n; above = x.above }

-- a state in which nodes have grown in the place of a leaf: what it shows to that leaf, of the nodes, and behind them
pub record HasGrown (problem : Problem) (growth : Growth) (before : State) (n : ℕ) (x : Place) (subtree : List TreeNode) (after : State) : Type 0 where
  pub small : HaveSmallerParents after.places
  pub front : List Grown
  pub behind : List Grown
  pub growth_is : growth ≡ growth_of problem after.places front (spot_of n x ∷ []) behind (length before.places)
  pub decisions_are : decisions_up x.above after.places ≡ decisions_of before.places n
  pub follows : Follows problem (slice_get after.places) after.kept subtree (spot_of n x ∷ []) (length before.places)
  pub stands : Stands front (spot_of n x ∷ []) (length before.places)
  pub to_here : List ℕ
  pub from_here : List ℕ
  pub numbers_are : preorder after.places ≡ to_here ++ (numbers_for problem subtree (spot_of n x ∷ []) (length before.places) ++ from_here)
  pub front_shown : AreShownAt after to_here front
  pub behind_shown : AreShownAt after from_here behind
  pub unused_is : unused_for problem subtree (spot_of n x ∷ []) (length before.places) ≡ length after.places

module _ (problem : Problem) (state : State) (tree : IsTree problem state) (n : ℕ) (x : Place) (there : slice_get state.places n ≡ Some x)
    (more : List TreeNode) (keeps : (k : ℕ) (node : TreeNode) → slice_get state.kept k ≡ Some node → slice_get more k ≡ Some node) where
  -- the state with these places in the place of the leaf
  abbrev state_of : List Place → State
  state_of grown = record { places = placed state.places n grown; kept = more; edition = state.edition }

  module _ (root : Place) (fresh : List Place) (all : AllStand (length state.places - 1) x.above (root ∷ fresh)) where
    -- its places
    abbrev after : List Place
    after = set (state.places ++ fresh) n root

    others : (q : ℕ) → q ≢ n → q < length state.places → slice_get after q ≡ slice_get state.places q
    others = other_same problem state.places state.kept more n x root fresh there keeps

    root_above : above_at after n ≡ x.above
    root_above = ap above_of (root_there problem state.places state.kept more n x root fresh there keeps) ∙ (all 0 root refl).up

    above_same : (k : ℕ) → k < length state.places → above_at after k ≡ above_at state.places k
    above_same k lt = elim (cases_eq k n) [
      | inl e ↦ subst (λ (j : ℕ). above_at after j ≡ above_at state.places j) (sym e) (root_above ∙ sym (ap above_of there))
      | inr ne ↦ ap above_of (others k ne lt)
    ]

    decisions_stay : (m : ℕ) → m < length state.places → decisions_of after m ≡ decisions_of state.places m
    decisions_stay = decisions_same state.places after tree.parents above_same

    -- what is shown beside the leaf
    shown_still : (q : ℕ) (g : Grown) → q ≢ n → IsShownAt state q g → IsShownAt (state_of (root ∷ fresh)) q g
    shown_still q (branch choice) ne (p, children, at, kept) =
        (p, children, others q ne (slice_get_within state.places q p at) ∙ at, keeps p.shows (Branch choice children) kept)
    shown_still q (leaf number above) ne (p, shown, at, kept, same, decisions) =
        let within : q < length state.places = slice_get_within state.places q p at in
        (p, shown, others q ne within ∙ at, keeps p.shows (Leaf shown) kept, same, decisions ∙ sym (decisions_stay q within))

    -- numbers that are shown and have not the leaf among them
    module _ (xs : List ℕ) (gs : List Grown) (are : AreShownAt state xs gs) (not : IsIn n xs → ⊥) where
      not_one : (q : ℕ) → IsIn q xs → q ≢ n
      not_one q h e = not (subst (λ (k : ℕ). IsIn k xs) e h)

      leads_still : (at to : Option ℕ) → LinksLead (slice_get state.places) at xs to → LinksLead (slice_get after) at xs to
      leads_still at to leads = leads_same problem (slice_get state.places) (slice_get after) state.kept more keeps xs at to
          (λ q h. let (p, has) = shown_place state xs gs are q h in others q (not_one q h) (slice_get_within state.places q p has)) leads

      are_still : AreShownAt (state_of (root ∷ fresh)) xs gs
      are_still = each_shown state (state_of (root ∷ fresh)) xs gs (λ q g h is. shown_still q g (not_one q h) is) are

  module _ (growth : Growth) (replayed : IsReplayed growth state) (errand : Errand) (out : x.out ≡ Some errand) (subtree : List TreeNode) where
    -- the one spot that waits, the next unused number, the number of the last place, and the numbers of the nodes
    abbrev spots : List Spot
    spots = spot_of n x ∷ []

    abbrev unused : ℕ
    unused = length state.places

    abbrev last : ℕ
    last = length state.places - 1

    abbrev numbers : List ℕ
    numbers = numbers_for problem subtree spots unused

    -- what is shown to the leaf, of the nodes, and behind them
    joined : (grown : List Place) → 0 < length grown → AllStand last x.above grown → IsTree problem (state_of grown)
        → Follows problem (λ q. slice_get grown (q - last)) more subtree spots unused → LinksLead (λ q. slice_get grown (q - last)) (Some n) numbers x.next
        → NumbersOwn last n numbers → last + length grown ≡ unused_for problem subtree spots unused → HasGrown problem growth state n x subtree (state_of grown)
    joined [] some all tree_after follows leads mine count = absurd (omega (arith, some))
    joined (root ∷ fresh) some all tree_after follows leads mine count =
        let places = state.places in
        let made : List Place = set (places ++ fresh) n root in
        let within : n < length places = slice_get_within places n x there in
        let same = λ (q : ℕ) (h : IsIn q numbers). own_same problem places state.kept more n x root fresh there keeps q (numbers_own last n numbers mine q h) in
        let leads_sub : LinksLead (slice_get made) (Some n) numbers x.next =
        leads_same problem (λ q. slice_get (root ∷ fresh) (q - last)) (slice_get made) more more (λ k node e. e) numbers (Some n) x.next same leads in
        let parts = parted (slice_get places) n tree.numbers (Some 0) tree.leads (on_links problem state tree n x there) in
        let shown = shown_parted state n x there (no_branch problem state tree n x there (tree.leaves n x errand there out)) parts.front parts.behind growth.places
        (subst (λ (ns : List ℕ). AreShownAt state ns growth.places) (numbers_are problem state tree ∙ parts.is) replayed.shown) in
        let not_behind : IsIn n parts.behind → ⊥ = no_return (slice_get places) n parts.behind parts.from_here in
        let leads_front : LinksLead (slice_get made) (Some 0) parts.front (Some n) =
        leads_still root fresh all parts.front shown.front shown.before parts.not_before (Some 0) (Some n) parts.to_here in
        let leads_behind : LinksLead (slice_get made) x.next parts.behind None =
        leads_still root fresh all parts.behind shown.behind shown.after not_behind x.next None
        (subst (λ (at : Option ℕ). LinksLead (slice_get places) at parts.behind None) (ap link_of there) parts.from_here) in
        let leads_all : LinksLead (slice_get made) (Some 0) (parts.front ++ (numbers ++ parts.behind)) None =
        leads_append (slice_get made) parts.front (numbers ++ parts.behind) (Some 0) (Some n) None leads_front
        (leads_append (slice_get made) numbers parts.behind (Some n) x.next None leads_sub leads_behind) in
        let decisions : decisions_up x.above made ≡ decisions_of places n =
        sym (up_is made tree_after.parents n ∙ ap (λ (o : Option Above). decisions_up o made) (root_above root fresh all)) ∙ decisions_stay root fresh all n within in
        record {
          small = tree_after.parents;
          front = shown.front;
          behind = shown.behind;
          growth_is = growth_from growth (shown.front ++ leaf n (decisions_up x.above made) ∷ shown.behind) (length places)
              (shown.is ∙ ap (λ (ds : List Decision). shown.front ++ leaf n ds ∷ shown.behind) (sym decisions)) replayed.unused;
          decisions_are = decisions;
          follows = follows_same problem (λ q. slice_get (root ∷ fresh) (q - last)) (slice_get made) more subtree spots unused same follows;
          stands = record {
            passed = each_leaf (IsPassed spots unused) state parts.front shown.front
                (λ q p h at. (slice_get_within places q p at, (not_one root fresh all parts.front shown.front shown.before parts.not_before q h, tt))) shown.before;
            waiting = (within, tt, tt);
          };
          to_here = parts.front;
          from_here = parts.behind;
          numbers_are = numbers_are problem (state_of (root ∷ fresh)) tree_after
              ∙ same_leads (slice_get made) tree_after.numbers (parts.front ++ (numbers ++ parts.behind)) (Some 0) tree_after.leads leads_all;
          front_shown = are_still root fresh all parts.front shown.front shown.before parts.not_before;
          behind_shown = are_still root fresh all parts.behind shown.behind shown.after not_behind;
          unused_is = omega (arith, sym count, within, length-set (places ++ fresh) n root, length-append places fresh);
        }

-- what a growth comes to: its state, and its splits
pub record HasSplit (problem : Problem) (growth : Growth) (before : State) (fragment : Fragment) (splits : List Split) (after : State) : Type 0 where
  pub place : Place
  pub has_grown : HasGrown problem growth before fragment.work.node place fragment.subtree after
  pub splits_are : splits ≡ splits_for problem fragment.subtree (spot_of fragment.work.node place ∷ []) (length before.places)

-- a growth makes these splits
pub grown_splits : (problem : Problem) (growth : Growth) (state : State) (fragment : Fragment) (splits : List Split) (after : State) → IsTree problem state
    → IsReplayed growth state → Grows problem state fragment splits after → FillPlaces problem 1 fragment.subtree fragment.bounds → HaveChoices problem fragment.subtree
    → HasSplit problem growth state fragment splits after
grown_splits problem growth state fragment splits after tree replayed grows fill choices =
    let x = grows.place in
    let n = fragment.work.node in
    let there = grows.out.there in
    let last : ℕ = length state.places - 1 in
    let kept : List TreeNode = state.kept ++ fragment.subtree in
    let keeps = λ (k : ℕ) (node : TreeNode) (e : slice_get state.kept k ≡ Some node). get_more state.kept fragment.subtree k node e in
    let within : n < length state.places = slice_get_within state.places n x there in
    let first : n - last ≡ 0 = omega (arith, within) in
    let long : last + length (with_out x None ∷ []) ≡ length state.places = omega (arith, within) in
    let g : Graft = grown_at problem state n x fragment.subtree fragment.bounds in
    let comes : Comes problem last n kept x.next g fragment.subtree (spot_of n x ∷ []) (length state.places) [] =
    subst (λ (k : ℕ). Comes problem last n kept x.next g fragment.subtree (spot_of n x ∷ []) k []) long
    (grafted_comes problem last n kept x.next fragment.subtree (length state.kept) (with_out x None ∷ []) (spot_of n x ∷ []) fragment.bounds [] (omega arith)
    (record { place = with_out x None; there = ap (λ (k : ℕ). slice_get (with_out x None ∷ []) k) first; above_is = refl; next_is = refl }, tt)
    (tt, tt) (inl refl, tt) fill choices (keeps_from state.kept fragment.subtree)) in
    let grown : State = record { places = placed state.places n g.grown; kept = kept; edition = state.edition } in
    let tree_after : IsTree problem grown =
    tree_grows problem state fragment splits grown tree (record { place = x; out = grows.out; splits_are = grows.splits_are; after_is = refl }) fill choices in
    record {
      place = x;
      has_grown = subst (λ (s : State). HasGrown problem growth state n x fragment.subtree s) (sym grows.after_is)
          (joined problem state tree n x there kept keeps growth replayed _ grows.out.out fragment.subtree g.grown
          (made_some problem last (length state.kept) n x fragment.subtree fragment.bounds)
          (made_stand problem last (length state.kept) n x fragment.subtree fragment.bounds)
          tree_after comes.follows comes.leads comes.mine comes.unused_is);
      splits_are = grows.splits_are ∙ comes.splits_are;
    }

-- the grown tree is shown
pub grown_replayed : (problem : Problem) (growth : Growth) (state : State) (fragment : Fragment) (splits : List Split) (after : State) → IsTree problem state
    → IsReplayed growth state → Grows problem state fragment splits after → FillPlaces problem 1 fragment.subtree fragment.bounds → HaveChoices problem fragment.subtree
    → IsReplayed (after_splits problem growth splits) after
grown_replayed problem growth state fragment splits after tree replayed grows fill choices =
    let s = grown_splits problem growth state fragment splits after tree replayed grows fill choices in
    let h = s.has_grown in
    let spots : List Spot = spot_of fragment.work.node s.place ∷ [] in
    let unused : ℕ = length state.places in
    let part : List Grown = part_for problem after.places fragment.subtree spots unused in
    let made : after_splits problem growth splits ≡ record { places = h.front ++ (part ++ h.behind); unused = unused_for problem fragment.subtree spots unused } =
    ap (λ (ss : List Split). after_splits problem growth ss) s.splits_are
    ∙ ap (λ (g : Growth). after_splits problem g (splits_for problem fragment.subtree spots unused)) h.growth_is
    ∙ splits_make problem after.places h.small after.kept h.behind fragment.subtree spots unused h.front h.follows h.stands in
    let part_is : AreShownAt after (numbers_for problem fragment.subtree spots unused) part = part_shown problem after h.small fragment.subtree spots unused h.follows in
    subst (λ (g : Growth). IsReplayed g after) (sym made) (record {
      unused = h.unused_is;
      shown = subst (λ (ns : List ℕ). AreShownAt after ns (h.front ++ (part ++ h.behind))) (sym h.numbers_are)
          (shown_append after h.to_here (numbers_for problem fragment.subtree spots unused ++ h.from_here) h.front (part ++ h.behind) h.front_shown
          (shown_append after (numbers_for problem fragment.subtree spots unused) h.from_here part h.behind part_is h.behind_shown));
    })
