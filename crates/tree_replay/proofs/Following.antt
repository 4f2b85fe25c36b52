-- The nodes of a fragment go through the spots that wait, from the first on: which numbers they take, which splits they
-- make, and what their places are.
use Rattle.std.proofs.Common.{◌≡◌, ◌∙◌, ℕ, ◌+◌, ◌-◌, ◌<◌, List, [], ◌∷◌, ◌++◌, length, set, refl, sym, ap, subst, append_assoc, inl, inr, arith}
use Rattle.std.specs.Prelude.{Option, Some, slice_get}
use Rattle.std.proofs.lemmas.Option.{slice_get_within}
use Rattle.std.proofs.lemmas.List.{length-append, length-set, append-nil}
use Rattle.disp_model.specs.declared.decision.Choice.{Choice}
use Rattle.disp_model.specs.declared.decision.Decision.{Decision}
use Rattle.disp_model.specs.declared.entry.Split.{Split}
use Rattle.disp_model.specs.declared.problem.Problem.{Problem}
use Rattle.disp_model.specs.declared.tree.Leaf.{Leaf as TreeLeaf}
use Rattle.disp_model.specs.declared.tree.TreeNode.{TreeNode}
use Rattle.disp_model.specs.declared.tree.TreeNode.TheVariants.{Branch, Leaf}
use Rattle.disp_model.specs.Trees.{children_of}
use Rattle.open_nodes.specs.declared.place.Place.{Place}
use Rattle.open_nodes.specs.Preorder.{link_of}
use Rattle.open_nodes.specs.Grafts.{Graft, FillPlaces, children_at, branch_at, leaf_at, fills, fills_there, grafted}
use Rattle.open_nodes.specs.Filled.{LinksLead, Spot, spots_for, HaveChoices}
use Rattle.open_nodes.proofs.Places.{get_set_same, get_set_other}
use Rattle.open_nodes.proofs.Growing.{get_more}
use Rattle.open_nodes.proofs.Joining.{IsIn}
use Rattle.open_nodes.proofs.Filling.{next_spot, Waits, AllWait, IsApart, AreApart, SameBut, SpotsOwn, NumbersOwn, KeepsFrom, wait_same, apart_children, children_apart, children_own, children_wait, length_spots, spot_there, length_children, some_children, grafted_fills}

module _ (problem : Problem) where
  -- the numbers that the nodes take, where this is the next unused number
  abbrev pub numbers_for : List TreeNode → List Spot → ℕ → List ℕ
  numbers_for [] spots unused = []
  numbers_for (node ∷ tree) [] unused = []
  numbers_for (Leaf shown ∷ tree) (s ∷ spots) unused = s.number ∷ numbers_for tree spots unused
  numbers_for (Branch choice children ∷ tree) (s ∷ spots) unused =
      s.number ∷ numbers_for tree (spots_for s.number unused (children_of problem choice) ++ spots) (unused + length (children_of problem choice))

  -- the splits that the nodes make
  abbrev pub splits_for : List TreeNode → List Spot → ℕ → List Split
  splits_for [] spots unused = []
  splits_for (node ∷ tree) [] unused = []
  splits_for (Leaf shown ∷ tree) (s ∷ spots) unused = splits_for tree spots unused
  splits_for (Branch choice children ∷ tree) (s ∷ spots) unused =
      record { node = s.number; choice = choice } ∷ splits_for tree (spots_for s.number unused (children_of problem choice) ++ spots) (unused + length (children_of problem choice))

  -- the next unused number behind the nodes
  abbrev pub unused_for : List TreeNode → List Spot → ℕ → ℕ
  unused_for [] spots unused = unused
  unused_for (node ∷ tree) [] unused = unused
  unused_for (Leaf shown ∷ tree) (s ∷ spots) unused = unused_for tree spots unused
  unused_for (Branch choice children ∷ tree) (s ∷ spots) unused =
      unused_for tree (spots_for s.number unused (children_of problem choice) ++ spots) (unused + length (children_of problem choice))

-- the place of a spot shows this node
pub record ShowsAt (look : ℕ → Option Place) (kept : List TreeNode) (s : Spot) (node : TreeNode) : Type 0 where
  pub place : Place
  pub there : look s.number ≡ Some place
  pub above_is : place.above ≡ s.above
  pub shown : slice_get kept place.shows ≡ Some node

-- the places of a table show the nodes, from the first spot on
abbrev pub Follows : Problem → (ℕ → Option Place) → List TreeNode → List TreeNode → List Spot → ℕ → Type 0
Follows problem look kept [] [] unused = Unit {0}
Follows problem look kept [] (s ∷ spots) unused = ⊥
Follows problem look kept (node ∷ tree) [] unused = ⊥
Follows problem look kept (Leaf shown ∷ tree) (s ∷ spots) unused = ShowsAt look kept s (Leaf shown) × Follows problem look kept tree spots unused
Follows problem look kept (Branch choice children ∷ tree) (s ∷ spots) unused =
    ShowsAt look kept s (Branch choice children)
    × Follows problem look kept tree (spots_for s.number unused (children_of problem choice) ++ spots) (unused + length (children_of problem choice))

-- ---- another table

module _ (problem : Problem) (look other : ℕ → Option Place) (kept : List TreeNode) where
  shows_same : (s : Spot) (node : TreeNode) → other s.number ≡ look s.number → ShowsAt look kept s node → ShowsAt other kept s node
  shows_same s node same shows = record { place = shows.place; there = same ∙ shows.there; above_is = shows.above_is; shown = shows.shown }

  pub follows_same : (tree : List TreeNode) (spots : List Spot) (unused : ℕ) → ((q : ℕ) → IsIn q (numbers_for problem tree spots unused) → other q ≡ look q)
      → Follows problem look kept tree spots unused → Follows problem other kept tree spots unused
  follows_same [] [] unused same f = tt
  follows_same [] (s ∷ spots) unused same f = absurd f
  follows_same (node ∷ tree) [] unused same f = absurd f
  follows_same (Leaf shown ∷ tree) (s ∷ spots) unused same (is, rest) =
      (shows_same s (Leaf shown) (same s.number (inl refl)) is, follows_same tree spots unused (λ q h. same q (inr h)) rest)
  follows_same (Branch choice children ∷ tree) (s ∷ spots) unused same (is, rest) = (
    shows_same s (Branch choice children) (same s.number (inl refl)) is,
    follows_same tree (spots_for s.number unused (children_of problem choice) ++ spots) (unused + length (children_of problem choice)) (λ q h. same q (inr h)) rest,
  )

-- ---- a whole fragment

module _ (problem : Problem) (last own : ℕ) (kept : List TreeNode) (behind : Option ℕ) where
  -- what a graft comes to: its splits, how many places, what they show, and how they are linked
  pub record Comes (g : Graft) (tree : List TreeNode) (spots : List Spot) (unused : ℕ) (splits : List Split) : Type 0 where
    pub splits_are : g.splits ≡ splits ++ splits_for problem tree spots unused
    pub unused_is : last + length g.grown ≡ unused_for problem tree spots unused
    pub follows : Follows problem (λ n. slice_get g.grown (n - last)) kept tree spots unused
    pub leads : LinksLead (λ n. slice_get g.grown (n - last)) (next_spot behind spots) (numbers_for problem tree spots unused) behind
    pub mine : NumbersOwn last own (numbers_for problem tree spots unused)

  -- one node more is filled, at the first spot that waits
  module _ (shows : ℕ) (grown : List Place) (s : Spot) (spots : List Spot) (w : Waits last grown (next_spot behind spots) s) where
    leaf_made : (shown : TreeLeaf) (bound : ℕ) (bounds : List ℕ) (splits : List Split)
        → fills problem last shows (Some s.number) (Leaf shown) (record { grown = grown; at = Some s.number; bounds = bound ∷ bounds; splits = splits })
        ≡ record { grown = set grown (s.number - last) (leaf_at w.place shows shown bound); at = next_spot behind spots; bounds = bounds; splits = splits }
    leaf_made shown bound bounds splits =
        let g : Graft = record { grown = grown; at = Some s.number; bounds = bound ∷ bounds; splits = splits } in
        let after : List Place = set grown (s.number - last) (leaf_at w.place shows shown bound) in
        ap (λ (o : Option Place). fills_there problem last shows s.number o (Leaf shown) g) w.there
        ∙ ap (λ (at : Option ℕ). record { grown = after; at = at; bounds = bounds; splits = splits }) w.next_is

    -- the places with the children of a branch
    abbrev branched_from : Choice → List Place
    branched_from choice =
        set (grown ++ children_at s.number (next_spot behind spots) (last + length grown) (children_of problem choice)) (s.number - last) (branch_at w.place (last + length grown) shows)

    branch_made : (choice : Choice) (children : ℕ) (bounds : List ℕ) (splits : List Split)
        → next_spot behind (spots_for s.number (last + length grown) (children_of problem choice) ++ spots) ≡ Some (last + length grown)
        → fills problem last shows (Some s.number) (Branch choice children) (record { grown = grown; at = Some s.number; bounds = bounds; splits = splits })
        ≡ record {
          grown = branched_from choice;
          at = next_spot behind (spots_for s.number (last + length grown) (children_of problem choice) ++ spots);
          bounds = bounds;
          splits = splits ++ record { node = s.number; choice = choice } ∷ [];
        }
    branch_made choice children bounds splits start =
        let first : ℕ = last + length grown in
        let q : Place = branch_at w.place first shows in
        let split : List Split = splits ++ record { node = s.number; choice = choice } ∷ [] in
        let g : Graft = record { grown = grown; at = Some s.number; bounds = bounds; splits = splits } in
        ap (λ (o : Option Place). fills_there problem last shows s.number o (Branch choice children) g) w.there
        ∙ ap (λ (b : Option ℕ). record { grown = set (grown ++ children_at s.number b first (children_of problem choice)) (s.number - last) q; at = Some first; bounds = bounds; splits = split }) w.next_is
        ∙ ap (λ (at : Option ℕ). record { grown = branched_from choice; at = at; bounds = bounds; splits = split }) (sym start)

  pub grafted_comes : (tree : List TreeNode) (shows : ℕ) (grown : List Place) (spots : List Spot) (bounds : List ℕ) (splits : List Split)
      → 0 < length grown → AllWait last grown behind spots → AreApart last spots → SpotsOwn last own spots
      → FillPlaces problem (length spots) tree bounds → HaveChoices problem tree → KeepsFrom kept shows tree
      → Comes (grafted problem last shows tree (record { grown = grown; at = next_spot behind spots; bounds = bounds; splits = splits })) tree spots (last + length grown) splits
  grafted_comes [] shows grown [] bounds splits some wait apart owned fill choices keeps =
      record { splits_are = sym (append-nil splits); unused_is = refl; follows = tt; leads = refl; mine = tt }
  grafted_comes [] shows grown (s ∷ spots) bounds splits some wait apart owned fill choices keeps = absurd fill
  grafted_comes (node ∷ tree) shows grown [] bounds splits some wait apart owned fill choices keeps = absurd fill
  grafted_comes (Leaf shown ∷ tree) shows grown (s ∷ spots) [] splits some wait apart owned fill choices keeps = absurd fill
  grafted_comes (Leaf shown ∷ tree) shows grown (s ∷ spots) (bound ∷ bounds) splits some wait apart owned fill choices keeps =
      let i : ℕ = s.number - last in
      let w = wait.0 in
      let q : Place = leaf_at w.place shows shown bound in
      let after : List Place = set grown i q in
      let same : SameBut i grown after = λ j place other at. get_set_other grown i j q other ∙ at in
      let more : 0 < length after = omega (arith, some, length-set grown i q) in
      let waits : AllWait last after behind spots = wait_same last i grown after behind spots same apart.0 wait.1 in
      let long : last + length after ≡ last + length grown = omega (arith, length-set grown i q) in
      let next : Graft = record { grown = after; at = next_spot behind spots; bounds = bounds; splits = splits } in
      let all : List Place = (grafted problem last (shows + 1) tree next).grown in
      let f = (grafted_fills problem last own kept behind tree (shows + 1) after spots bounds splits more waits apart.1 owned.1 fill choices keeps.1).1 in
      let there : slice_get all i ≡ Some q = f.others i q apart.0 (get_set_same grown i q w.place w.there) in
      let rest : Comes (grafted problem last (shows + 1) tree next) tree spots (last + length grown) splits =
      subst (λ (k : ℕ). Comes (grafted problem last (shows + 1) tree next) tree spots k splits) long
      (grafted_comes tree (shows + 1) after spots bounds splits more waits apart.1 owned.1 fill choices keeps.1) in
      subst (λ (x : Graft). Comes (grafted problem last (shows + 1) tree x) (Leaf shown ∷ tree) (s ∷ spots) (last + length grown) splits) (sym (leaf_made shows grown s spots w shown bound bounds splits)) (record {
        splits_are = rest.splits_are;
        unused_is = rest.unused_is;
        follows = (record { place = q; there = there; above_is = w.above_is; shown = keeps.0 }, rest.follows);
        leads = (refl, subst (λ (at : Option ℕ). LinksLead (λ n. slice_get all (n - last)) at (numbers_for problem tree spots (last + length grown)) behind) (sym (ap link_of there ∙ w.next_is)) rest.leads);
        mine = (owned.0, rest.mine);
      })
  grafted_comes (Branch choice children ∷ tree) shows grown (s ∷ spots) bounds splits some wait apart owned fill choices keeps =
      let n : ℕ = s.number in
      let i : ℕ = n - last in
      let w = wait.0 in
      let cs : List Decision = children_of problem choice in
      let first : ℕ = last + length grown in
      let q : Place = branch_at w.place first shows in
      let joined : List Place = grown ++ children_at n (next_spot behind spots) first cs in
      let after : List Place = set joined i q in
      let more : List Spot = spots_for n first cs ++ spots in
      let split : List Split = splits ++ record { node = n; choice = choice } ∷ [] in
      let within : i < length grown = slice_get_within grown i w.place w.there in
      let fresh : IsApart last i more = apart_children last n spots i first cs (omega (arith, within)) apart.0 in
      let same : SameBut i joined after = λ j place other at. get_set_other joined i j q other ∙ at in
      let waits : AllWait last after behind more = wait_same last i joined after behind more same fresh (children_wait last n spots behind cs first grown refl wait.1) in
      let many : length more ≡ children + length spots = omega (arith, length_spots last n spots first cs, fill.0) in
      let long : last + length after ≡ first + length cs =
      omega (arith, length-set joined i q, length-append grown (children_at n (next_spot behind spots) first cs), length_children n (next_spot behind spots) first cs) in
      let longer : 0 < length after = omega (arith, some, long) in
      let start : next_spot behind more ≡ Some first = spot_there last n spots behind first cs (some_children problem choice choices.0) in
      let apart_more : AreApart last more = children_apart last n spots grown behind first cs some wait.1 (omega arith) apart.1 in
      let owned_more : SpotsOwn last own more = children_own last n spots own first cs (omega (arith, some)) owned.1 in
      let fill_more : FillPlaces problem (length more) tree bounds = subst (λ (k : ℕ). FillPlaces problem k tree bounds) (sym many) fill.1 in
      let next : Graft = record { grown = after; at = next_spot behind more; bounds = bounds; splits = split } in
      let all : List Place = (grafted problem last (shows + 1) tree next).grown in
      let f = (grafted_fills problem last own kept behind tree (shows + 1) after more bounds split longer waits apart_more owned_more fill_more choices.1 keeps.1).1 in
      let there : slice_get all i ≡ Some q =
      f.others i q fresh (get_set_same joined i q w.place (get_more grown (children_at n (next_spot behind spots) first cs) i w.place w.there)) in
      let rest : Comes (grafted problem last (shows + 1) tree next) tree more (first + length cs) split =
      subst (λ (k : ℕ). Comes (grafted problem last (shows + 1) tree next) tree more k split) long
      (grafted_comes tree (shows + 1) after more bounds split longer waits apart_more owned_more fill_more choices.1 keeps.1) in
      subst (λ (x : Graft). Comes (grafted problem last (shows + 1) tree x) (Branch choice children ∷ tree) (s ∷ spots) first splits) (sym (branch_made shows grown s spots w choice children bounds splits start)) (record {
        splits_are = rest.splits_are
            ∙ append_assoc splits (record { node = n; choice = choice } ∷ []) (splits_for problem tree more (first + length cs));
        unused_is = rest.unused_is;
        follows = (record { place = q; there = there; above_is = w.above_is; shown = keeps.0 }, rest.follows);
        leads = (refl, subst (λ (at : Option ℕ). LinksLead (λ n. slice_get all (n - last)) at (numbers_for problem tree more (first + length cs)) behind) (sym (ap link_of there ∙ sym start)) rest.leads);
        mine = (owned.0, rest.mine);
      })
