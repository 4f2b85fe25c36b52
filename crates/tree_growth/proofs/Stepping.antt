-- One node more of a fragment: its spot is filled, and the spots of its children wait with the others.
use Rattle.std.proofs.Common.{◌≡◌, ◌≢◌, ◌∙◌, ℕ, zero, suc, ◌+◌, ◌-◌, ◌<◌, inl, inr, List, [], ◌∷◌, ◌++◌, length, set, refl, sym, ap, arith}
use Rattle.std.specs.Prelude.{Option, Some, slice_get}
use Rattle.std.proofs.lemmas.Option.{slice_get_within}
use Rattle.std.proofs.lemmas.List.{length-append, length-set}
use Rattle.disp_model.specs.declared.decision.Decision.{Decision}
use Rattle.disp_model.specs.declared.decision.Choice.{Choice}
use Rattle.disp_model.specs.declared.entry.Split.{Split}
use Rattle.disp_model.specs.declared.problem.Problem.{Problem}
use Rattle.disp_model.specs.declared.tree.Leaf.{Leaf as TreeLeaf}
use Rattle.disp_model.specs.declared.tree.TreeNode.TheVariants.{Branch, Leaf}
use Rattle.disp_model.specs.Trees.{children_of, IsChoice}
use Rattle.open_nodes.specs.declared.place.Place.{Place}
use Rattle.open_nodes.specs.Grafts.{Graft, children_at, branch_at, leaf_at, fills, fills_there}
use Rattle.open_nodes.specs.Filled.{Spot, spots_for}
use Rattle.open_nodes.proofs.Places.{get_set_same, get_set_other}
use Rattle.open_nodes.proofs.Growing.{get_more, get_joined}
use Rattle.open_nodes.proofs.Filling.{next_spot, AllWait, IsApart, AreApart, SameBut, SpotsOwn, wait_same, apart_children, children_apart, children_own, children_wait, spot_there, length_children, some_children}

module _ (last own : ℕ) (behind : Option ℕ) where
  -- the spots wait, each for a place of its own
  pub record AreReady (grown : List Place) (spots : List Spot) : Type 0 where
    pub some : 0 < length grown
    pub wait : AllWait last grown behind spots
    pub apart : AreApart last spots
    pub owned : SpotsOwn last own spots

  -- the first spot has this place, the others and those of its children are ready, and where none of them is all is as before
  pub record Steps (grown : List Place) (s : Spot) (spots : List Spot) (after : List Place) (more : List Spot) (q : Place) : Type 0 where
    pub ready : AreReady after more
    pub here : slice_get after (s.number - last) ≡ Some q
    pub apart : IsApart last (s.number - last) more
    pub before : (j : ℕ) (p : Place) → j ≢ s.number - last → IsApart last j more → slice_get after j ≡ Some p → IsApart last j spots × (slice_get grown j ≡ Some p)

  -- ---- a leaf

  abbrev pub with_leaf : List Place → Spot → Place → List Place
  with_leaf grown s q = set grown (s.number - last) q

  module _ (grown : List Place) (s : Spot) (spots : List Spot) (r : AreReady grown (s ∷ spots)) (shows : ℕ) (leaf : TreeLeaf) (bound : ℕ) where
    pub leaf_steps : Steps grown s spots (with_leaf grown s (leaf_at r.wait.0.place shows leaf bound)) spots (leaf_at r.wait.0.place shows leaf bound)
    leaf_steps =
        let i : ℕ = s.number - last in
        let q : Place = leaf_at r.wait.0.place shows leaf bound in
        let same : SameBut i grown (set grown i q) = λ j place other at. get_set_other grown i j q other ∙ at in
        record {
          ready = record {
            some = omega (arith, r.some, length-set grown i q);
            wait = wait_same last i grown (set grown i q) behind spots same r.apart.0 r.wait.1;
            apart = r.apart.1;
            owned = r.owned.1;
          };
          here = get_set_same grown i q r.wait.0.place r.wait.0.there;
          apart = r.apart.0;
          before = λ j p other apart at. (apart, sym (get_set_other grown i j q other) ∙ at);
        }

    pub leaf_made : (problem : Problem) (bounds : List ℕ) (splits : List Split)
        → fills problem last shows (Some s.number) (Leaf leaf) (record { grown = grown; at = Some s.number; bounds = bound ∷ bounds; splits = splits })
        ≡ record { grown = with_leaf grown s (leaf_at r.wait.0.place shows leaf bound); at = next_spot behind spots; bounds = bounds; splits = splits }
    leaf_made problem bounds splits =
        let g : Graft = record { grown = grown; at = Some s.number; bounds = bound ∷ bounds; splits = splits } in
        let after : List Place = with_leaf grown s (leaf_at r.wait.0.place shows leaf bound) in
        ap (λ (o : Option Place). fills_there problem last shows s.number o (Leaf leaf) g) r.wait.0.there
        ∙ ap (λ (at : Option ℕ). record { grown = after; at = at; bounds = bounds; splits = splits }) r.wait.0.next_is

  -- ---- a branch

  apart_rest : (parent : ℕ) (spots : List Spot) (j number : ℕ) (cs : List Decision) → IsApart last j (spots_for parent number cs ++ spots) → IsApart last j spots
  apart_rest parent spots j number [] apart = apart
  apart_rest parent spots j number (d ∷ cs) apart = apart_rest parent spots j (number + 1) cs apart.1

  -- each child has a spot
  child_waits : (parent : ℕ) (spots : List Spot) (j number : ℕ) (cs : List Decision) (k : ℕ) → k < length cs → j ≡ (number + k) - last → IsApart last j (spots_for parent number cs ++ spots) → ⊥
  child_waits parent spots j number [] k lt e apart = omega (arith, lt)
  child_waits parent spots j number (d ∷ cs) zero lt e apart = apart.0 (omega (arith, e))
  child_waits parent spots j number (d ∷ cs) (suc k) lt e apart = child_waits parent spots j (number + 1) cs k (omega (arith, lt)) (omega (arith, e)) apart.1

  abbrev pub with_children : List Place → Spot → List Spot → List Decision → List Place
  with_children grown s spots cs = grown ++ children_at s.number (next_spot behind spots) (last + length grown) cs

  abbrev pub with_branch : List Place → Spot → List Spot → List Decision → Place → List Place
  with_branch grown s spots cs q = set (with_children grown s spots cs) (s.number - last) q

  abbrev pub spots_with : List Place → Spot → List Spot → List Decision → List Spot
  spots_with grown s spots cs = spots_for s.number (last + length grown) cs ++ spots

  module _ (grown : List Place) (s : Spot) (spots : List Spot) (r : AreReady grown (s ∷ spots)) (shows : ℕ) where
    abbrev branch : Place
    branch = branch_at r.wait.0.place (last + length grown) shows

    module _ (cs : List Decision) where
      old_index : (j : ℕ) (p : Place) → IsApart last j (spots_with grown s spots cs) → slice_get (with_children grown s spots cs) j ≡ Some p → slice_get grown j ≡ Some p
      old_index j p apart at = elim (get_joined grown (children_at s.number (next_spot behind spots) (last + length grown) cs) j p at) [
        | inl old ↦ old
        | inr (k, e, new) ↦
            let within = slice_get_within (children_at s.number (next_spot behind spots) (last + length grown) cs) k p new in
            let many = length_children s.number (next_spot behind spots) (last + length grown) cs in
            absurd (child_waits s.number spots j (last + length grown) cs k (omega (arith, within, many)) (omega (arith, e)) apart)
      ]

      pub branch_steps : Steps grown s spots (with_branch grown s spots cs branch) (spots_with grown s spots cs) branch
      branch_steps =
          let n : ℕ = s.number in
          let i : ℕ = n - last in
          let w = r.wait.0 in
          let first : ℕ = last + length grown in
          let joined : List Place = with_children grown s spots cs in
          let after : List Place = set joined i branch in
          let more : List Spot = spots_with grown s spots cs in
          let within : i < length grown = slice_get_within grown i w.place w.there in
          let apart : IsApart last i more = apart_children last n spots i first cs (omega (arith, within)) r.apart.0 in
          let same : SameBut i joined after = λ j place other at. get_set_other joined i j branch other ∙ at in
          record {
            ready = record {
              some = omega (arith, r.some, length-set joined i branch, length-append grown (children_at n (next_spot behind spots) first cs));
              wait = wait_same last i joined after behind more same apart (children_wait last n spots behind cs first grown refl r.wait.1);
              apart = children_apart last n spots grown behind first cs r.some r.wait.1 (omega arith) r.apart.1;
              owned = children_own last n spots own first cs (omega (arith, r.some)) r.owned.1;
            };
            here = get_set_same joined i branch w.place (get_more grown (children_at n (next_spot behind spots) first cs) i w.place w.there);
            apart = apart;
            before = λ j p other away at. (
              apart_rest n spots j first cs away,
              old_index j p away (sym (get_set_other joined i j branch other) ∙ at),
            );
          }

    pub branch_made : (problem : Problem) (choice : Choice) (children : ℕ) → IsChoice problem choice → (bounds : List ℕ) (splits : List Split)
        → fills problem last shows (Some s.number) (Branch choice children) (record { grown = grown; at = Some s.number; bounds = bounds; splits = splits })
        ≡ record {
          grown = with_branch grown s spots (children_of problem choice) branch;
          at = next_spot behind (spots_with grown s spots (children_of problem choice));
          bounds = bounds;
          splits = splits ++ record { node = s.number; choice = choice } ∷ [];
        }
    branch_made problem choice children is bounds splits =
        let n : ℕ = s.number in
        let w = r.wait.0 in
        let cs : List Decision = children_of problem choice in
        let first : ℕ = last + length grown in
        let split : List Split = splits ++ record { node = n; choice = choice } ∷ [] in
        let g : Graft = record { grown = grown; at = Some n; bounds = bounds; splits = splits } in
        ap (λ (o : Option Place). fills_there problem last shows n o (Branch choice children) g) w.there
        ∙ ap (λ (b : Option ℕ). record { grown = set (grown ++ children_at n b first cs) (n - last) branch; at = Some first; bounds = bounds; splits = split }) w.next_is
        ∙ ap (λ (at : Option ℕ). record { grown = with_branch grown s spots cs branch; at = at; bounds = bounds; splits = split })
        (sym (spot_there last n spots behind first cs (some_children problem choice is)))
