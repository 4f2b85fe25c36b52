-- Where a leaf has grown, each place is as it was, or new: then it is in, and not marked.
use Rattle.std.proofs.Common.{◌≡◌, ◌≢◌, ℕ, zero, suc, ◌+◌, ◌-◌, ◌<◌, ◌≤◌, inl, inr, List, [], ◌∷◌, ◌++◌, length, set, refl, sym, ap, subst, arith}
use Rattle.std.specs.Prelude.{Option, Some, None, ◌⊎◌, slice_get, sum_by}
use Rattle.std.proofs.lemmas.List.Sums.{sum_by-append, sum_by-cons}
use Rattle.std.proofs.lemmas.Option.{same_Some, slice_get_within}
use Rattle.disp_model.specs.declared.decision.Decision.{Decision}
use Rattle.disp_model.specs.declared.problem.Problem.{Problem}
use Rattle.disp_model.specs.declared.tree.TreeNode.{TreeNode}
use Rattle.disp_model.specs.declared.tree.TreeNode.TheVariants.{Branch, Leaf}
use Rattle.disp_model.specs.Trees.{children_of}
use Rattle.open_nodes.specs.declared.place.Place.{Place}
use Rattle.open_nodes.specs.States.{State, decisions_of, allowance_for, with_out}
use Rattle.open_nodes.specs.Grafts.{Graft, AllStand, children_at, new_place, next_in, branch_at, leaf_at, first_or_zero, fills_at, fills_there, fills, grafted, ungrown, placed}
use Rattle.open_nodes.specs.Filled.{IsTree}
use Rattle.open_nodes.proofs.Paths.{no_some}
use Rattle.open_nodes.proofs.Growing.{get_more, get_joined}
use Rattle.open_nodes.proofs.Holding.{decisions_same}
use Rattle.open_nodes.proofs.Planting.{above_same}
use Rattle.dispatch_core.proofs.Replacing.{each_set, allowances_set}

-- ---- what a fragment makes is not marked

abbrev pub NoneMarked : List Place → Type 0
NoneMarked grown = (j : ℕ) (p : Place) → slice_get grown j ≡ Some p → p.examined ≡ None

child_unmarked : (parent : ℕ) (behind : Option ℕ) (number : ℕ) (cs : List Decision) → NoneMarked (children_at parent behind number cs)
child_unmarked parent behind number [] i p at = absurd (no_some p at)
child_unmarked parent behind number (d ∷ cs) zero p at = sym (ap (λ (r : Place). r.examined) (same_Some (new_place parent d (next_in behind (number + 1) cs)) p at))
child_unmarked parent behind number (d ∷ cs) (suc i) p at = child_unmarked parent behind (number + 1) cs i p at

module _ (problem : Problem) (last : ℕ) where
  -- the place that is filled is not, and no other one was
  fill_unmarked : (shows n : ℕ) (place : Place) (node : TreeNode) (g : Graft) → slice_get g.grown (n - last) ≡ Some place
      → ((j : ℕ) (p : Place) → j ≢ n - last → slice_get g.grown j ≡ Some p → p.examined ≡ None) → NoneMarked (fills_at problem last shows n place node g).grown
  fill_unmarked shows n place (Branch choice children) g there others =
      let fresh : List Place = children_at n place.next (last + length g.grown) (children_of problem choice) in
      each_set (λ (j : ℕ) (p : Place). p.examined ≡ None) (g.grown ++ fresh) (n - last) place (branch_at place (last + length g.grown) shows)
      (get_more g.grown fresh (n - last) place there)
      (λ j p other at. elim (get_joined g.grown fresh j p at) [
        | inl old ↦ others j p other old
        | inr (i, e, new) ↦ child_unmarked n place.next (last + length g.grown) (children_of problem choice) i p new
      ]) refl
  fill_unmarked shows n place (Leaf leaf) g there others =
      each_set (λ (j : ℕ) (p : Place). p.examined ≡ None) g.grown (n - last) place (leaf_at place shows leaf (first_or_zero g.bounds)) there others refl

  there_unmarked : (shows n : ℕ) (o : Option Place) (node : TreeNode) (g : Graft) → slice_get g.grown (n - last) ≡ o → NoneMarked g.grown
      → NoneMarked (fills_there problem last shows n o node g).grown
  there_unmarked shows n None node g e all = all
  there_unmarked shows n (Some place) node g e all = fill_unmarked shows n place node g e (λ j p other at. all j p at)

  fills_unmarked : (shows : ℕ) (at : Option ℕ) (node : TreeNode) (g : Graft) → NoneMarked g.grown → NoneMarked (fills problem last shows at node g).grown
  fills_unmarked shows None node g all = all
  fills_unmarked shows (Some n) node g all = there_unmarked shows n (slice_get g.grown (n - last)) node g refl all

  grafted_unmarked : (shows : ℕ) (tree : List TreeNode) (g : Graft) → NoneMarked g.grown → NoneMarked (grafted problem last shows tree g).grown
  grafted_unmarked shows [] g all = all
  grafted_unmarked shows (node ∷ tree) g all = grafted_unmarked (shows + 1) tree (fills problem last shows g.at node g) (fills_unmarked shows g.at node g all)

  -- the leaf that grows is filled first, whatever it was marked for
  pub made_unmarked : (shows n : ℕ) (place : Place) (tree : List TreeNode) (bounds : List ℕ) → n ≤ last → 0 < length tree
      → NoneMarked (grafted problem last shows tree (ungrown place n bounds)).grown
  made_unmarked shows n place [] bounds le some = absurd (omega (arith, some))
  made_unmarked shows n place (node ∷ tree) bounds le some =
      let first : n - last ≡ 0 = omega (arith, le) in
      let here : slice_get (with_out place None ∷ []) (n - last) ≡ Some (with_out place None) = ap (λ (k : ℕ). slice_get (with_out place None ∷ []) k) first in
      grafted_unmarked (shows + 1) tree (fills problem last shows (Some n) node (ungrown place n bounds))
      (subst (λ (o : Option Place). NoneMarked (fills_there problem last shows n o node (ungrown place n bounds)).grown) (sym here)
      (fill_unmarked shows n (with_out place None) node (ungrown place n bounds) here (others first)))
    where
      others : n - last ≡ 0 → (j : ℕ) (p : Place) → j ≢ n - last → slice_get (with_out place None ∷ []) j ≡ Some p → p.examined ≡ None
      others first zero p other at = absurd (other (sym first))
      others first (suc j) p other at = absurd (no_some p at)

-- ---- the places where a leaf has grown

-- a place as it was, below the same decisions
pub record Stays (before after : List Place) (m : ℕ) (p : Place) : Type 0 where
  pub there : slice_get before m ≡ Some p
  pub decisions : decisions_of after m ≡ decisions_of before m

-- a new place, which is in and not marked
pub record IsNew (p : Place) : Type 0 where
  pub inside : p.out ≡ None
  pub unmarked : p.examined ≡ None

-- places that are in are allowed nothing
nothing_allowed : (edition : ℕ) (places : List Place) → ((i : ℕ) (p : Place) → slice_get places i ≡ Some p → p.out ≡ None)
    → sum_by (λ (r : Place). allowance_for edition r.out) places ≡ 0
nothing_allowed edition [] inside = refl
nothing_allowed edition (p ∷ places) inside =
    let first : allowance_for edition p.out ≡ 0 = ap (allowance_for edition) (inside 0 p refl) in
    let rest : sum_by (λ (r : Place). allowance_for edition r.out) places ≡ 0 = nothing_allowed edition places (λ i. inside (suc i)) in
    omega (arith, sum_by-cons (λ (r : Place). allowance_for edition r.out) p places, first, rest)

module _ (problem : Problem) (state : State) (tree : IsTree problem state) (n : ℕ) (x : Place) (there : slice_get state.places n ≡ Some x) where
  pub old_or_new : (grown : List Place) → 0 < length grown → AllStand (length state.places - 1) x.above grown → NoneMarked grown
      → (m : ℕ) (p : Place) → slice_get (placed state.places n grown) m ≡ Some p → Stays state.places (placed state.places n grown) m p ⊎ IsNew p
  old_or_new [] some all unmarked m p at = absurd (omega (arith, some))
  old_or_new (root ∷ fresh) some all unmarked m p at =
      let after : List Place = set (state.places ++ fresh) n root in
      each_set (λ (k : ℕ) (r : Place). Stays state.places after k r ⊎ IsNew r) (state.places ++ fresh) n x root (get_more state.places fresh n x there)
      (λ k r other joined. elim (get_joined state.places fresh k r joined) [
        | inl before ↦ inl (record {
          there = before;
          decisions = decisions_same state.places after tree.parents (above_same problem state.places state.kept state.kept n x root fresh there (λ j node e. e) (all 0 root refl).up) k
              (slice_get_within state.places k r before);
        })
        | inr (i, e, new) ↦ inr (record { inside = (all (suc i) r new).inside; unmarked = unmarked (suc i) r new })
      ]) (inr (record { inside = (all 0 root refl).inside; unmarked = unmarked 0 root refl })) m p at

  -- what the leaf was allowed is allowed no more
  pub allowed_less : (edition : ℕ) (grown : List Place) → 0 < length grown → AllStand (length state.places - 1) x.above grown
      → sum_by (λ (r : Place). allowance_for edition r.out) (placed state.places n grown) + allowance_for edition x.out
      ≡ sum_by (λ (r : Place). allowance_for edition r.out) state.places
  allowed_less edition [] some all = absurd (omega (arith, some))
  allowed_less edition (root ∷ fresh) some all =
      let root_in : allowance_for edition root.out ≡ 0 = ap (allowance_for edition) (all 0 root refl).inside in
      omega (
        arith,
        root_in,
        allowances_set edition (state.places ++ fresh) n x root (get_more state.places fresh n x there),
        sum_by-append (λ (r : Place). allowance_for edition r.out) state.places fresh,
        nothing_allowed edition fresh (λ i p at. (all (suc i) p at).inside),
      )
