-- The grown tree stays the same where a place is changed that still shows a leaf, or the same branch.
use Rattle.std.proofs.Common.{◌≡◌, ◌≢◌, ◌∙◌, ℕ, zero, suc, inl, inr, List, [], ◌∷◌, length, set, refl, sym, ap, subst}
use Rattle.std.specs.Prelude.{Bool, Option, Some, None, slice_get, if◌then◌else◌}
use Rattle.std.proofs.lemmas.Bool.{cases_eq}
use Rattle.std.proofs.lemmas.Option.{same_Some, slice_get_within}
use Rattle.std.proofs.lemmas.List.{length-set}
use Rattle.disp_model.specs.declared.decision.Choice.{Choice}
use Rattle.disp_model.specs.declared.problem.Problem.{Problem}
use Rattle.disp_model.specs.declared.tree.Leaf.{Leaf as TreeLeaf}
use Rattle.disp_model.specs.declared.tree.Leaf.TheVariants.{Costs}
use Rattle.disp_model.specs.declared.tree.TreeNode.{TreeNode}
use Rattle.disp_model.specs.declared.tree.TreeNode.TheVariants.{Branch, Leaf}
use Rattle.disp_model.specs.Replay.{Place as Grown, branch, leaf, Growth}
use Rattle.open_nodes.specs.declared.place.Place.{Place}
use Rattle.open_nodes.specs.declared.place.Kind.{Kind}
use Rattle.open_nodes.specs.declared.place.Kind.TheVariants.{Open, Dead, Branch as Branched}
use Rattle.open_nodes.specs.declared.work.Work.{Work}
use Rattle.open_nodes.specs.declared.work.Take.{Take}
use Rattle.open_nodes.specs.declared.work.Take.TheVariants.{Ripe, Taken, AllOut, Dry}
use Rattle.open_nodes.specs.declared.work.GiveBack.{GiveBack}
use Rattle.open_nodes.specs.declared.work.GiveBack.TheVariants.{Back, Gone}
use Rattle.open_nodes.specs.States.{State, with_places, with_out, marked, errand_of, Takes, GivesBack}
use Rattle.open_nodes.specs.Preorder.{link_of, next_at, order, preorder}
use Rattle.open_nodes.specs.Filled.{IsTree}
use Rattle.open_nodes.specs.Shown.{fallen, fallen_by, fallen_in, fallen_at, with_edition}
use Rattle.open_nodes.proofs.Places.{get_set_same, get_set_other}
use Rattle.open_nodes.proofs.Keeping.{same_above}
use Rattle.open_nodes.proofs.Holding.{decisions_same}
use Rattle.open_nodes.proofs.Touching.{is_branched, open_no_branch}
use Rattle.tree_replay.specs.Replayed.{IsShownAt, AreShownAt, IsReplayed}
use Rattle.tree_replay.proofs.Showing.{no_branch, each_shown}

-- where the links are the same, so is the preorder
order_same : (places after : List Place) → ((q : ℕ) → next_at after q ≡ next_at places q) → (at : Option ℕ) (fuel : ℕ) → order at fuel after ≡ order at fuel places
order_same places after same None fuel = refl
order_same places after same (Some n) zero = refl
order_same places after same (Some n) (suc fuel) =
    ap (λ (a : Option ℕ). n ∷ order a fuel after) (same n) ∙ ap (λ (ns : List ℕ). n ∷ ns) (order_same places after same (next_at places n) fuel)

-- a place stands as another does, and shows a leaf or the same branch
record IsLike (kept : List TreeNode) (p q : Place) : Type 0 where
  above : p.above ≡ q.above
  next : p.next ≡ q.next
  leaf_too : (shown : TreeLeaf) → slice_get kept p.shows ≡ Some (Leaf shown) → (other : TreeLeaf) × (slice_get kept q.shows ≡ Some (Leaf other))
  branch_too : (choice : Choice) (children : ℕ) → slice_get kept p.shows ≡ Some (Branch choice children) → slice_get kept q.shows ≡ Some (Branch choice children)

same_shown : (kept : List TreeNode) (p q : Place) → p.above ≡ q.above → p.next ≡ q.next → p.shows ≡ q.shows → IsLike kept p q
same_shown kept p q above next shows = record {
  above = above;
  next = next;
  leaf_too = λ shown s. (shown, ap (λ (k : ℕ). slice_get kept k) (sym shows) ∙ s);
  branch_too = λ choice children s. ap (λ (k : ℕ). slice_get kept k) (sym shows) ∙ s;
}

module _ (problem : Problem) (growth : Growth) (state : State) (tree : IsTree problem state) (replayed : IsReplayed growth state) where
  module _ (n : ℕ) (x q : Place) (there : slice_get state.places n ≡ Some x) (like : IsLike state.kept x q) where
    abbrev touched : List Place
    touched = set state.places n q

    touched_at : (m : ℕ) (p : Place) → slice_get state.places m ≡ Some p → (r : Place) × (slice_get touched m ≡ Some r) × IsLike state.kept p r
    touched_at m p at = elim (cases_eq m n) [
      | inl e ↦
          let is : x ≡ p = same_Some x p (sym there ∙ ap (λ (k : ℕ). slice_get state.places k) (sym e) ∙ at) in
          (q, ap (λ (k : ℕ). slice_get touched k) e ∙ get_set_same state.places n q x there, subst (λ (r : Place). IsLike state.kept r q) is like)
      | inr ne ↦ (p, get_set_other state.places n m q ne ∙ at, same_shown state.kept p p refl refl refl)
    ]

    same_next : (m : ℕ) → next_at touched m ≡ next_at state.places m
    same_next m = elim (cases_eq m n) [
      | inl e ↦ subst (λ (k : ℕ). next_at touched k ≡ next_at state.places k) (sym e)
          (ap link_of (get_set_same state.places n q x there) ∙ sym like.next ∙ sym (ap link_of there))
      | inr ne ↦ ap link_of (get_set_other state.places n m q ne)
    ]

    shown_touched : (m : ℕ) (g : Grown) → IsShownAt state m g → IsShownAt (with_places state touched) m g
    shown_touched m (branch choice) (p, children, at, kept) = let (r, r_there, alike) = touched_at m p at in (r, children, r_there, alike.branch_too choice children kept)
    shown_touched m (leaf number above) (p, shown, at, kept, same, decisions) =
        let (r, r_there, alike) = touched_at m p at in
        let (other, other_shown) = alike.leaf_too shown kept in (
          r,
          other,
          r_there,
          other_shown,
          same,
          decisions
              ∙ sym (decisions_same state.places touched tree.parents (λ k lt. same_above state.places 0 0 n x q there like.above k) m (slice_get_within state.places m p at)),
        )

    replayed_touched : IsReplayed growth (with_places state touched)
    replayed_touched =
        let long : length touched ≡ length state.places = length-set state.places n q in
        let order_is : preorder touched ≡ preorder state.places =
        ap (λ (fuel : ℕ). order (Some 0) fuel touched) long ∙ order_same state.places touched same_next (Some 0) (length state.places) in
        record {
          unused = replayed.unused ∙ sym long;
          shown = subst (λ (ns : List ℕ). AreShownAt (with_places state touched) ns growth.places) (sym order_is)
              (each_shown state (with_places state touched) (preorder state.places) growth.places (λ m g h is. shown_touched m g is) replayed.shown);
        }

  -- where the place still shows the same
  same_touched : (n : ℕ) (x q : Place) → slice_get state.places n ≡ Some x → x.above ≡ q.above → x.next ≡ q.next → x.shows ≡ q.shows
      → IsReplayed growth (with_places state (set state.places n q))
  same_touched n x q there above next shows = replayed_touched n x q there (same_shown state.kept x q above next shows)

  pub takes_stays : (best : Option ℕ) (free want seen : ℕ) (take : Take) (after : State) → Takes state best free want seen take after → IsReplayed growth after
  takes_stays best free want seen Ripe after takes = subst (λ (s : State). IsReplayed growth s) (sym takes.1) replayed
  takes_stays best free want seen (Taken work) after takes =
      let sends = takes.1 in
      let x = sends.place in
      subst (λ (s : State). IsReplayed growth s) (sym sends.after_is) (same_touched work.node x (with_out x (Some (errand_of work))) sends.there refl refl refl)
  takes_stays best free want seen (AllOut count) after takes = subst (λ (s : State). IsReplayed growth s) (sym takes.3) replayed
  takes_stays best free want seen Dry after takes = subst (λ (s : State). IsReplayed growth s) (sym takes.2) replayed

  pub back_stays : (work : Work) (examined : Bool) (answer : GiveBack) (after : State) → GivesBack state work examined answer after → IsReplayed growth after
  back_stays work examined Back after back =
      let x = back.place in
      subst (λ (s : State). IsReplayed growth s) (sym back.after_is)
      (same_touched work.node x (marked x (if examined then Some work.edition else x.examined)) back.is_out.there refl refl refl)
  back_stays work examined (Gone node) after back = subst (λ (s : State). IsReplayed growth s) (sym back.2) replayed

  pub fallen_stays : (n : ℕ) → IsReplayed growth (fallen_at state n)
  fallen_stays n = by_place (slice_get state.places n) refl
    where
      falls : (x : Place) → slice_get state.places n ≡ Some x → x.kind ≢ Branched → IsReplayed growth (with_places state (set state.places n (fallen x)))
      falls x there other = replayed_touched n x (fallen x) there (record {
        above = refl;
        next = refl;
        leaf_too = λ shown s. (Costs [], tree.empty);
        branch_too = λ choice children s. absurd (no_branch problem state tree n x there other choice children s);
      })

      by_kind : (x : Place) → slice_get state.places n ≡ Some x → (k : Kind) → x.kind ≡ k → IsReplayed growth (with_places state (fallen_by state.places n x k))
      by_kind x there Branched e = replayed
      by_kind x there Dead e = falls x there (λ b. subst is_branched (sym b ∙ e) tt)
      by_kind x there Open e = falls x there (open_no_branch x.kind e)

      by_place : (o : Option Place) → slice_get state.places n ≡ o → IsReplayed growth (with_places state (fallen_in state.places n o))
      by_place None e = replayed
      by_place (Some x) e = by_kind x e x.kind refl

pub newer_stays : (growth : Growth) (state : State) (edition : ℕ) → IsReplayed growth state → IsReplayed growth (with_edition state edition)
newer_stays growth state edition replayed = record {
  unused = replayed.unused;
  shown = each_shown state (with_edition state edition) (preorder state.places) growth.places (λ m g h is. newer m g is) replayed.shown;
}
  where
    newer : (m : ℕ) (g : Grown) → IsShownAt state m g → IsShownAt (with_edition state edition) m g
    newer m (branch choice) is = is
    newer m (leaf number above) is = is
