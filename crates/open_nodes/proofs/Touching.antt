-- A tree of which one place is changed, but not its links.
use Rattle.std.proofs.Common.{◌≡◌, ◌≢◌, ◌∙◌, ℕ, inl, inr, List, [], ◌∷◌, ◌++◌, set, refl, sym, ap, subst, arith}
use Rattle.std.specs.Prelude.{Bool, Option, Some, None, slice_get, if◌then◌else◌}
use Rattle.std.proofs.lemmas.Bool.{cases_eq}
use Rattle.std.proofs.lemmas.Option.{same_Some}
use Rattle.std.proofs.lemmas.List.{length-set}
use Rattle.disp_model.specs.declared.decision.Choice.{Choice}
use Rattle.disp_model.specs.declared.problem.Problem.{Problem}
use Rattle.disp_model.specs.declared.tree.Leaf.{Leaf as TreeLeaf}
use Rattle.disp_model.specs.declared.tree.Leaf.TheVariants.{Costs}
use Rattle.disp_model.specs.declared.tree.TreeNode.{TreeNode}
use Rattle.disp_model.specs.Trees.{children_of}
use Rattle.open_nodes.specs.declared.place.Place.{Place}
use Rattle.open_nodes.specs.declared.place.Errand.{Errand}
use Rattle.open_nodes.specs.declared.place.Kind.{Kind}
use Rattle.open_nodes.specs.declared.place.Kind.TheVariants.{Open, Dead, Branch as Branched}
use Rattle.open_nodes.specs.declared.work.Work.{Work}
use Rattle.open_nodes.specs.declared.work.Take.{Take}
use Rattle.open_nodes.specs.declared.work.Take.TheVariants.{Ripe, Taken, AllOut, Dry}
use Rattle.open_nodes.specs.declared.work.GiveBack.{GiveBack}
use Rattle.open_nodes.specs.declared.work.GiveBack.TheVariants.{Back, Gone}
use Rattle.open_nodes.specs.Preorder.{link_of}
use Rattle.open_nodes.specs.States.{State, with_places, with_out, marked, errand_of, Takes, GivesBack}
use Rattle.open_nodes.specs.Shown.{fallen, fallen_by, fallen_in, fallen_at, with_edition}
use Rattle.open_nodes.specs.Filled.{LinksLead, Spot, spots_for, ShowsLeaf, ShowsBranch, AreFilled, IsTree}
use Rattle.open_nodes.proofs.Places.{get_set_same, get_set_other}
use Rattle.open_nodes.proofs.Paths.{no_some}
use Rattle.open_nodes.proofs.Keeping.{same_above}

-- a place stands as another does, and shows a leaf or the same branch
record IsLike (problem : Problem) (kept : List TreeNode) (p q : Place) : Type 0 where
  above : p.above ≡ q.above
  next : p.next ≡ q.next
  leaf_too : (leaf : TreeLeaf) → ShowsLeaf kept p leaf → (other : TreeLeaf) × ShowsLeaf kept q other
  branch_too : (choice : Choice) (first : ℕ) → ShowsBranch problem kept p choice first → ShowsBranch problem kept q choice first

like_self : (problem : Problem) (kept : List TreeNode) (p : Place) → IsLike problem kept p p
like_self problem kept p = record { above = refl; next = refl; leaf_too = λ leaf shows. (leaf, shows); branch_too = λ choice first shows. shows }

module _ (problem : Problem) (state : State) (tree : IsTree problem state) (n : ℕ) (x q : Place) (there : slice_get state.places n ≡ Some x) (like : IsLike problem state.kept x q)
    (leaf : (errand : Errand) → q.out ≡ Some errand → q.kind ≢ Branched) where
  abbrev touched : List Place
  touched = set state.places n q

  touched_at : (m : ℕ) (p : Place) → slice_get state.places m ≡ Some p → (r : Place) × (slice_get touched m ≡ Some r) × IsLike problem state.kept p r
  touched_at m p at = elim (cases_eq m n) [
    | inl e ↦
        let is : x ≡ p = same_Some x p (sym there ∙ ap (λ (k : ℕ). slice_get state.places k) (sym e) ∙ at) in
        (q, ap (λ (k : ℕ). slice_get touched k) e ∙ get_set_same state.places n q x there, subst (λ (r : Place). IsLike problem state.kept r q) is like)
    | inr ne ↦ (p, get_set_other state.places n m q ne ∙ at, like_self problem state.kept p)
  ]

  filled_touched : (spots : List Spot) (xs : List ℕ) (at : Option ℕ) → LinksLead (slice_get state.places) at xs None → AreFilled problem (slice_get state.places) state.kept spots xs
      → LinksLead (slice_get touched) at xs None × AreFilled problem (slice_get touched) state.kept spots xs
  filled_touched [] [] at f g = (f, tt)
  filled_touched [] (m ∷ ms) at f g = absurd g
  filled_touched (s ∷ ss) [] at f g = absurd g
  filled_touched (s ∷ ss) (m ∷ ms) at f (p, is, inl (shown, shows, rest)) =
      let (r, r_there, alike) = touched_at m p is.there in
      let link : link_of (slice_get state.places m) ≡ link_of (slice_get touched m) = ap link_of is.there ∙ alike.next ∙ sym (ap link_of r_there) in
      let more = filled_touched ss ms (link_of (slice_get state.places m)) f.1 rest in
      let leaf_shown = alike.leaf_too shown shows in (
        (f.0, subst (λ (a : Option ℕ). LinksLead (slice_get touched) a ms None) link more.0),
        (r, record { number_is = is.number_is; there = r_there; above_is = sym alike.above ∙ is.above_is }, inl (leaf_shown.0, leaf_shown.1, more.1)),
      )
  filled_touched (s ∷ ss) (m ∷ ms) at f (p, is, inr (choice, first, shows, rest)) =
      let (r, r_there, alike) = touched_at m p is.there in
      let link : link_of (slice_get state.places m) ≡ link_of (slice_get touched m) = ap link_of is.there ∙ alike.next ∙ sym (ap link_of r_there) in
      let more = filled_touched (spots_for m first (children_of problem choice) ++ ss) ms (link_of (slice_get state.places m)) f.1 rest in (
        (f.0, subst (λ (a : Option ℕ). LinksLead (slice_get touched) a ms None) link more.0),
        (r, record { number_is = is.number_is; there = r_there; above_is = sym alike.above ∙ is.above_is }, inr (choice, first, alike.branch_too choice first shows, more.1)),
      )

  tree_touched : IsTree problem (with_places state touched)
  tree_touched =
      let both = filled_touched (record { number = 0; above = None } ∷ []) tree.numbers (Some 0) tree.leads tree.filled in
      record {
        numbers = tree.numbers;
        leads = both.0;
        filled = both.1;
        count = omega (arith, tree.count, length-set state.places n q);
        parents = λ m a is. tree.parents m a (sym (same_above state.places 0 0 n x q there like.above m) ∙ is);
        leaves = λ m p errand at out. elim (cases_eq m n) [
          | inl e ↦
              let is : q ≡ p = same_Some q p (sym (get_set_same state.places n q x there) ∙ ap (λ (k : ℕ). slice_get touched k) (sym e) ∙ at) in
              subst (λ (r : Place). r.out ≡ Some errand → r.kind ≢ Branched) is (leaf errand) out
          | inr ne ↦ tree.leaves m p errand (sym (get_set_other state.places n m q ne) ∙ at) out
        ];
        empty = tree.empty;
      }

abbrev pub is_branched : Kind → Type 0
is_branched Branched = Unit {0}
is_branched Dead = ⊥
is_branched Open = ⊥

pub open_no_branch : (k : Kind) → k ≡ Open → k ≢ Branched
open_no_branch k e b = subst is_branched (sym b ∙ e) tt

same_shown : (problem : Problem) (kept : List TreeNode) (p q : Place) → p.above ≡ q.above → p.next ≡ q.next → p.shows ≡ q.shows → p.kind ≡ q.kind → IsLike problem kept p q
same_shown problem kept p q above next shows kind = record {
  above = above;
  next = next;
  leaf_too = λ leaf s. (leaf, record { shown = ap (λ (k : ℕ). slice_get kept k) (sym shows) ∙ s.shown; kind_is = sym kind ∙ s.kind_is });
  branch_too = λ choice first s. record {
    children = s.children;
    shown = ap (λ (k : ℕ). slice_get kept k) (sym shows) ∙ s.shown;
    kind_is = sym kind ∙ s.kind_is;
    is_choice = s.is_choice;
    children_are = s.children_are;
    next_is = sym next ∙ s.next_is;
  };
}

pub takes_tree : (problem : Problem) (state : State) (best : Option ℕ) (free want seen : ℕ) (take : Take) (after : State) → IsTree problem state
    → Takes state best free want seen take after → IsTree problem after
takes_tree problem state best free want seen Ripe after tree takes = subst (λ (s : State). IsTree problem s) (sym takes.1) tree
takes_tree problem state best free want seen (Taken work) after tree takes =
    let may = takes.0 in
    let sends = takes.1 in
    let x = sends.place in
    let q : Place = with_out x (Some (errand_of work)) in
    let is : may.place ≡ x = same_Some may.place x (sym may.there ∙ sends.there) in
    let kind : x.kind ≡ Open = ap (λ (p : Place). p.kind) (sym is) ∙ may.takeable.0.0 in
    subst (λ (s : State). IsTree problem s) (sym sends.after_is)
    (tree_touched problem state tree work.node x q sends.there (same_shown problem state.kept x q refl refl refl refl) (λ errand out. open_no_branch x.kind kind))
takes_tree problem state best free want seen (AllOut count) after tree takes = subst (λ (s : State). IsTree problem s) (sym takes.3) tree
takes_tree problem state best free want seen Dry after tree takes = subst (λ (s : State). IsTree problem s) (sym takes.2) tree

pub back_tree : (problem : Problem) (state : State) (work : Work) (examined : Bool) (answer : GiveBack) (after : State) → IsTree problem state
    → GivesBack state work examined answer after → IsTree problem after
back_tree problem state work examined Back after tree back =
    let x = back.place in
    let q : Place = marked x (if examined then Some work.edition else x.examined) in
    subst (λ (s : State). IsTree problem s) (sym back.after_is)
    (tree_touched problem state tree work.node x q back.is_out.there (same_shown problem state.kept x q refl refl refl refl) (λ errand out. absurd (no_some errand out)))
back_tree problem state work examined (Gone node) after tree back = subst (λ (s : State). IsTree problem s) (sym back.2) tree

pub fallen_tree : (problem : Problem) (state : State) (n : ℕ) → IsTree problem state → IsTree problem (fallen_at state n)
fallen_tree problem state n tree = by_place (slice_get state.places n) refl
  where
    falls : (x : Place) → slice_get state.places n ≡ Some x → x.kind ≢ Branched → IsTree problem (with_places state (set state.places n (fallen x)))
    falls x there leaf = tree_touched problem state tree n x (fallen x) there (record {
      above = refl;
      next = refl;
      leaf_too = λ other shows. (Costs [], record { shown = tree.empty; kind_is = refl });
      branch_too = λ choice first shows. absurd (leaf shows.kind_is);
    }) (λ errand out. open_no_branch Open refl)

    by_kind : (x : Place) → slice_get state.places n ≡ Some x → (k : Kind) → x.kind ≡ k → IsTree problem (with_places state (fallen_by state.places n x k))
    by_kind x there Branched e = tree
    by_kind x there Dead e = falls x there (λ b. subst is_branched (sym b ∙ e) tt)
    by_kind x there Open e = falls x there (open_no_branch x.kind e)

    by_place : (o : Option Place) → slice_get state.places n ≡ o → IsTree problem (with_places state (fallen_in state.places n o))
    by_place None e = tree
    by_place (Some x) e = by_kind x e x.kind refl

pub newer_tree : (problem : Problem) (state : State) (edition : ℕ) → IsTree problem state → IsTree problem (with_edition state edition)
newer_tree problem state edition tree = record {
  numbers = tree.numbers;
  leads = tree.leads;
  filled = tree.filled;
  count = tree.count;
  parents = tree.parents;
  leaves = tree.leaves;
  empty = tree.empty;
}
