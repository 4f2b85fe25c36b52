-- What a leaf makes of a fragment stands below what was there, and is in.
use Rattle.std.proofs.Common.{◌≡◌, ◌∙◌, ℕ, zero, suc, ◌+◌, ◌-◌, ◌<◌, ◌≤◌, inl, inr, List, [], ◌∷◌, ◌++◌, length, set, refl, sym, ap, subst, arith}
use Rattle.std.specs.Prelude.{Option, Some, None, ◌⊎◌, slice_get, sum_by}
use Rattle.std.proofs.lemmas.Bool.{cases_eq}
use Rattle.std.proofs.lemmas.Option.{same_Some, slice_get_within}
use Rattle.std.proofs.lemmas.List.{length-set, length-append}
use Rattle.std.proofs.lemmas.List.Sums.{sum_by-append, sum_by-cons}
use Rattle.disp_model.specs.declared.decision.Decision.{Decision}
use Rattle.disp_model.specs.declared.decision.Choice.{Choice}
use Rattle.disp_model.specs.declared.problem.Problem.{Problem}
use Rattle.disp_model.specs.declared.tree.TreeNode.{TreeNode}
use Rattle.disp_model.specs.declared.tree.TreeNode.TheVariants.{Branch, Leaf}
use Rattle.disp_model.specs.Trees.{children_of}
use Rattle.open_nodes.specs.declared.place.Place.{Place}
use Rattle.open_nodes.specs.declared.place.Above.{Above}
use Rattle.open_nodes.specs.States.{above_of, allowance_for, with_out, ArePlacesKept}
use Rattle.open_nodes.specs.Grafts.{Graft, IsPlacedBehind, StandsInPlace, AllStand, children_at, new_place, next_in, branch_at, leaf_at, first_or_zero, branched, fills, fills_there, grafted, ungrown, placed}
use Rattle.open_nodes.proofs.Places.{get_set_same, get_set_other}
use Rattle.open_nodes.proofs.Paths.{no_some}
use Rattle.open_nodes.proofs.Keeping.{kept_set, allowed_of_one}

pub get_more : {X : Type 0} → (xs ys : List X) (j : ℕ) (x : X) → slice_get xs j ≡ Some x → slice_get (xs ++ ys) j ≡ Some x
get_more [] ys j x at = absurd (no_some x at)
get_more (y ∷ xs) ys zero x at = at
get_more (y ∷ xs) ys (suc j) x at = get_more xs ys j x at

pub get_joined : {X : Type 0} → (xs ys : List X) (j : ℕ) (x : X) → slice_get (xs ++ ys) j ≡ Some x
    → (slice_get xs j ≡ Some x) ⊎ ((i : ℕ) × (j ≡ length xs + i) × (slice_get ys i ≡ Some x))
get_joined [] ys j x at = inr (j, omega arith, at)
get_joined (y ∷ xs) ys zero x at = inl at
get_joined (y ∷ xs) ys (suc j) x at = elim (get_joined xs ys j x at) [
  | inl there ↦ inl there
  | inr (i, e, there) ↦ inr (i, omega (arith, e), there)
]

child_stands : (parent : ℕ) (behind : Option ℕ) (number : ℕ) (cs : List Decision) (i : ℕ) (p : Place) → slice_get (children_at parent behind number cs) i ≡ Some p
    → (p.out ≡ None) × ((a : Above) → p.above ≡ Some a → a.parent ≡ parent)
child_stands parent behind number [] i p at = absurd (no_some p at)
child_stands parent behind number (d ∷ cs) zero p at =
    let is : new_place parent d (next_in behind (number + 1) cs) ≡ p = same_Some (new_place parent d (next_in behind (number + 1) cs)) p at in
    let up : Above = record { parent = parent; decision = d } in
    (sym (ap (λ (r : Place). r.out) is), λ a e. sym (ap (λ (r : Above). r.parent) (same_Some up a (ap (λ (r : Place). r.above) is ∙ e))))
child_stands parent behind number (d ∷ cs) (suc i) p at = child_stands parent behind (number + 1) cs i p at

module _ (last : ℕ) (above : Option Above) where
  is_behind : (j : ℕ) (up : Option Above) → 0 < j → ((a : Above) → up ≡ Some a → a.parent < last + j) → IsPlacedBehind last above j up
  is_behind zero up lt small = absurd (omega (arith, lt))
  is_behind (suc j) up lt small = small

  stand_set : (grown : List Place) (k : ℕ) (x q : Place) → AllStand last above grown → slice_get grown k ≡ Some x → q.out ≡ None → x.above ≡ q.above → AllStand last above (set grown k q)
  stand_set grown k x q all there inside same j p at = elim (cases_eq j k) [
    | inl e ↦
        let is : q ≡ p = same_Some q p (sym (get_set_same grown k q x there) ∙ ap (λ (i : ℕ). slice_get (set grown k q) i) (sym e) ∙ at) in
        let old : StandsInPlace last above j x = all j x (ap (λ (i : ℕ). slice_get grown i) e ∙ there) in
        record {
          inside = sym (ap (λ (r : Place). r.out) is) ∙ inside;
          up = subst (λ (o : Option Above). IsPlacedBehind last above j o) (same ∙ ap (λ (r : Place). r.above) is) old.up;
        }
    | inr other ↦ all j p (sym (get_set_other grown k j q other) ∙ at)
  ]

  module _ (problem : Problem) (shows n : ℕ) where
    branched_stand : (place : Place) (choice : Choice) (grown : List Place) → AllStand last above grown → slice_get grown (n - last) ≡ Some place
        → AllStand last above (branched problem last shows n place choice grown)
    branched_stand place choice grown all there =
        let children = children_at n place.next (last + length grown) (children_of problem choice) in
        let within : n - last < length grown = slice_get_within grown (n - last) place there in
        let joined : AllStand last above (grown ++ children) = λ j p at. elim (get_joined grown children j p at) [
          | inl old ↦ all j p old
          | inr (i, e, new) ↦
              let child = child_stands n place.next (last + length grown) (children_of problem choice) i p new in
              record {
                inside = child.0;
                up = is_behind j p.above (omega (arith, within, e)) (λ a is. omega (arith, child.1 a is, within, e));
              }
        ] in
        stand_set (grown ++ children) (n - last) place (branch_at place (last + length grown) shows) joined (get_more grown children (n - last) place there) refl refl

    there_stand : (node : TreeNode) (g : Graft) (o : Option Place) → slice_get g.grown (n - last) ≡ o → AllStand last above g.grown
        → AllStand last above (fills_there problem last shows n o node g).grown
    there_stand node g None e all = all
    there_stand (Branch choice children) g (Some place) e all = branched_stand place choice g.grown all e
    there_stand (Leaf leaf) g (Some place) e all = stand_set g.grown (n - last) place (leaf_at place shows leaf (first_or_zero g.bounds)) all e refl refl

    there_some : (node : TreeNode) (g : Graft) (o : Option Place) → 0 < length g.grown → 0 < length (fills_there problem last shows n o node g).grown
    there_some node g None some = some
    there_some (Branch choice children) g (Some place) some =
        let more = children_at n place.next (last + length g.grown) (children_of problem choice) in
        omega (arith, some, length-set (g.grown ++ more) (n - last) (branch_at place (last + length g.grown) shows), length-append g.grown more)
    there_some (Leaf leaf) g (Some place) some = omega (arith, some, length-set g.grown (n - last) (leaf_at place shows leaf (first_or_zero g.bounds)))

  fills_stand : (problem : Problem) (shows : ℕ) (at : Option ℕ) (node : TreeNode) (g : Graft) → AllStand last above g.grown → AllStand last above (fills problem last shows at node g).grown
  fills_stand problem shows None node g all = all
  fills_stand problem shows (Some n) node g all = there_stand problem shows n node g (slice_get g.grown (n - last)) refl all

  fills_some : (problem : Problem) (shows : ℕ) (at : Option ℕ) (node : TreeNode) (g : Graft) → 0 < length g.grown → 0 < length (fills problem last shows at node g).grown
  fills_some problem shows None node g some = some
  fills_some problem shows (Some n) node g some = there_some problem shows n node g (slice_get g.grown (n - last)) some

  grafted_stand : (problem : Problem) (tree : List TreeNode) (shows : ℕ) (g : Graft) → AllStand last above g.grown → AllStand last above (grafted problem last shows tree g).grown
  grafted_stand problem [] shows g all = all
  grafted_stand problem (node ∷ tree) shows g all = grafted_stand problem tree (shows + 1) (fills problem last shows g.at node g) (fills_stand problem shows g.at node g all)

  grafted_some : (problem : Problem) (tree : List TreeNode) (shows : ℕ) (g : Graft) → 0 < length g.grown → 0 < length (grafted problem last shows tree g).grown
  grafted_some problem [] shows g some = some
  grafted_some problem (node ∷ tree) shows g some = grafted_some problem tree (shows + 1) (fills problem last shows g.at node g) (fills_some problem shows g.at node g some)

ungrown_stand : (last : ℕ) (place : Place) (n : ℕ) (bounds : List ℕ) → AllStand last place.above (ungrown place n bounds).grown
ungrown_stand last place n bounds zero p at =
    let is : with_out place None ≡ p = same_Some (with_out place None) p at in
    record { inside = sym (ap (λ (r : Place). r.out) is); up = sym (ap (λ (r : Place). r.above) is) }
ungrown_stand last place n bounds (suc j) p at = absurd (no_some p at)

-- what a leaf makes of a fragment
pub made_stand : (problem : Problem) (last shows n : ℕ) (place : Place) (tree : List TreeNode) (bounds : List ℕ) → AllStand last place.above (grafted problem last shows tree (ungrown place n bounds)).grown
made_stand problem last shows n place tree bounds = grafted_stand last place.above problem tree shows (ungrown place n bounds) (ungrown_stand last place n bounds)

pub made_some : (problem : Problem) (last shows n : ℕ) (place : Place) (tree : List TreeNode) (bounds : List ℕ) → 0 < length (grafted problem last shows tree (ungrown place n bounds)).grown
made_some problem last shows n place tree bounds = grafted_some last place.above problem tree shows (ungrown place n bounds) (omega arith)

-- ---- what is kept beside the places

pub above_there : (o : Option Place) (a : Above) → above_of o ≡ Some a → (p : Place) × (o ≡ Some p) × (p.above ≡ Some a)
above_there None a e = absurd (no_some a e)
above_there (Some p) a e = (p, refl, e)

none_out : (edition : ℕ) (fresh : List Place) → ((i : ℕ) (p : Place) → slice_get fresh i ≡ Some p → p.out ≡ None) → sum_by (λ (r : Place). allowance_for edition r.out) fresh ≡ 0
none_out edition [] inside = refl
none_out edition (p ∷ fresh) inside =
    let first : allowance_for edition p.out ≡ 0 = ap (allowance_for edition) (inside 0 p refl) in
    let rest : sum_by (λ (r : Place). allowance_for edition r.out) fresh ≡ 0 = none_out edition fresh (λ i. inside (suc i)) in
    omega (arith, sum_by-cons (λ (r : Place). allowance_for edition r.out) p fresh, first, rest)

module _ (places : List Place) (edition allowed : ℕ) (k : ArePlacesKept places edition allowed) where
  joined_kept : (fresh : List Place) → ((i : ℕ) (p : Place) → slice_get fresh i ≡ Some p → p.out ≡ None)
      → ((i : ℕ) (p : Place) (a : Above) → slice_get fresh i ≡ Some p → p.above ≡ Some a → a.parent < length places + i) → ArePlacesKept (places ++ fresh) edition allowed
  joined_kept fresh inside small = record {
    parents = λ n a is.
        let (p, at, up) = above_there (slice_get (places ++ fresh) n) a is in
        elim (get_joined places fresh n p at) [
          | inl old ↦ k.parents n a (ap above_of old ∙ up)
          | inr (i, e, new) ↦ omega (arith, small i p a new up, e)
        ];
    sum = omega (arith, k.sum, sum_by-append (λ (r : Place). allowance_for edition r.out) places fresh, none_out edition fresh inside);
    limit = k.limit;
    older = λ n p errand at out. elim (get_joined places fresh n p at) [
      | inl old ↦ k.older n p errand old out
      | inr (i, e, new) ↦ absurd (no_some errand (sym (inside i p new) ∙ out))
    ];
  }

  pub grown_kept : (n : ℕ) (x : Place) (grown : List Place) → slice_get places n ≡ Some x → 0 < length grown → AllStand (length places - 1) x.above grown
      → ArePlacesKept (placed places n grown) edition (allowed - allowance_for edition x.out)
  grown_kept n x [] there some all = absurd (omega (arith, some))
  grown_kept n x (root ∷ fresh) there some all =
      let within : n < length places = slice_get_within places n x there in
      let first : StandsInPlace (length places - 1) x.above 0 root = all 0 root refl in
      let joined : ArePlacesKept (places ++ fresh) edition allowed = joined_kept fresh (λ i p at. (all (suc i) p at).inside)
      (λ i p a at up. let less : a.parent < (length places - 1) + suc i = (all (suc i) p at).up a up in omega (arith, less, within)) in
      let here : slice_get (places ++ fresh) n ≡ Some x = get_more places fresh n x there in
      let zero_in : allowance_for edition root.out ≡ 0 = ap (allowance_for edition) first.inside in
      let few : allowance_for edition x.out ≤ allowed = allowed_of_one (places ++ fresh) edition allowed n x root here joined zero_in in
      kept_set (places ++ fresh) edition allowed n x root here joined (sym first.up) (allowed - allowance_for edition x.out)
      (omega (arith, few, zero_in)) (omega (arith, k.limit))
      (λ errand out. absurd (no_some errand (sym first.inside ∙ out)))
