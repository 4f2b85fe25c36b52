-- The places of the children of a branch, one after the other.
use Rattle.std.proofs.Common.{◌≡◌, ◌∙◌, ℕ, suc, ◌+◌, ◌<◌, ◌≤◌, inl, inr, List, [], ◌∷◌, ◌++◌, length, get_or, drop, refl, sym, ap, append_assoc, arith}
use Rattle.std.specs.Prelude.{Option, Some, None, slice_get}
use Rattle.std.proofs.Math.Seq.{drop-cons}
use Rattle.std.proofs.lemmas.List.{append-nil, drop_all}
use Rattle.std.proofs.lemmas.Bool.{cases_lt}
use Rattle.std.proofs.lemmas.Option.{slice_get_past, slice_get_within, slice_get-get_or, get_or_from_slice_get}
use Rattle.disp_model.specs.declared.decision.Decision.{Decision}
use Rattle.open_nodes.specs.declared.place.Place.{Place}
use Rattle.disp_model.specs.declared.problem.Problem.{Problem}
use Rattle.disp_model.specs.declared.tree.TreeNode.{TreeNode}
use Rattle.disp_model.specs.declared.entry.Split.{Split}
use Rattle.open_nodes.specs.Grafts.{Graft, IsGraft, IsGrafted, fills, grafted, children_at, new_place, next_given, next_in}
use Rattle.open_nodes.proofs.Paths.{no_some}

pub none_from : (cs : List Decision) (k : ℕ) → slice_get cs k ≡ None → length cs ≤ k
none_from [] k gone = omega arith
none_from (d ∷ cs) k gone = elim (cases_lt k (length (d ∷ cs))) [
  | inl lt ↦ absurd (no_some (get_or (d ∷ cs) k d) (sym gone ∙ slice_get-get_or (d ∷ cs) k d lt))
  | inr past ↦ past
]

module _ (cs : List Decision) where
  dropped : (k : ℕ) (d : Decision) → slice_get cs k ≡ Some d → drop k cs ≡ d ∷ drop (suc k) cs
  dropped k d there = drop-cons cs k d (slice_get_within cs k d there) ∙ ap (λ (x : Decision). x ∷ drop (suc k) cs) (get_or_from_slice_get cs k d d there)

  follows : (d : Decision) (k number : ℕ) (behind : Option ℕ) → next_in behind number (drop k cs) ≡ next_given (slice_get cs k) number behind
  follows d k number behind = elim (cases_lt k (length cs)) [
    | inl lt ↦ ap (next_in behind number) (drop-cons cs k d lt) ∙ sym (ap (λ (o : Option Decision). next_given o number behind) (slice_get-get_or cs k d lt))
    | inr past ↦ ap (next_in behind number) (drop_all k cs past) ∙ sym (ap (λ (o : Option Decision). next_given o number behind) (slice_get_past cs k past))
  ]

  module _ (parent first : ℕ) (behind : Option ℕ) where
    -- so many children have their places, and the others are to come
    pub record AreBuilt (k number : ℕ) (places : List Place) : Type 0 where
      pub number_is : number ≡ first + k
      pub built : places ++ children_at parent behind number (drop k cs) ≡ children_at parent behind first cs

    pub one_built : (k number : ℕ) (places : List Place) (d : Decision) (next : Option ℕ) → AreBuilt k number places → slice_get cs k ≡ Some d
        → next ≡ next_given (slice_get cs (k + 1)) (number + 1) behind → AreBuilt (k + 1) (number + 1) (places ++ new_place parent d next ∷ [])
    one_built k number places d next are there is =
        let more : suc k ≡ k + 1 = omega arith in
        let front : drop k cs ≡ d ∷ drop (k + 1) cs = dropped k d there ∙ ap (λ (n : ℕ). d ∷ drop n cs) more in
        let here : children_at parent behind number (drop k cs) ≡ new_place parent d next ∷ children_at parent behind (number + 1) (drop (k + 1) cs) =
        ap (children_at parent behind number) front
        ∙ ap (λ (n : Option ℕ). new_place parent d n ∷ children_at parent behind (number + 1) (drop (k + 1) cs)) (follows d (k + 1) (number + 1) behind ∙ sym is) in
        record {
          number_is = omega (arith, are.number_is);
          built = append_assoc places (new_place parent d next ∷ []) (children_at parent behind (number + 1) (drop (k + 1) cs))
              ∙ ap (λ (l : List Place). places ++ l) (sym here) ∙ are.built;
        }

    pub all_built : (k number : ℕ) (places : List Place) → AreBuilt k number places → length cs ≤ k → places ≡ children_at parent behind first cs
    all_built k number places are past =
        sym (append-nil places) ∙ ap (λ (l : List Place). places ++ l) (sym (ap (children_at parent behind number) (drop_all k cs past))) ∙ are.built

    pub none_built : AreBuilt 0 first []
    none_built = record { number_is = omega arith; built = refl }

same_graft : (g : Graft) (grown : List Place) (at : Option ℕ) (bounds : List ℕ) (splits : List Split) → IsGraft g grown at bounds splits
    → record { grown = grown; at = at; bounds = bounds; splits = splits } ≡ g
same_graft g grown at bounds splits is = rw (is.grown_is, is.at_is, is.bounds_are, is.splits_are) refl

-- one node more is filled, and the rest is to come
module _ (problem : Problem) (last shows k : ℕ) (tree : List TreeNode) (all g : Graft) (are : grafted problem last (shows + k) (drop k tree) g ≡ all) where
  pub one_filled : (node : TreeNode) (grown : List Place) (at : Option ℕ) (bounds : List ℕ) (splits : List Split) → k < length tree → node ≡ get_or tree k node
      → IsGraft (fills problem last (shows + k) g.at node g) grown at bounds splits
      → grafted problem last (shows + (k + 1)) (drop (k + 1) tree) (record { grown = grown; at = at; bounds = bounds; splits = splits }) ≡ all
  one_filled node grown at bounds splits lt is f =
      let next = fills problem last (shows + k) g.at node g in
      let more : suc k ≡ k + 1 = omega arith in
      let behind : (shows + k) + 1 ≡ shows + (k + 1) = omega arith in
      let front : drop k tree ≡ node ∷ drop (k + 1) tree = drop-cons tree k node lt ∙ ap (λ (x : TreeNode). x ∷ drop (suc k) tree) (sym is) ∙ ap (λ (n : ℕ). node ∷ drop n tree) more in
      let whole : grafted problem last ((shows + k) + 1) (drop (k + 1) tree) next ≡ all = sym (ap (λ (l : List TreeNode). grafted problem last (shows + k) l g) front) ∙ are in
      let made : record { grown = grown; at = at; bounds = bounds; splits = splits } ≡ next = same_graft next grown at bounds splits f in
      ap (λ (x : Graft). grafted problem last (shows + (k + 1)) (drop (k + 1) tree) x) made
      ∙ ap (λ (n : ℕ). grafted problem last n (drop (k + 1) tree) next) (sym behind) ∙ whole

  pub all_filled : length tree ≤ k → IsGrafted all g.grown g.splits
  all_filled past =
      let e : g ≡ all = sym (ap (λ (l : List TreeNode). grafted problem last (shows + k) l g) (drop_all k tree past)) ∙ are in
      record { grown_is = ap (λ (x : Graft). x.grown) e; splits_are = ap (λ (x : Graft). x.splits) e }
