-- A list of nodes, each of which is marked, and stands in it once.
use Rattle.std.proofs.Common.{◌≡◌, ◌≢◌, ℕ, ◌+◌, ◌<◌, ◌⊎◌, ◌↔◌, Bool, true, false, List, [], ◌∷◌, ◌++◌, inl, inr, length, set, take, sym, ◌∙◌, subst, arith, Contains, get_or-set_other, get_or-set_same}
use Rattle.std.specs.Prelude.{All}
use Rattle.std.proofs.lemmas.Bool.{cases_eq, false≢true}
use Rattle.std.proofs.lemmas.List.{length-append, length-set, length-take-le, take_more_set}
use Rattle.std.proofs.lemmas.List.Elements.{All-push, All-nil, Contains-push, Contains-push_cases, Contains-append_left}
use Rattle.std.proofs.lemmas.List.Quantifiers.{all_pairs_push}
use Rattle.incremental_paths.specs.Walks.{HasNoNodeTwice}
use Rattle.incremental_paths.specs.Ordered.{is_marked}
use Rattle.incremental_paths.specs.NodeSets.{AreMembers}
use Rattle.incremental_paths.proofs.Members.{Contains-nil}
use Rattle.incremental_paths.proofs.Pairs.{contains_at}
use Rattle.incremental_paths.proofs.Bounds.{few_nodes}

pub no_members : (marks : List Bool) (nodes : List ℕ) → length marks ≡ length nodes → ((v : ℕ) → is_marked marks v ≡ false) → AreMembers marks nodes 0
no_members marks nodes sized none = record {
  sized = sized;
  enough = omega arith;
  within = All-nil (λ v. v < length nodes);
  once = λ i j d lt below. absurd (omega (arith, below));
  each = λ v has. absurd (Contains-nil v has);
  only = λ v marked. absurd (false≢true (sym (none v) ∙ marked));
}

module _ (marks : List Bool) (nodes : List ℕ) (count : ℕ) (are : AreMembers marks nodes count) (node : ℕ) (new : is_marked marks node ≡ false) (lt : node < length nodes) where
  with_node : List ℕ
  with_node = take count nodes ++ node ∷ []

  once_more : HasNoNodeTwice (take count nodes ++ node ∷ [])
  once_more = all_pairs_push (λ u v. u ≢ v) (take count nodes) node are.once (λ k d below same.
      let has : Contains (take count nodes) node = subst (Contains (take count nodes)) same (contains_at (take count nodes) k d below) in
      false≢true (sym new ∙ are.each node has))

  within_more : All (λ v. v < length nodes) (take count nodes ++ node ∷ [])
  within_more = All-push (λ v. v < length nodes) (take count nodes) node are.within lt

  pub room_left : count < length nodes
  room_left = omega (arith, few_nodes (length nodes) (take count nodes ++ node ∷ []) once_more within_more, length-append (take count nodes) (node ∷ []), length-take-le count nodes are.enough)

  pub member_more : AreMembers (set marks node true) (set nodes count node) (count + 1)
  member_more =
      let long = length-set nodes count node in
      let listed : take (count + 1) (set nodes count node) ≡ take count nodes ++ node ∷ [] = take_more_set nodes count node room_left in
      let here : is_marked (set marks node true) node ≡ true = get_or-set_same marks node true false (omega (arith, lt, are.sized)) in
      record {
        sized = omega (arith, length-set marks node true, long, are.sized);
        enough = omega (arith, long, room_left);
        within = rw (listed, long) within_more;
        once = rw listed once_more;
        each = λ v has. elim (cases_eq v node) [
          | inl same ↦ rw same here
          | inr other ↦ elim (Contains-push_cases (take count nodes) node v (subst (λ l. Contains l v) listed has)) [
            | inl before ↦ get_or-set_other marks node v true false other ∙ are.each v before
            | inr same ↦ absurd (other (sym same))
          ]
        ];
        only = λ v marked. subst (λ l. Contains l v) (sym listed) (elim (cases_eq v node) [
          | inl same ↦ rw same (Contains-push (take count nodes) node)
          | inr other ↦ Contains-append_left (take count nodes) (node ∷ []) v (are.only v (sym (get_or-set_other marks node v true false other) ∙ marked))
        ]);
      }

  pub listed_more : (v : ℕ) → Contains (take (count + 1) (set nodes count node)) v ↔ (Contains (take count nodes) v ⊎ (v ≡ node))
  listed_more v =
      let listed : take (count + 1) (set nodes count node) ≡ take count nodes ++ node ∷ [] = take_more_set nodes count node room_left in (
        λ has. elim (Contains-push_cases (take count nodes) node v (subst (λ l. Contains l v) listed has)) [ inl before ↦ inl before | inr same ↦ inr (sym same) ],
        λ either. subst (λ l. Contains l v) (sym listed) (elim either [
          | inl before ↦ Contains-append_left (take count nodes) (node ∷ []) v before
          | inr same ↦ rw same (Contains-push (take count nodes) node)
        ]),
      )

pub listed_still : (marks : List Bool) (nodes : List ℕ) (count : ℕ) → AreMembers marks nodes count → (node : ℕ) → is_marked marks node ≡ true
    → (v : ℕ) → Contains (take count nodes) v ↔ (Contains (take count nodes) v ⊎ (v ≡ node))
listed_still marks nodes count are node marked v = (λ has. inl has, λ either. elim either [ inl has ↦ has | inr same ↦ rw same (are.only node marked) ])
