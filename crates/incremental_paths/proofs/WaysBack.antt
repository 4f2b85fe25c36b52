-- With one arc more, a cycle is one of the old arcs, or there is a way back from the end of the arc to its beginning.
use Rattle.std.proofs.Common.{◌≡◌, ℕ, List, [], ◌∷◌, ◌++◌, ◌⊎◌, inl, inr, refl, sym, ap, ◌∙◌, subst}
use Rattle.std.proofs.lemmas.List.Elements.{Contains-push_cases}
use Rattle.incremental_paths.specs.declared.arc.Arc.{Arc}
use Rattle.incremental_paths.specs.Walks.{JoinsPair, FollowsArcs, last_node_from, Leads, IsArcCycle, ArcsHaveCycle}
use Rattle.incremental_paths.proofs.Members.{joined, joining}

-- there is a way from u to v
abbrev pub HasWay : List Arc → ℕ → ℕ → Type 0
HasWay arcs u v = (rest : List ℕ) × FollowsArcs arcs u rest × (last_node_from u rest ≡ v)

pub follows_append : (arcs : List Arc) (u : ℕ) (xs ys : List ℕ) → FollowsArcs arcs u xs → FollowsArcs arcs (last_node_from u xs) ys → FollowsArcs arcs u (xs ++ ys)
follows_append arcs u [] ys f g = g
follows_append arcs u (x ∷ xs) ys f g = (f.0, follows_append arcs x xs ys f.1 g)

pub last_append : (u : ℕ) (xs ys : List ℕ) → last_node_from u (xs ++ ys) ≡ last_node_from (last_node_from u xs) ys
last_append u [] ys = refl
last_append u (x ∷ xs) ys = last_append x xs ys

way_append : (arcs : List Arc) (u v w : ℕ) → HasWay arcs u v → HasWay arcs v w → HasWay arcs u w
way_append arcs u v w p q =
    (p.0 ++ q.0, follows_append arcs u p.0 q.0 p.1 (subst (λ z. FollowsArcs arcs z q.0) (sym p.2) q.1), last_append u p.0 q.0 ∙ ap (λ z. last_node_from z q.0) p.2 ∙ q.2)

module _ (arcs : List Arc) (new : Arc) where
  joined_cases : (u v : ℕ) → JoinsPair (arcs ++ new ∷ []) u v → JoinsPair arcs u v ⊎ ((new.from ≡ u) × (new.to ≡ v))
  joined_cases u v j =
      let a = joining (arcs ++ new ∷ []) u v j in
      elim (Contains-push_cases arcs new a.0 a.1) [
        | inl old ↦ inl (joined arcs a.0 u v old a.2 a.3)
        | inr e ↦ inr (ap (λ z. z.from) e ∙ a.2, ap (λ z. z.to) e ∙ a.3)
      ]

  -- steps are all along old arcs, or come to the new one, and go on from its end
  split_at_new : (u : ℕ) (rest : List ℕ) → FollowsArcs (arcs ++ new ∷ []) u rest → FollowsArcs arcs u rest ⊎ (HasWay arcs u new.from × HasWay arcs new.to (last_node_from u rest))
  split_at_new u [] f = inl tt
  split_at_new u (v ∷ rest) f =
      elim (joined_cases u v f.0) [
        | inl old ↦ elim (split_at_new v rest f.1) [
          | inl all ↦ inl (old, all)
          | inr p ↦ inr ((v ∷ p.0.0, (old, p.0.1), p.0.2), p.1)
        ]
        | inr e ↦ elim (split_at_new v rest f.1) [
          | inl all ↦ inr (([], tt, sym e.0), (rest, subst (λ z. FollowsArcs arcs z rest) (sym e.1) all, ap (λ z. last_node_from z rest) e.1))
          | inr p ↦ inr (([], tt, sym e.0), p.1)
        ]
      ]

  way_back_at : (nodes : List ℕ) → IsArcCycle (arcs ++ new ∷ []) nodes → ArcsHaveCycle arcs ⊎ HasWay arcs new.to new.from
  way_back_at [] c = absurd c
  way_back_at (u ∷ rest) c =
      elim (split_at_new u rest c.0) [
        | inl all ↦ elim (joined_cases (last_node_from u rest) u c.1) [
          | inl old ↦ inl (u ∷ rest, (all, old))
          | inr e ↦ inr (rest, subst (λ z. FollowsArcs arcs z rest) (sym e.1) all, ap (λ z. last_node_from z rest) e.1 ∙ sym e.0)
        ]
        | inr p ↦ elim (joined_cases (last_node_from u rest) u c.1) [
          | inl old ↦ inr (way_append arcs new.to (last_node_from u rest) new.from p.1 (way_append arcs (last_node_from u rest) u new.from (u ∷ [], (old, tt), refl) p.0))
          | inr e ↦ inr (p.1.0, p.1.1, p.1.2 ∙ sym e.0)
        ]
      ]

  pub way_back : (ArcsHaveCycle arcs → ⊥) → ArcsHaveCycle (arcs ++ new ∷ []) → ((way : List ℕ) → Leads arcs new.to new.from way → ⊥) → ⊥
  way_back no_cycle c no_way =
      elim (way_back_at c.0 c.1) [
        | inl old ↦ no_cycle old
        | inr w ↦ no_way (new.to ∷ w.0) (refl, w.1, w.2)
      ]
