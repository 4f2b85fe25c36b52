-- The nodes whose lengths are told to have grown are those that have a longer walk than before.
use Rattle.std.proofs.Common.{◌≡◌, ℕ, ◌<◌, List, [], ◌∷◌, inl, inr, length, get_or, sym, ◌∙◌, subst, arith, Contains}
use Rattle.std.proofs.lemmas.Bool.{cases_lt}
use Rattle.std.proofs.lemmas.List.{get_or_past}
use Rattle.std.proofs.lemmas.List.Elements.{All-nil, All-contains}
use Rattle.incremental_paths.specs.declared.arc.Arc.{Arc}
use Rattle.incremental_paths.specs.Walks.{IsWalkTo, FollowsArcs, last_node_from, IsLongestLength, ArcsHaveCycle}
use Rattle.incremental_paths.specs.Marked.{AreWithin}
use Rattle.incremental_paths.specs.Network.{Network, TellsChanged, IsNode}
use Rattle.incremental_paths.specs.Spread.{AreLengths, Told, TellsMore, nothing_told}
use Rattle.incremental_paths.proofs.Members.{Contains-nil, joining}
use Rattle.incremental_paths.proofs.Pairs.{contains_at}
use Rattle.incremental_paths.proofs.Bounds.{walks_once}

-- a node has one length
pub longest_unique : (lowers : List ℕ) (arcs : List Arc) (v x y : ℕ) → IsLongestLength lowers arcs v x → IsLongestLength lowers arcs v y → x ≡ y
longest_unique lowers arcs v x y p q =
    let a = p.reached in
    let b = q.reached in
    omega (arith, q.greatest a.0 a.1 a.2, a.3, p.greatest b.0 b.1 b.2, b.3)

last_within : (n : ℕ) (arcs : List Arc) → AreWithin n arcs → (u : ℕ) (rest : List ℕ) → u < n → FollowsArcs arcs u rest → last_node_from u rest < n
last_within n arcs within u [] lt f = lt
last_within n arcs within u (v ∷ rest) lt f =
    let a = joining arcs u v f.0 in
    let ends = All-contains (λ (z : Arc). (z.from < n) × (z.to < n)) arcs a.0 within a.1 in
    last_within n arcs within v rest (omega (arith, ends.1, a.3)) f.1

walk_within : (lowers : List ℕ) (arcs : List Arc) → AreWithin (length lowers) arcs → (v : ℕ) (nodes : List ℕ) → IsWalkTo lowers arcs v nodes → v < length lowers
walk_within lowers arcs within v [] walk = absurd walk
walk_within lowers arcs within v (u ∷ rest) walk = omega (arith, walk.2, last_within (length lowers) arcs within u rest walk.0 walk.1)

-- only nodes have lengths
pub longest_within : (lowers : List ℕ) (arcs : List Arc) → AreWithin (length lowers) arcs → (v longest : ℕ) → IsLongestLength lowers arcs v longest → v < length lowers
longest_within lowers arcs within v longest is = walk_within lowers arcs within v is.reached.0 is.reached.1

pub longest_kept : (lowers : List ℕ) (arcs : List Arc) (lengths : List ℕ) → AreLengths lowers arcs lengths → (ArcsHaveCycle arcs → ⊥) → (v : ℕ) → v < length lowers → IsLongestLength lowers arcs v (get_or lengths v 0)
longest_kept lowers arcs lengths are none v lt =
    let h = are.reached v lt in
    record {
      reached = (h.0, h.1, walks_once arcs none lowers v h.0 h.1, h.2);
      greatest = λ nodes walk once. are.greatest v nodes walk;
    }

module _ (lowers : List ℕ) (arcs : List Arc) (lengths : List ℕ) (are : AreLengths lowers arcs lengths) (acyclic : ArcsHaveCycle arcs → ⊥) (within : AreWithin (length lowers) arcs)
    (new_lowers : List ℕ) (new_arcs : List Arc) (new_lengths : List ℕ) (new_are : AreLengths new_lowers new_arcs new_lengths) (new_acyclic : ArcsHaveCycle new_arcs → ⊥) (new_within : AreWithin (length new_lowers) new_arcs)
    (as_many : length new_lowers ≡ length lowers) (sized : length lengths ≡ length lowers) (room : ℕ) (told : Told) (tells : TellsMore (nothing_told room) told lengths new_lengths) where
  old_is : (v longest : ℕ) → IsLongestLength lowers arcs v longest → (v < length lowers) × (longest ≡ get_or lengths v 0)
  old_is v longest is =
      let lt = longest_within lowers arcs within v longest is in
      (lt, longest_unique lowers arcs v longest (get_or lengths v 0) is (longest_kept lowers arcs lengths are acyclic v lt))

  new_is : (v longest : ℕ) → IsLongestLength new_lowers new_arcs v longest → (v < length new_lowers) × (longest ≡ get_or new_lengths v 0)
  new_is v longest is =
      let lt = longest_within new_lowers new_arcs new_within v longest is in
      (lt, longest_unique new_lowers new_arcs v longest (get_or new_lengths v 0) is (longest_kept new_lowers new_arcs new_lengths new_are new_acyclic v lt))

  longer : (v : ℕ) → Contains told.grown.listed v → get_or lengths v 0 < get_or new_lengths v 0
  longer v has = elim (tells.only_grown v has) [ inl none ↦ absurd (Contains-nil v none) | inr more ↦ more ]

  node : (v : ℕ) → Contains told.grown.listed v → v < length new_lowers
  node v has = elim (cases_lt v (length new_lowers)) [
    | inl lt ↦ lt
    | inr le ↦ absurd (omega (arith, longer v has, get_or_past new_lengths v 0 (omega (arith, le, as_many, sized, tells.sized))))
  ]

  same : (v : ℕ) → (Contains told.grown.listed v → ⊥) → get_or lengths v 0 ≡ get_or new_lengths v 0
  same v none = elim (cases_lt (get_or lengths v 0) (get_or new_lengths v 0)) [
    | inl less ↦ absurd (none (tells.all_grown v less))
    | inr le ↦ omega (arith, le, tells.grows v)
  ]

  pub changed_told : (before : List ℕ) → TellsChanged (record { lowers = lowers; arcs = arcs; changed = before }) (record { lowers = new_lowers; arcs = new_arcs; changed = told.grown.listed })
  changed_told before = record {
    nodes = λ k d lt. node (get_or told.grown.listed k d) (contains_at told.grown.listed k d lt);
    grew = λ v x y has old new. omega (arith, longer v has, (old_is v x old).1, (new_is v y new).1);
    kept = λ v x none. (
      λ old.
          let is = old_is v x old in
          subst (IsLongestLength new_lowers new_arcs v) (sym (is.1 ∙ same v none)) (longest_kept new_lowers new_arcs new_lengths new_are new_acyclic v (omega (arith, is.0, as_many))),
      λ new.
          let is = new_is v x new in
          subst (IsLongestLength lowers arcs v) (sym (is.1 ∙ sym (same v none))) (longest_kept lowers arcs lengths are acyclic v (omega (arith, is.0, as_many))),
    );
  }

-- where nothing changes, no node does
pub changed_none : (old new : Network) → new.lowers ≡ old.lowers → new.arcs ≡ old.arcs → new.changed ≡ [] → TellsChanged old new
changed_none old new lowers arcs none = record {
  nodes = rw none (All-nil (IsNode new));
  grew = λ v x y has before after. absurd (Contains-nil v (subst (λ l. Contains l v) none has));
  kept = λ v x free. (
    λ is. subst (λ l. IsLongestLength l new.arcs v x) (sym lowers) (subst (λ a. IsLongestLength old.lowers a v x) (sym arcs) is),
    λ is. subst (λ l. IsLongestLength l old.arcs v x) lowers (subst (λ a. IsLongestLength new.lowers a v x) arcs is),
  );
}
