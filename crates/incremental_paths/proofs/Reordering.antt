-- Arcs rise with one more, or it closes a cycle.
use Rattle.std.proofs.Common.{◌≡◌, ℕ, ◌<◌, ◌≤◌, Bool, true, false, List, [], ◌∷◌, ◌++◌, length, get_or, refl, sym, arith}
use Rattle.std.proofs.lemmas.List.Elements.{All-push, All-contains, Contains-push, Contains-append_left}
use Rattle.incremental_paths.specs.declared.arc.Arc.{Arc}
use Rattle.incremental_paths.specs.Walks.{ArcsHaveCycle, last_node_from}
use Rattle.incremental_paths.specs.Ordered.{is_marked, IsLifted}
use Rattle.incremental_paths.specs.Marked.{AreRising, AreMarks, AreWithin}
use Rattle.incremental_paths.proofs.Members.{IsPart, joined}
use Rattle.incremental_paths.proofs.Walking.{Follows_part, no_cycle}
use Rattle.incremental_paths.proofs.WaysBack.{way_back}
use Rattle.incremental_paths.proofs.Tracing.{no_way}

pub rising_more : (arcs : List Arc) (places : List ℕ) (a : Arc) → AreRising arcs places → get_or places a.from 0 < get_or places a.to 0 → AreRising (arcs ++ a ∷ []) places
rising_more arcs places a rising up = All-push (λ (z : Arc). get_or places z.from 0 < get_or places z.to 0) arcs a rising up

pub rising_free : (arcs : List Arc) (places : List ℕ) → AreRising arcs places → ArcsHaveCycle arcs → ⊥
rising_free arcs places rising = no_cycle arcs (λ v. get_or places v 0) (λ a c. All-contains (λ (z : Arc). get_or places z.from 0 < get_or places z.to 0) arcs a rising c)

module _ (arcs : List Arc) (places : List ℕ) (rising : AreRising arcs places) (a : Arc) (marks : List Bool) (are : AreMarks arcs places a.to (get_or places a.from 0) marks) where
  -- where the beginning is marked, the arc closes a cycle
  pub closes : is_marked marks a.from ≡ true → ArcsHaveCycle (arcs ++ a ∷ [])
  closes m =
      let h = are.sound a.from m in
      let part : IsPart arcs (arcs ++ a ∷ []) = λ b c. Contains-append_left arcs (a ∷ []) b c in (
        a.to ∷ h.0,
        (
          Follows_part arcs (arcs ++ a ∷ []) part a.to h.0 h.1,
          joined (arcs ++ a ∷ []) a (last_node_from a.to h.0) a.to (Contains-push arcs a) (sym h.2) refl,
        ),
      )

  pub closes_none : is_marked marks a.from ≡ false → ArcsHaveCycle (arcs ++ a ∷ []) → ⊥
  closes_none free c = way_back arcs a (rising_free arcs places rising) c (no_way arcs places rising a.to (get_or places a.from 0) marks are a.from free (omega arith))

  pub rising_lifted : (new : List ℕ) → AreWithin (length places) arcs → a.from < length places → a.to < length places → is_marked marks a.from ≡ false → get_or places a.to 0 ≤ get_or places a.from 0
      → IsLifted marks (get_or places a.to 0) (get_or places a.from 0) places new → AreRising (arcs ++ a ∷ []) new
  rising_lifted new within from to free low lifted =
      rising_more arcs new a (λ k d lt.
      let up = rising k d lt in
      lifted.kept (get_or arcs k d).from (get_or arcs k d).to (within k d lt).0 (within k d lt).1 up (λ l h m. are.closed k d lt m (omega (arith, up, h))))
      (lifted.lifted a.from a.to from to free are.started low (omega arith) (omega arith) low)
