-- How readings ended, feed by feed.
use Rattle.std.proofs.Common.{
  ◌≡◌,
  ◌∙◌,
  ◌↔◌,
  ℕ,
  zero,
  suc,
  ◌<◌,
  List,
  [],
  ◌∷◌,
  Any,
  Contains,
  length,
  map,
  slice_index_or,
  refl,
  ap,
  subst,
  arith,
}
use Rattle.std.proofs.lemmas.List.{length-map}
use Rattle.feed_reader.specs.declared.read.Reading.{Reading as ReadingOf}
use Rattle.feed_runs.specs.declared.reader.Reader.{Reader}

module _ {F : Type 0} where
  abbrev ends : List (Reader F) → List ReadingOf
  ends readers = map (λ r. r.reading) readers

  reading_at : (readers : List (Reader F)) (k : ℕ) (d : Reader F)
      → slice_index_or (ends readers) k d.reading ≡ (slice_index_or readers k d).reading
  reading_at [] k d = refl
  reading_at (first ∷ rest) zero d = refl
  reading_at (first ∷ rest) (suc k) d = reading_at rest k d

  reader_at : (readers : List (Reader F)) (k : ℕ) (one : ReadingOf) → k < length (ends readers)
      → slice_index_or (ends readers) k one ≡ one
      → Any (λ r. r.reading ≡ one) readers
  reader_at [] k one within is = absurd (omega (arith, within))
  reader_at (first ∷ rest) zero one within is = (0, first, omega arith, refl, is)
  reader_at (first ∷ rest) (suc k) one within is =
      let a = reader_at rest k one (omega (arith, within)) is in
      (suc a.0, a.1, omega (arith, a.2), a.3, a.4)

  -- some reader's reading ended so, exactly where this is one of the ends
  pub any_reading : (readers : List (Reader F)) (one : ReadingOf)
      → Any (λ r. r.reading ≡ one) readers ↔ Contains (ends readers) one
  any_reading readers one = (
    λ any. subst (Contains (ends readers)) any.4 (
      any.0,
      let n = length-map readers (λ (r : Reader F). r.reading) in omega (arith, any.2, n),
      reading_at readers any.0 any.1 ∙ ap (λ (r : Reader F). r.reading) any.3,
    ),
    λ there. reader_at readers there.0 one there.1 there.2,
  )
