-- What the private fields of `Threads` keep true.
use Rattle.std.specs.Prelude.{ℕ, ◌<◌, List, map, length, slice_index, slice_index_or}
use Rattle.incremental_paths.specs.declared.threads.Link.{Link}
use Rattle.incremental_paths.specs.Threaded.{IsFront}

abbrev pub keys_of : List Link → List ℕ
keys_of links = map (λ l. l.node) links

pub record AreLinked (fronts : List ℕ) (links : List Link) : Type 0 where
  pub within : (k : ℕ) → k < length links → slice_index (keys_of links) k < length fronts
  pub lasts : (v : ℕ) → v < length fronts → IsFront (keys_of links) (length links) v
      (slice_index fronts v)
  pub befores : (k : ℕ) (d : Link) → k < length links
      → IsFront (keys_of links) k (slice_index (keys_of links) k) (slice_index_or links k d).before
