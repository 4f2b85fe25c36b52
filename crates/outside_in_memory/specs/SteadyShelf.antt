-- Files in memory whose readings never fail.
use Rattle.std.specs.Prelude.{ℕ, List, []}
use Rattle.std.specs.Option.{option_map_or}
use Rattle.std.specs.BTreeMap.{get_by_text}
use Rattle.outside_in_memory.specs.declared.steady_shelf.SteadyShelf.{SteadyShelf}

-- what the name's file holds, and nothing where none was placed
abbrev pub held_bytes : SteadyShelf → List ℕ → List ℕ
held_bytes shelf name = option_map_or (λ file. file.items) (get_by_text shelf.files name) []

-- how many of its feeds are open
abbrev pub steady_open_count : SteadyShelf → ℕ
steady_open_count shelf = shelf.open_feeds
