-- Counts of faults by name.
use Rattle.std.specs.Prelude.{◌≡◌, ℕ, ◌-◌, ◌^◌, ◌<◌, List, IsSomeAnd, true}
use Rattle.std.specs.Option.{option_map_or}
use Rattle.std.specs.BTreeMap.{get_by_text}
use Rattle.fault_counts.specs.FaultCount.{whole_count}
use Rattle.fault_counts.specs.declared.faults.FaultCounts.{FaultCounts}

-- the name is known
abbrev pub Knows : FaultCounts → List ℕ → Type 0
Knows faults name = IsSomeAnd (get_by_text faults.counts name) (λ count. count.is_known ≡ true)

-- a name's count, and 0 for a name without a place
abbrev pub fault_count : FaultCounts → List ℕ → ℕ
fault_count faults name = option_map_or whole_count (get_by_text faults.counts name) 0

-- the name has a place for a count that can rise in a call
abbrev pub HasRoom : FaultCounts → List ℕ → Type 0
HasRoom faults name = IsSomeAnd (get_by_text faults.counts name)
    (λ count. count.counted < 2 ^ 64 - 1)
