-- The count of one name.
use Rattle.std.specs.Prelude.{ℕ, ◌+◌}
use Rattle.fault_counts.specs.Chain.{chain_length}
use Rattle.fault_counts.specs.declared.faults.FaultCount.{FaultCount}

-- what was counted in calls, and what closed feeds have brought
abbrev pub whole_count : FaultCount → ℕ
whole_count count = count.counted + chain_length count.closed
