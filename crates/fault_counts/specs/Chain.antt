-- A count that rises without new memory.
use Rattle.std.specs.Prelude.{ℕ, ◌+◌}
use Rattle.fault_counts.specs.declared.chain.Chain.{Chain}
use Rattle.fault_counts.specs.declared.chain.Chain.TheVariants.{Empty, Link'}

-- how many links the chain has
abbrev pub chain_length : Chain → ℕ
chain_length Empty = 0
chain_length (Link' _ rest) = chain_length rest + 1
