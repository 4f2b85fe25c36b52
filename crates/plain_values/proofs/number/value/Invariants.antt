-- the number of the digits so far
use Rattle.std.proofs.Common.{◌≡◌, ◌≤◌, take}
use Rattle.plain_values.specs.Decimal.{value_of}
use Rattle.plain_values.proofs.number.value.Given as goal

abbrev pub invariant-loop-byte : goal.invariant-loop-byte
invariant-loop-byte l = (l.number ≡ value_of (take l.byte-index l.bytes)) × (l.number ≤ l.most)
