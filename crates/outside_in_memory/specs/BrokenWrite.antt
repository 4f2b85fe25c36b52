-- Writes that are to break.
use Rattle.std.specs.Prelude.{ℕ, List, Option, ◌==◌, find}
use Rattle.std.specs.Option.{option_map}
use Rattle.outside_in_memory.specs.declared.broken_write.BrokenWrite.{BrokenWrite}

-- how many bytes go out in the call of this number before it breaks, if it is to break: the first
-- of its entries says
abbrev pub sent_by : List BrokenWrite → ℕ → Option ℕ
sent_by broken call = option_map (λ entry. entry.sent) (find (λ entry. entry.call == call) broken)
