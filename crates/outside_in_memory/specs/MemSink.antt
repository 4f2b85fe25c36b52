-- A sink in memory, some of whose writes break.
use Rattle.std.specs.Prelude.{ℕ, ◌+◌, List, Option}
use Rattle.outside_in_memory.specs.declared.broken_write.BrokenWrite.{BrokenWrite}
use Rattle.outside_in_memory.specs.declared.mem_sink.MemSink.{MemSink}
use Rattle.outside_in_memory.specs.BrokenWrite.{sent_by}

-- what was written
abbrev pub written_bytes : MemSink → List ℕ
written_bytes sink = sink.written.items

-- how many writes have failed
abbrev pub sink_fault_count : MemSink → ℕ
sink_fault_count sink = sink.faults

-- how many writes were called, but for those without room
abbrev pub call_count : MemSink → ℕ
call_count sink = sink.calls

-- which writes are to break
abbrev pub broken_writes : MemSink → List BrokenWrite
broken_writes sink = sink.broken.items

-- how many bytes go out in the next call before it breaks, if it is to break
abbrev pub next_break : MemSink → Option ℕ
next_break sink = sent_by (broken_writes sink) (call_count sink + 1)
