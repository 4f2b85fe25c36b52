use Rattle.std.proofs.Common.{rules}
use Rattle.event_windows.proofs.Fixing.{times_free}
use Rattle.event_windows.proofs.times.times_of.Goals as goal

pub note_all-requires-clause-free : goal.note_all-requires-clause-free
note_all-requires-clause-free c = times_free c.args.problem.now c.args.count c.deref_mut.result.now c.requires (search rules)
