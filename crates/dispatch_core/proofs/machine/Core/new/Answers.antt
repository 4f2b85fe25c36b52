use Rattle.std.proofs.Common.{ap}
use Rattle.fixing_editions.specs.Edition.{Edition}
use Rattle.dispatch_core.proofs.Beginning.{first_kept, first_sound}
use Rattle.dispatch_core.proofs.machine.Core.new.Goals as goal

pub invariant_of-result : goal.invariant_of-result
invariant_of-result c =
    let editions = c.in_ok-new.field-0 in
    let ended = c.in_ok-flags.field-0.items in
    let left = c.in_ok-flags-2.field-0.items in
    rw (c.new-2.ensures.items, c.in_ok-new-2.ensures) (
      first_kept editions c.args.settings ended left (ap (λ (e : Edition). e.changes) c.in_ok-new.ensures),
      first_sound editions.problem c.args.settings ended left,
    )
