use Rattle.std.proofs.Common.{ap, arith}
use Rattle.incremental_paths.specs.Spread.{Told}
use Rattle.incremental_paths.proofs.KeptFields.{kept_new}
use Rattle.incremental_paths.proofs.ordered.OrderedPaths.new.Goals as goal

pub invariant_of-result : goal.invariant_of-result
invariant_of-result c =
    rw (c.in_ok-from_slice.ensures.items, c.new.ensures.items, c.in_ok-from_slice-2.ensures.items, c.new-7.ensures.items, c.new-8.ensures.items)
    (kept_new c.args.lowers.now c.in_ok-new-3.field-0 c.in_ok-new-4.field-0 c.in_ok-new.field-0 c.in_ok-new-2.field-0 c.in_ok-new-5.field-0.grown.size (ap (λ (t : Told). t.grown.size) c.in_ok-new-5.ensures) c.requires (λ v. omega (arith, c.type_inv.lowers v)) c.in_ok-new-3.ensures c.in_ok-new-4.ensures c.in_ok-new.ensures c.in_ok-new-2.ensures, tt)
