use Rattle.std.proofs.Common.{refl}
use Rattle.disp_model.specs.declared.fixing.Change.TheVariants.{Withdraw}
use Rattle.disp_model.specs.History.{edition_of}
use Rattle.search_tests.proofs.Running.{stale}
use Rattle.search_tests.proofs.tests.scenes.check_late.Goals as goal

pub check-requires-clause-may : goal.check-requires-clause-may
check-requires-clause-may g c =
    let core = c.taken-leaf.new.core in
    stale core c.step-told.new.core 0 2 (Withdraw 1) c.step-told.result (edition_of core.history) c.grown_newest-fragment.result c.step-told.ensures.run c.step-told.ensures.steps
    c.grown_newest-fragment.ensures.edition refl c.grown_newest-fragment.ensures.grown
