use Rattle.std.proofs.Common.{◌≡◌, ◌∙◌, sym, subst}
use Rattle.std.specs.Prelude.{IfOk}
use Rattle.disp_model.specs.History.{edition_of}
use Rattle.search_workers.proofs.Rooted.{root_edition}
use Rattle.search_tests.proofs.tests.script.grown_newest.Goals as goal

pub grown-requires : goal.grown-requires
grown-requires g c =
    let core = c.args.core.now in
    let stand = subst (λ r. IfOk r (λ f. f.items ≡ edition_of core.history)) c.expect-fixings.ensures c.fixings.ensures in
    record { edition = root_edition core c.edition.ensures.sound c.problem.result.now (sym c.problem.ensures) c.as_slice.result.now (c.as_slice.ensures.value ∙ stand) }
