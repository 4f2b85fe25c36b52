use Rattle.std.proofs.Common.{◌≡◌, ◌<◌, ◌∙◌, length, get_or, false, sym, arith}
use Rattle.std.proofs.lemmas.Bool.{false≢true}
use Rattle.std.proofs.lemmas.List.{get_or_read}
use Rattle.train_orders.proofs.Stepping.{first_step}
use Rattle.train_orders.proofs.order.visit.Goals as goal

pub finish-requires-clause-searches : goal.finish-requires-clause-searches
finish-requires-clause-searches c =
    let search = c.args.search.now in
    let within : c.args.start < length search.opened.items = omega (arith, c.requires.start, c.requires.searches.opened_long) in
    let closed : get_or search.opened.items c.args.start false ≡ false = sym (get_or_read search.opened.items c.args.start c.index.result.now within c.index.ensures false) ∙ c.if-index.false in
    first_step c.args.train.now search c.open.new.search c.args.start c.requires.searches c.requires.empty c.requires.start (λ is. false≢true (sym closed ∙ is)) c.in_ok-open.ensures
