use Rattle.std.proofs.Common.{◌≡◌, ℕ, ◌+◌, ◌∙◌, ◌++◌, ◌∷◌, [], length, refl, ap, sym, subst, arith}
use Rattle.std.proofs.lemmas.List.{length-append}
use Rattle.std.proofs.lemmas.Option.{slice_get_read}
use Rattle.text_puts.proofs.Counting.{same_all}
use Rattle.dispatch_cli.proofs.Opening.{stops_more, opened_more, known_more, read_at}
use Rattle.dispatch_cli.proofs.feeds.open_each.Goals as goal

pub returns-in-Err-clause-no : goal.returns-in-Err-clause-no
returns-in-Err-clause-no g c =
    let inv = c.loop-name.invariant in let names = c.args.names.now in
    let is = read_at names c.loop-name.name-index c.name-item.result c.as_str.result.now c.name-item.is c.as_str.ensures in
    stops_more names c.loop-name.name-index c.as_str.result.now c.loop-name.number _ _ _ c.in-Err.no
    (slice_get_read names (length names) c.loop-name.name-index c.as_str.result.now refl c.loop-name-test.true is) inv.number inv.quiet c.open_next.ensures.others
    c.in-Err.ensures.no

pub loop-name-preserved : goal.loop-name-preserved
loop-name-preserved g c =
    let inv = c.loop-name.invariant in let names = c.args.names.now in let one = c.as_str.result.now in
    let is = read_at names c.loop-name.name-index c.name-item.result one c.name-item.is c.as_str.ensures in
    record {
      number = ap (λ (n : ℕ). n + 1) inv.number;
      opened = opened_more g.S.Feed.Feed.name g.S.Feed.Feed.lines g.S.Feed.Feed.has_ended g.S.Feed.Feed.faults (g.S.Shelf.state c.args.shelf.now).holds
          (g.S.Shelf.state c.loop-name.shelf).holds names c.loop-name.name-index one _ _ c.loop-name-test.true is inv.held inv.opened c.in-Ok.ensures.ok;
      known = known_more g.S.Feed.Feed.name g.S.Feed.Feed.lines g.S.Feed.Feed.has_ended g.S.Feed.Feed.faults (g.S.Shelf.knows c.loop-name.shelf)
          (g.S.Shelf.knows c.open_next.new.shelf) (g.S.Shelf.state c.loop-name.shelf).holds one _ _ c.open_next.ensures.still c.in-Ok.ensures.known inv.known c.in-Ok.ensures.ok;
      quiet = λ name. same_all one _ _ c.in-Ok.ensures.quiet c.open_next.ensures.others name ∙ inv.quiet name;
      puttings = λ name. c.open_next.ensures.puttings name ∙ inv.puttings name;
      are_open =
          let before = inv.are_open in let more = c.in-Ok.ensures.opened in
          let longer : length c.open_next.new.feeds.items ≡ length c.loop-name.feeds.items + 1 =
          ap (λ l. length l) c.in-Ok.ensures.ok.is ∙ length-append c.loop-name.feeds.items (c.in-Ok.ensures.ok.feed ∷ []) in
          omega (arith, before, more, longer);
      held = λ name. c.open_next.ensures.held name ∙ inv.held name;
    }

pub returns-in-Err-clause-opened : goal.returns-in-Err-clause-opened
returns-in-Err-clause-opened g c =
    subst (λ l. g.S.Shelf.open_feeds c.open_next.new.shelf ≡ g.S.Shelf.open_feeds c.args.shelf.now + length l) (sym c.in-Err.ensures.same)
    (c.in-Err.ensures.unopened ∙ c.loop-name.invariant.are_open)
