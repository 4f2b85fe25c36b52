use Rattle.std.proofs.Common.{◌∙◌, Some, sym, ap}
use Rattle.std.proofs.lemmas.Option.{slice_get-get_or}
use Rattle.share_bound.proofs.known.place_of.Goals as goal

pub returns-then-is_current : goal.returns-then-is_current
returns-then-is_current c =
    let one = c.index-shares-place.result in
    record {
      there = c.loop-place-test.true;
      one = one;
      one_is = slice_get-get_or c.args.shares.now c.loop-place.place one c.loop-place-test.true
          ∙ ap Some (sym c.index-shares-place.is);
      bases = c.is_current.ensures c.if-is_current.true;
    }
