use Rattle.std.proofs.Common.{◌≡◌, ◌+◌, ◌-◌, ◌++◌, ℕ, subst, arith}
use Rattle.std.proofs.lemmas.Option.{slice_get-get_or}
use Rattle.event_arcs.specs.Chained.{IsChained}
use Rattle.event_arcs.proofs.Joining.{chain_done}
use Rattle.event_arcs.proofs.chains.chain.Goals as goal

pub loop-place-preserved : goal.loop-place-preserved
loop-place-preserved c =
    let order = c.args.order.now in
    let place = c.loop-place.place - 1 in
    let above : c.loop-place.place ≡ place + 1 = omega (arith, c.loop-place-test.true) in
    record {
      within = omega (arith, c.loop-place.invariant.within);
      fits = c.in_ok-last.ensures.fits;
      chained = λ node t given by_old is.
          c.in_ok-last.ensures.chained node t order place given (given ++ c.args.arcs.now.items) by_old is (slice_get-get_or order place 0 (omega (arith, c.loop-place.invariant.within, c.loop-place-test.true)))
          (subst (λ (n : ℕ). IsChained node t order n (given ++ c.args.arcs.now.items) (given ++ c.loop-place.arcs.items) c.loop-place.last) above (c.loop-place.invariant.chained node t given by_old is));
    }

pub returns : goal.returns
returns c = λ node t given by_old is.
    chain_done node t c.args.routes.now c.args.order.now c.args.first c.loop-place.place (given ++ c.args.arcs.now.items) (given ++ c.loop-place.arcs.items) c.loop-place.last is c.loop-place-test.false (c.loop-place.invariant.chained node t given by_old is)
