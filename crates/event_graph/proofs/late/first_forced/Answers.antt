use Rattle.std.proofs.Common.{Bool, true, false, ◌≡◌, ◌∙◌, inl, inr, sym, ap, subst, arith}
use Rattle.std.specs.Prelude.{slice_get}
use Rattle.std.proofs.lemmas.Bool.{cases_lt}
use Rattle.std.proofs.lemmas.Option.{same_Some, slice_get-get_or, slice_get_within}
use Rattle.std.proofs.lemmas.List.Elements.{Contains-get_or}
use Rattle.disp_model.specs.Node.{node_at}
use Rattle.disp_model.specs.Routes.{IsForced}
use Rattle.train_orders.proofs.Places.{at_contains}
use Rattle.event_graph.proofs.late.first_forced.Goals as goal

true_not_false : {b : Bool} → b ≡ true → b ≡ false → ⊥
true_not_false is is_not = cc

pub returns-then-is_forced : goal.returns-then-is_forced
returns-then-is_forced c fixings decisions placed = (Contains-get_or c.args.ops.now c.loop-op.op-index _ c.loop-op-test.true, (c.is_forced.ensures fixings decisions placed).0 c.if-is_forced.true)

pub loop-op-preserved : goal.loop-op-preserved
loop-op-preserved c fixings decisions placed k o lt at forced = elim (cases_lt k c.loop-op.op-index) [
  | inl before ↦ c.loop-op.invariant fixings decisions placed k o before at forced
  | inr from ↦
      let last : k ≡ c.loop-op.op-index = omega (arith, from, lt) in
      let same = same_Some _ o (sym (slice_get-get_or c.args.ops.now c.loop-op.op-index (record { train = 0; op = 0 }) c.loop-op-test.true) ∙ ap (slice_get c.args.ops.now) (sym last) ∙ at) in
      absurd (true_not_false ((c.is_forced.ensures fixings decisions placed).1 (subst (IsForced (node_at c.args.problem.now fixings decisions)) (sym same) forced)) c.if-is_forced.false)
]

pub returns : goal.returns
returns c fixings decisions placed o has forced =
    let place = at_contains c.args.ops.now o has in
    c.loop-op.invariant fixings decisions placed place.0 o (omega (arith, slice_get_within c.args.ops.now place.0 o place.1, c.loop-op-test.false)) place.1 forced
