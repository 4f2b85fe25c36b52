use Rattle.std.proofs.Common.{◌≡◌, ℕ, length, subst, arith}
use Rattle.branch_rules.specs.Behind.{IsFirstFrom}
use Rattle.branch_rules.proofs.Looking.{from_none, first_is}
use Rattle.branch_rules.proofs.sweep.first_clash.Goals as goal

pub loop-place-init : goal.loop-place-init
loop-place-init c = record {
  within = omega arith;
  behind = c.in_ok-behind.ensures c.args.events.now;
  first = from_none c.args.problem.now c.args.events.now (length c.args.events.now) (omega arith);
}

pub returns : goal.returns
returns c =
    let none : c.loop-place.place ≡ 0 = omega (arith, c.loop-place-test.false) in
    first_is c.args.problem.now c.args.events.now c.loop-place.first (subst (λ (n : ℕ). IsFirstFrom c.args.problem.now c.args.events.now n c.loop-place.first) none c.loop-place.invariant.first)
