use Rattle.std.proofs.Common.{rules, refl, arith}
use Rattle.std.specs.Prelude.{nat_lt}
use Rattle.turn_lock.proofs.turns.run_on.Goals as goal

pub returns : goal.returns
returns g c =
    let after = c.section-answer.new.arg2 in
    record {
      ran = (
        _,
        after,
        c.in-Some.is,
        refl,
        search rules,
        (λ i. nat_lt (c.count-before.ensures i) (c.count.ensures i)),
        (let n = c.count.ensures in let m = c.count.type_inv in omega arith),
      );
    }
