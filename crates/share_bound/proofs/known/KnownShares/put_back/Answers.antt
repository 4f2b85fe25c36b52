use Rattle.share_bound.proofs.Knowing.{none_above, back_holds, some_holds, same_length}
use Rattle.share_bound.proofs.known.KnownShares.put_back.Goals as goal

pub returns-in-Some : goal.returns-in-Some
returns-in-Some c = λ node hold aside.
    let old = c.args.self.now in
    let new = c.put-old.new.self in
    let u = c.in-Some.train in
    back_holds node c.args.decision old new u c.args.aside c.in-Some.ensures.0
    c.in-Some.ensures.1 c.put-old.ensures.new
    (same_length old.each.items new.each.items u c.args.aside c.put-old.ensures.new) hold
    (some_holds node u c.args.aside (aside u c.in-Some.ensures.1))

pub returns-in_default : goal.returns-in_default
returns-in_default c = λ node hold _.
    none_above node c.args.decision c.args.self.now c.in_default.ensures hold
