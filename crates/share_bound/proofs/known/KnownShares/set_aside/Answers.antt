use Rattle.std.proofs.Common.{None}
use Rattle.std.proofs.lemmas.Option.{none-some}
use Rattle.share_bound.proofs.Knowing.{none_below, about_none, put_holds, same_length}
use Rattle.share_bound.proofs.known.KnownShares.set_aside.Goals as goal

pub returns-in-Some-clause-below : goal.returns-in-Some-clause-below
returns-in-Some-clause-below c = λ node hold.
    let old = c.args.self.now in
    let new = c.put.new.self in
    let u = c.in-Some.train in
    none_below node c.args.decision new
    (about_none c.args.decision old new u c.in-Some.ensures.0 c.in-Some.ensures.1
    c.put.ensures.new) (put_holds node old new u None c.in-Some.ensures.0 c.put.ensures.new
    (same_length old.each.items new.each.items u None c.put.ensures.new) hold
    (λ one is. absurd (none-some one is)))

pub returns-in-None-clause-below : goal.returns-in-None-clause-below
returns-in-None-clause-below c = λ node hold.
    none_below node c.args.decision c.args.self.now c.in-None.ensures hold

pub returns-in-Some-clause-same : goal.returns-in-Some-clause-same
returns-in-Some-clause-same c = λ node hold.
    let old = c.args.self.now in
    let new = c.put.new.self in
    let u = c.in-Some.train in
    put_holds node old new u None c.in-Some.ensures.0 c.put.ensures.new
    (same_length old.each.items new.each.items u None c.put.ensures.new) hold
    (λ one is. absurd (none-some one is))
