use Rattle.std.proofs.Common.{length, ap, arith}
use Rattle.disp_model.specs.declared.problem.Problem.{Problem}
use Rattle.share_bound.proofs.Knowing.{none_holds}
use Rattle.share_bound.proofs.known.KnownShares.renew.Goals as goal

pub returns-in_err-known-clause-known : goal.returns-in_err-known-clause-known
returns-in_err-known-clause-known c = none_holds c.args.graph.now c.args.self.now
    c.put-was.new.self c.args.train
    (let all = ap (λ (p : Problem). length p.trains) c.requires.node in
    omega (arith, c.requires.train, c.requires.known.long, all)) c.put-was.ensures.new
    c.requires.known

pub keep-requires-clause-known : goal.keep-requires-clause-known
keep-requires-clause-known c = none_holds c.args.graph.now c.args.self.now c.put-was.new.self
    c.args.train
    (let all = ap (λ (p : Problem). length p.trains) c.requires.node in
    omega (arith, c.requires.train, c.requires.known.long, all)) c.put-was.ensures.new
    c.requires.known
