use Rattle.std.proofs.Common.{◌<◌, length, ap, arith}
use Rattle.disp_model.specs.declared.problem.Problem.{Problem}
use Rattle.share_bound.proofs.Knowing.{read_known}
use Rattle.share_bound.proofs.known.KnownShares.knows.Goals as goal

pub returns-in-Some : goal.returns-in-Some
returns-in-Some c = λ is.
    let each = c.args.self.now.each.items in
    let t = c.args.train in
    let all = ap (λ (p : Problem). length p.trains) c.requires.node in
    let there : t < length each = omega (arith, c.requires.train, c.requires.known.long, all) in
    let known = read_known each t c.index.result.now c.in-Some.known there c.index.ensures
    c.in-Some.is in
    record {
      there = there;
      one = c.in-Some.known;
      known_is = known;
      current = record {
        bases = c.is_current.ensures is;
        holds = c.requires.known.each t c.in-Some.known known;
      };
    }
