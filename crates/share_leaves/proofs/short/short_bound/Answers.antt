use Rattle.std.proofs.Common.{length, sym, ap, subst, arith}
use Rattle.disp_model.specs.declared.problem.Problem.{Problem}
use Rattle.disp_model.specs.Shares.{SharesAddUp}
use Rattle.share_leaves.specs.Beside.{AreWalksBeside}
use Rattle.share_leaves.proofs.Shortened.{short_is}
use Rattle.share_leaves.proofs.short.short_bound.Goals as goal

pub returns : goal.returns
returns c =
    let node = c.args.graph.now in
    let problem = c.args.problem.now in
    let shares = c.in_ok-listed.field-0 in
    let all = ap (λ (p : Problem). length p.trains) (sym c.requires.node) in
    record {
      known = c.in_ok-listed.ensures.known;
      bound = short_is node shares.total (length problem.trains) (length problem.components) shares.listed
          c.in_ok-beside.beside
          (subst (λ n. SharesAddUp node n shares.total) all c.in_ok-listed.ensures.total.adds)
          c.in_ok-listed.ensures.listed all
          (subst (λ l. AreWalksBeside node l (length problem.components) c.in_ok-beside.beside)
          c.as_slice.ensures c.in_ok-beside.ensures)
          (omega (arith, c.if-saturating_add-total.false, c.saturating_add.ensures));
    }
