use Rattle.std.proofs.Common.{sym, ◌∙◌, ap}
use Rattle.std.proofs.lemmas.Option.{same_Some}
use Rattle.disp_model.specs.declared.train.Op.{Op}
use Rattle.tree_checker.specs.KnownNodes.{node_here}
use Rattle.tree_checker.proofs.Landed.{landing_nowhere, landing_is}
use Rattle.tree_checker.proofs.landings.landing_of.Goals as goal

pub returns-in_default : goal.returns-in_default
returns-in_default c = landing_nowhere (node_here c.args.here) c.args.train c.args.walk.now c.end_of.result c.end_of.ensures (λ o is same. c.in_default.not-Some o is)

pub returns-then-not-end-train : goal.returns-then-not-end-train
returns-then-not-end-train c =
    landing_nowhere (node_here c.args.here) c.args.train c.args.walk.now c.end_of.result c.end_of.ensures
    (λ o is same. c.if-not-end-train.true (ap (λ (p : Op). p.train) (same_Some c.in-Some.end o (sym c.in-Some.is ∙ is)) ∙ same))

pub returns-in-Some-length_of : goal.returns-in-Some-length_of
returns-in-Some-length_of c =
    landing_is (node_here c.args.here) c.args.train c.args.walk.now c.in-Some.end c.in-Some-length_of.total ((c.end_of.ensures c.in-Some.end).0 c.in-Some.is) c.if-not-end-train.false
    ((c.length_of.ensures.is c.in-Some-length_of.total).0 c.in-Some-length_of.is) c.in-Some-length_of.ensures.small
