use Rattle.std.proofs.Common.{refl}
use Rattle.std.proofs.lemmas.Bool.{false≢true}
use Rattle.node_facts.proofs.Between.{between_is, between_none}
use Rattle.node_facts.proofs.train.TrainKnowledge.least_between.Goals as goal

pub returns-then-leads_to : goal.returns-then-leads_to
returns-then-leads_to c node t is = between_is node t c.args.a c.args.b c.saturating_sub.result c.args.self.now is ((c.if-leads_to.ensures node t is).0 refl) (rw (c.saturating_sub.ensures, c.sum.ensures, c.sum-then-leads_to.ensures) refl)

pub returns-else-leads_to : goal.returns-else-leads_to
returns-else-leads_to c node t is = between_none node t c.args.a c.args.b c.args.self.now is (λ leads. false≢true ((c.if-leads_to.ensures node t is).1 leads))
