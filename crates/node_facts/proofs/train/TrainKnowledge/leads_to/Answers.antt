use Rattle.std.proofs.Common.{refl}
use Rattle.std.proofs.lemmas.Bool.{false≢true}
use Rattle.node_facts.proofs.Between.{nearer_is}
use Rattle.node_facts.proofs.train.TrainKnowledge.leads_to.Goals as goal

pub returns-then-not-is_forced : goal.returns-then-not-is_forced
returns-then-not-is_forced c node t is = (λ h. absurd (false≢true h), λ h. absurd (false≢true ((c.if-not-is_forced.ensures node t is).1 h.0)))

pub returns-then-not-is_forced-2 : goal.returns-then-not-is_forced-2
returns-then-not-is_forced-2 c node t is = (λ h. absurd (false≢true h), λ h. absurd (false≢true ((c.if-not-is_forced-2.ensures node t is).1 h.1)))

pub returns : goal.returns
returns c node t is =
    let nearer = nearer_is c.args.self.now.places.items c.deref.result.now c.deref-2.result.now c.args.a c.args.b c.place_at.result c.place_at-2.result c.place_at.ensures c.deref.ensures.value c.place_at-2.ensures c.deref-2.ensures.value in
    (λ h. ((c.if-not-is_forced.ensures node t is).0 refl, (c.if-not-is_forced-2.ensures node t is).0 refl, nearer.0 h), λ h. nearer.1 h.2)
