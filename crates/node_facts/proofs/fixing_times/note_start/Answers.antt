use Rattle.std.proofs.Common.{◌∙◌, ◌++◌, ◌∷◌, [], sym, subst}
use Rattle.disp_model.specs.declared.fixing.Fixing.{Fixing}
use Rattle.node_facts.specs.Indexed.{AreStarts}
use Rattle.node_facts.proofs.Timing.{starts_noted, starts_again, starts_other}
use Rattle.node_facts.proofs.fixing_times.note_start.Goals as goal

pub returns-in_default : goal.returns-in_default
returns-in_default c fixings are = starts_other fixings c.args.fixing.now c.args.starts.now.entries c.in_default.not-Started are

pub returns-in-Some : goal.returns-in-Some
returns-in-Some c fixings are =
    subst (λ (f : Fixing). AreStarts (fixings ++ f ∷ []) c.args.starts.now.entries) (sym c.in-Started.is)
    (starts_again fixings c.in-Started.at_train c.in-Started.at_op c.in-Started.time c.in-Some.field-0 c.args.starts.now.entries are (sym c.time_of.ensures ∙ c.in-Some.is))

pub returns-in_ok-insert-in-None : goal.returns-in_ok-insert-in-None
returns-in_ok-insert-in-None c fixings are =
    let u = c.in_ok-insert-in-None.ensures.updates in
    subst (λ (f : Fixing). AreStarts (fixings ++ f ∷ []) c.insert.new.self.entries) (sym c.in-Started.is)
    (starts_noted fixings c.in-Started.at_train c.in-Started.at_op c.in-Started.time c.args.starts.now.entries c.insert.new.self.entries are (sym c.time_of.ensures ∙ c.in-None.is) u.1 (λ d e apart. u.2 (d, e) apart))
