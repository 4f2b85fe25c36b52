use Rattle.std.proofs.Common.{◌∙◌, ◌++◌, ◌∷◌, [], Option, ℕ, max, ap, sym, subst}
use Rattle.std.specs.Prelude.{unwrap_or}
use Rattle.disp_model.specs.declared.fixing.Fixing.{Fixing}
use Rattle.node_facts.specs.Indexed.{AreBars}
use Rattle.node_facts.proofs.Timing.{bars_noted, bars_other}
use Rattle.node_facts.proofs.fixing_times.note_bar.Goals as goal

pub returns-in_default : goal.returns-in_default
returns-in_default c fixings are = bars_other fixings c.args.fixing.now c.args.bars.now.entries c.in_default.not-NotBefore are

pub returns : goal.returns
returns c fixings are =
    let u = c.in_ok-insert.ensures.updates in
    subst (λ (f : Fixing). AreBars (fixings ++ f ∷ []) c.insert.new.self.entries) (sym c.in-NotBefore.is)
    (bars_noted fixings c.in-NotBefore.at_train c.in-NotBefore.at_op c.in-NotBefore.time _ c.args.bars.now.entries c.insert.new.self.entries are (c.max-bar.ensures ∙ ap (λ (n : ℕ). max n c.in-NotBefore.time) (c.unwrap_or.ensures ∙ ap (λ (found : Option ℕ). unwrap_or found 0) c.time_of.ensures)) u.1 (λ d e apart. u.2 (d, e) apart))
