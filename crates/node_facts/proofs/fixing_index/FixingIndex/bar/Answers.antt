use Rattle.std.proofs.Common.{◌∙◌, List, Option, ℕ, ap}
use Rattle.std.specs.Prelude.{unwrap_or}
use Rattle.disp_model.specs.declared.fixing.Fixing.{Fixing}
use Rattle.disp_model.specs.Walks.{not_before}
use Rattle.node_facts.specs.Indexed.{time_in}
use Rattle.node_facts.proofs.fixing_index.FixingIndex.bar.Goals as goal

pub returns : goal.returns
returns c =
    let times = c.self.inside.bars.entries in
    let found = c.time_of.ensures ∙ ap (λ (t : ℕ). time_in times t c.from-2.result) c.from.ensures ∙ ap (λ (p : ℕ). time_in times c.args.op.train p) c.from-2.ensures in
    c.unwrap_or.ensures ∙ ap (λ (found : Option ℕ). unwrap_or found 0) found ∙ c.self.invariant.bars_are.are c.args.op ∙ ap (λ (l : List Fixing). not_before l c.args.op) c.self.view_is
