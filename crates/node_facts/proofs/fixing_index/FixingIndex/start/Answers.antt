use Rattle.std.proofs.Common.{◌∙◌, List, ℕ, ap}
use Rattle.disp_model.specs.declared.fixing.Fixing.{Fixing}
use Rattle.disp_model.specs.Walks.{fixed_start}
use Rattle.node_facts.specs.Indexed.{time_in}
use Rattle.node_facts.proofs.fixing_index.FixingIndex.start.Goals as goal

pub returns : goal.returns
returns c =
    let times = c.self.inside.starts.entries in
    c.time_of.ensures ∙ ap (λ (t : ℕ). time_in times t c.from-2.result) c.from.ensures ∙ ap (λ (p : ℕ). time_in times c.args.op.train p) c.from-2.ensures ∙ c.self.invariant.starts_are.are c.args.op ∙ ap (λ (l : List Fixing). fixed_start l c.args.op) c.self.view_is
