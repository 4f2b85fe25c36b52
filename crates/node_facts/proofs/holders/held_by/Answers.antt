use Rattle.std.proofs.Common.{◌≡◌, ◌∙◌, ℕ, List, true, false, sym, subst}
use Rattle.std.specs.Prelude.{slice_index_or}
use Rattle.node_facts.specs.Live.{IsOnlyStep}
use Rattle.node_facts.proofs.holders.held_by.Goals as goal

pub returns-then-is_marked : goal.returns-then-is_marked
returns-then-is_marked c s =
    let places = c.args.places.now in
    let demands = c.args.demands.now in
    let sums = c.args.sums.now in
    let op = c.args.op in
    let marked : slice_index_or c.args.needed.now op false ≡ true = sym c.is_marked.ensures ∙ c.if-is_marked.true in (
      λ e. record { marked = marked; only = subst (λ (l : List ℕ). IsOnlyStep places demands sums op l s) c.nexts_of.ensures ((c.only_step.ensures s).0 e) },
      λ holds. (c.only_step.ensures s).1 (subst (λ (l : List ℕ). IsOnlyStep places demands sums op l s) (sym c.nexts_of.ensures) holds.only),
    )
