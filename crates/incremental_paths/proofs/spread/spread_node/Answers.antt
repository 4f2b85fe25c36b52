use Rattle.std.proofs.Common.{◌≡◌, ℕ, inl, inr, length, get_or, sym, ap, ◌∙◌, get_or-set_other}
use Rattle.std.proofs.lemmas.Bool.{cases_eq}
use Rattle.incremental_paths.proofs.Telling.{tells_both}
use Rattle.incremental_paths.proofs.Pushing.{lone, waiting_all}
use Rattle.incremental_paths.proofs.spread.spread_node.Given.{Over}
use Rattle.incremental_paths.proofs.spread.spread_node.Goals as goal
use Rattle.incremental_paths.proofs.spread.spread_node.Goals.{After-raise_one}

only_node : (g : Over) (c : After-raise_one g) (v : ℕ) → (get_or c.args.lengths.now v 0 ≡ get_or c.raise_one.new.lengths v 0 → ⊥) → v ≡ c.args.node
only_node g c v differs = elim (cases_eq v c.args.node) [
  | inl same ↦ same
  | inr other ↦ absurd (differs (sym (ap (λ z. get_or z v 0) c.raise_one.ensures.lengths ∙ get_or-set_other c.args.lengths.now c.args.node v c.args.raised 0 other)))
]

pub push_on-requires-clause-waiting : goal.push_on-requires-clause-waiting
push_on-requires-clause-waiting g c =
    let d = (goal.at.push_on-requires-clause-waiting g c).After-raise_one in
    waiting_all c.raise_one.new.changes c.args.lengths.now c.raise_one.new.lengths c.args.changes.now (length c.args.lengths.now) c.requires.cleared c.raise_one.ensures.tells c.args.node (only_node g d) c.args.arcs.now c.args.order.now c.requires.spread

pub push_on-requires-clause-lone : goal.push_on-requires-clause-lone
push_on-requires-clause-lone g c =
    let d = (goal.at.push_on-requires-clause-lone g c).After-raise_one in
    lone c.raise_one.new.changes c.args.lengths.now c.raise_one.new.lengths c.args.changes.now (length c.args.lengths.now) c.requires.cleared c.raise_one.ensures.tells c.args.node (only_node g d)

pub returns-clause-tells : goal.returns-clause-tells
returns-clause-tells g c = tells_both c.args.changes.now c.raise_one.new.changes c.push_on.new.changes c.args.lengths.now c.raise_one.new.lengths c.push_on.new.lengths c.raise_one.ensures.tells c.push_on.ensures.tells
