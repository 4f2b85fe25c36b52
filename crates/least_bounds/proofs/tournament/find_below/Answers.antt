use Rattle.std.proofs.Common.{◌≡◌, ◌∙◌, subst, sym}
use Rattle.std.specs.Prelude.{Option}
use Rattle.std.proofs.lemmas.Bool.{false≢true}
use Rattle.least_bounds.specs.Tournaments.{LiesBelow}
use Rattle.least_bounds.proofs.Descending.{from_place}
use Rattle.least_bounds.proofs.tournament.find_below.Goals as goal

pub returns-then-not-lies_below : goal.returns-then-not-lies_below
returns-then-not-lies_below c = λ place below.
    let root = from_place c.args.nodes.now c.args.room c.requires c.args.limit place below in
    false≢true (c.if-not-lies_below.ensures.1 (subst (λ (o : Option _). LiesBelow o c.args.limit) (sym c.bound_at.ensures) root))
