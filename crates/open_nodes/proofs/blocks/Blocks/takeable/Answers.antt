use Rattle.std.proofs.Common.{◌≡◌, ℕ}
use Rattle.std.specs.Prelude.{Some, slice_get}
use Rattle.open_nodes.specs.declared.place.Place.{Place}
use Rattle.open_nodes.specs.declared.blocks.Pool.TheVariants.{Inside, Unmarked}
use Rattle.open_nodes.specs.States.{IsTakeable}
use Rattle.open_nodes.specs.Blocks.{IsCandidate}
use Rattle.open_nodes.proofs.Seeking.{match_otherwise, none_takeable, one_takeable, none_unmarked, one_unmarked}
use Rattle.open_nodes.proofs.blocks.Blocks.takeable.Goals as goal

pub returns-then-free-gt0 : goal.returns-then-free-gt0
returns-then-free-gt0 c =
    let places = c.args.places.now in
    match_otherwise (IsCandidate Inside places c.args.best)
    (λ (n : ℕ). (p : Place) × (slice_get places n ≡ Some p) × IsTakeable c.args.edition c.args.best c.args.free p) c.candidate.result c.candidate.ensures
    (none_takeable places c.args.best c.args.edition c.args.free c.if-free-gt0.true)
    (one_takeable places c.args.best c.args.edition c.args.free c.if-free-gt0.true)

pub returns : goal.returns
returns c =
    let places = c.args.places.now in
    match_otherwise (IsCandidate (Unmarked c.args.edition) places c.args.best)
    (λ (n : ℕ). (p : Place) × (slice_get places n ≡ Some p) × IsTakeable c.args.edition c.args.best c.args.free p) c.candidate-2.result c.candidate-2.ensures
    (none_unmarked places c.args.best c.args.edition c.args.free c.if-free-gt0.false)
    (one_unmarked places c.args.best c.args.edition c.args.free)
