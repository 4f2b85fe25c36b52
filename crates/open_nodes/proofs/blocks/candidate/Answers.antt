use Rattle.std.proofs.Common.{arith}
use Rattle.open_nodes.specs.Blocks.{IsCandidate}
use Rattle.open_nodes.proofs.Seeking.{no_candidate, candidate_in, match_otherwise}
use Rattle.open_nodes.proofs.blocks.candidate.Goals as goal

pub returns-in_default : goal.returns-in_default
returns-in_default c = no_candidate c.args.pool c.args.places.now c.args.bounds.now c.requires c.args.best c.in_default.ensures

pub first_in-requires : goal.first_in-requires
first_in-requires c =
    let (n, from, to, within, is) = candidate_in c.args.pool c.args.places.now c.args.bounds.now c.requires c.args.best c.in-Some.block c.in-Some.ensures in
    omega (arith, from, within)

pub returns : goal.returns
returns c =
    let (n, from, to, within, is) = candidate_in c.args.pool c.args.places.now c.args.bounds.now c.requires c.args.best c.in-Some.block c.in-Some.ensures in
    match_otherwise (IsCandidate c.args.pool c.args.places.now c.args.best) (IsCandidate c.args.pool c.args.places.now c.args.best) c.first_in.result c.first_in.ensures
    (λ none. absurd (none n from to is)) (λ _ one. one)
