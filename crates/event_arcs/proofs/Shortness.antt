-- Walks along a list of arcs without a cycle are short.
use Rattle.std.proofs.Common.{◌≡◌, ℕ, ◌*◌, ◌^◌, ◌<◌, ◌≤◌, List, [], ◌∷◌, length, sym, ap, subst, ◌∙◌, arith}
use Rattle.std.specs.Prelude.{All, sum_by}
use Rattle.std.proofs.lemmas.List.Elements.{All-contains, All-head, All-tail}
use Rattle.std.proofs.lemmas.List.Sums.{sum_by-cons}
use Rattle.disp_model.specs.declared.limits.TheConstants.{GREATEST_NUMBER}
use Rattle.disp_model.specs.declared.train.Listing.{Listing}
use Rattle.disp_model.specs.declared.train.Operation.{Operation}
use Rattle.disp_model.specs.declared.problem.Problem.{Problem}
use Rattle.disp_model.specs.WellFormed.{greatest_release, span_of, horizon, operation_count, HasFitNumbers}
use Rattle.disp_model.specs.Numbers.{number_of}
use Rattle.disp_model.specs.Node.{Node}
use Rattle.disp_model.specs.Walks.{HasCycle as HasCycleAt}
use Rattle.disp_laws.proofs.Numbered.{each_number}
use Rattle.disp_laws.proofs.HorizonBounds.{AreSmall, lower_within, within_horizon}
use Rattle.incremental_paths.specs.declared.arc.Arc.{Arc}
use Rattle.incremental_paths.specs.Walks.{FollowsArcs, walk_length, WalksAreShort}
use Rattle.incremental_paths.proofs.Members.{joining}
use Rattle.event_arcs.specs.Listed.{IsArcOf, AreLowersOf}
use Rattle.event_arcs.proofs.Lengths.{carried}

-- ---- the horizon is far below the limit of lengths

pub release_small : (listings : List Listing) → All (λ l. l.release ≤ GREATEST_NUMBER) listings → greatest_release listings ≤ GREATEST_NUMBER
release_small [] all = omega arith
release_small (l ∷ listings) all =
    omega (arith, All-head (λ (k : Listing). k.release ≤ GREATEST_NUMBER) l listings all, release_small listings (All-tail (λ (k : Listing). k.release ≤ GREATEST_NUMBER) l listings all))

train_small : (train : List Operation) → All HasFitNumbers train → sum_by span_of train ≤ length train * 2 ^ 32
train_small [] all = omega arith
train_small (o ∷ train) all =
    let fits = All-head HasFitNumbers o train all in
    omega (arith, sum_by-cons span_of o train, fits.min, release_small o.listings fits.releases, train_small train (All-tail HasFitNumbers o train all))

trains_small : (trains : List (List Operation)) → All (λ train. All HasFitNumbers train) trains → sum_by (λ train. sum_by span_of train) trains ≤ operation_count trains * 2 ^ 32
trains_small [] all = omega arith
trains_small (train ∷ trains) all =
    omega (
      arith,
      sum_by-cons (λ (l : List Operation). sum_by span_of l) train trains,
      sum_by-cons (λ (l : List Operation). length l) train trains,
      train_small train (All-head (λ (l : List Operation). All HasFitNumbers l) train trains all),
      trains_small trains (All-tail (λ (l : List Operation). All HasFitNumbers l) train trains all),
    )

pub horizon_small : (problem : Problem) → horizon problem.trains < 2 ^ 53
horizon_small problem = omega (arith, trains_small problem.trains problem.well_formed.numbers, problem.well_formed.operations_fit)

-- ---- walks are within the horizon

pub short_walks : (node : Node) (arcs : List Arc) (lowers : List ℕ) → AreSmall node.fixings → All (IsArcOf node) arcs → AreLowersOf node lowers → (HasCycleAt node → ⊥) → WalksAreShort lowers arcs
short_walks node arcs lowers small sound are no_cycle v [] walk = absurd walk
short_walks node arcs lowers small sound are no_cycle v (n ∷ []) walk =
    let o = each_number node.problem n (omega (arith, walk.0, are.long)) in
    let lower = are.at o.0 (record { train = o.1; op = o.2 }) in
    let same : walk_length lowers arcs (number_of node.problem o.0 ∷ []) ≡ walk_length lowers arcs (n ∷ []) = ap (λ (k : ℕ). walk_length lowers arcs (k ∷ [])) o.3 in
    omega (arith, lower, same, lower_within node o.0 small o.1)
short_walks node arcs lowers small sound are no_cycle v (n ∷ m ∷ rest) walk =
    let listed = joining arcs n m walk.1.0 in
    let arc = All-contains (IsArcOf node) arcs listed.0 sound listed.1 in
    let is : number_of node.problem arc.u ≡ n = sym arc.from_is ∙ listed.2 in
    let on : FollowsArcs arcs (number_of node.problem arc.u) (m ∷ rest) = subst (λ (k : ℕ). FollowsArcs arcs k (m ∷ rest)) (sym is) walk.1 in
    let over = carried node arcs lowers arc.u (m ∷ rest) sound are arc.joins.from_forced on in
    let same : walk_length lowers arcs (number_of node.problem arc.u ∷ m ∷ rest) ≡ walk_length lowers arcs (n ∷ m ∷ rest) = ap (λ (k : ℕ). walk_length lowers arcs (k ∷ m ∷ rest)) is in
    let long = within_horizon node (arc.u ∷ over.ops) over.total small no_cycle over.is_walk in
    omega (arith, over.enough, same, long, horizon_small node.problem)
