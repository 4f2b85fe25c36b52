use Rattle.std.proofs.Common.{◌≡◌, ◌∙◌, ℕ, List, ap, subst, sym, refl}
use Rattle.std.specs.Prelude.{Option, MatchOption}
use Rattle.least_bounds.specs.Tournaments.{bound_at, HasNoBound, IsLeastBoundOf}
use Rattle.least_bounds.proofs.Descending.{root_least}
use Rattle.least_bounds.proofs.bounds.LeastBounds.least.Goals as goal

pub returns : goal.returns
returns c =
    let s = c.self.inside in
    subst (λ (bounds : List (Option ℕ)). MatchOption c.bound_at.result (HasNoBound bounds) (IsLeastBoundOf bounds)) c.self.view_is
    (root_least s.nodes.items s.room c.self.invariant c.bound_at.result (sym (c.bound_at.ensures ∙ ap (λ (nodes : List (Option ℕ)). bound_at nodes 1) c.deref.ensures.value)))
