use Rattle.std.proofs.Common.{◌≡◌, ◌∙◌, ◌<◌, ℕ, List, length, refl, subst, arith}
use Rattle.std.specs.Prelude.{Some, slice_get, get_or}
use Rattle.std.proofs.lemmas.Option.{slice_get-get_or}
use Rattle.disp_model.specs.declared.decision.Decision.{Decision}
use Rattle.disp_model.specs.Node.{node_at}
use Rattle.tree_growth.specs.Left.{IsLeafLeft}
use Rattle.dispatch_core.proofs.left.leave_leaf.Goals as goal

pub returns : goal.returns
returns c =
    let bounds = c.args.bounds.now in
    let least = c.args.left.now.bounds in
    let bound : ℕ = get_or bounds c.len.result 0 in
    let is_length : c.len.result ≡ length least.items = c.len.ensures ∙ least.ok.0 in
    let within : c.len.result < length bounds = omega (arith, c.requires, is_length) in
    record {
      bound = bound;
      bound_is = subst (λ (k : ℕ). slice_get bounds k ≡ Some bound) is_length (slice_get-get_or bounds c.len.result 0 within);
      one = c.in_ok-leaf.leaf;
      less = c.in_ok-leaf.bound;
      left = subst (λ (above : List Decision). IsLeafLeft (node_at c.args.problem.now c.args.fixings.now above) c.args.leaf bound c.in_ok-leaf.leaf c.in_ok-leaf.bound)
          c.as_slice.ensures c.in_ok-leaf.ensures;
      nodes_are = rw (c.in_ok-push.ensures.items, c.in_ok-pack.ensures) refl;
      least_are = c.in_ok-push-2.ensures.items;
    }
