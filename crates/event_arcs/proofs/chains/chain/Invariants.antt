-- the arcs are chained from the place on
use Rattle.std.proofs.Common.{◌+◌, ◌<◌, ◌≤◌, ◌^◌, ◌++◌, ℕ, List, length}
use Rattle.std.specs.Prelude.{IfSome, option_map}
use Rattle.disp_model.specs.Node.{Node}
use Rattle.incremental_paths.specs.declared.arc.Arc.{Arc}
use Rattle.event_arcs.specs.Chained.{IsGivenBy, IsOrderGiven, IsChained}
use Rattle.event_arcs.proofs.chains.chain.Given as goal

abbrev pub invariant-loop-place : goal.invariant-loop-place
invariant-loop-place l = record {
  within : l.place ≤ length l.order;
  fits : IfSome l.last (λ before. l.first + before < 2 ^ 32);
  chained : (node : Node) (t : ℕ) (given : List Arc) → IsGivenBy node t (option_map (λ (r : _). r.now) l.old) given → IsOrderGiven node t l.routes l.order l.first
      → IsChained node t l.order l.place (given ++ l.initial.arcs.items) (given ++ l.arcs.items) l.last;
}
