use Rattle.std.proofs.Common.{◌++◌, List, ℕ, drop, subst}
use Rattle.std.specs.Prelude.{All}
use Rattle.disp_model.specs.declared.decision.Decision.{Decision}
use Rattle.disp_model.specs.Node.{node_at}
use Rattle.tree_checker.specs.Places.{last_decision}
use Rattle.tree_checker.specs.Descents.{Covers, AreRenewed}
use Rattle.tree_checker.proofs.Renewing.{renewed_known}
use Rattle.tree_checker.proofs.descent.descend.Goals as goal

pub returns-clause-known : goal.returns-clause-known
returns-clause-known c =
    let problem = c.args.problem.now in
    let fixings = c.args.fixings.now in
    let place = c.args.place in
    let changed = c.in_ok-changed.changed.items in
    let old = c.args.trains.now in
    let new = c.renew.new.trains in
    let covers = subst (λ (l : List Decision). All (λ decision. Covers decision changed) (drop place.depth l ++ last_decision place.decision)) c.as_slice.ensures c.in_ok-changed.ensures in
    let renewed = subst (λ (l : List ℕ). AreRenewed (node_at problem fixings c.go_to.new.path) l old new) c.as_slice-2.ensures.value c.in_ok-renew.ensures in
    renewed_known problem fixings c.args.path.now c.go_to.new.path place changed old new c.requires c.in_ok-go_to.ensures covers renewed
