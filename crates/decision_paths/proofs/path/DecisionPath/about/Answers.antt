use Rattle.decision_paths.proofs.Listing.{about_lent}
use Rattle.decision_paths.proofs.path.DecisionPath.about.Goals as goal

pub returns : goal.returns
returns c =
    about_lent c.self.inside.decisions.items c.args.self.now c.self.inside.routes.items c.deref.result.now c.args.train c.list_of-place.result c.index.result.now c.as_slice.result.now c.self.invariant.by_train c.self.view_is c.deref.ensures.value c.list_of-place.ensures c.index.ensures c.as_slice.ensures.value
