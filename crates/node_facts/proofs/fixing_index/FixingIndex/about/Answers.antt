use Rattle.std.proofs.Common.{◌∙◌, ◌-◌, length, ap}
use Rattle.node_facts.specs.Indexed.{own_list}
use Rattle.node_facts.proofs.Grouping.{fixings_lent}
use Rattle.node_facts.proofs.fixing_index.FixingIndex.about.Goals as goal

pub returns : goal.returns
returns c =
    fixings_lent c.self.inside.fixings.items c.args.self.now c.self.inside.lists.items c.deref.result.now c.args.train c.own_list-place.result c.index.result.now c.as_slice.result.now c.self.invariant.by_train c.self.view_is c.deref.ensures.value (c.own_list-place.ensures ∙ ap (own_list (length c.deref.result.now - 1)) c.from.ensures) c.index.ensures c.as_slice.ensures.value
