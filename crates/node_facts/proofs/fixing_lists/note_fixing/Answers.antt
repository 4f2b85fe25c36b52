use Rattle.std.proofs.Common.{◌≡◌, ◌-◌, ◌∙◌, List, length, ap, subst}
use Rattle.std.specs.Global.{Vec}
use Rattle.disp_model.specs.declared.fixing.Fixing.{Fixing}
use Rattle.node_facts.specs.Indexed.{own_list}
use Rattle.node_facts.proofs.Grouping.{lists_noted}
use Rattle.node_facts.proofs.fixing_lists.note_fixing.Goals as goal

pub returns : goal.returns
returns c fixings are =
    let place_is = subst (λ (l : List (Vec Fixing)). c.own_list-place.result ≡ own_list (length l - 1) c.train_fixed.result) c.deref.ensures.value c.own_list-place.ensures in
    lists_noted fixings c.args.fixing.now c.args.lists.now.items c.own_list-place.result c.index_mut.result.now c.push.new.self c.requires (place_is ∙ ap (own_list (length c.args.lists.now.items - 1)) c.train_fixed.ensures) c.index_mut.ensures.value
    c.in_ok-push.ensures.items are
