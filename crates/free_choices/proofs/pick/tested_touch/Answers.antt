use Rattle.free_choices.proofs.pick.tested_touch.Goals as goal

pub returns : goal.returns
returns c = (c.is_open_touch.ensures c.if-not-is_open_touch.false, (c.is_open_route.ensures c.if-not-is_open_route.false).1)
