use Rattle.std.proofs.Common.{◌≡◌, [], ◌∷◌, true, false, get_or, set, sym, subst, rules}
use Rattle.train_graphs.specs.Reach.{Visits}
use Rattle.train_graphs.proofs.Reached.{visits_new}
use Rattle.train_graphs.proofs.cycle.visit_one.Goals as goal

pub returns-in_ok-push : goal.returns-in_ok-push
returns-in_ok-push c =
    let marks = c.args.marks.now in
    let n = c.args.number in
    let before = c.args.ahead.now.items in
    let clear : get_or marks n false ≡ false = search rules in
    record { ok = subst (λ after. Visits (n ∷ []) marks (set marks n true) before after) (sym c.in_ok-push.ensures.items) (visits_new marks before n c.requires.inside clear) }
