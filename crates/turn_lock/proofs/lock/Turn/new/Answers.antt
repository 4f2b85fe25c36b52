use Rattle.std.proofs.Common.{◌≡◌, [], ◌∷◌, ◌++◌, Some, ap, ◌∙◌, sym, subst}
use Rattle.atomic_table.specs.Table.{opening}
use Rattle.turn_lock.specs.Order.{Ordered}
use Rattle.turn_lock.specs.View.{first_view}
use Rattle.turn_lock.proofs.Keeps.{opens}
use Rattle.turn_lock.proofs.lock.Turn.new.Goals as goal

pub new-requires : goal.new-requires
new-requires g c = let items : c.push.new.self.items ≡ Some c.args.state ∷ [] = c.in-Ok.ensures.items ∙ ap (λ l. l ++ Some c.args.state ∷ []) c.new-slots.ensures.items in
    let s = g.S.History in
    subst (λ x. Ordered s.entries s.named s.terms s.kept (opening (0 ∷ 0 ∷ []) c.push.new.self.items (first_view c.args.caller (s.terms x)))) (sym c.of.ensures)
    (subst (λ l. Ordered s.entries s.named s.terms s.kept (opening (0 ∷ 0 ∷ []) l (first_view c.args.caller (s.terms c.args.state)))) (sym items) (opens _ _ _ _ c.args.state c.args.caller c.requires.empty c.requires.kept))
