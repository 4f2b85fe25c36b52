use Rattle.std.proofs.Common.{◌≡◌, ◌+◌, ◌≤◌, List, ap, refl, subst, arith}
use Rattle.std.specs.Prelude.{Some, sum_by}
use Rattle.open_nodes.specs.declared.place.Place.{Place}
use Rattle.open_nodes.specs.declared.place.Errand.{Errand}
use Rattle.open_nodes.specs.States.{State, IsIn, allowance_for, decisions_of, with_out}
use Rattle.open_nodes.specs.Blocks.{AreReckoned}
use Rattle.open_nodes.proofs.Changing.{after_one}
use Rattle.open_nodes.proofs.Keeping.{sent_kept, sends_at, there_read}
use Rattle.open_nodes.proofs.nodes.Nodes.send.Goals as goal

pub invariant_of-self : goal.invariant_of-self
invariant_of-self c =
    let s = c.self.inside in
    let inside : IsIn s.places.items c.args.number = rw (← c.self.view_is) at c.requires.inside in
    let room : c.args.allowance + sum_by (λ (p : Place). allowance_for s.edition p.out) s.places.items ≤ 4294967295 = rw (← c.self.view_is) at c.requires.room in
    let allowance : c.errand.result.allowance ≡ c.args.allowance = ap (λ (e : Errand). e.allowance) c.errand.ensures in (
      sent_kept s.places.items s.edition s.allowed c.args.number c.index-place.result.now c.errand.result (s.allowed + c.from.result) inside c.index-place.ensures c.self.invariant.0
          (ap (λ (e : Errand). e.edition) c.errand.ensures) (omega (arith, allowance, c.from.ensures)) (omega (arith, room, c.self.invariant.0.sum, c.from.ensures)),
      subst (λ (places : List Place). AreReckoned places s.edition c.change.new.self) c.deref-2.ensures.value c.change.ensures,
    )

pub returns-clause-ok : goal.returns-clause-ok
returns-clause-ok c =
    let s = c.self.inside in
    let state : State = record { places = s.places.items; kept = s.kept.items; edition = s.edition } in
    let inside : IsIn s.places.items c.args.number = rw (← c.self.view_is) at c.requires.inside in
    let decisions : c.in_ok-decisions.decisions ≡ decisions_of s.places.items c.args.number = rw c.deref.ensures.value at c.in_ok-decisions.ensures in
    (refl, sends_at state c.args.self.now c.self.view_is c.args.number c.index-place.result.now c.in_ok-decisions.decisions c.errand.result c.args.best c.args.seen c.args.allowance inside c.index-place.ensures decisions c.errand.ensures)

pub change-requires-clause-changed : goal.change-requires-clause-changed
change-requires-clause-changed c =
    let s = c.self.inside in
    let x = c.index-place.result.now in
    let inside : IsIn s.places.items c.args.number = rw (← c.self.view_is) at c.requires.inside in
    after_one s.places.items c.deref-2.result.now s.edition c.args.number c.len.result x (with_out x (Some c.errand.result)) s.blocks c.deref-2.ensures.value
    (there_read s.places.items c.args.number inside.place x inside.there c.index-place.ensures) (omega (arith, c.len.ensures, s.places.ok.0)) c.self.invariant.1
