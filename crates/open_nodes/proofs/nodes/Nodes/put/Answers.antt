use Rattle.std.proofs.Common.{◌≡◌, ◌∙◌, ◌+◌, ◌<◌, List, refl, sym, ap, subst, length, arith}
use Rattle.std.specs.Prelude.{Some, slice_get}
use Rattle.std.proofs.lemmas.Option.{slice_get_read}
use Rattle.open_nodes.specs.declared.place.Place.{Place}
use Rattle.open_nodes.specs.Grafts.{placed}
use Rattle.open_nodes.specs.Blocks.{HaveChanged, AreReckoned}
use Rattle.open_nodes.proofs.Growing.{grown_kept}
use Rattle.open_nodes.proofs.Changing.{grown_changed, grown_long, grown_within, reckoned_same, less_room}
use Rattle.open_nodes.proofs.nodes.Nodes.put.Goals as goal

pub change-requires-clause-changed : goal.change-requires-clause-changed
change-requires-clause-changed c =
    let s = c.self.inside in
    let x = c.index-place.result.now in
    let inside : c.args.number < length s.places.items = rw (← c.self.view_is) at c.requires.inside in
    let there : slice_get s.places.items c.args.number ≡ Some x = slice_get_read s.places.items (length s.places.items) c.args.number x refl inside c.index-place.ensures in
    let after : c.deref.result.now ≡ placed s.places.items c.args.number c.args.grown.now = c.deref.ensures.value ∙ c.in_ok-put.ensures.places in
    let (now, changed) = grown_changed s.places.items c.args.number c.len-first.result x c.args.grown.now there (omega (arith, c.len-first.ensures, s.places.ok.0)) c.requires.some
    ((rw (← c.self.view_is) at c.requires.stand) x there) in (
      s.places.items,
      now,
      subst (λ (places : List Place). HaveChanged s.places.items places c.args.number c.len-first.result x now) (sym after) changed,
      reckoned_same s.places.items s.edition s.blocks c.make_room.new.self c.make_room.ensures.same c.self.invariant.1,
    )

pub change-requires-clause-room : goal.change-requires-clause-room
change-requires-clause-room c =
    let s = c.self.inside in
    let after : c.deref.result.now ≡ placed s.places.items c.args.number c.args.grown.now = c.deref.ensures.value ∙ c.in_ok-put.ensures.places in
    less_room (length c.deref.result.now) (c.len-first.result + length c.args.grown.now) c.make_room.new.self
    (omega (arith, ap (length {A = Place}) after, grown_long s.places.items c.args.number c.args.grown.now, c.len-first.ensures, s.places.ok.0)) c.in-Ok.ensures.room

pub change-requires-clause-inside : goal.change-requires-clause-inside
change-requires-clause-inside c =
    let s = c.self.inside in
    let inside : c.args.number < length s.places.items = rw (← c.self.view_is) at c.requires.inside in
    let after : c.deref.result.now ≡ placed s.places.items c.args.number c.args.grown.now = c.deref.ensures.value ∙ c.in_ok-put.ensures.places in
    omega (arith, ap (length {A = Place}) after, grown_within s.places.items c.args.number c.args.grown.now inside)

pub invariant_of-self-2 : goal.invariant_of-self-2
invariant_of-self-2 c =
    let s = c.self.inside in
    let x = c.index-place.result.now in
    let inside : c.args.number < length s.places.items = rw (← c.self.view_is) at c.requires.inside in
    let there : slice_get s.places.items c.args.number ≡ Some x = slice_get_read s.places.items (length s.places.items) c.args.number x refl inside c.index-place.ensures in (
      rw (c.in_ok-put.ensures.places, c.allowance_in.ensures)
          (grown_kept s.places.items s.edition s.allowed c.self.invariant.0 c.args.number x c.args.grown.now there c.requires.some
          ((rw (← c.self.view_is) at c.requires.stand) x there)),
      subst (λ (places : List Place). AreReckoned places s.edition c.change.new.self) c.deref.ensures.value c.change.ensures,
    )
