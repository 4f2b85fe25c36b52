use Rattle.std.proofs.Common.{◌≡◌, ◌∙◌, ◌<◌, List, ap, refl, sym, subst, length, arith}
use Rattle.std.specs.Prelude.{Some, slice_get, slice_set}
use Rattle.std.proofs.lemmas.Option.{slice_get_read}
use Rattle.open_nodes.specs.declared.place.Place.{Place}
use Rattle.open_nodes.specs.States.{State, with_places}
use Rattle.open_nodes.specs.Shown.{fallen_at}
use Rattle.open_nodes.specs.Blocks.{AreReckoned}
use Rattle.open_nodes.proofs.Changing.{after_one}
use Rattle.open_nodes.proofs.Paths.{no_true}
use Rattle.open_nodes.proofs.Falling.{fallen_kept, fallen_is}
use Rattle.open_nodes.proofs.nodes.Nodes.reset.Goals as goal

pub invariant_of-self : goal.invariant_of-self
invariant_of-self c =
    let s = c.self.inside in
    let x = c.index-place.result.now in
    let inside : c.in-Some.number < length s.places.items = omega (arith, c.in-Some.ensures.1, c.len.ensures, s.places.ok.0) in (
      rw c.fallen.ensures (fallen_kept s.places.items s.edition s.allowed c.self.invariant.0 c.in-Some.number x
          (slice_get_read s.places.items (length s.places.items) c.in-Some.number x refl inside c.index-place.ensures)),
      subst (λ (places : List Place). AreReckoned places s.edition c.change.new.self) c.deref.ensures.value c.change.ensures,
    )

pub change-requires-clause-changed : goal.change-requires-clause-changed
change-requires-clause-changed c =
    let s = c.self.inside in
    let x = c.index-place.result.now in
    let inside : c.in-Some.number < length s.places.items = omega (arith, c.in-Some.ensures.1, c.len.ensures, s.places.ok.0) in
    let there : slice_get s.places.items c.in-Some.number ≡ Some x = slice_get_read s.places.items (length s.places.items) c.in-Some.number x refl inside c.index-place.ensures in
    after_one s.places.items c.deref.result.now s.edition c.in-Some.number c.len-2.result x c.fallen.result s.blocks c.deref.ensures.value
    there (omega (arith, c.len-2.ensures, s.places.ok.0)) c.self.invariant.1

pub returns : goal.returns
returns c =
    let s = c.self.inside in
    let x = c.index-place.result.now in
    let state : State = record { places = s.places.items; kept = s.kept.items; edition = s.edition } in
    let inside : c.in-Some.number < length s.places.items = omega (arith, c.in-Some.ensures.1, c.len.ensures, s.places.ok.0) in
    let there : slice_get s.places.items c.in-Some.number ≡ Some x = slice_get_read s.places.items (length s.places.items) c.in-Some.number x refl inside c.index-place.ensures in
    let made : slice_set s.places.items c.in-Some.number c.fallen.result ≡ (fallen_at state c.in-Some.number).places =
    ap (λ (p : Place). slice_set s.places.items c.in-Some.number p) c.fallen.ensures
    ∙ fallen_is s.places.items c.in-Some.number x there (λ e. no_true (sym c.if-is_branch.false ∙ c.is_branch.ensures.1 e)) in
    ap (λ (places : List Place). with_places state places) made ∙ ap (fallen_at state) c.in-Some.ensures.0 ∙ ap (λ (t : State). fallen_at t c.args.node) c.self.view_is
