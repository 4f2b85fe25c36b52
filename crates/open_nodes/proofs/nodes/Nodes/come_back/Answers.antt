use Rattle.std.proofs.Common.{◌≡◌, List, subst, arith}
use Rattle.std.specs.Prelude.{Some, slice_get}
use Rattle.std.proofs.lemmas.Option.{slice_get_within}
use Rattle.open_nodes.specs.declared.place.Place.{Place}
use Rattle.open_nodes.specs.States.{State, ForOut, marked}
use Rattle.open_nodes.specs.Blocks.{AreReckoned}
use Rattle.open_nodes.proofs.Changing.{after_one}
use Rattle.open_nodes.proofs.Keeping.{back_few, back_kept, comes_back, there_read}
use Rattle.open_nodes.proofs.nodes.Nodes.come_back.Goals as goal

pub index-place-requires : goal.index-place-requires
index-place-requires c =
    let s = c.self.inside in
    let out : ForOut s.places.items c.args.work.now = rw (← c.self.view_is) at c.requires.out in
    omega (arith, c.requires.number, s.places.ok.0, slice_get_within s.places.items c.args.work.now.node out.0 out.1.there)

pub index_mut-requires : goal.index_mut-requires
index_mut-requires c =
    let s = c.self.inside in
    let out : ForOut s.places.items c.args.work.now = rw (← c.self.view_is) at c.requires.out in
    omega (arith, c.requires.number, s.places.ok.0, slice_get_within s.places.items c.args.work.now.node out.0 out.1.there)

pub overflow_sub-self : goal.overflow_sub-self
overflow_sub-self c =
    let s = c.self.inside in
    let out : ForOut s.places.items c.args.work.now = rw (← c.self.view_is) at c.requires.out in
    rw c.allowance_in.ensures (back_few s.places.items s.edition s.allowed c.args.work.now.node out.0 c.index-place.result.now out.1.there (rw c.requires.number at c.index-place.ensures) c.self.invariant.0)

pub invariant_of-self : goal.invariant_of-self
invariant_of-self c =
    let s = c.self.inside in
    let out : ForOut s.places.items c.args.work.now = rw (← c.self.view_is) at c.requires.out in (
      rw c.requires.number (back_kept s.places.items s.edition s.allowed c.args.work.now.node out.0 c.index-place.result.now c.mark-examined.result c.allowance_in.result out.1.there (rw c.requires.number at c.index-place.ensures) c.self.invariant.0 c.allowance_in.ensures),
      subst (λ (places : List Place). AreReckoned places s.edition c.change.new.self) c.deref.ensures.value c.change.ensures,
    )

pub returns : goal.returns
returns c =
    let s = c.self.inside in
    let state : State = record { places = s.places.items; kept = s.kept.items; edition = s.edition } in
    let out : ForOut s.places.items c.args.work.now = rw (← c.self.view_is) at c.requires.out in
    rw c.requires.number
    (comes_back state c.args.self.now c.self.view_is c.args.work.now c.args.examined out.0 c.index-place.result.now c.mark-examined.result out.1 (rw c.requires.number at c.index-place.ensures) c.mark-examined.ensures)

pub change-requires-clause-changed : goal.change-requires-clause-changed
change-requires-clause-changed c =
    let s = c.self.inside in
    let x = c.index-place.result.now in
    let out : ForOut s.places.items c.args.work.now = rw (← c.self.view_is) at c.requires.out in
    let there : slice_get s.places.items c.args.number ≡ Some x =
    rw c.requires.number (there_read s.places.items c.args.work.now.node out.0 x out.1.there (rw c.requires.number at c.index-place.ensures)) in
    after_one s.places.items c.deref.result.now s.edition c.args.number c.len.result x (marked x c.mark-examined.result) s.blocks c.deref.ensures.value
    there (omega (arith, c.len.ensures, s.places.ok.0)) c.self.invariant.1
