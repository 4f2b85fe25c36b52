use Rattle.std.proofs.Common.{◌≡◌, ◌∙◌, ap, arith}
use Rattle.std.specs.Prelude.{is_some}
use Rattle.std.proofs.lemmas.Option.{get_or_from_slice_get}
use Rattle.open_nodes.specs.declared.place.Place.{Place}
use Rattle.open_nodes.specs.Blocks.{one_if_out}
use Rattle.open_nodes.specs.declared.blocks.Pool.TheVariants.{Alive, Inside, Unmarked}
use Rattle.open_nodes.proofs.Reckoning.{but_changed}
use Rattle.open_nodes.proofs.blocks.Blocks.change.Goals as goal

pub reckon-requires-clause-but : goal.reckon-requires-clause-but
reckon-requires-clause-but c =
    let (old, now, changed, are) = c.requires.changed in
    but_changed old c.args.places.now c.args.number c.args.first c.args.before now changed Alive c.args.self.now.alive c.first_block-from.result
    c.first_block-from.ensures c.requires.room.alive are.alive

pub reckon-requires-2-clause-but : goal.reckon-requires-2-clause-but
reckon-requires-2-clause-but c =
    let (old, now, changed, are) = c.requires.changed in
    but_changed old c.args.places.now c.args.number c.args.first c.args.before now changed Inside c.args.self.now.inside c.first_block-from.result
    c.first_block-from.ensures c.requires.room.inside are.inside

pub reckon-requires-3-clause-but : goal.reckon-requires-3-clause-but
reckon-requires-3-clause-but c =
    let (old, now, changed, are) = c.requires.changed in
    but_changed old c.args.places.now c.args.number c.args.first c.args.before now changed (Unmarked c.args.edition) c.args.self.now.unmarked c.first_block-from.result
    c.first_block-from.ensures c.requires.room.unmarked are.unmarked

pub returns : goal.returns
returns c =
    let (old, now, changed, are) = c.requires.changed in
    let was : one_if_out c.is_some.result ≡ one_if_out (is_some c.args.before.out) = ap one_if_out c.is_some.ensures in
    let same : c.is_some-2.result ≡ is_some now.out =
    c.is_some-2.ensures ∙ ap (λ (p : Place). is_some p.out) (get_or_from_slice_get c.args.places.now c.args.number now _ changed.here) in
    let is : one_if_out c.is_some-2.result ≡ one_if_out (is_some now.out) = ap one_if_out same in
    record {
      alive = c.reckon.ensures;
      inside = c.reckon-2.ensures;
      unmarked = c.reckon-3.ensures;
      out = omega (arith, c.counted-self.ensures, was, is, changed.counts, are.out);
    }
