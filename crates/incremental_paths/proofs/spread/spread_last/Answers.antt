use Rattle.std.proofs.Common.{◌≡◌, ℕ, List, inl, inr, ◌<◌, length, get_or, ap, sym, subst, arith}
use Rattle.std.proofs.lemmas.Bool.{cases_eq}
use Rattle.incremental_paths.specs.declared.arc.Arc.{Arc}
use Rattle.incremental_paths.specs.Spread.{AreSpread, SpreadsOne}
use Rattle.incremental_paths.proofs.Telling.{tells_both}
use Rattle.incremental_paths.proofs.Pushing.{lone, waiting_last}
use Rattle.incremental_paths.proofs.Spreading.{reached_fits, reached_one, one_only, one_spread, last_in, spread_push}
use Rattle.incremental_paths.proofs.spread.spread_last.Goals as goal

pub raise_end-requires-clause-fits : goal.raise_end-requires-clause-fits
raise_end-requires-clause-fits g c =
    let arcs = c.args.arcs.now in
    let has = last_in arcs c.requires.last.0 c.args.arc c.requires.last.1 in
    let within = c.requires.within has.0 c.args.arc has.1 in
    let from : c.args.arc.from < length c.args.lengths.now = omega (arith, within.0, ap (λ (z : Arc). z.from) has.2) in
    reached_fits c.requires.reached.0 arcs c.args.lengths.now c.requires.reached.1 c.args.arc has from c.requires.reached.2

pub push_on-requires-clause-reached : goal.push_on-requires-clause-reached
push_on-requires-clause-reached g c =
    let arcs = c.args.arcs.now in
    let has = last_in arcs c.requires.last.0 c.args.arc c.requires.last.1 in
    let within = c.requires.within has.0 c.args.arc has.1 in
    let from : c.args.arc.from < length c.args.lengths.now = omega (arith, within.0, ap (λ (z : Arc). z.from) has.2) in
    let to : c.args.arc.to < length c.args.lengths.now = omega (arith, within.1, ap (λ (z : Arc). z.to) has.2) in
    (c.requires.reached.0, reached_one c.requires.reached.0 arcs c.args.lengths.now c.requires.reached.1 c.args.arc has from c.raise_end.new.lengths to c.raise_end.ensures.spreads, c.requires.reached.2)

-- only the arc's end may have grown
only_end : (a : Arc) (before after : List ℕ) → SpreadsOne a before after → (v : ℕ) → (get_or before v 0 ≡ get_or after v 0 → ⊥) → v ≡ a.to
only_end a before after one v differs = elim (cases_eq v a.to) [ inl same ↦ same | inr other ↦ absurd (differs (one_only a before after one v other)) ]

pub push_on-requires-clause-waiting : goal.push_on-requires-clause-waiting
push_on-requires-clause-waiting g c =
    let arcs = c.args.arcs.now in
    let arc = c.args.arc in
    let old = c.args.lengths.now in
    let new = c.raise_end.new.lengths in
    let places = c.args.order.now in
    let has = last_in arcs c.requires.last.0 arc c.requires.last.1 in
    let within = c.requires.within has.0 arc has.1 in
    let to : arc.to < length old = omega (arith, within.1, ap (λ (z : Arc). z.to) has.2) in
    let up : get_or places arc.from 0 < get_or places arc.to 0 = subst (λ (z : Arc). get_or places z.from 0 < get_or places z.to 0) has.2 (c.requires.rising has.0 arc has.1) in
    waiting_last c.raise_end.new.changes old new c.args.changes.now (length old) c.requires.cleared c.raise_end.ensures.tells arc.to (only_end arc old new c.raise_end.ensures.spreads) arcs c.requires.last.0 arc places c.requires.last.1 c.requires.last.2
    (one_spread arc old new to (λ e. absurd (omega (arith, up, ap (λ z. get_or places z 0) e))) c.raise_end.ensures.spreads)

pub push_on-requires-clause-lone : goal.push_on-requires-clause-lone
push_on-requires-clause-lone g c =
    lone c.raise_end.new.changes c.args.lengths.now c.raise_end.new.lengths c.args.changes.now (length c.args.lengths.now) c.requires.cleared c.raise_end.ensures.tells c.args.arc.to (only_end c.args.arc c.args.lengths.now c.raise_end.new.lengths c.raise_end.ensures.spreads)

pub returns-then-raise_end-clause-reached : goal.returns-then-raise_end-clause-reached
returns-then-raise_end-clause-reached g c = λ lowers r.
    let arcs = c.args.arcs.now in
    let has = last_in arcs c.requires.last.0 c.args.arc c.requires.last.1 in
    let within = c.requires.within has.0 c.args.arc has.1 in
    let from : c.args.arc.from < length c.args.lengths.now = omega (arith, within.0, ap (λ (z : Arc). z.from) has.2) in
    let to : c.args.arc.to < length c.args.lengths.now = omega (arith, within.1, ap (λ (z : Arc). z.to) has.2) in
    c.push_on.ensures.reached lowers (reached_one lowers arcs c.args.lengths.now r c.args.arc has from c.raise_end.new.lengths to c.raise_end.ensures.spreads)

pub returns-else-raise_end-clause-reached : goal.returns-else-raise_end-clause-reached
returns-else-raise_end-clause-reached g c = λ lowers r.
    let arcs = c.args.arcs.now in
    let has = last_in arcs c.requires.last.0 c.args.arc c.requires.last.1 in
    let within = c.requires.within has.0 c.args.arc has.1 in
    let from : c.args.arc.from < length c.args.lengths.now = omega (arith, within.0, ap (λ (z : Arc). z.from) has.2) in
    let to : c.args.arc.to < length c.args.lengths.now = omega (arith, within.1, ap (λ (z : Arc). z.to) has.2) in
    reached_one lowers arcs c.args.lengths.now r c.args.arc has from c.raise_end.new.lengths to c.raise_end.ensures.spreads

pub returns-then-raise_end-clause-tells : goal.returns-then-raise_end-clause-tells
returns-then-raise_end-clause-tells g c = tells_both c.args.changes.now c.raise_end.new.changes c.push_on.new.changes c.args.lengths.now c.raise_end.new.lengths c.push_on.new.lengths c.raise_end.ensures.tells c.push_on.ensures.tells

pub returns-else-raise_end-clause-spread : goal.returns-else-raise_end-clause-spread
returns-else-raise_end-clause-spread g c =
    let arcs = c.args.arcs.now in
    let arc = c.args.arc in
    let old = c.args.lengths.now in
    let places = c.args.order.now in
    let has = last_in arcs c.requires.last.0 arc c.requires.last.1 in
    let within = c.requires.within has.0 arc has.1 in
    let to : arc.to < length old = omega (arith, within.1, ap (λ (z : Arc). z.to) has.2) in
    let up : get_or places arc.from 0 < get_or places arc.to 0 = subst (λ (z : Arc). get_or places z.from 0 < get_or places z.to 0) has.2 (c.requires.rising has.0 arc has.1) in
    let here = one_spread arc old c.raise_end.new.lengths to (λ e. absurd (omega (arith, up, ap (λ z. get_or places z 0) e))) c.raise_end.ensures.spreads in
    let same = c.raise_end.ensures.spread c.if-raise_end.false in
    spread_push arcs c.requires.last.0 arc c.raise_end.new.lengths c.requires.last.1 (subst (AreSpread c.requires.last.0) (sym same) c.requires.last.2) here
