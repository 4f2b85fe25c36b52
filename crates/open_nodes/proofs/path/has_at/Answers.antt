use Rattle.std.proofs.Common.{◌≡◌, ◌∙◌, length, refl, sym, ap}
use Rattle.std.specs.Prelude.{Some, slice_get}
use Rattle.std.proofs.lemmas.Option.{same_Some, slice_get_read, slice_get_past}
use Rattle.open_nodes.proofs.Paths.{no_true, no_some}
use Rattle.open_nodes.proofs.path.has_at.Goals as goal

pub returns-in-Some : goal.returns-in-Some
returns-in-Some c =
    let ds = c.args.decisions.now in
    let l = c.in-Some.ensures.lookup in
    let there : slice_get ds c.args.place ≡ Some c.in-Some.other.now = slice_get_read ds (length ds) c.args.place c.in-Some.other.now refl l.3.0 l.1 in
    (λ yes. there ∙ ap Some (c.is_same.ensures.0 yes), λ is. c.is_same.ensures.1 (same_Some c.in-Some.other.now c.args.decision (sym there ∙ is)))

pub returns-in-None : goal.returns-in-None
returns-in-None c = (λ no. absurd (no_true no), λ is. absurd (no_some c.args.decision (sym (slice_get_past c.args.decisions.now c.args.place c.in-None.ensures.lookup.3) ∙ is)))
