use Rattle.std.proofs.Common.{rules, refl, sym}
use Rattle.std.proofs.lemmas.Slice.Eq.{slice_eq-Decides}
use Rattle.packed_nodes.proofs.Looping.{stripped}
use Rattle.packed_nodes.proofs.check.behind_shared.Goals as goal

pub returns-in-Some : goal.returns-in-Some
returns-in-Some c =
    let same = (slice_eq-Decides (λ a b. search rules) _ _ _ (sym c.in-Some.ensures.cases.0)).0
    refl in
    stripped c.args.shared.now _ c.args.walk.now same c.in-Some.ensures.cases.1
