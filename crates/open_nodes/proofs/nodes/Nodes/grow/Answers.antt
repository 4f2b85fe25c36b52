use Rattle.std.proofs.Common.{◌≡◌, ◌∙◌, ◌-◌, ◌<◌, ℕ, List, sym, ap, subst, length}
use Rattle.std.specs.Prelude.{Some, slice_get}
use Rattle.open_nodes.specs.declared.place.Place.{Place}
use Rattle.open_nodes.specs.Grafts.{AllStand}
use Rattle.open_nodes.specs.States.{State, ForOut}
use Rattle.open_nodes.proofs.Growing.{made_stand, made_some}
use Rattle.open_nodes.proofs.nodes.Nodes.grow.Goals as goal

pub put-requires-clause-stand : goal.put-requires-clause-stand
put-requires-clause-stand c =
    let state = c.args.self.now in
    let f = c.args.fragment in
    λ place there. subst (λ (grown : List Place). AllStand (length state.places - 1) place.above grown)
    (sym (c.deref-2.ensures.value ∙ (c.in-Ok.ensures place there).grown_is))
    (made_stand c.args.problem.now (length state.places - 1) (length state.kept) c.in-Some.number place f.subtree f.bounds)

pub put-requires-clause-some : goal.put-requires-clause-some
put-requires-clause-some c =
    let state = c.args.self.now in
    let f = c.args.fragment in
    let out : ForOut c.deref.result.now f.work = c.in-Some.ensures.1 in
    let same : c.deref.result.now ≡ state.places = c.deref.ensures.value ∙ ap (λ (s : State). s.places) c.self.view_is in
    let there : slice_get state.places c.in-Some.number ≡ Some out.0 =
    ap (λ (ps : List Place). slice_get ps c.in-Some.number) (sym same) ∙ ap (λ (n : ℕ). slice_get c.deref.result.now n) c.in-Some.ensures.0 ∙ out.1.there in
    subst (λ (grown : List Place). 0 < length grown)
    (sym (c.deref-2.ensures.value ∙ (c.in-Ok.ensures out.0 there).grown_is))
    (made_some c.args.problem.now (length state.places - 1) (length state.kept) c.in-Some.number out.0 f.subtree f.bounds)
