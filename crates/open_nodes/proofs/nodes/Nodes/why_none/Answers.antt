use Rattle.std.proofs.Common.{◌≡◌, refl, arith}
use Rattle.std.proofs.lemmas.Bool.{false≢true}
use Rattle.open_nodes.specs.States.{NoneWanted, out_count}
use Rattle.open_nodes.proofs.nodes.Nodes.why_none.Goals as goal

pub returns-then-is_ripe : goal.returns-then-is_ripe
returns-then-is_ripe c = λ free want seen none.
    let s = c.self.inside in
    (rw (← c.self.view_is) ((c.if-is_ripe.ensures s.places.items s.edition c.self.invariant.1).0 refl), refl)

pub returns-then-out-gt0 : goal.returns-then-out-gt0
returns-then-out-gt0 c = λ free want seen none.
    let s = c.self.inside in
    let few : NoneWanted c.args.best c.args.self.now.places → ⊥ =
    rw (← c.self.view_is) (λ ripe. false≢true ((c.if-is_ripe.ensures s.places.items s.edition c.self.invariant.1).1 ripe)) in
    let count : c.count_out-out.result ≡ out_count c.args.self.now.places =
    rw (← c.self.view_is) (c.count_out-out.ensures s.places.items s.edition c.self.invariant.1) in
    (record { wanted = few; none = none }, count, omega (arith, c.if-out-gt0.true), refl)

pub returns-else-out-gt0 : goal.returns-else-out-gt0
returns-else-out-gt0 c = λ free want seen none.
    let s = c.self.inside in
    let few : NoneWanted c.args.best c.args.self.now.places → ⊥ =
    rw (← c.self.view_is) (λ ripe. false≢true ((c.if-is_ripe.ensures s.places.items s.edition c.self.invariant.1).1 ripe)) in
    let count : c.count_out-out.result ≡ out_count c.args.self.now.places =
    rw (← c.self.view_is) (c.count_out-out.ensures s.places.items s.edition c.self.invariant.1) in
    (record { wanted = few; none = none }, omega (arith, c.if-out-gt0.false, count), refl)
