use Rattle.std.proofs.Common.{◌≡◌, ◌∙◌, ◌+◌, ◌-◌, suc, length, refl, sym, arith}
use Rattle.std.specs.Prelude.{Some, None, slice_get}
use Rattle.std.proofs.lemmas.Option.{slice_get_read}
use Rattle.open_nodes.proofs.Paths.{no_true}
use Rattle.open_nodes.proofs.Walking.{none_left, none_there, sought_here, sought_behind}
use Rattle.open_nodes.proofs.walk.first_sought.Goals as goal

pub returns-in_default-get : goal.returns-in_default-get
returns-in_default-get c =
    let places = c.args.places.now in
    let one : length places - c.loop.counter ≡ suc (length places - (c.loop.counter + 1)) = omega (arith, c.loop-test.true) in
    c.loop.invariant None (rw c.in-Some.is (none_there places c.args.best c.args.edition c.in-Some.number (length places - (c.loop.counter + 1)) (length places - c.loop.counter) one c.in_default-get.ensures.lookup.3))

pub returns-then-is_sought : goal.returns-then-is_sought
returns-then-is_sought c =
    let places = c.args.places.now in
    let p = c.in-Some-get.place.now in
    let l = c.in-Some-get.ensures.lookup in
    let one : length places - c.loop.counter ≡ suc (length places - (c.loop.counter + 1)) = omega (arith, c.loop-test.true) in
    let there : slice_get places c.in-Some.number ≡ Some p = slice_get_read places (length places) c.in-Some.number p refl l.3.0 l.1 in
    c.loop.invariant _ (rw c.in-Some.is (sought_here places c.args.best c.args.edition c.in-Some.number (length places - (c.loop.counter + 1)) (length places - c.loop.counter) one p there (c.is_sought.ensures.0 c.if-is_sought.true)))

pub loop-preserved : goal.loop-preserved
loop-preserved c =
    let places = c.args.places.now in
    let p = c.in-Some-get.place.now in
    let l = c.in-Some-get.ensures.lookup in
    let one : length places - c.loop.counter ≡ suc (length places - (c.loop.counter + 1)) = omega (arith, c.loop-test.true) in
    let there : slice_get places c.in-Some.number ≡ Some p = slice_get_read places (length places) c.in-Some.number p refl l.3.0 l.1 in
    λ found has. c.loop.invariant found (rw c.in-Some.is (sought_behind places c.args.best c.args.edition c.in-Some.number (length places - (c.loop.counter + 1)) (length places - c.loop.counter) one p there
    (λ sought. no_true (sym c.if-is_sought.false ∙ c.is_sought.ensures.1 sought)) found has))

pub returns : goal.returns
returns c =
    let places = c.args.places.now in
    c.loop.invariant None (none_left places c.args.best c.args.edition c.loop.at (length places - c.loop.counter) (omega (arith, c.loop-test.false)))
