use Rattle.std.proofs.Common.{◌≡◌, ◌+◌, ℕ, [], ◌∷◌, ◌++◌, Some, sym, ◌∙◌, ap}
use Rattle.std.proofs.lemmas.Option.{same_Some}
use Rattle.incremental_paths.specs.declared.arc.Arc.{Arc}
use Rattle.route_sets.specs.Sets.{op_of_train}
use Rattle.event_arcs.proofs.Joining.{joins_given, joins_push}
use Rattle.event_arcs.proofs.chains.join.Goals as goal

arc_to : ℕ → ℕ → ℕ → Arc
arc_to from to length = record { from = from; to = to; length = length }

pub returns-then-had : goal.returns-then-had
returns-then-had c = λ node t sum given by_old are first_is one other arc.
    let found : c.least_between-sum.result ≡ Some sum = (c.least_between-sum.ensures node t are sum).1 (one, other, arc) in
    joins_given node (op_of_train t c.args.before) (op_of_train t c.args.op) sum given c.args.arcs.now.items (c.had.ensures node t sum given by_old found c.if-had.true)

pub returns-in_ok-push : goal.returns-in_ok-push
unfolding arc_to
returns-in_ok-push c = λ node t sum given by_old are first_is one other arc.
    let found : c.least_between-sum.result ≡ Some sum = (c.least_between-sum.ensures node t are sum).1 (one, other, arc) in
    let same = same_Some c.in-Some.length sum (sym c.in-Some.is ∙ found) in
    joins_push node t c.args.before c.args.op c.args.first sum given c.args.arcs.now.items c.push.new.self.items first_is one other arc
    (c.in_ok-push.ensures.items ∙ ap (λ (n : ℕ). c.args.arcs.now.items ++ arc_to (c.args.first + c.args.before) (c.args.first + c.args.op) n ∷ []) same)

pub returns-in_default : goal.returns-in_default
returns-in_default c = λ node t sum given by_old are first_is one other arc. absurd (c.in_default.not-Some sum ((c.least_between-sum.ensures node t are sum).1 (one, other, arc)))
