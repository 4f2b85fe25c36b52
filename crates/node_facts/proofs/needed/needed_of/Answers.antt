use Rattle.std.proofs.Common.{ℕ, List, map, Bool, Option, refl, sym, subst}
use Rattle.std.specs.Prelude.{IsSome}
use Rattle.std.specs.Option.{is_some}
use Rattle.std.proofs.lemmas.Bool.{false≢true}
use Rattle.std.proofs.lemmas.Result.{IfOk-weaker}
use Rattle.route_marks.specs.declared.marks.Mark.{Mark}
use Rattle.route_marks.specs.Marks.{HasMarks, sum_at}
use Rattle.node_facts.specs.Known.{AreOnEach}
use Rattle.route_marks.specs.Ways.{last_of}
use Rattle.node_facts.proofs.Marking.{laid, needed_all, needed_marks}
use Rattle.node_facts.proofs.needed.needed_of.Goals as goal

pub returns-then-not-has_way : goal.returns-then-not-has_way
returns-then-not-has_way c =
    IfOk-weaker c.all_marked.result _ _
    (λ marks is.
    needed_all c.args.train.now c.args.order.now c.args.places.now c.args.demands.now c.args.sums.now c.args.entry marks.items
    c.requires.sums (λ some. false≢true (c.if-not-has_way.ensures.1 some)) is)
    c.all_marked.ensures

pub passed_of-requires-clause-laid : goal.passed_of-requires-clause-laid
passed_of-requires-clause-laid c =
    let entry : IsSome (sum_at c.args.sums.now (last_of c.args.order.now)) =
    subst (λ (e : ℕ). IsSome (sum_at c.args.sums.now e)) c.requires.entry (c.if-not-has_way.ensures.0 refl) in
    laid c.args.train.now c.args.order.now c.args.places.now c.args.demands.now c.args.sums.now c.in_ok-rows.rows
    c.requires.acyclic c.requires.order c.requires.sums c.in_ok-rows.ensures c.requires.fits entry

pub returns : goal.returns
returns c =
    let train = c.args.train.now in
    let order = c.args.order.now in
    let places = c.args.places.now in
    let demands = c.args.demands.now in
    let sums = c.args.sums.now in
    let marks : List (Option Mark) = c.deref.result.now in
    let has : HasMarks train order c.in_ok-rows.rows marks =
    subst (λ (l : List (Option Mark)). HasMarks train order c.in_ok-rows.rows l) (sym c.deref.ensures.value) c.in_ok-passed.ensures.marks in
    let entry : IsSome (sum_at sums (last_of order)) = subst (λ (e : ℕ). IsSome (sum_at sums e)) c.requires.entry (c.if-not-has_way.ensures.0 refl) in
    let each : AreOnEach train places demands c.args.entry (map is_some marks) =
    subst (λ (e : ℕ). AreOnEach train places demands e (map is_some marks)) (sym c.requires.entry)
    (needed_marks train order places demands sums c.in_ok-rows.rows c.requires.acyclic c.requires.order c.requires.sums c.in_ok-rows.ensures c.requires.fits entry marks has) in
    IfOk-weaker c.marked.result _ _ (λ found is. subst (λ (l : List Bool). AreOnEach train places demands c.args.entry l) (sym is) each) c.marked.ensures
