use Rattle.std.proofs.Common.{◌≡◌, ◌∙◌, ℕ, List, refl, sym, ap, subst}
use Rattle.disp_model.specs.declared.train.Operation.{Operation}
use Rattle.disp_model.specs.Valid.{train_at}
use Rattle.train_orders.specs.Orders.{IsOrder}
use Rattle.route_marks.specs.Ways.{last_of}
use Rattle.route_marks.specs.Marks.{IsLaid, HasMarks, HasSums}
use Rattle.route_sets.proofs.Answering.{train_read, is_inside, found, none_are, is_laid, some_are}
use Rattle.route_sets.proofs.routes.routes_by.Goals as goal

pub sweep-requires-clause-inside : goal.sweep-requires-clause-inside
sweep-requires-clause-inside c =
    let operations = c.as_slice-operations.result.now in
    let e : train_at c.args.problem.now c.args.train ≡ operations = train_read c.args.problem.now.trains c.as_slice.result.now c.args.train c.index-as_slice-train.result operations c.as_slice.ensures c.index-as_slice-train.is c.as_slice-operations.ensures c.requires.there in
    is_inside c.args.problem.now c.args.train operations e c.requires.there

pub returns-then-not-swept : goal.returns-then-not-swept
returns-then-not-swept c =
    let problem = c.args.problem.now in
    let operations = c.as_slice-operations.result.now in
    let e : train_at problem c.args.train ≡ operations = train_read problem.trains c.as_slice.result.now c.args.train c.index-as_slice-train.result operations c.as_slice.ensures c.index-as_slice-train.is c.as_slice-operations.ensures c.requires.there in
    let is = found problem c.args.fixings.now c.args.decisions.now c.args.train operations c.in_ok-asks.asks.items c.deref.result.now c.args.order.items c.deref-2.result.now c.in_ok-swept.swept e c.requires.there c.in_ok-asks.ensures (subst (λ (l : List Operation). IsOrder l c.args.order.items) e c.requires.order) c.deref.ensures.value c.deref-2.ensures.value c.in_ok-swept.ensures in
    none_are problem c.args.fixings.now c.args.decisions.now c.args.train c.in_ok-asks.asks.items c.args.order.items c.in_ok-swept.swept _ is c.if-not-swept.true refl c.new.ensures.items c.new-then-not-swept.ensures.items

pub passed_of-requires-clause-laid : goal.passed_of-requires-clause-laid
passed_of-requires-clause-laid c =
    let problem = c.args.problem.now in
    let operations = c.as_slice-operations.result.now in
    let e : train_at problem c.args.train ≡ operations = train_read problem.trains c.as_slice.result.now c.args.train c.index-as_slice-train.result operations c.as_slice.ensures c.index-as_slice-train.is c.as_slice-operations.ensures c.requires.there in
    let is = found problem c.args.fixings.now c.args.decisions.now c.args.train operations c.in_ok-asks.asks.items c.deref.result.now c.args.order.items c.deref-2.result.now c.in_ok-swept.swept e c.requires.there c.in_ok-asks.ensures (subst (λ (l : List Operation). IsOrder l c.args.order.items) e c.requires.order) c.deref.ensures.value c.deref-2.ensures.value c.in_ok-swept.ensures in
    subst (λ (l : List ℕ). IsLaid operations l c.in_ok-swept.swept.rows) (sym c.deref-4.ensures.value)
    (subst (λ (l : List Operation). IsLaid l c.args.order.items c.in_ok-swept.swept.rows) e (is_laid problem c.args.fixings.now c.args.decisions.now c.args.train c.in_ok-asks.asks.items c.args.order.items c.in_ok-swept.swept is c.if-not-swept.false))

pub returns : goal.returns
returns c =
    let problem = c.args.problem.now in
    let operations = c.as_slice-operations.result.now in
    let e : train_at problem c.args.train ≡ operations = train_read problem.trains c.as_slice.result.now c.args.train c.index-as_slice-train.result operations c.as_slice.ensures c.index-as_slice-train.is c.as_slice-operations.ensures c.requires.there in
    let is = found problem c.args.fixings.now c.args.decisions.now c.args.train operations c.in_ok-asks.asks.items c.deref.result.now c.args.order.items c.deref-2.result.now c.in_ok-swept.swept e c.requires.there c.in_ok-asks.ensures (subst (λ (l : List Operation). IsOrder l c.args.order.items) e c.requires.order) c.deref.ensures.value c.deref-2.ensures.value c.in_ok-swept.ensures in
    let passed = c.in_ok-passed.passed in
    let sums : HasSums operations c.args.order.items c.in_ok-swept.swept.rows passed.sums.items = subst (λ (l : List ℕ). HasSums operations l c.in_ok-swept.swept.rows passed.sums.items) c.deref-4.ensures.value c.in_ok-passed.ensures.sums in
    let marks : HasMarks operations c.args.order.items c.in_ok-swept.swept.rows passed.marks.items = subst (λ (l : List ℕ). HasMarks operations l c.in_ok-swept.swept.rows passed.marks.items) c.deref-4.ensures.value c.in_ok-passed.ensures.marks in
    some_are problem c.args.fixings.now c.args.decisions.now c.args.train c.in_ok-asks.asks.items c.args.order.items c.in_ok-swept.swept _ is c.if-not-swept.false refl (c.last_of.ensures ∙ ap last_of c.deref-6.ensures.value)
    (subst (λ (l : List Operation). HasSums l c.args.order.items c.in_ok-swept.swept.rows passed.sums.items) (sym e) sums)
    (subst (λ (l : List Operation). HasMarks l c.args.order.items c.in_ok-swept.swept.rows passed.marks.items) (sym e) marks) refl refl
