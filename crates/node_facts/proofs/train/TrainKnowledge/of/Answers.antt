use Rattle.std.proofs.Common.{◌≡◌, ◌∙◌, ℕ, List, Option, Bool, length, sym, ap, subst, arith}
use Rattle.disp_model.specs.declared.train.Operation.{Operation}
use Rattle.disp_model.specs.Valid.{train_at}
use Rattle.node_facts.specs.declared.demands.Demand.{Demand}
use Rattle.node_facts.specs.Ways.{AreSums}
use Rattle.route_marks.specs.Ways.{last_of}
use Rattle.route_marks.specs.Marks.{ArePlaces}
use Rattle.node_facts.specs.Holders.{AreHolders}
use Rattle.node_facts.specs.Known.{AreOnEach}
use Rattle.node_facts.proofs.Assembling.{train_read, is_inside, train_fits, order_fits, known_of}
use Rattle.node_facts.proofs.Demanding.{asks_about, asks_fixed}
use Rattle.node_facts.proofs.train.TrainKnowledge.of.Goals as goal

pub order_of-requires-clause-inside : goal.order_of-requires-clause-inside
order_of-requires-clause-inside c =
    let operations = c.as_slice-operations.result.now in
    let e : train_at c.args.problem.now c.args.train ≡ operations = train_read c.args.problem.now.trains c.as_slice.result.now c.args.train c.index-as_slice-train.result operations c.as_slice.ensures c.index-as_slice-train.is c.as_slice-operations.ensures c.requires in
    is_inside c.args.problem.now c.args.train operations e c.requires

pub sums_of-requires-clause-fits : goal.sums_of-requires-clause-fits
sums_of-requires-clause-fits c =
    let operations = c.as_slice-operations.result.now in
    let e : train_at c.args.problem.now c.args.train ≡ operations = train_read c.args.problem.now.trains c.as_slice.result.now c.args.train c.index-as_slice-train.result operations c.as_slice.ensures c.index-as_slice-train.is c.as_slice-operations.ensures c.requires in
    order_fits c.args.problem.now c.args.train operations c.in_ok-order.order.items c.deref-3.result.now e c.requires c.in_ok-order.ensures c.deref-3.ensures.value

pub needed_of-requires-clause-fits : goal.needed_of-requires-clause-fits
needed_of-requires-clause-fits c =
    let operations = c.as_slice-operations.result.now in
    let e : train_at c.args.problem.now c.args.train ≡ operations = train_read c.args.problem.now.trains c.as_slice.result.now c.args.train c.index-as_slice-train.result operations c.as_slice.ensures c.index-as_slice-train.is c.as_slice-operations.ensures c.requires in
    order_fits c.args.problem.now c.args.train operations c.in_ok-order.order.items c.deref-6.result.now e c.requires c.in_ok-order.ensures c.deref-6.ensures.value

pub needed_of-requires-clause-sums : goal.needed_of-requires-clause-sums
needed_of-requires-clause-sums c =
    let operations = c.as_slice-operations.result.now in
    let places : List ℕ = c.deref-7.result.now in
    let placed : c.deref-4.result.now ≡ places = c.deref-4.ensures.value ∙ sym c.deref-7.ensures.value in
    let asked : c.deref-5.result.now ≡ c.deref-8.result.now = c.deref-5.ensures.value ∙ sym c.deref-8.ensures.value in
    let found : AreSums operations places c.deref-8.result.now c.in_ok-sums.sums.items =
    subst (λ (l : List Demand). AreSums operations places l c.in_ok-sums.sums.items) asked
    (subst (λ (l : List ℕ). AreSums operations l c.deref-5.result.now c.in_ok-sums.sums.items) placed c.in_ok-sums.ensures.sums) in
    subst (λ (l : List (Option ℕ)). AreSums operations places c.deref-8.result.now l) (sym c.deref-9.ensures.value) found

pub holders_of-requires-clause-inside : goal.holders_of-requires-clause-inside
holders_of-requires-clause-inside c =
    let operations = c.as_slice-operations.result.now in
    let e : train_at c.args.problem.now c.args.train ≡ operations = train_read c.args.problem.now.trains c.as_slice.result.now c.args.train c.index-as_slice-train.result operations c.as_slice.ensures c.index-as_slice-train.is c.as_slice-operations.ensures c.requires in
    is_inside c.args.problem.now c.args.train operations e c.requires

pub holders_of-requires-clause-fits : goal.holders_of-requires-clause-fits
holders_of-requires-clause-fits c =
    let operations = c.as_slice-operations.result.now in
    let e : train_at c.args.problem.now c.args.train ≡ operations = train_read c.args.problem.now.trains c.as_slice.result.now c.args.train c.index-as_slice-train.result operations c.as_slice.ensures c.index-as_slice-train.is c.as_slice-operations.ensures c.requires in
    let long = ap (λ (l : List Operation). length l) e in
    omega (arith, long, train_fits c.args.problem.now c.args.train c.requires)

pub returns : goal.returns
returns c =
    let problem = c.args.problem.now in
    let operations = c.as_slice-operations.result.now in
    let demands = c.in_ok-demands.demands.items in
    let places = c.in_ok-places.places.items in
    let order = c.in_ok-order.order.items in
    let e : train_at problem c.args.train ≡ operations = train_read problem.trains c.as_slice.result.now c.args.train c.index-as_slice-train.result operations c.as_slice.ensures c.index-as_slice-train.is c.as_slice-operations.ensures c.requires in
    let placed : ArePlaces operations order places = subst (λ (l : List ℕ). ArePlaces operations l places) c.deref.ensures.value c.in_ok-places.ensures in
    let entry : c.last_of-entry.result ≡ last_of order = c.last_of-entry.ensures ∙ ap last_of c.deref-2.ensures.value in
    let sums : AreSums operations places demands c.in_ok-sums.sums.items =
    subst (λ (l : List ℕ). AreSums operations l demands c.in_ok-sums.sums.items) c.deref-4.ensures.value (subst (λ (l : List Demand). AreSums operations c.deref-4.result.now l c.in_ok-sums.sums.items) c.deref-5.ensures.value c.in_ok-sums.ensures.sums) in
    let needed : AreOnEach operations places demands c.last_of-entry.result c.in_ok-needed.needed.items =
    subst (λ (l : List ℕ). AreOnEach operations l demands c.last_of-entry.result c.in_ok-needed.needed.items) c.deref-7.ensures.value
    (subst (λ (l : List Demand). AreOnEach operations c.deref-7.result.now l c.last_of-entry.result c.in_ok-needed.needed.items) c.deref-8.ensures.value c.in_ok-needed.ensures) in
    let asked =
    asks_fixed c.args.train c.about-fixed.result.now c.args.fixings.now c.args.decisions.now demands c.about-fixed.ensures
    (asks_about c.args.train c.about-fixed.result.now c.about.result.now c.args.decisions.now demands c.about.ensures c.in_ok-demands.ensures) in
    let held : AreHolders operations places demands c.in_ok-sums.sums.items c.in_ok-needed.needed.items c.in_ok-holders.holders.items =
    subst (λ (l : List ℕ). AreHolders operations l demands c.in_ok-sums.sums.items c.in_ok-needed.needed.items c.in_ok-holders.holders.items) c.deref-10.ensures.value
    (subst (λ (l : List Demand). AreHolders operations c.deref-10.result.now l c.in_ok-sums.sums.items c.in_ok-needed.needed.items c.in_ok-holders.holders.items) c.deref-11.ensures.value
    (subst (λ (l : List (Option ℕ)). AreHolders operations c.deref-10.result.now c.deref-11.result.now l c.in_ok-needed.needed.items c.in_ok-holders.holders.items) c.deref-12.ensures.value
    (subst (λ (l : List Bool). AreHolders operations c.deref-10.result.now c.deref-11.result.now c.deref-12.result.now l c.in_ok-holders.holders.items) c.deref-13.ensures.value c.in_ok-holders.ensures))) in
    known_of problem c.args.fixings.now c.args.decisions.now c.args.train operations _ e c.requires asked c.in_ok-order.ensures placed entry c.in_ok-sums.ensures.long sums needed held
