use Rattle.std.proofs.Common.{◌≡◌, ℕ, ◌<◌, ◌≤◌, length, get_or, false, Some, sym, subst, ◌∙◌, arith}
use Rattle.std.specs.Prelude.{slice_get}
use Rattle.std.proofs.lemmas.Bool.{false≢true}
use Rattle.std.proofs.lemmas.List.{get_or_read}
use Rattle.disp_model.specs.Train.{next_of}
use Rattle.train_orders.specs.Orders.{IsOpened}
use Rattle.train_orders.proofs.Places.{contains_at}
use Rattle.train_orders.proofs.Searching.{at_within, successor_at, successor_within, past_all, in_order, passes, all_passed, fewer_unpassed, next_at}
use Rattle.train_orders.proofs.Stepping.{opens_step, closes_step}
use Rattle.train_orders.proofs.order.step.Goals as goal

pub index-passed-requires : goal.index-passed-requires
index-passed-requires c = omega (arith, at_within c.args.train.now _ _ _ _ c.args.at c.requires.searches c.requires.at, c.requires.searches.passed_long)

pub bounds-train-at : goal.bounds-train-at
bounds-train-at c = at_within c.args.train.now _ _ _ _ c.args.at c.requires.searches c.requires.at

pub index-requires : goal.index-requires
index-requires c =
    let lt : c.args.at < length c.args.train.now = at_within c.args.train.now _ _ _ _ c.args.at c.requires.searches c.requires.at in
    let within = successor_within c.args.train.now c.args.at c.index-passed.result.now c.in-Some.next c.index-train-at.result c.requires.inside c.index-train-at.is lt (sym c.successor.ensures.value ∙ c.in-Some.is) in
    omega (arith, within, c.requires.searches.opened_long)

pub index_mut-requires : goal.index_mut-requires
index_mut-requires c = omega (arith, at_within c.args.train.now _ _ _ _ c.args.at c.requires.searches c.requires.at, c.requires.searches.passed_long)

pub open-requires : goal.open-requires
open-requires c =
    let lt : c.args.at < length c.args.train.now = at_within c.args.train.now _ _ _ _ c.args.at c.requires.searches c.requires.at in
    let within = successor_within c.args.train.now c.args.at c.index-passed.result.now c.in-Some.next c.index-train-at.result c.requires.inside c.index-train-at.is lt (sym c.successor.ensures.value ∙ c.in-Some.is) in
    omega (arith, within, c.requires.searches.opened_long)

pub returns-then-index : goal.returns-then-index
returns-then-index c =
    let train = c.args.train.now in
    let search = c.args.search.now in
    let at = c.args.at in
    let lt : at < length train = at_within train _ _ _ _ at c.requires.searches c.requires.at in
    let read : c.index-passed.result.now ≡ get_or search.passed.items at 0 = get_or_read search.passed.items at c.index-passed.result.now (omega (arith, lt, c.requires.searches.passed_long)) c.index-passed.ensures 0 in
    let here : slice_get (next_of train at) (get_or search.passed.items at 0) ≡ Some c.in-Some.next =
    subst (λ (k : ℕ). slice_get (next_of train at) k ≡ Some c.in-Some.next) read
    (successor_at train at c.index-passed.result.now c.in-Some.next c.index-train-at.result c.index-train-at.is lt (sym c.successor.ensures.value ∙ c.in-Some.is)) in
    let within : c.in-Some.next < length train = successor_within train at c.index-passed.result.now c.in-Some.next c.index-train-at.result c.requires.inside c.index-train-at.is lt (sym c.successor.ensures.value ∙ c.in-Some.is) in
    let opened : IsOpened search.opened.items c.in-Some.next = sym (get_or_read search.opened.items c.in-Some.next c.index.result.now (omega (arith, within, c.requires.searches.opened_long)) c.index.ensures false) ∙ c.if-index.true in
    let done = in_order train search.opened.items search.passed.items search.path.items search.order.items at c.in-Some.next c.requires.acyclic c.requires.searches c.requires.at (contains_at (next_of train at) c.in-Some.next (get_or search.passed.items at 0) here) opened in
    record {
      searches = rw read (passes train search.opened.items search.passed.items search.path.items search.order.items at c.in-Some.next c.requires.searches here done);
      opened = λ o is. is;
      less = rw read (omega (arith, fewer_unpassed train search.passed.items at c.in-Some.next c.requires.searches.passed_long here));
    }

pub returns-in_ok-open-in-Some : goal.returns-in_ok-open-in-Some
returns-in_ok-open-in-Some c =
    let train = c.args.train.now in
    let search = c.args.search.now in
    let at = c.args.at in
    let lt : at < length train = at_within train _ _ _ _ at c.requires.searches c.requires.at in
    let place : slice_get (next_of train at) c.index-passed.result.now ≡ Some c.in-Some.next = successor_at train at c.index-passed.result.now c.in-Some.next c.index-train-at.result c.index-train-at.is lt (sym c.successor.ensures.value ∙ c.in-Some.is) in
    let within : c.in-Some.next < length train = successor_within train at c.index-passed.result.now c.in-Some.next c.index-train-at.result c.requires.inside c.index-train-at.is lt (sym c.successor.ensures.value ∙ c.in-Some.is) in
    let inside : c.in-Some.next < length search.opened.items = omega (arith, within, c.requires.searches.opened_long) in
    let closed : get_or search.opened.items c.in-Some.next false ≡ false = sym (get_or_read search.opened.items c.in-Some.next c.index.result.now inside c.index.ensures false) ∙ c.if-index.false in
    let new : IsOpened search.opened.items c.in-Some.next → ⊥ = λ is. false≢true (sym closed ∙ is) in
    opens_step train search c.open.new.search at c.in-Some.next c.requires.searches c.requires.at (contains_at (next_of train at) c.in-Some.next c.index-passed.result.now place) within new c.in_ok-open-in-Some.ensures

pub returns-in_ok-close-in-None : goal.returns-in_ok-close-in-None
returns-in_ok-close-in-None c =
    let train = c.args.train.now in
    let search = c.args.search.now in
    let at = c.args.at in
    let lt : at < length train = at_within train _ _ _ _ at c.requires.searches c.requires.at in
    let read : c.index-passed.result.now ≡ get_or search.passed.items at 0 = get_or_read search.passed.items at c.index-passed.result.now (omega (arith, lt, c.requires.searches.passed_long)) c.index-passed.ensures 0 in
    let past : length (next_of train at) ≤ get_or search.passed.items at 0 = rw (sym read, next_at train at c.index-train-at.result c.index-train-at.is lt) (past_all c.index-train-at.result.next c.index-passed.result.now (sym c.successor.ensures.value ∙ c.in-None.is)) in
    closes_step train search c.close.new.search at c.requires.acyclic c.requires.searches lt (all_passed train search.opened.items search.passed.items search.path.items search.order.items at c.requires.searches past) c.in_ok-close-in-None.ensures
