use Rattle.std.proofs.Common.{◌≡◌, ℕ, List, get_or, sym, subst}
use Rattle.std.specs.Prelude.{Contains, ◌↔◌}
use Rattle.std.proofs.lemmas.Option.{slice_get-get_or}
use Rattle.std.proofs.lemmas.List.Elements.{Contains-get_or}
use Rattle.disp_model.specs.Train.{next_of, IsSuccessor}
use Rattle.train_orders.proofs.Searching.{next_at}
use Rattle.node_facts.specs.Live.{IsLiveStep}
use Rattle.node_facts.proofs.Marking.{rows_more}
use Rattle.node_facts.proofs.needed.rows_of.Goals as goal

pub bounds-train-number : goal.bounds-train-number
bounds-train-number c =
    c.requires.is_behind.within (get_or c.args.order.now c.loop-number.number-index 0)
    (Contains-get_or c.args.order.now c.loop-number.number-index 0 c.loop-number-test.true)

pub loop-number-preserved : goal.loop-number-preserved
loop-number-preserved c =
    let train = c.args.train.now in
    let order = c.args.order.now in
    let i = c.loop-number.number-index in
    let o : ℕ = get_or order i 0 in
    let row : List ℕ = c.in_ok-row.row in
    let kept : ℕ → Type 0 = IsLiveStep c.args.places.now c.args.demands.now c.args.sums.now o in
    let there = c.requires.is_behind.within o (Contains-get_or order i 0 c.loop-number-test.true) in
    let next : next_of train o ≡ c.index-train-number.result.next = next_at train o c.index-train-number.result c.index-train-number.is there in
    let says : (s : ℕ) → Contains row s ↔ (IsSuccessor train o s × kept s) =
    subst (λ (l : List ℕ). (s : ℕ) → Contains row s ↔ (Contains l s × kept s)) (sym next) c.in_ok-row.ensures in
    rw c.in_ok-push.ensures.ok
    (rows_more train order c.args.places.now c.args.demands.now c.args.sums.now i o c.loop-number.rows row
    (slice_get-get_or order i 0 c.loop-number-test.true) says c.loop-number.invariant)
