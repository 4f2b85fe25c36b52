-- A search after one step.
use Rattle.std.proofs.Common.{◌≡◌, ℕ, ◌<◌, List, [], length, ap, subst, arith}
use Rattle.std.specs.Prelude.{Contains}
use Rattle.std.proofs.lemmas.List.{length_push}
use Rattle.disp_model.specs.declared.train.Operation.{Operation}
use Rattle.disp_model.specs.Train.{IsSuccessor}
use Rattle.disp_model.specs.WellFormed.{IsAcyclic}
use Rattle.train_orders.specs.declared.order.Search.{Search}
use Rattle.train_orders.specs.Orders.{IsOpened, IsSearch, IsAt, Searches, Opens, Closes, SearchSteps}
use Rattle.train_orders.proofs.Searching.{step_opens, opens_first, closes, opened_kept, fewer_unopened}

pub opens_step : (train : List Operation) (old new : Search) (at s : ℕ) → Searches train old → IsAt old.path.items at → IsSuccessor train at s → s < length train → (IsOpened old.opened.items s → ⊥) → Opens s old new → SearchSteps train old new
opens_step train old new at s search is_at next lt fresh opening = record {
  searches = rw (opening.opened, opening.passed, opening.path, opening.order) (step_opens train old.opened.items old.passed.items old.path.items old.order.items at s search is_at next lt fresh);
  opened = λ o is. rw opening.opened (opened_kept old.opened.items s o within is);
  less = rw (opening.opened, opening.passed, opening.path) (omega (arith, fewer_unopened old.opened.items s within fresh, length_push old.path.items s));
}
  where
    within : s < length old.opened.items
    within = omega (arith, lt, search.opened_long)

pub first_step : (train : List Operation) (old new : Search) (s : ℕ) → Searches train old → old.path.items ≡ [] → s < length train → (IsOpened old.opened.items s → ⊥) → Opens s old new → Searches train new
first_step train old new s search empty lt fresh opening = rw (opening.opened, opening.passed, opening.path, opening.order) (opens_first train old.opened.items old.passed.items old.path.items old.order.items s search empty lt fresh)

pub closes_step : (train : List Operation) (old new : Search) (at : ℕ) → IsAcyclic train → Searches train old → at < length train → ((s : ℕ) → IsSuccessor train at s → Contains old.order.items s) → Closes at old new → SearchSteps train old new
closes_step train old new at acyclic search lt each closing = record {
  searches = rw (closing.opened, closing.passed, closing.order) (closes train old.opened.items old.passed.items new.path.items old.order.items at acyclic (subst (λ (l : List ℕ). IsSearch train old.opened.items old.passed.items l old.order.items) closing.path search) lt each);
  opened = λ o is. rw closing.opened is;
  less = rw (closing.opened, closing.passed) (omega (arith, ap (λ (l : List ℕ). length l) closing.path, length_push new.path.items at));
}
