use Rattle.std.proofs.Common.{rules}
use Rattle.std.proofs.lemmas.List.Sorted.{answers_always, IsPermutation-trans}
use Rattle.plan_builder.proofs.Ordering.{falls}
use Rattle.plan_builder.proofs.order.last_first.Goals as goal

pub returns-clause-same : goal.returns-clause-same
returns-clause-same c = IsPermutation-trans _ _ _ c.in_ok-sort_by_key.ensures.permutation c.reverse.ensures.permutation

pub returns-clause-falling : goal.returns-clause-falling
returns-clause-falling c = rw c.reverse.ensures.items
    (falls _ (c.in_ok-sort_by_key.ensures.sorted (λ s. (s.event.time, s.event.train, s.event.operation)) (answers_always _ _ _ (λ f a r g h. search rules))))
