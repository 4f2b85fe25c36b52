-- Parts of a reply, for private clauses.
use Rattle.std.specs.Prelude.{◌≡◌, ℕ, ◌<◌, ◌≤◌, List, Some, None, MatchOption, IfSome, slice_get}
use Rattle.disp_model.specs.declared.train.Operation.{Operation}
use Rattle.disp_model.specs.declared.fixing.Change.{Change}
use Rattle.disp_model.specs.declared.fixing.Fixing.TheVariants.{Started}
use Rattle.disp_model.specs.declared.problem.Problem.{Problem}
use Rattle.disp_model.specs.declared.reply.Reply.{Reply}
use Rattle.disp_model.specs.declared.reply.Reply.TheVariants.{Known, Refused}
use Rattle.disp_model.specs.declared.reply.Refusal.{Refusal}
use Rattle.disp_model.specs.declared.reply.Refusal.TheVariants.{NoTrain, NoOperation, StartedAt, EarliestIs}
use Rattle.disp_model.specs.Changes.{numbered_standing, standing_of}
use Rattle.disp_model.specs.Walks.{fixed_start, not_before}
use Rattle.disp_model.specs.Replies.{Row, known_as, IsRouted}

-- the reply to a start that fixes no operation that is fixed to start
abbrev pub RepliesFromEarliest : Problem → List Change → ℕ → ℕ → ℕ → ℕ → Reply → Type 0
RepliesFromEarliest problem changes t o time earliest reply =
    Row (time < earliest) (Refused (EarliestIs earliest)) reply
    (IsRouted problem changes t (Started t o time) reply)

-- the reply to a start at a time at which the operation may start
abbrev pub RepliesInTime : Problem → List Change → ℕ → ℕ → ℕ → Reply → Type 0
RepliesInTime problem changes t o time reply =
    MatchOption (known_as (Started t o time) (numbered_standing changes))
    (MatchOption (fixed_start (standing_of changes) (record { train = t; op = o }))
    (RepliesFromEarliest problem changes t o time
    (not_before (standing_of changes) (record { train = t; op = o })) reply)
    (λ kept. reply ≡ Refused (StartedAt kept)))
    (λ k. reply ≡ Known k)

-- the operation has this upper, and the time is above it
pub record IsBeyond (operation : Operation) (time upper : ℕ) : Type 0 where
  pub upper_is : operation.upper ≡ Some upper
  pub beyond : upper < time

-- the time is not above an upper of the operation
abbrev pub IsNotBeyond : Operation → ℕ → Type 0
IsNotBeyond operation time = IfSome operation.upper (λ upper. time ≤ upper)

-- the operation of this name
pub record IsFound (trains : List (List Operation)) (t o : ℕ) (operation : Operation) : Type 0 where
  pub train : List Operation
  pub train_is : slice_get trains t ≡ Some train
  pub operation_is : slice_get train o ≡ Some operation

-- why there is no operation of this name
abbrev pub IsNotFound : List (List Operation) → ℕ → ℕ → Refusal → Type 0
IsNotFound trains t o why = MatchOption (slice_get trains t) (why ≡ NoTrain)
    (λ train. (slice_get train o ≡ None) × (why ≡ NoOperation))
