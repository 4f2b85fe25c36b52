-- The reply to a change: that of the first row that holds.
use Rattle.std.specs.Prelude.{◌≡◌, ◌⊎◌, ℕ, ◌+◌, ◌<◌, ◌==◌, ◌&&◌, Bool, false, List, [], ◌∷◌, ◌++◌, length, take, Option, Some, None, MatchOption, slice_get, if◌then◌else◌}
use Rattle.disp_model.specs.declared.train.Op.{Op}
use Rattle.disp_model.specs.declared.train.Operation.{Operation}
use Rattle.disp_model.specs.declared.fixing.Fixing.{Fixing}
use Rattle.disp_model.specs.declared.fixing.Fixing.TheVariants.{Started, Chosen, NotBefore}
use Rattle.disp_model.specs.declared.fixing.Change.{Change}
use Rattle.disp_model.specs.declared.fixing.Change.TheVariants.{Fix, Withdraw}
use Rattle.disp_model.specs.declared.reply.Reply.{Reply}
use Rattle.disp_model.specs.declared.reply.Reply.TheVariants.{Accepted, Known, Refused}
use Rattle.disp_model.specs.declared.reply.Refusal.TheVariants.{NoTrain, NoOperation, NoSuccessor, TooLarge, BelowLower, AboveUpper, NoSuchChange, Withdrawn, StartedAt, ChosenIs, EarliestIs, NoRoute, Full}
use Rattle.disp_model.specs.declared.problem.Problem.{Problem}
use Rattle.disp_model.specs.declared.limits.TheConstants.{GREATEST_NUMBER, MOST_CHANGES}
use Rattle.disp_model.specs.Train.{IsSuccessor}
use Rattle.disp_model.specs.Valid.{train_at}
use Rattle.disp_model.specs.Changes.{numbered_standing, standing_of, change_at, withdrawn_from}
use Rattle.disp_model.specs.Node.{root_of}
use Rattle.disp_model.specs.Routes.{HasRoute}
use Rattle.disp_model.specs.Walks.{fixed_start, not_before}

-- the same fixing
abbrev pub is_same : Fixing → Fixing → Bool
is_same (Started t o time) (Started u p other) = (t == u) && (o == p) && (time == other)
is_same (Started t o time) (Chosen u p next) = false
is_same (Started t o time) (NotBefore u p other) = false
is_same (Chosen t o next) (Started u p time) = false
is_same (Chosen t o next) (Chosen u p other) = (t == u) && (o == p) && (next == other)
is_same (Chosen t o next) (NotBefore u p time) = false
is_same (NotBefore t o time) (Started u p other) = false
is_same (NotBefore t o time) (Chosen u p next) = false
is_same (NotBefore t o time) (NotBefore u p other) = (t == u) && (o == p) && (time == other)

-- the number of the change as which a fixing stands
abbrev pub known_as : Fixing → List (ℕ × Fixing) → Option ℕ
known_as fixing [] = None
known_as fixing (p ∷ standing) = if is_same p.1 fixing then Some p.0 else known_as fixing standing

-- the operation to which an operation is fixed to go on, if it is
abbrev pub fixed_next : List Fixing → Op → Option ℕ
fixed_next [] o = None
fixed_next (Started t p time ∷ fixings) o = fixed_next fixings o
fixed_next (Chosen t p next ∷ fixings) o = if (t == o.train) && (p == o.op) then Some next
    else fixed_next fixings o
fixed_next (NotBefore t p time ∷ fixings) o = fixed_next fixings o

-- the answer where the row holds, and what the other rows say where it does not
abbrev pub Row : Type 0 → Reply → Reply → Type 0 → Type 0
Row holds answer reply others = (holds × (reply ≡ answer)) ⊎ ((holds → ⊥) × others)

-- there are as many changes as are taken, or it is accepted
abbrev pub IsCounted : List Change → Reply → Type 0
IsCounted changes reply = Row (length changes ≡ MOST_CHANGES) (Refused (Full MOST_CHANGES)) reply
    (reply ≡ Accepted (length changes + 1))

-- no route is left, or it is counted
abbrev pub IsRouted : Problem → List Change → ℕ → Fixing → Reply → Type 0
IsRouted problem changes t fixing reply =
    Row (HasRoute (root_of problem (standing_of changes ++ fixing ∷ [])) t → ⊥) (Refused NoRoute)
    reply (IsCounted changes reply)

-- of a started operation, from the rows on its time on
abbrev pub RepliesToStart : Problem → List Change → ℕ → ℕ → ℕ → Operation → Reply → Type 0
RepliesToStart problem changes t o time operation reply =
    Row (GREATEST_NUMBER < time) (Refused TooLarge) reply
    (Row (time < operation.lower) (Refused (BelowLower operation.lower)) reply
    (Upper operation.upper))
  where
    Rest : Type 0
    Rest =
        MatchOption (known_as (Started t o time) (numbered_standing changes))
        (MatchOption (fixed_start (standing_of changes) (record { train = t; op = o }))
        (Row (time < not_before (standing_of changes) (record { train = t; op = o }))
        (Refused (EarliestIs (not_before (standing_of changes) (record { train = t; op = o }))))
        reply
        (IsRouted problem changes t (Started t o time) reply))
        (λ kept. reply ≡ Refused (StartedAt kept)))
        (λ k. reply ≡ Known k)

    Upper : Option ℕ → Type 0
    Upper None = Rest
    Upper (Some upper) = Row (upper < time) (Refused (AboveUpper upper)) reply Rest

-- of a chosen operation, from the row on its successor on
abbrev pub RepliesToChoice : Problem → List Change → ℕ → ℕ → ℕ → Reply → Type 0
RepliesToChoice problem changes t o next reply =
    Row (IsSuccessor (train_at problem t) o next → ⊥) (Refused NoSuccessor) reply
    (MatchOption (known_as (Chosen t o next) (numbered_standing changes))
    (MatchOption (fixed_next (standing_of changes) (record { train = t; op = o }))
    (IsRouted problem changes t (Chosen t o next) reply)
    (λ kept. reply ≡ Refused (ChosenIs kept)))
    (λ k. reply ≡ Known k))

-- of an operation that is not to start before a time, from the row on that time on
abbrev pub RepliesToEarliest : List Change → ℕ → ℕ → ℕ → Reply → Type 0
RepliesToEarliest changes t o time reply =
    Row (GREATEST_NUMBER < time) (Refused TooLarge) reply
    (MatchOption (known_as (NotBefore t o time) (numbered_standing changes))
    (MatchOption (fixed_start (standing_of changes) (record { train = t; op = o }))
    (IsCounted changes reply)
    (λ kept. Row (kept < time) (Refused (StartedAt kept)) reply (IsCounted changes reply)))
    (λ k. reply ≡ Known k))

-- of a fixing, from the rows on its train and operation on
abbrev pub RepliesToFixing : Problem → ℕ → ℕ → Reply → (Operation → Type 0) → Type 0
RepliesToFixing problem t o reply others =
    MatchOption (slice_get problem.trains t) (reply ≡ Refused NoTrain)
    (λ train. MatchOption (slice_get train o) (reply ≡ Refused NoOperation) others)

-- of a withdrawal: there is no such change, it is no fixing, or it is taken back already
abbrev pub RepliesToWithdrawal : List Change → ℕ → Option Change → Reply → Type 0
RepliesToWithdrawal changes number None reply = reply ≡ Refused NoSuchChange
RepliesToWithdrawal changes number (Some (Withdraw other)) reply = reply ≡ Refused NoSuchChange
RepliesToWithdrawal changes number (Some (Fix fixing)) reply =
    MatchOption (withdrawn_from number 1 changes) (IsCounted changes reply)
    (λ k. reply ≡ Refused (Withdrawn k))

-- the reply to a change, with the changes accepted before (this project)
abbrev pub IsReply : Problem → List Change → Change → Reply → Type 0
IsReply problem changes (Fix (Started t o time)) reply =
    RepliesToFixing problem t o reply (λ operation. RepliesToStart problem changes t o time
    operation reply)
IsReply problem changes (Fix (Chosen t o next)) reply =
    RepliesToFixing problem t o reply (λ operation. RepliesToChoice problem changes t o next reply)
IsReply problem changes (Fix (NotBefore t o time)) reply =
    RepliesToFixing problem t o reply (λ operation. RepliesToEarliest changes t o time reply)
IsReply problem changes (Withdraw number) reply =
    RepliesToWithdrawal changes number (change_at changes number) reply

-- the changes are those of an edition: each was accepted behind the ones before it, with the next
-- number
abbrev pub IsEdition : Problem → List Change → Type 0
IsEdition problem changes = (i : ℕ) (change : Change) → slice_get changes i ≡ Some change
    → IsReply problem (take i changes) change (Accepted (i + 1))
