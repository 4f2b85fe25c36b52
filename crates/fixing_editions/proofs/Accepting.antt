-- What an accepted change makes of an edition.
use Rattle.std.proofs.Common.{◌≡◌, ◌≢◌, ℕ, zero, suc, ◌+◌, ◌<◌, List, [], ◌∷◌, ◌++◌, length, Option, Some, None, Bool, true, false, refl, sym, ap, subst, ◌∙◌, inl, inr, arith}
use Rattle.std.specs.Prelude.{slice_get, MatchOption, IsTrue, ◌↔◌}
use Rattle.std.proofs.lemmas.Bool.{false≢true}
use Rattle.std.proofs.lemmas.Option.{none-some, slice_get_within}
use Rattle.std.proofs.lemmas.List.{take-append-le, take_at}
use Rattle.disp_model.specs.declared.train.Operation.{Operation}
use Rattle.disp_model.specs.declared.fixing.Fixing.{Fixing}
use Rattle.disp_model.specs.declared.fixing.Fixing.TheVariants.{Started, Chosen, NotBefore}
use Rattle.disp_model.specs.declared.fixing.Change.{Change}
use Rattle.disp_model.specs.declared.fixing.Change.TheVariants.{Fix, Withdraw}
use Rattle.disp_model.specs.declared.problem.Problem.{Problem}
use Rattle.disp_model.specs.declared.limits.TheConstants.{MOST_CHANGES}
use Rattle.disp_model.specs.declared.reply.Reply.{Reply}
use Rattle.disp_model.specs.declared.reply.Reply.TheVariants.{Accepted, Known, Refused}
use Rattle.disp_model.specs.declared.reply.Refusal.TheVariants.{NoTrain, NoOperation, NoSuccessor, TooLarge, BelowLower, AboveUpper, Withdrawn, StartedAt, ChosenIs, EarliestIs, NoRoute, Full}
use Rattle.disp_model.specs.Changes.{numbered_standing, standing_of, change_at, withdrawn_from}
use Rattle.disp_model.specs.Node.{root_of}
use Rattle.disp_model.specs.Walks.{fixed_start, not_before}
use Rattle.disp_model.specs.Routes.{HasRoute}
use Rattle.disp_model.specs.Replies.{Row, known_as, fixed_next, IsCounted, IsRouted, RepliesToStart, RepliesToChoice, RepliesToEarliest, RepliesToFixing, RepliesToWithdrawal, IsReply, IsEdition}
use Rattle.disp_laws.proofs.Tightened.{within_row}
use Rattle.fixing_editions.specs.Own.{train_of, own_of, fixings_with}
use Rattle.fixing_editions.specs.Answers.{IsFound}
use Rattle.train_orders.proofs.Places.{get_push_cases}
use Rattle.fixing_editions.proofs.Owning.{routes_are}

-- ---- the number of an accepted change

same_number : (n m : ℕ) → Accepted n ≡ Accepted m → n ≡ m
same_number n m e = ap number e
  where
    number : Reply → ℕ
    number (Accepted k) = k
    number (Known k) = k
    number (Refused why) = 0

pub record IsNewest (changes : List Change) (n : ℕ) : Type 0 where
  pub number : n ≡ length changes + 1
  pub room : length changes ≢ MOST_CHANGES

counted_newest : (changes : List Change) (n : ℕ) → IsCounted changes (Accepted n) → IsNewest changes n
counted_newest changes n reply =
    let room = within_row (Refused (Full MOST_CHANGES)) n (λ e. absurd cc) reply in
    record { number = same_number n (length changes + 1) room.1; room = room.0 }

routed_newest : (problem : Problem) (changes : List Change) (t n : ℕ) (f : Fixing) → IsRouted problem changes t f (Accepted n) → IsNewest changes n
routed_newest problem changes t n f reply = counted_newest changes n (within_row (Refused NoRoute) n (λ e. absurd cc) reply).1

start_newest : (problem : Problem) (changes : List Change) (t o time n earliest : ℕ) (known start : Option ℕ)
    → MatchOption known
    (MatchOption start (Row (time < earliest) (Refused (EarliestIs earliest)) (Accepted n) (IsRouted problem changes t (Started t o time) (Accepted n))) (λ kept. Accepted n ≡ Refused (StartedAt kept)))
    (λ k. Accepted n ≡ Known k) → IsNewest changes n
start_newest problem changes t o time n earliest None None reply =
    routed_newest problem changes t n (Started t o time) (within_row (Refused (EarliestIs earliest)) n (λ e. absurd cc) reply).1
start_newest problem changes t o time n earliest None (Some kept) reply = absurd cc
start_newest problem changes t o time n earliest (Some k) start reply = absurd cc

started_newest : (problem : Problem) (changes : List Change) (t o time n : ℕ) (p : Operation) → RepliesToStart problem changes t o time p (Accepted n) → IsNewest changes n
started_newest problem changes t o time n p reply = by_upper p.upper refl
  where
    earliest : ℕ
    earliest = not_before (standing_of changes) (record { train = t; op = o })

    by_upper : (upper : Option ℕ) → p.upper ≡ upper → IsNewest changes n
    by_upper None at =
        let large = within_row (Refused TooLarge) n (λ e. absurd cc) reply in
        let low = within_row (Refused (BelowLower p.lower)) n (λ e. absurd cc) large.1 in
        start_newest problem changes t o time n (not_before (standing_of changes) (record { train = t; op = o })) (known_as (Started t o time) (numbered_standing changes)) (fixed_start (standing_of changes) (record { train = t; op = o })) (rw at at low.1)
    by_upper (Some u) at =
        let large = within_row (Refused TooLarge) n (λ e. absurd cc) reply in
        let low = within_row (Refused (BelowLower p.lower)) n (λ e. absurd cc) large.1 in
        let high = within_row (Refused (AboveUpper u)) n (λ e. absurd cc) (rw at at low.1) in
        start_newest problem changes t o time n (not_before (standing_of changes) (record { train = t; op = o })) (known_as (Started t o time) (numbered_standing changes)) (fixed_start (standing_of changes) (record { train = t; op = o })) high.1

choice_newest : (problem : Problem) (changes : List Change) (t o next n : ℕ) (known chosen : Option ℕ)
    → MatchOption known (MatchOption chosen (IsRouted problem changes t (Chosen t o next) (Accepted n)) (λ kept. Accepted n ≡ Refused (ChosenIs kept))) (λ k. Accepted n ≡ Known k) → IsNewest changes n
choice_newest problem changes t o next n None None reply = routed_newest problem changes t n (Chosen t o next) reply
choice_newest problem changes t o next n None (Some kept) reply = absurd cc
choice_newest problem changes t o next n (Some k) chosen reply = absurd cc

chosen_newest : (problem : Problem) (changes : List Change) (t o next n : ℕ) → RepliesToChoice problem changes t o next (Accepted n) → IsNewest changes n
chosen_newest problem changes t o next n reply =
    choice_newest problem changes t o next n (known_as (Chosen t o next) (numbered_standing changes)) (fixed_next (standing_of changes) (record { train = t; op = o })) (within_row (Refused NoSuccessor) n (λ e. absurd cc) reply).1

time_newest : (changes : List Change) (time n : ℕ) (known start : Option ℕ)
    → MatchOption known
    (MatchOption start (IsCounted changes (Accepted n)) (λ kept. Row (kept < time) (Refused (StartedAt kept)) (Accepted n) (IsCounted changes (Accepted n))))
    (λ k. Accepted n ≡ Known k) → IsNewest changes n
time_newest changes time n None None reply = counted_newest changes n reply
time_newest changes time n None (Some kept) reply = counted_newest changes n (within_row (Refused (StartedAt kept)) n (λ e. absurd cc) reply).1
time_newest changes time n (Some k) start reply = absurd cc

earliest_newest : (changes : List Change) (t o time n : ℕ) → RepliesToEarliest changes t o time (Accepted n) → IsNewest changes n
earliest_newest changes t o time n reply =
    time_newest changes time n (known_as (NotBefore t o time) (numbered_standing changes)) (fixed_start (standing_of changes) (record { train = t; op = o })) (within_row (Refused TooLarge) n (λ e. absurd cc) reply).1

-- a fixing that is accepted is the newest change, and its train is there
pub record IsNew (problem : Problem) (changes : List Change) (fixing : Fixing) (n : ℕ) : Type 0 where
  pub newest : IsNewest changes n
  pub train : train_of fixing < length problem.trains

by_name : (problem : Problem) (changes : List Change) (t o n : ℕ) (P : Operation → Type 0) → ((p : Operation) → P p → IsNewest changes n)
    → RepliesToFixing problem t o (Accepted n) P → IsNewest changes n × (t < length problem.trains)
by_name problem changes t o n P each reply = by_train (slice_get problem.trains t) refl reply
  where
    by_operation : (found : Option Operation) → MatchOption found (Accepted n ≡ Refused NoOperation) P → IsNewest changes n
    by_operation None reply = absurd cc
    by_operation (Some p) reply = each p reply

    by_train : (found : Option (List Operation)) → slice_get problem.trains t ≡ found
        → MatchOption found (Accepted n ≡ Refused NoTrain) (λ train. MatchOption (slice_get train o) (Accepted n ≡ Refused NoOperation) P) → IsNewest changes n × (t < length problem.trains)
    by_train None at reply = absurd cc
    by_train (Some train) at reply = (by_operation (slice_get train o) reply, slice_get_within problem.trains t train at)

pub accepted_new : (problem : Problem) (changes : List Change) (fixing : Fixing) (n : ℕ) → IsReply problem changes (Fix fixing) (Accepted n) → IsNew problem changes fixing n
accepted_new problem changes (Started t o time) n reply =
    let both = by_name problem changes t o n (λ p. RepliesToStart problem changes t o time p (Accepted n)) (λ p. started_newest problem changes t o time n p) reply in
    record { newest = both.0; train = both.1 }
accepted_new problem changes (Chosen t o next) n reply =
    let both = by_name problem changes t o n (λ p. RepliesToChoice problem changes t o next (Accepted n)) (λ p. chosen_newest problem changes t o next n) reply in
    record { newest = both.0; train = both.1 }
accepted_new problem changes (NotBefore t o time) n reply =
    let both = by_name problem changes t o n (λ p. RepliesToEarliest changes t o time (Accepted n)) (λ p. earliest_newest changes t o time n) reply in
    record { newest = both.0; train = both.1 }

-- a withdrawal that is accepted is the newest change, and takes back a fixing that stands
pub record IsTakenBack (changes : List Change) (number n : ℕ) : Type 0 where
  pub newest : IsNewest changes n
  pub fixing : Fixing
  pub there : change_at changes number ≡ Some (Fix fixing)
  pub stands : withdrawn_from number 1 changes ≡ None

pub accepted_back : (changes : List Change) (number n : ℕ) → RepliesToWithdrawal changes number (change_at changes number) (Accepted n) → IsTakenBack changes number n
accepted_back changes number n reply = by_change (change_at changes number) refl reply
  where
    by_taken : (fixing : Fixing) → change_at changes number ≡ Some (Fix fixing) → (taken : Option ℕ) → withdrawn_from number 1 changes ≡ taken
        → MatchOption taken (IsCounted changes (Accepted n)) (λ k. Accepted n ≡ Refused (Withdrawn k)) → IsTakenBack changes number n
    by_taken fixing at None none reply = record { newest = counted_newest changes n reply; fixing = fixing; there = at; stands = none }
    by_taken fixing at (Some k) none reply = absurd cc

    by_change : (found : Option Change) → change_at changes number ≡ found → RepliesToWithdrawal changes number found (Accepted n) → IsTakenBack changes number n
    by_change None at reply = absurd cc
    by_change (Some (Withdraw other)) at reply = absurd cc
    by_change (Some (Fix fixing)) at reply = by_taken fixing at (withdrawn_from number 1 changes) refl reply

pub change_within : (changes : List Change) (number : ℕ) (change : Change) → change_at changes number ≡ Some change
    → (i : ℕ) × (number ≡ i + 1) × (i < length changes) × (slice_get changes i ≡ Some change)
change_within changes zero change at = absurd (none-some change at)
change_within changes (suc i) change at = (i, omega arith, slice_get_within changes i change at, at)

-- ---- the next edition

pub edition_more : (problem : Problem) (changes : List Change) (change : Change) (n : ℕ) → IsEdition problem changes → IsReply problem changes change (Accepted n) → n ≡ length changes + 1 → IsEdition problem (changes ++ change ∷ [])
edition_more problem changes change n edition reply is i c here = elim (get_push_cases changes change c i here) [
  | inl early ↦ subst (λ (l : List Change). IsReply problem l c (Accepted (i + 1))) (sym (take-append-le i changes (change ∷ []) (omega (arith, slice_get_within changes i c early)))) (edition i c early)
  | inr last ↦ subst (λ (l : List Change). IsReply problem l c (Accepted (i + 1))) (sym (take_at changes (change ∷ []) i (sym last.0)))
      (subst (λ (d : Change). IsReply problem changes d (Accepted (i + 1))) last.1 (subst (λ (m : ℕ). IsReply problem changes change (Accepted m)) (omega (arith, is, last.0)) reply))
]

-- ---- a fixing that is new

pub routed_none : (problem : Problem) (changes : List Change) (fixing : Fixing) (t : ℕ) (has : Bool)
    → (IsTrue has ↔ HasRoute (root_of problem (fixings_with (own_of t (numbered_standing changes)) fixing)) t) → has ≡ false → IsRouted problem changes t fixing (Refused NoRoute)
routed_none problem changes fixing t has says not = inl (λ route. false≢true (sym not ∙ says.1 ((routes_are problem t changes fixing).1 route)), refl)

pub routed_counted : (problem : Problem) (changes : List Change) (fixing : Fixing) (t : ℕ) (has : Bool) (reply : Reply)
    → (IsTrue has ↔ HasRoute (root_of problem (fixings_with (own_of t (numbered_standing changes)) fixing)) t) → has ≡ true → IsCounted changes reply → IsRouted problem changes t fixing reply
routed_counted problem changes fixing t has reply says is counted = inr (λ none. none ((routes_are problem t changes fixing).0 (says.0 is)), counted)

-- ---- the reply to a choice, by the operation that is found

pub chosen_reply : (problem : Problem) (changes : List Change) (fixing : Fixing) (trains : List (List Operation)) (t o next : ℕ) (operation : Operation) (reply : Reply) → fixing ≡ Chosen t o next → trains ≡ problem.trains → IsFound trains t o operation
    → RepliesToChoice problem changes t o next reply → IsReply problem changes (Fix fixing) reply
chosen_reply problem changes fixing trains t o next operation reply is same found replies =
    rw (is, subst (λ (l : List (List Operation)). slice_get l t ≡ Some found.train) same found.train_is, found.operation_is) replies
