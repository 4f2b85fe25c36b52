-- A change has one reply.
use Rattle.std.proofs.Common.{◌≡◌, inl, inr, ℕ, ◌+◌, ◌<◌, List, length, Option, Some, None, sym, ◌∙◌}
use Rattle.std.specs.Prelude.{MatchOption, slice_get}
use Rattle.disp_model.specs.declared.train.Listing.{Listing}
use Rattle.disp_model.specs.declared.train.Operation.{Operation}
use Rattle.disp_model.specs.declared.fixing.Fixing.{Fixing}
use Rattle.disp_model.specs.declared.fixing.Fixing.TheVariants.{Started, Chosen, NotBefore}
use Rattle.disp_model.specs.declared.fixing.Change.{Change}
use Rattle.disp_model.specs.declared.fixing.Change.TheVariants.{Fix, Withdraw}
use Rattle.disp_model.specs.declared.reply.Reply.{Reply}
use Rattle.disp_model.specs.declared.reply.Reply.TheVariants.{Accepted, Known, Refused}
use Rattle.disp_model.specs.declared.reply.Refusal.TheVariants.{NoTrain, NoOperation, NoSuccessor, TooLarge, BelowLower, AboveUpper, NoSuchChange, Withdrawn, StartedAt, ChosenIs, EarliestIs, NoRoute, Full}
use Rattle.disp_model.specs.declared.problem.Problem.{Problem}
use Rattle.disp_model.specs.declared.limits.TheConstants.{MOST_CHANGES}
use Rattle.disp_model.specs.Changes.{numbered_standing, standing_of, change_at, withdrawn_from}
use Rattle.disp_model.specs.Replies.{Row, IsCounted, IsRouted, RepliesToStart, RepliesToChoice, RepliesToEarliest, RepliesToFixing, RepliesToWithdrawal, IsReply, known_as, fixed_next}
use Rattle.disp_model.specs.Walks.{fixed_start, not_before}

row_one : (H O P : Type 0) (answer r s : Reply) → (O → P → r ≡ s) → Row H answer r O → Row H answer s P → r ≡ s
row_one H O P answer r s more (inl (holds, is)) (inl (too, same)) = is ∙ sym same
row_one H O P answer r s more (inl (holds, is)) (inr (not, others)) = absurd (not holds)
row_one H O P answer r s more (inr (not, others)) (inl (holds, is)) = absurd (not holds)
row_one H O P answer r s more (inr (not, others)) (inr (too, same)) = more others same

both_are : (answer r s : Reply) → r ≡ answer → s ≡ answer → r ≡ s
both_are answer r s is same = is ∙ sym same

match_one : {X : Type 0} (o : Option X) (A B : Type 0) (P Q : X → Type 0) (r s : Reply) → (A → B → r ≡ s) → ((x : X) → P x → Q x → r ≡ s) → MatchOption o A P → MatchOption o B Q → r ≡ s
match_one None A B P Q r s none some h k = none h k
match_one (Some x) A B P Q r s none some h k = some x h k

counted_one : (changes : List Change) (r s : Reply) → IsCounted changes r → IsCounted changes s → r ≡ s
counted_one changes r s h k = row_one _ _ _ (Refused (Full MOST_CHANGES)) r s (both_are (Accepted (length changes + 1)) r s) h k

routed_one : (problem : Problem) (changes : List Change) (t : ℕ) (fixing : Fixing) (r s : Reply) → IsRouted problem changes t fixing r → IsRouted problem changes t fixing s → r ≡ s
routed_one problem changes t fixing r s h k = row_one _ _ _ (Refused NoRoute) r s (counted_one changes r s) h k

-- of a start that is within the operation's window
timed_one : (problem : Problem) (changes : List Change) (t o time earliest : ℕ) (r s : Reply)
    → MatchOption (known_as (Started t o time) (numbered_standing changes)) (MatchOption (fixed_start (standing_of changes) (record { train = t; op = o }))
    (Row (time < earliest) (Refused (EarliestIs earliest)) r (IsRouted problem changes t (Started t o time) r)) (λ kept. r ≡ Refused (StartedAt kept))) (λ n. r ≡ Known n)
    → MatchOption (known_as (Started t o time) (numbered_standing changes)) (MatchOption (fixed_start (standing_of changes) (record { train = t; op = o }))
    (Row (time < earliest) (Refused (EarliestIs earliest)) s (IsRouted problem changes t (Started t o time) s)) (λ kept. s ≡ Refused (StartedAt kept))) (λ n. s ≡ Known n) → r ≡ s
timed_one problem changes t o time earliest r s h k =
    match_one (known_as (Started t o time) (numbered_standing changes)) _ _ _ _ r s
    (λ c d. match_one (fixed_start (standing_of changes) (record { train = t; op = o })) _ _ _ _ r s
    (λ e f. row_one _ _ _ (Refused (EarliestIs earliest)) r s (routed_one problem changes t (Started t o time) r s) e f)
    (λ kept. both_are (Refused (StartedAt kept)) r s) c d)
    (λ n. both_are (Known n) r s) h k

start_one : (problem : Problem) (changes : List Change) (t o time lower : ℕ) (upper : Option ℕ) (min : ℕ) (listings : List Listing) (next : List ℕ) (r s : Reply)
    → RepliesToStart problem changes t o time (record { lower = lower; upper = upper; min = min; listings = listings; next = next }) r
    → RepliesToStart problem changes t o time (record { lower = lower; upper = upper; min = min; listings = listings; next = next }) s → r ≡ s
start_one problem changes t o time lower None min listings next r s h k =
    row_one _ _ _ (Refused TooLarge) r s
    (λ a b. row_one _ _ _ (Refused (BelowLower lower)) r s (timed_one problem changes t o time (not_before (standing_of changes) (record { train = t; op = o })) r s) a b) h k
start_one problem changes t o time lower (Some upper) min listings next r s h k =
    row_one _ _ _ (Refused TooLarge) r s
    (λ a b. row_one _ _ _ (Refused (BelowLower lower)) r s
    (λ u v. row_one _ _ _ (Refused (AboveUpper upper)) r s (timed_one problem changes t o time (not_before (standing_of changes) (record { train = t; op = o })) r s) u v) a b) h k

choice_one : (problem : Problem) (changes : List Change) (t o next : ℕ) (r s : Reply) → RepliesToChoice problem changes t o next r → RepliesToChoice problem changes t o next s → r ≡ s
choice_one problem changes t o next r s h k =
    row_one _ _ _ (Refused NoSuccessor) r s
    (λ a b. match_one (known_as (Chosen t o next) (numbered_standing changes)) _ _ _ _ r s
    (λ c d. match_one (fixed_next (standing_of changes) (record { train = t; op = o })) _ _ _ _ r s (routed_one problem changes t (Chosen t o next) r s) (λ kept. both_are (Refused (ChosenIs kept)) r s) c d)
    (λ n. both_are (Known n) r s) a b) h k

earliest_one : (changes : List Change) (t o time : ℕ) (r s : Reply) → RepliesToEarliest changes t o time r → RepliesToEarliest changes t o time s → r ≡ s
earliest_one changes t o time r s h k =
    row_one _ _ _ (Refused TooLarge) r s
    (λ a b. match_one (known_as (NotBefore t o time) (numbered_standing changes)) _ _ _ _ r s
    (λ c d. match_one (fixed_start (standing_of changes) (record { train = t; op = o })) _ _ _ _ r s (counted_one changes r s)
    (λ kept e f. row_one _ _ _ (Refused (StartedAt kept)) r s (counted_one changes r s) e f) c d)
    (λ n. both_are (Known n) r s) a b) h k

withdrawal_one : (changes : List Change) (number : ℕ) (found : Option Change) (r s : Reply) → RepliesToWithdrawal changes number found r → RepliesToWithdrawal changes number found s → r ≡ s
withdrawal_one changes number None r s h k = both_are (Refused NoSuchChange) r s h k
withdrawal_one changes number (Some (Withdraw other)) r s h k = both_are (Refused NoSuchChange) r s h k
withdrawal_one changes number (Some (Fix fixing)) r s h k =
    match_one (withdrawn_from number 1 changes) _ _ _ _ r s (counted_one changes r s) (λ n. both_are (Refused (Withdrawn n)) r s) h k

placed_one : (problem : Problem) (t o : ℕ) (r s : Reply) (P Q : Operation → Type 0) → ((operation : Operation) → P operation → Q operation → r ≡ s)
    → RepliesToFixing problem t o r P → RepliesToFixing problem t o s Q → r ≡ s
placed_one problem t o r s P Q each h k =
    match_one (slice_get problem.trains t) _ _ _ _ r s (both_are (Refused NoTrain) r s)
    (λ train a b. match_one (slice_get train o) _ _ P Q r s (both_are (Refused NoOperation) r s) each a b) h k

pub one_reply : (problem : Problem) (changes : List Change) (change : Change) (r s : Reply) → IsReply problem changes change r → IsReply problem changes change s → r ≡ s
one_reply problem changes (Fix (Started t o time)) r s h k =
    placed_one problem t o r s _ _ (λ p a b. start_one problem changes t o time p.lower p.upper p.min p.listings p.next r s a b) h k
one_reply problem changes (Fix (Chosen t o next)) r s h k = placed_one problem t o r s _ _ (λ p a b. choice_one problem changes t o next r s a b) h k
one_reply problem changes (Fix (NotBefore t o time)) r s h k = placed_one problem t o r s _ _ (λ p a b. earliest_one changes t o time r s a b) h k
one_reply problem changes (Withdraw number) r s h k = withdrawal_one changes number (change_at changes number) r s h k
