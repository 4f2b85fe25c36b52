-- Passes that are given to searchers.
use Rattle.std.proofs.Common.{◌≡◌, ◌∙◌, ℕ, zero, suc, ◌+◌, ◌<◌, ◌≤◌, inr, ⊎_elim, List, [], ◌∷◌, ◌++◌, Contains, length, sym, ap, subst, arith}
use Rattle.std.proofs.lemmas.List.{append_assoc}
use Rattle.std.proofs.lemmas.List.Elements.{Contains-append_cases}
use Rattle.plain_values.proofs.Lists.{contains_one}
use Rattle.disp_model.specs.declared.entry.Entry.{Entry}
use Rattle.train_orders.proofs.Places.{get_push_cases}
use Rattle.turn_lock.specs.Known.{Known, with_given}
use Rattle.shared_board.specs.declared.board.Board.{Board}
use Rattle.shared_board.specs.declared.terms.Terms.{Terms}
use Rattle.shared_board.specs.Callers.{searcher_caller}
use Rattle.shared_board.specs.Calls.{HasCaller}
use Rattle.crew_runs.specs.declared.searcher.Searcher.{Searcher}
use Rattle.crew_runs.specs.Seats.{AreSeats, IsSeat, MaySeat, searchers_to, with_searchers}

-- those that have a pass already are below the next one
below_next : (count caller : ℕ) → Contains (searchers_to count) caller → caller < searcher_caller count
below_next zero caller (k, within, is) = absurd (omega arith)
below_next (suc count) caller there = ⊎_elim
    (λ (old : Contains (searchers_to count) caller). let below = below_next count caller old in omega (arith, below))
    (λ (new : Contains (searcher_caller count ∷ []) caller). let is = contains_one (searcher_caller count) caller new in omega arith)
    (Contains-append_cases (searchers_to count) (searcher_caller count ∷ []) caller there)

module _ (v : Known Entry Terms) (count : ℕ) (may : MaySeat v count) (place : ℕ) (within : place < count) where
  pub next_caller : HasCaller (with_searchers v place) (searcher_caller place)
  next_caller = record { terms = may.terms; terms_are = may.terms_are; there = inr (omega arith, let enough = may.enough in omega (arith, within)) }

  pub next_new : (searcher_caller place ≡ v.caller → ⊥) × (Contains (with_searchers v place).given (searcher_caller place) → ⊥)
  next_new = (
    (λ same. let below = may.caller in absurd (omega (arith, same))),
    (λ there. ⊎_elim
        (λ old. let below = may.none_given (searcher_caller place) old in absurd (omega (arith, below)))
        (λ new. let below = below_next place (searcher_caller place) new in absurd (omega (arith, below)))
        (Contains-append_cases v.given (searchers_to place) (searcher_caller place) there)),
  )

-- one pass more
pub more_given : (v : Known Entry Terms) (place : ℕ) → with_given (with_searchers v place) (searcher_caller place) ≡ with_searchers v (suc place)
more_given v place = ap (λ (l : List ℕ). record v { given = l }) (append_assoc v.given (searchers_to place) (searcher_caller place ∷ []))

-- one searcher more
pub seats_more : (board : Board) (v : Known Entry Terms) (seats : List Searcher) (one : Searcher) → AreSeats board v seats → IsSeat board v (length seats) one
    → AreSeats board v (seats ++ one ∷ [])
seats_more board v seats one are is place other there = ⊎_elim
    (λ early. are place other early)
    (λ (last : (place ≡ length seats) × (one ≡ other)).
    subst (λ (s : Searcher). IsSeat board v place s) last.1 (subst (λ (n : ℕ). IsSeat board v n one) (sym last.0) is))
    (get_push_cases seats one other place there)
