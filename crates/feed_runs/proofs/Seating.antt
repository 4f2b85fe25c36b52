-- Passes that are given to feeds.
use Rattle.std.proofs.Common.{◌≡◌, ◌∙◌, ℕ, zero, suc, ◌<◌, inl, ⊎_elim, List, [], ◌∷◌, ◌++◌, Contains, length, sym, ap, subst, arith}
use Rattle.std.proofs.lemmas.List.{append_assoc}
use Rattle.std.proofs.lemmas.List.Elements.{Contains-append_cases}
use Rattle.plain_values.proofs.Lists.{contains_none_where, contains_one}
use Rattle.disp_model.specs.declared.entry.Entry.{Entry}
use Rattle.train_orders.proofs.Places.{get_push_cases}
use Rattle.turn_lock.specs.Known.{Known, with_given}
use Rattle.shared_board.specs.declared.board.Board.{Board}
use Rattle.shared_board.specs.declared.terms.Terms.{Terms}
use Rattle.shared_board.specs.Calls.{HasCaller}
use Rattle.feed_runs.specs.declared.reader.Reader.{Reader}
use Rattle.feed_runs.specs.Readers.{AreReaders, IsReader, MayRead, feeds_to, with_readers}

-- those that have a pass already are below the next one
pub below_next : (count caller : ℕ) → Contains (feeds_to count) caller → caller < count
below_next zero caller (k, within, is) = absurd (omega arith)
below_next (suc count) caller there = ⊎_elim
    (λ (old : Contains (feeds_to count) caller). let below = below_next count caller old in omega (arith, below))
    (λ (new : Contains (count ∷ []) caller). let is = contains_one count caller new in omega arith)
    (Contains-append_cases (feeds_to count) (count ∷ []) caller there)

module _ (v : Known Entry Terms) (count : ℕ) (may : MayRead v count) (number : ℕ) (within : number < count) where
  pub next_caller : HasCaller (with_readers v number) number
  next_caller = record { terms = may.terms; terms_are = may.terms_are; there = inl (let feeds = may.feeds in omega (arith, within)) }

  pub next_new : (number ≡ v.caller → ⊥) × (Contains (with_readers v number).given number → ⊥)
  next_new = (
    (λ same. let own = may.caller in absurd (omega (arith, same, within))),
    (λ there. ⊎_elim
        (λ old. absurd (contains_none_where v.given number may.none_given old))
        (λ new. let below = below_next number number new in absurd (omega (arith, below)))
        (Contains-append_cases v.given (feeds_to number) number there)),
  )

-- one pass more
pub more_given : (v : Known Entry Terms) (number : ℕ) → with_given (with_readers v number) number ≡ with_readers v (suc number)
more_given v number = ap (λ (l : List ℕ). record v { given = l }) (append_assoc v.given (feeds_to number) (number ∷ []))

module _ {F : Type 0} where
  -- one reader more
  pub readers_more : (board : Board) (v : Known Entry Terms) (readers : List (Reader F)) (one : Reader F) → AreReaders board v readers → IsReader board v (length readers) one
      → AreReaders board v (readers ++ one ∷ [])
  readers_more board v readers one are is number other there = ⊎_elim
      (λ early. are number other early)
      (λ (last : (number ≡ length readers) × (one ≡ other)).
      subst (λ (r : Reader F). IsReader board v number r) last.1 (subst (λ (n : ℕ). IsReader board v n one) (sym last.0) is))
      (get_push_cases readers one other number there)
