-- Rules one after another, in their order.
use Rattle.std.proofs.Common.{◌≡◌, ℕ, ◌+◌, ◌<◌, cond, nat_eq, refl, sym, ap, subst, ◌∙◌, arith, inl, inr}
use Rattle.std.proofs.lemmas.Bool.{cases_lt}
use Rattle.solution_verifier.specs.Rules.{Rule, rank, train_there, operation_there, time_rises, first_is_entry, next_is_successor, from_lower, until_upper, lasts_its_duration}

abbrev ranked : ℕ → Rule
ranked n =
    cond (nat_eq n 0) train_there (cond (nat_eq n 1) operation_there (cond (nat_eq n 2) time_rises (cond (nat_eq n 3) first_is_entry
    (cond (nat_eq n 4) next_is_successor (cond (nat_eq n 5) from_lower (cond (nat_eq n 6) until_upper lasts_its_duration))))))

ranked_back : (rule : Rule) → ranked (rank rule) ≡ rule
ranked_back train_there = refl
ranked_back operation_there = refl
ranked_back time_rises = refl
ranked_back first_is_entry = refl
ranked_back next_is_successor = refl
ranked_back from_lower = refl
ranked_back until_upper = refl
ranked_back lasts_its_duration = refl

pub same_rank : (rule other : Rule) → rank rule ≡ rank other → rule ≡ other
same_rank rule other same = sym (ranked_back rule) ∙ ap ranked same ∙ ranked_back other

rank_small : (rule : Rule) → rank rule < 8
rank_small train_there = omega arith
rank_small operation_there = omega arith
rank_small time_rises = omega arith
rank_small first_is_entry = omega arith
rank_small next_is_successor = omega arith
rank_small from_lower = omega arith
rank_small until_upper = omega arith
rank_small lasts_its_duration = omega arith

-- the rules of a rank below n are kept
abbrev pub KeptBelow : (Rule → Type 0) → ℕ → Type 0
KeptBelow K n = (rule : Rule) → rank rule < n → K rule

pub none_below : (K : Rule → Type 0) → KeptBelow K 0
none_below K rule less = absurd (omega (arith, less))

pub one_more : (K : Rule → Type 0) (rule : Rule) → KeptBelow K (rank rule) → K rule → KeptBelow K (rank rule + 1)
one_more K rule below here other less =
    elim (cases_lt (rank other) (rank rule)) [
      | inl lt ↦ below other lt
      | inr le ↦ subst K (same_rank rule other (omega (arith, le, less))) here
    ]

pub all_kept : (K : Rule → Type 0) → KeptBelow K 8 → (rule : Rule) → K rule
all_kept K below rule = below rule (rank_small rule)
