-- The numbers that are drawn for pairs of trains.
use Rattle.std.specs.Prelude.{ℕ, zero, suc, ◌+◌, ◌*◌, ◌/◌, ◌%◌, ◌^◌, List, [], ◌∷◌, ◌++◌}
use Rattle.instance_maker.specs.declared.draws.Pair.{Pair}

-- the state behind a state
abbrev pub next_state : ℕ → ℕ
next_state x = (x * 1103515245 + 12345) % 2 ^ 31

-- the number that is drawn at a state
abbrev pub drawn : ℕ → ℕ
drawn x = x / 65536

-- the state behind the draws for a pair
abbrev pub third_state : ℕ → ℕ
third_state x = next_state (next_state (next_state x))

-- the numbers that are drawn for a pair, from the state before it
abbrev pub drawn_pair : ℕ → Pair
drawn_pair x = record {
  first = 10 + drawn (next_state x) % 20;
  second = 10 + drawn (next_state (next_state x)) % 20;
  gap = 1 + drawn (third_state x) % 9;
}

-- the state before the pair of this place, from a number on
abbrev pub state_before : ℕ → ℕ → ℕ
state_before number zero = number
state_before number (suc k) = third_state (state_before number k)

-- the numbers of the pair of this place
abbrev pub pair_at : ℕ → ℕ → Pair
pair_at number k = drawn_pair (state_before number k)

-- those of the first so many pairs
abbrev pub pairs_of : ℕ → ℕ → List Pair
pairs_of number zero = []
pairs_of number (suc k) = pairs_of number k ++ pair_at number k ∷ []
