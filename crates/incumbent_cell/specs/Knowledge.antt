-- What a pass knows, how its steps change that, and the rule of the word.
use Rattle.std.specs.Prelude.{◌≡◌, ℕ, ◌+◌, ◌*◌, ◌^◌, ◌-◌, ◌≤◌, ◌⊎◌, List, [], ◌∷◌, ◌++◌, All, Contains, length, slice_index}
use mathlib.Core.Option.{some}
use lib.ListN.{get_elem?}
use Rattle.atomic_table.specs.Table.{State, Me, Step}
use Rattle.incumbent_cell.specs.declared.pass.Known.{Known}
use Rattle.incumbent_cell.specs.declared.pass.Share.{Share}
use Rattle.incumbent_cell.specs.Code.{opening_code}

-- What the first pass knows. A share is parts / 2 ^ halvings of all that passes may know.
abbrev pub knows_nothing : Known
knows_nothing = record { put = []; found = []; share = record { parts = 1; halvings = 0 } }

-- after this code was put
abbrev pub with_put : Known → ℕ → Known
with_put v code = record { put = v.put ++ code ∷ []; found = v.found; share = v.share }

-- after this code was found
abbrev pub with_found_code : Known → ℕ → Known
with_found_code v code = record { put = v.put; found = v.found ++ code ∷ []; share = v.share }

-- a pass and the one that is split off know the same, and have half the share each
abbrev pub halved : Known → Known
halved v = record {
  put = v.put;
  found = v.found;
  share = record { parts = v.share.parts; halvings = v.share.halvings + 1 };
}

abbrev pub share_sum : Share → Share → Share
share_sum s t = record {
  parts = s.parts * 2 ^ t.halvings + t.parts * 2 ^ s.halvings;
  halvings = s.halvings + t.halvings;
}

-- after another pass was joined_known
abbrev pub joined_known : Known → Known → Known
joined_known v w = record {
  put = v.put ++ w.put;
  found = v.found ++ w.found;
  share = share_sum v.share w.share;
}

-- no other pass is left: all that were split off are joined_known again, here
abbrev pub IsWhole : Known → Type 0
IsWhole v = v.share.parts ≡ 2 ^ v.share.halvings

-- the share is n parts of d: 1 of 1 at first, 1 of 2 after the first split
abbrev pub HasShare : Known → ℕ → ℕ → Type 0
HasShare v n d = v.share.parts * d ≡ n * 2 ^ v.share.halvings

-- one of these codes, or the one that a cell opens with
abbrev pub IsAmong : List ℕ → ℕ → Type 0
IsAmong codes code = (code ≡ opening_code) ⊎ Contains codes code

-- What is known of a code that the word was. It is at most each code that was read or put, and a
-- whole pass knows where it is from.
pub record Stands (v : Known) (code : ℕ) : Type 0 where
  pub below_opening : code ≤ opening_code
  pub below_put : All (λ c. code ≤ c) v.put
  pub below_found : All (λ c. code ≤ c) v.found
  pub is_least : IsWhole v → IsAmong v.put code
  pub each_is_put : IsWhole v → All (IsAmong v.put) v.found

abbrev pub spent : Known
spent = record { put = []; found = []; share = record { parts = 0; halvings = 0 } }

-- some pass has put it
abbrev pub IsPutBySome : List Known → ℕ → Type 0
IsPutBySome views code = (seat : ℕ) × (v : Known) × (get_elem? views seat ≡ some v)
    × Contains v.put code

abbrev pub IsTraced : List Known → ℕ → Type 0
IsTraced views code = (code ≡ opening_code) ⊎ IsPutBySome views code

abbrev pub weight : ℕ → Known → ℕ
weight scale v = v.share.parts * 2 ^ (scale - v.share.halvings)

abbrev pub weights : ℕ → List Known → ℕ
weights scale [] = 0
weights scale (v ∷ vs) = weight scale v + weights scale vs

abbrev pub Cells : Type 0
Cells = State (Unit {0}) Known

-- The word is the least of its opening value and all codes put, and each code found is one of
-- these. The shares add up to one.
pub record Kept (s : Cells) : Type 0 where
  pub one_word : length s.words ≡ 1
  pub below_opening : slice_index s.words 0 ≤ opening_code
  pub below_put : (seat : ℕ) (v : Known) (c : ℕ) → get_elem? s.views seat ≡ some v
      → Contains v.put c → slice_index s.words 0 ≤ c
  pub is_put : IsTraced s.views (slice_index s.words 0)
  pub each_is_put : (seat : ℕ) (v : Known) (c : ℕ) → get_elem? s.views seat ≡ some v
      → Contains v.found c → IsTraced s.views c
  pub scale : ℕ
  pub scaled : (seat : ℕ) (v : Known) → get_elem? s.views seat ≡ some v → v.share.halvings ≤ scale
  pub one_whole : weights scale s.views ≡ 2 ^ scale
  pub spent_knows_nothing : (seat : ℕ) (v : Known) → get_elem? s.views seat ≡ some v
      → v.share.parts ≡ 0 → (v.put ≡ []) × (v.found ≡ [])

abbrev pub CellAtom : Type 0
CellAtom = Me (Unit {0}) Known

-- what a put tells: its code is among those put
abbrev pub Puts : Step (Unit {0}) → CellAtom → ℕ → CellAtom → Type 0
Puts st m r m' = (m'.0 ≡ with_put m.0 st.first) × (m'.1 ≡ m.1)

-- what a load tells
abbrev pub Finds : Step (Unit {0}) → CellAtom → ℕ → CellAtom → Type 0
Finds st m r m' = (m'.0 ≡ with_found_code m.0 r) × (m'.1 ≡ m.1) × Stands m.0 r
