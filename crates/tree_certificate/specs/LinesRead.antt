-- Lines, and the lines behind a leaf that lists walks or trains.
use Rattle.std.specs.Prelude.{ℕ, zero, suc, List, [], ◌∷◌, length, codes, Result, Ok, Err}
use Rattle.disp_model.specs.declared.train.Op.{Op}
use Rattle.disp_model.specs.declared.tree.ComponentWalk.{ComponentWalk}
use Rattle.disp_model.specs.declared.tree.TrainWalks.{TrainWalks}
use Rattle.disp_model.specs.declared.limits.TheConstants.{GREATEST_NUMBER, MOST_COMPONENTS}
use Rattle.tree_certificate.specs.declared.fault.Fault.{Fault}
use Rattle.tree_certificate.specs.declared.fault.Fault.TheVariants.{Truncated}
use Rattle.tree_certificate.specs.Reading.{◌>>=◌}
use Rattle.tree_certificate.specs.FieldsRead.{before, from, field_number, ops_at, line_ended, word_at}

-- a line, without its end, which has to be there
abbrev pub line_with : List ℕ → List ℕ → Result (List ℕ × List ℕ) Fault
line_with line [] = Err Truncated
line_with line (end ∷ rest) = Ok (line, rest)

unfoldable pub line_at : List ℕ → Result (List ℕ × List ℕ) Fault
line_at bytes = line_with (before 10 bytes) (from 10 bytes)

-- so many of one kind
unfoldable pub items_at : {A : Type 0} → (List ℕ → Result (A × List ℕ) Fault) → ℕ → List ℕ
    → Result (List A × List ℕ) Fault
items_at item zero bytes = Ok ([], bytes)
items_at item (suc count) bytes = do
  first ← item bytes
  others ← items_at item count first.1
  Ok (first.0 ∷ others.0, others.1)

-- a count that ends its line
unfoldable pub last_count : ℕ → List ℕ → Result ℕ Fault
last_count left fields = do
  count ← field_number left MOST_COMPONENTS fields
  done ← line_ended left count.1
  Ok count.0

unfoldable pub walk_at : List ℕ → Result (ComponentWalk × List ℕ) Fault
walk_at bytes = do
  line ← line_at bytes
  fields ← word_at (length bytes) (codes "walk") line.0
  component ← field_number (length bytes) GREATEST_NUMBER fields
  ops ← ops_at (length bytes) (length component.1) component.1
  Ok (record { component = component.0; walk = ops }, line.1)

unfoldable pub to_at : List ℕ → Result (List Op × List ℕ) Fault
to_at bytes = do
  line ← line_at bytes
  fields ← word_at (length bytes) (codes "to") line.0
  ops ← ops_at (length bytes) (length fields) fields
  Ok (ops, line.1)

unfoldable pub train_read : List ℕ → Result (TrainWalks × List ℕ) Fault
train_read bytes = do
  line ← line_at bytes
  fields ← word_at (length bytes) (codes "train") line.0
  train ← field_number (length bytes) GREATEST_NUMBER fields
  count ← last_count (length bytes) train.1
  walks ← items_at to_at count line.1
  Ok (record { train = train.0; walks = walks.0 }, walks.1)
