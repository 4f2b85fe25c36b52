-- The whole text.
use Rattle.std.specs.Prelude.{◌≡◌, ℕ, ◌+◌, ◌-◌, List, [], ◌∷◌, length, take, codes, count_by, Bool, true, false, ◌==◌, Option, Some, None, Result, Ok, Err, ⊤}
use Rattle.disp_model.specs.declared.tree.TreeNode.{TreeNode}
use Rattle.disp_model.specs.declared.tree.Verdict.{Verdict}
use Rattle.disp_model.specs.declared.tree.Verdict.TheVariants.{Optimal, Infeasible}
use Rattle.disp_model.specs.declared.limits.TheConstants.{GREATEST_COST}
use Rattle.tree_certificate.specs.declared.fault.Fault.{Fault}
use Rattle.tree_certificate.specs.declared.fault.Fault.TheVariants as faults
use Rattle.tree_certificate.specs.declared.fault.TreeNo.{TreeNo}
use Rattle.tree_certificate.specs.declared.fault.TreeNo.TheVariants as no
use Rattle.tree_certificate.specs.declared.word.Version.{Version}
use Rattle.tree_certificate.specs.declared.word.Version.TheVariants.{First, Second, Third}
use Rattle.tree_certificate.specs.Reading.{◌>>=◌}
use Rattle.tree_certificate.specs.FieldsRead.{behind, field_number, line_ended, word_at, or_word}
use Rattle.tree_certificate.specs.LinesRead.{line_at}
use Rattle.tree_certificate.specs.NodesRead.{nodes_at}

-- the first line
unfoldable pub version_word_at : ℕ → List ℕ → Result (Version × List ℕ) Fault
version_word_at left line =
    or_word (behind (codes "displib-tree 1") line) First
    (or_word (behind (codes "displib-tree 2") line) Second
    (or_word (behind (codes "displib-tree 3") line) Third (Err (faults.Bad left))))

unfoldable pub version_at : List ℕ → Result (Version × List ℕ) Fault
version_at bytes = do
  line ← line_at bytes
  version ← version_word_at (length bytes) line.0
  done ← line_ended (length bytes) version.1
  Ok (version.0, line.1)

-- the second line of the later versions
unfoldable pub edition_line_at : List ℕ → Result (Option ℕ × List ℕ) Fault
edition_line_at bytes = do
  line ← line_at bytes
  fields ← word_at (length bytes) (codes "edition") line.0
  edition ← field_number (length bytes) 65535 fields
  done ← line_ended (length bytes) edition.1
  Ok (Some edition.0, line.1)

unfoldable pub edition_at : Version → List ℕ → Result (Option ℕ × List ℕ) Fault
edition_at First bytes = Ok (None, bytes)
edition_at Second bytes = edition_line_at bytes
edition_at Third bytes = edition_line_at bytes

-- the verdict's line
unfoldable pub optimal_at : ℕ → List ℕ → Result Verdict Fault
optimal_at left fields = do
  cost ← field_number left GREATEST_COST fields
  done ← line_ended left cost.1
  Ok (Optimal cost.0)

unfoldable pub infeasible_at : ℕ → List ℕ → Result Verdict Fault
infeasible_at left line = do
  fields ← word_at left (codes "verdict infeasible") line
  done ← line_ended left fields
  Ok Infeasible

abbrev pub verdict_by : Option (List ℕ) → ℕ → List ℕ → Result Verdict Fault
verdict_by (Some fields) left line = optimal_at left fields
verdict_by None left line = infeasible_at left line

unfoldable pub verdict_at : List ℕ → Result (Verdict × List ℕ) Fault
verdict_at bytes = do
  line ← line_at bytes
  verdict ← verdict_by (behind (codes "verdict optimal") line.0) (length bytes) line.0
  Ok (verdict, line.1)

-- nothing stands behind the last line
abbrev pub nothing_behind : List ℕ → Result ⊤ Fault
nothing_behind [] = Ok tt
nothing_behind (b ∷ rest) = Err (faults.Trailing (length (b ∷ rest)))

unfoldable pub end_at : List ℕ → Result ⊤ Fault
end_at bytes = do
  line ← line_at bytes
  fields ← word_at (length bytes) (codes "end") line.0
  done ← line_ended (length bytes) fields
  nothing_behind line.1

abbrev pub is_third_version : Version → Bool
is_third_version First = false
is_third_version Second = false
is_third_version Third = true

-- what a text says
pub record TreeRead : Type 0 where
  pub edition : Option ℕ
  pub verdict : Verdict
  pub tree : List TreeNode

unfoldable pub tree_at : List ℕ → Result TreeRead Fault
tree_at bytes = do
  version ← version_at bytes
  edition ← edition_at version.0 version.1
  verdict ← verdict_at edition.1
  nodes ← nodes_at (is_third_version version.0) (length verdict.1) 1 verdict.1
  done ← end_at nodes.1
  Ok (record { edition = edition.0; verdict = verdict.0; tree = nodes.0 })

-- the number of the line that begins where so many bytes are left
abbrev pub line_number : List ℕ → ℕ → ℕ
line_number bytes left = count_by (λ b. b == 10) (take (length bytes - left) bytes) + 1

-- the refusal for a fault
abbrev pub refusal_of : List ℕ → Fault → TreeNo
refusal_of bytes (faults.Bad left) = no.BadLine (line_number bytes left)
refusal_of bytes (faults.Large left) = no.TooLarge (line_number bytes left)
refusal_of bytes faults.Truncated = no.Truncated
refusal_of bytes (faults.Trailing left) = no.Trailing (line_number bytes left)

-- what is answered of bytes: what reading gives, or the refusal for its fault, unless memory ran
-- out
abbrev pub AnswersTree : List ℕ → TreeNo → Result TreeRead Fault → Type 0
AnswersTree bytes no.Memory read = Unit {0}
AnswersTree bytes (no.BadLine n) read = (fault : Fault) × (read ≡ Err fault)
    × (no.BadLine n ≡ refusal_of bytes fault)
AnswersTree bytes (no.TooLarge n) read = (fault : Fault) × (read ≡ Err fault)
    × (no.TooLarge n ≡ refusal_of bytes fault)
AnswersTree bytes no.Truncated read = (fault : Fault) × (read ≡ Err fault)
    × (no.Truncated ≡ refusal_of bytes fault)
AnswersTree bytes (no.Trailing n) read = (fault : Fault) × (read ≡ Err fault)
    × (no.Trailing n ≡ refusal_of bytes fault)

abbrev pub read_of : Option ℕ → Verdict → List TreeNode → TreeRead
read_of edition verdict tree = record { edition = edition; verdict = verdict; tree = tree }
