-- The lines of a feed: what asks for a change or for a look, and what asks nothing.
use Rattle.std.specs.Prelude.{◌≡◌, ℕ, ◌<◌, ◌^◌, List, ◌++◌, All, codes}
use Rattle.std.specs.Fmt.{decimal}
use Rattle.disp_model.specs.declared.fixing.Fixing.{Fixing}
use Rattle.disp_model.specs.declared.fixing.Fixing.TheVariants.{Started, Chosen, NotBefore}
use Rattle.disp_model.specs.declared.fixing.Change.{Change}
use Rattle.disp_model.specs.declared.fixing.Change.TheVariants.{Fix, Withdraw}
use Rattle.fixing_lines.specs.declared.fields.Fields.{Fields}
use Rattle.fixing_lines.specs.declared.request.Request.{Request}
use Rattle.fixing_lines.specs.declared.request.Request.TheVariants.{Ask, Show, Unreadable}

-- three numbers with one space between each two
abbrev pub fields_text : ℕ → ℕ → ℕ → List ℕ
fields_text t o n = decimal t ++ codes " " ++ decimal o ++ codes " " ++ decimal n

-- the line that asks for a fixing
abbrev pub fixing_text : Fixing → List ℕ
fixing_text (Started t o time) = codes "started " ++ fields_text t o time
fixing_text (Chosen t o next) = codes "chosen " ++ fields_text t o next
fixing_text (NotBefore t o time) = codes "notbefore " ++ fields_text t o time

-- the line that asks for a change
abbrev pub change_text : Change → List ℕ
change_text (Fix fixing) = fixing_text fixing
change_text (Withdraw number) = codes "withdraw " ++ decimal number

-- the line that asks where the search stands
abbrev pub show_text : List ℕ
show_text = codes "show"

-- a number of a line is at most 18446744073709551615
abbrev pub IsInLine : ℕ → Type 0
IsInLine n = n < 2 ^ 64

pub record AreInLine (t o n : ℕ) : Type 0 where
  pub first : IsInLine t
  pub second : IsInLine o
  pub third : IsInLine n

-- the numbers of the change may stand in a line
abbrev pub FitsLine : Change → Type 0
FitsLine (Fix (Started t o time)) = AreInLine t o time
FitsLine (Fix (Chosen t o next)) = AreInLine t o next
FitsLine (Fix (NotBefore t o time)) = AreInLine t o time
FitsLine (Withdraw number) = IsInLine number

-- the line asks for the change
pub record IsAsked (line : List ℕ) (change : Change) : Type 0 where
  pub within : FitsLine change
  pub text : line ≡ change_text change

-- the line is no request
pub record IsUnreadable (line : List ℕ) : Type 0 where
  pub not_asked : (change : Change) → IsAsked line change → ⊥
  pub not_show : line ≡ show_text → ⊥

-- the line is read as the request
abbrev pub Reads : List ℕ → Request → Type 0
Reads line (Ask change) = IsAsked line change
Reads line Show = line ≡ show_text
Reads line Unreadable = IsUnreadable line

-- the field is the number's
pub record IsField (field : List ℕ) (n : ℕ) : Type 0 where
  pub within : IsInLine n
  pub text : field ≡ decimal n

-- the number stands before the rest, with one space between
pub record LeadsWith (bytes : List ℕ) (n : ℕ) (rest : List ℕ) : Type 0 where
  pub within : IsInLine n
  pub text : bytes ≡ decimal n ++ (codes " " ++ rest)

-- the line is the word and three fields
pub record HasFields (word line : List ℕ) (fields : Fields) : Type 0 where
  pub within : AreInLine fields.at_train fields.at_op fields.last
  pub text : line ≡ word ++ fields_text fields.at_train fields.at_op fields.last

-- the line is the word and one number
pub record HasNumber (word line : List ℕ) (n : ℕ) : Type 0 where
  pub within : IsInLine n
  pub text : line ≡ word ++ decimal n

-- no byte is a space
abbrev pub HasNoSpace : List ℕ → Type 0
HasNoSpace bytes = All (λ byte. byte ≡ 32 → ⊥) bytes
