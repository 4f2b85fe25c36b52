-- What files are read as.
use Rattle.std.specs.Prelude.{◌≡◌, ℕ, ◌≤◌, List, [], length, Option, Some, None, IfSome, Ok}
use Rattle.disp_outside.specs.Lines.{HasLinesOf}
use Rattle.disp_model.specs.declared.fixing.Fixing.{Fixing}
use Rattle.disp_model.specs.declared.fixing.Change.{Change}
use Rattle.disp_model.specs.Changes.{standing_of}
use Rattle.disp_model.specs.Replies.{IsEdition}
use Rattle.disp_model.specs.declared.plan.Event.{Event}
use Rattle.disp_model.specs.declared.problem.Problem.{Problem}
use Rattle.disp_model.specs.declared.tree.TreeNode.{TreeNode}
use Rattle.disp_model.specs.declared.tree.Verdict.{Verdict}
use Rattle.tree_certificate.specs.TreesRead.{tree_at, read_of}
use Rattle.disp_model.specs.declared.limits.TheConstants.{MOST_LINES}
use Rattle.displib_reader.specs.Outcome.{IsReadAs}
use Rattle.solution_text.specs.Reading.{IsReadAsSolution}
use Rattle.fixing_files.specs.declared.take.LineNo.{LineNo}
use Rattle.fixing_files.specs.Files.{TakesAll, StopsAt, TakesInTurn, AskInTurn}
use Rattle.disp_outside.specs.States.{Holdings}
use Rattle.answered_tasks.specs.Outside.{IsFile}

-- the name's file is that of a problem
pub record IsProblemFile (holds : Holdings) (name : List ℕ) (problem : Problem) : Type 0 where
  pub bytes : List ℕ
  pub file : IsFile holds name bytes
  pub read : IsReadAs bytes problem

-- the name's file is that of a solution
pub record IsSolutionFile (holds : Holdings) (name : List ℕ) (plan : List Event) (stated : Option ℕ)
    : Type 0 where
  pub bytes : List ℕ
  pub file : IsFile holds name bytes
  pub read : IsReadAsSolution bytes plan stated

-- the bytes are read as the text of a tree that shows a verdict, of an edition that is named, or of
-- none
abbrev pub IsTreeText : List ℕ → Option ℕ → Verdict → List TreeNode → Type 0
IsTreeText bytes named verdict tree = tree_at bytes ≡ Ok (read_of named verdict tree)

-- the bytes are the text of a tree that shows a verdict, and the edition that it names, if it names
-- one, is this
pub record IsTreeOf (edition : ℕ) (bytes : List ℕ) (verdict : Verdict) (tree : List TreeNode)
    : Type 0 where
  pub named : Option ℕ
  pub text : IsTreeText bytes named verdict tree
  pub right : IfSome named (λ e. e ≡ edition)

-- the bytes are the text of a tree that names this edition
pub record IsTreeNamed (named : ℕ) (bytes : List ℕ) : Type 0 where
  pub verdict : Verdict
  pub tree : List TreeNode
  pub text : IsTreeText bytes (Some named) verdict tree

-- the name's file is that of a tree, which names this edition or none
pub record IsTreeFile (holds : Holdings) (name : List ℕ) (edition : ℕ) (verdict : Verdict)
    (tree : List TreeNode) : Type 0 where
  pub bytes : List ℕ
  pub file : IsFile holds name bytes
  pub read : IsTreeOf edition bytes verdict tree

-- the file of a name that is given is a solution's, and this is its plan with the stated cost;
-- where no name is given there is no plan
abbrev pub IsPlanFile : Holdings → Option (List ℕ) → Option (List Event × Option ℕ) → Type 0
IsPlanFile holds None plan = plan ≡ None
IsPlanFile holds (Some name) None = ⊥
IsPlanFile holds (Some name) (Some plan) = IsSolutionFile holds name plan.0 plan.1

-- the lines are not too many, and all are taken
abbrev pub TakesLines : Problem → List (List ℕ) → List Change → Type 0
TakesLines problem lines changes = (length lines ≤ MOST_LINES) × TakesAll problem [] lines changes

-- the lines of a name's file, where they are told, are all taken, their changes are an edition's,
-- and these fixings stand
pub record IsFixingsFile (holds : Holdings) (problem : Problem) (name : List ℕ)
    (fixings : List Fixing) : Type 0 where
  pub told : Option (List (List ℕ))
  pub lines : HasLinesOf (holds name) told
  pub changes : List Change
  pub taken : IfSome told (λ lines. TakesLines problem lines changes)
  pub edition : IsEdition problem changes
  pub standing : fixings ≡ standing_of changes

-- the lines of a name's file, where they are told, ask for these changes, each of which is taken
-- behind those before it
pub record IsAskedFile (holds : Holdings) (problem : Problem) (name : List ℕ) (asked : List Change)
    :
    Type 0 where
  pub told : Option (List (List ℕ))
  pub lines : HasLinesOf (holds name) told
  pub few : IfSome told (λ lines. length lines ≤ MOST_LINES)
  pub ask : IfSome told (λ lines. AskInTurn lines asked)
  pub taken : (changes : List Change) × TakesInTurn problem [] asked changes

-- so they do where a name is given; else nothing is asked
abbrev pub AreAsked : Holdings → Problem → Option (List ℕ) → List Change → Type 0
AreAsked holds problem None asked = asked ≡ []
AreAsked holds problem (Some name) asked = IsAskedFile holds problem name asked

-- the fixings that stand behind the lines of a file, if there is one; else there are none
abbrev pub AreFixings : Holdings → Problem → Option (List ℕ) → List Fixing → Type 0
AreFixings holds problem None fixings = fixings ≡ []
AreFixings holds problem (Some name) fixings = IsFixingsFile holds problem name fixings

-- so some fixings are
abbrev pub HasFixings : Holdings → Problem → Option (List ℕ) → Type 0
HasFixings holds problem name = (fixings : List Fixing) × AreFixings holds problem name fixings

-- the fixings that stand behind the lines of a file, if there is one, and how many changes were
-- accepted, which is the number of their edition; else there are none
abbrev pub AreOfEdition : Holdings → Problem → Option (List ℕ) → List Fixing → ℕ → Type 0
AreOfEdition holds problem None fixings edition = (fixings ≡ []) × (edition ≡ 0)
AreOfEdition holds problem (Some name) fixings edition =
    (file : IsFixingsFile holds problem name fixings) × (edition ≡ length file.changes)

-- a line of a name's file is not taken, where the lines are told
pub record IsRefusedLine (holds : Holdings) (problem : Problem) (name : List ℕ) (number : ℕ)
    (reason : LineNo) : Type 0 where
  pub told : Option (List (List ℕ))
  pub lines : HasLinesOf (holds name) told
  pub refused : IfSome told (λ lines. StopsAt problem lines number reason)

-- ---- for private clauses

-- the lines of a name's file, where they are told, are all taken for the problem
pub record IsFixingsTaken (holds : Holdings) (problem : Problem) (name : List ℕ) (asked : Problem)
    (changes : List Change) : Type 0 where
  pub same : asked ≡ problem
  pub told : Option (List (List ℕ))
  pub lines : HasLinesOf (holds name) told
  pub taken : IfSome told (λ lines. TakesLines problem lines changes)

-- so they are where a name is given; else there are no changes
abbrev pub AreChangesTaken : Holdings → Problem → Option (List ℕ) → Problem → List Change → Type 0
AreChangesTaken holds problem None asked changes = (asked ≡ problem) × (changes ≡ [])
AreChangesTaken holds problem (Some name) asked changes =
    IsFixingsTaken holds problem name asked changes
