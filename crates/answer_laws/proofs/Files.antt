-- What is read of a file whose bytes are told: one problem, one solution, one tree, one edition.
use Rattle.std.proofs.Common.{◌≡◌, ◌∙◌, ℕ, ◌<◌, ◌≤◌, true, false, List, [], length, refl, sym, ap, subst, arith}
use Rattle.std.specs.Prelude.{Option, Some, None, Result, Ok, Err, IsSome, IfSome, IsSomeAnd}
use Rattle.std.proofs.lemmas.Option.{same_Some}
use Rattle.disp_outside.specs.Lines.{feed_lines, HasLinesOf}
use Rattle.disp_model.specs.declared.fixing.Change.{Change}
use Rattle.disp_model.specs.declared.fixing.Fixing.{Fixing}
use Rattle.disp_model.specs.declared.limits.TheConstants.{MOST_FILE_BYTES, MOST_LINES}
use Rattle.disp_model.specs.declared.plan.Event.{Event}
use Rattle.disp_model.specs.declared.problem.Problem.{Problem}
use Rattle.disp_model.specs.declared.tree.TreeNode.{TreeNode}
use Rattle.disp_model.specs.declared.tree.Verdict.{Verdict}
use Rattle.displib_reader.specs.declared.fault.ProblemNo.{ProblemNo}
use Rattle.displib_reader.specs.Outcome.{IsReadAs}
use Rattle.displib_reader.proofs.OneAnswer.{read_is_not_refused, problems_agree}
use Rattle.solution_text.specs.declared.fault.SolutionNo.{SolutionNo}
use Rattle.solution_text.specs.Reading.{IsReadAsSolution}
use Rattle.solution_text.proofs.OneAnswer.{
  read_is_not_refused as solution_not_refused,
  plans_agree,
}
use Rattle.fixing_files.specs.declared.take.LineNo.{LineNo}
use Rattle.fixing_files.specs.Files.{TakesAll, AskInTurn, StopsAt}
use Rattle.disp_outside.specs.States.{Holdings}
use Rattle.tree_certificate.specs.declared.fault.TreeNo.{TreeNo}
use Rattle.tree_certificate.specs.declared.fault.TreeNo.TheVariants as tree_no
use Rattle.tree_certificate.specs.TreesRead.{TreeRead, tree_at, read_of, AnswersTree}
use Rattle.answered_tasks.specs.Causes.{IsBadFile, IsNoProblem, IsNoSolution, IsNoTree}
use Rattle.answered_tasks.specs.Files.{
  IsProblemFile,
  IsSolutionFile,
  IsTreeText,
  IsTreeNamed,
  IsTreeFile,
  TakesLines,
  IsFixingsFile,
  IsAskedFile,
  IsRefusedLine,
}
use Rattle.answered_tasks.specs.Outside.{IsFile, HoldsTooMuch}
use Rattle.answer_laws.proofs.Editions.{
  same_all,
  same_turn_asked,
  all_in_turn,
  lines_not_stopped,
}
use Rattle.answer_laws.proofs.Problems.{same_problem}

pub ok_is : {X E : Type 0} {one other : X} → ◌≡◌ {A = Result X E} (Ok one) (Ok other) → one ≡ other
ok_is e = cc

pub unlike : {X E : Type 0} {x : X} {e : E} → ◌≡◌ {A = Result X E} (Ok x) (Err e) → ⊥
unlike e = cc

untold : false ≡ true → ⊥
untold e = cc

-- ---- bytes

held_once : (held : Option (Option (List ℕ))) (one other : List ℕ) → IsSome held
    → IfSome held (λ file. file ≡ Some one) → IfSome held (λ file. file ≡ Some other)
    → one ≡ other
held_once None one other told a b = absurd (untold told)
held_once (Some file) one other told a b = same_Some one other (sym a ∙ b)

held_short : (held : Option (Option (List ℕ))) (bytes : List ℕ) → IsSome held
    → IfSome held (λ file. file ≡ Some bytes) → length bytes ≤ MOST_FILE_BYTES
    → IfSome held (λ file. IsSomeAnd file (λ bytes. MOST_FILE_BYTES < length bytes)) → ⊥
held_short None bytes told is short long = absurd (untold told)
held_short (Some file) bytes told is short long =
    let above : MOST_FILE_BYTES < length bytes =
    subst (λ (f : Option (List ℕ)). IsSomeAnd f (λ b. MOST_FILE_BYTES < length b)) is long in
    omega (arith, above, short)

-- ---- lines

-- these are the lines that are told
record TellsLines (held : Option (Option (List ℕ))) : Type 0 where
  lines : List (List ℕ)
  there : HasLinesOf held (Some lines)
  only : (told : Option (List (List ℕ))) → HasLinesOf held told → told ≡ Some lines

lines_told : (held : Option (Option (List ℕ))) (told : Option (List (List ℕ))) → IsSome held
    → HasLinesOf held told → TellsLines held
lines_told None told some has = absurd (untold some)
lines_told (Some None) told some has = absurd has
lines_told (Some (Some bytes)) told some has =
    record { lines = feed_lines bytes; there = refl; only = λ told has. has }

-- the lines of the name are these, they are few, and they are taken
pub record HasTaken (holds : Holdings) (name : List ℕ) (problem : Problem) (changes : List Change)
    : Type 0 where
  pub lines : List (List ℕ)
  pub there : HasLinesOf (holds name) (Some lines)
  pub only : (told : Option (List (List ℕ))) → HasLinesOf (holds name) told → told ≡ Some lines
  pub few : length lines ≤ MOST_LINES
  pub taken : TakesAll problem [] lines changes

module _ (holds : Holdings) (name : List ℕ) (told : IsSome (holds name)) where
  pub one_file : (one other : List ℕ) → IsFile holds name one → IsFile holds name other
      → one ≡ other
  one_file one other a b = held_once (holds name) one other told a.held b.held

  pub not_too_long : (bytes : List ℕ) → IsFile holds name bytes → HoldsTooMuch holds name → ⊥
  not_too_long bytes file long = held_short (holds name) bytes told file.held file.short long

  -- ---- problems and solutions

  -- bad bytes of the name are the bytes that were read
  bad_bytes : (Bad : List ℕ → Type 0) (bytes : List ℕ) → IsFile holds name bytes
      → IsBadFile holds name Bad → Bad bytes
  bad_bytes Bad bytes file bad = subst Bad (one_file bad.bytes bytes bad.file file) bad.bad

  -- ---- problems

  pub one_problem : (one other : Problem) → IsProblemFile holds name one
      → IsProblemFile holds name other → one ≡ other
  one_problem one other a b =
      let read : IsReadAs a.bytes other =
      subst (λ (bytes : List ℕ). IsReadAs bytes other)
      (one_file b.bytes a.bytes b.file a.file) b.read in
      let parts = problems_agree a.bytes one other a.read read in
      same_problem one other parts.0 parts.1 parts.2

  pub problem_not_bad : (problem : Problem) (refusal : ProblemNo) → IsProblemFile holds name problem
      → IsBadFile holds name (λ bytes. IsNoProblem bytes refusal) → ⊥
  problem_not_bad problem refusal file bad =
      let no = bad_bytes (λ bytes. IsNoProblem bytes refusal) file.bytes file.file bad in
      no.1 (read_is_not_refused file.bytes problem refusal file.read no.0)

  pub problem_not_long : (problem : Problem) → IsProblemFile holds name problem
      → HoldsTooMuch holds name → ⊥
  problem_not_long problem file long = not_too_long file.bytes file.file long

  -- ---- solutions

  pub one_solution : (plan other : List Event) (stated given : Option ℕ)
      → IsSolutionFile holds name plan stated → IsSolutionFile holds name other given
      → (plan ≡ other) × (stated ≡ given)
  one_solution plan other stated given a b =
      plans_agree a.bytes plan other stated given a.read
      (subst (λ (bytes : List ℕ). IsReadAsSolution bytes other given)
      (one_file b.bytes a.bytes b.file a.file) b.read)

  pub solution_not_bad : (plan : List Event) (stated : Option ℕ) (refusal : SolutionNo)
      → IsSolutionFile holds name plan stated
      → IsBadFile holds name (λ bytes. IsNoSolution bytes refusal) → ⊥
  solution_not_bad plan stated refusal file bad =
      let no = bad_bytes (λ bytes. IsNoSolution bytes refusal) file.bytes file.file bad in
      no.1 (solution_not_refused file.bytes plan stated refusal file.read no.0)

  pub solution_not_long : (plan : List Event) (stated : Option ℕ)
      → IsSolutionFile holds name plan stated → HoldsTooMuch holds name → ⊥
  solution_not_long plan stated file long = not_too_long file.bytes file.file long

  -- ---- trees

  -- what is read of a tree's text
  read_once : (bytes : List ℕ) (named given : Option ℕ) (verdict other : Verdict)
      (tree more : List TreeNode) → IsTreeText bytes named verdict tree
      → IsTreeText bytes given other more → read_of named verdict tree ≡ read_of given other more
  read_once bytes named given verdict other tree more a b = ok_is (sym a ∙ b)

  pub one_tree : (edition wanted : ℕ) (verdict other : Verdict) (tree more : List TreeNode)
      → IsTreeFile holds name edition verdict tree → IsTreeFile holds name wanted other more
      → (verdict ≡ other) × (tree ≡ more)
  one_tree edition wanted verdict other tree more a b =
      let text : IsTreeText a.bytes b.read.named other more =
      subst (λ (bytes : List ℕ). IsTreeText bytes b.read.named other more)
      (one_file b.bytes a.bytes b.file a.file) b.read.text in
      let same = read_once a.bytes a.read.named b.read.named verdict other tree more a.read.text text in
      (ap (λ (r : TreeRead). r.verdict) same, ap (λ (r : TreeRead). r.tree) same)

  -- the edition that a tree's text names is the one that is wanted
  pub tree_not_other : (edition named : ℕ) (verdict : Verdict) (tree : List TreeNode)
      → IsTreeFile holds name edition verdict tree → IsBadFile holds name (IsTreeNamed named)
      → named ≡ edition
  tree_not_other edition named verdict tree file bad =
      let other = bad_bytes (IsTreeNamed named) file.bytes file.file bad in
      let same = read_once file.bytes file.read.named (Some named) verdict other.verdict tree other.tree
      file.read.text other.text in
      let is : file.read.named ≡ Some named = ap (λ (r : TreeRead). r.edition) same in
      subst (λ (o : Option ℕ). IfSome o (λ e. e ≡ edition)) is file.read.right

  pub tree_not_bad : (edition : ℕ) (verdict : Verdict) (tree : List TreeNode) (refusal : TreeNo)
      → IsTreeFile holds name edition verdict tree
      → IsBadFile holds name (λ bytes. IsNoTree bytes refusal) → ⊥
  tree_not_bad edition verdict tree refusal file bad =
      let no = bad_bytes (λ bytes. IsNoTree bytes refusal) file.bytes file.file bad in
      text_not_refused file.bytes refusal (read_of file.read.named verdict tree) file.read.text no.0
      no.1
    where
      text_not_refused : (bytes : List ℕ) (refusal : TreeNo) (read : TreeRead)
          → tree_at bytes ≡ Ok read → AnswersTree bytes refusal (tree_at bytes)
          → (refusal ≡ tree_no.Memory → ⊥) → ⊥
      text_not_refused bytes tree_no.Memory read is why other = other refl
      text_not_refused bytes (tree_no.BadLine n) read is why other = unlike (sym is ∙ why.1)
      text_not_refused bytes (tree_no.TooLarge n) read is why other = unlike (sym is ∙ why.1)
      text_not_refused bytes tree_no.Truncated read is why other = unlike (sym is ∙ why.1)
      text_not_refused bytes (tree_no.Trailing n) read is why other = unlike (sym is ∙ why.1)

  pub tree_not_long : (edition : ℕ) (verdict : Verdict) (tree : List TreeNode)
      → IsTreeFile holds name edition verdict tree → HoldsTooMuch holds name → ⊥
  tree_not_long edition verdict tree file long = not_too_long file.bytes file.file long

  -- ---- fixings

  pub fixings_taken : (problem : Problem) (fixings : List Fixing)
      → (file : IsFixingsFile holds problem name fixings) → HasTaken holds name problem file.changes
  fixings_taken problem fixings file =
      let tells = lines_told (holds name) file.told told file.lines in
      let takes : TakesLines problem tells.lines file.changes =
      subst (λ (o : Option (List (List ℕ))). IfSome o (λ lines. TakesLines problem lines file.changes))
      (tells.only file.told file.lines) file.taken in
      record {
        lines = tells.lines;
        there = tells.there;
        only = tells.only;
        few = takes.0;
        taken = takes.1;
      }

  pub asked_taken : (problem : Problem) (asked : List Change)
      → (file : IsAskedFile holds problem name asked) → HasTaken holds name problem file.taken.0
  asked_taken problem asked file =
      let tells = lines_told (holds name) file.told told file.lines in
      let is = tells.only file.told file.lines in
      let few : length tells.lines ≤ MOST_LINES =
      subst (λ (o : Option (List (List ℕ))). IfSome o (λ lines. length lines ≤ MOST_LINES))
      is file.few in
      let asks : AskInTurn tells.lines asked =
      subst (λ (o : Option (List (List ℕ))). IfSome o (λ lines. AskInTurn lines asked))
      is file.ask in
      record {
        lines = tells.lines;
        there = tells.there;
        only = tells.only;
        few = few;
        taken = all_in_turn problem [] tells.lines asked file.taken.0 asks file.taken.1;
      }

  pub one_asked : (problem : Problem) (one other : List Change)
      → IsAskedFile holds problem name one → IsAskedFile holds problem name other → one ≡ other
  one_asked problem one other a b =
      let tells = lines_told (holds name) a.told told a.lines in
      let first : AskInTurn tells.lines one =
      subst (λ (o : Option (List (List ℕ))). IfSome o (λ lines. AskInTurn lines one))
      (tells.only a.told a.lines) a.ask in
      let second : AskInTurn tells.lines other =
      subst (λ (o : Option (List (List ℕ))). IfSome o (λ lines. AskInTurn lines other))
      (tells.only b.told b.lines) b.ask in
      same_turn_asked tells.lines one other first second

  -- the lines that are told are one list
  pub one_lines : (one other : Option (List (List ℕ))) → HasLinesOf (holds name) one
      → HasLinesOf (holds name) other
      → (lines : List (List ℕ)) × (one ≡ Some lines) × (other ≡ Some lines)
  one_lines one other a b =
      let tells = lines_told (holds name) one told a in
      (tells.lines, tells.only one a, tells.only other b)

  pub one_edition : (problem : Problem) (one other : List Change) → HasTaken holds name problem one
      → HasTaken holds name problem other → one ≡ other
  one_edition problem one other a b =
      let same : b.lines ≡ a.lines = same_Some b.lines a.lines (a.only (Some b.lines) b.there) in
      same_all problem [] a.lines one other a.taken
      (subst (λ (l : List (List ℕ)). TakesAll problem [] l other) same b.taken)

  pub taken_not_refused : (problem : Problem) (changes : List Change) (number : ℕ)
      (reason : LineNo) → HasTaken holds name problem changes → IsRefusedLine holds problem name number reason
      → ⊥
  taken_not_refused problem changes number reason takes refused =
      let stops : StopsAt problem takes.lines number reason =
      subst (λ (o : Option (List (List ℕ))). IfSome o (λ lines. StopsAt problem lines number reason))
      (takes.only refused.told refused.lines) refused.refused in
      lines_not_stopped problem takes.lines changes number reason takes.few takes.taken stops
