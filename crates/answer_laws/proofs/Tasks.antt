-- Words ask for one task, and for none where they are refused.
use Rattle.std.proofs.Common.{◌≡◌, ◌∙◌, ℕ, ◌+◌, ◌≤◌, List, [], get_or, sym, ap, subst, inl, inr, arith}
use Rattle.std.specs.Prelude.{Option, Some, None, codes, unwrap_or, max, min}
use Rattle.std.proofs.Props.{props}
use Rattle.std.proofs.lemmas.Option.{same_Some}
use Rattle.clap.specs.Words.{Row, all_of, first_of, one_of}
use Rattle.disp_model.specs.declared.limits.TheConstants.{MOST_CALLERS}
use Rattle.disp_model.specs.declared.settings.Rule.{Rule}
use Rattle.command_words.specs.declared.task.SolveTask.{SolveTask}
use Rattle.command_words.specs.declared.task.JudgeTask.{JudgeTask}
use Rattle.command_words.specs.declared.task.MakeTask.{MakeTask}
use Rattle.command_words.specs.declared.task.RollTask.{RollTask}
use Rattle.command_words.specs.declared.task.Task.{Task}
use Rattle.command_words.specs.declared.task.Task.TheVariants.{Solve, Verify, Report, Make, Check, Roll}
use Rattle.command_words.specs.Task.{AreTaken, Names, IsNumberOr, IsWithin, IsRuleText, IsSolve, IsJudge, IsMake, IsCheck, IsRoll, IsTask, AskForNoRule, AreRefused}

-- one number is at most another for one cause
at_least : (m n : ℕ) → IsProp (m ≤ n)
at_least m n = hlevel props

-- ---- what a text says

same_number : (other : ℕ) (found : Option (List ℕ)) (m n : ℕ) → IsNumberOr other found m
    → IsNumberOr other found n → m ≡ n
same_number other None m n one two = one ∙ sym two
same_number other (Some text) m n (inl one) (inl two) = sym one.value ∙ two.value
same_number other (Some text) m n (inl one) (inr two) = absurd (two.0 m one)
same_number other (Some text) m n (inr one) (inl two) = absurd (one.0 n two)
same_number other (Some text) m n (inr one) (inr two) = one.1 ∙ sym two.1

same_within : (least most : ℕ) (found : Option (List ℕ)) (m n : ℕ) → IsWithin least most found m
    → IsWithin least most found n → m ≡ n
same_within least most found m n one two =
    one.is ∙ ap (λ (k : ℕ). max least (min k most))
    (same_number 1 found one.said two.said one.said_is two.said_is) ∙ sym two.is

-- the two words for rules differ
fixed_is_not_free : codes "fixed" ≡ codes "free" → ⊥
fixed_is_not_free same =
    let letter : 105 ≡ 114 = ap (λ (l : List ℕ). get_or l 1 0) same in omega (arith, letter)

same_rule : (found : Option (List ℕ)) (one other : Rule) → IsRuleText found one
    → IsRuleText found other → one ≡ other
same_rule None one other a b = a ∙ sym b
same_rule (Some text) one other (inl a) (inl b) = a.1 ∙ sym b.1
same_rule (Some text) one other (inl a) (inr b) = absurd (fixed_is_not_free (sym a.0 ∙ b.0))
same_rule (Some text) one other (inr a) (inl b) = absurd (fixed_is_not_free (sym b.0 ∙ a.0))
same_rule (Some text) one other (inr a) (inr b) = a.1 ∙ sym b.1

-- ---- which command the words name

abbrev command_of : Task → List ℕ
command_of (Solve task) = codes "solve"
command_of (Verify task) = codes "verify"
command_of (Report task) = codes "report"
command_of (Make task) = codes "make"
command_of (Check problem tree fixings plan) = codes "check"
command_of (Roll task) = codes "roll"

-- the first two letters of a command tell it
abbrev letters_of : List ℕ → ℕ
letters_of command = get_or command 0 0 + get_or command 1 0

abbrev rows_of : (words : List (List ℕ)) (task : Task) → IsTask words task → List Row
rows_of words (Solve task) is = is.rows
rows_of words (Verify task) is = is.rows
rows_of words (Report task) is = is.rows
rows_of words (Make task) is = is.rows
rows_of words (Check problem tree fixings plan) is = is.rows
rows_of words (Roll task) is = is.rows

named_of : (words : List (List ℕ)) (task : Task) (is : IsTask words task)
    → Names words (command_of task) (rows_of words task is)
named_of words (Solve task) is = is.named
named_of words (Verify task) is = is.named
named_of words (Report task) is = is.named
named_of words (Make task) is = is.named
named_of words (Check problem tree fixings plan) is = is.named
named_of words (Roll task) is = is.named

taken_of : (words : List (List ℕ)) (task : Task) → IsTask words task → AreTaken words
taken_of words (Solve task) is = is.taken
taken_of words (Verify task) is = is.taken
taken_of words (Report task) is = is.taken
taken_of words (Make task) is = is.taken
taken_of words (Check problem tree fixings plan) is = is.taken
taken_of words (Roll task) is = is.taken

module _ (words : List (List ℕ)) where
  same_named : (command other : List ℕ) (rows more : List Row) → Names words command rows
      → Names words other more → (command ≡ other) × (rows ≡ more)
  same_named command other rows more one two =
      let one_row : List ℕ × List Row = (command, rows) in
      let other_row : List ℕ × List Row = (other, more) in
      let same : one_row ≡ other_row = same_Some one_row other_row (sym one ∙ two) in
      (ap (λ (p : List ℕ × List Row). p.0) same, ap (λ (p : List ℕ × List Row). p.1) same)

  same_letters : (task other : Task) → IsTask words task → IsTask words other
      → letters_of (command_of task) ≡ letters_of (command_of other)
  same_letters task other one two =
      ap letters_of (same_named (command_of task) (command_of other) (rows_of words task one)
      (rows_of words other two) (named_of words task one) (named_of words other two)).0

  same_rows : (command : List ℕ) (rows more : List Row) → Names words command rows
      → Names words command more → more ≡ rows
  same_rows command rows more one two = sym (same_named command command rows more one two).1

-- ---- the task of a command

-- a task to solve with another number of searchers, which is the same
solve_of : (task : SolveTask) (workers : ℕ) (some : 1 ≤ workers) (few : workers ≤ MOST_CALLERS)
    → task.workers ≡ workers
    → task ≡ record task { workers = workers; some_worker = some; few_workers = few }
solve_of task workers some few same =
    subst (λ (n : ℕ). (some : 1 ≤ n) (few : n ≤ MOST_CALLERS)
    → task ≡ record task { workers = n; some_worker = some; few_workers = few }) same
    (λ some few. λ i. record task {
      some_worker = at_least 1 task.workers task.some_worker some i;
      few_workers = at_least task.workers MOST_CALLERS task.few_workers few i;
    }) some few

roll_of : (task : RollTask) (workers : ℕ) (some : 1 ≤ workers) (few : workers ≤ MOST_CALLERS)
    → task.workers ≡ workers
    → task ≡ record task { workers = workers; some_worker = some; few_workers = few }
roll_of task workers some few same =
    subst (λ (n : ℕ). (some : 1 ≤ n) (few : n ≤ MOST_CALLERS)
    → task ≡ record task { workers = n; some_worker = some; few_workers = few }) same
    (λ some few. λ i. record task {
      some_worker = at_least 1 task.workers task.some_worker some i;
      few_workers = at_least task.workers MOST_CALLERS task.few_workers few i;
    }) some few

made_of : (task : MakeTask) (number trains : ℕ) (fits : number ≤ 2147483647) (fit : trains ≤ 2000)
    → task.number ≡ number → task.trains ≡ trains
    → task ≡ record task { number = number; trains = trains; number_fits = fits; trains_fit = fit }
made_of task number trains fits fit same_number same_trains =
    subst (λ (n : ℕ). (fits : n ≤ 2147483647)
    → task ≡ record task { number = n; trains = trains; number_fits = fits; trains_fit = fit })
    same_number
    (λ fits. subst (λ (n : ℕ). (fit : n ≤ 2000)
    → task ≡ record task { trains = n; number_fits = fits; trains_fit = fit }) same_trains
    (λ fit. λ i. record task {
      number_fits = at_least task.number 2147483647 task.number_fits fits i;
      trains_fit = at_least task.trains 2000 task.trains_fit fit i;
    }) fit) fits

module _ (words : List (List ℕ)) where
  same_solve : (a b : SolveTask) → IsSolve words a → IsSolve words b → a ≡ b
  same_solve a b one two =
      let rows : two.rows ≡ one.rows =
      same_rows words (codes "solve") one.rows two.rows one.named two.named in
      let found : (id : List ℕ) → first_of id one.rows ≡ first_of id two.rows =
      λ id. ap (λ (r : List Row). first_of id r) (sym rows) in
      let many : a.workers ≡ b.workers =
      same_within 1 MOST_CALLERS (one_of (codes "workers") one.rows) a.workers b.workers
      one.workers_is (rw (← rows) two.workers_is) in
      let spend : a.budget ≡ b.budget =
      same_number 1000000 (one_of (codes "budget") one.rows) a.budget b.budget one.budget_is
      (rw (← rows) two.budget_is) in
      let by : a.rule ≡ b.rule =
      same_rule (first_of (codes "rule") one.rows) a.rule b.rule one.rule_is
      (rw (← rows) two.rule_is) in
      let problem : a.problem ≡ b.problem =
      one.problem_is ∙ ap (λ (o : Option (List ℕ)). unwrap_or o []) (found (codes "problem"))
      ∙ sym two.problem_is in
      let fixings : a.fixings ≡ b.fixings =
      one.fixings_is ∙ found (codes "fixings") ∙ sym two.fixings_is in
      let plan : a.plan ≡ b.plan = one.plan_is ∙ found (codes "plan") ∙ sym two.plan_is in
      let tree : a.tree ≡ b.tree = one.tree_is ∙ found (codes "tree") ∙ sym two.tree_is in
      solve_of a b.workers b.some_worker b.few_workers many
      ∙ (λ i. record b {
        problem = problem i;
        fixings = fixings i;
        budget = spend i;
        rule = by i;
        plan = plan i;
        tree = tree i;
      })

  same_roll : (a b : RollTask) → IsRoll words a → IsRoll words b → a ≡ b
  same_roll a b one two =
      let rows : two.rows ≡ one.rows =
      same_rows words (codes "roll") one.rows two.rows one.named two.named in
      let found : (id : List ℕ) → first_of id one.rows ≡ first_of id two.rows =
      λ id. ap (λ (r : List Row). first_of id r) (sym rows) in
      let many : a.workers ≡ b.workers =
      same_within 1 MOST_CALLERS (one_of (codes "workers") one.rows) a.workers b.workers
      one.workers_is (rw (← rows) two.workers_is) in
      let spend : a.budget ≡ b.budget =
      same_number 1000000 (one_of (codes "budget") one.rows) a.budget b.budget one.budget_is
      (rw (← rows) two.budget_is) in
      let by : a.rule ≡ b.rule =
      same_rule (first_of (codes "rule") one.rows) a.rule b.rule one.rule_is
      (rw (← rows) two.rule_is) in
      let problem : a.problem ≡ b.problem =
      one.problem_is ∙ ap (λ (o : Option (List ℕ)). unwrap_or o []) (found (codes "problem"))
      ∙ sym two.problem_is in
      let feeds : a.feeds ≡ b.feeds =
      one.feeds_is
      ∙ ap (λ (r : List Row). unwrap_or (all_of (codes "feeds") r) []) (sym rows)
      ∙ sym two.feeds_is in
      let trees : a.trees ≡ b.trees = one.trees_is ∙ found (codes "trees") ∙ sym two.trees_is in
      roll_of a b.workers b.some_worker b.few_workers many
      ∙ (λ i. record b {
        problem = problem i;
        feeds = feeds i;
        budget = spend i;
        rule = by i;
        trees = trees i;
      })

  same_make : (a b : MakeTask) → IsMake words a → IsMake words b → a ≡ b
  same_make a b one two =
      let rows : two.rows ≡ one.rows =
      same_rows words (codes "make") one.rows two.rows one.named two.named in
      let number : a.number ≡ b.number =
      same_within 0 2147483647 (one_of (codes "number") one.rows) a.number b.number
      one.number_is (rw (← rows) two.number_is) in
      let trains : a.trains ≡ b.trains =
      same_within 1 2000 (one_of (codes "trains") one.rows) a.trains b.trains one.trains_is
      (rw (← rows) two.trains_is) in
      let out : a.out ≡ b.out =
      one.out_is ∙ ap (λ (r : List Row). first_of (codes "out") r) (sym rows)
      ∙ sym two.out_is in
      made_of a b.number b.trains b.number_fits b.trains_fit number trains
      ∙ (λ i. record b { out = out i })

  same_judge : (command : List ℕ) (a b : JudgeTask) → IsJudge command words a
      → IsJudge command words b → a ≡ b
  same_judge command a b one two =
      let rows : two.rows ≡ one.rows =
      same_rows words command one.rows two.rows one.named two.named in
      let found : (id : List ℕ) → first_of id one.rows ≡ first_of id two.rows =
      λ id. ap (λ (r : List Row). first_of id r) (sym rows) in
      let name : (id : List ℕ)
      → unwrap_or (first_of id one.rows) [] ≡ unwrap_or (first_of id two.rows) [] =
      λ id. ap (λ (o : Option (List ℕ)). unwrap_or o []) (found id) in
      let problem : a.problem ≡ b.problem =
      one.problem_is ∙ name (codes "problem") ∙ sym two.problem_is in
      let solution : a.solution ≡ b.solution =
      one.solution_is ∙ name (codes "solution") ∙ sym two.solution_is in
      let fixings : a.fixings ≡ b.fixings =
      one.fixings_is ∙ found (codes "fixings") ∙ sym two.fixings_is in
      λ i. record { problem = problem i; solution = solution i; fixings = fixings i }

  same_check : (p q t u : List ℕ) (f g m n : Option (List ℕ)) → IsCheck words p t f m
      → IsCheck words q u g n → Check p t f m ≡ Check q u g n
  same_check p q t u f g m n one two =
      let rows : two.rows ≡ one.rows =
      same_rows words (codes "check") one.rows two.rows one.named two.named in
      let found : (id : List ℕ) → first_of id one.rows ≡ first_of id two.rows =
      λ id. ap (λ (r : List Row). first_of id r) (sym rows) in
      let name : (id : List ℕ)
      → unwrap_or (first_of id one.rows) [] ≡ unwrap_or (first_of id two.rows) [] =
      λ id. ap (λ (o : Option (List ℕ)). unwrap_or o []) (found id) in
      let problem : p ≡ q = one.problem_is ∙ name (codes "problem") ∙ sym two.problem_is in
      let tree : t ≡ u = one.tree_is ∙ name (codes "tree") ∙ sym two.tree_is in
      let fixings : f ≡ g = one.fixings_is ∙ found (codes "fixings") ∙ sym two.fixings_is in
      let plan : m ≡ n = one.plan_is ∙ found (codes "plan") ∙ sym two.plan_is in
      λ i. Check (problem i) (tree i) (fixings i) (plan i)

  -- words ask for one task
  pub one_task : (task other : Task) → IsTask words task → IsTask words other → task ≡ other
  one_task (Solve a) (Solve b) one two = ap Solve (same_solve a b one two)
  one_task (Verify a) (Verify b) one two = ap Verify (same_judge (codes "verify") a b one two)
  one_task (Report a) (Report b) one two = ap Report (same_judge (codes "report") a b one two)
  one_task (Make a) (Make b) one two = ap Make (same_make a b one two)
  one_task (Check p t f m) (Check q u g n) one two = same_check p q t u f g m n one two
  one_task (Roll a) (Roll b) one two = ap Roll (same_roll a b one two)
  one_task task other one two =
      let letters = same_letters words task other one two in absurd (omega (arith, letters))

  -- ---- refused words

  -- the words name a command with a rule that there is not
  no_rule : (task : Task) → IsTask words task → AskForNoRule words → ⊥
  no_rule (Solve task) is asks =
      let rows : asks.rows ≡ is.rows =
      (same_named words asks.command (codes "solve") asks.rows is.rows asks.named is.named).1 in
      asks.no_rule task.rule (rw (rows) is.rule_is)
  no_rule (Roll task) is asks =
      let rows : asks.rows ≡ is.rows =
      (same_named words asks.command (codes "roll") asks.rows is.rows asks.named is.named).1 in
      asks.no_rule task.rule (rw (rows) is.rule_is)
  no_rule task is asks =
      let same : letters_of asks.command ≡ letters_of (command_of task) =
      ap letters_of (same_named words asks.command (command_of task) asks.rows
      (rows_of words task is) asks.named (named_of words task is)).0 in
      elim asks.searches [
        | inl solve ↦
            let letters : letters_of asks.command ≡ 226 = ap letters_of solve in
            omega (arith, same, letters)
        | inr roll ↦
            let letters : letters_of asks.command ≡ 225 = ap letters_of roll in
            omega (arith, same, letters)
      ]

  -- words that ask for a task are not refused
  pub not_refused : (task : Task) → IsTask words task → AreRefused words → ⊥
  not_refused task is (inl fault) = fault (taken_of words task is)
  not_refused task is (inr asks) = no_rule task is asks
