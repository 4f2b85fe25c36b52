-- Two checks of the same files say the same.
use Rattle.std.proofs.Common.{◌≡◌, ◌∙◌, ℕ, zero, suc, ◌<◌, ◌≤◌, List, [], ◌∷◌, refl, sym, ap, subst, inl, inr, arith}
use Rattle.std.specs.Prelude.{Option, Some, None}
use Rattle.std.proofs.lemmas.Bool.{cases_lt}
use Rattle.disp_model.specs.declared.fixing.Fixing.{Fixing}
use Rattle.disp_model.specs.declared.plan.Event.{Event}
use Rattle.disp_model.specs.declared.problem.Problem.{Problem}
use Rattle.disp_model.specs.declared.tree.Leaf.{Leaf as TreeLeaf}
use Rattle.disp_model.specs.declared.tree.TreeNode.{TreeNode}
use Rattle.disp_model.specs.declared.tree.TreeNode.TheVariants.{Branch, Leaf}
use Rattle.disp_model.specs.declared.tree.Verdict.{Verdict}
use Rattle.disp_model.specs.declared.tree.Verdict.TheVariants.{Optimal, Infeasible}
use Rattle.disp_model.specs.Node.{Node, root_of}
use Rattle.solution_verifier.specs.declared.fault.Fault.{Fault}
use Rattle.solution_verifier.specs.First.{IsRight}
use Rattle.tree_checker.specs.declared.why.Checked.{Checked}
use Rattle.tree_checker.specs.declared.why.Checked.TheVariants.{Accepted, Refused}
use Rattle.tree_checker.specs.declared.why.Why.{Why}
use Rattle.tree_checker.specs.declared.why.Why.TheVariants.{
  BadName,
  BadChoice,
  HasRoute,
  NotCycle,
  EmptyWalk,
  NotForced,
  BadArc,
  NotLate,
  RepeatedComponent,
  RepeatedTrain,
  WrongTrain,
  WrongEnd,
  NoVerdict,
  BelowCost,
}
use Rattle.tree_checker.specs.Checks.{places_behind, StopsAtNode, IsChecked}
use Rattle.tree_checker.specs.Rules.{rank_of_why, rule_at, component_walks, listed_trains, CostsBelow, BreaksNode, IsFirstBrokenWhy}
use Rattle.tree_checker.proofs.Enough.{walks_cost_once, shares_cost_once}
use Rattle.disp_outside.specs.States.{Holdings}
use Rattle.command_words.specs.declared.task.Task.TheVariants.{Check}
use Rattle.answered_tasks.specs.declared.cause.Input.TheVariants as input
use Rattle.answered_tasks.specs.declared.outcome.Answer.{Answer}
use Rattle.answered_tasks.specs.Answers.{
  IsFaultUnder,
  IsSaidOfPlan,
  accepted_lines,
  accepted_status,
  SaysChecked,
  IsTreeChecked,
  AnswersCheck,
}
use Rattle.answered_tasks.specs.Files.{AreOfEdition, IsPlanFile}
use Rattle.answered_tasks.specs.Texts.{plan_fault_line}
use Rattle.answer_laws.specs.Agreed.{SayTheSame}
use Rattle.answer_laws.specs.Told.{TellsInputs}
use Rattle.answer_laws.proofs.Files.{one_problem, one_solution, one_tree}
use Rattle.answer_laws.proofs.Judged.{right_or_fault, one_fault}
use Rattle.answer_laws.proofs.Taken.{TellsGiven, one_number}

-- ---- the first rule that is broken

-- a rule whose place is below 13 is the rule of its place
at_rank : (why : Why) → rank_of_why why < 13 → why ≡ rule_at (rank_of_why why)
at_rank BadName lt = refl
at_rank BadChoice lt = refl
at_rank HasRoute lt = refl
at_rank NotCycle lt = refl
at_rank EmptyWalk lt = refl
at_rank NotForced lt = refl
at_rank BadArc lt = refl
at_rank NotLate lt = refl
at_rank RepeatedComponent lt = refl
at_rank RepeatedTrain lt = refl
at_rank WrongTrain lt = refl
at_rank WrongEnd lt = refl
at_rank NoVerdict lt = refl
at_rank (BelowCost bound cost) lt = absurd (omega (arith, lt))

-- the other one speaks of costs
record SpeaksOfCosts (why : Why) : Type 0 where
  bound : ℕ
  cost : ℕ
  is : why ≡ BelowCost bound cost

past_ranks : (why : Why) → 13 ≤ rank_of_why why → SpeaksOfCosts why
past_ranks (BelowCost bound cost) le = record { bound = bound; cost = cost; is = refl }
past_ranks why le = absurd (omega (arith, le))

module _ (node : Node) (verdict : Verdict) where
  below_once : (leaf : TreeLeaf) (bound cost other paid : ℕ) → CostsBelow node verdict leaf bound cost
      → CostsBelow node verdict leaf other paid → BelowCost bound cost ≡ BelowCost other paid
  below_once leaf bound cost other paid a b =
      let walks = walks_cost_once node (component_walks leaf) a.sum b.sum a.sum_is b.sum_is in
      let shares = shares_cost_once node (listed_trains leaf) a.shares b.shares a.shares_is
      b.shares_is in
      let bounds : bound ≡ other = omega (arith, walks, shares, a.bound_is, b.bound_is) in
      ap (λ (n : ℕ). BelowCost n cost) bounds
      ∙ ap (λ (n : ℕ). BelowCost other n) (same_cost (sym a.verdict_is ∙ b.verdict_is))
    where
      same_cost : Optimal cost ≡ Optimal paid → cost ≡ paid
      same_cost e = cc

  costs_once : (top : TreeNode) (bound cost other paid : ℕ)
      → BreaksNode node verdict top (BelowCost bound cost)
      → BreaksNode node verdict top (BelowCost other paid)
      → BelowCost bound cost ≡ BelowCost other paid
  costs_once (Branch choice children) bound cost other paid a b = absurd a
  costs_once (Leaf leaf) bound cost other paid a b =
      let one = a.1 in let two = b.1 in below_once leaf bound cost other paid one.1 two.1

  same_rank : (top : TreeNode) (why other : Why) → rank_of_why why ≡ rank_of_why other
      → BreaksNode node verdict top why → BreaksNode node verdict top other → why ≡ other
  same_rank top why other same a b = elim (cases_lt (rank_of_why why) 13) [
    | inl lt ↦ at_rank why lt ∙ ap rule_at same ∙ sym (at_rank other (omega (arith, lt, same)))
    | inr le ↦
        let one = past_ranks why le in
        let two = past_ranks other (omega (arith, le, same)) in
        one.is
        ∙ costs_once top one.bound one.cost two.bound two.cost
        (subst (BreaksNode node verdict top) one.is a)
        (subst (BreaksNode node verdict top) two.is b)
        ∙ sym two.is
  ]

  first_once : (top : TreeNode) (why other : Why) → IsFirstBrokenWhy node verdict top why
      → IsFirstBrokenWhy node verdict top other → why ≡ other
  first_once top why other a b = elim (cases_lt (rank_of_why why) (rank_of_why other)) [
    | inl lt ↦ absurd (b.first why lt a.broken)
    | inr le ↦ elim (cases_lt (rank_of_why other) (rank_of_why why)) [
      | inl lt ↦ absurd (a.first other lt b.broken)
      | inr ge ↦ same_rank top why other (omega (arith, le, ge)) a.broken b.broken
    ]
  ]

-- ---- the first node that is refused

stops_once : (verdict : Verdict) (places : List Node) (tree : List TreeNode) (m n : ℕ)
    (why other : Why) → StopsAtNode verdict places tree m why → StopsAtNode verdict places tree n other
    → Refused m why ≡ Refused n other
stops_once verdict [] [] m n why other a b = absurd a
stops_once verdict (node ∷ places) [] m n why other a b =
    ap (λ (k : ℕ). Refused k why) (a.0 ∙ sym b.0) ∙ ap (λ (w : Why). Refused n w) (a.1 ∙ sym b.1)
stops_once verdict [] (top ∷ tree) m n why other a b =
    ap (λ (k : ℕ). Refused k why) (a.0 ∙ sym b.0) ∙ ap (λ (w : Why). Refused n w) (a.1 ∙ sym b.1)
stops_once verdict (node ∷ places) (top ∷ tree) zero zero why other a b =
    ap (λ (w : Why). Refused zero w) (first_once node verdict top why other a.is_first b.is_first)
stops_once verdict (node ∷ places) (top ∷ tree) zero (suc n) why other a b = absurd (a.not b.0)
stops_once verdict (node ∷ places) (top ∷ tree) (suc m) zero why other a b = absurd (b.not a.0)
stops_once verdict (node ∷ places) (top ∷ tree) (suc m) (suc n) why other a b =
    ap next (stops_once verdict (places_behind node top places) tree m n why other a.1 b.1)
  where
    next : Checked → Checked
    next Accepted = Accepted
    next (Refused k w) = Refused (suc k) w

checked_once : (problem : Problem) (fixings : List Fixing) (verdict : Verdict)
    (tree : List TreeNode) (one other : Checked) → IsChecked problem fixings verdict tree one
    → IsChecked problem fixings verdict tree other → one ≡ other
checked_once problem fixings verdict tree Accepted Accepted a b = refl
checked_once problem fixings verdict tree Accepted (Refused n why) a b = absurd (b.0 a)
checked_once problem fixings verdict tree (Refused n why) Accepted a b = absurd (a.0 b)
checked_once problem fixings verdict tree (Refused m why) (Refused n other) a b =
    stops_once verdict (root_of problem fixings ∷ []) tree m n why other a.1 b.1

-- ---- what is said of a plan

module _ (problem : Problem) (fixings : List Fixing) (plan : List Event) (stated : Option ℕ)
    (cost : ℕ) where
  right_under : (fault : Fault) → IsRight problem fixings plan stated cost
      → IsFaultUnder problem fixings plan stated cost fault → ⊥
  right_under fault right (inl first) =
      right_or_fault problem fixings plan stated cost fault right first
  right_under fault right (inr (actual, also, first)) =
      right_or_fault problem fixings plan (Some cost) cost fault
      (record { valid = right.valid; cost = right.cost; stated_is = refl }) first

  fault_under : (fault other : Fault) → IsFaultUnder problem fixings plan stated cost fault
      → IsFaultUnder problem fixings plan stated cost other → fault ≡ other
  fault_under fault other (inl a) (inl b) =
      one_fault problem fixings plan stated fault other a b
  fault_under fault other (inl a) (inr (actual, right, b)) =
      absurd (right_or_fault problem fixings plan stated actual fault right a)
  fault_under fault other (inr (actual, right, a)) (inl b) =
      absurd (right_or_fault problem fixings plan stated actual other right b)
  fault_under fault other (inr (actual, right, a)) (inr (paid, also, b)) =
      one_fault problem fixings plan (Some cost) fault other a b

said_once : (problem : Problem) (fixings : List Fixing) (verdict : Verdict)
    (plan : Option (List Event × Option ℕ)) (one other : Option (List ℕ))
    → IsSaidOfPlan problem fixings verdict plan one
    → IsSaidOfPlan problem fixings verdict plan other → one ≡ other
said_once problem fixings verdict None one other a b = a ∙ sym b
said_once problem fixings Infeasible (Some plan) one other a b = a ∙ sym b
said_once problem fixings (Optimal cost) (Some plan) None None a b = refl
said_once problem fixings (Optimal cost) (Some plan) None (Some line) a b =
    absurd (right_under problem fixings plan.0 plan.1 cost b.0 a b.1)
said_once problem fixings (Optimal cost) (Some plan) (Some line) None a b =
    absurd (right_under problem fixings plan.0 plan.1 cost a.0 b a.1)
said_once problem fixings (Optimal cost) (Some plan) (Some line) (Some more) a b =
    ap (λ (l : List ℕ). Some l)
    (a.2 ∙ ap (λ (f : Fault). plan_fault_line problem f)
    (fault_under problem fixings plan.0 plan.1 cost a.0 b.0 a.1 b.1) ∙ sym b.2)

-- ---- two answers

module _ (problem : Problem) (fixings : List Fixing) (verdict : Verdict)
    (plan : Option (List Event × Option ℕ)) where
  says_once : (checked : Checked) (status code : ℕ) (lines others : List (List ℕ))
      → SaysChecked problem fixings verdict plan checked status lines
      → SaysChecked problem fixings verdict plan checked code others
      → (status ≡ code) × (lines ≡ others)
  says_once Accepted status code lines others a b =
      let same = said_once problem fixings verdict plan a.0 b.0 a.1 b.1 in (
        a.2 ∙ ap accepted_status same ∙ sym b.2,
        a.3 ∙ ap (accepted_lines verdict) same ∙ sym b.3,
      )
  says_once (Refused node why) status code lines others a b =
      (a.0 ∙ sym b.0, a.1 ∙ sym b.1)

  same_checked : (tree : List TreeNode) (one other : Answer)
      → IsTreeChecked problem fixings verdict tree plan one
      → IsTreeChecked problem fixings verdict tree plan other → SayTheSame one other
  same_checked tree one other a b =
      let same = checked_once problem fixings verdict tree b.checked a.checked b.is_checked
      a.is_checked in
      let says = says_once a.checked one.status other.status one.lines other.lines a.says
      (subst (λ (c : Checked).
      SaysChecked problem fixings verdict plan c other.status other.lines) same b.says) in
      record {
        status = says.0;
        lines = says.1;
        journal = a.journal ∙ sym b.journal;
        puts = a.puts ∙ sym b.puts;
      }

one_plan : (holds : Holdings) (given : Option (List ℕ)) (one other : Option (List Event × Option ℕ))
    → TellsGiven holds given → IsPlanFile holds given one → IsPlanFile holds given other
    → one ≡ other
one_plan holds None one other tells a b = a ∙ sym b
one_plan holds (Some name) None other tells a b = absurd a
one_plan holds (Some name) (Some plan) None tells a b = absurd b
one_plan holds (Some name) (Some plan) (Some other) tells a b =
    let same = one_solution holds name (tells name refl) plan.0 other.0 plan.1 other.1 a b in
    ap (λ (p : List Event × Option ℕ). Some p) (λ i. (same.0 i, same.1 i))

pub checks_agree : (holds : Holdings) (problem tree : List ℕ) (fixings plan : Option (List ℕ))
    (one other : Answer) → TellsInputs holds (Check problem tree fixings plan)
    → AnswersCheck holds problem tree fixings plan one
    → AnswersCheck holds problem tree fixings plan other → SayTheSame one other
checks_agree holds problem_name tree_name fixings_name plan_name one other tells a b =
    let problem : b.problem ≡ a.problem =
    one_problem holds problem_name (tells input.Problem problem_name refl) b.problem a.problem
    b.problem_file a.problem_file in
    let fixed : AreOfEdition holds a.problem fixings_name b.fixings b.edition =
    subst (λ (p : Problem). AreOfEdition holds p fixings_name b.fixings b.edition) problem
    b.fixings_file in
    let fixings = one_number holds a.problem fixings_name b.fixings a.fixings b.edition a.edition
    (tells input.Fixings) fixed a.fixings_file in
    let read = one_tree holds tree_name (tells input.Tree tree_name refl) b.edition a.edition
    b.verdict a.verdict b.tree a.tree b.tree_file a.tree_file in
    let plan = one_plan holds plan_name b.plan a.plan (tells input.Plan) b.plan_file a.plan_file in
    same_checked a.problem a.fixings a.verdict a.plan a.tree one other a.checked
    (subst (λ (p : Problem). IsTreeChecked p a.fixings a.verdict a.tree a.plan other) problem
    (subst (λ (f : List Fixing). IsTreeChecked b.problem f a.verdict a.tree a.plan other) fixings.0
    (subst (λ (v : Verdict). IsTreeChecked b.problem b.fixings v a.tree a.plan other) read.0
    (subst (λ (t : List TreeNode). IsTreeChecked b.problem b.fixings b.verdict t a.plan other) read.1
    (subst (λ (q : Option (List Event × Option ℕ)).
    IsTreeChecked b.problem b.fixings b.verdict b.tree q other) plan b.checked)))))
