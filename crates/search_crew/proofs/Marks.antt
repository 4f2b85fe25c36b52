-- The entry that gave an edition its mark.
use Rattle.std.proofs.Common.{◌≡◌, ◌≢◌, ◌⊎◌, ℕ, ◌==◌, Bool, true, false, inl, inr, List, [], ◌∷◌, refl, sym, ◌∙◌, ap, subst, arith}
use Rattle.std.specs.Prelude.{if◌then◌else◌}
use Rattle.std.proofs.lemmas.Bool.{eqb-true}
use Rattle.disp_model.specs.declared.answer.Answer.TheVariants as answer
use Rattle.disp_model.specs.declared.answer.Unfinished.TheVariants.{Budget}
use Rattle.disp_model.specs.declared.entry.Entry.{Entry}
use Rattle.disp_model.specs.declared.entry.Entry.TheVariants.{Asked, Unread, Shown, Grown, Published, Settled, Stopped}
use Rattle.disp_model.specs.declared.entry.Mark.{Mark}
use Rattle.disp_model.specs.declared.entry.Mark.TheVariants as mark
use Rattle.disp_model.specs.declared.tree.TreeNode.{TreeNode}
use Rattle.disp_model.specs.declared.tree.Verdict.{Verdict}
use Rattle.disp_model.specs.declared.tree.Verdict.TheVariants as verdict
use Rattle.disp_model.specs.History.{mark_of, mark_from, mark_after, mark_of_verdict}
use Rattle.incremental_paths.proofs.Members.{Contains-there}
use Rattle.search_crew.specs.Working.{IsAnswered}

-- an entry gave the edition this mark, which is not that of one that is worked on
abbrev pub IsMarkedBy : ℕ → List Entry → Mark → Type 0
IsMarkedBy edition history mark.Working = ⊥
IsMarkedBy edition history (mark.Optimal cost) = IsAnswered edition history (answer.Optimal cost)
IsMarkedBy edition history mark.Infeasible = IsAnswered edition history answer.Infeasible
IsMarkedBy edition history (mark.Stopped spent bound) = IsAnswered edition history (answer.Unfinished (Budget spent))

one_more : (edition : ℕ) (entry : Entry) (history : List Entry) (m : Mark) → IsMarkedBy edition history m → IsMarkedBy edition (entry ∷ history) m
one_more edition entry history mark.Working is = absurd is
one_more edition entry history (mark.Optimal cost) (tree, there) = (tree, Contains-there entry _ history there)
one_more edition entry history mark.Infeasible (tree, there) = (tree, Contains-there entry _ history there)
one_more edition entry history (mark.Stopped spent bound) (low, there) = (low, Contains-there entry _ history there)

settled : (edition named : ℕ) (v : Verdict) (tree : List TreeNode) (history : List Entry) (before : Mark) (b : Bool) → (named == edition) ≡ b
    → ((if b then mark_of_verdict v else before) ≡ before) ⊎ IsMarkedBy edition (Settled named v tree ∷ history) (if b then mark_of_verdict v else before)
settled edition named v tree history before false same = inl refl
settled edition named (verdict.Optimal cost) tree history before true same =
    inr (tree, (0, omega arith, ap (λ (n : ℕ). Settled n (verdict.Optimal cost) tree) (eqb-true named edition same)))
settled edition named verdict.Infeasible tree history before true same =
    inr (tree, (0, omega arith, ap (λ (n : ℕ). Settled n verdict.Infeasible tree) (eqb-true named edition same)))

stopped : (edition named spent bound : ℕ) (history : List Entry) (before : Mark) (b : Bool) → (named == edition) ≡ b
    → ((if b then mark.Stopped spent bound else before) ≡ before) ⊎ IsMarkedBy edition (Stopped named spent bound ∷ history) (if b then mark.Stopped spent bound else before)
stopped edition named spent bound history before false same = inl refl
stopped edition named spent bound history before true same =
    inr (bound, (0, omega arith, ap (λ (n : ℕ). Stopped n spent bound) (eqb-true named edition same)))

after_one : (edition : ℕ) (before : Mark) (entry : Entry) (history : List Entry) → (mark_after edition before entry ≡ before) ⊎ IsMarkedBy edition (entry ∷ history) (mark_after edition before entry)
after_one edition before (Asked feed line change told) history = inl refl
after_one edition before (Unread feed line why) history = inl refl
after_one edition before (Shown feed line standing) history = inl refl
after_one edition before (Grown searcher named seen node splits) history = inl refl
after_one edition before (Published named plan cost) history = inl refl
after_one edition before (Settled named v tree) history = settled edition named v tree history before (named == edition) refl
after_one edition before (Stopped named spent bound) history = stopped edition named spent bound history before (named == edition) refl

-- the mark is the one before, or an entry gave it
from_before : (edition : ℕ) (before : Mark) (history : List Entry) → (mark_from edition before history ≡ before) ⊎ IsMarkedBy edition history (mark_from edition before history)
from_before edition before [] = inl refl
from_before edition before (entry ∷ history) = by_rest (from_before edition (mark_after edition before entry) history) (after_one edition before entry history)
  where
    after : Mark
    after = mark_from edition (mark_after edition before entry) history

    by_rest : (after ≡ mark_after edition before entry) ⊎ IsMarkedBy edition history after
        → (mark_after edition before entry ≡ before) ⊎ IsMarkedBy edition (entry ∷ history) (mark_after edition before entry)
        → (after ≡ before) ⊎ IsMarkedBy edition (entry ∷ history) after
    by_rest (inr marked) one = inr (one_more edition entry history after marked)
    by_rest (inl same) (inl one) = inl (same ∙ one)
    by_rest (inl same) (inr one) = inr (subst (IsMarkedBy edition (entry ∷ history)) (sym same) one)

-- an edition that is closed was closed by an entry
pub marked : (edition : ℕ) (history : List Entry) (m : Mark) → m ≡ mark_of edition history → m ≢ mark.Working → IsMarkedBy edition history m
marked edition history m is closed = by_either (from_before edition mark.Working history)
  where
    by_either : (mark_of edition history ≡ mark.Working) ⊎ IsMarkedBy edition history (mark_of edition history) → IsMarkedBy edition history m
    by_either (inl working) = absurd (closed (is ∙ working))
    by_either (inr by) = subst (IsMarkedBy edition history) (sym is) by
