-- What the mark of a legal history promises.
use Rattle.std.proofs.Common.{◌≡◌, ◌≢◌, ◌∙◌, ℕ, ◌+◌, ◌==◌, Bool, List, [], ◌∷◌, ◌++◌, length, Option, Some, None, refl, sym, ap, subst, inl, inr, arith}
use Rattle.std.specs.Prelude.{◌⊎◌, MatchOption, if◌then◌else◌}
use Rattle.std.proofs.lemmas.Bool.{eq-eqb}
use Rattle.std.proofs.lemmas.List.{append-nil, length-append}
use Rattle.disp_model.specs.declared.entry.Entry.{Entry}
use Rattle.disp_model.specs.declared.entry.Entry.TheVariants.{Asked, Unread, Shown, Grown, Published, Settled, Stopped}
use Rattle.disp_model.specs.declared.entry.Mark.{Mark}
use Rattle.disp_model.specs.declared.entry.Mark.TheVariants as mark
use Rattle.disp_model.specs.declared.fixing.Change.{Change}
use Rattle.disp_model.specs.declared.fixing.Fixing.{Fixing}
use Rattle.disp_model.specs.declared.plan.Event.{Event}
use Rattle.disp_model.specs.declared.problem.Problem.{Problem}
use Rattle.disp_model.specs.declared.reply.Reply.TheVariants.{Accepted, Known, Refused}
use Rattle.disp_model.specs.declared.settings.Settings.{Settings}
use Rattle.disp_model.specs.declared.tree.TreeNode.{TreeNode}
use Rattle.disp_model.specs.declared.tree.Verdict.{Verdict}
use Rattle.disp_model.specs.declared.tree.Verdict.TheVariants.{Optimal, Infeasible}
use Rattle.disp_model.specs.Changes.{standing_of}
use Rattle.disp_model.specs.Cost.{cost_of, IsLeast}
use Rattle.disp_model.specs.History.{change_of, changes_of, edition_of, newest, plan_after, last_plan, mark_of_verdict, mark_after, mark_of}
use Rattle.disp_model.specs.Legal.{IsLegal, IsLegalEntry, IsLegalVerdict}
use Rattle.disp_model.specs.Valid.{IsValid}
use Rattle.disp_laws.proofs.TreesYes.{tree_says}
use Rattle.history_laws.proofs.Appended.{changes_more, mark_more, plan_more}
use Rattle.history_laws.proofs.Legality.{by_entries, new_number}
use Rattle.stop_laws.proofs.Stopping.{stop_bounds}
use Rattle.solved_problems.specs.Promised.{Promises}

-- what a mark promises, where there is one
abbrev Says : Problem → Settings → List Fixing → Mark → Type 0
Says problem settings fixings mark.Working = Unit {0}
Says problem settings fixings (mark.Optimal cost) = IsLeast problem fixings cost
Says problem settings fixings mark.Infeasible = Promises problem settings fixings mark.Infeasible
Says problem settings fixings (mark.Stopped spent bound) =
    Promises problem settings fixings (mark.Stopped spent bound)

-- the last plan costs what is told, and the newest edition's mark says true
record SaysTrue (problem : Problem) (settings : Settings) (history : List Entry) : Type 0 where
  told : (plan : List Event) (cost : ℕ) → last_plan history ≡ Some (plan, cost)
      → cost_of problem.components plan ≡ cost
  says : Says problem settings (edition_of history) (mark_of (newest history) history)

module _ (problem : Problem) (settings : Settings) where
  none_said : SaysTrue problem settings []
  none_said = record { told = λ plan cost e. cc; says = tt }

  -- an entry that takes no change: the mark is that behind it
  quiet_says : (h : List Entry) (e : Entry) → change_of e ≡ []
      → Says problem settings (edition_of h) (mark_after (newest h) (mark_of (newest h) h) e)
      → Says problem settings (edition_of (h ++ e ∷ []))
      (mark_of (newest (h ++ e ∷ [])) (h ++ e ∷ []))
  quiet_says h e none says =
      let same : changes_of (h ++ e ∷ []) ≡ changes_of h =
      changes_more h e ∙ ap (λ (l : List Change). changes_of h ++ l) none ∙ append-nil (changes_of h) in
      subst (λ (l : List Change). Says problem settings (standing_of l)
      (mark_of (length l) (h ++ e ∷ []))) (sym same)
      (subst (Says problem settings (edition_of h)) (sym (mark_more (newest h) h e)) says)

  same_told : (h : List Entry) (e : Entry)
      → ((before : Option (List Event × ℕ)) → plan_after before e ≡ before)
      → SaysTrue problem settings h
      → (plan : List Event) (cost : ℕ) → last_plan (h ++ e ∷ []) ≡ Some (plan, cost)
      → cost_of problem.components plan ≡ cost
  same_told h e same before plan cost is =
      before.told plan cost (sym (same (last_plan h)) ∙ sym (plan_more h e) ∙ is)

  -- an entry that takes no change, publishes nothing and closes nothing
  passes : (h : List Entry) (e : Entry) → change_of e ≡ []
      → ((before : Option (List Event × ℕ)) → plan_after before e ≡ before)
      → ((number : ℕ) (before : Mark) → mark_after number before e ≡ before)
      → SaysTrue problem settings h → SaysTrue problem settings (h ++ e ∷ [])
  passes h e none same stays before = record {
    told = same_told h e same before;
    says = quiet_says h e none (subst (Says problem settings (edition_of h))
        (sym (stays (newest h) (mark_of (newest h) h))) before.says);
  }

  -- an accepted change: the edition is new, and worked on
  newer : (h : List Entry) (e : Entry) (change : Change) → IsLegal problem settings h
      → change_of e ≡ change ∷ []
      → ((before : Option (List Event × ℕ)) → plan_after before e ≡ before)
      → ((number : ℕ) (before : Mark) → mark_after number before e ≡ before)
      → SaysTrue problem settings h → SaysTrue problem settings (h ++ e ∷ [])
  newer h e change legal taken same stays before =
      let longer : newest (h ++ e ∷ []) ≡ newest h + 1 =
      ap (λ (l : List Change). length l) (changes_more h e)
      ∙ length-append (changes_of h) (change_of e)
      ∙ ap (λ (l : List Change). newest h + length l) taken in
      let working : mark_of (newest h + 1) (h ++ e ∷ []) ≡ mark.Working =
      mark_more (newest h + 1) h e ∙ stays (newest h + 1) (mark_of (newest h + 1) h)
      ∙ (new_number problem settings h (newest h + 1) legal (omega arith)).working in
      record {
        told = same_told h e same before;
        says = subst (λ (n : ℕ). Says problem settings (edition_of (h ++ e ∷ []))
            (mark_of n (h ++ e ∷ []))) (sym longer)
            (subst (Says problem settings (edition_of (h ++ e ∷ []))) (sym working) tt);
      }

  told_of : (p q : List Event × ℕ) → cost_of problem.components p.0 ≡ p.1 → Some p ≡ Some q
      → cost_of problem.components q.0 ≡ q.1
  told_of p q costs e =
      subst (λ (r : List Event × ℕ). cost_of problem.components r.0 ≡ r.1) (some_is e) costs
    where
      some_is : {x y : List Event × ℕ} → Some x ≡ Some y → x ≡ y
      some_is e = cc

  published_told : (h : List Entry) (edition : ℕ) (plan : List Event) (cost : ℕ)
      → cost_of problem.components plan ≡ cost → (other : List Event) (paid : ℕ)
      → last_plan (h ++ Published edition plan cost ∷ []) ≡ Some (other, paid)
      → cost_of problem.components other ≡ paid
  published_told h edition plan cost costs other paid is =
      let one : List Event × ℕ = (plan, cost) in
      let two : List Event × ℕ = (other, paid) in
      told_of one two costs (sym (plan_more h (Published edition plan cost)) ∙ is)

  -- what a verdict says
  verdict_says : (h : List Entry) (edition : ℕ) (verdict : Verdict) (tree : List TreeNode)
      → IsLegalVerdict problem h edition verdict tree → SaysTrue problem settings h
      → Says problem settings (edition_of h) (mark_of_verdict verdict)
  verdict_says h edition Infeasible tree legal before =
      λ plan valid. tree_says problem (edition_of h) plan Infeasible tree valid legal.accepted
  verdict_says h edition (Optimal cost) tree legal before =
      least (last_plan h) refl legal.best_is
    where
      least : (last : Option (List Event × ℕ)) → last_plan h ≡ last
          → MatchOption last (legal.best ≡ None)
          (λ p. (IsValid problem (edition_of h) p.0 × (legal.best ≡ Some p.1))
          ⊎ ((IsValid problem (edition_of h) p.0 → ⊥) × (legal.best ≡ None)))
          → IsLeast problem (edition_of h) cost
      least None is none = absurd (unlike (sym none ∙ legal.verdict_is))
        where
          unlike : None ≡ Some cost → ⊥
          unlike e = cc
      least (Some p) is (inr h) = absurd (unlike (sym h.1 ∙ legal.verdict_is))
        where
          unlike : None ≡ Some cost → ⊥
          unlike e = cc
      least (Some p) is (inl best) = record {
        reached = (p.0, best.0, before.told p.0 p.1 is ∙ same (sym best.1 ∙ legal.verdict_is));
        none_below = λ plan valid.
            tree_says problem (edition_of h) plan (Optimal cost) tree valid legal.accepted;
      }
        where
          same : Some p.1 ≡ Some cost → p.1 ≡ cost
          same e = cc

  -- the newest edition is closed
  closed_mark : (h : List Entry) (edition : ℕ) (marked : Mark) → edition ≡ newest h
      → (if edition == newest h then marked else mark_of (newest h) h) ≡ marked
  closed_mark h edition marked is =
      ap (λ (b : Bool). if b then marked else mark_of (newest h) h) (eq-eqb edition (newest h) is)

  one_more : (h : List Entry) (e : Entry) → IsLegal problem settings h
      → IsLegalEntry problem settings h e → SaysTrue problem settings h
      → SaysTrue problem settings (h ++ e ∷ [])
  one_more h (Asked feed line change (Accepted n)) legal entry before =
      newer h _ change legal refl (λ b. refl) (λ n b. refl) before
  one_more h (Asked feed line change (Known n)) legal entry before =
      passes h _ refl (λ b. refl) (λ n b. refl) before
  one_more h (Asked feed line change (Refused why)) legal entry before =
      passes h _ refl (λ b. refl) (λ n b. refl) before
  one_more h (Unread feed line why) legal entry before =
      passes h _ refl (λ b. refl) (λ n b. refl) before
  one_more h (Shown feed line standing) legal entry before =
      passes h _ refl (λ b. refl) (λ n b. refl) before
  one_more h (Grown searcher edition seen node splits) legal entry before =
      passes h _ refl (λ b. refl) (λ n b. refl) before
  one_more h (Published edition plan cost) legal entry before = record {
    told = published_told h edition plan cost entry.cost_is;
    says = quiet_says h (Published edition plan cost) refl before.says;
  }
  one_more h (Settled edition verdict tree) legal entry before = record {
    told = same_told h (Settled edition verdict tree) (λ b. refl) before;
    says = quiet_says h (Settled edition verdict tree) refl
        (subst (Says problem settings (edition_of h))
        (sym (closed_mark h edition (mark_of_verdict verdict) entry.working.newest_is))
        (verdict_says h edition verdict tree entry before));
  }
  one_more h (Stopped edition spent bound) legal entry before = record {
    told = same_told h (Stopped edition spent bound) (λ b. refl) before;
    says = quiet_says h (Stopped edition spent bound) refl
        (subst (Says problem settings (edition_of h))
        (sym (closed_mark h edition (mark.Stopped spent bound) entry.working.newest_is))
        (entry.budget_is, stop_bounds problem settings h edition spent bound legal entry));
  }

  all_say : (history : List Entry) → IsLegal problem settings history
      → SaysTrue problem settings history
  all_say = by_entries problem settings (SaysTrue problem settings) none_said one_more

  promised : (fixings : List Fixing) (marked : Mark) → marked ≢ mark.Working
      → Says problem settings fixings marked → Promises problem settings fixings marked
  promised fixings mark.Working closed says = closed refl
  promised fixings (mark.Optimal cost) closed says = says
  promised fixings mark.Infeasible closed says = says
  promised fixings (mark.Stopped spent bound) closed says = says

  pub marks_say : (history : List Entry) → IsLegal problem settings history
      → mark_of (newest history) history ≢ mark.Working
      → Promises problem settings (edition_of history) (mark_of (newest history) history)
  marks_say history legal closed =
      promised (edition_of history) (mark_of (newest history) history) closed
      (all_say history legal).says
