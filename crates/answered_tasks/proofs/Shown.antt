-- The tree of a legal history's newest edition shows the verdict of its mark.
use Rattle.std.proofs.Common.{◌≡◌, ◌∙◌, ℕ, ◌+◌, ◌==◌, Bool, true, false, List, [], ◌∷◌, ◌++◌, length, Option, Some, None, refl, sym, ap, subst, arith}
use Rattle.std.specs.Prelude.{if◌then◌else◌}
use Rattle.std.proofs.lemmas.Bool.{eq-eqb}
use Rattle.std.proofs.lemmas.List.{append-nil, length-append}
use Rattle.disp_model.specs.declared.entry.Entry.{Entry}
use Rattle.disp_model.specs.declared.entry.Entry.TheVariants.{Asked, Unread, Shown, Grown, Published, Settled, Stopped}
use Rattle.disp_model.specs.declared.entry.Mark.{Mark}
use Rattle.disp_model.specs.declared.entry.Mark.TheVariants as mark
use Rattle.disp_model.specs.declared.fixing.Change.{Change}
use Rattle.disp_model.specs.declared.fixing.Fixing.{Fixing}
use Rattle.disp_model.specs.declared.problem.Problem.{Problem}
use Rattle.disp_model.specs.declared.reply.Reply.TheVariants.{Accepted, Known, Refused}
use Rattle.disp_model.specs.declared.settings.Settings.{Settings}
use Rattle.disp_model.specs.declared.tree.TreeNode.{TreeNode}
use Rattle.disp_model.specs.declared.tree.Verdict.{Verdict}
use Rattle.disp_model.specs.declared.tree.Verdict.TheVariants.{Optimal, Infeasible}
use Rattle.disp_model.specs.Changes.{standing_of}
use Rattle.disp_model.specs.History.{change_of, changes_of, edition_of, newest, mark_of_verdict, mark_after, mark_from, mark_of}
use Rattle.disp_model.specs.Legal.{IsLegal, IsLegalEntry}
use Rattle.disp_model.specs.Trees.{Accepts}
use Rattle.history_laws.proofs.Appended.{changes_more}
use Rattle.history_laws.proofs.Legality.{by_entries, new_number}
use Rattle.answered_tasks.specs.Settled.{tree_after, tree_from, settled_tree, IsUnsettled, ShowsMark}

tree_more_from : (number : ℕ) (before : Option (Verdict × List TreeNode)) (history : List Entry)
    (entry : Entry) → tree_from number before (history ++ entry ∷ [])
    ≡ tree_after number (tree_from number before history) entry
tree_more_from number before [] entry = refl
tree_more_from number before (first ∷ history) entry =
    tree_more_from number (tree_after number before first) history entry

pub tree_more : (number : ℕ) (history : List Entry) (entry : Entry)
    → settled_tree number (history ++ entry ∷ [])
    ≡ tree_after number (settled_tree number history) entry
tree_more number history entry = tree_more_from number None history entry

-- a mark and a tree go together
abbrev Fits : Mark → Option (Verdict × List TreeNode) → Type 0
Fits told None = IsUnsettled told
Fits told (Some settled) = told ≡ mark_of_verdict settled.0

fits_choice : (b : Bool) (one other : Mark) (tree rest : Option (Verdict × List TreeNode))
    → Fits one tree → Fits other rest → Fits (if b then one else other) (if b then tree else rest)
fits_choice true one other tree rest fits fit = fits
fits_choice false one other tree rest fits fit = fit

fits_after : (number : ℕ) (told : Mark) (tree : Option (Verdict × List TreeNode)) (entry : Entry)
    → Fits told tree → Fits (mark_after number told entry) (tree_after number tree entry)
fits_after number told tree (Asked feed line change reply) fits = fits
fits_after number told tree (Unread feed line why) fits = fits
fits_after number told tree (Shown feed line standing) fits = fits
fits_after number told tree (Grown searcher edition seen node splits) fits = fits
fits_after number told tree (Published edition plan cost) fits = fits
fits_after number told tree (Settled edition verdict shown) fits =
    fits_choice (edition == number) (mark_of_verdict verdict) told (Some (verdict, shown)) tree refl fits
fits_after number told tree (Stopped edition spent bound) fits =
    fits_choice (edition == number) (mark.Stopped spent bound) told None tree tt fits

fits_from : (number : ℕ) (told : Mark) (tree : Option (Verdict × List TreeNode))
    (history : List Entry) → Fits told tree
    → Fits (mark_from number told history) (tree_from number tree history)
fits_from number told tree [] fits = fits
fits_from number told tree (entry ∷ history) fits =
    fits_from number (mark_after number told entry) (tree_after number tree entry) history
    (fits_after number told tree entry fits)

mark_fits : (number : ℕ) (history : List Entry)
    → Fits (mark_of number history) (settled_tree number history)
mark_fits number history = fits_from number mark.Working None history tt

never_working : (verdict : Verdict) → mark.Working ≡ mark_of_verdict verdict → ⊥
never_working (Optimal cost) e = cc
never_working Infeasible e = cc

-- an edition that is worked on has no tree
none_working : (tree : Option (Verdict × List TreeNode)) → Fits mark.Working tree → tree ≡ None
none_working None fits = refl
none_working (Some settled) fits = absurd (never_working settled.0 fits)

-- the tree, where there is one, is accepted
abbrev AcceptsIt : Problem → List Fixing → Option (Verdict × List TreeNode) → Type 0
AcceptsIt problem fixings None = Unit {0}
AcceptsIt problem fixings (Some settled) = Accepts problem fixings settled.0 settled.1

module _ (problem : Problem) (settings : Settings) where
  abbrev ShowsNewest : List Entry → Type 0
  ShowsNewest h = AcceptsIt problem (edition_of h) (settled_tree (newest h) h)

  -- an entry that takes no change: the tree is that behind it
  quiet_shows : (h : List Entry) (e : Entry) → change_of e ≡ []
      → AcceptsIt problem (edition_of h) (tree_after (newest h) (settled_tree (newest h) h) e)
      → ShowsNewest (h ++ e ∷ [])
  quiet_shows h e none shows =
      let same : changes_of (h ++ e ∷ []) ≡ changes_of h =
      changes_more h e ∙ ap (λ (l : List Change). changes_of h ++ l) none ∙ append-nil (changes_of h) in
      subst (λ (l : List Change). AcceptsIt problem (standing_of l)
      (settled_tree (length l) (h ++ e ∷ []))) (sym same)
      (subst (AcceptsIt problem (edition_of h)) (sym (tree_more (newest h) h e)) shows)

  -- an accepted change: the edition is new, and has no tree
  newer_shows : (h : List Entry) (e : Entry) (change : Change) → IsLegal problem settings h
      → change_of e ≡ change ∷ []
      → ((number : ℕ) (before : Option (Verdict × List TreeNode)) → tree_after number before e ≡ before)
      → ShowsNewest (h ++ e ∷ [])
  newer_shows h e change legal taken stays =
      let longer : newest (h ++ e ∷ []) ≡ newest h + 1 =
      ap (λ (l : List Change). length l) (changes_more h e)
      ∙ length-append (changes_of h) (change_of e)
      ∙ ap (λ (l : List Change). newest h + length l) taken in
      let working = (new_number problem settings h (newest h + 1) legal (omega arith)).working in
      let bare : settled_tree (newest h + 1) h ≡ None =
      none_working (settled_tree (newest h + 1) h)
      (subst (λ (m : Mark). Fits m (settled_tree (newest h + 1) h)) working
      (mark_fits (newest h + 1) h)) in
      let none : settled_tree (newest h + 1) (h ++ e ∷ []) ≡ None =
      tree_more (newest h + 1) h e ∙ stays (newest h + 1) (settled_tree (newest h + 1) h) ∙ bare in
      subst (λ (n : ℕ). AcceptsIt problem (edition_of (h ++ e ∷ [])) (settled_tree n (h ++ e ∷ [])))
      (sym longer) (subst (AcceptsIt problem (edition_of (h ++ e ∷ []))) (sym none) tt)

  -- the newest edition is settled or stopped
  closed : (h : List Entry) (edition : ℕ) (tree : Option (Verdict × List TreeNode))
      → edition ≡ newest h
      → (if edition == newest h then tree else settled_tree (newest h) h) ≡ tree
  closed h edition tree is =
      ap (λ (b : Bool). if b then tree else settled_tree (newest h) h) (eq-eqb edition (newest h) is)

  one_more : (h : List Entry) (e : Entry) → IsLegal problem settings h
      → IsLegalEntry problem settings h e → ShowsNewest h → ShowsNewest (h ++ e ∷ [])
  one_more h (Asked feed line change (Accepted n)) legal entry before =
      newer_shows h _ change legal refl (λ n b. refl)
  one_more h (Asked feed line change (Known n)) legal entry before = quiet_shows h _ refl before
  one_more h (Asked feed line change (Refused why)) legal entry before = quiet_shows h _ refl before
  one_more h (Unread feed line why) legal entry before = quiet_shows h _ refl before
  one_more h (Shown feed line standing) legal entry before = quiet_shows h _ refl before
  one_more h (Grown searcher edition seen node splits) legal entry before =
      quiet_shows h _ refl before
  one_more h (Published edition plan cost) legal entry before = quiet_shows h _ refl before
  one_more h (Settled edition verdict tree) legal entry before = quiet_shows h _ refl
      (subst (AcceptsIt problem (edition_of h))
      (sym (closed h edition (Some (verdict, tree)) entry.working.newest_is)) entry.accepted)
  one_more h (Stopped edition spent bound) legal entry before = quiet_shows h _ refl
      (subst (AcceptsIt problem (edition_of h))
      (sym (closed h edition None entry.working.newest_is)) tt)

  all_show : (history : List Entry) → IsLegal problem settings history → ShowsNewest history
  all_show = by_entries problem settings ShowsNewest tt one_more

  shows_mark : (fixings : List Fixing) (told : Mark) (tree : Option (Verdict × List TreeNode))
      → Fits told tree → AcceptsIt problem fixings tree → ShowsMark problem fixings told tree
  shows_mark fixings told None fits accepts = fits
  shows_mark fixings told (Some settled) fits accepts = (fits, accepts)

  pub tree_shows : (history : List Entry) → IsLegal problem settings history
      → ShowsMark problem (edition_of history) (mark_of (newest history) history)
      (settled_tree (newest history) history)
  tree_shows history legal = shows_mark (edition_of history) (mark_of (newest history) history)
      (settled_tree (newest history) history) (mark_fits (newest history) history)
      (all_show history legal)
