-- What each event owes the core, of what its pass knows.
use Rattle.std.proofs.Common.{◌≡◌, ◌∙◌, ℕ, ◌≤◌, Bool, true, List, [], ◌∷◌, length, take, sym, ap, subst, arith}
use Rattle.std.specs.Prelude.{Some, All}
use Rattle.std.proofs.lemmas.List.{take-append-le}
use Rattle.std.proofs.lemmas.Option.{same_Some}
use Rattle.disp_model.specs.declared.entry.Entry.{Entry}
use Rattle.disp_model.specs.declared.entry.Unasked.{Unasked}
use Rattle.disp_model.specs.declared.fixing.Change.{Change}
use Rattle.disp_model.specs.declared.fixing.Fixing.{Fixing}
use Rattle.disp_model.specs.declared.plan.Event.{Event}
use Rattle.disp_model.specs.WellFormed.{horizon}
use Rattle.disp_model.specs.Changes.{standing_of}
use Rattle.disp_model.specs.Node.{node_at}
use Rattle.disp_model.specs.History.{changes_of, fixings_after, newest}
use Rattle.history_laws.proofs.Appended.{changes_append}
use Rattle.open_nodes.specs.declared.work.Work.{Work}
use Rattle.open_nodes.specs.declared.work.Fragment.{Fragment}
use Rattle.tree_growth.specs.Grown.{GrowsBelow}
use Rattle.dispatch_core.specs.declared.event.CoreEvent.TheVariants as event
use Rattle.dispatch_core.specs.States.{Core, IsExamined}
use Rattle.turn_lock.specs.Known.{Known, StartsWith}
use Rattle.shared_board.specs.declared.terms.Terms.{Terms}
use Rattle.shared_board.specs.Callers.{terms_of, searcher_caller, searcher_of}
use Rattle.shared_board.specs.Calls.{FindsCore, MayEnter, IsFeed, IsSearcher, IsGrowthOf, IsExaminedFor, IsPlanFor}

-- the fixings of an edition that a history has are the same in one that begins with it
pub fixings_on : (history seen : List Entry) (number : ℕ) → StartsWith history seen → number ≤ newest seen → fixings_after number history ≡ fixings_after number seen
fixings_on history seen number (rest, is) within =
    ap (λ (l : List Change). standing_of (take number l)) (ap changes_of is ∙ changes_append seen rest) ∙ ap standing_of (take-append-le number (changes_of seen) (changes_of rest) within)

module _ (v : Known Entry Terms) where
  -- the core that is found has the pass's terms
  same_terms : (terms : Terms) → v.terms ≡ Some terms → (core : Core) → FindsCore v core → terms ≡ terms_of core
  same_terms terms is core found = same_Some terms (terms_of core) (sym is ∙ found.agrees)

  pub may_ask : (feed line : ℕ) (change : Change) → feed ≡ v.caller → MayEnter v (event.Ask feed line change)
  may_ask feed line change by = record { by = by; may = λ _ _. tt }

  pub may_unread : (feed line : ℕ) (why : Unasked) → feed ≡ v.caller → MayEnter v (event.Unread feed line why)
  may_unread feed line why by = record { by = by; may = λ _ _. tt }

  pub may_show : (feed line : ℕ) → feed ≡ v.caller → MayEnter v (event.Show feed line)
  may_show feed line by = record { by = by; may = λ _ _. tt }

  pub may_end : (feed : ℕ) → feed ≡ v.caller → IsFeed v → MayEnter v (event.FeedEnd feed)
  may_end feed by is = record {
    by = tt;
    may = λ core found. let n : is.terms.feeds ≡ length core.ended = ap (λ (t : Terms). t.feeds) (same_terms is.terms is.terms_are core found) in let m = is.within in omega arith;
  }

  pub may_leave : (searcher : ℕ) → searcher_caller searcher ≡ v.caller → IsSearcher v → MayEnter v (event.Leave searcher)
  may_leave searcher by is = record {
    by = tt;
    may = λ core found. let n : is.terms.searchers ≡ length core.left = ap (λ (t : Terms). t.searchers) (same_terms is.terms is.terms_are core found) in let m = is.within in omega arith;
  }

  pub may_next : MayEnter v event.Next
  may_next = record { by = tt; may = λ _ _. tt }

  pub may_take : (searcher edition want : ℕ) → MayEnter v (event.Take searcher edition want)
  may_take searcher edition want = record { by = tt; may = λ _ _. tt }

  pub may_grow : (searcher : ℕ) (fragment : Fragment) → searcher_caller searcher ≡ v.caller → IsGrowthOf v fragment → MayEnter v (event.Grow searcher fragment)
  may_grow searcher fragment by is = record {
    by = by;
    may = λ core found. let same = same_terms is.terms is.terms_are core found in record {
      grows = subst (λ (t : Terms). GrowsBelow t.settings.rule fragment.work.best (node_at t.problem (fixings_after fragment.work.edition core.history) fragment.work.decisions ∷ []) fragment.subtree fragment.bounds) same
          (subst (λ (f : List Fixing). GrowsBelow is.terms.settings.rule fragment.work.best (node_at is.terms.problem f fragment.work.decisions ∷ []) fragment.subtree fragment.bounds)
          (sym (fixings_on core.history v.seen fragment.work.edition found.begins.starts is.edition)) is.grows);
      few = is.few;
    };
  }

  pub may_give_back : (work : Work) (examined : Bool) → (examined ≡ true → IsExaminedFor v work) → MayEnter v (event.GiveBack work examined)
  may_give_back work examined owes = record {
    by = tt;
    may = λ core found so. let is = owes so in
        subst (λ (t : Terms). IsExamined t.settings.rule (node_at t.problem (fixings_after work.edition core.history) work.decisions) work.bound) (same_terms is.terms is.terms_are core found)
        (subst (λ (f : List Fixing). IsExamined is.terms.settings.rule (node_at is.terms.problem f work.decisions) work.bound)
        (sym (fixings_on core.history v.seen work.edition found.begins.starts is.edition)) is.examined);
  }

  pub may_publish : (edition : ℕ) (plan : List Event) → IsPlanFor v edition plan → MayEnter v (event.Publish edition plan)
  may_publish edition plan is = record {
    by = tt;
    may = λ core found. subst (λ (t : Terms). All (λ e. e.time ≤ horizon t.problem.trains) plan) (same_terms is.terms is.terms_are core found) is.within;
  }

  pub may_settle : (edition : ℕ) → MayEnter v (event.Settle edition)
  may_settle edition = record { by = tt; may = λ _ _. tt }

  pub may_stop : (edition : ℕ) → MayEnter v (event.Stop edition)
  may_stop edition = record { by = tt; may = λ _ _. tt }

  -- the caller of the searcher that a pass is of
  pub own_searcher : (caller searcher : ℕ) → caller ≡ v.caller → IsSearcher v → searcher ≡ searcher_of caller → searcher_caller searcher ≡ v.caller
  own_searcher caller searcher own is same = let above = is.above in omega arith
