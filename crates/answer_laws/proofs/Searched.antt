-- Two searches of one problem with what was asked: their editions are one, and so what their marks say agrees.
use Rattle.std.proofs.Common.{◌≡◌, ◌∙◌, ℕ, suc, List, [], ◌∷◌, ◌++◌, length, slice_get, append_assoc, refl, sym, ap, subst, arith}
use Rattle.std.specs.Prelude.{All, Some}
use Rattle.std.proofs.lemmas.List.{append-nil, take_at}
use Rattle.std.proofs.lemmas.List.Elements.{All-head, All-tail}
use Rattle.disp_model.specs.declared.entry.Entry.{Entry}
use Rattle.disp_model.specs.declared.entry.Entry.TheVariants.{
  Asked,
  Unread,
  Shown,
  Grown,
  Published,
  Settled,
  Stopped,
}
use Rattle.disp_model.specs.declared.entry.Mark.{Mark}
use Rattle.disp_model.specs.declared.entry.Mark.TheVariants as mark
use Rattle.disp_model.specs.declared.fixing.Change.{Change}
use Rattle.disp_model.specs.declared.fixing.Fixing.{Fixing}
use Rattle.disp_model.specs.declared.problem.Problem.{Problem}
use Rattle.disp_model.specs.declared.reply.Reply.{Reply}
use Rattle.disp_model.specs.declared.reply.Reply.TheVariants.{Accepted, Known, Refused}
use Rattle.disp_model.specs.declared.settings.Settings.{Settings}
use Rattle.disp_model.specs.Cost.{IsLeast}
use Rattle.disp_model.specs.History.{taken, changes_of}
use Rattle.disp_model.specs.Legal.{IsLegal, IsLegalEntry}
use Rattle.disp_model.specs.Replies.{IsReply}
use Rattle.history_laws.proofs.Appended.{changes_append, changes_more}
use Rattle.fixing_editions.specs.Edition.{changes_after}
use Rattle.fixing_files.specs.Files.{IsTaken, TakesInTurn}
use Rattle.search_workers.specs.Searched.{IsOfSearch}
use Rattle.solved_problems.specs.Promised.{Promises}
use Rattle.solved_problems.specs.Solved.{AreAskedLines, IsSearched}
use Rattle.answer_laws.specs.Agreed.{AreOfOne}
use Rattle.answer_laws.proofs.Editions.{same_in_turn}

-- ---- the changes of a search

-- a search asks for no change
none_searched : (search : List Entry) → All IsOfSearch search → changes_of search ≡ []
none_searched [] all = refl
none_searched (entry ∷ search) all =
    first entry (All-head IsOfSearch entry search all)
    (none_searched search (All-tail IsOfSearch entry search all))
  where
    first : (e : Entry) → IsOfSearch e → changes_of search ≡ [] → changes_of (e ∷ search) ≡ []
    first (Asked feed line change told) is rest = absurd is
    first (Unread feed line why) is rest = absurd is
    first (Shown feed line standing) is rest = absurd is
    first (Grown searcher edition seen node splits) is rest = rest
    first (Published edition plan cost) is rest = rest
    first (Settled edition verdict tree) is rest = rest
    first (Stopped edition spent bound) is rest = rest

-- what is taken of a change stands behind the others
behind : (old : List Change) (change : Change) (told : Reply) → IsTaken told
    → old ++ taken change told ≡ changes_after old change told
behind old change (Accepted number) is = refl
behind old change (Known number) is = append-nil old
behind old change (Refused why) is = absurd is

get_at : (front : List Entry) (e : Entry) (rest : List Entry)
    → slice_get (front ++ e ∷ rest) (length front) ≡ Some e
get_at [] e rest = refl
get_at (x ∷ front) e rest = get_at front e rest

module _ (problem : Problem) (settings : Settings) where
  -- the entry behind a front of a legal history is legal behind it
  entry_legal : (front : List Entry) (e : Entry) (rest : List Entry)
      → IsLegal problem settings (front ++ e ∷ rest) → IsLegalEntry problem settings front e
  entry_legal front e rest legal =
      subst (λ (h : List Entry). IsLegalEntry problem settings h e)
      (take_at front (e ∷ rest) (length front) refl)
      (legal (length front) e (get_at front e rest))

  -- the lines of a legal history took what was asked, one after the other
  lines_take : (front : List Entry) (number : ℕ) (asked : List Change) (lines rest : List Entry)
      → IsLegal problem settings (front ++ (lines ++ rest)) → AreAskedLines number asked lines
      → TakesInTurn problem (changes_of front) asked (changes_of (front ++ lines))
  lines_take front number [] [] rest legal all = ap changes_of (append-nil front)
  lines_take front number [] (e ∷ lines) rest legal all = absurd all
  lines_take front number (change ∷ asked) [] rest legal all = absurd all
  lines_take front number (change ∷ asked) (Asked feed line other told ∷ lines) rest legal
      ((feed_is, line_is, change_is, is_taken), all) =
      let e : Entry = Asked feed line other told in
      let reply : IsReply problem (changes_of front) change told =
      subst (λ (c : Change). IsReply problem (changes_of front) c told) change_is
      (entry_legal front e (lines ++ rest) legal) in
      let after : changes_of (front ++ e ∷ []) ≡ changes_after (changes_of front) change told =
      changes_more front e ∙ behind (changes_of front) other told is_taken
      ∙ ap (λ (c : Change). changes_after (changes_of front) c told) change_is in
      let longer : (front ++ e ∷ []) ++ (lines ++ rest) ≡ front ++ (e ∷ lines ++ rest) =
      append_assoc front (e ∷ []) (lines ++ rest) in
      let later = lines_take (front ++ e ∷ []) (suc number) asked lines rest
      (subst (IsLegal problem settings) (sym longer) legal) all in (
        changes_of (front ++ e ∷ []),
        record { reply = told; reply_is = reply; taken = is_taken; after = after },
        subst (λ (h : List Entry). TakesInTurn problem (changes_of (front ++ e ∷ [])) asked (changes_of h))
            (append_assoc front (e ∷ []) lines) later,
      )
  lines_take front number (change ∷ asked) (Unread feed line why ∷ lines) rest legal all =
      absurd all.0
  lines_take front number (change ∷ asked) (Shown feed line standing ∷ lines) rest legal all =
      absurd all.0
  lines_take front number (change ∷ asked) (Grown searcher edition seen node splits ∷ lines) rest
      legal all = absurd all.0
  lines_take front number (change ∷ asked) (Published edition plan cost ∷ lines) rest legal all =
      absurd all.0
  lines_take front number (change ∷ asked) (Settled edition verdict tree ∷ lines) rest legal all =
      absurd all.0
  lines_take front number (change ∷ asked) (Stopped edition spent bound ∷ lines) rest legal all =
      absurd all.0

  -- the changes of a history that was searched are those that are taken in turn of what was asked
  searched_takes : (asked : List Change) (history : List Entry)
      → IsSearched problem settings asked history
      → TakesInTurn problem [] asked (changes_of history)
  searched_takes asked history is =
      let legal : IsLegal problem settings (is.lines ++ is.search) =
      subst (IsLegal problem settings) is.parts is.legal in
      let whole : changes_of history ≡ changes_of is.lines =
      ap changes_of is.parts ∙ changes_append is.lines is.search
      ∙ ap (λ (l : List Change). changes_of is.lines ++ l)
      (none_searched is.search is.of_search)
      ∙ append-nil (changes_of is.lines) in
      subst (TakesInTurn problem [] asked) (sym whole)
      (lines_take [] 1 asked is.lines is.search legal is.asks)

-- two searches of what was asked are of one edition
pub one_edition_searched : (problem : Problem) (settings other : Settings) (asked : List Change)
    (history later : List Entry) → IsSearched problem settings asked history
    → IsSearched problem other asked later → changes_of history ≡ changes_of later
one_edition_searched problem settings other asked history later a b =
    same_in_turn problem [] asked (changes_of history) (changes_of later)
    (searched_takes problem settings asked history a) (searched_takes problem other asked later b)

-- ---- what two marks say

least_costs_agree : (problem : Problem) (fixings : List Fixing) (c d : ℕ)
    → IsLeast problem fixings c → IsLeast problem fixings d → c ≡ d
least_costs_agree problem fixings c d one two =
    let below = one.none_below two.reached.0 two.reached.1 in
    let above = two.none_below one.reached.0 one.reached.1 in
    omega (arith, below, above, one.reached.2, two.reached.2)

pub marks_agree : (problem : Problem) (settings given : Settings) (fixings : List Fixing)
    (one other : Mark) → Promises problem settings fixings one
    → Promises problem given fixings other → AreOfOne one other
marks_agree problem settings given fixings mark.Working other a b = absurd a
marks_agree problem settings given fixings (mark.Optimal c) mark.Working a b = absurd b
marks_agree problem settings given fixings (mark.Optimal c) (mark.Optimal d) a b =
    least_costs_agree problem fixings c d a b
marks_agree problem settings given fixings (mark.Optimal c) mark.Infeasible a b =
    b a.reached.0 a.reached.1
marks_agree problem settings given fixings (mark.Optimal c) (mark.Stopped spent bound) a b =
    let least = b.1 a.reached.0 a.reached.1 in omega (arith, least, a.reached.2)
marks_agree problem settings given fixings mark.Infeasible mark.Working a b = absurd b
marks_agree problem settings given fixings mark.Infeasible (mark.Optimal d) a b =
    a b.reached.0 b.reached.1
marks_agree problem settings given fixings mark.Infeasible mark.Infeasible a b = tt
marks_agree problem settings given fixings mark.Infeasible (mark.Stopped spent bound) a b = tt
marks_agree problem settings given fixings (mark.Stopped spent bound) mark.Working a b = absurd b
marks_agree problem settings given fixings (mark.Stopped spent bound) (mark.Optimal d) a b =
    let least = a.1 b.reached.0 b.reached.1 in omega (arith, least, b.reached.2)
marks_agree problem settings given fixings (mark.Stopped spent bound) mark.Infeasible a b = tt
marks_agree problem settings given fixings (mark.Stopped spent bound) (mark.Stopped other least) a b =
    tt
