-- Lines of one caller that ask for changes.
use Rattle.std.proofs.Common.{◌≡◌, ◌∙◌, ℕ, suc, ◌+◌, ◌<◌, List, [], ◌∷◌, ◌++◌, get_or, length, take, refl, sym, ap, subst, arith}
use Rattle.std.specs.Prelude.{Some, slice_get}
use Rattle.std.proofs.Math.Seq.{take-suc}
use Rattle.std.proofs.lemmas.List.{append_assoc, append-nil, length-take-le, take_at}
use Rattle.disp_model.specs.declared.entry.Entry.{Entry}
use Rattle.disp_model.specs.declared.entry.Entry.TheVariants.{Asked, Unread, Shown, Grown, Published, Settled, Stopped}
use Rattle.disp_model.specs.declared.fixing.Change.{Change}
use Rattle.disp_model.specs.declared.problem.Problem.{Problem}
use Rattle.disp_model.specs.declared.reply.Reply.{Reply}
use Rattle.disp_model.specs.declared.reply.Reply.TheVariants.{Accepted, Known, Refused}
use Rattle.disp_model.specs.declared.settings.Settings.{Settings}
use Rattle.disp_model.specs.History.{changes_of, taken}
use Rattle.disp_model.specs.Legal.{IsLegal}
use Rattle.disp_model.specs.Replies.{IsReply}
use Rattle.disp_laws.proofs.OneReply.{one_reply}
use Rattle.fixing_editions.specs.Edition.{changes_after}
use Rattle.fixing_files.specs.Files.{IsTaken, TakesChange, TakesInTurn}
use Rattle.history_laws.proofs.Appended.{changes_more}
use Rattle.turn_lock.specs.Known.{StartsWith}
use Rattle.turn_lock.proofs.Beginnings.{starts_get}
use Rattle.shared_board.specs.declared.pass.Pass.{Pass}
use Rattle.shared_board.specs.Board.{known, lines}
use Rattle.shared_board.specs.Onward.{entries_by}
use Rattle.solved_problems.specs.Solved.{AreAskedLines, AsksNext, IsLineFor, AreLinesFor, MayBeAsked}

-- one more line behind the others
lines_more : (caller number : ℕ) (asked : List Change) (entries : List Entry) (change : Change) (entry : Entry) → AreLinesFor caller number asked entries
    → IsLineFor caller (number + length asked) change entry → AreLinesFor caller number (asked ++ change ∷ []) (entries ++ entry ∷ [])
lines_more caller number [] [] change entry all one = (subst (λ (n : ℕ). IsLineFor caller n change entry) (omega arith) one, tt)
lines_more caller number [] (first ∷ entries) change entry all one = absurd all
lines_more caller number (first ∷ asked) [] change entry all one = absurd all
lines_more caller number (first ∷ asked) (here ∷ entries) change entry (is, all) one =
    (is, lines_more caller (suc number) asked entries change entry all (subst (λ (n : ℕ). IsLineFor caller n change entry) (longer number (length asked)) one))
  where
    longer : (n k : ℕ) → n + suc k ≡ suc n + k
    longer n k = omega arith

-- there are as many as changes
pub as_many : (caller number : ℕ) (asked : List Change) (entries : List Entry) → AreLinesFor caller number asked entries → length entries ≡ length asked
as_many caller number [] [] all = refl
as_many caller number [] (first ∷ entries) all = absurd all
as_many caller number (first ∷ asked) [] all = absurd all
as_many caller number (first ∷ asked) (here ∷ entries) (is, all) = ap suc (as_many caller (suc number) asked entries all)

-- the line at the next place behind those before it
lines_next : (caller place : ℕ) (asked : List Change) (entries more : List Entry) (change : Change) (told : Reply) → place < length asked → get_or asked place change ≡ change
    → AreLinesFor caller 1 (take place asked) entries → more ≡ entries ++ Asked caller (place + 1) change told ∷ [] → AreLinesFor caller 1 (take (place + 1) asked) more
lines_next caller place asked entries more change told within here all is =
    let one : suc place ≡ place + 1 = omega arith in
    let grown : take (place + 1) asked ≡ take place asked ++ change ∷ [] =
    ap (λ (n : ℕ). take n asked) (sym one) ∙ (take-suc asked place change within ∙ ap (λ (c : Change). take place asked ++ c ∷ []) here) in
    let number : place + 1 ≡ 1 + length (take place asked) = omega (arith, length-take-le place asked (omega (arith, within))) in
    subst (λ (l : List Change). AreLinesFor caller 1 l more) (sym grown)
    (subst (AreLinesFor caller 1 (take place asked ++ change ∷ [])) (sym is)
    (lines_more caller 1 (take place asked) entries change (Asked caller (place + 1) change told) all (refl, number, refl)))

-- so is the next one that was asked
pub next_lines : (before after : Pass) (caller place : ℕ) (asked : List Change) (change : Change) → (known before).caller ≡ caller → lines before ≡ place → place < length asked
    → get_or asked place change ≡ change → AsksNext before after change → AreLinesFor caller 1 (take place asked) (entries_by caller (known before).seen)
    → AreLinesFor caller 1 (take (place + 1) asked) (entries_by caller (known after).seen)
next_lines before after caller place asked change same counted within here asks all =
    lines_next caller place asked (entries_by caller (known before).seen) (entries_by caller (known after).seen) change asks.reply within here all
    (subst (λ (n : ℕ). entries_by caller (known after).seen ≡ entries_by caller (known before).seen ++ Asked caller (n + 1) change asks.reply ∷ []) counted
    (subst (λ (n : ℕ). entries_by n (known after).seen ≡ entries_by n (known before).seen ++ Asked n (lines before + 1) change asks.reply ∷ []) same asks.entered))

-- what is taken of a change is what stands behind it
behind : (old : List Change) (change : Change) (told : Reply) → IsTaken told → old ++ taken change told ≡ changes_after old change told
behind old change (Accepted number) is = refl
behind old change (Known number) is = append-nil old
behind old change (Refused why) is = absurd is

-- the changes behind a line whose change was to be taken
changes_behind : (problem : Problem) (h : List Entry) (feed line : ℕ) (change : Change) (told : Reply) (mid : List Change) → (takes : TakesChange problem (changes_of h) change mid)
    → told ≡ takes.reply → changes_of (h ++ Asked feed line change told ∷ []) ≡ mid
changes_behind problem h feed line change told mid takes same =
    changes_more h (Asked feed line change told)
    ∙ behind (changes_of h) change told (subst IsTaken (sym same) takes.taken)
    ∙ ap (changes_after (changes_of h) change) same
    ∙ sym takes.after

-- Where the changes are to be taken one after the other, a legal history that begins with the lines took each.
module _ (problem : Problem) (settings : Settings) (history : List Entry) (legal : IsLegal problem settings history) where
  pub taken_lines : (h : List Entry) (number : ℕ) (asked : List Change) (entries : List Entry) → StartsWith history (h ++ entries) → MayBeAsked problem h asked
      → AreLinesFor 0 number asked entries → AreAskedLines number asked entries
  taken_lines h number [] [] starts may all = tt
  taken_lines h number [] (entry ∷ entries) starts may all = absurd all
  taken_lines h number (change ∷ asked) [] starts may all = absurd all
  taken_lines h number (change ∷ asked) (Asked feed line other told ∷ entries) starts (changes, (mid, takes, later)) ((feed_is, line_is, change_is), all) =
      let here : slice_get history (length h) ≡ Some (Asked feed line other told) = starts_get history _ starts (length h) _ (get_at h _ entries) in
      let front : take (length h) history ≡ h = ap (take (length h)) starts.1 ∙ (ap (take (length h)) (append_assoc h _ starts.0) ∙ take_at h _ (length h) refl) in
      let reply = subst (λ (c : Change). IsReply problem (changes_of h) c told) change_is (subst (λ (l : List Entry). IsReply problem (changes_of l) other told) front (legal (length h) _ here)) in
      let same = one_reply problem (changes_of h) change told takes.reply reply takes.reply_is in (
        (feed_is, line_is, change_is, subst IsTaken (sym same) takes.taken),
        taken_lines (h ++ Asked feed line other told ∷ []) (suc number) asked entries
            (subst (StartsWith history) (sym (append_assoc h (Asked feed line other told ∷ []) entries)) starts) (
              changes,
              subst (λ (l : List Change). TakesInTurn problem l asked changes)
                  (sym (ap (λ (c : Change). changes_of (h ++ Asked feed line c told ∷ [])) change_is ∙ changes_behind problem h feed line change told mid takes same)) later,
            ) all,
      )
    where
      get_at : (front : List Entry) (e : Entry) (rest : List Entry) → slice_get (front ++ e ∷ rest) (length front) ≡ Some e
      get_at [] e rest = refl
      get_at (x ∷ front) e rest = get_at front e rest
  taken_lines h number (change ∷ asked) (Unread feed line why ∷ entries) starts may all = absurd all.0
  taken_lines h number (change ∷ asked) (Shown feed line standing ∷ entries) starts may all = absurd all.0
  taken_lines h number (change ∷ asked) (Grown searcher edition seen node splits ∷ entries) starts may all = absurd all.0
  taken_lines h number (change ∷ asked) (Published edition plan cost ∷ entries) starts may all = absurd all.0
  taken_lines h number (change ∷ asked) (Settled edition verdict tree ∷ entries) starts may all = absurd all.0
  taken_lines h number (change ∷ asked) (Stopped edition spent bound ∷ entries) starts may all = absurd all.0
