-- What feeds ask keeps the core sound.
use Rattle.std.proofs.Common.{◌≡◌, ◌∙◌, ℕ, ◌+◌, ◌≤◌, inl, inr, List, [], ◌∷◌, ◌++◌, length, Option, refl, sym, ap, subst, arith}
use Rattle.std.specs.Prelude.{All}
use Rattle.std.proofs.lemmas.List.{length_push}
use Rattle.std.proofs.lemmas.Option.{none-some}
use Rattle.disp_model.specs.declared.entry.Entry.{Entry}
use Rattle.disp_model.specs.declared.entry.Entry.TheVariants as entry
use Rattle.disp_model.specs.declared.entry.Standing.{Standing}
use Rattle.disp_model.specs.declared.entry.Unasked.{Unasked}
use Rattle.disp_model.specs.declared.fixing.Change.{Change}
use Rattle.disp_model.specs.declared.fixing.Fixing.{Fixing}
use Rattle.disp_model.specs.declared.reply.Reply.{Reply}
use Rattle.disp_model.specs.declared.reply.Reply.TheVariants.{Accepted, Known, Refused}
use Rattle.disp_model.specs.declared.tree.TreeNode.{TreeNode}
use Rattle.disp_model.specs.Changes.{standing_of}
use Rattle.disp_model.specs.History.{changes_of, newest, IsStanding}
use Rattle.disp_model.specs.Replay.{Growth, grown_by}
use Rattle.disp_model.specs.Replies.{IsReply}
use Rattle.disp_model.specs.Trees.{FitsNode}
use Rattle.open_nodes.specs.declared.place.Errand.{Errand}
use Rattle.open_nodes.specs.declared.place.Place.{Place}
use Rattle.open_nodes.specs.States.{State, allowance_for}
use Rattle.open_nodes.specs.Filled.{IsTree}
use Rattle.open_nodes.specs.Shown.{with_edition}
use Rattle.open_nodes.proofs.Touching.{newer_tree}
use Rattle.tree_growth.specs.Keeping.{AllKeep}
use Rattle.tree_replay.specs.Replayed.{IsReplayed}
use Rattle.tree_replay.proofs.Staying.{newer_stays}
use Rattle.history_laws.proofs.Appended.{changes_more, grown_more, spent_more, newest_front}
use Rattle.history_laws.proofs.Legality.{legal_more, accepted_number}
use Rattle.dispatch_core.specs.declared.event.CoreReply.{CoreReply}
use Rattle.dispatch_core.specs.declared.event.CoreReply.TheVariants as reply
use Rattle.dispatch_core.specs.Replies.{IsAsk, IsShow, Asks, with_ended, with_left}
use Rattle.dispatch_core.specs.States.{Core, entered, with_nodes, Settles, AreErrands, AreMarked, IsSound}
use Rattle.dispatch_core.proofs.Noting.{errand_stays, cost_stays, entered_sound, flagged_sound}
use Rattle.dispatch_core.proofs.Falling.{settled_tree, came_from, same_out, settled_keep, same_total}

-- ---- an accepted change

module _ (core : Core) (sound : IsSound core) (feed line : ℕ) (change : Change) (number : ℕ) (told_is : IsReply core.problem (changes_of core.history) change (Accepted number))
    (nodes : State) (settles : Settles core.problem (standing_of (changes_of core.history ++ change ∷ [])) (with_edition core.nodes number) nodes) where
  abbrev asked : Entry
  asked = entry.Asked feed line change (Accepted number)

  abbrev fixings : List Fixing
  fixings = standing_of (changes_of core.history ++ change ∷ [])

  abbrev before : State
  before = with_edition core.nodes number

  now_changes : changes_of (core.history ++ asked ∷ []) ≡ changes_of core.history ++ change ∷ []
  now_changes = changes_more core.history asked

  -- the edition is one more
  now_newest : newest (core.history ++ asked ∷ []) ≡ newest core.history + 1
  now_newest = omega (arith, ap (λ (l : List Change). length l) now_changes, length_push (changes_of core.history) change)

  before_tree : IsTree core.problem before
  before_tree = newer_tree core.problem core.nodes number sound.tree

  -- the tree is the one that was grown
  now_tree : IsTree core.problem nodes × IsReplayed (grown_by core.problem core.history) nodes
  now_tree = settled_tree core.problem fixings before nodes before_tree settles (grown_by core.problem core.history)
      (newer_stays (grown_by core.problem core.history) core.nodes number sound.replayed)

  -- what is out went out with an older edition
  now_errands : AreErrands (with_nodes (entered core asked) nodes)
  now_errands n p errand at out =
      let came = came_from core.problem fixings before nodes before_tree settles n p at in
      let x = came.0 in
      let is = sound.errands n x errand came.1 (sym (same_out core.problem fixings before nodes before_tree settles n p x at came.1) ∙ out) in
      errand_stays core asked nodes n x p errand is (λ newest_is. absurd (omega (arith, newest_is, now_newest, is.edition, newest_front core.history errand.seen)))

  -- what is marked is marked for an older edition
  now_marks : AreMarked (with_nodes (entered core asked) nodes)
  now_marks n p edition at examined =
      let came = came_from core.problem fixings before nodes before_tree settles n p at in
      let x = came.0 in
      let old : edition ≤ newest core.history = elim came.2 [
        | inl e ↦ absurd (none-some edition (ap (λ (q : Place). q.examined) (sym e) ∙ examined))
        | inr (stays, e) ↦ (sound.marks n x edition came.1 (ap (λ (q : Place). q.examined) (sym e) ∙ examined)).within
      ] in
      record { within = omega (arith, old, now_newest); examined = λ newest_is. absurd (omega (arith, old, newest_is, now_newest)) }

  accepted_sound : IsSound (with_nodes (entered core asked) nodes)
  accepted_sound = record {
    legal = legal_more core.problem core.settings core.history asked sound.legal told_is;
    tree = now_tree.0;
    replayed = subst (λ (g : Growth). IsReplayed g nodes) (sym (grown_more core.problem core.history asked)) now_tree.1;
    keep = subst (λ (cs : List Change). AllKeep core.settings.rule core.problem (standing_of cs) nodes) (sym now_changes)
        (settled_keep core.problem fixings before nodes before_tree settles core.settings.rule (standing_of (changes_of core.history)) sound.keep);
    fits = subst (λ (ks : List TreeNode). All FitsNode ks) (sym settles.kept) sound.fits;
    edition = settles.edition ∙ accepted_number core.problem (changes_of core.history) change number told_is ∙ sym now_newest;
    covered = λ edition.
        let total = same_total core.problem fixings before nodes before_tree settles (λ p. allowance_for edition p.out)
        (λ p q e. ap (λ (o : Option Errand). allowance_for edition o) e) in
        omega (arith, sound.covered edition, spent_more edition core.history asked, total);
    cost = cost_stays core.history asked (λ b. refl) sound.cost;
    errands = now_errands;
    marks = now_marks;
  }

-- ---- what feeds ask

ask_sound : (core : Core) (feed line : ℕ) (change : Change) (told : Reply) (after : Core) → IsSound core → Asks core feed line change told after → IsSound after
ask_sound core feed line change (Accepted number) after sound asks = subst IsSound (sym asks.after_is) (accepted_sound core sound feed line change number asks.told_is asks.nodes asks.tree)
ask_sound core feed line change (Known number) after sound asks =
    let asked = entry.Asked feed line change (Known number) in
    subst IsSound (sym (asks.after_is ∙ ap (λ (s : State). with_nodes (entered core asked) s) asks.tree))
    (entered_sound core asked (record { change = refl; growth = λ g. refl; splits = λ n. refl }) sound asks.told_is (cost_stays core.history asked (λ b. refl) sound.cost))
ask_sound core feed line change (Refused why) after sound asks =
    let asked = entry.Asked feed line change (Refused why) in
    subst IsSound (sym (asks.after_is ∙ ap (λ (s : State). with_nodes (entered core asked) s) asks.tree))
    (entered_sound core asked (record { change = refl; growth = λ g. refl; splits = λ n. refl }) sound asks.told_is (cost_stays core.history asked (λ b. refl) sound.cost))

pub asks_sound : (core : Core) (feed line : ℕ) (change : Change) (told : CoreReply) (after : Core) → IsSound core → IsAsk core feed line change told after → IsSound after
asks_sound core feed line change (reply.Asked told) after sound is = ask_sound core feed line change told after sound is
asks_sound core feed line change _ after sound is = absurd is

pub unread_sound : (core : Core) (feed line : ℕ) (why : Unasked) → IsSound core → IsSound (entered core (entry.Unread feed line why))
unread_sound core feed line why sound =
    entered_sound core (entry.Unread feed line why) (record { change = refl; growth = λ g. refl; splits = λ n. refl }) sound tt
    (cost_stays core.history (entry.Unread feed line why) (λ b. refl) sound.cost)

show_sound : (core : Core) (feed line : ℕ) (standing : Standing) → IsSound core → IsStanding core.problem core.history standing → IsSound (entered core (entry.Shown feed line standing))
show_sound core feed line standing sound is =
    entered_sound core (entry.Shown feed line standing) (record { change = refl; growth = λ g. refl; splits = λ n. refl }) sound is
    (cost_stays core.history (entry.Shown feed line standing) (λ b. refl) sound.cost)

pub shows_sound : (core : Core) (feed line : ℕ) (told : CoreReply) (after : Core) → IsSound core → IsShow core feed line told after → IsSound after
shows_sound core feed line (reply.Shown standing) after sound is = subst IsSound (sym is.after_is) (show_sound core feed line standing sound is.standing_is)
shows_sound core feed line _ after sound is = absurd is

pub ends_sound : (core : Core) (feed : ℕ) → IsSound core → IsSound (with_ended core feed)
ends_sound core feed = flagged_sound core (with_ended core feed).ended core.left

pub leaves_sound : (core : Core) (searcher : ℕ) → IsSound core → IsSound (with_left core searcher)
leaves_sound core searcher = flagged_sound core core.ended (with_left core searcher).left
