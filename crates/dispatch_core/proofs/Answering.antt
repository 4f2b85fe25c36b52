-- An accepted change: the leaves that no longer hold have fallen back, and the change was asked for.
use Rattle.std.proofs.Common.{◌≡◌, ◌∙◌, ℕ, Bool, List, [], ◌∷◌, ◌++◌, length, get_or, inl, inr, Option, refl, sym, ap, subst}
use Rattle.std.specs.Prelude.{Some, None, slice_get}
use Rattle.std.proofs.lemmas.Option.{get_or_from_slice_get}
use Rattle.disp_model.specs.declared.entry.Entry.{Entry}
use Rattle.disp_model.specs.declared.entry.Entry.TheVariants.{Asked, Published}
use Rattle.disp_model.specs.declared.entry.Mark.{Mark}
use Rattle.disp_model.specs.declared.entry.Mark.TheVariants.{Working}
use Rattle.disp_model.specs.declared.settings.Settings.{Settings}
use Rattle.disp_model.specs.declared.fixing.Change.{Change}
use Rattle.disp_model.specs.declared.fixing.Change.TheVariants.{Fix, Withdraw}
use Rattle.disp_model.specs.declared.fixing.Fixing.{Fixing}
use Rattle.disp_model.specs.declared.plan.Event.{Event}
use Rattle.disp_model.specs.declared.problem.Problem.{Problem}
use Rattle.disp_model.specs.declared.reply.Reply.{Reply}
use Rattle.disp_model.specs.declared.reply.Reply.TheVariants.{Accepted, Known, Refused}
use Rattle.disp_model.specs.declared.tree.Verdict.TheVariants.{Optimal}
use Rattle.disp_model.specs.Changes.{standing_of}
use Rattle.disp_model.specs.History.{changes_of, last_plan}
use Rattle.disp_model.specs.Node.{node_at}
use Rattle.disp_model.specs.Replies.{IsReply, IsEdition}
use Rattle.disp_model.specs.Trees.{LeafHolds}
use Rattle.disp_model.specs.Valid.{IsValid}
use Rattle.disp_laws.proofs.LeavesStay.{leaf_stays}
use Rattle.disp_laws.proofs.Tightened.{accepted_tightens}
use Rattle.fixing_editions.specs.Edition.{Edition, changes_after, with_changes}
use Rattle.history_laws.proofs.Legality.{editions_are}
use Rattle.open_nodes.specs.declared.place.Place.{Place}
use Rattle.open_nodes.specs.Shown.{with_edition}
use Rattle.open_nodes.specs.States.{State, decisions_of}
use Rattle.open_nodes.proofs.Touching.{newer_tree}
use Rattle.dispatch_core.specs.declared.event.CoreReply.TheVariants as reply
use Rattle.dispatch_core.specs.Falling.{AreFailing, AreFallen, fallen_all}
use Rattle.dispatch_core.specs.Kept.{IsCostUnder, IsLastEntry, IsLastAt, AreCountsKept}
use Rattle.dispatch_core.specs.Replies.{Asks}
use Rattle.dispatch_core.specs.States.{Core, entered, with_nodes, DoesNotHold, Settles, IsSound}
use Rattle.dispatch_core.proofs.Asking.{asks_sound}
use Rattle.dispatch_core.proofs.Keeping.{IsSilent, IsWhole, kept_silent, kept_accepted}
use Rattle.dispatch_core.proofs.Fallen.{fallen_settles, none_settles}
use Rattle.dispatch_core.proofs.TakingBack.{stands_behind}

module _ (core : Core) (sound : IsSound core) where
  -- under one more accepted fixing each leaf still holds
  all_hold : (fixing : Fixing) (number : ℕ) → IsReply core.problem (changes_of core.history) (Fix fixing) (Accepted number) → (n : ℕ) (p : Place) → slice_get core.nodes.places n ≡ Some p
      → DoesNotHold core.problem (standing_of (changes_of core.history ++ Fix fixing ∷ [])) core.nodes n p → ⊥
  all_hold fixing number reply n p there fails =
      let changes : List Change = changes_of core.history in
      let edition : IsEdition core.problem changes = editions_are core.problem core.settings core.history sound.legal in
      let held = (sound.keep n p fails.0 there fails.1).holds in
      let still = leaf_stays (node_at core.problem (standing_of changes) (decisions_of core.nodes.places n)) (fixing ∷ []) (Optimal p.bound) fails.0
      (accepted_tightens core.problem changes fixing number reply) held in
      fails.2 (subst (λ (fs : List Fixing). LeafHolds (node_at core.problem fs (decisions_of core.nodes.places n)) (Optimal p.bound) fails.0)
      (sym (stands_behind core.problem changes fixing edition)) still)

  -- where those have fallen back that do not hold, the tree is settled
  asked_settles : (change : Change) (number : ℕ) (numbers : List ℕ) → IsReply core.problem (changes_of core.history) change (Accepted number)
      → AreFallen core.problem (standing_of (changes_of core.history ++ change ∷ [])) core.nodes change numbers
      → Settles core.problem (standing_of (changes_of core.history ++ change ∷ [])) (with_edition core.nodes number) (fallen_all (with_edition core.nodes number) numbers)
  asked_settles (Fix fixing) number numbers reply none =
      let before : State = with_edition core.nodes number in
      let fixings : List Fixing = standing_of (changes_of core.history ++ Fix fixing ∷ []) in
      subst (λ (l : List ℕ). Settles core.problem fixings before (fallen_all before l)) (sym none) (none_settles core.problem fixings before (all_hold fixing number reply))
  asked_settles (Withdraw taken) number numbers reply failing =
      fallen_settles core.problem (standing_of (changes_of core.history ++ Withdraw taken ∷ [])) (with_edition core.nodes number) numbers
      (newer_tree core.problem core.nodes number sound.tree) failing

  pub asks_accepted : (feed line : ℕ) (change : Change) (number : ℕ) (numbers : List ℕ) → IsReply core.problem (changes_of core.history) change (Accepted number)
      → AreFallen core.problem (standing_of (changes_of core.history ++ change ∷ [])) core.nodes change numbers
      → Asks core feed line change (Accepted number) (with_nodes (entered core (Asked feed line change (Accepted number))) (fallen_all (with_edition core.nodes number) numbers))
  asks_accepted feed line change number numbers reply fallen = record {
    told_is = reply;
    nodes = fallen_all (with_edition core.nodes number) numbers;
    tree = asked_settles change number numbers reply fallen;
    after_is = refl;
  }

  -- a change that is not accepted changes no tree
  pub asks_other : (feed line : ℕ) (change : Change) (told : Reply) → ((number : ℕ) → told ≡ Accepted number → ⊥) → IsReply core.problem (changes_of core.history) change told
      → Asks core feed line change told (entered core (Asked feed line change told))
  asks_other feed line change (Accepted number) other reply = absurd (other number refl)
  asks_other feed line change (Known number) other reply = record { told_is = reply; nodes = core.nodes; tree = refl; after_is = refl }
  asks_other feed line change (Refused why) other reply = record { told_is = reply; nodes = core.nodes; tree = refl; after_is = refl }

-- ---- what the code finds

-- of a withdrawal the leaves that do not hold are those that fall back
pub failing_fallen : (core self : Core) (problem : Problem) (fixings : List Fixing) (change : Change) (taken : ℕ) (numbers : List ℕ) → core ≡ self → problem ≡ core.problem → change ≡ Withdraw taken
    → AreFailing problem fixings core.nodes (length core.nodes.places) numbers → AreFallen self.problem fixings self.nodes change numbers
failing_fallen core self problem fixings change taken numbers view_is problem_is change_is failing =
    subst (λ (s : Core). AreFallen s.problem fixings s.nodes change numbers) view_is
    (subst (λ (d : Change). AreFallen core.problem fixings core.nodes d numbers) (sym change_is)
    (subst (λ (p : Problem). AreFailing p fixings core.nodes (length core.nodes.places) numbers) problem_is failing))

same_published : (e f : ℕ) (p q : List Event) (k l : ℕ) → Published e p k ≡ Published f q l → ◌≡◌ {A = Option (List Event × ℕ)} (Some (p, k)) (Some (q, l))
same_published e f p q k l is =
    let plans : p ≡ q = cc (is) in
    let costs : k ≡ l = cc (is) in
    ap (λ (r : List Event). Some (r, k)) plans ∙ ap (λ (n : ℕ). Some (q, n)) costs

-- the entry at the last place publishes the last plan
last_found : (history : List Entry) (last : Option ℕ) (place : ℕ) (entry : Entry) (edition : ℕ) (plan : List Event) (cost : ℕ) → IsLastEntry history last → last ≡ Some place
    → entry ≡ get_or history place entry → entry ≡ Published edition plan cost → last_plan history ≡ Some (plan, cost)
last_found history last place entry edition plan cost is last_is at entry_is =
    let found : IsLastAt history place = subst (λ (o : Option ℕ). IsLastEntry history o) last_is is in
    let there : get_or history place entry ≡ Published found.edition found.plan found.cost =
    get_or_from_slice_get history place (Published found.edition found.plan found.cost) entry found.there in
    found.last ∙ same_published found.edition edition found.plan plan found.cost cost (sym (at ∙ there) ∙ entry_is)

-- its cost is that under fixings where it is valid with them
module _ (core self : Core) (fixings : List Fixing) (last : Option ℕ) (place : ℕ) (entry : Entry) (edition : ℕ) (plan : List Event) (cost : ℕ) (view_is : core ≡ self)
    (is : IsLastEntry core.history last) (last_is : last ≡ Some place) (at : entry ≡ get_or core.history place entry) (entry_is : entry ≡ Published edition plan cost) where
  found : last_plan core.history ≡ Some (plan, cost)
  found = last_found core.history last place entry edition plan cost is last_is at entry_is

  pub valid_cost : IsValid core.problem fixings plan → IsCostUnder self.problem fixings (last_plan self.history) (Some cost)
  valid_cost valid = subst (λ (s : Core). IsCostUnder s.problem fixings (last_plan s.history) (Some cost)) view_is
      (subst (λ (o : Option (List Event × ℕ)). IsCostUnder core.problem fixings o (Some cost)) (sym found) (inl (valid, refl)))

  pub invalid_cost : (IsValid core.problem fixings plan → ⊥) → IsCostUnder self.problem fixings (last_plan self.history) None
  invalid_cost not = subst (λ (s : Core). IsCostUnder s.problem fixings (last_plan s.history) None) view_is
      (subst (λ (o : Option (List Event × ℕ)). IsCostUnder core.problem fixings o None) (sym found) (inr (not, refl)))

-- ---- the core after a change

not_taken : (changes : List Change) (change : Change) (told : Reply) → ((number : ℕ) → told ≡ Accepted number → ⊥) → changes_after changes change told ≡ changes
not_taken changes change (Accepted number) other = absurd (other number refl)
not_taken changes change (Known number) other = refl
not_taken changes change (Refused why) other = refl

asked_silent : (feed line : ℕ) (change : Change) (told : Reply) → ((number : ℕ) → told ≡ Accepted number → ⊥) → IsSilent (Asked feed line change told)
asked_silent feed line change (Accepted number) other = absurd (other number refl)
asked_silent feed line change (Known number) other = record { change = refl; plan = λ b. refl; mark = λ n b. refl; splits = λ n. refl }
asked_silent feed line change (Refused why) other = record { change = refl; plan = λ b. refl; mark = λ n b. refl; splits = λ n. refl }

module _ (settings : Settings) (ended left : List Bool) where
  -- the core of an edition and a history
  abbrev pub core_of : Edition → List Entry → State → Core
  core_of edition history nodes = record { problem = edition.problem; settings = settings; history = history; nodes = nodes; ended = ended; left = left }

  module _ (self : Core) (edition now : Edition) (history later : List Entry) (nodes : State) (best : Option ℕ) (mark : Mark) (spent : ℕ) (last : Option ℕ)
      (feed line : ℕ) (change : Change) (whole : IsWhole (core_of edition history nodes) edition best mark spent last) (view_is : core_of edition history nodes ≡ self) where
    abbrev core : Core
    core = core_of edition history nodes

    said : (told : Reply) → IsReply edition.problem edition.changes change told → IsReply edition.problem (changes_of history) change told
    said told is = subst (λ (l : List Change). IsReply edition.problem l change told) whole.0.changes is

    -- one that is not accepted changes the history alone
    pub other_whole : (told : Reply) → ((number : ℕ) → told ≡ Accepted number → ⊥) → IsReply edition.problem edition.changes change told
        → now ≡ with_changes edition (changes_after edition.changes change told) → later ≡ history ++ Asked feed line change told ∷ []
        → IsWhole (core_of now later nodes) now best mark spent last × Asks self feed line change told (core_of now later nodes)
    other_whole told other is now_is later_is =
        let asks = asks_other core whole.1 feed line change told other (said told is) in
        let same : now ≡ edition = now_is ∙ ap (λ (l : List Change). with_changes edition l) (not_taken edition.changes change told other) in
        let sound : IsSound (entered core (Asked feed line change told)) =
        asks_sound core feed line change (reply.Asked told) (entered core (Asked feed line change told)) whole.1 asks in
        let kept : IsWhole (core_of edition (history ++ Asked feed line change told ∷ []) nodes) edition best mark spent last =
        (kept_silent core edition best mark spent last whole.0 (Asked feed line change told) (asked_silent feed line change told other), sound) in
        subst (λ (e : Edition). IsWhole (core_of e later nodes) e best mark spent last × Asks self feed line change told (core_of e later nodes)) (sym same)
        (subst (λ (h : List Entry). IsWhole (core_of edition h nodes) edition best mark spent last × Asks self feed line change told (core_of edition h nodes)) (sym later_is)
        (kept, subst (λ (s : Core). Asks s feed line change told (core_of edition (history ++ Asked feed line change told ∷ []) nodes)) view_is asks))

    -- an accepted one makes a new edition, whose tree is settled
    pub accepted_whole : (number : ℕ) (numbers : List ℕ) (fixings : List Fixing) (cost : Option ℕ) (after : State) → IsReply edition.problem edition.changes change (Accepted number)
        → now ≡ with_changes edition (edition.changes ++ change ∷ []) → later ≡ history ++ Asked feed line change (Accepted number) ∷ []
        → fixings ≡ standing_of (changes_of self.history ++ change ∷ []) → AreFallen self.problem fixings self.nodes change numbers → IsCostUnder self.problem fixings (last_plan self.history) cost
        → after ≡ fallen_all (with_edition nodes number) numbers
        → IsWhole (core_of now later after) now cost Working 0 last × Asks self feed line change (Accepted number) (core_of now later after)
    accepted_whole number numbers fixings cost after is now_is later_is fixings_are fallen cost_is after_is =
        let asked : Entry = Asked feed line change (Accepted number) in
        let more : Edition = with_changes edition (edition.changes ++ change ∷ []) in
        let settled : State = fallen_all (with_edition nodes number) numbers in
        let behind : Core = core_of more (history ++ asked ∷ []) settled in
        let stand : fixings ≡ standing_of (changes_of history ++ change ∷ []) =
        fixings_are ∙ ap (λ (s : Core). standing_of (changes_of s.history ++ change ∷ [])) (sym view_is) in
        let falls : AreFallen edition.problem (standing_of (changes_of history ++ change ∷ [])) nodes change numbers =
        subst (λ (fs : List Fixing). AreFallen edition.problem fs nodes change numbers) stand (subst (λ (s : Core). AreFallen s.problem fixings s.nodes change numbers) (sym view_is) fallen) in
        let costs : IsCostUnder edition.problem (standing_of (changes_of history ++ change ∷ [])) (last_plan history) cost =
        subst (λ (fs : List Fixing). IsCostUnder edition.problem fs (last_plan history) cost) stand
        (subst (λ (s : Core). IsCostUnder s.problem fixings (last_plan s.history) cost) (sym view_is) cost_is) in
        let asks : Asks core feed line change (Accepted number) behind = asks_accepted core whole.1 feed line change number numbers (said (Accepted number) is) falls in
        let kept : AreCountsKept behind more cost Working 0 last = kept_accepted core edition best mark spent last whole.0 feed line change number settled more cost whole.1.legal refl costs in
        let base : IsWhole behind more cost Working 0 last × Asks self feed line change (Accepted number) behind =
        ((kept, asks_sound core feed line change (reply.Asked (Accepted number)) behind whole.1 asks), subst (λ (s : Core). Asks s feed line change (Accepted number) behind) view_is asks) in
        subst (λ (e : Edition). IsWhole (core_of e later after) e cost Working 0 last × Asks self feed line change (Accepted number) (core_of e later after)) (sym now_is)
        (subst (λ (h : List Entry). IsWhole (core_of more h after) more cost Working 0 last × Asks self feed line change (Accepted number) (core_of more h after)) (sym later_is)
        (subst (λ (t : State). IsWhole (core_of more (history ++ asked ∷ []) t) more cost Working 0 last × Asks self feed line change (Accepted number) (core_of more (history ++ asked ∷ []) t)) (sym after_is) base))
