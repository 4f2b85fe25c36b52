-- What is taken and given back keeps the core sound.
use Rattle.std.proofs.Common.{◌≡◌, ◌≢◌, ◌∙◌, ℕ, ◌+◌, ◌≤◌, inl, inr, List, length, take as taking, refl, sym, ap, subst, ne_eqb, arith}
use Rattle.std.specs.Prelude.{Bool, true, false, Option, Some, None, IsSome, slice_get, sum_by, min, if◌then◌else◌}
use Rattle.std.proofs.Math.Nat.{min-le_right}
use Rattle.std.proofs.lemmas.Bool.{cases_eq}
use Rattle.std.proofs.lemmas.List.{take_all}
use Rattle.std.proofs.lemmas.Option.{same_Some}
use Rattle.disp_model.specs.declared.decision.Decision.{Decision}
use Rattle.disp_model.specs.declared.entry.Entry.{Entry}
use Rattle.disp_model.specs.declared.fixing.Fixing.{Fixing}
use Rattle.disp_model.specs.Node.{node_at}
use Rattle.disp_model.specs.History.{fixings_after, edition_of, newest, IsBestCost}
use Rattle.disp_model.specs.Replay.{grown_by, above_leaf, spent_on}
use Rattle.open_nodes.specs.declared.place.Place.{Place}
use Rattle.open_nodes.specs.declared.place.Errand.{Errand}
use Rattle.open_nodes.specs.declared.place.Kind.TheVariants.{Open, Branch as Branched}
use Rattle.open_nodes.specs.declared.work.Work.{Work}
use Rattle.open_nodes.specs.declared.work.Take.TheVariants as take
use Rattle.open_nodes.specs.declared.work.GiveBack.TheVariants.{Back}
use Rattle.open_nodes.specs.States.{State, decisions_of, allowance_for, allowed_of, IsOut, errand_of, with_out, marked}
use Rattle.open_nodes.proofs.Paths.{no_some}
use Rattle.open_nodes.proofs.Keeping.{same_edition}
use Rattle.open_nodes.proofs.Touching.{open_no_branch, takes_tree, back_tree}
use Rattle.open_nodes.specs.Filled.{IsTree}
use Rattle.tree_growth.specs.Keeping.{AllKeep}
use Rattle.tree_growth.proofs.Staying.{takes_keep, back_keeps}
use Rattle.tree_replay.specs.Replayed.{IsReplayed}
use Rattle.tree_replay.proofs.Showing.{shows_one}
use Rattle.tree_replay.proofs.Staying.{takes_stays, back_stays}
use Rattle.tree_replay.proofs.Telling.{tells_leaves}
use Rattle.history_laws.proofs.Appended.{newest_front}
use Rattle.dispatch_core.specs.declared.event.CoreReply.{CoreReply}
use Rattle.dispatch_core.specs.declared.event.CoreReply.TheVariants as reply
use Rattle.dispatch_core.specs.States.{Core, with_nodes, free_of, IsErrand, IsExamined, IsPlaceMarked, IsSound}
use Rattle.dispatch_core.specs.Asked.{MayGiveBack}
use Rattle.dispatch_core.specs.Replies.{TakesFrom, IsTake, GivesIn, IsGiveBack}
use Rattle.dispatch_core.proofs.Replacing.{replaced, replaced_sound, newest_fixings}

-- an allowance counts for its own edition alone
other_edition : (edition : ℕ) (errand : Errand) → errand.edition ≢ edition → allowance_for edition (Some errand) ≡ 0
other_edition edition errand other = rw (ne_eqb errand.edition edition other) refl

module _ (core : Core) (sound : IsSound core) where
  -- a place that is not known as a branch is a leaf of the grown tree
  pub leaf_grown : (n : ℕ) (x : Place) → slice_get core.nodes.places n ≡ Some x → x.kind ≢ Branched → IsSome (above_leaf n (grown_by core.problem core.history).places)
  leaf_grown n x there leaf = elim (shows_one core.problem core.nodes sound.tree n x there) [
    | inl (shown, shows) ↦ subst (λ (o : Option (List Decision)). IsSome o)
        (sym (tells_leaves core.problem (grown_by core.problem core.history) core.nodes n x shown sound.tree sound.replayed there shows.shown)) refl
    | inr (choice, first, shows) ↦ absurd (leaf shows.kind_is)
  ]

  -- with the nodes that it had
  unchanged : {after : Core} {nodes : State} → with_nodes core nodes ≡ after → core.nodes ≡ nodes → IsSound after
  unchanged is same = subst IsSound (ap (λ (s : State). with_nodes core s) same ∙ is) sound

  -- ---- a leaf is taken

  -- the newest edition's allowance rises by no more than is free
  allowance_covered : (errand : Errand) → errand.edition ≡ core.nodes.edition → errand.allowance ≤ free_of core → (edition : ℕ)
      → spent_on edition core.history + (sum_by (λ (r : Place). allowance_for edition r.out) core.nodes.places + allowance_for edition (Some errand)) ≤ core.settings.budget
  allowance_covered errand is few edition = elim (cases_eq errand.edition edition) [
    | inl same ↦
        let here : edition ≡ newest core.history = sym same ∙ is ∙ sound.edition in
        let there : edition ≡ core.nodes.edition = sym same ∙ is in
        let spent : spent_on edition core.history ≡ spent_on (newest core.history) core.history = ap (λ (k : ℕ). spent_on k core.history) here in
        let allowed : sum_by (λ (r : Place). allowance_for edition r.out) core.nodes.places ≡ allowed_of core.nodes =
        ap (λ (k : ℕ). sum_by (λ (r : Place). allowance_for k r.out) core.nodes.places) there in
        omega (arith, few, spent, allowed, same_edition edition errand same, sound.covered edition)
    | inr other ↦ omega (arith, other_edition edition errand other, sound.covered edition)
  ]

  taken_sound : (edition want : ℕ) (work : Work) (after : Core) → TakesFrom core edition want (take.Taken work) after → IsSound after
  taken_sound edition want work after from =
      let (may, sends) = from.takes in
      let x = sends.place in
      let n = work.node in
      let q : Place = with_out x (Some (errand_of work)) in
      let is : may.place ≡ x = same_Some may.place x (sym may.there ∙ sends.there) in
      let inside : x.out ≡ None = ap (λ (p : Place). p.out) (sym is) ∙ may.takeable.1 in
      let is_open : x.kind ≡ Open = ap (λ (p : Place). p.kind) (sym is) ∙ may.takeable.0.0 in
      let e : errand_of work ≡ record { bound = x.bound; edition = core.nodes.edition; best = from.best; seen = length core.history; allowance = min want (free_of core) } =
      ap errand_of sends.work_is in
      let all : taking (length core.history) core.history ≡ core.history = take_all (length core.history) core.history (omega arith) in
      let few : (errand_of work).allowance ≤ free_of core = omega (arith, ap (λ (r : Errand). r.allowance) e, min-le_right want (free_of core)) in
      let errand : IsErrand core n q (errand_of work) = subst (λ (r : Errand). IsErrand core n q r) (sym e) (record {
        seen = omega arith;
        edition = ap (λ (h : List Entry). newest h) all ∙ sym sound.edition;
        best = subst (λ (h : List Entry). IsBestCost core.problem h from.best) (sym all) from.best_is;
        leaf = subst (λ (h : List Entry). IsSome (above_leaf n (grown_by core.problem h).places)) (sym all) (leaf_grown n x sends.there (open_no_branch x.kind is_open));
        bound = λ newest_one. refl;
      }) in
      let whole : IsSound (with_nodes core (replaced core sound n x q sends.there refl)) = replaced_sound core sound n x q sends.there refl
      (subst (λ (s : State). IsTree core.problem s) sends.after_is
      (takes_tree core.problem core.nodes from.best (free_of core) want (length core.history) (take.Taken work) from.nodes sound.tree from.takes))
      (subst (λ (s : State). IsReplayed (grown_by core.problem core.history) s) sends.after_is
      (takes_stays core.problem (grown_by core.problem core.history) core.nodes sound.tree sound.replayed from.best (free_of core) want (length core.history) (take.Taken work) from.nodes from.takes))
      (subst (λ (s : State). AllKeep core.settings.rule core.problem (edition_of core.history) s) sends.after_is
      (takes_keep core.settings.rule core.problem (edition_of core.history) core.nodes sound.tree sound.keep from.best (free_of core) want (length core.history) (take.Taken work) from.nodes from.takes))
      (λ k. let covered = allowance_covered (errand_of work) (ap (λ (r : Errand). r.edition) e) few k in omega (arith, covered))
      (λ f out. subst (λ (r : Errand). IsErrand core n q r) (same_Some (errand_of work) f out) errand)
      (λ k marked_for. let old : IsPlaceMarked core n x k = sound.marks n x k sends.there marked_for in record { within = old.within; examined = old.examined }) in
      subst IsSound (sym from.after_is) (subst (λ (s : State). IsSound (with_nodes core s)) (sym sends.after_is) whole)

  -- what is answered of a take keeps the core sound
  pub takes_sound : (edition want : ℕ) (told : CoreReply) (after : Core) → IsTake core edition want told after → IsSound after
  takes_sound edition want reply.Ripe after from = unchanged (sym from.after_is) (sym from.takes.1)
  takes_sound edition want (reply.Taken work) after from = taken_sound edition want work after from
  takes_sound edition want (reply.AllOut count) after from = unchanged (sym from.after_is) (sym from.takes.3)
  takes_sound edition want (reply.Dry spent) after (from, spent_is, all) = unchanged (sym from.after_is) (sym from.takes.2)
  takes_sound edition want told after is = subst IsSound (sym is.1) sound

  -- ---- a leaf comes back

  -- it is marked for the edition of its work where it was examined, and as before otherwise
  back_marked : (work : Work) (x : Place) (mark : Option ℕ) → IsOut core.nodes.places work x → (examined : Bool) → MayGiveBack core work examined → (edition : ℕ)
      → (if examined then Some work.edition else x.examined) ≡ Some edition → IsPlaceMarked core work.node (marked x mark) edition
  back_marked work x mark out false may edition e =
      let old : IsPlaceMarked core work.node x edition = sound.marks work.node x edition out.there e in
      record { within = old.within; examined = old.examined }
  back_marked work x mark out true may edition e =
      let errand : IsErrand core work.node x (errand_of work) = sound.errands work.node x (errand_of work) out.there out.out in
      let same : work.edition ≡ edition = same_Some work.edition edition e in
      record {
        within = omega (arith, newest_front core.history work.seen, errand.edition, same);
        examined = λ newest_one.
            let fixings : fixings_after work.edition core.history ≡ edition_of core.history =
            ap (λ (k : ℕ). fixings_after k core.history) (same ∙ newest_one) ∙ newest_fixings core.history in
            let bound : work.bound ≡ x.bound = sym (errand.bound (same ∙ newest_one)) in
            let now : IsExamined core.settings.rule (node_at core.problem (edition_of core.history) work.decisions) work.bound =
            subst (λ (fs : List Fixing). IsExamined core.settings.rule (node_at core.problem fs work.decisions) work.bound) fixings (may refl) in
            let here : IsExamined core.settings.rule (node_at core.problem (edition_of core.history) (decisions_of core.nodes.places work.node)) work.bound =
            subst (λ (ds : List Decision). IsExamined core.settings.rule (node_at core.problem (edition_of core.history) ds) work.bound) out.decisions now in
            subst (λ (b : ℕ). IsExamined core.settings.rule (node_at core.problem (edition_of core.history) (decisions_of core.nodes.places work.node)) b) bound here;
      }

  noted_sound : (work : Work) (examined : Bool) (after : Core) → MayGiveBack core work examined → GivesIn core work examined after → IsSound after
  noted_sound work examined after may from =
      let gives = from.gives in
      let x = gives.place in
      let n = work.node in
      let mark : Option ℕ = if examined then Some work.edition else x.examined in
      let q : Place = marked x mark in
      let whole : IsSound (with_nodes core (replaced core sound n x q gives.is_out.there refl)) = replaced_sound core sound n x q gives.is_out.there refl
      (subst (λ (s : State). IsTree core.problem s) gives.after_is (back_tree core.problem core.nodes work examined Back from.nodes sound.tree gives))
      (subst (λ (s : State). IsReplayed (grown_by core.problem core.history) s) gives.after_is
      (back_stays core.problem (grown_by core.problem core.history) core.nodes sound.tree sound.replayed work examined Back from.nodes gives))
      (subst (λ (s : State). AllKeep core.settings.rule core.problem (edition_of core.history) s) gives.after_is
      (back_keeps core.settings.rule core.problem (edition_of core.history) core.nodes sound.tree sound.keep work examined Back from.nodes gives))
      (λ k. let none : allowance_for k q.out ≡ 0 = refl in omega (arith, sound.covered k, none))
      (λ f out. absurd (no_some f out))
      (λ k marked_for. back_marked work x mark gives.is_out examined may k marked_for) in
      subst IsSound (sym from.after_is) (subst (λ (s : State). IsSound (with_nodes core s)) (sym gives.after_is) whole)

  -- what is answered of a work that comes back keeps the core sound
  pub back_sound : (work : Work) (examined : Bool) (told : CoreReply) (after : Core) → MayGiveBack core work examined → IsGiveBack core work examined told after → IsSound after
  back_sound work examined reply.Noted after may is = noted_sound work examined after may is
  back_sound work examined (reply.Gone node) after may is = subst IsSound (sym is.1) sound
  back_sound work examined told after may is = absurd is
