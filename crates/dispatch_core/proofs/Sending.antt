-- What the tree answers of a work, as the core replies it.
use Rattle.std.proofs.Common.{◌≡◌, ◌∙◌, ℕ, zero, suc, ◌+◌, ◌<◌, inl, List, [], ◌∷◌, length, refl, sym, ap, subst, arith}
use Rattle.std.specs.Prelude.{Result, Ok, IfOk, Bool, Option, Some, None, sum_by, is_some, cond}
use Rattle.std.proofs.lemmas.List.Sums.{sum_by-cons}
use Rattle.std.proofs.lemmas.List.Elements.{All-head, All-tail, All-cons, All-nil}
use Rattle.disp_model.specs.declared.entry.Mark.{Mark}
use Rattle.disp_model.specs.History.{newest, IsBestCost}
use Rattle.disp_model.specs.Replay.{spent_on}
use Rattle.fixing_editions.specs.Edition.{Edition}
use Rattle.open_nodes.specs.declared.place.Errand.{Errand}
use Rattle.open_nodes.specs.declared.place.Place.{Place}
use Rattle.open_nodes.specs.declared.work.Work.{Work}
use Rattle.open_nodes.specs.declared.work.Take.{Take}
use Rattle.open_nodes.specs.declared.work.Take.TheVariants as take
use Rattle.open_nodes.specs.declared.work.GiveBack.{GiveBack}
use Rattle.open_nodes.specs.declared.work.GiveBack.TheVariants as giveback
use Rattle.open_nodes.specs.States.{State, allowance_for, allowed_of, out_count, IsWanted, IsTakeable, NoneWanted, NoneTakeable, Takes, GivesBack}
use Rattle.dispatch_core.specs.declared.event.CoreReply.{CoreReply}
use Rattle.dispatch_core.specs.declared.event.CoreReply.TheVariants as reply
use Rattle.dispatch_core.specs.Asked.{MayGiveBack}
use Rattle.dispatch_core.specs.Kept.{AreCountsKept}
use Rattle.dispatch_core.specs.Replies.{IsCurrent, IsTake, IsGiveBack}
use Rattle.dispatch_core.specs.States.{Core, with_nodes, free_of, IsSound}
use Rattle.dispatch_core.proofs.Taking.{takes_sound, back_sound}

-- what is kept beside the state does not depend on the tree
pub kept_beside : (core : Core) (edition : Edition) (best : Option ℕ) (mark : Mark) (spent : ℕ) (last : Option ℕ) → AreCountsKept core edition best mark spent last
    → (nodes : State) → AreCountsKept (with_nodes core nodes) edition best mark spent last
kept_beside core edition best mark spent last kept nodes =
    record { problem = kept.problem; changes = kept.changes; best_is = kept.best_is; mark_is = kept.mark_is; spent_is = kept.spent_is; last_is = kept.last_is }

-- ---- no leaf is out

-- whether the leaf of a place is out, as a count
abbrev out_one : Place → ℕ
out_one place = cond (is_some place.out) 1 0

-- the first is in, and so are the others
first_in : (place : Place) (places : List Place) → out_count (place ∷ places) ≡ 0 → (place.out ≡ None) × (out_count places ≡ 0)
first_in place places none = by place.out refl
  where
    step : out_count (place ∷ places) ≡ out_one place + out_count places
    step = sum_by-cons out_one place places

    by : (out : Option Errand) → place.out ≡ out → (place.out ≡ None) × (out_count places ≡ 0)
    by None is = (is, omega (arith, none, step))
    by (Some errand) is =
        let one : out_one place ≡ 1 = ap (λ (out : Option Errand). cond (is_some out) 1 0) is in
        absurd (omega (arith, none, one, step))

-- nothing is allowed
none_allowed : (edition : ℕ) (places : List Place) → out_count places ≡ 0 → sum_by (λ p. allowance_for edition p.out) places ≡ 0
none_allowed edition [] none = refl
none_allowed edition (place ∷ places) none =
    let inside = first_in place places none in
    let zero_here : allowance_for edition place.out ≡ 0 = ap (allowance_for edition) inside.0 in
    omega (arith, zero_here, none_allowed edition places inside.1, sum_by-cons (λ (p : Place). allowance_for edition p.out) place places)

-- where branches are free, a wanted leaf may be taken
none_wanted : (edition : ℕ) (best : Option ℕ) (free : ℕ) → 0 < free → (places : List Place) → out_count places ≡ 0 → NoneTakeable edition best free places → NoneWanted best places
none_wanted edition best free some [] none takeable = All-nil (λ (p : Place). IsWanted best p → ⊥)
none_wanted edition best free some (place ∷ places) none takeable =
    let inside = first_in place places none in
    All-cons (λ (p : Place). IsWanted best p → ⊥) place places
    (λ wanted. All-head (λ (p : Place). IsTakeable edition best free p → ⊥) place places takeable (wanted, inside.0, inl some))
    (none_wanted edition best free some places inside.1 (All-tail (λ (p : Place). IsTakeable edition best free p → ⊥) place places takeable))

-- the reply to what the tree answers
abbrev told_of : Take → ℕ → CoreReply
told_of take.Ripe spent = reply.Ripe
told_of (take.Taken work) spent = reply.Taken work
told_of (take.AllOut count) spent = reply.AllOut count
told_of take.Dry spent = reply.Dry spent

-- the tree answers this, asked for a leaf
pub record Answered (core : Core) (edition want spent : ℕ) (answer : Take) (nodes : State) : Type 0 where
  pub current : IsCurrent core edition
  pub best : Option ℕ
  pub best_is : IsBestCost core.problem core.history best
  pub spent_is : spent ≡ spent_on (newest core.history) core.history
  pub takes : Takes core.nodes best (free_of core) want (length core.history) answer nodes

-- asked by what is kept beside the state
pub asked_by : (core now : Core) → core ≡ now → (editions : Edition) (best : Option ℕ) (mark : Mark) (spent : ℕ) (last : Option ℕ) → AreCountsKept core editions best mark spent last
    → (edition want free seen : ℕ) → IsCurrent now edition → free ≡ free_of now → seen ≡ length core.history → (answer : Take) (nodes : State)
    → Takes core.nodes best free want seen answer nodes → Answered core edition want spent answer nodes
asked_by core now same editions best mark spent last kept edition want free seen current free_is seen_is answer nodes takes = record {
  current = subst (λ (s : Core). IsCurrent s edition) (sym same) current;
  best = best;
  best_is = kept.best_is;
  spent_is = kept.spent_is;
  takes = subst (λ (k : ℕ). Takes core.nodes best k want (length core.history) answer nodes) (free_is ∙ ap free_of (sym same))
      (subst (λ (k : ℕ). Takes core.nodes best free want k answer nodes) seen_is takes);
}

module _ (core : Core) (sound : IsSound core) where
  -- where a leaf is wanted, none may be taken and none is out, the budget is spent
  dry_spent : (best : Option ℕ) (want seen : ℕ) (nodes : State) → Takes core.nodes best (free_of core) want seen take.Dry nodes
      → spent_on (newest core.history) core.history ≡ core.settings.budget
  dry_spent best want seen nodes (waits, none, same) =
      let allowed : allowed_of core.nodes ≡ 0 = none_allowed core.nodes.edition core.nodes.places none in
      let newest_one : spent_on core.nodes.edition core.history ≡ spent_on (newest core.history) core.history = ap (λ (k : ℕ). spent_on k core.history) sound.edition in
      by allowed newest_one (free_of core) refl
    where
      by : allowed_of core.nodes ≡ 0 → spent_on core.nodes.edition core.history ≡ spent_on (newest core.history) core.history → (free : ℕ) → free_of core ≡ free
          → spent_on (newest core.history) core.history ≡ core.settings.budget
      by allowed newest_one zero full = omega (arith, full, allowed, newest_one, sound.covered core.nodes.edition)
      by allowed newest_one (suc free) some =
          absurd (waits.wanted (none_wanted core.nodes.edition best (free_of core) (omega (arith, some)) core.nodes.places none waits.none))

  -- ---- what the tree answers

  -- of a leaf that is asked for
  pub taken_told : (edition want spent : ℕ) (answer : Take) (nodes : State) → Answered core edition want spent answer nodes → IsTake core edition want (told_of answer spent) (with_nodes core nodes)
  taken_told edition want spent take.Ripe nodes a = record { current = a.current; best = a.best; best_is = a.best_is; nodes = nodes; takes = a.takes; after_is = refl }
  taken_told edition want spent (take.Taken work) nodes a = record { current = a.current; best = a.best; best_is = a.best_is; nodes = nodes; takes = a.takes; after_is = refl }
  taken_told edition want spent (take.AllOut count) nodes a = record { current = a.current; best = a.best; best_is = a.best_is; nodes = nodes; takes = a.takes; after_is = refl }
  taken_told edition want spent take.Dry nodes a = (
    record { current = a.current; best = a.best; best_is = a.best_is; nodes = nodes; takes = a.takes; after_is = refl },
    a.spent_is,
    a.spent_is ∙ dry_spent a.best want (length core.history) nodes a.takes,
  )

  -- it is still sound
  pub taken_stays : (edition want spent : ℕ) (answer : Take) (nodes : State) → Answered core edition want spent answer nodes → IsSound (with_nodes core nodes)
  taken_stays edition want spent answer nodes a = takes_sound core sound edition want (told_of answer spent) (with_nodes core nodes) (taken_told edition want spent answer nodes a)

  -- of a work that comes back
  pub back_told : (work : Work) (examined : Bool) (nodes : State) → GivesBack core.nodes work examined giveback.Back nodes
      → IsGiveBack core work examined reply.Noted (with_nodes core nodes)
  back_told work examined nodes gives = record { nodes = nodes; gives = gives; after_is = refl }

  pub gone_told : (work : Work) (examined : Bool) (node : ℕ) (nodes : State) → GivesBack core.nodes work examined (giveback.Gone node) nodes
      → IsGiveBack core work examined (reply.Gone node) (with_nodes core nodes)
  gone_told work examined node nodes gives = (gives, ap (λ (s : State). with_nodes core s) gives.2)

  pub back_stays : (work : Work) (examined : Bool) → MayGiveBack core work examined → (answer : GiveBack) (nodes : State) → GivesBack core.nodes work examined answer nodes
      → IsSound (with_nodes core nodes)
  back_stays work examined may giveback.Back nodes gives = back_sound core sound work examined reply.Noted (with_nodes core nodes) may (back_told work examined nodes gives)
  back_stays work examined may (giveback.Gone node) nodes gives =
      back_sound core sound work examined (reply.Gone node) (with_nodes core nodes) may (gone_told work examined node nodes gives)

-- ---- what a call returns

-- of a core, and of the one that equals it
pub take_returned : {E : Type 0} (core now : Core) → core ≡ now → IsSound core → (edition want spent : ℕ) (answer other : Take) (nodes : State) → Answered core edition want spent answer nodes
    → answer ≡ other → (result : Result CoreReply E) → result ≡ Ok (told_of other spent) → IfOk result (λ told. IsTake now edition want told (with_nodes core nodes))
take_returned {E} core now same sound edition want spent answer other nodes a is result result_is =
    subst (λ (r : Result CoreReply E). IfOk r (λ told. IsTake now edition want told (with_nodes core nodes))) (sym result_is)
    (subst (λ (s : Core). IsTake s edition want (told_of other spent) (with_nodes core nodes)) same
    (taken_told core sound edition want spent other nodes (subst (λ (t : Take). Answered core edition want spent t nodes) is a)))

pub back_returned : (core now : Core) → core ≡ now → (work : Work) (examined : Bool) (told : CoreReply) (after : Core) (result : CoreReply) → result ≡ told
    → IsGiveBack core work examined told after → IsGiveBack now work examined result after
back_returned core now same work examined told after result is gives =
    subst (λ (t : CoreReply). IsGiveBack now work examined t after) (sym is) (subst (λ (s : Core). IsGiveBack s work examined told after) same gives)
