-- One place of the core's tree is replaced: what allowances then sum up to, and the state that is sound again.
use Rattle.std.proofs.Common.{◌≡◌, ◌≢◌, ◌∙◌, ℕ, ◌+◌, ◌≤◌, ◌<◌, inl, inr, List, get_or, set, length, sym, ap, subst, arith}
use Rattle.std.specs.Prelude.{Some, slice_get, sum_by}
use Rattle.std.proofs.lemmas.Bool.{cases_eq}
use Rattle.std.proofs.lemmas.Option.{same_Some, slice_get_within, get_or_from_slice_get}
use Rattle.std.proofs.lemmas.List.{take_all}
use Rattle.std.proofs.lemmas.List.Sums.{sum_by-set}
use Rattle.disp_model.specs.declared.decision.Decision.{Decision}
use Rattle.disp_model.specs.Node.{node_at}
use Rattle.disp_model.specs.declared.entry.Entry.{Entry}
use Rattle.disp_model.specs.Changes.{standing_of}
use Rattle.disp_model.specs.History.{changes_of, newest, fixings_after, edition_of}
use Rattle.disp_model.specs.Replay.{grown_by, spent_on}
use Rattle.open_nodes.specs.declared.place.Place.{Place}
use Rattle.open_nodes.specs.declared.place.Errand.{Errand}
use Rattle.open_nodes.specs.States.{State, with_places, decisions_of, allowance_for}
use Rattle.open_nodes.specs.Filled.{IsTree}
use Rattle.open_nodes.proofs.Places.{get_set_same, get_set_other}
use Rattle.open_nodes.proofs.Keeping.{same_above}
use Rattle.open_nodes.proofs.Holding.{decisions_same}
use Rattle.tree_growth.specs.Keeping.{AllKeep}
use Rattle.tree_replay.specs.Replayed.{IsReplayed}
use Rattle.dispatch_core.specs.States.{Core, with_nodes, IsErrand, IsExamined, IsPlaceMarked, IsSound}

-- what holds of each element of a list holds where one is replaced, if it holds of the new one
pub each_set : {X : Type 0} (P : ℕ → X → Type 0) (xs : List X) (n : ℕ) (x q : X) → slice_get xs n ≡ Some x → ((m : ℕ) (p : X) → m ≢ n → slice_get xs m ≡ Some p → P m p) → P n q
    → (m : ℕ) (p : X) → slice_get (set xs n q) m ≡ Some p → P m p
each_set {X = X} P xs n x q there each new m p at = elim (cases_eq m n) [
  | inl same ↦
      let is : q ≡ p = same_Some q p (sym (get_set_same xs n q x there) ∙ ap (λ (j : ℕ). slice_get (set xs n q) j) (sym same) ∙ at) in
      subst (λ (j : ℕ). P j p) (sym same) (subst (λ (r : X). P n r) is new)
  | inr other ↦ each m p other (sym (get_set_other xs n m q other) ∙ at)
]

-- the fixings of the newest edition
pub newest_fixings : (history : List Entry) → fixings_after (newest history) history ≡ edition_of history
newest_fixings history = ap standing_of (take_all (newest history) (changes_of history) (omega arith))

-- what is allowed for an edition changes by the allowance of the place that is replaced
pub allowances_set : (edition : ℕ) (places : List Place) (n : ℕ) (x q : Place) → slice_get places n ≡ Some x
    → sum_by (λ (r : Place). allowance_for edition r.out) (set places n q) + allowance_for edition x.out
    ≡ sum_by (λ (r : Place). allowance_for edition r.out) places + allowance_for edition q.out
allowances_set edition places n x q there =
    let same : sum_by (λ (r : Place). allowance_for edition r.out) (set places n q) + allowance_for edition (get_or places n x).out
    ≡ sum_by (λ (r : Place). allowance_for edition r.out) places + allowance_for edition q.out =
    sum_by-set {X = Place} (λ (r : Place). allowance_for edition r.out) places n q x (slice_get_within places n x there) in
    let here : allowance_for edition (get_or places n x).out ≡ allowance_for edition x.out =
    ap (λ (r : Place). allowance_for edition r.out) (get_or_from_slice_get places n x x there) in
    omega (arith, same, here)

-- an errand and a mark over another tree, where the place and the decisions above it are the same
pub errand_over : (core : Core) (nodes : State) (n : ℕ) (place : Place) (errand : Errand) → IsErrand core n place errand → IsErrand (with_nodes core nodes) n place errand
errand_over core nodes n place errand is = record { seen = is.seen; edition = is.edition; best = is.best; leaf = is.leaf; bound = is.bound }

pub mark_over : (core : Core) (nodes : State) (n : ℕ) (place : Place) (edition : ℕ) → decisions_of nodes.places n ≡ decisions_of core.nodes.places n
    → IsPlaceMarked core n place edition → IsPlaceMarked (with_nodes core nodes) n place edition
mark_over core nodes n place edition same is = record {
  within = is.within;
  examined = λ e. subst (λ (ds : List Decision). IsExamined core.settings.rule (node_at core.problem (edition_of core.history) ds) place.bound) (sym same) (is.examined e);
}

-- where a place is replaced by one below the same decisions, whose allowance the budget covers, the state is sound again
module _ (core : Core) (sound : IsSound core) (n : ℕ) (x q : Place) (there : slice_get core.nodes.places n ≡ Some x) (above : x.above ≡ q.above) where
  abbrev pub replaced : State
  replaced = with_places core.nodes (set core.nodes.places n q)

  same_decisions : (m : ℕ) → m < length core.nodes.places → decisions_of replaced.places m ≡ decisions_of core.nodes.places m
  same_decisions = decisions_same core.nodes.places replaced.places sound.tree.parents (λ k lt. same_above core.nodes.places 0 0 n x q there above k)

  pub replaced_sound : IsTree core.problem replaced → IsReplayed (grown_by core.problem core.history) replaced → AllKeep core.settings.rule core.problem (edition_of core.history) replaced
      → ((edition : ℕ) → spent_on edition core.history + (sum_by (λ (r : Place). allowance_for edition r.out) core.nodes.places + allowance_for edition q.out)
      ≤ core.settings.budget + allowance_for edition x.out)
      → ((errand : Errand) → q.out ≡ Some errand → IsErrand core n q errand)
      → ((edition : ℕ) → q.examined ≡ Some edition → IsPlaceMarked core n q edition)
      → IsSound (with_nodes core replaced)
  replaced_sound tree replayed keep covers errand mark = record {
    legal = sound.legal;
    tree = tree;
    replayed = replayed;
    keep = keep;
    fits = sound.fits;
    edition = sound.edition;
    covered = λ edition. omega (arith, covers edition, allowances_set edition core.nodes.places n x q there);
    cost = sound.cost;
    errands = λ m p e at out. each_set (λ (k : ℕ) (r : Place). (f : Errand) → r.out ≡ Some f → IsErrand (with_nodes core replaced) k r f) core.nodes.places n x q there
        (λ k r other is f o. errand_over core replaced k r f (sound.errands k r f is o)) (λ f o. errand_over core replaced n q f (errand f o)) m p at e out;
    marks = λ m p e at marked. each_set (λ (k : ℕ) (r : Place). (f : ℕ) → r.examined ≡ Some f → IsPlaceMarked (with_nodes core replaced) k r f) core.nodes.places n x q there
        (λ k r other is f o. mark_over core replaced k r f (same_decisions k (slice_get_within core.nodes.places k r is)) (sound.marks k r f is o))
        (λ f o. mark_over core replaced n q f (same_decisions n (slice_get_within core.nodes.places n x there)) (mark f o)) m p at e marked;
  }
