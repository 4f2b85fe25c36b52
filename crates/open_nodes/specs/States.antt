-- The tree while it grows, and what its calls answer of it.
use Rattle.std.specs.Prelude.{Bool, zero, suc, count_by, is_some, ◌≡◌, ◌≢◌, ◌⊎◌, ℕ, ◌<◌, ◌≤◌, ◌==◌, List, [], ◌∷◌, ◌++◌, Option, Some, None, All, sum_by, slice_get, slice_set, if◌then◌else◌, min}
use Rattle.disp_model.specs.declared.decision.Decision.{Decision}
use Rattle.disp_model.specs.declared.tree.TreeNode.{TreeNode}
use Rattle.disp_model.specs.declared.tree.TreeNode.TheVariants.{Leaf}
use Rattle.disp_model.specs.declared.tree.Leaf.TheVariants.{Costs}
use Rattle.open_nodes.specs.declared.place.Place.{Place}
use Rattle.open_nodes.specs.declared.place.Above.{Above}
use Rattle.open_nodes.specs.declared.place.Errand.{Errand}
use Rattle.open_nodes.specs.declared.place.Kind.TheVariants.{Open}
use Rattle.open_nodes.specs.declared.work.Work.{Work}
use Rattle.open_nodes.specs.declared.work.Take.{Take}
use Rattle.open_nodes.specs.declared.work.Take.TheVariants.{Ripe, Taken, AllOut, Dry}
use Rattle.open_nodes.specs.declared.work.GiveBack.{GiveBack}
use Rattle.open_nodes.specs.declared.work.GiveBack.TheVariants.{Back, Gone}

-- the places by number, the nodes that they show, and the newest edition
pub record State : Type 0 where
  pub places : List Place
  pub kept : List TreeNode
  pub edition : ℕ

abbrev pub with_places : State → List Place → State
with_places state places = record { places = places; kept = state.kept; edition = state.edition }

-- the first leaf, which shows the empty list of walks
abbrev pub first_place : Place
first_place = record {
  above = None;
  next = None;
  shows = 0;
  kind = Open;
  bound = 0;
  out = None;
  examined = None;
}

abbrev pub one_open_leaf : State
one_open_leaf = record { places = first_place ∷ []; kept = Leaf (Costs []) ∷ []; edition = 0 }

-- ---- decisions

abbrev pub above_of : Option Place → Option Above
above_of None = None
above_of (Some place) = place.above

abbrev pub above_at : List Place → ℕ → Option Above
above_at places n = above_of (slice_get places n)

-- the decisions that lead to a place, past at most so many parents
abbrev pub decisions_to : Option Above → ℕ → List Place → List Decision
decisions_to None fuel places = []
decisions_to (Some above) zero places = []
decisions_to (Some above) (suc fuel) places =
    decisions_to (above_at places above.parent) fuel places ++ above.decision ∷ []

-- the decisions above a place: each parent has a smaller number
abbrev pub decisions_of : List Place → ℕ → List Decision
decisions_of places n = decisions_to (above_at places n) n places

abbrev pub HaveSmallerParents : List Place → Type 0
HaveSmallerParents places = (n : ℕ) (above : Above) → above_at places n ≡ Some above
    → above.parent < n

-- ---- what is wanted

abbrev pub IsBoundBelow : ℕ → Option ℕ → Type 0
IsBoundBelow bound None = Unit {0}
IsBoundBelow bound (Some cost) = bound < cost

-- a leaf that is not known dead, with a kept bound below the best cost, if there is one
abbrev pub IsWanted : Option ℕ → Place → Type 0
IsWanted best place = (place.kind ≡ Open) × IsBoundBelow place.bound best

-- a wanted leaf that is in, and is not marked for the edition unless branches are free
abbrev pub IsTakeable : ℕ → Option ℕ → ℕ → Place → Type 0
IsTakeable edition best free place = IsWanted best place × (place.out ≡ None)
    × ((0 < free) ⊎ (place.examined ≢ Some edition))

-- how many leaves are out
abbrev pub out_count : List Place → ℕ
out_count places = count_by (λ p. is_some p.out) places

abbrev pub allowance_for : ℕ → Option Errand → ℕ
allowance_for edition None = 0
allowance_for edition (Some errand) = if errand.edition == edition then errand.allowance else 0

-- the allowances that are out for the newest edition
abbrev pub allowed_of : State → ℕ
allowed_of state = sum_by (λ p. allowance_for state.edition p.out) state.places

-- ---- works

abbrev pub errand_of : Work → Errand
errand_of work = record {
  bound = work.bound;
  edition = work.edition;
  best = work.best;
  seen = work.seen;
  allowance = work.allowance;
}

-- a work that equals this one in every field is out
pub record IsOut (places : List Place) (work : Work) (place : Place) : Type 0 where
  pub there : slice_get places work.node ≡ Some place
  pub out : place.out ≡ Some (errand_of work)
  pub decisions : work.decisions ≡ decisions_of places work.node

abbrev pub ForOut : List Place → Work → Type 0
ForOut places work = (place : Place) × IsOut places work place

-- ---- what the calls change

abbrev pub with_out : Place → Option Errand → Place
with_out place out = record {
  above = place.above;
  next = place.next;
  shows = place.shows;
  kind = place.kind;
  bound = place.bound;
  out = out;
  examined = place.examined;
}

abbrev pub marked : Place → Option ℕ → Place
marked place examined = record {
  above = place.above;
  next = place.next;
  shows = place.shows;
  kind = place.kind;
  bound = place.bound;
  out = None;
  examined = examined;
}

abbrev pub work_for : State → ℕ → Place → Option ℕ → ℕ → ℕ → Work
work_for state node place best seen allowance =
    record {
      node = node;
      bound = place.bound;
      edition = state.edition;
      decisions = decisions_of state.places node;
      best = best;
      seen = seen;
      allowance = allowance;
    }

-- a leaf of this place goes out with this work
pub record Sends (state : State) (node : ℕ) (best : Option ℕ) (seen allowance : ℕ) (work : Work)
    (after : State) : Type 0 where
  pub place : Place
  pub there : slice_get state.places node ≡ Some place
  pub work_is : work ≡ work_for state node place best seen allowance
  pub after_is : after ≡ with_places state
      (slice_set state.places node (with_out place (Some (errand_of work))))

abbrev pub NoneWanted : Option ℕ → List Place → Type 0
NoneWanted best places = All (λ p. ¬ IsWanted best p) places

abbrev pub NoneTakeable : ℕ → Option ℕ → ℕ → List Place → Type 0
NoneTakeable edition best free places = All (λ p. ¬ IsTakeable edition best free p) places

-- a leaf that may be taken has this number
pub record MayBeTaken (state : State) (best : Option ℕ) (free node : ℕ) : Type 0 where
  pub place : Place
  pub there : slice_get state.places node ≡ Some place
  pub takeable : IsTakeable state.edition best free place

-- a leaf is wanted, and none may be taken
pub record Waits (state : State) (best : Option ℕ) (free : ℕ) : Type 0 where
  pub wanted : NoneWanted best state.places → ⊥
  pub none : NoneTakeable state.edition best free state.places

-- what is answered, and what the state is then
abbrev pub Takes : State → Option ℕ → ℕ → ℕ → ℕ → Take → State → Type 0
Takes state best free want seen Ripe after = NoneWanted best state.places × (after ≡ state)
Takes state best free want seen (Taken work) after = MayBeTaken state best free work.node
    × Sends state work.node best seen (min want free) work after
Takes state best free want seen (AllOut count) after = Waits state best free
    × (count ≡ out_count state.places) × (1 ≤ count) × (after ≡ state)
Takes state best free want seen Dry after = Waits state best free × (out_count state.places ≡ 0)
    × (after ≡ state)

-- the leaf of this number is in
pub record IsIn (places : List Place) (node : ℕ) : Type 0 where
  pub place : Place
  pub there : slice_get places node ≡ Some place
  pub inside : place.out ≡ None

-- the leaf of a work is in again, marked for the work's edition if it was examined
pub record ComesBack (state : State) (work : Work) (examined : Bool) (after : State) : Type 0 where
  pub place : Place
  pub is_out : IsOut state.places work place
  pub after_is : after ≡ with_places state
      (slice_set state.places work.node (marked place
      (if examined then Some work.edition else place.examined)))

abbrev pub IsGone : State → Work → Type 0
IsGone state work = (place : Place) → IsOut state.places work place → ⊥

abbrev pub GivesBack : State → Work → Bool → GiveBack → State → Type 0
GivesBack state work examined Back after = ComesBack state work examined after
GivesBack state work examined (Gone node) after = IsGone state work × (node ≡ work.node)
    × (after ≡ state)

-- ---- what is kept beside the state

pub record ArePlacesKept (places : List Place) (edition allowed : ℕ) : Type 0 where
  pub parents : HaveSmallerParents places
  pub sum : allowed ≡ sum_by (λ p. allowance_for edition p.out) places
  pub limit : allowed ≤ 4294967295
  pub older : (n : ℕ) (place : Place) (errand : Errand) → slice_get places n ≡ Some place
      → place.out ≡ Some errand → errand.edition ≤ edition

-- no leaf but those known dead
abbrev pub AreNotOpen : List Place → Type 0
AreNotOpen [] = Unit {0}
AreNotOpen (place ∷ places) = (place.kind ≢ Open) × AreNotOpen places

-- the leaves not known dead have at least this bound
abbrev pub HaveBounds : ℕ → List Place → Type 0
HaveBounds bound [] = Unit {0}
HaveBounds bound (place ∷ places) = (place.kind ≡ Open → bound ≤ place.bound)
    × HaveBounds bound places

-- a leaf not known dead has this bound
abbrev pub HasBound : ℕ → List Place → Type 0
HasBound bound [] = ⊥
HasBound bound (place ∷ places) = ((place.kind ≡ Open) × (place.bound ≡ bound))
    ⊎ HasBound bound places

-- the least kept bound of leaves not known dead, none exactly where all are
abbrev pub IsLeastBound : List Place → Option ℕ → Type 0
IsLeastBound places None = AreNotOpen places
IsLeastBound places (Some bound) = HaveBounds bound places × HasBound bound places
