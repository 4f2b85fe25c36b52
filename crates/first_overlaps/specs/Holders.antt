-- The operations that list each resource (private clauses).
use Rattle.std.specs.Prelude.{◌≡◌, ℕ, ◌<◌, List, Contains, Some, length, slice_get}
use Rattle.std.specs.Global.{Vec}
use Rattle.disp_model.specs.declared.train.Op.{Op}
use Rattle.disp_model.specs.declared.train.Listing.{Listing}
use Rattle.disp_model.specs.declared.problem.Problem.{Problem}
use Rattle.disp_model.specs.Arcs.{listings_of}
use Rattle.disp_model.specs.Numbers.{number_of}
use Rattle.event_windows.specs.Operations.{HasOperation}
use Rattle.first_overlaps.specs.declared.holder.Holder.{Holder}
use Rattle.first_overlaps.specs.Spans.{IsListed}

-- an operation of the problem with its number, which lists the resource with the release time
pub record IsHolderOf (problem : Problem) (resource : ℕ) (x : Holder) : Type 0 where
  pub there : HasOperation problem x.op
  pub number : number_of problem x.op ≡ x.number
  pub lists : IsListed problem x.op resource x.release

-- the operation is among the holders of what it lists so
pub record IsHeldIn (each : List (Vec Holder)) (o : Op) (l : Listing) : Type 0 where
  pub list : Vec Holder
  pub at : slice_get each l.resource ≡ Some list
  pub holder : Holder
  pub among : Contains list.items holder
  pub of : holder.op ≡ o
  pub release : holder.release ≡ l.release

-- each list has holders of its resource alone
pub record AreSound (problem : Problem) (each : List (Vec Holder)) : Type 0 where
  pub count : length each ≡ length problem.names
  pub holds : (r : ℕ) (list : Vec Holder) (x : Holder) → slice_get each r ≡ Some list
      → Contains list.items x → IsHolderOf problem r x

-- and the operations of the numbers below one are there
pub record AreHeldBelow (problem : Problem) (count : ℕ) (each : List (Vec Holder)) : Type 0 where
  pub sound : AreSound problem each
  pub there : (o : Op) (l : Listing) → HasOperation problem o → number_of problem o < count
      → Contains (listings_of problem o) l → IsHeldIn each o l

-- and by these of its listings the operation of that number itself
pub record AreHeldWith (problem : Problem) (op : Op) (listings : List Listing)
    (each : List (Vec Holder)) : Type 0 where
  pub sound : AreSound problem each
  pub there : (o : Op) (l : Listing) → HasOperation problem o
      → number_of problem o < number_of problem op → Contains (listings_of problem o) l
      → IsHeldIn each o l
  pub own : (l : Listing) → Contains listings l → IsHeldIn each op l

-- each list has the holders of its resource, and no others
pub record AreHoldersOf (problem : Problem) (each : List (Vec Holder)) : Type 0 where
  pub sound : AreSound problem each
  pub there : (o : Op) (l : Listing) → HasOperation problem o → Contains (listings_of problem o) l
      → IsHeldIn each o l
