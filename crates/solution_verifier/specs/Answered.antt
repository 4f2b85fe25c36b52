-- What the steps of judging a plan answer.
use Rattle.std.specs.Prelude.{◌≡◌, ◌⊎◌, ℕ, ◌<◌, ◌≤◌, List, length, Some, slice_get, take}
use Rattle.disp_model.specs.declared.plan.Event.{Event}
use Rattle.disp_model.specs.declared.train.Listing.{Listing}
use Rattle.disp_model.specs.declared.problem.Problem.{Problem}
use Rattle.solution_verifier.specs.declared.fault.Fault.{Fault}
use Rattle.solution_verifier.specs.declared.fault.Fault.TheVariants.{Held, Incomplete}
use Rattle.solution_verifier.specs.declared.clash.Clash.{Clash}
use Rattle.solution_verifier.specs.Judged.{fault_of}
use Rattle.solution_verifier.specs.Rules.{Rule, KeepsRule}
use Rattle.solution_verifier.specs.Held.{LetsPass, IsHeldBy}
use Rattle.solution_verifier.specs.First.{BreaksRuleFirst, IsFirstHeld, IsComplete}

-- times do not fall along the events before a bound
abbrev pub RisesUntil : List Event → ℕ → Type 0
RisesUntil plan bound = (j k : ℕ) (e f : Event) → j ≤ k → k < bound → slice_get plan j ≡ Some e
    → slice_get plan k ≡ Some f → e.time ≤ f.time

-- the event at position i lets the event at j pass, where both are there
abbrev pub LetsThrough : Problem → List Event → ℕ → ℕ → Type 0
LetsThrough problem plan i j = (d e : Event) → slice_get plan i ≡ Some d → slice_get plan j ≡ Some e
    → LetsPass problem (take j plan) i d e

-- the first listing that is not good is of this resource
pub record IsFirstListing (listings : List Listing) (Good : Listing → Type 0) (resource : ℕ)
    : Type 0 where
  pub place : ℕ
  pub listing : Listing
  pub listed : slice_get listings place ≡ Some listing
  pub bad : Good listing → ⊥
  pub earlier : (m : ℕ) (l : Listing) → m < place → slice_get listings m ≡ Some l → Good l
  pub names : listing.resource ≡ resource

-- the clash is between two events that are there
pub record IsClash (problem : Problem) (plan : List Event) (clash : Clash) : Type 0 where
  pub order : clash.holder < clash.event
  pub holder : Event
  pub holder_there : slice_get plan clash.holder ≡ Some holder
  pub event : Event
  pub there : slice_get plan clash.event ≡ Some event
  pub held : IsHeldBy problem (take clash.event plan) clash.holder holder event clash.resource

-- the clash is of the event at i with the first event that it does not let pass, before a bound
pub record IsFirstHeldOf (problem : Problem) (plan : List Event) (i bound : ℕ) (clash : Clash)
    : Type 0 where
  pub clashes : IsClash problem plan clash
  pub holder_is : clash.holder ≡ i
  pub bounded : clash.event < bound
  pub earlier : (k : ℕ) → i < k → k < clash.event → LetsThrough problem plan i k

-- the clash is of the first event that is not let pass, before a bound, with the first that does
-- not let it
pub record IsFirstHeldClash (problem : Problem) (plan : List Event) (bound : ℕ) (clash : Clash)
    : Type 0 where
  pub clashes : IsClash problem plan clash
  pub bounded : clash.event < bound
  pub earlier : (h k : ℕ) → h < k → k < clash.event → LetsThrough problem plan h k
  pub lesser : (h : ℕ) → h < clash.holder → LetsThrough problem plan h clash.event

-- the fault is that of the first event that is not sound
abbrev pub IsEventFault : Problem → List Event → Fault → Type 0
IsEventFault problem plan fault =
    ((rule : Rule) × (j : ℕ) × (fault ≡ fault_of rule j) × BreaksRuleFirst problem plan rule j)
    ⊎ ((i : ℕ) × (j : ℕ) × (resource : ℕ) × (fault ≡ Held i j resource)
    × IsFirstHeld problem plan i j resource)

-- the event at position k, if there is one, keeps the rules
abbrev pub KeepsEventRules : Problem → List Event → ℕ → Type 0
KeepsEventRules problem plan k = (e : Event) (rule : Rule) → slice_get plan k ≡ Some e
    → KeepsRule problem (take k plan) e rule

-- the fault is that of the first train that is not complete
pub record IsOpenFault (problem : Problem) (plan : List Event) (fault : Fault) : Type 0 where
  pub train : ℕ
  pub fault_is : fault ≡ Incomplete train
  pub there : train < length problem.trains
  pub earlier : (u : ℕ) → u < train → IsComplete problem plan u
  pub incomplete : IsComplete problem plan train → ⊥

-- the clash is of the event at this position, before a bound, with the first that does not let it
-- pass
pub record IsLeastClash (problem : Problem) (plan : List Event) (bound event : ℕ) (clash : Clash)
    : Type 0 where
  pub clashes : IsClash problem plan clash
  pub event_is : clash.event ≡ event
  pub bounded : event < bound
  pub lesser : (h : ℕ) → h < clash.holder → LetsThrough problem plan h event
