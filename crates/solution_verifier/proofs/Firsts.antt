-- A plan has at most one first fault, and none where it is right.
use Rattle.std.proofs.Common.{◌≡◌, ℕ, ◌+◌, ◌<◌, List, [], take, Option, Some, Ok, Err, Result, refl, sym, ap, subst, ◌∙◌, inl, inr, ◌⊎◌, ◌↔◌}
use Rattle.std.specs.Prelude.{slice_get, All, IfSome}
use Rattle.std.proofs.lemmas.Bool.{cases_order}
use Rattle.std.proofs.lemmas.Option.{same_Some, slice_get_within, get_or_from_slice_get}
use Rattle.disp_model.specs.declared.plan.Event.{Event}
use Rattle.disp_model.specs.declared.train.Listing.{Listing}
use Rattle.disp_model.specs.declared.fixing.Fixing.{Fixing}
use Rattle.disp_model.specs.declared.problem.Problem.{Problem}
use Rattle.disp_model.specs.Fixing.{IsMet}
use Rattle.disp_model.specs.Valid.{IsValid}
use Rattle.disp_model.specs.Cost.{cost_of}
use Rattle.solution_verifier.specs.declared.fault.Fault.{Fault}
use Rattle.solution_verifier.specs.declared.fault.Fault.TheVariants.{UnknownTrain, UnknownOperation, TimeBackwards, NotEntry, NotSuccessor, TooEarly, TooLate, TooShort, Held, Incomplete, FixingUnmet, WrongCost}
use Rattle.solution_verifier.specs.Rules.{Rule, rank, KeepsRule, IsFirstBroken, train_there, operation_there, time_rises, first_is_entry, next_is_successor, from_lower, until_upper, lasts_its_duration}
use Rattle.solution_verifier.specs.Judged.{fault_of}
use Rattle.solution_verifier.specs.Held.{LetsBy, LetsPass, IsHeldBy, IsEventSound, listings_at}
use Rattle.solution_verifier.specs.First.{BreaksRuleFirst, IsFirstHeld, IsComplete, IsFirstFault, IsRight}
use Rattle.solution_verifier.specs.Answered.{IsEventFault, IsOpenFault}
use Rattle.solution_verifier.specs.Unmet.{IsUnmetFault}
use Rattle.solution_verifier.specs.Stated.{IsStatedOtherwise, IsStated}
use Rattle.solution_verifier.proofs.Ranks.{same_rank}
use Rattle.solution_verifier.proofs.SoundIsValid.{AllSound, AllComplete, sound_is_valid, valid_with}
use Rattle.solution_verifier.proofs.ValidIsSound.{valid_is_sound, valid_is_complete}

-- two numbers that are each the first at which something fails are one
first_once : (Good : ℕ → Type 0) (m n : ℕ) → ((k : ℕ) → k < m → Good k) → (Good m → ⊥) → ((k : ℕ) → k < n → Good k) → (Good n → ⊥) → m ≡ n
first_once Good m n below_m bad_m below_n bad_n =
    elim (cases_order m n) [
      | inl same ↦ same
      | inr other ↦ elim other [ inl lt ↦ absurd (bad_m (below_n m lt)) | inr gt ↦ absurd (bad_n (below_m n gt)) ]
    ]

-- ---- of events

break_unsound : (problem : Problem) (plan : List Event) (rule : Rule) (j : ℕ) → BreaksRuleFirst problem plan rule j → IsEventSound problem plan j → ⊥
break_unsound problem plan rule j b sound = b.first.broken ((sound b.event b.there).rules rule)

-- on the listing that is held the holder does not let the event by
held_stays : (problem : Problem) (stood : List Event) (i : ℕ) (d e : Event) (resource : ℕ) → IsHeldBy problem stood i d e resource → LetsPass problem stood i d e → ⊥
held_stays problem stood i d e resource h pass =
    h.held (subst (LetsBy problem stood i d e) (get_or_from_slice_get (listings_at problem d) h.place h.listing h.listing h.listed)
    (pass h.trains h.place h.listing (slice_get_within (listings_at problem d) h.place h.listing h.listed)))

held_unsound : (problem : Problem) (plan : List Event) (i j resource : ℕ) → IsFirstHeld problem plan i j resource → IsEventSound problem plan j → ⊥
held_unsound problem plan i j resource h sound = held_stays problem (take j plan) i h.holder h.event resource h.held ((sound h.event h.there).free i h.holder h.order h.holder_there)

broken_once : (problem : Problem) (stood : List Event) (e : Event) (rule other : Rule) → IsFirstBroken problem stood e rule → IsFirstBroken problem stood e other → rule ≡ other
broken_once problem stood e rule other a b =
    elim (cases_order (rank rule) (rank other)) [
      | inl same ↦ same_rank rule other same
      | inr apart ↦ elim apart [ inl lt ↦ absurd (a.broken (b.earlier rule lt)) | inr gt ↦ absurd (b.broken (a.earlier other gt)) ]
    ]

breaks_once : (problem : Problem) (plan : List Event) (rule other : Rule) (i j : ℕ) → BreaksRuleFirst problem plan rule i → BreaksRuleFirst problem plan other j → fault_of rule i ≡ fault_of other j
breaks_once problem plan rule other i j a b = at_one i j (first_once (IsEventSound problem plan) i j a.before (break_unsound problem plan rule i a) b.before (break_unsound problem plan other j b)) a b
  where
    at_one : (i j : ℕ) → i ≡ j → BreaksRuleFirst problem plan rule i → BreaksRuleFirst problem plan other j → fault_of rule i ≡ fault_of other j
    at_one i j same a b =
        let moved : BreaksRuleFirst problem plan rule j = subst (BreaksRuleFirst problem plan rule) same a in
        let event : moved.event ≡ b.event = same_Some moved.event b.event (sym moved.there ∙ b.there) in
        let first : IsFirstBroken problem (take j plan) b.event rule = subst (λ (x : Event). IsFirstBroken problem (take j plan) x rule) event moved.first in
        ap (fault_of rule) same ∙ ap (λ (r : Rule). fault_of r j) (broken_once problem (take j plan) b.event rule other first b.first)

breaks_not_held : (problem : Problem) (plan : List Event) (rule : Rule) (i h j resource : ℕ) → BreaksRuleFirst problem plan rule i → IsFirstHeld problem plan h j resource → ⊥
breaks_not_held problem plan rule i h j resource a b =
    let same : i ≡ j = first_once (IsEventSound problem plan) i j a.before (break_unsound problem plan rule i a) b.before (held_unsound problem plan h j resource b) in
    let moved : BreaksRuleFirst problem plan rule j = subst (BreaksRuleFirst problem plan rule) same a in
    let event : b.event ≡ moved.event = same_Some b.event moved.event (sym b.there ∙ moved.there) in
    moved.first.broken (subst (λ (x : Event). KeepsRule problem (take j plan) x rule) event (b.rules rule))

-- the same two events, held by one resource
resource_once : (problem : Problem) (stood : List Event) (i : ℕ) (d e : Event) (r s : ℕ) → IsHeldBy problem stood i d e r → IsHeldBy problem stood i d e s → r ≡ s
resource_once problem stood i d e r s a b =
    let Good : ℕ → Type 0 = λ m. (l : Listing) → slice_get (listings_at problem d) m ≡ Some l → LetsBy problem stood i d e l in
    let place : a.place ≡ b.place = first_once Good a.place b.place (λ k lt l at. a.earlier k l lt at) (λ good. a.held (good a.listing a.listed)) (λ k lt l at. b.earlier k l lt at) (λ good. b.held (good b.listing b.listed)) in
    let listing : a.listing ≡ b.listing = same_Some a.listing b.listing (sym a.listed ∙ ap (slice_get (listings_at problem d)) place ∙ b.listed) in
    sym a.names ∙ ap (λ (l : Listing). l.resource) listing ∙ b.names

held_once_at : (problem : Problem) (plan : List Event) (h i j r s : ℕ) → IsFirstHeld problem plan h j r → IsFirstHeld problem plan i j s → (h ≡ i) × (r ≡ s)
held_once_at problem plan h i j r s a b =
    let event : a.event ≡ b.event = same_Some a.event b.event (sym a.there ∙ b.there) in
    let e = b.event in
    let stood = take j plan in
    let Good : ℕ → Type 0 = λ m. (c : Event) → slice_get plan m ≡ Some c → LetsPass problem stood m c e in
    let held_a : IsHeldBy problem stood h a.holder e r = subst (λ (x : Event). IsHeldBy problem stood h a.holder x r) event a.held in
    let less_a : (k : ℕ) → k < h → Good k = λ k lt c at. subst (λ (x : Event). LetsPass problem stood k c x) event (a.earlier k c lt at) in
    let place : h ≡ i = first_once Good h i less_a (λ good. held_stays problem stood h a.holder e r held_a (good a.holder a.holder_there)) (λ k lt c at. b.earlier k c lt at) (λ good. held_stays problem stood i b.holder e s b.held (good b.holder b.holder_there)) in
    let moved : IsHeldBy problem stood i a.holder e r = subst (λ (x : ℕ). IsHeldBy problem stood x a.holder e r) place held_a in
    let holder : a.holder ≡ b.holder = same_Some a.holder b.holder (sym a.holder_there ∙ ap (slice_get plan) place ∙ b.holder_there) in
    (place, resource_once problem stood i b.holder e r s (subst (λ (x : Event). IsHeldBy problem stood i x e r) holder moved) b.held)

held_once : (problem : Problem) (plan : List Event) (h i j k r s : ℕ) → IsFirstHeld problem plan h j r → IsFirstHeld problem plan i k s → Held h j r ≡ Held i k s
held_once problem plan h i j k r s a b =
    let same : j ≡ k = first_once (IsEventSound problem plan) j k a.before (held_unsound problem plan h j r a) b.before (held_unsound problem plan i k s b) in
    let both = held_once_at problem plan h i k r s (subst (λ (x : ℕ). IsFirstHeld problem plan h x r) same a) b in
    ap (λ (x : ℕ). Held x j r) both.0 ∙ ap (λ (x : ℕ). Held i x r) same ∙ ap (λ (x : ℕ). Held i k x) both.1

event_once : (problem : Problem) (plan : List Event) (f g : Fault) → IsEventFault problem plan f → IsEventFault problem plan g → f ≡ g
event_once problem plan f g (inl (rule, i, is, a)) (inl (other, j, too, b)) = is ∙ breaks_once problem plan rule other i j a b ∙ sym too
event_once problem plan f g (inl (rule, i, is, a)) (inr (h, j, r, too, b)) = absurd (breaks_not_held problem plan rule i h j r a b)
event_once problem plan f g (inr (h, j, r, is, a)) (inl (rule, i, too, b)) = absurd (breaks_not_held problem plan rule i h j r b a)
event_once problem plan f g (inr (h, j, r, is, a)) (inr (i, k, s, too, b)) = is ∙ held_once problem plan h i j k r s a b ∙ sym too

pub event_unsound : (problem : Problem) (plan : List Event) (f : Fault) → IsEventFault problem plan f → AllSound problem plan → ⊥
event_unsound problem plan f (inl (rule, j, is, b)) sound = break_unsound problem plan rule j b (sound j)
event_unsound problem plan f (inr (i, j, r, is, h)) sound = held_unsound problem plan i j r h (sound j)

-- ---- of trains, fixings and the cost

open_once : (problem : Problem) (plan : List Event) (f g : Fault) → IsOpenFault problem plan f → IsOpenFault problem plan g → f ≡ g
open_once problem plan f g a b = a.fault_is ∙ ap Incomplete (first_once (IsComplete problem plan) a.train b.train a.earlier a.incomplete b.earlier b.incomplete) ∙ sym b.fault_is

open_incomplete : (problem : Problem) (plan : List Event) (f : Fault) → IsOpenFault problem plan f → AllComplete problem plan → ⊥
open_incomplete problem plan f a complete = a.incomplete (complete a.train a.there)

unmet_once : (fixings : List Fixing) (plan : List Event) (f g : Fault) → IsUnmetFault fixings plan f → IsUnmetFault fixings plan g → f ≡ g
unmet_once fixings plan f g a b =
    let Good : ℕ → Type 0 = λ m. (x : Fixing) → slice_get fixings m ≡ Some x → IsMet plan x in
    let place : a.place ≡ b.place = first_once Good a.place b.place (λ k lt x at. a.earlier k x lt at) (λ good. a.unmet (good a.fixing a.there)) (λ k lt x at. b.earlier k x lt at) (λ good. b.unmet (good b.fixing b.there)) in
    a.fault_is ∙ ap (λ (n : ℕ). FixingUnmet (n + 1)) place ∙ sym b.fault_is

unmet_not_met : (fixings : List Fixing) (plan : List Event) (f : Fault) → IsUnmetFault fixings plan f → All (IsMet plan) fixings → ⊥
unmet_not_met fixings plan f a met = a.unmet (subst (IsMet plan) (get_or_from_slice_get fixings a.place a.fixing a.fixing a.there) (met a.place a.fixing (slice_get_within fixings a.place a.fixing a.there)))

stated_once : (cost : ℕ) (stated : Option ℕ) (f g : Fault) → IsStatedOtherwise cost stated f → IsStatedOtherwise cost stated g → f ≡ g
stated_once cost stated f g a b = a.fault_is ∙ ap (λ (n : ℕ). WrongCost n cost) (same_Some a.claimed b.claimed (sym a.stated_is ∙ b.stated_is)) ∙ sym b.fault_is

-- ---- one after another

-- the fault of the trains, of the fixings, or of the cost
data IsLater (problem : Problem) (fixings : List Fixing) (plan : List Event) (stated : Option ℕ) (f : Fault) : Type 0 where
  of_trains : IsOpenFault problem plan f → IsLater problem fixings plan stated f
  of_fixings : IsValid problem [] plan → IsUnmetFault fixings plan f → IsLater problem fixings plan stated f
  of_cost : IsValid problem fixings plan → IsStatedOtherwise (cost_of problem.components plan) stated f → IsLater problem fixings plan stated f

stage_of : (problem : Problem) (fixings : List Fixing) (plan : List Event) (stated : Option ℕ) (f : Fault) → IsFirstFault problem fixings plan stated f → IsEventFault problem plan f ⊎ (AllSound problem plan × IsLater problem fixings plan stated f)
stage_of problem fixings plan stated (UnknownTrain j) b = inl (inl (train_there, j, refl, b))
stage_of problem fixings plan stated (UnknownOperation j) b = inl (inl (operation_there, j, refl, b))
stage_of problem fixings plan stated (TimeBackwards j) b = inl (inl (time_rises, j, refl, b))
stage_of problem fixings plan stated (NotEntry j) b = inl (inl (first_is_entry, j, refl, b))
stage_of problem fixings plan stated (NotSuccessor j) b = inl (inl (next_is_successor, j, refl, b))
stage_of problem fixings plan stated (TooEarly j) b = inl (inl (from_lower, j, refl, b))
stage_of problem fixings plan stated (TooLate j) b = inl (inl (until_upper, j, refl, b))
stage_of problem fixings plan stated (TooShort j) b = inl (inl (lasts_its_duration, j, refl, b))
stage_of problem fixings plan stated (Held i j r) h = inl (inr (i, j, r, refl, h))
stage_of problem fixings plan stated (Incomplete t) h = inr (h.sound, of_trains (record { train = t; fault_is = refl; there = h.there; earlier = h.earlier; incomplete = h.incomplete }))
stage_of problem fixings plan stated (FixingUnmet k) h =
    inr (valid_is_sound problem [] plan h.valid, of_fixings h.valid (record { place = h.place; fault_is = ap FixingUnmet h.counted; fixing = h.fixing; there = h.there; unmet = h.unmet; earlier = h.earlier }))
stage_of problem fixings plan stated (WrongCost claimed actual) h =
    inr (
      valid_is_sound problem fixings plan h.valid,
      of_cost h.valid (record { claimed = claimed; stated_is = h.stated_is; wrong = λ same. h.wrong (same ∙ sym h.cost); fault_is = ap (WrongCost claimed) h.cost }),
    )

later_once : (problem : Problem) (fixings : List Fixing) (plan : List Event) (stated : Option ℕ) (f g : Fault) → IsLater problem fixings plan stated f → IsLater problem fixings plan stated g → f ≡ g
later_once problem fixings plan stated f g (of_trains a) (of_trains b) = open_once problem plan f g a b
later_once problem fixings plan stated f g (of_trains a) (of_fixings v b) = absurd (open_incomplete problem plan f a (valid_is_complete problem [] plan v))
later_once problem fixings plan stated f g (of_trains a) (of_cost v b) = absurd (open_incomplete problem plan f a (valid_is_complete problem fixings plan v))
later_once problem fixings plan stated f g (of_fixings v a) (of_trains b) = absurd (open_incomplete problem plan g b (valid_is_complete problem [] plan v))
later_once problem fixings plan stated f g (of_fixings v a) (of_fixings w b) = unmet_once fixings plan f g a b
later_once problem fixings plan stated f g (of_fixings v a) (of_cost w b) = absurd (unmet_not_met fixings plan f a w.met)
later_once problem fixings plan stated f g (of_cost v a) (of_trains b) = absurd (open_incomplete problem plan g b (valid_is_complete problem fixings plan v))
later_once problem fixings plan stated f g (of_cost v a) (of_fixings w b) = absurd (unmet_not_met fixings plan g b v.met)
later_once problem fixings plan stated f g (of_cost v a) (of_cost w b) = stated_once (cost_of problem.components plan) stated f g a b

first_once_of : (problem : Problem) (fixings : List Fixing) (plan : List Event) (stated : Option ℕ) (f g : Fault) → IsFirstFault problem fixings plan stated f → IsFirstFault problem fixings plan stated g → f ≡ g
first_once_of problem fixings plan stated f g a b = staged (stage_of problem fixings plan stated f a) (stage_of problem fixings plan stated g b)
  where
    staged : IsEventFault problem plan f ⊎ (AllSound problem plan × IsLater problem fixings plan stated f) → IsEventFault problem plan g ⊎ (AllSound problem plan × IsLater problem fixings plan stated g) → f ≡ g
    staged (inl x) (inl y) = event_once problem plan f g x y
    staged (inl x) (inr y) = absurd (event_unsound problem plan f x y.0)
    staged (inr x) (inl y) = absurd (event_unsound problem plan g y x.0)
    staged (inr x) (inr y) = later_once problem fixings plan stated f g x.1 y.1

stated_right : (stated : Option ℕ) (claimed c : ℕ) → stated ≡ Some claimed → IfSome stated (λ s. s ≡ c) → claimed ≡ c
stated_right stated claimed c is right = rw is at right

later_not_right : (problem : Problem) (fixings : List Fixing) (plan : List Event) (stated : Option ℕ) (f : Fault) (c : ℕ) → IsLater problem fixings plan stated f → IsRight problem fixings plan stated c → ⊥
later_not_right problem fixings plan stated f c (of_trains a) right = open_incomplete problem plan f a (valid_is_complete problem fixings plan right.valid)
later_not_right problem fixings plan stated f c (of_fixings v a) right = unmet_not_met fixings plan f a right.valid.met
later_not_right problem fixings plan stated f c (of_cost v a) right = a.wrong (stated_right stated a.claimed c a.stated_is right.stated_is ∙ right.cost)

first_not_right : (problem : Problem) (fixings : List Fixing) (plan : List Event) (stated : Option ℕ) (f : Fault) (c : ℕ) → IsFirstFault problem fixings plan stated f → IsRight problem fixings plan stated c → ⊥
first_not_right problem fixings plan stated f c a right =
    elim (stage_of problem fixings plan stated f a) [
      | inl x ↦ event_unsound problem plan f x (valid_is_sound problem fixings plan right.valid)
      | inr x ↦ later_not_right problem fixings plan stated f c x.1 right
    ]

-- ---- what is answered

break_first : (problem : Problem) (fixings : List Fixing) (plan : List Event) (stated : Option ℕ) (rule : Rule) (j : ℕ) → BreaksRuleFirst problem plan rule j → IsFirstFault problem fixings plan stated (fault_of rule j)
break_first problem fixings plan stated train_there j b = b
break_first problem fixings plan stated operation_there j b = b
break_first problem fixings plan stated time_rises j b = b
break_first problem fixings plan stated first_is_entry j b = b
break_first problem fixings plan stated next_is_successor j b = b
break_first problem fixings plan stated from_lower j b = b
break_first problem fixings plan stated until_upper j b = b
break_first problem fixings plan stated lasts_its_duration j b = b

pub event_first : (problem : Problem) (fixings : List Fixing) (plan : List Event) (stated : Option ℕ) (f : Fault) → IsEventFault problem plan f → IsFirstFault problem fixings plan stated f
event_first problem fixings plan stated f (inl (rule, j, is, b)) = subst (IsFirstFault problem fixings plan stated) (sym is) (break_first problem fixings plan stated rule j b)
event_first problem fixings plan stated f (inr (i, j, r, is, h)) = subst (IsFirstFault problem fixings plan stated) (sym is) h

pub open_first : (problem : Problem) (fixings : List Fixing) (plan : List Event) (stated : Option ℕ) (f : Fault) → AllSound problem plan → IsOpenFault problem plan f → IsFirstFault problem fixings plan stated f
open_first problem fixings plan stated f sound a =
    let first : IsFirstFault problem fixings plan stated (Incomplete a.train) = record { sound = sound; there = a.there; earlier = a.earlier; incomplete = a.incomplete } in
    subst (IsFirstFault problem fixings plan stated) (sym a.fault_is) first

pub unmet_first : (problem : Problem) (fixings : List Fixing) (plan : List Event) (stated : Option ℕ) (f : Fault) → AllSound problem plan → AllComplete problem plan → IsUnmetFault fixings plan f → IsFirstFault problem fixings plan stated f
unmet_first problem fixings plan stated f sound complete a =
    let first : IsFirstFault problem fixings plan stated (FixingUnmet (a.place + 1)) =
    record { valid = sound_is_valid problem plan sound complete; place = a.place; counted = refl; fixing = a.fixing; there = a.there; unmet = a.unmet; earlier = a.earlier } in
    subst (IsFirstFault problem fixings plan stated) (sym a.fault_is) first

stated_first : (problem : Problem) (fixings : List Fixing) (plan : List Event) (stated : Option ℕ) (f : Fault) → IsValid problem fixings plan → IsStatedOtherwise (cost_of problem.components plan) stated f → IsFirstFault problem fixings plan stated f
stated_first problem fixings plan stated f valid a =
    let first : IsFirstFault problem fixings plan stated (WrongCost a.claimed (cost_of problem.components plan)) = record { valid = valid; stated_is = a.stated_is; cost = refl; wrong = a.wrong } in
    subst (IsFirstFault problem fixings plan stated) (sym a.fault_is) first

-- an answer is the cost exactly where the plan is right
abbrev pub IsRightAnswer : Problem → List Fixing → List Event → Option ℕ → Result ℕ Fault → Type 0
IsRightAnswer problem fixings plan stated answer = (c : ℕ) → ((answer ≡ Ok c) ↔ IsRight problem fixings plan stated c)

-- an answer is a fault exactly where that is the first
abbrev pub IsFirstAnswer : Problem → List Fixing → List Event → Option ℕ → Result ℕ Fault → Type 0
IsFirstAnswer problem fixings plan stated answer = (g : Fault) → ((answer ≡ Err g) ↔ IsFirstFault problem fixings plan stated g)

pub fault_right : (problem : Problem) (fixings : List Fixing) (plan : List Event) (stated : Option ℕ) (f : Fault) → IsFirstFault problem fixings plan stated f → IsRightAnswer problem fixings plan stated (Err f)
fault_right problem fixings plan stated f first c = (λ same. cc, λ right. absurd (first_not_right problem fixings plan stated f c first right))

pub fault_first : (problem : Problem) (fixings : List Fixing) (plan : List Event) (stated : Option ℕ) (f : Fault) → IsFirstFault problem fixings plan stated f → IsFirstAnswer problem fixings plan stated (Err f)
fault_first problem fixings plan stated f first g =
    (λ same. let is : f ≡ g = cc in subst (IsFirstFault problem fixings plan stated) is first, λ other. ap Err (first_once_of problem fixings plan stated f g first other))

right_of : (problem : Problem) (fixings : List Fixing) (plan : List Event) (stated : Option ℕ) (x : ℕ) → AllSound problem plan → AllComplete problem plan → All (IsMet plan) fixings
    → (x ≡ cost_of problem.components plan) × IfSome stated (λ s. s ≡ cost_of problem.components plan) → IsRight problem fixings plan stated x
right_of problem fixings plan stated x sound complete met h = record {
  valid = valid_with problem fixings plan (sound_is_valid problem plan sound complete) met;
  cost = h.0;
  stated_is = subst (λ (y : ℕ). IfSome stated (λ s. s ≡ y)) (sym h.0) h.1;
}

pub last_right : (problem : Problem) (fixings : List Fixing) (plan : List Event) (stated : Option ℕ) (cost : ℕ) (answer : Result ℕ Fault) → AllSound problem plan → AllComplete problem plan → All (IsMet plan) fixings
    → cost ≡ cost_of problem.components plan → IsStated cost stated answer → IsRightAnswer problem fixings plan stated answer
last_right problem fixings plan stated cost (Ok x) sound complete met is h c =
    let right = right_of problem fixings plan stated x sound complete met (subst (λ (y : ℕ). (x ≡ y) × IfSome stated (λ s. s ≡ y)) is h) in
    (λ same. let eq : x ≡ c = cc in subst (IsRight problem fixings plan stated) eq right, λ other. ap Ok (right.cost ∙ sym other.cost))
last_right problem fixings plan stated cost (Err f) sound complete met is h c =
    fault_right problem fixings plan stated f
    (stated_first problem fixings plan stated f (valid_with problem fixings plan (sound_is_valid problem plan sound complete) met) (subst (λ (y : ℕ). IsStatedOtherwise y stated f) is h)) c

pub last_first : (problem : Problem) (fixings : List Fixing) (plan : List Event) (stated : Option ℕ) (cost : ℕ) (answer : Result ℕ Fault) → AllSound problem plan → AllComplete problem plan → All (IsMet plan) fixings
    → cost ≡ cost_of problem.components plan → IsStated cost stated answer → IsFirstAnswer problem fixings plan stated answer
last_first problem fixings plan stated cost (Ok x) sound complete met is h g =
    let right = right_of problem fixings plan stated x sound complete met (subst (λ (y : ℕ). (x ≡ y) × IfSome stated (λ s. s ≡ y)) is h) in
    (λ same. cc, λ first. absurd (first_not_right problem fixings plan stated g x first right))
last_first problem fixings plan stated cost (Err f) sound complete met is h g =
    fault_first problem fixings plan stated f
    (stated_first problem fixings plan stated f (valid_with problem fixings plan (sound_is_valid problem plan sound complete) met) (subst (λ (y : ℕ). IsStatedOtherwise y stated f) is h)) g
