-- When an event has event_end, as more events come; and that events let each other pass, one after another.
use Rattle.std.proofs.Common.{◌≡◌, ℕ, zero, suc, ◌+◌, ◌-◌, ◌<◌, ◌≤◌, List, [], ◌∷◌, ◌++◌, length, take, drop, cond, get_or, Option, Some, None, Bool, refl, sym, ap, subst, ◌∙◌, arith, append-nil, inl, inr}
use Rattle.std.specs.Prelude.{nat_eq, slice_get, ◌≢◌, All}
use Rattle.std.specs.List.{Any}
use Rattle.std.specs.Option.{option_or}
use Rattle.std.proofs.lemmas.Bool.{cases_lt, cases_eq, eq-eqb, ne_eqb}
use Rattle.std.proofs.lemmas.Option.{same_Some, slice_get_within, slice_get-get_or, get_or_from_slice_get}
use Rattle.std.proofs.lemmas.List.{take_more, drop-append-le, length-take-le}
use Rattle.std.proofs.lemmas.List.Elements.{filter-append, All-weaker}
use Rattle.disp_model.specs.declared.plan.Event.{Event}
use Rattle.disp_model.specs.declared.train.Listing.{Listing}
use Rattle.disp_model.specs.declared.problem.Problem.{Problem}
use Rattle.disp_model.specs.Plan.{run_of}
use Rattle.disp_model.specs.Train.{next_of, duration_of}
use Rattle.disp_model.specs.Valid.{train_at}
use Rattle.solution_verifier.specs.Held.{event_end, ended_in, LetsBy, LetsPass, HasPassed, IsHeldBy, listings_at}
use Rattle.solution_verifier.specs.Answered.{RisesUntil, LetsThrough, IsFirstListing}

pub take_one_more : (plan : List Event) (j : ℕ) (e : Event) → slice_get plan j ≡ Some e → take (j + 1) plan ≡ take j plan ++ e ∷ []
take_one_more plan j e at =
    take_more plan j e (slice_get_within plan j e at) ∙ ap (λ (x : Event). take j plan ++ x ∷ []) (get_or_from_slice_get plan j e e at)

between_more : (plan : List Event) (i j : ℕ) (e : Event) → i < j → slice_get plan j ≡ Some e → drop (i + 1) (take (j + 1) plan) ≡ drop (i + 1) (take j plan) ++ e ∷ []
between_more plan i j e lt at =
    let within : j < length plan = slice_get_within plan j e at in
    let long : i + 1 ≤ length (take j plan) = rw (length-take-le j plan (omega arith)) (omega arith) in
    ap (drop (i + 1)) (take_one_more plan j e at) ∙ drop-append-le (i + 1) (take j plan) (e ∷ []) long

-- the run of a train with one more event
pub run_push : (t : ℕ) (xs : List Event) (e : Event) → run_of t (xs ++ e ∷ []) ≡ run_of t xs ++ cond (nat_eq e.train t) (e ∷ []) []
run_push t xs e = filter-append (λ g. nat_eq g.train t) xs (e ∷ [])

pub run_own : (t : ℕ) (xs : List Event) (e : Event) → e.train ≡ t → run_of t (xs ++ e ∷ []) ≡ run_of t xs ++ e ∷ []
run_own t xs e same = run_push t xs e ∙ ap (λ (b : Bool). run_of t xs ++ cond b (e ∷ []) []) (eq-eqb e.train t same)

pub run_other : (t : ℕ) (xs : List Event) (e : Event) → (e.train ≡ t → ⊥) → run_of t (xs ++ e ∷ []) ≡ run_of t xs
run_other t xs e other = run_push t xs e ∙ ap (λ (b : Bool). run_of t xs ++ cond b (e ∷ []) []) (ne_eqb e.train t other) ∙ append-nil (run_of t xs)

ended_more : (next : List ℕ) (own : ℕ) (run : List Event) (e : Event) → event_end next own (run ++ e ∷ []) ≡ option_or (event_end next own run) (Some e.time)
ended_more [] own run e = refl
ended_more (s ∷ next) own [] e = refl
ended_more (s ∷ next) own (f ∷ run) e = refl

pub ended_own : (problem : Problem) (plan : List Event) (i j : ℕ) (d e : Event) → i < j → slice_get plan j ≡ Some e → e.train ≡ d.train
    → ended_in problem (take (j + 1) plan) i d ≡ option_or (ended_in problem (take j plan) i d) (Some e.time)
ended_own problem plan i j d e lt at same =
    let next = next_of (train_at problem d.train) d.operation in
    let own = d.time + duration_of (train_at problem d.train) d.operation in
    let run = run_of d.train (drop (i + 1) (take j plan)) in
    ap (λ (l : List Event). event_end next own (run_of d.train l)) (between_more plan i j e lt at)
    ∙ ap (event_end next own) (run_own d.train (drop (i + 1) (take j plan)) e same) ∙ ended_more next own run e

pub ended_other : (problem : Problem) (plan : List Event) (i j : ℕ) (d e : Event) → i < j → slice_get plan j ≡ Some e → (e.train ≡ d.train → ⊥)
    → ended_in problem (take (j + 1) plan) i d ≡ ended_in problem (take j plan) i d
ended_other problem plan i j d e lt at other =
    let next = next_of (train_at problem d.train) d.operation in
    let own = d.time + duration_of (train_at problem d.train) d.operation in
    ap (λ (l : List Event). event_end next own (run_of d.train l)) (between_more plan i j e lt at)
    ∙ ap (event_end next own) (run_other d.train (drop (i + 1) (take j plan)) e other)

pub passes_from : (problem : Problem) (plan : List Event) (i j : ℕ) (d e : Event) → slice_get plan i ≡ Some d → slice_get plan j ≡ Some e → LetsPass problem (take j plan) i d e → LetsThrough problem plan i j
passes_from problem plan i j d e at_i at_j h c f there_i there_j =
    subst (λ (x : Event). LetsPass problem (take j plan) i x f) (same_Some d c (sym at_i ∙ there_i))
    (subst (λ (x : Event). LetsPass problem (take j plan) i d x) (same_Some e f (sym at_j ∙ there_j)) h)

pub passes_more : (problem : Problem) (plan : List Event) (i j : ℕ) → ((k : ℕ) → i < k → k < j → LetsThrough problem plan i k) → LetsThrough problem plan i j → (k : ℕ) → i < k → k < j + 1 → LetsThrough problem plan i k
passes_more problem plan i j below here k lo hi =
    elim (cases_lt k j) [
      | inl lt ↦ below k lo lt
      | inr le ↦ let same : j ≡ k = omega (arith, le, hi) in subst (λ (m : ℕ). LetsThrough problem plan i m) same here
    ]

-- what a test of listings tells, said of the events that list them
listed_so : (F : List Listing → List Listing → Option ℕ → Type 0) (problem : Problem) (stood : List Event) (i : ℕ) (d e : Event) (listings others : List Listing) (end : Option ℕ)
    → listings ≡ listings_at problem d → others ≡ listings_at problem e → end ≡ ended_in problem stood i d → F listings others end → F (listings_at problem d) (listings_at problem e) (ended_in problem stood i d)
listed_so F problem stood i d e listings others end a b x h =
    subst (λ (y : Option ℕ). F (listings_at problem d) (listings_at problem e) y) x
    (subst (λ (y : List Listing). F (listings_at problem d) y end) b (subst (λ (y : List Listing). F y others end) a h))

pub lets_pass : (problem : Problem) (stood : List Event) (i : ℕ) (d e : Event) (listings others : List Listing) (end : Option ℕ)
    → listings ≡ listings_at problem d → others ≡ listings_at problem e → end ≡ ended_in problem stood i d
    → All (λ l. Any (λ k. k.resource ≡ l.resource) others → HasPassed end l.release e.time) listings → LetsPass problem stood i d e
lets_pass problem stood i d e listings others end a b x h trains =
    listed_so (λ (p q : List Listing) (y : Option ℕ). All (λ l. Any (λ k. k.resource ≡ l.resource) q → HasPassed y l.release e.time) p) problem stood i d e listings others end a b x h

pub held_by : (problem : Problem) (stood : List Event) (i : ℕ) (d e : Event) (listings others : List Listing) (end : Option ℕ) (resource : ℕ)
    → listings ≡ listings_at problem d → others ≡ listings_at problem e → end ≡ ended_in problem stood i d → d.train ≢ e.train
    → IsFirstListing listings (λ l. Any (λ k. k.resource ≡ l.resource) others → HasPassed end l.release e.time) resource → IsHeldBy problem stood i d e resource
held_by problem stood i d e listings others end resource a b x trains h =
    let first = listed_so (λ (p q : List Listing) (y : Option ℕ). IsFirstListing p (λ l. Any (λ k. k.resource ≡ l.resource) q → HasPassed y l.release e.time) resource) problem stood i d e listings others end a b x h in
    record { trains = trains; place = first.place; listing = first.listing; listed = first.listed; held = first.bad; earlier = first.earlier; names = first.names }

-- once an event has event_end it stays so
stays_ended : (problem : Problem) (plan : List Event) (i j n : ℕ) (d : Event) (t : ℕ) → i < j → j + n ≤ length plan → ended_in problem (take j plan) i d ≡ Some t → ended_in problem (take (j + n) plan) i d ≡ Some t
stays_ended problem plan i j zero d t lt le is = let same : j + 0 ≡ j = omega arith in rw same is
stays_ended problem plan i j (suc n) d t lt le is =
    let m = j + n in
    let next : j + suc n ≡ m + 1 = omega arith in
    let e = get_or plan m d in
    let at : slice_get plan m ≡ Some e = slice_get-get_or plan m d (omega (arith, le)) in
    let before : ended_in problem (take m plan) i d ≡ Some t = stays_ended problem plan i j n d t lt (omega (arith, le)) is in
    let later : i < m = omega (arith, lt) in
    rw next (elim (cases_eq e.train d.train) [
      | inl same ↦ ended_own problem plan i m d e later at same ∙ ap (λ (x : Option ℕ). option_or x (Some e.time)) before
      | inr other ↦ ended_other problem plan i m d e later at other ∙ before
    ])

-- and what is released stays so, where times do not fall
stays_passed : (problem : Problem) (plan : List Event) (i j n : ℕ) (d : Event) (release time later : ℕ) (found : Option ℕ) → i < j → j + n ≤ length plan → time ≤ later
    → ended_in problem (take j plan) i d ≡ found → HasPassed found release time → HasPassed (ended_in problem (take (j + n) plan) i d) release later
stays_passed problem plan i j n d release time later None lt le up is passed = absurd passed
stays_passed problem plan i j n d release time later (Some t) lt le up is passed =
    rw (stays_ended problem plan i j n d t lt le is) (omega (arith, up, passed))

-- an event lets all later ones pass once all that it lists is released
pub all_let_pass : (problem : Problem) (plan : List Event) (i j bound : ℕ) (d e : Event) (listings : List Listing) (end : Option ℕ) → i < j → bound ≤ length plan → RisesUntil plan bound
    → slice_get plan i ≡ Some d → slice_get plan j ≡ Some e → listings ≡ listings_at problem d → end ≡ ended_in problem (take j plan) i d → All (λ l. HasPassed end l.release e.time) listings
    → ((k : ℕ) → i < k → k < j → LetsThrough problem plan i k) → (k : ℕ) → i < k → k < bound → LetsThrough problem plan i k
all_let_pass problem plan i j bound d e listings end lt long up at_i at_j a x passed below k lo hi =
    elim (cases_lt k j) [
      | inl less ↦ below k lo less
      | inr le ↦
          let f = get_or plan k d in
          let at_k : slice_get plan k ≡ Some f = slice_get-get_or plan k d (omega (arith, hi, long)) in
          let steps : j + (k - j) ≡ k = omega (arith, le) in
          let fits : j + (k - j) ≤ length plan = omega (arith, le, hi, long) in
          let listed : All (λ l. HasPassed (ended_in problem (take j plan) i d) l.release e.time) (listings_at problem d) =
          subst (λ (y : Option ℕ). All (λ l. HasPassed y l.release e.time) (listings_at problem d)) x (subst (λ (p : List Listing). All (λ l. HasPassed end l.release e.time) p) a passed) in
          let each : (l : Listing) → HasPassed (ended_in problem (take j plan) i d) l.release e.time → LetsBy problem (take k plan) i d f l =
          λ l h shared. subst (λ (m : ℕ). HasPassed (ended_in problem (take m plan) i d) l.release f.time) steps (stays_passed problem plan i j (k - j) d l.release e.time f.time _ lt fits (up j k e f le hi at_j at_k) refl h) in
          passes_from problem plan i k d f at_i at_k (λ apart. All-weaker _ _ each (listings_at problem d) listed)
    ]
