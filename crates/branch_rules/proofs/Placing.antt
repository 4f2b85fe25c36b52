-- What is known of the events of a plan from a place on.
use Rattle.std.proofs.Common.{◌≡◌, ◌≢◌, ◌∙◌, ℕ, zero, suc, ◌+◌, ◌<◌, ◌≤◌, List, [], ◌∷◌, ◌++◌, length, get_or, set, drop, Option, Some, None, refl, sym, ap, subst, inl, inr, arith}
use Rattle.std.specs.Prelude.{◌⊎◌, All, Contains, slice_get}
use Rattle.std.specs.Global.{Vec}
use Rattle.std.proofs.lemmas.Bool.{cases_lt, cases_eq}
use Rattle.std.proofs.lemmas.Option.{same_Some, slice_get_within, slice_get-get_or, slice_get_read}
use Rattle.std.proofs.lemmas.List.{length-set, length-append, get_or_append_left, get_or_default, get_or-set_same, get_or-set_other}
use Rattle.std.proofs.Math.Seq.{get_or-append_seam}
use Rattle.std.proofs.lemmas.List.Elements.{Contains-append_left, Contains-append_right, Contains-append_cases}
use Rattle.disp_model.specs.declared.train.Listing.{Listing}
use Rattle.disp_model.specs.declared.plan.Event.{Event}
use Rattle.disp_model.specs.declared.problem.Problem.{Problem}
use Rattle.disp_model.specs.Plan.{first_of}
use Rattle.disp_model.specs.Arcs.{listings_of}
use Rattle.disp_model.specs.Earliest.{op_of}
use Rattle.disp_laws.proofs.Lists.{set_parts}
use Rattle.branch_rules.specs.declared.behind.Behind.{Behind}
use Rattle.branch_rules.specs.Behind.{AreOf, Lists, AreFalling, ArePlacesOf, IsKnownBehind, IsPutBehind, ArePutBehind}
use Rattle.branch_rules.proofs.Ending.{next_later, next_here, next_none}

no_event : Event
no_event = record { time = 0; train = 0; operation = 0 }

-- ---- places in falling order

nothing_there : {X : Type 0} (x : X) → Contains [] x → ⊥
nothing_there x (k, lt, e) = omega (arith, lt)

alone_there : {X : Type 0} (x y : X) → Contains (y ∷ []) x → x ≡ y
alone_there x y (zero, lt, e) = sym e
alone_there x y (suc k, lt, e) = absurd (omega (arith, lt))

head_there : {X : Type 0} (x : X) (xs : List X) → Contains (x ∷ xs) x
head_there x xs = (0, omega arith, refl)

tail_there : {X : Type 0} (x y : X) (xs : List X) → Contains xs x → Contains (y ∷ xs) x
tail_there x y xs (k, lt, e) = (suc k, omega (arith, lt), e)

pub falling_more : (xs : List ℕ) (y : ℕ) → AreFalling xs → ((j : ℕ) → Contains xs j → y ≤ j) → AreFalling (xs ++ y ∷ [])
falling_more xs y falls low i j d lt within = elim (cases_lt j (length xs)) [
  | inl inside ↦ omega (arith, get_or_append_left xs (y ∷ []) d i (omega (arith, lt, inside)), get_or_append_left xs (y ∷ []) d j inside, falls i j d lt inside)
  | inr past ↦
      let last : j ≡ length xs = omega (arith, past, within, length-append xs (y ∷ [])) in
      let inside : i < length xs = omega (arith, lt, last) in
      let at : get_or (xs ++ y ∷ []) j d ≡ y = ap (λ (n : ℕ). get_or (xs ++ y ∷ []) n d) last ∙ get_or-append_seam xs y [] d in
      omega (arith, at, get_or_append_left xs (y ∷ []) d i inside, low (get_or xs i d) (i, inside, get_or_default xs i (get_or xs i d) d inside))
]

-- ---- a place is put behind those of a resource

abbrev AreOfNow : List Listing → Listing → ℕ → Type 0
AreOfNow listings l r = AreOf (listings ++ l ∷ []) r

of_more : (listings : List Listing) (l : Listing) (r : ℕ) → AreOf listings r → AreOfNow listings l r
of_more listings l r (k, there, same) = (k, Contains-append_left listings (l ∷ []) k there, same)

of_last : (listings : List Listing) (l : Listing) → AreOfNow listings l l.resource
of_last listings l = (l, Contains-append_right listings (l ∷ []) l (head_there l []), refl)

of_before : (listings : List Listing) (l : Listing) (r : ℕ) → r ≢ l.resource → AreOfNow listings l r → AreOf listings r
of_before listings l r other (k, there, same) = elim (Contains-append_cases listings (l ∷ []) k there) [
  | inl before ↦ (k, before, same)
  | inr last ↦ absurd (other (sym same ∙ ap (λ (x : Listing). x.resource) (alone_there k l last)))
]

pub put_behind : (place : ℕ) (listings : List Listing) (l : Listing) (before lists : List (Vec ℕ)) (own new : Vec ℕ) → l.resource < length lists → own ≡ get_or lists l.resource own → new.items ≡ own.items ++ place ∷ [] → ArePutBehind place listings before lists
    → ArePutBehind place (listings ++ l ∷ []) before (set lists l.resource new)
put_behind place listings l before lists own new lt own_is new_is are = record {
  count = length-set lists l.resource new ∙ are.count;
  each = λ r places e. by r places (set_parts lists l.resource new r places lt e);
}
  where
    stood : slice_get lists l.resource ≡ Some own
    stood = slice_get_read lists (length lists) l.resource own refl lt own_is

    here : (old : Vec ℕ) → IsPutBehind place (AreOf listings l.resource) old.items own.items → IsPutBehind place (AreOfNow listings l l.resource) old.items new.items
    here old is = record {
      kept = λ j h. in_new j (inl (is.kept j h));
      there = λ of. in_new place (inr refl);
      only = λ j h. elim (in_parts j h) [
        | inl own_has ↦ elim (is.only j own_has) [ inl had ↦ inl had | inr both ↦ inr (both.0, of_more listings l l.resource both.1) ]
        | inr same ↦ inr (same, of_last listings l)
      ];
      falling = λ low falls. subst AreFalling (sym new_is) (falling_more own.items place (is.falling low falls) (λ j h. elim (is.only j h) [ inl had ↦ low j had | inr both ↦ omega (arith, both.0) ]));
    }
      where
        in_new : (j : ℕ) → Contains own.items j ⊎ (j ≡ place) → Contains new.items j
        in_new j (inl has) = subst (λ (xs : List ℕ). Contains xs j) (sym new_is) (Contains-append_left own.items (place ∷ []) j has)
        in_new j (inr same) = subst (λ (xs : List ℕ). Contains xs j) (sym new_is) (Contains-append_right own.items (place ∷ []) j (subst (λ (n : ℕ). Contains (n ∷ []) j) same (head_there j [])))

        in_parts : (j : ℕ) → Contains new.items j → Contains own.items j ⊎ (j ≡ place)
        in_parts j h = elim (Contains-append_cases own.items (place ∷ []) j (subst (λ (xs : List ℕ). Contains xs j) new_is h)) [ inl has ↦ inl has | inr last ↦ inr (alone_there j place last) ]

    by : (r : ℕ) (places : Vec ℕ) → ((r ≡ l.resource) × (places ≡ new)) ⊎ ((r ≢ l.resource) × (slice_get lists r ≡ Some places)) → (old : Vec ℕ) × (slice_get before r ≡ Some old) × IsPutBehind place (AreOfNow listings l r) old.items places.items
    by r places (inl (same, is)) =
        let was = are.each l.resource own stood in
        (was.0, subst (λ (n : ℕ). slice_get before n ≡ Some was.0) (sym same) was.1, subst (λ (n : ℕ). IsPutBehind place (AreOfNow listings l n) was.0.items places.items) (sym same) (subst (λ (v : Vec ℕ). IsPutBehind place (AreOfNow listings l l.resource) was.0.items v.items) (sym is) (here was.0 was.2)))
    by r places (inr (other, e)) =
        let was = are.each r places e in
        let is = was.2 in (
          was.0,
          was.1,
          record {
            kept = is.kept;
            there = λ of. is.there (of_before listings l r other of);
            only = λ j h. elim (is.only j h) [ inl had ↦ inl had | inr both ↦ inr (both.0, of_more listings l r both.1) ];
            falling = is.falling;
          },
        )

pub placed_none : (place : ℕ) (lists : List (Vec ℕ)) → ArePutBehind place [] lists lists
placed_none place lists = record {
  count = refl;
  each = λ r places e. (
    places,
    e,
    record {
      kept = λ j h. h;
      there = λ of. absurd (nothing_there of.0 of.1);
      only = λ j h. inl h;
      falling = λ low falls. falls;
    },
  );
}

-- ---- behind the last event

pub behind_none : (problem : Problem) (plan : List Event) (behind : Behind) → length behind.next.items ≡ length problem.trains → ((t : ℕ) → get_or behind.next.items t None ≡ None) → length behind.listed.items ≡ length problem.names
    → ((r : ℕ) (places : Vec ℕ) → slice_get behind.listed.items r ≡ Some places → places.items ≡ []) → IsKnownBehind problem plan (length plan) behind
behind_none problem plan behind trains next resources listed = record {
  trains = trains;
  next = λ t lt. next t ∙ sym (next_none plan t (length plan) (omega arith));
  resources = resources;
  listed = λ r places e. subst (ArePlacesOf problem plan (length plan) r) (sym (listed r places e)) (nowhere r);
}
  where
    nowhere : (r : ℕ) → ArePlacesOf problem plan (length plan) r []
    nowhere r = record {
      each = λ j f le at lists. absurd (omega (arith, le, slice_get_within plan j f at));
      there = λ j h. absurd (nothing_there j h);
      lists = λ j f h at. absurd (nothing_there j h);
      falling = λ i j d lt within. absurd (omega (arith, within));
    }

-- ---- one event more

pub behind_more : (problem : Problem) (plan : List Event) (i : ℕ) (e : Event) (old new : Behind) → slice_get plan i ≡ Some e → e.train < length problem.trains → new.next.items ≡ set old.next.items e.train (Some (i, e)) → ArePutBehind i (listings_of problem (op_of e)) old.listed.items new.listed.items
    → IsKnownBehind problem plan (i + 1) old → IsKnownBehind problem plan i new
behind_more problem plan i e old new at train next_is placed was = record {
  trains = ap (λ (l : List (Option (ℕ × Event))). length l) next_is ∙ length-set old.next.items e.train (Some (i, e)) ∙ was.trains;
  next = λ t lt. ap (λ (l : List (Option (ℕ × Event))). get_or l t None) next_is ∙ next_at t lt (cases_eq t e.train);
  resources = placed.count ∙ was.resources;
  listed = λ r places there. let from = placed.each r places there in places_more r from.0.items places.items from.2 (was.listed r from.0 from.1);
}
  where
    within : i < length plan
    within = slice_get_within plan i e at

    own : get_or plan i no_event ≡ e
    own = same_Some (get_or plan i no_event) e (sym (slice_get-get_or plan i no_event within) ∙ at)

    next_at : (t : ℕ) → t < length problem.trains → (t ≡ e.train) ⊎ (t ≢ e.train) → get_or (set old.next.items e.train (Some (i, e))) t None ≡ first_of t i (drop i plan)
    next_at t lt (inl same) =
        let here : (get_or plan i no_event).train ≡ t = ap (λ (x : Event). x.train) own ∙ sym same in
        ap (λ (n : ℕ). get_or (set old.next.items e.train (Some (i, e))) n None) same ∙ get_or-set_same old.next.items e.train (Some (i, e)) None (omega (arith, train, was.trains))
        ∙ ap (λ (x : Event). Some (i, x)) (sym own) ∙ sym (next_here plan t i no_event within here)
    next_at t lt (inr other) =
        get_or-set_other old.next.items e.train t (Some (i, e)) None other ∙ was.next t lt ∙ sym (next_later plan t i no_event within (λ same. other (sym same ∙ ap (λ (x : Event). x.train) own)))

    places_more : (r : ℕ) (before after : List ℕ) → IsPutBehind i (AreOf (listings_of problem (op_of e)) r) before after → ArePlacesOf problem plan (i + 1) r before → ArePlacesOf problem plan i r after
    places_more r before after is are = record {
      each = λ j f le there lists. elim (cases_lt i j) [
        | inl lt ↦ is.kept j (are.each j f (omega (arith, lt)) there lists)
        | inr ge ↦
            let same : j ≡ i = omega (arith, le, ge) in
            let event : f ≡ e = same_Some f e (sym there ∙ ap (slice_get plan) same ∙ at) in
            subst (Contains after) (sym same) (is.there (subst (λ (x : Event). Lists problem x r) event lists))
      ];
      there = λ j h. elim (is.only j h) [ inl had ↦ (let was = are.there j had in (omega (arith, was.0), was.1)) | inr both ↦ (omega (arith, both.0), omega (arith, both.0, within)) ];
      lists = λ j f h there. elim (is.only j h) [
        | inl had ↦ are.lists j f had there
        | inr both ↦ subst (λ (x : Event). Lists problem x r) (same_Some e f (sym at ∙ ap (slice_get plan) (sym both.0) ∙ there)) both.1
      ];
      falling = is.falling (λ j h. omega (arith, (are.there j h).0)) are.falling;
    }

-- ---- what is listed has a name

pub places_are : (problem : Problem) (plan : List Event) (i r : ℕ) (behind : Behind) (own : Vec ℕ) (places : List ℕ) → r < length behind.listed.items → own ≡ get_or behind.listed.items r own → places ≡ own.items → IsKnownBehind problem plan i behind → ArePlacesOf problem plan i r places
places_are problem plan i r behind own places lt own_is is known = subst (ArePlacesOf problem plan i r) (sym is) (known.listed r own (slice_get_read behind.listed.items (length behind.listed.items) r own refl lt own_is))

pub places_within : (problem : Problem) (plan : List Event) (i r : ℕ) (places : List ℕ) → ArePlacesOf problem plan i r places → All (λ j. j < length plan) places
places_within problem plan i r places are k d lt = (are.there (get_or places k d) (k, lt, get_or_default places k (get_or places k d) d lt)).1
