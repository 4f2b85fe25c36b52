-- The holders of each resource.
use Rattle.std.proofs.Common.{◌≡◌, ◌≢◌, ◌∙◌, ℕ, zero, suc, ◌+◌, ◌<◌, ◌≤◌, List, [], ◌∷◌, ◌++◌, length, set, get_or, Option, Some, None, refl, sym, ap, subst, arith, inl, inr}
use Rattle.std.specs.Prelude.{All, Contains, slice_get, ◌⊎◌}
use Rattle.std.specs.Option.{option_map_or}
use Rattle.std.specs.Global.{Vec}
use Rattle.std.proofs.lemmas.Bool.{cases_lt, cases_eq}
use Rattle.std.proofs.lemmas.Option.{same_Some, slice_get_within, slice_get-get_or, slice_get_read, get_or_from_slice_get}
use Rattle.std.proofs.lemmas.List.{length-set, get_or-set_same, get_or-set_other, get_or_default}
use Rattle.std.proofs.lemmas.List.Elements.{Contains-append_left, Contains-append_right, Contains-append_cases}
use Rattle.disp_model.specs.declared.train.Op.{Op}
use Rattle.disp_model.specs.declared.train.Listing.{Listing}
use Rattle.disp_model.specs.declared.train.Operation.{Operation}
use Rattle.disp_model.specs.declared.problem.Problem.{Problem}
use Rattle.disp_model.specs.Valid.{train_at}
use Rattle.disp_model.specs.Arcs.{listings_of}
use Rattle.disp_model.specs.Numbers.{number_of}
use Rattle.disp_model.specs.WellFormed.{operation_count}
use Rattle.disp_laws.proofs.Lists.{set_parts}
use Rattle.disp_laws.proofs.Numbered.{below_count}
use Rattle.event_windows.specs.Operations.{HasOperation}
use Rattle.event_arcs.proofs.Numbering.{same_by_number}
use Rattle.first_overlaps.specs.declared.holder.Holder.{Holder}
use Rattle.first_overlaps.specs.Holders.{IsHolderOf, IsHeldIn, AreSound, AreHeldBelow, AreHeldWith, AreHoldersOf}

-- ---- a list of which one place was set

pub set_here : {X : Type 0} (xs : List X) (p : ℕ) (y : X) → p < length xs → slice_get (set xs p y) p ≡ Some y
set_here xs p y lt = slice_get_read (set xs p y) (length xs) p y (sym (length-set xs p y)) lt (sym (get_or-set_same xs p y y lt))

pub set_elsewhere : {X : Type 0} (xs : List X) (p : ℕ) (y : X) (i : ℕ) (z : X) → i ≢ p
    → slice_get xs i ≡ Some z → slice_get (set xs p y) i ≡ Some z
set_elsewhere xs p y i z other at =
    slice_get_read (set xs p y) (length xs) i z (sym (length-set xs p y)) (slice_get_within xs i z at) (sym (get_or-set_other xs p i y z other ∙ get_or_from_slice_get xs i z z at))

pub alone_there : {X : Type 0} (x y : X) → Contains (y ∷ []) x → x ≡ y
alone_there x y (zero, lt, e) = sym e
alone_there x y (suc n, lt, e) = absurd (omega (arith, lt))

-- ---- one holder more

stays : (each : List (Vec Holder)) (r : ℕ) (own new : Vec Holder) (x : Holder) → r < length each
    → slice_get each r ≡ Some own → new.items ≡ own.items ++ x ∷ [] → (o : Op) (l : Listing)
    → IsHeldIn each o l → IsHeldIn (set each r new) o l
stays each r own new x lt at is o l held = elim (cases_eq l.resource r) [
  | inl same ↦
      let list_is : held.list ≡ own = same_Some held.list own (sym held.at ∙ ap (slice_get each) same ∙ at) in
      let was : Contains own.items held.holder = subst (λ (v : Vec Holder). Contains v.items held.holder) list_is held.among in
      record {
        list = new;
        at = ap (slice_get (set each r new)) same ∙ set_here each r new lt;
        holder = held.holder;
        among = subst (λ (xs : List Holder). Contains xs held.holder) (sym is) (Contains-append_left own.items (x ∷ []) held.holder was);
        of = held.of;
        release = held.release;
      }
  | inr other ↦ record { list = held.list; at = set_elsewhere each r new l.resource held.list other held.at; holder = held.holder; among = held.among; of = held.of; release = held.release }
]

sound_more : (problem : Problem) (each : List (Vec Holder)) (r : ℕ) (own new : Vec Holder) (x : Holder)
    → r < length each → slice_get each r ≡ Some own → new.items ≡ own.items ++ x ∷ [] → IsHolderOf problem r x
    → AreSound problem each → AreSound problem (set each r new)
sound_more problem each r own new x lt at is of are = record {
  count = length-set each r new ∙ are.count;
  holds = λ s list y there among. by s list y among (set_parts each r new s list lt there);
}
  where
    by : (s : ℕ) (list : Vec Holder) (y : Holder) → Contains list.items y
        → ((s ≡ r) × (list ≡ new)) ⊎ ((s ≢ r) × (slice_get each s ≡ Some list)) → IsHolderOf problem s y
    by s list y among (inr (other, there)) = are.holds s list y there among
    by s list y among (inl (same, list_is)) =
        let there = subst (λ (xs : List Holder). Contains xs y) is (subst (λ (v : Vec Holder). Contains v.items y) list_is among) in
        subst (λ (n : ℕ). IsHolderOf problem n y) (sym same) (elim (Contains-append_cases own.items (x ∷ []) y there) [
          | inl before ↦ are.holds r own y at before
          | inr last ↦ subst (IsHolderOf problem r) (sym (alone_there y x last)) of
        ])

pub put_more : (problem : Problem) (listings : List Listing) (l : Listing) (each : List (Vec Holder)) (x : Holder) (own new : Vec Holder)
    → l.resource < length each → own ≡ get_or each l.resource own → new.items ≡ own.items ++ x ∷ []
    → x.release ≡ l.release
    → HasOperation problem x.op → number_of problem x.op ≡ x.number → Contains (listings_of problem x.op) l
    → AreHeldWith problem x.op listings each
    → AreHeldWith problem x.op (listings ++ l ∷ []) (set each l.resource new)
put_more problem listings l each x own new lt own_is is release has number lists are = record {
  sound = sound_more problem each l.resource own new x lt at is (record { there = has; number = number; lists = (l, lists, refl, sym release) }) are.sound;
  there = λ o k has_o below listed. stays each l.resource own new x lt at is o k (are.there o k has_o below listed);
  own = λ k there. elim (Contains-append_cases listings (l ∷ []) k there) [
    | inl before ↦ stays each l.resource own new x lt at is x.op k (are.own k before)
    | inr last ↦ subst (IsHeldIn (set each l.resource new) x.op) (sym (alone_there k l last)) here
  ];
}
  where
    at : slice_get each l.resource ≡ Some own
    at = slice_get_read each (length each) l.resource own refl lt own_is

    here : IsHeldIn (set each l.resource new) x.op l
    here = record {
      list = new;
      at = set_here each l.resource new lt;
      holder = x;
      among = subst (λ (xs : List Holder). Contains xs x) (sym is) (Contains-append_right own.items (x ∷ []) x (0, omega arith, refl));
      of = refl;
      release = release;
    }

-- ---- one operation more

pub none_held : (problem : Problem) (each : List (Vec Holder)) → length each ≡ length problem.names
    → ((r : ℕ) (list : Vec Holder) → slice_get each r ≡ Some list → list.items ≡ [])
    → AreHeldBelow problem 0 each
none_held problem each count none = record {
  sound = record { count = count; holds = λ r list x at among. absurd (nothing x (subst (λ (xs : List Holder). Contains xs x) (none r list at) among)) };
  there = λ o l has lt lists. absurd (omega (arith, lt));
}
  where
    nothing : (x : Holder) → Contains [] x → ⊥
    nothing x (k, lt, e) = omega (arith, lt)

pub with_none : (problem : Problem) (op : Op) (number : ℕ) (each : List (Vec Holder))
    → number_of problem op ≡ number → AreHeldBelow problem number each → AreHeldWith problem op [] each
with_none problem op number each is are = record {
  sound = are.sound;
  there = λ o l has lt lists. are.there o l has (omega (arith, lt, is)) lists;
  own = λ l there. absurd (omega (arith, there.1));
}

pub with_all : (problem : Problem) (op : Op) (number : ℕ) (each : List (Vec Holder)) → HasOperation problem op
    → number_of problem op ≡ number → AreHeldWith problem op (listings_of problem op) each
    → AreHeldBelow problem (number + 1) each
with_all problem op number each has is are = record {
  sound = are.sound;
  there = λ o l has_o lt lists. elim (cases_lt (number_of problem o) number) [
    | inl below ↦ are.there o l has_o (omega (arith, below, is)) lists
    | inr ge ↦
        let same : o ≡ op = same_by_number problem o op has_o has (omega (arith, ge, lt, is)) in
        subst (λ (p : Op). IsHeldIn each p l) (sym same) (are.own l (subst (λ (p : Op). Contains (listings_of problem p) l) same lists))
  ];
}

pub all_held : (problem : Problem) (count : ℕ) (each : List (Vec Holder))
    → operation_count problem.trains ≤ count → AreHeldBelow problem count each → AreHoldersOf problem each
all_held problem count each le are = record {
  sound = are.sound;
  there = λ o l has lists. are.there o l has (let lt = below_count problem o has.train has.op in omega (arith, lt, le)) lists;
}

-- ---- what an operation lists

-- has a name
pub listings_within : (problem : Problem) (o : Op) → o.train < length problem.trains
    → All (λ (l : Listing). l.resource < length problem.names) (listings_of problem o)
listings_within problem o train = by_found (slice_get (train_at problem o.train) o.op) refl
  where
    by_found : (found : Option Operation) → slice_get (train_at problem o.train) o.op ≡ found
        → All (λ (l : Listing). l.resource < length problem.names) (option_map_or (λ (p : Operation). p.listings) found [])
    by_found None at k d lt = absurd (omega (arith, lt))
    by_found (Some p) at k d lt =
        let within = slice_get_within (train_at problem o.train) o.op p at in
        let refers = problem.well_formed.references o.train [] train o.op p within in
        let own : get_or (train_at problem o.train) o.op p ≡ p = same_Some _ p (sym (slice_get-get_or (train_at problem o.train) o.op p within) ∙ at) in
        subst (λ (q : Operation). All (λ (l : Listing). l.resource < length problem.names) q.listings) own refers.listings k d lt

-- at a place of what it lists
pub resource_within : (problem : Problem) (o : Op) (listings : List Listing) (k : ℕ) (d : Listing)
    → listings ≡ listings_of problem o → o.train < length problem.trains → k < length listings
    → (get_or listings k d).resource < length problem.names
resource_within problem o listings k d is train lt = subst (λ (ls : List Listing). All (λ (l : Listing). l.resource < length problem.names) ls) (sym is) (listings_within problem o train) k d lt

pub listed_at : (problem : Problem) (o : Op) (listings : List Listing) (k : ℕ) (d : Listing)
    → listings ≡ listings_of problem o → k < length listings
    → Contains (listings_of problem o) (get_or listings k d)
listed_at problem o listings k d is lt = subst (λ (ls : List Listing). Contains ls (get_or listings k d)) is (k, lt, get_or_default listings k (get_or listings k d) d lt)

-- the holders of a resource have numbers of operations
pub numbers_within : (problem : Problem) (each : List (Vec Holder)) (r count : ℕ) (list : Vec Holder)
    → AreSound problem each → slice_get each r ≡ Some list → count ≡ operation_count problem.trains
    → All (λ (x : Holder). x.number < count) list.items
numbers_within problem each r count list sound at is k d lt =
    let of = sound.holds r list (get_or list.items k d) at (k, lt, get_or_default list.items k (get_or list.items k d) d lt) in
    omega (arith, below_count problem (get_or list.items k d).op of.there.train of.there.op, of.number, is)

-- the holders that are read are those of the resource
pub list_at : (each : List (Vec Holder)) (r : ℕ) (list : Vec Holder) → r < length each
    → list ≡ get_or each r list → slice_get each r ≡ Some list
list_at each r list lt is = slice_get_read each (length each) r list refl lt is
