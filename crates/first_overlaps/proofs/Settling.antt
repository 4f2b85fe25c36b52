-- Two whose holds are apart on each resource, or whose order is decided, are no open order.
use Rattle.std.proofs.Common.{◌≡◌, ◌≢◌, ℕ, suc, ◌+◌, ◌<◌, ◌≤◌, List, [], ◌∷◌, refl, sym, subst, arith, inl, inr}
use Rattle.std.specs.Prelude.{Contains, ◌⊎◌, ◌==◌}
use Rattle.std.specs.List.{list_any}
use Rattle.std.proofs.lemmas.Bool.{eqb-true}
use Rattle.std.proofs.lemmas.List.Folds.{Any-from_list_any}
use Rattle.disp_model.specs.declared.train.Op.{Op}
use Rattle.disp_model.specs.declared.train.Listing.{Listing}
use Rattle.disp_model.specs.WellFormed.{greatest_release}
use Rattle.disp_model.specs.Node.{Node}
use Rattle.disp_model.specs.Arcs.{listings_of, shared_listings}
use Rattle.disp_model.specs.Walks.{HasCycle}
use Rattle.disp_model.specs.Choices.{Clears, IsOpenOrder}
use Rattle.incremental_paths.proofs.Pairs.{from_filter}
use Rattle.first_overlaps.specs.Spans.{IsSpanOf}
use Rattle.first_overlaps.proofs.Spanning.{ends_behind}

-- a listing of one that the other has too, of a resource
pub record AreShared (own others : List Listing) (l k : Listing) : Type 0 where
  pub of_own : Contains own l
  pub of_others : Contains others k
  pub same : k.resource ≡ l.resource

shared_with : (own others : List Listing) (l : Listing) → Contains (shared_listings own others) l
    → (k : Listing) × AreShared own others l k
shared_with own others l there =
    let kept = from_filter (λ (m : Listing). list_any (λ (n : Listing). n.resource == m.resource) others) own l there in
    let some = Any-from_list_any (λ (n : Listing). n.resource == l.resource) others kept.1 in
    (some.1, record { of_own = kept.0; of_others = (some.0, some.2, some.3); same = eqb-true some.1.resource l.resource some.4 })

-- there is one where two conflict
pub some_shared : (own others : List Listing) → shared_listings own others ≢ []
    → (l : Listing) × (k : Listing) × AreShared own others l k
some_shared own others some = by (shared_listings own others) refl
  where
    by : (ls : List Listing) → shared_listings own others ≡ ls
        → (l : Listing) × (k : Listing) × AreShared own others l k
    by [] is = absurd (some is)
    by (l ∷ ls) is = let other = shared_with own others l (subst (λ (xs : List Listing). Contains xs l) (sym is) (0, omega arith, refl)) in (l, other.0, other.1)

greatest_within : (ls : List Listing) (end time : ℕ) → end ≤ time
    → ((l : Listing) → Contains ls l → end + l.release ≤ time) → end + greatest_release ls ≤ time
greatest_within [] end time le each = omega (arith, le)
greatest_within (l ∷ ls) end time le each =
    let here = each l (0, omega arith, refl) in
    let rest = greatest_within ls end time le (λ k there. each k (suc there.0, omega (arith, there.1), there.2)) in
    omega (arith, here, rest)

-- one is over, with its release time, when the other starts, or the other way
pub record AreApartOn (start end begin over : ℕ) (l k : Listing) : Type 0 where
  pub apart : ((end < begin) × (end + l.release ≤ begin)) ⊎ ((over < start) × (over + k.release ≤ start))

pub not_open : (node : Node) (a b : Op) (start end begin over : ℕ) → (HasCycle node → ⊥)
    → IsSpanOf node a start end → IsSpanOf node b begin over
    → ((l k : Listing) → AreShared (listings_of node.problem a) (listings_of node.problem b) l k → AreApartOn start end begin over l k)
    → IsOpenOrder node a b → ⊥
not_open node a b start end begin over no_cycle one other each opened =
    let some = some_shared (listings_of node.problem a) (listings_of node.problem b) opened.conflicts.shared in
    elim (each some.0 some.1 some.2).apart [ inl before ↦ opened.not_clear (there before.0) | inr before ↦ opened.not_clear_back (back before.0) ]
  where
    first : start ≤ end
    first = ends_behind node a start end no_cycle one

    second : begin ≤ over
    second = ends_behind node b begin over no_cycle other

    there : end < begin → Clears node a b
    there lt = record {
      end = end;
      end_is = one.end_is;
      start = begin;
      start_is = other.start_is;
      in_time = greatest_within (shared_listings (listings_of node.problem a) (listings_of node.problem b)) end begin (omega (arith, lt))
          (λ l in_them. let with = shared_with (listings_of node.problem a) (listings_of node.problem b) l in_them in
          elim (each l with.0 with.1).apart [ inl before ↦ before.1 | inr before ↦ absurd (omega (arith, before.0, first, second, lt)) ]);
      below = lt;
    }

    back : over < start → Clears node b a
    back lt = record {
      end = over;
      end_is = other.end_is;
      start = start;
      start_is = one.start_is;
      in_time = greatest_within (shared_listings (listings_of node.problem b) (listings_of node.problem a)) over start (omega (arith, lt))
          (λ k in_them. let with = shared_with (listings_of node.problem b) (listings_of node.problem a) k in_them in
          elim (each with.0 k (record { of_own = with.1.of_others; of_others = with.1.of_own; same = sym with.1.same })).apart [ inl before ↦ absurd (omega (arith, before.0, first, second, lt)) | inr before ↦ before.1 ]);
      below = lt;
    }
