-- What is known of trains holds with a decision more that is not about them, and without it.
use Rattle.std.proofs.Common.{◌≡◌, ◌≢◌, ◌∙◌, ◌<◌, ◌++◌, ℕ, zero, suc, List, [], ◌∷◌, length}
use Rattle.std.proofs.Common.{Option, Some, None, refl, sym, ap, subst, inl, inr}
use Rattle.std.specs.Prelude.{⊤, All, OnOk, Result, Ok, Err, IfSome}
use Rattle.std.specs.Prelude.{slice_get, slice_set, slice_index_or}
use Rattle.std.proofs.lemmas.Option.{none-some, same_Some, slice_get_within, get_or_from_slice_get}
use Rattle.std.proofs.lemmas.List.Elements.{All-weaker, All-get_or, All-set}
use Rattle.std.proofs.lemmas.List.{get_or-set_same, get_or-set_other, get_or_default, length-set}
use Rattle.disp_model.specs.declared.decision.Decision.{Decision}
use Rattle.disp_model.specs.Node.{Node, with_decision}
use Rattle.disp_model.specs.Shares.{IsReach, IsShareOver}
use Rattle.train_orders.proofs.Places.{same_number}
use Rattle.event_arcs.specs.Owned.{train_of_decision}
use Rattle.event_arcs.proofs.Extending.{allowed_before, allowed_still}
use Rattle.share_bound.specs.declared.known.ShareOver.{ShareOver}
use Rattle.share_bound.specs.declared.known.KnownShare.{KnownShare}
use Rattle.share_bound.specs.declared.known.KnownShares.{KnownShares}
use Rattle.share_bound.specs.Times.{base_in}
use Rattle.share_bound.specs.Leasts.{IsFittedShare}
use Rattle.share_bound.specs.Known.{known_of, HoldsOver, HoldsFor, HoldFor, IsAboutNone, AreBasesOf}
use Rattle.share_bound.specs.Known.{IsCurrentOver, IsCurrentShare, IsShareCurrent, IsPlaceOfShare}

-- ---- one train, whose routes the decision is not about

module _ (node : Node) (decision : Decision) (t : ℕ) (other : train_of_decision decision ≢ Some t)
  where
    reach_below : (base : ℕ → ℕ) (o total : ℕ) → IsReach node t base o total
        → IsReach (with_decision node decision) t base o total
    reach_below base o total is = record {
      there = (
        is.there.0,
        allowed_still node decision t is.there.0 other is.there.1,
        is.there.2,
      );
      least = λ route found allowed.
          is.least route found (allowed_before node decision t route allowed);
    }

    reach_above : (base : ℕ → ℕ) (o total : ℕ)
        → IsReach (with_decision node decision) t base o total → IsReach node t base o total
    reach_above base o total is = record {
      there = (
        is.there.0,
        allowed_before node decision t is.there.0 is.there.1,
        is.there.2,
      );
      least = λ route found allowed.
          is.least route found (allowed_still node decision t route other allowed);
    }

    share_below : (base : ℕ → ℕ) (share : ℕ) → IsShareOver node t base share
        → IsShareOver (with_decision node decision) t base share
    share_below base share is = record {
      reach = is.reach;
      reach_is = λ route o allowed has. reach_below base o (is.reach o)
          (is.reach_is route o (allowed_before node decision t route allowed) has);
      there = (
        is.there.0,
        allowed_still node decision t is.there.0 other is.there.1,
        is.there.2,
      );
      least = λ route allowed. is.least route (allowed_before node decision t route allowed);
    }

    share_above : (base : ℕ → ℕ) (share : ℕ)
        → IsShareOver (with_decision node decision) t base share → IsShareOver node t base share
    share_above base share is = record {
      reach = is.reach;
      reach_is = λ route o allowed has. reach_above base o (is.reach o)
          (is.reach_is route o (allowed_still node decision t route other allowed) has);
      there = (
        is.there.0,
        allowed_before node decision t is.there.0 is.there.1,
        is.there.2,
      );
      least = λ route allowed. is.least route (allowed_still node decision t route other allowed);
    }

    fitted_below : (base : ℕ → ℕ) (found : ℕ) → IsFittedShare node t base found
        → IsFittedShare (with_decision node decision) t base found
    fitted_below base found is = record {
      share = is.share;
      share_is = share_below base is.share is.share_is;
      found_is = is.found_is;
    }

    fitted_above : (base : ℕ → ℕ) (found : ℕ)
        → IsFittedShare (with_decision node decision) t base found → IsFittedShare node t base found
    fitted_above base found is = record {
      share = is.share;
      share_is = share_above base is.share is.share_is;
      found_is = is.found_is;
    }

    over_below : (one : ShareOver) → HoldsOver node t one
        → HoldsOver (with_decision node decision) t one
    over_below one holds = record {
      share = fitted_below (base_in one.bases.items) one.share holds.share;
      shows = λ showing is listing listed.
          let before = holds.shows showing is listing listed in
          record {
            share = fitted_below (base_in listing.bases.items) listing.share before.share;
            long = before.long;
            within = before.within;
          };
    }

    over_above : (one : ShareOver) → HoldsOver (with_decision node decision) t one
        → HoldsOver node t one
    over_above one holds = record {
      share = fitted_above (base_in one.bases.items) one.share holds.share;
      shows = λ showing is listing listed.
          let before = holds.shows showing is listing listed in
          record {
            share = fitted_above (base_in listing.bases.items) listing.share before.share;
            long = before.long;
            within = before.within;
          };
    }

    holds_below : (known : KnownShare) → HoldsFor node t known
        → HoldsFor (with_decision node decision) t known
    holds_below known holds = record {
      last = over_below known.last holds.last;
      earlier = All-weaker (HoldsOver node t) (HoldsOver (with_decision node decision) t) over_below
          known.earlier.items holds.earlier;
    }

    holds_above : (known : KnownShare) → HoldsFor (with_decision node decision) t known
        → HoldsFor node t known
    holds_above known holds = record {
      last = over_above known.last holds.last;
      earlier = All-weaker (HoldsOver (with_decision node decision) t) (HoldsOver node t) over_above
          known.earlier.items holds.earlier;
    }

-- ---- all of which something is known

-- one of them is put in place of another
pub put_holds : (node : Node) (old new : KnownShares) (u : ℕ) (put : Option KnownShare)
    → u < length old.each.items → new.each.items ≡ slice_set old.each.items u put
    → length new.each.items ≡ length old.each.items → HoldFor node old
    → ((one : KnownShare) → put ≡ Some one → HoldsFor node u one) → HoldFor node new
put_holds node old new u put there is long hold one_holds = record {
  long = long ∙ hold.long;
  each = λ t one known. elim (same_number t u) [
    | inl same ↦
        let here : known_of (slice_set old.each.items u put) u ≡ put = get_or-set_same
        old.each.items u put None there in
        let found : known_of new.each.items u ≡ Some one = subst
        (λ (n : ℕ). known_of new.each.items n ≡ Some one) same known in
        subst (λ (n : ℕ). HoldsFor node n one) (sym same)
        (one_holds one (sym here ∙ subst (λ l. known_of l u ≡ Some one) is found))
    | inr apart ↦ hold.each t one
        (sym (get_or-set_other old.each.items u t put None apart)
        ∙ subst (λ l. known_of l t ≡ Some one) is known)
  ];
}

-- with the decision, where it is about none of them
pub none_below : (node : Node) (decision : Decision) (known : KnownShares)
    → IsAboutNone decision known → HoldFor node known → HoldFor (with_decision node decision) known
none_below node decision known none hold = record {
  long = hold.long;
  each = λ t one is. holds_below node decision t (none t one is) one (hold.each t one is);
}

-- and without it
pub none_above : (node : Node) (decision : Decision) (known : KnownShares)
    → IsAboutNone decision known → HoldFor (with_decision node decision) known → HoldFor node known
none_above node decision known none hold = record {
  long = hold.long;
  each = λ t one is. holds_above node decision t (none t one is) one (hold.each t one is);
}

-- with nothing known of its train, it is about none of them
pub about_none : (decision : Decision) (old new : KnownShares) (u : ℕ) → u < length old.each.items
    → train_of_decision decision ≡ Some u → new.each.items ≡ slice_set old.each.items u None
    → IsAboutNone decision new
about_none decision old new u there about is t one known = λ same.
    let u_is : u ≡ t = same_Some u t (sym about ∙ same) in
    none-some one (sym (get_or-set_same old.each.items u None None there)
    ∙ subst (λ (n : ℕ). known_of (slice_set old.each.items u None) n ≡ Some one) (sym u_is)
    (subst (λ l. known_of l t ≡ Some one) is known))

-- with the decision taken back, and what was known of its train put back
pub back_holds : (node : Node) (decision : Decision) (old new : KnownShares) (u : ℕ)
    (put : Option KnownShare) → u < length old.each.items → train_of_decision decision ≡ Some u
    → new.each.items ≡ slice_set old.each.items u put
    → length new.each.items ≡ length old.each.items → HoldFor (with_decision node decision) old
    → ((one : KnownShare) → put ≡ Some one → HoldsFor node u one) → HoldFor node new
back_holds node decision old new u put there about is long hold one_holds = record {
  long = long ∙ hold.long;
  each = λ t one known. elim (same_number t u) [
    | inl same ↦
        let here : known_of (slice_set old.each.items u put) u ≡ put = get_or-set_same
        old.each.items u put None there in
        let found : known_of new.each.items u ≡ Some one = subst
        (λ (n : ℕ). known_of new.each.items n ≡ Some one) same known in
        subst (λ (n : ℕ). HoldsFor node n one) (sym same)
        (one_holds one (sym here ∙ subst (λ l. known_of l u ≡ Some one) is found))
    | inr apart ↦ holds_above node decision t
        (λ is_t. apart (sym (same_Some u t (sym about ∙ is_t)))) one (hold.each t one
        (sym (get_or-set_other old.each.items u t put None apart)
        ∙ subst (λ l. known_of l t ≡ Some one) is known))
  ];
}

-- what is known is what is read
pub current_one : (node : Node) (t : ℕ) (known : KnownShares) (one : KnownShare)
    → IsShareCurrent node t known → known_of known.each.items t ≡ Some one
    → IsCurrentShare node t one
current_one node t known one is there = subst (IsCurrentShare node t)
    (same_Some is.one one (sym is.known_is ∙ there)) is.current

-- with nothing known of any train
pub none_known : (node : Node) (known : KnownShares)
    → length known.each.items ≡ length node.problem.trains
    → ((t : ℕ) → known_of known.each.items t ≡ None) → HoldFor node known
none_known node known long none = record {
  long = long;
  each = λ t one is. absurd (none-some one (sym (none t) ∙ is));
}

none_in : (each : List (Option KnownShare)) (t : ℕ) → ((u : ℕ) → known_of each u ≡ None)
    → known_of (each ++ None ∷ []) t ≡ None
none_in [] zero none = refl
none_in [] (suc t) none = refl
none_in (x ∷ each) zero none = none 0
none_in (x ∷ each) (suc t) none = none_in each t (λ u. none (suc u))

pub none_more : (each new : List (Option KnownShare)) → ((u : ℕ) → known_of each u ≡ None)
    → new ≡ each ++ None ∷ [] → (t : ℕ) → known_of new t ≡ None
none_more each new none is t = ap (λ (l : List (Option KnownShare)). known_of l t) is
    ∙ none_in each t none

pub some_holds : (node : Node) (t : ℕ) (put : Option KnownShare) → IfSome put (HoldsFor node t)
    → (one : KnownShare) → put ≡ Some one → HoldsFor node t one
some_holds node t put holds one is = subst (λ (p : Option KnownShare). IfSome p (HoldsFor node t))
    is holds

pub same_length : (old new : List (Option KnownShare)) (u : ℕ) (put : Option KnownShare)
    → new ≡ slice_set old u put → length new ≡ length old
same_length old new u put is = ap (λ (l : List (Option KnownShare)). length l) is
    ∙ length-set old u put

-- what is read at an index
pub read_known : (each : List (Option KnownShare)) (t : ℕ) (read : Option KnownShare)
    (one : KnownShare) → t < length each → read ≡ slice_index_or each t read → read ≡ Some one
    → known_of each t ≡ Some one
read_known each t read one there is some = get_or_default each t None read there ∙ sym is ∙ some

-- nothing is put in place of what was known of one
pub none_holds : (node : Node) (old new : KnownShares) (u : ℕ) → u < length old.each.items
    → new.each.items ≡ slice_set old.each.items u None → HoldFor node old → HoldFor node new
none_holds node old new u there is hold = put_holds node old new u None there is
    (same_length old.each.items new.each.items u None is) hold
    (λ one some. absurd (none-some one some))

-- an earlier share and the last one in each other's place
pub recalled : (node : Node) (t : ℕ) (old new : KnownShare) (read : List ShareOver) (place : ℕ)
    → read ≡ old.earlier.items → IsPlaceOfShare node t read place → HoldsFor node t old
    → slice_get old.earlier.items place ≡ Some new.last
    → new.earlier.items ≡ slice_set old.earlier.items place old.last → IsCurrentShare node t new
recalled node t old new read place same found holds last earlier = record {
  bases = subst (λ (one : ShareOver). AreBasesOf node t one.bases.items)
      (same_Some found.one new.last (sym found.one_is
      ∙ ap (λ (l : List ShareOver). slice_get l place) same ∙ last)) found.bases;
  holds = record {
    last = subst (HoldsOver node t)
        (get_or_from_slice_get old.earlier.items place new.last new.last last)
        (All-get_or (HoldsOver node t) old.earlier.items place new.last
        (slice_get_within old.earlier.items place new.last last) holds.earlier);
    earlier = subst (All (HoldsOver node t)) (sym earlier)
        (All-set (HoldsOver node t) old.earlier.items place old.last holds.last holds.earlier);
  };
}

-- a share that is new, behind which the last one is an earlier one
pub added : {E : Type 0} (node : Node) (t : ℕ) (share : ShareOver) (new : KnownShare)
    (result : Result ⊤ E)
    → IsCurrentOver node t share → new.last ≡ share
    → OnOk result (All (HoldsOver node t) new.earlier.items)
    → OnOk result (IsCurrentShare node t new)
added node t share new (Ok done) current last earlier = record {
  bases = subst (λ (one : ShareOver). AreBasesOf node t one.bases.items) (sym last) current.bases;
  holds = record {
    last = subst (HoldsOver node t) (sym last) current.holds;
    earlier = earlier;
  };
}
added node t share new (Err failed) current last earlier = earlier
