-- Shares of listed trains, one after another, and the leaf that they show.
use Rattle.std.proofs.Common.{◌≡◌, ℕ, ◌+◌, ◌<◌, ◌≤◌, List, [], ◌∷◌, ◌++◌, length, Some, refl, sym, ap, subst, ◌∙◌, inl, inr, arith}
use Rattle.std.specs.Prelude.{slice_get, All}
use Rattle.std.proofs.lemmas.Option.{slice_get_within, get_or_from_slice_get}
use Rattle.std.proofs.lemmas.List.{length-append}
use Rattle.std.proofs.lemmas.List.Elements.{All-push, All-weaker}
use Rattle.disp_model.specs.declared.train.Op.{Op}
use Rattle.disp_model.specs.declared.tree.ComponentWalk.{ComponentWalk}
use Rattle.disp_model.specs.declared.tree.TrainWalks.{TrainWalks}
use Rattle.disp_model.specs.declared.tree.Leaf.TheVariants.{Costs, Shares}
use Rattle.disp_model.specs.declared.tree.Verdict.TheVariants.{Optimal}
use Rattle.disp_model.specs.declared.settings.Rule.TheVariants.{Free}
use Rattle.disp_model.specs.declared.limits.TheConstants.{MOST_COMPONENTS}
use Rattle.disp_model.specs.Valid.{train_at}
use Rattle.disp_model.specs.Node.{Node}
use Rattle.disp_model.specs.Nodes.{IsForcedBound}
use Rattle.disp_model.specs.Shares.{ShowsShare, SharesCost, SharesAddUp, HaveDistinctTrains, IsBound}
use Rattle.disp_model.specs.Trees.{LeafHolds, FitsTrain, FitsLeaf}
use Rattle.disp_laws.proofs.LongestWalks.{add_up_same}
use Rattle.train_orders.proofs.Places.{get_push_cases}
use Rattle.share_bound.specs.declared.free.FreeBound.{FreeBound}
use Rattle.share_bound.specs.Bases.{IsShareWithin, AddUpTo}
use Rattle.share_bound.specs.Shown.{ShowsTo, IsShownShare}
use Rattle.share_bound.specs.Free.{IsFreeBound, AreListedTo}
use Rattle.share_bound.proofs.Sharing.{one_more}
use Rattle.share_bound.proofs.Showing.{shown_is}

pub shares_end : (node : Node) (trains : List TrainWalks) (listed : TrainWalks) (sum share : ℕ)
    → SharesCost node trains sum → ShowsShare node listed share
    → SharesCost node (trains ++ listed ∷ []) (sum + share)
shares_end node [] listed sum share is shows = (share, 0, shows, refl, omega (arith, is))
shares_end node (x ∷ trains) listed sum share is shows = (
  is.0,
  is.1 + share,
  is.2,
  shares_end node trains listed is.1 share is.3 shows,
  omega (arith, is.4),
)

pub first_at : (trains : List TrainWalks) (n i : ℕ) (listed : TrainWalks)
    → All (λ x. x.train < n) trains → slice_get trains i ≡ Some listed → listed.train < n
first_at trains n i listed first at = subst (λ (x : TrainWalks). x.train < n)
    (get_or_from_slice_get trains i listed listed at)
    (first i listed (slice_get_within trains i listed at))

pub distinct_end : (trains : List TrainWalks) (listed : TrainWalks) (n : ℕ) → HaveDistinctTrains trains
    → All (λ x. x.train < n) trains → listed.train ≡ n → HaveDistinctTrains (trains ++ listed ∷ [])
distinct_end trains listed n distinct first is i j s u less one other same = elim
    (get_push_cases trains listed u j other) [
      | inl there ↦ elim (get_push_cases trains listed s i one) [
        | inl here ↦ distinct i j s u less here there same
        | inr last ↦ absurd (omega (arith, less, last.0, slice_get_within trains j u there))
      ]
      | inr last ↦ elim (get_push_cases trains listed s i one) [
        | inl here ↦ let own = ap (λ (x : TrainWalks). x.train) last.1 in
            omega (arith, first_at trains n i s first here, own, is, same)
        | inr again ↦ absurd (omega (arith, less, again.0, last.0))
      ]
    ]

-- ---- one train more

pub listed_none : (node : Node) (bound : FreeBound) → bound.cost ≡ 0 → bound.walks ≡ []
    → bound.trains ≡ [] → AddUpTo node 0 0 → AreListedTo node 0 bound
listed_none node bound cost walks trains sum = record {
  sum = subst (AddUpTo node 0) (sym cost) sum;
  none = walks;
  shares = subst (λ (l : List TrainWalks). SharesCost node l bound.cost) (sym trains) cost;
  first = subst (All (λ (x : TrainWalks). x.train < 0)) (sym trains)
      (λ k d less. absurd (omega (arith, less)));
  distinct = subst HaveDistinctTrains (sym trains)
      (λ i j s u less one other same. absurd (omega (arith, less, slice_get_within [] j u other)));
  fits = subst (All FitsTrain) (sym trains) (λ k d less. absurd (omega (arith, less)));
  few = let long = ap (λ (l : List TrainWalks). length l) trains in omega (arith, long);
}

pub listed_same : (node : Node) (n share : ℕ) (bound : FreeBound) → share ≡ 0
    → IsShareWithin node n share → AreListedTo node n bound → AreListedTo node (n + 1) bound
listed_same node n share bound nothing is before = record {
  sum = let more = one_more node n bound.cost share before.sum is in
      let same : bound.cost + share ≡ bound.cost = omega (arith, nothing) in
      subst (AddUpTo node (n + 1)) same more;
  none = before.none;
  shares = before.shares;
  first = All-weaker (λ (x : TrainWalks). x.train < n) (λ (x : TrainWalks). x.train < n + 1)
      (λ x small. omega (arith, small)) bound.trains before.first;
  distinct = before.distinct;
  fits = before.fits;
  few = omega (arith, before.few);
}

pub listed_more : (node : Node) (n share count : ℕ) (bound new : FreeBound) (walks : List (List Op))
    → n < length node.problem.trains → count ≡ length (train_at node.problem n)
    → count ≤ MOST_COMPONENTS → IsShareWithin node n share → ShowsTo node n count walks
    → new.trains ≡ bound.trains ++ record { train = n; walks = walks } ∷ []
    → new.cost ≡ bound.cost + share → new.walks ≡ bound.walks → AreListedTo node n bound
    → AreListedTo node (n + 1) new
listed_more node n share count bound new walks there long few is shows trains cost same_walks before
    = record {
      sum = subst (AddUpTo node (n + 1)) (sym cost)
          (one_more node n bound.cost share before.sum is);
      none = same_walks ∙ before.none;
      shares = subst (λ (l : List TrainWalks). SharesCost node l new.cost) (sym trains)
          (subst (SharesCost node (bound.trains ++ listed ∷ [])) (sym cost)
          (shares_end node bound.trains listed bound.cost share before.shares shown.shows));
      first = subst (All (λ (x : TrainWalks). x.train < n + 1)) (sym trains)
          (All-push (λ (x : TrainWalks). x.train < n + 1) bound.trains listed
          (All-weaker (λ (x : TrainWalks). x.train < n) (λ (x : TrainWalks). x.train < n + 1)
          (λ x small. omega (arith, small)) bound.trains before.first) (omega arith));
      distinct = subst HaveDistinctTrains (sym trains)
          (distinct_end bound.trains listed n before.distinct before.first refl);
      fits = subst (All FitsTrain) (sym trains)
          (All-push FitsTrain bound.trains listed before.fits shown.fits);
      few = let whole = ap (λ (l : List TrainWalks). length l) trains in
          omega (arith, whole, length-append bound.trains (listed ∷ []), before.few);
    }
  where
    listed : TrainWalks
    listed = record { train = n; walks = walks }

    shown : IsShownShare node n (record { share = share; listed = listed })
    shown = shown_is node n share count walks there long few is.share shows

-- ---- the leaf

no_trains : (node : Node) (least : ℕ) (walks : List ComponentWalk)
    → LeafHolds node (Optimal least) (Costs walks)
    → LeafHolds node (Optimal least) (Shares walks [])
no_trains node least walks (inl none) = inl none
no_trains node least walks (inr enough) = inr (record {
  distinct = enough.distinct;
  distinct_trains = λ i j s u less one other same. absurd
      (omega (arith, less, slice_get_within [] j u other));
  others = λ i j w listed c one other at same. absurd
      (omega (arith, slice_get_within [] j listed other));
  sum = enough.sum;
  sum_is = enough.sum_is;
  shares = 0;
  shares_is = refl;
  enough = omega (arith, enough.enough);
})

-- forced components alone cost as much
pub free_by_costs : (node : Node) (total first again : ℕ) (walks : List ComponentWalk)
    (bound : FreeBound) → IsBound node Free total → total ≤ first → IsForcedBound node first
    → IsForcedBound node again
    → ((least : ℕ) → least ≤ again → LeafHolds node (Optimal least) (Costs walks))
    → FitsLeaf (Costs walks) → bound.cost ≡ total → bound.walks ≡ walks → bound.trains ≡ []
    → IsFreeBound node bound
free_by_costs node total first again walks bound is within one other holds fits cost same none =
    record {
      cost = subst (IsBound node Free) (sym cost) is;
      leaf = λ least le. subst
          (λ (l : List TrainWalks). LeafHolds node (Optimal least) (Shares bound.walks l))
          (sym none)
          (no_trains node least bound.walks (alone least le));
      alone = λ nothing least le. alone least le;
      fits = subst (λ (l : List TrainWalks). FitsLeaf (Shares bound.walks l)) (sym none)
          (let own = subst (λ (l : List ComponentWalk). FitsLeaf (Costs l)) (sym same) fits in
          (own.0, own.1, omega arith, λ k d less. absurd (omega (arith, less))));
    }
  where
    alone : (least : ℕ) → least ≤ bound.cost → LeafHolds node (Optimal least) (Costs bound.walks)
    alone least le =
        let equal = add_up_same node node.problem.components first again one other in
        subst (λ (l : List ComponentWalk). LeafHolds node (Optimal least) (Costs l)) (sym same)
        (holds least (omega (arith, le, cost, within, equal)))

-- the listed trains
pub free_by_shares : (node : Node) (count : ℕ) (bound : FreeBound)
    → count ≡ length node.problem.trains → AreListedTo node count bound → IsFreeBound node bound
free_by_shares node count bound is listed = record {
  cost = subst (λ (n : ℕ). SharesAddUp node n bound.cost) is listed.sum.adds;
  leaf = λ least le. subst
      (λ (l : List ComponentWalk). LeafHolds node (Optimal least) (Shares l bound.trains))
      (sym listed.none) (inr (record {
        distinct = λ i j v w less one other same. absurd
            (omega (arith, less, slice_get_within [] j w other));
        distinct_trains = listed.distinct;
        others = λ i j w x c one other at same. absurd (omega (arith, slice_get_within [] i w one));
        sum = 0;
        sum_is = refl;
        shares = bound.cost;
        shares_is = listed.shares;
        enough = omega (arith, le);
      }));
  alone = λ nothing least le.
      let free : bound.cost ≡ 0 = subst (λ (l : List TrainWalks). SharesCost node l bound.cost)
      nothing listed.shares in
      subst (λ (l : List ComponentWalk). LeafHolds node (Optimal least) (Costs l)) (sym listed.none)
      (inr (record {
        distinct = λ i j v w less one other same. absurd
            (omega (arith, less, slice_get_within [] j w other));
        sum = 0;
        sum_is = refl;
        enough = omega (arith, le, free);
      }));
  fits = subst (λ (l : List ComponentWalk). FitsLeaf (Shares l bound.trains)) (sym listed.none) (
    omega arith,
    λ k d less. absurd (omega (arith, less)),
    omega (arith, listed.few, is, node.problem.well_formed.trains_fit),
    listed.fits,
  );
}
