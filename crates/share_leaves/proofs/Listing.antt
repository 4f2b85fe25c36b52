-- Trains with walks that show what their components cost, one after another.
use Rattle.std.proofs.Common.{◌≡◌, ℕ, ◌+◌, ◌<◌, ◌≤◌, List, [], ◌∷◌, ◌++◌, length, Some}
use Rattle.std.proofs.Common.{refl, sym, ap, subst, arith}
use Rattle.std.specs.Prelude.{All}
use Rattle.std.proofs.lemmas.List.{length-append}
use Rattle.std.proofs.lemmas.List.Elements.{All-push, All-weaker}
use Rattle.std.proofs.lemmas.List.Sums.{get_or-le-sum_by}
use Rattle.disp_model.specs.declared.train.Op.{Op}
use Rattle.disp_model.specs.declared.train.Operation.{Operation}
use Rattle.disp_model.specs.declared.tree.TrainWalks.{TrainWalks}
use Rattle.disp_model.specs.declared.limits.TheConstants.{MOST_COMPONENTS}
use Rattle.disp_model.specs.Node.{Node}
use Rattle.disp_model.specs.Valid.{train_at}
use Rattle.disp_model.specs.Routes.{HasRoute}
use Rattle.disp_model.specs.Shares.{shown_base, ShowsShare, SharesCost, HaveDistinctTrains}
use Rattle.disp_model.specs.Trees.{FitsTrain}
use Rattle.disp_laws.proofs.Shares.{share_exists, share_grows}
use Rattle.share_bound.specs.Times.{base_in}
use Rattle.share_bound.specs.Leasts.{IsFittedShare}
use Rattle.share_bound.specs.Bases.{IsShareWithin}
use Rattle.share_bound.specs.declared.known.Listing.{Listing}
use Rattle.share_bound.specs.declared.known.KnownShare.{KnownShare}
use Rattle.share_bound.specs.declared.known.KnownShares.{KnownShares}
use Rattle.share_bound.specs.declared.known.LeafPart.{LeafPart}
use Rattle.share_bound.specs.declared.known.LeafPart.TheVariants.{Listed as ListedAs}
use Rattle.share_bound.specs.declared.known.ShareOver.{ShareOver}
use Rattle.share_bound.specs.Known.{known_of, AreBasesOf, HoldsOver, IsShareCurrent}
use Rattle.share_bound.proofs.Sharing.{share_of_bases}
use Rattle.share_bound.proofs.Knowing.{current_one}
use Rattle.share_bound.proofs.Freeing.{shares_end, distinct_end}
use Rattle.share_leaves.specs.declared.trains.Listed.{Listed}
use Rattle.share_leaves.specs.Listed.{HoldsLow, ShowsBases, AreListed}
use Rattle.share_leaves.proofs.Basing.{shows_each}

-- what walks show is no less than what is found over the bases
shown_share : (node : Node) (t count : ℕ) (bases : List ℕ) (walks : List (List Op)) (found : ℕ)
    → t < length node.problem.trains → IsFittedShare node t (base_in bases) found
    → ShowsBases node t count bases walks → length bases ≡ count
    → (share : ℕ) × ShowsShare node (record { train = t; walks = walks }) share × (found ≤ share)
shown_share node t count bases walks found there over own long =
    let route : HasRoute node t = (over.share_is.there.0, over.share_is.there.1) in
    let more = share_exists node t (shown_base node t own.arrivals) there route in
    let grows = share_grows node node t (base_in bases) (shown_base node t own.arrivals) over.share
    more.0 refl (λ r allowed. allowed) (shows_each node t count bases walks own long) over.share_is
    more.1 in (
      more.0,
      record { arrivals = own.arrivals; walks = own.are; over = more.1 },
      omega (arith, over.found_is, grows),
    )

pub listed_none : (node : Node) (listed : Listed) → listed.trains ≡ [] → listed.cost ≡ 0
    → AreListed node 0 listed
listed_none node listed trains cost = record {
  sum = 0;
  shares = subst (λ (l : List TrainWalks). SharesCost node l 0) (sym trains) refl;
  reached = omega (arith, cost);
  first = subst (All (λ (x : TrainWalks). x.train < 0)) (sym trains)
      (λ k d less. absurd (omega (arith, less)));
  distinct = subst HaveDistinctTrains (sym trains) (λ i j s u less one other same. absurd cc);
  fits = subst (All FitsTrain) (sym trains) (λ k d less. absurd (omega (arith, less)));
  few = let none = ap (λ (l : List TrainWalks). length l) trains in omega (arith, none);
}

pub listed_same : (node : Node) (n : ℕ) (listed : Listed) → AreListed node n listed
    → AreListed node (n + 1) listed
listed_same node n listed before = record {
  sum = before.sum;
  shares = before.shares;
  reached = before.reached;
  first = All-weaker (λ (x : TrainWalks). x.train < n) (λ (x : TrainWalks). x.train < n + 1)
      (λ x small. omega (arith, small)) listed.trains before.first;
  distinct = before.distinct;
  fits = before.fits;
  few = omega (arith, before.few);
}

pub listed_more : (node : Node) (n count : ℕ) (listed new : Listed) (bases : List ℕ)
    (walks : List (List Op)) (found : ℕ) → n < length node.problem.trains → count ≤ MOST_COMPONENTS
    → IsFittedShare node n (base_in bases) found → ShowsBases node n count bases walks
    → length bases ≡ count → new.trains ≡ listed.trains ++ record { train = n; walks = walks } ∷ []
    → new.cost ≤ listed.cost + found → AreListed node n listed → AreListed node (n + 1) new
listed_more node n count listed new bases walks found there few over own long trains cost before
    = record {
      sum = before.sum + is.0;
      shares = rw trains (shares_end node listed.trains one before.sum is.0 before.shares is.1);
      reached = omega (arith, cost, before.reached, is.2);
      first = rw trains (All-push (λ (x : TrainWalks). x.train < n + 1) listed.trains one
          (All-weaker (λ (x : TrainWalks). x.train < n) (λ (x : TrainWalks). x.train < n + 1)
          (λ x small. omega (arith, small)) listed.trains before.first) (omega arith));
      distinct = rw trains (distinct_end listed.trains one n before.distinct before.first refl);
      fits = rw trains (All-push FitsTrain listed.trains one before.fits (
        omega (arith, there, node.problem.well_formed.trains_fit),
        omega (arith, own.few, few),
        own.fits,
      ));
      few = let all = ap (λ (l : List TrainWalks). length l) trains in
          omega (arith, all, length-append listed.trains (one ∷ []), before.few);
    }
  where
    one : TrainWalks
    one = record { train = n; walks = walks }

    is : (share : ℕ) × ShowsShare node one share × (found ≤ share)
    is = shown_share node n count bases walks found there over own long

-- ---- what is known

-- a share that is known is the one at the node
pub known_within : (node : Node) (t : ℕ) (one : ShareOver) → AreBasesOf node t one.bases.items
    → HoldsOver node t one → IsShareWithin node t one.share
known_within node t one bases holds = share_of_bases node t (length (train_at node.problem t))
    one.bases.items one.bases.items one.share bases refl refl holds.share

pub read_within : (node : Node) (t : ℕ) (known : KnownShares) (one : KnownShare)
    → IsShareCurrent node t known → known_of known.each.items t ≡ Some one
    → IsShareWithin node t one.last.share
read_within node t known one is there =
    let current = current_one node t known one is there in
    known_within node t one.last current.bases current.holds.last

-- what a listing keeps of the bases
pub low_listing : (node : Node) (t : ℕ) (one : ShareOver) (part : LeafPart) (listing : Listing)
    → AreBasesOf node t one.bases.items → HoldsOver node t one → one.showing ≡ Some part
    → part ≡ ListedAs listing → HoldsLow node t listing
low_listing node t one part listing are holds known listed =
    let before = holds.shows part known listing listed in
    record {
      low = record {
        lengths = one.bases.items;
        are = are;
        kept = record { long = before.long; within = before.within };
      };
      share = before.share;
    }

-- no train has more operations than there may be
pub few_operations : (node : Node) (t : ℕ) → t < length node.problem.trains
    → length (train_at node.problem t) ≤ MOST_COMPONENTS
few_operations node t there = omega (
  arith,
  get_or-le-sum_by (λ (train : List Operation). length train) node.problem.trains t [] there,
  node.problem.well_formed.operations_fit,
)
