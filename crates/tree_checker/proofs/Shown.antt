-- What a listed train shows, by the bases that its walks raise.
use Rattle.std.proofs.Common.{◌≡◌, ℕ, ◌^◌, ◌<◌, ◌≤◌, List, length, get_or, Option, Some, None, refl, sym, ap, subst, ◌∙◌, arith}
use Rattle.std.proofs.lemmas.Option.{slice_get-get_or}
use Rattle.disp_model.specs.declared.train.Op.{Op}
use Rattle.disp_model.specs.declared.train.Operation.{Operation}
use Rattle.disp_model.specs.declared.decision.Decision.{Decision}
use Rattle.disp_model.specs.declared.fixing.Fixing.{Fixing}
use Rattle.disp_model.specs.declared.problem.Problem.{Problem}
use Rattle.disp_model.specs.declared.tree.TrainWalks.{TrainWalks}
use Rattle.disp_model.specs.Valid.{train_at}
use Rattle.disp_model.specs.Node.{Node, node_at}
use Rattle.disp_model.specs.Shares.{Arrival, AreWalksOn, IsShareOver, shown_base}
use Rattle.disp_laws.proofs.Shares.{train_there}
use Rattle.node_facts.specs.declared.train.TrainKnowledge.{TrainKnowledge}
use Rattle.node_facts.specs.Known.{IsKnown}
use Rattle.node_facts.specs.Orders.{AreKnown}
use Rattle.route_marks.specs.Marks.{sum_at}
use Rattle.problem_facts.specs.Prices.{own_price}
use Rattle.tree_checker.specs.TrainCosts.{AreEntered, base_by, reach_by, AreCosts, AreLowers, AreRaised, IsLeastCost, IsShown}
use Rattle.tree_checker.proofs.Enough.{arrivals_once}
use Rattle.tree_checker.proofs.LeastCosts.{least_cost_is, share_moves}
use Rattle.node_facts.proofs.Assembling.{order_fits}
use Rattle.node_facts.proofs.Knowing.{asked as known_asks}

-- a train that is not there shows no share
pub nowhere_shown : (node : Node) (shown : TrainWalks) → length node.problem.trains ≤ shown.train → IsShown node shown None
nowhere_shown node shown past share shows = let route = shows.over.there in let there = train_there node shown.train route.0 route.1 in omega (arith, past, there)

-- one of whose walks is none
pub no_walks_shown : (node : Node) (shown : TrainWalks) (walks : List (List Op)) → walks ≡ shown.walks → ((arrivals : List Arrival) → AreWalksOn node shown.train walks arrivals → ⊥) → IsShown node shown None
no_walks_shown node shown walks same none share shows = none shows.arrivals (subst (λ (l : List (List Op)). AreWalksOn node shown.train l shows.arrivals) (sym same) shows.walks)

-- what is found over the raised bases is the share that is shown
pub share_shown : (node : Node) (shown : TrainWalks) (walks : List (List Op)) (count : ℕ) (lowers bases read : List ℕ) (found : Option ℕ) → walks ≡ shown.walks → count ≡ length (train_at node.problem shown.train)
    → AreLowers node.problem node.fixings shown.train count lowers → AreRaised node shown.train walks lowers bases → read ≡ bases → IsLeastCost node shown.train (base_by read) found → IsShown node shown found
share_shown node shown walks count lowers bases read found same long are raised read_is least = by found (subst (λ (l : List ℕ). IsLeastCost node shown.train (base_by l) found) read_is least)
  where
    t : ℕ
    t = shown.train

    arrivals : List Arrival
    arrivals = raised.arrivals

    walks_are : AreWalksOn node t shown.walks arrivals
    walks_are = subst (λ (l : List (List Op)). AreWalksOn node t l arrivals) same raised.are

    base_is : (o : ℕ) → o < length (train_at node.problem t) → base_by bases o ≡ shown_base node t arrivals o
    base_is o within = omega (arith, raised.raised o (omega (arith, within, long, are.long)), are.are o (omega (arith, within, long)))

    by : (found : Option ℕ) → IsLeastCost node t (base_by bases) found → IsShown node shown found
    by None none = λ share shows.
        let once = arrivals_once node t shown.walks shows.arrivals arrivals shows.walks walks_are in
        let over = subst (λ (l : List Arrival). IsShareOver node t (shown_base node t l) share) once shows.over in
        none share (share_moves node t (shown_base node t arrivals) (base_by bases) share (λ o within. sym (base_is o within)) over)
    by (Some cost) least = record {
      share = least.share;
      share_is = record { arrivals = arrivals; walks = walks_are; over = share_moves node t (base_by bases) (shown_base node t arrivals) least.share base_is least.share_is };
      found_is = least.found_is;
    }

-- what the passes over a train find is what it costs at least
pub least_cost_of : (node : Node) (t : ℕ) (known : TrainKnowledge) (operations : List Operation) (bases : List ℕ) (entered costs : List (Option ℕ)) → IsKnown node t known → operations ≡ train_at node.problem t
    → AreEntered operations known.places.items known.demands.items (base_by bases) known.entry entered
    → AreCosts operations known.places.items known.demands.items (own_price node.problem.components t (reach_by entered bases)) costs → IsLeastCost node t (base_by bases) (sum_at costs known.entry)
least_cost_of node t known operations bases entered costs is same kept paid =
    least_cost_is node t known.order.items known.places.items known.demands.items known.entry bases entered costs (known_asks node t known is)
    (subst (λ (l : List Operation). AreEntered l known.places.items known.demands.items (base_by bases) known.entry entered) same kept)
    (subst (λ (l : List Operation). AreCosts l known.places.items known.demands.items (own_price node.problem.components t (reach_by entered bases)) costs) same paid)

-- a train of which something is known fits
pub known_fits : (problem : Problem) (fixings : List Fixing) (decisions : List Decision) (t : ℕ) (known : TrainKnowledge) (operations : List Operation) → IsKnown (node_at problem fixings decisions) t known → operations ≡ train_at problem t → length known.order.items < 2 ^ 31
known_fits problem fixings decisions t known operations is same = order_fits problem t (train_at problem t) known.order.items known.order.items refl is.there is.order_is refl

-- what is read of the trains is known of the one that is asked for
pub known_read : (node : Node) (trains : List TrainKnowledge) (t : ℕ) (known : TrainKnowledge) → AreKnown node trains → t < length trains → known ≡ get_or trains t known → IsKnown node t known
known_read node trains t known are lt is = are.each t known (slice_get-get_or trains t known lt ∙ ap (λ (k : TrainKnowledge). Some k) (sym is))
