-- What listed trains cost together, one train after another.
use Rattle.std.proofs.Common.{ℕ, ◌≤◌, List, length, refl}
use Rattle.disp_model.specs.declared.tree.TrainWalks.{TrainWalks}
use Rattle.disp_model.specs.Node.{Node}
use Rattle.disp_model.specs.Shares.{ShowsShare, SharesCost}
use Rattle.node_facts.proofs.AddedUp.{AreSums, AreAddedUp, all_added_up}
use Rattle.tree_checker.specs.Bounds.{IsCappedShares}

pub shares_are_sums : (node : Node) → AreSums (ShowsShare node) (SharesCost node)
shares_are_sums node = record {
  nothing = refl;
  joined = λ shown trains share rest shows more. (share, rest, shows, more, refl);
  parted = λ shown trains sum shares. (shares.0, shares.1, shares.2, shares.3);
}

pub added_all : (node : Node) (trains : List TrainWalks) (i total : ℕ) → length trains ≤ i → AreAddedUp (SharesCost node) trains i total → IsCappedShares node trains total
added_all node trains i total past before =
    let all = all_added_up (ShowsShare node) (SharesCost node) trains i total (shares_are_sums node) past before in
    record { shares = all.0; shares_is = all.1; found_is = all.2 }
