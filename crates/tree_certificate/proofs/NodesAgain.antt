-- The nodes that were written are read again.
use Rattle.std.proofs.Common.{◌≡◌, ◌⊎◌, inl, inr, ℕ, zero, suc, ◌+◌, ◌≤◌, Bool, true, false, List, [], ◌∷◌, ◌++◌, length, All, Ok, refl, sym, ap, subst, ◌∙◌, append_assoc, arith}
use Rattle.std.specs.Prelude.{codes}
use Rattle.std.specs.List.{flat_map}
use Rattle.std.specs.Fmt.{decimal}
use Rattle.std.proofs.lemmas.List.{append-nil}
use Rattle.std.proofs.lemmas.List.Elements.{All-head, All-tail, All-append}
use Rattle.disp_model.specs.declared.train.Op.{Op}
use Rattle.disp_model.specs.declared.decision.Choice.TheVariants.{Route, Order, Run}
use Rattle.disp_model.specs.declared.tree.ComponentWalk.{ComponentWalk}
use Rattle.disp_model.specs.declared.tree.TrainWalks.{TrainWalks}
use Rattle.disp_model.specs.declared.tree.Leaf.TheVariants.{NoRoute, Cycle, Late, Costs, Shares}
use Rattle.disp_model.specs.declared.tree.TreeNode.{TreeNode}
use Rattle.disp_model.specs.declared.tree.TreeNode.TheVariants.{Branch, Leaf}
use Rattle.disp_model.specs.declared.limits.TheConstants.{MOST_COMPONENTS}
use Rattle.disp_model.specs.Trees.{FitsOp, FitsWalk, FitsTrain, FitsNode}
use Rattle.tree_certificate.specs.TreeTexts.{op_text, ops_text, walk_text, listed_text, node_text, is_third}
use Rattle.tree_certificate.specs.FieldsRead.{HasNone, op_at, line_ended}
use Rattle.tree_certificate.specs.LinesRead.{walk_at, train_read}
use Rattle.tree_certificate.specs.NodesRead.{node_word_at, not_none, route_at, order_at, run_at, no_route_at, cycle_at, late_at, costs_at, shares_at, node_by, node_read, places_opened, nodes_at}
use Rattle.tree_certificate.specs.Versions.{CompletesTree}
use Rattle.tree_certificate.proofs.FieldsAgain.{none_by, none_in_number, none_in_op, none_in_ops, field_again, last_again, op_again, all_ops_again}
use Rattle.tree_certificate.proofs.LinesAgain.{NotEnd, line_again, items_again, count_again, walk_again, train_again, three, four, five, six, eight, none_in_two}

-- the version has a line for the node
abbrev pub HasLine : Bool → TreeNode → Type 0
HasLine third n = (third ≡ true) ⊎ (is_third n ≡ false)

positive : (left n : ℕ) → 1 ≤ n → not_none left n ≡ Ok n
positive left zero some = absurd (omega (arith, some))
positive left (suc n) some = refl

-- a branch of a route
route_again : (third : Bool) (o : Op) (k : ℕ) (rest : List ℕ) → FitsOp o → 1 ≤ k → k ≤ MOST_COMPONENTS → node_read third (node_text (Branch (Route o) k) ++ rest) ≡ Ok (Branch (Route o) k, rest)
unfolding node_read node_word_at node_by route_at line_ended
route_again third o k rest fits some most =
    let none : HasNone 10 (codes "route" ++ (op_text o ++ (codes " " ++ decimal k))) =
    All-append NotEnd (codes "route") (op_text o ++ (codes " " ++ decimal k)) (none_by 10 (codes "route") refl)
    (All-append NotEnd (op_text o) (codes " " ++ decimal k) (none_in_op o fits)
    (All-append NotEnd (codes " ") (decimal k) (none_by 10 (codes " ") refl) (none_in_number 10 k (omega (arith, most)) (omega arith)))) in
    ap (node_read third) (six (codes "route") (op_text o) (codes " ") (decimal k) (codes "\n") rest)
    ∙ rw (
      line_again (codes "route" ++ (op_text o ++ (codes " " ++ decimal k))) rest none,
      op_again _ o (codes " " ++ decimal k) fits refl,
      last_again _ MOST_COMPONENTS k most (omega arith),
      positive _ k some,
    ) refl

-- a line that ends with an operation
last_op : (left : ℕ) (o : Op) → FitsOp o → op_at left (op_text o) ≡ Ok (o, [])
last_op left o fits = subst (λ (l : List ℕ). op_at left l ≡ Ok (o, [])) (append-nil (op_text o)) (op_again left o [] fits tt)

order_again : (third : Bool) (a b : Op) (rest : List ℕ) → FitsOp a → FitsOp b → node_read third (node_text (Branch (Order a b) 2) ++ rest) ≡ Ok (Branch (Order a b) 2, rest)
unfolding node_read node_word_at node_by order_at line_ended
order_again third a b rest fits_a fits_b =
    let none : HasNone 10 (codes "order" ++ (op_text a ++ op_text b)) =
    All-append NotEnd (codes "order") (op_text a ++ op_text b) (none_by 10 (codes "order") refl)
    (All-append NotEnd (op_text a) (op_text b) (none_in_op a fits_a) (none_in_op b fits_b)) in
    ap (node_read third) (four (codes "order") (op_text a) (op_text b) (codes "\n") rest)
    ∙ rw (
      line_again (codes "order" ++ (op_text a ++ op_text b)) rest none,
      op_again _ a (op_text b) fits_a refl,
      last_op _ b fits_b,
    ) refl

run_again : (o : Op) (rest : List ℕ) → FitsOp o → node_read true (node_text (Branch (Run o) 2) ++ rest) ≡ Ok (Branch (Run o) 2, rest)
unfolding node_read node_word_at node_by run_at line_ended
run_again o rest fits =
    let none : HasNone 10 (codes "run" ++ op_text o) = All-append NotEnd (codes "run") (op_text o) (none_by 10 (codes "run") refl) (none_in_op o fits) in
    ap (node_read true) (three (codes "run") (op_text o) (codes "\n") rest)
    ∙ rw (line_again (codes "run" ++ op_text o) rest none, last_op _ o fits) refl

no_route_again : (third : Bool) (rest : List ℕ) → node_read third (node_text (Leaf NoRoute) ++ rest) ≡ Ok (Leaf NoRoute, rest)
unfolding node_read node_word_at node_by no_route_at line_ended
no_route_again third rest = rw (line_again (codes "noroute") rest (none_by 10 (codes "noroute") refl)) refl

cycle_again : (third : Bool) (ops : List Op) (rest : List ℕ) → All FitsOp ops → node_read third (node_text (Leaf (Cycle ops)) ++ rest) ≡ Ok (Leaf (Cycle ops), rest)
unfolding node_read node_word_at node_by cycle_at
cycle_again third ops rest fits =
    let none : HasNone 10 (codes "cycle" ++ ops_text ops) = All-append NotEnd (codes "cycle") (ops_text ops) (none_by 10 (codes "cycle") refl) (none_in_ops ops fits) in
    ap (node_read third) (three (codes "cycle") (ops_text ops) (codes "\n") rest)
    ∙ rw (line_again (codes "cycle" ++ ops_text ops) rest none, all_ops_again _ ops fits) refl

late_again : (third : Bool) (ops : List Op) (rest : List ℕ) → All FitsOp ops → node_read third (node_text (Leaf (Late ops)) ++ rest) ≡ Ok (Leaf (Late ops), rest)
unfolding node_read node_word_at node_by late_at
late_again third ops rest fits =
    let none : HasNone 10 (codes "late" ++ ops_text ops) = All-append NotEnd (codes "late") (ops_text ops) (none_by 10 (codes "late") refl) (none_in_ops ops fits) in
    ap (node_read third) (three (codes "late") (ops_text ops) (codes "\n") rest)
    ∙ rw (line_again (codes "late" ++ ops_text ops) rest none, all_ops_again _ ops fits) refl

costs_again : (third : Bool) (walks : List ComponentWalk) (rest : List ℕ) → length walks ≤ MOST_COMPONENTS → All FitsWalk walks → node_read third (node_text (Leaf (Costs walks)) ++ rest) ≡ Ok (Leaf (Costs walks), rest)
unfolding node_read node_word_at node_by costs_at
costs_again third walks rest most fits =
    let none : HasNone 10 (codes "costs " ++ decimal (length walks)) =
    All-append NotEnd (codes "costs ") (decimal (length walks)) (none_by 10 (codes "costs ") refl) (none_in_number 10 (length walks) (omega (arith, most)) (omega arith)) in
    ap (node_read third) (five (codes "costs ") (decimal (length walks)) (codes "\n") (flat_map walk_text walks) rest)
    ∙ rw (
      line_again (codes "costs " ++ decimal (length walks)) (flat_map walk_text walks ++ rest) none,
      count_again _ (length walks) most,
      items_again walk_at walk_text FitsWalk walk_again walks rest fits,
    ) refl

shares_again : (walks : List ComponentWalk) (trains : List TrainWalks) (rest : List ℕ) → length walks ≤ MOST_COMPONENTS → All FitsWalk walks → length trains ≤ MOST_COMPONENTS → All FitsTrain trains
    → node_read true (node_text (Leaf (Shares walks trains)) ++ rest) ≡ Ok (Leaf (Shares walks trains), rest)
unfolding node_read node_word_at node_by shares_at
shares_again walks trains rest most fits most_trains trains_fit =
    let none : HasNone 10 (codes "shares " ++ (decimal (length walks) ++ (codes " " ++ decimal (length trains)))) =
    none_in_two (codes "shares ") (length walks) (length trains) (none_by 10 (codes "shares ") refl) (omega (arith, most)) (omega (arith, most_trains)) in
    ap (node_read true) (eight (codes "shares ") (decimal (length walks)) (codes " ") (decimal (length trains)) (codes "\n") (flat_map walk_text walks) (flat_map listed_text trains) rest)
    ∙ rw (
      line_again (codes "shares " ++ (decimal (length walks) ++ (codes " " ++ decimal (length trains)))) (flat_map walk_text walks ++ (flat_map listed_text trains ++ rest)) none,
      field_again _ MOST_COMPONENTS (length walks) (codes " " ++ decimal (length trains)) most (omega arith) refl,
      count_again _ (length trains) most_trains,
      items_again walk_at walk_text FitsWalk walk_again walks (flat_map listed_text trains ++ rest) fits,
      items_again train_read listed_text FitsTrain train_again trains rest trains_fit,
    ) refl

-- a node that fits and has a line is read again
pub node_again : (third : Bool) (n : TreeNode) (rest : List ℕ) → FitsNode n → HasLine third n → node_read third (node_text n ++ rest) ≡ Ok (n, rest)
node_again third (Branch (Route o) k) rest fits has = route_again third o k rest fits.0 fits.1.0 fits.1.1
node_again third (Branch (Order a b) k) rest fits has =
    subst (λ (j : ℕ). node_read third (node_text (Branch (Order a b) j) ++ rest) ≡ Ok (Branch (Order a b) j, rest)) (sym fits.1) (order_again third a b rest fits.0.0 fits.0.1)
node_again true (Branch (Run o) k) rest fits has =
    subst (λ (j : ℕ). node_read true (node_text (Branch (Run o) j) ++ rest) ≡ Ok (Branch (Run o) j, rest)) (sym fits.1) (run_again o rest fits.0)
node_again false (Branch (Run o) k) rest fits (inl e) = absurd cc
node_again false (Branch (Run o) k) rest fits (inr e) = absurd cc
node_again third (Leaf NoRoute) rest fits has = no_route_again third rest
node_again third (Leaf (Cycle ops)) rest fits has = cycle_again third ops rest fits
node_again third (Leaf (Late ops)) rest fits has = late_again third ops rest fits
node_again third (Leaf (Costs walks)) rest fits has = costs_again third walks rest fits.0 fits.1
node_again true (Leaf (Shares walks trains)) rest fits has = shares_again walks trains rest fits.0 fits.1 fits.2 fits.3
node_again false (Leaf (Shares walks trains)) rest fits (inl e) = absurd cc
node_again false (Leaf (Shares walks trains)) rest fits (inr e) = absurd cc

-- the nodes that complete a tree are read again
pub nodes_again : (third : Bool) (most places : ℕ) (tree : List TreeNode) (rest : List ℕ) → length tree ≤ most → CompletesTree places tree → All FitsNode tree → All (HasLine third) tree
    → nodes_at third most places (flat_map node_text tree ++ rest) ≡ Ok (tree, rest)
unfolding nodes_at
nodes_again third most zero [] rest le complete fits has = refl
nodes_again third most (suc places) [] rest le complete fits has = absurd complete
nodes_again third most zero (n ∷ tree) rest le complete fits has = absurd complete
nodes_again third zero (suc places) (n ∷ tree) rest le complete fits has = absurd (omega (arith, le))
nodes_again third (suc most) (suc places) (n ∷ tree) rest le complete fits has =
    rw (
      append_assoc (node_text n) (flat_map node_text tree) rest,
      node_again third n (flat_map node_text tree ++ rest) (All-head FitsNode n tree fits) (All-head (HasLine third) n tree has),
      nodes_again third most (places + places_opened n) tree rest (omega (arith, le)) complete (All-tail FitsNode n tree fits) (All-tail (HasLine third) n tree has),
    ) refl
