-- Nodes in preorder.
use Rattle.std.specs.Prelude.{ℕ, zero, suc, ◌+◌, List, [], ◌∷◌, length, codes, Bool, true, false, Result, Ok, Err, ⊤}
use Rattle.disp_model.specs.declared.decision.Choice.TheVariants.{Route, Order, Run}
use Rattle.disp_model.specs.declared.tree.Leaf.TheVariants as leaf
use Rattle.disp_model.specs.declared.tree.TreeNode.{TreeNode}
use Rattle.disp_model.specs.declared.tree.TreeNode.TheVariants.{Branch, Leaf}
use Rattle.disp_model.specs.declared.limits.TheConstants.{MOST_COMPONENTS}
use Rattle.tree_certificate.specs.declared.fault.Fault.{Fault}
use Rattle.tree_certificate.specs.declared.fault.Fault.TheVariants.{Bad, Truncated}
use Rattle.tree_certificate.specs.declared.word.Word.{Word}
use Rattle.tree_certificate.specs.declared.word.Word.TheVariants as word
use Rattle.tree_certificate.specs.Reading.{◌>>=◌}
use Rattle.tree_certificate.specs.FieldsRead.{behind, field_number, op_at, ops_at, line_ended, or_word}
use Rattle.tree_certificate.specs.LinesRead.{line_at, items_at, last_count, walk_at, train_read}

-- the word of a node's line
unfoldable pub node_word_at : ℕ → List ℕ → Result (Word × List ℕ) Fault
node_word_at left line =
    or_word (behind (codes "route") line) word.Route
    (or_word (behind (codes "order") line) word.Order
    (or_word (behind (codes "run") line) word.Run
    (or_word (behind (codes "noroute") line) word.NoRoute
    (or_word (behind (codes "cycle") line) word.Cycle
    (or_word (behind (codes "late") line) word.Late
    (or_word (behind (codes "costs") line) word.Costs
    (or_word (behind (codes "shares") line) word.Shares (Err (Bad left)))))))))

-- a number of children that is not 0 and ends its line
abbrev pub not_none : ℕ → ℕ → Result ℕ Fault
not_none left zero = Err (Bad left)
not_none left (suc n) = Ok (suc n)

unfoldable pub route_at : ℕ → List ℕ → Result TreeNode Fault
route_at left fields = do
  op ← op_at left fields
  count ← field_number left MOST_COMPONENTS op.1
  children ← not_none left count.0
  done ← line_ended left count.1
  Ok (Branch (Route op.0) children)

unfoldable pub order_at : ℕ → List ℕ → Result TreeNode Fault
order_at left fields = do
  a ← op_at left fields
  b ← op_at left a.1
  done ← line_ended left b.1
  Ok (Branch (Order a.0 b.0) 2)

-- a line that only the third version has
abbrev pub only_third : Bool → ℕ → Result ⊤ Fault
only_third true left = Ok tt
only_third false left = Err (Bad left)

unfoldable pub run_at : Bool → ℕ → List ℕ → Result TreeNode Fault
run_at third left fields = do
  allowed ← only_third third left
  op ← op_at left fields
  done ← line_ended left op.1
  Ok (Branch (Run op.0) 2)

unfoldable pub no_route_at : ℕ → List ℕ → Result TreeNode Fault
no_route_at left fields = do
  done ← line_ended left fields
  Ok (Leaf leaf.NoRoute)

unfoldable pub cycle_at : ℕ → List ℕ → Result TreeNode Fault
cycle_at left fields = do
  ops ← ops_at left (length fields) fields
  Ok (Leaf (leaf.Cycle ops))

unfoldable pub late_at : ℕ → List ℕ → Result TreeNode Fault
late_at left fields = do
  ops ← ops_at left (length fields) fields
  Ok (Leaf (leaf.Late ops))

unfoldable pub costs_at : ℕ → List ℕ → List ℕ → Result (TreeNode × List ℕ) Fault
costs_at left fields rest = do
  count ← last_count left fields
  walks ← items_at walk_at count rest
  Ok (Leaf (leaf.Costs walks.0), walks.1)

unfoldable pub shares_at : Bool → ℕ → List ℕ → List ℕ → Result (TreeNode × List ℕ) Fault
shares_at third left fields rest = do
  allowed ← only_third third left
  count ← field_number left MOST_COMPONENTS fields
  train_count ← last_count left count.1
  walks ← items_at walk_at count.0 rest
  trains ← items_at train_read train_count walks.1
  Ok (Leaf (leaf.Shares walks.0 trains.0), trains.1)

-- a node that is one line, and the lines behind it
abbrev pub and_rest : Result TreeNode Fault → List ℕ → Result (TreeNode × List ℕ) Fault
and_rest node rest = node >>= λ n. Ok (n, rest)

-- a node by the word of its line
unfoldable pub node_by : Word → Bool → ℕ → List ℕ → List ℕ → Result (TreeNode × List ℕ) Fault
node_by word.Route third left fields rest = and_rest (route_at left fields) rest
node_by word.Order third left fields rest = and_rest (order_at left fields) rest
node_by word.Run third left fields rest = and_rest (run_at third left fields) rest
node_by word.NoRoute third left fields rest = and_rest (no_route_at left fields) rest
node_by word.Cycle third left fields rest = and_rest (cycle_at left fields) rest
node_by word.Late third left fields rest = and_rest (late_at left fields) rest
node_by word.Costs third left fields rest = costs_at left fields rest
node_by word.Shares third left fields rest = shares_at third left fields rest

unfoldable pub node_read : Bool → List ℕ → Result (TreeNode × List ℕ) Fault
node_read third bytes = do
  line ← line_at bytes
  word ← node_word_at (length bytes) line.0
  node_by word.0 third (length bytes) word.1 line.1

-- how many places a node opens
abbrev pub places_opened : TreeNode → ℕ
places_opened (Branch choice children) = children
places_opened (Leaf leaf) = 0

-- the nodes that fill so many open places; each takes a line at least, so there are no more than
-- bytes
unfoldable pub nodes_at : Bool → ℕ → ℕ → List ℕ → Result (List TreeNode × List ℕ) Fault
nodes_at third most zero bytes = Ok ([], bytes)
nodes_at third zero (suc open_places) bytes = Err Truncated
nodes_at third (suc most) (suc open_places) bytes = do
  node ← node_read third bytes
  more ← nodes_at third most (open_places + places_opened node.0) node.1
  Ok (node.0 ∷ more.0, more.1)
