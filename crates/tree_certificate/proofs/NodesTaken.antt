-- The nodes that are read are those that were written.
use Rattle.std.proofs.Common.{◌≡◌, inl, inr, ℕ, zero, suc, ◌+◌, ◌≤◌, Bool, true, false, List, [], ◌∷◌, ◌++◌, length, All, Some, Result, Ok, refl, sym, ap, subst, ◌∙◌, append_assoc, arith}
use Rattle.std.specs.Prelude.{codes, ⊤}
use Rattle.std.specs.List.{flat_map}
use Rattle.std.specs.Fmt.{decimal}
use Rattle.std.proofs.lemmas.List.{append-nil}
use Rattle.std.proofs.lemmas.List.Elements.{All-nil, All-cons}
use Rattle.disp_model.specs.declared.decision.Choice.TheVariants.{Route, Order, Run}
use Rattle.disp_model.specs.declared.tree.Leaf.TheVariants.{NoRoute, Cycle, Late, Costs, Shares}
use Rattle.disp_model.specs.declared.tree.TreeNode.{TreeNode}
use Rattle.disp_model.specs.declared.tree.TreeNode.TheVariants.{Branch, Leaf}
use Rattle.disp_model.specs.declared.limits.TheConstants.{MOST_COMPONENTS}
use Rattle.disp_model.specs.Trees.{FitsWalk, FitsTrain, FitsNode}
use Rattle.tree_certificate.specs.declared.fault.Fault.{Fault}
use Rattle.tree_certificate.specs.declared.word.Word.{Word}
use Rattle.tree_certificate.specs.declared.word.Word.TheVariants as word
use Rattle.tree_certificate.specs.TreeTexts.{op_text, ops_text, walk_text, listed_text, node_text}
use Rattle.tree_certificate.specs.FieldsRead.{behind, field_number, op_at, ops_at, line_ended}
use Rattle.tree_certificate.specs.LinesRead.{line_at, items_at, last_count, walk_at, train_read}
use Rattle.tree_certificate.specs.NodesRead.{node_word_at, not_none, only_third, route_at, order_at, run_at, no_route_at, cycle_at, late_at, costs_at, shares_at, and_rest, node_by, node_read, places_opened, nodes_at}
use Rattle.tree_certificate.specs.Versions.{CompletesTree}
use Rattle.tree_certificate.proofs.FieldsTaken.{bind_ok, ok_is, field_taken, op_taken, ops_taken, end_taken, behind_taken, or_word_taken}
use Rattle.tree_certificate.proofs.LinesAgain.{three, four, five, six, eight}
use Rattle.tree_certificate.proofs.LinesTaken.{line_taken, items_taken, count_taken, walk_taken, train_taken}
use Rattle.tree_certificate.proofs.NodesAgain.{HasLine}

abbrev pub word_text : Word → List ℕ
word_text word.Route = codes "route"
word_text word.Order = codes "order"
word_text word.Run = codes "run"
word_text word.NoRoute = codes "noroute"
word_text word.Cycle = codes "cycle"
word_text word.Late = codes "late"
word_text word.Costs = codes "costs"
word_text word.Shares = codes "shares"

took : (line : List ℕ) (w : Word) (x : Word × List ℕ) → (behind (word_text w) line ≡ Some x.1) × (w ≡ x.0) → line ≡ word_text x.0 ++ x.1
took line w x h = subst (λ (v : Word). line ≡ word_text v ++ x.1) h.1 (behind_taken (word_text w) line x.1 h.0)

node_word_taken : (left : ℕ) (line : List ℕ) (x : Word × List ℕ) → node_word_at left line ≡ Ok x → line ≡ word_text x.0 ++ x.1
unfolding node_word_at
node_word_taken left line x e =
    elim (or_word_taken (behind (codes "route") line) word.Route _ x e) [
      | inl h ↦ took line word.Route x h
      | inr e1 ↦
          elim (or_word_taken (behind (codes "order") line) word.Order _ x e1) [
            | inl h ↦ took line word.Order x h
            | inr e2 ↦
                elim (or_word_taken (behind (codes "run") line) word.Run _ x e2) [
                  | inl h ↦ took line word.Run x h
                  | inr e3 ↦
                      elim (or_word_taken (behind (codes "noroute") line) word.NoRoute _ x e3) [
                        | inl h ↦ took line word.NoRoute x h
                        | inr e4 ↦
                            elim (or_word_taken (behind (codes "cycle") line) word.Cycle _ x e4) [
                              | inl h ↦ took line word.Cycle x h
                              | inr e5 ↦
                                  elim (or_word_taken (behind (codes "late") line) word.Late _ x e5) [
                                    | inl h ↦ took line word.Late x h
                                    | inr e6 ↦
                                        elim (or_word_taken (behind (codes "costs") line) word.Costs _ x e6) [
                                          | inl h ↦ took line word.Costs x h
                                          | inr e7 ↦
                                              elim (or_word_taken (behind (codes "shares") line) word.Shares _ x e7) [ inl h ↦ took line word.Shares x h | inr e8 ↦ absurd cc ]
                                        ]
                                  ]
                            ]
                      ]
                ]
          ]
    ]

-- the line is the node's text, which fits and has a line
abbrev LineOf : Bool → List ℕ → TreeNode → Type 0
LineOf third line n = ((rest : List ℕ) → line ++ 10 ∷ rest ≡ node_text n ++ rest) × FitsNode n × HasLine third n

some_children : (left c k : ℕ) → not_none left c ≡ Ok k → (c ≡ k) × (1 ≤ k)
some_children left zero k e = absurd cc
some_children left (suc c) k e =
    let same : suc c ≡ k = ok_is (suc c) k e in
    (same, omega (arith, same))

allowed : (third : Bool) (left : ℕ) (x : ⊤) → only_third third left ≡ Ok x → third ≡ true
allowed true left x e = refl
allowed false left x e = absurd cc

route_taken : (third : Bool) (left : ℕ) (fields : List ℕ) (n : TreeNode) → route_at left fields ≡ Ok n → LineOf third (codes "route" ++ fields) n
unfolding route_at
route_taken third left fields n e =
    let o = bind_ok (op_at left fields) _ n e in
    let c = bind_ok (field_number left MOST_COMPONENTS o.0.1) _ n o.2 in
    let k = bind_ok (not_none left c.0.0) _ n c.2 in
    let d = bind_ok (line_ended left c.0.1) _ n k.2 in
    let op = op_taken left fields o.0.0 o.0.1 o.1 in
    let number = field_taken left MOST_COMPONENTS o.0.1 c.0.0 c.0.1 (omega arith) c.1 in
    let some = some_children left c.0.0 k.0 k.1 in
    let none = end_taken left c.0.1 d.0 d.1 in
    let text : fields ≡ op_text o.0.0 ++ (codes " " ++ decimal k.0) =
    op.0 ∙ ap (λ (l : List ℕ). op_text o.0.0 ++ l) (number.0 ∙ ap (λ (l : List ℕ). 32 ∷ (decimal c.0.0 ++ l)) none ∙ ap (λ (l : List ℕ). 32 ∷ l) (append-nil (decimal c.0.0)) ∙ ap (λ (m : ℕ). 32 ∷ decimal m) some.0) in
    let most : k.0 ≤ MOST_COMPONENTS = rw (← some.0) number.1 in
    subst (LineOf third (codes "route" ++ fields)) (ok_is (Branch (Route o.0.0) k.0) n d.2)
    (λ rest. ap (λ (l : List ℕ). (codes "route" ++ l) ++ 10 ∷ rest) text ∙ sym (six (codes "route") (op_text o.0.0) (codes " ") (decimal k.0) (codes "\n") rest), (op.1, (some.1, most)), inr refl)

order_taken : (third : Bool) (left : ℕ) (fields : List ℕ) (n : TreeNode) → order_at left fields ≡ Ok n → LineOf third (codes "order" ++ fields) n
unfolding order_at
order_taken third left fields n e =
    let a = bind_ok (op_at left fields) _ n e in
    let b = bind_ok (op_at left a.0.1) _ n a.2 in
    let d = bind_ok (line_ended left b.0.1) _ n b.2 in
    let one = op_taken left fields a.0.0 a.0.1 a.1 in
    let other = op_taken left a.0.1 b.0.0 b.0.1 b.1 in
    let none = end_taken left b.0.1 d.0 d.1 in
    let text : fields ≡ op_text a.0.0 ++ op_text b.0.0 =
    one.0 ∙ ap (λ (l : List ℕ). op_text a.0.0 ++ l) (other.0 ∙ ap (λ (l : List ℕ). op_text b.0.0 ++ l) none ∙ append-nil (op_text b.0.0)) in
    subst (LineOf third (codes "order" ++ fields)) (ok_is (Branch (Order a.0.0 b.0.0) 2) n d.2)
    (λ rest. ap (λ (l : List ℕ). (codes "order" ++ l) ++ 10 ∷ rest) text ∙ sym (four (codes "order") (op_text a.0.0) (op_text b.0.0) (codes "\n") rest), ((one.1, other.1), refl), inr refl)

run_taken : (third : Bool) (left : ℕ) (fields : List ℕ) (n : TreeNode) → run_at third left fields ≡ Ok n → LineOf third (codes "run" ++ fields) n
unfolding run_at
run_taken third left fields n e =
    let t = bind_ok (only_third third left) _ n e in
    let o = bind_ok (op_at left fields) _ n t.2 in
    let d = bind_ok (line_ended left o.0.1) _ n o.2 in
    let op = op_taken left fields o.0.0 o.0.1 o.1 in
    let none = end_taken left o.0.1 d.0 d.1 in
    let text : fields ≡ op_text o.0.0 = op.0 ∙ ap (λ (l : List ℕ). op_text o.0.0 ++ l) none ∙ append-nil (op_text o.0.0) in
    subst (LineOf third (codes "run" ++ fields)) (ok_is (Branch (Run o.0.0) 2) n d.2)
    (λ rest. ap (λ (l : List ℕ). (codes "run" ++ l) ++ 10 ∷ rest) text ∙ sym (three (codes "run") (op_text o.0.0) (codes "\n") rest), (op.1, refl), inl (allowed third left t.0 t.1))

no_route_taken : (third : Bool) (left : ℕ) (fields : List ℕ) (n : TreeNode) → no_route_at left fields ≡ Ok n → LineOf third (codes "noroute" ++ fields) n
unfolding no_route_at
no_route_taken third left fields n e =
    let d = bind_ok (line_ended left fields) _ n e in
    let none = end_taken left fields d.0 d.1 in
    subst (LineOf third (codes "noroute" ++ fields)) (ok_is (Leaf NoRoute) n d.2)
    (λ rest. ap (λ (l : List ℕ). (codes "noroute" ++ l) ++ 10 ∷ rest) none, tt, inr refl)

cycle_taken : (third : Bool) (left : ℕ) (fields : List ℕ) (n : TreeNode) → cycle_at left fields ≡ Ok n → LineOf third (codes "cycle" ++ fields) n
unfolding cycle_at
cycle_taken third left fields n e =
    let o = bind_ok (ops_at left (length fields) fields) _ n e in
    let ops = ops_taken left (length fields) fields o.0 o.1 in
    subst (LineOf third (codes "cycle" ++ fields)) (ok_is (Leaf (Cycle o.0)) n o.2)
    (λ rest. ap (λ (l : List ℕ). (codes "cycle" ++ l) ++ 10 ∷ rest) ops.0 ∙ sym (three (codes "cycle") (ops_text o.0) (codes "\n") rest), ops.1, inr refl)

late_taken : (third : Bool) (left : ℕ) (fields : List ℕ) (n : TreeNode) → late_at left fields ≡ Ok n → LineOf third (codes "late" ++ fields) n
unfolding late_at
late_taken third left fields n e =
    let o = bind_ok (ops_at left (length fields) fields) _ n e in
    let ops = ops_taken left (length fields) fields o.0 o.1 in
    subst (LineOf third (codes "late" ++ fields)) (ok_is (Leaf (Late o.0)) n o.2)
    (λ rest. ap (λ (l : List ℕ). (codes "late" ++ l) ++ 10 ∷ rest) ops.0 ∙ sym (three (codes "late") (ops_text o.0) (codes "\n") rest), ops.1, inr refl)

-- the line and those behind it are the node's text
abbrev LinesOf : Bool → List ℕ → List ℕ → (TreeNode × List ℕ) → Type 0
LinesOf third line rest x = (line ++ 10 ∷ rest ≡ node_text x.0 ++ x.1) × FitsNode x.0 × HasLine third x.0

costs_taken : (third : Bool) (left : ℕ) (fields rest : List ℕ) (x : TreeNode × List ℕ) → costs_at left fields rest ≡ Ok x → LinesOf third (codes "costs" ++ fields) rest x
unfolding costs_at
costs_taken third left fields rest x e =
    let c = bind_ok (last_count left fields) _ x e in
    let w = bind_ok (items_at walk_at c.0 rest) _ x c.2 in
    let count = count_taken left fields c.0 c.1 in
    let walks = items_taken walk_at walk_text FitsWalk walk_taken c.0 rest w.0.0 w.0.1 w.1 in
    let text : (codes "costs" ++ fields) ++ 10 ∷ rest ≡ node_text (Leaf (Costs w.0.0)) ++ w.0.1 =
    ap (λ (l : List ℕ). (codes "costs" ++ l) ++ 10 ∷ rest) (count.0 ∙ ap (λ (m : ℕ). 32 ∷ decimal m) walks.2)
    ∙ ap (λ (l : List ℕ). (codes "costs " ++ decimal (length w.0.0)) ++ 10 ∷ l) walks.0
    ∙ sym (five (codes "costs ") (decimal (length w.0.0)) (codes "\n") (flat_map walk_text w.0.0) w.0.1) in
    subst (LinesOf third (codes "costs" ++ fields) rest) (ok_is {A = TreeNode × List ℕ} (Leaf (Costs w.0.0), w.0.1) x w.2)
    (text, (rw (← walks.2) count.1, walks.1), inr refl)

shares_taken : (third : Bool) (left : ℕ) (fields rest : List ℕ) (x : TreeNode × List ℕ) → shares_at third left fields rest ≡ Ok x → LinesOf third (codes "shares" ++ fields) rest x
unfolding shares_at
shares_taken third left fields rest x e =
    let t = bind_ok (only_third third left) _ x e in
    let c = bind_ok (field_number left MOST_COMPONENTS fields) _ x t.2 in
    let m = bind_ok (last_count left c.0.1) _ x c.2 in
    let w = bind_ok (items_at walk_at c.0.0 rest) _ x m.2 in
    let g = bind_ok (items_at train_read m.0 w.0.1) _ x w.2 in
    let number = field_taken left MOST_COMPONENTS fields c.0.0 c.0.1 (omega arith) c.1 in
    let count = count_taken left c.0.1 m.0 m.1 in
    let walks = items_taken walk_at walk_text FitsWalk walk_taken c.0.0 rest w.0.0 w.0.1 w.1 in
    let trains = items_taken train_read listed_text FitsTrain train_taken m.0 w.0.1 g.0.0 g.0.1 g.1 in
    let line : fields ≡ 32 ∷ (decimal (length w.0.0) ++ (32 ∷ decimal (length g.0.0))) =
    number.0 ∙ ap (λ (l : List ℕ). 32 ∷ (decimal c.0.0 ++ l)) (count.0 ∙ ap (λ (k : ℕ). 32 ∷ decimal k) trains.2)
    ∙ ap (λ (k : ℕ). 32 ∷ (decimal k ++ (32 ∷ decimal (length g.0.0)))) walks.2 in
    let behind_line : rest ≡ flat_map walk_text w.0.0 ++ (flat_map listed_text g.0.0 ++ g.0.1) = walks.0 ∙ ap (λ (l : List ℕ). flat_map walk_text w.0.0 ++ l) trains.0 in
    let text : (codes "shares" ++ fields) ++ 10 ∷ rest ≡ node_text (Leaf (Shares w.0.0 g.0.0)) ++ g.0.1 =
    ap (λ (l : List ℕ). (codes "shares" ++ l) ++ 10 ∷ rest) line
    ∙ ap (λ (l : List ℕ). (codes "shares " ++ (decimal (length w.0.0) ++ (codes " " ++ decimal (length g.0.0)))) ++ 10 ∷ l) behind_line
    ∙ sym (eight (codes "shares ") (decimal (length w.0.0)) (codes " ") (decimal (length g.0.0)) (codes "\n") (flat_map walk_text w.0.0) (flat_map listed_text g.0.0) g.0.1) in
    subst (LinesOf third (codes "shares" ++ fields) rest) (ok_is {A = TreeNode × List ℕ} (Leaf (Shares w.0.0 g.0.0), g.0.1) x g.2)
    (text, (rw (← walks.2) number.1, walks.1, rw (← trains.2) count.1, trains.1), inl (allowed third left t.0 t.1))

-- a node that is one line
one_line : (third : Bool) (line rest : List ℕ) (node : Result TreeNode Fault) (x : TreeNode × List ℕ) → ((n : TreeNode) → node ≡ Ok n → LineOf third line n) → and_rest node rest ≡ Ok x → LinesOf third line rest x
one_line third line rest node x each e =
    let n = bind_ok node _ x e in
    let is = each n.0 n.1 in
    subst (LinesOf third line rest) (ok_is {A = TreeNode × List ℕ} (n.0, rest) x n.2) (is.0 rest, is.1, is.2)

by_taken : (w : Word) (third : Bool) (left : ℕ) (fields rest : List ℕ) (x : TreeNode × List ℕ) → node_by w third left fields rest ≡ Ok x → LinesOf third (word_text w ++ fields) rest x
unfolding node_by
by_taken word.Route third left fields rest x e = one_line third (codes "route" ++ fields) rest (route_at left fields) x (route_taken third left fields) e
by_taken word.Order third left fields rest x e = one_line third (codes "order" ++ fields) rest (order_at left fields) x (order_taken third left fields) e
by_taken word.Run third left fields rest x e = one_line third (codes "run" ++ fields) rest (run_at third left fields) x (run_taken third left fields) e
by_taken word.NoRoute third left fields rest x e = one_line third (codes "noroute" ++ fields) rest (no_route_at left fields) x (no_route_taken third left fields) e
by_taken word.Cycle third left fields rest x e = one_line third (codes "cycle" ++ fields) rest (cycle_at left fields) x (cycle_taken third left fields) e
by_taken word.Late third left fields rest x e = one_line third (codes "late" ++ fields) rest (late_at left fields) x (late_taken third left fields) e
by_taken word.Costs third left fields rest x e = costs_taken third left fields rest x e
by_taken word.Shares third left fields rest x e = shares_taken third left fields rest x e

pub node_taken : (third : Bool) (bytes : List ℕ) (x : TreeNode × List ℕ) → node_read third bytes ≡ Ok x → (bytes ≡ node_text x.0 ++ x.1) × FitsNode x.0 × HasLine third x.0
unfolding node_read
node_taken third bytes x e =
    let l = bind_ok (line_at bytes) _ x e in
    let w = bind_ok (node_word_at (length bytes) l.0.0) _ x l.2 in
    let line = line_taken bytes l.0.0 l.0.1 l.1 in
    let word_is = node_word_taken (length bytes) l.0.0 w.0 w.1 in
    let is = by_taken w.0.0 third (length bytes) w.0.1 l.0.1 x w.2 in
    (line ∙ ap (λ (k : List ℕ). k ++ 10 ∷ l.0.1) word_is ∙ is.0, is.1, is.2)

-- what was read of the nodes
abbrev Taken : Bool → ℕ → List ℕ → (List TreeNode × List ℕ) → Type 0
Taken third places bytes x = (bytes ≡ flat_map node_text x.0 ++ x.1) × All FitsNode x.0 × All (HasLine third) x.0 × CompletesTree places x.0

pub nodes_taken : (third : Bool) (most places : ℕ) (bytes : List ℕ) (x : List TreeNode × List ℕ) → nodes_at third most places bytes ≡ Ok x
    → (bytes ≡ flat_map node_text x.0 ++ x.1) × All FitsNode x.0 × All (HasLine third) x.0 × CompletesTree places x.0
unfolding nodes_at
nodes_taken third most zero bytes x e = subst (Taken third 0 bytes) (ok_is {A = List TreeNode × List ℕ} ([], bytes) x e) (refl, All-nil FitsNode, All-nil (HasLine third), tt)
nodes_taken third zero (suc places) bytes x e = absurd cc
nodes_taken third (suc most) (suc places) bytes x e =
    let n = bind_ok (node_read third bytes) _ x e in
    let m = bind_ok (nodes_at third most (places + places_opened n.0.0) n.0.1) _ x n.2 in
    let t = node_taken third bytes n.0 n.1 in
    let u = nodes_taken third most (places + places_opened n.0.0) n.0.1 m.0 m.1 in
    subst (Taken third (suc places) bytes) (ok_is {A = List TreeNode × List ℕ} (n.0.0 ∷ m.0.0, m.0.1) x m.2) (
      t.0 ∙ ap (λ (l : List ℕ). node_text n.0.0 ++ l) u.0 ∙ sym (append_assoc (node_text n.0.0) (flat_map node_text m.0.0) m.0.1),
      All-cons FitsNode n.0.0 m.0.0 t.1 u.1,
      All-cons (HasLine third) n.0.0 m.0.0 t.2 u.2,
      u.3,
    )
