-- Reading nodes until no place is open, as a loop does.
use Rattle.std.proofs.Common.{◌≡◌, ℕ, zero, suc, ◌-◌, ◌+◌, ◌≤◌, ◌<◌, Bool, List, [], ◌∷◌, ◌++◌, Result, Ok, Err, refl, sym, ap, ◌∙◌, arith}
use Rattle.std.proofs.lemmas.List.{append-nil}
use Rattle.disp_model.specs.declared.tree.TreeNode.{TreeNode}
use Rattle.tree_certificate.specs.declared.fault.Fault.{Fault}
use Rattle.tree_certificate.specs.declared.fault.Fault.TheVariants.{Truncated}
use Rattle.tree_certificate.specs.declared.fault.ReadError.{ReadError}
use Rattle.tree_certificate.specs.declared.fault.ReadError.TheVariants as errors
use Rattle.tree_certificate.specs.Reading.{FailsRead}
use Rattle.tree_certificate.specs.NodesRead.{node_read, nodes_at, places_opened}
use Rattle.tree_certificate.proofs.Looping.{with_front, regroup}

-- where no place is open all is read
pub nodes_done : (third : Bool) (most places : ℕ) (front : List TreeNode) (bytes : List ℕ) (total : Result (List TreeNode × List ℕ) Fault) → places ≡ 0
    → with_front front (nodes_at third most places bytes) ≡ total → total ≡ Ok (front, bytes)
unfolding nodes_at
nodes_done third most zero front bytes total none so_far = sym so_far ∙ ap (λ (ns : List TreeNode). Ok (ns, bytes)) (append-nil front)
nodes_done third most (suc p) front bytes total none so_far = absurd (omega arith)

pub nodes_go_on : (third : Bool) (count i places next : ℕ) (front : List TreeNode) (bytes : List ℕ) (n : TreeNode) (after : List ℕ) (total : Result (List TreeNode × List ℕ) Fault) → i < count → (places ≡ 0 → ⊥)
    → next + 1 ≡ places + places_opened n → node_read third bytes ≡ Ok (n, after)
    → with_front front (nodes_at third (count - i) places bytes) ≡ total → with_front (front ++ n ∷ []) (nodes_at third (count - (i + 1)) next after) ≡ total
unfolding nodes_at
nodes_go_on third count i zero next front bytes n after total lt some now h so_far = absurd (some refl)
nodes_go_on third count i (suc p) next front bytes n after total lt some now h so_far =
    let k : count - i ≡ suc (count - (i + 1)) = omega arith in
    let e : next ≡ p + places_opened n = omega (arith, now) in
    let one : with_front front (nodes_at third (count - i) (suc p) bytes) ≡ with_front (front ++ n ∷ []) (nodes_at third (count - (i + 1)) (p + places_opened n) after) =
    rw (k, h) (regroup front n (nodes_at third (count - (i + 1)) (p + places_opened n) after)) in
    rw e (sym one ∙ so_far)

pub nodes_end : (e : ReadError) (third : Bool) (count i places : ℕ) (front : List TreeNode) (bytes : List ℕ) (total : Result (List TreeNode × List ℕ) Fault) → i < count → (places ≡ 0 → ⊥)
    → FailsRead e (node_read third bytes) → with_front front (nodes_at third (count - i) places bytes) ≡ total → FailsRead e total
unfolding nodes_at
nodes_end errors.Memory third count i places front bytes total lt some h so_far = tt
nodes_end (errors.Fault f) third count i zero front bytes total lt some h so_far = absurd (some refl)
nodes_end (errors.Fault f) third count i (suc p) front bytes total lt some h so_far =
    let k : count - i ≡ suc (count - (i + 1)) = omega arith in
    let one : with_front front (nodes_at third (count - i) (suc p) bytes) ≡ Err f = rw (k, h) refl in
    sym so_far ∙ one

-- behind as many nodes as there may be no place is open, or the text was cut off
pub nodes_cut : (third : Bool) (count i places : ℕ) (front : List TreeNode) (bytes : List ℕ) (total : Result (List TreeNode × List ℕ) Fault) → count ≤ i → (places ≡ 0 → ⊥)
    → with_front front (nodes_at third (count - i) places bytes) ≡ total → total ≡ Err Truncated
unfolding nodes_at
nodes_cut third count i zero front bytes total le some so_far = absurd (some refl)
nodes_cut third count i (suc p) front bytes total le some so_far =
    let k : count - i ≡ 0 = omega arith in
    let one : with_front front (nodes_at third (count - i) (suc p) bytes) ≡ Err Truncated = rw k refl in
    sym so_far ∙ one
