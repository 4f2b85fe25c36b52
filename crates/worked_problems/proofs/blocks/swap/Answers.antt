use Rattle.std.proofs.Common.{rules, ◌≡◌, ◌≢◌, ℕ, List, [], ◌∷◌, sym, ap, ◌∙◌, get_or, arith}
use Rattle.worked_problems.specs.Worked.{swapping_train}
use Rattle.worked_problems.proofs.Made.{swap_made}
use Rattle.worked_problems.proofs.blocks.swap.Goals as goal

pub invariant_of-result : goal.invariant_of-result
invariant_of-result c =
    let a = c.in_ok-resource.resource in
    let b = c.in_ok-other.other in
    let trains : c.from_vec.result ≡ swapping_train 0 1 ∷ swapping_train 1 0 ∷ [] = search rules in
    let names : c.from_vec-2.result ≡ a ∷ b ∷ [] = search rules in
    let first : a ≡ 114 ∷ 49 ∷ [] = search rules in
    let second : b ≡ 114 ∷ 50 ∷ [] = search rules in
    let apart : a ≢ b = λ same.
    let digit : 49 ≡ 50 = ap (λ (l : List ℕ). get_or l 1 0) (sym first ∙ same ∙ second) in
    omega (arith, digit) in
    record { well_formed = rw (trains, c.new.ensures, names) (swap_made a b apart) }
