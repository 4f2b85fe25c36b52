-- What a pass that is given, and one that takes in another, count.
use Rattle.std.proofs.Common.{◌≡◌, ◌∙◌, ℕ, ◌≤◌, [], length, sym, ap, subst, arith}
use Rattle.disp_model.specs.declared.entry.Entry.{Entry}
use Rattle.turn_lock.specs.Known.{Known, StartsWith, given_known, joined_known, longer_of, shorter_of}
use Rattle.turn_lock.specs.Section.{IsFreshFrom, OwnsPlaces}
use Rattle.turn_lock.proofs.Beginnings.{starts_length}
use Rattle.shared_board.specs.declared.terms.Terms.{Terms}
use Rattle.shared_board.specs.Callers.{caller_of, lines_of}
use Rattle.shared_board.proofs.LineCounts.{fresh_lines, no_lines, longer_begins}

-- a caller that comes has no line yet
pub split_lines : (v : Known Entry Terms) (caller : ℕ) (w : Known Entry Terms) → w ≡ given_known v caller → OwnsPlaces caller_of w → 0 ≡ lines_of caller w.seen
split_lines v caller w is owns =
    sym (ap (λ (z : Known Entry Terms). lines_of caller z.seen) is ∙ no_lines caller v.seen [] (subst (λ (z : Known Entry Terms). OwnsPlaces caller_of z) is owns))

module _ (v w j : Known Entry Terms) (is : j ≡ joined_known v w) (one : StartsWith (longer_of v.seen w.seen) (shorter_of v.seen w.seen)) where
  pub join_fetched : (fetched : ℕ) → fetched ≤ length v.seen → fetched ≤ length j.seen
  join_fetched fetched within =
      let n : length j.seen ≡ length (longer_of v.seen w.seen) = ap (λ (z : Known Entry Terms). length z.seen) is in
      let m = starts_length (longer_of v.seen w.seen) v.seen (longer_begins v.seen w.seen one) in omega arith

  pub join_lines : IsFreshFrom caller_of v.caller (length v.seen) (longer_of v.seen w.seen) → (caller lines : ℕ) → caller ≡ v.caller → lines ≡ lines_of caller v.seen → lines ≡ lines_of caller j.seen
  join_lines fresh caller lines own counted =
      counted ∙ sym (ap (λ (z : Known Entry Terms). lines_of caller z.seen) is
      ∙ fresh_lines caller v.seen (longer_of v.seen w.seen) (longer_begins v.seen w.seen one) (subst (λ (c : ℕ). IsFreshFrom caller_of c (length v.seen) (longer_of v.seen w.seen)) (sym own) fresh))
