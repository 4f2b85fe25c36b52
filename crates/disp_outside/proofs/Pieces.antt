-- A piece that goes out in parts.
use Rattle.std.proofs.Common.{◌≡◌, ℕ, ◌+◌, ◌-◌, ◌≤◌, List, length, take, drop, Option, sym, ap, subst, ◌∙◌, arith, length-drop}
use Rattle.std.proofs.lemmas.List.{take_rest, drop-drop}
use Rattle.std.proofs.Math.Seq.{take-add}
use Rattle.std.proofs.KnownBytes.{Appends-trans, Appends-kept}
use Rattle.std.specs.Io.KnownBytes.{Appends, Keeps}
use Rattle.disp_outside.specs.Sink.{PutsOut}

-- the front of a piece went out, and the rest is left
pub record HasSent (old new : Option (List ℕ)) (piece rest : List ℕ) : Type 0 where
  pub count : ℕ
  pub within : count ≤ length piece
  pub left : rest ≡ drop count piece
  pub sent : Appends old new (take count piece)

module _ {old new : Option (List ℕ)} {piece rest : List ℕ} (before : HasSent old new piece rest) where
  -- a write that failed took nothing
  pub puts_out_kept : (next : Option (List ℕ)) → Keeps new next → PutsOut old next piece
  puts_out_kept next kept = (before.count, before.within, Appends-kept old new next _ before.sent kept)

  -- a write took the first n bytes of the rest
  pub sent_more : (next : Option (List ℕ)) (n : ℕ) → n ≤ length rest → Appends new next (take n rest) → HasSent old next piece (take (length rest - n) (drop n rest))
  sent_more next n fits more =
      let taken : Appends new next (take n (drop before.count piece)) = subst (λ r. Appends new next (take n r)) before.left more in
      record {
        count = before.count + n;
        within = omega (arith, before.within, ap length before.left ∙ length-drop before.count piece);
        left = take_rest rest n ∙ ap (drop n) before.left ∙ drop-drop n before.count piece;
        sent = subst (Appends old next) (sym (take-add before.count n piece)) (Appends-trans old new next _ _ before.sent taken);
      }

  -- no more is left than there was
  pub rest_within : length rest ≤ length piece
  rest_within = omega (arith, ap length before.left ∙ length-drop before.count piece)
