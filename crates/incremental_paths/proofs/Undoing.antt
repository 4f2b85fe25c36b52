-- What is put back where arcs are withdrawn.
use Rattle.std.proofs.Common.{◌≡◌, ℕ, ◌+◌, ◌<◌, ◌≤◌, List, [], ◌∷◌, ◌++◌, inl, inr, length, get_or, take, drop, sym, ap, ◌∙◌, subst, arith}
use Rattle.std.specs.Prelude.{All}
use Rattle.std.proofs.lemmas.Bool.{cases_eq}
use Rattle.std.proofs.lemmas.List.{length-append, length-take-le, get_or_push, get_or_append_left, get_or-take, take-append-drop, take-append-le, drop-append-le}
use Rattle.std.proofs.Math.Seq.{drop-append_seam, take-append_seam}
use Rattle.std.proofs.lemmas.List.Elements.{All-append, All-nil, All-take}
use Rattle.incremental_paths.specs.declared.arc.Arc.{Arc}
use Rattle.incremental_paths.specs.declared.changes.Change.{Change}
use Rattle.incremental_paths.specs.Spread.{AreLengths, restored}
use Rattle.incremental_paths.specs.Kept.{AreUndone}
use Rattle.incremental_paths.proofs.Telling.{restored_append}

take_take : {X : Type 0} (xs : List X) (n m : ℕ) → n ≤ m → m ≤ length xs → take n (take m xs) ≡ take n xs
take_take xs n m le all =
    sym (take-append-le n (take m xs) (drop m xs) (omega (arith, le, length-take-le m xs all))) ∙ ap (take n) (take-append-drop m xs)

drop_split : {X : Type 0} (xs : List X) (n m : ℕ) → n ≤ m → m ≤ length xs → drop n xs ≡ drop n (take m xs) ++ drop m xs
drop_split xs n m le all =
    ap (drop n) (sym (take-append-drop m xs)) ∙ drop-append-le n (take m xs) (drop m xs) (omega (arith, le, length-take-le m xs all))

-- where all arcs are stale, nothing is said
pub undone_stale : (lowers : List ℕ) (arcs : List Arc) (lengths starts : List ℕ) (trail : List Change) (stale : ℕ) → length starts ≡ length arcs → trail ≡ [] → length arcs ≤ stale → AreUndone lowers arcs lengths trail starts stale
undone_stale lowers arcs lengths starts trail stale sized none all = record {
  sized = sized;
  nodes = subst (All (λ (c : Change). c.node < length lowers)) (sym none) (All-nil (λ (c : Change). c.node < length lowers));
  rises = λ i j from le lt. absurd (omega (arith, from, le, lt, all));
  within = λ i from lt. absurd (omega (arith, from, lt, all));
  each = λ i from lt. absurd (omega (arith, from, lt, all));
}

module _ (lowers : List ℕ) (arcs : List Arc) (lengths : List ℕ) (trail : List Change) (starts : List ℕ) (stale : ℕ) (u : AreUndone lowers arcs lengths trail starts stale) where
  module _ (a : Arc) (are : AreLengths lowers arcs lengths) (new : List ℕ) (more : List Change) (back : restored new more ≡ lengths) (within : All (λ c. c.node < length lowers) more) where
    start_old : (i : ℕ) → i < length arcs → get_or (starts ++ length trail ∷ []) i 0 ≡ get_or starts i 0
    start_old i lt = get_or_append_left starts (length trail ∷ []) 0 i (omega (arith, lt, u.sized))

    start_last : (i : ℕ) → i ≡ length arcs → get_or (starts ++ length trail ∷ []) i 0 ≡ length trail
    start_last i same = get_or_push starts (length trail) 0 i (omega (arith, same, u.sized))

    more_within : (i : ℕ) → stale ≤ i → i < length arcs + 1 → get_or (starts ++ length trail ∷ []) i 0 ≤ length trail
    more_within i from lt = elim (cases_eq i (length arcs)) [
      | inl same ↦ omega (arith, start_last i same)
      | inr less ↦ omega (arith, start_old i (omega (arith, lt, less)), u.within i from (omega (arith, lt, less)))
    ]

    more_each : (left : ℕ) → stale ≤ left → left < length arcs + 1 → AreLengths lowers (take left (arcs ++ a ∷ [])) (restored new (drop (get_or (starts ++ length trail ∷ []) left 0) (trail ++ more)))
    more_each left from lt = elim (cases_eq left (length arcs)) [
      | inl same ↦ rw (start_last left same, drop-append_seam trail more, back, same, take-append_seam arcs (a ∷ [])) are
      | inr differs ↦
          let less : left < length arcs = omega (arith, lt, differs) in
          let same : restored new (drop (get_or starts left 0) (trail ++ more)) ≡ restored lengths (drop (get_or starts left 0) trail) =
          ap (restored new) (drop-append-le (get_or starts left 0) trail more (u.within left from less)) ∙ restored_append new (drop (get_or starts left 0) trail) more ∙ ap (λ z. restored z (drop (get_or starts left 0) trail)) back in
          rw (start_old left less, same, take-append-le left arcs (a ∷ []) (omega (arith, less))) (u.each left from less)
    ]

    pub undone_add : AreUndone lowers (arcs ++ a ∷ []) new (trail ++ more) (starts ++ length trail ∷ []) stale
    undone_add =
        let long = length-append arcs (a ∷ []) in
        record {
          sized = omega (arith, long, length-append starts (length trail ∷ []), u.sized);
          nodes = All-append (λ (c : Change). c.node < length lowers) trail more u.nodes within;
          rises = λ i j from le lt. elim (cases_eq j (length arcs)) [
            | inl same ↦ omega (arith, start_last j same, more_within i from (omega (arith, le, lt, long)))
            | inr less ↦
                let below : j < length arcs = omega (arith, lt, less, long) in
                omega (arith, start_old j below, start_old i (omega (arith, le, below)), u.rises i j from le below)
          ];
          within = λ i from lt. omega (arith, more_within i from (omega (arith, lt, long)), length-append trail more);
          each = λ left from lt. more_each left from (omega (arith, lt, long));
        }

  pub undone_withdraw : (left : ℕ) → stale ≤ left → left < length arcs → AreUndone lowers (take left arcs) (restored lengths (drop (get_or starts left 0) trail)) (take (get_or starts left 0) trail) (take left starts) stale
  undone_withdraw left from lt =
      let start = get_or starts left 0 in
      let kept : length (take left arcs) ≡ left = length-take-le left arcs (omega (arith, lt)) in
      let kept_starts : length (take left starts) ≡ left = length-take-le left starts (omega (arith, lt, u.sized)) in
      let kept_trail : length (take start trail) ≡ start = length-take-le start trail (u.within left from lt) in
      let at : (i : ℕ) → i < left → get_or (take left starts) i 0 ≡ get_or starts i 0 = λ i below. get_or-take left starts i 0 below in
      record {
        sized = omega (arith, kept, kept_starts);
        nodes = All-take (λ (c : Change). c.node < length lowers) start trail u.nodes;
        rises = λ i j low le below. omega (arith, at i (omega (arith, le, below, kept)), at j (omega (arith, below, kept)), u.rises i j low le (omega (arith, below, kept, lt)));
        within = λ i low below. omega (arith, at i (omega (arith, below, kept)), kept_trail, u.rises i left low (omega (arith, below, kept)) lt);
        each = λ i low below.
            let less : i < left = omega (arith, below, kept) in
            let le = u.rises i left low (omega (arith, less)) lt in
            let same : restored (restored lengths (drop start trail)) (drop (get_or starts i 0) (take start trail)) ≡ restored lengths (drop (get_or starts i 0) trail) =
            sym (restored_append lengths (drop (get_or starts i 0) (take start trail)) (drop start trail)) ∙ ap (restored lengths) (sym (drop_split trail (get_or starts i 0) start le (u.within left from lt))) in
            rw (at i less, same, take_take arcs i left (omega (arith, less)) (omega (arith, lt))) (u.each i low (omega (arith, less, lt)));
      }
