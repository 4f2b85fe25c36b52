-- The ends of a walk are kept one by one along the numbers of its operations.
use Rattle.std.proofs.Common.{◌≡◌, ℕ, ◌+◌, ◌<◌, ◌≤◌, List, [], ◌∷◌, ◌++◌, Bool, true, false, Option, Some, None, length, get_or, drop, map, refl, sym, ap, subst, ◌∙◌, append_assoc, arith}
use Rattle.std.specs.Prelude.{if◌then◌else◌}
use Rattle.std.proofs.Math.ListN.{drop_of_length-le}
use Rattle.std.proofs.lemmas.List.{drop_more, length-map, get_or-map}
use Rattle.std.proofs.lemmas.List.Elements.{All-head, All-tail, All-get_or}
use Rattle.disp_model.specs.declared.train.Op.{Op}
use Rattle.disp_model.specs.declared.problem.Problem.{Problem}
use Rattle.disp_model.specs.Numbers.{number_of}
use Rattle.event_windows.specs.Operations.{HasOperation}
use Rattle.event_arcs.proofs.Numbering.{same_by_number}
use Rattle.cost_bound.specs.Shortened.{is_end, ends_from, ends_of, HaveNumbers, AreEndsOver}

-- the operation of a number stands at its place
stands : (problem : Problem) (walk : List Op) (numbers : List ℕ) (i : ℕ) (o : Op)
    → HaveNumbers problem walk numbers → HasOperation problem o → i < length numbers
    → number_of problem o ≡ get_or numbers i 0 → drop i walk ≡ o ∷ drop (i + 1) walk
stands problem walk numbers i o have own lt is = drop_more walk i o within
    ∙ ap (λ (u : Op). u ∷ drop (i + 1) walk) same
  where
    within : i < length walk
    within = omega (
      arith,
      lt,
      ap (λ (l : List ℕ). length l) have.are,
      length-map walk (number_of problem),
    )

    same : get_or walk i o ≡ o
    same = same_by_number problem (get_or walk i o) o
        (All-get_or (HasOperation problem) walk i o within have.there) own
        (sym (get_or-map (number_of problem) walk i o 0 within) ∙ ap (λ (l : List ℕ). get_or l i 0) have.are
        ∙ sym is)

-- the ends so far, before those from an operation on
abbrev pub ArePassed : Problem → ℕ → List ℕ → Option Op → Op → ℕ → List Op → Type 0
ArePassed problem first rest before o i ends = (start : Op) → HasOperation problem start
    → number_of problem start ≡ first → (later : List Op) → HaveNumbers problem later rest
    → ends ++ ends_from before (o ∷ drop i later) ≡ ends_of (start ∷ later)

pub pass_first : (problem : Problem) (first : ℕ) (rest : List ℕ) (o : Op) → HasOperation problem o
    → number_of problem o ≡ first → ArePassed problem first rest None o 0 []
pass_first problem first rest o own is start there number later have =
    ap (λ (u : Op). ends_of (u ∷ later))
    (same_by_number problem o start own there (is ∙ sym number))

one_more : (kept : Bool) (ends behind : List Op) (o : Op)
    → (if kept then ends ++ o ∷ [] else ends) ++ behind
    ≡ ends ++ (if kept then o ∷ behind else behind)
one_more true ends behind o = append_assoc ends (o ∷ []) behind
one_more false ends behind o = refl

pub pass_more : (problem : Problem) (first : ℕ) (rest : List ℕ) (before : Option Op) (o next : Op)
    (i : ℕ) (ends new : List Op) → ArePassed problem first rest before o i ends → i < length rest
    → HasOperation problem next → number_of problem next ≡ get_or rest i 0
    → new ≡ (if is_end before o (Some next) then ends ++ o ∷ [] else ends)
    → ArePassed problem first rest (Some o) next (i + 1) new
pass_more problem first rest before o next i ends new passed lt own is kept start there number later
    have =
    let behind : drop i later ≡ next ∷ drop (i + 1) later =
    stands problem later rest i next have own lt is in
    let whole : ends ++ ends_from before (o ∷ next ∷ drop (i + 1) later) ≡ ends_of (start ∷ later) =
    subst (λ (l : List Op). ends ++ ends_from before (o ∷ l) ≡ ends_of (start ∷ later)) behind
    (passed start there number later have) in
    ap (λ (l : List Op). l ++ ends_from (Some o) (next ∷ drop (i + 1) later)) kept
    ∙ one_more (is_end before o (Some next)) ends (ends_from (Some o) (next ∷ drop (i + 1) later)) o
    ∙ whole

last_end : (before : Option Op) (o : Op) → ends_from before (o ∷ []) ≡ o ∷ []
last_end None o = refl
last_end (Some before) o = refl

pub pass_last : (problem : Problem) (first : ℕ) (rest : List ℕ) (before : Option Op) (o : Op)
    (i : ℕ) (ends new : List Op) → ArePassed problem first rest before o i ends → length rest ≤ i
    → new ≡ ends ++ o ∷ [] → AreEndsOver problem (first ∷ rest) new
pass_last problem first rest before o i ends new passed past kept [] have =
    let none : [] ≡ first ∷ rest = have.are in absurd cc
pass_last problem first rest before o i ends new passed past kept (start ∷ later) have =
    let are : number_of problem start ∷ map (number_of problem) later ≡ first ∷ rest = have.are in
    let number : number_of problem start ≡ first = cc in
    let numbers : map (number_of problem) later ≡ rest = cc in
    let behind : drop i later ≡ [] = drop_of_length-le later (omega (
      arith,
      past,
      ap (λ (l : List ℕ). length l) numbers,
      length-map later (number_of problem),
    )) in
    let whole : ends ++ ends_from before (o ∷ []) ≡ ends_of (start ∷ later) =
    subst (λ (l : List Op). ends ++ ends_from before (o ∷ l) ≡ ends_of (start ∷ later)) behind
    (passed start (All-head (HasOperation problem) start later have.there) number later
    (record {
      there = All-tail (HasOperation problem) start later have.there;
      are = numbers;
    })) in
    kept ∙ ap (λ (l : List Op). ends ++ l) (sym (last_end before o)) ∙ whole

pub pass_none : (problem : Problem) → AreEndsOver problem [] []
pass_none problem [] have = refl
pass_none problem (start ∷ later) have =
    let none : number_of problem start ∷ map (number_of problem) later ≡ [] = have.are in absurd cc
