-- What is left where a stop is taken out, and what is arranged then.
use Rattle.std.proofs.Common.{◌≡◌, ◌≢◌, ℕ, ◌+◌, ◌<◌, Bool, true, false, List, [], ◌∷◌, ◌++◌, length, get_or, take, set, sym, ap, subst, ◌∙◌, arith, inl, inr, Contains, get_or-set_other, get_or-set_same}
use Rattle.std.specs.List.{remove}
use Rattle.std.specs.List.Sorted.{IsPermutation}
use Rattle.std.proofs.lemmas.Bool.{cases_eq, false≢true}
use Rattle.std.proofs.lemmas.List.{length-set, take_more}
use Rattle.std.proofs.lemmas.List.Elements.{All-tail, Contains-push, Contains-push_cases, Contains-append_left}
use Rattle.std.proofs.lemmas.List.Quantifiers.{all_pairs_remove}
use Rattle.std.proofs.lemmas.List.Sorted.{IsPermutation-refl, IsPermutation-sym, IsPermutation-cons, IsPermutation-remove, IsPermutation-pop_more, All-permutation, Contains-permutation}
use Rattle.disp_model.specs.Earliest.{ComesBefore}
use Rattle.incremental_paths.specs.declared.arc.Arc.{Arc}
use Rattle.incremental_paths.specs.Network.{Network}
use Rattle.incremental_paths.proofs.Members.{Contains-cons_cases, Contains-there}
use Rattle.plan_builder.specs.declared.stop.Stop.{Stop}
use Rattle.plan_builder.specs.Stops.{AreOnce, AreMarkedNodes, IsFirstFree, AreStopsArranged, AreStopsLeft}
use Rattle.plan_builder.proofs.Counting.{once_moved, once_rest, apart}

-- ---- what is left

waiting_left : (rest left : List Stop) (s : Stop) (marks : List Bool) → IsPermutation rest (s ∷ left) → AreOnce (s ∷ left) → s.node < length marks → AreMarkedNodes rest marks → AreMarkedNodes left (set marks s.node false)
waiting_left rest left s marks moved once within waiting = record {
  each = λ r there.
      get_or-set_other marks s.node r.node false false (apart s left once r there) ∙ waiting.each r (Contains-permutation (s ∷ left) rest r (IsPermutation-sym rest (s ∷ left) moved) (Contains-there s r left there));
  only = λ k marked. elim (cases_eq k s.node) [
    | inl same ↦ absurd (false≢true (sym (ap (λ (n : ℕ). get_or (set marks s.node false) n false) same ∙ get_or-set_same marks s.node false false within) ∙ marked))
    | inr differs ↦ still k differs (waiting.only k (sym (get_or-set_other marks s.node k false false differs) ∙ marked))
  ];
}
  where
    still : (k : ℕ) → k ≢ s.node → (r : Stop) × Contains rest r × (r.node ≡ k) → (r : Stop) × Contains left r × (r.node ≡ k)
    still k differs (r, there, at) = elim (Contains-cons_cases s r left (Contains-permutation rest (s ∷ left) r moved there)) [
      | inl same ↦ absurd (differs (sym at ∙ sym (ap (λ (x : Stop). x.node) same)))
      | inr later ↦ (r, later, at)
    ]

pub left_after : (network : Network) (rest : List Stop) (marks : List Bool) (place : ℕ) (s : Stop) → place < length rest → s ≡ get_or rest place s → AreStopsLeft network rest marks → AreStopsLeft network (remove rest place) (set marks s.node false)
left_after network rest marks place s within is left =
    let moved = IsPermutation-remove rest place s within is in
    let once = once_moved rest (s ∷ remove rest place) moved left.once in
    let nodes = All-permutation (λ (r : Stop). r.node < length network.lowers) rest (s ∷ remove rest place) moved left.nodes in
    record {
      nodes = All-tail (λ (r : Stop). r.node < length network.lowers) s (remove rest place) nodes;
      once = once_rest s (remove rest place) once;
      falling = all_pairs_remove (λ s t. ComesBefore s.event t.event → ⊥) rest place within left.falling;
      size = length-set marks s.node false ∙ left.size;
      waiting = waiting_left rest (remove rest place) s marks moved once (omega (arith, nodes 0 s (omega arith), left.size)) left.waiting;
    }

-- ---- what is arranged

first_moved : (arcs : List Arc) (xs ys : List Stop) (s : Stop) → IsPermutation xs ys → IsFirstFree arcs xs s → IsFirstFree arcs ys s
first_moved arcs xs ys s moved is =
    let back = IsPermutation-sym xs ys moved in
    record {
      free = λ blocked. is.free (blocked.0, Contains-permutation ys xs blocked.0 back blocked.1, blocked.2);
      first = λ other there not before. is.first other (Contains-permutation ys xs other back there) (λ blocked. not (blocked.0, Contains-permutation xs ys blocked.0 moved blocked.1, blocked.2)) before;
    }

pub arranged_more : (arcs : List Arc) (plan rest left : List Stop) (s : Stop) → IsPermutation rest (s ∷ left) → IsFirstFree arcs rest s → AreStopsArranged arcs plan rest → AreStopsArranged arcs (plan ++ s ∷ []) left
arranged_more arcs [] rest left s moved first arranged = (first_moved arcs rest (s ∷ left) s moved first, tt)
arranged_more arcs (r ∷ plan) rest left s moved first arranged = (
  first_moved arcs (r ∷ plan ++ rest) (r ∷ (plan ++ s ∷ []) ++ left) r (IsPermutation-cons r (plan ++ rest) ((plan ++ s ∷ []) ++ left) (IsPermutation-pop_more (plan ++ rest) plan rest left s (IsPermutation-refl (plan ++ rest)) moved)) arranged.0,
  arranged_more arcs plan rest left s moved first arranged.1,
)

-- ---- marks of the stops, one after the other

pub waiting_more : (stops : List Stop) (marks : List Bool) (i : ℕ) (e : Stop) → i < length stops → (get_or stops i e).node < length marks → AreMarkedNodes (take i stops) marks
    → AreMarkedNodes (take (i + 1) stops) (set marks (get_or stops i e).node true)
waiting_more stops marks i e lt within waiting = subst (λ (l : List Stop). AreMarkedNodes l (set marks s.node true)) (sym (take_more stops i e lt)) (record {
  each = λ r there. elim (Contains-push_cases (take i stops) s r there) [
    | inl before ↦ elim (cases_eq r.node s.node) [
      | inl same ↦ ap (λ (n : ℕ). get_or (set marks s.node true) n false) same ∙ get_or-set_same marks s.node true false within
      | inr differs ↦ get_or-set_other marks s.node r.node true false differs ∙ waiting.each r before
    ]
    | inr same ↦ ap (λ (x : Stop). get_or (set marks s.node true) x.node false) (sym same) ∙ get_or-set_same marks s.node true false within
  ];
  only = λ k marked. elim (cases_eq k s.node) [
    | inl same ↦ (s, Contains-push (take i stops) s, sym same)
    | inr differs ↦ (let found = waiting.only k (sym (get_or-set_other marks s.node k true false differs) ∙ marked) in (found.0, Contains-append_left (take i stops) (s ∷ []) found.0 found.1, found.2))
  ];
})
  where
    s : Stop
    s = get_or stops i e
