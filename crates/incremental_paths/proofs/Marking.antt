-- Marks spread along arcs, from the nodes of one place after the other.
use Rattle.std.proofs.Common.{◌≡◌, ℕ, ◌+◌, ◌<◌, ◌⊎◌, inl, inr, Bool, true, false, List, [], ◌∷◌, ◌++◌, length, get_or, set, sym, ap, ◌∙◌, arith, get_or-set_other, get_or-set_same}
use Rattle.std.proofs.lemmas.Bool.{cases_eq, cases_lt, false≢true}
use Rattle.incremental_paths.specs.declared.arc.Arc.{Arc}
use Rattle.incremental_paths.specs.Walks.{FollowsArcs, last_node_from, JoinsPair}
use Rattle.incremental_paths.specs.Ordered.{is_marked}
use Rattle.incremental_paths.specs.Marked.{AreWithin, AreRising, AreMarks}
use Rattle.incremental_paths.proofs.Members.{joined}
use Rattle.incremental_paths.proofs.Walking.{Follows_push, last_push}
use Rattle.incremental_paths.proofs.Pairs.{contains_at}

pub set_still : (M : List Bool) (t v : ℕ) → is_marked M v ≡ true → t < length M → is_marked (set M t true) v ≡ true
set_still M t v m lt = elim (cases_eq v t) [
  | inl same ↦ rw same (get_or-set_same M t true false lt)
  | inr other ↦ get_or-set_other M t v true false other ∙ m
]

pub set_only : (M : List Bool) (t v : ℕ) → is_marked (set M t true) v ≡ true → is_marked M v ≡ true ⊎ (v ≡ t)
set_only M t v m = elim (cases_eq v t) [
  | inl same ↦ inr same
  | inr other ↦ inl (sym (get_or-set_other M t v true false other) ∙ m)
]

-- one arc of the node
abbrev pub IsEnd : List Arc → ℕ → ℕ → Type 0
IsEnd arcs node v = (k : ℕ) × (k < length arcs) × ((d : Arc) → ((get_or arcs k d).from ≡ node) × ((get_or arcs k d).to ≡ v))

module _ (arcs : List Arc) (places : List ℕ) (rising : AreRising arcs places) (start node : ℕ) (M new : List Bool) (marks : AreMarks arcs places start (get_or places node 0) M)
    (only_here : (v : ℕ) → v < length places → get_or places v 0 ≡ get_or places node 0 → v ≡ node) (within : AreWithin (length places) arcs) where
  pub marks_kept : is_marked M node ≡ false → AreMarks arcs places start (get_or places node 0 + 1) M
  marks_kept free = record {
    started = marks.started;
    closed = λ k d lt m low. elim (cases_lt (get_or places (get_or arcs k d).from 0) (get_or places node 0)) [
      | inl less ↦ marks.closed k d lt m less
      | inr le ↦ absurd (false≢true (sym free ∙ ap (is_marked M) (sym (only_here (get_or arcs k d).from (within k d lt).0 (omega (arith, low, le)))) ∙ m))
    ];
    sound = marks.sound;
  }

  module _ (marked : is_marked M node ≡ true) (still : (v : ℕ) → is_marked M v ≡ true → is_marked new v ≡ true)
      (ends : (k : ℕ) (d : Arc) → k < length arcs → (get_or arcs k d).from ≡ node → is_marked new (get_or arcs k d).to ≡ true)
      (only : (v : ℕ) → is_marked new v ≡ true → (is_marked M v ≡ true) ⊎ IsEnd arcs node v) where
    -- an end of an arc of the node is behind the node
    end_above : (v : ℕ) → (d : Arc) → IsEnd arcs node v → get_or places node 0 < get_or places v 0
    end_above v d h =
        let r = rising h.0 d h.1 in
        let e = h.2 d in
        omega (arith, r, ap (λ z. get_or places z 0) e.0, ap (λ z. get_or places z 0) e.1)

    closed_new : (k : ℕ) (d : Arc) → k < length arcs → is_marked new (get_or arcs k d).from ≡ true → get_or places (get_or arcs k d).from 0 < get_or places node 0 + 1 → is_marked new (get_or arcs k d).to ≡ true
    closed_new k d lt m low = elim (cases_lt (get_or places (get_or arcs k d).from 0) (get_or places node 0)) [
      | inl less ↦ elim (only (get_or arcs k d).from m) [
        | inl old ↦ still (get_or arcs k d).to (marks.closed k d lt old less)
        | inr e ↦ absurd (omega (arith, end_above (get_or arcs k d).from d e, less))
      ]
      | inr le ↦ ends k d lt (only_here (get_or arcs k d).from (within k d lt).0 (omega (arith, low, le)))
    ]

    sound_new : (d : Arc) (v : ℕ) → is_marked new v ≡ true → (rest : List ℕ) × FollowsArcs arcs start rest × (last_node_from start rest ≡ v)
    sound_new d v m = elim (only v m) [
      | inl old ↦ marks.sound v old
      | inr h ↦
          let way = marks.sound node marked in
          let e = h.2 d in
          let j : JoinsPair arcs (last_node_from start way.0) v = joined arcs (get_or arcs h.0 d) (last_node_from start way.0) v (contains_at arcs h.0 d h.1) (e.0 ∙ sym way.2) e.1 in
          (way.0 ++ v ∷ [], Follows_push arcs v start way.0 way.1 j, last_push v start way.0)
    ]

    pub marks_more : AreMarks arcs places start (get_or places node 0 + 1) new
    marks_more = record {
      started = still start marks.started;
      closed = closed_new;
      sound = sound_new (record { from = 0; to = 0; length = 0 });
    }
