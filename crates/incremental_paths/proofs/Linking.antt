-- Threads with a node more, and with the last one taken away.
use Rattle.std.proofs.Common.{◌≡◌, ◌≢◌, ℕ, ◌+◌, ◌-◌, ◌<◌, ◌≤◌, List, [], ◌∷◌, ◌++◌, inl, inr, length, get_or, set, take, sym, ap, ◌∙◌, subst, arith, get_or-set_other, get_or-set_same}
use Rattle.std.proofs.lemmas.List.{get_or_push, get_or_append_left, get_or-take, get_or-map, map-append, take-map, length-map, length-set, length-append, length-take-le}
use Rattle.std.proofs.lemmas.Bool.{cases_eq}
use Rattle.incremental_paths.specs.declared.threads.Link.{Link}
use Rattle.incremental_paths.specs.Threaded.{IsFront}
use Rattle.incremental_paths.specs.Linked.{AreLinked, keys_of}

module _ (K : List ℕ) (x : ℕ) where
  front_more : (k v front : ℕ) → k ≤ length K → IsFront K k v front → IsFront (K ++ x ∷ []) k v front
  front_more k v front le f = record {
    within = f.within;
    last = λ some. get_or_append_left K (x ∷ []) 0 (front - 1) (omega (arith, f.within, le, some)) ∙ f.last some;
    none_behind = λ i from lt e. f.none_behind i from lt (sym (get_or_append_left K (x ∷ []) 0 i (omega (arith, le, lt))) ∙ e);
  }

  front_here : IsFront (K ++ x ∷ []) (length K + 1) x (length K + 1)
  front_here = record {
    within = omega arith;
    last = λ some. get_or_push K x 0 (length K + 1 - 1) (omega arith);
    none_behind = λ i from lt. absurd (omega (arith, from, lt));
  }

  front_other : (v front : ℕ) → v ≢ x → IsFront K (length K) v front → IsFront (K ++ x ∷ []) (length K + 1) v front
  front_other v front other f =
      let g = front_more (length K) v front (omega arith) f in
      record {
        within = omega (arith, f.within);
        last = g.last;
        none_behind = λ i from lt. elim (cases_eq i (length K)) [
          | inl same ↦ λ e. other (sym e ∙ get_or_push K x 0 i (sym same))
          | inr less ↦ g.none_behind i from (omega (arith, lt, less))
        ];
      }

front_take : (K : List ℕ) (n k v front : ℕ) → k ≤ n → IsFront K k v front → IsFront (take n K) k v front
front_take K n k v front le f = record {
  within = f.within;
  last = λ some. get_or-take n K (front - 1) 0 (omega (arith, f.within, le, some)) ∙ f.last some;
  none_behind = λ i from lt e. f.none_behind i from lt (sym (get_or-take n K i 0 (omega (arith, le, lt))) ∙ e);
}

front_less : (K : List ℕ) (n v front : ℕ) → get_or K n 0 ≢ v → IsFront K (n + 1) v front → IsFront K n v front
front_less K n v front other f =
    let apart : front ≢ n + 1 = λ e. other (subst (λ z. get_or K z 0 ≡ v) (omega (arith, e)) (f.last (omega (arith, e)))) in
    record {
      within = omega (arith, f.within, apart);
      last = f.last;
      none_behind = λ i from lt. f.none_behind i from (omega (arith, lt));
    }

key_at : (links : List Link) (k : ℕ) (d : Link) → k < length links → get_or (keys_of links) k 0 ≡ (get_or links k d).node
key_at links k d lt = get_or-map (λ (l : Link). l.node) links k d 0 lt

module _ (fronts : List ℕ) (links : List Link) (are : AreLinked fronts links) where
  module _ (node : ℕ) (in_size : node < length fronts) where
    new : Link
    new = record { node = node; before = get_or fronts node 0 }

    keys_grow : keys_of (links ++ new ∷ []) ≡ keys_of links ++ node ∷ []
    unfolding new
    keys_grow = map-append (λ (l : Link). l.node) links (new ∷ [])

    as_many : length (keys_of links) ≡ length links
    as_many = length-map links (λ (l : Link). l.node)

    grown_within : (k : ℕ) → k < length links + 1 → get_or (keys_of links ++ node ∷ []) k 0 < length fronts
    grown_within k lt = elim (cases_eq k (length links)) [
      | inl same ↦ omega (arith, in_size, get_or_push (keys_of links) node 0 k (omega (arith, same, as_many)))
      | inr less ↦ omega (arith, are.within k (omega (arith, lt, less)), get_or_append_left (keys_of links) (node ∷ []) 0 k (omega (arith, lt, less, as_many)))
    ]

    grown_lasts : (v : ℕ) → v < length fronts → IsFront (keys_of links ++ node ∷ []) (length links + 1) v (get_or (set fronts node (length links + 1)) v 0)
    grown_lasts v lt = elim (cases_eq v node) [
      | inl same ↦
          let here = rw as_many at (front_here (keys_of links) node) in
          rw same (rw (get_or-set_same fronts node (length links + 1) 0 in_size) here)
      | inr other ↦
          let old = rw (← as_many) at (are.lasts v lt) in
          let g = rw as_many at (front_other (keys_of links) node v (get_or fronts v 0) other old) in
          rw (get_or-set_other fronts node v (length links + 1) 0 other) g
    ]

    grown_befores : (k : ℕ) (d : Link) → k < length links + 1 → IsFront (keys_of links ++ node ∷ []) k (get_or (keys_of links ++ node ∷ []) k 0) (get_or (links ++ new ∷ []) k d).before
    unfolding new
    grown_befores k d lt = elim (cases_eq k (length links)) [
      | inl same ↦
          let old = front_more (keys_of links) node (length links) node (get_or fronts node 0) (omega (arith, as_many)) (are.lasts node in_size) in
          rw (get_or_push links new d k (sym same), get_or_push (keys_of links) node 0 k (as_many ∙ sym same), same) old
      | inr other ↦
          let less : k < length links = omega (arith, lt, other) in
          let old = front_more (keys_of links) node k (get_or (keys_of links) k 0) (get_or links k d).before (omega (arith, less, as_many)) (are.befores k d less) in
          rw (get_or_append_left links (new ∷ []) d k less, get_or_append_left (keys_of links) (node ∷ []) 0 k (omega (arith, less, as_many))) old
    ]

    grown : AreLinked (set fronts node (length links + 1)) (links ++ new ∷ [])
    unfolding new
    grown = record {
      within = λ k lt. rw (keys_grow, length-set fronts node (length links + 1)) (grown_within k (omega (arith, lt, length-append links (new ∷ []))));
      lasts = λ v lt. rw (keys_grow, length-append links (new ∷ [])) (grown_lasts v (omega (arith, lt, length-set fronts node (length links + 1))));
      befores = λ k d lt. rw keys_grow (grown_befores k d (omega (arith, lt, length-append links (new ∷ []))));
    }

    pub linked_push : AreLinked (set fronts node (length links + 1)) (links ++ record { node = node; before = get_or fronts node 0 } ∷ [])
    unfolding new
    linked_push = grown

  module _ (n : ℕ) (one : n + 1 ≡ length links) (last : Link) (is_last : get_or links n last ≡ last) where
    K : List ℕ
    K = keys_of links

    last_key : get_or (keys_of links) n 0 ≡ last.node
    last_key = key_at links n last (omega (arith, one)) ∙ ap (λ z. z.node) is_last

    cut : keys_of (take n links) ≡ take n (keys_of links)
    cut = sym (take-map (λ (l : Link). l.node) n links)

    cut_long : length (take n links) ≡ n
    cut_long = length-take-le n links (omega (arith, one))

    cut_lasts : (v : ℕ) → v < length fronts → IsFront (take n (keys_of links)) n v (get_or (set fronts last.node last.before) v 0)
    cut_lasts v lt = elim (cases_eq v last.node) [
      | inl same ↦
          let here = rw (last_key, is_last) at (are.befores n last (omega (arith, one))) in
          let in_size : last.node < length fronts = omega (arith, lt, same) in
          rw same (rw (get_or-set_same fronts last.node last.before 0 in_size) (front_take (keys_of links) n n last.node last.before (omega arith) here))
      | inr other ↦
          let old = rw (sym one) at (are.lasts v lt) in
          rw (get_or-set_other fronts last.node v last.before 0 other)
          (front_take (keys_of links) n n v (get_or fronts v 0) (omega arith) (front_less (keys_of links) n v (get_or fronts v 0) (λ e. other (sym e ∙ last_key)) old))
    ]

    pub linked_pop : AreLinked (set fronts last.node last.before) (take n links)
    linked_pop = record {
      within = λ k lt.
          let less : k < n = omega (arith, lt, cut_long) in
          rw (cut, length-set fronts last.node last.before, get_or-take n (keys_of links) k 0 less) (are.within k (omega (arith, less, one)));
      lasts = λ v lt. rw (cut, cut_long) (cut_lasts v (omega (arith, lt, length-set fronts last.node last.before)));
      befores = λ k d lt.
          let less : k < n = omega (arith, lt, cut_long) in
          rw (cut, get_or-take n (keys_of links) k 0 less, get_or-take n links k d less)
          (front_take (keys_of links) n k (get_or (keys_of links) k 0) (get_or links k d).before (omega (arith, less)) (are.befores k d (omega (arith, less, one))));
    }
