-- Changes of lengths that are told one after the other.
use Rattle.std.proofs.Common.{◌≡◌, ℕ, ◌+◌, ◌-◌, ◌<◌, ◌⊎◌, ◌↔◌, true, false, List, [], ◌∷◌, ◌++◌, inl, inr, length, get_or, set, map, refl, sym, ap, ◌∙◌, subst, arith, Contains, get_or-set_other, get_or-set_same}
use Rattle.std.proofs.lemmas.Bool.{cases_eq, cases_lt, false≢true}
use Rattle.std.proofs.lemmas.List.{length-append, length-map, map-append, get_or_append_left, get_or-append_right, append_assoc, append-nil, length-set, set-get_or, set-set}
use Rattle.incremental_paths.specs.declared.changes.Change.{Change}
use Rattle.incremental_paths.specs.NodeSets.{Members}
use Rattle.incremental_paths.specs.Spread.{restored, Told, TellsMore}

pub restored_append : (lengths : List ℕ) (xs ys : List Change) → restored lengths (xs ++ ys) ≡ restored (restored lengths ys) xs
restored_append lengths [] ys = refl
restored_append lengths (x ∷ xs) ys = ap (λ z. set z x.node x.before) (restored_append lengths xs ys)

pub tells_none : (told : Told) (lengths : List ℕ) → TellsMore told told lengths lengths
tells_none told lengths = record {
  still = λ e. e;
  more = [];
  all = λ e. sym (append-nil told.entries);
  undone = λ e. refl;
  sized = refl;
  within = λ i lt. absurd (omega (arith, lt));
  room = refl;
  grows = λ v. omega arith;
  still_grown = λ v has. has;
  all_grown = λ v more. absurd (omega (arith, more));
  only_grown = λ v has. inl has;
  each = λ v e other. absurd (other refl);
}

zero_below : (i : ℕ) → i < 1 → i ≡ 0
zero_below i lt = omega (arith, lt)

-- one more change is told, of one length that is set
pub tells_one : (old new : Told) (lengths : List ℕ) (node value : ℕ) → node < length lengths → get_or lengths node 0 < value
    → (new.lost ≡ false → old.lost ≡ false) → (new.lost ≡ false → new.entries ≡ old.entries ++ record { node = node; before = get_or lengths node 0 } ∷ [])
    → new.grown.size ≡ old.grown.size → ((v : ℕ) → Contains new.grown.listed v ↔ (Contains old.grown.listed v ⊎ (v ≡ node))) → TellsMore old new lengths (set lengths node value)
tells_one old new lengths node value lt above still told room grown =
    let here = get_or-set_same lengths node value 0 lt in
    let there : (v : ℕ) → (v ≡ node → ⊥) → get_or (set lengths node value) v 0 ≡ get_or lengths v 0 = λ v other. get_or-set_other lengths node v value 0 other in
    record {
      still = still;
      more = record { node = node; before = get_or lengths node 0 } ∷ [];
      all = told;
      undone = λ e. set-set lengths node value (get_or lengths node 0) ∙ set-get_or lengths node 0;
      sized = length-set lengths node value;
      within = λ i below. rw (zero_below i below) lt;
      room = room;
      grows = λ v. elim (cases_eq v node) [ inl same ↦ rw same (omega (arith, here, above)) | inr other ↦ omega (arith, there v other) ];
      still_grown = λ v has. (grown v).1 (inl has);
      all_grown = λ v more. elim (cases_eq v node) [ inl same ↦ (grown v).1 (inr same) | inr other ↦ absurd (omega (arith, more, there v other)) ];
      only_grown = λ v has. elim ((grown v).0 has) [ inl before ↦ inl before | inr same ↦ inr (rw same (omega (arith, here, above))) ];
      each = λ v e differs. elim (cases_eq v node) [ inl same ↦ (0, omega arith, sym same) | inr other ↦ absurd (differs (sym (there v other))) ];
    }

-- what was told stays so where the changes are lost
pub tells_lost : (old told new : Told) (before after : List ℕ) → TellsMore old told before after → new.lost ≡ true → new.grown ≡ told.grown → TellsMore old new before after
tells_lost old told new before after tells lost same = record {
  still = λ e. absurd (false≢true (sym e ∙ lost));
  more = tells.more;
  all = λ e. absurd (false≢true (sym e ∙ lost));
  undone = λ e. absurd (false≢true (sym e ∙ lost));
  sized = tells.sized;
  within = tells.within;
  room = ap (λ (m : Members). m.size) same ∙ tells.room;
  grows = tells.grows;
  still_grown = λ v has. subst (λ (m : Members). Contains m.listed v) (sym same) (tells.still_grown v has);
  all_grown = λ v more. subst (λ (m : Members). Contains m.listed v) (sym same) (tells.all_grown v more);
  only_grown = λ v has. tells.only_grown v (subst (λ (m : Members). Contains m.listed v) same has);
  each = λ v e differs. absurd (false≢true (sym e ∙ lost));
}

abbrev nodes : List Change → List ℕ
nodes changes = map (λ c. c.node) changes

module _ (xs ys : List Change) where
  pub node_first : (i : ℕ) → i < length xs → get_or (map (λ (c : Change). c.node) (xs ++ ys)) i 0 ≡ get_or (map (λ (c : Change). c.node) xs) i 0
  node_first i lt = ap (λ l. get_or l i 0) (map-append (λ (c : Change). c.node) xs ys) ∙ get_or_append_left (nodes xs) (nodes ys) 0 i (omega (arith, lt, length-map xs (λ (c : Change). c.node)))

  pub node_behind : (i : ℕ) → get_or (map (λ (c : Change). c.node) (xs ++ ys)) (length xs + i) 0 ≡ get_or (map (λ (c : Change). c.node) ys) i 0
  node_behind i =
      let back : length xs + i - length xs ≡ i = omega arith in
      ap (λ l. get_or l (length xs + i) 0) (map-append (λ (c : Change). c.node) xs ys) ∙ get_or-append_right (nodes xs) (nodes ys) (length xs) (length xs + i) 0 (length-map xs (λ (c : Change). c.node)) (omega arith) ∙ ap (λ j. get_or (nodes ys) j 0) back

pub tells_both : (a b c : Told) (x y z : List ℕ) → TellsMore a b x y → TellsMore b c y z → TellsMore a c x z
tells_both a b c x y z p q = record {
  still = λ e. p.still (q.still e);
  more = p.more ++ q.more;
  all = λ e. q.all e ∙ ap (λ l. l ++ q.more) (p.all (q.still e)) ∙ append_assoc a.entries p.more q.more;
  undone = λ e. restored_append z p.more q.more ∙ ap (λ l. restored l p.more) (q.undone e) ∙ p.undone (q.still e);
  sized = q.sized ∙ p.sized;
  within = λ i lt. elim (cases_lt i (length p.more)) [
    | inl first ↦ omega (arith, p.within i first, node_first p.more q.more i first)
    | inr behind ↦
        let j = i - length p.more in
        let back : length p.more + j ≡ i = omega (arith, behind) in
        let e = ap (λ k. get_or (nodes (p.more ++ q.more)) k 0) back in
        omega (arith, q.within j (omega (arith, lt, behind, length-append p.more q.more)), node_behind p.more q.more j, e, p.sized)
  ];
  room = q.room ∙ p.room;
  grows = λ v. omega (arith, p.grows v, q.grows v);
  still_grown = λ v has. q.still_grown v (p.still_grown v has);
  all_grown = λ v more. elim (cases_lt (get_or x v 0) (get_or y v 0)) [
    | inl first ↦ q.still_grown v (p.all_grown v first)
    | inr le ↦ q.all_grown v (omega (arith, more, le))
  ];
  only_grown = λ v has. elim (q.only_grown v has) [
    | inl before ↦ elim (p.only_grown v before) [ inl first ↦ inl first | inr more ↦ inr (omega (arith, more, q.grows v)) ]
    | inr more ↦ inr (omega (arith, more, p.grows v))
  ];
  each = λ v e other. elim (cases_eq (get_or y v 0) (get_or z v 0)) [
    | inl same ↦ let h = p.each v (q.still e) (λ s. other (s ∙ same)) in (h.0, omega (arith, h.1, length-append p.more q.more), node_first p.more q.more h.0 h.1 ∙ h.2)
    | inr differ ↦ let h = q.each v e differ in (length p.more + h.0, omega (arith, h.1, length-append p.more q.more), node_behind p.more q.more h.0 ∙ h.2)
  ];
}
