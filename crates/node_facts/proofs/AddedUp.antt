-- What listed items cost together, one item after another, as far as 128 bits hold it.
use Rattle.std.proofs.Common.{◌≡◌, ℕ, suc, ◌+◌, ◌<◌, ◌≤◌, List, [], ◌∷◌, length, get_or, drop, drop-cons, arith, refl, sym, subst}
use Rattle.std.proofs.lemmas.List.{drop_all}
use Rattle.node_facts.specs.Costs.{capped}

-- how sums over lists come of what each item costs
pub record AreSums {A : Type 0} (Costs : A → ℕ → Type 0) (Sums : List A → ℕ → Type 0) : Type 0 where
  pub nothing : Sums [] 0
  pub joined : (x : A) (xs : List A) (cost rest : ℕ) → Costs x cost → Sums xs rest → Sums (x ∷ xs) (cost + rest)
  pub parted : (x : A) (xs : List A) (sum : ℕ) → Sums (x ∷ xs) sum → (cost : ℕ) × (rest : ℕ) × Costs x cost × Sums xs rest

-- what the first items cost together, and what that says of all
pub record AreAddedUp {A : Type 0} (Sums : List A → ℕ → Type 0) (items : List A) (i total : ℕ) : Type 0 where
  pub done : ℕ
  pub total_is : total ≡ capped done
  pub whole : (rest : ℕ) → Sums (drop i items) rest → Sums items (done + rest)
  pub parts : (sum : ℕ) → Sums items sum → (rest : ℕ) × Sums (drop i items) rest

pub none_added_up : {A : Type 0} (Sums : List A → ℕ → Type 0) (items : List A) → AreAddedUp Sums items 0 0
none_added_up Sums items = record { done = 0; total_is = refl; whole = λ rest sums. let same : rest ≡ 0 + rest = omega arith in subst (Sums items) same sums; parts = λ sum sums. (sum, sums) }

dropped : {A : Type 0} (items : List A) (i : ℕ) (x : A) → i < length items → x ≡ get_or items i x → drop i items ≡ x ∷ drop (i + 1) items
dropped {A} items i x lt is =
    let next : suc i ≡ i + 1 = omega arith in
    subst (λ (v : A). drop i items ≡ v ∷ drop (i + 1) items) (sym is) (subst (λ (n : ℕ). drop i items ≡ get_or items i x ∷ drop n items) next (drop-cons items i x lt))

pub added_up_more : {A : Type 0} (Costs : A → ℕ → Type 0) (Sums : List A → ℕ → Type 0) (items : List A) (i total : ℕ) (x : A) (cost price more : ℕ) → AreSums Costs Sums → i < length items → x ≡ get_or items i x → AreAddedUp Sums items i total
    → Costs x cost → price ≡ capped cost → more ≡ capped (total + price) → AreAddedUp Sums items (i + 1) more
added_up_more {A} Costs Sums items i total x cost price more are lt is before costs price_is more_is = record {
  done = before.done + cost;
  total_is = omega (arith, more_is, before.total_is, price_is);
  whole = λ rest sums.
      let here : Sums (drop i items) (cost + rest) = subst (λ (l : List A). Sums l (cost + rest)) (sym (dropped items i x lt is)) (are.joined x (drop (i + 1) items) cost rest costs sums) in
      let same : before.done + (cost + rest) ≡ before.done + cost + rest = omega arith in
      subst (Sums items) same (before.whole (cost + rest) here);
  parts = λ sum sums.
      let part = before.parts sum sums in
      let here = are.parted x (drop (i + 1) items) part.0 (subst (λ (l : List A). Sums l part.0) (dropped items i x lt is) part.1) in
      (here.1, here.3);
}

-- an item without a cost leaves the whole without a sum
pub no_sum : {A : Type 0} (Costs : A → ℕ → Type 0) (Sums : List A → ℕ → Type 0) (items : List A) (i total : ℕ) (x : A) → AreSums Costs Sums → i < length items → x ≡ get_or items i x → AreAddedUp Sums items i total
    → ((cost : ℕ) → Costs x cost → ⊥) → (sum : ℕ) → Sums items sum → ⊥
no_sum {A} Costs Sums items i total x are lt is before none sum sums =
    let part = before.parts sum sums in
    let here = are.parted x (drop (i + 1) items) part.0 (subst (λ (l : List A). Sums l part.0) (dropped items i x lt is) part.1) in
    none here.0 here.2

pub all_added_up : {A : Type 0} (Costs : A → ℕ → Type 0) (Sums : List A → ℕ → Type 0) (items : List A) (i total : ℕ) → AreSums Costs Sums → length items ≤ i → AreAddedUp Sums items i total → (sum : ℕ) × Sums items sum × (total ≡ capped sum)
all_added_up {A} Costs Sums items i total are past before = (before.done + 0, before.whole 0 (subst (λ (l : List A). Sums l 0) (sym (drop_all i items past)) are.nothing), omega (arith, before.total_is))
