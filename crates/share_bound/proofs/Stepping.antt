-- Chains and ways along rows, and what the operations of a row change.
use Rattle.std.proofs.Common.{◌≡◌, ℕ, zero, suc, ◌+◌, ◌-◌, ◌<◌, ◌≤◌, ◌⊎◌, List, [], ◌∷◌, ◌++◌, length, take, get_or, set, Option, Some, None, refl, sym, ap, subst, ◌∙◌, inl, inr, arith}
use Rattle.std.specs.Prelude.{slice_get, Contains, All, min}
use Rattle.std.specs.Option.{option_map_or}
use Rattle.std.proofs.lemmas.Bool.{cases_lt}
use Rattle.std.proofs.lemmas.Option.{none-some, same_Some, slice_get-get_or, slice_get_within}
use Rattle.std.proofs.lemmas.List.{length-set, take_more}
use Rattle.std.proofs.lemmas.List.Elements.{Contains-get_or, Contains-append_left, Contains-push, Contains-push_cases}
use Rattle.disp_model.specs.declared.train.Operation.{Operation}
use Rattle.disp_model.specs.Train.{duration_of}
use Rattle.disp_laws.proofs.Paths.{IsIn}
use Rattle.train_orders.proofs.Places.{contains_none, set_at, set_elsewhere, same_number}
use Rattle.train_orders.proofs.Ordered.{contains_here}
use Rattle.route_marks.specs.Ways.{StepsAlong, Goes, Chain, last_of}
use Rattle.route_marks.specs.Marks.{IsLaid, lowered, Relaxes, IsLowest}

-- ---- chains and ways

pub chain_more : (order : List ℕ) (rows : List (List ℕ)) (o : ℕ) (front : List ℕ) (z s : ℕ)
    → Chain order rows o front z → StepsAlong order rows z s → Chain order rows o (front ++ z ∷ []) s
chain_more order rows o [] z s chain step = (chain, (s, step, refl))
chain_more order rows o (p ∷ front) z s chain step = (
  chain.0,
  (chain.1.0, chain.1.1, chain_more order rows chain.1.0 front z s chain.1.2 step),
)

pub record LastStep (order : List ℕ) (rows : List (List ℕ)) (o : ℕ) (front : List ℕ) (z : ℕ) : Type
    0 where
  pub before : List ℕ
  pub op : ℕ
  pub is : front ≡ before ++ op ∷ []
  pub chain : Chain order rows o before op
  pub steps : StepsAlong order rows op z

pub chain_last : (order : List ℕ) (rows : List (List ℕ)) (o : ℕ) (front : List ℕ) (z : ℕ)
    → Chain order rows o front z → ((front ≡ []) × (o ≡ z)) ⊎ LastStep order rows o front z
chain_last order rows o [] z chain = inl (refl, chain)
chain_last order rows o (p ∷ front) z chain = by (chain_last order rows chain.1.0 front z chain.1.2)
  where
    by : ((front ≡ []) × (chain.1.0 ≡ z)) ⊎ LastStep order rows chain.1.0 front z
        → ((p ∷ front ≡ []) × (o ≡ z)) ⊎ LastStep order rows o (p ∷ front) z
    by (inl h) = inr
        (record {
          before = [];
          op = p;
          is = ap (λ (l : List ℕ). p ∷ l) h.0;
          chain = chain.0;
          steps = subst (λ (x : ℕ). StepsAlong order rows p x) h.1 chain.1.1;
        })
    by (inr last) = inr
        (record {
          before = p ∷ last.before;
          op = last.op;
          is = ap (λ (l : List ℕ). p ∷ l) last.is;
          chain = (chain.0, (chain.1.0, chain.1.1, last.chain));
          steps = last.steps;
        })

pub steps_row : (train : List Operation) (order : List ℕ) (rows : List (List ℕ)) (k o s : ℕ)
    (row : List ℕ) → IsLaid train order rows → slice_get order k ≡ Some o
    → slice_get rows k ≡ Some row → StepsAlong order rows o s → Contains row s
steps_row train order rows k o s row laid here row_is step =
    let place : step.place ≡ k = laid.one_place step.place k o step.here here in
    let same : step.row ≡ row = same_Some step.row row (sym step.row_is
    ∙ subst (λ (n : ℕ). slice_get rows n ≡ Some row) (sym place) row_is) in
    subst (λ (l : List ℕ). Contains l s) same step.has

pub row_steps : (order : List ℕ) (rows : List (List ℕ)) (k o s : ℕ) (row : List ℕ)
    → slice_get order k ≡ Some o → slice_get rows k ≡ Some row → Contains row s
    → StepsAlong order rows o s
row_steps order rows k o s row here row_is has = record {
  place = k;
  row = row;
  here = here;
  row_is = row_is;
  has = has;
}

pub row_within : (train : List Operation) (order : List ℕ) (rows : List (List ℕ)) (k o : ℕ)
    (row : List ℕ) → IsLaid train order rows → slice_get order k ≡ Some o
    → slice_get rows k ≡ Some row → All (λ s. s < length train) row
row_within train order rows k o row laid here row_is i d lt =
    let next = laid.down k o (get_or row i d) here
    (row_steps order rows k o (get_or row i d) row here row_is (Contains-get_or row i d lt)) in
    laid.within next.0 (get_or row i d) next.2

no_steps : (train : List Operation) (order : List ℕ) (rows : List (List ℕ)) (k o : ℕ)
    → IsLaid train order rows → slice_get order k ≡ Some o → slice_get rows k ≡ Some []
    → Goes order rows o []
no_steps train order rows k o laid here row_is = λ s step. contains_none s
    (steps_row train order rows k o s [] laid here row_is step)

row_goes : (train : List Operation) (order : List ℕ) (rows : List (List ℕ)) (k o : ℕ)
    → IsLaid train order rows → slice_get order k ≡ Some o
    → ((j s : ℕ) → j < k → slice_get order j ≡ Some s → (rest : List ℕ) × Goes order rows s rest)
    → (row : List ℕ) → slice_get rows k ≡ Some row → (rest : List ℕ) × Goes order rows o rest
row_goes train order rows k o laid here before [] row_is =
    ([], no_steps train order rows k o laid here row_is)
row_goes train order rows k o laid here before (s ∷ row) row_is =
    let step = row_steps order rows k o s (s ∷ row) here row_is (contains_here s row) in
    let next = laid.down k o s here step in
    let way = before next.0 s next.1 next.2 in
    (s ∷ way.0, (step, way.1))

goes_within : (n : ℕ) (train : List Operation) (order : List ℕ) (rows : List (List ℕ)) (k o : ℕ)
    → k < n → IsLaid train order rows → slice_get order k ≡ Some o → (rest : List ℕ)
    × Goes order rows o rest
goes_within zero train order rows k o less laid here = absurd (omega (arith, less))
goes_within (suc n) train order rows k o less laid here =
    row_goes train order rows k o laid here
    (λ j s lower on. goes_within n train order rows j s (omega (arith, less, lower)) laid on)
    (get_or rows k [])
    (slice_get-get_or rows k [] (omega (arith, laid.long, slice_get_within order k o here)))

pub goes_on : (train : List Operation) (order : List ℕ) (rows : List (List ℕ)) (k o : ℕ)
    → IsLaid train order rows → slice_get order k ≡ Some o → (rest : List ℕ)
    × Goes order rows o rest
goes_on train order rows k o laid here = goes_within (k + 1) train order rows k o (omega arith) laid
    here

pub goes_below : (train : List Operation) (order : List ℕ) (rows : List (List ℕ)) (k o : ℕ)
    (rest : List ℕ) → IsLaid train order rows → slice_get order k ≡ Some o → Goes order rows o rest
    → (q : ℕ) → IsIn q (o ∷ rest) → (j : ℕ) × (j ≤ k) × (slice_get order j ≡ Some q)
goes_below train order rows k o rest laid here goes q (inl same) = (
  k,
  omega arith,
  subst (λ (x : ℕ). slice_get order k ≡ Some x) same here,
)
goes_below train order rows k o [] laid here goes q (inr there) = absurd there
goes_below train order rows k o (s ∷ rest) laid here goes q (inr there) =
    let next = laid.down k o s here goes.0 in
    let found = goes_below train order rows next.0 s rest laid next.2 goes.1 q there in
    (found.0, omega (arith, found.1, next.1), found.2)

pub last_here : (train : List Operation) (order : List ℕ) (rows : List (List ℕ))
    → IsLaid train order rows → (k : ℕ) × (length order ≡ k + 1)
    × (slice_get order k ≡ Some (last_of order))
last_here train order rows laid = by (length order) refl
  where
    by : (n : ℕ) → length order ≡ n → (k : ℕ) × (length order ≡ k + 1)
        × (slice_get order k ≡ Some (last_of order))
    by zero long = absurd (omega (arith, long, laid.some))
    by (suc k) long =
        let last : length order - 1 ≡ k = omega (arith, long) in (
          k,
          omega (arith, long),
          subst (λ (n : ℕ). slice_get order n ≡ Some (last_of order)) last
              (slice_get-get_or order (length order - 1) 0 (omega (arith, long))),
        )

-- ---- times that are lowered

lowered_below : (sum : Option ℕ) (through : ℕ) → lowered sum through ≤ through
lowered_below None through = omega arith
lowered_below (Some n) through = omega arith

lowered_least : (sum : Option ℕ) (n through : ℕ) → sum ≡ Some n → lowered sum through ≤ n
lowered_least None n through e = absurd (none-some n e)
lowered_least (Some m) n through e = let same : m ≡ n = same_Some m n e in omega (arith, same)

lowered_from : (sum : Option ℕ) (through : ℕ) → (sum ≡ Some (lowered sum through))
    ⊎ (lowered sum through ≡ through)
lowered_from None through = inr refl
lowered_from (Some n) through = elim (cases_lt n through) [
  | inl lt ↦ let least : min n through ≡ n = omega arith in inl (ap Some (sym least))
  | inr ge ↦ inr (omega arith)
]

pub relax_none : (through : ℕ) (sums : List (Option ℕ)) → Relaxes [] through sums sums
relax_none through sums = record {
  long = refl;
  from = λ o n is. inl is;
  kept = λ o n is. (n, is, omega arith);
  lower = λ o there. absurd (contains_none o there);
}

pub relax_more : (row : List ℕ) (through i at sum : ℕ) (read : Option ℕ) (old mid : List (Option ℕ))
    → i < length row → at ≡ get_or row i 0 → at < length mid → slice_get mid at ≡ Some read
    → sum ≡ lowered read through
    → Relaxes (take i row) through old mid
    → Relaxes (take (i + 1) row) through old (set mid at (Some sum))
relax_more row through i at sum read old mid lt is within reads value before = rw
    (take_more row i 0 lt) (record {
      long = length-set mid at (Some sum) ∙ before.long;
      from = λ o n here. elim (same_number o at) [
        | inl e ↦ own o n e
            (same_Some (Some sum) (Some n) (sym (set_at mid at (Some sum) within)
            ∙ subst (λ (x : ℕ). slice_get (set mid at (Some sum)) x ≡ Some (Some n)) e here))
        | inr other ↦ older o n
            (before.from o n (sym (set_elsewhere mid at o (Some sum) other) ∙ here))
      ];
      kept = λ o n was. let then = before.kept o n was in elim (same_number o at) [
        | inl e ↦ (
          sum,
          now o e,
          omega (
            arith,
            then.2,
            value,
            lowered_least read then.0 through
                (same_Some read (Some then.0) (sym reads
                ∙ subst (λ (x : ℕ). slice_get mid x ≡ Some (Some then.0)) e then.1)),
          ),
        )
        | inr other ↦ (then.0, set_elsewhere mid at o (Some sum) other ∙ then.1, then.2)
      ];
      lower = λ o there. elim (Contains-push_cases (take i row) x o there) [
        | inr e ↦ (sum, now o (sym e ∙ sym is), omega (arith, value, lowered_below read through))
        | inl early ↦ let then = before.lower o early in elim (same_number o at) [
          | inl e ↦ (sum, now o e, omega (arith, value, lowered_below read through))
          | inr other ↦ (then.0, set_elsewhere mid at o (Some sum) other ∙ then.1, then.2)
        ]
      ];
    })
  where
    x : ℕ
    x = get_or row i 0

    now : (o : ℕ) → o ≡ at → slice_get (set mid at (Some sum)) o ≡ Some (Some sum)
    now o e = subst (λ (y : ℕ). slice_get (set mid at (Some sum)) y ≡ Some (Some sum)) (sym e)
        (set_at mid at (Some sum) within)

    older : (o n : ℕ) → (slice_get old o ≡ Some (Some n))
        ⊎ (Contains (take i row) o × (n ≡ through)) → (slice_get old o ≡ Some (Some n))
        ⊎ (Contains (take i row ++ x ∷ []) o × (n ≡ through))
    older o n (inl was) = inl was
    older o n (inr h) = inr (Contains-append_left (take i row) (x ∷ []) o h.0, h.1)

    own : (o n : ℕ) → o ≡ at → Some sum ≡ Some n → (slice_get old o ≡ Some (Some n))
        ⊎ (Contains (take i row ++ x ∷ []) o × (n ≡ through))
    own o n e s = elim (lowered_from read through) [
      | inl same ↦ older o n
          (before.from o n
          (subst (λ (y : ℕ). slice_get mid y ≡ Some (Some n)) (sym e) (reads
          ∙ ap Some (same ∙ ap Some (sym value) ∙ s))))
      | inr same ↦ inr (
        subst (λ (y : ℕ). Contains (take i row ++ x ∷ []) y) (sym is ∙ sym e)
            (Contains-push (take i row) x),
        sym (same_Some sum n s) ∙ value ∙ same,
      )
    ]

-- ---- the least of a row

pub lowest_none : (places : List ℕ) (reach : ℕ) → IsLowest places reach [] reach
lowest_none places reach = record {
  most = omega arith;
  each = λ s there. absurd (contains_none s there);
  from = inl refl;
}

pub lowest_more : (places row : List ℕ) (reach i least read more : ℕ) → i < length row
    → read ≡ get_or places (get_or row i 0) 0 → more ≡ min least read
    → IsLowest places reach (take i row) least → IsLowest places reach (take (i + 1) row) more
lowest_more places row reach i least read more lt reads is before = rw (take_more row i 0 lt)
    (record {
      most = omega (arith, is, before.most);
      each = λ s there. elim (Contains-push_cases (take i row) x s there) [
        | inl early ↦ omega (arith, is, before.each s early)
        | inr e ↦ subst (λ (y : ℕ). more ≤ get_or places y 0) e (omega (arith, is, reads))
      ];
      from = elim (cases_lt read least) [
        | inl lower ↦ inr (
          x,
          Contains-push (take i row) x,
          (let same : more ≡ read = omega (arith, is, lower) in same ∙ reads),
        )
        | inr above ↦ older (let same : more ≡ least = omega (arith, is, above) in same) before.from
      ];
    })
  where
    x : ℕ
    x = get_or row i 0

    older : more ≡ least → (least ≡ reach)
        ⊎ ((s : ℕ) × Contains (take i row) s × (least ≡ get_or places s 0)) → (more ≡ reach)
        ⊎ ((s : ℕ) × Contains (take i row ++ x ∷ []) s × (more ≡ get_or places s 0))
    older same (inl e) = inl (same ∙ e)
    older same (inr h) = inr (h.0, Contains-append_left (take i row) (x ∷ []) h.0 h.1, same ∙ h.2)

-- ---- as they are read

pub duration_at : (train : List Operation) (at : ℕ) (operation : Operation)
    → operation ≡ get_or train at operation → at < length train
    → duration_of train at ≡ operation.min
duration_at train at operation is lt = ap
    (λ (found : Option Operation). option_map_or (λ p. p.min) found 0)
    (slice_get-get_or train at operation lt ∙ ap Some (sym is))

pub sum_read : (sums : List (Option ℕ)) (at : ℕ) (read value : Option ℕ)
    → read ≡ get_or sums at read → read ≡ value → at < length sums → slice_get sums at ≡ Some value
sum_read sums at read value is same lt = slice_get-get_or sums at read lt ∙ ap Some (sym is ∙ same)

-- the row at a place
pub row_found : (rows : List (List ℕ)) (place : ℕ) (found row : List ℕ)
    → found ≡ get_or rows place found → row ≡ found → place < length rows
    → slice_get rows place ≡ Some row
row_found rows place found row is read lt = slice_get-get_or rows place found lt
    ∙ ap Some (sym is ∙ sym read)
