-- Chains and walks along rows.
use Rattle.std.proofs.Common.{◌≡◌, ℕ, zero, suc, ◌+◌, ◌-◌, ◌<◌, ◌≤◌, ◌⊎◌, List, [], ◌∷◌, ◌++◌, length, get_or, Some, refl, sym, ap, subst, ◌∙◌, inl, inr, arith}
use Rattle.std.specs.Prelude.{slice_get, Contains, All}
use Rattle.std.proofs.lemmas.Option.{same_Some, slice_get-get_or, slice_get_within}
use Rattle.std.proofs.lemmas.List.Elements.{Contains-get_or}
use Rattle.disp_model.specs.declared.train.Operation.{Operation}
use Rattle.disp_laws.proofs.Paths.{IsIn}
use Rattle.train_orders.proofs.Places.{contains_none}
use Rattle.train_orders.proofs.Ordered.{contains_here}
use Rattle.route_marks.specs.Ways.{StepsAlong, Goes, IsRowWalk, Chain, last_of}
use Rattle.route_marks.specs.Marks.{IsLaid}

-- ---- chains and walks, joined and parted

pub chain_more : (order : List ℕ) (rows : List (List ℕ)) (o : ℕ) (front : List ℕ) (z s : ℕ) → Chain order rows o front z → StepsAlong order rows z s → Chain order rows o (front ++ z ∷ []) s
chain_more order rows o [] z s chain step = (chain, (s, step, refl))
chain_more order rows o (p ∷ front) z s chain step = (chain.0, (chain.1.0, chain.1.1, chain_more order rows chain.1.0 front z s chain.1.2 step))

pub record LastStep (order : List ℕ) (rows : List (List ℕ)) (o : ℕ) (front : List ℕ) (z : ℕ) : Type 0 where
  pub before : List ℕ
  pub op : ℕ
  pub is : front ≡ before ++ op ∷ []
  pub chain : Chain order rows o before op
  pub steps : StepsAlong order rows op z

pub chain_last : (order : List ℕ) (rows : List (List ℕ)) (o : ℕ) (front : List ℕ) (z : ℕ) → Chain order rows o front z → ((front ≡ []) × (o ≡ z)) ⊎ LastStep order rows o front z
chain_last order rows o [] z chain = inl (refl, chain)
chain_last order rows o (p ∷ front) z chain = by (chain_last order rows chain.1.0 front z chain.1.2)
  where
    by : ((front ≡ []) × (chain.1.0 ≡ z)) ⊎ LastStep order rows chain.1.0 front z → ((p ∷ front ≡ []) × (o ≡ z)) ⊎ LastStep order rows o (p ∷ front) z
    by (inl h) = inr (record { before = []; op = p; is = ap (λ (l : List ℕ). p ∷ l) h.0; chain = chain.0; steps = subst (λ (x : ℕ). StepsAlong order rows p x) h.1 chain.1.1 })
    by (inr last) = inr (record { before = p ∷ last.before; op = last.op; is = ap (λ (l : List ℕ). p ∷ l) last.is; chain = (chain.0, (chain.1.0, chain.1.1, last.chain)); steps = last.steps })

walk_goes : (order : List ℕ) (rows : List (List ℕ)) (p s : ℕ) (route : List ℕ) → StepsAlong order rows p s → IsRowWalk order rows s route → Goes order rows p route
walk_goes order rows p s [] step walk = absurd walk
walk_goes order rows p s (q ∷ rest) step walk = (subst (λ (x : ℕ). StepsAlong order rows p x) walk.0 step, walk.1)

pub chain_walk : (order : List ℕ) (rows : List (List ℕ)) (e : ℕ) (front : List ℕ) (z : ℕ) (rest : List ℕ) → Chain order rows e front z → Goes order rows z rest → IsRowWalk order rows e (front ++ z ∷ rest)
chain_walk order rows e [] z rest chain goes = (chain, goes)
chain_walk order rows e (p ∷ front) z rest chain goes = (chain.0, walk_goes order rows p chain.1.0 (front ++ z ∷ rest) chain.1.1 (chain_walk order rows chain.1.0 front z rest chain.1.2 goes))

pub walk_parts : (order : List ℕ) (rows : List (List ℕ)) (e : ℕ) (front : List ℕ) (z : ℕ) (rest : List ℕ) → IsRowWalk order rows e (front ++ z ∷ rest) → Chain order rows e front z × Goes order rows z rest
walk_parts order rows e [] z rest walk = (walk.0, walk.1)
walk_parts order rows e (p ∷ []) z rest walk = ((walk.0, (z, walk.1.0, refl)), walk.1.1)
walk_parts order rows e (p ∷ q ∷ front) z rest walk =
    let behind : IsRowWalk order rows q (q ∷ (front ++ z ∷ rest)) = (refl, walk.1.1) in
    let parts = walk_parts order rows q (q ∷ front) z rest behind in
    ((walk.0, (q, walk.1.0, parts.0)), parts.1)

-- ---- rows and steps

pub steps_row : (train : List Operation) (order : List ℕ) (rows : List (List ℕ)) (k o s : ℕ) (row : List ℕ) → IsLaid train order rows → slice_get order k ≡ Some o → slice_get rows k ≡ Some row → StepsAlong order rows o s → Contains row s
steps_row train order rows k o s row laid here row_is step =
    let place : step.place ≡ k = laid.one_place step.place k o step.here here in
    let same : step.row ≡ row = same_Some step.row row (sym step.row_is ∙ subst (λ (n : ℕ). slice_get rows n ≡ Some row) (sym place) row_is) in
    subst (λ (l : List ℕ). Contains l s) same step.has

pub row_steps : (order : List ℕ) (rows : List (List ℕ)) (k o s : ℕ) (row : List ℕ) → slice_get order k ≡ Some o → slice_get rows k ≡ Some row → Contains row s → StepsAlong order rows o s
row_steps order rows k o s row here row_is has = record { place = k; row = row; here = here; row_is = row_is; has = has }

pub row_within : (train : List Operation) (order : List ℕ) (rows : List (List ℕ)) (k o : ℕ) (row : List ℕ) → IsLaid train order rows → slice_get order k ≡ Some o → slice_get rows k ≡ Some row → All (λ s. s < length train) row
row_within train order rows k o row laid here row_is i d lt =
    let next = laid.down k o (get_or row i d) here (row_steps order rows k o (get_or row i d) row here row_is (Contains-get_or row i d lt)) in
    laid.within next.0 (get_or row i d) next.2

-- ---- from each operation a walk goes on to its end

no_steps : (train : List Operation) (order : List ℕ) (rows : List (List ℕ)) (k o : ℕ) → IsLaid train order rows → slice_get order k ≡ Some o → slice_get rows k ≡ Some [] → Goes order rows o []
no_steps train order rows k o laid here row_is = λ s step. contains_none s (steps_row train order rows k o s [] laid here row_is step)

-- one step, where each operation before goes on
row_goes : (train : List Operation) (order : List ℕ) (rows : List (List ℕ)) (k o : ℕ) → IsLaid train order rows → slice_get order k ≡ Some o → ((j s : ℕ) → j < k → slice_get order j ≡ Some s → (rest : List ℕ) × Goes order rows s rest)
    → (row : List ℕ) → slice_get rows k ≡ Some row → (rest : List ℕ) × Goes order rows o rest
row_goes train order rows k o laid here before [] row_is = ([], no_steps train order rows k o laid here row_is)
row_goes train order rows k o laid here before (s ∷ row) row_is =
    let step = row_steps order rows k o s (s ∷ row) here row_is (contains_here s row) in
    let next = laid.down k o s here step in
    let way = before next.0 s next.1 next.2 in
    (s ∷ way.0, (step, way.1))

goes_within : (n : ℕ) (train : List Operation) (order : List ℕ) (rows : List (List ℕ)) (k o : ℕ) → k < n → IsLaid train order rows → slice_get order k ≡ Some o → (rest : List ℕ) × Goes order rows o rest
goes_within zero train order rows k o less laid here = absurd (omega (arith, less))
goes_within (suc n) train order rows k o less laid here =
    row_goes train order rows k o laid here (λ j s lower on. goes_within n train order rows j s (omega (arith, less, lower)) laid on) (get_or rows k []) (slice_get-get_or rows k [] (omega (arith, laid.long, slice_get_within order k o here)))

pub goes_on : (train : List Operation) (order : List ℕ) (rows : List (List ℕ)) (k o : ℕ) → IsLaid train order rows → slice_get order k ≡ Some o → (rest : List ℕ) × Goes order rows o rest
goes_on train order rows k o laid here = goes_within (k + 1) train order rows k o (omega arith) laid here

-- ---- places fall along a walk

pub goes_below : (train : List Operation) (order : List ℕ) (rows : List (List ℕ)) (k o : ℕ) (rest : List ℕ) → IsLaid train order rows → slice_get order k ≡ Some o → Goes order rows o rest
    → (q : ℕ) → IsIn q (o ∷ rest) → (j : ℕ) × (j ≤ k) × (slice_get order j ≡ Some q)
goes_below train order rows k o rest laid here goes q (inl same) = (k, omega arith, subst (λ (x : ℕ). slice_get order k ≡ Some x) same here)
goes_below train order rows k o [] laid here goes q (inr there) = absurd there
goes_below train order rows k o (s ∷ rest) laid here goes q (inr there) =
    let next = laid.down k o s here goes.0 in
    let found = goes_below train order rows next.0 s rest laid next.2 goes.1 q there in
    (found.0, omega (arith, found.1, next.1), found.2)

chain_down : (train : List Operation) (order : List ℕ) (rows : List (List ℕ)) (k o : ℕ) (front : List ℕ) (m z : ℕ) → IsLaid train order rows → slice_get order k ≡ Some o → slice_get order m ≡ Some z → Chain order rows o front z → m ≤ k
chain_down train order rows k o [] m z laid here last chain = let same = laid.one_place m k z last (subst (λ (x : ℕ). slice_get order k ≡ Some x) chain here) in omega (arith, same)
chain_down train order rows k o (p ∷ front) m z laid here last chain =
    let next = laid.down k p chain.1.0 (subst (λ (x : ℕ). slice_get order k ≡ Some x) chain.0 here) chain.1.1 in
    omega (arith, next.1, chain_down train order rows next.0 chain.1.0 front m z laid next.2 last chain.1.2)

pub chain_above : (train : List Operation) (order : List ℕ) (rows : List (List ℕ)) (k o : ℕ) (front : List ℕ) (m z : ℕ) → IsLaid train order rows → slice_get order k ≡ Some o → slice_get order m ≡ Some z → Chain order rows o front z
    → (q : ℕ) → IsIn q front → (j : ℕ) × (m < j) × (slice_get order j ≡ Some q)
chain_above train order rows k o [] m z laid here last chain q there = absurd there
chain_above train order rows k o (p ∷ front) m z laid here last chain q (inl same) =
    let own : slice_get order k ≡ Some p = subst (λ (x : ℕ). slice_get order k ≡ Some x) chain.0 here in
    let next = laid.down k p chain.1.0 own chain.1.1 in
    (k, omega (arith, next.1, chain_down train order rows next.0 chain.1.0 front m z laid next.2 last chain.1.2), subst (λ (x : ℕ). slice_get order k ≡ Some x) same own)
chain_above train order rows k o (p ∷ front) m z laid here last chain q (inr later) =
    let own : slice_get order k ≡ Some p = subst (λ (x : ℕ). slice_get order k ≡ Some x) chain.0 here in
    let next = laid.down k p chain.1.0 own chain.1.1 in
    chain_above train order rows next.0 chain.1.0 front m z laid next.2 last chain.1.2 q later

-- the end of a walk
pub record Ending (order : List ℕ) (rows : List (List ℕ)) (e k : ℕ) : Type 0 where
  pub op : ℕ
  pub place : ℕ
  pub front : List ℕ
  pub chain : Chain order rows e front op
  pub stops : Goes order rows op []
  pub here : slice_get order place ≡ Some op
  pub below : place ≤ k

pub ending : (train : List Operation) (order : List ℕ) (rows : List (List ℕ)) (e k o : ℕ) (front rest : List ℕ) → IsLaid train order rows → Chain order rows e front o → slice_get order k ≡ Some o → Goes order rows o rest → Ending order rows e k
ending train order rows e k o front [] laid chain here goes = record { op = o; place = k; front = front; chain = chain; stops = goes; here = here; below = omega arith }
ending train order rows e k o front (s ∷ rest) laid chain here goes =
    let next = laid.down k o s here goes.0 in
    let end = ending train order rows e next.0 s (front ++ o ∷ []) rest laid (chain_more order rows e front o s chain goes.0) next.2 goes.1 in
    record { op = end.op; place = end.place; front = end.front; chain = end.chain; stops = end.stops; here = end.here; below = omega (arith, end.below, next.1) }

-- the last operation of an order
pub last_here : (train : List Operation) (order : List ℕ) (rows : List (List ℕ)) → IsLaid train order rows → (k : ℕ) × (length order ≡ k + 1) × (slice_get order k ≡ Some (last_of order))
last_here train order rows laid = by (length order) refl
  where
    by : (n : ℕ) → length order ≡ n → (k : ℕ) × (length order ≡ k + 1) × (slice_get order k ≡ Some (last_of order))
    by zero long = absurd (omega (arith, long, laid.some))
    by (suc k) long =
        let last : length order - 1 ≡ k = omega (arith, long) in
        (k, omega (arith, long), subst (λ (n : ℕ). slice_get order n ≡ Some (last_of order)) last (slice_get-get_or order (length order - 1) 0 (omega (arith, long))))

-- where a chain leads to an operation, that stands in the order
pub chain_place : (train : List Operation) (order : List ℕ) (rows : List (List ℕ)) (front : List ℕ) (o : ℕ) → IsLaid train order rows → Chain order rows (last_of order) front o → (k : ℕ) × (slice_get order k ≡ Some o)
chain_place train order rows front o laid chain = by (chain_last order rows (last_of order) front o chain)
  where
    by : ((front ≡ []) × (last_of order ≡ o)) ⊎ LastStep order rows (last_of order) front o → (k : ℕ) × (slice_get order k ≡ Some o)
    by (inl h) = let last = last_here train order rows laid in (last.0, subst (λ (x : ℕ). slice_get order last.0 ≡ Some x) h.1 last.2)
    by (inr last) = let down = laid.down last.steps.place last.op o last.steps.here last.steps in (down.0, down.2)
