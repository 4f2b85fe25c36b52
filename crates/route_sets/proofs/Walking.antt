-- The allowed routes of a train are the walks along the rows of a sweep.
use Rattle.std.proofs.Common.{◌≡◌, ℕ, ◌+◌, ◌<◌, List, [], ◌∷◌, length, take, get_or, Option, Some, None, Bool, true, false, refl, sym, ap, subst, ◌∙◌, inl, inr, arith}
use Rattle.std.specs.Prelude.{nat_eq, slice_get, All, Contains, IfSome}
use Rattle.std.proofs.lemmas.Bool.{cases_Bool, cases_lt, eqb-true, eqb-false, eq-eqb, false≢true}
use Rattle.std.proofs.lemmas.Option.{none-some, same_Some, slice_get-get_or, slice_get_within}
use Rattle.std.proofs.lemmas.List.{take_all, get_or_past}
use Rattle.disp_model.specs.declared.train.Operation.{Operation}
use Rattle.disp_model.specs.Train.{IsSuccessor, IsEntry, GoesOn}
use Rattle.disp_model.specs.WellFormed.{IsAcyclic}
use Rattle.disp_model.specs.Fixing.{after}
use Rattle.disp_model.specs.Valid.{train_at}
use Rattle.disp_model.specs.Node.{Node}
use Rattle.disp_model.specs.Routes.{AgreesWithFixing, AgreesWithDecision, IsAllowed}
use Rattle.disp_laws.proofs.Paths.{IsIn, is_in, contains_in, never_again}
use Rattle.disp_laws.proofs.RouteSearch.{each_within}
use Rattle.train_orders.specs.Orders.{IsOrder}
use Rattle.train_orders.proofs.Places.{at_contains, contains_none}
use Rattle.train_orders.proofs.Ordered.{contains_here, contains_later, contains_cases, at_taken, taken_at, taken_more, one_place, last_is_entry, way_inside}
use Rattle.route_sets.specs.declared.asks.Ask.{Ask}
use Rattle.route_sets.specs.Asks.{MeetsAsk, free, ask_at, AreMet, AreWithinTrain, AreAsks}
use Rattle.route_sets.specs.Sweeps.{AskMayGo, MayEnd, IsWantedAsk, KeepsAsks, IsWayLeft, HasWay, AreRows}
use Rattle.route_marks.specs.Ways.{StepsAlong, Goes, IsRowWalk}
use Rattle.route_marks.proofs.Keeping.{earlier}

-- what the walks of a train go along
pub record IsTrimmed (train : List Operation) (asks : List Ask) (order : List ℕ) (rows : List (List ℕ)) : Type 0 where
  pub acyclic : IsAcyclic train
  pub order_is : IsOrder train order
  pub asks_long : length asks ≡ length train
  pub rows_are : AreRows train asks order (length order) rows

-- what a row says at its operation's place
pub row_at : (train : List Operation) (asks : List Ask) (order : List ℕ) (rows : List (List ℕ)) (k o s : ℕ) → IsTrimmed train asks order rows → slice_get order k ≡ Some o → StepsAlong order rows o s
    → IsSuccessor train o s × AskMayGo (ask_at asks o) s × HasWay train asks (take k order) s
row_at train asks order rows k o s is here step =
    subst (λ (n : ℕ). IsSuccessor train o s × AskMayGo (ask_at asks o) s × HasWay train asks (take n order) s) (one_place train order step.place k o is.order_is step.here here)
    ((is.rows_are.each step.place o step.row step.here step.row_is s).0 step.has)

step_at : (train : List Operation) (asks : List Ask) (order : List ℕ) (rows : List (List ℕ)) (k o s : ℕ) → IsTrimmed train asks order rows → slice_get order k ≡ Some o
    → IsSuccessor train o s → AskMayGo (ask_at asks o) s → HasWay train asks (take k order) s → StepsAlong order rows o s
step_at train asks order rows k o s is here goes may way = record {
  place = k;
  row = get_or rows k [];
  here = here;
  row_is = row_is;
  has = (is.rows_are.each k o (get_or rows k []) here row_is s).1 (goes, may, way);
}
  where
    row_is : slice_get rows k ≡ Some (get_or rows k [])
    row_is = slice_get-get_or rows k [] (omega (arith, slice_get_within order k o here, is.rows_are.long))

-- a way with all wanted of the operations so far is a way along the rows
pub way_goes : (train : List Operation) (asks : List Ask) (order : List ℕ) (rows : List (List ℕ)) (k o : ℕ) (rest : List ℕ) → IsTrimmed train asks order rows → slice_get order k ≡ Some o
    → IsWayLeft train asks (take (k + 1) order) o rest → Goes order rows o rest
way_goes train asks order rows k o [] is here way = λ s step. contains_none s (subst (λ (l : List ℕ). Contains l s) way.goes.last (row_at train asks order rows k o s is here step).0)
way_goes train asks order rows k o (s ∷ rest) is here way =
    let later : IsWayLeft train asks (take k order) s rest = record {
      goes = way.goes.1;
      keeps = way.keeps.1;
      wanted = λ q done wanted. elim (contains_cases o q (s ∷ rest) (way.wanted q (taken_more order (k + 1) k q (omega arith) done) wanted)) [
        | inl same ↦ absurd (is.order_is.is_behind.once k o here (subst (λ (x : ℕ). Contains (take k order) x) (sym same) done))
        | inr there ↦ there
      ];
    } in
    let next = earlier train order k o s is.order_is here way.goes.0 in (
      step_at train asks order rows k o s is here way.goes.0 way.keeps.0 (rest, later),
      way_goes train asks order rows next.0 s rest is next.2 (record { goes = later.goes; keeps = later.keeps; wanted = λ q done. later.wanted q (taken_more order k (next.0 + 1) q (omega (arith, next.1)) done) }),
    )

way_ends : (train : List Operation) (asks : List Ask) (order : List ℕ) (rows : List (List ℕ)) (k o : ℕ) (rest : List ℕ) → IsTrimmed train asks order rows → slice_get order k ≡ Some o → Goes order rows o []
    → IsWayLeft train asks (take (k + 1) order) o rest → IsWayLeft train asks (take (k + 1) order) o []
way_ends train asks order rows k o [] is here stuck way = way
way_ends train asks order rows k o (s ∷ rest) is here stuck way = absurd (stuck s (way_goes train asks order rows k o (s ∷ rest) is here way).0)

-- from an operation that has such a way each way along the rows is one
pub goes_way : (train : List Operation) (asks : List Ask) (order : List ℕ) (rows : List (List ℕ)) (k o : ℕ) (rest : List ℕ) → IsTrimmed train asks order rows → slice_get order k ≡ Some o
    → HasWay train asks (take (k + 1) order) o → Goes order rows o rest → IsWayLeft train asks (take (k + 1) order) o rest
goes_way train asks order rows k o [] is here has goes = way_ends train asks order rows k o has.0 is here goes has.1
goes_way train asks order rows k o (s ∷ rest) is here has goes =
    let step = row_at train asks order rows k o s is here goes.0 in
    let next = earlier train order k o s is.order_is here step.0 in
    let known = step.2 in
    let late : IsWayLeft train asks (take (next.0 + 1) order) s known.0 = record { goes = known.1.goes; keeps = known.1.keeps; wanted = λ q done. known.1.wanted q (taken_more order k (next.0 + 1) q (omega (arith, next.1)) done) } in
    let way = goes_way train asks order rows next.0 s rest is next.2 (known.0, late) goes.1 in
    record {
      goes = (step.0, way.goes);
      keeps = (step.1, way.keeps);
      wanted = λ q done wanted.
          let place = at_contains (take (k + 1) order) q done in
          let found = at_taken order (k + 1) place.0 q place.1 in
          elim (cases_lt place.0 k) [
            | inr last ↦
                let same : place.0 ≡ k = omega (arith, last, found.0) in
                let own : o ≡ q = same_Some o q (sym here ∙ subst (λ (n : ℕ). slice_get order n ≡ Some q) same found.1) in
                subst (λ (x : ℕ). Contains (o ∷ s ∷ rest) x) own (contains_here o (s ∷ rest))
            | inl before ↦
                contains_later o q (s ∷ rest) (way.wanted q
                (way_inside train order (next.0 + 1) s known.0 is.order_is.is_behind (taken_at order (next.0 + 1) next.0 s (omega arith) next.2) known.1.goes q (known.1.wanted q (taken_at order k place.0 q before found.1) wanted))
                wanted)
          ];
    }

-- ---- ways keep what is asked exactly where routes meet it

may_next : (next : Option ℕ) (s : ℕ) → IfSome next (λ n. n ≡ s) → (n : ℕ) → next ≡ Some n → s ≡ n
may_next None s may n e = absurd (none-some n e)
may_next (Some m) s may n e = sym may ∙ same_Some m n e

next_may : (next : Option ℕ) (s : ℕ) → ((n : ℕ) → next ≡ Some n → s ≡ n) → IfSome next (λ n. n ≡ s)
next_may None s says = tt
next_may (Some m) s says = sym (says m refl)

no_next : (next : Option ℕ) → ((n : ℕ) → next ≡ Some n → ⊥) → next ≡ None
no_next None says = refl
no_next (Some m) says = absurd (says m refl)

not_true : (b : Bool) → (b ≡ true → ⊥) → b ≡ false
not_true true says = absurd (says refl)
not_true false says = refl

pub record Stays (route : List ℕ) (o : ℕ) (ask : Ask) : Type 0 where
  pub stays : ask.skipped ≡ false
  pub next : (n : ℕ) → ask.next ≡ Some n → after o route ≡ Some n

keeps_stays : (asks : List Ask) (p : ℕ) (rest : List ℕ) (o : ℕ) → KeepsAsks asks p rest → IsIn o (p ∷ rest) → Stays (p ∷ rest) o (ask_at asks o)
keeps_stays asks p [] o keeps (inr later) = absurd later
keeps_stays asks p [] o keeps (inl same) =
    let end : MayEnd (ask_at asks o) = subst (λ (x : ℕ). MayEnd (ask_at asks x)) same keeps in
    record { stays = end.stays; next = λ n e. absurd (none-some n (sym end.next ∙ e)) }
keeps_stays asks p (s ∷ rest) o keeps there = elim (cases_Bool (nat_eq p o)) [
  | inl is ↦
      let go : AskMayGo (ask_at asks o) s = subst (λ (x : ℕ). AskMayGo (ask_at asks x) s) (eqb-true p o is) keeps.0 in
      record { stays = go.stays; next = λ n e. rw is (ap Some (may_next (ask_at asks o).next s go.next n e)) }
  | inr other ↦ let behind = keeps_stays asks s rest o keeps.1 (later other there) in record { stays = behind.stays; next = λ n e. rw other (behind.next n e) }
]
  where
    later : nat_eq p o ≡ false → IsIn o (p ∷ s ∷ rest) → IsIn o (s ∷ rest)
    later other (inl e) = absurd (eqb-false p o other e)
    later other (inr h) = h

met_keeps : (train : List Operation) (asks : List Ask) (p : ℕ) (rest : List ℕ) → IsAcyclic train → GoesOn train p rest → ((q : ℕ) → IsIn q (p ∷ rest) → MeetsAsk (p ∷ rest) q (ask_at asks q)) → KeepsAsks asks p rest
met_keeps train asks p [] acyclic goes met = record {
  stays = not_true (ask_at asks p).skipped (λ e. (met p (inl refl)).skipped e (contains_here p []));
  next = no_next (ask_at asks p).next (λ n e. none-some n ((met p (inl refl)).next n e (contains_here p [])));
}
met_keeps train asks p (s ∷ rest) acyclic goes met = (
  record {
    stays = not_true (ask_at asks p).skipped (λ e. (met p (inl refl)).skipped e (contains_here p (s ∷ rest)));
    next = next_may (ask_at asks p).next s (λ n e. same_Some s n (sym (first p s rest) ∙ (met p (inl refl)).next n e (contains_here p (s ∷ rest))));
  },
  met_keeps train asks s rest acyclic goes.1 (λ q there. behind q there (met q (inr there))),
)
  where
    first : (p s : ℕ) (rest : List ℕ) → after p (p ∷ s ∷ rest) ≡ Some s
    first p s rest = rw (eq-eqb p p refl) refl

    other : (q : ℕ) → IsIn q (s ∷ rest) → nat_eq p q ≡ false
    other q there = elim (cases_Bool (nat_eq p q)) [
      | inl is ↦ absurd (never_again train p (s ∷ rest) acyclic goes (subst (λ (x : ℕ). IsIn x (s ∷ rest)) (sym (eqb-true p q is)) there))
      | inr is ↦ is
    ]

    past : (q : ℕ) → nat_eq p q ≡ false → after q (p ∷ s ∷ rest) ≡ after q (s ∷ rest)
    past q is = rw is refl

    behind : (q : ℕ) → IsIn q (s ∷ rest) → MeetsAsk (p ∷ s ∷ rest) q (ask_at asks q) → MeetsAsk (s ∷ rest) q (ask_at asks q)
    behind q there h = record {
      wanted = λ e. contains_in q (s ∷ rest) there;
      skipped = λ e on. h.skipped e (contains_later p q (s ∷ rest) on);
      next = λ n e on. sym (past q (other q there)) ∙ h.next n e (contains_later p q (s ∷ rest) on);
    }

-- ---- allowed routes are walks

pub record IsTrimmedFor (node : Node) (t : ℕ) (asks : List Ask) (order : List ℕ) (rows : List (List ℕ)) (k e : ℕ) : Type 0 where
  pub trimmed : IsTrimmed (train_at node.problem t) asks order rows
  pub asked : AreAsks (length (train_at node.problem t)) t node.fixings node.decisions asks
  pub count : length order ≡ k + 1
  pub last : slice_get order k ≡ Some e

whole : (order : List ℕ) (k : ℕ) → length order ≡ k + 1 → take (k + 1) order ≡ order
whole order k long = take_all (k + 1) order (omega (arith, long))

pub route_is_way : (node : Node) (t : ℕ) (asks : List Ask) (order : List ℕ) (rows : List (List ℕ)) (k e : ℕ) (route : List ℕ) → IsTrimmedFor node t asks order rows k e → IsAllowed node t route
    → (rest : List ℕ) × (route ≡ e ∷ rest) × IsWayLeft (train_at node.problem t) asks order e rest
route_is_way node t asks order rows k e [] is allowed = absurd allowed.is_route
route_is_way node t asks order rows k e (p ∷ rest) is allowed = (rest, ap (λ (x : ℕ). x ∷ rest) same, subst (λ (x : ℕ). IsWayLeft train asks order x rest) same way)
  where
    train : List Operation
    train = train_at node.problem t

    route : IsEntry train p × GoesOn train p rest
    route = allowed.is_route

    same : p ≡ e
    same = is.trimmed.acyclic.one_entry p e route.0 (last_is_entry train order k e is.trimmed.order_is is.count is.last)

    inside : AreWithinTrain (length train) (p ∷ rest)
    inside q there = each_within train p rest route.1 q (is_in q (p ∷ rest) there)

    met : AreMet asks (p ∷ rest)
    met = (is.asked.met (p ∷ rest) inside).0 (allowed.fixings_agree, allowed.decisions_agree)

    way : IsWayLeft train asks order p rest
    way = record {
      goes = route.1;
      keeps = met_keeps train asks p rest is.trimmed.acyclic route.1 (λ q there. met q);
      wanted = λ q done wanted. (met q).wanted wanted;
    }

pub route_is_walk : (node : Node) (t : ℕ) (asks : List Ask) (order : List ℕ) (rows : List (List ℕ)) (k e : ℕ) (route : List ℕ) → IsTrimmedFor node t asks order rows k e → IsAllowed node t route → IsRowWalk order rows e route
route_is_walk node t asks order rows k e route is allowed =
    let way = route_is_way node t asks order rows k e route is allowed in
    subst (IsRowWalk order rows e) (sym way.1) (refl, way_goes (train_at node.problem t) asks order rows k e way.0 is.trimmed is.last (subst (λ (l : List ℕ). IsWayLeft (train_at node.problem t) asks l e way.0) (sym (whole order k is.count)) way.2))

way_is_route : (node : Node) (t : ℕ) (asks : List Ask) (order : List ℕ) (rows : List (List ℕ)) (k e : ℕ) (rest : List ℕ) → IsTrimmedFor node t asks order rows k e → IsWayLeft (train_at node.problem t) asks order e rest → IsAllowed node t (e ∷ rest)
way_is_route node t asks order rows k e rest is way = record { is_route = (entry, way.goes); fixings_agree = agrees.0; decisions_agree = agrees.1 }
  where
    train : List Operation
    train = train_at node.problem t

    entry : IsEntry train e
    entry = last_is_entry train order k e is.trimmed.order_is is.count is.last

    inside : AreWithinTrain (length train) (e ∷ rest)
    inside q there = each_within train e rest way.goes q (is_in q (e ∷ rest) there)

    asked_within : (q : ℕ) → IsWantedAsk asks q → q < length train
    asked_within q wanted = elim (cases_lt q (length asks)) [
      | inl lt ↦ omega (arith, lt, is.trimmed.asks_long)
      | inr past ↦ absurd (false≢true (sym (ap (λ (a : Ask). a.wanted) (get_or_past asks q free past)) ∙ wanted))
    ]

    meets : AreMet asks (e ∷ rest)
    meets q = record {
      wanted = λ wanted. way.wanted q (is.trimmed.order_is.has q (asked_within q wanted)) wanted;
      skipped = λ skipped there. false≢true (sym (keeps_stays asks e rest q way.keeps (is_in q (e ∷ rest) there)).stays ∙ skipped);
      next = λ n next there. (keeps_stays asks e rest q way.keeps (is_in q (e ∷ rest) there)).next n next;
    }

    agrees : All (AgreesWithFixing t (e ∷ rest)) node.fixings × All (AgreesWithDecision t (e ∷ rest)) node.decisions
    agrees = (is.asked.met (e ∷ rest) inside).1 meets

pub walk_is_route : (node : Node) (t : ℕ) (asks : List Ask) (order : List ℕ) (rows : List (List ℕ)) (k e : ℕ) (route : List ℕ) → IsTrimmedFor node t asks order rows k e → HasWay (train_at node.problem t) asks order e
    → IsRowWalk order rows e route → IsAllowed node t route
walk_is_route node t asks order rows k e [] is has walk = absurd walk
walk_is_route node t asks order rows k e (p ∷ rest) is has walk =
    let goes : Goes order rows e rest = subst (λ (x : ℕ). Goes order rows x rest) (sym walk.0) walk.1 in
    let full = whole order k is.count in
    let way = goes_way (train_at node.problem t) asks order rows k e rest is.trimmed is.last (subst (λ (l : List ℕ). HasWay (train_at node.problem t) asks l e) (sym full) has) goes in
    subst (λ (x : ℕ). IsAllowed node t (x ∷ rest)) walk.0 (way_is_route node t asks order rows k e rest is (subst (λ (l : List ℕ). IsWayLeft (train_at node.problem t) asks l e rest) full way))
