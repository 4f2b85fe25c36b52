-- From a graph to the one with a decision more, and back.
use Rattle.std.proofs.Common.{◌≡◌, ◌∙◌, ℕ, zero, suc, ◌+◌, ◌-◌, ◌<◌, ◌≤◌, List, [], ◌∷◌, ◌++◌, length, take, Some, refl, sym, ap, subst, arith}
use Rattle.std.specs.Prelude.{slice_get, slice_index}
use Rattle.std.proofs.lemmas.Option.{none-some, same_Some}
use Rattle.std.proofs.lemmas.List.{length-append, length-take-le, take-append-le, take_all, take-take}
use Rattle.disp_model.specs.declared.train.Op.{Op}
use Rattle.disp_model.specs.declared.fixing.Fixing.{Fixing}
use Rattle.disp_model.specs.declared.decision.Decision.{Decision}
use Rattle.disp_model.specs.declared.problem.Problem.{Problem}
use Rattle.disp_model.specs.Numbers.{number_of}
use Rattle.disp_model.specs.Node.{node_at, with_decision}
use Rattle.event_graph.specs.declared.changes.Change.{Change}
use Rattle.event_graph.specs.declared.parts.Parts.{Parts}
use Rattle.event_graph.specs.States.{GraphState, IsStateAt, restored_state, MayRestore}
use Rattle.event_graph.specs.Late.{AreUppersOf}
use Rattle.event_graph.specs.Kept.{state_of, Decides}
use Rattle.event_graph.specs.Known.{KeepsOwnRoutes}
use Rattle.event_graph.specs.Graphs.{ArePast, IsGraph}

got_front : {X : Type 0} → (xs : List X) (i j : ℕ) (x : X) → j < i → slice_get xs j ≡ Some x → slice_get (take i xs) j ≡ Some x
got_front xs zero j x lt at = absurd (omega arith)
got_front [] (suc i) j x lt at = at
got_front (y ∷ xs) (suc i) zero x lt at = at
got_front (y ∷ xs) (suc i) (suc j) x lt at = got_front xs i j x (omega arith) at

got_more : {X : Type 0} → (xs ys : List X) (j : ℕ) (x : X) → slice_get xs j ≡ Some x → slice_get (xs ++ ys) j ≡ Some x
got_more [] ys j x at = absurd (none-some x at)
got_more (y ∷ xs) ys zero x at = at
got_more (y ∷ xs) ys (suc j) x at = got_more xs ys j x at

got_last : {X : Type 0} → (xs : List X) (x : X) → slice_get (xs ++ x ∷ []) (length xs) ≡ Some x
got_last [] x = refl
got_last (y ∷ xs) x = got_last xs x

-- ---- one decision more

past_more : (problem : Problem) (fixings : List Fixing) (decisions : List Decision) (trail : List Change) (d : Decision) (change : Change) (k : ℕ) (state : GraphState) → k ≤ length decisions → ArePast problem fixings decisions trail k state
    → ArePast problem fixings (decisions ++ d ∷ []) (trail ++ change ∷ []) k state
past_more problem fixings decisions trail d change zero state le past = tt
past_more problem fixings decisions trail d change (suc k) state le past = record {
  change = past.change;
  there = got_more trail (change ∷ []) k past.change past.there;
  may = past.may;
  at = subst (λ (ds : List Decision). IsStateAt (node_at problem fixings ds) (restored_state past.change state)) (sym (take-append-le k decisions (d ∷ []) (omega (arith, le)))) past.at;
  before = past_more problem fixings decisions trail d change k (restored_state past.change state) (omega (arith, le)) past.before;
}

pub graph_extends : (problem : Problem) (fixings : List Fixing) (ops closed : List Op) (decisions : List Decision) (parts new : Parts) (trail : List Change) (d : Decision) (change : Change) → IsGraph problem fixings ops closed decisions parts trail
    → Decides (with_decision (node_at problem fixings decisions) d) change (state_of parts) (state_of new) → new.paths.lowers ≡ parts.paths.lowers → new.paths.uppers ≡ parts.paths.uppers → new.orders.size ≡ parts.orders.size → KeepsOwnRoutes problem new.known
    → IsGraph problem fixings ops closed (decisions ++ d ∷ []) new (trail ++ change ∷ [])
graph_extends problem fixings ops closed decisions parts new trail d change is decides lowers uppers size known = record {
  uppers_are = subst (AreUppersOf problem fixings) (sym uppers) is.uppers_are;
  closed_are = is.closed_are;
  may = record {
    state = decides.at;
    ops_are = is.may.ops_are;
    lowers_are = record { long = ap (λ (l : List ℕ). length l) lowers ∙ is.may.lowers_are.long; at = λ o there. ap (λ (l : List ℕ). slice_index l (number_of problem o)) lowers ∙ is.may.lowers_are.at o there };
    edition = is.may.edition;
    size = size ∙ is.may.size;
  };
  long = length-append trail (change ∷ []) ∙ ap (λ (n : ℕ). n + 1) is.long ∙ sym (length-append decisions (d ∷ []));
  past = subst (λ (n : ℕ). ArePast problem fixings (decisions ++ d ∷ []) (trail ++ change ∷ []) n (state_of new)) (let same : suc (length decisions) ≡ length (decisions ++ d ∷ []) = omega (arith, length-append decisions (d ∷ [])) in same) last;
  known = known;
}
  where
    last : ArePast problem fixings (decisions ++ d ∷ []) (trail ++ change ∷ []) (suc (length decisions)) (state_of new)
    last = record {
      change = change;
      there = subst (λ (n : ℕ). slice_get (trail ++ change ∷ []) n ≡ Some change) is.long (got_last trail change);
      may = decides.may;
      at = subst (λ (s : GraphState). IsStateAt (node_at problem fixings (take (length decisions) (decisions ++ d ∷ []))) s) (sym decides.back)
          (subst (λ (ds : List Decision). IsStateAt (node_at problem fixings ds) (state_of parts)) (sym (take-append-le (length decisions) decisions (d ∷ []) (omega arith) ∙ take_all (length decisions) decisions (omega arith))) is.may.state);
      before = subst (λ (s : GraphState). ArePast problem fixings (decisions ++ d ∷ []) (trail ++ change ∷ []) (length decisions) s) (sym decides.back)
          (past_more problem fixings decisions trail d change (length decisions) (state_of parts) (omega arith) is.past);
    }

-- ---- the last decision taken back

past_front : (problem : Problem) (fixings : List Fixing) (decisions : List Decision) (left : List Change) (change : Change) (m k : ℕ) (state : GraphState) → k ≤ m → m ≡ length left → ArePast problem fixings decisions (left ++ change ∷ []) k state
    → ArePast problem fixings (take m decisions) left k state
past_front problem fixings decisions left change m zero state le long past = tt
past_front problem fixings decisions left change m (suc k) state le long past = record {
  change = past.change;
  there = got_left left k past.change (omega (arith, le, long)) past.there;
  may = past.may;
  at = subst (λ (ds : List Decision). IsStateAt (node_at problem fixings ds) (restored_state past.change state)) (sym (take-take k m decisions (omega (arith, le)))) past.at;
  before = past_front problem fixings decisions left change m k (restored_state past.change state) (omega (arith, le)) long past.before;
}
  where
    got_left : (xs : List Change) (j : ℕ) (x : Change) → j < length xs → slice_get (xs ++ change ∷ []) j ≡ Some x → slice_get xs j ≡ Some x
    got_left [] j x lt at = absurd (omega arith)
    got_left (y ∷ xs) zero x lt at = at
    got_left (y ∷ xs) (suc j) x lt at = got_left xs j x (omega arith) at

-- what the last change leads back to
record IsLast (problem : Problem) (fixings : List Fixing) (decisions : List Decision) (left : List Change) (change : Change) (state : GraphState) : Type 0 where
  pub long : length decisions ≡ length left + 1
  pub may : MayRestore change state
  pub at : IsStateAt (node_at problem fixings (take (length left) decisions)) (restored_state change state)
  pub before : ArePast problem fixings decisions (left ++ change ∷ []) (length left) (restored_state change state)

last_is : (problem : Problem) (fixings : List Fixing) (ops closed : List Op) (decisions : List Decision) (parts : Parts) (left : List Change) (change : Change) → IsGraph problem fixings ops closed decisions parts (left ++ change ∷ [])
    → IsLast problem fixings decisions left change (state_of parts)
last_is problem fixings ops closed decisions parts left change is = by (subst (λ (n : ℕ). ArePast problem fixings decisions (left ++ change ∷ []) n (state_of parts)) (let same : length decisions ≡ suc (length left) = omega (arith, count) in same) is.past)
  where
    count : length decisions ≡ length left + 1
    count = sym is.long ∙ length-append left (change ∷ [])

    by : ArePast problem fixings decisions (left ++ change ∷ []) (suc (length left)) (state_of parts) → IsLast problem fixings decisions left change (state_of parts)
    by past =
        let same : past.change ≡ change = same_Some past.change change (sym past.there ∙ got_last left change) in
        record {
          long = count;
          may = subst (λ (c : Change). MayRestore c (state_of parts)) same past.may;
          at = subst (λ (c : Change). IsStateAt (node_at problem fixings (take (length left) decisions)) (restored_state c (state_of parts))) same past.at;
          before = subst (λ (c : Change). ArePast problem fixings decisions (left ++ change ∷ []) (length left) (restored_state c (state_of parts))) same past.before;
        }

pub may_undo : (problem : Problem) (fixings : List Fixing) (ops closed : List Op) (decisions : List Decision) (parts : Parts) (trail left : List Change) (change : Change) → IsGraph problem fixings ops closed decisions parts trail → trail ≡ left ++ change ∷ [] → MayRestore change (state_of parts)
may_undo problem fixings ops closed decisions parts trail left change is popped = (last_is problem fixings ops closed decisions parts left change (subst (IsGraph problem fixings ops closed decisions parts) popped is)).may

pub graph_undone : (problem : Problem) (fixings : List Fixing) (ops closed : List Op) (decisions kept : List Decision) (parts new : Parts) (trail left : List Change) (change : Change) → IsGraph problem fixings ops closed decisions parts trail → trail ≡ left ++ change ∷ []
    → kept ≡ take (length decisions - 1) decisions → state_of new ≡ restored_state change (state_of parts) → new.paths.lowers ≡ parts.paths.lowers → new.paths.uppers ≡ parts.paths.uppers → new.orders.size ≡ parts.orders.size → KeepsOwnRoutes problem new.known → IsGraph problem fixings ops closed kept new left
graph_undone problem fixings ops closed decisions kept parts new trail left change is popped shorter state lowers uppers size known =
    let last = last_is problem fixings ops closed decisions parts left change (subst (IsGraph problem fixings ops closed decisions parts) popped is) in
    let same : kept ≡ take (length left) decisions = shorter ∙ ap (λ (n : ℕ). take n decisions) (omega (arith, last.long)) in
    let count : length kept ≡ length left = ap (λ (ds : List Decision). length ds) same ∙ length-take-le (length left) decisions (omega (arith, last.long)) in
    record {
      uppers_are = subst (AreUppersOf problem fixings) (sym uppers) is.uppers_are;
      closed_are = is.closed_are;
      may = record {
        state = subst (λ (ds : List Decision). IsStateAt (node_at problem fixings ds) (state_of new)) (sym same) (subst (λ (s : GraphState). IsStateAt (node_at problem fixings (take (length left) decisions)) s) (sym state) last.at);
        ops_are = is.may.ops_are;
        lowers_are = record { long = ap (λ (l : List ℕ). length l) lowers ∙ is.may.lowers_are.long; at = λ o there. ap (λ (l : List ℕ). slice_index l (number_of problem o)) lowers ∙ is.may.lowers_are.at o there };
        edition = is.may.edition;
        size = size ∙ is.may.size;
      };
      long = sym count;
      past = subst (λ (s : GraphState). ArePast problem fixings kept left (length kept) s) (sym state)
          (subst (λ (n : ℕ). ArePast problem fixings kept left n (restored_state change (state_of parts))) (sym count)
          (subst (λ (ds : List Decision). ArePast problem fixings ds left (length left) (restored_state change (state_of parts))) (sym same)
          (past_front problem fixings decisions left change (length left) (length left) (restored_state change (state_of parts)) (omega arith) refl last.before)));
      known = known;
    }
