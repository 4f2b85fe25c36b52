-- From when and until when operations may start, by the windows that stand at their numbers.
use Rattle.std.proofs.Common.{◌≡◌, ◌∙◌, ℕ, ◌+◌, ◌<◌, ◌↔◌, inl, inr, List, [], ◌∷◌, ◌++◌, Option, length, map, get_or, refl, sym, ap, subst, arith}
use Rattle.std.specs.Prelude.{slice_get, Contains, if◌then◌else◌, Bool, true, false}
use Rattle.std.proofs.lemmas.Bool.{cases_lt}
use Rattle.std.proofs.lemmas.List.Elements.{All-nil, All-push, Contains-append_left}
use Rattle.plain_values.proofs.Lists.{contains_last}
use Rattle.std.specs.Option.{option_map}
use Rattle.std.proofs.lemmas.Option.{slice_get-map, slice_get-get_or, get_or_from_slice_get}
use Rattle.std.proofs.lemmas.List.{length-map}
use Rattle.disp_model.specs.declared.train.Op.{Op}
use Rattle.disp_model.specs.declared.fixing.Fixing.{Fixing}
use Rattle.disp_model.specs.declared.problem.Problem.{Problem}
use Rattle.disp_model.specs.WellFormed.{operation_count}
use Rattle.disp_model.specs.Numbers.{number_of}
use Rattle.disp_model.specs.Node.{node_at}
use Rattle.disp_model.specs.Walks.{lower_of}
use Rattle.event_arcs.specs.Listed.{AreLowersOf}
use Rattle.event_windows.specs.declared.starts.Window.{Window}
use Rattle.event_windows.specs.Operations.{HasOperation, AreOperationsOf}
use Rattle.event_windows.specs.Windows.{window_by, AreWindowsOf}
use Rattle.event_windows.proofs.Numbering.{below, apart}
use Rattle.event_graph.specs.Late.{open_until, AreUppersOf, IsWindowClosed, AreClosedTo, AreClosedOf}

module _ (problem : Problem) (fixings : List Fixing) (windows : List Window) (are : AreWindowsOf problem fixings windows) where
  pub lowers_are : (lowers : List ℕ) → lowers ≡ map (λ w. w.lower) windows → AreLowersOf (node_at problem fixings []) lowers
  lowers_are lowers is = record {
    long = ap (λ (l : List ℕ). length l) is ∙ length-map windows (λ (w : Window). w.lower) ∙ are.long;
    at = λ o there. get_or_from_slice_get lowers (number_of problem o) (lower_of problem fixings o) 0
        (ap (λ (l : List ℕ). slice_get l (number_of problem o)) is ∙ slice_get-map (λ (w : Window). w.lower) windows (number_of problem o) ∙ ap (λ (w : Option Window). option_map (λ (w : Window). w.lower) w) (are.said o there));
  }

  pub uppers_are : (uppers : List (Option ℕ)) → uppers ≡ map open_until windows → AreUppersOf problem fixings uppers
  uppers_are uppers is = record {
    long = ap (λ (l : List (Option ℕ)). length l) is ∙ length-map windows open_until ∙ are.long;
    at = λ o there. ap (λ (l : List (Option ℕ)). slice_get l (number_of problem o)) is ∙ slice_get-map open_until windows (number_of problem o) ∙ ap (λ (w : Option Window). option_map open_until w) (are.said o there);
  }

-- ---- windows that are never open

pub closed_at_first : (problem : Problem) (fixings : List Fixing) → AreClosedTo problem fixings 0 []
closed_at_first problem fixings = record { found = λ o has lt. absurd (omega (arith, lt)); only = All-nil (λ o. HasOperation problem o × IsWindowClosed (window_by problem fixings o)) }

false_not_true : false ≡ true → ⊥
false_not_true e = cc

closed_more : (problem : Problem) (fixings : List Fixing) (n : ℕ) (p : Op) (closed new : List Op) (kept : Bool) → HasOperation problem p → number_of problem p ≡ n → ((kept ≡ true) ↔ IsWindowClosed (window_by problem fixings p))
    → new ≡ (if kept then closed ++ p ∷ [] else closed) → AreClosedTo problem fixings n closed → AreClosedTo problem fixings (n + 1) new
closed_more problem fixings n p closed new true has number closes is before = rw is (record {
  found = λ o there lt closed_is. elim (cases_lt (number_of problem o) n) [
    | inl less ↦ Contains-append_left closed (p ∷ []) o (before.found o there less closed_is)
    | inr last ↦ subst (Contains (closed ++ p ∷ [])) (apart problem p o has there (omega (arith, number, last, lt))) (contains_last closed p)
  ];
  only = All-push (λ o. HasOperation problem o × IsWindowClosed (window_by problem fixings o)) closed p before.only (has, closes.0 refl);
})
closed_more problem fixings n p closed new false has number closes is before = rw is (record {
  found = λ o there lt closed_is. elim (cases_lt (number_of problem o) n) [
    | inl less ↦ before.found o there less closed_is
    | inr last ↦ absurd (false_not_true (closes.1 (subst (λ (q : Op). IsWindowClosed (window_by problem fixings q)) (apart problem o p there has (omega (arith, number, last, lt))) closed_is)))
  ];
  only = before.only;
})

pub closed_step : (problem : Problem) (fixings : List Fixing) (ops : List Op) (windows : List Window) (n : ℕ) (d : Op) (w : Window) (closed new : List Op) (kept : Bool) → AreOperationsOf problem ops → AreWindowsOf problem fixings windows → n < length ops
    → ((kept ≡ true) ↔ IsWindowClosed (get_or windows n w)) → new ≡ (if kept then closed ++ get_or ops n d ∷ [] else closed) → AreClosedTo problem fixings n closed → AreClosedTo problem fixings (n + 1) new
closed_step problem fixings ops windows n d w closed new kept ops_are windows_are lt closes is before =
    let p = get_or ops n d in
    let at = ops_are.numbered n p (slice_get-get_or ops n d lt) in
    let window : get_or windows n w ≡ window_by problem fixings p = get_or_from_slice_get windows n (window_by problem fixings p) w (ap (λ (k : ℕ). slice_get windows k) (sym at.number) ∙ windows_are.said p at.there) in
    closed_more problem fixings n p closed new kept at.there at.number (subst (λ (x : Window). (kept ≡ true) ↔ IsWindowClosed x) window closes) is before

pub closed_all : (problem : Problem) (fixings : List Fixing) (n : ℕ) (closed : List Op) → n ≡ operation_count problem.trains → AreClosedTo problem fixings n closed → AreClosedOf problem fixings closed
closed_all problem fixings n closed all to = record { found = λ o has closed_is. to.found o has (omega (arith, below problem o has, all)) closed_is; only = to.only }
