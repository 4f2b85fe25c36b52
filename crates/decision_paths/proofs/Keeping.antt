-- What is kept beside decisions, when one is put behind and when it is taken back.
use Rattle.std.proofs.Common.{◌≡◌, ◌∙◌, ℕ, List, [], ◌∷◌, ◌++◌, Some, refl, sym, ap}
use Rattle.std.specs.Global.{Vec}
use Rattle.std.proofs.lemmas.Option.{none-some}
use Rattle.disp_model.specs.declared.train.Op.{Op}
use Rattle.disp_model.specs.declared.decision.Decision.{Decision}
use Rattle.disp_model.specs.declared.decision.Decision.TheVariants.{First}
use Rattle.decision_paths.specs.Kept.{train_about, AreRoutesByTrain, AreFirsts, AreDecisionsKept}
use Rattle.decision_paths.proofs.Firsts.{IsNoOrder, firsts_other, firsts_without}
use Rattle.decision_paths.proofs.Listing.{routes_other, routes_without}

-- what speaks of routes is no order
no_order : (decision : Decision) (t : ℕ) → train_about decision ≡ Some t → IsNoOrder decision
no_order decision t about a b is = none-some t (sym (ap train_about is) ∙ about)

module _ (decisions : List Decision) (orders : List ((Op × Op) × ℕ)) (routes new : List (Vec Decision)) (decision : Decision) (t : ℕ) (about : train_about decision ≡ Some t) where
  pub kept_route : (given : Decision) → given ≡ decision → (AreRoutesByTrain decisions routes → AreRoutesByTrain (decisions ++ decision ∷ []) new) → AreDecisionsKept decisions orders routes → AreDecisionsKept (decisions ++ given ∷ []) orders new
  kept_route given is noted are = rw is (record { firsts = firsts_other decisions decision orders (no_order decision t about) are.firsts; by_train = noted are.by_train })

  pub left_route : (AreRoutesByTrain (decisions ++ decision ∷ []) routes → AreRoutesByTrain decisions new) → AreDecisionsKept (decisions ++ decision ∷ []) orders routes → AreDecisionsKept decisions orders new
  left_route forgot are = record { firsts = firsts_without decisions decision orders (no_order decision t about) are.firsts; by_train = forgot are.by_train }

pub same_order : (decisions : List Decision) (orders : List ((Op × Op) × ℕ)) (routes new : List (Vec Decision)) → (AreRoutesByTrain decisions routes → AreRoutesByTrain decisions new) → AreDecisionsKept decisions orders routes → AreDecisionsKept decisions orders new
same_order decisions orders routes new same are = record { firsts = are.firsts; by_train = same are.by_train }

module _ (decisions : List Decision) (orders new : List ((Op × Op) × ℕ)) (routes : List (Vec Decision)) (decision : Decision) (a b : Op) (is : decision ≡ First a b) where
  pub kept_order : (AreFirsts decisions orders → AreFirsts (decisions ++ First a b ∷ []) new) → AreDecisionsKept decisions orders routes → AreDecisionsKept (decisions ++ decision ∷ []) new routes
  kept_order noted are = rw is (record { firsts = noted are.firsts; by_train = routes_other decisions (First a b) routes refl are.by_train })

  pub left_order : (AreFirsts (decisions ++ First a b ∷ []) orders → AreFirsts decisions new) → AreDecisionsKept (decisions ++ decision ∷ []) orders routes → AreDecisionsKept decisions new routes
  left_order forgot are = record {
    firsts = forgot (rw (← is) are.firsts);
    by_train = routes_without decisions decision routes (ap train_about is) are.by_train;
  }
