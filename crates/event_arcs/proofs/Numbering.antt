-- Operations by their numbers, and the steps that listed arcs make between them.
use Rattle.std.proofs.Common.{◌≡◌, ℕ, ◌+◌, ◌≤◌, List, [], ◌∷◌, map, refl, sym, ap, subst, ◌∙◌, arith}
use Rattle.std.specs.Prelude.{All, Contains}
use Rattle.std.proofs.lemmas.List.Elements.{All-contains}
use Rattle.disp_model.specs.declared.train.Op.{Op}
use Rattle.disp_model.specs.declared.problem.Problem.{Problem}
use Rattle.disp_model.specs.Numbers.{number_of}
use Rattle.disp_model.specs.Node.{Node}
use Rattle.disp_model.specs.Routes.{IsForced}
use Rattle.disp_model.specs.Arcs.{IsArc, IsLongestArc}
use Rattle.disp_model.specs.Walks.{WalksOn}
use Rattle.disp_laws.proofs.Numbered.{numbers_apart}
use Rattle.disp_laws.proofs.LongestWalks.{forced_within}
use Rattle.disp_laws.proofs.LongestArcs.{longest_arc as longest_between}
use Rattle.incremental_paths.specs.declared.arc.Arc.{Arc}
use Rattle.incremental_paths.specs.Walks.{JoinsPair, longest_arc, FollowsArcs, steps_length}
use Rattle.incremental_paths.proofs.Members.{joining, longest_le}
use Rattle.event_arcs.specs.Listed.{IsArcOf}
use Rattle.event_windows.specs.Operations.{HasOperation}

pub forced_is_op : (node : Node) (o : Op) → IsForced node o → HasOperation node.problem o
forced_is_op node o forced = record { train = forced.train; op = forced_within node o forced }

pub same_by_number : (problem : Problem) (o p : Op) → HasOperation problem o → HasOperation problem p → number_of problem o ≡ number_of problem p → o ≡ p
same_by_number problem o p one other same = numbers_apart problem o p one.train one.op other.train other.op same

pub same_forced : (node : Node) (o p : Op) → IsForced node o → IsForced node p → number_of node.problem o ≡ number_of node.problem p → o ≡ p
same_forced node o p one other same = same_by_number node.problem o p (forced_is_op node o one) (forced_is_op node p other) same

-- the operation of a number to which a listed arc leads
pub record IsStep (node : Node) (arcs : List Arc) (u : Op) (m : ℕ) : Type 0 where
  pub v : Op
  pub number_is : number_of node.problem v ≡ m
  pub arc_length : ℕ
  pub longest : IsLongestArc node u v arc_length
  pub no_longer : longest_arc arcs (number_of node.problem u) m ≤ arc_length

pub step_of : (node : Node) (arcs : List Arc) (u : Op) (m : ℕ) → All (IsArcOf node) arcs → IsForced node u → JoinsPair arcs (number_of node.problem u) m → IsStep node arcs u m
step_of node arcs u m sound forced joined =
    let listed = joining arcs (number_of node.problem u) m joined in
    let arc = All-contains (IsArcOf node) arcs listed.0 sound listed.1 in
    let same = same_forced node arc.u u arc.joins.from_forced forced (sym arc.from_is ∙ listed.2) in
    let own : IsArc node u arc.v arc.arc_length = subst (λ (o : Op). IsArc node o arc.v arc.arc_length) same arc.joins in
    let longest = longest_between node u arc.v arc.arc_length own in
    record {
      v = arc.v;
      number_is = sym arc.to_is ∙ listed.3;
      arc_length = longest.0;
      longest = longest.1;
      no_longer = longest_le arcs (number_of node.problem u) m longest.0 (λ a there from to. each arc.v longest.0 longest.1 (sym arc.to_is ∙ listed.3) a there from to);
    }
  where
    each : (v : Op) (most : ℕ) → IsLongestArc node u v most → number_of node.problem v ≡ m → (a : Arc) → Contains arcs a → a.from ≡ number_of node.problem u → a.to ≡ m → a.length ≤ most
    each v most longest number a there from to =
        let other = All-contains (IsArcOf node) arcs a sound there in
        let same_u = same_forced node other.u u other.joins.from_forced forced (sym other.from_is ∙ from) in
        let same_v = same_forced node other.v v other.joins.to_forced longest.there.to_forced (sym other.to_is ∙ to ∙ sym number) in
        let half : IsArc node u other.v other.arc_length = subst (λ (o : Op). IsArc node o other.v other.arc_length) same_u other.joins in
        let own : IsArc node u v other.arc_length = subst (λ (o : Op). IsArc node u o other.arc_length) same_v half in
        omega (arith, other.no_longer, longest.longest other.arc_length own)

-- the operations of the numbers along a walk
pub record IsWalked (node : Node) (arcs : List Arc) (u : Op) (walked : ℕ) (rest : List ℕ) : Type 0 where
  pub ops : List Op
  pub total : ℕ
  pub numbers : map (number_of node.problem) ops ≡ rest
  pub on : WalksOn node u walked ops total
  pub enough : walked + steps_length arcs (number_of node.problem u) rest ≤ total

pub walked_of : (node : Node) (arcs : List Arc) (u : Op) (walked : ℕ) (rest : List ℕ) → All (IsArcOf node) arcs → IsForced node u → FollowsArcs arcs (number_of node.problem u) rest → IsWalked node arcs u walked rest
walked_of node arcs u walked [] sound forced follows = record { ops = []; total = walked; numbers = refl; on = refl; enough = omega arith }
walked_of node arcs u walked (m ∷ rest) sound forced follows =
    let step = step_of node arcs u m sound forced follows.0 in
    let on : FollowsArcs arcs (number_of node.problem step.v) rest = subst (λ (n : ℕ). FollowsArcs arcs n rest) (sym step.number_is) follows.1 in
    let later = walked_of node arcs step.v (walked + step.arc_length) rest sound step.longest.there.to_forced on in
    let far : steps_length arcs (number_of node.problem step.v) rest ≡ steps_length arcs m rest = ap (λ (n : ℕ). steps_length arcs n rest) step.number_is in
    record {
      ops = step.v ∷ later.ops;
      total = later.total;
      numbers = ap (λ (n : ℕ). n ∷ map (number_of node.problem) later.ops) step.number_is ∙ ap (λ (l : List ℕ). m ∷ l) later.numbers;
      on = (step.arc_length, step.longest, later.on);
      enough = omega (arith, later.enough, far, step.no_longer);
    }
