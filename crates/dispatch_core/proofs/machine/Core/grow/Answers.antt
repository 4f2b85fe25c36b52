use Rattle.std.proofs.Common.{◌∙◌, ap}
use Rattle.dispatch_core.specs.declared.left.Left.{Left}
use Rattle.dispatch_core.specs.States.{Core}
use Rattle.dispatch_core.proofs.Onward.{either_fills}
use Rattle.dispatch_core.proofs.Grafting.{pushed, gone_returned, grown_returned, few_returned, spent_returned, both_returned}
use Rattle.dispatch_core.proofs.machine.Core.grow.Goals as goal

pub graft-requires : goal.graft-requires
graft-requires c =
    either_fills (λ (l : Left). l.nodes.items) (λ (l : Left). l.bounds.items) c.args.self.now c.args.fragment c.requires c.in-Ok.left c.in-Ok.ensures c.problem-problem.result.now
    (c.problem-problem.ensures ∙ c.self.invariant.0.problem ∙ ap (λ (core : Core). core.problem) c.self.view_is)

pub count_of-count-requires : goal.count_of-count-requires
count_of-count-requires c =
    few_returned (λ (l : Left). l.nodes.items) (λ (l : Left). l.bounds.items) _ _ c.self.view_is c.args.searcher c.args.fragment c.in-Ok.left c.in-Ok.ensures c.problem-problem.result.now
    c.problem-problem.ensures c.in-Ok-graft.growth c.graft.new.nodes c.in-Ok-graft.ensures.ok c.in-Grown.splits c.in-Grown.is c.self.invariant.1 c.requires

pub spent_after-self-inside-requires : goal.spent_after-self-inside-requires
spent_after-self-inside-requires c =
    spent_returned (λ (l : Left). l.nodes.items) (λ (l : Left). l.bounds.items) _ _ c.self.view_is c.args.searcher c.args.fragment c.in-Ok.left c.in-Ok.ensures c.problem-problem.result.now
    c.problem-problem.ensures c.in-Ok-graft.growth c.graft.new.nodes c.in-Ok-graft.ensures.ok c.in-Grown.splits c.in-Grown.is c.self.invariant.1 c.requires
    _ _ _ _ _ c.self.invariant.0 _ c.edition-newest.ensures.number _ c.count_of-count.ensures

pub invariant_of-self-in-Grown : goal.invariant_of-self-in-Grown
invariant_of-self-in-Grown c =
    both_returned (λ (l : Left). l.nodes.items) (λ (l : Left). l.bounds.items) _ _ c.self.view_is c.args.searcher c.args.fragment c.in-Ok.left c.in-Ok.ensures c.problem-problem.result.now
    c.problem-problem.ensures c.in-Ok-graft.growth c.graft.new.nodes c.in-Ok-graft.ensures.ok c.in-Grown.splits c.in-Grown.is c.self.invariant.1 c.requires
    _ _ _ _ _ c.self.invariant.0 _ c.edition-newest.ensures.number _ c.count_of-count.ensures _ c.spent_after-self-inside.ensures c.push_reserved.new.self.items
    (pushed _ _ _ _ c.push_reserved.ensures.items c.in-Ok-reserve.ensures.items)

pub returns-in-Gone-clause-ok : goal.returns-in-Gone-clause-ok
returns-in-Gone-clause-ok c =
    gone_returned (λ (l : Left). l.nodes.items) (λ (l : Left). l.bounds.items) _ _ c.self.view_is c.args.searcher c.args.fragment c.in-Ok.left c.in-Ok.ensures c.problem-problem.result.now
    c.problem-problem.ensures c.in-Ok-graft.growth c.graft.new.nodes c.in-Ok-graft.ensures.ok c.in-Gone.node c.in-Gone.is _ c.in-Ok-reserve.ensures.items

pub returns-in-Grown-clause-ok : goal.returns-in-Grown-clause-ok
returns-in-Grown-clause-ok c =
    grown_returned (λ (l : Left). l.nodes.items) (λ (l : Left). l.bounds.items) _ _ c.self.view_is c.args.searcher c.args.fragment c.in-Ok.left c.in-Ok.ensures c.problem-problem.result.now
    c.problem-problem.ensures c.in-Ok-graft.growth c.graft.new.nodes c.in-Ok-graft.ensures.ok c.in-Grown.splits c.in-Grown.is _ c.count_of-count.ensures c.push_reserved.new.self.items
    (pushed _ _ _ _ c.push_reserved.ensures.items c.in-Ok-reserve.ensures.items)
