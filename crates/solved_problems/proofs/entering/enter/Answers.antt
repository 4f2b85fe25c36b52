use Rattle.std.proofs.Common.{◌≡◌, ◌∙◌, ℕ, List, length, drop, rules, sym, ap, subst}
use Rattle.disp_model.specs.declared.entry.Entry.{Entry}
use Rattle.shared_board.specs.Board.{known, fetched}
use Rattle.shared_board.specs.Callers.{is_line_of}
use Rattle.shared_board.specs.Onward.{entries_by}
use Rattle.shared_board.proofs.Onward.{looked_entries}
use Rattle.solved_problems.specs.Solved.{AreLinesFor}
use Rattle.solved_problems.proofs.Asking.{all_pass}
use Rattle.solved_problems.proofs.Lines.{as_many}
use Rattle.solved_problems.proofs.entering.enter.Goals as goal

pub returns-then-len-asked-clause-asks : goal.returns-then-len-asked-clause-asks
returns-then-len-asked-clause-asks g c =
    let caller = (known c.args.first.now).caller in let mid = c.enter_lines.new.pass in let seen = (known c.news.new.pass).seen in
    let on = c.in_ok-enter_lines.ensures.on in let asked = c.args.asked.now in
    let none : fetched mid ≡ 0 = on.fetched_is ∙ c.requires.none.1 in
    let all : c.in_ok-news.news.entries ≡ seen = c.in_ok-news.ensures.entries.0 ∙ ap (λ (n : ℕ). drop n seen) none in
    let read : length c.in_ok-news.news.entries ≡ length asked = search rules in
    let looked = c.in_ok-news.ensures.ended in
    let stay : entries_by caller seen ≡ entries_by caller (known mid).seen =
    subst (λ (n : ℕ). entries_by n seen ≡ entries_by n (known mid).seen) on.role.caller (looked_entries (known mid) (known c.news.new.pass) (looked.0, looked.1)) in
    let lines = c.in_ok-enter_lines.ensures.asks in
    let many : length (entries_by caller seen) ≡ length seen =
    ap (λ (l : List Entry). length l) stay ∙ (as_many caller 1 asked _ lines ∙ (sym read ∙ ap (λ (l : List Entry). length l) all)) in
    subst (AreLinesFor caller 1 asked) (all_pass (is_line_of caller) seen many) (subst (AreLinesFor caller 1 asked) (sym stay) lines)
