use Rattle.std.proofs.Common.{◌≡◌, true, map, set, ap, ◌∙◌, arith, eqb}
use Rattle.std.proofs.lemmas.List.{map-set}
use Rattle.std.proofs.lemmas.Bool.Decides.{nat_tests}
use Rattle.incremental_paths.proofs.marks.Marks.mark.Goals as goal

pub returns : goal.returns
returns c =
    let f = c.self.inside in
    let same : eqb f.stamp f.stamp ≡ true = grind (arith, nat_tests) in
    rw (← c.self.view_is) (map-set (λ s. eqb s f.stamp) f.stamps.items c.args.node f.stamp ∙ ap (λ b. set (map (λ s. eqb s f.stamp) f.stamps.items) c.args.node b) same)
