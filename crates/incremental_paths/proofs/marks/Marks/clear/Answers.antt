use Rattle.std.proofs.Common.{◌≡◌, length, arith}
use Rattle.std.proofs.lemmas.List.{length-map}
use Rattle.incremental_paths.proofs.Stamps.{none_stamped, zeros_low}
use Rattle.incremental_paths.proofs.marks.Marks.clear.Goals as goal
use Rattle.incremental_paths.proofs.marks.Marks.clear.Goals.{then-self, else-self}

pub returns-clause-size : goal.returns-clause-size
returns-clause-size c =
    elim c.if-self.branch [
      | then-self w ↦
          let same : length w.fill.new.self.items ≡ length c.self.inside.stamps.items = omega (arith, w.fill.ensures.len, w.fill.new.self.ok.0, c.self.inside.stamps.ok.0) in
          rw (w.self-inside-is, ← c.self.view_is) (simp length-map same)
      | else-self w ↦ rw (w.self-inside-is, ← c.self.view_is) (simp length-map)
    ]

pub returns-clause-none : goal.returns-clause-none
returns-clause-none c =
    elim c.if-self.branch [
      | then-self w ↦
          let cleared = w.fill.ensures.items (λ y e. e) in
          rw (w.self-inside-is, cleared) (λ v. none_stamped _ 0 v (zeros_low _))
      | else-self w ↦ rw w.self-inside-is (λ v. none_stamped c.self.inside.stamps.items c.self.inside.stamp v c.self.invariant)
    ]
