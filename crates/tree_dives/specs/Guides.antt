-- What guides dives.
use Rattle.disp_model.specs.declared.problem.Problem.{Problem}
use Rattle.first_overlaps.specs.Known.{AreSpansFor}
use Rattle.tree_dives.specs.declared.guide.Guide.{Guide}

-- what is known of when operations run is known of those of the problem
abbrev pub GuidesIn : Problem → Guide → Type 0
GuidesIn problem guide = AreSpansFor problem guide.spans
