-- A run without entries is sound.
use Rattle.std.proofs.Common.{◌≡◌, ◌∙◌, ℕ, zero, suc, List, [], ◌∷◌, Bool, Some, None, refl, ap, arith, rules}
use Rattle.std.specs.Prelude.{All, slice_get}
use Rattle.std.proofs.lemmas.Option.{none-some, same_Some}
use Rattle.disp_model.specs.declared.problem.Problem.{Problem}
use Rattle.disp_model.specs.declared.settings.Settings.{Settings}
use Rattle.disp_model.specs.Trees.{FitsNode}
use Rattle.disp_model.specs.History.{edition_of}
use Rattle.open_nodes.specs.declared.place.Place.{Place}
use Rattle.open_nodes.specs.States.{one_open_leaf, first_place}
use Rattle.open_nodes.proofs.TheFirst.{one_leaf_tree}
use Rattle.tree_growth.proofs.Staying.{first_keeps}
use Rattle.tree_replay.proofs.Telling.{one_leaf_replayed}
use Rattle.disp_model.specs.declared.entry.Mark.TheVariants.{Working}
use Rattle.fixing_editions.specs.Edition.{Edition}
use Rattle.dispatch_core.specs.States.{IsSound}
use Rattle.dispatch_core.specs.Kept.{AreCountsKept}

-- the only place is the first
only_first : (n : ℕ) (place : Place) → slice_get (first_place ∷ []) n ≡ Some place → first_place ≡ place
only_first zero place there = same_Some first_place place there
only_first (suc n) place there = absurd (none-some place there)

first_fits : All FitsNode one_open_leaf.kept
first_fits = search rules

pub first_sound : (problem : Problem) (settings : Settings) (ended left : List Bool) → IsSound (record { problem = problem; settings = settings; history = []; nodes = one_open_leaf; ended = ended; left = left })
first_sound problem settings ended left = record {
  legal = λ i entry here. absurd (none-some entry here);
  tree = one_leaf_tree problem;
  replayed = one_leaf_replayed;
  keep = first_keeps settings.rule problem (edition_of []);
  fits = first_fits;
  edition = refl;
  covered = λ edition. omega arith;
  cost = λ plan cost is. absurd (none-some _ is);
  errands = λ n place errand there out. absurd (none-some errand (ap (λ (p : Place). p.out) (only_first n place there) ∙ out));
  marks = λ n place edition there marked. absurd (none-some edition (ap (λ (p : Place). p.examined) (only_first n place there) ∙ marked));
}

-- what is kept beside it
pub first_kept : (edition : Edition) (settings : Settings) (ended left : List Bool) → edition.changes ≡ []
    → AreCountsKept (record { problem = edition.problem; settings = settings; history = []; nodes = one_open_leaf; ended = ended; left = left }) edition None Working 0 None
first_kept edition settings ended left none = record { problem = refl; changes = none; best_is = refl; mark_is = refl; spent_is = refl; last_is = refl }
