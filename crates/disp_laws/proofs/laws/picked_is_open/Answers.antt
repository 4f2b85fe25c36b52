use Rattle.disp_laws.proofs.Paths.{is_in}
use Rattle.disp_laws.proofs.Picked.{goes_two_ways}
use Rattle.disp_laws.proofs.OpenChoices.{picked_is_choice, picked_is_undecided, fixed_is_free}
use Rattle.disp_laws.proofs.laws.picked_is_open.Goals as goal

pub returns : goal.returns
returns c = record {
  allowed = picked_is_choice;
  undecided = picked_is_undecided;
  fixed = fixed_is_free;
  two_ways = λ node o opened.
      let ways = goes_two_ways node o opened.one opened.other opened.one_allowed opened.other_allowed (λ route allowed. is_in o.op route (opened.forced.each_has route allowed)) opened.apart in
      (ways.one, ways.other, ways.one_next, ways.other_next, ways.one_allowed, ways.other_allowed, ways.one_goes, ways.other_goes, ways.apart);
}
