use Rattle.std.proofs.Common.{[], sym, ◌∙◌, arith}
use Rattle.std.proofs.lemmas.Option.{none-some, slice_get_past}
use Rattle.history_laws.proofs.Legality.{legal_more, legal_front, editions_are}
use Rattle.history_laws.proofs.laws.legal_histories_grow.Goals as goal

pub returns : goal.returns
returns c = record {
  none = λ problem settings i entry here. absurd (none-some entry (sym (slice_get_past [] i (omega arith)) ∙ here));
  more = legal_more;
  front = legal_front;
  edition = editions_are;
}
