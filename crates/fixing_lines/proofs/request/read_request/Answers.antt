use Rattle.fixing_lines.proofs.Words.{reads_one}
use Rattle.fixing_lines.proofs.request.read_request.Goals as goal

pub returns-in-Some : goal.returns-in-Some
returns-in-Some c = record { exact = reads_one c.args.line.now _ c.in-Some.ensures }
