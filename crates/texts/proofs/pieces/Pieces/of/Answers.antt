use Rattle.texts.proofs.Cuts.{pieces_few}
use Rattle.texts.proofs.pieces.Pieces.of.Goals as goal

pub returns-clause-few : goal.returns-clause-few
returns-clause-few c = pieces_few c.args.mark c.args.text.now
