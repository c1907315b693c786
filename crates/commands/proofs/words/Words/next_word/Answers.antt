use Rattle.std.proofs.Common.{arith}
use Rattle.commands.proofs.Places.{empty_word, full_word}
use Rattle.commands.proofs.words.Words.next_word.Goals as goal

pub returns-then-to-at-clause-word : goal.returns-then-to-at-clause-word
returns-then-to-at-clause-word c = empty_word c.args.self.now.line.now c.args.self.now.from c.piece_end-to.result (omega arith) c.piece_end-to.ensures.value (omega arith)

pub returns-clause-word : goal.returns-clause-word
returns-clause-word c = full_word c.args.self.now.line.now c.args.self.now.from c.piece_end-to.result (omega arith) c.piece_end-to.ensures.value (omega arith)
