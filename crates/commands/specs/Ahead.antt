-- on: the words of a line from a place on; from past the line's end on there is none
-- ahead: the words that the reader still has before it
-- begun, taken, left: what the reader's answers say of all words of a line, of the next word, and of the rest of the line
use Rattle.std.specs.Prelude.{ℕ, cond, List, [], length, drop, Ok, Err, Result, nat_le}
use Rattle.std.specs.Borrow.{Bor}
use Rattle.commands.specs.Forms.{template_read}
use Rattle.commands.specs.Words.{Word, words}
use Rattle.commands.specs.declared.fault.CommandFault.{CommandFault}
use Rattle.commands.specs.declared.words.Word as code
use Rattle.commands.specs.declared.words.Words.{Words}

abbrev pub on : List ℕ → ℕ → List Word
on line from = cond (nat_le from (length line)) (words from (drop from line)) []

abbrev pub ahead : Words → List Word
ahead x = on x.line.now x.from

abbrev pub begun : Result Words CommandFault → Result (List ℕ × List Word) CommandFault
begun (Ok x) = Ok (x.line.now, ahead x)
begun (Err fault) = Err fault

abbrev pub taken : Result code.Word CommandFault → Words → Result (Word × List Word) CommandFault
taken (Ok word) after = Ok (record { place = word.at; text = word.text.now }, ahead after)
taken (Err fault) after = Err fault

abbrev pub left : Result (Bor (List ℕ)) CommandFault → Result (List ℕ) CommandFault
left = template_read
