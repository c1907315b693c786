-- Said: a command, with its words as bytes
-- next, last, rest: what a form asks of the words still to come
-- form: the words that each command takes after its first
-- reads, opens: what a line of an open and of a new session says; said: the same of the code's own value
use Rattle.std.specs.Prelude.{ℕ, cond, List, [], ◌∷◌, length, drop, Some, None, Ok, Err, Option, Result, ◌==◌, nat_lt}
use Rattle.std.specs.Borrow.{Bor}
use Rattle.commands.specs.Numbers.{number, count, delay}
use Rattle.commands.specs.Words.{Word, words, pick, heads, openings, turns, edits, elements}
use Rattle.commands.specs.declared.command.Command.{Command}
use Rattle.commands.specs.declared.command.Command.TheVariants as command
use Rattle.commands.specs.declared.fault.CommandFault.{CommandFault}
use Rattle.commands.specs.declared.fault.CommandFault.TheVariants.{Line}
use Rattle.commands.specs.declared.word.Edit.{Edit}
use Rattle.commands.specs.declared.word.Edit.TheVariants as edit
use Rattle.commands.specs.declared.word.Head.{Head}
use Rattle.commands.specs.declared.word.Head.TheVariants as head
use Rattle.commands.specs.declared.word.Turn.{Turn}
use Rattle.commands.specs.declared.word.Turn.TheVariants as turn
use Rattle.stores.specs.declared.text.Element.{Element}

-- the element of bind_set, bind_purge and fetch is there by its word and by what the word stands for
pub data Said : Type 0 where
  mint : ℕ → Said
  hold_set : List ℕ → Said
  hold_release : List ℕ → Said
  queue : List ℕ → ℕ → Said
  tick : ℕ → Said
  bind_set : List ℕ → List ℕ → Option Element → List ℕ → Said
  bind_purge : List ℕ → List ℕ → Option Element → Said
  fetch : List ℕ → List ℕ → Option Element → Said
  validate : List ℕ → Said

-- a line that fits no form is refused at a place
abbrev pub wrong : {X : Type 0} → ℕ → Result X CommandFault
wrong at = Err (Line at)

abbrev pub then : {X Y : Type 0} → Result X CommandFault → (X → Result Y CommandFault) → Result Y CommandFault
then (Ok x) f = f x
then (Err fault) f = Err fault

-- the next word and those after it: it must be there and must not be empty
abbrev pub next : List ℕ → List Word → Result (Word × List Word) CommandFault
next line [] = wrong (length line)
next line (w ∷ ws) = cond (length w.text == 0) (wrong w.place) (Ok (w, ws))

-- no word too many
abbrev pub last : List Word → Result (Unit {0}) CommandFault
last [] = Ok tt
last (w ∷ ws) = wrong w.place

-- the rest of the line, from where the next word begins: that place must be there
abbrev pub rest : List ℕ → List Word → Result (List ℕ) CommandFault
rest line [] = wrong (length line)
rest line (w ∷ ws) = Ok (drop w.place line)

-- what a word stands for, which must be something
abbrev pub known : {X : Type 0} → Option X → Word → Result X CommandFault
known None w = wrong w.place
known (Some x) w = Ok x

-- a word, and then the rest of a form
abbrev pub then_word : {X : Type 0} → List ℕ → List Word → (Word → List Word → Result X CommandFault) → Result X CommandFault
then_word line ws f = then (next line ws) (λ p. f p.0 p.1)

-- a word that must stand for something, and then the rest of a form
abbrev pub then_known : {W X : Type 0} → (List ℕ → Option W) → List ℕ → List Word → (W → List Word → Result X CommandFault) → Result X CommandFault
then_known meaning line ws f = then_word line ws (λ w ws. then (known (meaning w.text) w) (λ x. f x ws))

-- the form ends here
abbrev pub done : {X : Type 0} → List Word → X → Result X CommandFault
done ws x = then (last ws) (λ _. Ok x)

abbrev pub held_by : Turn → List ℕ → Said
held_by turn.Set name = hold_set name
held_by turn.Release name = hold_release name

-- what `bind` takes after NAME ELEMENT: TEXT or nothing
abbrev pub bound_by : Edit → List ℕ → List Word → List ℕ → List ℕ → Result Said CommandFault
bound_by edit.Set line ws name element = then (rest line ws) (λ text. Ok (bind_set name element (pick elements element) text))
bound_by edit.Purge line ws name element = done ws (bind_purge name element (pick elements element))

abbrev pub form : Head → List ℕ → List Word → Result Said CommandFault
-- mint N
form head.Mint line ws = then_known count line ws (λ n ws. done ws (mint n))
-- hold set NAME, hold release NAME
form head.Hold line ws = then_known (pick turns) line ws (λ turn ws. then_word line ws (λ name ws. done ws (held_by turn name.text)))
-- queue now NAME, queue SECONDS NAME
form head.Queue line ws = then_known delay line ws (λ seconds ws. then_word line ws (λ name ws. done ws (queue name.text seconds)))
-- tick SECONDS
form head.Tick line ws = then_known number line ws (λ second ws. done ws (tick second))
-- bind set NAME ELEMENT TEXT, bind purge NAME ELEMENT
form head.Bind line ws =
    then_known (pick edits) line ws (λ edit ws. then_word line ws (λ name ws. then_word line ws (λ element ws. bound_by edit line ws name.text element.text)))
-- fetch NAME ELEMENT
form head.Fetch line ws =
    then_word line ws (λ name ws. then_word line ws (λ element ws. done ws (fetch name.text element.text (pick elements element.text))))
-- validate NAME
form head.Validate line ws = then_word line ws (λ name ws. done ws (validate name.text))

-- a line over 120 bytes is wrong at place 120, whatever it says
abbrev pub short : {X : Type 0} → List ℕ → Result X CommandFault → Result X CommandFault
short line read = cond (nat_lt 120 (length line)) (wrong 120) read

-- the words of a command
abbrev pub spoken : List ℕ → Result Said CommandFault
spoken line = then_known (pick heads) line (words 0 line) (λ head ws. form head line ws)

-- template T
abbrev pub opening : List ℕ → Result (List ℕ) CommandFault
opening line = then_known (pick openings) line (words 0 line) (λ _ ws. then_word line ws (λ template ws. done ws template.text))

-- a line of an open session, and one of a new session
abbrev pub reads : List ℕ → Result Said CommandFault
reads line = short line (spoken line)

abbrev pub opens : List ℕ → Result (List ℕ) CommandFault
opens line = short line (opening line)

-- what the code's own answers say
abbrev pub said : Command → Said
said (command.Mint n) = mint n
said (command.HoldSet name) = hold_set name.now
said (command.HoldRelease name) = hold_release name.now
said (command.Queue name seconds) = queue name.now seconds
said (command.Tick second) = tick second
said (command.BindSet name word element text) = bind_set name.now word.now element text.now
said (command.BindPurge name word element) = bind_purge name.now word.now element
said (command.Fetch name word element) = fetch name.now word.now element
said (command.Validate name) = validate name.now

abbrev pub said_read : Result Command CommandFault → Result Said CommandFault
said_read (Ok command) = Ok (said command)
said_read (Err fault) = Err fault

abbrev pub template_read : Result (Bor (List ℕ)) CommandFault → Result (List ℕ) CommandFault
template_read (Ok template) = Ok template.now
template_read (Err fault) = Err fault
