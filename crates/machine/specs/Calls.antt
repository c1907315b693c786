-- Asked: what a call asks, by the bytes that it hands in; asked: what a call of the code asks; asks: what a list of them asks.
use Rattle.std.specs.Prelude.{ℕ, List, [], ◌∷◌, Option}
use Rattle.stores.specs.declared.text.Element.{Element}
use Rattle.machine.specs.declared.call.Call.{Call}
use Rattle.machine.specs.declared.call.Call.TheVariants as call

-- names as they are handed in; a queuing's delay in seconds; a tick's second; an element word that is none of the four is None
pub data Asked : Type 0 where
  Mint : Asked
  Hold : List ℕ → Asked
  Release : List ℕ → Asked
  Queue : List ℕ → ℕ → Asked
  Tick : ℕ → Asked
  Bind : List ℕ → Option Element → List ℕ → Asked
  Purge : List ℕ → Option Element → Asked

abbrev pub asked : Call → Asked
asked call.Mint = Mint
asked (call.Hold t) = Hold t.now
asked (call.Release t) = Release t.now
asked (call.Queue t d) = Queue t.now d
asked (call.Tick s) = Tick s
asked (call.Bind t e w) = Bind t.now e w.now
asked (call.Purge t e) = Purge t.now e

abbrev pub asks : List Call → List Asked
asks [] = []
asks (c ∷ cs) = asked c ∷ asks cs
