-- fitting: the front of a text that finds room in a buffer from a place on
-- written: a buffer with a text from a place on, as far as there is room, and nothing else changed
-- Wrote: the text was put into the buffer at the fill, which gave this buffer and this fill
-- Puts: the text was put into the output, which still lends the same buffer
use Rattle.std.specs.Prelude.{◌≡◌, ℕ, ◌+◌, ◌-◌, List, ◌++◌, length, take, drop}
use Rattle.texts.specs.declared.output.Output.{Output}

abbrev pub fitting : List ℕ → ℕ → List ℕ → List ℕ
fitting out fill text = take (length out - fill) text

abbrev pub written : List ℕ → ℕ → List ℕ → List ℕ
written out fill text = take fill out ++ (fitting out fill text ++ drop (fill + length text) out)

pub record Wrote (out : List ℕ) (fill : ℕ) (text : List ℕ) (after : List ℕ) (filled : ℕ) : Type 0 where
  pub bytes : after ≡ written out fill text
  pub place : filled ≡ fill + length (fitting out fill text)

pub record Puts (old : Output) (text : List ℕ) (new : Output) : Type 0 where
  pub same_reference : new.bytes.ghost_name ≡ old.bytes.ghost_name
  pub wrote : Wrote old.bytes.now old.fill text new.bytes.now new.fill
