-- Lends: whatever was put into it, the output still lends the same buffer, of the same length
use Rattle.std.specs.Prelude.{◌≡◌, length}
use Rattle.texts.specs.declared.output.Output.{Output}

pub record Lends (old new : Output) : Type 0 where
  pub same_reference : new.bytes.ghost_name ≡ old.bytes.ghost_name
  pub same_length : length new.bytes.now ≡ length old.bytes.now
