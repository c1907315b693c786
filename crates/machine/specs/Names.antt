-- Names as texts: Name; bare, the name that a handed text stands for; read_as, what is said of the number that was read.
use Rattle.std.specs.Prelude.{ℕ, List, Ok, Err, Result}
use Rattle.names.specs.declared.fault.NameFault.{NameFault}

-- a name is a text of bytes
abbrev pub Name : Type 0
Name = List ℕ

-- every call on a name, and every history, takes the handed text so; a source sees bare names alone
abbrev pub bare : List ℕ → Name
bare t = t

-- what f says of the number that was read, and x where none was
abbrev pub read_as : {X : Type 0} → (ℕ → X) → X → Result ℕ NameFault → X
read_as f x (Ok n) = f n
read_as f x (Err e) = x
