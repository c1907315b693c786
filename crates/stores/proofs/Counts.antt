-- A test as a number.
use Rattle.std.proofs.Common.{ℕ, Bool, true, false}

abbrev pub bit : Bool → ℕ
bit true = 1
bit false = 0
