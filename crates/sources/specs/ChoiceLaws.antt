-- Each chooser's index is below the count of live subcounters. Assumes nothing.
use Rattle.std.proofs.Common.{subst, mul_comm, mul-lt-mul_of_pos_right, lit<}
use Rattle.std.specs.Prelude.{ℕ, ◌*◌, ◌/◌, ◌^◌, ◌<◌, ◌≤◌}
use Rattle.std.proofs.lemmas.Nat.{div_below, mod_below}
use Rattle.sources.specs.Choices.{bits48, drand48, by_letter}
use Rattle.sources.specs.declared.chooser.ByLetter.{ByLetter}
use Rattle.sources.specs.declared.chooser.ByLetter.TheVariants.{Ordered, Scrambled}

scaled : (x live k : ℕ) → 0 < k → x < k → 1 ≤ live → x * live / k < live
scaled x live k p h q = div_below (x * live) k live p (subst (λ (v : ℕ). x * live < v) (mul_comm k live) (mul-lt-mul_of_pos_right h q))

pub drand48_under : (draw live : ℕ) → 1 ≤ live → drand48 draw live < live
drand48_under draw live h = scaled (bits48 draw) live (2 ^ 48) (lit< tt) (mod_below _ (2 ^ 48) (lit< tt)) h

pub by_letter_under : (s : ByLetter) (draw live : ℕ) → 1 ≤ live → by_letter s draw live < live
by_letter_under Ordered draw live h = h
by_letter_under Scrambled draw live h = drand48_under draw live h
