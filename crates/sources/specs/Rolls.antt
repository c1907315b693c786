-- The numbers of a roll.
-- first_wrong: the index of the first number that a roll cannot have.
-- accepted: the list that a making takes; refusal_at: how it refuses.
-- roll_standing: where a number stands.
use Rattle.std.specs.Prelude.{ℕ, cond, ◌||◌, List, [], ◌∷◌, ◌++◌, length, take, drop, Some, None, Option, nat_le}
use Rattle.sources.specs.Lists.{has}
use Rattle.sources.specs.declared.fault.SourceFault.{SourceFault}
use Rattle.sources.specs.declared.fault.SourceFault.TheVariants as fault
use Rattle.sources.specs.declared.source.Stand.{Stand}
use Rattle.sources.specs.declared.source.Stand.TheVariants.{Ahead, Given, Foreign}

-- of xs, after the numbers seen: the index of the first that is the 4,097th, not below t, or met before
abbrev pub first_wrong : ℕ → List ℕ → List ℕ → Option ℕ
first_wrong t seen [] = None
first_wrong t seen (x ∷ xs) = cond (nat_le 4096 (length seen) || (nat_le t x || has x seen)) (Some (length seen)) (first_wrong t (seen ++ (x ∷ [])) xs)

-- the whole list where it has no wrong number, else none of it
abbrev pub accepted : Option ℕ → List ℕ → List ℕ
accepted None xs = xs
accepted (Some i) xs = []

-- the fault at the index of a wrong number
abbrev pub refusal_at : Option ℕ → Option SourceFault
refusal_at None = None
refusal_at (Some i) = Some (fault.Roll i)

-- where n stands when the first i numbers of xs are given
abbrev pub roll_standing : ℕ → List ℕ → ℕ → Stand
roll_standing i xs n = cond (has n (drop i xs)) Ahead (cond (has n (take i xs)) Given Foreign)
