-- The subcounters of a generator, and the list that they make.
-- share_of: how many numbers a subcounter covers at most; covered: how many it covers.
-- live_from: the live subcounters; left_from: how many numbers are left.
-- chosen: the subcounter that a draw takes; given: the counts after it gave one.
-- gen_ahead: the list of numbers to come; new_ahead: that of a new generator.
-- waits: whether a number is to come; standing: where it stands.
-- Throughout t is the total, sh the share, gs the counts that the subcounters gave, pick the chooser, d the number of draws before.
use Rattle.std.specs.Prelude.{ℕ, zero, suc, ◌+◌, ◌-◌, ◌*◌, ◌/◌, ◌%◌, min, Bool, cond, ◌&&◌, List, [], ◌∷◌, length, replicate, nat_le, nat_lt, slice_index, slice_set}
use Rattle.sources.specs.declared.source.Stand.{Stand}
use Rattle.sources.specs.declared.source.Stand.TheVariants.{Ahead, Given, Foreign}

abbrev pub share_of : ℕ → ℕ
share_of t = t / 293 + 1

-- how many numbers subcounter c covers: those from c × sh on, below t
abbrev pub covered : ℕ → ℕ → ℕ → ℕ
covered t sh c = min sh (t - c * sh)

-- the live subcounters, lowest first, from the counts of c, c + 1, ..
abbrev pub live_from : ℕ → ℕ → ℕ → List ℕ → List ℕ
live_from t sh c [] = []
live_from t sh c (g ∷ gs) = cond (nat_lt g (covered t sh c)) (c ∷ live_from t sh (c + 1) gs) (live_from t sh (c + 1) gs)

-- how many numbers are left, from the counts of c, c + 1, ..
abbrev pub left_from : ℕ → ℕ → ℕ → List ℕ → ℕ
left_from t sh c [] = 0
left_from t sh c (g ∷ gs) = (covered t sh c - g) + left_from t sh (c + 1) gs

-- the subcounter that the chooser takes: the live one at its index, counted from the lowest
abbrev pub chosen : ℕ → ℕ → (ℕ → ℕ → ℕ) → ℕ → List ℕ → ℕ
chosen t sh pick d gs = slice_index (live_from t sh 0 gs) (pick d (length (live_from t sh 0 gs)))

-- the counts after subcounter c gave one number more
abbrev pub given : List ℕ → ℕ → List ℕ
given gs c = slice_set gs c (slice_index gs c + 1)

-- the next f numbers
abbrev pub ahead_for : ℕ → ℕ → (ℕ → ℕ → ℕ) → ℕ → ℕ → List ℕ → List ℕ
ahead_for t sh pick zero d gs = []
ahead_for t sh pick (suc f) d gs = (chosen t sh pick d gs * sh + slice_index gs (chosen t sh pick d gs)) ∷ ahead_for t sh pick f (d + 1) (given gs (chosen t sh pick d gs))

-- the list of numbers to come
abbrev pub gen_ahead : ℕ → ℕ → (ℕ → ℕ → ℕ) → ℕ → List ℕ → List ℕ
gen_ahead t sh pick d gs = ahead_for t sh pick (left_from t sh 0 gs) d gs

-- the counts of a new generator: none of the 293 subcounters gave a number
unfoldable pub none_given : List ℕ
none_given = replicate 293 0

-- the list of a new generator
abbrev pub new_ahead : ℕ → (ℕ → ℕ → ℕ) → List ℕ
new_ahead t pick = gen_ahead t (share_of t) pick 0 none_given

-- n is to come
abbrev pub waits : ℕ → ℕ → List ℕ → ℕ → Bool
waits t sh gs n = nat_lt n t && nat_le (slice_index gs (n / sh)) (n % sh)

-- where n stands
abbrev pub standing : ℕ → ℕ → List ℕ → ℕ → Stand
standing t sh gs n = cond (waits t sh gs n) Ahead (cond (nat_lt n t) Given Foreign)
