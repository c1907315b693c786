-- Maps of bits.
-- bits_from: the places of a word's set bits; live_in: those of a map's words.
-- run: numbers one after another; lacks: a list without a number.
use Rattle.std.specs.Prelude.{ℕ, zero, suc, ◌+◌, ◌/◌, ◌%◌, cond, List, [], ◌∷◌, ◌++◌, ◌==◌}

-- the places of the ones among the k lowest bits of n, lowest first, counted from b
unfoldable pub bits_from : ℕ → ℕ → ℕ → List ℕ
bits_from zero b n = []
bits_from (suc k) b n = cond (n % 2 == 1) (b ∷ bits_from k (b + 1) (n / 2)) (bits_from k (b + 1) (n / 2))

-- the places of the ones in words of 64 bits, counted from b
abbrev pub live_in : ℕ → List ℕ → List ℕ
live_in b [] = []
live_in b (w ∷ ws) = bits_from 64 b w ++ live_in (b + 64) ws

-- b, b + 1, .., n of them
unfoldable pub run : ℕ → ℕ → List ℕ
run b zero = []
run b (suc n) = b ∷ run (b + 1) n

-- xs without x
abbrev pub lacks : ℕ → List ℕ → List ℕ
lacks x [] = []
lacks x (y ∷ ys) = cond (x == y) (lacks x ys) (y ∷ lacks x ys)
