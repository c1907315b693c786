-- How many bytes a number and each report's line have. Assumes nothing.
use Rattle.std.proofs.Common.{◌≡◌, ℕ, ◌+◌, ◌^◌, ◌<◌, ◌≤◌, List, [], ◌∷◌, length, codes, decimal, arith, length-append}
use Rattle.reports.specs.Reports.{template, minted, clock, held, released, queued, valid, bound, purged, fetched, refused, tally, total, spaced, line}
use Rattle.std.proofs.lemmas.Fmt.{length-decimal-le}

-- a number of 64 bits; for fewer digits the shelf has length-decimal-le
pub decimal_20 : (n : ℕ) → n < 2 ^ 64 → length (decimal n) ≤ 20
decimal_20 n fits = length-decimal-le 20 n (omega arith) (omega arith) fits

-- a head and one, two or three words: a space before each, and the line's end
pub one_part : (h a : List ℕ) → length (spaced (h ∷ a ∷ [])) ≡ length h + length a + 2
one_part h a = simp length-append (omega arith)

pub two_parts : (h a b : List ℕ) → length (spaced (h ∷ a ∷ b ∷ [])) ≡ length h + length a + length b + 3
two_parts h a b = simp length-append (omega arith)

pub three_parts : (h a b c : List ℕ) → length (spaced (h ∷ a ∷ b ∷ c ∷ [])) ≡ length h + length a + length b + length c + 4
three_parts h a b c = simp length-append (omega arith)

pub line_template : (text : List ℕ) (many : ℕ) → length (line (template text many)) ≡ length text + length (decimal many) + 11
line_template text many = omega (arith, two_parts (codes "template") text (decimal many))

pub line_minted : (name : List ℕ) → length (line (minted name)) ≡ length name + 8
line_minted name = omega (arith, one_part (codes "minted") name)

pub line_clock : (second : ℕ) → length (line (clock second)) ≡ length (decimal second) + 7
line_clock second = omega (arith, one_part (codes "clock") (decimal second))

pub line_held : (name : List ℕ) → length (line (held name)) ≡ length name + 6
line_held name = omega (arith, one_part (codes "held") name)

pub line_released : (name : List ℕ) → length (line (released name)) ≡ length name + 10
line_released name = omega (arith, one_part (codes "released") name)

pub line_queued : (name : List ℕ) → length (line (queued name)) ≡ length name + 8
line_queued name = omega (arith, one_part (codes "queued") name)

pub line_valid : (name : List ℕ) → length (line (valid name)) ≡ length name + 7
line_valid name = omega (arith, one_part (codes "valid") name)

pub line_bound : (name element : List ℕ) → length (line (bound name element)) ≡ length name + length element + 8
line_bound name element = omega (arith, two_parts (codes "bound") name element)

pub line_purged : (name element : List ℕ) → length (line (purged name element)) ≡ length name + length element + 9
line_purged name element = omega (arith, two_parts (codes "purged") name element)

pub line_fetched : (name element text : List ℕ) → length (line (fetched name element text)) ≡ length name + length element + length text + 11
line_fetched name element text = omega (arith, three_parts (codes "fetched") name element text)

pub line_refused : (at number place : ℕ) → length (line (refused at number place)) ≡ length (decimal at) + length (decimal number) + length (decimal place) + 11
line_refused at number place = omega (arith, three_parts (codes "refused") (decimal at) (decimal number) (decimal place))

pub line_tally : (number many : ℕ) → length (line (tally number many)) ≡ length (decimal number) + length (decimal many) + 8
line_tally number many = omega (arith, two_parts (codes "tally") (decimal number) (decimal many))

pub line_total : (many : ℕ) → length (line (total many)) ≡ length (decimal many) + 8
line_total many = omega (arith, one_part (codes "minted") (decimal many))
