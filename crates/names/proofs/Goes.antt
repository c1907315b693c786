-- Each text of the grammar is read, with the lengths of its parts. Nothing is assumed.
use Rattle.std.proofs.Common.{◌≡◌, ℕ, ◌+◌, ◌<◌, ◌≤◌, Bool, true, false, cond, List, [], ◌∷◌, ◌++◌, length, Ok, Err, sym, ap, ◌∙◌, append_assoc, add-zero, arith, rules}
use Rattle.std.proofs.lemmas.Bool.{lt-ltb, and_parts}
use Rattle.names.specs.declared.fault.TemplateFault.TheVariants.{Early}
use Rattle.names.specs.declared.template.parts.Part.TheVariants as part
use Rattle.names.specs.declared.template.parts.Reader.{Reader}
use Rattle.names.specs.declared.template.parts.Shape.{Shape}
use Rattle.names.specs.Alphabet.{is_of_29}
use Rattle.names.specs.Forms.{Form, spelled, closing, digit, order, place, all_of}
use Rattle.names.specs.Reader.{of_29, reader, next, after, walk, read_shape}
use Rattle.names.specs.Grammar.{Grammatical}
use Rattle.names.proofs.Bytes.{all_as, reader_29}

abbrev pub shape : ℕ → ℕ → Bool → Shape
shape sh n x = record { shoulder = sh; mask = n; check = x }

abbrev pub shape_in : (f : Form) → Grammatical f → Shape
shape_in f g = shape (length g.shoulder) (length f.mask) f.check

-- one byte on
on : (s u : Reader) (b i : ℕ) (bs : List ℕ) → next s b i ≡ Ok u → walk s i (b ∷ bs) ≡ walk u (i + 1) bs
on s u b i bs e = ap (λ r. after r (λ v. walk v (i + 1) bs)) e

mask_step : (b n sh i : ℕ) → place b ≡ true → n < 8 → next (reader part.Mask n sh) b i ≡ Ok (reader part.Mask (n + 1) sh)
mask_step b n sh i e h = search rules

close_step : (n sh i : ℕ) → 0 < n → next (reader part.Mask n sh) 107 i ≡ Ok (reader part.Closed n sh)
close_step n sh i h = search rules

letter_step : (b n sh i : ℕ) → order b ≡ true → next (reader part.Letter n sh) b i ≡ Ok (reader part.Mask 0 sh)
letter_step b n sh i e = search rules

shoulder_step : (b n sh i : ℕ) → of_29 b ≡ true → n < 13 → next (reader part.Shoulder n sh) b i ≡ Ok (reader part.Shoulder (n + 1) sh)
shoulder_step b n sh i e h = search rules

dot_step : (n sh i : ℕ) → 0 < n → next (reader part.Shoulder n sh) 46 i ≡ Ok (reader part.Letter 0 n)
dot_step n sh i h = search rules

naan_step : (b n sh i : ℕ) → digit b ≡ true → n < 4 → next (reader part.Naan n sh) b i ≡ Ok (reader part.Naan (n + 1) sh)
naan_step b n sh i e h = search rules

naan_last : (b n sh i : ℕ) → digit b ≡ true → n ≡ 4 → next (reader part.Naan n sh) b i ≡ Ok (reader part.Slash 0 sh)
naan_last b n sh i e h = search rules

mask_go : (ms : List ℕ) (n sh i : ℕ) (x : Bool) → all_of place ms ≡ true → n + length ms ≤ 8 → 0 < n + length ms
    → walk (reader part.Mask n sh) i (ms ++ closing x) ≡ Ok (shape sh (n + length ms) x)
mask_go [] n sh i true a few some =
    let pos : 0 < n = omega arith in
    on (reader part.Mask n sh) (reader part.Closed n sh) 107 i [] (close_step n sh i pos) ∙ ap (λ m. Ok (shape sh m true)) (sym (add-zero n))
mask_go [] n sh i false a few some =
    let pos : 0 < n = omega arith in
    ap (λ t. cond t (Ok (shape sh n false)) (Err (Early i))) (lt-ltb 0 n pos) ∙ ap (λ m. Ok (shape sh m false)) (sym (add-zero n))
mask_go (b ∷ ms) n sh i x a few some =
    let of = and_parts (place b) (all_of place ms) a in
    let same : n + 1 + length ms ≡ n + length (b ∷ ms) = omega arith in
    on (reader part.Mask n sh) (reader part.Mask (n + 1) sh) b i (ms ++ closing x) (mask_step b n sh i of.0 (omega arith))
    ∙ mask_go ms (n + 1) sh (i + 1) x of.1 (omega arith) (omega arith)
    ∙ ap (λ m. Ok (shape sh m x)) same

shoulder_go : (ss : List ℕ) (n sh i : ℕ) (rest : List ℕ) → all_of of_29 ss ≡ true → n + length ss ≤ 13 → 0 < n + length ss
    → walk (reader part.Shoulder n sh) i (ss ++ (46 ∷ rest)) ≡ walk (reader part.Letter 0 (n + length ss)) (i + length ss + 1) rest
shoulder_go [] n sh i rest a few some =
    on (reader part.Shoulder n sh) (reader part.Letter 0 n) 46 i rest (dot_step n sh i (omega arith))
    ∙ (λ j. walk (reader part.Letter 0 (sym (add-zero n) j)) (sym (add-zero i) j + 1) rest)
shoulder_go (b ∷ ss) n sh i rest a few some =
    let of = and_parts (of_29 b) (all_of of_29 ss) a in
    let same : n + 1 + length ss ≡ n + length (b ∷ ss) = omega arith in
    let far : i + 1 + length ss + 1 ≡ i + length (b ∷ ss) + 1 = omega arith in
    on (reader part.Shoulder n sh) (reader part.Shoulder (n + 1) sh) b i (ss ++ (46 ∷ rest)) (shoulder_step b n sh i of.0 (omega arith))
    ∙ shoulder_go ss (n + 1) sh (i + 1) rest of.1 (omega arith) (omega arith)
    ∙ (λ j. walk (reader part.Letter 0 (same j)) (far j) rest)

naan_go : (ds : List ℕ) (n sh i : ℕ) (rest : List ℕ) → all_of digit ds ≡ true → n + length ds ≡ 5 → 0 < length ds
    → walk (reader part.Naan n sh) i (ds ++ rest) ≡ walk (reader part.Slash 0 sh) (i + length ds) rest
naan_go [] n sh i rest a long some = absurd (omega arith)
naan_go (b ∷ []) n sh i rest a long some = on (reader part.Naan n sh) (reader part.Slash 0 sh) b i rest (naan_last b n sh i (and_parts (digit b) true a).0 (omega arith))
naan_go (b ∷ d ∷ ds) n sh i rest a long some =
    let of = and_parts (digit b) (all_of digit (d ∷ ds)) a in
    let far : i + 1 + length (d ∷ ds) ≡ i + length (b ∷ d ∷ ds) = omega arith in
    on (reader part.Naan n sh) (reader part.Naan (n + 1) sh) b i ((d ∷ ds) ++ rest) (naan_step b n sh i of.0 (omega arith))
    ∙ naan_go (d ∷ ds) (n + 1) sh (i + 1) rest of.1 (omega arith) (omega arith)
    ∙ ap (λ m. walk (reader part.Slash 0 sh) m rest) far

-- the text of a grammatical form, with the shoulder apart
pub apart : (f : Form) (g : Grammatical f) → spelled f ≡ g.naan ++ (47 ∷ (g.shoulder ++ (46 ∷ (f.letter ∷ (f.mask ++ closing f.check)))))
apart f g =
    let rest = 46 ∷ (f.letter ∷ (f.mask ++ closing f.check)) in
    ap (λ p. p ++ rest) g.prefix_is ∙ append_assoc g.naan (47 ∷ g.shoulder) rest

pub goes : (f : Form) (g : Grammatical f) → read_shape (spelled f) ≡ Ok (shape_in f g)
goes f g =
    let ms = f.mask in
    let ss = g.shoulder in
    let end = ms ++ closing f.check in
    let i₁ = 0 + length g.naan in
    let i₂ = i₁ + 1 + length ss + 1 in
    let long : 0 + length ss ≡ length ss = omega arith in
    let wide : 0 + length ms ≡ length ms = omega arith in
    ap read_shape (apart f g)
    ∙ naan_go g.naan 0 0 0 (47 ∷ (ss ++ (46 ∷ (f.letter ∷ end)))) g.naan_of (omega (arith, g.naan_long)) (omega (arith, g.naan_long))
    ∙ shoulder_go ss 0 0 (i₁ + 1) (f.letter ∷ end) (all_as is_of_29 of_29 ss reader_29 g.shoulder_of) (omega (arith, g.shoulder_few)) (omega (arith, g.shoulder_some))
    ∙ on (reader part.Letter 0 (0 + length ss)) (reader part.Mask 0 (0 + length ss)) f.letter i₂ end (letter_step f.letter 0 (0 + length ss) i₂ g.letter_is)
    ∙ mask_go ms 0 (0 + length ss) (i₂ + 1) f.check g.mask_of (omega (arith, g.mask_few)) (omega (arith, g.mask_some))
    ∙ (λ j. Ok (shape (long j) (wide j) f.check))
