use Rattle.std.proofs.Common.{◌≡◌, ℕ, ◌+◌, ◌/◌, ◌%◌, ◌<◌, ◌≤◌, List, [], ◌∷◌, ◌++◌, length, drop, set, ap, sym, ◌∙◌, subst, append_assoc, div-lt_iff_lt-mul, mul_comm, arith}
use native.Mathlib.Nat.{div-div-eq-div-mul}
use Rattle.std.proofs.lemmas.List.{drop-set}
use Rattle.names.specs.Alphabet.{char_of}
use Rattle.names.specs.Naming.{base, total, digits}
use Rattle.names.proofs.Numbers.{base_some, total_push, digits_push}
use Rattle.names.proofs.naming.+spell.Goals as goal

-- what is left above all positions is left above those before the last
left : (mask before : List ℕ) (m n : ℕ) → mask ≡ before ++ m ∷ [] → n / base m / total before ≡ n / total mask
left mask before m n whole = div-div-eq-div-mul n (base m) (total before) ∙ ap (λ k. n / k) (mul_comm (base m) (total before) ∙ sym (ap total whole ∙ total_push before m))

-- what is left is below the total of the positions before the last
below : (mask before : List ℕ) (m n : ℕ) → mask ≡ before ++ m ∷ [] → n < total mask → n / base m < total before
below mask before m n whole h = (div-lt_iff_lt-mul (base_some m)).1 (subst (λ (k : ℕ). n < k) (ap total whole ∙ total_push before m) h)

-- the last character stands behind the others
behind : (out mask before : List ℕ) (m n : ℕ) → mask ≡ before ++ m ∷ [] → length before + 1 ≡ length mask → length mask ≤ length out → n < total mask
    → digits before (n / base m) ++ drop (length before) (set out (length before) (char_of (n % base m))) ≡ digits mask n ++ drop (length mask) out
behind out mask before m n whole long room h =
    let c = char_of (n % base m) in
    let rest : drop (length before) (set out (length before) c) ≡ c ∷ drop (length before + 1) out = drop-set out (length before) c (omega arith) in
    let all : digits before (n / base m) ++ c ∷ [] ≡ digits mask n = sym (ap (λ ms. digits ms n) whole ∙ digits_push before m n (subst (λ (ms : List ℕ). n < total ms) whole h)) in
    ap (λ s. digits before (n / base m) ++ s) (rest ∙ ap (λ k. c ∷ drop k out) long)
    ∙ (sym (append_assoc (digits before (n / base m)) (c ∷ []) (drop (length mask) out)) ∙ ap (λ s. s ++ drop (length mask) out) all)

pub returns : goal.returns
returns t c =
    let out = c.args.out.now in
    let mask = c.args.mask.now in
    let before = c.in-Some.before.now in
    let m = c.in-Some.last.now in
    let n = c.args.n in
    let last = c.in-Some.ensures.cases in
    let same = c.split-c.ensures in
    let at = length before in
    record {
      above = c.spell.ensures.above ∙ (ap (λ k. k / total before) same.1 ∙ left mask before m n last.0);
      digits = λ h.
          c.spell.ensures.digits (subst (λ (k : ℕ). k < total before) (sym same.1) (below mask before m n last.0 h))
          ∙ (ap (λ k. digits before k ++ drop at (set out at c.split-c.result.0)) same.1
          ∙ (ap (λ k. digits before (n / base m) ++ drop at (set out at k)) same.0 ∙ behind out mask before m n last.0 last.1 c.requires h));
    }
