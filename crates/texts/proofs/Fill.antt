-- Texts put into a buffer one after another. Assumes nothing.
use Rattle.std.proofs.Common.{◌≡◌, ℕ, zero, suc, ◌+◌, ◌-◌, ◌≤◌, List, [], ◌∷◌, ◌++◌, length, take, drop, sym, refl, ap, ◌∙◌, append-nil, arith}
use Rattle.std.proofs.lemmas.List.{drop_all, length-append, length-drop, length-take, take_all, take-append-drop}
use Rattle.std.proofs.Math.Seq.{take-nil, drop-nil}
use Rattle.texts.specs.Output.{fitting, written, Wrote, Puts}
use Rattle.texts.specs.declared.output.Output.{Output}

-- no room at all
pub put_none : (out text : List ℕ) (fill : ℕ) → length out ≤ fill → Wrote out fill text out fill
put_none out text fill h =
    let room : length out - fill ≡ 0 = omega arith in
    let fits : fitting out fill text ≡ [] = ap (λ k. take k text) room in
    record {
      bytes = sym (append-nil out) ∙ (λ i. sym (take_all fill out h) i ++ (sym fits i ++ sym (drop_all (fill + length text) out (omega arith)) i));
      place = omega (arith, ap length fits);
    }

-- a buffer keeps its length
pub written_length : (out : List ℕ) (fill : ℕ) (text : List ℕ) → length (written out fill text) ≡ length out
written_length out fill text = simp (length-append, length-take, length-drop) (omega arith)

-- a buffer with no bytes
written_none : (fill : ℕ) (text : List ℕ) → written [] fill text ≡ []
written_none fill text =
    let room : 0 - fill ≡ 0 = omega arith in
    λ i. take-nil {A = ℕ} fill i ++ (take (room i) text ++ drop-nil {A = ℕ} (fill + length text) i)

-- a place one further on, in a buffer with one more byte before
written_on : (x : ℕ) (out : List ℕ) (fill : ℕ) (text : List ℕ) → written (x ∷ out) (suc fill) text ≡ x ∷ written out fill text
written_on x out fill text =
    let room : length (x ∷ out) - suc fill ≡ length out - fill = omega arith in
    let end : suc fill + length text ≡ suc (fill + length text) = omega arith in
    λ i. x ∷ (take fill out ++ (take (room i) text ++ drop (end i) (x ∷ out)))

-- a text's first byte goes to the first place
written_first : (x c : ℕ) (out text : List ℕ) → written (x ∷ out) 0 (c ∷ text) ≡ c ∷ written out 0 text
written_first x c out text =
    let room : length (x ∷ out) - 0 ≡ suc (length out - 0) = omega arith in
    let end : 0 + length (c ∷ text) ≡ suc (0 + length text) = omega arith in
    λ i. take (room i) (c ∷ text) ++ drop (end i) (x ∷ out)

-- the second text begins where the first ended
then_bytes : (out : List ℕ) (fill : ℕ) (s t : List ℕ) → written (written out fill s) (fill + length (fitting out fill s)) t ≡ written out fill (s ++ t)
then_bytes [] fill s t = ap (λ o. written o (fill + length (fitting [] fill s)) t) (written_none fill s) ∙ written_none (fill + length (fitting [] fill s)) t ∙ sym (written_none fill (s ++ t))
then_bytes (x ∷ out) (suc fill) s t =
    let room : length (x ∷ out) - suc fill ≡ length out - fill = omega arith in
    let on : suc fill + length (fitting (x ∷ out) (suc fill) s) ≡ suc (fill + length (fitting out fill s)) = omega (arith, ap (λ k. length (take k s)) room) in
    (λ i. written (written_on x out fill s i) (on i) t) ∙ written_on x (written out fill s) (fill + length (fitting out fill s)) t ∙ ap (λ o. x ∷ o) (then_bytes out fill s t) ∙ sym (written_on x out fill (s ++ t))
then_bytes (x ∷ out) zero [] t =
    let none : take (length (x ∷ out) - 0) [] ≡ [] = take-nil {A = ℕ} (length (x ∷ out) - 0) in
    λ i. written (none i ++ (x ∷ out)) (0 + length (none i)) t
then_bytes (x ∷ out) zero (c ∷ s) t =
    let room : length (x ∷ out) - 0 ≡ suc (length out - 0) = omega arith in
    let on : 0 + length (fitting (x ∷ out) 0 (c ∷ s)) ≡ suc (0 + length (fitting out 0 s)) = omega (arith, ap (λ k. length (take k (c ∷ s))) room) in
    (λ i. written (written_first x c out s i) (on i) t) ∙ written_on c (written out 0 s) (0 + length (fitting out 0 s)) t ∙ ap (λ o. c ∷ o) (then_bytes out 0 s t) ∙ sym (written_first x c out (s ++ t))

then_place : (out s t : List ℕ) (fill : ℕ) → fill + length (fitting out fill s) + length (fitting (written out fill s) (fill + length (fitting out fill s)) t) ≡ fill + length (fitting out fill (s ++ t))
then_place out s t fill = simp (length-append, length-take, length-drop) (omega arith)

-- one text after another is the two as one
pub join : {d d₁ d₂ s t : List ℕ} {at a₁ a₂ : ℕ} → Wrote d at s d₁ a₁ → Wrote d₁ a₁ t d₂ a₂ → Wrote d at (s ++ t) d₂ a₂
join {d} {d₁} {d₂} {s} {t} {at} x y = record {
  bytes = y.bytes ∙ (λ i. written (x.bytes i) (x.place i) t) ∙ then_bytes d at s t;
  place = y.place ∙ (λ i. x.place i + length (fitting (x.bytes i) (x.place i) t)) ∙ then_place d s t at;
}

-- nothing was put
pub puts_none : (o : Output) → Puts o [] o
puts_none o =
    let place : o.fill ≡ o.fill + 0 = omega arith in
    let none : fitting o.bytes.now o.fill [] ≡ [] = take-nil {A = ℕ} (length o.bytes.now - o.fill) in
    record {
      same_reference = refl;
      wrote = record {
        bytes = sym (take-append-drop o.fill o.bytes.now) ∙ (λ i. take o.fill o.bytes.now ++ (sym none i ++ drop (place i) o.bytes.now));
        place = omega (arith, ap length none);
      };
    }

-- one text after another is put as the two as one
pub puts_join : {a b c : Output} {s t : List ℕ} → Puts a s b → Puts b t c → Puts a (s ++ t) c
puts_join x y = record { same_reference = y.same_reference ∙ x.same_reference; wrote = join x.wrote y.wrote }
