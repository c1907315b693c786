-- What a reader has seen, part by part, and what a byte more makes of it. Nothing is assumed.
use Rattle.std.proofs.Common.{◌≡◌, ℕ, zero, suc, ◌+◌, ◌-◌, ◌<◌, ◌≤◌, Bool, true, false, cond, ◌&&◌, eqb, ltb, List, [], ◌∷◌, ◌++◌, length, Ok, Err, Result, sym, refl, ap, ◌∙◌, subst, append_assoc, append-nil, arith}
use Rattle.std.proofs.lemmas.List.{length_push}
use Rattle.std.proofs.lemmas.Bool.{ltb-true, ltb-false, eqb-true, and_parts}
use Rattle.names.specs.declared.fault.TemplateFault.{TemplateFault}
use Rattle.names.specs.declared.fault.TemplateFault.TheVariants.{Naan, Shoulder, Letter, Mask}
use Rattle.names.specs.declared.template.parts.Part.{Part}
use Rattle.names.specs.declared.template.parts.Part.TheVariants as part
use Rattle.names.specs.declared.template.parts.Reader.{Reader}
use Rattle.names.specs.Alphabet.{is_of_29}
use Rattle.names.specs.Forms.{Form, spelled, digit, order, place, all_of}
use Rattle.names.specs.Reader.{of_29, reader, next_in}
use Rattle.names.specs.Grammar.{Grammatical, Begins}
use Rattle.names.proofs.Bytes.{all_push, all_as, grammar_29}

-- five digits, a slash, and sh of the 29
pub record Front (sh : ℕ) (bs : List ℕ) : Type 0 where
  pub naan : List ℕ
  pub shoulder : List ℕ
  pub whole : bs ≡ naan ++ (47 ∷ shoulder)
  pub naan_long : length naan ≡ 5
  pub naan_of : all_of digit naan ≡ true
  pub long : length shoulder ≡ sh
  pub few : sh ≤ 13
  pub of : all_of of_29 shoulder ≡ true

-- a front and a dot
pub record Dotted (sh : ℕ) (bs : List ℕ) : Type 0 where
  pub front : List ℕ
  pub whole : bs ≡ front ++ (46 ∷ [])
  pub front_is : Front sh front
  pub some : 1 ≤ sh

-- a front, a dot, a letter and n positions
pub record Masked (n sh : ℕ) (bs : List ℕ) : Type 0 where
  pub front : List ℕ
  pub letter : ℕ
  pub mask : List ℕ
  pub whole : bs ≡ front ++ (46 ∷ (letter ∷ mask))
  pub front_is : Front sh front
  pub some : 1 ≤ sh
  pub letter_is : order letter ≡ true
  pub long : length mask ≡ n
  pub few : n ≤ 8
  pub of : all_of place mask ≡ true

pub record Shut (n sh : ℕ) (bs : List ℕ) : Type 0 where
  pub inner : List ℕ
  pub whole : bs ≡ inner ++ (107 ∷ [])
  pub masked : Masked n sh inner
  pub some : 1 ≤ n

abbrev pub Seen : Part → ℕ → ℕ → List ℕ → Type 0
Seen part.Naan n sh bs = (length bs ≡ n) × (n ≤ 4) × (all_of digit bs ≡ true)
Seen part.Slash n sh bs = (length bs ≡ 5) × (all_of digit bs ≡ true)
Seen part.Shoulder n sh bs = Front n bs
Seen part.Letter n sh bs = Dotted sh bs
Seen part.Mask n sh bs = Masked n sh bs
Seen part.Closed n sh bs = Shut n sh bs

slashed : (bs : List ℕ) → length bs ≡ 5 → all_of digit bs ≡ true → Front 0 (bs ++ (47 ∷ []))
slashed bs l a = record { naan = bs; shoulder = []; whole = refl; naan_long = l; naan_of = a; long = refl; few = omega arith; of = refl }

shouldered : (n b : ℕ) (bs : List ℕ) → Front n bs → of_29 b ≡ true → n < 13 → Front (n + 1) (bs ++ (b ∷ []))
shouldered n b bs x h lt = record {
  naan = x.naan;
  shoulder = x.shoulder ++ (b ∷ []);
  whole = ap (λ l. l ++ (b ∷ [])) x.whole ∙ append_assoc x.naan (47 ∷ x.shoulder) (b ∷ []);
  naan_long = x.naan_long;
  naan_of = x.naan_of;
  long = omega (arith, length_push x.shoulder b, x.long);
  few = omega arith;
  of = all_push of_29 x.shoulder b x.of h;
}

dotted : (n : ℕ) (bs : List ℕ) → Front n bs → 0 < n → Dotted n (bs ++ (46 ∷ []))
dotted n bs x h = record { front = bs; whole = refl; front_is = x; some = h }

lettered : (sh b : ℕ) (bs : List ℕ) → Dotted sh bs → order b ≡ true → Masked 0 sh (bs ++ (b ∷ []))
lettered sh b bs x h = record {
  front = x.front;
  letter = b;
  mask = [];
  whole = ap (λ l. l ++ (b ∷ [])) x.whole ∙ append_assoc x.front (46 ∷ []) (b ∷ []);
  front_is = x.front_is;
  some = x.some;
  letter_is = h;
  long = refl;
  few = omega arith;
  of = refl;
}

placed : (n sh b : ℕ) (bs : List ℕ) → Masked n sh bs → place b ≡ true → n < 8 → Masked (n + 1) sh (bs ++ (b ∷ []))
placed n sh b bs x h lt = record {
  front = x.front;
  letter = x.letter;
  mask = x.mask ++ (b ∷ []);
  whole = ap (λ l. l ++ (b ∷ [])) x.whole ∙ append_assoc x.front (46 ∷ (x.letter ∷ x.mask)) (b ∷ []);
  front_is = x.front_is;
  some = x.some;
  letter_is = x.letter_is;
  long = omega (arith, length_push x.mask b, x.long);
  few = omega arith;
  of = all_push place x.mask b x.of h;
}

shut : (n sh : ℕ) (bs : List ℕ) → Masked n sh bs → 0 < n → Shut n sh (bs ++ (107 ∷ []))
shut n sh bs x h = record { inner = bs; whole = refl; masked = x; some = h }

-- what a step makes, where it makes something
abbrev pub Made : Result Reader TemplateFault → (Reader → Type 0) → Type 0
Made (Ok s) P = P s
Made (Err e) P = Unit {0}

split : (x : Bool) (a : Reader) (r : Result Reader TemplateFault) (P : Reader → Type 0) → (x ≡ true → P a) → Made r P → Made (cond x (Ok a) r) P
split true a r P h m = h refl
split false a r P h m = m

abbrev pub After : List ℕ → ℕ → Reader → Type 0
After bs b t = Seen t.part t.count t.shoulder (bs ++ (b ∷ []))

-- a digit more, of the five
counted : (x : Bool) (n sh b : ℕ) (bs : List ℕ) → ltb n 4 ≡ x → Seen part.Naan n sh bs → digit b ≡ true
    → After bs b (cond x (reader part.Naan (n + 1) sh) (reader part.Slash 0 sh))
counted true n sh b bs e s h =
    let lt : n < 4 = ltb-true n 4 e in
    (omega (arith, length_push bs b, s.0), omega arith, all_push digit bs b s.2 h)
counted false n sh b bs e s h =
    let ge : 4 ≤ n = ltb-false n 4 e in
    (omega (arith, length_push bs b, s.0, s.1), all_push digit bs b s.2 h)

pub seen_on : (q : Part) (n sh b at : ℕ) (bs : List ℕ) → Seen q n sh bs → Made (next_in q n sh b at) (After bs b)
seen_on part.Naan n sh b at bs s =
    split (digit b) (cond (ltb n 4) (reader part.Naan (n + 1) sh) (reader part.Slash 0 sh)) (Err (Naan at)) (After bs b)
    (λ h. counted (ltb n 4) n sh b bs refl s h) tt
seen_on part.Slash n sh b at bs s =
    split (eqb b 47) (reader part.Shoulder 0 sh) (Err (Naan at)) (After bs b)
    (λ h. subst (λ (v : ℕ). Front 0 (bs ++ (v ∷ []))) (sym (eqb-true b 47 h)) (slashed bs s.0 s.1)) tt
seen_on part.Shoulder n sh b at bs s =
    split (of_29 b && ltb n 13) (reader part.Shoulder (n + 1) sh) (cond (eqb b 46 && ltb 0 n) (Ok (reader part.Letter 0 n)) (Err (Shoulder at))) (After bs b)
    (λ h. let x = and_parts (of_29 b) (ltb n 13) h in shouldered n b bs s x.0 (ltb-true n 13 x.1))
    (split (eqb b 46 && ltb 0 n) (reader part.Letter 0 n) (Err (Shoulder at)) (After bs b)
    (λ h. let x = and_parts (eqb b 46) (ltb 0 n) h in
    subst (λ (v : ℕ). Dotted n (bs ++ (v ∷ []))) (sym (eqb-true b 46 x.0)) (dotted n bs s (ltb-true 0 n x.1))) tt)
seen_on part.Letter n sh b at bs s =
    split (order b) (reader part.Mask 0 sh) (Err (Letter at)) (After bs b) (λ h. lettered sh b bs s h) tt
seen_on part.Mask n sh b at bs s =
    split (place b && ltb n 8) (reader part.Mask (n + 1) sh) (cond (eqb b 107 && ltb 0 n) (Ok (reader part.Closed n sh)) (Err (Mask at))) (After bs b)
    (λ h. let x = and_parts (place b) (ltb n 8) h in placed n sh b bs s x.0 (ltb-true n 8 x.1))
    (split (eqb b 107 && ltb 0 n) (reader part.Closed n sh) (Err (Mask at)) (After bs b)
    (λ h. let x = and_parts (eqb b 107) (ltb 0 n) h in
    subst (λ (v : ℕ). Shut n sh (bs ++ (v ∷ []))) (sym (eqb-true b 107 x.0)) (shut n sh bs s (ltb-true 0 n x.1))) tt)
seen_on part.Closed n sh b at bs s = tt

-- the form of what is masked
abbrev pub form_seen : (n sh : ℕ) (bs : List ℕ) → Masked n sh bs → Bool → Form
form_seen n sh bs x check = record { prefix = x.front; letter = x.letter; mask = x.mask; check = check }

unfoldable pub grammatical : (n sh : ℕ) (bs : List ℕ) (x : Masked n sh bs) (check : Bool) → 1 ≤ n → Grammatical (form_seen n sh bs x check)
grammatical n sh bs x check some =
    let y = x.front_is in
    record {
      naan = y.naan;
      shoulder = y.shoulder;
      prefix_is = y.whole;
      naan_long = y.naan_long;
      naan_of = y.naan_of;
      shoulder_some = omega (arith, y.long, x.some);
      shoulder_few = omega (arith, y.long, y.few);
      shoulder_of = all_as of_29 is_of_29 y.shoulder grammar_29 y.of;
      letter_is = x.letter_is;
      mask_some = omega (arith, x.long);
      mask_few = omega (arith, x.long, x.few);
      mask_of = x.of;
    }

pub open_is : (n sh : ℕ) (bs : List ℕ) (x : Masked n sh bs) → bs ≡ spelled (form_seen n sh bs x false)
open_is n sh bs x = x.whole ∙ ap (λ l. x.front ++ (46 ∷ (x.letter ∷ l))) (sym (append-nil x.mask))

pub shut_is : (n sh : ℕ) (bs : List ℕ) (x : Shut n sh bs) → bs ≡ spelled (form_seen n sh x.inner x.masked true)
shut_is n sh bs x =
    let m = x.masked in
    x.whole ∙ ap (λ l. l ++ (107 ∷ [])) m.whole ∙ append_assoc m.front (46 ∷ (m.letter ∷ m.mask)) (107 ∷ [])

-- what begins a template with a byte more begins one
back : (bs : List ℕ) (b : ℕ) → Begins (bs ++ (b ∷ [])) → Begins bs
back bs b w = (b ∷ w.0, w.1, (sym (append_assoc bs (b ∷ []) w.0) ∙ w.2.0, w.2.1))

at_once : (bs : List ℕ) (f : Form) → bs ≡ spelled f → Grammatical f → Begins bs
at_once bs f e g = ([], f, (append-nil bs ∙ e, g))

begins_masked : (n sh : ℕ) (bs : List ℕ) → Masked n sh bs → Begins bs
begins_masked zero sh bs x =
    let y = placed 0 sh 100 bs x refl (omega arith) in
    back bs 100 (at_once (bs ++ (100 ∷ [])) (form_seen (0 + 1) sh (bs ++ (100 ∷ [])) y false) (open_is (0 + 1) sh (bs ++ (100 ∷ [])) y)
    (grammatical (0 + 1) sh (bs ++ (100 ∷ [])) y false (omega arith)))
begins_masked (suc n) sh bs x =
    at_once bs (form_seen (suc n) sh bs x false) (open_is (suc n) sh bs x) (grammatical (suc n) sh bs x false (omega arith))

begins_dotted : (sh : ℕ) (bs : List ℕ) → Dotted sh bs → Begins bs
begins_dotted sh bs x = back bs 115 (begins_masked 0 sh (bs ++ (115 ∷ [])) (lettered sh 115 bs x refl))

begins_front : (n : ℕ) (bs : List ℕ) → Front n bs → Begins bs
begins_front zero bs x =
    let y = shouldered 0 48 bs x refl (omega arith) in
    back bs 48 (back (bs ++ (48 ∷ [])) 46 (begins_dotted (0 + 1) ((bs ++ (48 ∷ [])) ++ (46 ∷ [])) (dotted (0 + 1) (bs ++ (48 ∷ [])) y (omega arith))))
begins_front (suc n) bs x = back bs 46 (begins_dotted (suc n) (bs ++ (46 ∷ [])) (dotted (suc n) bs x (omega arith)))

begins_five : (bs : List ℕ) → length bs ≡ 5 → all_of digit bs ≡ true → Begins bs
begins_five bs l a = back bs 47 (begins_front 0 (bs ++ (47 ∷ [])) (slashed bs l a))

-- k digits are wanting
begins_few : (k : ℕ) (bs : List ℕ) → length bs + k ≡ 5 → all_of digit bs ≡ true → Begins bs
begins_few zero bs l a = begins_five bs (omega arith) a
begins_few (suc k) bs l a =
    let more : length (bs ++ (48 ∷ [])) + k ≡ 5 = omega (arith, length_push bs 48) in
    back bs 48 (begins_few k (bs ++ (48 ∷ [])) more (all_push digit bs 48 a refl))

pub begins : (q : Part) (n sh : ℕ) (bs : List ℕ) → Seen q n sh bs → Begins bs
begins part.Naan n sh bs s = begins_few (5 - n) bs (omega (arith, s.0, s.1)) s.2
begins part.Slash n sh bs s = begins_five bs s.0 s.1
begins part.Shoulder n sh bs s = begins_front n bs s
begins part.Letter n sh bs s = begins_dotted sh bs s
begins part.Mask n sh bs s = begins_masked n sh bs s
begins part.Closed n sh bs s =
    at_once bs (form_seen n sh s.inner s.masked true) (shut_is n sh bs s) (grammatical n sh s.inner s.masked true s.some)
