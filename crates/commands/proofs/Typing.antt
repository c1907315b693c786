-- A command typed out is read. Assumes nothing.
use Rattle.std.proofs.Common.{◌≡◌, ℕ, suc, ◌+◌, ◌^◌, ◌<◌, ◌≤◌, true, false, cond, eqb, List, [], ◌∷◌, ◌++◌, length, drop, Some, Ok, Err, codes, decimal, Option, Result, sym, refl, ap, ◌∙◌, inl, inr, append-nil, append_assoc, length-append, arith}
use Rattle.commands.specs.Forms.{Said, mint, hold_set, hold_release, queue, tick, bind_set, bind_purge, fetch, validate, then_word, then_known, held_by, bound_by, form, spoken, reads, opening, opens}
use Rattle.commands.specs.Numbers.{delay}
use Rattle.commands.specs.Spelling.{with_spaces, typed, Spelt, Worded, Fair, Reading, Opened}
use Rattle.commands.specs.Words.{Word, words, pick, heads, turns, edits, elements}
use Rattle.commands.specs.declared.fault.CommandFault.{CommandFault}
use Rattle.commands.specs.declared.fault.CommandFault.TheVariants.{Line}
use Rattle.commands.specs.declared.word.Edit.{Edit}
use Rattle.commands.specs.declared.word.Head.{Head}
use Rattle.commands.specs.declared.word.Turn.{Turn}
use Rattle.commands.proofs.Numbers.{decimal_word, number_read, count_read, delay_read}
use Rattle.commands.proofs.Places.{words_first}
use Rattle.std.proofs.lemmas.List.{drop_at}
use Rattle.std.proofs.lemmas.Bool.{le-ltb, ne_eqb}
use Rattle.texts.specs.Pieces.{upto}

-- the words of a text with no space, before a space and at the end
plain_parts : (b : ℕ) (t : List ℕ) → upto 32 (b ∷ t) ≡ b ∷ t → (eqb b 32 ≡ false) × (upto 32 t ≡ t)
plain_parts b t e = (elim (eqb b 32) as (λ v. cond v [] (b ∷ upto 32 t) ≡ b ∷ t → (v ≡ false) × (upto 32 t ≡ t)) [ true ↦ λ h. cc | false ↦ λ h. (refl, cc) ]) e

pub words_before : (at : ℕ) (t bs : List ℕ) → upto 32 t ≡ t → words at (t ++ (32 ∷ bs)) ≡ record { place = at; text = t } ∷ words (at + length t + 1) bs
words_before at [] bs e = ap (λ k. record { place = at; text = [] } ∷ words k bs) (omega arith)
words_before at (b ∷ t) bs e =
    let p = plain_parts b t e in
    let far : at + 1 + length t + 1 ≡ at + suc (length t) + 1 = omega arith in
    rw (p.0, words_before (at + 1) t bs p.1, far)

pub words_last : (at : ℕ) (t : List ℕ) → upto 32 t ≡ t → words at (t ++ []) ≡ record { place = at; text = t } ∷ []
words_last at [] e = refl
words_last at (b ∷ t) e = let p = plain_parts b t e in rw (p.0, words_last (at + 1) t p.1)

-- each command, as its line spells it
full : (t : List ℕ) → 0 < length t → eqb (length t) 0 ≡ false
full t some = ne_eqb (length t) 0 (λ z. omega arith)

-- the text of `bind set`, after its element
beyond : (name word text : List ℕ) → drop (9 + length name + 1 + length word + 1) (with_spaces (codes "bind" ∷ codes "set" ∷ name ∷ word ∷ text ∷ [])) ≡ text
beyond name word text =
    let front = codes "bind set " ++ (name ++ (32 ∷ (word ++ (32 ∷ [])))) in
    let line = with_spaces (codes "bind" ∷ codes "set" ∷ name ∷ word ∷ text ∷ []) in
    let end : ℕ = 9 + length name + 1 + length word + 1 in
    let all : front ++ text ≡ line = simp (append_assoc, append-nil) in
    ap (drop end) (sym all) ∙ drop_at front text end (simp length-append (omega arith))

pub spelt_spoken : (line : List ℕ) (c : Said) → Fair c → Spelt line c → spoken line ≡ Ok c
spelt_spoken line (mint n) f s = let w = decimal_word n (omega arith) in rw (s, words_last 5 (decimal n) w.1, full (decimal n) w.0, count_read n f.0 f.1)
spelt_spoken line (hold_set name) f s = rw (s, words_last 9 name f.1, full name f.0)
spelt_spoken line (hold_release name) f s = rw (s, words_last 13 name f.1, full name f.0)
spelt_spoken line (queue name n) f s =
    let w = decimal_word n f.1 in
    elim s [
      | inl e ↦ rw (e, words_before 6 (decimal n) (name ++ []) w.1, words_last (6 + length (decimal n) + 1) name f.0.1, full (decimal n) w.0, delay_read n f.1, full name f.0.0)
      | inr e ↦ rw (e.1, words_last 10 name f.0.1, full name f.0.0, e.0)
    ]
spelt_spoken line (tick n) f s = let w = decimal_word n f in rw (s, words_last 5 (decimal n) w.1, full (decimal n) w.0, number_read n f)
spelt_spoken line (bind_set name word element text) f s =
    let last = words_first (9 + length name + 1 + length word + 1) (text ++ []) in
    rw (s.0, words_before 9 name (word ++ (32 ∷ (text ++ []))) f.0.1, words_before (9 + length name + 1) word (text ++ []) f.1.1, last, full name f.0.0, full word f.1.0, beyond name word text, s.1)
spelt_spoken line (bind_purge name word element) f s =
    rw (s.0, words_before 11 name (word ++ []) f.0.1, words_last (11 + length name + 1) word f.1.1, full name f.0.0, full word f.1.0, s.1)
spelt_spoken line (fetch name word element) f s =
    rw (s.0, words_before 6 name (word ++ []) f.0.1, words_last (6 + length name + 1) word f.1.1, full name f.0.0, full word f.1.0, s.1)
spelt_spoken line (validate name) f s = rw (s, words_last 9 name f.1, full name f.0)

-- a form's steps at words that are there
pub word_read : {X : Type 0} (line : List ℕ) (w : Word) (ws : List Word) (f : Word → List Word → Result X CommandFault) → 0 < length w.text → then_word line (w ∷ ws) f ≡ f w ws
word_read line w ws f some = rw (full w.text some) refl

pub meant_read : {W X : Type 0} (meaning : List ℕ → Option W) (line : List ℕ) (w : Word) (ws : List Word) (f : W → List Word → Result X CommandFault) (x : W)
    → 0 < length w.text → meaning w.text ≡ Some x → then_known meaning line (w ∷ ws) f ≡ f x ws
meant_read meaning line w ws f x some e = rw (full w.text some, e) refl

-- a line whose words are a command's first word and others
module _ (line : List ℕ) (at : ℕ) (text : List ℕ) (ws : List Word) (h : Head) where
  pub by_words : words 0 line ≡ record { place = at; text = text } ∷ ws → 0 < length text → pick heads text ≡ Some h → spoken line ≡ form h line ws
  by_words e some meant = rw e (meant_read (pick heads) line (record { place = at; text = text }) ws (λ h ws. form h line ws) h some meant)

-- a line that is another, which is read
pub over : {line : List ℕ} (other : List ℕ) (c : Said) → line ≡ other → spoken other ≡ Ok c → spoken line ≡ Ok c
over other c e read = ap spoken e ∙ read

-- each form, with what it takes
pub mint_typed : (n : ℕ) → 1 ≤ n → n ≤ 100 → spoken (typed (mint n)) ≡ Ok (mint n)
mint_typed n low high = spelt_spoken (typed (mint n)) (mint n) (low, high) refl

pub tick_typed : (n : ℕ) → n < 10 ^ 13 → spoken (typed (tick n)) ≡ Ok (tick n)
tick_typed n h = spelt_spoken (typed (tick n)) (tick n) h refl

pub validate_typed : (name : List ℕ) → Worded name → spoken (typed (validate name)) ≡ Ok (validate name)
validate_typed name w = spelt_spoken (typed (validate name)) (validate name) w refl

pub hold_typed : (word name : List ℕ) (t : Turn) → upto 32 word ≡ word → 0 < length word → pick turns word ≡ Some t → Worded name → spoken (with_spaces (codes "hold" ∷ word ∷ name ∷ [])) ≡ Ok (held_by t name)
hold_typed word name t plain some meant w = rw (words_before 5 word (name ++ []) plain, words_last (5 + length word + 1) name w.1, full word some, meant, full name w.0)

pub queue_typed : (word name : List ℕ) (n : ℕ) → upto 32 word ≡ word → 0 < length word → delay word ≡ Some n → Worded name → spoken (with_spaces (codes "queue" ∷ word ∷ name ∷ [])) ≡ Ok (queue name n)
queue_typed word name n plain some meant w = rw (words_before 6 word (name ++ []) plain, words_last (6 + length word + 1) name w.1, full word some, meant, full name w.0)

pub fetch_typed : (name word : List ℕ) → Worded name → Worded word → spoken (with_spaces (codes "fetch" ∷ name ∷ word ∷ [])) ≡ Ok (fetch name word (pick elements word))
fetch_typed name word w v = let c = fetch name word (pick elements word) in spelt_spoken (typed c) c (w, v) (refl, refl)

module _ (line name word : List ℕ) (w : Worded name) (v : Worded word) where
  pub bind_typed : (second : List ℕ) (kind : Edit) (a b d : ℕ) (ws : List Word) → 0 < length second → pick edits second ≡ Some kind
      → words 0 line ≡ record { place = 0; text = codes "bind" } ∷ record { place = a; text = second } ∷ record { place = b; text = name } ∷ record { place = d; text = word } ∷ ws
      → spoken line ≡ bound_by kind line ws name word
  bind_typed second kind a b d ws some meant e = rw (e, full second some, meant, full name w.0, full word v.0) refl

pub purge_typed : (name word : List ℕ) → Worded name → Worded word → spoken (with_spaces (codes "bind" ∷ codes "purge" ∷ name ∷ word ∷ [])) ≡ Ok (bind_purge name word (pick elements word))
purge_typed name word w v = let c = bind_purge name word (pick elements word) in spelt_spoken (typed c) c (w, v) (refl, refl)

pub set_typed : (name word text : List ℕ) → Worded name → Worded word → spoken (with_spaces (codes "bind" ∷ codes "set" ∷ name ∷ word ∷ text ∷ [])) ≡ Ok (bind_set name word (pick elements word) text)
set_typed name word text w v = let c = bind_set name word (pick elements word) text in spelt_spoken (typed c) c (w, v) (refl, refl)

-- the opening line
pub spelt_opening : (line template : List ℕ) → Worded template → line ≡ with_spaces (codes "template" ∷ template ∷ []) → opening line ≡ Ok template
spelt_opening line template w e = rw (e, words_last 9 template w.1, full template w.0)

-- on at most 120 bytes
pub spelt_reads : (line : List ℕ) (c : Said) → Reading line c → reads line ≡ Ok c
spelt_reads line c r = ap (λ v. cond v (Err (Line 120)) (spoken line)) (le-ltb 120 (length line) r.short) ∙ spelt_spoken line c r.fair r.spelt

pub spelt_opens : (line template : List ℕ) → Opened line template → opens line ≡ Ok template
spelt_opens line template r = ap (λ v. cond v (Err (Line 120)) (opening line)) (le-ltb 120 (length line) r.short) ∙ spelt_opening line template r.fair r.spelt
