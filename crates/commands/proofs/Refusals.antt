-- A line is refused at its first wrong word, or at its length where a word is missing. Assumes nothing.
use Rattle.std.proofs.Common.{◌≡◌, ℕ, ◌+◌, ◌<◌, Bool, true, false, cond, eqb, ltb, ◌⊎◌, List, [], ◌∷◌, ◌++◌, length, drop, Some, None, Ok, Err, codes, Option, Result, sym, refl, ap, ◌∙◌, subst, inl, inr, append-nil, arith}
use Rattle.commands.specs.Forms.{bind_set, then, rest, known, then_word, then_known, done, bound_by, form, reads, opens}
use Rattle.commands.specs.Numbers.{number, count, delay}
use Rattle.commands.specs.Refusals.{IsCommand, IsOpening, Begins, Wrong, Unfinished, Refused}
use Rattle.commands.specs.Spelling.{with_spaces, Worded}
use Rattle.commands.specs.Words.{Word, words, texts, pick, heads, openings, turns, edits, elements}
use Rattle.commands.specs.declared.fault.CommandFault.{CommandFault}
use Rattle.commands.specs.declared.fault.CommandFault.TheVariants.{Line}
use Rattle.commands.specs.declared.word.Edit.{Edit}
use Rattle.commands.specs.declared.word.Edit.TheVariants as edit
use Rattle.commands.specs.declared.word.Head.{Head}
use Rattle.commands.specs.declared.word.Head.TheVariants as head
use Rattle.commands.specs.declared.word.Opening.TheVariants as first
use Rattle.commands.specs.declared.word.Turn.TheVariants as turn
use Rattle.commands.proofs.Spelling.{meant_ok, spoken_read, opening_read}
use Rattle.commands.proofs.Typing.{meant_read, words_before, words_last, spelt_spoken, spelt_opening}
use Rattle.commands.proofs.Whole.{AllPlain, plain_words}
use Rattle.std.proofs.lemmas.Option.{none-some}
use Rattle.std.proofs.lemmas.Bool.{eqb-true, eqb-false, ltb-true, ltb-false}
use Rattle.texts.specs.Pieces.{upto}

-- a reader of a line's words
abbrev Reader : Type 0 → Type 0
Reader X = List ℕ → List Word → Result X CommandFault

-- with some words after these it reads, whatever their places and the line
abbrev Live : {X : Type 0} → Reader X → List (List ℕ) → Type 0
Live {X} f pre = (more : List (List ℕ)) × AllPlain more × ((line : List ℕ) (ws : List Word) → texts ws ≡ pre ++ more → (x : X) × (f line ws ≡ Ok x))

-- with no words after these it reads
abbrev Fails : {X : Type 0} → Reader X → List (List ℕ) → Type 0
Fails {X} f pre = (line : List ℕ) (ws : List Word) (more : List (List ℕ)) (x : X) → texts ws ≡ pre ++ more → f line ws ≡ Ok x → ⊥

record Astray {X : Type 0} (f : Reader X) (ws : List Word) (at : ℕ) : Type 0 where
  before : List Word
  word : Word
  after : List Word
  words_are : ws ≡ before ++ (word ∷ after)
  place_is : at ≡ word.place
  begun : Live f (texts before)
  none : Fails f (texts before ++ (word.text ∷ []))

abbrev Stop : {X : Type 0} → Reader X → List ℕ → List Word → CommandFault → Type 0
Stop f line ws fault = (at : ℕ) × (fault ≡ Line at) × (Astray f ws at ⊎ ((at ≡ length line) × Live f (texts ws)))

-- it can read, and stops where it should
record Good {X : Type 0} (f : Reader X) : Type 0 where
  hope : Live f []
  stops : (line : List ℕ) (ws : List Word) (fault : CommandFault) → f line ws ≡ Err fault → Stop f line ws fault

-- a word that stands for something, and then a reader that goes by what it stands for
module _ {W X : Type 0} (meaning : List ℕ → Option W) (g : W → Reader X) where
  abbrev by_known : Reader X
  by_known line ws = then_known meaning line ws (λ x ws. g x line ws)

  known_lives : (t : List ℕ) (y : W) → 0 < length t → meaning t ≡ Some y → (pre : List (List ℕ)) → Live (g y) pre → Live by_known (t ∷ pre)
  known_lives t y some m pre l = (l.0, l.1, lives)
    where
      lives : (line : List ℕ) (ws : List Word) → texts ws ≡ t ∷ (pre ++ l.0) → (x : X) × (by_known line ws ≡ Ok x)
      lives line [] e = absurd (cc)
      lives line (w ∷ ws) e =
          let r = l.2 line ws (cc) in
          let same : w.text ≡ t = cc in
          (r.0, meant_read meaning line w ws (λ x ws. g x line ws) y (omega (arith, some, ap length same)) (ap meaning same ∙ m) ∙ r.1)

  known_at : (t : List ℕ) (more : List (List ℕ)) (line : List ℕ) (ws : List Word) (x : X) → texts ws ≡ t ∷ more → by_known line ws ≡ Ok x
      → (y : W) × (rest : List Word) × (texts rest ≡ more) × (meaning t ≡ Some y) × (0 < length t) × (g y line rest ≡ Ok x)
  known_at t more line ws x e r =
      let k = meant_ok meaning line ws (λ x ws. g x line ws) x r in
      let all : texts (k.0 ∷ k.1) ≡ t ∷ more = sym (ap (λ ws. texts ws) k.3) ∙ e in
      let same : k.0.text ≡ t = cc in
      (k.2, k.1, cc, ap meaning (sym same) ∙ k.4, omega (arith, k.6, ap length same), k.5)

  known_fails : (t : List ℕ) (y : W) → meaning t ≡ Some y → (pre : List (List ℕ)) → Fails (g y) pre → Fails by_known (t ∷ pre)
  known_fails t y m pre f line ws more x e r =
      let k = known_at t (pre ++ more) line ws x e r in
      let same : y ≡ k.0 = cc in
      f line k.1 more x k.2 (ap (λ v. g v line k.1) same ∙ k.5)

  good_known : (t : List ℕ) (y : W) → Worded t → meaning t ≡ Some y → ((y : W) → Good (g y)) → Good by_known
  good_known t y fair m good = record { hope = hoped; stops = stop }
    where
      hoped : Live by_known []
      hoped = let l = known_lives t y fair.0 m [] (good y).hope in (t ∷ l.0, (fair.1, l.1), l.2)

      astray : (w : Word) (ws : List Word) → (0 < length w.text → (y : W) → meaning w.text ≡ Some y → ⊥) → Astray by_known (w ∷ ws) w.place
      astray w ws never =
          let none : Fails by_known (w.text ∷ []) = λ line vs more x e r. let k = known_at w.text more line vs x e r in never k.4 k.0 k.3 in
          record { before = []; word = w; after = ws; words_are = refl; place_is = refl; begun = hoped; none = none }

      later : (line : List ℕ) (w : Word) (ws : List Word) (fault : CommandFault) (y : W) → 0 < length w.text → meaning w.text ≡ Some y → Stop (g y) line ws fault → Stop by_known line (w ∷ ws) fault
      later line w ws fault y some m s =
          elim s.2 [
            | inl a ↦
                let begun = known_lives w.text y some m (texts a.before) a.begun in
                let none = known_fails w.text y m (texts a.before ++ (a.word.text ∷ [])) a.none in
                (s.0, s.1, inl (record { before = w ∷ a.before; word = a.word; after = a.after; words_are = ap (λ v. w ∷ v) a.words_are; place_is = a.place_is; begun = begun; none = none }))
            | inr u ↦ (s.0, s.1, inr (u.0, known_lives w.text y some m (texts ws) u.1))
          ]

      stop : (line : List ℕ) (ws : List Word) (fault : CommandFault) → by_known line ws ≡ Err fault → Stop by_known line ws fault
      stop line [] fault e = (length line, cc, inr (refl, hoped))
      stop line (w ∷ ws) fault e = go (eqb (length w.text) 0) refl e
        where
          go : (v : Bool) → eqb (length w.text) 0 ≡ v → then {X = Word × List Word} (cond v (Err (Line w.place)) (Ok (w, ws))) (λ p. then (known (meaning p.0.text) p.0) (λ x. g x line p.1)) ≡ Err fault → Stop by_known line (w ∷ ws) fault
          go true z h = (w.place, cc, inl (astray w ws (λ some y m. omega (arith, eqb-true (length w.text) 0 z))))
          go false z h = at (meaning w.text) refl h
            where
              at : (o : Option W) → meaning w.text ≡ o → then (known o w) (λ x. g x line ws) ≡ Err fault → Stop by_known line (w ∷ ws) fault
              at None m h = (w.place, cc, inl (astray w ws (λ some y n. none-some y (sym m ∙ n))))
              at (Some y) m h = later line w ws fault y (omega (arith, eqb-false (length w.text) 0 z)) m ((good y).stops line ws fault h)

-- any word, and then a reader that goes by its text
good_word : {X : Type 0} (g : List ℕ → Reader X) → ((t : List ℕ) → Good (g t)) → Good (λ line ws. then_word line ws (λ w ws. g w.text line ws))
good_word g good = good_known Some g (codes "a") (codes "a") (omega arith, refl) refl good

-- the end of a form
good_done : {X : Type 0} (x : X) → Good (λ line ws. done ws x)
good_done {X} x = record { hope = hoped; stops = stop }
  where
    ends : (line : List ℕ) (ws : List Word) → texts ws ≡ [] → (y : X) × (done ws x ≡ Ok y)
    ends line [] e = (x, refl)
    ends line (w ∷ ws) e = absurd (cc)

    hoped : Live {X = X} (λ line ws. done ws x) []
    hoped = ([], tt, ends)

    stop : (line : List ℕ) (ws : List Word) (fault : CommandFault) → done ws x ≡ Err fault → Stop {X = X} (λ line ws. done ws x) line ws fault
    stop line [] fault e = absurd (cc)
    stop line (w ∷ ws) fault e = (w.place, cc, inl (record { before = []; word = w; after = ws; words_are = refl; place_is = refl; begun = hoped; none = many }))
      where
        many : Fails {X = X} (λ line ws. done ws x) (w.text ∷ [])
        many line [] more y e r = absurd (cc)
        many line (v ∷ vs) more y e r = absurd (cc)

-- the rest of the line
good_rest : {X : Type 0} (h : List ℕ → X) → Good (λ line ws. then (rest line ws) (λ text. Ok (h text)))
good_rest {X} h = record { hope = hoped; stops = stop }
  where
    reads_on : (line : List ℕ) (ws : List Word) → texts ws ≡ [] ∷ [] → (x : X) × (then (rest line ws) (λ text. Ok (h text)) ≡ Ok x)
    reads_on line [] e = absurd (cc)
    reads_on line (w ∷ ws) e = (h (drop w.place line), refl)

    hoped : Live {X = X} (λ line ws. then (rest line ws) (λ text. Ok (h text))) []
    hoped = ([] ∷ [], (refl, tt), reads_on)

    stop : (line : List ℕ) (ws : List Word) (fault : CommandFault) → then (rest line ws) (λ text. Ok (h text)) ≡ Err fault → Stop {X = X} (λ line ws. then (rest line ws) (λ text. Ok (h text))) line ws fault
    stop line [] fault e = (length line, cc, inr (refl, hoped))
    stop line (w ∷ ws) fault e = absurd (cc)

-- each form, with words that it takes
bound_good : (kind : Edit) (name word : List ℕ) → Good (λ line ws. bound_by kind line ws name word)
bound_good edit.Set name word = good_rest (bind_set name word (pick elements word))
bound_good edit.Purge name word = good_done _

form_good : (h : Head) → Good (form h)
form_good head.Mint = good_known count _ (codes "1") 1 (omega arith, refl) refl (λ n. good_done _)
form_good head.Hold = good_known (pick turns) _ (codes "set") turn.Set (omega arith, refl) refl (λ t. good_word _ (λ name. good_done _))
form_good head.Queue = good_known delay _ (codes "now") 0 (omega arith, refl) refl (λ n. good_word _ (λ name. good_done _))
form_good head.Tick = good_known number _ (codes "0") 0 (omega arith, refl) refl (λ n. good_done _)
form_good head.Bind = good_known (pick edits) _ (codes "set") edit.Set (omega arith, refl) refl (λ kind. good_word _ (λ name. good_word _ (λ word. bound_good kind name word)))
form_good head.Fetch = good_word _ (λ name. good_word _ (λ word. good_done _))
form_good head.Validate = good_word _ (λ name. good_done _)

-- the words of texts, of which the first have no space
front : (at : ℕ) (t : List ℕ) (ts more : List (List ℕ)) → AllPlain (t ∷ ts)
    → (others : List (List ℕ)) × (texts (words at (with_spaces (t ∷ (ts ++ more)))) ≡ t ∷ (ts ++ others)) × (more ≡ [] → others ≡ [])
front at t [] [] p = ([], ap texts (words_last at t p.0), λ e. refl)
front at t [] (m ∷ more) p =
    (texts (words (at + length t + 1) (with_spaces (m ∷ more))), ap texts (words_before at t (with_spaces (m ∷ more)) p.0), λ e. absurd (cc))
front at t (u ∷ ts) more p =
    let ih = front (at + length t + 1) u ts more p.1 in
    (ih.0, ap texts (words_before at t (with_spaces (u ∷ (ts ++ more))) p.0) ∙ ap (λ v. t ∷ v) ih.1, ih.2)

plain_both : (ts us : List (List ℕ)) → AllPlain ts → AllPlain us → AllPlain (ts ++ us)
plain_both [] us p q = q
plain_both (t ∷ ts) us p q = (p.0, plain_both ts us p.1 q)

plain_parts : (before : List Word) (w : Word) (after : List Word) → AllPlain (texts (before ++ (w ∷ after))) → AllPlain (texts before) × (upto 32 w.text ≡ w.text)
plain_parts [] w after p = (tt, p.0)
plain_parts (v ∷ before) w after p = let ih = plain_parts before w after p.1 in ((p.0, ih.0), ih.1)

-- a reader that reads the lines that are so
module _ {X : Type 0} (f : Reader X) (Is : List ℕ → Type 0) (good : Good f)
    (sound : (line : List ℕ) (x : X) → f line (words 0 line) ≡ Ok x → Is line)
    (complete : (line : List ℕ) → Is line → (x : X) × (f line (words 0 line) ≡ Ok x))
    (empty : (x : X) → f [] [] ≡ Ok x → ⊥) where
  begins : (pre : List (List ℕ)) → AllPlain pre → Live f pre → Begins Is pre
  begins pre p l = go (pre ++ l.0) refl (plain_both pre l.0 p l.1)
    where
      go : (all : List (List ℕ)) → all ≡ pre ++ l.0 → AllPlain all → Begins Is pre
      go [] e q = let r = l.2 [] [] e in absurd (empty r.0 r.1)
      go (t ∷ ts) e q =
          let line = with_spaces (t ∷ (ts ++ [])) in
          let h = front 0 t ts [] q in
          let all : t ∷ (ts ++ []) ≡ pre ++ l.0 = ap (λ v. t ∷ v) (append-nil ts) ∙ e in
          let r = l.2 line (words 0 line) (h.1 ∙ ap (λ v. t ∷ (ts ++ v)) (h.2 refl) ∙ all) in
          (l.0, subst (λ (v : List (List ℕ)). Is (with_spaces v)) all (sound line r.0 r.1))

  ends : (pre : List (List ℕ)) → AllPlain pre → Fails f pre → Begins Is pre → ⊥
  ends [] p fail b = let r = complete (with_spaces b.0) b.1 in fail (with_spaces b.0) (words 0 (with_spaces b.0)) (texts (words 0 (with_spaces b.0))) r.0 refl r.1
  ends (t ∷ ts) p fail b =
      let line = with_spaces (t ∷ (ts ++ b.0)) in
      let h = front 0 t ts b.0 p in
      let r = complete line b.1 in
      fail line (words 0 line) h.0 r.0 h.1 r.1

  placed : (line : List ℕ) (fault : CommandFault) → f line (words 0 line) ≡ Err fault → (at : ℕ) × (fault ≡ Line at) × (Wrong Is line at ⊎ Unfinished Is line at)
  placed line fault e =
      let s = good.stops line (words 0 line) fault e in
      let plain = plain_words 0 line in
      elim s.2 [
        | inl a ↦
            let p = plain_parts a.before a.word a.after (subst (λ (ws : List Word). AllPlain (texts ws)) a.words_are plain) in
            let none = ends (texts a.before ++ (a.word.text ∷ [])) (plain_both (texts a.before) (a.word.text ∷ []) p.0 (p.1, tt)) a.none in
            (s.0, s.1, inl (record { before = a.before; word = a.word; after = a.after; words_are = a.words_are; place_is = a.place_is; begun = begins (texts a.before) p.0 a.begun; none = none }))
        | inr u ↦
            let none : Is line → ⊥ = λ is. let r = complete line is in absurd (let z : Err fault ≡ Ok r.0 = sym e ∙ r.1 in cc) in
            (s.0, s.1, inr (record { length_is = u.0; begun = begins (texts (words 0 line)) plain u.1; none = none }))
      ]

  refusal : (line : List ℕ) (fault : CommandFault) → cond (ltb 120 (length line)) (Err (Line 120)) (f line (words 0 line)) ≡ Err fault → Refused Is line fault
  refusal line fault e = go (ltb 120 (length line)) refl e
    where
      go : (v : Bool) → ltb 120 (length line) ≡ v → cond v (Err (Line 120)) (f line (words 0 line)) ≡ Err fault → Refused Is line fault
      go true t h = (120, cc, inl (ltb-true 120 (length line) t, refl))
      go false t h = let p = placed line fault h in (p.0, p.1, inr (ltb-false 120 (length line) t, p.2))

pub reads_refused : (line : List ℕ) (fault : CommandFault) → reads line ≡ Err fault → Refused IsCommand line fault
reads_refused =
    refusal _ IsCommand (good_known (pick heads) form (codes "mint") head.Mint (omega arith, refl) refl form_good)
    (λ line x e. let r = spoken_read line x e in (x, r.0, r.1)) (λ line is. (is.0, spelt_spoken line is.0 is.2 is.1)) (λ x e. cc)

pub opens_refused : (line : List ℕ) (fault : CommandFault) → opens line ≡ Err fault → Refused IsOpening line fault
opens_refused =
    refusal _ IsOpening (good_known (pick openings) _ (codes "template") first.Template (omega arith, refl) refl (λ _. good_word (λ t line ws. done ws t) (λ t. good_done t)))
    (λ line x e. let r = opening_read line x e in (x, r.0, r.1)) (λ line is. (is.0, spelt_opening line is.0 is.2 is.1)) (λ x e. cc)
