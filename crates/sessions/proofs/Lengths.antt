-- How many bytes the report of a command has. Assumes nothing.
use Rattle.std.proofs.Common.{◌≡◌, ℕ, zero, suc, ◌*◌, ◌^◌, ◌<◌, ◌≤◌, Bool, true, false, cond, not, ◌&&◌, leb, List, [], ◌++◌, length, is_ok, IfOk, Some, None, Ok, Err, Option, Result, unwrap_or, sym, ap, subst, append-nil, arith, length-append}
use Rattle.commands.proofs.Brief.{Brief, brief}
use Rattle.commands.specs.Forms.{Said, mint, hold_set, hold_release, queue, tick, bind_set, bind_purge, fetch, validate}
use Rattle.commands.specs.Forms.{said as meant, said_read}
use Rattle.commands.specs.Spelling.{Fair, Reading}
use Rattle.commands.specs.declared.command.Command.{Command}
use Rattle.commands.specs.declared.fault.CommandFault.{CommandFault}
use Rattle.machine.specs.Machine as machine
use Rattle.machine.specs.Machine.{Machine, said, answers}
use Rattle.minter.specs.Meaning.{texts_in}
use Rattle.machine.specs.Names.{Name}
use Rattle.machine.specs.Texts.{bytes_of}
use Rattle.machine.specs.declared.text.Text.{Text}
use Rattle.machine.specs.declared.call.Answer.{Answer}
use Rattle.machine.specs.declared.call.Answer.TheVariants.{Minted, Held, Released, Queued, Ticked, Bound, Purged}
use Rattle.machine.specs.declared.fault.RegisterFault.{RegisterFault}
use Rattle.machine.specs.declared.fault.RegisterFault.TheVariants.{Clock}
use Rattle.reports.proofs.Lengths.{decimal_20, line_template, line_refused, line_minted, line_clock, line_held, line_released, line_queued, line_valid, line_bound, line_purged, line_fetched}
use Rattle.reports.specs.Reports.{line, template, fetched, valid, refused}
use Rattle.sessions.specs.Frames.{Within}
use Rattle.sessions.specs.Performing.{mints, told_of, tells, performed, by_look}
use Rattle.std.proofs.lemmas.Fmt.{length-decimal-le}
use Rattle.std.specs.Option.{option_map}
use Rattle.stores.specs.Pairs.{look}
use Rattle.stores.specs.Texts.{same_key}
use Rattle.stores.specs.declared.text.Element.{Element}
use Rattle.stores.specs.declared.text.TextKey.{TextKey}

-- a refused line, of numbers of 64 bits
pub refused_short : (at number place : ℕ) → at < 2 ^ 64 → number < 2 ^ 64 → place < 2 ^ 64 → length (line (refused at number place)) ≤ 71
refused_short at number place a n p = omega (arith, line_refused at number place, decimal_20 at a, decimal_20 number n, decimal_20 place p)

-- an opening line that is accepted
pub template_short : (t : List ℕ) (many : ℕ) → length t ≤ 120 → many < 2 ^ 64 → length (line (template t many)) ≤ 160
template_short t many few fits = omega (arith, line_template t many, decimal_20 many fits)

module _ (named : ℕ → Name) (short : (n : ℕ) → length (named n) ≤ 28) where
  -- an answer that has a number, if the call was accepted
  said_short : (w : List ℕ) (f : ℕ → Answer) (k : ℕ) → ((n : ℕ) → length (told_of named w (f n)) ≤ k) → (r : Result ℕ RegisterFault) → length (told_of named w (said f r)) ≤ k
  said_short w f k each (Ok n) = each n
  said_short w f k each (Err x) = omega arith

  -- a second of 13 digits
  ticked_short : (w : List ℕ) (m : Machine) (s : ℕ) → s < 10 ^ 13 → length (told_of named w (said (λ n. Ticked n) (machine.tick m s).1)) ≤ 38
  ticked_short w m s h = go (not (leb m.clock s && leb s 1000000000000))
    where
      go : (b : Bool) → length (told_of named w (said (λ n. Ticked n) (cond {A = machine.Outcome} b (m, Err Clock) (machine.ticked_to m s, Ok s)).1)) ≤ 38
      go true = omega arith
      go false = omega (arith, line_clock s, length-decimal-le 13 s (omega arith) h (omega arith))

  mints_short : (k : ℕ) (m : Machine) → length (tells named [] (answers m (mints k m))) ≤ 36 * k
  mints_short zero m = omega arith
  mints_short (suc k) m =
      let first = said_short [] (λ n. Minted n) 36 (λ n. omega (arith, line_minted (named n), short n)) (machine.mint m).1 in
      let others : (b : Bool) → length (tells named [] (answers (machine.mint m).0 (cond b (mints k (machine.mint m).0) []))) ≤ 36 * k =
      λ b. elim b as (λ b. length (tells named [] (answers (machine.mint m).0 (cond b (mints k (machine.mint m).0) []))) ≤ 36 * k) [ true ↦ mints_short k (machine.mint m).0 | false ↦ omega arith ] in
      omega (arith, others (is_ok (machine.mint m).1), length-append (told_of named [] (said (λ n. Minted n) (machine.mint m).1)) (tells named [] (answers (machine.mint m).0 (cond (is_ok (machine.mint m).1) (mints k (machine.mint m).0) []))))

-- one line and no other
alone : (t : List ℕ) (k : ℕ) → length t ≤ k → length (t ++ []) ≤ k
alone t k h = omega (arith, ap length (append-nil t))

-- what a command that only looks reports
looked : (m : Machine) (text : ℕ → List ℕ) (k : ℕ) (r : Result ℕ RegisterFault) → ((n : ℕ) → length (text n) ≤ k) → length (by_look m text r).text ≤ k
looked m text k (Ok n) h = h n
looked m text k (Err f) h = omega arith

-- a command of a line, over short names and texts
pub performed_short : (m : Machine) (x : Said) → ((n : ℕ) → length (m.source.named n) ≤ 28) → ((t : List ℕ) (e : Option Element) → length (unwrap_or (machine.fetched m t e) []) ≤ 40)
    → Fair x → Brief x → length (performed m x).text ≤ 3600
performed_short m (mint n) short few fair brief = omega (arith, mints_short m.source.named short n m, fair.1)
performed_short m (hold_set t) short few fair brief = alone _ 3600 (said_short m.source.named short [] (λ n. Held n) 3600 (λ n. omega (arith, line_held (m.source.named n), short n)) (machine.hold m t).1)
performed_short m (hold_release t) short few fair brief = alone _ 3600 (said_short m.source.named short [] (λ n. Released n) 3600 (λ n. omega (arith, line_released (m.source.named n), short n)) (machine.release m t).1)
performed_short m (queue t d) short few fair brief = alone _ 3600 (said_short m.source.named short [] (λ n. Queued n) 3600 (λ n. omega (arith, line_queued (m.source.named n), short n)) (machine.queue m t d).1)
performed_short m (tick s) short few fair brief = alone _ 3600 (omega (arith, ticked_short m.source.named short [] m s fair))
performed_short m (bind_set t w e x) short few fair brief = alone _ 3600 (said_short m.source.named short w (λ n. Bound n) 3600 (λ n. omega (arith, line_bound (m.source.named n) w, short n, brief)) (machine.bind m t e x).1)
performed_short m (bind_purge t w e) short few fair brief = alone _ 3600 (said_short m.source.named short w (λ n. Purged n) 3600 (λ n. omega (arith, line_purged (m.source.named n) w, short n, brief)) (machine.purge m t e).1)
performed_short m (fetch t w e) short few fair brief =
    looked m (λ n. line (fetched (m.source.named n) w (unwrap_or (machine.fetched m t e) []))) 3600 (machine.fetch m t e).1
    (λ n. omega (arith, line_fetched (m.source.named n) w (unwrap_or (machine.fetched m t e) []), short n, few t e, brief))
performed_short m (validate t) short few fair brief = looked m (λ n. line (valid (m.source.named n))) 3600 (machine.validate m t) (λ n. omega (arith, line_valid (m.source.named n), short n))

-- ---- lines that are read, over a register

text_short : (x : Text) → length (bytes_of x) ≤ 40
text_short x = x.fits

option_short : (o : Option Text) → length (unwrap_or (option_map bytes_of o) []) ≤ 40
option_short None = omega arith
option_short (Some x) = text_short x

fetched_short : (m : Machine) → ((k : TextKey) → length (unwrap_or (m.texts k) []) ≤ 40) → (t : List ℕ) (e : Option Element) → length (unwrap_or (machine.fetched m t e) []) ≤ 40
fetched_short m few t e = go (machine.number_of m t) e
  where
    go : (r : Result ℕ RegisterFault) (e : Option Element) → length (unwrap_or (elim r [ Err f ↦ None | Ok n ↦ elim e [ None ↦ None | Some w ↦ m.texts (machine.key n w) ] ]) []) ≤ 40
    go (Err f) e = omega arith
    go (Ok n) None = omega arith
    go (Ok n) (Some w) = few (machine.key n w)

-- a line that was read reports at most 4,000 bytes
pub read_short : (bytes : List ℕ) (m : Machine) (r : Result Command CommandFault) → IfOk r (λ x. Reading bytes (meant x)) → ((n : ℕ) → length (m.source.named n) ≤ 28)
    → (ps : List (TextKey × Text)) → m.texts ≡ texts_in ps → Within m (said_read r)
read_short bytes m (Ok x) reading short ps e =
    let few : (k : TextKey) → length (unwrap_or (m.texts k) []) ≤ 40 = λ k. subst (λ (f : TextKey → Option (List ℕ)). length (unwrap_or (f k) []) ≤ 40) (sym e) (option_short (look same_key ps k)) in
    omega (arith, performed_short m (meant x) short (fetched_short m few) reading.fair (brief bytes (meant x) reading))
read_short bytes m (Err f) reading short ps e = tt
