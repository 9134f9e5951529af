-- Reading, `run` and writing, put together: what each leaves is what the next needs. Assumes nothing.
use mathlib.Core.Path.{◌≡◌, refl, ap, sym, subst}
use mathlib.Core.Bool.{Bool, true, false}
use mathlib.Core.List.{List, []}
use Prim.Native.Nat.{ℕ, ◌+◌, ◌/◌, ◌≤◌}
use native.Mathlib.Omega.{arith}
use lib.Dec.{eqb}
use lib.ListN.{length, drop, length-append}
use lib.Seq.{length-take-le}
use Rattle.std.specs.Prelude.{if◌then◌else◌}
use Rattle.words.specs.Words.{rows}
use Rattle.checks.specs.Kinds.{ours}
use Rattle.checks.specs.Checked.{Checked}
use Rattle.meaning.specs.Limits.{ended, lost, cut}
use Rattle.meaning.specs.Derivation.{places, nowhere}
use Rattle.meaning.specs.Store.{Input, Leaves, ran, Ran}
use Rattle.meaning.specs.Answer.{Returned, returned, returned_by}
use Rattle.meaning.proofs.Demands.{over-the-words}
use Rattle.calls.specs.Refused.{refused}
use Rattle.calls.specs.Run.{at_return, refusing, run_with_by, run_of}
use Rattle.calls.specs.Outcome.{Outcome as Five}
use Rattle.calls.proofs.Accepting.{accepted-answer}
use Rattle.job.specs.Job.{Heading}
use Rattle.job.specs.Job.{Parsed}
use Rattle.job.specs.Job as told
use Rattle.job.specs.Job.{Reading, Meant, bad, good, meant}
use Rattle.text.specs.Written.{put_text, Put}
use Rattle.job.specs.Answer.{shown, answered}
use Rattle.job.proofs.Readings.{Right}
use Rattle.job.proofs.Answers.{answered-alone}
use Rattle.whole_job.specs.Whole.{handed, text_of, run_text, bad_text, meant_text, answer_to, JobAnswered}
use Rattle.whole_job.proofs.Sizes.{Sized, sized}

-- ---- the mark that comes back

module _ (i : Input) (n : ℕ) (given : i.mark ≤ n) (holds : rows i.store ≤ n) where
  -- A run that is done has its mark within the store; any other gives the mark back.
  pub returned-mark : (r : Ran ℕ) → Leaves i.store i.mark r → (returned i r).mark ≤ n
  unfolding returned_by
  returned-mark (ended k b s u) l =
      let e : rows s.words ≡ rows i.store = ap (λ (m : ℕ). m / 8) l.1.long in
      omega (arith, l.2.fits)
  returned-mark (lost w u) l = given
  returned-mark (cut c w u) l = given

  pub mark-most : (run_of i).mark ≤ n
  unfolding run_with_by
  mark-most = go (eqb verdict.answer 0) refl
    where
      verdict : Checked
      verdict = refused i.table i.store i.bindings i.mark i.start i.subject

      go : (b : Bool) → eqb verdict.answer 0 ≡ b → (if b then returned i (ran places nowhere i) else refusing i verdict).mark ≤ n
      go true e =
          returned-mark (ran places nowhere i)
          (over-the-words ours ℕ places nowhere i (accepted-answer ours i.table i.store i.bindings i.mark i.start i.subject i.units e)).1
      go false e = given

-- So has what `run` returns.
pub mark-fits : {o : Five} {s b : List ℕ} (i : Input) (n : ℕ) → at_return o s b ≡ run_of i
    → i.mark ≤ n → rows i.store ≤ n → o.mark ≤ n
mark-fits i n e p q = omega (arith, ap (λ (r : Returned). r.mark) e, mark-most i n p q)

-- ---- the text that is put

-- What was written of what `run` returned.
pub put-run : {b b' s v : List ℕ} {r : ℕ} {o : Five} (i : Input) → at_return o s v ≡ run_of i
    → Put b 0 (answered o.answer o.place o.subject o.mark o.units s v) b' r → Put b 0 (run_text i) b' r
unfolding run_text
put-run {b} {b'} {s} {v} {r} i e p = subst (λ (x : Returned). Put b 0 (text_of x) b' r) e p

-- A job's answer is the text of its run.
pub put-good : {b b' : List ℕ} {r : ℕ} {g : Reading} (s : List ℕ) → meant s ≡ good g
    → Put b 0 (run_text (handed g)) b' r → Put b 0 (answer_to s) b' r
unfolding answer_to meant_text
put-good s e p = rw e p

-- A bad line's answer shows neither nodes nor bindings.
pub put-bad : {b b' : List ℕ} {r n : ℕ} (s w v : List ℕ) → meant s ≡ bad n
    → Put b 0 (answered 9 n 0 0 0 w v) b' r → Put b 0 (answer_to s) b' r
unfolding answer_to meant_text bad_text shown
put-bad {n = n} s w v e p = rw (e, answered-alone 9 n 0 0 0 [] [] refl, ← answered-alone 9 n 0 0 0 w v refl) p

-- What is put is no longer than the buffer.
pub put-answers : {s b b' : List ℕ} {r : ℕ} → Put b 0 (answer_to s) b' r → JobAnswered s b b' r
unfolding put_text
put-answers {s} {b} {b'} {r} p =
    let n = length-append (answer_to s) (drop (0 + length (answer_to s)) b) in
    let l : r ≤ length b' = omega (arith, p.place, ap length p.text, n) in
    record { put = p; within = l; counted = sym (length-take-le r b' l) }

-- ---- what was read

-- What was read says what the text means.
parsed-bad : {o : Parsed} {t s b : List ℕ} {n : ℕ} (m : Meant) → Right m o t s b → o ≡ told.Bad n → m ≡ bad n
parsed-bad {o} {n = n} (bad k) h e = let p : o ≡ told.Bad k = h.0 in let d : k ≡ n = cc in ap bad d
parsed-bad {o} (good g) h e =
    let p : o ≡ told.Read g.heading = h.0 in
    let z : ◌≡◌ {A = ℕ} 0 1 = cc in absurd (omega arith)

parsed-good : {o : Parsed} {t s b : List ℕ} {h : Heading} (m : Meant) → Right m o t s b → o ≡ told.Read h
    → m ≡ good (record { heading = h; table = t; store = s; bindings = b })
parsed-good {o} (bad k) w e =
    let p : o ≡ told.Bad k = w.0 in
    let z : ◌≡◌ {A = ℕ} 0 1 = cc in absurd (omega arith)
parsed-good {o} {h = h} (good g) w e =
    let p : o ≡ told.Read g.heading = w.0 in
    let d : g.heading ≡ h = cc in
    λ j. good (record { heading = d j; table = sym w.1 j; store = sym w.2 j; bindings = sym w.3 j })

module _ {o : Parsed} {t s b : List ℕ} (x : List ℕ) where
  pub read-bad : {n : ℕ} → Right (meant x) o t s b → o ≡ told.Bad n → meant x ≡ bad n
  read-bad = parsed-bad (meant x)

  -- A job, and the sizes of its words.
  pub read-good : {h : Heading} → Right (meant x) o t s b → o ≡ told.Read h
      → meant x ≡ good (record { heading = h; table = t; store = s; bindings = b })
  read-good = parsed-good (meant x)

  pub read-sized : {h : Heading} → Right (meant x) o t s b → o ≡ told.Read h
      → Sized (record { heading = h; table = t; store = s; bindings = b })
  read-sized w e = sized x _ (read-good w e)
