-- Each operator's return: what the code has at hand, and that it is the rule's answer.
use mathlib.Core.Path.{◌≡◌, refl, sym, ◌∙◌}
use mathlib.Core.List.{List}
use mathlib.Core.Logic.{◌⊎◌, inl, ⊎_elim}
use Prim.Native.Nat.{ℕ, ◌<◌}
use Rattle.words.specs.Words.{word_at}
use Rattle.checks.specs.Good.{kind_of}
use Rattle.meaning.specs.Bindings.{Bindings}
use Rattle.meaning.specs.Plan.{keep, drop, ret, fail, ask}
use Rattle.meaning.specs.Rules.{Visit, apply, Do}
use Rattle.meaning.specs.Limits.{ended, lost, run_plan}
use Rattle.state.specs.Noted.{Standing, back_to, on, Ran, left_of}
use Rattle.state.specs.declared.answers.Answer.{Answer}
use Rattle.state.specs.declared.answers.Answer.TheVariants.{Done, Failed, Cut}
use Rattle.state.specs.declared.answers.Attempt.{Attempt}
use Rattle.state.specs.declared.answers.Attempt.TheVariants.{Ended, Cut as Off}
use Rattle.std.specs.Prelude.{Some, None}
use Rattle.state.specs.Answers.{packed, node_in, units_in, failed_word, answer_of, attempt_of}
use Rattle.state.specs.Record.{mark_of, notes_of, standing, held}
use Rattle.state.specs.Visits.{visit, plan, ruled, out}
use Rattle.state.proofs.AnswerWords.{gave, gave-failed, done-units, failed-few, attempt-done, attempt-failed, attempt-cut}
use Rattle.state.proofs.Asking.{Tagged, goes_on, goes_back, caught, cut_off, not_done, not-failed, last}
use Rattle.cycle.proofs.Ruling.{ruled-test, ruled-not, ruled-where, ruled-seq, ruled-choice, ruled-left}

-- plans at their end
pub ends : (t : List ℕ) (n k : ℕ) (b : Bindings ℕ) (w : List ℕ) (m : Standing) (u : ℕ) → plan t n (ret k b) w m u ≡ ended k b (on w m) u
unfolding plan run_plan
ends t n k b w m u = refl

pub fails : (t : List ℕ) (n : ℕ) (w : List ℕ) (m : Standing) (u : ℕ) → plan t n fail w m u ≡ lost (left_of w m) u
unfolding plan run_plan
fails t n w m u = refl

-- a failure that nothing catches is the answer
pub not-caught : (t : List ℕ) (n : ℕ) (w : List ℕ) (m : Standing) (u : ℕ) (q : Visit ℕ) (r : ℕ) (st w' : List ℕ) → out r st w'
    ≡ visit t n q w m u → (k : ℕ → Bindings ℕ → Do ℕ) (v : ℕ) → answer_of r ≡ Failed v → out r st w' ≡ plan t n (ask keep q k fail) w m u
not-caught t n w m u q r st w' is k v e = not_done t n w m u q r st w' is (answer_of r) refl keep k (rw e (inl refl))

-- of two kinds it is the second where it is not the first
pub other : {k i j : ℕ} → (k ≡ i) ⊎ (k ≡ j) → (k ≡ i → ⊥) → k ≡ j
other h n = ⊎_elim (λ e. absurd (n e)) (λ e. e) h

-- an operator runs its first operand x on its own state, and `got` is the answer's word
module _ (t : List ℕ) (n e s : ℕ) (st w : List ℕ) (x got : ℕ) (st' w' : List ℕ) (xe : x ≡ word_at t e 2)
    (is : out got st' w' ≡ visit t n (apply x (node_in s) (held st)) w (standing st) (units_in s)) where
  abbrev answer : Ran
  answer = ruled t n e (node_in s) (held st) w (standing st) (units_in s)

  module _ (a : Answer) (read : a ≡ answer_of got) where
    pub where-stops : kind_of t e ≡ 17 → Tagged a 1 2 → out got st' w' ≡ answer
    where-stops h g = not_done t n w (standing st) (units_in s) _ got st' w' is a read keep _ g ∙ sym (ruled-where t n e (node_in s) (held st) w (standing st) (units_in s) x xe h)

    pub where-done : kind_of t e ≡ 17 → (y v r : ℕ) → a ≡ Done y v → r ≡ packed (node_in s) v → node_in s < 131072 → out r st' w' ≡ answer
    where-done h y v r q p l =
        gave st' w' r (node_in s) v p l (done-units got y v a read q)
        ∙ sym (ruled-where t n e (node_in s) (held st) w (standing st) (units_in s) x xe h
        ∙ goes_on t n w (standing st) (units_in s) _ got st' w' is a read _ fail y v q
        ∙ ends t n (node_in s) (held st') w' (standing st') v)

    -- SEQ, and LEFT with CHOICE; y is the second operand
    module _ (y : ℕ) (ye : y ≡ word_at t e 3) where
      pub seq_stops : kind_of t e ≡ 4 → Tagged a 1 2 → out got st' w' ≡ answer
      seq_stops h g = not_done t n w (standing st) (units_in s) _ got st' w' is a read keep _ g ∙ sym (ruled-seq t n e (node_in s) (held st) w (standing st) (units_in s) x xe y ye h)

      pub seq-goes-on : kind_of t e ≡ 4 → (z v : ℕ) → a ≡ Done z v → visit t n (apply y z (held st')) w' (standing st') v ≡ answer
      seq-goes-on h z v q =
          sym (ruled-seq t n e (node_in s) (held st) w (standing st) (units_in s) x xe y ye h
          ∙ goes_on t n w (standing st) (units_in s) _ got st' w' is a read (λ h c. ask keep (apply y h c) ret fail) fail z v q
          ∙ last t n w' (standing st') v (apply y z (held st')))

      either-rule : (kind_of t e ≡ 5) ⊎ (kind_of t e ≡ 6) → answer ≡ plan t n (ask keep (apply x (node_in s) (held st)) ret (ask keep (apply y (node_in s) (held st)) ret fail)) w (standing st) (units_in s)
      either-rule h =
          ⊎_elim (λ f. ruled-choice t n e (node_in s) (held st) w (standing st) (units_in s) x xe y ye f)
          (λ f. ruled-left t n e (node_in s) (held st) w (standing st) (units_in s) x xe y ye f) h

      pub left-stops : (kind_of t e ≡ 5) ⊎ (kind_of t e ≡ 6) → Tagged a 0 2 → out got st' w' ≡ answer
      left-stops h g = not-failed t n w (standing st) (units_in s) _ got st' w' is a read _ g ∙ sym (either-rule h)

      pub left-goes-on : (kind_of t e ≡ 5) ⊎ (kind_of t e ≡ 6) → (v : ℕ) → a ≡ Failed v → visit t n (apply y (node_in s) (held st)) w' (back_to (standing st) (standing st')) v ≡ answer
      left-goes-on h v q =
          sym (either-rule h ∙ caught t n w (standing st) (units_in s) _ got st' w' is a read keep ret (ask keep (apply y (node_in s) (held st)) ret fail) v q
          ∙ last t n w' (back_to (standing st) (standing st')) v (apply y (node_in s) (held st)))

  -- TEST and NOT: g is what was attempted
  module _ (g : Attempt) (attempted : g ≡ attempt_of (answer_of got)) where
    pub guard-off : (kind_of t e ≡ 2) ⊎ (kind_of t e ≡ 3) → (c : ℕ) → g ≡ Off c → out got st' w' ≡ answer
    guard-off h c q =
        let f : answer_of got ≡ Cut c = attempt-cut (answer_of got) c (sym attempted ∙ q) in
        ⊎_elim
        (λ z. cut_off t n w (standing st) (units_in s) _ got st' w' is (answer_of got) refl drop _ _ c f ∙ sym (ruled-test t n e (node_in s) (held st) w (standing st) (units_in s) x xe z))
        (λ z. cut_off t n w (standing st) (units_in s) _ got st' w' is (answer_of got) refl keep _ _ c f ∙ sym (ruled-not t n e (node_in s) (held st) w (standing st) (units_in s) x xe z)) h

    -- the operand did what the operator wants: success for TEST, failure for NOT
    module _ (st'' : List ℕ) (same : held st'' ≡ held st) (mark : mark_of st'' ≡ mark_of st) (miss : notes_of st'' ≡ notes_of st') (small : node_in s < 131072) (r v : ℕ) (re : r ≡ packed (node_in s) v) where
      restored : v < 4294967296 → out r st'' w' ≡ ended (node_in s) (held st) (on w' (back_to (standing st) (standing st'))) v
      restored l = gave st'' w' r (node_in s) v re small l ∙ rw (same, mark, miss)

      pub test-done : kind_of t e ≡ 2 → (y : ℕ) → g ≡ Ended (Some y) v → out r st'' w' ≡ answer
      test-done h y q =
          let f : answer_of got ≡ Done y v = attempt-done (answer_of got) y v (sym attempted ∙ q) in
          restored (done-units got y v (answer_of got) refl f)
          ∙ sym (ruled-test t n e (node_in s) (held st) w (standing st) (units_in s) x xe h
          ∙ goes_back t n w (standing st) (units_in s) _ got st' w' is (answer_of got) refl _ fail y v f
          ∙ ends t n (node_in s) (held st) w' (back_to (standing st) (standing st')) v)

      pub not-did : kind_of t e ≡ 3 → g ≡ Ended None v → out r st'' w' ≡ answer
      not-did h q =
          let f : answer_of got ≡ Failed v = attempt-failed (answer_of got) v (sym attempted ∙ q) in
          restored (failed-few got v (answer_of got) refl f)
          ∙ sym (ruled-not t n e (node_in s) (held st) w (standing st) (units_in s) x xe h
          ∙ caught t n w (standing st) (units_in s) _ got st' w' is (answer_of got) refl keep _ (ret (node_in s) (held st)) v f
          ∙ ends t n (node_in s) (held st) w' (back_to (standing st) (standing st')) v)

    module _ (st'' : List ℕ) (miss : notes_of st'' ≡ notes_of st') (r v : ℕ) (re : r ≡ failed_word v) where
      failing-as : v < 4294967296 → out r st'' w' ≡ lost (left_of w' (standing st')) v
      failing-as l = gave-failed st'' w' r v re l ∙ rw miss

      pub test-failed : kind_of t e ≡ 2 → g ≡ Ended None v → out r st'' w' ≡ answer
      test-failed h q =
          let f : answer_of got ≡ Failed v = attempt-failed (answer_of got) v (sym attempted ∙ q) in
          failing-as (failed-few got v (answer_of got) refl f)
          ∙ sym (ruled-test t n e (node_in s) (held st) w (standing st) (units_in s) x xe h
          ∙ caught t n w (standing st) (units_in s) _ got st' w' is (answer_of got) refl drop _ fail v f
          ∙ fails t n w' (back_to (standing st) (standing st')) v)

      pub not-failed-then : kind_of t e ≡ 3 → (y : ℕ) → g ≡ Ended (Some y) v → out r st'' w' ≡ answer
      not-failed-then h y q =
          let f : answer_of got ≡ Done y v = attempt-done (answer_of got) y v (sym attempted ∙ q) in
          failing-as (done-units got y v (answer_of got) refl f)
          ∙ sym (ruled-not t n e (node_in s) (held st) w (standing st) (units_in s) x xe h
          ∙ goes_on t n w (standing st) (units_in s) _ got st' w' is (answer_of got) refl _ (ret (node_in s) (held st)) y v f
          ∙ fails t n w' (standing st') v)
