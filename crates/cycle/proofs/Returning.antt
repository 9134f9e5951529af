-- What each operator returns, whole: the rule's answer, the words of the variables that were bound, the record's length.
use mathlib.Core.Path.{◌≡◌, refl, sym, ◌∙◌}
use mathlib.Core.Bool.{Bool, true, false, beq, true≢false}
use mathlib.Core.List.{List}
use mathlib.Core.Logic.{◌⊎◌, inl, inr, ⊎_elim}
use Prim.Native.Nat.{ℕ, ◌<◌, ◌≤◌, ◌+◌}
use lib.ListN.{length}
use Rattle.words.specs.Words.{word_at}
use Rattle.checks.specs.Good.{kind_of}
use Rattle.meaning.specs.Rules.{apply}
use Rattle.state.specs.declared.answers.Answer.{Answer}
use Rattle.state.specs.declared.answers.Answer.TheVariants.{Done}
use Rattle.state.specs.declared.answers.Attempt.{Attempt}
use Rattle.state.specs.declared.answers.Attempt.TheVariants.{Ended, Cut as Off}
use Rattle.state.specs.Answers.{packed, node_in, units_in, failed_word, answer_of, attempt_of}
use Rattle.state.specs.Record.{record_long, standing, held, back, Framed}
use Rattle.meaning.specs.Limits.{lost}
use Rattle.state.specs.Noted.{Ran, left_of}
use native.Mathlib.Omega.{arith}
use Rattle.state.specs.Visits.{out, visit, ruled, count_of, noded, Pattern, Gives}
use Rattle.cycle.specs.Cycle.{finished, Ready, Last}
use borrow.Author.Tests.{eq-eqb, ne_eqb}
use lib.Dec.{eqb}
use Rattle.std.specs.Prelude.{Option, Some, None, is_some}
use Rattle.state.proofs.AnswerWords.{packed-again, gave, gave-failed}
use Rattle.cycle.proofs.Ruling.{ruled-id, ruled-fail, ruled-above, ruled-all}
use Rattle.state.proofs.Asking.{Tagged}
use Rattle.cycle.proofs.Walker.{childless}
use Rattle.leaves.proofs.Keeping.{node-small}
use Rattle.state.proofs.Holding.{further, held_back, mark-back, notes-back, framed-back, framed-refl}
use Rattle.cycle.proofs.Operators.{where-stops, where-done, guard-off, test-done, not-did, test-failed, not-failed-then}

-- two truths that are compared
pub alike : (a b : Bool) → beq a b ≡ true → a ≡ b
alike true true e = refl
alike true false e = absurd (true≢false (sym e))
alike false true e = absurd (true≢false (sym e))
alike false false e = refl

pub unlike : (a b : Bool) → beq a b ≡ false → a ≡ b → ⊥
unlike true true e h = true≢false e
unlike true false e h = true≢false h
unlike false true e h = true≢false (sym h)
unlike false false e h = true≢false e

-- the first operand x of entry e ran on the operator's own state, and gave `got`
module _ {t w st : List ℕ} {e s x got : ℕ} {st' w' : List ℕ} (n : ℕ) (ready : Ready t w st e s) (xe : x ≡ word_at t e 2)
    (gives : Gives (visit t n (apply x (node_in s) (held st)) w (standing st) (units_in s)) st got st' w') where
  abbrev Returns : ℕ → List ℕ → Type 0
  Returns r st'' = Gives (ruled t n e (node_in s) (held st) w (standing st) (units_in s)) st r st'' w'

  small : node_in s < 131072
  small = node-small ready.steady (node_in s) ready.subject

  long : length st' ≡ record_long
  long = gives.frame.long ∙ ready.long

  module _ {a : Answer} (read : a ≡ answer_of got) (h : kind_of t e ≡ 17) where
    pub gives-where-stops : Tagged a 1 2 → Returns got st'
    gives-where-stops g = record { is = where-stops t n e s st w x got st' w' xe gives.is a read h g; frame = gives.frame }

    pub gives-where : {y v r : ℕ} → a ≡ Done y v → r ≡ packed (node_in s) v → Returns r st'
    gives-where {y} {v} {r} q p = record { is = where-done t n e s st w x got st' w' xe gives.is a read h y v r q p small; frame = gives.frame }

  module _ {g : Attempt} (attempted : g ≡ attempt_of (answer_of got)) (h : (kind_of t e ≡ 2) ⊎ (kind_of t e ≡ 3)) where
    pub gives-guard-off : {c : ℕ} → g ≡ Off c → Returns got st'
    gives-guard-off {c} q = record { is = guard-off t n e s st w x got st' w' xe gives.is g attempted h c q; frame = gives.frame }

    module _ {o : Option ℕ} {v k : ℕ} (q : g ≡ Ended o v) (ke : k ≡ kind_of t e) where
      framed : Framed st (back st st')
      framed = framed-back further st st' long gives.frame

      -- the operand did what the operator wants: success for TEST, failure for NOT
      pub gives-guard : {r : ℕ} → is_some o ≡ eqb k 2 → r ≡ packed (node_in s) v → Returns r (back st st')
      gives-guard {r} z p = record { is = go o q z h; frame = framed }
        where
          go : (o : Option ℕ) → g ≡ Ended o v → is_some o ≡ eqb k 2 → (kind_of t e ≡ 2) ⊎ (kind_of t e ≡ 3) →
              out r (back st st') w' ≡ ruled t n e (node_in s) (held st) w (standing st) (units_in s)
          go (Some y) f z (inl i) = test-done t n e s st w x got st' w' xe gives.is g attempted (back st st') (held_back further st st' long gives.frame)
              (mark-back further st st' long) (notes-back further st st' long) small r v p i y f
          go (Some y) f z (inr i) = absurd (true≢false (z ∙ ne_eqb k 2 (λ j. omega (arith, ke, i, j))))
          go None f z (inl i) = absurd (true≢false (sym (z ∙ eq-eqb k 2 (ke ∙ i))))
          go None f z (inr i) = not-did t n e s st w x got st' w' xe gives.is g attempted (back st st') (held_back further st st' long gives.frame)
              (mark-back further st st' long) (notes-back further st st' long) small r v p i f

      -- and not
      pub gives-guard-failed : {r : ℕ} → (is_some o ≡ eqb k 2 → ⊥) → r ≡ failed_word v → Returns r (back st st')
      gives-guard-failed {r} z p = record { is = go o q z h; frame = framed }
        where
          go : (o : Option ℕ) → g ≡ Ended o v → (is_some o ≡ eqb k 2 → ⊥) → (kind_of t e ≡ 2) ⊎ (kind_of t e ≡ 3) →
              out r (back st st') w' ≡ ruled t n e (node_in s) (held st) w (standing st) (units_in s)
          go (Some y) f z (inl i) = absurd (z (sym (eq-eqb k 2 (ke ∙ i))))
          go (Some y) f z (inr i) = not-failed-then t n e s st w x got st' w' xe gives.is g attempted (back st st') (notes-back further st st' long) r v p i y f
          go None f z (inl i) = test-failed t n e s st w x got st' w' xe gives.is g attempted (back st st') (notes-back further st st' long) r v p i f
          go None f z (inr i) = absurd (z (sym (ne_eqb k 2 (λ j. omega (arith, ke, i, j)))))

-- the same answer under another name
pub renamed : {o o' : Ran} {st : List ℕ} {r : ℕ} {st' w' : List ℕ} → Gives o st r st' w' → o ≡ o' → Gives o' st r st' w'
renamed g e = record { is = g.is ∙ e; frame = g.frame }

module _ {t w st : List ℕ} {e s : ℕ} (n : ℕ) (ready : Ready t w st e s) where
  -- ID gives the state back
  pub gives-id : {k : ℕ} → k ≡ kind_of t e → k ≡ 0 → Gives (ruled t n e (node_in s) (held st) w (standing st) (units_in s)) st s st w
  gives-id q h = record {
    is =
        gave st w s (node_in s) (units_in s) (sym (packed-again s)) (node-small ready.steady (node_in s) ready.subject) (omega arith)
        ∙ sym (ruled-id t n e (node_in s) (held st) w (standing st) (units_in s) (sym q ∙ h));
    frame = framed-refl further st;
  }

  -- so does ALL of a term without children
  pub gives-itself : kind_of t e ≡ 11 → count_of w (node_in s) ≡ 0 → Gives (ruled t n e (node_in s) (held st) w (standing st) (units_in s)) st s st w
  gives-itself h z = record {
    is = gave st w s (node_in s) (units_in s) (sym (packed-again s)) (node-small ready.steady (node_in s) ready.subject) (omega arith)
        ∙ sym (ruled-all t n e (node_in s) (held st) w (standing st) (units_in s) h ∙ childless t w e (node_in s) n (held st) (standing st) (units_in s) h z);
    frame = framed-refl further st;
  }

  -- a failure at once
  pub gives-failure : {r : ℕ} → ruled t n e (node_in s) (held st) w (standing st) (units_in s) ≡ lost (left_of w (standing st)) (units_in s) → r
      ≡ failed_word (units_in s) → Gives (ruled t n e (node_in s) (held st) w (standing st) (units_in s)) st r st w
  gives-failure {r} q p = record { is = gave-failed st w r (units_in s) p (omega arith) ∙ sym q; frame = framed-refl further st }

  -- every other kind than those of the rules fails
  pub ruled-none : {k : ℕ} → k ≡ kind_of t e → (k ≡ 1) ⊎ (17 < k) → ruled t n e (node_in s) (held st) w (standing st) (units_in s) ≡ lost (left_of w (standing st)) (units_in s)
  ruled-none {k} q h =
      ⊎_elim (λ z. ruled-fail t n e (node_in s) (held st) w (standing st) (units_in s) k (sym q) z)
      (λ z. ruled-above t n e (node_in s) (held st) w (standing st) (units_in s) (rw q at z)) h

-- the pattern of a MATCH and of a BUILD
module _ {t w st : List ℕ} {e s k : ℕ} (ready : Ready t w st e s) (x : ℕ) (xe : x ≡ word_at t e 2) (q : k ≡ kind_of t e) where
  pub match-pattern : k ≡ 14 → Pattern t x
  match-pattern h = rw xe (ready.entries.matched e ready.inside (sym q ∙ h))

  pub build-pattern : k ≡ 15 → Pattern t x
  build-pattern h = rw xe (ready.entries.built e ready.inside (sym q ∙ h))

-- one more, where it is not that one
up : (n r : ℕ) → n ≤ r → (r ≡ n → ⊥) → n + 1 ≤ r
up n r h f = omega arith

low : (r : ℕ) → r < 2 → (r ≡ 0 → ⊥) → r ≡ 1
low r h z = omega arith

four : (k r : ℕ) → r ≡ k → 4 ≤ r → k < 5 → k ≡ 4
four k r e h l = omega arith

nine : (k r : ℕ) → r ≡ k → 8 < k → 9 ≤ r
nine k r e h = omega arith

-- a kind of no rule is FAIL, or no strategy
pub no-rule : (k r : ℕ) → r ≡ k → Last k → (r < 2) ⊎ (4 ≤ r) → (r ≡ 0 → ⊥) → (r ≡ 9 → ⊥) → (r ≡ 11 → ⊥) → (r ≡ 13 → ⊥) → (r ≡ 14 → ⊥) → (r ≡ 15 → ⊥) → (r ≡ 16 → ⊥) → (r ≡ 17 → ⊥)
    → (r ≡ 1) ⊎ (17 < r)
no-rule k r e l h z a c f g i j m =
    ⊎_elim (λ q. inl (low r q z)) (λ q. ⊎_elim (λ p. absurd (l.not-seq (four k r e q p)))
    (λ p. inr (up 17 r (up 16 r (up 15 r (up 14 r (up 13 r
    (up 12 r (up 11 r (up 10 r (up 9 r (nine k r e p) a) (λ q. l.not-cong (sym e ∙ q))) c) (λ q. l.not-one (sym e ∙ q))) f) g) i) j) m))
    l.outside) h

-- the end of a walk, by its four ways
module _ (k : ℕ) (won : Bool) (n g : ℕ) (made st w : List ℕ) (u : ℕ) where
  abbrev Finishes : ℕ → List ℕ → List ℕ → Type 0
  Finishes r st' w' = Gives (finished k won n g made st w u) st r st' w'

  pub finish-failed : {r : ℕ} → k ≡ 13 → won ≡ false → r ≡ failed_word u → u < 4294967296 → Finishes r st w
  unfolding finished
  finish-failed {r} h z p l = record { is = gave-failed st w r u p l ∙ rw (h, z); frame = framed-refl further st }

  pub finish-some : {r : ℕ} {st' w' : List ℕ} → k ≡ 13 → won ≡ true → Gives (noded made st w u) st r st' w' → Finishes r st' w'
  unfolding finished
  finish-some h z f = renamed f (rw (h, z))

  pub finish-itself : (k ≡ 13 → ⊥) → n ≡ 0 → node_in g < 131072 → Finishes g st w
  unfolding finished
  finish-itself h z l = record { is = gave st w g (node_in g) (units_in g) (sym (packed-again g)) l (omega arith) ∙ rw (ne_eqb k 13 h, z); frame = framed-refl further st }

  pub finish-node : {r : ℕ} {st' w' : List ℕ} → (k ≡ 13 → ⊥) → (n ≡ 0 → ⊥) → Gives (noded made st w u) st r st' w' → Finishes r st' w'
  unfolding finished
  finish-node h z f = renamed f (rw (ne_eqb k 13 h, ne_eqb n 0 z))
