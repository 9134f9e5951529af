-- `frames::take_turn` meets its contract. Assumes nothing.
use mathlib.Core.Path.{refl, ap, sym, ◌∙◌}
use Prim.Native.Nat.{ℕ, ◌+◌, ◌%◌, min}
use native.Mathlib.Omega.{arith}
use lib.ListN.{get_or}
use lib.Seq.{get_or-set_other}
use Rattle.words.specs.Words.{word_at}
use Rattle.machine.specs.Stack.{row_at}
use Rattle.machine.proofs.frames.take_turn.Goals as goal

pub returns-then-m-lt-SUCCEEDED : goal.returns-then-m-lt-SUCCEEDED
returns-then-m-lt-SUCCEEDED c = record {
  asked = λ _ r. c.begin.ensures r;
  yes = λ e. absurd (omega (arith, c.if-m-lt-SUCCEEDED.true));
  walked = λ e. absurd
      (omega (arith, c.if-m-lt-SUCCEEDED.true));
  no = λ e. absurd (omega (arith, c.if-m-lt-SUCCEEDED.true));
}

pub returns-then-m-eq-SUCCEEDED : goal.returns-then-m-eq-SUCCEEDED
returns-then-m-eq-SUCCEEDED c = record {
  asked = λ h. absurd (omega (arith, c.if-m-lt-SUCCEEDED.false));
  yes = λ _ _. c.succeeded.ensures _ (record {
    what = sym c.word-what.ensures;
    x = sym c.word.ensures;
    y = sym c.word-2.ensures;
  });
  walked = λ _ h. absurd (omega (
    arith,
    c.if-what-lt-LEFTMOST.true,
    c.word-what.ensures,
  ));
  no = λ e. absurd (omega (arith, c.if-m-eq-SUCCEEDED.true));
}

pub returns-then-what-lt-LEFTMOST : goal.returns-then-what-lt-LEFTMOST
returns-then-what-lt-LEFTMOST c = record {
  asked = λ h. absurd (omega (arith, c.if-m-lt-SUCCEEDED.false));
  yes = λ e. absurd (c.if-m-eq-SUCCEEDED.false e);
  walked = λ e. absurd (c.if-m-eq-SUCCEEDED.false e);
  no = λ e. c.failed.ensures _ (record {
    what = sym c.word-what.ensures;
    x = sym c.word.ensures;
    y = sym c.word-2.ensures;
  });
}

pub returns-then-m-eq-SUCCEEDED-2 : goal.returns-then-m-eq-SUCCEEDED-2
returns-then-m-eq-SUCCEEDED-2 c =
    record {
      asked = λ h. absurd (omega (
        arith,
        c.if-m-lt-SUCCEEDED.false,
      ));
      yes = λ _ h. absurd (omega (
        arith,
        c.if-what-lt-LEFTMOST.false,
        c.word-what.ensures,
      ));
      walked = λ _ _ hs l e. c.walked.ensures _ c.args.m.y (record {
        what = sym c.word-what.ensures;
        x = sym c.word.ensures;
        y = sym c.word-2.ensures;
      }) (record {
        at = ap (λ (n : ℕ). n % 8) (sym c.word-at.ensures);
        count = c.few.ensures ∙ ap (λ (n : ℕ). min n 6) (c.word-3.ensures ∙ ap (λ r. get_or r 1 0) e ∙ get_or-set_other hs (2 + word_at c.args.work.now c.args.r 3 % 8) 1
            c.args.m.y 0 (λ z. omega arith));
        next = c.next_of.ensures ∙ ap (λ (n : ℕ). get_or (row_at c.args.work.now (c.args.r + 1))
            (3 + n % 8) 0) c.word-at.ensures ∙ ap (λ r. get_or r (3 + word_at c.args.work.now c.args.r 3 % 8) 0) e ∙ get_or-set_other hs (2 + word_at c.args.work.now c.args.r 3 % 8) (3
            + word_at c.args.work.now c.args.r 3 % 8) c.args.m.y 0 (λ z. omega arith);
        mate = c.next_of-2.ensures ∙ ap (λ (n : ℕ). get_or (row_at c.args.work.now (c.args.r + 2)) (3 + n
            % 8) 0) c.word-at.ensures;
        long = l;
        long-other = refl;
      });
      no = λ e. absurd (omega (arith, c.if-m-eq-SUCCEEDED-2.true));
    }

pub returns : goal.returns
returns c =
    record {
      asked = λ h. absurd (omega (
        arith,
        c.if-m-lt-SUCCEEDED.false,
      ));
      yes = λ e. absurd (c.if-m-eq-SUCCEEDED-2.false e);
      walked = λ e. absurd (c.if-m-eq-SUCCEEDED-2.false e);
      no = λ e. c.skipped.ensures _ (record {
        what = sym c.word-what.ensures;
        x = sym c.word.ensures;
        y = sym c.word-2.ensures;
      }) (record {
        at = ap (λ (n : ℕ). n % 8) (sym c.word-at.ensures);
        count = c.few.ensures ∙ ap (λ (n : ℕ). min n 6) c.word-3.ensures;
        next = c.next_of.ensures ∙ ap (λ (n : ℕ). get_or (row_at c.args.work.now (c.args.r + 1))
            (3 + n % 8) 0) c.word-at.ensures;
        mate = c.next_of-2.ensures ∙ ap (λ (n : ℕ). get_or (row_at c.args.work.now (c.args.r + 2)) (3 + n
            % 8) 0) c.word-at.ensures;
        long = refl;
        long-other = refl;
      });
    }
