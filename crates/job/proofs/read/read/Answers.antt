-- `job::read::read` meets its contract: too many bytes, a bad line, or a job. Assumes nothing.
use Rattle.std.proofs.Common.{◌≡◌, ℕ, List, Result, Ok, Err, true, false, refl, sym, ◌∙◌}
use Rattle.std.specs.Result.{is_err}
use Rattle.checks.specs.Kinds.{variables}
use Rattle.job.specs.Job.{Meant, Holds, meant, zeros}
use Rattle.job.specs.Job as told
use Rattle.job.specs.Held.{heading_of, parsed}
use Rattle.job.specs.declared.Heading.{Heading}
use Rattle.job.specs.declared.BadLine.{BadLine}
use Rattle.job.proofs.Readings.{Right, meant-long, meant-read, right-bad, holds-bad, holds_read}
use Rattle.job.proofs.read.read.Goals as goal

-- A bad line, after which the arrays are cleared, and a job.
module _ {m n : Meant} (z : m ≡ n) (t s b : List ℕ) where
  read_bad : (r : Result Heading BadLine) → is_err r ≡ true → Holds m (parsed r) t s b → {t' s' b' : List ℕ}
      → t' ≡ zeros 4096 → s' ≡ zeros 8192 → b' ≡ zeros variables → Right n (parsed r) t' s' b'
  read_bad (Ok h) e w p q u = absurd (never e)
    where
      never : false ≡ true → ⊥
      never e = cc
  read_bad (Err x) e w p q u = right-bad n x.0 _ _ _ (sym z ∙ holds-bad m (told.Bad x.0) x.0 t s b w refl) p q u

  read_good : (r : Result Heading BadLine) → is_err r ≡ false → Holds m (parsed r) t s b → Right n (parsed r) t s b
  read_good (Ok h) e w = holds_read z (told.Read (heading_of h)) (heading_of h) t s b w refl
  read_good (Err x) e w = absurd (never e)
    where
      never : true ≡ false → ⊥
      never e = cc

pub returns-then-text-gt60000 : goal.returns-then-text-gt60000
returns-then-text-gt60000 c =
    right-bad _ 0 _ _ _ (meant-long c.args.text.now c.if-text-gt60000.true) c.clear_all.ensures.0 c.clear_all.ensures.1 c.clear_all.ensures.2

pub returns-then-is_err : goal.returns-then-is_err
returns-then-is_err c =
    read_bad (meant-read c.args.text.now c.clear_all.new.table c.clear_all.new.store c.clear_all.new.bindings c.if-text-gt60000.false
    c.clear_all.ensures.0 c.clear_all.ensures.1 c.clear_all.ensures.2) _ _ _ c.read_lines-read.result (sym c.if-is_err.ensures.value) c.read_lines-read.ensures
    c.clear_all-then-is_err.ensures.0 c.clear_all-then-is_err.ensures.1 c.clear_all-then-is_err.ensures.2

pub returns-else-is_err : goal.returns-else-is_err
returns-else-is_err c =
    read_good (meant-read c.args.text.now c.clear_all.new.table c.clear_all.new.store c.clear_all.new.bindings c.if-text-gt60000.false
    c.clear_all.ensures.0 c.clear_all.ensures.1 c.clear_all.ensures.2) _ _ _ c.read_lines-read.result (sym c.if-is_err.ensures.value) c.read_lines-read.ensures
