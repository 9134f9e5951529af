-- `job::answer::put_bindings` meets its contract. The loop's invariant: the lines of the bound variables below v are put. Assumes nothing.
use Rattle.std.proofs.Common.{◌≡◌, length}
use Rattle.text.specs.Written.{Put}
use Rattle.job.specs.Written.{written}
use Rattle.job.specs.Answer.{binding_lines}
use Rattle.job.proofs.answer.put_bindings.Given as goal

abbrev pub invariant-loop-v : goal.invariant-loop-v
invariant-loop-v l =
    (length l.buf ≡ length l.initial.buf) × Put l.initial.buf l.start (written (binding_lines l.bindings l.v)) l.buf l.at
