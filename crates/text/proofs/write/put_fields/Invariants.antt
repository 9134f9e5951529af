-- `text::write::put_fields` meets its contract. The loop's invariant: the numbers below the index are put. Assumes nothing.
use Rattle.std.proofs.Common.{◌≡◌, length, take}
use Rattle.text.specs.Written.{numbers_text, Put}
use Rattle.text.proofs.write.put_fields.Given as goal

abbrev pub invariant-loop-n : goal.invariant-loop-n
invariant-loop-n l =
    (length l.buf ≡ length l.initial.buf) × Put l.initial.buf l.start (numbers_text (take l.n-index l.numbers)) l.buf l.at
