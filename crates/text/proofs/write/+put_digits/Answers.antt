-- `text::write::put_digits` meets its contract. Assumes nothing.
use native.Mathlib.Omega.{arith}
use Rattle.text.proofs.Put.{decimal-one, decimal-more, length-one, length_more, put-more}
use Rattle.text.proofs.write.+put_digits.Goals as goal

pub put_byte-requires : goal.put_byte-requires
put_byte-requires t c = omega (arith, c.requires, length-one c.args.n c.if-n-lt10.true)

pub returns-then-n-lt10 : goal.returns-then-n-lt10
returns-then-n-lt10 t c = rw (decimal-one c.args.n c.if-n-lt10.true) c.put_byte.ensures

pub put_digits-end-requires : goal.put_digits-end-requires
put_digits-end-requires t c =
    (omega (arith, c.decreases, c.if-n-lt10.false), omega (arith, c.requires, length_more c.args.n c.if-n-lt10.false (omega arith)))

pub put_byte-requires-2 : goal.put_byte-requires-2
put_byte-requires-2 t c =
    omega (arith, c.requires, c.put_digits-end.ensures.place, c.put_digits-end.auto.buf, length_more c.args.n c.if-n-lt10.false (omega arith))

pub returns : goal.returns
returns t c =
    rw (decimal-more c.args.n c.if-n-lt10.false (omega arith))
    (put-more (omega (arith, c.requires, length_more c.args.n c.if-n-lt10.false (omega arith))) c.put_digits-end.ensures c.put_byte-2.ensures)
