-- `write_rules::term::write_number` meets its contract. Assumes nothing.
use Rattle.write_rules.proofs.Writing.{wrote-put, wrote-more, number-long}
use native.Mathlib.Omega.{arith}
use Rattle.write_rules.proofs.term.write_number.Goals as goal

pub put_digits-end-requires : goal.put_digits-end-requires
put_digits-end-requires c =
    omega (arith, c.requires, number-long c.args.n)

pub put_byte-requires : goal.put_byte-requires
put_byte-requires c =
    omega (arith, c.requires, number-long c.args.n, c.put_digits-end.ensures.place, c.put_digits-end.auto.buf)

pub returns : goal.returns
returns c =
    wrote-more (wrote-put (omega (arith, c.requires, number-long c.args.n)) c.put_digits-end.ensures)
    (wrote-put (omega (arith, c.requires, number-long c.args.n, c.put_digits-end.ensures.place, c.put_digits-end.auto.buf)) c.put_byte.ensures)
