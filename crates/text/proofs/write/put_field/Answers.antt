-- `text::write::put_field` meets its contract. Assumes nothing.
use native.Mathlib.Omega.{arith}
use Rattle.text.proofs.Put.{put-more}
use Rattle.text.proofs.write.put_field.Goals as goal

pub put_digits-requires : goal.put_digits-requires
put_digits-requires c = omega (arith, c.requires, c.put_byte-end.ensures.place, c.put_byte-end.auto.buf)

pub returns : goal.returns
returns c =
    put-more (omega (arith, c.requires))
    c.put_byte-end.ensures c.put_digits.ensures
