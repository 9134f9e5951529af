-- The numbers below the index are put, and one more.
use Rattle.std.proofs.Common.{arith, refl, ◌∙◌, get_or}
use Rattle.text.specs.Written.{numbers_text}
use Rattle.text.proofs.Put.{put-none, fields-more, length_fields, length_digits}
use Rattle.text.proofs.write.put_fields.Goals as goal

pub loop-n-init : goal.loop-n-init
unfolding numbers_text
loop-n-init c = (refl, put-none c.args.buf.now c.args.start)

pub put_field-at-requires : goal.put_field-at-requires
put_field-at-requires c =
    omega (
      arith,
      c.loop-n.invariant.1.place,
      length_fields c.args.numbers.now c.loop-n.n-index,
      length_digits 10 (get_or c.args.numbers.now c.loop-n.n-index 0),
    )

pub loop-n-preserved : goal.loop-n-preserved
loop-n-preserved c = (
  c.put_field-at.auto.buf ∙ c.loop-n.invariant.0,
  fields-more c.args.numbers.now c.loop-n.n-index (omega arith)
      (omega (arith, length_fields c.args.numbers.now c.loop-n.n-index)) c.loop-n.invariant.1 c.put_field-at.ensures,
)
