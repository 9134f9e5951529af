-- `text::write::put_rest` meets its contract. Assumes nothing.
use Rattle.std.proofs.Common.{arith}
use Rattle.text.proofs.Put.{put-more, length-numbers_text}
use Rattle.text.proofs.write.put_rest.Goals as goal

pub put_byte-requires : goal.put_byte-requires
put_byte-requires c = omega (arith, c.put_fields-end.ensures.place, length-numbers_text c.args.numbers.now)

pub returns : goal.returns
returns c = put-more (omega (arith, length-numbers_text c.args.numbers.now)) c.put_fields-end.ensures c.put_byte.ensures
