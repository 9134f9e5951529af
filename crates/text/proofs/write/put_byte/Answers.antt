-- `text::write::put_byte` meets its contract. Assumes nothing.
use Rattle.text.proofs.Put.{put_one}
use Rattle.text.proofs.write.put_byte.Goals as goal

pub returns : goal.returns
returns c = put_one c.args.buf.now c.args.at c.args.b c.requires
