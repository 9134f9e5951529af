-- `job::answer::put_name` meets its contract. Assumes nothing.
use Rattle.std.proofs.Common.{List, ℕ, ◌++◌, drop, refl, ap}
use Rattle.text.specs.Written.{put_text}
use Rattle.job.proofs.answer.put_name.Goals as goal

pub returns : goal.returns
unfolding put_text
returns c = record { place = refl; text = ap (λ (t : List ℕ). t ++ drop 6 c.args.buf.now) c.copy_from_slice.ensures.after }
