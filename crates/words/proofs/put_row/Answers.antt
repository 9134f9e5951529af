-- `words::put_row` meets its contract: what is copied stands between the words before the row and those after it. Assumes nothing.
use Rattle.std.proofs.Common.{◌+◌, ◌*◌, ◌≤◌, arith}
use borrow.Rule.Slice.PartMut.{Post-is}
use Rattle.words.specs.Words.{put_row}
use Rattle.words.proofs.put_row.Goals as goal

pub returns : goal.returns
unfolding put_row
returns c =
    let h : 8 * c.args.k ≤ 8 * c.args.k + 8 = omega arith in
    rw (c.copy_from_slice.ensures.after, Post-is (8 * c.args.k) (8 * c.args.k + 8) c.args.words.now h)
