-- `twins::twin_within` meets its contract: an array of zeros is an index with nothing in it. Assumes nothing.
use Rattle.std.proofs.Common.{◌/◌, arith}
use Rattle.index.proofs.Twinning.{zeros}
use Rattle.index.proofs.twins.+twin_within.Goals as goal

pub twin_by-requires : goal.twin_by-requires
twin_by-requires g t c = (zeros c.args.store.now (g.row.WORDS / 2) g.row.WORDS (omega arith) (omega (arith, c.requires.0)), c.if-n-mark.false)
