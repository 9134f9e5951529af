-- `own::saved` meets its contract. Assumes nothing.
use Rattle.stepping.proofs.Saving.{machine-read}
use Rattle.stepping.proofs.own.saved.Goals as goal

pub returns : goal.returns
returns c = machine-read c.args.work.now _ _ _
    _ _ _ _ _ _ _ c.word-mode.ensures c.word.ensures c.word-2.ensures c.word-3.ensures c.level_in.ensures c.word-4.ensures c.word-5.ensures c.word-6.ensures c.word-7.ensures c.word-8.ensures
