-- `frames::give_back` meets its contract. Assumes nothing.
use mathlib.Core.Logic.{inr}
use native.Mathlib.Omega.{arith}
use Rattle.machine.proofs.Restoring.{given_back}
use Rattle.machine.proofs.frames.give_back.Goals as goal

pub copy_words-requires : goal.copy_words-requires
copy_words-requires c =
    (omega (arith, c.requires.1), omega (arith, c.requires.0, c.requires.1), inr (omega (arith, c.requires.0)))

pub returns : goal.returns
returns c = given_back _ _ _ _ _ c.word-mark.ensures c.kept_mask-mask.ensures c.copy_words.ensures
