-- `frames::keep_bindings` meets its contract. Assumes nothing.
use mathlib.Core.Path.{sym, ◌∙◌}
use mathlib.Core.Logic.{inl}
use native.Mathlib.Omega.{arith}
use Rattle.machine.proofs.Restoring.{kept-copied, kept-none}
use Rattle.machine.proofs.frames.keep_bindings.Goals as goal

pub copy_words-requires : goal.copy_words-requires
copy_words-requires c =
    (omega (arith, c.requires.0, c.requires.1), omega (arith, c.requires.1), inl (omega (arith, c.requires.0)))

pub returns-then-saves : goal.returns-then-saves
returns-then-saves c = kept-copied _ _ _ _ _ c.requires.0 (sym c.saves.ensures ∙ c.if-saves.true) c.copy_words.ensures

pub returns-else-saves : goal.returns-else-saves
returns-else-saves c = kept-none _ _ _ _ (sym c.saves.ensures ∙ c.if-saves.false)
