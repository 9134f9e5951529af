-- `record::put_back` meets its contract: the words are copied, which leaves the mask, and then their variables are in it. Assumes nothing.
use native.Mathlib.Omega.{arith}
use Rattle.state.proofs.Holding.{further, mask-copied}
use Rattle.state.proofs.record.put_back.Goals as goal

pub copy_words-requires : goal.copy_words-requires
copy_words-requires c = (omega arith, omega arith)

pub returns : goal.returns
returns c =
    let a = c.args in
    rw (
      c.put_mask.ensures,
      c.mask_of.ensures,
      c.copy_words.ensures,
      mask-copied further a.kept.now
          a.mask a.st.now,
    )
