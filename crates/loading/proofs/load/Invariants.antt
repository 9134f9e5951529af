-- `loading::load` meets its contract: first the words are copied, then what is known of an entry is noted.
use Rattle.loading.proofs.Copying.{Copied}
use Rattle.loading.specs.Loaded.{Loaded}
use Rattle.loading.proofs.load.Given as goal

abbrev pub invariant-loop-i : goal.invariant-loop-i
invariant-loop-i l = Copied l.table 32768 l.code l.i

abbrev pub invariant-loop-e : goal.invariant-loop-e
invariant-loop-e l = Loaded l.table l.code
