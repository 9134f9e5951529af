-- Every key that is put again was a key. Assumes nothing.
use Rattle.variable_tree.specs.Tree.{Keeps}
use Rattle.variable_tree.proofs.Tree.keep_below.Given as goal

abbrev pub invariant-loop-i : goal.invariant-loop-i
invariant-loop-i l = Keeps l.initial.self.keys l.self.keys
