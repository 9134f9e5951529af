-- `twins::twin_within` calls itself: the mark falls. Assumes nothing.
use Rattle.index.proofs.twins.+twin_within.Given as goal

abbrev pub decreases-twin_within : goal.decreases-twin_within
decreases-twin_within g l = l.mark
