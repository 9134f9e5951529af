-- What a run notes changes nothing else: each run is what its end says, and without the notes the two say the same. Assumes nothing.
use mathlib.Core.Path.{refl, sym}
use Rattle.meaning.specs.Term.{Term}
use Rattle.meaning.specs.Table.{Table, table_by}
use Rattle.meaning.specs.Rules.{Visit}
use Rattle.meaning.specs.Derivation.{Notes, quiet}
use Rattle.meaning.specs.Limits.{Res, ended, lost, cut, Counted}
use Rattle.meaning.specs.System.{Env}
use Rattle.meaning.specs.Beginning.{Given}
use Rattle.meaning.specs.Store.{ran_by, value}
use Rattle.meaning.specs.Demands.{Says, Demand2, limits, start_visit, unnoted, NotesApart}

-- an end that is so is so without its notes
says-unnoted : (N : Type 0) (Λ : Notes N) (n : N) (T : Table) (g : Given) (q : Visit Term) (r : Res Term Env (Counted N) N) → Says Λ n T g q r → Says quiet tt T g q (unnoted r)
unfolding unnoted
says-unnoted N Λ n T g q (ended t b s u) h = (h.0, h.1, h.2, refl)
says-unnoted N Λ n T g q (lost l u) h = (h.0, h.1, refl)
says-unnoted N Λ n T g q (cut c l u) h = (h.0, h.1, h.2, refl)

pub notes-apart : Demand2 → NotesApart
notes-apart demand W N Λ n i a =
    sym ((demand W (Unit {0}) quiet tt i a (unnoted (value (ran_by W Λ n i)))).1
    (says-unnoted N Λ n (table_by W i.table) (limits i) (start_visit i) (value (ran_by W Λ n i)) ((demand W N Λ n i a (value (ran_by W Λ n i))).0 refl)))
