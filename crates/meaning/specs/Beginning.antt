-- Counted beginnings: a run up to the visit or the node before which a limit stops it, or up to a variable to be built that has
-- no binding.
use Rattle.std.specs.Prelude.{◌≡◌, List, ℕ, suc, ◌+◌, ◌≤◌, ◌<◌}
use Rattle.meaning.specs.Term.{Term, con, kids, mk}
use Rattle.meaning.specs.Table.{Table}
use Rattle.meaning.specs.Plan.{Keep, stuck, look, make, ask}
use Rattle.meaning.specs.Rules.{Visit, Do, does}
use Rattle.meaning.specs.Derivation.{done, failed, what, fate, fails, in-flight, Trace, over, node, visit, visits, depth, most}
use Rattle.meaning.specs.Limits.{Limit, units, room, nesting as nested, unbound}
use Rattle.meaning.specs.System.{Env, ◌⊢◌⇒◌, trace as traceOf}

-- what a beginning is broken off before; or the variable without a binding at which it ends, whose own visit is counted
pub data Stop : Type 0 where
  before-visit before-node : Stop
  at-unbound : ℕ → Stop

-- a plan begun: the visits that have ended are derivations, and the last one asked for may have begun
pub data Begun (T : Table) : Do Term → Stop → Type 0 where
  b-visit : {t : Keep} {q : Visit Term} {k : Term → Env → Do Term} {p : Do Term} → Begun T (ask t q k p) before-visit
  b-node : {c : ℕ} {hs : List Term} {k : Term → Do Term} → Begun T (make c hs k) before-node
  b-unbound : {v : ℕ} → Begun T (stuck v) (at-unbound v)
  b-look : {h : Term} {k : ℕ → List Term → Do Term} {w : Stop} → Begun T (k (con h) (kids h)) w → Begun T (look h k) w
  b-make : {c : ℕ} {hs : List Term} {k : Term → Do Term} {w : Stop} → Begun T (k (mk c hs)) w → Begun T (make c hs k) w
  b-in : {t : Keep} {q : Visit Term} {k : Term → Env → Do Term} {p : Do Term} {w : Stop} → Begun T (does T q) w → Begun T (ask t q k p) w
  b-yes : {t : Keep} {q : Visit Term} {k : Term → Env → Do Term} {p : Do Term} {h : Term} {b : Env} {w : Stop} → T ⊢ q ⇒ done h b → Begun T (k h b) w → Begun T (ask t q k p) w
  b-no : {t : Keep} {q : Visit Term} {k : Term → Env → Do Term} {p : Do Term} {w : Stop} → T ⊢ q ⇒ failed → Begun T p w → Begun T (ask t q k p) w

-- what it has done
unfoldable pub trace : {T : Table} {p : Do Term} {w : Stop} → Begun T p w → Trace
trace b-visit = over
trace b-node = over
trace b-unbound = over
trace (b-look b) = trace b
trace (b-make b) = node (trace b)
trace (b-in {q = q} b) = visit (what q) in-flight (trace b) over
trace (b-yes {t = t} {q = q} r b) = visit (what q) (fate t) (traceOf r) (trace b)
trace (b-no {q = q} r b) = visit (what q) fails (traceOf r) (trace b)

-- the nesting of the visit before which it is broken off
unfoldable pub level : {T : Table} {p : Do Term} {w : Stop} → Begun T p w → ℕ
level b-visit = 1
level b-node = 0
level b-unbound = 0
level (b-look b) = level b
level (b-make b) = level b
level (b-in b) = suc (level b)
level (b-yes r b) = level b
level (b-no r b) = level b

-- a run is given units, room for `size` nodes of which `mark` are in use, and a nesting
pub record Given : Type 0 where
  pub units : ℕ
  pub size : ℕ
  pub mark : ℕ
  pub nesting : ℕ

-- what was done fits, and leaves these units
pub record Fits (g : Given) (t : Trace) (rest : ℕ) : Type 0 where
  pub units : g.units ≡ visits t + rest
  pub room : g.mark + most t ≤ g.size
  pub nesting : depth t ≤ g.nesting

-- where a limit stops a run
abbrev pub stop : Limit → Stop
stop units = before-visit
stop room = before-node
stop nested = before-visit
stop (unbound v) = at-unbound v

-- the limit is met first: all units are used; else the nesting would be exceeded; the mark equals the store's nodes. At a
-- variable without a binding no limit is met: that the beginning fits says that none was met before
abbrev pub Met : Given → Limit → (level left rest : ℕ) → Type 0
Met g units l n rest = rest ≡ 0
Met g room l n rest = g.mark + n ≡ g.size
Met g nested l n rest = (0 < rest) × (l ≡ suc g.nesting)
Met g (unbound v) l n rest = Unit {0}
