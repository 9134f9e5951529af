-- What meets a variable without its binding has no derivation: with limits that are enough for both, one run would end in two ways.
use mathlib.Core.Path.{◌≡◌, refl, sym, ◌∙◌}
use Prim.Native.Nat.{ℕ, ◌+◌}
use native.Mathlib.Omega.{arith}
use Rattle.meaning.specs.Term.{Term}
use Rattle.meaning.specs.Derivation.{done, failed, stays, fails, Trace, visits, depth, left, most, quiet}
use Rattle.meaning.specs.Limits.{unbound, Res, ended, lost, cut, Counted, at}
use Rattle.meaning.specs.System.{Env, trace}
use Rattle.meaning.specs.Beginning.{Given, Fits, trace as traceBegun}
use Rattle.meaning.specs.Demands.{whole, Demand2Values, UnboundUnderivable}

-- just what the two together ask for
abbrev enough : Trace → Trace → Given
enough x y = record { units = visits x + visits y; size = most x + most y; mark = 0; nesting = depth x + depth y }

first_fits : (x y : Trace) → Fits (enough x y) x (visits y)
first_fits x y = record { units = refl; room = omega arith; nesting = omega arith }

second_fits : (x y : Trace) → Fits (enough x y) y (visits x)
second_fits x y = record { units = omega arith; room = omega arith; nesting = omega arith }

pub unbound-underivable : Demand2Values → UnboundUnderivable
unbound-underivable demand T q v s (done t b) r =
    let x : Trace = whole q stays (trace r) in
    let g : Given = enough x (traceBegun s) in
    let one = (demand (Unit {0}) quiet tt T g q (ended t b (at (left x) tt) (visits (traceBegun s))) (omega arith)).1 (r, first_fits x (traceBegun s), omega arith, refl) in
    let other = (demand (Unit {0}) quiet tt T g q (cut (unbound v) tt (visits x)) (omega arith)).1 (s, second_fits x (traceBegun s), tt, refl) in
    let e : ◌≡◌ {A = Res Term Env (Counted (Unit {0})) (Unit {0})} (ended t b (at (left x) tt) (visits (traceBegun s))) (cut (unbound v) tt (visits x)) = sym one ∙ other in
    let z : ◌≡◌ {A = ℕ} 0 1 = cc in
    absurd (omega arith)
unbound-underivable demand T q v s failed r =
    let x : Trace = whole q fails (trace r) in
    let g : Given = enough x (traceBegun s) in
    let one = (demand (Unit {0}) quiet tt T g q (lost tt (visits (traceBegun s))) (omega arith)).1 (r, first_fits x (traceBegun s), refl) in
    let other = (demand (Unit {0}) quiet tt T g q (cut (unbound v) tt (visits x)) (omega arith)).1 (s, second_fits x (traceBegun s), tt, refl) in
    let e : ◌≡◌ {A = Res Term Env (Counted (Unit {0})) (Unit {0})} (lost tt (visits (traceBegun s))) (cut (unbound v) tt (visits x)) = sym one ∙ other in
    let z : ◌≡◌ {A = ℕ} 0 1 = cc in
    absurd (omega arith)
