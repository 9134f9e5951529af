-- A refusal's number is not 0. Assumes nothing.
use mathlib.Core.Path.{◌≡◌}
use Prim.Native.Nat.{ℕ}
use native.Mathlib.Omega.{arith}
use Rattle.std.specs.Prelude.{Err}
use Rattle.checks.proofs.Numbers.{answer_ne0}
use Rattle.check_rules.specs.Line.{line_fault_number}
use Rattle.check_rules.specs.declared.line.LineFault.{LineFault}
use Rattle.check_rules.specs.declared.line.LineFault.TheVariants as fault
use Rattle.check_rules.specs.Check.{told_of}
use Rattle.check_rules.specs.declared.check.RulesRefusal.{RulesRefusal}
use Rattle.check_rules.specs.declared.check.RulesRefusal.TheVariants.{Table, Line}

pub fault_ne0 : (f : LineFault) → line_fault_number f ≡ 0 → ⊥
fault_ne0 (fault.Shape n) z = absurd (omega arith)
fault_ne0 fault.Unbound z = absurd (omega arith)
fault_ne0 fault.Range z = absurd (omega arith)
fault_ne0 fault.Callee z = absurd (omega arith)
fault_ne0 fault.Room z = absurd (omega arith)

pub told_ne0 : (e : RulesRefusal) (u : ℕ) → (told_of (Err e) u).answer ≡ 0 → ⊥
told_ne0 (Table e) u z = answer_ne0 e z
told_ne0 (Line n f) u z = fault_ne0 f z
