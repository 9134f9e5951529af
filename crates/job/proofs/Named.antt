-- Names by their numbers, and what is taken where a line is found. Assumes nothing.
use Rattle.std.proofs.Common.{Bool, true, false, ◌≡◌, ◌≤◌, ℕ, Option, Some, arith, ap, sym, ◌∙◌}
use denote.Enum.Bare.{sameb}
use lib.Dec.{eqb}
use Rattle.job.specs.Lines.{Taken}
use Rattle.job.specs.Held.{line_taken, name_number}
use Rattle.job.specs.contracts.Name.{the_type}
use Rattle.job.specs.declared.Line.{Line}
use Rattle.job.specs.declared.Name.{Name}
use Rattle.job.specs.declared.Name.TheVariants.{Job, Entry, Node, Binding}

-- A name's number.
pub name-most : (k : Name) → name_number k ≤ 3
name-most Job = omega arith
name-most Entry = omega arith
name-most Node = omega arith
name-most Binding = omega arith

-- A name is that of an `e` line, or another.
pub entry-name : (k : Name) → true ≡ sameb the_type k Entry → name_number k ≡ 1
entry-name Job e = cc
entry-name Entry e = cc
entry-name Node e = cc
entry-name Binding e = cc

pub other-name : (k : Name) → false ≡ sameb the_type k Entry → eqb (name_number k) 1 ≡ false
other-name Job e = cc
other-name Entry e = cc
other-name Node e = cc
other-name Binding e = cc

-- What is taken is the line that was found.
pub found : {t : Taken} {o : Option Line} {x : Line} (next : ℕ) → o ≡ Some x → line_taken o next ≡ t → line_taken (Some x) next ≡ t
found next e z = ap (λ (p : Option Line). line_taken p next) (sym e) ∙ z
