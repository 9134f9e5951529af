-- A tree has as many entries as its size says, and a constructor as many places as children. Assumes nothing.
use mathlib.Core.Path.{◌≡◌, refl, ap}
use Prim.Native.Nat.{ℕ, suc, ◌+◌}
use lib.ListN.{length, length-append}
use Rattle.rules.specs.Rule.{Pat, Pats, var, con, none as no-pats, more as more-pats, count}
use Rattle.rules.specs.Entries
use Rattle.rules.specs.Entries.{Code, scope, seq, where-of, call, size, sizes, places, pat_entries, pats_entries, code_size, code_entries}

mutual
  unfolding pat_entries pats_entries size sizes

  pub length-pat : (e : ℕ) (p : Pat) → length (pat_entries e p) ≡ size p
  length-pat e (var v) = refl
  length-pat e (con c ps) = ap suc (length-pats (suc e) ps)

  pub length-pats : (e : ℕ) (ps : Pats) → length (pats_entries e ps) ≡ sizes ps
  length-pats e no-pats = refl
  length-pats e (more-pats p ps) = rw (length-append, length-pat e p, length-pats (e + size p) ps)

pub length-places : (e : ℕ) (ps : Pats) → length (places e ps) ≡ count ps
unfolding places count
length-places e no-pats = refl
length-places e (more-pats p ps) = ap suc (length-places (e + size p) ps)

pub length-code : (e : ℕ) (a : Code) → length (code_entries e a) ≡ code_size a
unfolding code_entries code_size
length-code e (scope m a) = ap suc (length-code (suc e) a)
length-code e (seq a c) = ap suc (rw (length-append, length-code (suc e) a, length-code (suc e + code_size a) c))
length-code e (where-of a) = ap suc (length-code (suc e) a)
length-code e (Entries.match p) = ap suc (length-pat (suc e) p)
length-code e (Entries.build p) = ap suc (length-pat (suc e) p)
length-code e (call x) = refl
