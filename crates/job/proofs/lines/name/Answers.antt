-- `job::lines::name` meets its contract, by the field's length and its letters. Assumes nothing.
use Rattle.std.proofs.Common.{arith, ◌≡◌, List, ℕ, length, get_or}
use borrow.Author.Tests.{eq-eqb, ne_eqb}
use Rattle.job.specs.Lines.{name_of}
use Rattle.job.proofs.lines.name.Goals as goal

-- A field of another length is no name, and one of three letters is `job` or none.
other-length : (f : List ℕ) → (length f ≡ 1 → ⊥) → (length f ≡ 3 → ⊥) → 4 ≡ name_of f
unfolding name_of
other-length f n m = rw (ne_eqb _ _ n, ne_eqb _ _ m)

module _ (f : List ℕ) (e : length f ≡ 3) where
  first : (get_or f 0 0 ≡ 106 → ⊥) → 4 ≡ name_of f
  unfolding name_of
  first n = rw (e, ne_eqb _ _ n)

  second : get_or f 0 0 ≡ 106 → (get_or f 1 0 ≡ 111 → ⊥) → 4 ≡ name_of f
  unfolding name_of
  second j n = rw (e, eq-eqb _ _ j, ne_eqb _ _ n)

  third : get_or f 0 0 ≡ 106 → get_or f 1 0 ≡ 111 → (get_or f 2 0 ≡ 98 → ⊥) → 4 ≡ name_of f
  unfolding name_of
  third j o n = rw (e, eq-eqb _ _ j, eq-eqb _ _ o, ne_eqb _ _ n)

  all : get_or f 0 0 ≡ 106 → get_or f 1 0 ≡ 111 → get_or f 2 0 ≡ 98 → 0 ≡ name_of f
  unfolding name_of
  all j o b = rw (e, eq-eqb _ _ j, eq-eqb _ _ o, eq-eqb _ _ b)

pub returns-in-len1 : goal.returns-in-len1
unfolding name_of
returns-in-len1 c =
    let e : length c.args.field.now ≡ 1 = omega arith in
    rw (eq-eqb _ _ e) c.letter.ensures

pub returns-in-len3 : goal.returns-in-len3
returns-in-len3 c = all c.args.field.now (omega arith) c.if-j-eq106.true c.if-o-eq111.true c.if-b-eq98.true

pub returns-in_default : goal.returns-in_default
returns-in_default c = other-length c.args.field.now (λ z. omega arith) (λ z. omega arith)

pub returns-in_default-2 : goal.returns-in_default-2
returns-in_default-2 c = other-length c.args.field.now (λ z. omega arith) (λ z. omega arith)

pub returns-in_default-3 : goal.returns-in_default-3
returns-in_default-3 c = third c.args.field.now (omega arith) c.if-j-eq106.true c.if-o-eq111.true c.if-b-eq98.false

pub returns-in_default-4 : goal.returns-in_default-4
returns-in_default-4 c = second c.args.field.now (omega arith) c.if-j-eq106.true c.if-o-eq111.false

pub returns-in_default-5 : goal.returns-in_default-5
returns-in_default-5 c = first c.args.field.now (omega arith) c.if-j-eq106.false

pub returns-in_default-6 : goal.returns-in_default-6
returns-in_default-6 c = other-length c.args.field.now (λ z. omega arith) (λ z. omega arith)
