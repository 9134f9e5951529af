-- `checks::entries::check_entry` meets its contract, test by test; what a test requires, the ones before it have shown.
-- Assumes nothing.
use Rattle.std.proofs.Common.{◌≡◌, ℕ, List, Bool, true, ◌+◌, ◌-◌, ◌/◌, ◌%◌, ◌≤◌, ap, sym, ◌∙◌, subst, arith, rules}
use borrow.Author.Tests.{ne_eqb}
use Rattle.words.specs.Words.{word_at}
use Rattle.checks.specs.Kinds.{ours, operands_from_by, kind}
use Rattle.checks.specs.Good.{count_of, kind_of, operand_count, zeros_from, count_fits, operands_fault_by, unused_zero_by, fault_by}
use Rattle.checks.specs.Numbers.{fault_number, fault_of}
use Rattle.checks.proofs.Good.{counted}
use Rattle.checks.proofs.Numbering.{fault-some}
use Rattle.checks.proofs.Tables.{roomy, from-two}
use Rattle.checks.proofs.entries.check_entry.Goals as goal

-- the entry's word 0 was read as w
module _ (t : List ℕ) (e w : ℕ) (read : w ≡ word_at t e 0) where
  -- what the test of the count says
  count-is : (b : Bool) → b ≡ count_of (w / 16) (w % 16) → b ≡ count_fits t e
  unfolding count_fits
  count-is b h = subst (λ w. b ≡ count_of (w / 16) (w % 16)) read h

  -- what it shows where it holds
  module _ (b : Bool) (test : b ≡ count_of (w / 16) (w % 16)) (holds : b ≡ true) where
    count : count_fits t e ≡ true
    count = sym (count-is b test) ∙ holds

    known : w / 16 ≤ 19
    known = subst (λ w. w / 16 ≤ 19) (sym read) ((counted t e).0 count).known

    room : operands_from_by ours (w / 16) + w % 16 ≤ 8
    room =
        let k : kind_of t e ≤ 19 = ((counted t e).0 count).known in
        let m : operand_count t e ≤ (kind (kind_of t e)).most = ((counted t e).0 count).most in
        subst (λ w. operands_from_by ours (w / 16) + w % 16 ≤ 8) (sym read) (omega (arith, m, roomy (kind_of t e) k))

    -- the operands begin at `from`: the words after them are looked at
    module _ (from : ℕ) (begins : from ≡ operands_from_by ours (w / 16)) where
      used : from + w % 16 ≤ 8
      used = omega (arith, begins, room)

      after : 2 ≤ from
      after = omega (arith, begins, from-two (w / 16))

      unused-is : (z : Bool) → z ≡ zeros_from t e (2 + (from + w % 16 - 2)) → z ≡ unused_zero_by ours t e
      unfolding unused_zero_by
      unused-is z h =
          let s : 2 + (from + w % 16 - 2) ≡ from + w % 16 = omega (arith, used, after) in
          subst (λ w. z ≡ zeros_from t e (operands_from_by ours (w / 16) + w % 16)) read (rw (← begins) (rw s at h))

pub returns-then-not-count_fits : goal.returns-then-not-count_fits
unfolding fault_by
returns-then-not-count_fits c =
    rw (sym (count-is c.args.table.now c.args.e c.word-w.result c.word-w.ensures _ c.count_fits.ensures) ∙ c.if-not-count_fits.true)

pub returns-then-not-argument_fits : goal.returns-then-not-argument_fits
unfolding fault_by
returns-then-not-argument_fits c =
    rw (
      count c.args.table.now c.args.e c.word-w.result c.word-w.ensures _ c.count_fits.ensures c.if-not-count_fits.false,
      sym c.argument_fits.ensures ∙ c.if-not-argument_fits.true,
    )

pub check_operands-requires : goal.check_operands-requires
check_operands-requires c =
    let w = c.word-w in
    let n : w.result / 16 ≤ 19 = known c.args.table.now c.args.e w.result w.ensures _ c.count_fits.ensures c.if-not-count_fits.false in
    let m : operands_from_by ours (w.result / 16) + w.result % 16 ≤ 8 =
    room c.args.table.now c.args.e w.result w.ensures _ c.count_fits.ensures c.if-not-count_fits.false in
    (ap (λ w. w / 16) w.ensures, (ap (λ w. w % 16) w.ensures, (n, m)))

pub returns-in_err-check_operands : goal.returns-in_err-check_operands
unfolding fault_by
returns-in_err-check_operands c =
    let f = c.in_err-check_operands.field-0.0 in
    let same : fault_of c.from_residual.result ≡ fault_number f = search rules in
    let is : fault_number f ≡ operands_fault_by ours c.args.table.now c.args.e = c.in_err-check_operands.ensures in
    same ∙ is ∙ rw (
      count c.args.table.now c.args.e c.word-w.result c.word-w.ensures _ c.count_fits.ensures c.if-not-count_fits.false,
      sym c.argument_fits.ensures ∙ c.if-not-argument_fits.false,
      ne_eqb _ _ (λ e. fault-some f (is ∙ e)),
    )

pub unused_zero-requires : goal.unused_zero-requires
unused_zero-requires c =
    let u = used c.args.table.now c.args.e c.word-w.result c.word-w.ensures _ c.count_fits.ensures c.if-not-count_fits.false c.operands_from.result c.operands_from.ensures in
    omega (arith, u)

pub returns-then-not-unused_zero : goal.returns-then-not-unused_zero
unfolding fault_by
returns-then-not-unused_zero c =
    let z = unused-is c.args.table.now c.args.e c.word-w.result c.word-w.ensures _ c.count_fits.ensures c.if-not-count_fits.false
    c.operands_from.result c.operands_from.ensures c.unused_zero.result c.unused_zero.ensures in
    rw (
      count c.args.table.now c.args.e c.word-w.result c.word-w.ensures _ c.count_fits.ensures c.if-not-count_fits.false,
      sym c.argument_fits.ensures ∙ c.if-not-argument_fits.false,
      ← c.in_ok-check_operands.ensures,
      sym z ∙ c.if-not-unused_zero.true,
    )

pub returns : goal.returns
unfolding fault_by
returns c =
    let z = unused-is c.args.table.now c.args.e c.word-w.result c.word-w.ensures _ c.count_fits.ensures c.if-not-count_fits.false
    c.operands_from.result c.operands_from.ensures c.unused_zero.result c.unused_zero.ensures in
    rw (
      count c.args.table.now c.args.e c.word-w.result c.word-w.ensures _ c.count_fits.ensures c.if-not-count_fits.false,
      sym c.argument_fits.ensures ∙ c.if-not-argument_fits.false,
      ← c.in_ok-check_operands.ensures,
      sym z ∙ c.if-not-unused_zero.false,
    )
