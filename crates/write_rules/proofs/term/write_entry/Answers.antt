-- `write_rules::term::write_entry` meets its contract, by the kind of the entry. Assumes nothing.
use Rattle.write_rules.proofs.Writing.{wrote-put, wrote-more, wrote_as, field-long, variable-text, constructor-text}
use Rattle.write_rules.proofs.Writing.{wrote-put, wrote-more}
use native.Mathlib.Omega.{arith}
use Rattle.write_rules.proofs.term.write_entry.Goals as goal

pub returns-then-kind_of-eq-PVAR : goal.returns-then-kind_of-eq-PVAR
returns-then-kind_of-eq-PVAR c =
    wrote_as (variable-text c.args.table.now c.args.e c.word-a.ensures c.kind_of.ensures c.if-kind_of-eq-PVAR.true)
    (wrote-more (wrote-put (omega (arith, c.requires)) c.put_byte-name.ensures) c.write_number.ensures)

pub write_number-requires-2 : goal.write_number-requires-2
write_number-requires-2 c =
    omega (arith, c.requires, field-long c.word-a.result, c.write_number-next.ensures.place, c.write_number-next.auto.line)

pub returns : goal.returns
returns c =
    wrote_as (constructor-text c.args.table.now c.args.e c.word-a.ensures c.kind_of.ensures c.if-kind_of-eq-PVAR.false
    c.operand_count-n.ensures) (wrote-more c.write_number-next.ensures c.write_number-2.ensures)
