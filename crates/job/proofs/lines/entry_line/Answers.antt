-- `job::lines::entry_line` meets its contract: what does not fit is no line. Assumes nothing.
use Rattle.std.proofs.Common.{sym}
use Rattle.job.proofs.Entries.{entry-many, entry-no-kind, entry-no-argument, entry-made}
use Rattle.job.proofs.lines.entry_line.Goals as goal
use Rattle.job.proofs.lines.entry_line.Goals.{then-operands-gt6-via-then-operands-gt6, then-operands-gt6-via-else-operands-gt6+then-kind-gt255}
use Rattle.job.proofs.lines.entry_line.Goals.{then-operands-gt6-via-else-operands-gt6+else-kind-gt255+then-not-argument_fits}

pub returns-then-operands-gt6 : goal.returns-then-operands-gt6
returns-then-operands-gt6 c next o e =
    elim c.then-operands-gt6.branch [
      | then-operands-gt6-via-then-operands-gt6 w ↦ entry-many c.args.kind c.args.argument next c.args.operands o e w.if-operands-gt6.true
      | then-operands-gt6-via-else-operands-gt6+then-kind-gt255 w ↦
          entry-no-kind c.args.kind c.args.argument next c.args.operands o w.if-kind-gt255.true
      | then-operands-gt6-via-else-operands-gt6+else-kind-gt255+then-not-argument_fits w ↦
          entry-no-argument c.args.kind c.args.argument next c.args.operands o (sym w.if-not-argument_fits.ensures)
    ]

pub returns : goal.returns
returns c next o e =
    entry-made c.args.kind c.args.argument next c.args.operands o e c.if-operands-gt6.false c.if-kind-gt255.false (sym c.if-not-argument_fits.ensures)
