-- Each `e` line ends inside the text, and has the numbers of a row.
use Rattle.std.proofs.Common.{Bool, true, false, ◌≡◌, refl}
use mathlib.Core.Bool.{not}
use Rattle.job.proofs.Named.{name-most, entry-name, found}
use Rattle.job.proofs.Readings.{sound, entry-fit}
use Rattle.run_rules.proofs.read.read_entries.Goals as goal

-- A name that is not another is that of an `e` line.
kept : (q : Bool) → false ≡ not q → true ≡ q
kept true e = refl
kept false e = cc

pub entry_row-requires : goal.entry_row-requires
entry_row-requires c =
    let s = sound _ _ _ (found c.line_at-taken.result.next c.in-Some.is c.line_at-taken.ensures) (name-most c.in-Some.line.name) in
    entry-fit _ _ _ s.fit (entry-name c.in-Some.line.name (kept _ c.if-ne.ensures))

pub loop-used-preserved : goal.loop-used-preserved
loop-used-preserved c =
    let s = sound _ _ _ (found c.line_at-taken.result.next c.in-Some.is c.line_at-taken.ensures) (name-most c.in-Some.line.name) in
    s.within
