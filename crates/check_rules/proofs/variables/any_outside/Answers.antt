-- The fields of the whole line. Assumes nothing.
use mathlib.Core.Path.{sym, ◌∙◌}
use mathlib.Core.List.{List}
use Prim.Native.Nat.{ℕ, ◌+◌}
use lib.ListN.{length}
use borrow.Author.Tests.{tests}
use denote.Ref.{Bor}
use Rattle.std.proofs.Common.{rules}
use Rattle.std.proofs.lemmas.Iterator.Search.{any_from_yields_List}
use Rattle.std.proofs.lemmas.Iterator.Consumers.{YieldsList-from_first}
use Rattle.rules.specs.Text.{head_of}
use Rattle.rules.specs.Scan.{fields_from}
use Rattle.rules.specs.Walk.{begun, fields_left}
use Rattle.check_rules.specs.Far.{outside_range}
use Rattle.check_rules.proofs.Ranging.{outside_whole}
use Rattle.check_rules.proofs.variables.any_outside.Goals as goal

pub returns : goal.returns
returns c =
    let l = c.args.line.now in
    any_from_yields_List (λ f. outside_range (head_of f)) c.any.new.self _ c.any.result c.any.ensures.ran
    (YieldsList-from_first (λ (x : Bor (List ℕ)). x.now) fields_left (begun (fields_from l 0) 0 (length l + 1)) c.between.ensures)
    (λ x b q k. search (rules, tests))
    ∙ sym (outside_whole l)
