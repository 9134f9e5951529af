-- `translate::lines::put_line` meets its contract, part by part. Assumes nothing.
use native.Mathlib.Omega.{arith}
use Rattle.translate.proofs.Adding.{rule-told, told-line, known-line, scope-room, body-room, link-room, line-placed}
use Rattle.translate.proofs.lines.put_line.Goals as goal

pub unwrap-rule-requires : goal.unwrap-rule-requires
unwrap-rule-requires c = rule-told c.shape_of.result c.args.line.now c.shape_of.ensures.told c.requires.0

pub put_scope-body-requires : goal.put_scope-body-requires
put_scope-body-requires c =
    let e = told-line c.unwrap-rule.result c.unwrap-rule.ensures c.shape_of.ensures.line in
    let line = known-line c.unwrap-rule.result e in
    (scope-room c.args.line.now line c.args.first c.args.table.now c.requires.0 c.marks-mask.result (omega arith) c.marks-mask.ensures, c.requires.1)

pub put_body-stop-requires : goal.put_body-stop-requires
put_body-stop-requires c =
    let e = told-line c.unwrap-rule.result c.unwrap-rule.ensures c.shape_of.ensures.line in
    let line = known-line c.unwrap-rule.result e in (
      rw e (body-room c.args.line.now line c.args.first c.args.table.now c.requires.0 c.marks-mask.result (omega arith) c.marks-mask.ensures
          c.put_scope-body.ensures c.put_scope-body.auto.table),
      omega (arith, c.requires.1, c.put_scope-body.auto.table),
    )

pub link-requires : goal.link-requires
link-requires c =
    let e = told-line c.unwrap-rule.result c.unwrap-rule.ensures c.shape_of.ensures.line in
    let line = known-line c.unwrap-rule.result e in
    link-room c.args.line.now line c.args.first c.args.table.now c.requires.0 c.marks-mask.result (omega arith) c.marks-mask.ensures
    c.put_scope-body.ensures c.put_scope-body.auto.table _ _ (rw e at c.put_body-stop.ensures) c.put_body-stop.auto.table c.requires.1
    c.args.ends.now c.requires.2

pub returns : goal.returns
returns c =
    let e = told-line c.unwrap-rule.result c.unwrap-rule.ensures c.shape_of.ensures.line in
    let line = known-line c.unwrap-rule.result e in
    line-placed c.args.line.now line c.args.first c.args.table.now c.requires.0 c.marks-mask.result (omega arith) c.marks-mask.ensures
    c.put_scope-body.ensures c.put_scope-body.auto.table _ _ (rw e at c.put_body-stop.ensures) c.put_body-stop.auto.table c.requires.1
    c.args.ends.now c.requires.2 _ c.link.ensures.0
