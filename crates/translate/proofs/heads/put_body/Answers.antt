-- `translate::heads::put_body` meets its contract, part by part. Assumes nothing.
use Rattle.translate.proofs.Heading.{room_open, room-left, room-conditions, room-build, room-right, body-placed}
use native.Mathlib.Omega.{arith}
use Rattle.translate.proofs.heads.put_body.Goals as goal

pub open_body-left-requires : goal.open_body-left-requires
open_body-left-requires c =
    (room_open c.args.table.now c.requires.0, c.requires.1)

pub put_term-next-requires : goal.put_term-next-requires
put_term-next-requires c =
    (room-left c.args.table.now c.requires.0 c.open_body-left.ensures c.open_body-left.auto.table, omega (arith, c.requires.1, c.open_body-left.auto.table))

pub put_conditions-build-requires : goal.put_conditions-build-requires
put_conditions-build-requires c = (
  room-conditions c.args.table.now c.requires.0 c.open_body-left.ensures c.open_body-left.auto.table c.put_term-next.ensures
      c.put_term-next.auto.table,
  omega (arith, c.requires.1, c.open_body-left.auto.table, c.put_term-next.auto.table),
)

pub put_build-last-requires : goal.put_build-last-requires
put_build-last-requires c = (
  room-build c.args.table.now c.requires.0 c.open_body-left.ensures c.open_body-left.auto.table c.put_term-next.ensures
      c.put_term-next.auto.table _ _ c.put_conditions-build.ensures c.put_conditions-build.auto.table,
  omega
      (arith, c.requires.1, c.open_body-left.auto.table, c.put_term-next.auto.table, c.put_conditions-build.auto.table),
)

pub put_term-requires : goal.put_term-requires
put_term-requires c = (
  room-right c.args.table.now c.requires.0 c.open_body-left.ensures c.open_body-left.auto.table c.put_term-next.ensures
      c.put_term-next.auto.table _ _ c.put_conditions-build.ensures c.put_conditions-build.auto.table c.put_build-last.ensures
      c.put_build-last.auto.table,
  omega
      (arith, c.requires.1, c.open_body-left.auto.table, c.put_term-next.auto.table, c.put_conditions-build.auto.table, c.put_build-last.auto.table),
)

pub returns : goal.returns
returns c =
    body-placed c.args.table.now c.requires.0 c.open_body-left.ensures c.open_body-left.auto.table c.put_term-next.ensures
    c.put_term-next.auto.table _ _ c.put_conditions-build.ensures c.put_conditions-build.auto.table c.put_build-last.ensures
    c.put_build-last.auto.table c.put_term.ensures
