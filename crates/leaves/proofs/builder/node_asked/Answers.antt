use Rattle.leaves.proofs.Building.{node-full, lent-held, gives-stands, gives-full, gives_made, made-small}
use Rattle.leaves.proofs.Building.{node-full, lent-held, gives-stands, gives-full, gives_made}
use native.Mathlib.Omega.{arith}
use mathlib.Core.Path.{refl}
use Rattle.leaves.proofs.builder.node_asked.Goals as goal

pub returns-then-st-ne0 : goal.returns-then-st-ne0
returns-then-st-ne0 c = node-full c.args.made c.args.st.now
    c.args.store.now c.args.left _
    c.requires.0 (omega arith) c.if-st-ne0.true
    c.requires.2 c.no_room.ensures

pub ask-requires : goal.ask-requires
ask-requires c = lent-held c.args.made
    c.args.st.now
    c.args.store.now
    c.args.left 0
    c.requires.0 (omega arith)
    c.if-st-ne0.false refl refl refl

pub overflow_add-st : goal.overflow_add-st
overflow_add-st c = omega (
  arith,
  made-small
      c.args.made
      c.args.st.now
      c.args.store.now
      c.args.left 0
      c.requires.0
      (omega arith) c.if-st-ne0.false refl
      refl refl _ _ c.ask.ensures _ c.in-Made.is,
)

pub overflow_add-st-in-Made : goal.overflow_add-st-in-Made
overflow_add-st-in-Made c = omega (
  arith,
  made-small
      c.args.made
      c.args.st.now
      c.args.store.now
      c.args.left 0
      c.requires.0
      (omega arith) c.if-st-ne0.false refl
      refl refl _ _ c.ask.ensures _ c.in-Made.is,
)

pub returns-in-Stands : goal.returns-in-Stands
returns-in-Stands c = gives-stands
    c.args.made
    c.args.st.now
    c.args.store.now
    c.args.left
    _ c.requires.0
    (omega arith) c.if-st-ne0.false
    refl refl refl _ _ c.ask.ensures _
    c.in-Stands.is c.done.ensures

pub returns-in-Full : goal.returns-in-Full
returns-in-Full c = gives-full
    c.args.made
    c.args.st.now
    c.args.store.now
    c.args.left _
    c.requires.0
    (omega arith) c.if-st-ne0.false refl
    refl refl _ _ c.ask.ensures c.in-Full.is
    c.no_room-in-Full.ensures

pub returns-in-Made : goal.returns-in-Made
returns-in-Made c = gives_made
    c.args.made
    c.args.st.now
    c.args.store.now
    c.args.left
    _ c.requires.0
    (omega arith) c.if-st-ne0.false
    refl refl refl _ _ c.ask.ensures _
    c.in-Made.is
    c.requires.1
    c.done-in-Made.ensures refl
