-- By the line's shape, its variables and its conditions' numbers. Assumes nothing.
use mathlib.Core.Path.{subst, refl}
use mathlib.Core.Bool.{Bool}
use mathlib.Core.List.{List}
use Prim.Native.Nat.{ℕ}
use denote.Ref.{Bor}
use Rattle.std.specs.Prelude.{Ok, Err}
use Rattle.rules.specs.Walk.{shape_told}
use Rattle.rules.specs.Text.{rule_of}
use Rattle.check_rules.specs.Bound.{answers_variables}
use Rattle.check_rules.specs.Line.{line_fault_number, callable, CallsIn}
use Rattle.check_rules.proofs.Calling.{line-bad, line-calls, line-called, made-variables, told-shape, told-variables, told-calls, told-called}
use Rattle.check_rules.proofs.line.check_line.Goals as goal

pub returns-in-Err-clause-told : goal.returns-in-Err-clause-told
returns-in-Err-clause-told c = told-shape c.args.line.now (callable c.args.table.now c.args.masks.now c.args.used) c.in-Err.field c.in-Err.ensures.told

pub returns-in-Err-clause-made : goal.returns-in-Err-clause-made
returns-in-Err-clause-made c = line-bad c.args.line.now (shape_told (Err c.in-Err.field)) c.in-Err.ensures.told (callable c.args.table.now c.args.masks.now c.args.used) refl

pub returns-in-Err-check_variables-clause-told : goal.returns-in-Err-check_variables-clause-told
returns-in-Err-check_variables-clause-told c =
    let v = c.in-Err-check_variables.fault in
    told-variables c.args.line.now (callable c.args.table.now c.args.masks.now c.args.used) c.in-Ok.rule c.in-Ok.ensures.told v
    (subst (λ (x : Bor (List ℕ)). answers_variables (rule_of x.now) (line_fault_number v)) c.in-Ok.ensures.line c.in-Err-check_variables.ensures)

pub returns-in-Err-check_variables-clause-made : goal.returns-in-Err-check_variables-clause-made
returns-in-Err-check_variables-clause-made c =
    let v = c.in-Err-check_variables.fault in
    made-variables c.args.line.now (callable c.args.table.now c.args.masks.now c.args.used) c.in-Ok.rule c.in-Ok.ensures.told v
    (subst (λ (x : Bor (List ℕ)). answers_variables (rule_of x.now) (line_fault_number v)) c.in-Ok.ensures.line c.in-Err-check_variables.ensures)

pub returns-then-not-calls-clause-told : goal.returns-then-not-calls-clause-told
returns-then-not-calls-clause-told c =
    let f : ℕ → Bool = callable c.args.table.now c.args.masks.now c.args.used in
    told-called c.args.line.now f c.in-Ok.rule c.in-Ok.ensures.told
    (subst (λ (x : Bor (List ℕ)). answers_variables (rule_of x.now) 0) c.in-Ok.ensures.line c.in_default.ensures)
    c.calls.result (subst (λ (x : Bor (List ℕ)). CallsIn (rule_of x.now) f c.calls.result) c.in-Ok.ensures.line c.calls.ensures) c.if-not-calls.true

pub returns-then-not-calls-clause-made : goal.returns-then-not-calls-clause-made
returns-then-not-calls-clause-made c =
    let f : ℕ → Bool = callable c.args.table.now c.args.masks.now c.args.used in
    line-called c.args.line.now (shape_told (Ok c.in-Ok.rule)) c.in-Ok.ensures.told refl f 0
    (subst (λ (x : Bor (List ℕ)). answers_variables (rule_of x.now) 0) c.in-Ok.ensures.line c.in_default.ensures) refl
    c.calls.result (subst (λ (x : Bor (List ℕ)). CallsIn (rule_of x.now) f c.calls.result) c.in-Ok.ensures.line c.calls.ensures) c.if-not-calls.true

pub returns-clause-told : goal.returns-clause-told
returns-clause-told c =
    let f : ℕ → Bool = callable c.args.table.now c.args.masks.now c.args.used in
    told-calls c.args.line.now f c.in-Ok.rule c.in-Ok.ensures.told
    (subst (λ (x : Bor (List ℕ)). answers_variables (rule_of x.now) 0) c.in-Ok.ensures.line c.in_default.ensures)
    c.calls.result (subst (λ (x : Bor (List ℕ)). CallsIn (rule_of x.now) f c.calls.result) c.in-Ok.ensures.line c.calls.ensures) c.if-not-calls.false

pub returns-clause-made : goal.returns-clause-made
returns-clause-made c =
    let f : ℕ → Bool = callable c.args.table.now c.args.masks.now c.args.used in
    line-calls c.args.line.now (shape_told (Ok c.in-Ok.rule)) c.in-Ok.ensures.told refl f 0
    (subst (λ (x : Bor (List ℕ)). answers_variables (rule_of x.now) 0) c.in-Ok.ensures.line c.in_default.ensures) refl
    c.calls.result (subst (λ (x : Bor (List ℕ)). CallsIn (rule_of x.now) f c.calls.result) c.in-Ok.ensures.line c.calls.ensures) c.if-not-calls.false
