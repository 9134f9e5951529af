use mathlib.Core.Path.{◌≡◌, refl, sym, ◌∙◌}
use mathlib.Core.List.{List}
use mathlib.Core.Option.{Option}
use Prim.Native.Nat.{ℕ}
use native.Mathlib.Omega.{arith}
use borrow.Author.Tests.{eqb-true, eqb-false}
use lib.ListN.{length, get_or}
use Rattle.checks.proofs.Numbers.{answer_ne0}
use Rattle.checks.specs.Kinds.{ours}
use Rattle.checks.specs.Checked.{checked}
use Rattle.calls.specs.Refused.{lent_signature}
use Rattle.meaning.specs.Store.{Accepted}
use Rattle.calls.specs.Many.{Module, handed, single, many_at_return, many_refused}
use Rattle.running.proofs.Whole.{ready-plain, ended-plain, store-small}
use Rattle.calls.proofs.Turns.{Given, Stands, table-short, accepted-single, going-first, going_next, going-last}
use Rattle.calls.proofs.Turns.{many-refused, many-ran, many-given, many-none}
use Rattle.std.proofs.lemmas.Result.{err_from_is_err_and}
use Rattle.many.proofs.run_many.Goals as goal
use Rattle.many.proofs.run_many.Goals.{In_ok-check_many, In-loop-j}

-- what is handed to the call, and the signature
abbrev given : In_ok-check_many → Module
given c = let a = c.args in handed a.table.now a.store.now a.bindings.now a.mark a.start a.subjects.now a.units a.results.now

abbrev lent : In_ok-check_many → Option (List ℕ)
lent c = lent_signature c.args.signature

-- it is not refused, so each subject may be run on
passed : (c : In_ok-check_many) → checked 0 0 ≡ many_refused (lent c) (given c)
passed c = c.in_ok-check_many.ensures c.args.results.now c.args.units refl

both : (c : In_ok-check_many) → Given ours (lent c) (given c) × Stands ours (lent c) (given c) c.args.store.now c.args.mark
both c = many-given ours (lent c) (given c) (checked 0 0) (passed c) refl

pub returns-in_err-check_many : goal.returns-in_err-check_many
returns-in_err-check_many c =
    let p = err_from_is_err_and c.from_residual.result c.from_residual.ensures.1 in
    rw (p.1, p.2) (many-refused ours _ _ _ (c.in_err-check_many.ensures c.args.results.now c.args.units refl) (answer_ne0 _))

pub returns-then-is_empty : goal.returns-then-is_empty
returns-then-is_empty c =
    let k = (goal.at.returns-then-is_empty c).In_ok-check_many in
    many-none ours (lent k) (given k) (checked 0 0) (passed k) refl (eqb-true (length c.args.subjects.now) 0 (sym c.if-is_empty.ensures))

pub load-requires : goal.load-requires
load-requires c = (table-short ours (both (goal.at.load-requires c).In_ok-check_many).0, refl)

pub loop-j-init : goal.loop-j-init
loop-j-init c = let k = (goal.at.loop-j-init c).In_ok-check_many in going-first ours (lent k) (given k) (both k).1

-- there is a subject, and its run is accepted
turn : (c : In-loop-j) → Accepted (single (given (goal.at.overflow_cast-nodes c).In_ok-check_many) c.loop-j.store c.loop-j.left (get_or c.args.subjects.now c.loop-j.j 0))
turn c =
    let γ = (both (goal.at.overflow_cast-nodes c).In_ok-check_many).0 in
    accepted-single ours γ c.loop-j.invariant.stands _ (γ.subjects _ c.loop-j-test.true)

pub overflow_cast-nodes : goal.overflow_cast-nodes
overflow_cast-nodes c = omega (arith, store-small _ (turn c))

pub opened-st-requires : goal.opened-st-requires
opened-st-requires c = (both (goal.at.opened-st-requires c).In_ok-check_many).0.bindings

pub run_accepted-r-requires : goal.run_accepted-r-requires
run_accepted-r-requires c =
    ready-plain (turn (goal.at.run_accepted-r-requires c).In-loop-j) c.load.ensures refl c.opened-st.ensures c.ranges.units.fits

pub put_five-requires : goal.put_five-requires
put_five-requires c =
    let γ = (both (goal.at.put_five-requires c).In_ok-check_many).0 in
    omega (arith, c.loop-j-test.true, c.loop-j.invariant.long, γ.results)

pub loop-j-preserved : goal.loop-j-preserved
loop-j-preserved c =
    let γ = (both (goal.at.loop-j-preserved c).In_ok-check_many).0 in
    let e =
    ended-plain (turn (goal.at.loop-j-preserved c).In-loop-j) c.load.ensures refl c.opened-st.ensures c.ranges.units.fits c.run_accepted-r.ensures in
    rw (c.put_five.ensures, c.numbers.ensures)
    (going_next ours γ _ _ _ _ c.loop-j.invariant c.loop-j-test.true _ _ e.numbers e.words)

pub returns : goal.returns
returns c =
    let k = (goal.at.returns c).In_ok-check_many in
    let G = c.loop-j.invariant in
    let some = eqb-false (length c.args.subjects.now) 0 (sym c.if-is_empty.ensures) in
    let last =
    going-last ours (both k).0 _ _ _ _ G (omega (arith, G.few, c.loop-j-test.false)) (omega (arith, some, G.few, c.loop-j-test.false)) in
    (λ z. many_at_return (checked 0 0) c.loop-j.results (c.clear_from.ensures z))
    ∙ sym last ∙ many-ran ours (lent k) (given k) (checked 0 0) (passed k) refl
