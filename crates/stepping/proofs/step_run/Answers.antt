-- `step_run` meets its contract. Assumes nothing.
use Rattle.std.proofs.Common.{sym, refl, ◌∙◌, true≢false, arith}
use Rattle.stepping.specs.Stepping.{lists, bad-length, nothing-begun}
use Rattle.stepping.proofs.Concluding.{lengths-hold, lengths-lent, level-low, stop-is, stop-few, went-listed, step-goes}
use Rattle.stepping.proofs.step_run.Goals as goal

pub returns-then-not-lengths_fit : goal.returns-then-not-lengths_fit
returns-then-not-lengths_fit c =
    let no = sym c.lengths_fit.ensures ∙ c.if-not-lengths_fit.true in
    record {
      lengths = λ _. (refl, refl);
      zero = λ h. absurd (true≢false (sym h ∙ no));
      goes = λ i n a e h. absurd (true≢false (sym (lengths-hold i _ _ _ a e h) ∙ no));
      listed = bad-length;
    }

pub returns-then-word-eq0 : goal.returns-then-word-eq0
returns-then-word-eq0 c =
    let yes = sym c.lengths_fit.ensures ∙ c.if-not-lengths_fit.false in
    record {
      lengths = λ h. absurd (true≢false (sym yes ∙ h));
      zero = λ _ _. (refl, refl);
      goes = λ i n a e h. absurd (omega (arith, h.begun, sym c.word.ensures ∙ c.if-word-eq0.true));
      listed = nothing-begun;
    }

pub go-m-requires : goal.go-m-requires
go-m-requires c =
    let z = lengths-lent c.args.table.now (lists c.args.store.now c.args.bindings.now c.args.work.now)
    (sym c.lengths_fit.ensures ∙ c.if-not-lengths_fit.false) in
    let l = level-low c.args.work.now _ c.saved-a.ensures in
    (l.0, l.1, stop-few _ _ _ (c.saturating_sub-stop.ensures ∙ stop-is _ _), z.0)

pub conclude-requires : goal.conclude-requires
conclude-requires c =
    let z = lengths-lent c.args.table.now (lists c.args.store.now c.args.bindings.now c.args.work.now)
    (sym c.lengths_fit.ensures ∙ c.if-not-lengths_fit.false) in
    (z.1, (c.go-m.ensures.on refl).lent.frames)

pub returns : goal.returns
returns c =
    let yes = sym c.lengths_fit.ensures ∙ c.if-not-lengths_fit.false in
    record {
      lengths = λ h. absurd (true≢false (sym yes ∙ h));
      zero = λ _ z. absurd (c.if-word-eq0.false (c.word.ensures ∙ z));
      goes = λ i n a e h. step-goes i n c.args.visits (lists c.args.store.now c.args.bindings.now c.args.work.now) a h _ e _ c.saved-a.ensures _
          (c.saturating_sub-stop.ensures ∙ stop-is _ _) _ _ _ (c.go-m.ensures.on refl) _ _ _ _ c.conclude.ensures;
      listed = went-listed c.conclude.ensures;
    }
