-- The promises of the contract of `run` where a signature is lent, proved: where the signature is obeyed it is the run without one.
use mathlib.Core.Path.{◌≡◌, refl, ap, sym, ◌∙◌, subst}
use mathlib.Core.Bool.{Bool, true, false, true≢false}
use mathlib.Core.Option.{Option, none, some}
use mathlib.Core.Logic.{◌≢◌, ◌⊎◌, inl, inr, ⊎_elim, ◌↔◌}
use mathlib.Core.List.{List}
use Prim.Native.Nat.{ℕ, ◌+◌, ◌*◌, ◌≤◌, ◌<◌}
use native.Mathlib.Omega.{arith}
use lib.Dec.{eqb}
use borrow.Author.Tests.{ne_eqb}
use Rattle.words.specs.Words.{cleared_from}
use Rattle.std.specs.Prelude.{if◌then◌else◌}
use Rattle.checks.specs.Checked.{Checked}
use Rattle.checks.specs.Good.{constructor_of, child_count}
use Rattle.checks.specs.Checked.{checked}
use Rattle.checks.specs.Signature.{Signature, declares, node_obeys}
use Rattle.checks.specs.Promises.{AllGood}
use Rattle.checks.proofs.Good.{faulty-within}
use Rattle.meaning.specs.Limits.{ended, lost, cut}
use Rattle.meaning.specs.Derivation.{places, nowhere}
use Rattle.meaning.specs.Store.{Input, AcceptedBy, Kept, ran_by, Ran}
use Rattle.meaning.specs.Answer.{Returned, returned_by}
use Rattle.meaning.proofs.Words.{kept_word}
use Rattle.meaning.proofs.Above as above
use Rattle.calls.specs.Refused.{refused_with_by}
use Rattle.calls.specs.Run.{at_return, refusing, run_with_by}
use Rattle.calls.specs.Promises.{Runs, Refusal, of-sizes, of_entry, of_node, of-start, InList, when-done, when-failed, when-refused as plain-refused, when-cut-off, when-unbound}
use Rattle.calls.specs.Signed as promises
use Rattle.calls.specs.Signed.{RunsSigned, Obeying, SignedRefusal, as-without, of-disobeying-entry, of-disobeying-node, SignedInList, listed-without, when-refused}
use Rattle.calls.specs.Outcome.{Outcome}
use Rattle.calls.proofs.Accepting as accepting
use Rattle.calls.proofs.Accepting.{verdict_with, accepted-with, not-refused-with}
use Rattle.calls.proofs.Promises as plain

module _ (W : ℕ) where
  pub agreeing : promises.Agreeing W
  agreeing g i o o' s s' b b' p q =
      let e : at_return o s b ≡ at_return o' s' b' = p ∙ sym q in (
        (λ j. record { answer = (e j).answer; place = (e j).place; subject = (e j).subject; mark = (e j).mark; units = (e j).units }),
        ap (λ (r : Returned). r.store) e,
        ap (λ (r : Returned). r.bindings) e,
      )

  -- ---- as without a signature

  obeyed : (g : List ℕ) (i : Input) → Obeying g i → accepting.Obeyed W (some g) i
  obeyed g i o = (o.signature, (o.entries, o.nodes))

  pub runs-as-without : promises.RunsAsWithout W
  unfolding run_with_by
  runs-as-without g i o s b ob p = p ∙ rw (accepting.as_none W (some g) i (obeyed g i ob))

  -- ---- refused, or run

  module _ (g : List ℕ) (i : Input) where
    turned-away : eqb (verdict_with W (some g) i).answer 0 ≡ false → run_with_by W (some g) i ≡ refusing i (verdict_with W (some g) i)
    unfolding run_with_by
    turned-away e = rw e

    -- the signature is obeyed and the input accepted, or the verdict is not 0
    judged : (Obeying g i × AcceptedBy W i) ⊎ (eqb (verdict_with W (some g) i).answer 0 ≡ false)
    judged = go (eqb (verdict_with W (some g) i).answer 0) refl
      where
        go : (b : Bool) → eqb (verdict_with W (some g) i).answer 0 ≡ b → (Obeying g i × AcceptedBy W i) ⊎ (eqb (verdict_with W (some g) i).answer 0 ≡ false)
        go true e = let (o, a) = accepted-with W (some g) i e in inl (record { signature = o.0; entries = o.1.0; nodes = o.1.1 }, a)
        go false e = inr e

  -- a refusal's answer is not 0, and no run's that was accepted
  refusal-some : (n : ℕ) → SignedRefusal n → 0 < n
  refusal-some n (as-without r) = go n r
    where
      go : (n : ℕ) → Refusal n → 0 < n
      go n of-sizes = omega arith
      go n (of_entry m k l) = omega arith
      go n of_node = omega arith
      go n of-start = omega arith
  refusal-some n of-disobeying-entry = omega arith
  refusal-some n of-disobeying-node = omega arith

  not-ten-eleven : (n : ℕ) → InList n → (n ≢ 10) × (n ≢ 11)
  not-ten-eleven n when-done = (λ e. omega arith, λ e. omega arith)
  not-ten-eleven n when-failed = (λ e. omega arith, λ e. omega arith)
  not-ten-eleven n (plain-refused m r) = go m r
    where
      go : (n : ℕ) → Refusal n → (n ≢ 10) × (n ≢ 11)
      go n of-sizes = (λ e. omega arith, λ e. omega arith)
      go n (of_entry m k l) = (λ e. omega arith, λ e. omega arith)
      go n of_node = (λ e. omega arith, λ e. omega arith)
      go n of-start = (λ e. omega arith, λ e. omega arith)
  not-ten-eleven n (when-cut-off m k l) = (λ e. omega arith, λ e. omega arith)
  not-ten-eleven n when-unbound = (λ e. omega arith, λ e. omega arith)

  module _ (g : List ℕ) (i : Input) (o : Outcome) (s b : List ℕ) (p : RunsSigned W g i o s b) where
    refused-came : eqb (verdict_with W (some g) i).answer 0 ≡ false → at_return o s b ≡ refusing i (verdict_with W (some g) i)
    refused-came e = p ∙ turned-away g i e

    refused-answer : eqb (verdict_with W (some g) i).answer 0 ≡ false → SignedRefusal o.answer
    refused-answer e = subst SignedRefusal (sym (ap (λ (r : Returned). r.answer) (refused-came e))) (accepting.refusal-with W (some g) i e)

    not-refusal : Obeying g i → AcceptedBy W i → SignedRefusal o.answer → ⊥
    not-refusal ob a r = go o.answer refl r
      where
        q : Runs W i o s b
        q = runs-as-without g i o s b ob p

        go : (n : ℕ) → o.answer ≡ n → SignedRefusal n → ⊥
        go n e (as-without r) = (plain.refuses W i o s b q).0 (subst Refusal (sym e) r) a
        go n e of-disobeying-entry = (not-ten-eleven o.answer (plain.listed_answer W i o s b q)).0 e
        go n e of-disobeying-node = (not-ten-eleven o.answer (plain.listed_answer W i o s b q)).1 e

    -- a refusal's answer and place are the verdict's
    by-verdict : (n k : ℕ) → SignedRefusal n → ((o.answer ≡ n) × (o.place ≡ k)) ↔ (verdict_with W (some g) i ≡ checked n k)
    by-verdict n k r = (
      λ e.
          ⊎_elim (λ z. absurd (not-refusal z.0 z.1 (subst SignedRefusal (sym e.0) r)))
          (λ z. let w : at_return o s b ≡ refusing i (verdict_with W (some g) i) = refused-came z in
          let x : (verdict_with W (some g) i).answer ≡ n = sym (ap (λ (r : Returned). r.answer) w) ∙ e.0 in
          let y : (verdict_with W (some g) i).place ≡ k = sym (ap (λ (r : Returned). r.place) w) ∙ e.1 in
          λ j. record { answer = x j; place = y j })
          (judged g i),
      λ e.
          let z : (verdict_with W (some g) i).answer ≡ n = ap (λ (c : Checked). c.answer) e in
          let w : at_return o s b ≡ refusing i (verdict_with W (some g) i) = refused-came (ne_eqb (verdict_with W (some g) i).answer 0 (λ h. omega (arith, z, h, refusal-some n r))) in
          (ap (λ (r : Returned). r.answer) w ∙ z, ap (λ (r : Returned). r.place) w ∙ ap (λ (c : Checked). c.place) e),
    )

    -- an answer that is given with the place 0 alone
    by_answer : (n : ℕ) {A : Type 0} → SignedRefusal n → ((k : ℕ) → (verdict_with W (some g) i ≡ checked n k) ↔ ((k ≡ 0) × A)) → (o.answer ≡ n) ↔ A
    by_answer n r f = (λ e. ((f o.place).0 ((by-verdict n o.place r).0 (e, refl))).1, λ a. ((by-verdict n 0 r).1 ((f 0).1 (refl, a))).0)

  pub listed : promises.Listed W
  listed g i o s b p =
      ⊎_elim (λ z. listed-without (plain.listed_answer W i o s b (runs-as-without g i o s b z.0 p))) (λ e. when-refused (refused-answer g i o s b p e)) (judged g i)

  pub refuses : promises.Refuses W
  refuses g i o s b p = (
    λ r ob a. not-refusal g i o s b p ob a r,
    λ n. ⊎_elim (λ z. absurd (n z.0 z.1)) (refused-answer g i o s b p) (judged g i),
  )

  pub writes_nothing : promises.WritesNothing W
  writes_nothing g i o s b p r =
      ⊎_elim (λ z. absurd (not-refusal g i o s b p z.0 z.1 r))
      (λ z. let e : at_return o s b ≡ refusing i (verdict_with W (some g) i) = refused-came g i o s b p z in
      (plain.as-given W i o s b e, ap (λ (r : Returned). r.store) e, ap (λ (r : Returned). r.units) e))
      (judged g i)

  -- ---- which refusal

  pub refuses-sizes : promises.RefusesSizes W
  refuses-sizes g i o s b p = by_answer g i o s b p 2 (as-without of-sizes) (accepting.refused-sizes W (some g) i)

  -- an answer above 12 is a refusal's
  above-twelve : (n : ℕ) → 12 < n → SignedInList n → SignedRefusal n
  above-twelve n l (when-refused r) = r
  above-twelve n l (listed-without x) = go n l x
    where
      go : (n : ℕ) → 12 < n → InList n → SignedRefusal n
      go n l when-done = absurd (omega arith)
      go n l when-failed = absurd (omega arith)
      go n l (plain-refused m r) = as-without r
      go n l (when-cut-off m h k) = absurd (omega arith)
      go n l when-unbound = absurd (omega arith)

  pub refuses-entry : promises.RefusesEntry W
  refuses-entry g i o s b n k l p = (
    λ e.
        let r : SignedRefusal n = subst SignedRefusal e.0 (above-twelve o.answer (omega (arith, e.0)) (listed g i o s b p)) in
        let f = (accepting.refused-entry W (some g) i n k l).0 ((by-verdict g i o s b p n k r).0 e) in
        (f.0.0, f.0.1, f.1.0, f.1.1),
    λ f.
        let w = faulty-within W i.table k n f.3 in
        (by-verdict g i o s b p n k (as-without (of_entry n w.0 w.1))).1 ((accepting.refused-entry W (some g) i n k l).1 ((f.0, f.1), (f.2, f.3))),
  )

  pub refuses-node : promises.RefusesNode W
  refuses-node g i o s b k p =
      let v = by-verdict g i o s b p 4 k (as-without of_node) in
      let w = accepting.refused-node W (some g) i k in
      (λ e. let f = w.0 (v.0 e) in (f.0.0, f.0.1, f.1.0, f.1.1), λ f. v.1 (w.1 ((f.0, f.1), (f.2, f.3))))

  pub refuses-disobeying-entry : promises.RefusesDisobeyingEntry W
  refuses-disobeying-entry g i o s b k p =
      let v = by-verdict g i o s b p 10 k of-disobeying-entry in
      let w = accepting.refused-ten W (some g) i k in
      (λ e. let f = w.0 (v.0 e) in (f.0.0, f.0.1, f.1.0, f.1.1.0, f.1.1.1.1), λ f. v.1 (w.1 ((f.0, f.1), (f.2, (f.3, (refl, f.4))))))

  pub refuses-disobeying-node : promises.RefusesDisobeyingNode W
  refuses-disobeying-node g i o s b k p =
      let v = by-verdict g i o s b p 11 k of-disobeying-node in
      let w = accepting.refused-eleven W (some g) i k in (
        λ e. let f = w.0 (v.0 e) in (f.0.0, f.0.1, f.1.0, f.1.1.0, f.1.1.1.0, f.1.1.1.1.1),
        λ f. v.1 (w.1 ((f.0, f.1), (f.2, (f.3, (f.4, (refl, f.5)))))),
      )

  pub refuses-start : promises.RefusesStart W
  refuses-start g i o s b p =
      by_answer g i o s b p 5 (as-without of-start) (λ k.
      let w = accepting.refused-start W (some g) i k in (
        λ e. let f = w.0 e in let h = f.1.1.1.1 in (h.1.0, (f.0.0, f.0.1, f.1.0, f.1.1.0, f.1.1.1.0, h.0, h.1.1)),
        λ y. let f = y.1 in w.1 ((f.0, f.1), (f.2, (f.3, (f.4, (f.5, (y.0, f.6)))))),
      ))

  pub no_place : promises.NoPlace W
  no_place g i o s b p f k l m n =
      ⊎_elim (λ z. plain.no_place W i o s b (runs-as-without g i o s b z.0 p) f k n)
      (λ z. let w : at_return o s b ≡ refusing i (verdict_with W (some g) i) = refused-came g i o s b p z in
      let x : o.answer ≡ (verdict_with W (some g) i).answer = ap (λ (r : Returned). r.answer) w in
      ap (λ (r : Returned). r.place) w ∙ accepting.placed-with W (some g) i (λ e. k (x ∙ e)) (λ e. l (x ∙ e)) (λ e. m (x ∙ e)) (omega (arith, x)))
      (judged g i)

  -- ---- what a run leaves

  pub kept-obeys : (g w w' : List ℕ) (m : ℕ) → Kept w m w' → AllGood (node_obeys g w) m → AllGood (node_obeys g w') m
  unfolding node_obeys
  kept-obeys g w w' m k f j l = rw (kept_word k j 0 l (omega arith), kept_word k j 1 l (omega arith)) (f j l)

  -- the nodes below the mark of what comes back obey
  returned-obeys : (g : List ℕ) (i : Input) → Obeying g i → AcceptedBy W i → (r : Ran ℕ) → ran_by W places nowhere i ≡ r → AllGood (node_obeys g (returned_by W i r).store) (returned_by W i r).mark
  unfolding returned_by
  returned-obeys g i ob a (ended k b s u) e =
      kept-obeys g s.words _ s.mark (plain.cleared-kept W s.words s.mark s.mark (omega arith))
      (above.obeyed W ℕ places nowhere i g a ob.entries ob.nodes k u b s e)
  returned-obeys g i ob a (lost w u) e = kept-obeys g i.store _ i.mark (subst (λ (r : Ran ℕ). Kept i.store i.mark (returned_by W i r).store) e (plain.ran-kept W i a)) ob.nodes
  returned-obeys g i ob a (cut c w u) e = kept-obeys g i.store _ i.mark (subst (λ (r : Ran ℕ). Kept i.store i.mark (returned_by W i r).store) e (plain.ran-kept W i a)) ob.nodes

  pub leaves-obeying : promises.LeavesObeying W
  leaves-obeying g i o s b p n =
      ⊎_elim (λ z. subst (λ (r : Returned). AllGood (node_obeys g r.store) r.mark) (sym (plain.came W i o s b (runs-as-without g i o s b z.0 p) z.1))
      (returned-obeys g i z.0 z.1 (ran_by W places nowhere i) refl))
      (λ e. absurd (n (refused-answer g i o s b p e))) (judged g i)
