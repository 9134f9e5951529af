-- The table that a run copies is the table that it was given, whatever is noted in it, and a checked one has what the engine
-- needs.
use mathlib.Core.Path.{◌≡◌, refl, ap, sym, ◌∙◌, subst}
use mathlib.Core.Logic.{◌≢◌, ◌⊎◌, ⊎_elim, inl, inr}
use mathlib.Core.List.{List, [], ◌∷◌}
use Prim.Native.Nat.{ℕ, ◌+◌, ◌-◌, ◌/◌, ◌≤◌, ◌<◌}
use native.Mathlib.Omega.{arith}
use lib.Dec.{eqb}
use lib.ListN.{length, get_or, get_or-eq_default}
use borrow.Author.Tests.{le-leb, lt-leb}
use Rattle.words.specs.Words.{word_at, rows}
use Rattle.words.proofs.Tests.{below-or-from}
use Rattle.checks.specs.Kinds.{ours, variables, lines, line_of, kind, highest_by, argument_words_by, operands_from_by, sort_of, takes}
use Rattle.checks.specs.Good.{kind_of, operand_count, argument_of, number, operand_by, good_entry}
use Rattle.checks.specs.Plain.{TableLength, Entry}
use Rattle.checks.specs.Checked.{Checked}
use Rattle.checks.specs.declared.kinds.Sort.{Sort}
use Rattle.checks.specs.declared.kinds.Sort.TheVariants.{Strategy, Pattern, Neither}
use Rattle.checks.specs.Checked.{checked, table_checked}
use Rattle.checks.specs.Promises.{AllGood}
use Rattle.checks.proofs.Good.{operand_count-six, operands-word, operand-word}
use Rattle.checks.proofs.Promises.{table_passes, entry_plain}
use Rattle.meaning.specs.Table.{table, table_by, by_kind, operands, PVAR, PCON}
use Rattle.meaning.proofs.Tests.{decided}
use Rattle.state.specs.Visits.{Entries}
use Rattle.state.specs.Visits as visits
use Rattle.leaves.proofs.Kind.{kind-is}
use Rattle.loading.specs.Loaded.{HasHead, MATCH, SEQ, SCOPE, Hints, given, choice, all, Loaded}

-- What holds at words 4 and 5 and at the other words holds at each.
by_word : (P : ℕ → Type 0) → ((j : ℕ) → (j < 4) ⊎ (5 < j) → P j) → P 4 → P 5 → (j : ℕ) → P j
by_word P f p q j =
    ⊎_elim (λ z. f j (inl z)) (λ z. ⊎_elim (λ y. let h : 4 ≡ j = omega arith in subst P h p) (λ y. five y) (below-or-from j 5))
    (below-or-from j 4)
  where
    five : 5 ≤ j → P j
    five y = ⊎_elim (λ x. let h : 5 ≡ j = omega arith in subst P h q) (λ x. f j (inr (omega arith))) (below-or-from j 6)

-- what a strategy would be as a pattern does not depend on its operands
pattern-below : (t : List ℕ) (e k : ℕ) → kind_of t e ≡ k → k < 18 → (table t).patterns e ≡ PVAR (argument_of t e)
unfolding table_by
pattern-below t e k h l =
    let z : kind_of t e - 18 ≡ 0 = omega arith in
    ap (λ (k : ℕ). get_or (PVAR (argument_of t e) ∷ PCON (argument_of t e) (operands t e) ∷ []) k (PVAR 0)) z

-- entries of the same eight words
module _ (t c : List ℕ) (e : ℕ) (f : (j : ℕ) → j < 8 → word_at c e j ≡ word_at t e j) where
  operands-alike : operands c e ≡ operands t e
  operands-alike =
      rw (f 0 (omega arith), f 2 (omega arith), f 3 (omega arith))
      (rw (f 4 (omega arith), f 5 (omega arith), f 6 (omega arith), f 7 (omega arith)))

  alike-strategy : (table c).strategies e ≡ (table t).strategies e
  unfolding table_by number
  alike-strategy = rw (operands-alike, f 0 (omega arith), f 1 (omega arith), f 2 (omega arith), f 3 (omega arith))

  alike-pattern : (table c).patterns e ≡ (table t).patterns e
  unfolding table_by
  alike-pattern = rw (operands-alike, f 0 (omega arith), f 1 (omega arith))

module _ {t c : List ℕ} (l : Loaded t c) where
  -- the first four words are the table's
  pub word_same : (e j : ℕ) → j < 4 → word_at c e j ≡ word_at t e j
  word_same e j m = l.same e j (omega arith) (inl m)

  pub kind-same : (e : ℕ) → kind_of c e ≡ kind_of t e
  kind-same e = ap (λ (w : ℕ). w / 16) (word_same e 0 (omega arith))

  -- and so is the first operand's kind
  pub kind-of-first : (e : ℕ) → kind_of c (word_at c e 2) ≡ kind_of t (word_at t e 2)
  kind-of-first e = kind-same (word_at c e 2) ∙ ap (λ (q : ℕ). kind_of t q) (word_same e 2 (omega arith))

  -- all eight are, where words 4 and 5 are
  all_same : (e : ℕ) → word_at c e 4 ≡ word_at t e 4 → word_at c e 5 ≡ word_at t e 5 → (j : ℕ) → j < 8 → word_at c e j ≡ word_at t e j
  all_same e p q = by_word (λ j. j < 8 → word_at c e j ≡ word_at t e j) (λ j b m. l.same e j m b) (λ m. p) (λ m. q)

  strategy-same : (e : ℕ) → (table c).strategies e ≡ (table t).strategies e
  unfolding by_kind
  strategy-same e = go (l.hints e)
    where
      x : word_at c e 2 ≡ word_at t e 2
      x = word_same e 2 (omega arith)

      y : word_at c e 3 ≡ word_at t e 3
      y = word_same e 3 (omega arith)

      go : Hints t e (word_at c e 4) (word_at c e 5) → (table c).strategies e ≡ (table t).strategies e
      go (given p q) = alike-strategy t c e (all_same e p q)
      go (choice (inl k) n b) = kind-is c e 5 (kind-same e ∙ k) ∙ (rw (x, y)) ∙ sym (kind-is t e 5 k)
      go (choice (inr k) n b) = kind-is c e 6 (kind-same e ∙ k) ∙ (rw (x, y)) ∙ sym (kind-is t e 6 k)
      go (all (inl k) b) = kind-is c e 11 (kind-same e ∙ k) ∙ (rw x) ∙ sym (kind-is t e 11 k)
      go (all (inr (inl k)) b) = kind-is c e 12 (kind-same e ∙ k) ∙ (rw x) ∙ sym (kind-is t e 12 k)
      go (all (inr (inr k)) b) = kind-is c e 13 (kind-same e ∙ k) ∙ (rw x) ∙ sym (kind-is t e 13 k)

  pattern-same : (e : ℕ) → (table c).patterns e ≡ (table t).patterns e
  pattern-same e = go (l.hints e)
    where
      below : (k : ℕ) → kind_of t e ≡ k → k < 18 → (table c).patterns e ≡ (table t).patterns e
      below k h m = pattern-below c e k (kind-same e ∙ h) m ∙ ap PVAR (word_same e 1 (omega arith)) ∙ sym (pattern-below t e k h m)

      go : Hints t e (word_at c e 4) (word_at c e 5) → (table c).patterns e ≡ (table t).patterns e
      go (given p q) = alike-pattern t c e (all_same e p q)
      go (choice (inl k) n b) = below 5 k (omega arith)
      go (choice (inr k) n b) = below 6 k (omega arith)
      go (all (inl k) b) = below 11 k (omega arith)
      go (all (inr (inl k)) b) = below 12 k (omega arith)
      go (all (inr (inr k)) b) = below 13 k (omega arith)

  pub table-loaded : table c ≡ table t
  unfolding table_by
  table-loaded i = record { strategies = λ e. strategy-same e i; patterns = λ e. pattern-same e i }

-- what a pattern's sort says of its kind
pattern-kind : (k : ℕ) → sort_of k ≡ Pattern → (k ≡ 18) ⊎ (k ≡ 19)
unfolding sort_of
pattern-kind k e = ⊎_elim (λ l. absurd (low l)) (λ l. ⊎_elim (λ m. high l m) (λ m. absurd (above m)) (below-or-from k 20)) (below-or-from k 18)
  where
    low : k < 18 → ⊥
    low l = let z : ◌≡◌ {A = Sort} Strategy Pattern = sym (rw (le-leb k 17 (omega arith))) ∙ e in let y : ◌≡◌ {A = ℕ} 0 1 = cc in omega arith

    high : 18 ≤ k → k < 20 → (k ≡ 18) ⊎ (k ≡ 19)
    high l m = ⊎_elim (λ h. inl (omega arith)) (λ h. inr (omega arith)) (below-or-from k 19)

    above : 20 ≤ k → ⊥
    above l = let z : ◌≡◌ {A = Sort} Neither Pattern = sym (rw (lt-leb k 17 (omega arith), lt-leb k 19 (omega arith))) ∙ e in let y : ◌≡◌ {A = ℕ} 0 1 = cc in omega arith

module _ (t : List ℕ) (c : table_checked t ≡ checked 0 0) where
  passes : TableLength (length t) × AllGood (good_entry t) (rows t)
  passes = (table_passes ours t).0 (ap (λ (c : Checked). c.answer) c)

  plain : (e : ℕ) → e < rows t → Entry t e
  plain e l = (entry_plain ours t e).0 (passes.1 e l)

  -- past the last entry every word is zero
  past : (e j : ℕ) → rows t ≤ e → word_at t e j ≡ 0
  past e j l = get_or-eq_default t 0 (omega (arith, passes.0.whole))

  short : rows t ≤ 4096
  short = omega (arith, passes.0.most)

  -- a kind that is not 0 is inside the table
  inside : (e k : ℕ) → kind_of t e ≡ k → 0 < k → e < rows t
  inside e k q l = ⊎_elim (λ z. z) (λ z. absurd (omega (arith, past e 0 z))) (below-or-from e (rows t))

  -- an operand, or a word after the last, is small
  facts-operand : (e j : ℕ) → operands_from_by ours (kind_of t e) ≤ j → j < 8 → word_at t e j < 4096
  facts-operand e j f l = ⊎_elim here (λ z. omega (arith, past e j z)) (below-or-from e (rows t))
    where
      here : e < rows t → word_at t e j < 4096
      here z =
          let s : operands_from_by ours (kind_of t e) + (j - operands_from_by ours (kind_of t e)) ≡ j = omega arith in
          ⊎_elim
          (λ m. let o : word_at t e j < rows t = subst (λ (j : ℕ). word_at t e j < rows t) s ((plain e z).placed.inside _ m) in omega (arith, short))
          (λ m. omega (arith, (plain e z).unused.zero j (omega arith) l))
          (below-or-from (j - operands_from_by ours (kind_of t e)) (operand_count t e))

  -- where the operands begin: at word 2, but a SCOPE's at word 3
  from-two : (e k : ℕ) → kind_of t e ≡ k → k ≢ 16 → operands_from_by ours (kind_of t e) ≡ 2
  from-two e k q n = operands-word ours t e (λ z. n (sym q ∙ z))

  from-three : (k : ℕ) → operands_from_by ours k ≤ 3
  from-three k = decided (eqb k 16) (λ h. rw h (omega arith)) (λ h. rw h (omega arith))

  pub facts-second : (e k : ℕ) → kind_of t e ≡ k → k ≢ 16 → word_at t e 2 < 4096
  facts-second e k q n = facts-operand e 2 (omega (arith, from-two e k q n)) (omega arith)

  pub facts-scope : (e : ℕ) → word_at t e (1 + ours) < 4096
  facts-scope e = facts-operand e 3 (from-three (kind_of t e)) (omega arith)

  facts-few : (e : ℕ) → operand_count t e ≤ 6
  facts-few e = ⊎_elim (λ z. operand_count-six ours t e (plain e z)) (λ z. omega (arith, past e 0 z)) (below-or-from e (rows t))

  facts-variable : (e : ℕ) → kind_of t e ≡ 18 → argument_of t e < variables
  unfolding number kind line_of lines
  facts-variable e q =
      let h : argument_of t e ≤ variables - 1 = subst (λ k. number t e (argument_words_by ours k) 1 ≤ highest_by ours (kind k).argument) q (plain e (inside e 18 q (omega arith))).argued.high in
      omega arith

  facts-constructor : (e : ℕ) → kind_of t e ≡ 19 → argument_of t e ≤ 65535
  unfolding number kind line_of lines
  facts-constructor e q = subst (λ k. number t e (argument_words_by ours k) 1 ≤ highest_by ours (kind k).argument) q (plain e (inside e 19 q (omega arith))).argued.high

  -- an operand of an entry that takes patterns
  taken : (e k i : ℕ) → kind_of t e ≡ k → k ≢ 16 → 8 < k → takes k ≡ Pattern → i < operand_count t e → visits.Pattern t (word_at t e (2 + i))
  taken e k i q n l s m =
      subst (λ o. visits.Pattern t o) (operand-word ours t e (λ z. n (sym q ∙ z)) i)
      (pattern-kind (kind_of t (operand_by ours t e i)) ((plain e (inside e k q (omega arith))).sorted.sorted (λ z. omega arith) i m ∙ ap takes q ∙ s))

  first : (e k : ℕ) → kind_of t e ≡ k → 0 < k → 1 ≤ (kind k).least → 0 < operand_count t e
  first e k q l m = let h : (kind k).least ≤ operand_count t e = subst (λ k. (kind k).least ≤ operand_count t e) q (plain e (inside e k q l)).counted.least in omega arith

  -- its first operand
  facts-first : (e k : ℕ) → kind_of t e ≡ k → k ≢ 16 → 8 < k → takes k ≡ Pattern → 1 ≤ (kind k).least → visits.Pattern t (word_at t e 2)
  facts-first e k q n l s m = taken e k 0 q n l s (first e k q (omega arith) m)

  -- an entry of at most two operands does not use word 5
  pub five-unused : (e k : ℕ) → kind_of t e ≡ k → k ≢ 16 → 0 < k → (kind k).most ≤ 2 → word_at t e 5 ≡ 0
  five-unused e k q n l m =
      let g : operand_count t e ≤ (kind k).most = subst (λ k. operand_count t e ≤ (kind k).most) q (plain e (inside e k q l)).counted.most in
      (plain e (inside e k q l)).unused.zero 5 (omega (arith, from-two e k q n)) (omega arith)

  -- what may be noted is small
  head_small : {p q n : ℕ} → HasHead t p q n → p < 4096
  head_small (MATCH q h e g) = rw e (facts-second q 14 h (λ z. omega arith))
  head_small (SEQ q n h b) = head_small b
  head_small (SCOPE q n h b) = head_small b

  hints-small : {e x n : ℕ} → Hints t e x n → (x < 4096) × (n < 4096)
  hints-small {e} (given p q) =
      let f = from-three (kind_of t e) in
      (rw p (facts-operand e 4 (omega arith) (omega arith)), rw q (facts-operand e 5 (omega arith) (omega arith)))
  hints-small (choice k n b) = (head_small b, omega arith)
  hints-small (all k b) = (rw b.body (facts-second _ 7 b.called (λ z. omega arith)), omega (arith, b.visits))

module _ {t c : List ℕ} (h : table_checked t ≡ checked 0 0) (l : Loaded t c) where
  operand_small : (e j : ℕ) → operands_from_by ours (kind_of c e) ≤ j → j < 8 → word_at c e j < 4096
  operand_small e j f m =
      by_word (λ j. j < 8 → word_at t e j < 4096 → word_at c e j < 4096) (λ j b k z. rw (l.same e j k b) z)
      (λ k z. (hints-small t h (l.hints e)).0)
      (λ k z. (hints-small t h (l.hints e)).1)
      j m (facts-operand t h e j (rw (kind-same l e) at f) m)

  pub entries-loaded : Entries c
  unfolding kind line_of lines takes
  entries-loaded = record {
    long = l.long;
    operand = λ e j m f n. operand_small e j f n;
    few = λ e m. rw (word_same l e 0 (omega arith)) (facts-few t h e);
    variable = λ e m q. rw (word_same l e 1 (omega arith)) (facts-variable t h e (sym (kind-same l e) ∙ q));
    constructor = λ e m q. rw (word_same l e 1 (omega arith)) (facts-constructor t h e (sym (kind-same l e) ∙ q));
    matched = λ e m q. rw (kind-of-first l e) (facts-first t h e 14 (sym (kind-same l e) ∙ q) (λ z. omega arith) (omega arith) refl (omega arith));
    built = λ e m q. rw (kind-of-first l e) (facts-first t h e 15 (sym (kind-same l e) ∙ q) (λ z. omega arith) (omega arith) refl (omega arith));
    parts = λ e i m q n. part e i (sym (kind-same l e) ∙ q) (rw (word_same l e 0 (omega arith)) at n) (l.hints e);
  }
    where
      -- nothing is noted in a PCON
      part : (e i : ℕ) → kind_of t e ≡ 19 → i < operand_count t e → Hints t e (word_at c e 4) (word_at c e 5) → visits.Pattern c (word_at c e (2 + i))
      part e i q n (given x y) =
          rw (all_same l e x y (2 + i) (omega (arith, facts-few t h e)), kind-same l (word_at t e (2 + i)))
          (taken t h e 19 i q (λ z. omega arith) (omega arith) refl n)
      part e i q n (choice (inl k) m b) = absurd (omega arith)
      part e i q n (choice (inr k) m b) = absurd (omega arith)
      part e i q n (all (inl k) b) = absurd (omega arith)
      part e i q n (all (inr (inl k)) b) = absurd (omega arith)
      part e i q n (all (inr (inr k)) b) = absurd (omega arith)
