-- Every visit of an accepted run is fair: an entry that is applied lies inside the table and is a strategy, and where a pattern is met, it
-- is one. The rules hand it on, by the table's check. Assumes nothing.
use mathlib.Core.Path.{◌≡◌, refl, ap, sym, ◌∙◌, subst}
use mathlib.Core.Bool.{Bool, true, false}
use mathlib.Core.Option.{Option, none, some}
use mathlib.Core.List.{List, [], ◌∷◌, ◌++◌, map}
use mathlib.Core.Logic.{◌⊎◌, inl, inr, ⊎_elim}
use Prim.Native.Nat.{ℕ, zero, suc, ◌+◌, ◌-◌, ◌<◌, ◌≤◌}
use native.Mathlib.Omega.{arith}
use borrow.Author.Tests.{le-leb, lt-leb, eqb-true, eqb-false}
use lib.Dec.{eqb}
use lib.ListN.{length, get_or, take}
use Rattle.words.specs.Words.{word_at, rows}
use Rattle.words.proofs.Tests.{below-or-from}
use Rattle.checks.specs.Kinds.{ours, kind, lines, line_of, sort_of, takes, highest_by, argument_words_by, operands_from_by}
use Rattle.checks.specs.Good.{kind_of, operand_count, argument_of, number, mask_by, good_entry_by}
use Rattle.checks.specs.Plain.{TableLength, EntryBy}
use Rattle.checks.specs.Checked.{Checked}
use Rattle.checks.specs.declared.kinds.Sort.{Sort}
use Rattle.checks.specs.declared.kinds.Sort.TheVariants.{Strategy, Pattern, Neither}
use Rattle.checks.specs.Checked.{checked, table_checked_by}
use Rattle.checks.proofs.Promises.{table_passes, entry_plain}
use Rattle.meaning.specs.Bindings.{Bindings}
use Rattle.meaning.specs.Derivation.{history, nowhere}
use Rattle.meaning.specs.Table as tables
use Rattle.meaning.specs.Table.{table, table_by, by_kind, operands, six, PVAR, PCON}
use Rattle.meaning.specs.Plan.{ret, fail, miss, stuck, look, make, ask}
use Rattle.meaning.specs.Rules.{Visit, apply, match, build, compare, Do, does, strategy, matching, building, comparing, variable, needed}
use Rattle.meaning.specs.Rules.{when, when_at, given, walk, again, one_of, some_of, zip, nth, put}
use Rattle.meaning.specs.Limits.{Res, ended, lost, cut, Store, closed}
use Rattle.meaning.specs.Steps.{Frame as Level, Next, over, next, roomy, advance, onto, settle, enter, one, steps, start}
use Rattle.meaning.specs.Store.{Input, Accepted, bindings, deepest, on}
use Rattle.meaning.specs.Shared.{store_by}
use Rattle.meaning.proofs.Checked.{inside}
use Rattle.meaning.proofs.Tests.{impossible}
use Rattle.meaning.proofs.Words.{six-at}
use Rattle.turns.specs.Ways.{Fit, Applied, FairVisit}
use Rattle.machine.specs.Stack.{Fair, Run}

module _ {S L : Type 0} (M : Store ℕ (Visit ℕ) S L) (R : Visit ℕ → Do ℕ) (Asked : Visit ℕ → Type 0) where
  -- a plan that asks for such visits alone, whatever it sees
  unfoldable pub Fine : Do ℕ → Type 0
  Fine (ret h b) = Unit {0}
  Fine fail = Unit {0}
  Fine (miss p) = Unit {0}
  Fine (stuck v) = Unit {0}
  Fine (look h k) = (c : ℕ) (hs : List ℕ) → Fine (k c hs)
  Fine (make c hs k) = (n : ℕ) → Fine (k n)
  Fine (ask t q k p) = Asked q × ((h : ℕ) (b : Bindings ℕ) → Fine (k h b)) × Fine p

  abbrev Waits : Level ℕ (Bindings ℕ) (Visit ℕ) S → Type 0
  Waits f = ((h : ℕ) (b : Bindings ℕ) → Fine (f.yes h b)) × Fine f.no

  abbrev All : List (Level ℕ (Bindings ℕ) (Visit ℕ) S) → Type 0
  All [] = Unit {0}
  All (f ∷ fs) = Waits f × All fs

  -- the next visit is such a one, and what waits asks for such visits alone
  abbrev Holds : Next ℕ (Bindings ℕ) (Visit ℕ) S L → Type 0
  Holds (over r) = Unit {0}
  Holds (next s u f fs) = Asked f.visit × All (f ∷ fs)

  module _ (rules : (q : Visit ℕ) → Asked q → Fine (R q)) where
    room-holds : (c : Bool) (r : Res ℕ (Bindings ℕ) S L) (X : Next ℕ (Bindings ℕ) (Visit ℕ) S L) → Holds X → Holds (roomy c (over r) X)
    unfolding roomy
    room-holds true r X h = tt
    room-holds false r X h = h

    advance-holds : (fs : List (Level ℕ (Bindings ℕ) (Visit ℕ) S)) → ((r : Res ℕ (Bindings ℕ) S L) → Holds (settle M R fs r)) → All fs → (n
        : ℕ) (p : Do ℕ) (s : S) (u : ℕ) → Fine p → Holds (advance M R (settle M R fs) n fs p s u)
    unfolding advance Fine
    advance-holds fs z a n (ret h b) s u f = z _
    advance-holds fs z a n fail s u f = z _
    advance-holds fs z a n (miss p) s u f = z _
    advance-holds fs z a n (stuck v) s u f = tt
    advance-holds fs z a n (look h k) s u f = advance-holds fs z a n (k _ _) s u (f _ _)
    advance-holds fs z a n (make c hs k) s u f = room-holds (M.full s c hs) _ _ (advance-holds fs z a n (k _) _ u (f _))
    advance-holds fs z a n (ask w q k p) s u f = (f.0, ((f.1, f.2), a))

    settle-holds : (fs : List (Level ℕ (Bindings ℕ) (Visit ℕ) S)) → All fs → (r : Res ℕ (Bindings ℕ) S L) → Holds (settle M R fs r)
    unfolding settle onto closed
    settle-holds [] a r = tt
    settle-holds (f ∷ fs) a (ended h b s u) = advance-holds fs (settle-holds fs a.1) a.1 f.left _ _ u (a.0.0 h b)
    settle-holds (f ∷ fs) a (lost l u) = advance-holds fs (settle-holds fs a.1) a.1 f.left _ _ u a.0.1
    settle-holds (f ∷ fs) a (cut c l u) = tt

    enter-holds : (n : ℕ) (s : S) (u : ℕ) (f : Level ℕ (Bindings ℕ) (Visit ℕ) S) (fs : List (Level ℕ (Bindings ℕ) (Visit ℕ) S)) → Asked f.visit → All (f ∷ fs) → Holds (enter M R n s u f fs)
    unfolding enter
    enter-holds n s zero f fs v a = tt
    enter-holds zero s (suc u) f fs v a = tt
    enter-holds (suc n) s (suc u) f fs v a = advance-holds (f ∷ fs) (settle-holds (f ∷ fs) a) a n (R f.visit) _ u (rules f.visit v)

    one_holds : (X : Next ℕ (Bindings ℕ) (Visit ℕ) S L) → Holds X → Holds (one M R X)
    unfolding one
    one_holds (over r) h = tt
    one_holds (next s u f fs) h = enter-holds f.left s u f fs h.0 h.1

    steps-holds : (n : ℕ) (X : Next ℕ (Bindings ℕ) (Visit ℕ) S L) → Holds X → Holds (steps M R n X)
    unfolding steps
    steps-holds zero X h = h
    steps-holds (suc n) X h = steps-holds n (one M R X) (one_holds X h)

-- ---- what the rules ask for

-- each of these is such
abbrev Each : (ℕ → Type 0) → List ℕ → Type 0
Each P [] = Unit {0}
Each P (x ∷ xs) = P x × Each P xs

each-taken : (P : ℕ → Type 0) (n : ℕ) (xs : List ℕ) → ((i : ℕ) → i < n → i < length xs → P (get_or xs i 0)) → Each P (take n xs)
each-taken P zero xs f = tt
each-taken P (suc n) [] f = tt
each-taken P (suc n) (x ∷ xs) f = (f 0 (omega arith) (omega arith), each-taken P n xs (λ i l m. f (suc i) (omega arith) (omega arith)))

each-operand : (t : List ℕ) (x : ℕ) (P : ℕ → Type 0) → ((i : ℕ) → i < operand_count t x → P (word_at t x (2 + i))) → Each P (operands t x)
each-operand t x P f = each-taken P (operand_count t x) (six t x) (λ i l m. subst P (sym (six-at t x i m)) (f i l))

module _ (sh : Bool) (t : List ℕ) where
  abbrev Good : Do ℕ → Type 0
  Good p = Fine (store_by sh history) (does (table t)) (FairVisit t) p

  -- visits of which each is fair
  abbrev Fairs : List (Bindings ℕ → Visit ℕ) → Type 0
  Fairs [] = Unit {0}
  Fairs (q ∷ qs) = ((b : Bindings ℕ) → FairVisit t (q b)) × Fairs qs

  again-good : (h c : ℕ) (hs : List ℕ) (b : Bindings ℕ) → Good (again h c hs b)
  unfolding again Fine
  again-good h c [] b = tt
  again-good h c (g ∷ gs) b = λ n. tt

  walk-good : (qs : List (Bindings ℕ → Visit ℕ)) (gs : List ℕ) (b : Bindings ℕ) (k : List ℕ → Bindings ℕ → Do ℕ) → Fairs qs → ((gs : List
      ℕ) (b : Bindings ℕ) → Good (k gs b)) → Good (walk qs gs b k)
  unfolding walk Fine
  walk-good [] gs b k f g = g gs b
  walk-good (q ∷ qs) gs b k f g = (f.0 b, (λ h c. walk-good qs (gs ++ (h ∷ [])) c k f.1 g), tt)

  one-good : (x : ℕ) (gs hs : List ℕ) (b : Bindings ℕ) (k : List ℕ → Bindings ℕ → Do ℕ) → Applied t x
      → ((gs : List ℕ) (b : Bindings ℕ) → Good (k gs b)) → Good (one_of x gs hs b k)
  unfolding one_of Fine
  one-good x gs [] b k l g = tt
  one-good x gs (h ∷ hs) b k l g = (l, (λ h' c. g _ c), one-good x (gs ++ (h ∷ [])) hs b k l g)

  when-good : (c : Bool) (p : Do ℕ) → Good p → Good (when c p)
  unfolding when Fine
  when-good true p g = g
  when-good false p g = tt

  when_at-good : (n : ℕ) (c : Bool) (p : Do ℕ) → Good p → Good (when_at n c p)
  unfolding when_at Fine
  when_at-good n true p g = g
  when_at-good n false p g = tt

  some_good : (x : ℕ) (s : Bool) (gs hs : List ℕ) (b : Bindings ℕ) (k : List ℕ → Bindings ℕ → Do ℕ) → Applied t x
      → ((gs : List ℕ) (b : Bindings ℕ) → Good (k gs b)) → Good (some_of x s gs hs b k)
  unfolding some_of Fine
  some_good x s gs [] b k l g = when-good s (k gs b) (g gs b)
  some_good x s gs (h ∷ hs) b k l g =
      (l, (λ h' c. some_good x true (gs ++ (h' ∷ [])) hs c k l g), some_good x s (gs ++ (h ∷ [])) hs b k l g)

  given-good : (o : Option ℕ) (k : ℕ → Do ℕ) → ((g : ℕ) → Good (k g)) → Good (given o k)
  unfolding given Fine
  given-good none k f = tt
  given-good (some g) k f = f g

  -- entries that may be applied, and patterns that are such
  abbrev Insides : List ℕ → Type 0
  Insides = Each (Applied t)

  abbrev Fits : List ℕ → Type 0
  Fits = Each (Fit t)

  applied : (xs hs : List ℕ) → Insides xs → Fairs (zip apply xs hs)
  unfolding zip
  applied [] hs i = tt
  applied (x ∷ xs) [] i = tt
  applied (x ∷ xs) (h ∷ hs) i = ((λ b. i.0), applied xs hs i.1)

  all-applied : (x : ℕ) (hs : List ℕ) → Applied t x → Fairs (map (apply x) hs)
  all-applied x [] l = tt
  all-applied x (h ∷ hs) l = ((λ b. l), all-applied x hs l)

  compared : (gs hs : List ℕ) → Fairs (zip compare gs hs)
  unfolding zip
  compared [] hs = tt
  compared (x ∷ xs) [] = tt
  compared (x ∷ xs) (h ∷ hs) = ((λ b. tt), compared xs hs)

  matched : (ps hs : List ℕ) → Fits ps → Fairs (zip match ps hs)
  unfolding zip
  matched [] hs f = tt
  matched (p ∷ ps) [] f = tt
  matched (p ∷ ps) (h ∷ hs) f = ((λ b. f.0), matched ps hs f.1)

  built : (h : ℕ) (ps : List ℕ) → Fits ps → Fairs (map (λ p. build p h) ps)
  built h [] f = tt
  built h (p ∷ ps) f = ((λ b. f.0), built h ps f.1)

  pattern-met : (p : ℕ) (s : tables.Pattern) (h : ℕ) (b : Bindings ℕ) → ((c : ℕ) (ps : List ℕ) → s ≡ PCON c ps → Fits ps) → Good (matching
      p s h b)
  unfolding matching variable Fine
  pattern-met p (PVAR v) h b f = go (b v)
    where
      go : (o : Option ℕ) → Good (variable p o v h b)
      go none = tt
      go (some g) = (tt, (λ h c. tt), tt)
  pattern-met p (PCON c ps) h b f = λ d hs. when_at-good p _ _ (walk-good (zip match ps hs) [] b _ (matched ps hs (f c ps refl)) (λ gs b.
      tt))

  pattern-built : (s : tables.Pattern) (h : ℕ) (b : Bindings ℕ) → ((c : ℕ) (ps : List ℕ) → s ≡ PCON c ps → Fits ps) → Good (building s h b)
  unfolding building needed Fine
  pattern-built (PVAR v) h b f = go (b v)
    where
      go : (o : Option ℕ) → Good (needed v o (λ g. ret g b))
      go none = tt
      go (some g) = tt
  pattern-built (PCON c ps) h b f = walk-good (map (λ p. build p h) ps) [] b _ (built h ps (f c ps refl)) (λ gs b. λ n. tt)

  -- ---- by the table's check

  module _ (passed : table_checked_by ours t ≡ checked 0 0) where
    passes : TableLength (length t) × ((e : ℕ) → e < rows t → good_entry_by ours t e ≡ true)
    passes = (table_passes ours t).0 (ap (λ (c : Checked). c.answer) passed)

    entry-inside : (e : ℕ) → e < rows t → EntryBy ours t e
    entry-inside e l = (entry_plain ours t e).0 (passes.1 e l)

    good-entry : (e : ℕ) → 0 < kind_of t e → EntryBy ours t e
    good-entry e l = entry-inside e (inside t e passes.0.whole (omega arith))

    pattern-kind : (k : ℕ) → sort_of k ≡ Pattern → (k ≡ 19 → ⊥) → k ≡ 18
    unfolding sort_of
    pattern-kind k s n = ⊎_elim (λ l. absurd (strategy-no k l s)) (λ l. ⊎_elim (λ h. ⊎_elim (λ g. omega arith) (λ g. absurd (n (omega
        arith))) (below-or-from k 19)) (λ h. absurd (neither-no k h s)) (below-or-from k 20)) (below-or-from k 18)
      where
        tell : Sort → ℕ
        tell Strategy = 0
        tell Pattern = 1
        tell Neither = 2

        strategy-no : (k : ℕ) → k < 18 → sort_of k ≡ Pattern → ⊥
        strategy-no k l e = let z : sort_of k ≡ Strategy = rw (le-leb k 17 (omega arith)) refl in omega (arith, ap tell (sym z ∙ e))

        neither-no : (k : ℕ) → 20 ≤ k → sort_of k ≡ Pattern → ⊥
        neither-no k l e = let z : sort_of k ≡ Neither = rw (lt-leb k 17 (omega arith), lt-leb k 19 (omega arith)) refl in omega (
          arith,
          ap
              tell (sym z ∙ e),
        )

    fit : (p : ℕ) → sort_of (kind_of t p) ≡ Pattern → Fit t p
    unfolding number kind line_of lines
    fit p s = record {
      is = pattern-kind (kind_of t p) s;
      variable = λ k. let g = good-entry p (omega arith) in
          let h : argument_of t p ≤ 63 = subst (λ k. number t p (argument_words_by ours k) 1 ≤ highest_by ours (kind k).argument) k g.argued.high in
          omega arith;
    }

    -- the pattern of a MATCH or a BUILD
    fit-operand : (x k : ℕ) → kind_of t x ≡ k → (k ≡ 14) ⊎ (k ≡ 15) → Fit t (word_at t x 2)
    unfolding kind line_of lines takes
    fit-operand x k e h =
        let g = good-entry x (⊎_elim (λ z. omega arith) (λ z. omega arith) h) in
        fit (word_at t x 2) (⊎_elim
        (λ z. let q : kind_of t x ≡ 14 = e ∙ z in
        let c : 1 ≤ operand_count t x = subst (λ k. (kind k).least ≤ operand_count t x) q g.counted.least in
        subst (λ k. sort_of (kind_of t (word_at t x (operands_from_by ours k + 0))) ≡ takes k) q (g.sorted.sorted (λ (y : kind_of t x ≡ 8).
        omega arith) 0 c))
        (λ z. let q : kind_of t x ≡ 15 = e ∙ z in
        let c : 1 ≤ operand_count t x = subst (λ k. (kind k).least ≤ operand_count t x) q g.counted.least in
        subst (λ k. sort_of (kind_of t (word_at t x (operands_from_by ours k + 0))) ≡ takes k) q (g.sorted.sorted (λ (y : kind_of t x ≡ 8).
        omega arith) 0 c))
        h)

    -- the patterns of a PCON
    fit-part : (p i : ℕ) → kind_of t p ≡ 19 → i < operand_count t p → Fit t (word_at t p (2 + i))
    unfolding takes
    fit-part p i k l =
        let g = good-entry p (omega arith) in
        fit (word_at t p (2 + i)) (subst (λ k. sort_of (kind_of t (word_at t p (operands_from_by ours k + i))) ≡ takes k) k (g.sorted.sorted (λ
        (y : kind_of t p ≡ 8). omega arith) i l))

    fit_parts : (p : ℕ) → kind_of t p ≡ 19 → Fits (operands t p)
    fit_parts p k = each-operand t p (Fit t) (λ i l. fit-part p i k l)

    parts-of : (p c : ℕ) (ps : List ℕ) → (table t).patterns p ≡ PCON c ps → Fits ps
    unfolding table_by
    parts-of p c ps e = go (kind_of t p - 18) refl e
      where
        different : {a v : ℕ} {qs : List ℕ} → ◌≡◌ {A = tables.Pattern} (PVAR v) (PCON a qs) → ⊥
        different q = impossible cc

        go : (n : ℕ) → kind_of t p - 18 ≡ n → get_or (PVAR (argument_of t p) ∷ PCON (argument_of t p) (operands t p) ∷ []) n (PVAR 0) ≡ PCON c
            ps → Fits ps
        go zero k q = absurd (different q)
        go (suc zero) k q = let y : operands t p ≡ ps = cc in subst Fits y (fit_parts p (omega arith))
        go (suc (suc n)) k q = absurd (different q)

    -- an entry of each kind; n, i: it has as many operands as its kind needs, and each may be applied where its kind takes strategies
    of-kind : (x h k : ℕ) (b : Bindings ℕ) → kind_of t x ≡ k → (kind k).least ≤ operand_count t x
        → (takes k ≡ Strategy → (j : ℕ) → j < operand_count t x → Applied t (word_at t x (operands_from_by ours k + j)))
        → Good (strategy (get_or (by_kind (argument_of t x) (word_at t x 2) (word_at t x 3) (operands t x) (mask_by ours t x) (word_at t x 3)) k
        tables.FAIL) h b)
    unfolding by_kind strategy Fine kind line_of lines takes
    of-kind x h zero b e n i = tt
    of-kind x h (suc zero) b e n i = tt
    of-kind x h (suc (suc zero)) b e n i = (i refl 0 (omega arith), (λ h b. tt), tt)
    of-kind x h (suc (suc (suc zero))) b e n i = (i refl 0 (omega arith), (λ h b. tt), tt)
    of-kind x h (suc (suc (suc (suc zero)))) b e n i = (i refl 0 (omega arith), (λ h b. (i refl 1 (omega arith), (λ h b. tt), tt)), tt)
    of-kind x h (suc (suc (suc (suc (suc zero))))) b e n i =
        (i refl 0 (omega arith), (λ h b. tt), (i refl 1 (omega arith), (λ h b. tt), tt))
    of-kind x h (suc (suc (suc (suc (suc (suc zero)))))) b e n i =
        (i refl 0 (omega arith), (λ h b. tt), (i refl 1 (omega arith), (λ h b. tt), tt))
    of-kind x h (suc (suc (suc (suc (suc (suc (suc zero))))))) b e n i = (i refl 0 (omega arith), (λ h b. tt), tt)
    of-kind x h (suc (suc (suc (suc (suc (suc (suc (suc zero)))))))) b e n i = (i refl 0 (omega arith), (λ h b. tt), tt)
    of-kind x h (suc (suc (suc (suc (suc (suc (suc (suc (suc zero))))))))) b e n i =
        λ c hs. given-good (nth hs (argument_of t x)) _
        (λ g. (i refl 0 (omega arith), (λ g b. again-good h c (put hs (argument_of t x) g) b), tt))
    of-kind x h (suc (suc (suc (suc (suc (suc (suc (suc (suc (suc zero)))))))))) b e n i =
        λ c hs. when-good _ _ (walk-good (zip apply (operands t x) hs) [] b _
        (applied (operands t x) hs (each-operand t x (Applied t) (i refl))) (again-good h c))
    of-kind x h (suc (suc (suc (suc (suc (suc (suc (suc (suc (suc (suc zero))))))))))) b e n i =
        λ c hs. walk-good (map (apply (word_at t x 2)) hs) [] b _ (all-applied (word_at t x 2) hs (i refl 0 (omega arith))) (again-good h c)
    of-kind x h (suc (suc (suc (suc (suc (suc (suc (suc (suc (suc (suc (suc zero)))))))))))) b e n i =
        λ c hs. one-good (word_at t x 2) [] hs b _ (i refl 0 (omega arith)) (again-good h c)
    of-kind x h (suc (suc (suc (suc (suc (suc (suc (suc (suc (suc (suc (suc (suc zero))))))))))))) b e n i =
        λ c hs. some_good (word_at t x 2) false [] hs b _ (i refl 0 (omega arith)) (again-good h c)
    of-kind x h (suc (suc (suc (suc (suc (suc (suc (suc (suc (suc (suc (suc (suc (suc zero)))))))))))))) b e n i =
        (fit-operand x 14 e (inl refl), (λ h b. tt), tt)
    of-kind x h (suc (suc (suc (suc (suc (suc (suc (suc (suc (suc (suc (suc (suc (suc (suc zero))))))))))))))) b e n i =
        (fit-operand x 15 e (inr refl), (λ h b. tt), tt)
    of-kind x h (suc (suc (suc (suc (suc (suc (suc (suc (suc (suc (suc (suc (suc (suc (suc (suc zero)))))))))))))))) b e n i =
        (i refl 0 (omega arith), (λ h b. tt), tt)
    of-kind x h (suc (suc (suc (suc (suc (suc (suc (suc (suc (suc (suc (suc (suc (suc (suc (suc (suc zero))))))))))))))))) b e n i =
        (i refl 0 (omega arith), (λ h b. tt), tt)
    of-kind x h (suc (suc (suc (suc (suc (suc (suc (suc (suc (suc (suc (suc (suc (suc (suc (suc (suc (suc k)))))))))))))))))) b e n i = tt

    -- an operand of an entry inside the table may be applied, where its kind takes strategies; CALL's is a REC
    operand-applied : (x : ℕ) → EntryBy ours t x → takes (kind_of t x) ≡ Strategy → (j : ℕ) → j < operand_count t x
        → Applied t (word_at t x (operands_from_by ours (kind_of t x) + j))
    unfolding sort_of
    operand-applied x g e j l = (g.placed.inside j l, go (eqb (kind_of t x) 8) refl)
      where
        go : (b : Bool) → eqb (kind_of t x) 8 ≡ b → sort_of (kind_of t (word_at t x (operands_from_by ours (kind_of t x) + j))) ≡ Strategy
        go true z = ap sort_of (g.sorted.called (eqb-true _ _ z) j l)
        go false z = g.sorted.sorted (eqb-false _ _ z) j l ∙ e

    pub rules-fair : (q : Visit ℕ) → FairVisit t q → Good (does (table t) q)
    unfolding does comparing table_by Fine
    rules-fair (apply x h b) f =
        let g = entry-inside x f.0 in
        of-kind x h (kind_of t x) b refl g.counted.least (operand-applied x g)
    rules-fair (match p h b) f = pattern-met p ((table t).patterns p) h b (parts-of p)
    rules-fair (build p h b) f = pattern-built ((table t).patterns p) h b (parts-of p)
    rules-fair (compare g h b) f = λ c gs d hs. when-good _ _ (walk-good (zip compare gs hs) [] b _ (compared gs hs) (λ ks b. tt))

pub always-fair : (sh : Bool) (i : Input) → Accepted i → (n : ℕ)
    → Fair i.table (steps (store_by sh history) (does (table i.table)) n
    (start (store_by sh history) (does (table i.table)) deepest (apply i.start i.subject (bindings i.bindings)) (on i.store i.mark (nowhere, [])) i.units))
unfolding start Fine
always-fair sh i a n = out (steps (store_by sh history) (does (table i.table)) n begins)
    (steps-holds (store_by sh history) (does (table i.table))
    (FairVisit i.table) (rules-fair sh i.table a.table) n begins first)
  where
    begins : Run
    begins = start (store_by sh history) (does (table i.table)) deepest (apply i.start i.subject (bindings i.bindings)) (on i.store i.mark (nowhere, [])) i.units

    first : Holds (store_by sh history) (does (table i.table)) (FairVisit i.table) begins
    first = ((a.inside, a.strategy), (((λ h b. tt), tt), tt))

    out : (X : Run) → Holds (store_by sh history) (does (table i.table)) (FairVisit i.table) X → Fair i.table X
    out (over r) h = tt
    out (next s u f fs) h = h.0
