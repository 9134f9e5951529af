-- The entries of a rule have no fault, in any table that has them and the RECs that they call. Assumes nothing.
use mathlib.Core.Path.{◌≡◌, refl, ap, sym, ◌∙◌, subst}
use mathlib.Core.Logic.{◌≢◌, ⊎_elim}
use mathlib.Core.Bool.{true}
use mathlib.Core.List.{List, [], ◌∷◌, ◌++◌}
use Prim.Native.Nat.{ℕ, zero, suc, ◌+◌, ◌-◌, ◌*◌, ◌/◌, ◌%◌, ◌^◌, ◌≤◌, ◌<◌}
use native.Mathlib.Omega.{arith}
use lib.Dec.{ltb}
use lib.ListN.{length, get_or, replicate, get_or-replicate, get_or-append, get_or-eq_default}
use lib.Seq.{get_or-append-add}
use borrow.Author.Tests.{ltb-true}
use Rattle.words.specs.Words.{word_at, rows}
use Rattle.words.proofs.Tests.{and-true, below-or-from}
use Rattle.checks.specs.declared.kinds.Sort.TheVariants.{Strategy, Pattern}
use Rattle.checks.specs.Kinds.{ours, variables as most, lowest, highest_by, argument_words_by, operands_from_by, lines, line_of, kind, sort_of, takes}
use Rattle.checks.specs.Good.{kind_of, operand_count, number, argument_by, operand_by}
use Rattle.checks.specs.Plain.{Counted, ArguedBy, Entry as Good}
use Rattle.checks.proofs.Good.{argument-word, operands-word, operand-word, operand-scope}
use Rattle.meaning.specs.Table.{SEQ, CALL, MATCH, BUILD, SCOPE, WHERE, PVAR, PCON}
use Rattle.rules.specs.Rule.{Pat, Pats, var, con, none, more, Condition, Rule, variables, variables_all, conditions_variables, rule_variables}
use Rattle.rules.specs.Text.{Plain, plain-var, plain-con, Plains, plain-none, plain_more, PlainConditions, plain_end, plain-next, PlainRule}
use Rattle.check_rules.specs.Bound.{all_below}
use Rattle.rules.specs.Entries
use Rattle.rules.specs.Entries.{Code, scope, seq, where-of, call, mask_of, condition_code, conditions_code, rule_code, Entry, strategy, pattern, size, sizes, places, pat_entries, pats_entries}
use Rattle.rules.specs.Entries.{code_size, code_entries, rule_entries, eight, row_of, Row, Rows}
use Rattle.rules.specs.Promises.{Among, here, there}
use Rattle.rules.proofs.Sizes.{length-pat, length-code, length-places}
use Rattle.rules.proofs.Words.{rows_append}
use Rattle.translate.proofs.Masking.{mask_below}
use Rattle.translate.proofs.Preorder.{rows-first}

module _ (w : List ℕ) where
  -- ---- what a row says

  record Reads (e k a : ℕ) (os : List ℕ) : Type 0 where
    kind-is : kind_of w e ≡ k
    count-is : operand_count w e ≡ length os
    argument_is : argument_by ours w e ≡ a
    operands-are : (i : ℕ) → i < length os → operand_by ours w e i ≡ get_or os i 0
    unused : (j : ℕ) → operands_from_by ours (kind_of w e) + operand_count w e ≤ j → j < 8 → word_at w e j ≡ 0

  padded : (os : List ℕ) (i : ℕ) → i < 6 → get_or (os ++ replicate (6 - length os) 0) i 0 ≡ get_or os i 0
  padded os i h = ⊎_elim (λ l. get_or-append os (replicate (6 - length os) 0) 0 i l) past (below-or-from i (length os))
    where
      past : length os ≤ i → get_or (os ++ replicate (6 - length os) 0) i 0 ≡ get_or os i 0
      past l =
          let z : length os + (i - length os) ≡ i = omega arith in
          ap (λ (n : ℕ). get_or (os ++ replicate (6 - length os) 0) n 0) (sym z)
          ∙ get_or-append-add os (replicate (6 - length os) 0) (i - length os) 0
          ∙ get_or-replicate (6 - length os) (i - length os) 0 0 (omega arith)
          ∙ sym (get_or-eq_default os 0 l)

  -- A row of a kind whose argument has one word.
  reads-eight : (e : ℕ) (x : Entry) (k a : ℕ) (os : List ℕ) → length os ≤ 6 → k ≢ 16 → row_of x ≡ eight k a os → Row w e x → Reads e k a os
  reads-eight e x k a os l n z h = record {
    kind-is = kinds;
    count-is = omega (arith, first);
    argument_is = argument-word ours w e other ∙ h 1 (omega arith) ∙ ap (λ (r : List ℕ). get_or r 1 0) z;
    operands-are = λ i m. operand-word ours w e other i ∙ word i (omega arith);
    unused = λ j m o.
        let y : 2 + (j - 2) ≡ j = omega (arith, operands-word ours w e other) in
        ap (word_at w e) (sym y) ∙ word (j - 2) (omega arith) ∙ get_or-eq_default os 0 (omega (arith, operands-word ours w e other, first));
  }
    where
      first : word_at w e 0 ≡ 16 * k + length os
      first = h 0 (omega arith) ∙ ap (λ (r : List ℕ). get_or r 0 0) z

      kinds : kind_of w e ≡ k
      kinds = omega (arith, first)

      other : kind_of w e ≢ 16
      other y = n (sym kinds ∙ y)

      word : (i : ℕ) → i < 6 → word_at w e (2 + i) ≡ get_or os i 0
      word i m =
          let two : 2 + i ≡ suc (suc i) = omega arith in
          h (2 + i) (omega arith) ∙ ap (λ (j : ℕ). get_or (row_of x) j 0) two ∙ ap (λ (r : List ℕ). get_or r (suc (suc i)) 0) z ∙ padded os i m

  -- ---- a good entry

  -- an operand that an entry e, which takes this sort, may have
  record Fine (e o : ℕ) (k : ℕ) : Type 0 where
    above : e < o
    inside : o < rows w
    sorted : sort_of (kind_of w o) ≡ takes k

  module _ (e k a : ℕ) (os : List ℕ) (r : Reads e k a os) where
    counted_of : k ≤ 19 → (kind k).least ≤ length os → length os ≤ (kind k).most → Counted w e
    counted_of l least mosts = record {
      known = omega (arith, r.kind-is);
      least = subst (λ (j : ℕ). (kind j).least ≤ operand_count w e) (sym r.kind-is) (omega (arith, r.count-is));
      most = subst (λ (j : ℕ). operand_count w e ≤ (kind j).most) (sym r.kind-is) (omega (arith, r.count-is));
    }

    argued-of : lowest (kind k).argument ≤ a → a ≤ highest_by ours (kind k).argument → ArguedBy ours w e
    argued-of low high = record {
      low = subst (λ (j : ℕ). lowest (kind j).argument ≤ argument_by ours w e) (sym r.kind-is) (subst (λ (b : ℕ). lowest (kind k).argument ≤ b) (sym r.argument_is) low);
      high = subst (λ (j : ℕ). argument_by ours w e ≤ highest_by ours (kind j).argument) (sym r.kind-is) (subst (λ (b : ℕ). b ≤ highest_by ours (kind k).argument) (sym r.argument_is) high);
    }

    within_of : (i : ℕ) → i < operand_count w e → i < length os
    within_of i m = omega (arith, r.count-is)

    good_of : k ≤ 19 → k ≢ 8 → (kind k).least ≤ length os → length os ≤ (kind k).most → lowest (kind k).argument ≤ a → a ≤ highest_by ours (kind k).argument
        → ((i : ℕ) → i < length os → Fine e (get_or os i 0) k) → Good w e
    good_of l n least mosts low high fine = record {
      counted = counted_of l least mosts;
      argued = argued-of low high;
      placed = record {
        inside = λ i m. let f = fine i (within_of i m) in omega (arith, r.operands-are i (within_of i m), f.inside);
        above = λ z i m. let f = fine i (within_of i m) in omega (arith, r.operands-are i (within_of i m), f.above);
      };
      sorted = record {
        sorted = λ z i m.
            let f = fine i (within_of i m) in
            ap (λ (o : ℕ). sort_of (kind_of w o)) (r.operands-are i (within_of i m)) ∙ f.sorted ∙ ap takes (sym r.kind-is);
        called = λ z i m. absurd (n (sym r.kind-is ∙ z));
      };
      unused = record { zero = r.unused };
    }

  good-call : (e x : ℕ) → Reads e 8 0 (x ∷ []) → x < rows w → kind_of w x ≡ 7 → Good w e
  unfolding kind line_of lines
  good-call e x r l z = record {
    counted = counted_of e 8 0 (x ∷ []) r (omega arith) (omega arith) (omega arith);
    argued = argued-of e 8 0 (x ∷ []) r (omega arith) (omega arith);
    placed = record { inside = λ i m. let y = first i m in omega (arith, y); above = λ n i m. absurd (n r.kind-is) };
    sorted = record { sorted = λ n i m. absurd (n r.kind-is); called = λ n i m. ap (kind_of w) (first i m) ∙ z };
    unused = record { zero = r.unused };
  }
    where
      first : (i : ℕ) → i < operand_count w e → operand_by ours w e i ≡ x
      first i m = let y : i ≡ 0 = omega (arith, r.count-is) in r.operands-are i (omega arith) ∙ ap (λ (n : ℕ). get_or (x ∷ []) n 0) y

  -- n entries from e on are good
  abbrev AllGood : (e n : ℕ) → Type 0
  AllGood e n = (x : ℕ) → e ≤ x → x < e + n → Good w x

  good_more : (e a n : ℕ) → AllGood e a → AllGood (e + a) n → AllGood e (a + n)
  good_more e a n g h x l m = ⊎_elim (λ k. g x l k) (λ k. h x k (omega arith)) (below-or-from x (e + a))

  good-first : (e n : ℕ) → Good w e → AllGood (suc e) n → AllGood e (suc n)
  good-first e n g h x l m = ⊎_elim (λ k. let z : e ≡ x = omega arith in subst (Good w) z g) (λ k. h x k (omega arith)) (below-or-from x (suc e))

  one-operand : (e o k : ℕ) → Fine e o k → (i : ℕ) → i < 1 → Fine e (get_or (o ∷ []) i 0) k
  one-operand e o k f i l = let z : 0 ≡ i = omega arith in subst (λ (n : ℕ). Fine e (get_or (o ∷ []) n 0) k) z f

  -- ---- patterns

  below_both : (xs ys : List ℕ) → all_below (xs ++ ys) ≡ true → (all_below xs ≡ true) × (all_below ys ≡ true)
  unfolding all_below
  below_both [] ys h = (refl, h)
  below_both (x ∷ xs) ys h =
      let (a, b) = and-true (ltb x most) _ h in
      let (c, d) = below_both xs ys b in
      (rw (a, c), d)

  pat-sort : (p : Pat) (e : ℕ) → Plain p → Rows w e (pat_entries e p) → sort_of (kind_of w e) ≡ Pattern
  unfolding pat_entries row_of sort_of
  pat-sort (var v) e (plain-var l) h = let r = reads-eight e (pattern (PVAR v)) 18 v [] (omega arith) (λ z. omega arith) refl (rows-first (pattern (PVAR v)) [] w e h).0 in rw r.kind-is
  pat-sort (con c ps) e (plain-con l m g) h =
      let r = reads-eight e (pattern (PCON c (places (suc e) ps))) 19 c (places (suc e) ps) (omega (arith, length-places (suc e) ps)) (λ z. omega arith) refl
      (rows-first (pattern (PCON c (places (suc e) ps))) (pats_entries (suc e) ps) w e h).0 in
      rw r.kind-is

  variable-good : (v e : ℕ) → v < most → Row w e (pattern (PVAR v)) → Good w e
  unfolding row_of kind line_of lines
  variable-good v e l h =
      let r = reads-eight e (pattern (PVAR v)) 18 v [] (omega arith) (λ z. omega arith) refl h in
      good_of e 18 v [] r (omega arith) (λ z. omega arith) (omega arith) (omega arith) (omega arith) (omega arith) (λ i m. absurd (omega arith))

  constructor-good : (c e : ℕ) (os : List ℕ) → c ≤ 65535 → length os ≤ 6 → ((i : ℕ) → i < length os → Fine e (get_or os i 0) 19) → Row w e (pattern (PCON c os)) → Good w e
  unfolding row_of kind line_of lines
  constructor-good c e os l m f h =
      let r = reads-eight e (pattern (PCON c os)) 19 c os m (λ z. omega arith) refl h in
      good_of e 19 c os r (omega arith) (λ z. omega arith) (omega arith) (omega arith) (omega arith) (omega arith) f

  size-some : (p : Pat) → 1 ≤ size p
  unfolding size
  size-some (var v) = omega arith
  size-some (con c qs) = omega arith

  -- children are patterns above their parent
  children-fine : (ps : Pats) (e f : ℕ) → Plains ps → Rows w f (pats_entries f ps) → f + sizes ps ≤ rows w → e < f → (i : ℕ) → i < length (places f ps) → Fine e (get_or (places f ps) i 0) 19
  unfolding pats_entries places sizes takes
  children-fine none e f plain-none h room l i m = absurd (omega arith)
  children-fine (more p ps) e f (plain_more g k) h room l zero m =
      let (a, b) = rows_append w f (pat_entries f p) (pats_entries (f + size p) ps) h in
      record { above = l; inside = omega (arith, size-some p); sorted = pat-sort p f g a }
  children-fine (more p ps) e f (plain_more g k) h room l (suc i) m =
      let (a, b) = rows_append w f (pat_entries f p) (pats_entries (f + size p) ps) h in
      let z : f + length (pat_entries f p) ≡ f + size p = ap (λ (j : ℕ). f + j) (length-pat f p) in
      children-fine ps e (f + size p) k (subst (λ (j : ℕ). Rows w j (pats_entries (f + size p) ps)) z b) (omega arith) (omega arith) i (omega arith)

  mutual
    unfolding pat_entries pats_entries size sizes variables variables_all all_below

    pat-good : (p : Pat) (e : ℕ) → Plain p → all_below (variables p) ≡ true → Rows w e (pat_entries e p) → e + size p ≤ rows w → AllGood e (size p)
    pat-good (var v) e (plain-var l) b h room =
        good-first e 0 (variable-good v e (ltb-true v most (and-true (ltb v most) true b).0) (rows-first (pattern (PVAR v)) [] w e h).0) (λ x i j. absurd (omega arith))
    pat-good (con c ps) e (plain-con l m g) b h room =
        let (i, j) = rows-first (pattern (PCON c (places (suc e) ps))) (pats_entries (suc e) ps) w e h in
        good-first e (sizes ps)
        (constructor-good c e (places (suc e) ps) l (omega (arith, length-places (suc e) ps)) (children-fine ps e (suc e) g j (omega arith) (omega arith)) i)
        (pats-good ps (suc e) g b j (omega arith))

    pats-good : (ps : Pats) (e : ℕ) → Plains ps → all_below (variables_all ps) ≡ true → Rows w e (pats_entries e ps) → e + sizes ps ≤ rows w → AllGood e (sizes ps)
    pats-good none e plain-none b h room = λ x i j. absurd (omega arith)
    pats-good (more p ps) e (plain_more g k) b h room =
        let (a, c) = rows_append w e (pat_entries e p) (pats_entries (e + size p) ps) h in
        let z : e + length (pat_entries e p) ≡ e + size p = ap (λ (j : ℕ). e + j) (length-pat e p) in
        let (u, v) = below_both (variables p) (variables_all ps) b in
        good_more e (size p) (sizes ps) (pat-good p e g u a (omega arith)) (pats-good ps (e + size p) k v (subst (λ (j : ℕ). Rows w j (pats_entries (e + size p) ps)) z c) (omega arith))

  -- ---- strategies

  -- the patterns of a tree are plain, their variables in range, its masks too, and its calls are of RECs
  data SoundCode : Code → Type 0 where
    s-scope : {m : ℕ} {a : Code} → m < 2 ^ most → SoundCode a → SoundCode (scope m a)
    s_seq : {a c : Code} → SoundCode a → SoundCode c → SoundCode (seq a c)
    s-where : {a : Code} → SoundCode a → SoundCode (where-of a)
    s-match : {p : Pat} → Plain p → all_below (variables p) ≡ true → SoundCode (Entries.match p)
    s-build : {p : Pat} → Plain p → all_below (variables p) ≡ true → SoundCode (Entries.build p)
    s_call : {x : ℕ} → x < rows w → kind_of w x ≡ 7 → SoundCode (call x)

  -- A scope's row has its mask in two words, and then its operand.
  reads-scope : (e m x : ℕ) → Row w e (strategy (SCOPE m x)) → Reads e 16 m (x ∷ [])
  unfolding row_of number
  reads-scope e m x h = record {
    kind-is = kinds;
    count-is = omega (arith, first);
    argument_is = ap (λ (k : ℕ). number w e (argument_words_by ours k) 1) kinds ∙ whole;
    operands-are = λ i l. let z : i ≡ 0 = omega arith in ap (operand_by ours w e) z ∙ operand-scope ours w e kinds ∙ h 3 (omega arith) ∙ ap (λ (j : ℕ). get_or (x ∷ []) j 0) (sym z);
    unused = λ j l o. zeros j (omega (arith, ap (operands_from_by ours) kinds, first)) o;
  }
    where
      first : word_at w e 0 ≡ 257
      first = h 0 (omega arith)

      kinds : kind_of w e ≡ 16
      kinds = omega (arith, first)

      whole : word_at w e 1 + 4294967296 * word_at w e 2 ≡ m
      whole = let z : m % 4294967296 + 4294967296 * (m / 4294967296) ≡ m = omega arith in rw (h 1 (omega arith), h 2 (omega arith), z)

      zeros : (j : ℕ) → 4 ≤ j → j < 8 → word_at w e j ≡ 0
      zeros zero a b = absurd (omega arith)
      zeros (suc zero) a b = absurd (omega arith)
      zeros (suc (suc zero)) a b = absurd (omega arith)
      zeros (suc (suc (suc zero))) a b = absurd (omega arith)
      zeros (suc (suc (suc (suc zero)))) a b = h 4 (omega arith)
      zeros (suc (suc (suc (suc (suc zero))))) a b = h 5 (omega arith)
      zeros (suc (suc (suc (suc (suc (suc zero)))))) a b = h 6 (omega arith)
      zeros (suc (suc (suc (suc (suc (suc (suc zero))))))) a b = h 7 (omega arith)
      zeros (suc (suc (suc (suc (suc (suc (suc (suc j)))))))) a b = absurd (omega arith)

  module _ (e : ℕ) where
    seq-reads : (x y : ℕ) → Row w e (strategy (SEQ x y)) → Reads e 4 0 (x ∷ y ∷ [])
    unfolding row_of
    seq-reads x y h = reads-eight e (strategy (SEQ x y)) 4 0 (x ∷ y ∷ []) (omega arith) (λ z. omega arith) refl h

    where-reads : (x : ℕ) → Row w e (strategy (WHERE x)) → Reads e 17 0 (x ∷ [])
    unfolding row_of
    where-reads x h = reads-eight e (strategy (WHERE x)) 17 0 (x ∷ []) (omega arith) (λ z. omega arith) refl h

    match-reads : (x : ℕ) → Row w e (strategy (MATCH x)) → Reads e 14 0 (x ∷ [])
    unfolding row_of
    match-reads x h = reads-eight e (strategy (MATCH x)) 14 0 (x ∷ []) (omega arith) (λ z. omega arith) refl h

    build-reads : (x : ℕ) → Row w e (strategy (BUILD x)) → Reads e 15 0 (x ∷ [])
    unfolding row_of
    build-reads x h = reads-eight e (strategy (BUILD x)) 15 0 (x ∷ []) (omega arith) (λ z. omega arith) refl h

    call-reads : (x : ℕ) → Row w e (strategy (CALL x)) → Reads e 8 0 (x ∷ [])
    unfolding row_of
    call-reads x h = reads-eight e (strategy (CALL x)) 8 0 (x ∷ []) (omega arith) (λ z. omega arith) refl h

  -- The first entry of a tree is a strategy.
  code-sort : (a : Code) (e : ℕ) → Rows w e (code_entries e a) → sort_of (kind_of w e) ≡ Strategy
  unfolding code_entries Rows sort_of
  code-sort (scope m a) e h = rw (reads-scope e m (suc e) h.0).kind-is
  code-sort (seq a c) e h = rw (seq-reads e (suc e) (suc e + code_size a) h.0).kind-is
  code-sort (where-of a) e h = rw (where-reads e (suc e) h.0).kind-is
  code-sort (Entries.match p) e h = rw (match-reads e (suc e) h.0).kind-is
  code-sort (Entries.build p) e h = rw (build-reads e (suc e) h.0).kind-is
  code-sort (call x) e h = rw (call-reads e x h.0).kind-is

  code-some : (a : Code) → 1 ≤ code_size a
  unfolding code_size
  code-some (scope m a) = omega arith
  code-some (seq a c) = omega arith
  code-some (where-of a) = omega arith
  code-some (Entries.match p) = omega arith
  code-some (Entries.build p) = omega arith
  code-some (call x) = omega arith

  -- The operand of an entry of one operand, of the kind k.
  one-good : (e k a : ℕ) → Reads e k a (suc e ∷ []) → k ≤ 19 → k ≢ 8 → (kind k).least ≡ 1 → (kind k).most ≡ 1 → lowest (kind k).argument ≤ a → a ≤ highest_by ours (kind k).argument
      → suc e < rows w → sort_of (kind_of w (suc e)) ≡ takes k → Good w e
  one-good e k a r l n least mosts low high room s =
      good_of e k a (suc e ∷ []) r l n (omega arith) (omega arith) low high (one-operand e (suc e) k (record { above = omega arith; inside = room; sorted = s }))

  scope-good : (e m : ℕ) → Row w e (strategy (SCOPE m (suc e))) → m < 2 ^ most → suc e < rows w → sort_of (kind_of w (suc e)) ≡ Strategy → Good w e
  unfolding kind line_of lines takes
  scope-good e m h l room s = one-good e 16 m (reads-scope e m (suc e) h) (omega arith) (λ z. omega arith) refl refl (omega arith) (omega arith) room s

  where-good : (e : ℕ) → Row w e (strategy (WHERE (suc e))) → suc e < rows w → sort_of (kind_of w (suc e)) ≡ Strategy → Good w e
  unfolding kind line_of lines takes
  where-good e h room s = one-good e 17 0 (where-reads e (suc e) h) (omega arith) (λ z. omega arith) refl refl (omega arith) (omega arith) room s

  match-good : (e : ℕ) → Row w e (strategy (MATCH (suc e))) → suc e < rows w → sort_of (kind_of w (suc e)) ≡ Pattern → Good w e
  unfolding kind line_of lines takes
  match-good e h room s = one-good e 14 0 (match-reads e (suc e) h) (omega arith) (λ z. omega arith) refl refl (omega arith) (omega arith) room s

  build-good : (e : ℕ) → Row w e (strategy (BUILD (suc e))) → suc e < rows w → sort_of (kind_of w (suc e)) ≡ Pattern → Good w e
  unfolding kind line_of lines takes
  build-good e h room s = one-good e 15 0 (build-reads e (suc e) h) (omega arith) (λ z. omega arith) refl refl (omega arith) (omega arith) room s

  seq-good : (e y : ℕ) → Row w e (strategy (SEQ (suc e) y)) → suc e < y → y < rows w → sort_of (kind_of w (suc e)) ≡ Strategy → sort_of (kind_of w y) ≡ Strategy → Good w e
  unfolding kind line_of lines takes
  seq-good e y h l room s u =
      good_of e 4 0 (suc e ∷ y ∷ []) (seq-reads e (suc e) y h) (omega arith) (λ z. omega arith) (omega arith) (omega arith) (omega arith) (omega arith) both
    where
      both : (i : ℕ) → i < 2 → Fine e (get_or (suc e ∷ y ∷ []) i 0) 4
      both zero a = record { above = omega arith; inside = omega arith; sorted = s }
      both (suc zero) a = record { above = omega arith; inside = room; sorted = u }
      both (suc (suc i)) a = absurd (omega arith)

  code-good : {a : Code} → SoundCode a → (e : ℕ) → Rows w e (code_entries e a) → e + code_size a ≤ rows w → AllGood e (code_size a)
  unfolding code_entries code_size Rows
  code-good (s-scope {m = m} {a = a} l g) e (h, k) room =
      good-first e (code_size a) (scope-good e m h l (omega (arith, code-some a)) (code-sort a (suc e) k)) (code-good g (suc e) k (omega arith))
  code-good (s_seq {a = a} {c = c} f g) e (h, k) room =
      let (i, j) = rows_append w (suc e) (code_entries (suc e) a) (code_entries (suc e + code_size a) c) k in
      let z : suc e + length (code_entries (suc e) a) ≡ suc e + code_size a = ap (λ (n : ℕ). suc e + n) (length-code (suc e) a) in
      let m : Rows w (suc e + code_size a) (code_entries (suc e + code_size a) c) = subst (λ (n : ℕ). Rows w n (code_entries (suc e + code_size a) c)) z j in
      good-first e (code_size a + code_size c)
      (seq-good e (suc e + code_size a) h (omega (arith, code-some a)) (omega (arith, code-some c)) (code-sort a (suc e) i) (code-sort c (suc e + code_size a) m))
      (good_more (suc e) (code_size a) (code_size c) (code-good f (suc e) i (omega arith)) (code-good g (suc e + code_size a) m (omega arith)))
  code-good (s-where {a = a} g) e (h, k) room = good-first e (code_size a) (where-good e h (omega (arith, code-some a)) (code-sort a (suc e) k)) (code-good g (suc e) k (omega arith))
  code-good (s-match {p = p} l b) e (h, k) room = good-first e (size p) (match-good e h (omega (arith, size-some p)) (pat-sort p (suc e) l k)) (pat-good p (suc e) l b k (omega arith))
  code-good (s-build {p = p} l b) e (h, k) room = good-first e (size p) (build-good e h (omega (arith, size-some p)) (pat-sort p (suc e) l k)) (pat-good p (suc e) l b k (omega arith))
  code-good (s_call {x = x} l z) e (h, k) room = good-first e 0 (good-call e x (call-reads e x h) l z) (λ x i j. absurd (omega arith))

  conditions-sound : (cs : List Condition) (p : Pat) → PlainConditions cs → Plain p → all_below (conditions_variables cs) ≡ true → all_below (variables p) ≡ true
      → ((c : Condition) → Among c cs → (c.callee < rows w) × (kind_of w c.callee ≡ 7)) → SoundCode (conditions_code cs p)
  unfolding conditions_code condition_code conditions_variables
  conditions-sound [] p plain_end h b v f = s-build h v
  conditions-sound (c ∷ cs) p (plain-next l i j g) h b v f =
      let (a, d) = below_both (variables c.start) (variables c.outcome ++ conditions_variables cs) b in
      let (m, n) = below_both (variables c.outcome) (conditions_variables cs) d in
      let (x, y) = f c here in
      s_seq (s-where (s_seq (s-build i a) (s_seq (s_call x y) (s-match j m)))) (conditions-sound cs p g h n v (λ k q. f k (there q)))

  -- The entries of a rule whose variables are in range and whose calls are of RECs have no fault.
  pub rule-good : (r : Rule) → PlainRule r → all_below (rule_variables r) ≡ true → ((c : Condition) → Among c r.conditions → (c.callee < rows w) × (kind_of w c.callee ≡ 7))
      → (e : ℕ) → Rows w e (rule_entries e r) → e + code_size (rule_code r) ≤ rows w → (x : ℕ) → e ≤ x → x < e + code_size (rule_code r) → Good w x
  unfolding rule_entries rule_code rule_variables
  rule-good r h b f e k room =
      let (a, d) = below_both (variables r.left) (conditions_variables r.conditions ++ variables r.right) b in
      let (m, n) = below_both (conditions_variables r.conditions) (variables r.right) d in
      code-good (s-scope (mask_below (rule_variables r) b) (s_seq (s-match h.left a) (conditions-sound r.conditions r.right h.conditions h.right m n f))) e k room
