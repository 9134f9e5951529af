-- Words that are a rule's entries, and the table that they are; entries are those of one rule.
use mathlib.Core.Path.{◌≡◌, refl, ap, sym, ◌∙◌, subst}
use mathlib.Core.List.{List, [], ◌∷◌, ◌++◌, append_assoc, append-nil}
use Prim.Native.Nat.{ℕ, suc, ◌+◌, ◌≤◌, ◌*◌, ◌/◌, ◌%◌}
use native.Mathlib.Omega.{arith}
use lib.ListN.{length}
use Rattle.checks.specs.Good.{number}
use Rattle.meaning.specs.Table.{SEQ, CALL, MATCH, BUILD, SCOPE, WHERE, PVAR, PCON, by_kind, table_by, table}
use Rattle.meaning.proofs.Tests.{impossible}
use Rattle.rules.specs.Rule.{Pat, Pats, var, con, none, more, Condition, count}
use Rattle.rules.specs.Text.{Plain, plain-con, Plains, plain_more, PlainConditions, plain_end, plain-next}
use Rattle.rules.specs.Entries
use Rattle.rules.specs.Entries.{Code, scope, seq, where-of, call, mask_of, condition_code, conditions_code, rule_code, Entry, strategy, pattern, size, sizes, places, pat_entries}
use Rattle.rules.specs.Entries.{pats_entries, code_size, code_entries, rule_entries, Is, Has, row_of, Row, Rows}
use Rattle.rules.specs.Promises.{RowsHas, OneRule}
use Rattle.rules.proofs.Sizes.{length-pat, length-code}

module _ (w : List ℕ) (e : ℕ) where
  seq-is : (x y : ℕ) → Row w e (strategy (SEQ x y)) → Is (table w) e (strategy (SEQ x y))
  unfolding row_of table_by by_kind
  seq-is x y h = rw (h 0 (omega arith), h 2 (omega arith), h 3 (omega arith))

  scope-is : (m x : ℕ) → Row w e (strategy (SCOPE m x)) → Is (table w) e (strategy (SCOPE m x))
  unfolding row_of table_by by_kind number
  scope-is m x h =
      let z : m % 4294967296 + 4294967296 * (m / 4294967296) ≡ m = omega arith in
      rw (h 0 (omega arith), h 1 (omega arith), h 2 (omega arith), h 3 (omega arith), z)

  where-is : (x : ℕ) → Row w e (strategy (WHERE x)) → Is (table w) e (strategy (WHERE x))
  unfolding row_of table_by by_kind
  where-is x h = rw (h 0 (omega arith), h 2 (omega arith))

  match_is : (x : ℕ) → Row w e (strategy (MATCH x)) → Is (table w) e (strategy (MATCH x))
  unfolding row_of table_by by_kind
  match_is x h = rw (h 0 (omega arith), h 2 (omega arith))

  build-is : (x : ℕ) → Row w e (strategy (BUILD x)) → Is (table w) e (strategy (BUILD x))
  unfolding row_of table_by by_kind
  build-is x h = rw (h 0 (omega arith), h 2 (omega arith))

  call-is : (x : ℕ) → Row w e (strategy (CALL x)) → Is (table w) e (strategy (CALL x))
  unfolding row_of table_by by_kind
  call-is x h = rw (h 0 (omega arith), h 2 (omega arith))

  var-is : (v : ℕ) → Row w e (pattern (PVAR v)) → Is (table w) e (pattern (PVAR v))
  unfolding row_of table_by
  var-is v h = rw (h 0 (omega arith), h 1 (omega arith))

  con-is : (c : ℕ) (xs : List ℕ) → length xs ≤ 6 → Row w e (pattern (PCON c xs)) → Is (table w) e (pattern (PCON c xs))
  unfolding row_of table_by
  con-is c [] l h = rw (h 0 (omega arith), h 1 (omega arith))
  con-is c (x1 ∷ []) l h = rw (h 0 (omega arith), h 1 (omega arith), h 2 (omega arith))
  con-is c (x1 ∷ x2 ∷ []) l h = rw (h 0 (omega arith), h 1 (omega arith), h 2 (omega arith), h 3 (omega arith))
  con-is c (x1 ∷ x2 ∷ x3 ∷ []) l h = rw (h 0 (omega arith), h 1 (omega arith), h 2 (omega arith), h 3 (omega arith), h 4 (omega arith))
  con-is c (x1 ∷ x2 ∷ x3 ∷ x4 ∷ []) l h = rw (h 0 (omega arith), h 1 (omega arith), h 2 (omega arith), h 3 (omega arith), h 4 (omega arith), h 5 (omega arith))
  con-is c (x1 ∷ x2 ∷ x3 ∷ x4 ∷ x5 ∷ []) l h = rw (h 0 (omega arith), h 1 (omega arith), h 2 (omega arith), h 3 (omega arith), h 4 (omega arith), h 5 (omega arith), h 6 (omega arith))
  con-is c (x1 ∷ x2 ∷ x3 ∷ x4 ∷ x5 ∷ x6 ∷ []) l h = rw
      (h 0 (omega arith), h 1 (omega arith), h 2 (omega arith), h 3 (omega arith), h 4 (omega arith), h 5 (omega arith), h 6 (omega arith), h 7 (omega arith))
  con-is c (x1 ∷ x2 ∷ x3 ∷ x4 ∷ x5 ∷ x6 ∷ x7 ∷ xs) l h = absurd (omega arith)

module _ (w : List ℕ) where
  pub rows_append : (e : ℕ) (xs ys : List Entry) → Rows w e (xs ++ ys) → Rows w e xs × Rows w (e + length xs) ys
  unfolding Rows
  rows_append e [] ys h = let z : e + 0 ≡ e = omega arith in (tt, rw z h)
  rows_append e (x ∷ xs) ys (h, hs) =
      let (i, j) = rows_append (suc e) xs ys hs in
      let z : suc e + length xs ≡ e + suc (length xs) = omega arith in
      ((h, i), rw z at j)

  has_join : (e : ℕ) (xs ys : List Entry) → Has (table w) e xs → Has (table w) (e + length xs) ys → Has (table w) e (xs ++ ys)
  unfolding Has
  has_join e [] ys h i = let z : e + 0 ≡ e = omega arith in rw z at i
  has_join e (x ∷ xs) ys (h, hs) i = let z : e + suc (length xs) ≡ suc e + length xs = omega arith in (h, has_join (suc e) xs ys hs (rw z at i))

  pub length-place : (e : ℕ) (ps : Pats) → length (places e ps) ≡ count ps
  unfolding places count
  length-place e none = refl
  length-place e (more p ps) = ap suc (length-place (e + size p) ps)

  mutual
    unfolding Rows Has pat_entries pats_entries

    pat-has : (p : Pat) (e : ℕ) → Plain p → Rows w e (pat_entries e p) → Has (table w) e (pat_entries e p)
    pat-has (var v) e i h = (var-is w e v h.0, tt)
    pat-has (con c ps) e (plain-con l m i) h = (con-is w e c (places (suc e) ps) (rw (length-place (suc e) ps) m) h.0, pats-has ps (suc e) i h.1)

    pats-has : (ps : Pats) (e : ℕ) → Plains ps → Rows w e (pats_entries e ps) → Has (table w) e (pats_entries e ps)
    pats-has none e i h = tt
    pats-has (more p ps) e (plain_more i j) h =
        let (x, y) = rows_append e (pat_entries e p) (pats_entries (e + size p) ps) h in
        has_join e (pat_entries e p) (pats_entries (e + size p) ps) (pat-has p e i x) (rw (length-pat e p) (pats-has ps (e + size p) j (rw (length-pat e p) at y)))

  -- every pattern of a tree is plain
  data PlainCode : Code → Type 0 where
    p-scope : {m : ℕ} {a : Code} → PlainCode a → PlainCode (scope m a)
    p-seq : {a c : Code} → PlainCode a → PlainCode c → PlainCode (seq a c)
    p-where : {a : Code} → PlainCode a → PlainCode (where-of a)
    p-match : {p : Pat} → Plain p → PlainCode (Entries.match p)
    p-build : {p : Pat} → Plain p → PlainCode (Entries.build p)
    p-call : {x : ℕ} → PlainCode (call x)

  code-has : {a : Code} (e : ℕ) → PlainCode a → Rows w e (code_entries e a) → Has (table w) e (code_entries e a)
  unfolding Rows Has code_entries
  code-has e (p-scope {m = m} i) h = (scope-is w e m (suc e) h.0, code-has (suc e) i h.1)
  code-has e (p-seq {a = a} {c = c} i j) h =
      let (x, y) = rows_append (suc e) (code_entries (suc e) a) (code_entries (suc e + code_size a) c) h.1 in (
        seq-is w e (suc e) (suc e + code_size a) h.0,
        has_join (suc e) (code_entries (suc e) a) (code_entries (suc e + code_size a) c) (code-has (suc e) i x)
            (rw (length-code (suc e) a) (code-has (suc e + code_size a) j (rw (length-code (suc e) a) at y))),
      )
  code-has e (p-where i) h = (where-is w e (suc e) h.0, code-has (suc e) i h.1)
  code-has e (p-match {p = p} i) h = (match_is w e (suc e) h.0, pat-has p (suc e) i h.1)
  code-has e (p-build {p = p} i) h = (build-is w e (suc e) h.0, pat-has p (suc e) i h.1)
  code-has e (p-call {x = x}) h = (call-is w e x h.0, tt)

  conditions-plain : (cs : List Condition) (p : Pat) → PlainConditions cs → Plain p → PlainCode (conditions_code cs p)
  unfolding conditions_code condition_code
  conditions-plain [] p plain_end i = p-build i
  conditions-plain (c ∷ cs) p (plain-next l i j h) k = p-seq (p-where (p-seq (p-build i) (p-seq p-call (p-match j)))) (conditions-plain cs p h k)

-- Words that are a rule's entries are a table that has them.
pub rows-has : RowsHas
unfolding rule_entries rule_code
rows-has w e r i h = code-has w e (p-scope (p-seq (p-match i.left) (conditions-plain w r.conditions r.right i.conditions i.right))) h

-- ---- one rule

-- what stands first, and the rest
same_first : {x y : Entry} {xs ys : List Entry} → x ∷ xs ≡ y ∷ ys → (x ≡ y) × (xs ≡ ys)
same_first e = (cc, cc)

same_count : (e f : ℕ) (ps qs : Pats) → places e ps ≡ places f qs → count ps ≡ count qs
same_count e f ps qs i = sym (length-place [] e ps) ∙ ap length i ∙ length-place [] f qs

mutual
  unfolding pat_entries pats_entries count

  pat-one : (p q : Pat) (e : ℕ) (xs ys : List Entry) → pat_entries e p ++ xs ≡ pat_entries e q ++ ys → (p ≡ q) × (xs ≡ ys)
  pat-one (var v) (var w) e xs ys i = (cc, cc)
  pat-one (var v) (con c qs) e xs ys i = impossible (cc)
  pat-one (con c ps) (var w) e xs ys i = impossible (cc)
  pat-one (con c ps) (con d qs) e xs ys i =
      let u : c ≡ d = cc in
      let v : places (suc e) ps ≡ places (suc e) qs = cc in
      let z : pats_entries (suc e) ps ++ xs ≡ pats_entries (suc e) qs ++ ys = cc in
      let (l, m) = pats-one ps qs (suc e) xs ys (same_count (suc e) (suc e) ps qs v) z in
      (cc, m)

  pats-one : (ps qs : Pats) (e : ℕ) (xs ys : List Entry) → count ps ≡ count qs → pats_entries e ps ++ xs ≡ pats_entries e qs ++ ys → (ps ≡ qs) × (xs ≡ ys)
  pats-one none none e xs ys l i = (refl, i)
  pats-one none (more q qs) e xs ys l i = absurd (omega arith)
  pats-one (more p ps) none e xs ys l i = absurd (omega arith)
  pats-one (more p ps) (more q qs) e xs ys l i =
      let j = sym (append_assoc (pat_entries e p) (pats_entries (e + size p) ps) xs) ∙ i ∙ append_assoc (pat_entries e q) (pats_entries (e + size q) qs) ys in
      let (x, y) = pat-one p q e (pats_entries (e + size p) ps ++ xs) (pats_entries (e + size q) qs ++ ys) j in
      let z : pats_entries (e + size p) ps ++ xs ≡ pats_entries (e + size p) qs ++ ys = subst (λ (r : Pat). pats_entries (e + size p) ps ++ xs ≡ pats_entries (e + size r) qs ++ ys) (sym x) y in
      let (u, v) = pats-one ps qs (e + size p) xs ys (omega arith) z in
      (cc, v)

-- a tree's entries are those of one tree
code_one : (t u : Code) (e : ℕ) (xs ys : List Entry) → code_entries e t ++ xs ≡ code_entries e u ++ ys → (t ≡ u) × (xs ≡ ys)
unfolding code_entries
code_one (scope m1 a1) (scope m2 a2) e xs ys i =
    let n : m1 ≡ m2 = cc in
    let z : code_entries (suc e) a1 ++ xs ≡ code_entries (suc e) a2 ++ ys = cc in
    let (u, v) = code_one a1 a2 (suc e) xs ys z in
    (cc, v)
code_one (scope m1 a1) (seq a2 c2) e xs ys i = impossible (cc)
code_one (scope m1 a1) (where-of a2) e xs ys i = impossible (cc)
code_one (scope m1 a1) (Entries.match p2) e xs ys i = impossible (cc)
code_one (scope m1 a1) (Entries.build p2) e xs ys i = impossible (cc)
code_one (scope m1 a1) (call x2) e xs ys i = impossible (cc)
code_one (seq a1 c1) (scope m2 a2) e xs ys i = impossible (cc)
code_one (seq a1 c1) (seq a2 c2) e xs ys i =
    let j : (code_entries (suc e) a1 ++ code_entries (suc e + code_size a1) c1) ++ xs ≡ (code_entries (suc e) a2 ++ code_entries (suc e + code_size a2) c2) ++ ys = cc in
    let k = sym (append_assoc (code_entries (suc e) a1) (code_entries (suc e + code_size a1) c1) xs) ∙ j ∙ append_assoc (code_entries (suc e) a2) (code_entries (suc e + code_size a2) c2) ys in
    let (u, v) = code_one a1 a2 (suc e) (code_entries (suc e + code_size a1) c1 ++ xs) (code_entries (suc e + code_size a2) c2 ++ ys) k in
    let z : code_entries (suc e + code_size a1) c1 ++ xs ≡ code_entries (suc e + code_size a1) c2 ++ ys = subst
    (λ (r : Code). code_entries (suc e + code_size a1) c1 ++ xs ≡ code_entries (suc e + code_size r) c2 ++ ys) (sym u) v in
    let (x, y) = code_one c1 c2 (suc e + code_size a1) xs ys z in
    (cc, y)
code_one (seq a1 c1) (where-of a2) e xs ys i = impossible (cc)
code_one (seq a1 c1) (Entries.match p2) e xs ys i = impossible (cc)
code_one (seq a1 c1) (Entries.build p2) e xs ys i = impossible (cc)
code_one (seq a1 c1) (call x2) e xs ys i = impossible (cc)
code_one (where-of a1) (scope m2 a2) e xs ys i = impossible (cc)
code_one (where-of a1) (seq a2 c2) e xs ys i = impossible (cc)
code_one (where-of a1) (where-of a2) e xs ys i =
    let z : code_entries (suc e) a1 ++ xs ≡ code_entries (suc e) a2 ++ ys = cc in
    let (u, v) = code_one a1 a2 (suc e) xs ys z in
    (cc, v)
code_one (where-of a1) (Entries.match p2) e xs ys i = impossible (cc)
code_one (where-of a1) (Entries.build p2) e xs ys i = impossible (cc)
code_one (where-of a1) (call x2) e xs ys i = impossible (cc)
code_one (Entries.match p1) (scope m2 a2) e xs ys i = impossible (cc)
code_one (Entries.match p1) (seq a2 c2) e xs ys i = impossible (cc)
code_one (Entries.match p1) (where-of a2) e xs ys i = impossible (cc)
code_one (Entries.match p1) (Entries.match p2) e xs ys i =
    let z : pat_entries (suc e) p1 ++ xs ≡ pat_entries (suc e) p2 ++ ys = cc in
    let (u, v) = pat-one p1 p2 (suc e) xs ys z in
    (cc, v)
code_one (Entries.match p1) (Entries.build p2) e xs ys i = impossible (cc)
code_one (Entries.match p1) (call x2) e xs ys i = impossible (cc)
code_one (Entries.build p1) (scope m2 a2) e xs ys i = impossible (cc)
code_one (Entries.build p1) (seq a2 c2) e xs ys i = impossible (cc)
code_one (Entries.build p1) (where-of a2) e xs ys i = impossible (cc)
code_one (Entries.build p1) (Entries.match p2) e xs ys i = impossible (cc)
code_one (Entries.build p1) (Entries.build p2) e xs ys i =
    let z : pat_entries (suc e) p1 ++ xs ≡ pat_entries (suc e) p2 ++ ys = cc in
    let (u, v) = pat-one p1 p2 (suc e) xs ys z in
    (cc, v)
code_one (Entries.build p1) (call x2) e xs ys i = impossible (cc)
code_one (call x1) (scope m2 a2) e xs ys i = impossible (cc)
code_one (call x1) (seq a2 c2) e xs ys i = impossible (cc)
code_one (call x1) (where-of a2) e xs ys i = impossible (cc)
code_one (call x1) (Entries.match p2) e xs ys i = impossible (cc)
code_one (call x1) (Entries.build p2) e xs ys i = impossible (cc)
code_one (call x1) (call x2) e xs ys i = (cc, cc)

conditions-one : (cs ds : List Condition) (p q : Pat) → conditions_code cs p ≡ conditions_code ds q → (cs ≡ ds) × (p ≡ q)
unfolding conditions_code condition_code
conditions-one [] [] p q i = (refl, cc)
conditions-one [] (d ∷ ds) p q i = impossible (cc)
conditions-one (c ∷ cs) [] p q i = impossible (cc)
conditions-one (c ∷ cs) (d ∷ ds) p q i =
    let x : c.start ≡ d.start = cc in
    let y : c.callee ≡ d.callee = cc in
    let z : c.outcome ≡ d.outcome = cc in
    let j : conditions_code cs p ≡ conditions_code ds q = cc in
    let w : c ≡ d = λ k. record { callee = y k; start = x k; outcome = z k } in
    let (u, v) = conditions-one cs ds p q j in
    (cc, v)

-- Entries are those of one rule.
pub one-rule : OneRule
unfolding rule_entries rule_code
one-rule e r r' i =
    let (u, v) = code_one (rule_code r) (rule_code r') e [] [] (append-nil (rule_entries e r) ∙ i ∙ sym (append-nil (rule_entries e r'))) in
    let x : r.left ≡ r'.left = cc in
    let y : conditions_code r.conditions r.right ≡ conditions_code r'.conditions r'.right = cc in
    let (z, w) = conditions-one r.conditions r'.conditions r.right r'.right y in
    λ k. record { left = x k; right = w k; conditions = z k }
