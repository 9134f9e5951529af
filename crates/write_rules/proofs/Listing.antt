-- The line of a rule's entries, part by part. Assumes nothing.
use mathlib.Core.Path.{◌≡◌, refl, ap, sym, ◌∙◌, subst}
use mathlib.Core.List.{List, [], ◌∷◌, ◌++◌, append_assoc, append-nil}
use Prim.Native.Nat.{ℕ, suc, ◌+◌, ◌-◌, ◌*◌, ◌≤◌, ◌<◌}
use native.Mathlib.Omega.{arith}
use lib.ListN.{length, take, length-append}
use Rattle.words.specs.Words.{word_at}
use Rattle.checks.specs.Good.{kind_of}
use Rattle.meaning.specs.Table.{SEQ, CALL, BUILD}
use Rattle.text.specs.Text.{decimal}
use Rattle.rules.specs.Rule.{Pat, Pats, var, con, none, more, count, Condition, Rule}
use Rattle.rules.specs.Text.{Fields, pat_fields, pats_fields, conditions_fields, rule_fields, Plain, plain-var, plain-con, Plains, plain-none, plain_more, PlainConditions, plain_end}
use Rattle.rules.specs.Text.{plain-next, PlainRule}
use Rattle.rules.specs.Entries
use Rattle.rules.specs.Entries.{Entry, strategy, size, sizes, pat_entries, condition_code, conditions_code, mask_of, rule_code, code_size, code_entries, rule_entries, row_of, Row, Rows}
use Rattle.rules.specs.Scan.{width}
use Rattle.rules.specs.Shape.{rule_size}
use Rattle.rules.proofs.Sizes.{length-pat, length-code}
use Rattle.rules.proofs.Terms.{width-append}
use Rattle.rules.proofs.Words.{rows_append}
use Rattle.text.proofs.Put.{length-one}
use Rattle.translate.proofs.Preorder.{rows-first}
use Rattle.write_rules.specs.Written.{RuleAt}
use Rattle.write_rules.specs.Lines.{ended, Wrote, TermAt, Leaves, WritesTerm, ConditionHere, condition_size, conditions_size, WritesCondition, ConditionsAt, WritesConditions, HasLine}
use Rattle.write_rules.specs.declared.term.Passed.{Passed}
use Rattle.write_rules.proofs.Writing.{wrote_none, wrote-more, wrote_as, wrote-before, number-long}
use Rattle.write_rules.proofs.Walking.{ended-append, length-ended}

-- ---- one condition

condition-width : (c : Condition) → width (conditions_fields (c ∷ [])) ≡ length (decimal c.callee) + 1 + (width (pat_fields c.start) + width (pat_fields c.outcome))
unfolding conditions_fields width
condition-width c = omega (arith, width-append (pat_fields c.start) (pat_fields c.outcome ++ []), width-append (pat_fields c.outcome) [])

condition-text : (c : Condition) → (decimal c.callee ++ (9 ∷ [])) ++ (ended (pat_fields c.start) ++ ended (pat_fields c.outcome)) ≡ ended (conditions_fields (c ∷ []))
unfolding conditions_fields ended
condition-text c =
    append_assoc (decimal c.callee) (9 ∷ []) (ended (pat_fields c.start) ++ ended (pat_fields c.outcome))
    ∙ ap (λ (x : List ℕ). decimal c.callee ++ (9 ∷ x))
    (ap (λ (x : List ℕ). ended (pat_fields c.start) ++ x) (ap ended (sym (append-nil (pat_fields c.outcome)))) ∙ sym (ended-append (pat_fields c.start) (pat_fields c.outcome ++ [])))

module _ (t : List ℕ) (u e : ℕ) {b : List ℕ} {at : ℕ} (inside : at ≤ length b) {b₁ : List ℕ} {r₁ : Passed} (passes : WritesTerm t u (e + 4) b at b₁ r₁) (same₁ : length b₁ ≡ length b) where
  module _ (c : Condition) (h : ConditionHere t u e c) (room : at + width (conditions_fields (c ∷ [])) + 24 ≤ length b) where
    once : (r₁.entry ≡ e + 4 + size c.start) × Wrote b at (ended (pat_fields c.start)) b₁ r₁.at
    once = passes c.start h.start (omega (arith, condition-width c))

    pub no_room : length b₁ - at < 24 → ⊥
    no_room l = omega (arith, same₁, room, l)

  module _ {x : ℕ} (word : x ≡ word_at t (r₁.entry + 1) 2) {b₂ : List ℕ} {at₂ : ℕ} (number : Wrote b₁ at (decimal x ++ (9 ∷ [])) b₂ at₂) (same₂ : length b₂ ≡ length b₁) where
    pub number-within : at + 24 ≤ length b₁ → at₂ ≤ length b₂
    number-within l = omega (arith, number.place, same₂, length-append (decimal x) (9 ∷ []), number-long x)

    module _ {b₃ : List ℕ} {r₃ : Passed} (start : WritesTerm t u (e + 4) b₂ at₂ b₃ r₃) (same₃ : length b₃ ≡ length b₂)
        {b₄ : List ℕ} {r₄ : Passed} (outcome : WritesTerm t u (r₃.entry + 3) b₃ r₃.at b₄ r₄) where
      pub condition-written : WritesCondition t u e b at b₄ r₄
      condition-written c h room =
          let (p, w) = once c h room in
          let z : x ≡ c.callee = word ∙ ap (λ (n : ℕ). word_at t (n + 1) 2) p ∙ h.called in
          let l : length (decimal x) ≡ length (decimal c.callee) = ap (λ (n : ℕ). length (decimal n)) z in
          let long : at₂ ≡ at + (length (decimal c.callee) + 1) = number.place ∙ omega (arith, length-append (decimal x) (9 ∷ []), l) in
          let (q, v) = start c.start h.start (omega (arith, same₁, same₂, long, condition-width c)) in
          let y : TermAt t u (r₃.entry + 3) c.outcome = subst (λ (n : ℕ). TermAt t u (n + 3) c.outcome) (sym q) h.outcome in
          let (s, k) = outcome c.outcome y (omega (arith, same₁, same₂, same₃, long, v.place, length-ended (pat_fields c.start), condition-width c)) in
          let first : Wrote b at (decimal c.callee ++ (9 ∷ [])) b₂ at₂ = record {
            place = number.place ∙ ap (λ (n : ℕ). at + length (decimal n ++ (9 ∷ []))) z;
            text = number.text ∙ ap (λ (d : List ℕ). d ++ (decimal x ++ (9 ∷ []))) (wrote-before w at (omega arith) inside) ∙ ap (λ (n : ℕ). take at b ++ (decimal n ++ (9 ∷ []))) z;
          } in
          (omega (arith, s, q), wrote_as (condition-text c) (wrote-more first (wrote-more v k)))

-- ---- all conditions

module _ (t : List ℕ) (e : ℕ) where
  first_word : (x : Entry) (xs : List Entry) → Rows t e (x ∷ xs) → Row t e x × Rows t (suc e) xs
  first_word x xs h = rows-first x xs t e h

  seq-kind : (x y : ℕ) → Row t e (strategy (SEQ x y)) → kind_of t e ≡ 4
  unfolding row_of
  seq-kind x y h = let z : word_at t e 0 ≡ 66 = h 0 (omega arith) in omega (arith, z)

  build-kind : (x : ℕ) → Row t e (strategy (BUILD x)) → kind_of t e ≡ 15
  unfolding row_of
  build-kind x h = let z : word_at t e 0 ≡ 241 = h 0 (omega arith) in omega (arith, z)

  call-word : (x : ℕ) → Row t e (strategy (CALL x)) → word_at t e 2 ≡ x
  unfolding row_of
  call-word x h = h 2 (omega arith)

-- What stands after a term's entries.
after-term : (t : List ℕ) (e : ℕ) (p : Pat) (xs : List Entry) → Rows t e (pat_entries e p ++ xs) → Rows t e (pat_entries e p) × Rows t (e + size p) xs
after-term t e p xs h =
    let (a, c) = rows_append t e (pat_entries e p) xs h in
    (a, subst (λ (n : ℕ). Rows t n xs) (ap (λ (n : ℕ). e + n) (length-pat e p)) c)

code-first : (c : Condition) (cs : List Condition) (p : Pat) → code_size (conditions_code (c ∷ cs) p) ≡ condition_size c + code_size (conditions_code cs p)
unfolding conditions_code condition_code code_size
code-first c cs p = omega arith

code-some : (a : Entries.Code) → 1 ≤ code_size a
unfolding code_size
code-some (Entries.scope m a) = omega arith
code-some (Entries.seq a c) = omega arith
code-some (Entries.where-of a) = omega arith
code-some (Entries.match p) = omega arith
code-some (Entries.build p) = omega arith
code-some (Entries.call x) = omega arith

pub record Opened (t : List ℕ) (u e : ℕ) (c : Condition) (cs : List Condition) (p : Pat) : Type 0 where
  pub kind : kind_of t e ≡ 4
  pub here : ConditionHere t u e c
  pub others : ConditionsAt t u (e + condition_size c) cs p

pub opened : (t : List ℕ) (u e : ℕ) (c : Condition) (cs : List Condition) (p : Pat) → ConditionsAt t u e (c ∷ cs) p → Opened t u e c cs p
unfolding conditions_code condition_code code_size code_entries
opened t u e c cs p h = go h.plain (rows-first _ _ t e h.rows)
  where
    go : PlainConditions (c ∷ cs) → Row t e (strategy (SEQ (suc e) (suc e + code_size (condition_code c)))) × Rows t (suc e)
        (code_entries (suc e) (condition_code c) ++ code_entries (suc e + code_size (condition_code c)) (conditions_code cs p)) → Opened t u e c cs p
    go (plain-next l i j g) (first, rest) =
        let (wr, rr) = rows_append t (suc e) (code_entries (suc e) (condition_code c)) (code_entries (suc e + code_size (condition_code c)) (conditions_code cs p)) rest in
        let (w1, w2) = rows-first _ _ t (suc e) wr in
        let (w3, w4) = rows-first _ _ t (suc (suc e)) w2 in
        let (w5, w6) = rows-first _ _ t (suc (suc (suc e))) w4 in
        let (pe, ce) = after-term t (suc (suc (suc (suc e)))) c.start _ w6 in
        let (c1, c2) = rows-first _ _ t (suc (suc (suc (suc e))) + size c.start) ce in
        let (c3, c4) = rows-first _ _ t (suc (suc (suc (suc (suc e))) + size c.start)) c2 in
        let (c5, c6) = rows-first _ _ t (suc (suc (suc (suc (suc (suc e))) + size c.start))) c4 in
        let four : suc (suc (suc (suc e))) ≡ e + 4 = omega arith in
        let at_call : suc (suc (suc (suc (suc e))) + size c.start) ≡ e + 4 + size c.start + 1 = omega arith in
        let at-outcome : suc (suc (suc (suc (suc (suc (suc e))) + size c.start))) ≡ e + 4 + size c.start + 3 = omega arith in
        let of-outcome : suc (suc (suc (suc (suc e)) + suc (size c.start)) + 1) ≡ e + 4 + size c.start + 3 = omega arith in
        let room : e + (condition_size c + code_size (conditions_code cs p)) ≤ u = omega (arith, h.inside, code-first c cs p) in
        let some : 1 ≤ code_size (conditions_code cs p) = code-some (conditions_code cs p) in
        let size_is : suc e + length (code_entries (suc e) (condition_code c)) ≡ e + condition_size c = omega (arith, length-code (suc e) (condition_code c)) in
        let size_of : suc e + code_size (condition_code c) ≡ e + condition_size c = omega arith in
        record {
          kind = seq-kind t e _ _ first;
          here = record {
            start = record { plain = i; inside = omega arith; rows = subst (λ (n : ℕ). Rows t n (pat_entries n c.start)) four pe };
            called = subst (λ (n : ℕ). word_at t n 2 ≡ c.callee) at_call (call-word t _ c.callee c3);
            outcome = record {
              plain = j;
              inside = omega arith;
              rows = subst (λ (n : ℕ). Rows t n (pat_entries (e + 4 + size c.start + 3) c.outcome)) at-outcome
                  (subst (λ (n : ℕ). Rows t (suc (suc (suc (suc (suc (suc (suc e))) + size c.start)))) (pat_entries n c.outcome)) of-outcome c6);
            };
          };
          others = record {
            plain = g;
            inside = omega arith;
            rows = subst (λ (n : ℕ). Rows t n (code_entries (e + condition_size c) (conditions_code cs p))) size_is
                (subst (λ (n : ℕ). Rows t (suc e + length (code_entries (suc e) (condition_code c))) (code_entries n (conditions_code cs p))) size_of rr);
          };
        }

fields_join : (cs ds : List Condition) → conditions_fields (cs ++ ds) ≡ conditions_fields cs ++ conditions_fields ds
unfolding conditions_fields
fields_join [] ds = refl
fields_join (c ∷ cs) ds =
    ap (λ (fs : Fields). decimal c.callee ∷ fs)
    (rw (fields_join cs ds) (sym (append_assoc (pat_fields c.start) (pat_fields c.outcome ++ conditions_fields cs) (conditions_fields ds)
    ∙ ap (λ (fs : Fields). pat_fields c.start ++ fs) (append_assoc (pat_fields c.outcome) (conditions_fields cs) (conditions_fields ds)))))

size-join : (cs : List Condition) (c : Condition) → conditions_size (cs ++ (c ∷ [])) ≡ conditions_size cs + condition_size c
unfolding conditions_size
size-join [] c = omega arith
size-join (d ∷ cs) c = omega (arith, size-join cs c)

-- ---- the loop

pub record Conds (t : List ℕ) (u first from : ℕ) (b₀ : List ℕ) (cs : List Condition) (p : Pat) (b : List ℕ) (e at : ℕ) : Type 0 where
  pub rest : List Condition
  pub here : ConditionsAt t u e rest p
  pub done : List Condition
  pub all : done ++ rest ≡ cs
  pub entries : e ≡ first + conditions_size done
  pub wrote : Wrote b₀ from (ended (conditions_fields done)) b at

pub record Lists (t : List ℕ) (u first from : ℕ) (b₀ b : List ℕ) (e at : ℕ) : Type 0 where
  pub low : first ≤ e
  pub high : e ≤ first + 7 + 3 * u
  pub within : at ≤ length b
  pub same : length b ≡ length b₀
  pub going : (cs : List Condition) (p : Pat) → ConditionsAt t u first cs p → from + width (conditions_fields cs) + 24 ≤ length b₀ → Conds t u first from b₀ cs p b e at

pub lists-begin : (t : List ℕ) (u first from : ℕ) (b₀ : List ℕ) → from ≤ length b₀ → Lists t u first from b₀ b₀ first from
unfolding conditions_size conditions_fields ended
lists-begin t u first from b₀ l = record {
  low = omega arith;
  high = omega arith;
  within = l;
  same = refl;
  going = λ cs p h room. record { rest = cs; here = h; done = []; all = refl; entries = omega arith; wrote = wrote_none b₀ from };
}

-- The build is no SEQ.
pub at-build : (t : List ℕ) (u e : ℕ) (p : Pat) → ConditionsAt t u e [] p → kind_of t e ≡ 15
unfolding conditions_code code_entries
at-build t u e p h = build-kind t e _ (rows-first _ _ t e h.rows).0

module _ {t : List ℕ} {u first from : ℕ} {b₀ b : List ℕ} {e at : ℕ} (g : Lists t u first from b₀ b e at) where
  pub lists-leaves : Leaves first (first + 7 + 3 * u) b (record { entry = e; at = at })
  lists-leaves = record { from = g.low; most = g.high; within = g.within }

  pub lists-stop : (kind_of t e ≡ 4 → ⊥) → WritesConditions t u first b₀ from b (record { entry = e; at = at })
  lists-stop n cs p h room = go (g.going cs p h room)
    where
      end : (rest done : List Condition) → ConditionsAt t u e rest p → done ++ rest ≡ cs → done ≡ cs
      end [] done k z = sym (append-nil done) ∙ z
      end (c ∷ rest) done k z = absurd (n (opened t u e c rest p k).kind)

      go : Conds t u first from b₀ cs p b e at → (e ≡ first + conditions_size cs) × Wrote b₀ from (ended (conditions_fields cs)) b at
      go k =
          let z : k.done ≡ cs = end k.rest k.done k.here k.all in
          (subst (λ (ds : List Condition). e ≡ first + conditions_size ds) z k.entries, subst (λ (ds : List Condition). Wrote b₀ from (ended (conditions_fields ds)) b at) z k.wrote)

  pub lists-end : u ≤ e → WritesConditions t u first b₀ from b (record { entry = e; at = at })
  lists-end l cs p h room = let k = g.going cs p h room in absurd (omega (arith, k.here.inside, code-some (conditions_code k.rest p)))

  module _ (kind : kind_of t e ≡ 4) (low : e < u) {b' : List ℕ} {r : Passed} (leaves : Leaves (e + 4) (e + 7 + 2 * u) b' r) (writes : WritesCondition t u e b at b' r)
      (same : length b' ≡ length b) where
    pub lists-on : Lists t u first from b₀ b' r.entry r.at
    lists-on = record {
      low = omega (arith, g.low, leaves.from);
      high = omega (arith, leaves.most);
      within = leaves.within;
      same = same ∙ g.same;
      going = λ cs p h room. let k = g.going cs p h room in step cs p room k.rest k.here k k.all;
    }
      where
        step : (cs : List Condition) (p : Pat) → from + width (conditions_fields cs) + 24 ≤ length b₀ → (rest : List Condition) → ConditionsAt t u e rest p
            → (k : Conds t u first from b₀ cs p b e at) → k.done ++ rest ≡ cs → Conds t u first from b₀ cs p b' r.entry r.at
        step cs p room [] h k z = absurd (omega (arith, kind, at-build t u e p h))
        step cs p room (c ∷ rest) h k z =
            let o = opened t u e c rest p h in
            let y : k.done ++ (c ∷ rest) ≡ (k.done ++ (c ∷ [])) ++ rest = sym (append_assoc k.done (c ∷ []) rest) in
            let all : (k.done ++ (c ∷ [])) ++ rest ≡ cs = sym y ∙ z in
            let wide : width (conditions_fields cs) ≡ width (conditions_fields k.done) + (width (conditions_fields (c ∷ [])) + width (conditions_fields rest)) =
            ap (λ (ds : List Condition). width (conditions_fields ds)) (sym z)
            ∙ ap width (fields_join k.done ((c ∷ []) ++ rest) ∙ ap (λ (fs : Fields). conditions_fields k.done ++ fs) (fields_join (c ∷ []) rest))
            ∙ width-append (conditions_fields k.done) (conditions_fields (c ∷ []) ++ conditions_fields rest) ∙ omega (arith, width-append (conditions_fields (c ∷ [])) (conditions_fields rest)) in
            let (a, w) = writes c o.here (omega (arith, room, wide, g.same, k.wrote.place, length-ended (conditions_fields k.done))) in
            record {
              rest = rest;
              here = subst (λ (n : ℕ). ConditionsAt t u n rest p) (sym a) o.others;
              done = k.done ++ (c ∷ []);
              all = all;
              entries = omega (arith, a, k.entries, size-join k.done c);
              wrote = wrote_as (sym (ended-append (conditions_fields k.done) (conditions_fields (c ∷ []))) ∙ ap ended (sym (fields_join k.done (c ∷ [])))) (wrote-more k.wrote w);
            }

    pub lists-further : e < r.entry
    lists-further = omega (arith, leaves.from)

-- ---- the whole line

-- The right term stands after the build.
pub last-term : (t : List ℕ) (u : ℕ) (cs : List Condition) (p : Pat) (e : ℕ) → Plain p → ConditionsAt t u e cs p → TermAt t u (e + conditions_size cs + 1) p
unfolding conditions_size conditions_code code_entries code_size
last-term t u [] p e i h =
    let z : suc e ≡ e + 0 + 1 = omega arith in
    record { plain = i; inside = omega (arith, h.inside); rows = subst (λ (n : ℕ). Rows t n (pat_entries n p)) z (rows-first _ _ t e h.rows).1 }
last-term t u (c ∷ cs) p e i h =
    let z : e + condition_size c + conditions_size cs + 1 ≡ e + (condition_size c + conditions_size cs) + 1 = omega arith in
    subst (λ (n : ℕ). TermAt t u n p) z (last-term t u cs p (e + condition_size c) i (opened t u e c cs p h).others)

pub record Parts (t : List ℕ) (u e : ℕ) (q : Rule) : Type 0 where
  pub left : TermAt t u (e + 3) q.left
  pub conditions : ConditionsAt t u (e + 3 + size q.left) q.conditions q.right

pub rule-parts : (t : List ℕ) (u e : ℕ) (q : Rule) → RuleAt t u e q → Parts t u e q
unfolding rule_entries rule_code code_entries code_size
rule-parts t u e q h =
    let (a1, a2) = rows-first _ _ t e h.rows in
    let (b1, b2) = rows-first _ _ t (suc e) a2 in
    let (c1, c2) = rows-first _ _ t (suc (suc e)) b2 in
    let (d1, d2) = after-term t (suc (suc (suc e))) q.left _ c2 in
    let three : suc (suc (suc e)) ≡ e + 3 = omega arith in
    let after : suc (suc (suc e)) + size q.left ≡ e + 3 + size q.left = omega arith in
    let after' : suc (suc e) + suc (size q.left) ≡ e + 3 + size q.left = omega arith in
    record {
      left = record { plain = h.plain.left; inside = omega (arith, h.inside); rows = subst (λ (n : ℕ). Rows t n (pat_entries n q.left)) three d1 };
      conditions = record {
        plain = h.plain.conditions;
        inside = omega (arith, h.inside);
        rows = subst (λ (n : ℕ). Rows t n (code_entries (e + 3 + size q.left) (conditions_code q.conditions q.right))) after
            (subst (λ (n : ℕ). Rows t (suc (suc (suc e)) + size q.left) (code_entries n (conditions_code q.conditions q.right))) after' d2);
      };
    }

count-one : (n : ℕ) → n ≤ 6 → length (decimal n) ≤ 1
count-one n l = omega (arith, length-one n (omega arith))

mutual
  unfolding pat_fields pats_fields width size sizes

  pat-width : (p : Pat) → Plain p → width (pat_fields p) ≤ 13 * size p
  pat-width (var v) (plain-var l) = omega (arith, number-long v)
  pat-width (con c ps) (plain-con l m h) = omega (arith, number-long c, count-one (count ps) m, pats-width ps h)

  pats-width : (ps : Pats) → Plains ps → width (pats_fields ps) ≤ 13 * sizes ps
  pats-width none plain-none = omega arith
  pats-width (more p ps) (plain_more h g) = omega (arith, width-append (pat_fields p) (pats_fields ps), pat-width p h, pats-width ps g)

conditions-width : (cs : List Condition) (p : Pat) → PlainConditions cs → width (conditions_fields cs) + 13 * size p ≤ 13 * code_size (conditions_code cs p)
unfolding conditions_fields width conditions_code condition_code code_size
conditions-width [] p plain_end = omega arith
conditions-width (c ∷ cs) p (plain-next l i j g) =
    omega (
      arith,
      width-append (pat_fields c.start) (pat_fields c.outcome ++ conditions_fields cs),
      width-append (pat_fields c.outcome) (conditions_fields cs),
      number-long c.callee,
      pat-width c.start i,
      pat-width c.outcome j,
      conditions-width cs p g,
    )

rule-width : (q : Rule) → PlainRule q → width (rule_fields q) ≤ 13 * rule_size q
unfolding rule_fields rule_code code_size
rule-width q h =
    omega (
      arith,
      width-append (pat_fields q.left) (pat_fields q.right ++ conditions_fields q.conditions),
      width-append (pat_fields q.right) (conditions_fields q.conditions),
      pat-width q.left h.left,
      pat-width q.right h.right,
      conditions-width q.conditions q.right h.conditions,
    )

rule-fields : (q : Rule) → width (rule_fields q) ≡ width (pat_fields q.left) + (width (pat_fields q.right) + width (conditions_fields q.conditions))
unfolding rule_fields
rule-fields q = omega (arith, width-append (pat_fields q.left) (pat_fields q.right ++ conditions_fields q.conditions), width-append (pat_fields q.right) (conditions_fields q.conditions))

rule-text : (q : Rule) → ended (pat_fields q.left) ++ (ended (pat_fields q.right) ++ ended (conditions_fields q.conditions)) ≡ ended (rule_fields q)
unfolding rule_fields
rule-text q =
    ap (λ (x : List ℕ). ended (pat_fields q.left) ++ x) (sym (ended-append (pat_fields q.right) (conditions_fields q.conditions)))
    ∙ sym (ended-append (pat_fields q.left) (pat_fields q.right ++ conditions_fields q.conditions))

-- The left term, the conditions to find the build, the right term in their place, and the conditions after it.
pub line-has : (t : List ℕ) (u e : ℕ) {b₀ b₁ b₂ b₃ b₄ : List ℕ} {r₁ r₂ r₃ r₄ : Passed} → u ≤ 4096 → 53272 ≤ length b₀
    → WritesTerm t u (e + 3) b₀ 0 b₁ r₁ → length b₁ ≡ length b₀ → r₁.at ≤ length b₁
    → WritesConditions t u r₁.entry b₁ r₁.at b₂ r₂ → length b₂ ≡ length b₁
    → WritesTerm t u (r₂.entry + 1) b₂ r₁.at b₃ r₃ → length b₃ ≡ length b₂
    → WritesConditions t u r₁.entry b₃ r₃.at b₄ r₄
    → HasLine t u e b₄ r₄.at
line-has t u e {b₀} {b₁} {b₂} {b₃} {b₄} {r₁} {r₂} {r₃} {r₄} few long left same₁ inside skip same₂ right same₃ again q h =
    let parts = rule-parts t u e q h in
    let wide : width (rule_fields q) + 24 ≤ length b₀ = omega (arith, rule-width q h.plain, h.inside) in
    let (i, w₁) = left q.left parts.left (omega (arith, rule-fields q)) in
    let cs : ConditionsAt t u r₁.entry q.conditions q.right = subst (λ (n : ℕ). ConditionsAt t u n q.conditions q.right) (sym i) parts.conditions in
    let (j, w₂) = skip q.conditions q.right cs (omega (arith, rule-fields q, same₁, w₁.place, length-ended (pat_fields q.left))) in
    let term : TermAt t u (r₂.entry + 1) q.right = subst (λ (n : ℕ). TermAt t u (n + 1) q.right) (sym j) (last-term t u q.conditions q.right r₁.entry h.plain.right cs) in
    let (k, w₃) = right q.right term (omega (arith, rule-fields q, same₁, same₂, w₁.place, length-ended (pat_fields q.left))) in
    let (l, w₄) = again q.conditions q.right cs
    (omega (arith, rule-fields q, same₁, same₂, same₃, w₁.place, w₃.place, length-ended (pat_fields q.left), length-ended (pat_fields q.right))) in
    let kept : take r₁.at b₂ ≡ take r₁.at b₁ = wrote-before w₂ r₁.at (omega arith) inside in
    w₄.text
    ∙ ap (λ (x : List ℕ). x ++ ended (conditions_fields q.conditions)) (w₃.text ∙ ap (λ (x : List ℕ). x ++ ended (pat_fields q.right)) (kept ∙ w₁.text))
    ∙ append_assoc (ended (pat_fields q.left)) (ended (pat_fields q.right)) (ended (conditions_fields q.conditions))
    ∙ rule-text q
