-- The loop that passes a term's entries and writes their fields: what is written and the fields of what is left are the term's.
-- Assumes nothing.
use mathlib.Core.Path.{◌≡◌, refl, ap, sym, ◌∙◌, subst}
use mathlib.Core.List.{List, [], ◌∷◌, ◌++◌, append_assoc, append-nil}
use Prim.Native.Nat.{ℕ, suc, ◌+◌, ◌-◌, ◌*◌, ◌≤◌, ◌<◌}
use native.Mathlib.Omega.{arith}
use lib.ListN.{length, length-append}
use Rattle.words.specs.Words.{word_at}
use Rattle.checks.specs.Good.{kind_of, operand_count}
use Rattle.meaning.specs.Table.{PVAR, PCON}
use Rattle.text.specs.Text.{decimal}
use Rattle.rules.specs.Rule.{Pat, Pats, var, con, none, more, count}
use Rattle.rules.specs.Text.{Fields, pat_fields, pats_fields, plain-var, plain-con, Plains, plain-none, plain_more}
use Rattle.rules.specs.Entries.{pattern, size, sizes, places, pat_entries, pats_entries, row_of, Row, Rows}
use Rattle.rules.specs.Scan.{width}
use Rattle.rules.proofs.Sizes.{length-places}
use Rattle.rules.proofs.Terms.{width-append}
use Rattle.translate.proofs.Preorder.{rows-first}
use Rattle.write_rules.specs.Lines.{ended, Wrote, entry_text, TermAt, Leaves, WritesTerm}
use Rattle.write_rules.specs.declared.term.Passed.{Passed}
use Rattle.write_rules.proofs.Writing.{wrote_none, wrote-more, entry-variable, entry-constructor, entry-long}

-- ---- fields with a tab after each

pub ended-append : (fs gs : Fields) → ended (fs ++ gs) ≡ ended fs ++ ended gs
unfolding ended
ended-append [] gs = refl
ended-append (f ∷ fs) gs = rw (ended-append fs gs) (sym (append_assoc f (9 ∷ ended fs) (ended gs)))

pub length-ended : (fs : Fields) → length (ended fs) ≡ width fs
unfolding ended width
length-ended [] = refl
length-ended (f ∷ fs) = omega (arith, length-append f (9 ∷ ended fs), length-ended fs)

-- ---- terms one after the other

unfoldable pub along : Pats → Pats → Pats
along none qs = qs
along (more p ps) qs = more p (along ps qs)

module _ (qs : Pats) where
  count-along : (ps : Pats) → count (along ps qs) ≡ count ps + count qs
  unfolding along count
  count-along none = omega arith
  count-along (more p ps) = omega (arith, count-along ps)

  sizes-along : (ps : Pats) → sizes (along ps qs) ≡ sizes ps + sizes qs
  unfolding along sizes
  sizes-along none = omega arith
  sizes-along (more p ps) = omega (arith, sizes-along ps)

  fields-along : (ps : Pats) → pats_fields (along ps qs) ≡ pats_fields ps ++ pats_fields qs
  unfolding along pats_fields
  fields-along none = refl
  fields-along (more p ps) = rw (fields-along ps) (sym (append_assoc (pat_fields p) (pats_fields ps) (pats_fields qs)))

  entries-along : (ps : Pats) (e : ℕ) → pats_entries e (along ps qs) ≡ pats_entries e ps ++ pats_entries (e + sizes ps) qs
  unfolding along pats_entries sizes
  entries-along none e = let z : e + 0 ≡ e = omega arith in rw z
  entries-along (more p ps) e =
      let z : e + size p + sizes ps ≡ e + (size p + sizes ps) = omega arith in
      rw (entries-along ps (e + size p), z) (sym (append_assoc (pat_entries e p) (pats_entries (e + size p) ps) (pats_entries (e + (size p + sizes ps)) qs)))

  plains-along : {ps : Pats} → Plains ps → Plains qs → Plains (along ps qs)
  unfolding along
  plains-along plain-none h = h
  plains-along (plain_more i g) h = plain_more i (plains-along g h)

-- ---- the first entry of what is left

record First (t : List ℕ) (e : ℕ) (rest : Pats) : Type 0 where
  fields : Fields
  text : entry_text t e ≡ ended fields
  left : Pats
  plain : Plains left
  rows : Rows t (e + 1) (pats_entries (e + 1) left)
  counts : count rest + operand_count t e ≡ suc (count left)
  sized : sizes rest ≡ suc (sizes left)
  all : pats_fields rest ≡ fields ++ pats_fields left
  kind : 18 ≤ kind_of t e

module _ (t : List ℕ) (e : ℕ) where
  pub variable-words : (v : ℕ) → Row t e (pattern (PVAR v)) → (kind_of t e ≡ 18) × (operand_count t e ≡ 0) × (word_at t e 1 ≡ v)
  unfolding row_of
  variable-words v h = let z : word_at t e 0 ≡ 288 = h 0 (omega arith) in (omega (arith, z), omega (arith, z), h 1 (omega arith))

  pub constructor-words : (c : ℕ) (os : List ℕ) → length os ≤ 6 → Row t e (pattern (PCON c os)) → (kind_of t e ≡ 19) × (operand_count t e ≡ length os) × (word_at t e 1 ≡ c)
  unfolding row_of
  constructor-words c os l h = let z : word_at t e 0 ≡ 16 * 19 + length os = h 0 (omega arith) in (omega (arith, z), omega (arith, z), h 1 (omega arith))

  first_of : (rest : Pats) → 0 < count rest → Plains rest → Rows t e (pats_entries e rest) → First t e rest
  unfolding count sizes size pats_fields pat_fields pats_entries pat_entries ended
  first_of none l plain-none h = absurd (omega arith)
  first_of (more (var v) ps) l (plain_more (plain-var m) g) h =
      let (a, b) = rows-first (pattern (PVAR v)) (pats_entries (e + 1) ps) t e h in
      let (k, n, w) = variable-words v a in
      let z : suc e ≡ e + 1 = omega arith in
      record {
        fields = (118 ∷ decimal v) ∷ [];
        text = entry-variable t e k ∙ ap (λ (x : ℕ). 118 ∷ (decimal x ++ (9 ∷ []))) w;
        left = ps;
        plain = g;
        rows = subst (λ (i : ℕ). Rows t i (pats_entries (e + 1) ps)) z b;
        counts = omega (arith, n);
        sized = omega arith;
        all = refl;
        kind = omega (arith, k);
      }
  first_of (more (con c qs) ps) l (plain_more (plain-con m n i) g) h =
      let (a, b) = rows-first (pattern (PCON c (places (suc e) qs))) (pats_entries (suc e) qs ++ pats_entries (e + suc (sizes qs)) ps) t e h in
      let (k, o, w) = constructor-words c (places (suc e) qs) (omega (arith, length-places (suc e) qs)) a in
      let z : suc e ≡ e + 1 = omega arith in
      let y : e + suc (sizes qs) ≡ suc e + sizes qs = omega arith in
      let r : Rows t (suc e) (pats_entries (suc e) (along qs ps)) =
      subst (Rows t (suc e)) (ap (λ (x : ℕ). pats_entries (suc e) qs ++ pats_entries x ps) y ∙ sym (entries-along ps qs (suc e))) b in
      let u : operand_count t e ≡ count qs = o ∙ length-places (suc e) qs in
      record {
        fields = decimal c ∷ decimal (count qs) ∷ [];
        text =
            entry-constructor t e (λ x. omega (arith, k, x))
            ∙ ap (λ (x : ℕ). (decimal x ++ (9 ∷ [])) ++ (decimal (operand_count t e) ++ (9 ∷ []))) w
            ∙ ap (λ (x : ℕ). (decimal c ++ (9 ∷ [])) ++ (decimal x ++ (9 ∷ []))) u
            ∙ append_assoc (decimal c) (9 ∷ []) (decimal (count qs) ++ (9 ∷ []));
        left = along qs ps;
        plain = plains-along ps i g;
        rows = subst (λ (x : ℕ). Rows t x (pats_entries x (along qs ps))) z r;
        counts = omega (arith, u, count-along ps qs);
        sized = omega (arith, sizes-along ps qs);
        all = ap (λ (fs : Fields). decimal c ∷ decimal (count qs) ∷ fs) (sym (fields-along ps qs));
        kind = omega (arith, k);
      }

-- ---- the loop

pub record Going (t : List ℕ) (first from : ℕ) (b₀ : List ℕ) (p : Pat) (b : List ℕ) (wanted e at : ℕ) : Type 0 where
  pub rest : Pats
  pub plain : Plains rest
  pub rows : Rows t e (pats_entries e rest)
  pub counts : wanted ≡ count rest
  pub entries : e + sizes rest ≡ first + size p
  pub done : Fields
  pub wrote : Wrote b₀ from (ended done) b at
  pub fields : done ++ pats_fields rest ≡ pat_fields p

pub record Walks (t : List ℕ) (u first from : ℕ) (b₀ b : List ℕ) (wanted e at : ℕ) : Type 0 where
  pub low : first ≤ e
  pub high : e ≤ first + u
  pub within : at ≤ length b
  pub same : length b ≡ length b₀
  pub few : wanted ≤ 1 + 15 * (e - first)
  pub going : (p : Pat) → TermAt t u first p → from + width (pat_fields p) + 24 ≤ length b₀ → Going t first from b₀ p b wanted e at

pub walks-begin : (t : List ℕ) (u first from : ℕ) (b₀ : List ℕ) → from ≤ length b₀ → Walks t u first from b₀ b₀ 1 first from
unfolding count sizes pats_fields pats_entries ended
walks-begin t u first from b₀ l = record {
  low = omega arith;
  high = omega arith;
  within = l;
  same = refl;
  few = omega arith;
  going = λ p h room. record {
    rest = more p none;
    plain = plain_more h.plain plain-none;
    rows = subst (Rows t first) (sym (append-nil (pat_entries first p))) h.rows;
    counts = refl;
    entries = omega arith;
    done = [];
    wrote = wrote_none b₀ from;
    fields = append-nil (pat_fields p);
  };
}

module _ {t : List ℕ} {u first from : ℕ} {b₀ b : List ℕ} {wanted e at : ℕ} (w : Walks t u first from b₀ b wanted e at) where
  abbrev passed : Passed
  passed = record { entry = e; at = at }

  pub walks-leaves : Leaves first (first + u) b (record { entry = e; at = at })
  walks-leaves = record { from = w.low; most = w.high; within = w.within }

  pub walks_same : length b ≡ length b₀
  walks_same = w.same

  -- All is written.
  pub walks-end : wanted ≤ 0 → WritesTerm t u first b₀ from b (record { entry = e; at = at })
  unfolding count sizes pats_fields
  walks-end z p h room = go (w.going p h room)
    where
      nothing : (ps : Pats) → count ps ≡ 0 → (sizes ps ≡ 0) × (pats_fields ps ≡ [])
      nothing none c = (refl, refl)
      nothing (more q ps) c = absurd (omega arith)

      go : Going t first from b₀ p b wanted e at → (e ≡ first + size p) × Wrote b₀ from (ended (pat_fields p)) b at
      go g =
          let (a, c) = nothing g.rest (omega (arith, g.counts)) in
          let d : g.done ≡ pat_fields p = sym (append-nil g.done) ∙ ap (λ (fs : Fields). g.done ++ fs) (sym c) ∙ g.fields in
          (omega (arith, g.entries, a), subst (λ (fs : Fields). Wrote b₀ from (ended fs) b at) d g.wrote)

  module _ (some : 0 < wanted) where
    next : (p : Pat) (h : TermAt t u first p) (room : from + width (pat_fields p) + 24 ≤ length b₀) → First t e (w.going p h room).rest
    next p h room = let g = w.going p h room in first_of t e g.rest (omega (arith, g.counts)) g.plain g.rows

    -- No term's entries are left where something stops the loop.
    pub stop-used : u ≤ e → WritesTerm t u first b₀ from b (record { entry = e; at = at })
    stop-used l p h room = absurd (omega (arith, (w.going p h room).entries, (next p h room).sized, h.inside))

    pub stop-kind : kind_of t e < 18 → WritesTerm t u first b₀ from b (record { entry = e; at = at })
    stop-kind l p h room = absurd (omega (arith, (next p h room).kind))

    pub stop-room : length b - at < 24 → WritesTerm t u first b₀ from b (record { entry = e; at = at })
    stop-room l p h room =
        let g = w.going p h room in
        absurd (omega (arith, l, w.same, g.wrote.place, length-ended g.done, width-append g.done (pats_fields g.rest), ap width g.fields, room))

    pub walks-on : e < u → {b' : List ℕ} {r : ℕ} → Wrote b at (entry_text t e) b' r → length b' ≡ length b → at + 24 ≤ length b → (n : ℕ) → n ≡ operand_count t e
        → Walks t u first from b₀ b' (wanted - 1 + n) (e + 1) r
    walks-on l {b'} {r} wr s fits n z = record {
      low = omega (arith, w.low);
      high = omega (arith, w.low);
      within = omega (arith, wr.place, entry-long t e);
      same = s ∙ w.same;
      few = omega (arith, w.few, w.low, z);
      going = λ p h room.
          let g = w.going p h room in
          let f = next p h room in
          record {
            rest = f.left;
            plain = f.plain;
            rows = f.rows;
            counts = omega (arith, g.counts, f.counts, z);
            entries = omega (arith, g.entries, f.sized);
            done = g.done ++ f.fields;
            wrote = subst (λ (x : List ℕ). Wrote b₀ from x b' r) (sym (ended-append g.done f.fields)) (wrote-more g.wrote (subst (λ (x : List ℕ). Wrote b at x b' r) f.text wr));
            fields = append_assoc g.done f.fields (pats_fields f.left) ∙ ap (λ (fs : Fields). g.done ++ fs) (sym f.all) ∙ g.fields;
          };
    }
