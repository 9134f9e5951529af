-- What the code's loop over a term's fields says of the grammar: it goes through terms as they are written, or stops at the
-- first field that no reading passes.
use mathlib.Core.Path.{◌≡◌, refl, ap, sym, ◌∙◌}
use mathlib.Core.Option.{Option, none, some}
use mathlib.Core.List.{List, [], ◌∷◌, ◌++◌}
use Prim.Native.Nat.{ℕ, zero, suc, ◌+◌, ◌≤◌}
use native.Mathlib.Omega.{arith}
use lib.ListN.{length}
use Rattle.text.specs.Text.{one_word, number_of, decimal}
use Rattle.rules.specs.Rule.{Pat, Pats, var, con, none as no-pats, more as more-pats, count}
use Rattle.rules.specs.Text.{Fields, pat_fields, pats_fields, plain-var, plain-con, Plains, plain-none, plain_more, Head, variable, constructor, neither, head_of, up_to_six, Read}
use Rattle.rules.specs.Text.{bad, later, first_of, others_of, in_front, parent, read, counted}
use Rattle.rules.specs.Entries.{size, sizes}
use Rattle.rules.specs.Scan.{width, stopped, finished, scanned, scanned_count}
use Rattle.rules.proofs.Reading.{head-var-text, head-con-text, count-text, count-first, count-others, fields-apart, plain-first, plain-others}
use Rattle.rules.proofs.Scanning.{scan-end}

-- w terms, or the first bad field
pub data Told (fs : Fields) (w at n s : ℕ) : Type 0 where
  told-good : (ps : Pats) (rest : Fields) → Plains ps → count ps ≡ w → fs ≡ pats_fields ps ++ rest
      → scanned fs w at n s ≡ finished (at + width (pats_fields ps)) (n + length (pats_fields ps)) (s + sizes ps) → Told fs w at n s
  told-bad : (i a z : ℕ) → ((k : ℕ) → read fs (w + k) ≡ bad i) → scanned fs w at n s ≡ stopped a (n + i) z → Told fs w at n s

-- the same after a constructor: its count, and then its children and w terms more
data ToldCount (c : ℕ) (fs : Fields) (w at n s : ℕ) : Type 0 where
  count-good : (m : ℕ) (ps : Pats) (rest : Fields) → m ≤ 6 → Plains ps → count ps ≡ m + w → fs ≡ decimal m ∷ (pats_fields ps ++ rest)
      → scanned_count fs w at n s ≡ finished (at + width (decimal m ∷ pats_fields ps)) (n + length (decimal m ∷ pats_fields ps)) (s + suc (sizes ps)) → ToldCount c fs w at n s
  count-bad : (i a z : ℕ) → ((k : ℕ) → counted fs c (w + k) ≡ bad i) → scanned_count fs w at n s ≡ stopped a (n + i) z → ToldCount c fs w at n s

-- three numbers of an end, each written otherwise
pub same_end : {at n s a m z : ℕ} → at ≡ a → n ≡ m → s ≡ z → finished at n s ≡ finished a m z
same_end p q r = λ i. finished (p i) (q i) (r i)

same_stop : {n m : ℕ} (a z : ℕ) → n ≡ m → stopped a n z ≡ stopped a m z
same_stop a z q = λ i. stopped a (q i) z

none-wanted : (fs : Fields) (at n s : ℕ) → Told fs 0 at n s
unfolding pats_fields width count sizes
none-wanted fs at n s = told-good no-pats fs plain-none refl refl (scan-end fs at n s ∙ same_end (omega arith) (omega arith) (omega arith))

-- the next field begins no term
told-neither : (f : List ℕ) (fs : Fields) (w at n s : ℕ) → head_of f ≡ neither → Told (f ∷ fs) (suc w) at n s
unfolding scanned read
told-neither f fs w at n s h = told-bad 0 at s (λ k. let z : suc w + k ≡ suc (w + k) = omega arith in rw (z, h)) (rw h (same_stop at s (omega arith)))

scan-head-variable : (f : List ℕ) (fs : Fields) (w at n s v : ℕ) → head_of f ≡ variable v → scanned (f ∷ fs) (suc w) at n s ≡ scanned fs w (at + length f + 1) (n + 1) (s + 1)
unfolding scanned
scan-head-variable f fs w at n s v h = rw h

read-head-variable : (f : List ℕ) (fs : Fields) (w k v : ℕ) → head_of f ≡ variable v → read (f ∷ fs) (suc w + k) ≡ later (in_front (var v) (read fs (w + k)))
unfolding read
read-head-variable f fs w k v h = let z : suc w + k ≡ suc (w + k) = omega arith in rw (z, h)

later-front-bad : (p : Pat) (x : Read) (i : ℕ) → x ≡ bad i → later (in_front p x) ≡ bad (suc i)
unfolding later in_front
later-front-bad p x i e = rw e

told-variable : (f : List ℕ) (fs : Fields) (w at n s v : ℕ) → head_of f ≡ variable v → Told fs w (at + length f + 1) (n + 1) (s + 1) → Told (f ∷ fs) (suc w) at n s
unfolding pat_fields pats_fields width count size sizes
told-variable f fs w at n s v h (told-good ps rest i c t e) =
    let (x, y) = head-var-text f v h in
    told-good (more-pats (var v) ps) rest (plain_more (plain-var y) i) (ap suc c) (rw (x, t))
    (scan-head-variable f fs w at n s v h ∙ e ∙ same_end (omega (arith, ap length x)) (omega arith) (omega arith))
told-variable f fs w at n s v h (told-bad i a z r e) =
    told-bad (suc i) a z (λ k. read-head-variable f fs w k v h ∙ later-front-bad (var v) (read fs (w + k)) i (r k)) (scan-head-variable f fs w at n s v h ∙ e ∙ same_stop a z (omega arith))

scan-head-constructor : (f : List ℕ) (fs : Fields) (w at n s c : ℕ) → head_of f ≡ constructor c → scanned (f ∷ fs) (suc w) at n s ≡ scanned_count fs w (at + length f + 1) (n + 1) s
unfolding scanned
scan-head-constructor f fs w at n s c h = rw h

read-head-constructor : (f : List ℕ) (fs : Fields) (w k c : ℕ) → head_of f ≡ constructor c → read (f ∷ fs) (suc w + k) ≡ later (counted fs c (w + k))
unfolding read
read-head-constructor f fs w k c h = let z : suc w + k ≡ suc (w + k) = omega arith in rw (z, h)

later-bad-is : (x : Read) (i : ℕ) → x ≡ bad i → later x ≡ bad (suc i)
unfolding later
later-bad-is x i e = rw e

sizes-apart : (n : ℕ) (ps : Pats) → sizes (first_of n ps) + sizes (others_of n ps) ≡ sizes ps
unfolding first_of others_of sizes
sizes-apart zero ps = omega arith
sizes-apart (suc n) no-pats = refl
sizes-apart (suc n) (more-pats p ps) = omega (arith, sizes-apart n ps)

told-constructor : (f : List ℕ) (fs : Fields) (w at n s c : ℕ) → head_of f ≡ constructor c → ToldCount c fs w (at + length f + 1) (n + 1) s → Told (f ∷ fs) (suc w) at n s
unfolding pat_fields pats_fields width count size sizes
told-constructor f fs w at n s c h (count-good m ps rest l i q t e) =
    let (x, y) = head-con-text f c h in
    let u : m ≤ count ps = omega arith in
    let v = count-first m ps u in
    let g : pats_fields (first_of m ps) ++ pats_fields (others_of m ps) ≡ pats_fields ps = fields-apart m ps in
    let b : decimal c ∷ decimal (count (first_of m ps)) ∷ (pats_fields (first_of m ps) ++ pats_fields (others_of m ps)) ≡ f ∷ decimal m ∷ pats_fields ps = rw (v, g, x) in
    told-good (more-pats (con c (first_of m ps)) (others_of m ps)) rest
    (plain_more (plain-con {ps = first_of m ps} y (rw v l) (plain-first m i)) (plain-others m i))
    (ap suc (count-others m w ps q))
    (rw t (ap (λ (gs : Fields). gs ++ rest) (sym b)))
    (scan-head-constructor f fs w at n s c h ∙ e
    ∙ same_end (omega (arith, ap width b)) (omega (arith, ap length b)) (omega (arith, sizes-apart m ps)))
told-constructor f fs w at n s c h (count-bad i a z r e) =
    told-bad (suc i) a z (λ k. read-head-constructor f fs w k c h ∙ later-bad-is (counted fs c (w + k)) i (r k)) (scan-head-constructor f fs w at n s c h ∙ e ∙ same_stop a z (omega arith))

count-none-left : (c w at n s : ℕ) → ToldCount c [] w at n s
unfolding scanned_count counted
count-none-left c w at n s = count-bad 0 at s (λ k. refl) (same_stop at s (omega arith))

count-neither : (c : ℕ) (f : List ℕ) (fs : Fields) (w at n s : ℕ) → up_to_six (number_of one_word f) ≡ none → ToldCount c (f ∷ fs) w at n s
unfolding scanned_count counted
count-neither c f fs w at n s h = count-bad 0 at s (λ k. rw h) (rw h (same_stop at s (omega arith)))

scan-count-some : (f : List ℕ) (fs : Fields) (w at n s m : ℕ) → up_to_six (number_of one_word f) ≡ some m → scanned_count (f ∷ fs) w at n s ≡ scanned fs (w + m) (at + length f + 1) (n + 1) (s + 1)
unfolding scanned_count
scan-count-some f fs w at n s m h = rw h

read-count-some : (c : ℕ) (f : List ℕ) (fs : Fields) (k m : ℕ) → up_to_six (number_of one_word f) ≡ some m → counted (f ∷ fs) c k ≡ later (parent c m (read fs (m + k)))
unfolding counted
read-count-some c f fs k m h = rw h

later-parent-bad : (c m : ℕ) (x : Read) (i : ℕ) → x ≡ bad i → later (parent c m x) ≡ bad (suc i)
unfolding later parent
later-parent-bad c m x i e = rw e

count-told : (c : ℕ) (f : List ℕ) (fs : Fields) (w at n s m : ℕ) → up_to_six (number_of one_word f) ≡ some m → Told fs (w + m) (at + length f + 1) (n + 1) (s + 1) → ToldCount c (f ∷ fs) w at n s
unfolding width
count-told c f fs w at n s m h (told-good ps rest i q t e) =
    let (x, y) = count-text f m h in
    count-good m ps rest y i (omega arith) (rw (x, t)) (scan-count-some f fs w at n s m h ∙ e ∙ same_end (omega (arith, ap length x)) (omega arith) (omega arith))
count-told c f fs w at n s m h (told-bad i a z r e) =
    count-bad (suc i) a z (λ k. let q : w + m + k ≡ m + (w + k) = omega arith in read-count-some c f fs (w + k) m h ∙ later-parent-bad c m (read fs (m + (w + k))) i (rw q at (r k)))
    (scan-count-some f fs w at n s m h ∙ e ∙ same_stop a z (omega arith))

by-head : (f : List ℕ) (fs : Fields) (w at n s : ℕ) (o : Head) → head_of f ≡ o → Told fs w (at + length f + 1) (n + 1) (s + 1) → ((c : ℕ) → ToldCount c fs w (at + length f + 1) (n + 1) s)
    → Told (f ∷ fs) (suc w) at n s
by-head f fs w at n s (variable v) h x y = told-variable f fs w at n s v h x
by-head f fs w at n s (constructor c) h x y = told-constructor f fs w at n s c h (y c)
by-head f fs w at n s neither h x y = told-neither f fs w at n s h

by_count : (c : ℕ) (f : List ℕ) (fs : Fields) (w at n s : ℕ) (o : Option ℕ) → up_to_six (number_of one_word f) ≡ o → ((m : ℕ) → Told fs (w + m) (at + length f + 1) (n + 1) (s + 1))
    → ToldCount c (f ∷ fs) w at n s
by_count c f fs w at n s none h x = count-neither c f fs w at n s h
by_count c f fs w at n s (some m) h x = count-told c f fs w at n s m h (x m)

none_left : (w at n s : ℕ) → Told [] (suc w) at n s
unfolding scanned read
none_left w at n s = told-bad 0 at s (λ k. let z : suc w + k ≡ suc (w + k) = omega arith in rw z) (same_stop at s (omega arith))

mutual
  -- The loop goes through w terms, or stops at the first bad field.
  pub told : (fs : Fields) (w at n s : ℕ) → Told fs w at n s
  told [] zero at n s = none-wanted [] at n s
  told [] (suc w) at n s = none_left w at n s
  told (f ∷ fs) zero at n s = none-wanted (f ∷ fs) at n s
  told (f ∷ fs) (suc w) at n s = by-head f fs w at n s (head_of f) refl (told fs w (at + length f + 1) (n + 1) (s + 1)) (λ c. told_count fs c w (at + length f + 1) (n + 1) s)

  told_count : (fs : Fields) (c w at n s : ℕ) → ToldCount c fs w at n s
  told_count [] c w at n s = count-none-left c w at n s
  told_count (f ∷ fs) c w at n s = by_count c f fs w at n s (up_to_six (number_of one_word f)) refl (λ m. told fs (w + m) (at + length f + 1) (n + 1) (s + 1))
