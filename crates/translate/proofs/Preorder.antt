-- Bare entries of a tree, linked from the last back, are its entries in preorder: an entry's first operand is the next entry, and
-- each further one begins where the one before it ends. Assumes nothing.
use mathlib.Core.Path.{◌≡◌, refl, ap, sym, ◌∙◌, subst}
use mathlib.Core.List.{List, [], ◌∷◌, ◌++◌}
use Prim.Native.Nat.{ℕ, zero, suc, ◌+◌, ◌-◌, ◌*◌, ◌≤◌, ◌<◌}
use native.Mathlib.Omega.{arith}
use lib.ListN.{length, get_or, set, replicate, length-set, length-append, length-replicate}
use lib.Seq.{ext_get_or, sets, get_or-set_same, get_or-set_other}
use Rattle.words.specs.Words.{word_at, rows, put_row, row_at}
use Rattle.meaning.specs.Table.{SEQ, CALL, MATCH, BUILD, WHERE, PVAR, PCON}
use Rattle.rules.specs.Rule.{Pat, Pats, Condition, Rule}
use Rattle.rules.specs.Text.{Plain, plain-var, plain-con, Plains, plain-none, plain_more, PlainConditions, plain_end, plain-next, PlainRule}
use Rattle.rules.specs.Entries.{condition_code, conditions_code, Entry, strategy, pattern, code_size, code_entries, row_of, Row, Rows}
use Rattle.rules.proofs.Words.{rows_append}
use Rattle.translate.specs.Added.{put_entries}
use Rattle.translate.specs.Bare.{bare_body}
use Rattle.translate.specs.Links.{inner_of, filled, row_linked, steps_table, steps_ends}
use Rattle.translate.specs.declared.link.Linked.{Linked}
use Rattle.translate.proofs.Written.{Eights, no-entry, next-entry, eights-append, length-put, put_other, row-swap, put-swap}
use Rattle.translate.proofs.Linking.{Tree, Trees, tree, none, more, many, size_t, sizes_t, places_t, entries_t, entries_ts, bare_t, bare_ts, length-bare, length-entries}
use Rattle.translate.proofs.Linking.{length-all, length-places_t, pat_tree, pat_trees, code_tree, size-code, entries-code, many-pats, body_code, body-tree}
use Rattle.translate.proofs.Links.{steps-table, steps-ends}
use Rattle.translate.proofs.Placing.{put-append}

-- ---- what can be linked

-- an entry with n operands: its first word tells how many, its row with the operands set is that of the entry with them
pub record Linkable (f : List ℕ → Entry) (n : ℕ) : Type 0 where
  pub inner : inner_of (get_or (row_of (f (replicate n 0))) 0 0) ≡ n
  pub fills : (os : List ℕ) → length os ≡ n → sets (row_of (f (replicate n 0))) 2 os ≡ row_of (f os)
  pub wide : (os : List ℕ) → length os ≡ n → length (row_of (f os)) ≡ 8

mutual
  pub data LinkableT : Tree → Type 0 where
    linkable : {f : List ℕ → Entry} {ts : Trees} → Linkable f (many ts) → LinkableTs ts → LinkableT (tree f ts)

  pub data LinkableTs : Trees → Type 0 where
    no-tree : LinkableTs none
    next-tree : {t : Tree} {ts : Trees} → LinkableT t → LinkableTs ts → LinkableTs (more t ts)

mutual
  unfolding entries_t entries_ts

  pub eights-tree : {t : Tree} → LinkableT t → (e : ℕ) → Eights (entries_t e t)
  eights-tree (linkable {f = f} {ts = ts} h g) e = next-entry (h.wide (places_t (suc e) ts) (length-places_t (suc e) ts)) (eights-trees g (suc e))

  pub eights-trees : {ts : Trees} → LinkableTs ts → (e : ℕ) → Eights (entries_ts e ts)
  eights-trees no-tree e = no-entry
  eights-trees (next-tree {t = t} h g) e = eights-append (eights-tree h e) (eights-trees g (e + size_t t))

mutual
  unfolding bare_t bare_ts

  eights-bare : {t : Tree} → LinkableT t → Eights (bare_t t)
  eights-bare (linkable {f = f} {ts = ts} h g) = next-entry (h.wide (replicate (many ts) 0) (length-replicate (many ts) 0)) (eights-bares g)

  eights-bares : {ts : Trees} → LinkableTs ts → Eights (bare_ts ts)
  eights-bares no-tree = no-entry
  eights-bares (next-tree h g) = eights-append (eights-bare h) (eights-bares g)

-- ---- the operands of one entry

-- each tree ends where the list says
unfoldable pub Ends : List ℕ → ℕ → Trees → Type 0
Ends es e none = Unit {0}
Ends es e (more t ts) = (get_or es e 0 ≡ e + size_t t) × Ends es (e + size_t t) ts

ends_same : (es es' : List ℕ) (e : ℕ) (ts : Trees) → ((i : ℕ) → e ≤ i → get_or es' i 0 ≡ get_or es i 0) → Ends es e ts → Ends es' e ts
unfolding Ends
ends_same es es' e none s h = tt
ends_same es es' e (more t ts) s (h, g) = (s e (omega arith) ∙ h, ends_same es es' (e + size_t t) ts (λ i l. s i (omega arith)) g)

filled-places : (ts : Trees) (e : ℕ) (es row : List ℕ) (j : ℕ) → Ends es e ts → filled (many ts) e es row j ≡ record { row = sets row j (places_t e ts); end = e + sizes_t ts }
unfolding Ends filled many places_t sizes_t
filled-places none e es row j h = let z : e ≡ e + 0 = omega arith in ap (λ (n : ℕ). record { row = row; end = n }) z
filled-places (more t ts) e es row j (h, g) =
    let z : j + 1 ≡ suc j = omega arith in
    let y : e + size_t t + sizes_t ts ≡ e + (size_t t + sizes_t ts) = omega arith in
    ap (λ (o : ℕ). filled (many ts) o es (set row j e) (j + 1)) h
    ∙ ap (filled (many ts) (e + size_t t) es (set row j e)) z
    ∙ filled-places ts (e + size_t t) es (set row j e) (suc j) g
    ∙ ap (λ (n : ℕ). record { row = sets (set row j e) (suc j) (places_t (e + size_t t) ts); end = n }) y

-- A row of eight words read word by word.
row_read : (t : List ℕ) (e : ℕ) (x : Entry) → length (row_of x) ≡ 8 → Row t e x → row_at t e ≡ row_of x
row_read t e x l h = ext_get_or 0 (row_at t e) (row_of x) (sym l) go
  where
    go : (i : ℕ) → i < 8 → get_or (row_at t e) i 0 ≡ get_or (row_of x) i 0
    go zero k = h 0 k
    go (suc zero) k = h 1 k
    go (suc (suc zero)) k = h 2 k
    go (suc (suc (suc zero))) k = h 3 k
    go (suc (suc (suc (suc zero)))) k = h 4 k
    go (suc (suc (suc (suc (suc zero))))) k = h 5 k
    go (suc (suc (suc (suc (suc (suc zero)))))) k = h 6 k
    go (suc (suc (suc (suc (suc (suc (suc zero))))))) k = h 7 k
    go (suc (suc (suc (suc (suc (suc (suc (suc i)))))))) k = absurd (omega arith)

-- The entry with its operands, where the trees after it end as the list says.
linked-row : {f : List ℕ → Entry} (ts : Trees) → Linkable f (many ts) → (t es : List ℕ) (e : ℕ) → Row t e (f (replicate (many ts) 0)) → Ends es (suc e) ts
    → row_linked t es e ≡ record { row = row_of (f (places_t (suc e) ts)); end = suc e + sizes_t ts }
unfolding row_linked
linked-row {f} ts h t es e r g =
    let z : e + 1 ≡ suc e = omega arith in
    let bare : Entry = f (replicate (many ts) 0) in
    let w : row_at t e ≡ row_of bare = row_read t e bare (h.wide (replicate (many ts) 0) (length-replicate (many ts) 0)) r in
    let n : inner_of (word_at t e 0) ≡ many ts = ap inner_of (r 0 (omega arith)) ∙ h.inner in
    ap (λ (k : ℕ). filled k (e + 1) es (row_at t e) 2) n
    ∙ ap (λ (o : ℕ). filled (many ts) o es (row_at t e) 2) z
    ∙ ap (λ (row : List ℕ). filled (many ts) (suc e) es row 2) w
    ∙ filled-places ts (suc e) es (row_of bare) 2 g
    ∙ ap (λ (row : List ℕ). record { row = row; end = suc e + sizes_t ts }) (h.fills (places_t (suc e) ts) (length-places_t (suc e) ts))

-- ---- steps

-- So many steps, and then more.
steps-more : (t es : List ℕ) (stop k m : ℕ)
    → (steps_table t es stop (m + k) ≡ steps_table (steps_table t es stop k) (steps_ends t es stop k) (stop - k) m)
    × (steps_ends t es stop (m + k) ≡ steps_ends (steps_table t es stop k) (steps_ends t es stop k) (stop - k) m)
unfolding steps_table steps_ends
steps-more t es stop k zero = let z : 0 + k ≡ k = omega arith in (ap (steps_table t es stop) z, ap (steps_ends t es stop) z)
steps-more t es stop k (suc m) =
    let (i, j) = steps-more t es stop k m in
    let z : suc m + k ≡ suc (m + k) = omega arith in
    let y : stop - suc (m + k) ≡ stop - k - suc m = omega arith in (
      ap (steps_table t es stop) z ∙ rw (i, j, y),
      ap (steps_ends t es stop) z ∙ rw (i, j, y),
    )

-- n entries from e on, up to `stop`, were linked to xs
pub record Stepped (t es : List ℕ) (e stop n : ℕ) (xs : List Entry) : Type 0 where
  pub table : steps_table t es stop n ≡ put_entries t e xs
  pub others : (i : ℕ) → (e ≤ i → i < stop → ⊥) → get_or (steps_ends t es stop n) i 0 ≡ get_or es i 0
  pub long : length (steps_ends t es stop n) ≡ length es

pub rows_same : (t t' : List ℕ) (e : ℕ) (xs : List Entry) → ((i j : ℕ) → j < 8 → e ≤ i → i < e + length xs → word_at t' i j ≡ word_at t i j) → Rows t e xs → Rows t' e xs
unfolding Rows
rows_same t t' e [] s h = tt
rows_same t t' e (x ∷ xs) s (h, g) = ((λ j k. s e j k (omega arith) (omega arith) ∙ h j k), rows_same t t' (suc e) xs (λ i j k l m. s i j k (omega arith) (omega arith)) g)

put_two : (t : List ℕ) (e : ℕ) (x : Entry) (xs : List Entry) → put_entries (put_row t e (row_of x)) (suc e) xs ≡ put_entries t e (x ∷ xs)
unfolding put_entries
put_two t e x xs = refl

-- Nothing is linked yet.
none-stepped : (w es : List ℕ) (e stop : ℕ) → Stepped w es e stop 0 []
unfolding steps_table steps_ends put_entries
none-stepped w es e stop = record { table = refl; others = λ i o. refl; long = refl }

-- One entry before trees that are linked.
module _ {f : List ℕ → Entry} (ts : Trees) (h : Linkable f (many ts)) (w es : List ℕ) (e stop : ℕ) (eights : Eights (entries_ts (suc e) ts)) (at : stop ≡ suc e + sizes_t ts)
    (room : stop ≤ rows w) (room' : stop ≤ length es)
    (bare : Row w e (f (replicate (many ts) 0)))
    (later : Stepped w es (suc e) stop (sizes_t ts) (entries_ts (suc e) ts))
    (ends : Ends (steps_ends w es stop (sizes_t ts)) (suc e) ts)
  where
    abbrev T : List ℕ
    T = steps_table w es stop (sizes_t ts)

    abbrev E : List ℕ
    E = steps_ends w es stop (sizes_t ts)

    abbrev x : Entry
    x = f (places_t (suc e) ts)

    xs-long : length (entries_ts (suc e) ts) ≡ sizes_t ts
    xs-long = length-all (suc e) ts

    fits : suc e + length (entries_ts (suc e) ts) ≤ rows w
    fits = omega (arith, xs-long)

    still-bare : Row T e (f (replicate (many ts) 0))
    still-bare j k = ap (λ (t : List ℕ). word_at t e j) later.table ∙ put_other eights w (suc e) fits e j k (λ a b. omega arith) ∙ bare j k

    one : row_linked T E e ≡ record { row = row_of x; end = suc e + sizes_t ts }
    one = linked-row ts h T E e still-bare ends

    back : e + 1 ≡ stop - sizes_t ts
    back = omega arith

    ends-are : steps_ends w es stop (suc (sizes_t ts)) ≡ set E e (suc e + sizes_t ts)
    ends-are = sym (steps-ends w es stop (sizes_t ts) e back) ∙ ap (λ (l : Linked). set E e l.end) one

    pub top-stepped : Stepped w es e stop (suc (sizes_t ts)) (x ∷ entries_ts (suc e) ts)
    top-stepped = record {
      table =
          sym (steps-table w es stop (sizes_t ts) e back)
          ∙ ap (λ (l : Linked). put_row T e l.row) one
          ∙ ap (λ (t : List ℕ). put_row t e (row_of x)) later.table
          ∙ row-swap eights w (suc e) e (row_of x) (h.wide (places_t (suc e) ts) (length-places_t (suc e) ts)) fits (omega arith)
          ∙ put_two w e x (entries_ts (suc e) ts);
      others = λ i o. ap (λ (l : List ℕ). get_or l i 0) ends-are ∙ get_or-set_other E e i (suc e + sizes_t ts) 0 (λ z. o (omega arith) (omega arith)) ∙ later.others i (λ a b. o (omega arith) b);
      long = ap length ends-are ∙ length-set E e (suc e + sizes_t ts) ∙ later.long;
    }

    pub top-end : get_or (steps_ends w es stop (suc (sizes_t ts))) e 0 ≡ e + suc (sizes_t ts)
    top-end = ap (λ (l : List ℕ). get_or l e 0) ends-are ∙ get_or-set_same E e (suc e + sizes_t ts) 0 (omega (arith, later.long)) ∙ omega arith

-- A tree before trees that are linked.
module _ (w es : List ℕ) (e stop n m : ℕ) {xs ys : List Entry} (eights-x : Eights xs) (eights-y : Eights ys) (x-long : length xs ≡ n) (y-long : length ys ≡ m) (at : stop ≡ e + (n + m))
    (room : stop ≤ rows w)
    (later : Stepped w es (e + n) stop m ys)
    (first : Stepped (steps_table w es stop m) (steps_ends w es stop m) e (stop - m) n xs)
  where
    pub both_ends : steps_ends w es stop (n + m) ≡ steps_ends (steps_table w es stop m) (steps_ends w es stop m) (stop - m) n
    both_ends = (steps-more w es stop m n).1

    pub both-stepped : Stepped w es e stop (n + m) (xs ++ ys)
    both-stepped = record {
      table =
          (steps-more w es stop m n).0
          ∙ first.table
          ∙ ap (λ (t : List ℕ). put_entries t e xs) later.table
          ∙ put-swap eights-x eights-y w e (e + n) (omega (arith, x-long)) (omega (arith, y-long))
          ∙ ap (λ (k : ℕ). put_entries (put_entries w e xs) (e + k) ys) (sym x-long)
          ∙ sym (put-append xs ys w e);
      others = λ i o. ap (λ (l : List ℕ). get_or l i 0) both_ends ∙ first.others i (λ a b. o a (omega arith)) ∙ later.others i (λ a b. o (omega arith) b);
      long = ap length both_ends ∙ first.long ∙ later.long;
    }

pub rows-first : (x : Entry) (xs : List Entry) (w : List ℕ) (e : ℕ) → Rows w e (x ∷ xs) → Row w e x × Rows w (suc e) xs
unfolding Rows
rows-first x xs w e h = h

mutual
  unfolding size_t sizes_t entries_t entries_ts bare_t bare_ts Ends

  pub tree-stepped : {t : Tree} → LinkableT t → (w es : List ℕ) (e stop : ℕ) → stop ≡ e + size_t t → stop ≤ rows w → stop ≤ length es → Rows w e (bare_t t)
      → Stepped w es e stop (size_t t) (entries_t e t) × (get_or (steps_ends w es stop (size_t t)) e 0 ≡ e + size_t t)
  tree-stepped (linkable {f = f} {ts = ts} h g) w es e stop at room room' r =
      let (a, b) = rows-first (f (replicate (many ts) 0)) (bare_ts ts) w e r in
      let (c, d) = trees-stepped g w es (suc e) stop (omega arith) room room' b in
      (top-stepped ts h w es e stop (eights-trees g (suc e)) (omega arith) room room' a c d, top-end ts h w es e stop (eights-trees g (suc e)) (omega arith) room room' a c d)

  trees-stepped : {ts : Trees} → LinkableTs ts → (w es : List ℕ) (e stop : ℕ) → stop ≡ e + sizes_t ts → stop ≤ rows w → stop ≤ length es → Rows w e (bare_ts ts)
      → Stepped w es e stop (sizes_t ts) (entries_ts e ts) × Ends (steps_ends w es stop (sizes_t ts)) e ts
  trees-stepped no-tree w es e stop at room room' r = (none-stepped w es e stop, tt)
  trees-stepped (next-tree {t = t} {ts = ts} h g) w es e stop at room room' r =
      let (a, b) = rows_append w e (bare_t t) (bare_ts ts) r in
      let z : e + length (bare_t t) ≡ e + size_t t = ap (λ (k : ℕ). e + k) (length-bare t) in
      let (c, d) = trees-stepped g w es (e + size_t t) stop (omega arith) room room' (subst (λ (k : ℕ). Rows w k (bare_ts ts)) z b) in
      let T : List ℕ = steps_table w es stop (sizes_t ts) in
      let E : List ℕ = steps_ends w es stop (sizes_t ts) in
      let ys : Eights (entries_ts (e + size_t t) ts) = eights-trees g (e + size_t t) in
      let long : length (entries_ts (e + size_t t) ts) ≡ sizes_t ts = length-all (e + size_t t) ts in
      let fits : e + size_t t + length (entries_ts (e + size_t t) ts) ≤ rows w = omega (arith, long) in
      let same : length T ≡ length w = ap length c.table ∙ length-put ys w (e + size_t t) fits in
      let bare : Rows T e (bare_t t) =
      rows_same w T e (bare_t t) (λ i j k l m. ap (λ (u : List ℕ). word_at u i j) c.table ∙ put_other ys w (e + size_t t) fits i j k (λ n o. omega (arith, length-bare t))) a in
      let (p, q) = tree-stepped h T E e (stop - sizes_t ts) (omega arith) (omega (arith, same)) (omega (arith, c.long)) bare in
      let all : steps_ends w es stop (size_t t + sizes_t ts) ≡ steps_ends T E (stop - sizes_t ts) (size_t t) = (steps-more w es stop (sizes_t ts) (size_t t)).1 in (
        both-stepped w es e stop (size_t t) (sizes_t ts) (eights-tree h e) ys (length-entries e t) long at room c p,
        (
          ap (λ (l : List ℕ). get_or l e 0) all ∙ q,
          ends_same E (steps_ends w es stop (size_t t + sizes_t ts)) (e + size_t t) ts (λ i l. ap (λ (k : List ℕ). get_or k i 0) all ∙ p.others i (λ n o. omega arith)) d,
        ),
      )

-- ---- a rule's

-- An entry whose operands its row has from word 2 on.
two_operands : (f : ℕ → ℕ → Entry) (k : ℕ) → ((a b : ℕ) → row_of (f a b) ≡ (16 * k + 2) ∷ 0 ∷ a ∷ b ∷ 0 ∷ 0 ∷ 0 ∷ 0 ∷ []) → inner_of (16 * k + 2) ≡ 2 → Linkable (λ xs. f (get_or xs 0 0) (get_or xs 1 0)) 2
two_operands f k h i = record {
  inner = ap (λ (r : List ℕ). inner_of (get_or r 0 0)) (h 0 0) ∙ i;
  fills = go;
  wide = λ os l. ap length (h (get_or os 0 0) (get_or os 1 0));
}
  where
    go : (os : List ℕ) → length os ≡ 2 → sets (row_of (f 0 0)) 2 os ≡ row_of (f (get_or os 0 0) (get_or os 1 0))
    go [] l = absurd (omega arith)
    go (a ∷ []) l = absurd (omega arith)
    go (a ∷ b ∷ []) l = ap (λ (r : List ℕ). sets r 2 (a ∷ b ∷ [])) (h 0 0) ∙ sym (h a b)
    go (a ∷ b ∷ c ∷ os) l = absurd (omega arith)

one-operand : (f : ℕ → Entry) (k : ℕ) → ((a : ℕ) → row_of (f a) ≡ (16 * k + 1) ∷ 0 ∷ a ∷ 0 ∷ 0 ∷ 0 ∷ 0 ∷ 0 ∷ []) → inner_of (16 * k + 1) ≡ 1 → Linkable (λ xs. f (get_or xs 0 0)) 1
one-operand f k h i = record {
  inner = ap (λ (r : List ℕ). inner_of (get_or r 0 0)) (h 0) ∙ i;
  fills = go;
  wide = λ os l. ap length (h (get_or os 0 0));
}
  where
    go : (os : List ℕ) → length os ≡ 1 → sets (row_of (f 0)) 2 os ≡ row_of (f (get_or os 0 0))
    go [] l = absurd (omega arith)
    go (a ∷ []) l = ap (λ (r : List ℕ). sets r 2 (a ∷ [])) (h 0) ∙ sym (h a)
    go (a ∷ b ∷ os) l = absurd (omega arith)

-- One without operands of its own tree.
no_operand : (x : Entry) → inner_of (get_or (row_of x) 0 0) ≡ 0 → length (row_of x) ≡ 8 → Linkable (λ xs. x) 0
no_operand x i l = record { inner = i; fills = go; wide = λ os m. l }
  where
    go : (os : List ℕ) → length os ≡ 0 → sets (row_of x) 2 os ≡ row_of x
    go [] m = refl
    go (a ∷ os) m = absurd (omega arith)

seq-linkable : Linkable (λ xs. strategy (SEQ (get_or xs 0 0) (get_or xs 1 0))) 2
unfolding row_of inner_of
seq-linkable = two_operands (λ x y. strategy (SEQ x y)) 4 (λ a b. refl) refl

where-linkable : Linkable (λ xs. strategy (WHERE (get_or xs 0 0))) 1
unfolding row_of inner_of
where-linkable = one-operand (λ x. strategy (WHERE x)) 17 (λ a. refl) refl

match-linkable : Linkable (λ xs. strategy (MATCH (get_or xs 0 0))) 1
unfolding row_of inner_of
match-linkable = one-operand (λ x. strategy (MATCH x)) 14 (λ a. refl) refl

build-linkable : Linkable (λ xs. strategy (BUILD (get_or xs 0 0))) 1
unfolding row_of inner_of
build-linkable = one-operand (λ x. strategy (BUILD x)) 15 (λ a. refl) refl

call-linkable : (x : ℕ) → Linkable (λ xs. strategy (CALL x)) 0
unfolding row_of inner_of
call-linkable x = no_operand (strategy (CALL x)) refl refl

variable-linkable : (v : ℕ) → Linkable (λ xs. pattern (PVAR v)) 0
unfolding row_of inner_of
variable-linkable v = no_operand (pattern (PVAR v)) refl refl

constructor-linkable : (c n : ℕ) → n ≤ 6 → Linkable (λ xs. pattern (PCON c xs)) n
unfolding row_of inner_of
constructor-linkable c n l = record { inner = first n l; fills = go n l; wide = long }
  where
    first : (n : ℕ) → n ≤ 6 → inner_of (get_or (row_of (pattern (PCON c (replicate n 0)))) 0 0) ≡ n
    first zero l = refl
    first (suc zero) l = refl
    first (suc (suc zero)) l = refl
    first (suc (suc (suc zero))) l = refl
    first (suc (suc (suc (suc zero)))) l = refl
    first (suc (suc (suc (suc (suc zero))))) l = refl
    first (suc (suc (suc (suc (suc (suc zero)))))) l = refl
    first (suc (suc (suc (suc (suc (suc (suc n))))))) l = absurd (omega arith)

    go : (n : ℕ) → n ≤ 6 → (os : List ℕ) → length os ≡ n → sets (row_of (pattern (PCON c (replicate n 0)))) 2 os ≡ row_of (pattern (PCON c os))
    go n l os m = subst (λ (k : ℕ). sets (row_of (pattern (PCON c (replicate k 0)))) 2 os ≡ row_of (pattern (PCON c os))) m (all os (omega arith))
      where
        all : (os : List ℕ) → length os ≤ 6 → sets (row_of (pattern (PCON c (replicate (length os) 0)))) 2 os ≡ row_of (pattern (PCON c os))
        all [] k = refl
        all (x1 ∷ []) k = refl
        all (x1 ∷ x2 ∷ []) k = refl
        all (x1 ∷ x2 ∷ x3 ∷ []) k = refl
        all (x1 ∷ x2 ∷ x3 ∷ x4 ∷ []) k = refl
        all (x1 ∷ x2 ∷ x3 ∷ x4 ∷ x5 ∷ []) k = refl
        all (x1 ∷ x2 ∷ x3 ∷ x4 ∷ x5 ∷ x6 ∷ []) k = refl
        all (x1 ∷ x2 ∷ x3 ∷ x4 ∷ x5 ∷ x6 ∷ x7 ∷ os) k = absurd (omega arith)

    long : (os : List ℕ) → length os ≡ n → length (row_of (pattern (PCON c os))) ≡ 8
    long os m = omega (arith, length-append os (replicate (6 - length os) 0), length-replicate {A = ℕ} (6 - length os) 0)

mutual
  unfolding pat_tree pat_trees many

  pat-linkable : {p : Pat} → Plain p → LinkableT (pat_tree p)
  pat-linkable (plain-var {v = v} l) = linkable (variable-linkable v) no-tree
  pat-linkable (plain-con {c = c} {ps = ps} l m h) = linkable (constructor-linkable c (many (pat_trees ps)) (omega (arith, many-pats ps))) (pats-linkable h)

  pats-linkable : {ps : Pats} → Plains ps → LinkableTs (pat_trees ps)
  pats-linkable plain-none = no-tree
  pats-linkable (plain_more h g) = next-tree (pat-linkable h) (pats-linkable g)

conditions-linkable : {cs : List Condition} {p : Pat} → PlainConditions cs → Plain p → LinkableT (code_tree (conditions_code cs p))
unfolding code_tree many conditions_code condition_code
conditions-linkable plain_end h = linkable build-linkable (next-tree (pat-linkable h) no-tree)
conditions-linkable (plain-next {c = c} l i j g) h =
    linkable seq-linkable
    (next-tree
    (linkable where-linkable
    (next-tree
    (linkable seq-linkable
    (next-tree (linkable build-linkable (next-tree (pat-linkable i) no-tree))
    (next-tree
    (linkable seq-linkable
    (next-tree (linkable (call-linkable c.callee) no-tree) (next-tree (linkable match-linkable (next-tree (pat-linkable j) no-tree)) no-tree)))
    no-tree)))
    no-tree))
    (next-tree (conditions-linkable g h) no-tree))

pub body-linkable : {r : Rule} → PlainRule r → LinkableT (code_tree (body_code r))
unfolding code_tree many
body-linkable h = linkable seq-linkable (next-tree (linkable match-linkable (next-tree (pat-linkable h.left) no-tree)) (next-tree (conditions-linkable h.conditions h.right) no-tree))

-- The rows of a rule's entries inside its scope are of eight words.
pub body-eights : (r : Rule) → PlainRule r → (e : ℕ) → Eights (code_entries e (body_code r))
body-eights r h e = subst Eights (entries-code e (body_code r)) (eights-tree (body-linkable h) e)

pub bare-eights : (r : Rule) → PlainRule r → Eights (bare_body r)
bare-eights r h = subst Eights (body-tree r) (eights-bare (body-linkable h))

-- As many bare entries as entries.
pub body-long : (r : Rule) → length (bare_body r) ≡ code_size (body_code r)
body-long r = ap length (sym (body-tree r)) ∙ length-bare (code_tree (body_code r)) ∙ size-code (body_code r)

-- Bare entries that were put are linked to the entries inside the rule's scope.
pub body-linked : (r : Rule) → PlainRule r → (w es : List ℕ) (e stop : ℕ) → stop ≡ e + code_size (body_code r) → stop ≤ rows w → stop ≤ length es → Rows w e (bare_body r)
    → steps_table w es stop (stop - e) ≡ put_entries w e (code_entries e (body_code r))
body-linked r h w es e stop at room room' bare =
    let n : size_t (code_tree (body_code r)) ≡ code_size (body_code r) = size-code (body_code r) in
    let z : stop - e ≡ size_t (code_tree (body_code r)) = omega arith in
    let b : Rows w e (bare_t (code_tree (body_code r))) = subst (Rows w e) (sym (body-tree r)) bare in
    ap (steps_table w es stop) z
    ∙ (tree-stepped (body-linkable h) w es e stop (omega arith) room room' b).0.table
    ∙ ap (put_entries w e) (entries-code e (body_code r))
