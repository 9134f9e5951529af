-- The entries in use as a table of their own, and the masks of their free variables. Assumes nothing.
use mathlib.Core.Path.{◌≡◌, refl, ap, sym, ◌∙◌}
use mathlib.Core.Bool.{Bool, true, false, ◌&&◌, false≢true}
use mathlib.Core.List.{List}
use Prim.Native.Nat.{ℕ, ◌+◌, ◌*◌, ◌/◌, ◌%◌, ◌^◌, ◌≤◌, ◌<◌}
use native.Mathlib.Omega.{arith}
use lib.Dec.{eqb, leb, ltb}
use lib.ListN.{length, get_or}
use lib.Seq.{length-take-le, get_or-take}
use borrow.Author.Tests.{eq-eqb, ne_eqb, eqb-true, lt-ltb, ltb-true, le-leb, lt-leb, leb-true}
use Rattle.std.specs.Prelude.{if◌then◌else◌}
use Rattle.words.specs.Words.{rows}
use Rattle.words.proofs.Tests.{and-true}
use Rattle.checks.specs.Checked.{Checked}
use Rattle.checks.specs.Kinds.{ours, variables, sort_of}
use Rattle.checks.specs.Good.{kind_of}
use Rattle.checks.specs.Checked.{checked, table_length_fits, table_checked}
use Rattle.checks.proofs.Promises.{table_passes}
use Rattle.meaning.specs.Bindings.{has}
use Rattle.meaning.specs.Table.{table}
use Rattle.meaning.specs.Free.{Closed}
use Rattle.meaning.proofs.Bits.{has-nothing, same-mask}
use Rattle.meaning.proofs.Tests.{decided}
use Rattle.free.specs.Answered.{MaskOfBy}
use Rattle.free.specs.Passes.{BitsMeant, Settled}
use Rattle.free.specs.Promises.{GoodTableBy, StrategyOf}
use Rattle.free.proofs.Smallest.{mask_is}
use Rattle.check_rules.specs.Line.{callable}
use Rattle.check_rules.specs.Answer.{in_use, used_checked, ClosedRec, Callable, MasksOf}

module _ (t : List ℕ) (u : ℕ) where
  -- ---- the check of the entries in use

  pub used-length : table_length_fits (length t) ≡ false → checked 2 0 ≡ used_checked t u
  unfolding used_checked
  used-length e = rw e

  pub used-more : table_length_fits (length t) ≡ true → rows t < u → checked 2 0 ≡ used_checked t u
  unfolding used_checked
  used-more e l = rw (e, lt-leb u (rows t) l)

  pub used-none : table_length_fits (length t) ≡ true → u ≤ rows t → u ≡ 0 → checked 0 0 ≡ used_checked t u
  unfolding used_checked
  used-none e l z = rw (e, le-leb u (rows t) l, eq-eqb u 0 z)

  pub used-some : table_length_fits (length t) ≡ true → u ≤ rows t → (u ≡ 0 → ⊥) → (r : Checked) → r ≡ table_checked (in_use t u) → r ≡ used_checked t u
  unfolding used_checked
  used-some e l n r z = z ∙ sym (rw (e, le-leb u (rows t) l, ne_eqb u 0 n))

  -- Where nothing is wrong the sizes fit, and the entries in use are a good table.
  pub used-sizes : (used_checked t u).answer ≡ 0 → (length t ≤ 32768) × (u ≤ rows t)
  unfolding used_checked table_length_fits
  used-sizes e = go (table_length_fits (length t)) refl (leb u (rows t)) refl e
    where
      go : (p : Bool) → table_length_fits (length t) ≡ p → (q : Bool) → leb u (rows t) ≡ q
          → (if p && q then (if eqb u 0 then checked 0 0 else table_checked (in_use t u)) else checked 2 0).answer ≡ 0
          → (length t ≤ 32768) × (u ≤ rows t)
      go true i true j z = (leb-true (length t) 32768 (and-true (eqb (length t % 8) 0) _ (and-true (ltb 0 (length t)) _ i).1).1, leb-true u (rows t) j)
      go true i false j z = absurd (omega (arith, z))
      go false i q j z = absurd (omega (arith, z))

  pub used-good : (used_checked t u).answer ≡ 0 → (u ≡ 0 → ⊥) → GoodTableBy ours (in_use t u)
  unfolding used_checked
  used-good e n = go (table_length_fits (length t) && leb u (rows t)) e
    where
      go : (p : Bool) → (if p then (if eqb u 0 then checked 0 0 else table_checked (in_use t u)) else checked 2 0).answer ≡ 0 → GoodTableBy ours (in_use t u)
      go true z = (table_passes ours (in_use t u)).0 (rw (ne_eqb u 0 n) at z)
      go false z = absurd (omega (arith, z))

  pub used-words : u ≤ rows t → 8 * u ≡ length (in_use t u)
  used-words l = sym (length-take-le (8 * u) t (omega arith))

  -- ---- the masks

  kind-in : (x : ℕ) → x < u → kind_of (in_use t u) x ≡ kind_of t x
  kind-in x l = ap (λ (w : ℕ). w / 16) (get_or-take (8 * u) t (8 * x + 0) 0 (omega arith))

  strategy-in : u ≤ rows t → (x : ℕ) → x < u → kind_of t x ≡ 7 → StrategyOf (in_use t u) x
  unfolding sort_of
  strategy-in l x h k = (omega (arith, used-words l), rw (kind-in x h, k))

  pub masks-of : (used_checked t u).answer ≡ 0 → (ms : List ℕ) → ((i : ℕ) → get_or ms i 0 < 2 ^ variables) → BitsMeant ours (in_use t u) ms → Settled ours (in_use t u) ms → (u ≡ 0 → ⊥) → MasksOf t u ms
  masks-of e ms fits sound settled n x h k = (empty, none)
    where
      mask : MaskOfBy ours (in_use t u) x (get_or ms x 0)
      mask = mask_is ours (omega arith) (in_use t u) ms x (used-good e n) (strategy-in (used-sizes e).1 x h k) sound settled (get_or ms x 0) refl (fits x)

      empty : get_or ms x 0 ≡ 0 → Closed (table (in_use t u)) x
      empty z v f = false≢true (sym (has-nothing v) ∙ ap (λ (m : ℕ). has m v) (sym z) ∙ (mask.free v).1 f)

      none : Closed (table (in_use t u)) x → get_or ms x 0 ≡ 0
      none c = same-mask variables (get_or ms x 0) 0 (fits x) (omega arith) (λ v. decided (has (get_or ms x 0) v) (λ q. absurd (c v ((mask.free v).0 q))) (λ q. q ∙ sym (has-nothing v)))

  -- The code's test says which entries are RECs without free variables.
  pub masks-callable : (ms : List ℕ) → MasksOf t u ms → Callable t u (callable t ms u)
  unfolding callable
  masks-callable ms m x = (yes, back)
    where
      yes : ltb x u && (eqb (kind_of t x) 7 && eqb (get_or ms x 0) 0) ≡ true → ClosedRec t u x
      yes e =
          let a = and-true (ltb x u) _ e in
          let b = and-true (eqb (kind_of t x) 7) _ a.1 in
          let l : x < u = ltb-true x u a.0 in
          let k : kind_of t x ≡ 7 = eqb-true (kind_of t x) 7 b.0 in
          (l, k, (m x l k).0 (eqb-true (get_or ms x 0) 0 b.1))

      back : ClosedRec t u x → ltb x u && (eqb (kind_of t x) 7 && eqb (get_or ms x 0) 0) ≡ true
      back c = rw (lt-ltb x u c.0, eq-eqb (kind_of t x) 7 c.1, eq-eqb (get_or ms x 0) 0 ((m x c.0 c.1).1 c.2))
