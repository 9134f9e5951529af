-- The laws of the passes: what a pass keeps, what it makes less, and what the masks are once nothing grows.
-- Assumes nothing.
use mathlib.Core.Path.{◌≡◌, refl, ap, sym, ◌∙◌, subst}
use mathlib.Core.Bool.{Bool, true, false, not, ◌||◌, true≢false, false≢true, or_assoc}
use mathlib.Core.Logic.{◌≢◌, ◌⊎◌, inl, inr, ⊎_elim}
use mathlib.Core.List.{List, [], ◌∷◌}
use Prim.Native.Nat.{ℕ, zero, suc, ◌+◌, ◌-◌, ◌^◌, ◌≤◌, ◌<◌}
use native.Mathlib.Numerals.{add-one}
use native.Mathlib.Omega.{arith}
use lib.Dec.{eqb}
use lib.ListN.{length, get_or, set, drop, length-set}
use lib.Seq.{get_or-set_same, get_or-set_other, set-get_or, drop-cons, drop-length}
use lib.Pow.{pow-lt}
use lib.Bits.{bit_and, bit_or, or_lt, and_le_r}
use borrow.Author.Tests.{eqb-true, eqb-false, eq-eqb, ne_eqb}
use Rattle.words.specs.Words.{word_at, rows}
use Rattle.checks.specs.Kinds.{ours, variables_by, operands_from_by}
use Rattle.words.proofs.Tests.{and-true}
use Rattle.checks.specs.Good.{kind_of, operand_count, argument_of, mask_by}
use Rattle.checks.specs.Plain.{EntryBy}
use Rattle.meaning.specs.Bindings.{has}
use Rattle.meaning.specs.Table.{PVAR, table_by, operands}
use Rattle.meaning.specs.Free.{In, here, there, Variable, var, part, Free, in-match, in-build, in_scope, in-operand}
use Rattle.meaning.proofs.Tests.{decided}
use Rattle.free.specs.Passes.{joined, joined_operands, full, ruled, fuller, grows, grown, passed, changed, Of, pattern, strategy, BitsMeant, Settled, room, Spread}
use Rattle.meaning.proofs.Bits.{has-nothing, has-and, has-or, has_one, not-has, or-grows}
use Rattle.free.proofs.Entries.{other, operand_at, length-operands, Strategies, Patterns, Shape, is_plain, is-match, is-build, is-scope, is-variable, is-con, shape, entry_of}
use Rattle.free.specs.Promises.{GoodTableBy}

-- ---- masks joined

-- a variable of one mask or of the other
either : (a b : Bool) → a || b ≡ true → (a ≡ true) ⊎ (b ≡ true)
either true b e = inl refl
either false b e = inr e

pub or-true : (b : Bool) → b || true ≡ true
or-true true = refl
or-true false = refl

or-false : (b : Bool) → b || false ≡ b
or-false true = refl
or-false false = refl

module _ (ms : List ℕ) (v : ℕ) where
  -- a variable of joined masks is one of a mask
  pub of-joined : (all : ℕ) (xs : List ℕ) → has (joined ms all xs) v ≡ true → (has all v ≡ true) ⊎ ((x : ℕ) × In x xs × (has (get_or ms x 0) v ≡ true))
  unfolding joined
  of-joined all [] h = inl h
  of-joined all (x ∷ xs) h =
      ⊎_elim (λ k. ⊎_elim inl (λ l. inr (x, here, l)) (either _ _ (sym (has-or all (get_or ms x 0) v) ∙ k))) (λ (y, i, k). inr (y, there i, k)) (of-joined (bit_or all (get_or ms x 0)) xs h)

  -- what there is stays
  joined_keeps : (all : ℕ) (xs : List ℕ) → has all v ≡ true → has (joined ms all xs) v ≡ true
  unfolding joined
  joined_keeps all [] h = h
  joined_keeps all (x ∷ xs) h = joined_keeps (bit_or all (get_or ms x 0)) xs (has-or all (get_or ms x 0) v ∙ rw h)

  -- each mask is in the joined
  pub in-joined : (all : ℕ) (xs : List ℕ) (x : ℕ) → In x xs → has (get_or ms x 0) v ≡ true → has (joined ms all xs) v ≡ true
  unfolding joined
  in-joined all [] y x3 h = elim x3 [ ]
  in-joined all (x ∷ xs) y here h = joined_keeps (bit_or all (get_or ms x 0)) xs (has-or all (get_or ms x 0) v ∙ rw h (or-true (has all v)))
  in-joined all (x ∷ xs) y (there i) h = in-joined (bit_or all (get_or ms x 0)) xs y i h

-- joined masks fit
joined-fits : (k : ℕ) (ms : List ℕ) → ((i : ℕ) → get_or ms i 0 < 2 ^ k) → (all : ℕ) (xs : List ℕ) → all < 2 ^ k → joined ms all xs < 2 ^ k
unfolding joined
joined-fits k ms w all [] h = h
joined-fits k ms w all (x ∷ xs) h = joined-fits k ms w (bit_or all (get_or ms x 0)) xs (or_lt k all (get_or ms x 0) h (w x))

-- the loop over the operands: one turn, and the end
module _ (t ms : List ℕ) (e : ℕ) (few : operand_count t e ≤ 6) where
  pub joined-turn : (all i : ℕ) → i < operand_count t e → joined ms all (drop i (operands t e)) ≡ joined ms (bit_or all (get_or ms (word_at t e (2 + i)) 0)) (drop (i + 1) (operands t e))
  unfolding joined
  joined-turn all i h =
      let l : i < length (operands t e) = omega (arith, length-operands t e few) in
      rw (add-one, drop-cons (operands t e) i 0, operand_at t e i h few)

  pub joined_end : (all i : ℕ) → i ≡ operand_count t e → joined ms all (drop i (operands t e)) ≡ all
  unfolding joined
  joined_end all i h =
      let l : i ≡ length (operands t e) = omega (arith, length-operands t e few) in
      rw (l, drop-length)

-- ---- the rule of an entry

module _ (W : ℕ) (t ms : List ℕ) (e : ℕ) where
  pub ruled-joined : kind_of t e ≢ 16 → kind_of t e ≢ 18 → ruled W t ms e ≡ joined_operands t ms e
  unfolding ruled
  ruled-joined n m = rw (ne_eqb (kind_of t e) 16 n, ne_eqb (kind_of t e) 18 m)

  pub ruled-scope : kind_of t e ≡ 16 → ruled W t ms e ≡ bit_and (get_or ms (word_at t e (1 + W)) 0) (full W - mask_by W t e)
  unfolding ruled
  ruled-scope k = rw (eq-eqb (kind_of t e) 16 k)

  pub ruled-variable : kind_of t e ≡ 18 → ruled W t ms e ≡ 2 ^ argument_of t e
  unfolding ruled
  ruled-variable k = rw (ne_eqb (kind_of t e) 16 (other 18 16 k refl), eq-eqb (kind_of t e) 18 k)

-- the one of a list of one
only : {x y : ℕ} → In y (x ∷ []) → x ≡ y
only here = refl
only (there i) = elim i [ ]

module _ (W : ℕ) (t : List ℕ) where
  -- by its sort, what a bit stands for
  pub as-strategy : {x v : ℕ} → Of W t x v → kind_of t x ≤ 17 → Free (table_by W t) x v
  as-strategy (strategy h f) l = f
  as-strategy (pattern h f) l = absurd (omega arith)

  as-pattern : {x v : ℕ} → Of W t x v → 18 ≤ kind_of t x → Variable (table_by W t) x v
  as-pattern (strategy h f) l = absurd (omega arith)
  as-pattern (pattern h f) l = f

-- ---- soundness: the rules give nothing else

module _ (W : ℕ) (t ms : List ℕ) (sound : BitsMeant W t ms) (e v : ℕ) where
  -- the operand that has the variable
  operand-with : has (joined_operands t ms e) v ≡ true → (y : ℕ) × In y (operands t e) × (has (get_or ms y 0) v ≡ true)
  operand-with h = ⊎_elim (λ z. absurd (false≢true (sym (has-nothing v) ∙ z))) (λ z. z) (of-joined ms v 0 (operands t e) h)

  -- an operand in which it is free, and one of which it is a variable
  by-strategy : Strategies W t e → has (joined_operands t ms e) v ≡ true → (y : ℕ) × In y (operands t e) × Free (table_by W t) y v
  by-strategy s h = let (y, i, b) = operand-with h in (y, i, as-strategy W t (sound y v b) (s y i).1)

  by-pattern : Patterns W t e → has (joined_operands t ms e) v ≡ true → (y : ℕ) × In y (operands t e) × Variable (table_by W t) y v
  by-pattern s h = let (y, i, b) = operand-with h in (y, i, as-pattern W t (sound y v b) (s y i).1)

  -- of one operand
  one-pattern : {x : ℕ} → operands t e ≡ x ∷ [] → Patterns W t e → has (joined_operands t ms e) v ≡ true → Variable (table_by W t) x v
  one-pattern {x} o s h = let (y, i, f) = by-pattern s h in subst (λ y. Variable (table_by W t) y v) (sym (only (subst (In y) o i))) f

  -- by the entry's shape
  ruled-sound : Shape W t e → has (ruled W t ms e) v ≡ true → Of W t e v
  ruled-sound (is_plain k n p o s) h =
      let (y, i, f) = by-strategy s (rw (ruled-joined W t ms e n (λ z. absurd (omega arith))) at h) in
      strategy k (in-operand refl (subst (In y) (sym o) i) f)
  ruled-sound (is-match k q o s) h =
      strategy (omega arith) (in-match q (one-pattern o s (rw (ruled-joined W t ms e (other 14 16 k refl) (other 14 18 k refl)) at h)))
  ruled-sound (is-build k q o s) h =
      strategy (omega arith) (in-build q (one-pattern o s (rw (ruled-joined W t ms e (other 15 16 k refl) (other 15 18 k refl)) at h)))
  ruled-sound (is-scope k q a s) h =
      let both = and-true _ _ (sym (has-and (get_or ms (word_at t e (1 + W)) 0) (full W - mask_by W t e) v) ∙ rw (ruled-scope W t ms e k) at h) in
      strategy (omega arith) (in_scope q (not-has (variables_by W) (mask_by W t e) v a both.1) (as-strategy W t (sound (word_at t e (1 + W)) v both.0) s.1))
  ruled-sound (is-variable k q a) h =
      let z : v ≡ argument_of t e = eqb-true _ _ (sym (has_one (argument_of t e) v) ∙ rw (ruled-variable W t ms e k) at h) in
      pattern (omega arith) (var (q ∙ ap PVAR (sym z)))
  ruled-sound (is-con k q s) h =
      let (y, i, f) = by-pattern s (rw (ruled-joined W t ms e (other 19 16 k refl) (other 19 18 k refl)) at h) in
      pattern (omega arith) (part q i f)

-- ---- a turn and a pass

-- a greater mask leaves less room
room-set : (f : ℕ) (ms : List ℕ) (i m : ℕ) → i < length ms → get_or ms i 0 < m → m ≤ f → room f (set ms i m) < room f ms
unfolding room
room-set f [] i m h l k = absurd (omega arith)
room-set f (x ∷ ms) zero m h l k = omega arith
room-set f (x ∷ ms) (suc i) m h l k = let r = room-set f ms i m (omega arith) l k in omega arith

-- a mask that does not grow stays
pub stays : (W : ℕ) (t ms : List ℕ) (e : ℕ) → grows W t ms e ≡ false → fuller W t ms e ≡ get_or ms e 0
unfolding grows
stays W t ms e h = eqb-true _ _ (go _ h)
  where
    go : (b : Bool) → not b ≡ false → b ≡ true
    go true h = refl
    go false h = absurd (true≢false h)

-- what holds of the masks between two passes
pub record State (W : ℕ) (t ms : List ℕ) : Type 0 where
  pub long : rows t ≤ length ms
  pub fits : (i : ℕ) → get_or ms i 0 < 2 ^ variables_by W
  pub sound : BitsMeant W t ms

-- a mask that was put, and the others
put-at : (P : ℕ → ℕ → Type 0) (ms : List ℕ) (e m : ℕ) → e < length ms → P e m → ((x : ℕ) → P x (get_or ms x 0)) → (x : ℕ) → P x (get_or (set ms e m) x 0)
put-at P ms e m l h o x =
    decided (eqb x e)
    (λ z. let q : x ≡ e = eqb-true x e z in subst (λ x. P x (get_or (set ms e m) x 0)) (sym q) (rw (get_or-set_same ms e m 0) h))
    (λ z. let n : x ≢ e = eqb-false x e z in rw (get_or-set_other ms e x m 0) (o x))

module _ (W : ℕ) (some : 0 < W) (t ms : List ℕ) (e : ℕ) (s : State W t ms) (inside : e < rows t) (good : EntryBy W t e) where
  -- e has a mask
  within : e < length ms
  within = omega (arith, s.long)

  -- what a rule gives fits
  ruled-fits : Shape W t e → ruled W t ms e < 2 ^ variables_by W
  ruled-fits (is_plain k n p o f) = rw (ruled-joined W t ms e n (λ z. absurd (omega arith))) (joined-fits (variables_by W) ms s.fits 0 _ (omega (arith, s.fits 0)))
  ruled-fits (is-match k q o f) = rw (ruled-joined W t ms e (other 14 16 k refl) (other 14 18 k refl)) (joined-fits (variables_by W) ms s.fits 0 _ (omega (arith, s.fits 0)))
  ruled-fits (is-build k q o f) = rw (ruled-joined W t ms e (other 15 16 k refl) (other 15 18 k refl)) (joined-fits (variables_by W) ms s.fits 0 _ (omega (arith, s.fits 0)))
  ruled-fits (is-scope k q a f) = rw (ruled-scope W t ms e k) (omega (arith, a, and_le_r (get_or ms (word_at t e (1 + W)) 0) (full W - mask_by W t e)))
  ruled-fits (is-variable k q a) = rw (ruled-variable W t ms e k) (pow-lt {j = variables_by W} a)
  ruled-fits (is-con k q f) = rw (ruled-joined W t ms e (other 19 16 k refl) (other 19 18 k refl)) (joined-fits (variables_by W) ms s.fits 0 _ (omega (arith, s.fits 0)))

  -- a fuller mask fits, and stands for nothing else
  fuller-fits : fuller W t ms e < 2 ^ variables_by W
  unfolding fuller
  fuller-fits = or_lt (variables_by W) (get_or ms e 0) (ruled W t ms e) (s.fits e) (ruled-fits (shape W t e some good))

  fuller-sound : (v : ℕ) → has (fuller W t ms e) v ≡ true → Of W t e v
  unfolding fuller
  fuller-sound v h = ⊎_elim (s.sound e v) (ruled-sound W t ms s.sound e v (shape W t e some good)) (either _ _ (sym (has-or (get_or ms e 0) (ruled W t ms e) v) ∙ h))

  -- a turn keeps what holds
  grown-state : State W t (grown W t ms e)
  unfolding grown
  grown-state =
      record {
        long = rw length-set s.long;
        fits = put-at (λ x m. m < 2 ^ variables_by W) ms e (fuller W t ms e) within fuller-fits s.fits;
        sound = put-at (λ x m. (v : ℕ) → has m v ≡ true → Of W t x v) ms e (fuller W t ms e) within fuller-sound s.sound;
      }

  -- masks of which none grows stay
  grown-stays : grows W t ms e ≡ false → grown W t ms e ≡ ms
  unfolding grown
  grown-stays h = rw (stays W t ms e h) (set-get_or ms e 0)

  -- one that grows leaves less room
  grown-less : grows W t ms e ≡ true → room (full W) (grown W t ms e) < room (full W) ms
  unfolding grows grown fuller
  grown-less h =
      let n : fuller W t ms e ≢ get_or ms e 0 = eqb-false _ _ (go _ h) in
      room-set (full W) ms e (fuller W t ms e) within (omega (arith, or-grows (get_or ms e 0) (ruled W t ms e), n)) (omega (arith, fuller-fits))
    where
      go : (b : Bool) → not b ≡ true → b ≡ false
      go true h = absurd (false≢true h)
      go false h = refl

-- what the turns of the entries below n do
pub record Pass (W : ℕ) (t : List ℕ) (n : ℕ) (ms : List ℕ) : Type 0 where
  pub state : State W t (passed W t n ms)
  pub most : room (full W) (passed W t n ms) ≤ room (full W) ms
  pub less : changed W t n ms ≡ true → room (full W) (passed W t n ms) < room (full W) ms
  pub still : changed W t n ms ≡ false → passed W t n ms ≡ ms
  pub none : changed W t n ms ≡ false → (e : ℕ) → e < n → grows W t ms e ≡ false

-- neither test holds where their disjunction does not
neither : (a b : Bool) → a || b ≡ false → (a ≡ false) × (b ≡ false)
neither true b e = absurd (true≢false e)
neither false b e = (refl, e)

-- by induction: the highest entry's turn, then those below it
pub pass-does : (W : ℕ) → 0 < W → (t : List ℕ) → GoodTableBy W t → (n : ℕ) → n ≤ rows t → (ms : List ℕ) → State W t ms → Pass W t n ms
unfolding passed changed
pass-does W some t good zero l ms s =
    record { state = s; most = omega arith; less = λ h. absurd (false≢true h); still = λ h. refl; none = λ h e k. absurd (omega arith) }
pass-does W some t good (suc e) l ms s =
    let inside : e < rows t = omega arith in
    let entry : EntryBy W t e = entry_of W t good e inside in
    let r : Pass W t e (grown W t ms e) = pass-does W some t good e (omega arith) (grown W t ms e) (grown-state W some t ms e s inside entry) in
    let least : room (full W) (grown W t ms e) ≤ room (full W) ms =
    decided (grows W t ms e) (λ h. let k = grown-less W some t ms e s inside entry h in omega arith) (λ h. rw (grown-stays W some t ms e s inside entry h) (omega arith)) in
    record {
      state = r.state;
      most = omega (arith, r.most);
      less = λ h.
          ⊎_elim (λ g. let k = grown-less W some t ms e s inside entry g in omega (arith, r.most)) (λ g. let k = r.less g in omega arith) (either _ _ h);
      still = λ h. let (g, k) = neither _ _ h in r.still k ∙ grown-stays W some t ms e s inside entry g;
      none = λ h x b.
          let (g, k) = neither _ _ h in
          decided (eqb x e)
          (λ z. let q : x ≡ e = eqb-true x e z in rw q g)
          (λ z. let q : x ≢ e = eqb-false x e z in subst (λ ms. grows W t ms x ≡ false) (grown-stays W some t ms e s inside entry g) (r.none k x (omega arith)));
    }

-- the loop over the entries: one turn, and the end
module _ (W : ℕ) (t ms : List ℕ) (e : ℕ) where
  module _ (some : 0 < e) (g : Bool) (ms' : List ℕ) (r : g ≡ grows W t ms (e - 1)) (p : ms' ≡ grown W t ms (e - 1)) where
    last : e ≡ suc (e - 1)
    last = omega arith

    pub pass-turn : passed W t (e - 1) ms' ≡ passed W t e ms
    unfolding passed
    pass-turn = rw p (sym (ap (λ (n : ℕ). passed W t n ms) last))

    either_way : changed W t e ms ≡ g || changed W t (e - 1) ms'
    unfolding changed
    either_way = ap (λ (n : ℕ). changed W t n ms) last ∙ rw (r, p)

    pub changed-turn : (any : Bool) → (any || g) || changed W t (e - 1) ms' ≡ any || changed W t e ms
    changed-turn any = or_assoc any g (changed W t (e - 1) ms') ∙ ap (λ (b : Bool). any || b) (sym either_way)

  pub pass-end : e ≤ 0 → passed W t e ms ≡ ms
  unfolding passed
  pass-end h = let z : e ≡ 0 = omega arith in rw z

  pub changed-end : (any : Bool) → e ≤ 0 → any || changed W t e ms ≡ any
  unfolding changed
  changed-end any h = let z : e ≡ 0 = omega arith in rw z (or-false any)

-- the turns that the loop of passes has left: the last one says that nothing changed
abbrev pub turns : ℕ → Bool → List ℕ → ℕ
turns W true ms = suc (room (full W) ms)
turns W false ms = 0

-- after one more pass
module _ (W : ℕ) (some : 0 < W) (t ms : List ℕ) (good : GoodTableBy W t) (s : State W t ms) (more : Bool) (ms' : List ℕ) (m : more ≡ changed W t (rows t) ms) (p : ms' ≡ passed W t (rows t) ms) where
  does : Pass W t (rows t) ms
  does = pass-does W some t good (rows t) (omega arith) ms s

  pub turn-state : State W t ms'
  turn-state = rw p does.state

  pub turn-less : turns W more ms' < suc (room (full W) ms)
  turn-less = go more m
    where
      go : (b : Bool) → b ≡ changed W t (rows t) ms → turns W b ms' < suc (room (full W) ms)
      go true e = let l = does.less (sym e) in rw p (omega arith)
      go false e = omega arith

  pub turn-settled : more ≡ false → Settled W t ms'
  turn-settled z e h =
      let none : changed W t (rows t) ms ≡ false = sym m ∙ z in
      rw (p ∙ does.still none) (does.none none e h)

-- ---- masks that are spread

pub spread_none : (W : ℕ) (t ms : List ℕ) → BitsMeant W t ms → Spread W t ms ms
spread_none W t ms s = record { sound = s; least = omega arith }

pub spread-on : {W : ℕ} {t ms ms' ms'' : List ℕ} → Spread W t ms ms' → Spread W t ms' ms'' → Spread W t ms ms''
spread-on a b = record { sound = b.sound; least = omega (arith, a.least, b.least) }

-- One entry's turn.
pub spread-turn : (W : ℕ) → 0 < W → (t ms : List ℕ) → GoodTableBy W t → State W t ms → (e : ℕ) → e < rows t → (ms' : List ℕ) → ms' ≡ grown W t ms e → Spread W t ms ms'
spread-turn W some t ms good s e inside ms' p =
    let entry : EntryBy W t e = entry_of W t good e inside in
    let least : room (full W) (grown W t ms e) ≤ room (full W) ms =
    decided (grows W t ms e) (λ h. let k = grown-less W some t ms e s inside entry h in omega arith) (λ h. rw (grown-stays W some t ms e s inside entry h) (omega arith)) in
    rw p (record { sound = (grown-state W some t ms e s inside entry).sound; least = least })

-- After one more pass, and masks spread: no more turns are left.
pub spread-less : (W : ℕ) (t ms ms' ms'' : List ℕ) (more : Bool) → turns W more ms' < suc (room (full W) ms) → Spread W t ms' ms'' → turns W more ms'' < suc (room (full W) ms)
spread-less W t ms ms' ms'' true l s = omega (arith, s.least)
spread-less W t ms ms' ms'' false l s = l

-- Where a kind's operands begin.
pub from-small : (k : ℕ) → operands_from_by ours k ≤ 3
from-small k = decided (eqb k 16) (λ z. rw z (omega arith)) (λ z. rw z (omega arith))
