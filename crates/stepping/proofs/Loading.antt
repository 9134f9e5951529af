-- The given bindings as words of the list, one variable after the other; and back. Assumes nothing.
use Rattle.std.proofs.Common.{◌≡◌, ℕ, suc, ◌+◌, ◌-◌, ◌*◌, ◌%◌, ◌^◌, ◌<◌, ◌≤◌, Bool, true, false, ◌&&◌, eqb, ltb, List, length, get_or, set, sym, refl, ap, ◌∙◌, ⊎_elim, arith, length-set, get_or-set_other, get_or-set_same, ext_get_or, le-ltb, lt-ltb, eqb-true, if◌then◌else◌}
use mathlib.Core.Path.{fun_ext}
use mathlib.Core.Option.{none, some}
use borrow.Author.Tests.{eqb-false}
use lib.Bits.{bit_or}
use lib.ListN.{get_or-eq_default}
use Rattle.words.proofs.Tests.{below-or-from}
use Rattle.meaning.specs.Bindings.{Bindings, bind, has}
use Rattle.meaning.specs.Store.{named, bindings}
use Rattle.meaning.specs.Answer.{binding_word, binding_words}
use Rattle.meaning.proofs.Bits.{has-nothing}
use Rattle.calls.proofs.Words.{length-words, word-of}
use Rattle.turns.specs.Ways.{record_from, held_at}
use Rattle.machine.proofs.Holding.{held-bind}
use Rattle.stepping.specs.Ended.{Loaded, PutBack}

-- the bindings of the words b, of the variables below v
unfoldable pub up_to : List ℕ → ℕ → Bindings ℕ
up_to b v = λ u. if ltb u v then named (get_or b u 0) else none

-- the words of the variables below v are loaded
pub record SoFar (k₀ b : List ℕ) (v m : ℕ) (k : List ℕ) : Type 0 where
  pub few : v ≤ 64
  pub long : length k ≡ length k₀
  pub held : held_at k record_from m ≡ up_to b v

pub none_yet : (k b : List ℕ) → SoFar k b 0 0 k
unfolding held_at up_to
none_yet k b = record {
  few = omega arith;
  long = refl;
  held = fun_ext (λ u. rw (has-nothing u, le-ltb u 0 (omega arith)) (go (ltb u 64)
      u));
}
  where
    go : (c : Bool) (u : ℕ) → (if c && false then some (get_or k (record_from + u) 0) else none) ≡ none
    go true u = refl
    go false u = refl

-- the next variable is bound, or not
module _ {k₀ b : List ℕ} {v m : ℕ} {k : List ℕ} (s : SoFar k₀ b v m k) (more : v < 64) (room : 327680 ≤ length k₀) where
  pub loaded-bound : (w : ℕ) → w ≡ get_or b v 0 → (w ≡ 0 → ⊥) → SoFar k₀ b (v + 1) (bit_or m (1 * 2 ^ v % 2 ^ 64)) (set k (record_from + v) (w
      - 1))
  unfolding up_to bind named
  loaded-bound w e n = record {
    few = omega arith;
    long = length-set k (record_from + v) (w - 1) ∙ s.long;
    held = held-bind k record_from m v (w - 1) more (omega (arith, s.long)) ∙ ap (bind v (w - 1)) s.held ∙ fun_ext (λ u. at u (eqb u v)
        refl);
  }
    where
      at : (u : ℕ) (c : Bool) → eqb u v ≡ c → (if c then some (w - 1) else (if ltb u v then named (get_or b u 0) else none)) ≡ (if ltb u (v +
          1) then named (get_or b u 0) else none)
      at u true z =
          let x : u ≡ v = eqb-true u v z in
          let y : get_or b v 0 ≡ suc (w - 1) = sym e ∙ omega arith in
          rw (x, lt-ltb v (v + 1) (omega arith), y) refl
      at u false z = ⊎_elim (λ l. rw (lt-ltb u v l, lt-ltb u (v + 1) (omega arith)) refl) (λ l. let x = eqb-false u v z in rw (
        le-ltb u v
            l,
        le-ltb u (v + 1) (beyond l x),
      ) refl) (below-or-from u v)
        where
          beyond : v ≤ u → (u ≡ v → ⊥) → v + 1 ≤ u
          beyond l x = ⊎_elim (λ h. absurd (x (omega arith))) (λ h. h) (below-or-from u (v + 1))

  pub loaded-unbound : (w : ℕ) → w ≡ get_or b v 0 → w ≡ 0 → SoFar k₀ b (v + 1) m k
  unfolding up_to named
  loaded-unbound w e n = record { few = omega arith; long = s.long; held = s.held ∙ fun_ext (λ u. at u (eqb u v) refl) }
    where
      at : (u : ℕ) (c : Bool) → eqb u v ≡ c → (if ltb u v then named (get_or b u 0) else none) ≡ (if ltb u (v + 1) then named (get_or b u 0)
          else none)
      at u true z =
          let x : u ≡ v = eqb-true u v z in
          let y : get_or b v 0 ≡ 0 = sym e ∙ n in
          rw (x, lt-ltb v (v + 1) (omega arith), le-ltb v v (omega arith), y) refl
      at u false z = ⊎_elim (λ l. rw (lt-ltb u v l, lt-ltb u (v + 1) (omega arith)) refl) (λ l. let x = eqb-false u v z in rw (
        le-ltb u v
            l,
        le-ltb u (v + 1) (beyond l x),
      ) refl) (below-or-from u v)
        where
          beyond : v ≤ u → (u ≡ v → ⊥) → v + 1 ≤ u
          beyond l x = ⊎_elim (λ h. absurd (x (omega arith))) (λ h. h) (below-or-from u (v + 1))

pub all-loaded : {k₀ b : List ℕ} {v m : ℕ} {k : List ℕ} → SoFar k₀ b v m k → 64 ≤ v → length b ≡ 64 → Loaded k₀ b m k
unfolding up_to bindings named
all-loaded {k₀} {b} {v} {m} {k} s l n = record { long = s.long; held = s.held ∙ fun_ext (λ u. at u) }
  where
    at : (u : ℕ) → (if ltb u v then named (get_or b u 0) else none) ≡ named (get_or b u 0)
    at u = ⊎_elim (λ h. rw (lt-ltb u v h) refl) (λ h. let z : get_or b u 0 ≡ 0 = get_or-eq_default b 0 {n = u} (omega arith) in rw (
      le-ltb
          u v h,
      z,
    ) refl) (below-or-from u v)

-- ---- and back

-- the words of the variables below v are written
pub record Written (k : List ℕ) (m v : ℕ) (b : List ℕ) : Type 0 where
  pub few : v ≤ 64
  pub long : length b ≡ 64
  pub word : (u : ℕ) → u < v → get_or b u 0 ≡ (if has m u then (get_or k (record_from + u) 0 + 1) % 4294967296 else 0)

pub none_written : (k b : List ℕ) (m : ℕ) → length b ≡ 64 → Written k m 0 b
none_written k b m l = record { few = omega arith; long = l; word = λ u h. absurd (omega arith) }

pub one_written : {k b : List ℕ} {m v x : ℕ} → Written k m v b → v < 64 → x ≡ (if has m v then (get_or k (record_from + v) 0 + 1) % 4294967296
    else 0) → Written k m (v + 1) (set b v x)
one_written {k} {b} {m} {v} {x} s l e = record {
  few = omega arith;
  long = length-set b v x ∙ s.long;
  word = λ u h. ⊎_elim
      (λ g. get_or-set_other b v u x 0 (λ (z : u ≡ v). omega arith) ∙ s.word u g)
      (λ g. let z : u ≡ v = omega arith in rw z (get_or-set_same b v x 0 (omega (arith, s.long)) ∙ e))
      (below-or-from u v);
}

-- the word of a variable, by the node that it is bound to
module _ (k : List ℕ) (m v : ℕ) (few : v < 64) where
  abbrev pub word_back : ℕ
  word_back = if has m v then (get_or k (record_from + v) 0 + 1) % 4294967296 else 0

  pub word-bound : {n : ℕ} → some n ≡ held_at k record_from m v → (n + 1) % 4294967296 ≡ word_back
  unfolding held_at
  word-bound {n} e = go (has m v) refl
    where
      go : (c : Bool) → has m v ≡ c → (n + 1) % 4294967296 ≡ word_back
      go true h =
          let z : some n ≡ some (get_or k (record_from + v) 0) = rw (lt-ltb v 64 few, h) at e in
          let y : n ≡ get_or k (record_from + v) 0 = cc in rw h (ap (λ (n : ℕ). (n + 1) % 4294967296) y)
      go false h = let z : some n ≡ none = rw (lt-ltb v 64 few, h) at e in absurd (cc)

  pub word-unbound : none ≡ held_at k record_from m v → 0 ≡ word_back
  unfolding held_at
  word-unbound e = go (has m v) refl
    where
      go : (c : Bool) → has m v ≡ c → 0 ≡ word_back
      go true h = let z : none ≡ some (get_or k (record_from + v) 0) = rw (lt-ltb v 64 few, h) at e in absurd (cc)
      go false h = rw h refl

pub all-written : {k b : List ℕ} {m v : ℕ} → Written k m v b → 64 ≤ v → PutBack k m b
all-written s l = record { long = s.long; word = λ u h. s.word u (omega arith) }

-- what is written are the words of the bindings, where each node's number plus one is a word
pub put-back-words : (k b : List ℕ) (m : ℕ) → PutBack k m b → ((v j : ℕ) → held_at k record_from m v ≡ some j → j < 131072) → b ≡
    binding_words 64 (held_at k record_from m)
unfolding held_at binding_word
put-back-words k b m s small =
    ext_get_or 0 b (binding_words 64 (held_at k record_from m)) (s.long ∙ sym (length-words 64 (held_at k record_from m)))
    (λ v l. s.word v (omega (arith, s.long)) ∙ at v (omega (arith, s.long)) (has m v) refl ∙ sym (word-of 64 (held_at k record_from m) v
    (omega (arith, s.long))))
  where
    at : (v : ℕ) → v < 64 → (c : Bool) → has m v ≡ c → (if c then (get_or k (record_from + v) 0 + 1) % 4294967296 else 0) ≡ binding_word
        (held_at k record_from m v)
    at v l true e =
        let h : held_at k record_from m v ≡ some (get_or k (record_from + v) 0) = rw (lt-ltb v 64 l, e) refl in
        let z = small v (get_or k (record_from + v) 0) h in
        rw h (omega arith)
    at v l false e = let h : held_at k record_from m v ≡ none = rw (lt-ltb v 64 l, e) refl in rw h refl
