-- A signature that fits, an entry and a node that obey it are the plain facts of specs/Signature.antt, both ways; and what the two
-- checks against it answer. Assumes nothing.
use mathlib.Core.Path.{◌≡◌, refl, ap}
use mathlib.Core.Bool.{Bool, true, false, ◌||◌}
use mathlib.Core.Logic.{◌↔◌, inl, inr, ⊎_elim}
use mathlib.Core.Option.{Option, none, some}
use mathlib.Core.List.{List}
use Prim.Native.Nat.{ℕ, ◌<◌}
use native.Mathlib.Omega.{arith}
use lib.Dec.{leb, ltb, eqb}
use lib.ListN.{length, get_or}
use borrow.Author.Tests.{leb-true, ltb-true, eqb-true, eqb-false, le-leb, lt-ltb, eq-eqb}
use Rattle.std.specs.Prelude.{if◌then◌else◌}
use Rattle.words.specs.Tests.{rejected}
use Rattle.words.specs.Words.{rows}
use Rattle.words.proofs.Tests.{and-true, every_true}
use Rattle.checks.specs.Good.{kind_of, operand_count, argument_of, constructor_of, child_count}
use Rattle.checks.specs.Checked.{checked, found}
use Rattle.checks.specs.Checked.{Checked}
use Rattle.checks.specs.Signature.{signature_fits, declares, entry_obeys, node_obeys, entries_checked, nodes_checked, Declared, EntryObeys}
use Rattle.checks.specs.Promises as promises
use Rattle.checks.specs.Promises.{AllGood, Lowest}
use Rattle.checks.proofs.Promises.{none-good, some-lowest}

pub signature_plain : promises.signature_plain
unfolding signature_fits
signature_plain g = (
  λ h.
      let x : (leb (length g) 65536 ≡ true) × _ = and-true _ _ h in
      record { short = leb-true _ _ x.0; words = λ c l. leb-true _ _ ((every_true (λ c. leb (get_or g c 0) 7) 0 (length g)).0 x.1 c (omega arith) (omega arith)) },
  λ p. rw (le-leb (length g) 65536 p.short, (every_true (λ c. leb (get_or g c 0) 7) 0 (length g)).1 (λ c l m. le-leb _ _ (p.words c (omega arith)))),
)

module _ (g : List ℕ) where
  pub declares-plain : (c n : ℕ) → declares g c n ≡ true ↔ Declared g c n
  unfolding declares
  declares-plain c n = (
    λ h.
        let x : (ltb c (length g) ≡ true) × _ = and-true _ _ h in
        let y : (ltb n 7 ≡ true) × _ = and-true _ _ x.1 in
        record { inside = ltb-true _ _ x.0; count = eqb-true _ _ y.1; known = ltb-true _ _ y.0 },
    λ d. rw (lt-ltb c (length g) d.inside, lt-ltb n 7 d.known, eq-eqb (get_or g c 0) n d.count),
  )

  module _ (t : List ℕ) (e : ℕ) where
    -- a CONG or a PCON, or another kind
    sorted : (b d : Bool) → eqb (kind_of t e) 10 ≡ b → eqb (kind_of t e) 19 ≡ d
        → (if b || d then declares g (argument_of t e) (operand_count t e) else true) ≡ true ↔ EntryObeys g t e
    sorted true d p q = let f = declares-plain (argument_of t e) (operand_count t e) in (λ h k. f.0 h, λ o. f.1 (o (inl (eqb-true _ _ p))))
    sorted false true p q = let f = declares-plain (argument_of t e) (operand_count t e) in (λ h k. f.0 h, λ o. f.1 (o (inr (eqb-true _ _ q))))
    sorted false false p q = (λ h k. absurd (⊎_elim (eqb-false _ _ p) (eqb-false _ _ q) k), λ o. refl)

pub entry_obeys_plain : promises.entry_obeys_plain
unfolding entry_obeys
entry_obeys_plain g t e = sorted g t e (eqb (kind_of t e) 10) (eqb (kind_of t e) 19) refl refl

pub node_obeys_plain : promises.node_obeys_plain
unfolding node_obeys
node_obeys_plain g s k = declares-plain g (constructor_of s k) (child_count s k)

-- what a search with the answer a, which is not 0, says of what it found
module _ (a : ℕ) (some-answer : 0 < a) (good : ℕ → Bool) (n : ℕ) where
  found_none : ((found a (rejected good 0 n)).answer ≡ 0) ↔ AllGood good n
  found_none = (λ e. (none-good good n).0 (go (rejected good 0 n) e), λ h. ap (λ (o : Option ℕ). (found a o).answer) ((none-good good n).1 h))
    where
      go : (o : Option ℕ) → (found a o).answer ≡ 0 → o ≡ none
      go none e = refl
      go (some k) e = absurd (omega arith)

  found_some : (p : ℕ) → (found a (rejected good 0 n) ≡ checked a p) ↔ Lowest good n p
  found_some p = (λ e. (some-lowest good n p).0 (go (rejected good 0 n) e), λ l. ap (found a) ((some-lowest good n p).1 l))
    where
      go : (o : Option ℕ) → found a o ≡ checked a p → o ≡ some p
      go none e = absurd (omega (arith, ap (λ (c : Checked). c.answer) e))
      go (some k) e = ap some (ap (λ (c : Checked). c.place) e)

pub entries_pass : promises.entries_pass
unfolding entries_checked
entries_pass g t = found_none 10 (omega arith) (entry_obeys g t) (rows t)

pub entries_reject : promises.entries_reject
unfolding entries_checked
entries_reject g t p = found_some 10 (omega arith) (entry_obeys g t) (rows t) p

pub nodes_pass : promises.nodes_pass
unfolding nodes_checked
nodes_pass g s mark = found_none 11 (omega arith) (node_obeys g s) mark

pub nodes_reject : promises.nodes_reject
unfolding nodes_checked
nodes_reject g s mark p = found_some 11 (omega arith) (node_obeys g s) mark p
