-- What a word says: the laws of packing a node with units, of each answer's word, and of an answer with record and store.
use mathlib.Core.Path.{◌≡◌, refl, ap, sym, ◌∙◌}
use mathlib.Core.Bool.{Bool, true, false}
use mathlib.Core.List.{List}
use Prim.Native.Nat.{ℕ, ◌+◌, ◌%◌, ◌<◌, ◌≤◌}
use native.Mathlib.Omega.{arith}
use lib.Dec.{eqb, ltb}
use borrow.Author.Tests.{ne_eqb, eqb-true, eqb-false, lt-ltb, le-ltb, ltb-true}
use Rattle.std.specs.Prelude.{Some, None, if◌then◌else◌}
use Rattle.meaning.specs.Bindings.{Bindings}
use Rattle.meaning.specs.Limits.{units, room, nesting, unbound, ended, lost, cut}
use Rattle.state.specs.Noted.{Standing, on, left_of}
use Rattle.state.specs.declared.answers.Answer.{Answer}
use Rattle.state.specs.declared.answers.Answer.TheVariants.{Done, Failed, Cut}
use Rattle.state.specs.declared.answers.Attempt.{Attempt}
use Rattle.state.specs.declared.answers.Attempt.TheVariants.{Ended, Cut as Off}
use Rattle.state.specs.Answers.{packed, node_in, units_in, failed_half, cut_half, units_half, room_half, nesting_half, failed_word}
use Rattle.state.specs.Answers.{unbound_word, units_word, room_word, nesting_word, stopped_word, answer_of, attempt_of}
use Rattle.state.specs.Record.{standing, held}
use Rattle.state.specs.Visits.{limit_of, meaning, out, giving, kept}

-- a node and units in a word
pub node-packed : (x u : ℕ) → u < 4294967296 → node_in (packed x u) ≡ x
node-packed x u h = omega arith

pub units-packed : (x u : ℕ) → u < 4294967296 → units_in (packed x u) ≡ u
units-packed x u h = omega arith

pub packed-again : (g : ℕ) → packed (node_in g) (units_in g) ≡ g
packed-again g = omega arith

-- what each word tells
pub answer-done : (x u : ℕ) → x < failed_half → u < 4294967296 → answer_of (packed x u) ≡ Done x u
unfolding answer_of
answer-done x u h l = rw (node-packed x u l, units-packed x u l, lt-ltb x failed_half h)

pub answer-failed : (u : ℕ) → u < 4294967296 → answer_of (failed_word u) ≡ Failed u
unfolding answer_of
answer-failed u l = rw (node-packed failed_half u l, units-packed failed_half u l)

answer-cut : (c : ℕ) → cut_half ≤ node_in c → answer_of c ≡ Cut c
unfolding answer_of
answer-cut c h = rw (le-ltb (node_in c) failed_half (omega arith), le-ltb (node_in c) cut_half h)

-- the word of a cut-off with the upper half x
cut-packed : (x u : ℕ) → cut_half ≤ x → u < 4294967296 → answer_of (packed x u) ≡ Cut (packed x u)
cut-packed x u h l = answer-cut (packed x u) (omega arith)

-- no nesting is left: the units' word where none are left, else the nesting's; a cut-off in both cases
pub stopped-units : (u : ℕ) → u ≡ 0 → stopped_word u ≡ units_word
unfolding stopped_word
stopped-units u z = rw z

pub stopped-nesting : (u : ℕ) → (u ≡ 0 → ⊥) → stopped_word u ≡ nesting_word u
unfolding stopped_word
stopped-nesting u z = rw (ne_eqb u 0 z)

pub answer-stopped : (u : ℕ) → u < 4294967296 → answer_of (stopped_word u) ≡ Cut (stopped_word u)
answer-stopped u l = go (eqb u 0) refl
  where
    go : (b : Bool) → eqb u 0 ≡ b → answer_of (stopped_word u) ≡ Cut (stopped_word u)
    go true h = rw (stopped-units u (eqb-true u 0 h)) (cut-packed units_half 0 (omega arith) (omega arith))
    go false h = rw (stopped-nesting u (eqb-false u 0 h)) (cut-packed nesting_half u (omega arith) l)

-- what an answer's word says with record and store
module _ (st w : List ℕ) where
  pub out-done : (x u : ℕ) → x < failed_half → u < 4294967296 → out (packed x u) st w ≡ ended x (held st) (on w (standing st)) u
  unfolding out meaning
  out-done x u h l = rw (answer-done x u h l)

  pub out-failed : (u : ℕ) → u < 4294967296 → out (failed_word u) st w ≡ lost (left_of w (standing st)) u
  unfolding out meaning
  out-failed u l = rw (answer-failed u l)

  -- the same by a word that is known, of a node in a store
  pub gave : (r x u : ℕ) → r ≡ packed x u → x < 131072 → u < 4294967296 → out r st w ≡ ended x (held st) (on w (standing st)) u
  gave r x u e h l = rw e (out-done x u (omega arith) l)

  pub gave-failed : (r u : ℕ) → r ≡ failed_word u → u < 4294967296 → out r st w ≡ lost (left_of w (standing st)) u
  gave-failed r u e l = rw e (out-failed u l)

  pub out-units : out units_word st w ≡ cut units (left_of w (standing st)) 0
  unfolding out meaning answer_of limit_of
  out-units = refl

  pub out-room : (u : ℕ) → u < 4294967296 → out (room_word u) st w ≡ cut room (left_of w (standing st)) u
  unfolding out meaning limit_of
  out-room u l = rw (cut-packed room_half u (omega arith) l, node-packed room_half u l, units-packed room_half u l)

  pub out-nesting : (u : ℕ) → u < 4294967296 → out (nesting_word u) st w ≡ cut nesting (left_of w (standing st)) u
  unfolding out meaning limit_of
  out-nesting u l = rw (cut-packed nesting_half u (omega arith) l, node-packed nesting_half u l, units-packed nesting_half u l)

  pub out-unbound : (v u : ℕ) → v < 64 → u < 4294967296 → out (unbound_word v u) st w ≡ cut (unbound v) (left_of w (standing st)) u
  unfolding out meaning limit_of
  out-unbound v u h l =
      let m : (cut_half + v) % 64 ≡ v = omega arith in
      rw (
        cut-packed (cut_half + v) u (omega arith) l,
        node-packed (cut_half + v) u l,
        units-packed (cut_half + v) u l,
        lt-ltb
            (cut_half + v) units_half (omega arith),
        m,
      )

  -- an answer that was read
  pub out-answer : (r : ℕ) (a : Answer) → a ≡ answer_of r → out r st w ≡ meaning a st w
  unfolding out
  out-answer r a e = rw e

  -- where only the units count
  module _ (k : ℕ) (b : Bindings ℕ) (m : Standing) where
    pub kept-done : (x u : ℕ) → x < failed_half → u < 4294967296 → kept (packed x u) k b w m ≡ ended k b (on w m) u
    unfolding kept giving
    kept-done x u h l = rw (answer-done x u h l)

    pub kept-failed : (u : ℕ) → u < 4294967296 → kept (failed_word u) k b w m ≡ lost (left_of w m) u
    unfolding kept giving
    kept-failed u l = rw (answer-failed u l)

    pub kept-units : kept units_word k b w m ≡ cut units (left_of w m) 0
    unfolding kept giving answer_of limit_of
    kept-units = refl

    pub kept-nesting : (u : ℕ) → u < 4294967296 → kept (nesting_word u) k b w m ≡ cut nesting (left_of w m) u
    unfolding kept giving limit_of
    kept-nesting u l = rw (cut-packed nesting_half u (omega arith) l, node-packed nesting_half u l, units-packed nesting_half u l)

    pub kept-answer : (r : ℕ) (a : Answer) → a ≡ answer_of r → kept r k b w m ≡ giving a k b w m
    unfolding kept
    kept-answer r a e = rw e

-- the units of a word that was read are below 2³², and a done node is below the upper half of failed
pub done-node : (r x u : ℕ) → answer_of r ≡ Done x u → (x ≡ node_in r) × (u ≡ units_in r) × (x < failed_half)
unfolding answer_of
done-node r x u e = go (ltb (node_in r) failed_half) refl (ltb (node_in r) cut_half) e
  where
    go : (t : Bool) → ltb (node_in r) failed_half ≡ t → (s : Bool) →
        (if t then Done (node_in r) (units_in r) else if s then Failed (units_in r) else Cut r) ≡ Done x u →
        (x ≡ node_in r) × (u ≡ units_in r) × (x < failed_half)
    go true f s h = let a : node_in r ≡ x = cc in let b : units_in r ≡ u = cc in
        (sym a, sym b, omega (arith, ltb-true (node_in r) failed_half f))
    go false f true h = absurd (let z : ◌≡◌ {A = ℕ} 0 1 = cc in omega arith)
    go false f false h = absurd (let z : ◌≡◌ {A = ℕ} 0 1 = cc in omega arith)

pub failed-units : (r u : ℕ) → answer_of r ≡ Failed u → u ≡ units_in r
unfolding answer_of
failed-units r u e = go (ltb (node_in r) failed_half) (ltb (node_in r) cut_half) e
  where
    go : (t s : Bool) → (if t then Done (node_in r) (units_in r) else if s then Failed (units_in r) else Cut r) ≡ Failed u → u ≡ units_in r
    go true s h = absurd (let z : ◌≡◌ {A = ℕ} 0 1 = cc in omega arith)
    go false true h = let b : units_in r ≡ u = cc in sym b
    go false false h = absurd (let z : ◌≡◌ {A = ℕ} 0 1 = cc in omega arith)

-- what was attempted, as what was read
pub attempt-done : (a : Answer) (x u : ℕ) → attempt_of a ≡ Ended (Some x) u → a ≡ Done x u
unfolding attempt_of
attempt-done (Done y v) x u e = ap (λ h. Done (node_of h) (units_of h)) e
  where
    node_of : Attempt → ℕ
    node_of (Ended (Some y) v) = y
    node_of (Ended None v) = 0
    node_of (Off c) = 0

    units_of : Attempt → ℕ
    units_of (Ended o v) = v
    units_of (Off c) = 0
attempt-done (Failed v) x u e = absurd (let z : ◌≡◌ {A = ℕ} 0 1 = cc in omega arith)
attempt-done (Cut c) x u e = absurd (let z : ◌≡◌ {A = ℕ} 0 1 = cc in omega arith)

pub attempt-failed : (a : Answer) (u : ℕ) → attempt_of a ≡ Ended None u → a ≡ Failed u
unfolding attempt_of
attempt-failed (Done y v) u e = absurd (let z : ◌≡◌ {A = ℕ} 0 1 = cc in omega arith)
attempt-failed (Failed v) u e = let z : v ≡ u = cc in ap Failed z
attempt-failed (Cut c) u e = absurd (let z : ◌≡◌ {A = ℕ} 0 1 = cc in omega arith)

pub attempt-cut : (a : Answer) (c : ℕ) → attempt_of a ≡ Off c → a ≡ Cut c
unfolding attempt_of
attempt-cut (Done y v) c e = absurd (let z : ◌≡◌ {A = ℕ} 0 1 = cc in omega arith)
attempt-cut (Failed v) c e = absurd (let z : ◌≡◌ {A = ℕ} 0 1 = cc in omega arith)
attempt-cut (Cut d) c e = let z : d ≡ c = cc in ap Cut z

-- the units of an answer that was read are below 2³²
pub done-units : (r x u : ℕ) (a : Answer) → a ≡ answer_of r → a ≡ Done x u → u < 4294967296
done-units r x u a t e = let q : u ≡ units_in r = (done-node r x u (sym t ∙ e)).1 in omega arith

pub failed-few : (r u : ℕ) (a : Answer) → a ≡ answer_of r → a ≡ Failed u → u < 4294967296
failed-few r u a t e = let q : u ≡ units_in r = failed-units r u (sym t ∙ e) in omega arith
