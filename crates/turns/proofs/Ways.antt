-- A frame's two ways on: the word `what` picks them, and some of its other words are of no account.
use mathlib.Core.Path.{◌≡◌, refl, ap, subst}
use mathlib.Core.Bool.{false, true≢false}
use mathlib.Core.Logic.{⊎_elim}
use mathlib.Core.List.{List}
use Prim.Native.Nat.{ℕ, zero, suc, ◌-◌, ◌<◌}
use native.Mathlib.Omega.{arith}
use lib.ListN.{get_or}
use Rattle.words.proofs.Tests.{below-or-from}
use Rattle.meaning.specs.Bindings.{Bindings}
use Rattle.meaning.specs.Plan.{fail}
use Rattle.turns.specs.Ways.{Frame, saves, stepping, ways, way_of}

-- every word `what`: those of a frame without a row, and those of one with a row
pub without-row : (P : ℕ → Type 0) → P 0 → P 1 → P 2 → P 3 → P 4 → P 5 → P 6 → P 7 → (k : ℕ) → k < 8 → P k
without-row P p0 p1 p2 p3 p4 p5 p6 p7 zero l = p0
without-row P p0 p1 p2 p3 p4 p5 p6 p7 (suc zero) l = p1
without-row P p0 p1 p2 p3 p4 p5 p6 p7 (suc (suc zero)) l = p2
without-row P p0 p1 p2 p3 p4 p5 p6 p7 (suc (suc (suc zero))) l = p3
without-row P p0 p1 p2 p3 p4 p5 p6 p7 (suc (suc (suc (suc zero)))) l = p4
without-row P p0 p1 p2 p3 p4 p5 p6 p7 (suc (suc (suc (suc (suc zero))))) l = p5
without-row P p0 p1 p2 p3 p4 p5 p6 p7 (suc (suc (suc (suc (suc (suc zero)))))) l = p6
without-row P p0 p1 p2 p3 p4 p5 p6 p7 (suc (suc (suc (suc (suc (suc (suc zero))))))) l = p7
without-row P p0 p1 p2 p3 p4 p5 p6 p7 (suc (suc (suc (suc (suc (suc (suc (suc k)))))))) l = absurd (omega arith)

pub with_row : (P : ℕ → Type 0) → P 8 → P 9 → P 10 → P 11 → P 12 → P 13 → P 14 → P 15 → P 16
    → ((j : ℕ) → P (suc (suc (suc (suc (suc (suc (suc (suc (suc (suc (suc (suc (suc (suc (suc (suc (suc j)))))))))))))))))) → (k : ℕ)
    → 7 < k → P k
with_row P p8 p9 p10 p11 p12 p13 p14 p15 p16 others k l = subst P (omega arith) (go (k - 8))
  where
    go : (j : ℕ) → P (suc (suc (suc (suc (suc (suc (suc (suc j))))))))
    go zero = p8
    go (suc zero) = p9
    go (suc (suc zero)) = p10
    go (suc (suc (suc zero))) = p11
    go (suc (suc (suc (suc zero)))) = p12
    go (suc (suc (suc (suc (suc zero))))) = p13
    go (suc (suc (suc (suc (suc (suc zero)))))) = p14
    go (suc (suc (suc (suc (suc (suc (suc zero))))))) = p15
    go (suc (suc (suc (suc (suc (suc (suc (suc zero)))))))) = p16
    go (suc (suc (suc (suc (suc (suc (suc (suc (suc j))))))))) = others j

-- the way that the word `what` picks
pub way-is : (t : List ℕ) (f : Frame) (b : Bindings ℕ) (k : ℕ) → f.what ≡ k → way_of t f b ≡ get_or (ways t f b) k (stepping f fail)
unfolding way_of
way-is t f b k h = ap (λ (k : ℕ). get_or (ways t f b) k (stepping f fail)) h

-- where a frame keeps no bindings, they are of no account
pub way-saves-nothing : (t : List ℕ) (f : Frame) (b b' : Bindings ℕ) → saves f.what ≡ false → way_of t f b ≡ way_of t f b'
unfolding way_of ways
way-saves-nothing t f b b' e = ⊎_elim (λ l. below f.what l e) (λ l. above f.what (omega arith) e) (below-or-from f.what 8)
  where
    Same : ℕ → Type 0
    Same k = saves k ≡ false → get_or (ways t f b) k (stepping f fail) ≡ get_or (ways t f b') k (stepping f fail)

    below : (k : ℕ) → k < 8 → Same k
    below = without-row Same (λ e. refl) (λ e. refl) (λ e. refl) (λ e. refl)
        (λ e. absurd (true≢false e)) (λ e. absurd (true≢false e)) (λ e. absurd (true≢false e)) (λ e. absurd (true≢false e))

    above : (k : ℕ) → 7 < k → Same k
    above = with_row Same (λ e. absurd (true≢false e)) (λ e. absurd (true≢false e)) (λ e. absurd (true≢false e))
        (λ e. refl) (λ e. refl) (λ e. refl) (λ e. refl) (λ e. refl) (λ e. refl) (λ j e. refl)

-- a frame with other rows
abbrev pub reframed : Frame → (row other : List ℕ) → Frame
reframed f r o = record { what = f.what; x = f.x; y = f.y; at = f.at; row = r; other = o }

-- a frame below 8 has no row, and one below 16 no other row: what stands there is of no account
pub way-without-rows : (t : List ℕ) (f : Frame) (b : Bindings ℕ) (r o : List ℕ) → f.what < 8 → way_of t f b ≡ way_of t (reframed f r o) b
unfolding way_of ways
way-without-rows t f b r o =
    without-row (λ k. get_or (ways t f b) k (stepping f fail) ≡ get_or (ways t (reframed f r o) b) k (stepping (reframed f r o) fail)) refl refl
    refl refl refl refl refl refl f.what

pub way-without-other : (t : List ℕ) (f : Frame) (b : Bindings ℕ) (o : List ℕ) → 7 < f.what → (f.what ≡ 16 → ⊥)
    → way_of t f b ≡ way_of t (reframed f f.row o) b
unfolding way_of ways
way-without-other t f b o =
    with_row (λ k. (k ≡ 16 → ⊥) → get_or (ways t f b) k (stepping f fail) ≡ get_or (ways t (reframed f f.row o) b) k
    (stepping (reframed f f.row o) fail))
    (λ n. refl) (λ n. refl) (λ n. refl) (λ n. refl) (λ n. refl) (λ n. refl) (λ n. refl) (λ n. refl) (λ n. absurd (n refl)) (λ j n. refl)
    f.what
