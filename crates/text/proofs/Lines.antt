-- A line where it stands in a text: its bytes, the parts after it, and where it ends. Assumes nothing.
use mathlib.Core.Path.{◌≡◌, refl, ap, sym, ◌∙◌, subst}
use mathlib.Core.Logic.{⊎_elim}
use mathlib.Core.List.{List, [], ◌∷◌, tail}
use Prim.Native.Nat.{ℕ, ◌+◌, ◌-◌, ◌≤◌, ◌<◌}
use native.Mathlib.Omega.{arith}
use lib.ListN.{length, get_or, take, drop, length-drop}
use lib.Seq.{drop-drop, get_or-drop}
use borrow.Author.Tests.{lt-ltb, le-ltb}
use Rattle.words.proofs.Tests.{below-or-from}
use Rattle.text.specs.Text.{parts, up_to}
use Rattle.text.specs.Lines.{line_end, bounds_at}
use Rattle.text.specs.declared.line.Bounds.{Bounds}
use Rattle.text.proofs.Parts.{parts_first, parts-on, parts-end, up_to-take, length-up_to, up_to-stops}

-- A line feed ends the line that begins at a place, and these are its bounds.
pub record Fed (s : List ℕ) (at : ℕ) (b : Bounds) : Type 0 where
  pub end : b.end ≡ line_end s at
  pub next : b.next ≡ line_end s at + 1
  pub feed : line_end s at < length s

module _ (s : List ℕ) (at : ℕ) where
  -- The part up to the line feed, and the parts from there on.
  pub line_first : parts 10 (drop at s) ≡ up_to 10 (drop at s) ∷ tail (parts 10 (drop (line_end s at) s))
  line_first = parts_first 10 (drop at s) ∙ ap (λ (r : List ℕ). up_to 10 (drop at s) ∷ tail (parts 10 r)) (drop-drop (length (up_to 10 (drop at s))) at s)

  -- It is inside the text.
  pub line-inside : at ≤ length s → line_end s at ≤ length s
  line-inside h =
      let b : length (up_to 10 (drop at s)) ≤ length s - at = subst (λ (m : ℕ). length (up_to 10 (drop at s)) ≤ m) (length-drop at s) (length-up_to 10 (drop at s)) in
      omega arith

  -- It ends at a line feed, unless it is the last.
  pub line-feed : line_end s at < length s → get_or s (line_end s at) 0 ≡ 10
  line-feed h = sym (get_or-drop at s (length (up_to 10 (drop at s))) 0) ∙ up_to-stops 10 (drop at s) (rw (length-drop at s) (omega arith))

  -- Its bytes stand between its place and its end.
  pub line-bytes : (e : ℕ) → e ≡ line_end s at → up_to 10 (drop at s) ≡ take (e - at) (drop at s)
  line-bytes e z =
      let n : length (up_to 10 (drop at s)) ≡ e - at = omega arith in
      up_to-take 10 (drop at s) ∙ ap (λ (i : ℕ). take i (drop at s)) n

  -- With its line feed the parts go on after it; without one it is the last.
  pub line-next : line_end s at < length s → parts 10 (drop at s) ≡ up_to 10 (drop at s) ∷ parts 10 (drop (line_end s at + 1) s)
  line-next h = line_first ∙ ap (λ (r : List (List ℕ)). up_to 10 (drop at s) ∷ r) (parts-on 10 s (line_end s at) h (line-feed h))

  pub line-last : length s ≤ line_end s at → parts 10 (drop at s) ≡ up_to 10 (drop at s) ∷ []
  line-last h = line_first ∙ ap (λ (r : List (List ℕ)). up_to 10 (drop at s) ∷ r) (parts-end 10 s (line_end s at) h)

  -- Its bounds.
  pub bounds-fed : (e : ℕ) → e ≡ line_end s at → e < length s → record { end = e; next = e + 1 } ≡ bounds_at s at
  unfolding bounds_at
  bounds-fed e z h = rw (← z, lt-ltb e (length s) h)

  pub bounds-unfed : length s ≤ line_end s at → record { end = length s; next = length s } ≡ bounds_at s at
  unfolding bounds_at
  bounds-unfed h = rw (le-ltb (line_end s at) (length s) h)

  -- The line feed stands between them, where there is one.
  pub bounds-apart : (b : Bounds) → b ≡ bounds_at s at → b.end < b.next → Fed s at b
  bounds-apart b z l = ⊎_elim fed unfed (below-or-from (line_end s at) (length s))
    where
      fed : line_end s at < length s → Fed s at b
      fed h =
          let e : b ≡ record { end = line_end s at; next = line_end s at + 1 } = z ∙ sym (bounds-fed (line_end s at) refl h) in
          record { end = ap (λ (x : Bounds). x.end) e; next = ap (λ (x : Bounds). x.next) e; feed = h }

      unfed : length s ≤ line_end s at → Fed s at b
      unfed h =
          let e : b ≡ record { end = length s; next = length s } = z ∙ sym (bounds-unfed h) in
          absurd (omega (arith, l, ap (λ (x : Bounds). x.end) e, ap (λ (x : Bounds). x.next) e))

  pub bounds-met : (b : Bounds) → b ≡ bounds_at s at → b.next ≤ b.end → length s ≤ line_end s at
  bounds-met b z l = ⊎_elim fed (λ h. h) (below-or-from (line_end s at) (length s))
    where
      fed : line_end s at < length s → length s ≤ line_end s at
      fed h =
          let e : b ≡ record { end = line_end s at; next = line_end s at + 1 } = z ∙ sym (bounds-fed (line_end s at) refl h) in
          absurd (omega (arith, l, ap (λ (x : Bounds). x.end) e, ap (λ (x : Bounds). x.next) e))
