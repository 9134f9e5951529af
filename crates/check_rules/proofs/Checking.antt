-- The loop over a text's lines: what the rest of the text gets is what all of it gets. Assumes nothing.
use mathlib.Core.Path.{◌≡◌, refl, ap, sym, ◌∙◌, subst}
use mathlib.Core.Bool.{Bool, true, false}
use mathlib.Core.List.{List, [], ◌∷◌}
use Prim.Native.Nat.{ℕ, ◌+◌, ◌-◌, ◌≤◌, ◌<◌}
use native.Mathlib.Omega.{arith}
use lib.Dec.{ltb}
use lib.ListN.{length, take, drop, drop_of_length-le}
use borrow.Author.Tests.{lt-ltb, le-ltb, ltb-true, ltb-false, eq-eqb, ne_eqb}
use Rattle.text.specs.Text.{parts, up_to}
use Rattle.text.specs.Lines.{line_end, bounds_at}
use Rattle.text.specs.declared.line.Bounds.{Bounds}
use Rattle.text.proofs.Parts.{parts_first}
use Rattle.text.proofs.Lines.{line-inside, line-bytes, line-next, line-last, bounds-unfed, Fed, bounds-apart, bounds-met}
use Rattle.rules.specs.Rule.{Rule}
use Rattle.rules.specs.Text.{ReadRule, rule, bad_field, rule_of}
use Rattle.rules.specs.Entries.{code_size, rule_code}
use Rattle.check_rules.specs.Line.{line_of}
use Rattle.check_rules.specs.Check.{told, refusal, by_line, last_line, text_checked}
use Rattle.check_rules.specs.Line.{Line, line_fault_number, fault_field, line_told}
use Rattle.check_rules.specs.declared.line.LineFault.{LineFault}
use Rattle.check_rules.specs.declared.line.LineFault.TheVariants.{Shape, Unbound, Range, Callee, Room}
use Rattle.std.specs.Prelude.{Err}
use Rattle.rules.specs.Shape.{shape_of}

-- Line n begins at a place, and e entries are in use before it.
pub record Checks (f : ℕ → Bool) (room used : ℕ) (s : List ℕ) (e n at : ℕ) : Type 0 where
  pub inside : at ≤ length s
  pub least : used ≤ e
  pub most : e ≤ room
  pub counted : n + used ≤ e + 1
  pub means : text_checked f room used n e (parts 10 (drop at s)) ≡ text_checked f room used 1 used (parts 10 s)

pub checks-begin : (f : ℕ → Bool) (room used : ℕ) (s : List ℕ) → used ≤ room → Checks f room used s used 1 0
checks-begin f room used s h = record { inside = omega arith; least = omega arith; most = h; counted = omega arith; means = refl }

-- ---- where a line ends

module _ (s : List ℕ) (at : ℕ) (h : at < length s) (b : Bounds) (z : b ≡ bounds_at s at) where
  unfed-end : b.next ≤ b.end → b.end ≡ line_end s at
  unfed-end k =
      let m : length s ≤ line_end s at = bounds-met s at b z k in
      let e : b.end ≡ length s = ap (λ (x : Bounds). x.end) (z ∙ sym (bounds-unfed s at m)) in
      omega (arith, e, m, line-inside s at (omega arith))

  pub bounds-within : (at ≤ b.end) × (b.end ≤ length s)
  bounds-within = go (ltb b.end b.next) refl
    where
      go : (q : Bool) → ltb b.end b.next ≡ q → (at ≤ b.end) × (b.end ≤ length s)
      go true e =
          let fed = bounds-apart s at b z (ltb-true b.end b.next e) in
          (omega (arith, fed.end), omega (arith, fed.end, fed.feed))
      go false e =
          let u = unfed-end (ltb-false b.end b.next e) in
          (omega (arith, u), omega (arith, u, line-inside s at (omega arith)))

  its-line : b.end ≡ line_end s at → up_to 10 (drop at s) ≡ take (b.end - at) (drop at s)
  its-line e = line-bytes s at b.end e

-- ---- a rule takes entries

rule-some : (r : Rule) → 1 ≤ code_size (rule_code r)
unfolding code_size rule_code
rule-some r = omega arith

line-some : (f : ℕ → Bool) (x : ReadRule) → (line_of f x).answer ≡ 0 → 1 ≤ (line_of f x).size
line-some f (rule r) e = rule-some r
line-some f (bad_field n) e = absurd (omega (arith, e))

-- ---- a line

module _ (f : ℕ → Bool) (room used n e : ℕ) where
  last_some : (l : List ℕ) → 0 < length l → last_line f room used n e l ≡ told used 18 n (line_of f (rule_of l)).field
  last_some [] h = absurd (omega arith)
  last_some (b ∷ l) h = refl

  checked-last : (l : List ℕ) (ps : List (List ℕ)) → ps ≡ l ∷ [] → 0 < length l → text_checked f room used n e ps ≡ told used 18 n (line_of f (rule_of l)).field
  unfolding text_checked
  checked-last l ps z h = rw z (last_some l h)

  checked-none : (ps : List (List ℕ)) → ps ≡ [] ∷ [] → text_checked f room used n e ps ≡ told e 0 0 0
  unfolding text_checked
  checked-none ps z = rw z

  checked-line : (l : List ℕ) (r : List ℕ) (ps : List (List ℕ)) → ps ≡ l ∷ parts 10 r
      → text_checked f room used n e ps ≡ by_line f room used n e (line_of f (rule_of l)) (λ e'. text_checked f room used (n + 1) e' (parts 10 r))
  unfolding text_checked
  checked-line l r ps z = rw (z, parts_first 10 r)

module _ {f : ℕ → Bool} {room used : ℕ} {s : List ℕ} {e n at : ℕ} (k : Checks f room used s e n at) where
  -- Nothing is left.
  pub checks-end : length s ≤ at → told e 0 0 0 ≡ text_checked f room used 1 used (parts 10 s)
  unfolding parts
  checks-end h = sym (checked-none f room used n e (parts 10 (drop at s)) (rw (drop_of_length-le s h))) ∙ k.means

  module _ (h : at < length s) (b : Bounds) (z : b ≡ bounds_at s at) (got : Line) (g : got ≡ line_of f (rule_of (take (b.end - at) (drop at s)))) where
    its-line-of : b.end ≡ line_end s at → got ≡ line_of f (rule_of (up_to 10 (drop at s)))
    its-line-of i = g ∙ ap (λ (l : List ℕ). line_of f (rule_of l)) (sym (its-line s at h b z i))

    -- No line feed.
    pub checks-unfed : b.next ≤ b.end → told used 18 n got.field ≡ text_checked f room used 1 used (parts 10 s)
    checks-unfed m =
        let i = unfed-end s at h b z m in
        let long : 0 < length (up_to 10 (drop at s)) = omega (arith, bounds-met s at b z m) in
        ap (λ (x : Line). told used 18 n x.field) (its-line-of i)
        ∙ sym (checked-last f room used n e (up_to 10 (drop at s)) (parts 10 (drop at s)) (line-last s at (bounds-met s at b z m)) long)
        ∙ k.means

    module _ (m : b.end < b.next) where
      fed : Fed s at b
      fed = bounds-apart s at b z m

      its : got ≡ line_of f (rule_of (up_to 10 (drop at s)))
      its = its-line-of fed.end

      -- A line with its line feed.
      by-line : by_line f room used n e got (λ e'. text_checked f room used (n + 1) e' (parts 10 (drop b.next s))) ≡ text_checked f room used 1 used (parts 10 s)
      by-line =
          ap (λ (x : Line). by_line f room used n e x (λ e'. text_checked f room used (n + 1) e' (parts 10 (drop b.next s)))) its
          ∙ sym (checked-line f room used n e (up_to 10 (drop at s)) (drop b.next s) (parts 10 (drop at s)) (line-next s at fed.feed
          ∙ ap (λ (j : ℕ). up_to 10 (drop at s) ∷ parts 10 (drop j s)) (sym fed.next)))
          ∙ k.means

      pub checks-refused : (got.answer ≡ 0 → ⊥) → refusal used n got ≡ text_checked f room used 1 used (parts 10 s)
      checks-refused x = sym (rw (ne_eqb got.answer 0 x)) ∙ by-line

      pub checks-full : got.answer ≡ 0 → room < e + got.size → told used 23 n 0 ≡ text_checked f room used 1 used (parts 10 s)
      checks-full x y = sym (rw (eq-eqb got.answer 0 x, lt-ltb room (e + got.size) y)) ∙ by-line

      pub checks-on : got.answer ≡ 0 → e + got.size ≤ room → Checks f room used s (e + got.size) (n + 1) b.next
      checks-on x y = record {
        inside = omega (arith, fed.next, fed.feed);
        least = omega (arith, k.least);
        most = y;
        counted = omega (arith, k.counted, some);
        means = sym (rw (eq-eqb got.answer 0 x, le-ltb room (e + got.size) y)) ∙ by-line;
      }
        where
          some : 1 ≤ got.size
          some = subst (λ (v : Line). 1 ≤ v.size) (sym its) (line-some f (rule_of (up_to 10 (drop at s))) (ap (λ (v : Line). v.answer) (sym its) ∙ x))

      pub checks-further : at < b.next
      checks-further = omega (arith, fed.next)

-- ---- what the code tells of a line

pub shape-field : (f : ℕ → Bool) (x : ReadRule) → (shape_of x).field ≡ (line_of f x).field
shape-field f (rule r) = refl
shape-field f (bad_field n) = refl

pub refused-told : (u n : ℕ) (x : Line) (v : LineFault) → line_told x (Err v) → told u (line_fault_number v) n (fault_field v) ≡ refusal u n x
unfolding refusal
refused-told u n x (Shape m) h = rw h.0 (ap (told u 18 n) (sym (h.1 h.0)))
refused-told u n x Unbound h = rw h.0
refused-told u n x Range h = rw h.0
refused-told u n x Callee h = rw h.0
refused-told u n x Room h = rw h.0

pub refused-some : (x : Line) (v : LineFault) → line_told x (Err v) → x.answer ≡ 0 → ⊥
refused-some x (Shape m) h z = absurd (omega (arith, h.0))
refused-some x Unbound h z = absurd (omega (arith, h.0))
refused-some x Range h z = absurd (omega (arith, h.0))
refused-some x Callee h z = absurd (omega (arith, h.0))
refused-some x Room h z = absurd (omega (arith, h.0))
