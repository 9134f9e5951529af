-- The entries of one line: the scope, the bare entries inside it, and their operands. Assumes nothing.
use mathlib.Core.Path.{◌≡◌, refl, ap, sym, ◌∙◌, subst}
use mathlib.Core.Bool.{true, false}
use mathlib.Core.List.{List, ◌++◌}
use Prim.Native.Nat.{ℕ, suc, ◌+◌, ◌-◌, ◌*◌, ◌^◌, ◌≤◌, ◌<◌}
use native.Mathlib.Omega.{arith}
use lib.ListN.{length}
use denote.Ref.{Bor}
use Rattle.std.specs.Prelude.{Result, Ok, Err, IsOk, IfOk}
use Rattle.words.specs.Words.{rows}
use Rattle.meaning.proofs.Tests.{impossible}
use Rattle.rules.specs.Rule.{Rule, rule_variables}
use Rattle.rules.specs.Text.{ReadRule, rule, rule_of}
use Rattle.rules.specs.Entries.{Entry, mask_of, rule_code, code_size, code_entries, rule_entries, Rows}
use Rattle.rules.specs.Scan.{fields_from}
use Rattle.rules.specs.Shape.{Shape, shape_of, rule_size}
use Rattle.rules.specs.Walk.{shape_told}
use Rattle.rules.specs.declared.rule_text.RuleText.{RuleText}
use Rattle.check_rules.specs.Bound.{window, all_below, marks_from, RuleLine}
use Rattle.rules.proofs.Sizes.{length-code}
use Rattle.check_rules.proofs.Early.{its-rule}
use Rattle.check_rules.proofs.Lines.{known}
use Rattle.translate.specs.Added.{put_entries, Placed, LineFits, LineIn}
use Rattle.translate.specs.Bare.{scope_put, bare_body, Fits, PlacedIn}
use Rattle.translate.specs.Links.{steps_table}
use Rattle.translate.proofs.Written.{put-rows, put-over}
use Rattle.translate.proofs.Linking.{body_code}
use Rattle.translate.proofs.Placing.{placed-more}
use Rattle.translate.proofs.Preorder.{body-eights, bare-eights, body-long, body-linked}
use Rattle.translate.proofs.Masking.{mask_is}

pub rule-size : (r : Rule) → rule_size r ≡ suc (code_size (body_code r))
unfolding rule_code code_size
rule-size r = refl

rule-entries : (e : ℕ) (r : Rule) → scope_put e (mask_of (rule_variables r)) ++ code_entries (suc e) (body_code r) ≡ rule_entries e r
unfolding rule_entries rule_code code_entries
rule-entries e r = refl

-- Of a rule's line the shape is told.
pub rule-told : (r : Result RuleText ℕ) (l : List ℕ) {first room : ℕ} → shape_told r ≡ shape_of (rule_of l) → LineFits first room (rule_of l) → IsOk r
rule-told (Ok a) l e h = refl
rule-told (Err n) l e h = let x : false ≡ true = ap (λ (s : Shape). s.good) (e ∙ ap shape_of h.is) in impossible (cc)

-- It is of the line.
pub told-line : {r : Result RuleText ℕ} {l : Bor (List ℕ)} (s : RuleText) → r ≡ Ok s → IfOk r (λ (x : RuleText). x.line ≡ l) → s.line ≡ l
told-line {r} {l} s e h = rw e at h

pub known-line : {l : Bor (List ℕ)} (s : RuleText) → s.line ≡ l → RuleLine l.now s.right s.conditions
known-line s e = subst (λ (x : Bor (List ℕ)). RuleLine x.now s.right s.conditions) e (known s)

module _ (l : List ℕ) {right conditions : ℕ} (line : RuleLine l right conditions) (first : ℕ) (t₀ : List ℕ) (h : LineFits first (rows t₀) (rule_of l)) where
  same : h.its ≡ line.its
  same = let z : rule h.its ≡ rule line.its = sym h.is ∙ its-rule line in cc

  below : all_below (rule_variables line.its) ≡ true
  below = ap (λ (q : Rule). all_below (rule_variables q)) (sym same) ∙ h.below

  fits : first + suc (code_size (body_code line.its)) ≤ rows t₀
  fits = omega (arith, h.fits, ap rule_size same, rule-size line.its)

  module _ (m : ℕ) (small : m < 2 ^ window) (marked : m ≡ marks_from 0 (fields_from l 0) 0 (length l + 1) 0) where
    mask : m ≡ mask_of (rule_variables line.its)
    mask = mask_is line below m small marked

    pub scope-room : first + 1 ≤ rows t₀
    scope-room = omega (arith, fits)

    module _ {t₁ : List ℕ} {e₁ : ℕ} (scope : Placed t₀ first (scope_put first m) t₁ e₁) (same₁ : length t₁ ≡ length t₀) where
      bare-fits : e₁ + length (bare_body line.its) ≤ rows t₁
      bare-fits = omega (arith, fits, body-long line.its, scope.place, same₁)

      pub body-room : Fits bare_body l right conditions e₁ (rows t₁)
      body-room = record { line = line; fits = bare-fits }

      module _ (t₂ : List ℕ) (stop : ℕ) (body : PlacedIn (rule_of l) bare_body t₁ e₁ t₂ stop) (same₂ : length t₂ ≡ length t₁) where
        bare : Placed t₁ e₁ (bare_body line.its) t₂ stop
        bare = rw (its-rule line) at body

        stops : stop ≡ e₁ + code_size (body_code line.its)
        stops = bare.place ∙ omega (arith, body-long line.its)

        pub link-room : length t₀ ≤ 32768 → (es : List ℕ) → 4096 ≤ length es → (e₁ ≤ stop) × (8 * stop ≤ length t₂) × (stop ≤ length es)
        link-room n es k = (
          omega (arith, stops),
          omega (arith, stops, fits, scope.place, same₁, same₂),
          omega (arith, stops, fits, scope.place, n, k),
        )

        pub line-placed : length t₀ ≤ 32768 → (es : List ℕ) → 4096 ≤ length es → (t₃ : List ℕ) → t₃ ≡ steps_table t₂ es stop (stop - e₁) → LineIn (rule_of l) t₀ first t₃ stop
        line-placed n es k t₃ z =
            let room = link-room n es k in
            let xs : List Entry = code_entries e₁ (body_code line.its) in
            let rows₂ : Rows t₂ e₁ (bare_body line.its) = subst (λ (w : List ℕ). Rows w e₁ (bare_body line.its)) (sym bare.entries)
            (put-rows (bare-eights line.its line.plain) t₁ e₁ bare-fits) in
            let linked : t₃ ≡ put_entries t₂ e₁ xs = z ∙ body-linked line.its line.plain t₂ es e₁ stop stops (omega (arith, room.1)) room.2 rows₂ in
            let long : length xs ≡ code_size (body_code line.its) = length-code e₁ (body_code line.its) in
            let over : t₃ ≡ put_entries t₁ e₁ xs =
            linked ∙ ap (λ (w : List ℕ). put_entries w e₁ xs) bare.entries
            ∙ put-over (body-eights line.its line.plain e₁) (bare-eights line.its line.plain) (omega (arith, long, body-long line.its)) t₁ e₁
            (omega (arith, long, body-long line.its, bare-fits)) in
            let inside : Placed t₁ e₁ xs t₃ stop = record { entries = over; place = omega (arith, stops, long) } in
            let next : e₁ ≡ suc first = omega (arith, scope.place) in
            let inner : Placed t₁ e₁ (code_entries (suc first) (body_code line.its)) t₃ stop = subst (λ (k : ℕ). Placed t₁ e₁ (code_entries k (body_code line.its)) t₃ stop) next inside in
            let outer : Placed t₀ first (scope_put first (mask_of (rule_variables line.its))) t₁ e₁ = subst (λ (k : ℕ). Placed t₀ first (scope_put first k) t₁ e₁) mask scope in
            rw (its-rule line) (subst (λ (ys : List Entry). Placed t₀ first ys t₃ stop) (rule-entries first line.its) (placed-more outer inner))
