-- The loop that puts the rules of a text: what is left to put after what was put is all. Assumes nothing.
use mathlib.Core.Path.{◌≡◌, refl, ap, sym, ◌∙◌, subst}
use mathlib.Core.Logic.{⊎_elim}
use mathlib.Core.List.{List, [], ◌∷◌}
use Prim.Native.Nat.{ℕ, suc, ◌+◌, ◌-◌, ◌≤◌, ◌<◌}
use native.Mathlib.Omega.{arith}
use lib.ListN.{length, take, drop, drop_of_length-le}
use Rattle.words.specs.Words.{rows}
use Rattle.words.proofs.Tests.{below-or-from}
use Rattle.meaning.proofs.Tests.{impossible}
use Rattle.text.specs.Text.{parts, up_to}
use Rattle.text.specs.Lines.{line_end, bounds_at}
use Rattle.text.specs.declared.line.Bounds.{Bounds}
use Rattle.text.proofs.Parts.{parts_first}
use Rattle.text.proofs.Lines.{Fed, line-next, line-last, line-bytes, bounds-apart, bounds-met}
use Rattle.rules.specs.Rule.{Rule}
use Rattle.rules.specs.Text.{ReadRule, rule, bad_field, rule_of, rules, before, or_bad_at, unended, last_part, read_lines, meant}
use Rattle.rules.specs.Entries.{rule_entries}
use Rattle.rules.specs.Shape.{rule_size}
use Rattle.check_rules.specs.Promises.{Allowed, AllAllowed, and-more, entries_of, Accepted}
use Rattle.rules.proofs.Sizes.{length-code}
use Rattle.rules.proofs.Texts.{before-rules, text-is-rules}
use Rattle.translate.specs.Added.{put_entries, rules_entries, with_rules, Placed, LineFits, LineIn}
use Rattle.translate.proofs.Placing.{put-append}

-- ---- the first of the lines that are left

one_more : {t : List ℕ} {u : ℕ} {r : Rule} {qs : List Rule} → AllAllowed t u (r ∷ qs) → Allowed t u r × AllAllowed t u qs
one_more (and-more a b) = (a, b)

unended-no : {A : Type 0} (m : ℕ) (l : List ℕ) (x : ReadRule) (rs : List Rule) → unended m l x ≡ rules rs → A
unended-no m l (bad_field i) rs z = impossible (cc)
unended-no m l (rule r) rs z = impossible (cc)

-- The last line is not begun.
last_empty : (n : ℕ) (l : List ℕ) (ps : List (List ℕ)) (rs : List Rule) → ps ≡ l ∷ [] → read_lines n ps ≡ rules rs → length l ≡ 0
unfolding read_lines
last_empty n l ps rs e z = go l (rw e at z)
  where
    go : (l : List ℕ) → last_part n l ≡ rules rs → length l ≡ 0
    go [] y = refl
    go (b ∷ l) y = unended-no n (b ∷ l) (rule_of (b ∷ l)) rs y

none-left-to-read : (n : ℕ) (ps : List (List ℕ)) (rs : List Rule) → ps ≡ [] ∷ [] → read_lines n ps ≡ rules rs → rs ≡ []
unfolding read_lines
none-left-to-read n ps rs e z = let y : rules [] ≡ rules rs = rw e at z in cc

-- A line and what follows it.
record Next (n : ℕ) (l : List ℕ) (ps : List (List ℕ)) (rs : List Rule) : Type 0 where
  first : Rule
  others : List Rule
  are : rs ≡ first ∷ others
  line : rule_of l ≡ rule first
  reading : read_lines (suc n) ps ≡ rules others

lines_step : (n : ℕ) (l : List ℕ) (ps : List (List ℕ)) → 0 < length ps → read_lines n (l ∷ ps) ≡ or_bad_at n (rule_of l) (λ q. before q (read_lines (suc n) ps))
unfolding read_lines
lines_step n l [] h = absurd (omega arith)
lines_step n l (p ∷ ps) h = refl

next_of : (n : ℕ) (l : List ℕ) (r : List ℕ) (ps : List (List ℕ)) (rs : List Rule) → ps ≡ l ∷ parts 10 r → read_lines n ps ≡ rules rs → Next n l (parts 10 r) rs
next_of n l r ps rs e z = go (rule_of l) refl (sym (lines_step n l (parts 10 r) some) ∙ ap (read_lines n) (sym e) ∙ z)
  where
    some : 0 < length (parts 10 r)
    some = rw (parts_first 10 r) (omega arith)

    go : (x : ReadRule) → rule_of l ≡ x → or_bad_at n x (λ q. before q (read_lines (suc n) (parts 10 r))) ≡ rules rs → Next n l (parts 10 r) rs
    go (bad_field i) j y = impossible (cc)
    go (rule q) j y =
        let (qs, a, b) = before-rules q (read_lines (suc n) (parts 10 r)) rs y in
        record { first = q; others = qs; are = b; line = j; reading = a }

-- ---- the loop

pub record Lining (s : List ℕ) (used : ℕ) (t₀ t : List ℕ) (e at : ℕ) : Type 0 where
  pub its : List Rule
  pub is : meant s ≡ rules its
  pub number : ℕ
  pub rest : List Rule
  pub reading : read_lines number (parts 10 (drop at s)) ≡ rules rest
  pub allowed : AllAllowed t₀ used rest
  pub room : e + entries_of rest ≤ rows t₀
  pub all : put_entries t e (rules_entries e rest) ≡ put_entries t₀ used (rules_entries used its)
  pub same : length t ≡ length t₀
  pub inside : at ≤ length s

pub lining-begin : {s t₀ : List ℕ} {used : ℕ} → Accepted t₀ used s → Lining s used t₀ t₀ used 0
unfolding meant
lining-begin {s} {t₀} {used} a =
    let m : meant s ≡ rules a.its = (text-is-rules s a.its).1 (a.text, a.plain) in
    record { its = a.its; is = m; number = 1; rest = a.its; reading = m; allowed = a.allowed; room = a.room; all = refl; same = refl; inside = omega arith }

entries-first : (r : Rule) (rs : List Rule) → entries_of (r ∷ rs) ≡ rule_size r + entries_of rs
unfolding entries_of
entries-first r rs = refl

put-none : (t : List ℕ) (e : ℕ) (rs : List Rule) → rs ≡ [] → t ≡ put_entries t e (rules_entries e rs)
unfolding rules_entries put_entries
put-none t e rs z = rw z

length-rule : (e : ℕ) (r : Rule) → length (rule_entries e r) ≡ rule_size r
unfolding rule_entries
length-rule e r = length-code e _

put_first : (t : List ℕ) (e : ℕ) (r : Rule) (rs : List Rule)
    → put_entries (put_entries t e (rule_entries e r)) (e + rule_size r) (rules_entries (e + rule_size r) rs) ≡ put_entries t e (rules_entries e (r ∷ rs))
unfolding rules_entries
put_first t e r rs =
    ap (λ (k : ℕ). put_entries (put_entries t e (rule_entries e r)) (e + k) (rules_entries (e + rule_size r) rs)) (sym (length-rule e r))
    ∙ sym (put-append (rule_entries e r) (rules_entries (e + rule_size r) rs) t e)

module _ {s : List ℕ} {used : ℕ} {t₀ t : List ℕ} {e at : ℕ} (g : Lining s used t₀ t e at) where
  -- No line is left.
  pub lining-end : length s ≤ at → t ≡ with_rules (meant s) t₀ used
  unfolding parts
  lining-end past =
      let z : g.rest ≡ [] = none-left-to-read g.number (parts 10 (drop at s)) g.rest (rw (drop_of_length-le s past)) g.reading in
      rw g.is (put-none t e g.rest z ∙ g.all)

  module _ (h : at < length s) (b : Bounds) (z : b ≡ bounds_at s at) where
    -- A line feed ends the line.
    apart : b.end < b.next
    apart = ⊎_elim (λ l. l) unfed (below-or-from b.end b.next)
      where
        unfed : b.next ≤ b.end → b.end < b.next
        unfed l =
            let m : length s ≤ line_end s at = bounds-met s at b z l in
            let k : length (up_to 10 (drop at s)) ≡ 0 = last_empty g.number (up_to 10 (drop at s)) (parts 10 (drop at s)) g.rest (line-last s at m) g.reading in
            absurd (omega arith)

    fed : Fed s at b
    fed = bounds-apart s at b z apart

    pub line-within : (at ≤ b.end) × (b.end ≤ length s)
    line-within = (omega (arith, fed.end), omega (arith, fed.end, fed.feed))

    next : Next g.number (take (b.end - at) (drop at s)) (parts 10 (drop b.next s)) g.rest
    next =
        next_of g.number (take (b.end - at) (drop at s)) (drop b.next s) (parts 10 (drop at s)) g.rest
        (line-next s at fed.feed
        ∙ ap (λ (l : List ℕ). l ∷ parts 10 (drop (line_end s at + 1) s)) (line-bytes s at b.end fed.end)
        ∙ ap (λ (j : ℕ). take (b.end - at) (drop at s) ∷ parts 10 (drop j s)) (sym fed.next))
        g.reading

    its-allowed : Allowed t₀ used next.first × AllAllowed t₀ used next.others
    its-allowed = one_more (subst (AllAllowed t₀ used) next.are g.allowed)

    long : entries_of g.rest ≡ rule_size next.first + entries_of next.others
    long = ap entries_of next.are ∙ entries-first next.first next.others

    pub line-fits : LineFits e (rows t) (rule_of (take (b.end - at) (drop at s)))
    line-fits = record { its = next.first; is = next.line; below = its-allowed.0.in-range; fits = omega (arith, long, g.room, g.same) }

    module _ (t' : List ℕ) (e' : ℕ) (put : LineIn (rule_of (take (b.end - at) (drop at s))) t e t' e') (same' : length t' ≡ length t) where
      placed : Placed t e (rule_entries e next.first) t' e'
      placed = rw next.line at put

      after : e' ≡ e + rule_size next.first
      after = placed.place ∙ ap (λ (k : ℕ). e + k) (length-rule e next.first)

      pub lining-on : Lining s used t₀ t' e' b.next
      lining-on = record {
        its = g.its;
        is = g.is;
        number = suc g.number;
        rest = next.others;
        reading = next.reading;
        allowed = its-allowed.1;
        room = omega (arith, after, long, g.room);
        all =
            ap (λ (w : List ℕ). put_entries w e' (rules_entries e' next.others)) placed.entries
            ∙ ap (λ (k : ℕ). put_entries (put_entries t e (rule_entries e next.first)) k (rules_entries k next.others)) after
            ∙ put_first t e next.first next.others
            ∙ ap (λ (rs : List Rule). put_entries t e (rules_entries e rs)) (sym next.are)
            ∙ g.all;
        same = same' ∙ g.same;
        inside = omega (arith, fed.next, fed.feed);
      }

    pub lining-further : at < b.next
    lining-further = omega (arith, fed.next)

    pub next-inside : b.next ≤ length s
    next-inside = omega (arith, fed.next, fed.feed)
