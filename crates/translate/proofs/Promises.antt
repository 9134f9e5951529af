-- What is promised of a translation. Assumes nothing.
use mathlib.Core.Path.{◌≡◌, refl, ap, sym, ◌∙◌, subst}
use mathlib.Core.Logic.{⊎_elim}
use mathlib.Core.Bool.{Bool, true, false, ◌&&◌}
use mathlib.Core.List.{List, [], ◌∷◌}
use Prim.Native.Nat.{ℕ, zero, suc, ◌+◌, ◌*◌, ◌/◌, ◌%◌, ◌≤◌, ◌<◌}
use native.Mathlib.Omega.{arith}
use lib.Dec.{eqb, leb}
use lib.ListN.{length, get_or, length-append}
use lib.Seq.{length-take-le, get_or-take}
use borrow.Author.Tests.{eqb-true, eqb-false, le-leb, leb-true}
use Rattle.std.specs.Prelude.{if◌then◌else◌}
use Rattle.words.specs.Tests.{every}
use Rattle.words.specs.Words.{word_at, rows}
use Rattle.words.proofs.Tests.{below-or-from}
use Rattle.checks.specs.Kinds.{ours, lowest, highest_by, argument_words_by, operands_from_by, lines, line_of, kind, sort_of, takes}
use Rattle.checks.specs.Good.{kind_of, operand_count, number, argument_by, operand_by}
use Rattle.checks.proofs.Tables.{at_each}
use Rattle.checks.specs.Plain.{Entry as Good}
use Rattle.checks.specs.Checked.{checked, table_length_fits, table_checked}
use Rattle.checks.proofs.Promises.{table_passes, entry_plain}
use Rattle.meaning.specs.Table.{table}
use Rattle.meaning.proofs.Tests.{decided}
use Rattle.rules.specs.Rule.{Condition, Rule}
use Rattle.rules.specs.Text.{PlainRule, PlainRules, no-rules, next-rule, Meant, rules, meant}
use Rattle.rules.specs.Entries.{code_entries, rule_code, rule_entries, row_of, Rows}
use Rattle.rules.specs.Shape.{rule_size}
use Rattle.check_rules.specs.Answer.{in_use, used_checked}
use Rattle.rules.specs.Promises.{Among, ClosedCalls}
use Rattle.check_rules.specs.Promises.{Allowed, AllAllowed, and-more, entries_of, Accepted}
use Rattle.check_rules.specs.Check.{Translated}
use Rattle.rules.proofs.Sizes.{length-code}
use Rattle.rules.proofs.Words.{rows_append, rows-has}
use Rattle.rules.proofs.Added.{closed-stays}
use Rattle.rules.proofs.Behaviour.{rule-derives, rule-unbound, rule-bound, rule-keeps}
use Rattle.rules.proofs.Texts.{text-is-rules}
use Rattle.check_rules.proofs.Answering.{used-sizes, used-good, used-words}
use Rattle.check_rules.proofs.Accepting as accepting
use Rattle.check_rules.proofs.Accepting.{accepts, accepts_numbers}
use Rattle.translate.specs.Added.{put_entries, rules_entries, with_rules, Translating}
use Rattle.translate.specs.Promises.{Agree, Kept, Keeps, Faultless, Begins, first, later, Behaves, RulesBehave}
use Rattle.translate.proofs.Written.{Eights, no-entry, next-entry, eights-append, length-put, put_other, put-rows}
use Rattle.translate.proofs.Preorder.{body-eights, rows_same}
use Rattle.translate.proofs.Sound.{rule-good}
use Rattle.translate.proofs.Extending.{extends}

-- ---- two outcomes

pub agree : Agree
agree t u s r r' w w' h k = (same, decided (eqb r.answer 0) (λ q. fine (eqb-true r.answer 0 q)) (λ q. none (eqb-false r.answer 0 q)))
  where
    same : r ≡ r'
    same = accepting.agree t u s r r' h.numbers k.numbers

    answers : r.answer ≡ r'.answer
    answers = ap (λ (x : Translated). x.answer) same

    fine : r.answer ≡ 0 → w ≡ w'
    fine z = h.added z ∙ sym (k.added (sym answers ∙ z))

    none : (r.answer ≡ 0 → ⊥) → w ≡ w'
    none n = h.refused n ∙ sym (k.refused (λ z. n (answers ∙ z)))

-- ---- the rows of rules

pub rule-eights : (r : Rule) → PlainRule r → (e : ℕ) → Eights (rule_entries e r)
unfolding rule_entries rule_code code_entries row_of
rule-eights r h e = next-entry refl (body-eights r h (suc e))

rules-eights : {rs : List Rule} → PlainRules rs → (e : ℕ) → Eights (rules_entries e rs)
unfolding rules_entries
rules-eights no-rules e = no-entry
rules-eights (next-rule {r = r} h g) e = eights-append (rule-eights r h e) (rules-eights g (e + rule_size r))

length-rule : (e : ℕ) (r : Rule) → length (rule_entries e r) ≡ rule_size r
unfolding rule_entries
length-rule e r = length-code e _

length-rules : (e : ℕ) (rs : List Rule) → length (rules_entries e rs) ≡ entries_of rs
unfolding rules_entries entries_of
length-rules e [] = refl
length-rules e (r ∷ rs) = rw (length-append, length-rule e r, length-rules (e + rule_size r) rs)

-- ---- where a rule stands

begins-room : {u e : ℕ} {rs : List Rule} {q : Rule} → Begins u rs e q → (u ≤ e) × (e + rule_size q ≤ u + entries_of rs)
unfolding entries_of
begins-room first = (omega arith, omega arith)
begins-room (later b) = let (i, j) = begins-room b in (omega arith, omega arith)

begins-rows : {u e : ℕ} {rs : List Rule} {q : Rule} (w : List ℕ) → Begins u rs e q → Rows w u (rules_entries u rs) → Rows w e (rule_entries e q)
unfolding rules_entries
begins-rows {u} w (first {r = r} {rs = rs}) h = (rows_append w u (rule_entries u r) (rules_entries (u + rule_size r) rs) h).0
begins-rows {u} w (later {q = q} {rs = rs} b) h =
    let z : u + length (rule_entries u q) ≡ u + rule_size q = ap (λ (n : ℕ). u + n) (length-rule u q) in
    begins-rows w b (subst (λ (n : ℕ). Rows w n (rules_entries (u + rule_size q) rs)) z (rows_append w u (rule_entries u q) (rules_entries (u + rule_size q) rs) h).1)

begins-plain : {u e : ℕ} {rs : List Rule} {q : Rule} → Begins u rs e q → PlainRules rs → PlainRule q
begins-plain first (next-rule h g) = h
begins-plain (later b) (next-rule h g) = begins-plain b g

begins-allowed : {t : List ℕ} {n u e : ℕ} {rs : List Rule} {q : Rule} → Begins u rs e q → AllAllowed t n rs → Allowed t n q
begins-allowed first (and-more h g) = h
begins-allowed (later b) (and-more h g) = begins-allowed b g

-- Each new entry is one of a rule's.
record Within (u : ℕ) (rs : List Rule) (x : ℕ) : Type 0 where
  place : ℕ
  rule : Rule
  begins : Begins u rs place rule
  from : place ≤ x
  below : x < place + rule_size rule

within : (rs : List Rule) (u x : ℕ) → u ≤ x → x < u + entries_of rs → Within u rs x
unfolding entries_of
within [] u x l m = absurd (omega arith)
within (r ∷ rs) u x l m =
    ⊎_elim (λ k. record { place = u; rule = r; begins = first; from = l; below = k })
    (λ k.
    let w = within rs (u + rule_size r) x k (omega arith) in
    record { place = w.place; rule = w.rule; begins = later w.begins; from = w.from; below = w.below })
    (below-or-from x (u + rule_size r))

-- ---- a good entry where its words are the same and its table is longer

-- Words that are the same are the same number.
number_same : (a w : List ℕ) (x n j : ℕ) → j + n ≤ 8 → ((i : ℕ) → i < 8 → word_at w x i ≡ word_at a x i) → number w x n j ≡ number a x n j
unfolding number
number_same a w x zero j l same = refl
number_same a w x (suc zero) j l same = same j (omega arith)
number_same a w x (suc (suc n)) j l same = rw (same j (omega arith), number_same a w x (suc n) (j + 1) (omega arith) same)

few_words : (k : ℕ) → 1 + argument_words_by ours k ≤ 8
few_words k = decided (eqb k 16) (λ q. rw q (omega arith)) (λ q. rw q (omega arith))

-- An operand lies in its entry's row, by one computed test over the kinds.
all-inside : every (λ k. leb (operands_from_by ours k + (kind k).most) 8) 0 20 ≡ true
unfolding every kind line_of lines
all-inside = refl

operand-inside : (k i : ℕ) → k ≤ 19 → i < (kind k).most → operands_from_by ours k + i < 8
operand-inside k i l m = omega (arith, leb-true (operands_from_by ours k + (kind k).most) 8 (at_each (λ j. leb (operands_from_by ours j + (kind j).most) 8) all-inside k l))

good-stays : (a w : List ℕ) (x : ℕ) → x < rows a → rows a ≤ rows w → ((y j : ℕ) → y < rows a → j < 8 → word_at w y j ≡ word_at a y j) → Good a x → Good w x
good-stays a w x l room same g = record {
  counted = record {
    known = omega (arith, kind-same, g.counted.known);
    least = subst (λ (j : ℕ). (kind j).least ≤ operand_count w x) (sym kind-same) (omega (arith, count_same, g.counted.least));
    most = subst (λ (j : ℕ). operand_count w x ≤ (kind j).most) (sym kind-same) (omega (arith, count_same, g.counted.most));
  };
  argued = record {
    low = subst (λ (j : ℕ). lowest (kind j).argument ≤ argument_by ours w x) (sym kind-same) (subst (λ (b : ℕ). lowest (kind (kind_of a x)).argument ≤ b) (sym argument-same) g.argued.low);
    high = subst (λ (j : ℕ). argument_by ours w x ≤ highest_by ours (kind j).argument) (sym kind-same)
        (subst (λ (b : ℕ). b ≤ highest_by ours (kind (kind_of a x)).argument) (sym argument-same) g.argued.high);
  };
  placed = record {
    inside = λ i m. let h = counted-below i m in omega (arith, operand_same i h, g.placed.inside i h);
    above = λ n i m. let h = counted-below i m in omega (arith, operand_same i h, g.placed.above (λ y. n (kind-same ∙ y)) i h);
  };
  sorted = record {
    sorted = λ n i m. let h = counted-below i m in ap sort_of (kinds i h) ∙ g.sorted.sorted (λ y. n (kind-same ∙ y)) i h ∙ ap takes (sym kind-same);
    called = λ z i m. let h = counted-below i m in kinds i h ∙ g.sorted.called (sym kind-same ∙ z) i h;
  };
  unused = record { zero = λ j m n. same x j l n ∙ g.unused.zero j (omega (arith, count_same, ap (operands_from_by ours) kind-same)) n };
}
  where
    kind-same : kind_of w x ≡ kind_of a x
    kind-same = ap (λ (n : ℕ). n / 16) (same x 0 l (omega arith))

    count_same : operand_count w x ≡ operand_count a x
    count_same = ap (λ (n : ℕ). n % 16) (same x 0 l (omega arith))

    argument-same : argument_by ours w x ≡ argument_by ours a x
    argument-same = ap (λ (k : ℕ). number w x (argument_words_by ours k) 1) kind-same ∙ number_same a w x (argument_words_by ours (kind_of a x)) 1 (few_words (kind_of a x)) (λ j k. same x j l k)

    counted-below : (i : ℕ) → i < operand_count w x → i < operand_count a x
    counted-below i m = omega (arith, count_same)

    operand_same : (i : ℕ) → i < operand_count a x → operand_by ours w x i ≡ operand_by ours a x i
    operand_same i m =
        ap (λ (k : ℕ). word_at w x (operands_from_by ours k + i)) kind-same
        ∙ same x (operands_from_by ours (kind_of a x) + i) l (operand-inside (kind_of a x) i g.counted.known (omega (arith, g.counted.most)))

    kinds : (i : ℕ) → i < operand_count a x → kind_of w (operand_by ours w x i) ≡ kind_of a (operand_by ours a x i)
    kinds i m = ap (kind_of w) (operand_same i m) ∙ ap (λ (n : ℕ). n / 16) (same (operand_by ours a x i) 0 (g.placed.inside i m) (omega arith))

-- ---- an accepted text

used-fits : (t : List ℕ) (u : ℕ) → (used_checked t u).answer ≡ 0 → table_length_fits (length t) ≡ true
unfolding used_checked
used-fits t u e = go (table_length_fits (length t)) e
  where
    go : (p : Bool) → (if p && leb u (rows t) then (if eqb u 0 then checked 0 0 else table_checked (in_use t u)) else checked 2 0).answer ≡ 0 → p ≡ true
    go true z = refl
    go false z = absurd (omega (arith, z))

fits-used : (t : List ℕ) (u : ℕ) → table_length_fits (length t) ≡ true → u ≤ rows t → (0 < u → (table_checked (in_use t u)).answer ≡ 0) → (used_checked t u).answer ≡ 0
unfolding used_checked
fits-used t u e l h = rw (e, le-leb u (rows t) l) (decided (eqb u 0) (λ q. rw q) (λ q. rw q (h (omega (arith, eqb-false u 0 q)))))

module _ (t : List ℕ) (u : ℕ) (s : List ℕ) (r : Translated) (t' : List ℕ) (h : Translating t u s r t') (fine : r.answer ≡ 0) where
  taken : ((used_checked t u).answer ≡ 0) × Accepted t u s
  taken = (accepts t u s r h.numbers).0 fine

  its : List Rule
  its = taken.1.its

  means : meant s ≡ rules taken.1.its
  means = (text-is-rules s taken.1.its).1 (taken.1.text, taken.1.plain)

  used-is : r.used ≡ u + entries_of taken.1.its
  used-is = ap (λ (x : Translated). x.used) (accepts_numbers t u s r h.numbers taken.0 taken.1)

  table_is : t' ≡ put_entries t u (rules_entries u taken.1.its)
  table_is = h.added fine ∙ ap (λ (m : Meant). with_rules m t u) means

  eights : Eights (rules_entries u taken.1.its)
  eights = rules-eights taken.1.plain u

  long : length (rules_entries u taken.1.its) ≡ entries_of taken.1.its
  long = length-rules u taken.1.its

  room : u + length (rules_entries u taken.1.its) ≤ rows t
  room = omega (arith, long, taken.1.room)

  pub kept-long : length t' ≡ length t
  kept-long = ap length table_is ∙ length-put eights t u room

  kept_row : (i j : ℕ) → j < 8 → (u ≤ i → i < r.used → ⊥) → word_at t' i j ≡ word_at t i j
  kept_row i j k o = ap (λ (w : List ℕ). word_at w i j) table_is ∙ put_other eights t u room i j k (λ a b. o a (omega (arith, used-is, long)))

  pub kept-words : (i : ℕ) → (8 * u ≤ i → i < 8 * r.used → ⊥) → get_or t' i 0 ≡ get_or t i 0
  kept-words i o =
      let z : 8 * (i / 8) + i % 8 ≡ i = omega arith in
      subst (λ (n : ℕ). get_or t' n 0 ≡ get_or t n 0) z (kept_row (i / 8) (i % 8) (omega arith) (λ a b. o (omega arith) (omega arith)))

  -- ---- the entries in use afterwards

  w-long : length (in_use t' r.used) ≡ 8 * r.used
  w-long = length-take-le (8 * r.used) t' (omega (arith, kept-long, room, used-is, long))

  w-rows : rows (in_use t' r.used) ≡ r.used
  w-rows = omega (arith, w-long)

  a-rows : rows (in_use t u) ≡ u
  a-rows = omega (arith, used-words t u (used-sizes t u taken.0).1)

  w-word : (i j : ℕ) → i < r.used → j < 8 → word_at (in_use t' r.used) i j ≡ word_at t' i j
  w-word i j l k = get_or-take (8 * r.used) t' (8 * i + j) 0 (omega arith)

  old-word : (x j : ℕ) → x < rows (in_use t u) → j < 8 → word_at (in_use t' r.used) x j ≡ word_at (in_use t u) x j
  old-word x j l k =
      let m : x < u = omega (arith, a-rows) in
      w-word x j (omega (arith, used-is)) k ∙ kept_row x j k (λ a b. omega arith) ∙ sym (get_or-take (8 * u) t (8 * x + j) 0 (omega arith))

  old-good : (x : ℕ) → x < rows (in_use t u) → Good (in_use t u) x
  old-good x l = (entry_plain ours (in_use t u) x).0 ((used-good t u taken.0 (λ z. omega (arith, a-rows))).1 x l)

  module _ {e : ℕ} {q : Rule} (b : Begins u taken.1.its e q) where
    ends : (u ≤ e) × (e + rule_size q ≤ r.used)
    ends = let (i, j) = begins-room b in (i, omega (arith, used-is))

    lent_rows : Rows t' e (rule_entries e q)
    lent_rows = begins-rows t' b (subst (λ (w : List ℕ). Rows w u (rules_entries u taken.1.its)) (sym table_is) (put-rows eights t u room))

    its-rows : Rows (in_use t' r.used) e (rule_entries e q)
    its-rows = rows_same t' (in_use t' r.used) e (rule_entries e q) (λ i j k l m. w-word i j (omega (arith, ends.1, length-rule e q)) k) lent_rows

    plain : PlainRule q
    plain = begins-plain b taken.1.plain

    allowed : Allowed t u q
    allowed = begins-allowed b taken.1.allowed

    called : (c : Condition) → Among c q.conditions → (c.callee < rows (in_use t' r.used)) × (kind_of (in_use t' r.used) c.callee ≡ 7)
    called c m =
        let (i, j, k) = allowed.called c m in
        (omega (arith, w-rows, used-is), ap (λ (n : ℕ). n / 16) (w-word c.callee 0 (omega (arith, used-is)) (omega arith) ∙ kept_row c.callee 0 (omega arith) (λ x y. omega arith)) ∙ j)

    new-good : (x : ℕ) → e ≤ x → x < e + rule_size q → Good (in_use t' r.used) x
    new-good = rule-good (in_use t' r.used) q plain allowed.in-range called e its-rows (omega (arith, ends.1, w-rows))

    closed : ClosedCalls (table (in_use t' r.used)) q
    closed c m =
        let (i, j, k) = allowed.called c m in
        closed-stays (table (in_use t u)) (table (in_use t' r.used)) (rows (in_use t u)) (extends (in_use t u) (in_use t' r.used) old-good old-word) c.callee (omega (arith, a-rows)) k

    -- The rule may be taken again where it stands.
    still-allowed : Allowed t' r.used q
    still-allowed = record {
      bound-before = allowed.bound-before;
      in-range = allowed.in-range;
      called = λ c m.
          let (i, j, k) = allowed.called c m in
          (omega (arith, used-is), ap (λ (n : ℕ). n / 16) (kept_row c.callee 0 (omega arith) (λ x y. omega arith)) ∙ j, closed c m);
    }

    behaves : Behaves (table (in_use t' r.used)) e q
    behaves =
        let has = rows-has (in_use t' r.used) e q plain its-rows in
        record {
          derives = rule-derives (table (in_use t' r.used)) e q has closed;
          unbound = rule-unbound (table (in_use t' r.used)) e q has closed;
          keeps = rule-keeps (table (in_use t' r.used)) e q has closed;
          inside = rule-bound (table (in_use t' r.used)) q allowed.bound-before;
        }

  same-rules : {qs ps : List Rule} → rules qs ≡ rules ps → qs ≡ ps
  same-rules i = cc

  -- What stands in the new table at a rule's place.
  pub record Stands (e : ℕ) (q : Rule) : Type 0 where
    pub plain-there : PlainRule q
    pub allowed-there : Allowed t' r.used q
    pub inside-there : e + rule_size q ≤ r.used
    pub rows-there : Rows t' e (rule_entries e q)

  pub all-stand : (rs : List Rule) → meant s ≡ rules rs → (e : ℕ) (q : Rule) → Begins u rs e q → Stands e q
  all-stand rs z e q b =
      let c : Begins u taken.1.its e q = subst (λ (qs : List Rule). Begins u qs e q) (same-rules (sym z ∙ means)) b in
      record { plain-there = plain c; allowed-there = still-allowed c; inside-there = (ends c).1; rows-there = lent_rows c }

  pub all-behave : (rs : List Rule) → meant s ≡ rules rs → (e : ℕ) (q : Rule) → Begins u rs e q → Behaves (table (in_use t' r.used)) e q
  all-behave rs z e q b = behaves (subst (λ (qs : List Rule). Begins u qs e q) (same-rules (sym z ∙ means)) b)

  good : (x : ℕ) → x < rows (in_use t' r.used) → Good (in_use t' r.used) x
  good x l =
      ⊎_elim
      (λ k. let m : x < rows (in_use t u) = omega (arith, a-rows) in good-stays (in_use t u) (in_use t' r.used) x m (omega (arith, a-rows, w-rows, used-is)) old-word (old-good x m))
      (λ k.
      let v = within taken.1.its u x k (omega (arith, w-rows, used-is)) in
      new-good v.begins x v.from v.below)
      (below-or-from x u)

  pub no-fault : (used_checked t' r.used).answer ≡ 0
  no-fault =
      let lengths = used-fits t u taken.0 in
      fits-used t' r.used (ap table_length_fits kept-long ∙ lengths) (omega (arith, kept-long, room, used-is, long))
      (λ some. (table_passes ours (in_use t' r.used)).1 (
        record { some = omega (arith, w-long); whole = omega (arith, w-long); most = omega (arith, w-long, used-is, long, room, (used-sizes t u taken.0).0) },
        λ x l. (entry_plain ours (in_use t' r.used) x).1 (good x l),
      ))

pub keeps : Keeps
keeps t u s r t' h = decided (eqb r.answer 0) (λ q. let z = eqb-true r.answer 0 q in record { long = kept-long t u s r t' h z; words = kept-words t u s r t' h z }) refused
  where
    refused : eqb r.answer 0 ≡ false → Kept t u r.used t'
    refused q = let z = h.refused (eqb-false r.answer 0 q) in record { long = ap length z; words = λ i o. ap (λ (w : List ℕ). get_or w i 0) z }

pub faultless : Faultless
faultless t u s r t' h z = no-fault t u s r t' h z

pub rules-behave : RulesBehave
rules-behave t u s r t' h z rs m e q b = all-behave t u s r t' h z rs m e q b
