-- The child walker: the rest of the walk from child i, one turn of it, and its end.
use mathlib.Core.Path.{◌≡◌, refl, ap, sym, ◌∙◌, subst}
use mathlib.Core.Bool.{Bool, true, false, true≢false}
use mathlib.Core.List.{List, [], ◌∷◌, ◌++◌, map}
use Prim.Native.Nat.{ℕ, zero, suc, ◌+◌, ◌-◌, ◌<◌, ◌≤◌, min}
use native.Mathlib.Omega.{arith}
use lib.Dec.{eqb, ltb}
use lib.ListN.{length, drop, set, get_or, length-set}
use borrow.Author.Tests.{eq-eqb, ne_eqb, le-ltb, eqb-true, eqb-false}
use Rattle.words.specs.Words.{word_at}
use Rattle.std.specs.Prelude.{Option, Some, None, MatchOption, if◌then◌else◌}
use Rattle.checks.specs.Good.{kind_of, operand_count, constructor_of, child_count}
use Rattle.meaning.specs.Bindings.{Bindings}
use Rattle.meaning.specs.Table.{operands}
use Rattle.meaning.specs.Plan.{keep, fail, ask}
use Rattle.meaning.specs.Rules.{apply, Do, zip, when, again, walk, some_of}
use Rattle.meaning.specs.Limits.{ended, lost, run_plan}
use Rattle.meaning.specs.Store.{children}
use Rattle.state.specs.Noted.{Standing, on, left_of}
use Rattle.meaning.specs.Demands.{Kept}
use Rattle.meaning.proofs.Checked.{node-of-good}
use Rattle.meaning.proofs.Words.{kept_refl, kept_trans, kept_word}
use Rattle.state.specs.declared.answers.Answer.TheVariants.{Done, Failed}
use Rattle.state.specs.declared.answers.Attempt.{Attempt}
use Rattle.state.specs.declared.answers.Attempt.TheVariants.{Ended, Cut as Off}
use Rattle.state.specs.Answers.{packed, node_in, units_in, units_word, answer_of, attempt_of}
use Rattle.state.specs.Record.{marking, mask_of, masking, record_long, mark_of, notes_of, standing, held, back, Framed}
use Rattle.state.specs.Visits.{out, visit, plan, count_of, noded, Steady, Stored, Gives}
use Rattle.cycle.specs.Cycle.{Counted, operand_for, visits, walked, finished, entry_ahead, Leads, VisitsAhead, Ready}
use Rattle.state.proofs.AnswerWords.{node-packed, units-packed, done-units, failed-few, attempt-done, attempt-failed, attempt-cut, out-units}
use Rattle.state.proofs.Asking.{goes_on, caught, cut_off}
use Rattle.leaves.proofs.Keeping.{LeavesFitting, apply-leaves, steady_kept, steady-after, leaves-done, leaves-failed, node-small}
use Rattle.index.specs.Run.{Fits}
use Rattle.cycle.proofs.Rowing.{again-noded, ready-stored}
use Rattle.state.proofs.Storing.{kept-stored}
use Rattle.state.proofs.Holding.{further, held_back, mark-back, notes-back, framed-back, length_back, framed-refl, framed-trans}
use Rattle.leaves.proofs.Children.{part-next, part_end, filled, filled_next, one_more, filled_row}
use Rattle.leaves.proofs.Patterns.{operand_below}
use Rattle.cycle.proofs.Ahead.{leads-on, leads-inside}
use Rattle.cycle.proofs.Operators.{fails, not-caught}

-- a term without children
itself : (t : List ℕ) (n k c : ℕ) (b : Bindings ℕ) (w : List ℕ) (m : Standing) (u : ℕ) → plan t n (again k c [] b) w m u ≡ ended k b (on w m) u
unfolding plan run_plan again
itself t n k c b w m u = refl

zip-none : {A B C : Type 0} (f : A → B → C) (xs : List A) → zip f xs [] ≡ []
unfolding zip
zip-none f [] = refl
zip-none f (x ∷ xs) = refl

drop-zip : {A B C : Type 0} (f : A → B → C) (i : ℕ) (xs : List A) (ys : List B) → drop i (zip f xs ys) ≡ zip f (drop i xs) (drop i ys)
unfolding zip
drop-zip f zero xs ys = refl
drop-zip f (suc i) [] ys = refl
drop-zip f (suc i) (x ∷ xs) [] = sym (zip-none f (drop i xs))
drop-zip f (suc i) (x ∷ xs) (y ∷ ys) = drop-zip f i xs ys

drop-map : {A B : Type 0} (f : A → B) (i : ℕ) (xs : List A) → drop i (map f xs) ≡ map f (drop i xs)
drop-map f zero xs = refl
drop-map f (suc i) [] = refl
drop-map f (suc i) (x ∷ xs) = drop-map f i xs

module _ (t w : List ℕ) (e k : ℕ) (same : Counted t w e k) where
  -- the next visit, and none left
  visits-next : (i : ℕ) → i < count_of w k → drop i (visits t e (children w k)) ≡ apply (operand_for t e (kind_of t e) i) (word_at w k (2 + i)) ∷ drop (i + 1) (visits t e (children w k))
  unfolding visits zip
  visits-next i h = go (eqb (kind_of t e) 10) refl
    where
      go : (z : Bool) → eqb (kind_of t e) 10 ≡ z
          → drop i (if z then zip apply (operands t e) (children w k) else map (apply (word_at t e 2)) (children w k))
          ≡ apply (if z then word_at t e (2 + i) else word_at t e 2) (word_at w k (2 + i)) ∷ drop (i + 1)
          (if z then zip apply (operands t e) (children w k) else map (apply (word_at t e 2)) (children w k))
      go true q =
          let l : i < min (operand_count t e) 6 = omega (arith, same.1 (eqb-true (kind_of t e) 10 q)) in
          drop-zip apply i (operands t e) (children w k)
          ∙ rw (part-next t e (operand_count t e) i l, part-next w k (child_count w k) i h)
          (ap (λ r. apply (word_at t e (2 + i)) (word_at w k (2 + i)) ∷ r) (sym (drop-zip apply (i + 1) (operands t e) (children w k))))
      go false q =
          drop-map (apply (word_at t e 2)) i (children w k)
          ∙ rw (part-next w k (child_count w k) i h) (ap (λ r. apply (word_at t e 2) (word_at w k (2 + i)) ∷ r) (sym (drop-map (apply (word_at t e 2)) (i + 1) (children w k))))

  visits-end : (i : ℕ) → count_of w k ≤ i → drop i (visits t e (children w k)) ≡ []
  unfolding visits zip
  visits-end i h = go (eqb (kind_of t e) 10)
    where
      go : (z : Bool) → drop i (if z then zip apply (operands t e) (children w k) else map (apply (word_at t e 2)) (children w k)) ≡ []
      go true = drop-zip apply i (operands t e) (children w k) ∙ rw (part_end w k (child_count w k) i h) (zip-none apply (drop i (operands t e)))
      go false = drop-map (apply (word_at t e 2)) i (children w k) ∙ rw (part_end w k (child_count w k) i h)

-- from child i on: won says whether a child has succeeded, gs are the children that are done
abbrev pub rest : List ℕ → List ℕ → ℕ → ℕ → ℕ → Bool → List ℕ → Bindings ℕ → Do ℕ
rest t w e k i won gs b =
    if eqb (kind_of t e) 13 then some_of (word_at t e 2) won gs (drop i (children w k)) b (again k (constructor_of w k))
    else walk (drop i (visits t e (children w k))) gs b (again k (constructor_of w k))

module _ (t w : List ℕ) (e k : ℕ) (same : Counted t w e k) (i : ℕ) (won : Bool) (gs : List ℕ) (b : Bindings ℕ) where
  -- the next child
  rest-next : i < count_of w k → rest t w e k i won gs b
      ≡ ask keep (apply (operand_for t e (kind_of t e) i) (word_at w k (2 + i)) b) (λ h c. rest t w e k (i + 1) true (gs ++ (h ∷ [])) c)
      (if eqb (kind_of t e) 13 then rest t w e k (i + 1) won (gs ++ (word_at w k (2 + i) ∷ [])) b else fail)
  unfolding some_of walk
  rest-next h = go (eqb (kind_of t e) 13) refl
    where
      go : (z : Bool) → eqb (kind_of t e) 13 ≡ z
          → (if z then some_of (word_at t e 2) won gs (drop i (children w k)) b (again k (constructor_of w k)) else walk
          (drop i (visits t e (children w k))) gs b (again k (constructor_of w k)))
          ≡ ask keep (apply (operand_for t e (kind_of t e) i) (word_at w k (2 + i)) b)
          (λ h c. if z then some_of (word_at t e 2) true (gs ++ (h ∷ [])) (drop (i + 1) (children w k)) c (again k (constructor_of w k)) else
          walk (drop (i + 1) (visits t e (children w k))) (gs ++ (h ∷ [])) c (again k (constructor_of w k)))
          (if z then (if z then some_of (word_at t e 2) won (gs ++ (word_at w k (2 + i) ∷ [])) (drop (i + 1) (children w k)) b
          (again k (constructor_of w k)) else walk (drop (i + 1) (visits t e (children w k))) (gs ++ (word_at w k (2 + i) ∷ [])) b
          (again k (constructor_of w k))) else fail)
      go true q =
          let f : kind_of t e ≡ 13 = eqb-true (kind_of t e) 13 q in
          rw (part-next w k (child_count w k) i h, f)
      go false q = rw (visits-next t w e k same i h)

  -- no child is left
  rest_end : count_of w k ≤ i → rest t w e k i won gs b ≡ (if eqb (kind_of t e) 13 then when won (again k (constructor_of w k) gs b) else again k (constructor_of w k) gs b)
  unfolding some_of walk
  rest_end h = go (eqb (kind_of t e) 13)
    where
      go : (z : Bool)
          → (if z then some_of (word_at t e 2) won gs (drop i (children w k)) b (again k (constructor_of w k)) else walk
          (drop i (visits t e (children w k))) gs b (again k (constructor_of w k)))
          ≡ (if z then when won (again k (constructor_of w k) gs b) else again k (constructor_of w k) gs b)
      go true = rw (part_end w k (child_count w k) i h)
      go false = rw (visits-end t w e k same i h)

-- the walk begins with the whole
rest_all : (t w : List ℕ) (e k : ℕ) (b : Bindings ℕ) → rest t w e k 0 false [] b ≡ walked t w e k b
unfolding walked
rest_all t w e k b = refl

-- ALL of a term without children gives it back
pub childless : (t w : List ℕ) (e k n : ℕ) (b : Bindings ℕ) (m : Standing) (u : ℕ) → kind_of t e ≡ 11 → count_of w k ≡ 0 → plan t n (walked t w e k b) w m u ≡ ended k b (on w m) u
childless t w e k n b m u h z =
    ap (λ p. plan t n p w m u) (sym (rest_all t w e k b) ∙ rest_end t w e k (λ f. omega (arith, h, f), λ f. absurd (omega arith)) 0 false [] b (omega (arith, z)))
    ∙ rw (ne_eqb (kind_of t e) 13 (λ f. omega arith)) (itself t n k (constructor_of w k) b w m u)

-- what a result says of its two cases
pub when-none : {T : Type 0} (A : Type 0) (B : T → Type 0) (o : Option T) → MatchOption o A B → ((x : T) → o ≡ Some x → ⊥) → A
when-none A B None a h = a
when-none A B (Some x) b h = absurd (h x refl)

pub when-some : {T : Type 0} (A : Type 0) (B : T → Type 0) (o : Option T) → MatchOption o A B → (x : T) → o ≡ Some x → B x
when-some A B o m x e = subst (λ o. MatchOption o A B) e m

-- the words of the node that is made: its children are the first, the second, and the four after them
pub placed : {a' b' y : ℕ} {more' : List ℕ} (i x c n a b : ℕ) (more : List ℕ) → a' ≡ (if eqb i 0 then y else a) → b' ≡ (if eqb i 1 then y else b)
    → more' ≡ (if ltb i 2 then more else set more (i - 2) y) → y ≡ x → c ∷ n ∷ a' ∷ b' ∷ more' ≡ set (c ∷ n ∷ a ∷ b ∷ more) (2 + i) x
placed zero x c n a b more p q r e = rw (p, q, r, e)
placed (suc zero) x c n a b more p q r e = rw (p, q, r, e)
placed (suc (suc j)) x c n a b more p q r e =
    let f : eqb (suc (suc j)) 0 ≡ false = ne_eqb (suc (suc j)) 0 (λ z. omega arith) in
    let g : eqb (suc (suc j)) 1 ≡ false = ne_eqb (suc (suc j)) 1 (λ z. omega arith) in
    let h : ltb (suc (suc j)) 2 ≡ false = le-ltb (suc (suc j)) 2 (omega arith) in
    let k : suc (suc j) - 2 ≡ j = omega arith in
    let z : 2 + suc (suc j) ≡ suc (suc (suc (suc j))) = omega arith in
    rw (p, q, r, e, f, g, h, k, z)

pub four : (more : List ℕ) → length more ≡ 4 → get_or more 0 0 ∷ get_or more 1 0 ∷ get_or more 2 0 ∷ get_or more 3 0 ∷ [] ≡ more
four [] h = absurd (omega arith)
four (a ∷ []) h = absurd (omega arith)
four (a ∷ b ∷ []) h = absurd (omega arith)
four (a ∷ b ∷ c ∷ []) h = absurd (omega arith)
four (a ∷ b ∷ c ∷ d ∷ []) h = refl
four (a ∷ b ∷ c ∷ d ∷ e ∷ l) h = absurd (omega arith)

pub four-still : {more' : List ℕ} (more : List ℕ) (i y : ℕ) → length more ≡ 4 → more' ≡ (if ltb i 2 then more else set more (i - 2) y) → length more' ≡ 4
four-still more i y h q = rw q (go (ltb i 2))
  where
    go : (z : Bool) → length (if z then more else set more (i - 2) y) ≡ 4
    go true = h
    go false = length-set more (i - 2) y ∙ h

-- what a turn of the walk has: k is the node that is walked, w₀ and st₀ the store and the record where it began
pub record Going (t w₀ st₀ : List ℕ) (e s deep : ℕ) (w st : List ℕ) (u : ℕ) (won : Bool) (made : List ℕ) (i : ℕ) : Type 0 where
  pub done : List ℕ
  pub made-is : made ≡ filled (constructor_of w₀ (node_in s)) (count_of w₀ (node_in s)) done
  pub so_far : length done ≡ i
  pub within : i ≤ count_of w₀ (node_in s)
  pub kept : Kept w₀ (mark_of st₀) w
  pub more : mark_of st₀ ≤ mark_of st
  pub steady : Steady w (standing st) (held st)
  pub frame : Framed st₀ st
  pub wide : length st ≡ length st₀
  pub few : u < 4294967296
  pub begun : i ≡ 0 → u ≡ units_in s
  pub won-later : won ≡ true → 0 < i
  pub left : plan t deep (rest t w₀ e (node_in s) i won done (held st)) w (standing st) u ≡ plan t deep (walked t w₀ e (node_in s) (held st₀)) w₀ (standing st₀) (units_in s)

pub going-first : {t w st : List ℕ} {e s : ℕ} (deep : ℕ) → Ready t w st e s → {c n u : ℕ} → c ≡ word_at w (node_in s) 0 → n ≡ count_of w (node_in s) → u ≡ units_in s
    → Going t w st e s deep w st u false (c ∷ n ∷ 0 ∷ 0 ∷ 0 ∷ 0 ∷ 0 ∷ 0 ∷ []) 0
going-first {t} {w} {st} {e} {s} deep r p q v = record {
  done = [];
  made-is = rw (p, q);
  so_far = refl;
  within = omega arith;
  kept = kept_refl w (mark_of st);
  more = omega arith;
  steady = r.steady;
  frame = framed-refl further st;
  wide = refl;
  few = rw v (omega arith);
  begun = λ z. v;
  won-later = λ f. absurd (true≢false (sym f));
  left = rw v (ap (λ p. plan t deep p w (standing st) (units_in s)) (rest_all t w e (node_in s) (held st)));
}

module _ {t w₀ st₀ : List ℕ} {e s deep : ℕ} {w st : List ℕ} {u : ℕ} {won : Bool} {made : List ℕ} {i : ℕ} (ready : Ready t w₀ st₀ e s) (same : Counted t w₀ e (node_in s))
    (g : Going t w₀ st₀ e s deep w st u won made i) (h : i < count_of w₀ (node_in s)) where
  -- child i, as the store has it now
  child-is : word_at w (node_in s) (2 + i) ≡ word_at w₀ (node_in s) (2 + i)
  child-is = kept_word g.kept (node_in s) (2 + i) ready.subject (omega arith)

  child-below : word_at w₀ (node_in s) (2 + i) < mark_of st
  child-below = omega (arith, (node-of-good w₀ (node_in s) (ready.steady.good (node_in s) ready.subject)).below i (omega arith), ready.subject, g.more)

  -- the visit of child i is ready
  pub going-ready : {x κ c p : ℕ} → x ≡ operand_for t e κ i → κ ≡ kind_of t e → c ≡ word_at w (node_in s) (2 + i) → p ≡ packed c u → Ready t w st x p
  going-ready {x} {κ} {c} {p} xe κe ce pe = record {
    entries = ready.entries;
    hints = ready.hints;
    long = g.wide ∙ ready.long;
    inside = rw xe (operand-inside (eqb κ 10));
    steady = g.steady;
    subject = rw (pe, node-packed c u g.few, ce, child-is) child-below;
  }
    where
      operand-inside : (z : Bool) → (if z then word_at t e (2 + i) else word_at t e 2) < 4096
      operand-inside true = operand_below t ready.entries e i ready.inside same.0 (omega arith)
      operand-inside false = operand_below t ready.entries e 0 ready.inside same.0 (omega arith)

  -- the visit of child i gave `got`
  module _ {x κ c p got : ℕ} {st' w' : List ℕ} (oe : x ≡ operand_for t e κ i) (κe : κ ≡ kind_of t e) (ce : c ≡ word_at w (node_in s) (2 + i)) (pe : p ≡ packed c u)
      (gives : Gives (visit t deep (apply x (node_in p) (held st)) w (standing st) (units_in p)) st got st' w') {a : Attempt} (attempted : a ≡ attempt_of (answer_of got)) where
    xe : x ≡ operand_for t e (kind_of t e) i
    xe = oe ∙ ap (λ (k : ℕ). operand_for t e k i) κe

    cw : c ≡ word_at w₀ (node_in s) (2 + i)
    cw = ce ∙ child-is

    is : out got st' w' ≡ visit t deep (apply (operand_for t e (kind_of t e) i) (word_at w₀ (node_in s) (2 + i)) (held st)) w (standing st) u
    is = gives.is ∙ rw (pe, node-packed c u g.few, units-packed c u g.few, cw, xe)

    next : plan t deep (rest t w₀ e (node_in s) i won g.done (held st)) w (standing st) u
        ≡ plan t deep (ask keep (apply (operand_for t e (kind_of t e) i) (word_at w₀ (node_in s) (2 + i)) (held st)) (λ h c. rest t w₀ e (node_in s) (i + 1) true (g.done ++ (h ∷ [])) c)
        (if eqb (kind_of t e) 13 then rest t w₀ e (node_in s) (i + 1) won (g.done ++ (word_at w₀ (node_in s) (2 + i) ∷ [])) (held st) else fail)) w (standing st) u
    next = ap (λ p. plan t deep p w (standing st) u) (rest-next t w₀ e (node_in s) same i won g.done (held st) h)

    abbrev Whole : Type 0
    Whole = Gives (plan t deep (walked t w₀ e (node_in s) (held st₀)) w₀ (standing st₀) (units_in s)) st₀ got st' w'

    framed' : Framed st₀ st'
    framed' = framed-trans further st₀ st st' g.frame gives.frame

    long' : length st' ≡ record_long
    long' = gives.frame.long ∙ g.wide ∙ ready.long

    -- a cut_off, and a failure that nothing catches
    pub going-off : {d : ℕ} → a ≡ Off d → Whole
    going-off {d} q = record {
      is = cut_off t deep w (standing st) u _ got st' w' is (answer_of got) refl keep _ _ d (attempt-cut (answer_of got) d (sym attempted ∙ q)) ∙ sym next ∙ g.left;
      frame = framed';
    }

    module _ {o : Option ℕ} {v : ℕ} (q : a ≡ Ended o v) where
      failed-as : o ≡ None → answer_of got ≡ Failed v
      failed-as z = attempt-failed (answer_of got) v (sym attempted ∙ q ∙ ap (λ o. Ended o v) z)

      done-as : {y : ℕ} → o ≡ Some y → answer_of got ≡ Done y v
      done-as {y} z = attempt-done (answer_of got) y v (sym attempted ∙ q ∙ ap (λ o. Ended o v) z)

      leaves : LeavesFitting w (standing st) (visit t deep (apply x (node_in p) (held st)) w (standing st) (units_in p))
      leaves = apply-leaves g.steady t ready.entries deep x (node_in p) (units_in p) (rw (pe, node-packed c u g.few, cw) child-below)

      pub going-stops : {k : ℕ} → k ≡ kind_of t e → (k ≡ 13 → ⊥) → o ≡ None → Whole
      going-stops {k} ke n z = record {
        is = not-caught t deep w (standing st) u _ got st' w' is (λ h c. rest t w₀ e (node_in s) (i + 1) true (g.done ++ (h ∷ [])) c) v (failed-as z)
            ∙ sym (next ∙ ap (λ z. plan t deep (ask keep (apply (operand_for t e (kind_of t e) i) (word_at w₀ (node_in s) (2 + i)) (held st))
            (λ h c. rest t w₀ e (node_in s) (i + 1) true (g.done ++ (h ∷ [])) c)
            (if z then rest t w₀ e (node_in s) (i + 1) won (g.done ++ (word_at w₀ (node_in s) (2 + i) ∷ [])) (held st) else fail)) w
            (standing st) u) (ne_eqb (kind_of t e) 13 (λ f. n (ke ∙ f)))) ∙ g.left;
        frame = framed';
      }

      -- child i succeeded
      pub going-yes : {y : ℕ} {r : Bool} {st'' made'' : List ℕ} → o ≡ Some y → st'' ≡ st' → r ≡ true → made'' ≡ set made (2 + i) y → Going t w₀ st₀ e s deep w' st'' v r made'' (i + 1)
      going-yes {y} {r} {st''} {made''} z se re me =
          let f = done-as z in
          let lv = leaves-done w (standing st) _ leaves got st' w' gives.is (answer_of got) refl y v f in
          rw (se, re, me) (record {
            done = g.done ++ (y ∷ []);
            made-is = filled_next _ _ i y g.done made g.made-is g.so_far (omega arith);
            so_far = one_more g.done y i g.so_far;
            within = omega arith;
            kept = kept_trans g.more g.kept lv.0.1;
            more = omega (arith, g.more, lv.0.0);
            steady = steady-after g.steady w' (standing st') y v (held st') lv;
            frame = framed';
            wide = gives.frame.long ∙ g.wide;
            few = done-units got y v (answer_of got) refl f;
            begun = λ j. absurd (omega arith);
            won-later = λ j. omega arith;
            left = sym (next ∙ goes_on t deep w (standing st) u _ got st' w' is (answer_of got) refl (λ h c. rest t w₀ e (node_in s) (i + 1) true (g.done ++ (h ∷ [])) c) _ y v f) ∙ g.left;
          })

      -- SOME keeps child i, which failed
      pub going-no : {k mark mask : ℕ} {r : Bool} {st'' made'' : List ℕ} → o ≡ None → k ≡ kind_of t e → k ≡ 13 → mark ≡ mark_of st → mask ≡ mask_of st
          → st'' ≡ masking (marking st' mark) mask → r ≡ won → made'' ≡ set made (2 + i) c → Going t w₀ st₀ e s deep w' st'' v r made'' (i + 1)
      going-no {k} {mark} {mask} {r} {st''} {made''} z ke k13 p q saved re me =
          let se : st'' ≡ back st st' = saved ∙ rw (p, q) in
          let f = failed-as z in
          let (kp, fits) = leaves-failed w (standing st) _ leaves got st' w' gives.is (answer_of got) refl v f in
          let hd = held_back further st st' long' gives.frame in
          let mk = mark-back further st st' long' in
          let ms = notes-back further st st' long' in
          rw (se, re, me) (record {
            done = g.done ++ (word_at w₀ (node_in s) (2 + i) ∷ []);
            made-is = rw cw (filled_next _ _ i (word_at w₀ (node_in s) (2 + i)) g.done made g.made-is g.so_far (omega arith));
            so_far = one_more g.done _ i g.so_far;
            within = omega arith;
            kept = kept_trans g.more g.kept kp;
            more = rw mk g.more;
            steady = rw (mk, ms, hd) (steady_kept g.steady (standing st') kp fits);
            frame = framed-trans further st₀ st (back st st') g.frame (framed-back further st st' long' gives.frame);
            wide = length_back further st st' long' ∙ sym ready.long;
            few = failed-few got v (answer_of got) refl f;
            begun = λ j. absurd (omega arith);
            won-later = λ j. omega arith;
            left = rw (mk, ms, hd) (sym (next ∙ caught t deep w (standing st) u _ got st' w' is (answer_of got) refl keep _ _ v f ∙ rw (eq-eqb (kind_of t e) 13 (sym ke ∙ k13))) ∙ g.left);
          })

-- running out of units is a cut_off
units-off : attempt_of (answer_of units_word) ≡ Off units_word
unfolding attempt_of answer_of
units-off = refl

-- a visit of child i of which the first n only lead on
module _ {t w₀ st₀ : List ℕ} {e s deep : ℕ} {w st : List ℕ} {u : ℕ} {won : Bool} {made : List ℕ} {i : ℕ} (ready : Ready t w₀ st₀ e s) (same : Counted t w₀ e (node_in s))
    (g : Going t w₀ st₀ e s deep w st u won made i) (h : i < count_of w₀ (node_in s)) (n κ : ℕ) (ahead : VisitsAhead t e deep n) (κe : κ ≡ kind_of t e) {first x : ℕ} (fe : first ≡ entry_ahead t e n)
    (xe : x ≡ (if eqb κ 10 then word_at t e (2 + i) else first)) where
  leads : Leads t (operand_for t e κ i) x n
  leads = leads-on n κ i ahead κe fe xe

  module _ {c p : ℕ} (ce : c ≡ word_at w (node_in s) (2 + i)) (pe : p ≡ packed c (u - n)) where
    less : u - n < 4294967296
    less = omega (arith, g.few)

    pub ahead-ready : Ready t w st x p
    ahead-ready =
        let r = going-ready ready same g h {x = operand_for t e κ i} {κ = κ} {c = c} {p = packed c u} refl κe ce refl in
        record {
          entries = r.entries;
          hints = r.hints;
          long = r.long;
          inside = leads-inside n κ i ready.entries ready.inside same.0 (omega arith) fe xe;
          steady = r.steady;
          subject = rw (pe, node-packed c (u - n) less) (subst (λ k. k < mark_of st) (node-packed c u g.few) r.subject);
        }

    pub ahead-gives : {got : ℕ} {st' w' : List ℕ} → n ≤ u → Gives (visit t (deep - n) (apply x (node_in p) (held st)) w (standing st) (units_in p)) st got st' w'
        → Gives (visit t deep (apply (operand_for t e κ i) (node_in (packed c u)) (held st)) w (standing st) (units_in (packed c u))) st got st' w'
    ahead-gives l o = record {
      is =
          o.is ∙ rw (pe, node-packed c (u - n) less, units-packed c (u - n) less, node-packed c u g.few, units-packed c u g.few)
          (sym (leads.is c (held st) w (standing st) deep u ahead.few l));
      frame = o.frame;
    }

  -- the units are fewer than these visits
  pub ahead-short : {r : ℕ} → u < n → r ≡ units_word → Gives (plan t deep (walked t w₀ e (node_in s) (held st₀)) w₀ (standing st₀) (units_in s)) st₀ r st w
  ahead-short {r} l re =
      let c = word_at w (node_in s) (2 + i) in
      let o : out r st w ≡ visit t deep (apply (operand_for t e κ i) (node_in (packed c u)) (held st)) w (standing st) (units_in (packed c u))
      = ap (λ r. out r st w) re ∙ out-units st w ∙ rw (node-packed c u g.few, units-packed c u g.few) (sym (leads.short c (held st) w (standing st) deep u ahead.few l)) in
      going-off ready same g h {x = operand_for t e κ i} {κ = κ} {c = c} {p = packed c u} refl κe refl refl
      (record { is = o; frame = framed-refl further st }) {a = attempt_of (answer_of r)} refl
      (ap (λ r. attempt_of (answer_of r)) re ∙ units-off)

-- the node that is walked stands in the store
pub going-stored : {t w₀ st₀ : List ℕ} {e s deep : ℕ} {w st : List ℕ} {u : ℕ} {won : Bool} {made : List ℕ} {i : ℕ} → Ready t w₀ st₀ e s → Going t w₀ st₀ e s deep w st u won made i → Stored w (node_in s)
going-stored ready g = kept-stored g.kept ready.subject (ready-stored ready)

-- the walk's end
module _ {t w₀ st₀ : List ℕ} {e s deep : ℕ} {w st : List ℕ} {u : ℕ} {won : Bool} {made : List ℕ} {i : ℕ} (ready : Ready t w₀ st₀ e s) (same : Counted t w₀ e (node_in s))
    (g : Going t w₀ st₀ e s deep w st u won made i) (h : count_of w₀ (node_in s) ≤ i) where
  pub going-fits : Fits w (mark_of st) (notes_of st)
  going-fits = g.steady.fits

  pub going-small : node_in s < 131072
  going-small = node-small ready.steady (node_in s) ready.subject

  pub going-long : length st ≡ record_long
  going-long = g.wide ∙ ready.long

  all : length g.done ≡ count_of w₀ (node_in s)
  all = omega (arith, g.so_far, g.within)

  -- a node of the children that are done
  new-node : (b : Bindings ℕ) → (length g.done ≡ 0 → ⊥) → b ≡ held st → plan t deep (again (node_in s) (constructor_of w₀ (node_in s)) g.done b) w (standing st) u ≡ noded made st w u
  new-node b n be = rw (be, filled_row _ _ g.done made g.made-is all) (again-noded t deep (node_in s) (constructor_of w₀ (node_in s)) u g.done st w (above_zero n))
    where
      above_zero : {x : ℕ} → (x ≡ 0 → ⊥) → 0 < x
      above_zero {x = zero} f = absurd (f refl)
      above_zero {x = suc x} f = omega arith

  -- nothing to do
  no-child : length g.done ≡ 0 → plan t deep (again (node_in s) (constructor_of w₀ (node_in s)) g.done (held st)) w (standing st) u ≡ ended (node_in s) (held st) (on w (standing st)) (units_in s)
  no-child z = go g.done z ∙ ap (ended (node_in s) (held st) (on w (standing st))) (g.begun (sym g.so_far ∙ z))
    where
      go : (gs : List ℕ) → length gs ≡ 0 → plan t deep (again (node_in s) (constructor_of w₀ (node_in s)) gs (held st)) w (standing st) u ≡ ended (node_in s) (held st) (on w (standing st)) u
      go [] f = itself t deep (node_in s) (constructor_of w₀ (node_in s)) (held st) w (standing st) u
      go (x ∷ gs) f = absurd (omega arith)

  finishes : (k n : ℕ) → k ≡ kind_of t e → n ≡ count_of w₀ (node_in s) → finished k won n s made st w u ≡ plan t deep (rest t w₀ e (node_in s) i won g.done (held st)) w (standing st) u
  unfolding finished when
  finishes k n ke ne = sym (ap (λ p. plan t deep p w (standing st) u) (rest_end t w₀ e (node_in s) same i won g.done (held st) h) ∙ rw (← ke) (go (eqb k 13) won (eqb n 0) refl refl))
    where
      go : (z o m : Bool) → won ≡ o → eqb n 0 ≡ m
          → plan t deep (if z then when o (again (node_in s) (constructor_of w₀ (node_in s)) g.done (held st)) else again (node_in s)
          (constructor_of w₀ (node_in s)) g.done (held st)) w (standing st) u
          ≡ (if z then (if o then noded made st w u else lost (left_of w (standing st)) u) else if m then ended (node_in s) (held st) (on w (standing st)) (units_in s) else noded made st w u)
      go true false m a b = fails t deep w (standing st) u
      go true true m a b = new-node (held st) (λ f. let l = g.won-later a in omega (arith, g.so_far)) refl
      go false o true a b = no-child (all ∙ sym ne ∙ eqb-true n 0 b)
      go false o false a b = new-node (held st) (λ f. eqb-false n 0 b (ne ∙ sym all ∙ f)) refl

  pub going-ends : {k n r : ℕ} {st' w' : List ℕ} → k ≡ kind_of t e → n ≡ count_of w₀ (node_in s) → Gives (finished k won n s made st w u) st r st' w'
      → Gives (plan t deep (walked t w₀ e (node_in s) (held st₀)) w₀ (standing st₀) (units_in s)) st₀ r st' w'
  going-ends {k} {n} {st' = st'} ke ne f = record { is = f.is ∙ finishes k n ke ne ∙ g.left; frame = framed-trans further st₀ st st' g.frame f.frame }

-- the words that `finish` is handed are the children that are made
pub whole-made : (κ : ℕ) (won : Bool) (n s name a b u r : ℕ) (more st w st' w' : List ℕ) → length more ≡ 4
    → Gives (finished κ won n s (name ∷ n ∷ a ∷ b ∷ get_or more 0 0 ∷ get_or more 1 0 ∷ get_or more 2 0 ∷ get_or more 3 0 ∷ []) st w u) st r st' w'
    → Gives (finished κ won n s (name ∷ n ∷ a ∷ b ∷ more) st w u) st r st' w'
whole-made κ won n s name a b u r more st w st' w' h g = subst (λ m. Gives (finished κ won n s (name ∷ n ∷ a ∷ b ∷ m) st w u) st r st' w') (four more h) g
