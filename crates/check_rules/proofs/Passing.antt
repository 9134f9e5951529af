-- A pass over a line with the tree of bound variables: fields one by one, then the conditions in the order of the run. Assumes nothing.
use mathlib.Core.Path.{◌≡◌, refl, ap, sym, ◌∙◌, subst}
use mathlib.Core.Logic.{◌⊎◌, inl, inr, ⊎_elim}
use mathlib.Core.Bool.{Bool, true, false, not, ◌&&◌, ◌||◌}
use mathlib.Core.List.{List, [], ◌∷◌, ◌++◌}
use Prim.Native.Nat.{ℕ, zero, suc, ◌+◌, ◌≤◌, ◌<◌}
use native.Mathlib.Omega.{arith}
use lib.Dec.{eqb, ltb}
use lib.ListN.{length, get_or, replicate}
use borrow.Author.Tests.{lt-ltb, le-ltb, eqb-true, eq-eqb}
use Rattle.meaning.proofs.Tests.{impossible, decided}
use Rattle.rules.specs.Rule.{Pat, Condition, Rule, variables, member}
use Rattle.rules.specs.Text.{Fields, pat_fields, conditions_fields, rule_fields, Plain, PlainConditions, Head, variable, constructor, neither, head_of, rule, rule_of}
use Rattle.std.specs.Prelude.{if◌then◌else◌}
use Rattle.rules.specs.Scan.{width, fields_from}
use Rattle.rules.specs.Walk.{begun}
use Rattle.rules.specs.Condition.{start_at, outcome_at, after_it, ConditionAt}
use Rattle.check_rules.specs.Bound.{late_from, late, RuleLine, Late, LateIn}
use Rattle.check_rules.specs.Bound as bounded
use Rattle.variable_tree.specs.Tree.{KeyOf, KeepsOr, KeepsOrOf}
use Rattle.check_rules.specs.Far.{is_variable, occurs_from, Early, EarlyIn, Settles, SettlesIn}
use Rattle.check_rules.specs.Far as far
use Rattle.rules.specs.Condition.{Found}
use Rattle.check_rules.specs.Far.{Settled}
use Rattle.rules.proofs.Scanning.{fields-past}
use Rattle.check_rules.proofs.Binding.{head_variables, variables_in, in-pat, member-append, or-false}
use Rattle.check_rules.proofs.Early.{First, first_of, late-step, late-last, no-conditions, its-rule, right-text, right_end, conditions-text, conditions-inside}

-- ---- the fields of a term

is-variable : (v : ℕ) (h : Head) → is_variable v h ≡ member v (head_variables h)
unfolding member
is-variable v (variable w) = sym (or-false (eqb v w))
is-variable v (constructor c) = refl
is-variable v neither = refl

module _ (v : ℕ) where
  occurs-has : (gs rest : Fields) (at : ℕ) → occurs_from v (gs ++ rest) at (at + width gs) ≡ member v (variables_in gs)
  unfolding occurs_from width variables_in member
  occurs-has [] [] at = refl
  occurs-has [] (f ∷ rest) at = rw (le-ltb at (at + 0) (omega arith))
  occurs-has (g ∷ gs) rest at =
      let z : at + (length g + 1 + width gs) ≡ at + length g + 1 + width gs = omega arith in
      rw (lt-ltb at (at + (length g + 1 + width gs)) (omega arith), z, is-variable v (head_of g), occurs-has gs rest (at + length g + 1))
      (sym (member-append v (head_variables (head_of g)) (variables_in gs)))

  pub term-occurs : (l : List ℕ) (i to : ℕ) (p : Pat) (rest : Fields) → Plain p → fields_from l i ≡ pat_fields p ++ rest → to ≡ i + width (pat_fields p)
      → occurs_from v (fields_from l i) i to ≡ member v (variables p)
  term-occurs l i to p rest h t z = rw (t, z) (occurs-has (pat_fields p) rest i ∙ ap (member v) (in-pat p h))

-- v is one of the fields.
unfoldable pub occurs : ℕ → Fields → Bool
occurs v [] = false
occurs v (f ∷ fs) = is_variable v (head_of f) || occurs v fs

pub occurs-begun : (v : ℕ) (fs : Fields) (at to : ℕ) → occurs v (begun fs at to) ≡ occurs_from v fs at to
unfolding occurs begun occurs_from
occurs-begun v [] at to = refl
occurs-begun v (f ∷ fs) at to = go (ltb at to) (occurs-begun v fs (at + length f + 1) to)
  where
    rest : Fields
    rest = begun fs (at + length f + 1) to

    go : (q : Bool) → occurs v rest ≡ occurs_from v fs (at + length f + 1) to
        → occurs v (if q then f ∷ rest else []) ≡ (if q then is_variable v (head_of f) || occurs_from v fs (at + length f + 1) to else false)
    go true e = ap (λ (x : Bool). is_variable v (head_of f) || x) e
    go false e = refl

occurs-first : (v : ℕ) (f : List ℕ) (fs : Fields) → occurs v (f ∷ fs) ≡ is_variable v (head_of f) || occurs v fs
unfolding occurs
occurs-first v f fs = refl

occurs-none : (v : ℕ) → occurs v [] ≡ false
unfolding occurs
occurs-none v = refl

or_right : (x y : Bool) → y ≡ true → x || y ≡ true
or_right true y e = refl
or_right false y e = e

or_left : (x y : Bool) → x ≡ true → x || y ≡ true
or_left true y e = refl
or_left false y e = impossible (cc)

either : (x y : Bool) → x || y ≡ true → (x ≡ true) ⊎ (y ≡ true)
either true y e = inl refl
either false y e = inr e

no_true : {A : Type 0} {x : Bool} → x ≡ false → x ≡ true → A
no_true p q = impossible (let z : true ≡ false = sym q ∙ p in cc)

-- ---- variables that are bound, field by field

-- One field, by what it is.
pub bind-nothing : (ks : List ℕ) (h : Head) → KeepsOrOf ks (λ v. is_variable v h) ks
bind-nothing ks h x k = inl k

pub bind-one : {ks ks' : List ℕ} {h : Head} (v : ℕ) → variable v ≡ h → KeepsOr ks v ks' → KeepsOrOf ks (λ x. is_variable x h) ks'
bind-one {ks} {ks'} {h} v i a x k = ⊎_elim inl (λ z. inr (subst (λ (y : Head). is_variable x y ≡ true) i (eq-eqb x v z))) (a x k)

-- The keys after fields; those that are left are of all of them.
pub record Binding (all fs : Fields) (below left : ℕ) (ks ks' : List ℕ) : Type 0 where
  pub less : left ≤ below
  pub keys : KeepsOrOf ks (λ v. occurs v all) ks'
  pub rest : (v : ℕ) → occurs v fs ≡ true → occurs v all ≡ true

pub binding-begin : {all fs : Fields} → fs ≡ all → (below : ℕ) (ks : List ℕ) → Binding all fs below below ks ks
binding-begin e below ks = record { less = omega arith; keys = λ x k. inl k; rest = λ v h. ap (occurs v) (sym e) ∙ h }

pub binding-on : {all fs fs' : Fields} {f : List ℕ} {below left : ℕ} {ks ks' : List ℕ} → Binding all fs below left ks ks' → fs ≡ f ∷ fs' → (left' : ℕ) (ks'' : List ℕ) → left' ≤ left
    → KeepsOrOf ks' (λ v. is_variable v (head_of f)) ks'' → Binding all fs' below left' ks ks''
binding-on {all} {fs} {fs'} {f} b e left' ks'' less keeps =
    record {
      less = omega (arith, b.less);
      keys = λ x k.
          ⊎_elim (b.keys x)
          (λ h. inr (b.rest x (ap (occurs x) e ∙ occurs-first x f fs' ∙ or_left (is_variable x (head_of f)) (occurs x fs') h)))
          (keeps x k);
      rest = λ v h. b.rest v (ap (occurs v) e ∙ occurs-first v f fs' ∙ or_right (is_variable v (head_of f)) (occurs v fs') h);
    }

pub binding-end : {fs : Fields} {below left : ℕ} {ks ks' : List ℕ} (gs : Fields) (at to : ℕ) → Binding (begun gs at to) fs below left ks ks' → KeepsOrOf ks (λ v. occurs_from v gs at to) ks'
binding-end gs at to b x k = ⊎_elim inl (λ h. inr (sym (occurs-begun x gs at to) ∙ h)) (b.keys x k)

-- ---- variables that are used, field by field

module _ {l : List ℕ} {right conditions : ℕ} (h : RuleLine l right conditions) (low below : ℕ) (ks : List ℕ) where
  early-in : {here : ℕ → Bool} {answer : Bool} → Early h.its low below ks here answer → EarlyIn (rule_of l) low below ks here answer
  early-in e = rw (its-rule h) e

  -- One field, by what it is: no variable; one that is not asked for; one in the tree; one that is looked for in the line.
  pub early-none : (x : Head) → ((v : ℕ) → is_variable v x ≡ false) → EarlyIn (rule_of l) low below ks (λ v. is_variable v x) false
  early-none x n = early-in (far.no refl (λ v i p q. no_true (n v) i))

  its_own : (x : Head) (w : ℕ) → variable w ≡ x → (v : ℕ) → is_variable v x ≡ true → v ≡ w
  its_own x w i v e = eqb-true v w (subst (λ (y : Head). is_variable v y ≡ true) (sym i) e)

  pub early-low : (x : Head) (w : ℕ) → variable w ≡ x → w < low → EarlyIn (rule_of l) low below ks (λ v. is_variable v x) false
  early-low x w i k = early-in (far.no refl (λ v e p q. let z : v ≡ w = its_own x w i v e in absurd (omega arith)))

  pub early-beyond : (x : Head) (w : ℕ) → variable w ≡ x → below ≤ w → EarlyIn (rule_of l) low below ks (λ v. is_variable v x) false
  early-beyond x w i k = early-in (far.no refl (λ v e p q. let z : v ≡ w = its_own x w i v e in absurd (omega arith)))

  pub early-found : (x : Head) (w : ℕ) → variable w ≡ x → KeyOf ks w → EarlyIn (rule_of l) low below ks (λ v. is_variable v x) false
  early-found x w i k = early-in (far.no refl (λ v e p q. inl (subst (KeyOf ks) (sym (its_own x w i v e)) k)))

  pub early-asked : (x : Head) (w : ℕ) → variable w ≡ x → (answer : Bool) → LateIn (rule_of l) w answer → EarlyIn (rule_of l) low below ks (λ v. is_variable v x) answer
  early-asked x w i answer e = early-in (go (rw (its-rule h) at e))
    where
      go : Late w h.its answer → Early h.its low below ks (λ v. is_variable v x) answer
      go (bounded.one a v k) = far.one a v k
      go (bounded.no a k) = far.no a (λ v m p q. let z : v ≡ w = its_own x w i v m in inr (k v (omega arith) (omega arith)))

-- A field that is no variable.
pub constructor-none : {x : Head} {c : ℕ} → constructor c ≡ x → (v : ℕ) → is_variable v x ≡ false
constructor-none e v = ap (is_variable v) (sym e)

pub neither-none : {x : Head} → neither ≡ x → (v : ℕ) → is_variable v x ≡ false
neither-none e v = ap (is_variable v) (sym e)

-- Some fields are done: a variable of all the fields is fine, or it is one of those that are left.
pub record Using (l : List ℕ) (low below : ℕ) (ks : List ℕ) (all fs : Fields) : Type 0 where
  pub its : Rule
  pub is : rule_of l ≡ rule its
  pub fine : (v : ℕ) → occurs v all ≡ true → low ≤ v → v < below → (KeyOf ks v ⊎ (late v its ≡ false)) ⊎ (occurs v fs ≡ true)

pub using-begin : {l : List ℕ} {right conditions : ℕ} → RuleLine l right conditions → (low below : ℕ) (ks : List ℕ) {all fs : Fields} → fs ≡ all → Using l low below ks all fs
using-begin h low below ks e = record { its = h.its; is = its-rule h; fine = λ v o p q. inr (ap (occurs v) e ∙ o) }

module _ {l : List ℕ} {low below : ℕ} {ks : List ℕ} {fs : Fields} (gs : Fields) (at to : ℕ) (u : Using l low below ks (begun gs at to) fs) where
  abbrev here : ℕ → Bool
  here v = occurs_from v gs at to

  told : {here : ℕ → Bool} {answer : Bool} → Early u.its low below ks here answer → EarlyIn (rule_of l) low below ks here answer
  told e = rw u.is e

  pub using-end : fs ≡ [] → EarlyIn (rule_of l) low below ks here false
  using-end e = told (far.no refl (λ v o p q. ⊎_elim (λ z. z) (λ z. no_true (ap (occurs v) e ∙ occurs-none v) z) (u.fine v (occurs-begun v gs at to ∙ o) p q)))

  module _ {f : List ℕ} {fs' : Fields} (e : fs ≡ f ∷ fs') (answer : Bool) (k : EarlyIn (rule_of l) low below ks (λ v. is_variable v (head_of f)) answer) where
    pub using-early : answer ≡ true → EarlyIn (rule_of l) low below ks here true
    using-early t = go (rw u.is at k)
      where
        go : Early u.its low below ks (λ v. is_variable v (head_of f)) answer → EarlyIn (rule_of l) low below ks here true
        go (far.one a v m) = told (far.one refl v m)
        go (far.no a m) = no_true a t

    pub using-on : answer ≡ false → Using l low below ks (begun gs at to) fs'
    using-on n = go (rw u.is at k)
      where
        go : Early u.its low below ks (λ v. is_variable v (head_of f)) answer → Using l low below ks (begun gs at to) fs'
        go (far.one a v m) = no_true n a
        go (far.no a m) = record {
          its = u.its;
          is = u.is;
          fine = λ v o p q.
              ⊎_elim inl
              (λ z. ⊎_elim (λ y. inl (m v y p q)) inr (either (is_variable v (head_of f)) (occurs v fs') (sym (ap (occurs v) e ∙ occurs-first v f fs') ∙ z)))
              (u.fine v o p q);
        }

-- ---- the conditions

-- No word of a fresh list is a variable.
zero-key : (n x : ℕ) → 0 < x → KeyOf (replicate n 0) x → ⊥
zero-key n x some k = absurd (omega (arith, sym k.is ∙ reads n k.place))
  where
    reads : (n i : ℕ) → ◌≡◌ {A = ℕ} (get_or (replicate n 0) i 0) 0
    reads zero i = refl
    reads (suc n) zero = refl
    reads (suc n) (suc i) = reads n i

-- What is bound up to a place: each variable that is asked for is not late, or the rest of the conditions decides.
pub record Passing (l : List ℕ) (right conditions low at below : ℕ) (ks : List ℕ) : Type 0 where
  pub its : Rule
  pub is : rule_of l ≡ rule its
  pub last : Plain its.right
  pub last-text : fields_from l right ≡ pat_fields its.right ++ fields_from l conditions
  pub last_end : conditions ≡ right + width (pat_fields its.right)
  pub rest : List Condition
  pub plain : PlainConditions rest
  pub text : fields_from l at ≡ conditions_fields rest
  pub inside : at ≤ length l + 1
  pub some : 0 < low
  pub seen : List ℕ
  pub keys : (x : ℕ) → 0 < x → KeyOf ks x → member x seen ≡ true
  pub same : (v : ℕ) → low ≤ v → v < below → (late v its ≡ false) ⊎ (late v its ≡ late_from v (member v seen) rest its.right)

pub passing-begin : {l : List ℕ} {right conditions : ℕ} (h : RuleLine l right conditions) (low : ℕ) → 0 < low → (n below : ℕ) (ks : List ℕ)
    → KeepsOrOf (replicate n 0) (λ v. occurs_from v (fields_from l 0) 0 right) ks → Passing l right conditions low conditions below ks
unfolding late rule_fields
passing-begin {l} {right} {conditions} h low some n below ks keeps = record {
  its = h.its;
  is = its-rule h;
  last = h.plain.right;
  last-text = right-text h ∙ ap (λ (gs : Fields). pat_fields h.its.right ++ gs) (sym (conditions-text h));
  last_end = right_end h;
  rest = h.its.conditions;
  plain = h.plain.conditions;
  text = conditions-text h;
  inside = conditions-inside h;
  some = some;
  seen = variables h.its.left;
  keys = λ x p k.
      ⊎_elim (λ z. absurd (zero-key n x p z))
      (λ z. sym (term-occurs x l 0 right h.its.left (pat_fields h.its.right ++ conditions_fields h.its.conditions) h.plain.left h.text (omega (arith, h.right-at))) ∙ z) (keeps x k);
  same = λ v p q. inr refl;
}

-- A used variable is bound before, or it is not late.
not-now : (x y : Bool) → (x ≡ true → y ≡ true) → x && not y ≡ false
not-now true true f = refl
not-now true false f = no_true refl (f refl)
not-now false y f = refl

module _ {l : List ℕ} {right conditions low at below : ℕ} {ks : List ℕ} (b : Passing l right conditions low at below ks) where
  settles-in : {s : Settled} → Settles b.its low s → SettlesIn (rule_of l) low s
  settles-in e = rw b.is e

  pub passing-early : (here : ℕ → Bool) (answer : Bool) → EarlyIn (rule_of l) low below ks here answer → answer ≡ true → SettlesIn (rule_of l) low (record { late = true; below = 0 })
  passing-early here answer k t = go (rw b.is at k)
    where
      go : Early b.its low below ks here answer → SettlesIn (rule_of l) low (record { late = true; below = 0 })
      go (far.one a v m) = settles-in (far.one refl v m)
      go (far.no a m) = no_true a t

  -- A variable of a term that is used here: it is bound before, or it is not late.
  used-here : (p : Pat) (here : ℕ → Bool) → ((v : ℕ) → here v ≡ member v (variables p)) → (answer : Bool) → EarlyIn (rule_of l) low below ks here answer → answer ≡ false
      → (v : ℕ) → low ≤ v → v < below → (late v b.its ≡ false) ⊎ (member v (variables p) && not (member v b.seen) ≡ false)
  used-here p here is answer k f v m n = go (rw b.is at k)
    where
      go : Early b.its low below ks here answer → (late v b.its ≡ false) ⊎ (member v (variables p) && not (member v b.seen) ≡ false)
      go (far.one a w q) = no_true f a
      go (far.no a q) = decided (member v (variables p))
          (λ y. ⊎_elim (λ z. inr (not-now (member v (variables p)) (member v b.seen) (λ w. b.keys v (omega (arith, b.some)) z))) inl (q v (is v ∙ y) m n))
          (λ y. inr (rw y))

  module _ (inside : at ≤ length l) (r : Found) (found : ConditionAt l at r) where
    next : First l at r b.rest
    next = first_of l at r b.rest inside b.plain b.text found

    pub passing-further : at < r.next
    passing-further = let t : r.next ≡ after_it at next.first = ap (λ (x : Found). x.next) next.found in omega arith

    pub passing-on : (answer : Bool) → EarlyIn (rule_of l) low below ks (λ v. occurs_from v (fields_from l r.start) r.start r.outcome) answer → answer ≡ false
        → (below' : ℕ) → below' ≤ below → (ks' : List ℕ) → KeepsOrOf ks (λ v. occurs_from v (fields_from l r.outcome) r.outcome r.next) ks'
        → Passing l right conditions low r.next below' ks'
    passing-on answer k f below' less ks' keeps =
        let s : r.start ≡ start_at at next.first = ap (λ (x : Found). x.start) next.found in
        let o : r.outcome ≡ outcome_at at next.first = ap (λ (x : Found). x.outcome) next.found in
        let t : r.next ≡ after_it at next.first = ap (λ (x : Found). x.next) next.found in
        let start_is : (v : ℕ) → occurs_from v (fields_from l r.start) r.start r.outcome ≡ member v (variables next.first.start) =
        λ v. term-occurs v l r.start r.outcome next.first.start (fields_from l (outcome_at at next.first)) next.start (ap (fields_from l) s ∙ next.start-text) (omega (arith, s, o)) in
        let outcome-is : (v : ℕ) → occurs_from v (fields_from l r.outcome) r.outcome r.next ≡ member v (variables next.first.outcome) =
        λ v. term-occurs v l r.outcome r.next next.first.outcome (fields_from l (after_it at next.first)) next.outcome (ap (fields_from l) o ∙ next.outcome-text) (omega (arith, o, t)) in
        record {
          its = b.its;
          is = b.is;
          last = b.last;
          last-text = b.last-text;
          last_end = b.last_end;
          rest = next.others;
          plain = next.plain;
          text = ap (fields_from l) t ∙ next.text;
          inside = omega (arith, t, next.inside);
          some = b.some;
          seen = b.seen ++ variables next.first.outcome;
          keys = λ x p q.
              member-append x b.seen (variables next.first.outcome)
              ∙ ⊎_elim (λ z. or_left (member x b.seen) (member x (variables next.first.outcome)) (b.keys x p z))
              (λ z. or_right (member x b.seen) (member x (variables next.first.outcome)) (sym (outcome-is x) ∙ z)) (keeps x q);
          same = λ v p q.
              ⊎_elim inl
              (λ y.
              ⊎_elim inl
              (λ z.
              inr (y ∙ ap (λ (cs : List Condition). late_from v (member v b.seen) cs b.its.right) next.are
              ∙ late-step v (member v b.seen) next.first next.others b.its.right z
              ∙ ap (λ (x : Bool). late_from v x next.others b.its.right) (sym (member-append v b.seen (variables next.first.outcome)))))
              (used-here next.first.start (λ v. occurs_from v (fields_from l r.start) r.start r.outcome) start_is answer k f v p (omega arith)))
              (b.same v p (omega arith));
        }

  -- No condition is left: the right term's variables.
  pub passing-end : length l < at → (answer : Bool) → EarlyIn (rule_of l) low below ks (λ v. occurs_from v (fields_from l right) right conditions) answer → answer ≡ false
      → SettlesIn (rule_of l) low (record { late = false; below = below })
  passing-end past answer k f = go (rw b.is at k)
    where
      here : ℕ → Bool
      here = λ v. occurs_from v (fields_from l right) right conditions

      go : Early b.its low below ks here answer → SettlesIn (rule_of l) low (record { late = false; below = below })
      go (far.one a v m) = no_true f a
      go (far.no a m) = settles-in (far.no refl (λ v p q. ⊎_elim (λ y. y)
          (λ y. ⊎_elim (λ z. z)
          (λ z. y ∙ late-last v (member v b.seen) b.rest b.its.right (no-conditions b.rest (sym (fields-past l at past) ∙ b.text)) ∙ z)
          (used-here b.its.right here
          (λ v. term-occurs v l right conditions b.its.right (fields_from l conditions) b.last b.last-text b.last_end) answer k a v p q))
          (b.same v p q)))
