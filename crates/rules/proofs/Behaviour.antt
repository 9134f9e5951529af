-- A rule's entries do what the rule does.
use mathlib.Core.Path.{◌≡◌, refl, sym, ◌∙◌, subst, fun_ext}
use mathlib.Core.Bool.{Bool, true, false}
use mathlib.Core.Option.{Option, none, some}
use mathlib.Core.List.{List, [], ◌∷◌, ◌++◌}
use Prim.Native.Nat.{ℕ}
use Rattle.std.specs.Prelude.{if◌then◌else◌}
use Rattle.words.proofs.Tests.{and-true}
use Rattle.meaning.specs.Term.{Term}
use Rattle.meaning.specs.Bindings.{has, unbound, masked}
use Rattle.meaning.specs.Table.{Table}
use Rattle.meaning.specs.Plan.{Keep, keep, ret, fail, stuck, ask}
use Rattle.meaning.specs.Rules.{Visit, apply, Do, does}
use Rattle.meaning.specs.Derivation.{Out, done, failed, terms, Der, d-ret, d-fail, d-yes, d-no}
use Rattle.meaning.specs.System.{Env}
use Rattle.meaning.specs.Beginning.{Begun, at-unbound, b-in, b-yes, b-no}
use Rattle.meaning.specs.Free.{Closed}
use Rattle.meaning.proofs.Demands.{closed-keeps}
use Rattle.meaning.proofs.Inversion.{ret_inv, fail-inv}
use Rattle.rules.specs.Rule.{Pat, Condition, Rule, variables, member, all_inside, conditions_variables, rule_variables, bound_from, bound}
use Rattle.rules.specs.Meaning.{matched, Built, yes, lacks, built, on_match, on_built, conditions_do, without, rule_do}
use Rattle.rules.specs.Entries.{mask_of, condition_code, conditions_code, rule_code, rule_entries, Has}
use Rattle.rules.specs.Promises.{Among, here, there, ClosedCalls, RuleDerives, RuleUnbound, RuleKeeps, Inside, RuleBound}
use Rattle.rules.proofs.Plans.{out, lack, Gives, gives, meets, Alike, alike_refl, alike-trans, alike-ask, not-both, to-plan, to-rule}
use Rattle.rules.proofs.Codes.{code_do, code_alike}
use Rattle.rules.proofs.Scopes.{has-mask, or-none, member-append, matched-keeps, BoundAll, in_either, matched-binds, all_in, built-yes}

-- outside vs the bindings b' are b
abbrev Outside : List ℕ → Env → Env → Type 0
Outside vs b b' = (w : ℕ) → member w vs ≡ false → b' w ≡ b w

-- the scope of all variables gives back the bindings of the start
scope-back : (vs : List ℕ) (b b' : Env) → Outside vs b b' → masked (mask_of vs) b b' ≡ b
unfolding masked
scope-back vs b b' h = fun_ext (λ w. go w (member w vs) (has-mask vs w) refl)
  where
    go : (w : ℕ) (x : Bool) → has (mask_of vs) w ≡ member w vs → member w vs ≡ x → (if has (mask_of vs) w then b w else b' w) ≡ b w
    go w true i j = rw (i, j)
    go w false i j = rw (i, j) (h w j)

-- and it begins without them
scope-begins : (vs : List ℕ) (b : Env) → masked (mask_of vs) unbound b ≡ without vs b
unfolding masked without
scope-begins vs b = fun_ext (λ w. rw (has-mask vs w))

without-outside : (vs : List ℕ) (b : Env) → Outside vs b (without vs b)
unfolding without
without-outside vs b w n = rw n

module _ (T : Table) where
  -- what follows a match, where it succeeds
  match-alike : (m : Option Env) (k k' : Env → Do Term) (f : Do Term) → ((b : Env) → m ≡ some b → Alike T (k b) (k' b)) → Alike T (on_match m k f) (on_match m k' f)
  unfolding on_match
  match-alike none k k' f h = alike_refl
  match-alike (some b) k k' f h = h b refl

  built_alike : (m : Built Term) (k k' : Term → Do Term) → ((t : Term) → Alike T (k t) (k' t)) → Alike T (on_built m k) (on_built m k')
  unfolding on_built
  built_alike (lacks v) k k' h = alike_refl
  built_alike (yes t) k k' h = h t

  -- the plan p is p' written otherwise
  alike_at : {p p' q : Do Term} → p ≡ p' → Alike T p q → Alike T p' q
  alike_at {q = q} e a = subst (λ (p : Do Term). Alike T p q) e a

  module _ (vs : List ℕ) (b₀ : Env) where
    -- what follows at the end of the scope
    abbrev closing : Term → Env → Do Term
    closing t b = ret t (masked (mask_of vs) b₀ b)

    -- the conditions and the build
    rest-alike : (cs : List Condition) (p : Pat) (t : Term) (b : Env) → ((c : Condition) → Among c cs → Closed T c.callee)
        → ((w : ℕ) → member w vs ≡ false → member w (conditions_variables cs) ≡ false) → Outside vs b₀ b
        → Alike T (code_do (conditions_code cs p) t b closing fail) (conditions_do cs b (λ b'. on_built (built p b') (λ t'. ret t' b₀)))
    unfolding code_do condition_code conditions_code conditions_do conditions_variables
    rest-alike [] p t b cl i h = built_alike (built p b) _ _ (λ t'. rw (scope-back vs b₀ b h) alike_refl)
    rest-alike (c ∷ cs) p t b cl i h =
        built_alike (built c.start b) _ _ (λ s.
        alike-ask T keep (apply c.callee s b)
        (λ s' b' d. rw (closed-keeps T c.callee s s' b b' (cl c here) (to-rule T (apply c.callee s b) d))
        (match-alike (matched c.outcome s' b) _ _ fail
        (λ b'' e. rest-alike cs p t b'' (λ c' n. cl c' (there n)) (λ w n. after w n) (λ w n. matched-keeps c.outcome s' b b'' e w (during w n) ∙ h w n))))
        alike_refl)
      where
        parts : (w : ℕ) → member w vs ≡ false → (member w (variables c.outcome) ≡ false) × (member w (conditions_variables cs) ≡ false)
        parts w n =
            let x = sym (member-append w (variables c.start) (variables c.outcome ++ conditions_variables cs)) ∙ i w n in
            let y = (or-none (member w (variables c.start)) (member w (variables c.outcome ++ conditions_variables cs)) x).1 in
            or-none (member w (variables c.outcome)) (member w (conditions_variables cs)) (sym (member-append w (variables c.outcome) (conditions_variables cs)) ∙ y)

        during : (w : ℕ) → member w vs ≡ false → member w (variables c.outcome) ≡ false
        during w n = (parts w n).0

        after : (w : ℕ) → member w vs ≡ false → member w (conditions_variables cs) ≡ false
        after w n = (parts w n).1

  -- the rule's tree does what the rule does
  tree-alike : (r : Rule) → ClosedCalls T r → (t : Term) (b : Env) → Alike T (code_do (rule_code r) t b ret fail) (rule_do r t b)
  unfolding code_do rule_code rule_do rule_variables
  tree-alike r cl t b =
      rw (scope-begins (rule_variables r) b)
      (match-alike (matched r.left t (without (rule_variables r) b)) _ _ fail
      (λ b' e. rest-alike (rule_variables r) b r.conditions r.right t b' cl (λ w n. (split w n).1) (λ w n. matched-keeps r.left t (without (rule_variables r) b) b' e w (split w n).0
      ∙ without-outside (rule_variables r) b w n)))
    where
      split : (w : ℕ) → member w (rule_variables r) ≡ false → (member w (variables r.left) ≡ false) × (member w (conditions_variables r.conditions) ≡ false)
      split w n =
          let (x, y) = or-none (member w (variables r.left)) (member w (conditions_variables r.conditions ++ variables r.right))
          (sym (member-append w (variables r.left) (conditions_variables r.conditions ++ variables r.right)) ∙ n) in
          (x, (or-none (member w (conditions_variables r.conditions)) (member w (variables r.right)) (sym (member-append w (conditions_variables r.conditions) (variables r.right)) ∙ y)).0)

  -- a visit of a rule's first entry does what the rule does
  rule-alike : (e : ℕ) (r : Rule) → Has T e (rule_entries e r) → ClosedCalls T r → (t : Term) (b : Env) → Alike T (ask keep (apply e t b) ret fail) (rule_do r t b)
  unfolding rule_entries
  rule-alike e r h cl t b = alike-trans (code_alike T (rule_code r) e h t b ret fail) (tree-alike r cl t b)

module _ (T : Table) {e : ℕ} {t : Term} {b : Env} where
  -- a visit that is asked for, and nothing else
  asked-to : (o : Out Term Env) → Der terms (does T) (does T (apply e t b)) o → Der terms (does T) (ask keep (apply e t b) ret fail) o
  asked-to (done h c) d = d-yes d d-ret
  asked-to failed d = d-no d d-fail

  asked-from : {o : Out Term Env} → Der terms (does T) (ask keep (apply e t b) ret fail) o → Der terms (does T) (does T (apply e t b)) o
  asked-from (d-yes d i) = subst (λ (o : Out Term Env). Der terms (does T) (does T (apply e t b)) o) (sym (ret_inv i).0) d
  asked-from (d-no d i) = subst (λ (o : Out Term Env). Der terms (does T) (does T (apply e t b)) o) (sym (fail-inv i).0) d

  asked-lack : {v : ℕ} → Begun T (ask keep (apply e t b) ret fail) (at-unbound v) → Begun T (does T (apply e t b)) (at-unbound v)
  asked-lack (b-in c) = c
  asked-lack {v = v} (b-yes {h = h} _ x12) = elim x12 [ ]
  asked-lack {v = v} (b-no _ x13) = elim x13 [ ]

given : {T : Table} {p : Do Term} {o : Out Term Env} → Gives T p (out o) → Der terms (does T) p o
given (gives d) = d

met : {T : Table} {p : Do Term} {v : ℕ} → Gives T p (lack v) → Begun T p (at-unbound v)
met (meets c) = c

-- Where the table has a rule's entries, applying the first derives just what the rule does.
pub rule-derives : RuleDerives
rule-derives T e r h cl t b o =
    let a = rule-alike T e r h cl t b in
    ((λ d. given (a.to (out o) (gives (asked-to T o (to-plan T d))))), (λ d. to-rule T (apply e t b) (asked-from T (given (a.back (out o) (gives d))))))

-- It meets a variable without a binding just where the rule does.
pub rule-unbound : RuleUnbound
rule-unbound T e r h cl t b v =
    let a = rule-alike T e r h cl t b in
    ((λ c. met (a.to (lack v) (meets (b-in c)))), (λ c. asked-lack T (met (a.back (lack v) (meets c)))))

-- ---- what an accepted rule builds is bound

module _ (T : Table) where
  rest-bound : (cs : List Condition) (p : Pat) (ws : List ℕ) (b b₀ : Env) (v : ℕ) → bound_from ws cs p ≡ true → BoundAll b ws
      → Begun T (conditions_do cs b (λ b'. on_built (built p b') (λ t'. ret t' b₀))) (at-unbound v) → Inside T cs v
  unfolding conditions_do bound_from on_built on_match
  rest-bound [] p ws b b₀ v e h c =
      let (t, i) = built-yes p b (λ w n. h w (all_in (variables p) ws w e n)) in
      absurd (not-both T d-ret (rw i at c))
  rest-bound (q ∷ cs) p ws b b₀ v e h c =
      let (x, y) = and-true (all_inside (variables q.start) ws) (bound_from (variables q.outcome ++ ws) cs p) e in
      let (s, i) = built-yes q.start b (λ w n. h w (all_in (variables q.start) ws w x n)) in
      called s y (rw i at c) (λ b'' k z. rest-bound cs p (variables q.outcome ++ ws) b'' b₀ v y k z)
    where
      further : Inside T cs v → Inside T (q ∷ cs) v
      further z = record { condition = z.condition; among = there z.among; term = z.term; bindings = z.bindings; met = z.met }

      matching : (s' : Term) (m : Option Env) → matched q.outcome s' b ≡ m → (k : Env → Do Term)
          → Begun T (on_match m k fail) (at-unbound v)
          → ((b'' : Env) → BoundAll b'' (variables q.outcome ++ ws) → Begun T (k b'') (at-unbound v) → Inside T cs v)
          → Inside T (q ∷ cs) v
      matching s' none j k c f = absurd (not-both T d-fail c)
      matching s' (some b'') j k c f =
          let (i, g) = matched-binds q.outcome s' b b'' j in
          further (f b'' (λ w n. in_either w (variables q.outcome) ws n (λ z. i w z) (λ z. g w (h w z))) c)

      called : (s : Term) → bound_from (variables q.outcome ++ ws) cs p ≡ true
          → Begun T (ask keep (apply q.callee s b) (λ s' b'. on_match (matched q.outcome s' b) (λ b''. conditions_do cs b'' (λ b'. on_built (built p b') (λ t'. ret t' b₀))) fail) fail)
          (at-unbound v)
          → ((b'' : Env) → BoundAll b'' (variables q.outcome ++ ws) → Begun T (conditions_do cs b'' (λ b'. on_built (built p b') (λ t'. ret t' b₀))) (at-unbound v) → Inside T cs v)
          → Inside T (q ∷ cs) v
      called s y (b-in c) f = record { condition = q; among = here; term = s; bindings = b; met = c }
      called s y (b-yes {h = s'} r c) f = matching s' (matched q.outcome s' b) refl _ c f
      called s y (b-no r c) f = absurd (not-both T d-fail c)

-- The builds of an accepted rule have their variables bound.
pub rule-bound : RuleBound
unfolding rule_do bound on_match
rule-bound T r e t b v c = go (matched r.left t (without (rule_variables r) b)) refl c
  where
    go : (m : Option Env) → matched r.left t (without (rule_variables r) b) ≡ m
        → Begun T (on_match m (λ b'. conditions_do r.conditions b' (λ b''. on_built (built r.right b'') (λ t'. ret t' b))) fail) (at-unbound v) → Inside T r.conditions v
    go none i c = absurd (not-both T d-fail c)
    go (some b') i c = rest-bound T r.conditions r.right (variables r.left) b' b v e (matched-binds r.left t (without (rule_variables r) b) b' i).0 c

-- ---- the bindings at the end

-- a plan that gives back no bindings but b
data Only (b : Env) : Do Term → Type 0 where
  only-fail : Only b fail
  only-stuck : {v : ℕ} → Only b (stuck v)
  only-ret : {t : Term} → Only b (ret t b)
  only-ask : {t : Keep} {q : Visit Term} {k : Term → Env → Do Term} {f : Do Term} → ((h : Term) (c : Env) → Only b (k h c)) → Only b f → Only b (ask t q k f)

only-match : (b : Env) (m : Option Env) (k : Env → Do Term) → ((c : Env) → Only b (k c)) → Only b (on_match m k fail)
unfolding on_match
only-match b none k h = only-fail
only-match b (some c) k h = h c

only-built : (b : Env) (m : Built Term) (k : Term → Do Term) → ((t : Term) → Only b (k t)) → Only b (on_built m k)
unfolding on_built
only-built b (lacks v) k h = only-stuck
only-built b (yes t) k h = h t

only-rest : (cs : List Condition) (b₀ b : Env) (k : Env → Do Term) → ((c : Env) → Only b₀ (k c)) → Only b₀ (conditions_do cs b k)
unfolding conditions_do
only-rest [] b₀ b k h = h b
only-rest (q ∷ cs) b₀ b k h = only-built b₀ (built q.start b) _ (λ s. only-ask (λ s' c. only-match b₀ (matched q.outcome s' b) _ (λ b''. only-rest cs b₀ b'' k h)) only-fail)

only-rule : (r : Rule) (t : Term) (b : Env) → Only b (rule_do r t b)
unfolding rule_do
only-rule r t b = only-match b (matched r.left t (without (rule_variables r) b)) _ (λ b'. only-rest r.conditions b b' _ (λ b''. only-built b (built r.right b'') _ (λ t'. only-ret)))

only-ends : (T : Table) {b b' : Env} {t : Term} {p : Do Term} → Only b p → Der terms (does T) p (done t b') → b' ≡ b
only-ends T only-ret d-ret = refl
only-ends T (only-ask i j) (d-yes {h = h} {b = c} d d') = only-ends T (i h c) d'
only-ends T (only-ask i j) (d-no d d') = only-ends T j d'
only-ends T {b = b} {t = t} only-fail x3 = elim x3 [ ]
only-ends T {b = b} {t = t} (only-stuck {v = v}) x4 = elim x4 [ ]

-- All bindings come back as at the start.
pub rule-keeps : RuleKeeps
rule-keeps T e r h cl t t' b b' d = only-ends T (only-rule r t b) ((rule-derives T e r h cl t b (done t' b')).0 d)
