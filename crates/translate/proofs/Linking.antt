-- Entries as trees in preorder: an entry without its operands, and the trees that they are. Assumes nothing.
use mathlib.Core.Path.{◌≡◌, refl, ap, sym, ◌∙◌}
use mathlib.Core.List.{List, [], ◌∷◌, ◌++◌, append_assoc, append-nil}
use Prim.Native.Nat.{ℕ, suc, ◌+◌}
use native.Mathlib.Omega.{arith}
use lib.ListN.{length, get_or, replicate, length-append}
use Rattle.meaning.specs.Table.{SEQ, CALL, MATCH, BUILD, SCOPE, WHERE, PVAR, PCON}
use Rattle.rules.specs.Rule.{Pat, Pats, var, con, none as no-pats, more as more-pats, count, Condition, Rule}
use Rattle.rules.specs.Entries
use Rattle.rules.specs.Entries.{Code, scope, seq, where-of, call, condition_code, conditions_code, Entry, strategy, pattern, size, sizes, places, pat_entries, pats_entries, code_size, code_entries}
use Rattle.translate.specs.Bare.{bare_pat, bare_pats, build_put, bare_condition, bare_conditions, bare_body}

mutual
  pub data Tree : Type 0 where
    tree : (List ℕ → Entry) → Trees → Tree

  pub data Trees : Type 0 where
    none : Trees
    more : Tree → Trees → Trees

unfoldable pub many : Trees → ℕ
many none = 0
many (more t ts) = suc (many ts)

unfoldable mutual
  pub size_t : Tree → ℕ
  size_t (tree f ts) = suc (sizes_t ts)

  pub sizes_t : Trees → ℕ
  sizes_t none = 0
  sizes_t (more t ts) = size_t t + sizes_t ts

unfoldable pub places_t : ℕ → Trees → List ℕ
places_t e none = []
places_t e (more t ts) = e ∷ places_t (e + size_t t) ts

unfoldable mutual
  -- the entries in preorder
  pub entries_t : ℕ → Tree → List Entry
  entries_t e (tree f ts) = f (places_t (suc e) ts) ∷ entries_ts (suc e) ts

  pub entries_ts : ℕ → Trees → List Entry
  entries_ts e none = []
  entries_ts e (more t ts) = entries_t e t ++ entries_ts (e + size_t t) ts

unfoldable mutual
  -- the entries before their operands are known
  pub bare_t : Tree → List Entry
  bare_t (tree f ts) = f (replicate (many ts) 0) ∷ bare_ts ts

  pub bare_ts : Trees → List Entry
  bare_ts none = []
  bare_ts (more t ts) = bare_t t ++ bare_ts ts

mutual
  unfolding bare_t bare_ts size_t sizes_t

  pub length-bare : (t : Tree) → length (bare_t t) ≡ size_t t
  length-bare (tree f ts) = ap suc (length-bares ts)

  pub length-bares : (ts : Trees) → length (bare_ts ts) ≡ sizes_t ts
  length-bares none = refl
  length-bares (more t ts) = rw (length-append, length-bare t, length-bares ts)

mutual
  unfolding entries_t entries_ts size_t sizes_t

  pub length-entries : (e : ℕ) (t : Tree) → length (entries_t e t) ≡ size_t t
  length-entries e (tree f ts) = ap suc (length-all (suc e) ts)

  pub length-all : (e : ℕ) (ts : Trees) → length (entries_ts e ts) ≡ sizes_t ts
  length-all e none = refl
  length-all e (more t ts) = rw (length-append, length-entries e t, length-all (e + size_t t) ts)

pub length-places_t : (e : ℕ) (ts : Trees) → length (places_t e ts) ≡ many ts
unfolding places_t many
length-places_t e none = refl
length-places_t e (more t ts) = ap suc (length-places_t (e + size_t t) ts)

-- ---- a rule's trees

unfoldable mutual
  pub pat_tree : Pat → Tree
  pat_tree (var v) = tree (λ xs. pattern (PVAR v)) none
  pat_tree (con c ps) = tree (λ xs. pattern (PCON c xs)) (pat_trees ps)

  pub pat_trees : Pats → Trees
  pat_trees no-pats = none
  pat_trees (more-pats p ps) = more (pat_tree p) (pat_trees ps)

unfoldable pub code_tree : Code → Tree
code_tree (scope m a) = tree (λ xs. strategy (SCOPE m (get_or xs 0 0))) (more (code_tree a) none)
code_tree (seq a c) = tree (λ xs. strategy (SEQ (get_or xs 0 0) (get_or xs 1 0))) (more (code_tree a) (more (code_tree c) none))
code_tree (where-of a) = tree (λ xs. strategy (WHERE (get_or xs 0 0))) (more (code_tree a) none)
code_tree (Entries.match p) = tree (λ xs. strategy (MATCH (get_or xs 0 0))) (more (pat_tree p) none)
code_tree (Entries.build p) = tree (λ xs. strategy (BUILD (get_or xs 0 0))) (more (pat_tree p) none)
code_tree (call x) = tree (λ xs. strategy (CALL x)) none

mutual
  unfolding pat_tree pat_trees size_t sizes_t size sizes

  size-pat : (p : Pat) → size_t (pat_tree p) ≡ size p
  size-pat (var v) = refl
  size-pat (con c ps) = ap suc (size-pats ps)

  size-pats : (ps : Pats) → sizes_t (pat_trees ps) ≡ sizes ps
  size-pats no-pats = refl
  size-pats (more-pats p ps) = rw (size-pat p, size-pats ps)

places-pats : (e : ℕ) (ps : Pats) → places_t e (pat_trees ps) ≡ places e ps
unfolding pat_tree places_t places
places-pats e no-pats = refl
places-pats e (more-pats p ps) = rw (size-pat p, places-pats (e + size p) ps)

mutual
  unfolding pat_tree pat_trees entries_t entries_ts pat_entries pats_entries

  entries-pat : (e : ℕ) (p : Pat) → entries_t e (pat_tree p) ≡ pat_entries e p
  entries-pat e (var v) = refl
  entries-pat e (con c ps) = rw (places-pats (suc e) ps, entries-pats (suc e) ps)

  entries-pats : (e : ℕ) (ps : Pats) → entries_ts e (pat_trees ps) ≡ pats_entries e ps
  entries-pats e no-pats = refl
  entries-pats e (more-pats p ps) = rw (entries-pat e p, size-pat p, entries-pats (e + size p) ps)

pub size-code : (a : Code) → size_t (code_tree a) ≡ code_size a
unfolding code_tree size_t sizes_t code_size
size-code (scope m a) = omega (arith, size-code a)
size-code (seq a c) = omega (arith, size-code a, size-code c)
size-code (where-of a) = omega (arith, size-code a)
size-code (Entries.match p) = omega (arith, size-pat p)
size-code (Entries.build p) = omega (arith, size-pat p)
size-code (call x) = refl

pub entries-code : (e : ℕ) (a : Code) → entries_t e (code_tree a) ≡ code_entries e a
unfolding code_tree entries_t entries_ts places_t code_entries
entries-code e (scope m a) = rw (append-nil, entries-code (suc e) a)
entries-code e (seq a c) = rw (append-nil, size-code a, entries-code (suc e) a, entries-code (suc e + code_size a) c)
entries-code e (where-of a) = rw (append-nil, entries-code (suc e) a)
entries-code e (Entries.match p) = rw (append-nil, entries-pat (suc e) p)
entries-code e (Entries.build p) = rw (append-nil, entries-pat (suc e) p)
entries-code e (call x) = refl

pub many-pats : (ps : Pats) → many (pat_trees ps) ≡ count ps
unfolding pat_tree many count
many-pats no-pats = refl
many-pats (more-pats p ps) = ap suc (many-pats ps)

mutual
  unfolding pat_tree pat_trees bare_t bare_ts bare_pat bare_pats

  bare-pat-tree : (p : Pat) → bare_t (pat_tree p) ≡ bare_pat p
  bare-pat-tree (var v) = refl
  bare-pat-tree (con c ps) = rw (many-pats ps, bare-pat-trees ps)

  bare-pat-trees : (ps : Pats) → bare_ts (pat_trees ps) ≡ bare_pats ps
  bare-pat-trees no-pats = refl
  bare-pat-trees (more-pats p ps) = rw (bare-pat-tree p, bare-pat-trees ps)

condition-tree : (c : Condition) (ys : List Entry) → strategy (SEQ 0 0) ∷ (bare_t (code_tree (condition_code c)) ++ ys) ≡ bare_condition c ++ ys
unfolding code_tree bare_t bare_ts many condition_code bare_condition
condition-tree c ys =
    ap (λ (zs : List Entry). strategy (SEQ 0 0) ∷ strategy (WHERE 0) ∷ strategy (SEQ 0 0) ∷ strategy (BUILD 0) ∷ zs)
    (regroup (bare_t (pat_tree c.start)) (bare_t (pat_tree c.outcome)) ys (strategy (SEQ 0 0)) (strategy (CALL c.callee)) (strategy (MATCH 0))
    ∙ rw (bare-pat-tree c.start, bare-pat-tree c.outcome) (sym (regroup-bare c.start c.outcome)))
  where
    regroup : (p q ys : List Entry) (x y z : Entry) → (((p ++ []) ++ (x ∷ y ∷ z ∷ (((q ++ []) ++ []) ++ []))) ++ []) ++ ys ≡ p ++ (x ∷ y ∷ z ∷ (q ++ ys))
    regroup p q ys x y z = simp (append-nil, append_assoc)

    regroup-bare : (p q : Pat) → (bare_pat p ++ (strategy (SEQ 0 0) ∷ strategy (CALL c.callee) ∷ strategy (MATCH 0) ∷ bare_pat q)) ++ ys ≡ bare_pat p ++
        (strategy (SEQ 0 0) ∷ strategy (CALL c.callee) ∷ strategy (MATCH 0) ∷ (bare_pat q ++ ys))
    regroup-bare p q = append_assoc (bare_pat p) (strategy (SEQ 0 0) ∷ strategy (CALL c.callee) ∷ strategy (MATCH 0) ∷ bare_pat q) ys

conditions-tree : (cs : List Condition) (p : Pat) → bare_t (code_tree (conditions_code cs p)) ≡ bare_conditions cs ++ (build_put ++ bare_pat p)
unfolding code_tree bare_t bare_ts many conditions_code bare_conditions
conditions-tree [] p = rw (append-nil, bare-pat-tree p)
conditions-tree (c ∷ cs) p =
    condition-tree c (bare_t (code_tree (conditions_code cs p)) ++ [])
    ∙ ap (λ (ys : List Entry). bare_condition c ++ ys) (append-nil (bare_t (code_tree (conditions_code cs p))) ∙ conditions-tree cs p)
    ∙ sym (append_assoc (bare_condition c) (bare_conditions cs) (build_put ++ bare_pat p))

-- The code inside a rule's scope.
abbrev pub body_code : Rule → Code
body_code r = seq (Entries.match r.left) (conditions_code r.conditions r.right)

-- Its bare entries are those of its tree.
pub body-tree : (r : Rule) → bare_t (code_tree (body_code r)) ≡ bare_body r
unfolding code_tree bare_t bare_ts many bare_body
body-tree r = simp (append-nil, bare-pat-tree, conditions-tree r.conditions r.right)
