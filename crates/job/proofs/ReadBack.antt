-- What is written of nodes and bindings, read back. Assumes nothing.
use mathlib.Core.Path.{◌≡◌, refl, ap, sym, ◌∙◌, subst}
use mathlib.Core.Bool.{Bool, true, false}
use mathlib.Core.List.{List, [], ◌∷◌, ◌++◌, append_assoc, append-nil}
use Prim.Native.Nat.{ℕ, zero, suc, ◌+◌, ◌-◌, ◌*◌, min, ◌≤◌, ◌<◌}
use native.Mathlib.Omega.{arith}
use lib.Dec.{eqb}
use lib.ListN.{length, get_or, set, take, drop, replicate, length-append, length-take, length-drop}
use lib.Seq.{take-add, take_at, take_all, take-suc, get_or-drop, length-take-le, set_at, append_snoc}
use borrow.Author.Tests.{lt-ltb, le-leb, eqb-true, eqb-false}
use Rattle.checks.specs.Kinds.{variables}
use Rattle.std.specs.Prelude.{if◌then◌else◌}
use Rattle.words.specs.Words.{word_at, put_row}
use Rattle.words.proofs.Rows.{length-put_row}
use Rattle.job.specs.Lines.{Line, node_fits, binding_fits, fits, node_row}
use Rattle.job.specs.Job.{Reading, zeros, admitted, headed, table_with, store_with, bindings_with, with, taken}
use Rattle.text.specs.Written.{Within, empty, limited}
use Rattle.job.specs.Written.{other, Follow, end, next}
use Rattle.job.specs.Answer.{node_shown, node_numbers, node_line, node_lines, binding_line, binding_lines}
use Rattle.job.specs.Promises.{Plain, BeforeNodes, ReadBack}

-- Lines that follow lines that follow.
follow-more : {g h k : Reading} {xs : List Line} (ys : List Line) → Follow g xs h → Follow h ys k → Follow g (xs ++ ys) k
follow-more ys end q = q
follow-more ys (next f w a r) q = next f w a (follow-more ys r q)

-- The row of the numbers that a node shows is the node's own.
row : (a x1 x2 x3 x4 x5 x6 c : ℕ) → c ≤ 6 → ((j : ℕ) → c ≤ j → j < 6 → get_or (x1 ∷ x2 ∷ x3 ∷ x4 ∷ x5 ∷ x6 ∷ []) j 0 ≡ 0)
    → node_row (length (take (suc c) (a ∷ x1 ∷ x2 ∷ x3 ∷ x4 ∷ x5 ∷ x6 ∷ 0 ∷ []))) (take (suc c) (a ∷ x1 ∷ x2 ∷ x3 ∷ x4 ∷ x5 ∷ x6 ∷ 0 ∷ [])) ≡ a ∷ c ∷ x1 ∷ x2 ∷ x3 ∷ x4 ∷ x5 ∷ x6 ∷ []
unfolding node_row
row a x1 x2 x3 x4 x5 x6 zero l z =
    let e1 : x1 ≡ 0 = z 0 (omega arith) (omega arith) in
    let e2 : x2 ≡ 0 = z 1 (omega arith) (omega arith) in
    let e3 : x3 ≡ 0 = z 2 (omega arith) (omega arith) in
    let e4 : x4 ≡ 0 = z 3 (omega arith) (omega arith) in
    let e5 : x5 ≡ 0 = z 4 (omega arith) (omega arith) in
    let e6 : x6 ≡ 0 = z 5 (omega arith) (omega arith) in
    rw (e1, e2, e3, e4, e5, e6)
row a x1 x2 x3 x4 x5 x6 (suc zero) l z =
    let e2 : x2 ≡ 0 = z 1 (omega arith) (omega arith) in
    let e3 : x3 ≡ 0 = z 2 (omega arith) (omega arith) in
    let e4 : x4 ≡ 0 = z 3 (omega arith) (omega arith) in
    let e5 : x5 ≡ 0 = z 4 (omega arith) (omega arith) in
    let e6 : x6 ≡ 0 = z 5 (omega arith) (omega arith) in
    rw (e2, e3, e4, e5, e6)
row a x1 x2 x3 x4 x5 x6 (suc (suc zero)) l z =
    let e3 : x3 ≡ 0 = z 2 (omega arith) (omega arith) in
    let e4 : x4 ≡ 0 = z 3 (omega arith) (omega arith) in
    let e5 : x5 ≡ 0 = z 4 (omega arith) (omega arith) in
    let e6 : x6 ≡ 0 = z 5 (omega arith) (omega arith) in
    rw (e3, e4, e5, e6)
row a x1 x2 x3 x4 x5 x6 (suc (suc (suc zero))) l z =
    let e4 : x4 ≡ 0 = z 3 (omega arith) (omega arith) in
    let e5 : x5 ≡ 0 = z 4 (omega arith) (omega arith) in
    let e6 : x6 ≡ 0 = z 5 (omega arith) (omega arith) in
    rw (e4, e5, e6)
row a x1 x2 x3 x4 x5 x6 (suc (suc (suc (suc zero)))) l z =
    let e5 : x5 ≡ 0 = z 4 (omega arith) (omega arith) in
    let e6 : x6 ≡ 0 = z 5 (omega arith) (omega arith) in
    rw (e5, e6)
row a x1 x2 x3 x4 x5 x6 (suc (suc (suc (suc (suc zero))))) l z =
    let e6 : x6 ≡ 0 = z 5 (omega arith) (omega arith) in
    rw (e6)
row a x1 x2 x3 x4 x5 x6 (suc (suc (suc (suc (suc (suc zero)))))) l z = refl
row a x1 x2 x3 x4 x5 x6 (suc (suc (suc (suc (suc (suc (suc c))))))) l z = absurd (omega arith)

-- The eight words of row k.
abbrev row_of : List ℕ → ℕ → List ℕ
row_of w k = word_at w k 0 ∷ word_at w k 1 ∷ word_at w k 2 ∷ word_at w k 3 ∷ word_at w k 4 ∷ word_at w k 5 ∷ word_at w k 6 ∷ word_at w k 7 ∷ []

first-eight : (d : List ℕ) → 8 ≤ length d → take 8 d ≡ get_or d 0 0 ∷ get_or d 1 0 ∷ get_or d 2 0 ∷ get_or d 3 0 ∷ get_or d 4 0 ∷ get_or d 5 0 ∷ get_or d 6 0 ∷ get_or d 7 0 ∷ []
first-eight (d0 ∷ d1 ∷ d2 ∷ d3 ∷ d4 ∷ d5 ∷ d6 ∷ d7 ∷ r) l = refl
first-eight (d0 ∷ d1 ∷ d2 ∷ d3 ∷ d4 ∷ d5 ∷ d6 ∷ []) l = absurd (omega arith)
first-eight (d0 ∷ d1 ∷ d2 ∷ d3 ∷ d4 ∷ d5 ∷ []) l = absurd (omega arith)
first-eight (d0 ∷ d1 ∷ d2 ∷ d3 ∷ d4 ∷ []) l = absurd (omega arith)
first-eight (d0 ∷ d1 ∷ d2 ∷ d3 ∷ []) l = absurd (omega arith)
first-eight (d0 ∷ d1 ∷ d2 ∷ []) l = absurd (omega arith)
first-eight (d0 ∷ d1 ∷ []) l = absurd (omega arith)
first-eight (d0 ∷ []) l = absurd (omega arith)
first-eight [] l = absurd (omega arith)

take_row : (w : List ℕ) (k : ℕ) → 8 * k + 8 ≤ length w → take (8 * k + 8) w ≡ take (8 * k) w ++ row_of w k
take_row w k l =
    take-add (8 * k) 8 w
    ∙ ap (λ (r : List ℕ). take (8 * k) w ++ r)
    (first-eight (drop (8 * k) w) (rw (length-drop (8 * k) w) (omega arith))
    ∙ rw (
      get_or-drop (8 * k) w 0 0,
      get_or-drop (8 * k) w 1 0,
      get_or-drop (8 * k) w 2 0,
      get_or-drop (8 * k) w 3 0,
      get_or-drop (8 * k) w 4 0,
      get_or-drop (8 * k) w 5 0,
      get_or-drop (8 * k) w 6 0,
      get_or-drop (8 * k) w 7 0,
    ))

within-take : (n : ℕ) {vs : List ℕ} → Within vs → Within (take n vs)
within-take zero w = empty
within-take (suc n) empty = empty
within-take (suc n) (limited l w) = limited l (within-take n w)

module _ (w : List ℕ) (k : ℕ) (p : Plain w k) where
  numbers-shown : node_numbers w k ≡ take (suc (word_at w k 1)) (node_shown w k)
  unfolding node_numbers
  numbers-shown =
      let e : min 7 (word_at w k 1 + 1) ≡ suc (word_at w k 1) = omega (arith, p.count) in
      ap (λ (n : ℕ). take n (node_shown w k)) e

  length-shown : length (node_numbers w k) ≡ suc (word_at w k 1)
  unfolding node_shown
  length-shown = ap length numbers-shown ∙ omega (arith, p.count, length-take (suc (word_at w k 1)) (node_shown w k))

  row-shown : node_row (length (node_numbers w k)) (node_numbers w k) ≡ row_of w k
  unfolding node_shown
  row-shown =
      ap (λ (vs : List ℕ). node_row (length vs) vs) numbers-shown
      ∙ row (word_at w k 0) (word_at w k 2) (word_at w k 3) (word_at w k 4) (word_at w k 5) (word_at w k 6) (word_at w k 7) (word_at w k 1) p.count unused-shown
    where
      unused-shown : (j : ℕ) → word_at w k 1 ≤ j → j < 6 → get_or (word_at w k 2 ∷ word_at w k 3 ∷ word_at w k 4 ∷ word_at w k 5 ∷ word_at w k 6 ∷ word_at w k 7 ∷ []) j 0 ≡ 0
      unused-shown zero l m = p.unused 0 l m
      unused-shown (suc zero) l m = p.unused 1 l m
      unused-shown (suc (suc zero)) l m = p.unused 2 l m
      unused-shown (suc (suc (suc zero))) l m = p.unused 3 l m
      unused-shown (suc (suc (suc (suc zero)))) l m = p.unused 4 l m
      unused-shown (suc (suc (suc (suc (suc zero))))) l m = p.unused 5 l m
      unused-shown (suc (suc (suc (suc (suc (suc j)))))) l m = absurd (omega arith)

  within-shown : Within (node_numbers w k)
  unfolding node_shown
  within-shown = subst Within (sym numbers-shown) (within-take (suc (word_at w k 1))
      ((limited (p.words 0) (limited (p.words 2) (limited (p.words 3) (limited (p.words 4) (limited (p.words 5) (limited (p.words 6) (limited (p.words 7) (limited (omega arith) empty))))))))))

  fits-shown : fits 2 (length (node_numbers w k)) (node_numbers w k) ≡ true
  unfolding fits node_fits
  fits-shown =
      rw (le-leb 1 (length (node_numbers w k)) (omega (arith, length-shown)), le-leb (length (node_numbers w k)) 7 (omega (arith, length-shown, p.count)))

-- The lines of the first n nodes, read.
record Nodes (g : Reading) (w : List ℕ) (n : ℕ) : Type 0 where
  after : Reading
  follow : Follow g (node_lines w n) after
  begun : 1 ≤ after.heading.section
  before : after.heading.section ≤ 2
  nodes : after.heading.nodes ≡ n
  variable : after.heading.variable ≡ 0
  store : length after.store ≡ 8192
  same : take (8 * n) after.store ≡ take (8 * n) w
  bindings : after.bindings ≡ zeros variables

node-admitted : (h : Reading) (v : ℕ) → 1 ≤ h.heading.section → h.heading.section ≤ 2 → h.heading.nodes < 1024 → admitted h.heading 2 v ≡ true
unfolding admitted
node-admitted h v p q r = rw (le-leb _ _ p, le-leb _ _ q, lt-ltb _ _ r)

-- The store with one row more.
store-more : (s w : List ℕ) (n : ℕ) (r : List ℕ) → 8 * n + 8 ≤ length s → 8 * n + 8 ≤ length w → take (8 * n) s ≡ take (8 * n) w → r ≡ row_of w n
    → take (8 * n + 8) (put_row s n r) ≡ take (8 * n + 8) w
unfolding put_row
store-more s w n r l m e f =
    ap (take (8 * n + 8)) (sym (append_assoc (take (8 * n) s) r (drop (8 * n + 8) s)))
    ∙ take_at (take (8 * n) s ++ r) (drop (8 * n + 8) s) (8 * n + 8) long
    ∙ ap (λ (a : List ℕ). a ++ r) e
    ∙ ap (λ (a : List ℕ). take (8 * n) w ++ a) f
    ∙ sym (take_row w n m)
  where
    long : length (take (8 * n) s ++ r) ≡ 8 * n + 8
    long = length-append (take (8 * n) s) r ∙ omega (arith, length-take-le (8 * n) s (omega arith), ap length f)

length-node_row : (n : ℕ) (vs : List ℕ) → length (node_row n vs) ≡ 8
unfolding node_row
length-node_row n vs = refl

-- One node more.
node-next : (g : Reading) (w : List ℕ) (n : ℕ) → Plain w n → 8 * n + 8 ≤ length w → n < 1024 → Nodes g w n → Nodes g w (suc n)
unfolding node_lines with headed table_with store_with bindings_with
node-next g w n p l o t =
    let h : Reading = t.after in
    let r : List ℕ = node_row (length (node_numbers w n)) (node_numbers w n) in
    let e : 8 * suc n ≡ 8 * n + 8 = omega arith in
    record {
      after = taken h (node_line w n);
      follow =
          follow-more (node_line w n ∷ []) t.follow
          (next (fits-shown w n p) (other refl (within-shown w n p)) (node-admitted h (get_or (node_numbers w n) 0 0) t.begun t.before (omega (arith, t.nodes))) end);
      begun = omega arith;
      before = omega arith;
      nodes = omega (arith, t.nodes);
      variable = t.variable;
      store = length-put_row h.store h.heading.nodes r (omega (arith, t.nodes, t.store)) (length-node_row _ _) ∙ t.store;
      same = rw (t.nodes, e) (store-more h.store w n r (omega (arith, t.store)) l t.same (row-shown w n p));
      bindings = t.bindings;
    }

nodes-read : (g : Reading) (w : List ℕ) (m : ℕ) → BeforeNodes g → 8 * m ≤ length w → m ≤ 1024 → ((k : ℕ) → k < m → Plain w k) → (n : ℕ) → n ≤ m → Nodes g w n
unfolding node_lines
nodes-read g w m y l o p zero h = record {
  after = g;
  follow = end;
  begun = y.begun;
  before = y.before;
  nodes = y.nodes;
  variable = y.variable;
  store = y.store;
  same = refl;
  bindings = y.bindings;
}
nodes-read g w m y l o p (suc n) h = node-next g w n (p n (omega arith)) (omega arith) (omega arith) (nodes-read g w m y l o p n (omega arith))

-- The lines of the bound variables below v, read.
record Bound (g : Reading) (b : List ℕ) (v : ℕ) (xs : List Line) : Type 0 where
  after : Reading
  follow : Follow g xs after
  begun : 1 ≤ after.heading.section
  variable : after.heading.variable ≤ v
  nodes : after.heading.nodes ≡ g.heading.nodes
  store : after.store ≡ g.store
  bindings : after.bindings ≡ take v b ++ replicate (variables - v) 0

-- A number that is not zero, less one, and one more.
some_one : (n : ℕ) → (n ≡ 0 → ⊥) → n - 1 + 1 ≡ n
some_one zero z = absurd (z refl)
some_one (suc n) z = omega arith

-- The words of the variables below v, and then zeros: one variable more.
module _ (b : List ℕ) (v : ℕ) (n : length b ≡ variables) (l : v < variables) where
  left_one : ◌≡◌ {A = List ℕ} (replicate (variables - v) 0) (0 ∷ replicate (variables - suc v) 0)
  left_one =
      let e : variables - v ≡ suc (variables - suc v) = omega arith in
      ap (λ (k : ℕ). replicate k 0) e

  with-one : (x : ℕ) → get_or b v 0 ≡ x → take v b ++ (x ∷ replicate (variables - suc v) 0) ≡ take (suc v) b ++ replicate (variables - suc v) 0
  with-one x e =
      sym (append_snoc (take v b) x (replicate (variables - suc v) 0))
      ∙ ap (λ (a : ℕ). (take v b ++ (a ∷ [])) ++ replicate (variables - suc v) 0) (sym e)
      ∙ ap (λ (a : List ℕ). a ++ replicate (variables - suc v) 0) (sym (take-suc b v 0 (omega arith)))

  unbound-more : get_or b v 0 ≡ 0 → take v b ++ replicate (variables - v) 0 ≡ take (suc v) b ++ replicate (variables - suc v) 0
  unbound-more e = ap (λ (a : List ℕ). take v b ++ a) left_one ∙ with-one 0 e

  bound-more : (get_or b v 0 ≡ 0 → ⊥) → set (take v b ++ replicate (variables - v) 0) v (get_or b v 0 - 1 + 1) ≡ take (suc v) b ++ replicate (variables - suc v) 0
  bound-more z =
      let x : get_or b v 0 - 1 + 1 ≡ get_or b v 0 = some_one (get_or b v 0) z in
      ap (λ (a : List ℕ). set (take v b ++ a) v (get_or b v 0 - 1 + 1)) left_one
      ∙ set_at (take v b) 0 (replicate (variables - suc v) 0) (get_or b v 0 - 1 + 1) v (length-take-le v b (omega arith))
      ∙ with-one (get_or b v 0 - 1 + 1) (sym x)

binding-fits : (v x : ℕ) → v < variables → x < 131072 → fits 3 2 (v ∷ x ∷ []) ≡ true
unfolding fits binding_fits
binding-fits v x l m = rw (lt-ltb _ _ l, lt-ltb _ _ m)

binding-admitted : (h : Reading) (v : ℕ) → 1 ≤ h.heading.section → h.heading.variable ≤ v → admitted h.heading 3 v ≡ true
unfolding admitted
binding-admitted h v p q = rw (le-leb _ _ p, le-leb _ _ q)

-- One variable more.
bound-next : (g : Reading) (b : List ℕ) (v : ℕ) (xs : List Line) → length b ≡ variables → get_or b v 0 ≤ 131072 → v < variables → Bound g b v xs → Bound g b (suc v) (xs ++ binding_line b v)
unfolding binding_line with headed table_with store_with bindings_with
bound-next g b v xs n m l t = go (eqb (get_or b v 0) 0) refl
  where
    go : (q : Bool) → eqb (get_or b v 0) 0 ≡ q → Bound g b (suc v) (xs ++ (if q then [] else record { name = 3; numbers = v ∷ (get_or b v 0 - 1) ∷ [] } ∷ []))
    go true i = record {
      after = t.after;
      follow = subst (λ (ys : List Line). Follow g ys t.after) (sym (append-nil xs)) t.follow;
      begun = t.begun;
      variable = omega (arith, t.variable);
      nodes = t.nodes;
      store = t.store;
      bindings = t.bindings ∙ unbound-more b v n l (eqb-true (get_or b v 0) 0 i);
    }
    go false i = record {
      after = taken t.after (record { name = 3; numbers = v ∷ (get_or b v 0 - 1) ∷ [] });
      follow =
          follow-more (record { name = 3; numbers = v ∷ (get_or b v 0 - 1) ∷ [] } ∷ []) t.follow
          (next (binding-fits v (get_or b v 0 - 1) l (omega (arith, m)))
          (other refl (limited (omega arith) (limited (omega (arith, m)) empty)))
          (binding-admitted t.after v t.begun t.variable) end);
      begun = omega arith;
      variable = omega arith;
      nodes = t.nodes;
      store = t.store;
      bindings = ap (λ (c : List ℕ). set c v (get_or b v 0 - 1 + 1)) t.bindings ∙ bound-more b v n l (eqb-false (get_or b v 0) 0 i);
    }

bindings-read : (g : Reading) (b : List ℕ) → 1 ≤ g.heading.section → g.heading.variable ≡ 0 → g.bindings ≡ zeros variables → length b
    ≡ variables → ((v : ℕ) → get_or b v 0 ≤ 131072) → (v : ℕ) → v ≤ variables → Bound g b v (binding_lines b v)
unfolding binding_lines zeros
bindings-read g b p q r n m zero h = record { after = g; follow = end; begun = p; variable = omega (arith, q); nodes = refl; store = refl; bindings = r }
bindings-read g b p q r n m (suc v) h = bound-next g b v (binding_lines b v) n (m v) (omega arith) (bindings-read g b p q r n m v (omega arith))

pub read_back : ReadBack
read_back g w b m y l =
    let t : Nodes g w m = nodes-read g w m y l.inside l.most l.nodes m (omega arith) in
    let u : Bound t.after b variables (binding_lines b variables) = bindings-read t.after b t.begun t.variable t.bindings l.variables l.bound variables (omega arith) in
    record {
      after = u.after;
      follow = follow-more (binding_lines b variables) t.follow u.follow;
      mark = u.nodes ∙ t.nodes;
      nodes = ap (take (8 * m)) u.store ∙ t.same;
      bindings = u.bindings ∙ append-nil (take variables b) ∙ take_all variables b (omega (arith, l.variables));
    }
