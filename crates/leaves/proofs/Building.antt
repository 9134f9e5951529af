-- A new node at the mark, and BUILD over the store's words: a variable's node, and operand after operand before the node.
use mathlib.Core.Path.{◌≡◌, refl, ap, sym, ◌∙◌, subst}
use mathlib.Core.Bool.{Bool, true, false}
use mathlib.Core.Option.{Option, none, some}
use mathlib.Core.List.{List, [], ◌∷◌, ◌++◌, map}
use Prim.Native.Nat.{ℕ, zero, suc, ◌+◌, ◌-◌, ◌*◌, ◌≤◌, ◌<◌}
use native.Mathlib.Omega.{arith}
use lib.ListN.{length, get_or, set, drop}
use lib.Dec.{leb}
use lib.Seq.{ext_get_or}
use Rattle.index.proofs.Keying.{each_of}
use borrow.Author.Tests.{le-leb, lt-leb, leb-false}
use Rattle.checks.specs.Kinds.{variables}
use Rattle.words.specs.Words.{word_at, rows, put_row}
use Rattle.checks.specs.Good.{kind_of, operand_count, argument_of}
use Rattle.meaning.specs.Bindings.{Bindings}
use Rattle.meaning.specs.Table.{table, operands}
use Rattle.meaning.specs.Plan.{ret, make}
use Rattle.meaning.specs.Rules.{build, Do, does, building, needed, walk}
use Rattle.meaning.specs.Limits.{ended, at, room_for, run_plan}
use Rattle.meaning.specs.Store.{row}
use Rattle.meaning.specs.Shared.{node_with, full_for, number_for, state_for}
use Rattle.meaning.proofs.Tests.{impossible}
use Rattle.meaning.proofs.NodeWith.{node_with-has}
use Rattle.index.specs.declared.lent.Node.{Node}
use Rattle.index.specs.declared.lent.Node.TheVariants.{Stands, Made, Full}
use Rattle.index.specs.Lent.{Held, Comes, Asked, made as lentWith}
use Rattle.index.specs.Run.{lending, Fits, full_by}
use Rattle.index.proofs.Rooming.{full-plain, number-plain, state-plain, fits-plain, full-indexed, number-indexed, state-indexed, fits-indexed}
use Rattle.state.specs.Noted.{on, Ran}
use Rattle.state.specs.declared.answers.Answer.{Answer}
use Rattle.state.specs.declared.answers.Answer.TheVariants.{Done}
use Rattle.state.specs.Answers.{answer_of, packed, room_word, unbound_word}
use Rattle.state.specs.Record.{mark_at, top_at, marking, marked, record_long, word_of, mark_of, miss_of, room_of, top_of, nodes_of, notes_of}
use Rattle.state.specs.Record.{standing, mask_of, bit_of, held, Framed}
use Rattle.state.specs.Visits.{visit, plan, out, noded, Entries, Steady, Gives, Builds}
use Rattle.state.proofs.AnswerWords.{out-done, out-room, out-unbound}
use Rattle.state.proofs.Asking.{Tagged}
use Rattle.leaves.proofs.Kind.{counted, pattern-variable, pattern-con}
use Rattle.leaves.proofs.Keeping.{build-leaves, steady-after, node-small, leaves-done}
use Rattle.state.proofs.Holding.{further, framed-refl, framed-trans, framed-mark, held-mark, mark-marking, notes-marking, held-topped}
use Rattle.state.proofs.Holding.{framed-topped, standing-topped, held-some, held_none}
use Rattle.leaves.proofs.Children.{part-next, part_end, filled, filled_next, filled_row, one_more}
use Rattle.leaves.proofs.Walking.{walk_end, walk-on, walk-stop, returned}

-- what asking comes to is one of three
stands_same : {j k : ℕ} → Stands j ≡ Stands k → j ≡ k
stands_same e = cc

made-same : {j k : ℕ} → Made j ≡ Made k → j ≡ k
made-same e = cc

stands-full : {k : ℕ} → Stands k ≡ Full → ⊥
stands-full e = impossible (cc)

stands-made : {j k : ℕ} → Stands j ≡ Made k → ⊥
stands-made e = impossible (cc)

made-full : {k : ℕ} → Made k ≡ Full → ⊥
made-full e = impossible (cc)

-- a new node of the eight words made
module _ (made st w : List ℕ) (u r : ℕ) (s : Fits w (mark_of st) (notes_of st)) (l : u < 4294967296) where
  abbrev found : Option ℕ
  found = node_with w made (mark_of st)

  -- there is room, and no index
  module _ (h : mark_of st < room_of st) where
    some-room : 0 < room_of st
    some-room = omega arith

    plain : (rows w ≡ room_of st) × (mark_of st ≤ room_of st) × (room_of st ≤ 131072)
    plain = fits-plain (room_of st) w (mark_of st) (top_of st) (nodes_of st) some-room s

    pub row_inside : 8 * mark_of st + 8 ≤ length w
    row_inside = omega (arith, plain.0)

    pub plain-small : mark_of st < 131072
    plain-small = omega (arith, plain.2)

    pub node_made : length st ≡ record_long → r ≡ packed (mark_of st) u →
        Gives (noded made st w u) st r (marking st (mark_of st + 1)) (put_row w (mark_of st) made)
    unfolding noded room_for
    node_made long e = record {
      is =
          ap (λ r. out r (marking st (mark_of st + 1)) (put_row w (mark_of st) made)) e
          ∙ out-done (marking st (mark_of st + 1)) (put_row w (mark_of st) made) (mark_of st) u (omega (arith, plain.2)) l
          ∙ rw (
            held-mark further st (mark_of st + 1),
            mark-marking further st (mark_of st + 1) long,
            notes-marking further st
                (mark_of st + 1),
          )
          (sym (rw (
            full-plain (room_of st) found (nodes_of st) (mark_of st) some-room,
            lt-leb (room_of st) (mark_of st) h,
            number-plain
                (room_of st) found (mark_of st) some-room,
            state-plain (room_of st) found (on w (standing st)) made some-room,
          )));
      frame = framed-mark further st (mark_of st + 1);
    }

  -- there is none
  out-of-room : full_by (room_of st) found (nodes_of st) (mark_of st) ≡ true → r ≡ room_word u → Gives (noded made st w u) st r st w
  unfolding noded room_for
  out-of-room f e = record { is = ap (λ r. out r st w) e ∙ out-room st w u l ∙ sym (rw f); frame = framed-refl further st }

  pub node-full : (room_of st ≡ 0 → ⊥) → room_of st ≤ mark_of st → r ≡ room_word u → Gives (noded made st w u) st r st w
  node-full n h e = out-of-room (full-plain (room_of st) found (nodes_of st) (mark_of st) (omega (arith, pos n))
      ∙ le-leb (room_of st) (mark_of st) h) e
    where
      pos : {x : ℕ} → (x ≡ 0 → ⊥) → 0 < x
      pos {x = zero} n = absurd (n refl)
      pos {x = suc x} n = omega arith

  -- the index was asked
  module _ (z : room_of st ≡ 0) {n m t : ℕ} (ne : n ≡ nodes_of st) (me : m ≡ mark_of st) (te : t ≡ top_of st) where
    pub lent-held : Held w n t × (m ≤ t)
    lent-held = rw (ne, me, te) (let f = fits-indexed (room_of st) z w (mark_of st) (top_of st) (nodes_of st) s in (f.0, f.1))

    pub few : n ≤ 131072
    few = rw ne (fits-indexed (room_of st) z w (mark_of st) (top_of st) (nodes_of st) s).2

    module _ (a : Node) (w' : List ℕ) (asked : Asked n m t made w a w') where
      -- what comes of it, by what stands
      comes : (o : Option ℕ) → node_with w made m ≡ o → (f : Bool) → leb n m ≡ f → Comes o f n m t made w a w'
      comes o e f g = subst (λ f. Comes o f n m t made w a w') g (subst (λ o. Comes o (leb n m) n m t made w a w') e asked)

      -- a new node's number is the mark's
      pub made-small : (k : ℕ) → a ≡ Made k → k < 131072
      made-small k q = go (node_with w made m) refl (leb n m) refl
        where
          go : (o : Option ℕ) → node_with w made m ≡ o → (f : Bool) → leb n m ≡ f → k < 131072
          go (some j) x f y = absurd (stands-made (sym (comes (some j) x f y).0 ∙ q))
          go none x true y = absurd (made-full (sym q ∙ (comes none x true y).0))
          go none x false y = let mk : m ≡ k = made-same (sym (comes none x false y).0 ∙ q) in omega (arith, leb-false n m y, few)

      pub gives-stands : (k : ℕ) → a ≡ Stands k → r ≡ packed k u → Gives (noded made st w u) st r st w'
      unfolding noded room_for full_for number_for state_for
      gives-stands k q e = go (node_with w made m) refl (leb n m) refl
        where
          go : (o : Option ℕ) → node_with w made m ≡ o → (f : Bool) → leb n m ≡ f → Gives (noded made st w u) st r st w'
          go (some j) x f y =
              let (p, v) = comes (some j) x f y in
              let jk : j ≡ k = stands_same (sym p ∙ q) in
              let found-is : node_with w made (mark_of st) ≡ some k = ap (node_with w made) (sym me) ∙ x ∙ ap some jk in
              rw v (record {
                is =
                    ap (λ r. out r st w) e ∙ out-done st w k u
                    (omega (arith, (node_with-has w made m k (x ∙ ap some jk)).0, lent-held.0.fits, lent-held.1, few)) l
                    ∙ sym (rw (
                      full-indexed (room_of st) z found (nodes_of st) (mark_of st),
                      number-indexed (room_of st) z found
                          (mark_of st),
                      state-indexed (room_of st) z found (on w (standing st)) made,
                      found-is,
                    ));
                frame = framed-refl further st;
              })
          go none x true y = absurd (stands-full (sym q ∙ (comes none x true y).0))
          go none x false y = absurd (stands-made (sym q ∙ (comes none x false y).0))

      pub gives-full : a ≡ Full → r ≡ room_word u → Gives (noded made st w u) st r st w'
      unfolding full_for
      gives-full q e = go (node_with w made m) refl (leb n m) refl
        where
          go : (o : Option ℕ) → node_with w made m ≡ o → (f : Bool) → leb n m ≡ f → Gives (noded made st w u) st r st w'
          go (some j) x f y = absurd (stands-full (sym (comes (some j) x f y).0 ∙ q))
          go none x true y =
              let v = (comes none x true y).1 in
              let found-is : node_with w made (mark_of st) ≡ none = ap (node_with w made) (sym me) ∙ x in
              let full_is : leb (nodes_of st) (mark_of st) ≡ true = (rw (ne, me) at y) in
              rw v (out-of-room (full-indexed (room_of st) z found (nodes_of st) (mark_of st) ∙ rw (found-is, full_is)) e)
          go none x false y = absurd (made-full (sym (comes none x false y).0 ∙ q))

      pub gives_made : (k : ℕ) → a ≡ Made k → length st ≡ record_long → r ≡ packed k u → {x : ℕ} → x ≡ k + 1 →
          Gives (noded made st w u) st r (set (set st mark_at x) top_at x) w'
      unfolding noded room_for full_for number_for state_for
      gives_made k q long e {x} xe = rw xe (go (node_with w made m) refl (leb n m) refl)
        where
          go : (o : Option ℕ) → node_with w made m ≡ o → (f : Bool) → leb n m ≡ f → Gives (noded made st w u) st r (marked st (k + 1)) w'
          go (some j) x f y = absurd (stands-made (sym (comes (some j) x f y).0 ∙ q))
          go none x true y = absurd (made-full (sym q ∙ (comes none x true y).0))
          go none x false y =
              let (p, v) = comes none x false y in
              let mk : m ≡ k = made-same (sym p ∙ q) in
              let km : k ≡ mark_of st = sym mk ∙ me in
              let found-is : node_with w made (mark_of st) ≡ none = ap (node_with w made) (sym me) ∙ x in
              let full_is : leb (nodes_of st) (mark_of st) ≡ false = (rw (ne, me) at y) in
              let after : w' ≡ lentWith (nodes_of st) (mark_of st) (top_of st) made w = v ∙ (λ i. lentWith (ne i) (me i) (te i) made w) in
              record {
                is =
                    ap (λ r. out r (marked st (k + 1)) w') e
                    ∙ out-done (marked st (k + 1)) w' k u (omega (arith, leb-false n m y, few)) l
                    ∙ (λ i. ended k (held-topped further st (k + 1) long i) (on w' (standing-topped further st (k + 1) long i)) u)
                    ∙ (λ i. ended (km i) (held st) (on (after i)
                    (at (km i + 1) (lending (miss_of st) (room_of st) (km i + 1) (nodes_of st)))) u)
                    ∙ sym (rw (
                      full-indexed (room_of st) z found (nodes_of st) (mark_of st),
                      number-indexed (room_of st) z found
                          (mark_of st),
                      state-indexed (room_of st) z found (on w (standing st)) made,
                      found-is,
                      full_is,
                    ));
                frame = framed-topped further st (k + 1) long;
              }

-- the row made of the children gs is a new node of them
pub node_of : (t : List ℕ) (n c : ℕ) (gs made st w : List ℕ) (u : ℕ) → made ≡ row c gs →
    noded made st w u ≡ plan t n (make c gs (λ x. ret x (held st))) w (standing st) u
unfolding noded plan run_plan
node_of t n c gs made st w u e = rw e

-- the operands from the i-th on, and then the node
abbrev pub parts : List ℕ → ℕ → ℕ → ℕ → List ℕ → Bindings ℕ → Do ℕ
parts t p k i gs b = walk (map (λ q. build q k) (drop i (operands t p))) gs b (λ gs b'. make (argument_of t p) gs (λ x. ret x b'))

-- an operand built, at values that are equal
pub builds-at : (t w st : List ℕ) (q u d r r' : ℕ) (st' st'' w' w'' : List ℕ) → w'' ≡ w' → st'' ≡ st' → r' ≡ r → length w' ≡ length w →
    Builds t w st q u d r st' w' → (length w'' ≡ length w) × Builds t w st q u d r' st'' w''
builds-at t w st q u d r r' st' st'' w' w'' e f g l b = rw (e, f, g) (l, b)

-- what holds before operand i is built: gs are the nodes of those before it, in the row that is made, and from here on
-- all ends as o, whatever the node k that BUILD was applied to
pub record Built (t : List ℕ) (n p : ℕ) (st₀ : List ℕ) (o : ℕ → Ran) (w st made : List ℕ) (u i : ℕ) : Type 0 where
  pub gs : List ℕ
  pub so_far : length gs ≡ i
  pub filling : made ≡ filled (argument_of t p) (operand_count t p) gs
  pub steady : Steady w (standing st) (held st)
  pub frame : Framed st₀ st
  pub goes_on : (k : ℕ) → plan t n (parts t p k i gs (held st)) w (standing st) u ≡ o k

module _ (t : List ℕ) (n p : ℕ) (w st : List ℕ) (u : ℕ) (h : u ≡ 0 → ⊥) (d : n ≡ 0 → ⊥) where
  opened : (k : ℕ) → visit t n (build p k (held st)) w (standing st) u ≡ plan t (n - 1) (building ((table t).patterns p) k (held st))
      w (standing st) (u - 1)
  unfolding does
  opened k = counted t n (build p k (held st)) w (standing st) u h d

  -- a variable
  module _ (v : ℕ) (kind : kind_of t p ≡ 18) (ve : v ≡ argument_of t p) (k r : ℕ) (l : u < 4294967296) where
    at-variable : visit t n (build p k (held st)) w (standing st) u ≡ plan t (n - 1) (needed v (held st v) (λ g. ret g (held st))) w
        (standing st) (u - 1)
    unfolding building
    at-variable = opened k ∙ rw (pattern-variable t p kind, ve)

    pub variable-built : Steady w (standing st) (held st) → v < variables → bit_of (mask_of st) v ≡ 1 → {y : ℕ} → y ≡ word_of st v →
        r ≡ packed y (u - 1) → Gives (visit t n (build p k (held st)) w (standing st) u) st r st w
    unfolding needed
    variable-built s small b ye e =
        let j : held st v ≡ some (word_of st v) = held-some further st v small b in
        let x : word_of st v < 131072 = node-small s _ (s.bound v _ j) in
        record {
          is =
              ap (λ r. out r st w) (e ∙ ap (λ y. packed y (u - 1)) ye) ∙ out-done st w (word_of st v) (u - 1) (omega arith) (omega arith)
              ∙ sym (at-variable ∙ rw j (returned t (n - 1) w (standing st) (u - 1) (word_of st v) (held st)));
          frame = framed-refl further st;
        }

    pub variable-unbound : v < variables → (bit_of (mask_of st) v ≡ 1 → ⊥) → r ≡ unbound_word v (u - 1) →
        Gives (visit t n (build p k (held st)) w (standing st) u) st r st w
    unfolding needed plan run_plan
    variable-unbound small b e =
        record {
          is =
              ap (λ r. out r st w) e ∙ out-unbound st w v (u - 1) (omega arith) (omega arith)
              ∙ sym (at-variable ∙ rw (held_none further st v b) refl);
          frame = framed-refl further st;
        }

  -- before the first operand
  pub built-none : (x y : ℕ) → x ≡ argument_of t p → y ≡ operand_count t p → kind_of t p ≡ 19 → Steady w (standing st) (held st) →
      Built t (n - 1) p st (λ k. visit t n (build p k (held st)) w (standing st) u) w st (x ∷ y ∷ 0 ∷ 0 ∷ 0 ∷ 0 ∷ 0 ∷ 0 ∷ []) (u - 1) 0
  unfolding building
  built-none x y xe ye kind s =
      record {
        gs = [];
        so_far = refl;
        filling = rw (xe, ye);
        steady = s;
        frame = framed-refl further st;
        goes_on = λ k.
            sym (opened k ∙ rw (pattern-con t p kind));
      }

module _ (t : List ℕ) (n p : ℕ) (st₀ : List ℕ) (o : ℕ → Ran) (w st made : List ℕ) (u i : ℕ) (c : Built t n p st₀ o w st made u i) where
  -- all operands are built
  pub built-all : operand_count t p ≤ 6 → operand_count t p ≡ i → (r : ℕ) (st' w' : List ℕ) → Gives (noded made st w u) st r st' w' →
      (k : ℕ) → Gives (o k) st₀ r st' w'
  built-all few e r st' w' g k = record {
    is =
        g.is
        ∙ node_of t n (argument_of t p) c.gs made st w u (filled_row (argument_of t p) (operand_count t p) c.gs made c.filling
        (c.so_far ∙ sym e))
        ∙ sym (walk_end t n w (standing st) u c.gs (held st) _ _ (rw (part_end t p (operand_count t p) i (omega arith))))
        ∙ c.goes_on k;
    frame = framed-trans further st₀ st st' c.frame g.frame;
  }

  -- the next operand q: the answer's word r, read as a, with record and store at its return
  module _ (few : operand_count t p ≤ 6) (h : i < operand_count t p) (q r : ℕ) (qe : q ≡ word_at t p (2 + i)) (st' w' : List ℕ)
      (g : (k : ℕ) → Gives (visit t n (build q k (held st)) w (standing st) u) st r st' w') (a : Answer) (read : a ≡ answer_of r) where
    next : (k : ℕ) → plan t n (walk (build q k ∷ map (λ q. build q k) (drop (i + 1) (operands t p))) c.gs (held st)
        (λ gs b'. make (argument_of t p) gs (λ x. ret x b'))) w (standing st) u ≡ o k
    next k = rw qe (sym (rw (part-next t p (operand_count t p) i (omega arith))) ∙ c.goes_on k)

    pub build-stops : Tagged a 1 2 → (k : ℕ) → Gives (o k) st₀ r st' w'
    build-stops e k = record {
      is = walk-stop t n w (standing st) u c.gs (held st) _ (build q k) _ r st' w' (g k).is a read e ∙ next k;
      frame = framed-trans further st₀ st st' c.frame (g k).frame;
    }

    pub built-more : Entries t → (x v : ℕ) → a ≡ Done x v → Built t n p st₀ o w' st' (set made (2 + i) x) v (i + 1)
    built-more en x v e = record {
      gs = c.gs ++ (x ∷ []);
      so_far = one_more c.gs x i c.so_far;
      filling = filled_next (argument_of t p) (operand_count t p) i x c.gs made c.filling c.so_far (omega arith);
      steady = steady-after c.steady w' (standing st') x v (held st')
          (leaves-done w (standing st) _ (build-leaves c.steady t en n q 0 u c.steady.used) r st' w' (g 0).is a read x v e);
      frame = framed-trans further st₀ st st' c.frame (g 0).frame;
      goes_on = λ k. sym (walk-on t n w (standing st) u c.gs (held st) _ (build q k) _ r st' w' (g k).is a read x v e) ∙ next k;
    }
