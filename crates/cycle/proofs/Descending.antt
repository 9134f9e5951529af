-- PATH and ONE: a child is visited, and the node is made again with what the visit gave in the child's place.
use mathlib.Core.Path.{◌≡◌, refl, ap, sym, ◌∙◌}
use mathlib.Core.Option.{Option as Maybe, none, some}
use Rattle.std.specs.Prelude.{Option, Some, None}
use mathlib.Core.List.{List, [], ◌∷◌, ◌++◌}
use Prim.Native.Nat.{ℕ, zero, suc, ◌+◌, ◌-◌, ◌≤◌, ◌<◌}
use native.Mathlib.Omega.{arith}
use native.Mathlib.Numerals.{add-one}
use lib.ListN.{length, get_or, set, take, drop}
use lib.Seq.{take-suc, set_split, get_or-take}
use Rattle.words.specs.Words.{word_at}
use Rattle.checks.specs.Good.{kind_of, argument_of, constructor_of, child_count}
use Rattle.meaning.specs.Bindings.{Bindings}
use Rattle.meaning.specs.Table.{six}
use Rattle.meaning.specs.Plan.{keep, fail, ask}
use Rattle.meaning.specs.Rules.{apply, Do, nth, put, given, again, one_of}
use Rattle.meaning.specs.Store.{children}
use Rattle.meaning.specs.Demands.{Kept}
use Rattle.state.specs.declared.answers.Answer.{Answer}
use Rattle.state.specs.declared.answers.Answer.TheVariants.{Done, Failed, Cut}
use Rattle.state.specs.declared.answers.Attempt.{Attempt}
use Rattle.state.specs.declared.answers.Attempt.TheVariants.{Ended, Cut as Off}
use Rattle.state.specs.Answers.{packed, node_in, units_in, units_word, failed_word, answer_of, attempt_of}
use Rattle.meaning.specs.Limits.{at}
use Rattle.state.specs.Noted.{Standing}
use Rattle.state.specs.Record.{record_long, mark_of, notes_of, standing, held, back, Framed}
use Rattle.state.specs.Visits.{visit, plan, ruled, out, count_of, row_at, noded, Entries, Steady, Stored, Gives}
use Rattle.cycle.specs.Cycle.{Leads, VisitsAhead, entry_ahead, Ready}
use Rattle.state.proofs.AnswerWords.{node-packed, units-packed, gave-failed, failed-few, attempt-done, attempt-failed, attempt-cut, out-units}
use Rattle.state.proofs.Asking.{Tagged, goes_on, caught, cut_off, not_done}
use Rattle.leaves.proofs.Keeping.{LeavesFitting, apply-leaves, steady_kept, leaves-done, leaves-failed}
use Rattle.index.specs.Run.{Fits}
use Rattle.leaves.proofs.Patterns.{operand_below}
use Rattle.state.proofs.Storing.{steady-stored, kept-stored}
use Rattle.state.proofs.Holding.{further, held_back, mark-back, notes-back, framed-back, length_back, framed-refl, framed-trans}
use Rattle.leaves.proofs.Children.{six-at, part_length, part-next, part_end}
use Rattle.leaves.proofs.Walking.{failing}
use Rattle.cycle.proofs.Ruling.{ruled-path, ruled-one}
use Rattle.cycle.proofs.Ahead.{leads_one, leads-one-inside}
use Rattle.cycle.proofs.Rowing.{kept-count, kept-constructor, kept-children, put-set, child-below, remade, ready-stored}

-- child 0 is none, and so is one past the last
nth-zero : (hs : List ℕ) → nth hs 0 ≡ none
unfolding nth
nth-zero [] = refl
nth-zero (h ∷ hs) = refl

nth_past : (hs : List ℕ) (j : ℕ) → length hs ≤ j → nth hs (suc j) ≡ none
unfolding nth
nth_past [] j l = refl
nth_past (h ∷ hs) zero l = absurd (omega arith)
nth_past (h ∷ hs) (suc j) l = nth_past hs j (omega arith)

nth-at : (hs : List ℕ) (j : ℕ) → j < length hs → nth hs (suc j) ≡ some (get_or hs j 0)
unfolding nth
nth-at [] j l = absurd (omega arith)
nth-at (h ∷ hs) zero l = refl
nth-at (h ∷ hs) (suc j) l = nth-at hs j (omega arith)

-- what is not some is none
pub is-none : (o : Option ℕ) → ((x : ℕ) → o ≡ Some x → ⊥) → o ≡ None
is-none None h = refl
is-none (Some x) h = absurd (h x refl)

-- child j of node k
module _ (w : List ℕ) (k j : ℕ) (l : j < count_of w k) where
  among : j < length (children w k)
  among = omega (arith, part_length w k (child_count w k))

  child-at : get_or (children w k) j 0 ≡ word_at w k (2 + j)
  child-at = get_or-take (child_count w k) (six w k) j 0 (omega arith) ∙ six-at w k j (omega arith)

  take_next : take (j + 1) (children w k) ≡ take j (children w k) ++ (word_at w k (2 + j) ∷ [])
  take_next = rw (add-one j, take-suc (children w k) j 0 among, child-at)

  set_next : (x : ℕ) → take j (children w k) ++ (x ∷ drop (j + 1) (children w k)) ≡ set (children w k) j x
  set_next x = rw (add-one j) (sym (set_split (children w k) j x among))

-- entry x was visited on node y with the bindings b, and the word of its answer tells a
module _ {w : List ℕ} {m : Standing} {b : Bindings ℕ} (steady : Steady w m b) {t : List ℕ} (entries : Entries t) (n x y u : ℕ) (below : y < m.mark)
    (got : ℕ) (st' w' : List ℕ) (is : out got st' w' ≡ visit t n (apply x y b) w m u) {a : Answer} (read : a ≡ answer_of got) where
  leaves : LeavesFitting w m (visit t n (apply x y b) w m u)
  leaves = apply-leaves steady t entries n x y u below

  kept-done : {z v : ℕ} → a ≡ Done z v → Kept w m.mark w'
  kept-done {z} {v} q = (leaves-done w m _ leaves got st' w' is a read z v q).0.1

  fits-done : {z v : ℕ} → a ≡ Done z v → Fits w' (mark_of st') (notes_of st')
  fits-done {z} {v} q = (leaves-done w m _ leaves got st' w' is a read z v q).1

  kept-failed : {v : ℕ} → a ≡ Failed v → Kept w m.mark w' × Fits w' m.mark (notes_of st')
  kept-failed {v} q = leaves-failed w m _ leaves got st' w' is a read v q

-- PATH i
module _ {t w st : List ℕ} {e s i : ℕ} (n : ℕ) (ready : Ready t w st e s) (h : kind_of t e ≡ 9) (ie : i ≡ argument_of t e) where
  abbrev Returns : ℕ → List ℕ → List ℕ → Type 0
  Returns r st'' w'' = Gives (ruled t n e (node_in s) (held st) w (standing st) (units_in s)) st r st'' w''

  -- what follows, by the child
  picks : (x : ℕ) → x ≡ word_at t e 2 → {o : Maybe ℕ} → nth (children w (node_in s)) i ≡ o
      → ruled t n e (node_in s) (held st) w (standing st) (units_in s)
      ≡ plan t n (given o (λ g. ask keep (apply x g (held st)) (λ y c. again (node_in s) (constructor_of w (node_in s)) (put (children w (node_in s)) i y) c) fail)) w (standing st) (units_in s)
  picks x xe q =
      ruled-path t n e (node_in s) (held st) w (standing st) (units_in s) x xe i ie h
      ∙ ap (λ o. plan t n (given o (λ g. ask keep (apply x g (held st)) (λ y c. again (node_in s) (constructor_of w (node_in s)) (put (children w (node_in s)) i y) c) fail)) w (standing st) (units_in s)) q

  no-child : nth (children w (node_in s)) i ≡ none → {r : ℕ} → r ≡ failed_word (units_in s) → Returns r st w
  unfolding given
  no-child q {r} p = record {
    is = gave-failed st w r (units_in s) p (omega arith) ∙ sym (picks (word_at t e 2) refl q ∙ failing t n w (standing st) (units_in s));
    frame = framed-refl further st;
  }

  pub gives-path-zero : {r : ℕ} → i ≡ 0 → r ≡ failed_word (units_in s) → Returns r st w
  gives-path-zero z p = no-child (rw z (nth-zero (children w (node_in s)))) p

  module _ {c : ℕ} (ce : c ≡ count_of w (node_in s)) (some-child : i ≡ 0 → ⊥) where
    from_one : i ≡ suc (i - 1)
    from_one = omega arith

    pub gives-path-past : {r : ℕ} → c < i → r ≡ failed_word (units_in s) → Returns r st w
    gives-path-past l p = no-child (rw from_one (nth_past (children w (node_in s)) (i - 1) (omega (arith, part_length w (node_in s) (child_count w (node_in s)))))) p

    -- the child y is visited by x
    module _ (inside : i ≤ c) {x y g : ℕ} (xe : x ≡ word_at t e 2) (ye : y ≡ word_at w (node_in s) (1 + i)) (ge : g ≡ packed y (units_in s)) where
      has-child : i - 1 < count_of w (node_in s)
      has-child = omega arith

      place : 1 + i ≡ 2 + (i - 1)
      place = omega arith

      is-child : y ≡ word_at w (node_in s) (2 + (i - 1))
      is-child = ye ∙ ap (λ j. word_at w (node_in s) j) place

      below : y < mark_of st
      below = rw is-child (child-below ready.steady ready.subject has-child)

      node-as : node_in g ≡ y
      node-as = ap node_in ge ∙ node-packed y (units_in s) (omega arith)

      units-as : units_in g ≡ units_in s
      units-as = ap units_in ge ∙ units-packed y (units_in s) (omega arith)

      pub ready-path : Ready t w st x g
      ready-path =
          record {
            entries = ready.entries;
            hints = ready.hints;
            long = ready.long;
            inside =
                rw xe (operand_below t ready.entries e 0 ready.inside (λ z. omega (arith, h, z)) (omega arith));
            steady =
                ready.steady;
            subject = rw node-as below;
          }

      asks : ruled t n e (node_in s) (held st) w (standing st) (units_in s)
          ≡ plan t n (ask keep (apply x y (held st)) (λ z c. again (node_in s) (constructor_of w (node_in s)) (put (children w (node_in s)) i z) c) fail) w (standing st) (units_in s)
      unfolding given
      asks =
          picks x xe (ap (nth (children w (node_in s))) from_one
          ∙ nth-at (children w (node_in s)) (i - 1) (among w (node_in s) (i - 1) has-child)
          ∙ ap some (child-at w (node_in s) (i - 1) has-child ∙ sym is-child))

      module _ {got : ℕ} {st' w' : List ℕ} (gives : Gives (visit t n (apply x (node_in g) (held st)) w (standing st) (units_in g)) st got st' w') {a : Answer} (read : a ≡ answer_of got) where
        is : out got st' w' ≡ visit t n (apply x y (held st)) w (standing st) (units_in s)
        is = gives.is ∙ (λ z. visit t n (apply x (node-as z) (held st)) w (standing st) (units-as z))

        pub gives-path-stops : Tagged a 1 2 → Returns got st' w'
        gives-path-stops q = record { is = not_done t n w (standing st) (units_in s) _ got st' w' is a read keep _ q ∙ sym asks; frame = gives.frame }

        pub fits-path : {z v : ℕ} → a ≡ Done z v → Fits w' (mark_of st') (notes_of st')
        fits-path q = fits-done ready.steady ready.entries n x y (units_in s) below got st' w' is read q

        pub stored-path : {z v : ℕ} → a ≡ Done z v → Stored w' (node_in s)
        stored-path q = kept-stored (kept-done ready.steady ready.entries n x y (units_in s) below got st' w' is read q) ready.subject (ready-stored ready)

        pub gives-path : {z v r : ℕ} {was st'' w'' : List ℕ} → a ≡ Done z v → was ≡ row_at w' (node_in s) → Gives (noded (set was (1 + i) z) st' w' v) st' r st'' w'' → Returns r st'' w''
        gives-path {z} {v} {r} {was} {st''} q we made = record {
          is = made.is ∙ sym (
              asks ∙ goes_on t n w (standing st) (units_in s) _ got st' w' is a read _ fail z v q
              ∙ ap (λ gs. plan t n (again (node_in s) (constructor_of w (node_in s)) gs (held st')) w' (standing st') v)
              (ap (λ j. put (children w (node_in s)) j z) from_one ∙ put-set (children w (node_in s)) (i - 1) z)
              ∙ remade ready.steady ready.subject has-child t n z v st' (kept-done ready.steady ready.entries n x y (units_in s) below got st' w' is read q) we
              ∙ ap (λ j. noded (set was j z) st' w' v) (sym place)
              );
          frame = framed-trans further st st' st'' gives.frame made.frame;
        }

-- running out of units is a cut_off
units-cut : answer_of units_word ≡ Cut units_word
unfolding answer_of
units-cut = refl

-- the mark of the start, with what was noted since
abbrev tried : List ℕ → List ℕ → Standing
tried st₀ st = at (mark_of st₀) (notes_of st)

-- what a turn of ONE's loop has: mark and bindings are those of the start, and the rest of the children is the whole
pub record Trying (t w₀ st₀ : List ℕ) (n e s c : ℕ) (w st : List ℕ) (u i : ℕ) : Type 0 where
  pub steady : Steady w (tried st₀ st) (held st₀)
  pub mark : mark_of st ≡ mark_of st₀
  pub holds : held st ≡ held st₀
  pub frame : Framed st₀ st
  pub wide : length st ≡ length st₀
  pub long : length w ≡ length w₀
  pub count : c ≡ count_of w (node_in s)
  pub few : u < 4294967296
  pub rest : plan t n (one_of (word_at t e 2) (take i (children w (node_in s))) (drop i (children w (node_in s))) (held st₀) (again (node_in s) (constructor_of w (node_in s)))) w (tried st₀ st) u
      ≡ ruled t n e (node_in s) (held st₀) w₀ (standing st₀) (units_in s)

-- the next child's visit
one-next : (t : List ℕ) (n x : ℕ) (w : List ℕ) (k i : ℕ) (b : Bindings ℕ) (f : List ℕ → Bindings ℕ → Do ℕ) (m : Standing) (u : ℕ) → i < count_of w k
    → plan t n (one_of x (take i (children w k)) (drop i (children w k)) b f) w m u
    ≡ plan t n (ask keep (apply x (word_at w k (2 + i)) b) (λ y c. f (take i (children w k) ++ (y ∷ drop (i + 1) (children w k))) c)
    (one_of x (take (i + 1) (children w k)) (drop (i + 1) (children w k)) b f)) w m u
unfolding one_of
one-next t n x w k i b f m u l =
    ap (λ hs. plan t n (one_of x (take i (children w k)) hs b f) w m u) (part-next w k (child_count w k) i l)
    ∙ ap (λ gs. plan t n (ask keep (apply x (word_at w k (2 + i)) b)
    (λ y c. f (take i (children w k) ++ (y ∷ drop (i + 1) (children w k))) c) (one_of x gs (drop (i + 1) (children w k)) b f)) w m u)
    (sym (take_next w k i l))

-- no child is left
one_end : (t : List ℕ) (n x : ℕ) (w : List ℕ) (k i : ℕ) (b : Bindings ℕ) (f : List ℕ → Bindings ℕ → Do ℕ) (m : Standing) (u : ℕ) → count_of w k ≤ i
    → plan t n (one_of x (take i (children w k)) (drop i (children w k)) b f) w m u ≡ plan t n fail w m u
unfolding one_of
one_end t n x w k i b f m u l = ap (λ hs. plan t n (one_of x (take i (children w k)) hs b f) w m u) (part_end w k (child_count w k) i l)

module _ {t w₀ st₀ : List ℕ} {e s : ℕ} (n : ℕ) (ready : Ready t w₀ st₀ e s) where
  abbrev Gave : ℕ → List ℕ → List ℕ → Type 0
  Gave r st'' w'' = Gives (ruled t n e (node_in s) (held st₀) w₀ (standing st₀) (units_in s)) st₀ r st'' w''

  pub one-begins : {c : ℕ} → kind_of t e ≡ 12 → c ≡ count_of w₀ (node_in s) → Trying t w₀ st₀ n e s c w₀ st₀ (units_in s) 0
  one-begins h ce = record {
    steady = ready.steady;
    mark = refl;
    holds = refl;
    frame = framed-refl further st₀;
    wide = refl;
    long = refl;
    count = ce;
    few = omega arith;
    rest = sym (ruled-one t n e (node_in s) (held st₀) w₀ (standing st₀) (units_in s) (word_at t e 2) refl h);
  }

  module _ {c : ℕ} {w st : List ℕ} {u i : ℕ} (turn : Trying t w₀ st₀ n e s c w st u i) where
    -- the operand
    abbrev x : ℕ
    x = word_at t e 2

    pub gives-one-none : {r : ℕ} → c ≤ i → r ≡ failed_word u → Gave r st w
    gives-one-none {r} l p = record {
      is =
          gave-failed st w r u p turn.few ∙ sym (one_end t n x w (node_in s) i (held st₀) (again (node_in s) (constructor_of w (node_in s)))
          (tried st₀ st) u (omega (arith, turn.count)) ∙ failing t n w (tried st₀ st) u) ∙ turn.rest;
      frame = turn.frame;
    }

    -- child i is visited: the operand leads to the entry op in n' visits, which are counted and not made
    module _ (more : i < c) (h : kind_of t e ≡ 12) {n' op : ℕ} (ahead : VisitsAhead t e n n') (oe : op ≡ entry_ahead t e n') {y : ℕ} (ye : y ≡ word_at w (node_in s) (2 + i)) where
      has-next : i < count_of w (node_in s)
      has-next = omega (arith, turn.count)

      below-mark : y < mark_of st₀
      below-mark = rw ye (child-below turn.steady ready.subject has-next)

      leads : Leads t x op n'
      leads = leads_one h n' oe ahead

      abbrev follows : ℕ → Bindings ℕ → Do ℕ
      follows z b = again (node_in s) (constructor_of w (node_in s)) (take i (children w (node_in s)) ++ (z ∷ drop (i + 1) (children w (node_in s)))) b

      abbrev others : Do ℕ
      others = one_of x (take (i + 1) (children w (node_in s))) (drop (i + 1) (children w (node_in s))) (held st₀) (again (node_in s) (constructor_of w (node_in s)))

      asks-next : plan t n (ask keep (apply x y (held st₀)) follows others) w (tried st₀ st) u ≡ ruled t n e (node_in s) (held st₀) w₀ (standing st₀) (units_in s)
      asks-next =
          ap (λ y. plan t n (ask keep (apply x y (held st₀)) follows others) w (tried st₀ st) u) ye
          ∙ sym (one-next t n x w (node_in s) i (held st₀) (again (node_in s) (constructor_of w (node_in s))) (tried st₀ st) u has-next)
          ∙ turn.rest

      -- a cut_off ends it
      off : {got d : ℕ} {st' w' : List ℕ} → out got st' w' ≡ visit t n (apply x y (held st₀)) w (tried st₀ st) u → Framed st₀ st' → answer_of got ≡ Cut d → Gave got st' w'
      off {got} {d} {st'} {w'} is f q = record { is = cut_off t n w (tried st₀ st) u _ got st' w' is (answer_of got) refl keep follows others d q ∙ asks-next; frame = f }

      -- the units are fewer than the visits ahead
      pub gives-one-short : {r : ℕ} → u < n' → r ≡ units_word → Gave r st w
      gives-one-short l re = off (ap (λ r. out r st w) re ∙ out-units st w ∙ sym (leads.short y (held st₀) w (tried st₀ st) n u ahead.few l)) turn.frame (ap answer_of re ∙ units-cut)

      module _ (enough : n' ≤ u) {g : ℕ} (ge : g ≡ packed y (u - n')) where
        less : u - n' < 4294967296
        less = omega (arith, turn.few)

        node-is : node_in g ≡ y
        node-is = ap node_in ge ∙ node-packed y (u - n') less

        units-is : units_in g ≡ u - n'
        units-is = ap units_in ge ∙ units-packed y (u - n') less

        pub ready-one : Ready t w st op g
        ready-one = record {
          entries = ready.entries;
          hints = ready.hints;
          long = turn.wide ∙ ready.long;
          inside = leads-one-inside h n' oe ready.entries ready.inside;
          steady = rw (turn.mark, turn.holds) turn.steady;
          subject = rw (node-is, turn.mark) below-mark;
        }

        module _ {got : ℕ} {st' w' : List ℕ} (gives : Gives (visit t (n - n') (apply op (node_in g) (held st)) w (standing st) (units_in g))
            st got st' w') {a : Attempt} (attempted : a ≡ attempt_of (answer_of got)) where
          was : out got st' w' ≡ visit t n (apply x y (held st₀)) w (tried st₀ st) u
          was =
              gives.is ∙ (λ z. visit t (n - n') (apply op (node-is z) (turn.holds z)) w (at (turn.mark z) (notes_of st)) (units-is z))
              ∙ sym (leads.is y (held st₀) w (tried st₀ st) n u ahead.few enough)

          framed : Framed st₀ st'
          framed = framed-trans further st₀ st st' turn.frame gives.frame

          wide' : length st' ≡ length st₀
          wide' = gives.frame.long ∙ turn.wide

          long' : length st' ≡ record_long
          long' = wide' ∙ ready.long

          pub gives-one-off : {d : ℕ} → a ≡ Off d → Gave got st' w'
          gives-one-off {d} q = off was framed (attempt-cut (answer_of got) d (sym attempted ∙ q))

          module _ {o : Option ℕ} {v : ℕ} (q : a ≡ Ended o v) where
            did : {z : ℕ} → o ≡ Some z → answer_of got ≡ Done z v
            did {z} p = attempt-done (answer_of got) z v (sym attempted ∙ q ∙ ap (λ o. Ended o v) p)

            did-not : o ≡ None → answer_of got ≡ Failed v
            did-not p = attempt-failed (answer_of got) v (sym attempted ∙ q ∙ ap (λ o. Ended o v) p)

            pub fits_one : {z : ℕ} → o ≡ Some z → Fits w' (mark_of st') (notes_of st')
            fits_one p = fits-done turn.steady ready.entries n x y u below-mark got st' w' was refl (did p)

            pub stored_one : {z : ℕ} → o ≡ Some z → Stored w' (node_in s)
            stored_one p =
                kept-stored (kept-done turn.steady ready.entries n x y u below-mark got st' w' was refl (did p)) ready.subject
                (steady-stored turn.steady (node_in s) ready.subject)

            pub gives_one : {z r : ℕ} {words st'' w'' : List ℕ} → o ≡ Some z → words ≡ row_at w' (node_in s) → Gives (noded (set words (2 + i) z) st' w' v) st' r st'' w'' → Gave r st'' w''
            gives_one {z} {r} {words} {st''} p we made = record {
              is = made.is ∙ sym (
                  goes_on t n w (tried st₀ st) u _ got st' w' was (answer_of got) refl follows others z v (did p)
                  ∙ ap (λ gs. plan t n (again (node_in s) (constructor_of w (node_in s)) gs (held st')) w' (standing st') v) (set_next w (node_in s) i has-next z)
                  ∙ remade turn.steady ready.subject has-next t n z v st' (kept-done turn.steady ready.entries n x y u below-mark got st' w' was refl (did p)) we
                  ) ∙ asks-next;
              frame = framed-trans further st₀ st' st'' framed made.frame;
            }

            -- mark and mask are put back, and the next child is tried
            pub one_again : o ≡ None → Trying t w₀ st₀ n e s c w' (back st₀ st') v (i + 1)
            one_again p =
                let (kept, fits) = kept-failed turn.steady ready.entries n x y u below-mark got st' w' was refl (did-not p) in
                let kids = kept-children kept (node_in s) ready.subject in
                let con = kept-constructor kept (node_in s) ready.subject in
                record {
                  steady = rw (notes-back further st₀ st' long') (steady_kept turn.steady (standing st') kept fits);
                  mark = mark-back further st₀ st' long';
                  holds = held_back further st₀ st' long' framed;
                  frame = framed-back further st₀ st' long' framed;
                  wide = length_back further st₀ st' long' ∙ sym ready.long;
                  long = kept.long ∙ turn.long;
                  count = turn.count ∙ sym (kept-count kept (node_in s) ready.subject);
                  few = failed-few got v (answer_of got) refl (did-not p);
                  rest = (λ j. plan t n (one_of x (take (i + 1) (kids j)) (drop (i + 1) (kids j)) (held st₀) (again (node_in s) (con j))) w' (at (mark_of st₀) (notes-back further st₀ st' long' j)) v)
                      ∙ sym (caught t n w (tried st₀ st) u _ got st' w' was (answer_of got) refl keep follows others v (did-not p)) ∙ asks-next;
                }
