-- What a counted run has counted so far, kept from turn to turn. Assumes nothing.
use Rattle.std.proofs.Common.{◌≡◌, ℕ, zero, suc, ◌+◌, ◌-◌, ◌*◌, ◌%◌, ◌^◌, ◌<◌, ◌≤◌, Bool, true, false, eqb, List, [], ◌∷◌, length, get_or, set, sym, refl, ap, ◌∙◌, subst, arith, get_or-set_other, get_or-set_same, ne_eqb, if◌then◌else◌}
use Rattle.meaning.specs.Derivation.{What, what, Event, began, ended}
use Rattle.meaning.specs.Tallies.{one-if, is_entry, any_pattern, is_pair, counted, begins, wins, loses}
use Rattle.turns.specs.Ways.{visit_of}
use Rattle.machine.specs.declared.Machine.{Machine}
use Rattle.machine.specs.Stack.{present, first_of, others_of}
use Rattle.machine.specs.Machine.{visited}
use Rattle.tallying.specs.declared.Seen.{Seen}
use Rattle.tallying.specs.Counts.{bumped, code_of, visited_code, flown, occurs, Kept, Balanced, Counts, Room}
use Rattle.tallying.specs.Tally.{seen_at}
use Rattle.tallying.proofs.Counting.{length-bumped, bump-for, bump-beside}

-- ---- the visit that is asked for

module _ (k : List ℕ) (m : Machine) where
  pub code-visited : code_of (visited k m) ≡ visited_code m
  unfolding code_of what visit_of
  code-visited = go (eqb m.mode 0) (eqb m.mode 1) (eqb m.mode 2)
    where
      go : (a b c : Bool)
          → code_of (what (if a then visit_of 0 m.x m.y (present k m) else if b then visit_of 1 m.x m.y (present k m) else if c
          then visit_of 2 m.x m.y (present k m) else visit_of 3 m.x m.y (present k m)))
          ≡ (if a then m.x else 4294967295)
      go true b c = refl
      go false true c = refl
      go false false true = refl
      go false false false = refl

-- ---- what happened, and what is in flight

-- what is in flight is no more than all of it
pub one-few : (b : Bool) → one-if b ≤ 1
one-few true = omega arith
one-few false = omega arith

occurs-few : (p : What → Bool) (es : List What) → occurs p es ≤ length es
unfolding occurs
occurs-few p [] = omega arith
occurs-few p (e ∷ es) = omega (arith, occurs-few p es, one-few (p e))

module _ (log : List Event) (es : List What) (b : Balanced log es) where
  pub balanced-begun : (w : What) → Balanced (began w ∷ log) (w ∷ es)
  unfolding counted begins wins loses occurs
  balanced-begun w p = omega (arith, b p)

  pub balanced-ended : (won : Bool) → 0 < length es → Balanced (ended (first_of es) won ∷ log) (others_of es)
  unfolding counted begins wins loses occurs first_of others_of
  balanced-ended won l p = go es (b p) won l
    where
      go : (es : List What) → counted (begins p) log ≡ counted (wins p) log + counted (loses p) log + occurs p es → (won : Bool)
          → 0 < length es
          → counted (begins p) (ended (first_of es) won ∷ log) ≡ counted (wins p) (ended (first_of es) won ∷ log)
          + counted (loses p) (ended (first_of es) won ∷ log) + occurs p (others_of es)
      go [] e won l = absurd (omega arith)
      go (e ∷ es) z true l = omega (arith, z)
      go (e ∷ es) z false l = omega (arith, z)

-- ---- the words

module _ {given cs : List ℕ} {log : List Event} (room : Room given) (c : Counts given cs log []) where
  -- no word is full while fewer than 2³² visits have begun
  pub counts-begun : (w : What) → ((p : What → Bool) → counted (begins p) log < 4294967295)
      → Counts given (bumped cs (code_of w) 0) (began w ∷ log) []
  unfolding counted begins wins loses
  counts-begun w few = record {
    long = length-bumped cs (code_of w) 0 ∙ c.long;
    visits = λ x l.
        let z : 4 * x ≡ 4 * x + 0 = omega arith in
        let small : get_or cs (4 * x + 0) 0 < 18446744073709551615 = omega (arith, ap (λ (i : ℕ). get_or cs i 0) z, c.visits x l, room.small (4 * x), few (is_entry x)) in
        ap (λ (i : ℕ). get_or (bumped cs (code_of w) 0) i 0) z ∙ bump-for cs w x 0 (omega (arith, c.long, room.few)) (omega (arith, c.long))
        (omega arith) small
        ∙ omega (arith, ap (λ (i : ℕ). get_or cs i 0) z, c.visits x l);
    won = λ x l. bump-beside cs (code_of w) 0 x 1 (omega arith) (omega arith) (λ e. omega arith) ∙ c.won x l ∙ omega arith;
    lost = λ x l. bump-beside cs (code_of w) 0 x 2 (omega arith) (omega arith) (λ e. omega arith) ∙ c.lost x l ∙ omega arith;
    flying = λ x l. bump-beside cs (code_of w) 0 x 3 (omega arith) (omega arith) (λ e. omega arith) ∙ c.flying x l;
  }

  pub counts-ended : (w : What) (won : Bool) → ((p : What → Bool) → counted (wins p) log + counted (loses p) log < 4294967295)
      → Counts given (bumped cs (code_of w) (if won then 1 else 2)) (ended w won ∷ log) []
  unfolding counted begins wins loses
  counts-ended w true few = record {
    long = length-bumped cs (code_of w) 1 ∙ c.long;
    visits = λ x l.
        let z : 4 * x ≡ 4 * x + 0 = omega arith in
        ap (λ (i : ℕ). get_or (bumped cs (code_of w) 1) i 0) z ∙ bump-beside cs (code_of w) 1 x 0 (omega arith) (omega arith) (λ e. omega arith)
        ∙ ap (λ (i : ℕ). get_or cs i 0) (sym z) ∙ c.visits x l ∙ omega arith;
    won = λ x l.
        bump-for cs w x 1 (omega (arith, c.long, room.few)) (omega (arith, c.long)) (omega arith)
        (omega (arith, c.won x l, room.small (4 * x + 1), few (is_entry x)))
        ∙ omega (arith, c.won x l);
    lost = λ x l. bump-beside cs (code_of w) 1 x 2 (omega arith) (omega arith) (λ e. omega arith) ∙ c.lost x l ∙ omega arith;
    flying = λ x l. bump-beside cs (code_of w) 1 x 3 (omega arith) (omega arith) (λ e. omega arith) ∙ c.flying x l;
  }
  counts-ended w false few = record {
    long = length-bumped cs (code_of w) 2 ∙ c.long;
    visits = λ x l.
        let z : 4 * x ≡ 4 * x + 0 = omega arith in
        ap (λ (i : ℕ). get_or (bumped cs (code_of w) 2) i 0) z ∙ bump-beside cs (code_of w) 2 x 0 (omega arith) (omega arith) (λ e. omega arith)
        ∙ ap (λ (i : ℕ). get_or cs i 0) (sym z) ∙ c.visits x l ∙ omega arith;
    won = λ x l. bump-beside cs (code_of w) 2 x 1 (omega arith) (omega arith) (λ e. omega arith) ∙ c.won x l ∙ omega arith;
    lost = λ x l.
        bump-for cs w x 2 (omega (arith, c.long, room.few)) (omega (arith, c.long)) (omega arith)
        (omega (arith, c.lost x l, room.small (4 * x + 2), few (is_entry x)))
        ∙ omega (arith, c.lost x l);
    flying = λ x l. bump-beside cs (code_of w) 2 x 3 (omega arith) (omega arith) (λ e. omega arith) ∙ c.flying x l;
  }

-- one more in flight
module _ {given cs : List ℕ} {log : List Event} {es : List What} (room : Room given) (c : Counts given cs log es) where
  counts-flying : (w : What) → length es ≤ 4096 → Counts given (bumped cs (code_of w) 3) log (w ∷ es)
  unfolding occurs
  counts-flying w few = record {
    long = length-bumped cs (code_of w) 3 ∙ c.long;
    visits = λ x l.
        let z : 4 * x ≡ 4 * x + 0 = omega arith in
        ap (λ (i : ℕ). get_or (bumped cs (code_of w) 3) i 0) z ∙ bump-beside cs (code_of w) 3 x 0 (omega arith) (omega arith) (λ e. omega arith)
        ∙ ap (λ (i : ℕ). get_or cs i 0) (sym z) ∙ c.visits x l;
    won = λ x l. bump-beside cs (code_of w) 3 x 1 (omega arith) (omega arith) (λ e. omega arith) ∙ c.won x l;
    lost = λ x l. bump-beside cs (code_of w) 3 x 2 (omega arith) (omega arith) (λ e. omega arith) ∙ c.lost x l;
    flying = λ x l.
        bump-for cs w x 3 (omega (arith, c.long, room.few)) (omega (arith, c.long)) (omega arith)
        (omega (arith, c.flying x l, room.small (4 * x + 3), occurs-few (is_entry x) es))
        ∙ omega (arith, c.flying x l);
  }

-- all that is in flight
pub counts-flown : {given cs : List ℕ} {log : List Event} → Room given → Counts given cs log [] → (es : List What) (kept : List ℕ)
    → length es ≤ 4096 → Kept es kept
    → Counts given (flown kept cs (length es)) log es
unfolding flown Kept
counts-flown room c [] kept few k = c
counts-flown {given} {cs} {log} room c (e ∷ es) kept few k =
    subst (λ (v : ℕ). Counts given (bumped (flown kept cs (length es)) v 3) log (e ∷ es)) (sym k.0)
    (counts-flying room (counts-flown room c es kept (omega arith) k.1) e (omega arith))

-- ---- the levels

module _ (es : List What) (kept : List ℕ) where
  kept-below : (n v : ℕ) → length es ≤ n → Kept es kept → Kept es (set kept n v)
  unfolding Kept
  kept-below n v l k = go es l k
    where
      go : (es : List What) → length es ≤ n → Kept es kept → Kept es (set kept n v)
      go [] l k = tt
      go (e ∷ es) l k = (get_or-set_other kept n (length es) v 0 (λ (z : length es ≡ n). omega arith) ∙ k.0, go es (omega arith) k.1)

  pub kept-begun : (w : What) (n : ℕ) → length es ≡ n → n < length kept → Kept es kept → Kept (w ∷ es) (set kept n (code_of w))
  unfolding Kept
  kept-begun w n e l k =
      (ap (λ (i : ℕ). get_or (set kept n (code_of w)) i 0) e ∙ get_or-set_same kept n (code_of w) 0 l, kept-below n (code_of w) (omega arith) k)

  pub kept-first : 0 < length es → Kept es kept → get_or kept (length es - 1) 0 ≡ code_of (first_of es)
  unfolding Kept first_of
  kept-first l k = go es l k
    where
      go : (es : List What) → 0 < length es → Kept es kept → get_or kept (length es - 1) 0 ≡ code_of (first_of es)
      go [] l k = absurd (omega arith)
      go (e ∷ es) l k = ap (λ (i : ℕ). get_or kept i 0) (omega arith) ∙ k.0

  pub kept-others : 0 < length es → Kept es kept → Kept (others_of es) kept
  unfolding Kept others_of
  kept-others l k = go es l k
    where
      go : (es : List What) → 0 < length es → Kept es kept → Kept (others_of es) kept
      go [] l k = absurd (omega arith)
      go (e ∷ es) l k = k.1

-- ---- the visits of patterns and of pairs

module _ (s : Seen) (m : ℕ) where
  pub seen_entry : m ≡ 0 → s ≡ seen_at s m
  seen_entry e = rw e refl

  pub seen-pair : {v : ℕ} → m ≡ 3 → v ≡ (s.pairs + 1) % 2 ^ 32 → record { patterns = s.patterns; pairs = v } ≡ seen_at s m
  seen-pair e x = rw (x, e) refl

  pub seen-pattern : {v : ℕ} → (m ≡ 0 → ⊥) → (m ≡ 3 → ⊥) → v ≡ (s.patterns + 1) % 2 ^ 32
      → record { patterns = v; pairs = s.pairs } ≡ seen_at s m
  seen-pattern n0 n3 x = rw (x, ne_eqb m 0 n0, ne_eqb m 3 n3) refl

module _ (k : List ℕ) (m : Machine) (s : Seen) (log : List Event) (asked : m.mode < 4)
    (patterns : s.patterns ≡ counted (begins any_pattern) log) (pairs : s.pairs ≡ counted (begins is_pair) log) where
  -- one more is seen of what is visited
  pub seen-begun : ((p : What → Bool) → counted (begins p) log < 4294967295)
      → ((seen_at s m.mode).patterns ≡ counted (begins any_pattern) (began (visited k m) ∷ log))
      × ((seen_at s m.mode).pairs ≡ counted (begins is_pair) (began (visited k m) ∷ log))
  unfolding counted begins any_pattern is_pair what visit_of
  seen-begun few = go m.mode asked
    where
      go : (n : ℕ) → n < 4
          → ((seen_at s n).patterns ≡ counted (begins any_pattern) (began (what (visit_of n m.x m.y (present k m))) ∷ log))
          × ((seen_at s n).pairs ≡ counted (begins is_pair) (began (what (visit_of n m.x m.y (present k m))) ∷ log))
      go zero l = (omega (arith, patterns), omega (arith, pairs))
      go (suc zero) l = (omega (arith, patterns, few any_pattern), omega (arith, pairs))
      go (suc (suc zero)) l = (omega (arith, patterns, few any_pattern), omega (arith, pairs))
      go (suc (suc (suc zero))) l = (omega (arith, patterns), omega (arith, pairs, few is_pair))
      go (suc (suc (suc (suc n)))) l = absurd (omega arith)
