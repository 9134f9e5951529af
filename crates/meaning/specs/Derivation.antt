-- What a run does, in order, and what document 01 counts of it; and derivations by plans.
use Rattle.std.specs.Prelude.{Bool, true, false, List, [], ◌∷◌, ◌++◌, ℕ, suc, ◌+◌, max}
use Rattle.meaning.specs.Term.{Term, con as conOf, kids as kidsOf, mk as mkOf}
use Rattle.meaning.specs.Rules.{Visit, apply, match, build, compare}
use Rattle.meaning.specs.Plan.{Keep, keep, drop, Plan, ret, fail, miss, look, make, ask}

-- what comes of a visit: a new state, or failure, which has no bindings of its own
pub data Out (H B : Type 0) : Type 0 where
  done : H → B → Out H B
  failed : Out H B

-- what is visited: an entry as a strategy, a pattern, a pair
pub data What : Type 0 where
  entry pattern : ℕ → What
  pair : What

-- what a visit visits
unfoldable pub what : {H : Type 0} → Visit H → What
what (apply x h b) = entry x
what (match p h b) = pattern p
what (build p h b) = pattern p
what (compare g h b) = pair

-- how a visit went: it succeeded and its nodes stay, or are given back; it failed; it has begun and not ended
pub data Fate : Type 0 where
  stays goes fails in-flight : Fate

-- how a visit went that succeeded
unfoldable pub fate : Keep → Fate
fate keep = stays
fate drop = goes

-- nodes made and visits asked for, in order; a visit with what it is and how it went, and with what it did itself; at the end
-- the pattern at which a match gives up
pub data Trace : Type 0 where
  over : Trace
  missed : ℕ → Trace
  node : Trace → Trace
  visit : What → Fate → Trace → Trace → Trace

-- the nodes that stay of n
unfoldable pub staying : Fate → ℕ → ℕ
staying stays n = n
staying goes n = 0
staying fails n = 0
staying in-flight n = n

-- the visits counted
unfoldable pub visits : Trace → ℕ
visits over = 0
visits (missed p) = 0
visits (node t) = visits t
visits (visit w k s t) = suc (visits s + visits t)

-- the deepest nesting
unfoldable pub depth : Trace → ℕ
depth over = 0
depth (missed p) = 0
depth (node t) = depth t
depth (visit w k s t) = max (suc (depth s)) (depth t)

-- the nodes that are left at the end
unfoldable pub left : Trace → ℕ
left over = 0
left (missed p) = 0
left (node t) = suc (left t)
left (visit w k s t) = staying k (left s) + left t

-- the most nodes at one time
unfoldable pub most : Trace → ℕ
most over = 0
most (missed p) = 0
most (node t) = suc (most t)
most (visit w k s t) = max (most s) (staying k (left s) + most t)

-- what a run notes on its way, which no failure takes back: a match that gives up, a visit that begins, and one that ends
pub record Notes (N : Type 0) : Type 0 where
  pub missed : ℕ → N → N
  pub begins : What → N → N
  pub ends : What → Bool → N → N

-- notes of nothing
abbrev pub quiet : Notes (Unit {0})
quiet = record { missed = λ p n. n; begins = λ w n. n; ends = λ w t n. n }

-- notes of the last match that gave up: its pattern
abbrev pub places : Notes ℕ
places = record { missed = λ p n. p; begins = λ w n. n; ends = λ w t n. n }

-- the place of a run in which no match gives up: no table has such an entry
abbrev pub nowhere : ℕ
nowhere = 4096

-- what happens to a visit: it begins; it ends, with success or not
pub data Event : Type 0 where
  began : What → Event
  ended : What → Bool → Event

-- notes of the last match that gave up and, beside it, of all that happened to visits, the latest first
abbrev pub history : Notes (ℕ × List Event)
history = record { missed = λ p n. (p, n.1); begins = λ w n. (n.0, began w ∷ n.1); ends = λ w t n. (n.0, ended w t ∷ n.1) }

-- a visit's end is noted
unfoldable pub shut : {N : Type 0} → Notes N → What → Fate → N → N
shut Λ w stays n = Λ.ends w true n
shut Λ w goes n = Λ.ends w true n
shut Λ w fails n = Λ.ends w false n
shut Λ w in-flight n = n

-- what is noted of a trace
unfoldable pub noted : {N : Type 0} → Notes N → Trace → N → N
noted Λ over n = n
noted Λ (missed p) n = Λ.missed p n
noted Λ (node t) n = noted Λ t n
noted Λ (visit w f s t) n = noted Λ t (shut Λ w f (noted Λ s (Λ.begins w n)))

-- the patterns at which a match gives up, in the order of time; the last of them, n where there is none
unfoldable pub misses : Trace → List ℕ
misses over = []
misses (missed p) = p ∷ []
misses (node t) = misses t
misses (visit w f s t) = misses s ++ misses t

unfoldable pub last_of : ℕ → List ℕ → ℕ
last_of n [] = n
last_of n (p ∷ ps) = last_of p ps

-- terms as values
pub record Values (H Q : Type 0) : Type 0 where
  pub con : H → ℕ
  pub kids : H → List H
  pub mk : ℕ → List H → H
  pub name : Q → What

abbrev pub terms : Values Term (Visit Term)
terms = record { con = conOf; kids = kidsOf; mk = mkOf; name = what }

module _ {H B Q : Type 0} (W : Values H Q) (R : Q → Plan H B Q) where
  -- a derivation by plans: a finite tree of visits, over terms as values; no limit belongs to it
  pub data Der : Plan H B Q → Out H B → Type 0 where
    d-ret : {h : H} {b : B} → Der (ret h b) (done h b)
    d-fail : Der fail failed
    d-miss : {p : ℕ} → Der (miss p) failed
    d-look : {h : H} {k : ℕ → List H → Plan H B Q} {o : Out H B} → Der (k (W.con h) (W.kids h)) o → Der (look h k) o
    d-make : {c : ℕ} {hs : List H} {k : H → Plan H B Q} {o : Out H B} → Der (k (W.mk c hs)) o → Der (make c hs k) o
    d-yes : {t : Keep} {q : Q} {k : H → B → Plan H B Q} {p : Plan H B Q} {h : H} {b : B} {o : Out H B} → Der (R q) (done h b) → Der (k h b) o → Der (ask t q k p) o
    d-no : {t : Keep} {q : Q} {k : H → B → Plan H B Q} {p : Plan H B Q} {o : Out H B} → Der (R q) failed → Der p o → Der (ask t q k p) o

module _ {H B Q : Type 0} {W : Values H Q} {R : Q → Plan H B Q} where
  -- what it does; a visit that fails gives its nodes back
  unfoldable pub trace : {p : Plan H B Q} {o : Out H B} → Der W R p o → Trace
  trace d-ret = over
  trace d-fail = over
  trace (d-miss {p = p}) = missed p
  trace (d-look d) = trace d
  trace (d-make d) = node (trace d)
  trace (d-yes {t = t} {q = q} d e) = visit (W.name q) (fate t) (trace d) (trace e)
  trace (d-no {q = q} d e) = visit (W.name q) fails (trace d) (trace e)
