-- The rules of a run, once: the plan of each kind of visit, over whatever stands for terms.
use Rattle.std.specs.Prelude.{Bool, true, false, ◌&&◌, List, [], ◌∷◌, ◌++◌, map, ℕ, zero, suc, eqb, length}
use Rattle.std.proofs.Math.Option.{Option, none, some}
use Rattle.meaning.specs.Bindings.{Bindings, unbound, bind, masked}
use Rattle.meaning.specs.Table.{Strategy, ID, FAIL, TEST, NOT, SEQ, CHOICE, LEFT, REC, CALL, PATH, CONG, ALL, ONE, SOME, MATCH, BUILD, SCOPE, WHERE, Pattern, PVAR, PCON, Table}
use Rattle.meaning.specs.Plan.{keep, drop, Plan, ret, fail, miss, stuck, look, make, ask}

-- a visit: an entry applied as a strategy, a pattern position met by MATCH or by BUILD, a pair of terms compared
pub data Visit (H : Type 0) : Type 0 where
  apply : ℕ → H → Bindings H → Visit H
  match : ℕ → H → Bindings H → Visit H
  build : ℕ → H → Bindings H → Visit H
  compare : H → H → Bindings H → Visit H

abbrev pub Do : Type 0 → Type 0
Do H = Plan H (Bindings H) (Visit H)

-- child i, counted from 1; the children with g in its place
unfoldable pub nth : {H : Type 0} → List H → ℕ → Option H
nth [] i = none
nth (h ∷ hs) zero = none
nth (h ∷ hs) (suc zero) = some h
nth (h ∷ hs) (suc (suc i)) = nth hs (suc i)

unfoldable pub put : {H : Type 0} → List H → ℕ → H → List H
put [] i g = []
put (h ∷ hs) zero g = h ∷ hs
put (h ∷ hs) (suc zero) g = g ∷ hs
put (h ∷ hs) (suc (suc i)) g = h ∷ put hs (suc i) g

-- f of the first of each, of the second of each, and so on
unfoldable pub zip : {A B C : Type 0} → (A → B → C) → List A → List B → List C
zip f [] ys = []
zip f (x ∷ xs) [] = []
zip f (x ∷ xs) (y ∷ ys) = f x y ∷ zip f xs ys

-- constructor and count agree
unfoldable pub agree : {A B : Type 0} → ℕ → List A → ℕ → List B → Bool
agree c xs d ys = eqb c d && eqb (length xs) (length ys)

module _ {H : Type 0} where
  unfoldable pub when : Bool → Do H → Do H
  when true p = p
  when false p = fail

  unfoldable pub given : Option H → (H → Do H) → Do H
  given none k = fail
  given (some g) k = k g

  -- a term without children is returned itself; any other is made anew
  unfoldable pub again : H → ℕ → List H → Bindings H → Do H
  again h c [] b = ret h b
  again h c (g ∷ gs) b = make c (g ∷ gs) (λ n. ret n b)

  -- visits from left to right, each starting with the bindings left by the last; gs: the terms that they have given
  unfoldable pub walk : List (Bindings H → Visit H) → List H → Bindings H → (List H → Bindings H → Do H) → Do H
  walk [] gs b k = k gs b
  walk (q ∷ qs) gs b k = ask keep (q b) (λ g b'. walk qs (gs ++ (g ∷ [])) b' k) fail

  -- the leftmost child that succeeds; gs: the children before
  unfoldable pub one_of : ℕ → List H → List H → Bindings H → (List H → Bindings H → Do H) → Do H
  one_of x gs [] b k = fail
  one_of x gs (h ∷ hs) b k = ask keep (apply x h b) (λ h' b'. k (gs ++ (h' ∷ hs)) b') (one_of x (gs ++ (h ∷ [])) hs b k)

  -- every child, and a child is kept where it fails; gs: the children before; t: one of them has succeeded
  unfoldable pub some_of : ℕ → Bool → List H → List H → Bindings H → (List H → Bindings H → Do H) → Do H
  some_of x t gs [] b k = when t (k gs b)
  some_of x t gs (h ∷ hs) b k = ask keep (apply x h b) (λ h' b'. some_of x true (gs ++ (h' ∷ [])) hs b' k) (some_of x t (gs ++ (h ∷ [])) hs b k)

  -- an entry applied as a strategy
  unfoldable pub strategy : Strategy → H → Bindings H → Do H
  strategy ID h b = ret h b
  strategy FAIL h b = fail
  strategy (TEST x) h b = ask drop (apply x h b) (λ h' b'. ret h b) fail
  strategy (NOT x) h b = ask keep (apply x h b) (λ h' b'. fail) (ret h b)
  strategy (SEQ x y) h b = ask keep (apply x h b) (λ h' b'. ask keep (apply y h' b') ret fail) fail
  strategy (CHOICE x y) h b = ask keep (apply x h b) ret (ask keep (apply y h b) ret fail)
  strategy (LEFT x y) h b = ask keep (apply x h b) ret (ask keep (apply y h b) ret fail)
  strategy (REC x) h b = ask keep (apply x h b) ret fail
  strategy (CALL x) h b = ask keep (apply x h b) ret fail
  strategy (PATH i x) h b = look h (λ c hs. given (nth hs i) (λ g. ask keep (apply x g b) (λ g' b'. again h c (put hs i g') b') fail))
  strategy (CONG c xs) h b = look h (λ d hs. when (agree c xs d hs) (walk (zip apply xs hs) [] b (again h d)))
  strategy (ALL x) h b = look h (λ c hs. walk (map (apply x) hs) [] b (again h c))
  strategy (ONE x) h b = look h (λ c hs. one_of x [] hs b (again h c))
  strategy (SOME x) h b = look h (λ c hs. some_of x false [] hs b (again h c))
  strategy (MATCH p) h b = ask keep (match p h b) ret fail
  strategy (BUILD p) h b = ask keep (build p h b) ret fail
  strategy (SCOPE m x) h b = ask keep (apply x h (masked m unbound b)) (λ h' b'. ret h' (masked m b b')) fail
  strategy (WHERE x) h b = ask keep (apply x h b) (λ h' b'. ret h b') fail

  -- a pattern position met by MATCH: an unbound variable is bound, a bound one needs an equal term
  unfoldable pub variable : ℕ → Option H → ℕ → H → Bindings H → Do H
  variable p none v h b = ret h (bind v h b)
  variable p (some g) v h b = ask keep (compare g h b) ret (miss p)

  -- a match gives up at the pattern p unless the test holds
  unfoldable pub when_at : ℕ → Bool → Do H → Do H
  when_at p true k = k
  when_at p false k = miss p

  unfoldable pub matching : ℕ → Pattern → H → Bindings H → Do H
  matching p (PVAR v) h b = variable p (b v) v h b
  matching p (PCON c ps) h b = look h (λ d hs. when_at p (agree c ps d hs) (walk (zip match ps hs) [] b (λ gs b'. ret h b')))

  -- what BUILD needs of variable v: its term; where it has no binding the run ends
  unfoldable pub needed : ℕ → Option H → (H → Do H) → Do H
  needed v none k = stuck v
  needed v (some g) k = k g

  -- a pattern position met by BUILD
  unfoldable pub building : Pattern → H → Bindings H → Do H
  building (PVAR v) h b = needed v (b v) (λ g. ret g b)
  building (PCON c ps) h b = walk (map (λ p. build p h) ps) [] b (λ gs b'. make c gs (λ n. ret n b'))

  -- a pair of terms compared
  unfoldable pub comparing : H → H → Bindings H → Do H
  comparing g h b = look g (λ c gs. look h (λ d hs. when (agree c gs d hs) (walk (zip compare gs hs) [] b (λ ks b'. ret h b'))))

  -- the plan of a visit, by the table T
  unfoldable pub does : Table → Visit H → Do H
  does T (apply x h b) = strategy (T.strategies x) h b
  does T (match p h b) = matching p (T.patterns p) h b
  does T (build p h b) = building (T.patterns p) h b
  does T (compare g h b) = comparing g h b
