-- Two stores go together: where they look alike, make nodes alike and give room back alike, related visits end alike by any
-- table. Of `Loose` stores the second may be cut off by room where the first is not, and of `Early` ones the first where the second is not.
use mathlib.Core.Path.{◌≡◌, subst}
use mathlib.Core.Bool.{true, false}
use mathlib.Core.List.{List}
use Prim.Native.Nat.{ℕ, zero, suc}
use lib.ListN.{length}
use Rattle.meaning.specs.Bindings.{Bindings}
use Rattle.meaning.specs.Table.{Table}
use Rattle.meaning.specs.Plan.{keep, drop}
use Rattle.meaning.specs.Rules.{Visit, Do, does}
use Rattle.meaning.specs.Limits.{Limit, room, Store, Res, ended, lost, cut, room_for, settled, after, closed, run_plan, run}
use Rattle.meaning.proofs.Alike.{Makeable, Worlds, LRel, BRel, QRel, PRel, p-ret, p-fail, p-miss, p-stuck, p-look, p-make, p-ask, p-test, p-does}

module _ {H G S S' L L' : Type 0} (K : Worlds H G) (M : Store H (Visit H) S L) (M' : Store G (Visit G) S' L') (Early Loose : Type 0) (At : K.World → S → S' → Type 0) where
  -- one node more: in both, in neither, or one is full where it may be
  pub data Makes (v : K.World) (s : S) (s' : S') (c : ℕ) (hs : List H) (gs : List G) : Type 0 where
    both-make : {v' : K.World} → M.full s c hs ≡ false → M'.full s' c gs ≡ false → K.Ext v v' → At v' (M.put s c hs) (M'.put s' c gs)
        → K.Rel v' (M.new s c hs) (M'.new s' c gs) → Makes v s s' c hs gs
    both-full : M.full s c hs ≡ true → M'.full s' c gs ≡ true → Makes v s s' c hs gs
    first-full : Early → M.full s c hs ≡ true → Makes v s s' c hs gs
    second-full : Loose → M'.full s' c gs ≡ true → Makes v s s' c hs gs

-- what a world relates: `At` states, `Over` what failures and cut-offs leave
pub record Simulation {H G S S' L L' : Type 0} (K : Worlds H G) (M : Store H (Visit H) S L) (M' : Store G (Visit G) S' L') (Early Loose : Type 0) : Type 1 where
  pub At : K.World → S → S' → Type 0
  pub Over : K.World → L → L' → Type 0
  pub same-con : {v : K.World} {s : S} {s' : S'} {h : H} {g : G} → At v s s' → K.Rel v h g → M.con s h ≡ M'.con s' g
  pub same-kids : {v : K.World} {s : S} {s' : S'} {h : H} {g : G} → At v s s' → K.Rel v h g → LRel K v (M.kids s h) (M'.kids s' g)
  pub holds : {v : K.World} {s : S} {s' : S'} {h : H} {g : G} → At v s s' → K.Rel v h g → K.Had (M.con s h) (length (M.kids s h))
  pub makes : {v : K.World} {s : S} {s' : S'} (c : ℕ) (hs : List H) (gs : List G) → At v s s' → K.Had c (length hs) → LRel K v hs gs → Makes K M M' Early Loose At v s s' c hs gs
  pub leaves : {v : K.World} {s : S} {s' : S'} → At v s s' → Over v (M.left s) (M'.left s')
  pub sooner : {v v' : K.World} {l : L} {l' : L'} → K.Ext v v' → Over v' l l' → Over v l l'
  pub backs : {v : K.World} {s : S} {s' : S'} {l : L} {l' : L'} → At v s s' → Over v l l' → (v' : K.World) × K.Ext v v' × At v' (M.back s l) (M'.back s' l')
  pub misses : {v : K.World} {s : S} {s' : S'} (p : ℕ) → At v s s' → At v (M.missed p s) (M'.missed p s')
  pub begins : {v : K.World} {s : S} {s' : S'} {q : Visit H} {q' : Visit G} → QRel K v q q' → At v s s' → At v (M.begins q s) (M'.begins q' s')
  pub ends : {v v' : K.World} {s : S} {s' : S'} {q : Visit H} {q' : Visit G} → QRel K v q q' → At v' s s' → At v' (M.ends q s) (M'.ends q' s')
  pub fails : {v : K.World} {l : L} {l' : L'} {q : Visit H} {q' : Visit G} → QRel K v q q' → Over v l l' → Over v (M.fails q l) (M'.fails q' l')

module _ {H G S S' L L' : Type 0} {K : Worlds H G} {M : Store H (Visit H) S L} {M' : Store G (Visit G) S' L'} {Early Loose : Type 0} (A : Simulation K M M' Early Loose) where
  abbrev Ran : Type 0
  Ran = Res H (Bindings H) S L

  abbrev Ran' : Type 0
  Ran' = Res G (Bindings G) S' L'

  -- two runs end alike
  pub data Ends (v : K.World) : Ran → Ran' → Type 0 where
    e-ended : {v' : K.World} {s : S} {s' : S'} {h : H} {g : G} {b : Bindings H} {c : Bindings G} {u : ℕ} → K.Ext v v' → A.At v' s s'
        → K.Rel v' h g → BRel K v' b c → Ends v (ended h b s u) (ended g c s' u)
    e-lost : {l : L} {l' : L'} {u : ℕ} → A.Over v l l' → Ends v (lost l u) (lost l' u)
    e-cut : {x : Limit} {l : L} {l' : L'} {u : ℕ} → A.Over v l l' → Ends v (cut x l u) (cut x l' u)
    e-early : {l : L} {r' : Ran'} {u : ℕ} → Early → Ends v (cut room l u) r'
    e-room : {r : Ran} {l' : L'} {u : ℕ} → Loose → Ends v r (cut room l' u)

  sooner-ends : {v v' : K.World} {r : Ran} {r' : Ran'} → K.Ext v v' → Ends v' r r' → Ends v r r'
  sooner-ends e (e-ended f a n s) = e-ended (K.ext_trans e f) a n s
  sooner-ends e (e-lost o) = e-lost (A.sooner e o)
  sooner-ends e (e-cut o) = e-cut (A.sooner e o)
  sooner-ends e (e-early z) = e-early z
  sooner-ends e (e-room z) = e-room z

  -- what is asked for ends alike
  abbrev pub Together : (Visit H → S → ℕ → Ran) → (Visit G → S' → ℕ → Ran') → Type 0
  Together ev ev' = (v : K.World) (q : Visit H) (q' : Visit G) (s : S) (s' : S') (u : ℕ) → QRel K v q q' → A.At v s s' → Ends v (ev q s u) (ev' q' s' u)

  module _ {v : K.World} {s : S} {s' : S'} (a : A.At v s s') (f : H → Bindings H → S → ℕ → Ran) (f' : G → Bindings G → S' → ℕ → Ran') (g : S → ℕ → Ran) (g' : S' → ℕ → Ran')
      (no : (v' : K.World) (t : S) (t' : S') (u : ℕ) → K.Ext v v' → A.At v' t t' → Ends v' (g t u) (g' t' u)) where
    not-then : {l : L} {l' : L'} (u : ℕ) → A.Over v l l' → Ends v (g (M.back s l) u) (g' (M'.back s' l') u)
    not-then u o = let (v', e, b) = A.backs a o in sooner-ends e (no v' _ _ u e b)

    kept-ends : {r : Ran} {r' : Ran'} → ((v' : K.World) (h : H) (k : G) (b : Bindings H) (c : Bindings G) (t : S) (t' : S') (u : ℕ)
        → K.Ext v v' → K.Rel v' h k → BRel K v' b c → A.At v' t t' → Ends v' (f h b t u) (f' k c t' u))
        → Ends v r r' → Ends v (after M keep s r f g) (after M' keep s' r' f' g')
    unfolding after settled
    kept-ends yes-then (e-ended {v' = v'} {u = u} e b n z) = sooner-ends e (yes-then v' _ _ _ _ _ _ u e n z b)
    kept-ends yes-then (e-lost {u = u} o) = not-then u o
    kept-ends yes-then (e-cut o) = e-cut o
    kept-ends yes-then (e-early z) = e-early z
    kept-ends yes-then (e-room z) = e-room z

    dropped-ends : {r : Ran} {r' : Ran'} → ((v' : K.World) (h : H) (k : G) (b : Bindings H) (c : Bindings G) (t : S) (t' : S') (u : ℕ)
        → K.Ext v v' → A.At v' t t' → Ends v' (f h b t u) (f' k c t' u))
        → Ends v r r' → Ends v (after M drop s r f g) (after M' drop s' r' f' g')
    unfolding after settled
    dropped-ends yes-then (e-ended {u = u} e b n z) = let (v', e', b') = A.backs a (A.sooner e (A.leaves b)) in sooner-ends e' (yes-then v' _ _ _ _ _ _ u e' b')
    dropped-ends yes-then (e-lost {u = u} o) = not-then u o
    dropped-ends yes-then (e-cut o) = e-cut o
    dropped-ends yes-then (e-early z) = e-early z
    dropped-ends yes-then (e-room z) = e-room z

  -- related plans end alike where the visits do
  plan-ends : (ev : Visit H → S → ℕ → Ran) (ev' : Visit G → S' → ℕ → Ran') → Together ev ev'
      → {v : K.World} {p : Do H} {p' : Do G} {s : S} {s' : S'} → PRel K v p p' → A.At v s s' → (u : ℕ)
      → Ends v (run_plan M ev p s u) (run_plan M' ev' p' s' u)
  unfolding run_plan room_for
  plan-ends ev ev' z {v} (p-ret n b) a u = e-ended (K.ext_refl v) a n b
  plan-ends ev ev' z p-fail a u = e-lost (A.leaves a)
  plan-ends ev ev' z (p-miss p) a u = e-lost (A.leaves (A.misses p a))
  plan-ends ev ev' z (p-stuck y) a u = e-cut (A.leaves a)
  plan-ends ev ev' z {v} {s = s} {s' = s'} (p-look {h = h} {g = g} {k = k} {k' = k'} n f) a u =
      subst (λ c. Ends v (run_plan M ev (k (M.con s h) (M.kids s h)) s u) (run_plan M' ev' (k' c (M'.kids s' g)) s' u)) (A.same-con a n)
      (plan-ends ev ev' z (f (M.con s h) (M.kids s h) (M'.kids s' g) (A.holds a n) (A.same-kids a n)) a u)
  plan-ends ev ev' z {v} {s = s} {s' = s'} (p-make {c = c} {hs = hs} {gs = gs} {k = k} {k' = k'} o l f) a u =
      go (λ v' e b n. plan-ends ev ev' z (f v' (M.new s c hs) (M'.new s' c gs) e n) b u) (A.makes c hs gs a o l)
    where
      go : ((v' : K.World) → K.Ext v v' → A.At v' (M.put s c hs) (M'.put s' c gs) → K.Rel v' (M.new s c hs) (M'.new s' c gs)
          → Ends v' (run_plan M ev (k (M.new s c hs)) (M.put s c hs) u) (run_plan M' ev' (k' (M'.new s' c gs)) (M'.put s' c gs) u))
          → Makes K M M' Early Loose A.At v s s' c hs gs
          → Ends v (room_for (M.full s c hs) (M.left s) u (run_plan M ev (k (M.new s c hs)) (M.put s c hs) u))
          (room_for (M'.full s' c gs) (M'.left s') u (run_plan M' ev' (k' (M'.new s' c gs)) (M'.put s' c gs) u))
      go y (both-make {v' = v'} x x' e b n) = rw (x, x') (sooner-ends e (y v' e b n))
      go y (both-full x x') = rw (x, x') (e-cut (A.leaves a))
      go y (first-full w x) = rw x (e-early w)
      go y (second-full w x') = rw x' (e-room w)
  plan-ends ev ev' z (p-ask r f g) a u =
      kept-ends a _ _ _ _ (λ v' t t' u' e b. plan-ends ev ev' z (g v' e) b u') (λ v' h k b c t t' u' e n y x. plan-ends ev ev' z (f v' h k b c e n y) x u') (z _ _ _ _ _ u r a)
  plan-ends ev ev' z (p-test r f g) a u =
      dropped-ends a _ _ _ _ (λ v' t t' u' e b. plan-ends ev ev' z (g v' e) b u') (λ v' h k b c t t' u' e x. plan-ends ev ev' z (f v' h k b c e) x u') (z _ _ _ _ _ u r a)

  closed-ends : {v : K.World} {q : Visit H} {q' : Visit G} {r : Ran} {r' : Ran'} → QRel K v q q' → Ends v r r' → Ends v (closed M q r) (closed M' q' r')
  unfolding closed
  closed-ends w (e-ended e a n s) = e-ended e (A.ends w a) n s
  closed-ends w (e-lost o) = e-lost (A.fails w o)
  closed-ends w (e-cut o) = e-cut o
  closed-ends w (e-early z) = e-early z
  closed-ends w (e-room z) = e-room z

  -- at every nesting
  pub simulates : (T : Table) → Makeable K.Had T → (n : ℕ) → Together (run M (does T) n) (run M' (does T) n)
  unfolding run
  simulates T o zero v q₀ q₁ s s' zero q a = e-cut (A.leaves a)
  simulates T o zero v q₀ q₁ s s' (suc u) q a = e-cut (A.leaves a)
  simulates T o (suc n) v q₀ q₁ s s' zero q a = e-cut (A.leaves a)
  simulates T o (suc n) v q₀ q₁ s s' (suc u) q a = closed-ends q (plan-ends (run M (does T) n) (run M' (does T) n) (simulates T o n) (p-does T o q) (A.begins q a) u)
