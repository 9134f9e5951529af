-- Where the table has a pattern's entries, matching and building it end as the definitions on values say.
use mathlib.Core.Path.{◌≡◌, refl, ap, sym, ◌∙◌}
use mathlib.Core.Bool.{Bool, true, false, ◌&&◌}
use mathlib.Core.Option.{Option, none, some}
use mathlib.Core.List.{List, [], ◌∷◌, ◌++◌, map}
use Prim.Native.Nat.{ℕ, suc, ◌+◌}
use native.Mathlib.Omega.{arith}
use lib.Dec.{eqb}
use lib.ListN.{length}
use borrow.Author.Tests.{eqb-true, eq-eqb}
use Rattle.std.specs.Prelude.{if◌then◌else◌}
use Rattle.words.proofs.Tests.{and-true}
use Rattle.meaning.specs.Term.{Term, Terms, node, none as no-terms, more as more-terms, list, con as conOf, kids, mk}
use Rattle.meaning.specs.Compare.{same}
use Rattle.meaning.specs.Table.{Table, PVAR, PCON}
use Rattle.meaning.specs.Rules.{match, build, compare, zip, walk, needed, building, does, Do}
use Rattle.meaning.specs.Derivation.{Out, done, failed}
use Rattle.meaning.specs.System.{Env, Task, Agree, ◌∶◌reads◌, ◌⊢◌⇒◌, match-new, match-same, match-differs, match-con, match-failed, match-other, build-bound, build-con, Each, each_none}
use Rattle.meaning.specs.System.{each_more, Stopped, stopped-here, stopped-later}
use Rattle.meaning.specs.Beginning.{Begun, at-unbound, b-unbound, b-in, b-yes}
use Rattle.meaning.proofs.Tests.{impossible, decided}
use Rattle.meaning.proofs.Terms.{unlist-list}
use Rattle.meaning.proofs.Compare.{verdict, compare-ends}
use Rattle.rules.specs.Rule.{Pat, Pats, var, con, none as no-pats, more as more-pats, count}
use Rattle.rules.specs.Meaning.{meets, and_then, matched, matched_all, Built, yes, lacks, found, both, under, built, built_all}
use Rattle.rules.specs.Entries.{Entry, size, places, pat_entries, pats_entries, Has}
use Rattle.rules.proofs.Sizes.{length-pat, length-places}

-- how a match ends, by the bindings with which it matches
unfoldable pub told : Term → Option Env → Out Term Env
told t none = failed
told t (some b) = done t b

module _ (T : Table) where
  -- entries one after the other
  pub has-append : (e : ℕ) (xs ys : List Entry) → Has T e (xs ++ ys) → Has T e xs × Has T (e + length xs) ys
  unfolding Has
  has-append e [] ys h = let z : e + 0 ≡ e = omega arith in (tt, rw z h)
  has-append e (x ∷ xs) ys (h, hs) =
      let (i, j) = has-append (suc e) xs ys hs in
      let z : suc e + length xs ≡ e + suc (length xs) = omega arith in
      ((h, i), rw z at j)

  -- visits that match, from left to right
  data Walked (qs : List Task) (b : Env) : Option Env → Type 0 where
    stops : Stopped T qs b → Walked qs b none
    walks : {ts : List Term} {b' : Env} → Each T qs b ts b' → Walked qs b (some b')

  walked_more : (q : Task) {qs : List Task} (t : Term) (b : Env) (m : Option Env) (k : Env → Option Env) → T ⊢ q b ⇒ told t m → ((b' : Env) → Walked qs b' (k b')) → Walked (q ∷ qs) b (and_then m k)
  unfolding told and_then
  walked_more q t b none k r f = stops (stopped-here r)
  walked_more q {qs} t b (some b') k r f = go (f b')
    where
      go : {m : Option Env} → Walked qs b' m → Walked (q ∷ qs) b m
      go (stops s) = stops (stopped-later r s)
      go (walks es) = walks (each_more r es)

  -- a variable meets a term
  variable-ends : (e v : ℕ) (t : Term) (b : Env) (o : Option Term) → T ∶ e reads PVAR v → b v ≡ o → T ⊢ match e t b ⇒ told t (meets v o t b)
  unfolding told meets verdict
  variable-ends e v t b none r i = match-new r i refl
  variable-ends e v t b (some g) r i = go (same g t) (compare-ends T g t b)
    where
      go : (x : Bool) → T ⊢ compare g t b ⇒ verdict x t b → T ⊢ match e t b ⇒ told t (if x then some b else none)
      go true c = match-same r i c
      go false c = match-differs r i c

  -- a constructor meets a term, of whose children it is known how they match
  con-ends : (e c : ℕ) (ps : Pats) (d : ℕ) (ts : Terms) (b : Env) → T ∶ e reads PCON c (places (suc e) ps)
      → (count ps ≡ length (list ts) → Walked (zip match (places (suc e) ps) (list ts)) b (matched_all ps ts b))
      → T ⊢ match e (node d ts) b ⇒ told (node d ts) (matched (con c ps) (node d ts) b)
  unfolding matched told list conOf kids
  con-ends e c ps d ts b r f = decided (eqb c d && eqb (count ps) (length (list ts))) agreeing differing
    where
      ends : Agree c (places (suc e) ps) (node d ts) → {m : Option Env} → Walked (zip match (places (suc e) ps) (list ts)) b m → T ⊢ match e (node d ts) b ⇒ told (node d ts) m
      ends a (stops s) = match-failed r a s
      ends a (walks es) = match-con r a es

      agreeing : eqb c d && eqb (count ps) (length (list ts)) ≡ true → T ⊢ match e (node d ts) b ⇒ told (node d ts) (if eqb c d && eqb (count ps) (length (list ts)) then matched_all ps ts b else none)
      agreeing i =
          let (x, y) = and-true (eqb c d) (eqb (count ps) (length (list ts))) i in
          let l = eqb-true (count ps) (length (list ts)) y in
          rw i (ends (eqb-true c d x, length-places (suc e) ps ∙ l) (f l))

      differing : eqb c d && eqb (count ps) (length (list ts)) ≡ false
          → T ⊢ match e (node d ts) b ⇒ told (node d ts) (if eqb c d && eqb (count ps) (length (list ts)) then matched_all ps ts b else none)
      differing i = rw i (match-other {t = node d ts} r (λ a.
          let x = eq-eqb c d a.0 in
          let y = eq-eqb (count ps) (length (list ts)) (sym (length-places (suc e) ps) ∙ a.1) in
          let z : eqb c d && eqb (count ps) (length (list ts)) ≡ true = rw (x, y) in
          impossible (cc)))

  mutual
    unfolding Has pat_entries pats_entries matched matched_all places zip list count

    -- matching ends as `matched` says
    pub match-ends : (p : Pat) (e : ℕ) → Has T e (pat_entries e p) → (t : Term) (b : Env) → T ⊢ match e t b ⇒ told t (matched p t b)
    match-ends (var v) e h t b = variable-ends e v t b (b v) h.0 refl
    match-ends (con c ps) e h (node d ts) b = con-ends e c ps d ts b h.0 (λ l. matches-end ps (suc e) h.1 ts b l)

    matches-end : (ps : Pats) (e : ℕ) → Has T e (pats_entries e ps) → (ts : Terms) (b : Env) → count ps ≡ length (list ts) → Walked (zip match (places e ps) (list ts)) b (matched_all ps ts b)
    matches-end no-pats e h ts b l = walks each_none
    matches-end (more-pats p ps) e h no-terms b l = absurd (omega arith)
    matches-end (more-pats p ps) e h (more-terms t ts) b l =
        let (i, j) = has-append e (pat_entries e p) (pats_entries (e + size p) ps) h in
        walked_more (match e t) t b (matched p t b) (λ b'. matched_all ps ts b') (match-ends p e i t b)
        (λ b'. matches-end ps (e + size p) (rw (length-pat e p) at j) ts b' (omega arith))

  -- ---- building

  -- a build of which it is known what it builds
  pub data Builds (e : ℕ) (t : Term) (b : Env) : Built Term → Type 0 where
    builds : {g : Term} → T ⊢ build e t b ⇒ done g b → Builds e t b (yes g)
    wants : {v : ℕ} → Begun T (does T (build e t b)) (at-unbound v) → Builds e t b (lacks v)

  -- builds from left to right
  data BuildsAll (qs : List Task) (b : Env) : Built Terms → Type 0 where
    builds-all : {ts : Terms} → Each T qs b (list ts) b → BuildsAll qs b (yes ts)
    wants-one : {v : ℕ} → ((gs : List Term) (k : List Term → Env → Do Term) → Begun T (walk qs gs b k) (at-unbound v)) → BuildsAll qs b (lacks v)

  builds-more : (e : ℕ) (t : Term) (b : Env) (qs : List Task) {m : Built Term} {n : Built Terms} → Builds e t b m → BuildsAll qs b n → BuildsAll (build e t ∷ qs) b (both m n)
  unfolding both walk list
  builds-more e t b qs (wants c) n = wants-one (λ gs k. b-in c)
  builds-more e t b qs (builds r) (wants-one c) = wants-one (λ gs k. b-yes r (c _ k))
  builds-more e t b qs (builds r) (builds-all es) = builds-all (each_more r es)

  variable-builds : (e v : ℕ) (t : Term) (b : Env) (o : Option Term) → T ∶ e reads PVAR v → b v ≡ o → Builds e t b (found v o)
  unfolding found does building needed
  variable-builds e v t b none r i = wants {v = v} (rw (r, i) b-unbound)
  variable-builds e v t b (some g) r i = builds (build-bound r i)

  con-builds : (e c : ℕ) (xs : List ℕ) (t : Term) (b : Env) {n : Built Terms} → T ∶ e reads PCON c xs → BuildsAll (map (λ x. build x t) xs) b n → Builds e t b (under c n)
  unfolding under does building mk
  con-builds e c xs t b r (builds-all {ts = ts} es) = builds (build-con r es (ap (node c) (sym (unlist-list ts))))
  con-builds e c xs t b r (wants-one {v = v} f) = wants {v = v} (rw r (f [] _))

  mutual
    unfolding Has pat_entries pats_entries built built_all places list

    -- building ends as `built` says
    pub build_ends : (p : Pat) (e : ℕ) → Has T e (pat_entries e p) → (t : Term) (b : Env) → Builds e t b (built p b)
    build_ends (var v) e h t b = variable-builds e v t b (b v) h.0 refl
    build_ends (con c ps) e h t b = con-builds e c (places (suc e) ps) t b h.0 (builds-end ps (suc e) h.1 t b)

    builds-end : (ps : Pats) (e : ℕ) → Has T e (pats_entries e ps) → (t : Term) (b : Env) → BuildsAll (map (λ x. build x t) (places e ps)) b (built_all ps b)
    builds-end no-pats e h t b = builds-all each_none
    builds-end (more-pats p ps) e h t b =
        let (i, j) = has-append e (pat_entries e p) (pats_entries (e + size p) ps) h in
        builds-more e t b (map (λ x. build x t) (places (e + size p) ps)) (build_ends p e i t b) (builds-end ps (e + size p) (rw (length-pat e p) at j) t b)
