-- What stays steady: a store that is good below its mark, with node and bindings below it, is so again after every visit.
use mathlib.Core.Path.{◌≡◌, refl, sym, ◌∙◌, subst}
use mathlib.Core.Bool.{Bool, true, false}
use mathlib.Core.List.{List, [], ◌∷◌}
use Prim.Native.Nat.{ℕ, zero, suc, ◌+◌, ◌-◌, ◌*◌, ◌<◌}
use native.Mathlib.Omega.{arith}
use lib.Dec.{leb}
use lib.ListN.{length, get_or, length-take, get_or-eq_default}
use borrow.Author.Tests.{leb-true, leb-false}
use Rattle.words.specs.Words.{word_at}
use Rattle.checks.specs.Good.{kind_of, argument_of}
use Rattle.meaning.specs.Bindings.{Bindings}
use Rattle.meaning.specs.Table.{PVAR, PCON, operands, table, table_by}
use Rattle.meaning.specs.Rules.{apply, build}
use Rattle.meaning.specs.Derivation.{places}
use Rattle.meaning.specs.Limits.{ended}
use Rattle.state.specs.Noted.{Standing, back_to, on, Ran}
use Rattle.meaning.specs.Demands.{Kept, Leaves}
use Rattle.meaning.proofs.Alike.{Holdable, Makeable}
use Rattle.meaning.proofs.Checked.{Node, node-of-good, good-of-node}
use Rattle.meaning.proofs.Words.{kept_word, same-node}
use Rattle.index.specs.Run.{Fits, Fitting, SameRoom}
use Rattle.index.proofs.Running.{mark-small, apply-left, apply-same-room, build-left}
use Rattle.state.specs.declared.answers.Answer.{Answer}
use Rattle.state.specs.declared.answers.Answer.TheVariants.{Done, Failed}
use Rattle.state.specs.Answers.{answer_of}
use Rattle.state.specs.Record.{notes_of, standing, missing, held}
use Rattle.state.specs.Visits.{visit, meaning, out, Entries, Steady}
use Rattle.state.proofs.AnswerWords.{out-answer}
use Rattle.state.proofs.Holding.{further, mark-missing, lasting-missing}

-- an entry with a first word lies inside the table
inside : (t : List ℕ) (e : ℕ) → length t ≡ 32768 → 0 < word_at t e 0 → e < 4096
inside t e l h = go (leb (length t) (8 * e + 0)) refl
  where
    go : (b : Bool) → leb (length t) (8 * e + 0) ≡ b → e < 4096
    go true q = absurd (omega (arith, get_or-eq_default t 0 (leb-true (length t) (8 * e + 0) q)))
    go false q = omega (arith, leb-false (length t) (8 * e + 0) q)

-- every pattern of the table can be made
pub makeable : (t : List ℕ) → Entries t → Makeable Holdable (table t)
unfolding table_by
makeable t n e a ps q = go (kind_of t e - 18) refl q
  where
    go : (d : ℕ) → kind_of t e - 18 ≡ d → get_or (PVAR (argument_of t e) ∷ PCON (argument_of t e) (operands t e) ∷ []) d (PVAR 0) ≡ PCON
        a ps → Holdable a (length ps)
    go zero k q = let z : ◌≡◌ {A = ℕ} 0 1 = cc in absurd (omega arith)
    go (suc zero) k q =
        let x : argument_of t e ≡ a = cc in
        let y : operands t e ≡ ps = cc in
        let i : e < 4096 = inside t e n.long (omega arith) in
        record { constructor = omega (arith, n.constructor e i (omega arith)); count = rw (← y) (simp length-take (omega arith)) }
    go (suc (suc d)) k q = let z : ◌≡◌ {A = ℕ} 0 1 = cc in absurd (omega arith)

-- what a run leaves of a store that is steady: it is so again, with the new mark or with the mark of before
abbrev pub LeavesFitting : List ℕ → Standing → Ran → Type 0
LeavesFitting w m r = Leaves w m.mark r × Fitting m.mark r

module _ {w : List ℕ} {m : Standing} {b : Bindings ℕ} (s : Steady w m b) where
  nodes : (k : ℕ) → k < m.mark → Node w k
  nodes k h = node-of-good w k (s.good k h)

  -- what a visit leaves: of an entry applied, and of a pattern built
  pub apply-leaves : (t : List ℕ) → Entries t → (n e k u : ℕ) → k < m.mark → LeavesFitting w m (visit t n (apply e k b) w m u)
  unfolding visit
  apply-leaves t n d e k u h = apply-left places (table t) (makeable t n) m.notes.room m.notes.nodes w m.mark
      m.notes.top s.fits nodes b s.bound k h e d m.notes.notes u

  pub apply-rooms : (t : List ℕ) → Entries t → (n e k u : ℕ) → k < m.mark →
      SameRoom m.notes.room m.notes.nodes (visit t n (apply e k b) w m u)
  unfolding visit
  apply-rooms t n d e k u h = apply-same-room places (table t) (makeable t n) m.notes.room m.notes.nodes w m.mark
      m.notes.top s.fits nodes b s.bound k h e d m.notes.notes u

  pub build-leaves : (t : List ℕ) → Entries t → (n p k u : ℕ) → k < m.mark → LeavesFitting w m (visit t n (build p k b) w m u)
  unfolding visit
  build-leaves t n d p k u h = build-left places (table t) (makeable t n) m.notes.room m.notes.nodes w m.mark
      m.notes.top s.fits nodes b s.bound k h p d m.notes.notes u

  -- the store may change above the mark, where it fits still
  pub steady_kept : {w' : List ℕ} (m' : Standing) → Kept w m.mark w' → Fits w' m.mark m'.notes → Steady w' (back_to m m') b
  steady_kept {w'} m' p f = record {
    fits = f;
    used = s.used;
    good = λ j h. good-of-node w' j (same-node w w' j (λ x l. kept_word p j x h l) (nodes j h));
    bound = s.bound;
  }

  -- after a success the new store is steady, and the new node lies in it
  pub steady-after : (w' : List ℕ) (m' : Standing) (k v : ℕ) (b' : Bindings ℕ) → LeavesFitting w m (ended k b' (on w' m') v) →
      Steady w' m' b'
  steady-after w' m' k v b' (l, f) = record { fits = f; used = omega (arith, l.0, s.used); good = l.2.good; bound = l.2.bound }

-- where a match gave up is of no account
pub steady-missing : {w : List ℕ} {b : Bindings ℕ} (st : List ℕ) (p : ℕ) → Steady w (standing st) b → Steady w (standing (missing st p)) b
steady-missing {w} st p s = record {
  fits = subst (λ (m : Standing). Fits w m.mark m.notes) (sym (lasting-missing further st p)) s.fits;
  used = rw (mark-missing further st p) s.used;
  good = λ j h. s.good j (rw (mark-missing further st p) at h);
  bound = λ v j e. rw (mark-missing further st p) (s.bound v j e);
}

-- a node of a steady store is far below the words of the answers
pub node-small : {w : List ℕ} {m : Standing} {b : Bindings ℕ} → Steady w m b → (k : ℕ) → k < m.mark → k < 131072
node-small {w} {m} s k h = omega (arith, mark-small m.notes.room w m.mark m.notes.top m.notes.nodes s.fits)

-- by an answer that was read
module _ (w : List ℕ) (m : Standing) (o : Ran) (l : LeavesFitting w m o) (r : ℕ) (st w' : List ℕ) (is : out r st w' ≡ o)
    (a : Answer) (read : a ≡ answer_of r) where
  leaves-answer : LeavesFitting w m (meaning a st w')
  leaves-answer = subst (LeavesFitting w m) (sym is ∙ out-answer st w' r a read) l

  pub leaves-done : (x v : ℕ) → a ≡ Done x v → LeavesFitting w m (ended x (held st) (on w' (standing st)) v)
  unfolding meaning
  leaves-done x v e = subst (λ a. LeavesFitting w m (meaning a st w')) e leaves-answer

  pub leaves-failed : (v : ℕ) → a ≡ Failed v → Kept w m.mark w' × Fits w' m.mark (notes_of st)
  unfolding meaning
  leaves-failed v e = subst (λ a. LeavesFitting w m (meaning a st w')) e leaves-answer
