-- Visits from left to right: a walk's next step by the answer of its first visit, over any visits and whatever follows them.
use mathlib.Core.Path.{◌≡◌, refl, sym, ◌∙◌}
use mathlib.Core.List.{List, [], ◌∷◌, ◌++◌}
use mathlib.Core.Logic.{⊎_elim}
use Prim.Native.Nat.{ℕ}
use native.Mathlib.Omega.{arith}
use Rattle.meaning.specs.Bindings.{Bindings}
use Rattle.meaning.specs.Plan.{keep, ret, fail, miss}
use Rattle.meaning.specs.Rules.{Visit, Do, walk}
use Rattle.meaning.specs.Limits.{Limit, ended, lost, cut, run_plan}
use Rattle.state.specs.Noted.{Standing, missed_at, on, left_of}
use Rattle.state.specs.declared.answers.Answer.{Answer}
use Rattle.state.specs.declared.answers.Answer.TheVariants.{Done, Failed, Cut}
use Rattle.state.specs.Answers.{units_in, answer_of}
use Rattle.state.specs.Record.{standing, held}
use Rattle.state.specs.Visits.{visit, plan, limit_of, out, giving, kept}
use Rattle.state.proofs.AnswerWords.{kept-answer}
use Rattle.state.proofs.Asking.{Tagged, ask-done, ask-failed, ask-cut, goes_on, not_done}

-- a plan that ends
module _ (t : List ℕ) (n : ℕ) (w : List ℕ) (m : Standing) (u : ℕ) where
  pub returned : (x : ℕ) (b : Bindings ℕ) → plan t n (ret x b) w m u ≡ ended x b (on w m) u
  unfolding plan run_plan
  returned x b = refl

  pub failing : plan t n fail w m u ≡ lost (left_of w m) u
  unfolding plan run_plan
  failing = refl

  -- a match that gives up fails
  pub plan-missed : (p : ℕ) → plan t n (miss p) w m u ≡ lost (left_of w (missed_at p m)) u
  unfolding plan run_plan
  plan-missed p = refl

module _ (t : List ℕ) (n : ℕ) (w : List ℕ) (m : Standing) (u : ℕ) (gs : List ℕ) (b : Bindings ℕ) (k : List ℕ → Bindings ℕ → Do ℕ) where
  -- no visit is left
  pub walk_end : (qs : List (Bindings ℕ → Visit ℕ)) → qs ≡ [] → plan t n (walk qs gs b k) w m u ≡ plan t n (k gs b) w m u
  unfolding walk
  walk_end qs e = rw e

  -- the first visit q
  module _ (q : Bindings ℕ → Visit ℕ) (qs : List (Bindings ℕ → Visit ℕ)) where
    pub walk-done : (x : ℕ) (m' : Standing) (v : ℕ) (w' : List ℕ) (b' : Bindings ℕ) →
        visit t n (q b) w m u ≡ ended x b' (on w' m') v → plan t n (walk (q ∷ qs) gs b k) w m u ≡ plan t n
        (walk qs (gs ++ (x ∷ [])) b' k) w' m' v
    unfolding walk
    walk-done x m' v w' b' e = ask-done t n w m u (q b) (λ g c. walk qs (gs ++ (g ∷ [])) c k) fail v w' x m' b' e

    pub walk-failed : (v : ℕ) (w' : List ℕ) (m' : Standing) → visit t n (q b) w m u ≡ lost (left_of w' m') v →
        plan t n (walk (q ∷ qs) gs b k) w m u ≡ lost (left_of w' m') v
    unfolding walk
    walk-failed v w' m' e = ask-failed t n w m u (q b) (λ g c. walk qs (gs ++ (g ∷ [])) c k) fail v w' keep m' e ∙ failing t n w' _ v

    pub walk-cut : (v : ℕ) (w' : List ℕ) (m' : Standing) (c : Limit) → visit t n (q b) w m u ≡ cut c (left_of w' m') v →
        plan t n (walk (q ∷ qs) gs b k) w m u ≡ cut c (left_of w' m') v
    unfolding walk
    walk-cut v w' m' c e = ask-cut t n w m u (q b) (λ g c. walk qs (gs ++ (g ∷ [])) c k) fail v w' keep c m' e

    -- by its answer's word r, read as a, with record and store
    module _ (r : ℕ) (st w' : List ℕ) (is : out r st w' ≡ visit t n (q b) w m u) (a : Answer) (read : a ≡ answer_of r) where
      pub walk-on : (x v : ℕ) → a ≡ Done x v → plan t n (walk (q ∷ qs) gs b k) w m u ≡ plan t n
          (walk qs (gs ++ (x ∷ [])) (held st) k) w' (standing st) v
      unfolding walk
      walk-on x v e = goes_on t n w m u (q b) r st w' is a read (λ g c. walk qs (gs ++ (g ∷ [])) c k) fail x v e

      pub walk-stop : Tagged a 1 2 → out r st w' ≡ plan t n (walk (q ∷ qs) gs b k) w m u
      unfolding walk
      walk-stop h = not_done t n w m u (q b) r st w' is a read keep (λ g c. walk qs (gs ++ (g ∷ [])) c k) h

    -- by its answer's word r, read as a, of which only the units count, and where the run then stands
    module _ (r x : ℕ) (b' : Bindings ℕ) (m' : Standing) (is : kept r x b' w m' ≡ visit t n (q b) w m u) (a : Answer)
        (read : a ≡ answer_of r) where
      says : visit t n (q b) w m u ≡ giving a x b' w m'
      says = sym is ∙ kept-answer w w x b' m' r a read

      pub kept_on : (y v : ℕ) → a ≡ Done y v → plan t n (walk (q ∷ qs) gs b k) w m u ≡ plan t n (walk qs (gs ++ (x ∷ [])) b' k) w m' v
      unfolding giving
      kept_on y v e = walk-done x m' v w b' (says ∙ rw e)

      pub kept-stop : Tagged a 1 2 → (y : ℕ) (c : Bindings ℕ) → kept r y c w m' ≡ plan t n (walk (q ∷ qs) gs b k) w m u
      unfolding giving
      kept-stop h y c = kept-answer w w y c m' r a read ∙ go a refl h
        where
          go : (a' : Answer) → a ≡ a' → Tagged a' 1 2 → giving a y c w m' ≡ plan t n (walk (q ∷ qs) gs b k) w m u
          go (Done z v) e g = absurd (⊎_elim (λ z. omega arith) (λ z. omega arith) g)
          go (Failed v) e g = rw e (sym (walk-failed v w m' (says ∙ rw e)))
          go (Cut d) e g = rw e (sym (walk-cut (units_in d) w m' (limit_of d) (says ∙ rw e)))
