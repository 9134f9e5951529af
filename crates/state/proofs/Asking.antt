-- A plan's next step over the store's words, by what the visit that it asks for answered.
use mathlib.Core.Path.{◌≡◌, refl, sym, ◌∙◌}
use mathlib.Core.List.{List}
use mathlib.Core.Logic.{◌⊎◌, inl, inr, ⊎_elim}
use Prim.Native.Nat.{ℕ}
use native.Mathlib.Omega.{arith}
use denote.Enum.Declared.{tag_of}
use Rattle.meaning.specs.Bindings.{Bindings}
use Rattle.meaning.specs.Table.{table}
use Rattle.meaning.specs.Plan.{Keep, keep, drop, ret, fail, miss, ask}
use Rattle.meaning.specs.Rules.{Visit, Do, does}
use Rattle.meaning.specs.Limits.{Limit, ended, lost, cut, settled, after, run_plan, run}
use Rattle.meaning.specs.Store.{rest}
use Rattle.index.specs.Run.{noting}
use Rattle.state.specs.Noted.{Standing, back_to, on, stored, Ran, left_of}
use Rattle.state.specs.contracts.answers.Answer.{the_type}
use Rattle.state.specs.declared.answers.Answer.{Answer}
use Rattle.state.specs.declared.answers.Answer.TheVariants.{Done, Failed, Cut}
use Rattle.state.specs.Answers.{units_in, answer_of}
use Rattle.state.specs.Record.{standing, held}
use Rattle.state.specs.Visits.{visit, plan, limit_of, meaning, out}
use Rattle.state.proofs.AnswerWords.{out-answer}

-- the answer is one of two
abbrev pub Tagged : Answer → ℕ → ℕ → Type 0
Tagged a i j = (tag_of the_type a ≡ i) ⊎ (tag_of the_type a ≡ j)

-- an answer that is not done is failed or cut off
pub Tagged-not_done : (a : Answer) → ((x u : ℕ) → a ≡ Done x u → ⊥) → Tagged a 1 2
Tagged-not_done (Done x u) h = absurd (h x u refl)
Tagged-not_done (Failed u) h = inl refl
Tagged-not_done (Cut c) h = inr refl

-- an answer that is not failed is done or cut off
pub Tagged-not_failed : (a : Answer) → ((u : ℕ) → a ≡ Failed u → ⊥) → Tagged a 0 2
Tagged-not_failed (Done x u) h = inl refl
Tagged-not_failed (Failed u) h = absurd (h u refl)
Tagged-not_failed (Cut c) h = inr refl

-- the answer of a match whose comparison answers r: where that failed, it gives up at the pattern p
unfoldable pub gives_up : ℕ → Ran → Ran
gives_up p (ended h b s v) = ended h b s v
gives_up p (lost l v) = lost (rest l.words (noting l.notes p)) v
gives_up p (cut c l v) = cut c l v

module _ (t : List ℕ) (n : ℕ) (w : List ℕ) (m : Standing) (u : ℕ) where
  -- a visit that is last has the plan's answer
  pub last : (q : Visit ℕ) → plan t n (ask keep q ret fail) w m u ≡ visit t n q w m u
  unfolding plan visit run_plan after settled
  last q = go (run stored (does (table t)) n q (on w m) u)
    where
      go : (r : Ran) → after stored keep (on w m) r (λ h b s v. ended h b s v) (λ s v. lost (stored.left s) v) ≡ r
      go (ended h b s v) = refl
      go (lost l v) = refl
      go (cut c l v) = refl

  -- the same of a comparison at whose failure a match gives up
  pub last-match : (p : ℕ) (q : Visit ℕ) → plan t n (ask keep q ret (miss p)) w m u ≡ gives_up p (visit t n q w m u)
  unfolding plan visit run_plan after settled gives_up
  last-match p q = go (run stored (does (table t)) n q (on w m) u)
    where
      go : (r : Ran) → after stored keep (on w m) r (λ h b s v. ended h b s v) (λ s v. lost (stored.left (stored.missed p s)) v)
          ≡ gives_up p r
      go (ended h b s v) = refl
      go (lost l v) = refl
      go (cut c l v) = refl

  module _ (q : Visit ℕ) (k : ℕ → Bindings ℕ → Do ℕ) (p : Do ℕ) (v : ℕ) (w' : List ℕ) where
    pub ask-done : (x : ℕ) (m' : Standing) (b : Bindings ℕ) → visit t n q w m u ≡ ended x b (on w' m') v →
        plan t n (ask keep q k p) w m u ≡ plan t n (k x b) w' m' v
    unfolding plan visit run_plan after settled
    ask-done x m' b e = rw e

    pub drop-done : (x : ℕ) (m' : Standing) (b : Bindings ℕ) → visit t n q w m u ≡ ended x b (on w' m') v →
        plan t n (ask drop q k p) w m u ≡ plan t n (k x b) w' (back_to m m') v
    unfolding plan visit run_plan after settled
    drop-done x m' b e = rw e

    pub ask-failed : (d : Keep) (m' : Standing) → visit t n q w m u ≡ lost (left_of w' m') v →
        plan t n (ask d q k p) w m u ≡ plan t n p w' (back_to m m') v
    unfolding plan visit run_plan after
    ask-failed d m' e = rw e

    pub ask-cut : (d : Keep) (c : Limit) (m' : Standing) → visit t n q w m u ≡ cut c (left_of w' m') v →
        plan t n (ask d q k p) w m u ≡ cut c (left_of w' m') v
    unfolding plan visit run_plan after
    ask-cut d c m' e = rw e

  -- the same by the answer's word r, read as a, with the record st and the store w' at its return
  module _ (q : Visit ℕ) (r : ℕ) (st w' : List ℕ) (is : out r st w' ≡ visit t n q w m u) (a : Answer) (read : a ≡ answer_of r) where
    says : visit t n q w m u ≡ meaning a st w'
    says = sym is ∙ out-answer st w' r a read

    said : out r st w' ≡ meaning a st w'
    said = out-answer st w' r a read

    pub goes_on : (k : ℕ → Bindings ℕ → Do ℕ) (p : Do ℕ) (x v : ℕ) → a ≡ Done x v →
        plan t n (ask keep q k p) w m u ≡ plan t n (k x (held st)) w' (standing st) v
    unfolding meaning
    goes_on k p x v e = ask-done q k p v w' x (standing st) (held st) (says ∙ rw e)

    pub goes_back : (k : ℕ → Bindings ℕ → Do ℕ) (p : Do ℕ) (x v : ℕ) → a ≡ Done x v →
        plan t n (ask drop q k p) w m u ≡ plan t n (k x (held st)) w' (back_to m (standing st)) v
    unfolding meaning
    goes_back k p x v e = drop-done q k p v w' x (standing st) (held st) (says ∙ rw e)

    pub caught : (d : Keep) (k : ℕ → Bindings ℕ → Do ℕ) (p : Do ℕ) (v : ℕ) → a ≡ Failed v →
        plan t n (ask d q k p) w m u ≡ plan t n p w' (back_to m (standing st)) v
    unfolding meaning
    caught d k p v e = ask-failed q k p v w' d (standing st) (says ∙ rw e)

    pub cut_off : (d : Keep) (k : ℕ → Bindings ℕ → Do ℕ) (p : Do ℕ) (c : ℕ) → a ≡ Cut c → out r st w' ≡ plan t n (ask d q k p) w m u
    unfolding meaning
    cut_off d k p c e = said ∙ rw e (sym (ask-cut q k p (units_in c) w' d (limit_of c) (standing st) (says ∙ rw e)))

    failing : (d : Keep) (k : ℕ → Bindings ℕ → Do ℕ) (v : ℕ) → a ≡ Failed v → out r st w' ≡ plan t n (ask d q k fail) w m u
    unfolding meaning plan run_plan
    failing d k v e = said ∙ rw e (sym (caught d k fail v e))

    ending : (p : Do ℕ) (x v : ℕ) → a ≡ Done x v → out r st w' ≡ plan t n (ask keep q ret p) w m u
    unfolding meaning plan run_plan
    ending p x v e = said ∙ rw e (sym (goes_on ret p x v e))

    -- a failure and a cut_off are the answer where nothing catches
    pub not_done : (d : Keep) (k : ℕ → Bindings ℕ → Do ℕ) → Tagged a 1 2 → out r st w' ≡ plan t n (ask d q k fail) w m u
    not_done d k g = go a refl g
      where
        go : (b : Answer) → a ≡ b → Tagged b 1 2 → out r st w' ≡ plan t n (ask d q k fail) w m u
        go (Done x v) e h = absurd (⊎_elim (λ z. omega arith) (λ z. omega arith) h)
        go (Failed v) e h = failing d k v e
        go (Cut c) e h = cut_off d k fail c e

    -- success and a cut_off are the answer where the visit is the last
    pub not-failed : (p : Do ℕ) → Tagged a 0 2 → out r st w' ≡ plan t n (ask keep q ret p) w m u
    not-failed p g = go a refl g
      where
        go : (b : Answer) → a ≡ b → Tagged b 0 2 → out r st w' ≡ plan t n (ask keep q ret p) w m u
        go (Done x v) e h = ending p x v e
        go (Failed v) e h = absurd (⊎_elim (λ z. omega arith) (λ z. omega arith) h)
        go (Cut c) e h = cut_off keep ret p c e
