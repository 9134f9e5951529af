-- A visit that units or nesting do not let begin, by the word that is returned for it.
use mathlib.Core.Path.{◌≡◌, ap, sym, ◌∙◌}
use mathlib.Core.List.{List}
use Prim.Native.Nat.{ℕ, ◌<◌}
use Rattle.meaning.specs.Bindings.{Bindings}
use Rattle.meaning.specs.Rules.{Visit}
use Rattle.state.specs.Noted.{Standing}
use Rattle.state.specs.Answers.{units_word, nesting_word}
use Rattle.state.specs.Record.{standing}
use Rattle.state.specs.Visits.{visit, out, kept}
use Rattle.state.proofs.AnswerWords.{out-units, out-nesting, kept-units, kept-nesting}
use Rattle.leaves.proofs.Kind.{no-units, no-nesting}

module _ (t : List ℕ) (n : ℕ) (q : Visit ℕ) (w : List ℕ) (u r : ℕ) where
  -- with the record st at its return
  module _ (st : List ℕ) where
    pub units-out : r ≡ units_word → u ≡ 0 → out r st w ≡ visit t n q w (standing st) u
    units-out e h = ap (λ r. out r st w) e ∙ out-units st w ∙ sym (no-units t n q w (standing st) u h)

    pub nesting-out : r ≡ nesting_word u → u < 4294967296 → (u ≡ 0 → ⊥) → n ≡ 0 → out r st w ≡ visit t n q w (standing st) u
    nesting-out e l h d = ap (λ r. out r st w) e ∙ out-nesting st w u l ∙ sym (no-nesting t n q w (standing st) u h d)

  -- where only the units count
  module _ (m : Standing) (x : ℕ) (b : Bindings ℕ) where
    pub units-kept : r ≡ units_word → u ≡ 0 → kept r x b w m ≡ visit t n q w m u
    units-kept e h = ap (λ r. kept r x b w m) e ∙ kept-units w w x b m ∙ sym (no-units t n q w m u h)

    pub nesting-kept : r ≡ nesting_word u → u < 4294967296 → (u ≡ 0 → ⊥) → n ≡ 0 → kept r x b w m ≡ visit t n q w m u
    nesting-kept e l h d = ap (λ r. kept r x b w m) e ∙ kept-nesting w w x b m u l ∙ sym (no-nesting t n q w m u h d)
