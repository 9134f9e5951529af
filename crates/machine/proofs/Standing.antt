-- The node that a row asks for, by whether nodes are shared: it stands, or it is made as where none is shared. Assumes nothing.
use mathlib.Core.Path.{◌≡◌, refl, ap, sym, ◌∙◌}
use mathlib.Core.Bool.{Bool, true, false}
use mathlib.Core.Option.{Option, none, some}
use mathlib.Core.List.{List}
use Prim.Native.Nat.{ℕ}
use lib.ListN.{get_or}
use Rattle.checks.specs.Checked.{place_of}
use Rattle.meaning.specs.Store.{row}
use Rattle.meaning.specs.Shared.{node_with, standing}
use Rattle.meaning.proofs.Tests.{impossible}
use Rattle.turns.specs.Ways.{kids}
use Rattle.machine.specs.declared.Machine.{Machine}
use Rattle.machine.specs.Machine.{standing_for, Node}

module _ (sh : Bool) (w : List ℕ) (i : ℕ) (m : Machine) (r : List ℕ) where
  -- nodes are not shared: none stands
  pub none-shared : sh ≡ false → standing_for sh w m r ≡ none
  unfolding standing
  none-shared e = ap (λ sh. standing_for sh w m r) e

  -- they are: it is the one below the mark with the words
  pub found-shared : {o : Option ℕ} → sh ≡ true → o ≡ node_with w (row (get_or r 0 0) (kids r)) m.mark → standing_for sh w m r ≡ o
  unfolding standing
  found-shared e z = ap (λ sh. standing_for sh w m r) e ∙ sym z

  pub node-found : (y : ℕ) {m' : Machine} → standing_for sh w m r ≡ some y
      → m' ≡ record { x = 0; mode = 4; y = y; level = i; mark = m.mark; place = m.place; fuel = m.fuel; mask = m.mask }
      → Node sh w i m r m' w
  node-found y e d = record {
    long = refl;
    stands = λ k g. (
      d ∙ (let q : y ≡ k = cc in ap (λ (x : ℕ). record {
        x = 0;
        mode = 4;
        y = x;
        level = i;
        mark = m.mark;
        place = m.place;
        fuel = m.fuel;
        mask = m.mask;
      }) q),
      refl,
    );
    full = λ g j. impossible (cc);
    fits = λ g j. impossible (cc);
  }

  pub node-none : {m' : Machine} {w' : List ℕ} → standing_for sh w m r ≡ none → Node false w i m r m' w' → Node sh w i m r m' w'
  unfolding standing
  node-none e n = record {
    long = n.long;
    stands = λ k g. impossible (cc);
    full = λ _. n.full refl;
    fits = λ _. n.fits refl;
  }
