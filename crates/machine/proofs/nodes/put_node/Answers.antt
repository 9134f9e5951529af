-- `nodes::put_node` meets its contract. Assumes nothing.
use mathlib.Core.Path.{◌≡◌, refl, ap, ◌∙◌}
use mathlib.Core.Bool.{false}
use mathlib.Core.List.{List}
use Prim.Native.Nat.{ℕ, ◌+◌, ◌*◌, ◌<◌, ◌≤◌}
use native.Mathlib.Omega.{arith}
use lib.ListN.{length, get_or}
use Rattle.words.specs.Words.{put_row}
use Rattle.words.proofs.Rows.{length-put_row}
use Rattle.meaning.specs.Store.{row}
use Rattle.meaning.specs.Shared.{standing}
use Rattle.meaning.proofs.Tests.{impossible}
use Rattle.turns.specs.Ways.{kids}
use Rattle.machine.specs.declared.Machine.{Machine}
use Rattle.machine.specs.Machine.{Node}
use Rattle.machine.proofs.Padding.{row-length}
use borrow.Author.Rules.{rules}
use Rattle.machine.proofs.nodes.put_node.Goals as goal

module _ (w : List ℕ) (i : ℕ) (m : Machine) (r : List ℕ) where
  abbrev ends : ℕ → ℕ → ℕ → Machine
  ends mode y mark = record { x = 0; mode = mode; y = y; level = i; mark = mark; place = m.place; fuel = m.fuel; mask = m.mask }

  node-full : length w < 8 * m.mark + 8 → Node false w i m r (ends 6 0 m.mark) w
  unfolding standing
  node-full l = record {
    long = refl;
    stands = λ k g. impossible (cc);
    full = λ g j. (refl, refl);
    fits = λ g j. absurd (omega arith);
  }

  node_made : {w' : List ℕ} → 8 * m.mark + 8 ≤ length w → length r ≡ 8 → w' ≡ put_row w m.mark (row (get_or r 0 0) (kids r))
      → Node false w i m r (ends 4 m.mark (m.mark + 1)) w'
  unfolding standing
  node_made l n put = record {
    long = ap length put ∙ length-put_row w m.mark _ l (row-length r n);
    stands = λ k g. impossible (cc);
    full = λ g j. absurd (omega arith);
    fits = λ g j. (refl, put);
  }

pub returns-then-store-k : goal.returns-then-store-k
returns-then-store-k c = rw c.state.ensures (node-full _ _ _ _ c.if-store-k.true)

pub returns : goal.returns
returns c =
    rw c.state-2.ensures
    (node_made _ _ _ _ c.if-store-k.false (search rules)
    (c.put_row.ensures ∙ ap (put_row c.args.store.now c.args.m.mark) c.padded.ensures))
