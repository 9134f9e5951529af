-- A lower mark: where the same terms stand in a store of the same size with a lower mark, a run that is done or has failed is so
-- again, with the same term, bindings, notes and units. The proof is proofs/Lower.antt.
use Rattle.std.specs.Prelude.{◌≡◌, ℕ, ◌≤◌}
use Rattle.words.specs.Words.{rows}
use Rattle.meaning.specs.Term.{Term}
use Rattle.meaning.specs.Derivation.{Notes}
use Rattle.meaning.specs.Limits.{Res, ended, lost, cut, Counted, at}
use Rattle.meaning.specs.System.{Env}
use Rattle.meaning.specs.Store.{Input, AcceptedBy, ran_by, value}
use Rattle.meaning.specs.Demands.{start_visit}

-- where the first answer is done or failed, the second is the first, but for the mark
abbrev pub Again : {N : Type 0} → Res Term Env (Counted N) N → Res Term Env (Counted N) N → Type 0
Again (ended t b s u) r = (m : ℕ) × (r ≡ ended t b (at m s.notes) u)
Again (lost l u) r = r ≡ lost l u
Again (cut c l u) r = Unit {0}

-- Table, units and the store's nodes are the same, the mark is not higher, and subject and bindings name the same terms.
abbrev pub LowerMark : Type 1
LowerMark =
    (W : ℕ) (N : Type 0) (Λ : Notes N) (n : N) (i j : Input) → AcceptedBy W i → AcceptedBy W j
    → j.table ≡ i.table → j.units ≡ i.units → rows j.store ≡ rows i.store → j.mark ≤ i.mark → start_visit j ≡ start_visit i
    → Again (value (ran_by W Λ n i)) (value (ran_by W Λ n j))
