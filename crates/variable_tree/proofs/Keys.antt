-- The keys of the tree of bound variables: a key that is put is the only new one. Assumes nothing.
use mathlib.Core.Path.{sym, subst}
use mathlib.Core.Logic.{⊎_elim}
use mathlib.Core.List.{List}
use Prim.Native.Nat.{ℕ}
use Rattle.variable_tree.specs.Tree.{KeyOf, Keeps, KeepsOr}

-- A key that was there before is put again.
pub keeps-again : {ks ks' ks'' : List ℕ} {v : ℕ} → Keeps ks ks' → KeyOf ks' v → KeepsOr ks' v ks'' → Keeps ks ks''
keeps-again {ks} {ks'} {ks''} {v} a h b x k = ⊎_elim (a x) (λ z. a x (subst (KeyOf ks') (sym z) h)) (b x k)
