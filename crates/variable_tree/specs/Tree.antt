-- What the tree of bound variables promises: its keys are variables that were put into it. Nothing says that each of them is found
-- again, and no answer depends on that: a variable that is not found is looked for in the line itself.
use Rattle.std.specs.Prelude.{◌≡◌, ◌⊎◌, Bool, true, List, ℕ, get_or}

-- x is one of the words
pub record KeyOf (ks : List ℕ) (x : ℕ) : Type 0 where
  pub place : ℕ
  pub is : get_or ks place 0 ≡ x

-- the second list has no key that the first has not; or v alone
abbrev pub Keeps : List ℕ → List ℕ → Type 0
Keeps ks ks' = (x : ℕ) → KeyOf ks' x → KeyOf ks x

abbrev pub KeepsOr : List ℕ → ℕ → List ℕ → Type 0
KeepsOr ks v ks' = (x : ℕ) → KeyOf ks' x → KeyOf ks x ⊎ (x ≡ v)

-- or those for which `here` says so
abbrev pub KeepsOrOf : List ℕ → (ℕ → Bool) → List ℕ → Type 0
KeepsOrOf ks here ks' = (x : ℕ) → KeyOf ks' x → KeyOf ks x ⊎ (here x ≡ true)

-- v is said to be found only where it is a key
abbrev pub FoundIn : List ℕ → ℕ → Bool → Type 0
FoundIn ks v found = found ≡ true → KeyOf ks v
