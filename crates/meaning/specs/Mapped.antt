-- A run that notes more is a run that notes less, and more beside it: what is left out of the notes changes nothing else. The proof is
-- proofs/Mapped.antt.
use Rattle.std.specs.Prelude.{◌≡◌, Bool, ℕ}
use Rattle.meaning.specs.Limits.{ended, lost, cut}
use Rattle.meaning.specs.Derivation.{What, Notes}
use Rattle.meaning.specs.Store.{Input, State, on, Left, rest, Ran, ran_by}
use Rattle.meaning.specs.Shared.{shared_ran_by, ran_sharing}

-- f of what was noted
abbrev pub renote : {N N' : Type 0} → (N → N') → State N → State N'
renote f s = on s.words s.mark (f s.notes)

abbrev pub renote_left : {N N' : Type 0} → (N → N') → Left N → Left N'
renote_left f l = rest l.words (f l.notes)

unfoldable pub renoted : {N N' : Type 0} → (N → N') → Ran N → Ran N'
renoted f (ended h b s u) = ended h b (renote f s) u
renoted f (lost l u) = lost (renote_left f l) u
renoted f (cut c l u) = cut c (renote_left f l) u

-- f of the notes of Λ are the notes of Λ'
pub record NotesLess {N N' : Type 0} (Λ : Notes N) (Λ' : Notes N') (f : N → N') : Type 0 where
  pub missed : (p : ℕ) (n : N) → f (Λ.missed p n) ≡ Λ'.missed p (f n)
  pub begins : (w : What) (n : N) → f (Λ.begins w n) ≡ Λ'.begins w (f n)
  pub ends : (w : What) (t : Bool) (n : N) → f (Λ.ends w t n) ≡ Λ'.ends w t (f n)

abbrev pub Renoted : Type 1
Renoted =
    (W : ℕ) (N N' : Type 0) (Λ : Notes N) (Λ' : Notes N') (f : N → N') → NotesLess Λ Λ' f
    → (n : N) (i : Input) → renoted f (ran_by W Λ n i) ≡ ran_by W Λ' (f n) i

-- The same where nodes are shared, and by whether they are.
abbrev pub RenotedShared : Type 1
RenotedShared =
    (W : ℕ) (N N' : Type 0) (Λ : Notes N) (Λ' : Notes N') (f : N → N') → NotesLess Λ Λ' f
    → (n : N) (i : Input) → renoted f (shared_ran_by W Λ n i) ≡ shared_ran_by W Λ' (f n) i

abbrev pub RenotedSharing : Type 1
RenotedSharing =
    (sh : Bool) (W : ℕ) (N N' : Type 0) (Λ : Notes N) (Λ' : Notes N') (f : N → N') → NotesLess Λ Λ' f
    → (n : N) (i : Input) → renoted f (ran_sharing sh W Λ n i) ≡ ran_sharing sh W Λ' (f n) i
