-- The turns of an indexed call over many subjects, over one lent slice: what holds before each, and what all of them leave.
-- Assumes nothing.
use mathlib.Core.Path.{◌≡◌, refl, ap, sym, ◌∙◌, subst}
use mathlib.Core.Option.{Option, none}
use mathlib.Core.List.{List}
use Prim.Native.Nat.{ℕ, zero, suc, ◌+◌, ◌*◌, ◌≤◌, ◌<◌, min}
use native.Mathlib.Omega.{arith}
use lib.ListN.{length, get_or, take, drop}
use lib.Seq.{paste}
use Rattle.words.specs.Words.{rows}
use Rattle.checks.specs.Kinds.{ours}
use Rattle.checks.specs.Checked.{Checked}
use Rattle.meaning.specs.Store.{Input, Accepted}
use Rattle.meaning.specs.Shared.{twin}
use Rattle.index.specs.Run.{FitsRoom}
use Rattle.index.proofs.Twinning.{distinct}
use Rattle.state.specs.Answers.{packed}
use Rattle.state.specs.Record.{top_of}
use Rattle.cycle.specs.Cycle.{Ready}
use Rattle.loading.specs.Loaded.{Loaded, Opened}
use Rattle.calls.specs.Many.{Module, handed, single}
use Rattle.calls.specs.Indexed.{indexed_many_refused}
use Rattle.calls.specs.Outcome.{Outcome}
use Rattle.calls.proofs.Turns.{words, Given, Stands, accepted-single}
use Rattle.calls.proofs.IndexedTurns.{IndexedGoing, indexed-going-first, indexed-going-next}
use Rattle.running.specs.Ends.{RanAccepted}
use Rattle.running.proofs.Whole.{Begun, ready, ended-as, fits_after}
use Rattle.indexed.proofs.Whole.{take_min}

pub many-refused-is : (g : Option (List ℕ)) (t w b : List ℕ) (mark start : ℕ) (ks : List ℕ) (units : ℕ) (rs : List ℕ) (k own : ℕ) (r : Checked) → own ≡ min k (length w)
    → r ≡ indexed_many_refused g (handed t (take own w) b mark start ks units rs) (drop k w) → r ≡ indexed_many_refused g (handed t (take k w) b mark start ks units rs) (drop k w)
many-refused-is g t w b mark start ks units rs k own r e h = h ∙ ap (λ s. indexed_many_refused g (handed t s b mark start ks units rs) (drop k w)) (ap (λ j. take j w) e ∙ take_min k w)

-- the lent words w before turn j, of which the first 8 × n are the store's; the index holds the nodes below t
pub record Turning (g : Option (List ℕ)) (c : Module) (x : List ℕ) (all n : ℕ) (w rs : List ℕ) (m t j : ℕ) : Type 0 where
  pub going : IndexedGoing ours g c x (take (8 * n) w) rs m j
  pub fits : FitsRoom 0 w m t n
  pub wide : length w ≡ all

-- the same by another name of the store's words
module _ (g : Option (List ℕ)) (t b : List ℕ) (mark start : ℕ) (ks : List ℕ) (units : ℕ) (rs₀ x : List ℕ) {s s' : List ℕ} (e : s ≡ s') {all n : ℕ} {w rs : List ℕ} {m top j : ℕ} where
  pub at_store : Turning g (handed t s b mark start ks units rs₀) x all n w rs m top j → Turning g (handed t s' b mark start ks units rs₀) x all n w rs m top j
  at_store G = subst (λ s. Turning g (handed t s b mark start ks units rs₀) x all n w rs m top j) e G

  pub from-store : Turning g (handed t s' b mark start ks units rs₀) x all n w rs m top j → Turning g (handed t s b mark start ks units rs₀) x all n w rs m top j
  from-store G = subst (λ s. Turning g (handed t s b mark start ks units rs₀) x all n w rs m top j) (sym e) G

pub turning-first : (g : Option (List ℕ)) (c : Module) (x : List ℕ) (all n : ℕ) (w : List ℕ) → Stands ours g c c.store c.mark → twin c.store c.mark ≡ none
    → FitsRoom 0 w c.mark c.mark n → take (8 * n) w ≡ c.store → length w ≡ all → Turning g c x all n w c.results c.mark c.mark 0
turning-first g c x all n w s z f own l = record {
  going = subst (λ v. IndexedGoing ours g c x v c.results c.mark 0) (sym own) (indexed-going-first ours g c x (record { stands = s; distinct = distinct c.store c.mark z }));
  fits = f;
  wide = l;
}

-- the first subject's single call, by which what is lent is known
abbrev pub first_call : Module → Input
first_call c = single c c.store c.mark (get_or c.subjects 0 0)

pub first-accepted : {g : Option (List ℕ)} {c : Module} → Given ours g c → Stands ours g c c.store c.mark → (length c.subjects ≡ 0 → ⊥) → Accepted (first_call c)
first-accepted {c = c} γ s n = accepted-single ours γ s (get_or c.subjects 0 0) (γ.subjects 0 (some-subject n))
  where
    some-subject : {x : ℕ} → (x ≡ 0 → ⊥) → 0 < x
    some-subject {x = x} n = omega (arith, not-zero x n)
      where
        not-zero : (x : ℕ) → (x ≡ 0 → ⊥) → 0 < x
        not-zero zero n = absurd (n refl)
        not-zero (suc x) n = omega arith

module _ {g : Option (List ℕ)} {c : Module} (γ : Given ours g c) (x : List ℕ) (size : 2 * rows c.store ≤ length x) {all n : ℕ}
    {w rs : List ℕ} {m t j : ℕ} (G : Turning g c x all n w rs m t j) (h : j < length c.subjects) where
  abbrev turn : Input
  turn = single c (take (8 * n) w) m (get_or c.subjects j 0)

  pub turn-accepted : Accepted turn
  turn-accepted = accepted-single ours γ G.going.apart.stands (get_or c.subjects j 0) (γ.subjects j h)

  module _ {code st : List ℕ} (l : Loaded c.table code) (o : Opened c.bindings m 0 t n st) (few : c.units < 4294967296) where
    turn-begins : Begun turn code w st 0 t n
    turn-begins = record { accepted = turn-accepted; loaded = l; opened = o; fits = G.fits; own = refl; few = few }

    pub turn-ready : Ready code w st c.start (packed (get_or c.subjects j 0) c.units)
    turn-ready = ready turn-begins

    pub turning-next : {r : Outcome} {st' w' : List ℕ} → length w' ≡ length w → RanAccepted code w st c.start (get_or c.subjects j 0) c.units r st' w'
        → Turning g c x all n w' (paste rs (5 * j) (words ours r) 5) r.mark (top_of st') (j + 1)
    turning-next {r} {st'} {w'} even e =
        let q = ended-as turn-begins e in
        record {
          going = indexed-going-next ours γ x size (take (8 * n) w) rs m j G.going h r (take (8 * n) w') q.numbers q.words;
          fits = fits_after turn-begins e;
          wide = even ∙ G.wide;
        }
