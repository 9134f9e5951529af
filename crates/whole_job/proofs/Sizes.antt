-- A job that was read has no more rows than its arrays hold. Assumes nothing.
use mathlib.Core.Path.{◌≡◌, refl, ◌∙◌}
use mathlib.Core.Bool.{Bool, true, false}
use mathlib.Core.List.{List}
use Prim.Native.Nat.{ℕ, ◌+◌, ◌≤◌, ◌<◌}
use native.Mathlib.Omega.{arith}
use lib.Dec.{eqb}
use lib.ListN.{length, get_or, length-set, length-replicate}
use borrow.Author.Tests.{leb-true, eqb-true}
use Rattle.checks.specs.Kinds.{variables}
use Rattle.std.specs.Prelude.{if◌then◌else◌}
use Rattle.words.proofs.Tests.{and-true}
use Rattle.words.proofs.Rows.{length-put_row}
use Rattle.job.specs.Job.{Heading}
use Rattle.job.specs.Lines.{Line, job_fits, fits, entry_row, node_row, words, upper}
use Rattle.job.specs.Job.{Reading, unread, zeros, admitted, headed, table_with, store_with, bindings_with, with, taken, good, meant}
use Rattle.job.specs.Written.{Follow, end, next}
use Rattle.job.proofs.Readings.{entry-room, node-room, rows-kept}
use Rattle.job.proofs.Promises.{text_is_job}

-- The rows and the lengths of what is read.
pub record Sized (g : Reading) : Type 0 where
  pub entries : g.heading.entries ≤ 512
  pub nodes : g.heading.nodes ≤ 1024
  pub room : g.heading.room ≤ 1024
  pub table : length g.table ≡ 4096
  pub store : length g.store ≡ 8192
  pub bindings : length g.bindings ≡ variables

sized-unread : Sized unread
unfolding zeros
sized-unread = record {
  entries = omega arith;
  nodes = omega arith;
  room = omega arith;
  table = length-replicate {A = ℕ} 4096 0;
  store = length-replicate {A = ℕ} 8192 0;
  bindings = length-replicate {A = ℕ} variables 0;
}

-- The room is that of line 1.
job-fit : (k n : ℕ) (vs : List ℕ) → fits k n vs ≡ true → k ≡ 0 → get_or vs 3 0 ≤ 1024
unfolding fits job_fits
job-fit k n vs f e =
    let a : job_fits n vs ≡ true = rw e at f in
    leb-true _ _ (and-true (eqb n 4) _ a).1

-- What holds of each heading that a line may give holds of the one that it gives.
pub pick : (P : Heading → Type 0) (x y z : Bool) (a b c d : Heading)
    → (x ≡ true → P a) → (x ≡ false → P b) → (x ≡ false → P c) → (x ≡ false → P d)
    → P (if x then a else (if y then b else (if z then c else d)))
pick P true y z a b c d p q r s = p refl
pick P false true z a b c d p q r s = q refl
pick P false false true a b c d p q r s = r refl
pick P false false false a b c d p q r s = s refl

room-kept : (h : Heading) (k : ℕ) (vs : List ℕ) → (k ≡ 0 → get_or vs 3 0 ≤ 1024) → h.room ≤ 1024 → (headed h k vs).room ≤ 1024
unfolding headed
room-kept h k vs f l =
    pick (λ (g : Heading). g.room ≤ 1024) (eqb k 0) (eqb k 1) (eqb k 2) _ _ _ _
    (λ e. f (eqb-true k 0 e)) (λ e. l) (λ e. l) (λ e. l)

-- A line leaves the arrays' lengths.
pick-length : (x : Bool) (a b : List ℕ) (n : ℕ) → (x ≡ true → length a ≡ n) → length b ≡ n → length (if x then a else b) ≡ n
pick-length true a b n p q = p refl
pick-length false a b n p q = q

length-entry_row : (n : ℕ) (vs : List ℕ) (h : ℕ) → length (entry_row n vs h) ≡ 8
unfolding entry_row
length-entry_row n vs h = pick-length (eqb (get_or vs 0 0) 16) _ _ 8 (λ q. refl) refl

table_kept : (w : List ℕ) (e k n : ℕ) (vs : List ℕ) (h : ℕ) → (k ≡ 1 → e < 512) → length w ≡ 4096 → length (table_with w e k n vs h) ≡ 4096
unfolding table_with
table_kept w e k n vs h f l =
    pick-length (eqb k 1) _ w 4096 (λ q. length-put_row w e _ (omega (arith, f (eqb-true k 1 q))) (length-entry_row n vs h) ∙ l) l

store_kept : (w : List ℕ) (m k n : ℕ) (vs : List ℕ) → (k ≡ 2 → m < 1024) → length w ≡ 8192 → length (store_with w m k n vs) ≡ 8192
unfolding store_with node_row
store_kept w m k n vs f l =
    pick-length (eqb k 2) _ w 8192 (λ q. length-put_row w m _ (omega (arith, f (eqb-true k 2 q))) refl ∙ l) l

bindings-kept : (w : List ℕ) (k : ℕ) (vs : List ℕ) → length w ≡ variables → length (bindings_with w k vs) ≡ variables
unfolding bindings_with
bindings-kept w k vs l = pick-length (eqb k 3) _ w variables (λ q. length-set w (get_or vs 0 0) (get_or vs 1 0 + 1) ∙ l) l

-- The words of line 1 are its numbers.
words-of-job : (k : ℕ) (vs : List ℕ) → k ≡ 0 → words k vs ≡ vs
words-of-job k vs e = rw e

sized-with : (g : Reading) (x : Line) → fits x.name (length x.numbers) x.numbers ≡ true
    → admitted g.heading x.name (get_or x.numbers 0 0) ≡ true → Sized g → Sized (taken g x)
unfolding with
sized-with g x f a s =
    let r = rows-kept g.heading x.name (get_or x.numbers 0 0) a (words x.name x.numbers) s.entries s.nodes in
    record {
      entries = r.0;
      nodes = r.1;
      room = room-kept g.heading x.name (words x.name x.numbers) (λ e. rw (words-of-job x.name x.numbers e) (job-fit x.name (length x.numbers) x.numbers f e)) s.room;
      table =
          table_kept g.table g.heading.entries x.name (length x.numbers) (words x.name x.numbers) (upper x.name x.numbers)
          (entry-room g.heading x.name (get_or x.numbers 0 0) a) s.table;
      store =
          store_kept g.store g.heading.nodes x.name (length x.numbers) (words x.name x.numbers)
          (node-room g.heading x.name (get_or x.numbers 0 0) a) s.store;
      bindings = bindings-kept g.bindings x.name (words x.name x.numbers) s.bindings;
    }

sized-follow : {g h : Reading} {xs : List Line} → Follow g xs h → Sized g → Sized h
sized-follow end s = s
sized-follow (next {g} {x} f w a r) s = sized-follow r (sized-with g x f a s)

-- What a text means has these sizes.
pub sized : (s : List ℕ) (g : Reading) → meant s ≡ good g → Sized g
sized s g e = sized-follow ((text_is_job s g).0 e).follow sized-unread
