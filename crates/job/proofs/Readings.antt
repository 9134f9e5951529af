-- A line taken in where it stands in a text: what the text means goes on after it. Assumes nothing.
use mathlib.Core.Path.{◌≡◌, refl, ap, sym, ◌∙◌, subst}
use mathlib.Core.Bool.{Bool, true, false, ◌&&◌, ◌||◌, true≢false}
use mathlib.Core.List.{List, [], ◌∷◌}
use mathlib.Core.Logic.{⊎_elim}
use mathlib.Core.Option.{Option, none, some}
use Prim.Native.Nat.{ℕ, ◌+◌, ◌%◌, ◌≤◌, ◌<◌}
use native.Mathlib.Omega.{arith}
use lib.Dec.{ltb, leb, eqb}
use lib.ListN.{length, get_or, set, drop, drop_of_length-le}
use borrow.Author.Tests.{lt-ltb, le-ltb, le-leb, eqb-true, leb-true, ltb-true, eq-eqb, ne_eqb}
use Rattle.checks.specs.Kinds.{variables}
use Rattle.std.specs.Prelude.{if◌then◌else◌}
use Rattle.words.proofs.Tests.{and-true, below-or-from}
use Rattle.text.specs.Text.{parts, up_to, eight}
use Rattle.text.specs.Lines.{line_end}
use Rattle.job.specs.Lines.{Line, Taken, name_of, job_fits, entry_fits, node_fits, binding_fits, fits, line_from, field_numbers, line_of_fields}
use Rattle.job.specs.Lines.{line_of, words, upper, entry_row, node_row, no_line, line_held, taken_at}
use Rattle.job.specs.Job.{Heading, Parsed, Reading, admitted, headed, table_with, store_with, bindings_with, with, taken, accepted, Meant, bad, good}
use Rattle.job.specs.Job.{or_bad, ended, read_lines, Holds, blank, zeros, meant, parsed_of, table_of, store_of, bindings_of}
use Rattle.job.specs.Job as told
use Rattle.text.proofs.Parts.{parts_first}
use Rattle.text.proofs.Lines.{line-next, line-last}
use Rattle.job.proofs.Shapes.{get_or-eight, fits-eight}

-- A line has numbers that fit its name.
data Lined : Option Line → Type 0 where
  no : Lined none
  yes : (x : Line) → fits x.name (length x.numbers) x.numbers ≡ true → Lined (some x)

lined-from : (k : ℕ) (o : Option (List ℕ)) → Lined (line_from k o)
lined-from k none = no
lined-from k (some vs) = go (fits k (length vs) vs) refl
  where
    go : (b : Bool) → fits k (length vs) vs ≡ b → Lined (if b then some (record { name = k; numbers = vs }) else none)
    go true e = yes (record { name = k; numbers = vs }) e
    go false e = no

lined : (l : List ℕ) → Lined (line_of l)
unfolding line_of
lined l = go (parts 9 l)
  where
    go : (fs : List (List ℕ)) → Lined (line_of_fields fs)
    go [] = no
    go (f ∷ fs) = lined-from (name_of f) (field_numbers (name_of f) fs)

-- What fits a name has one of the four.
pub fits-name : (k n : ℕ) (vs : List ℕ) → fits k n vs ≡ true → ltb 3 k ≡ false
unfolding fits job_fits entry_fits node_fits binding_fits
fits-name k n vs e = go (eqb k 0) refl (eqb k 1) refl (eqb k 2) refl (eqb k 3) refl e
  where
    go : (a : Bool) → eqb k 0 ≡ a → (b : Bool) → eqb k 1 ≡ b → (c : Bool) → eqb k 2 ≡ c → (d : Bool) → eqb k 3 ≡ d
        → (if a then job_fits n vs else (if b then entry_fits n vs else (if c then node_fits n vs else (if d then binding_fits n vs else false)))) ≡ true
        → ltb 3 k ≡ false
    go true p b q c r d s e = le-ltb 3 k (omega (arith, eqb-true k 0 p))
    go false p true q c r d s e = le-ltb 3 k (omega (arith, eqb-true k 1 q))
    go false p false q true r d s e = le-ltb 3 k (omega (arith, eqb-true k 2 r))
    go false p false q false r true s e = le-ltb 3 k (omega (arith, eqb-true k 3 s))
    go false p false q false r false s e = absurd (true≢false (sym e))

-- What is read with a line's eight places is what is read with its numbers.
with-eight : (g : Reading) (k n : ℕ) (vs : List ℕ) (h : ℕ) → with g k n (eight vs) h ≡ with g k n vs h
unfolding with headed table_with store_with bindings_with entry_row node_row
with-eight g k n vs h =
    rw (get_or-eight vs 0, get_or-eight vs 1, get_or-eight vs 2, get_or-eight vs 3, get_or-eight vs 4, get_or-eight vs 5, get_or-eight vs 6, get_or-eight vs 7)

-- What fits each name.
module _ (k n : ℕ) (vs : List ℕ) (f : fits k n vs ≡ true) where
  pub entry-fit : k ≡ 1 → (2 ≤ n) × (n ≤ 8) × (get_or vs 0 0 ≤ 255)
  unfolding fits entry_fits
  entry-fit e =
      let a : entry_fits n vs ≡ true = rw e at f in
      let b : _ = and-true (leb 2 n) _ a in
      let d : _ = and-true (leb n 8) _ b.1 in
      let c : _ = and-true (leb (get_or vs 0 0) 255) _ d.1 in
      (leb-true _ _ b.0, leb-true _ _ d.0, leb-true _ _ c.0)

  pub node-fit : k ≡ 2 → 1 ≤ n
  unfolding fits node_fits
  node-fit e =
      let a : node_fits n vs ≡ true = rw e at f in
      leb-true _ _ (and-true (leb 1 n) _ a).0

  pub binding-fit : k ≡ 3 → (get_or vs 0 0 < variables) × (get_or vs 1 0 < 131072)
  unfolding fits binding_fits
  binding-fit e =
      let a : binding_fits n vs ≡ true = rw e at f in
      let b : _ = and-true (ltb (get_or vs 0 0) variables) _ (and-true (eqb n 2) _ a).1 in
      (ltb-true _ _ b.0, ltb-true _ _ b.1)

-- An `e` line whose argument is of one word.
entry-fits : (k n : ℕ) (vs : List ℕ) → k ≡ 1 → 2 ≤ n → n ≤ 8 → get_or vs 0 0 ≤ 255 → get_or vs 1 0 ≤ 4294967295 → fits k n vs ≡ true
unfolding fits entry_fits
entry-fits k n vs e l m o p = rw (e, le-leb _ _ l, le-leb _ _ m, le-leb _ _ o, le-leb _ _ p) (either (eqb (get_or vs 0 0) 16))
  where
    either : (b : Bool) → b || true ≡ true
    either true = refl
    either false = refl

-- The first word is the first number.
first_word : (k : ℕ) (vs : List ℕ) → get_or (words k vs) 0 0 ≡ get_or vs 0 0
first_word k vs = go (eqb k 1) vs
  where
    go : (b : Bool) (vs : List ℕ) → get_or (if b then set vs 1 (get_or vs 1 0 % 4294967296) else vs) 0 0 ≡ get_or vs 0 0
    go true [] = refl
    go true (v ∷ vs) = refl
    go false vs = refl

second_word : (vs : List ℕ) → get_or (set vs 1 (get_or vs 1 0 % 4294967296)) 1 0 ≤ 4294967295
second_word [] = omega arith
second_word (v ∷ []) = omega arith
second_word (v ∷ w ∷ vs) = omega arith

-- Words fit where the numbers do.
fits-words : (k n : ℕ) (vs : List ℕ) → fits k n vs ≡ true → fits k n (words k vs) ≡ true
fits-words k n vs f = go (eqb k 1) refl
  where
    first : (vs : List ℕ) → get_or (set vs 1 (get_or vs 1 0 % 4294967296)) 0 0 ≡ get_or vs 0 0
    first [] = refl
    first (v ∷ vs) = refl

    go : (b : Bool) → eqb k 1 ≡ b → fits k n (if b then set vs 1 (get_or vs 1 0 % 4294967296) else vs) ≡ true
    go true e =
        let o : k ≡ 1 = eqb-true k 1 e in
        let h = entry-fit k n vs f o in
        entry-fits k n (set vs 1 (get_or vs 1 0 % 4294967296)) o h.0 h.1 (rw (first vs) h.2) (second_word vs)
    go false e = f

-- Something after the last line feed is bad.
ended-more : (g : Reading) (n : ℕ) (l : List ℕ) → 0 < length l → ended g n l ≡ bad n
ended-more g n [] h = absurd (omega arith)
ended-more g n (b ∷ l) h = refl

-- A line taken from a text, and what it makes of what the text means.
abbrev pub going_on : Reading → ℕ → Taken → List ℕ → Meant
going_on g n t s =
    if ltb 3 t.name
    then bad n
    else (if admitted g.heading t.name (get_or t.at 0 0) then read_lines (with g t.name t.count t.at t.high) (n + 1) (parts 10 (drop t.next s)) else bad n)

module _ (s : List ℕ) (at : ℕ) where
  abbrev l : List ℕ
  l = up_to 10 (drop at s)

  abbrev e : ℕ
  e = line_end s at

  -- What is taken: a line with its line feed, or none.
  pub taken-long : e < length s → taken_at s at ≡ line_held (line_of l) (e + 1)
  unfolding taken_at
  taken-long h = rw (lt-ltb e (length s) h)

  pub taken-last : length s ≤ e → taken_at s at ≡ no_line (length s)
  unfolding taken_at
  taken-last h = rw (le-ltb e (length s) h)

  -- A line with its line feed, taken in or bad.
  module _ (g : Reading) (n : ℕ) where
    one : (o : Option Line) → Lined o → (m : List ℕ) (ls : List (List ℕ)) → parts 10 (drop (e + 1) s) ≡ m ∷ ls
        → or_bad n (accepted g o) (λ g'. read_lines g' (n + 1) (m ∷ ls)) ≡ going_on g n (line_held o (e + 1)) s
    one none no m ls p = refl
    one (some x) (yes y f) m ls p =
        rw (
          fits-name x.name (length x.numbers) x.numbers f,
          get_or-eight (words x.name x.numbers) 0,
          first_word x.name
              x.numbers,
          with-eight g x.name (length x.numbers) (words x.name x.numbers) (upper x.name x.numbers),
          p,
        )
        (go (admitted g.heading x.name (get_or x.numbers 0 0)))
      where
        go : (b : Bool)
            → or_bad n (if b then some (taken g x) else none) (λ g'. read_lines g' (n + 1) (m ∷ ls))
            ≡ (if b then read_lines (taken g x) (n + 1) (m ∷ ls) else bad n)
        go true = refl
        go false = refl

    -- What the text means from here on.
    reads-long : e < length s → read_lines g n (parts 10 (drop at s)) ≡ going_on g n (taken_at s at) s
    unfolding read_lines
    reads-long m =
        let p : _ = parts_first 10 (drop (e + 1) s) in
        rw (taken-long m, line-next s at m, p) (one (line_of l) (lined l) _ _ p)

    reads-last : at < length s → length s ≤ e → read_lines g n (parts 10 (drop at s)) ≡ going_on g n (taken_at s at) s
    unfolding read_lines
    reads-last h m =
        let p : 0 < length l = omega arith in
        rw (taken-last m, line-last s at m) (ended-more g n l p)

    pub reads : at < length s → read_lines g n (parts 10 (drop at s)) ≡ going_on g n (taken_at s at) s
    reads h = ⊎_elim reads-long (reads-last h) (below-or-from e (length s))

    -- Nothing is left.
    pub reads_none : length s ≤ at → g.heading.section ≡ 0 → read_lines g n (parts 10 (drop at s)) ≡ bad n
    unfolding parts read_lines
    reads_none h z = rw (drop_of_length-le s h, eq-eqb _ _ z)

    pub reads_all : length s ≤ at → (g.heading.section ≡ 0 → ⊥) → read_lines g n (parts 10 (drop at s)) ≡ good g
    unfolding parts read_lines
    reads_all h z = rw (drop_of_length-le s h, ne_eqb _ _ z)

module _ (s : List ℕ) (at : ℕ) (t : Taken) (z : t ≡ taken_at s at) (h : at < length s) (g : Reading) (n : ℕ) where
  -- A bad line.
  pub reads-bad : 3 < t.name → read_lines g n (parts 10 (drop at s)) ≡ bad n
  reads-bad b = reads s at g n h ∙ rw (← z, lt-ltb _ _ b)

  -- A line that may not come next.
  pub reads-refused : t.name ≤ 3 → admitted g.heading t.name (get_or t.at 0 0) ≡ false → read_lines g n (parts 10 (drop at s)) ≡ bad n
  reads-refused b a = reads s at g n h ∙ rw (← z, le-ltb _ _ b, a)

  -- A line that is taken in.
  pub reads_on : t.name ≤ 3
      → admitted g.heading t.name (get_or t.at 0 0) ≡ true
      → read_lines g n (parts 10 (drop at s)) ≡ read_lines (with g t.name t.count t.at t.high) (n + 1) (parts 10 (drop t.next s))
  reads_on b a = reads s at g n h ∙ rw (← z, le-ltb _ _ b, a)

-- What is read with a line, part by part.
pub with-made : (g : Reading) (k n : ℕ) (vs : List ℕ) (x : ℕ) (h : Heading) (t s b : List ℕ)
    → h ≡ headed g.heading k vs
    → t ≡ table_with g.table g.heading.entries k n vs x
    → s ≡ store_with g.store g.heading.nodes k n vs
    → b ≡ bindings_with g.bindings k vs
    → record { heading = h; table = t; store = s; bindings = b } ≡ with g k n vs x
unfolding with
with-made g k n vs x h t s b p q r u = rw (p, q, r, u)

-- What a line that may come next leaves room for.
module _ (h : Heading) (k v : ℕ) (a : admitted h k v ≡ true) where
  pub entry-room : k ≡ 1 → h.entries < 512
  unfolding admitted
  entry-room e =
      let b : leb 1 h.section && (leb h.section 1 && ltb h.entries 512) ≡ true = rw e at a in
      ltb-true _ _ (and-true (leb h.section 1) _ (and-true (leb 1 h.section) _ b).1).1

  pub node-room : k ≡ 2 → h.nodes < 1024
  unfolding admitted
  node-room e =
      let b : leb 1 h.section && (leb h.section 2 && ltb h.nodes 1024) ≡ true = rw e at a in
      ltb-true _ _ (and-true (leb h.section 2) _ (and-true (leb 1 h.section) _ b).1).1

  -- So the rows stay within the arrays.
  pub rows-kept : (vs : List ℕ) → h.entries ≤ 512 → h.nodes ≤ 1024 → ((headed h k vs).entries ≤ 512) × ((headed h k vs).nodes ≤ 1024)
  unfolding headed
  rows-kept vs p q = go (eqb k 0) (eqb k 1) refl (eqb k 2) refl
    where
      next : Bool → Bool → Bool → Heading
      next x y w =
          if x
          then record { section = 1; entries = 0; nodes = 0; variable = 0; units = get_or vs 0 0; start = get_or vs 1 0; subject = get_or vs 2 0; room = get_or vs 3 0 }
          else (if y
          then record { section = k; entries = h.entries + 1; nodes = h.nodes; variable = h.variable; units = h.units; start = h.start; subject = h.subject; room = h.room }
          else (if w
          then record { section = k; entries = h.entries; nodes = h.nodes + 1; variable = h.variable; units = h.units; start = h.start; subject = h.subject; room = h.room }
          else record { section = k; entries = h.entries; nodes = h.nodes; variable = get_or vs 0 0 + 1; units = h.units; start = h.start; subject = h.subject; room = h.room }))

      go : (x y : Bool) → eqb k 1 ≡ y → (w : Bool) → eqb k 2 ≡ w → ((next x y w).entries ≤ 512) × ((next x y w).nodes ≤ 1024)
      go true y i w j = (omega arith, omega arith)
      go false true i w j = (omega (arith, entry-room (eqb-true k 1 i)), q)
      go false false i true j = (p, omega (arith, node-room (eqb-true k 2 j)))
      go false false i false j = (p, q)

-- What the code gives and leaves, by what the text means.
pub stopped : (m : Meant) (n : ℕ) (t s b : List ℕ) → m ≡ bad n → Holds m (told.Bad n) t s b
stopped m n t s b e = rw e refl

pub finished : (m : Meant) (g : Reading) → m ≡ good g → Holds m (told.Read g.heading) g.table g.store g.bindings
finished m g e = rw e (refl, refl, refl, refl)

-- A line that was taken, not a bad one: its numbers fit, and the place after it is further on, inside the text.
pub record Sound (s : List ℕ) (at : ℕ) (t : Taken) : Type 0 where
  pub fit : fits t.name t.count t.at ≡ true
  pub on : at < t.next
  pub within : t.next ≤ length s

pub sound : (s : List ℕ) (at : ℕ) (t : Taken) → t ≡ taken_at s at → t.name ≤ 3 → Sound s at t
sound s at t z h = ⊎_elim long last (below-or-from (e s at) (length s))
  where
    some-line : (o : Option Line) → Lined o → e s at < length s → (line_held o (e s at + 1)).name ≤ 3 → Sound s at (line_held o (e s at + 1))
    some-line none no m k = absurd (omega arith)
    some-line (some x) (yes y f) m k =
        record { fit = fits-eight x.name (length x.numbers) (words x.name x.numbers) ∙ fits-words x.name (length x.numbers) x.numbers f; on = omega arith; within = omega arith }

    long : e s at < length s → Sound s at t
    long m =
        let w : t ≡ line_held (line_of (l s at)) (e s at + 1) = z ∙ taken-long s at m in
        subst (Sound s at) (sym w) (some-line (line_of (l s at)) (lined (l s at)) m (subst (λ (u : Taken). u.name ≤ 3) w h))

    last : length s ≤ e s at → Sound s at t
    last m = let d : t.name ≡ 4 = ap (λ (u : Taken). u.name) (z ∙ taken-last s at m) in absurd (omega arith)

-- More than 60,000 bytes.
pub meant-long : (text : List ℕ) → 60000 < length text → meant text ≡ bad 0
unfolding meant
meant-long text l = rw (lt-ltb _ _ l)

-- Otherwise the lines decide.
pub meant-read : (text t s b : List ℕ) → length text ≤ 60000 → t ≡ zeros 4096 → s ≡ zeros 8192 → b ≡ zeros variables
    → read_lines (record { heading = blank; table = t; store = s; bindings = b }) 1 (parts 10 text) ≡ meant text
unfolding meant
meant-read text t s b l p q r = rw (le-ltb _ _ l, p, q, r)

-- What the code gives and leaves, of a bad text and of a job.
abbrev pub Right : Meant → Parsed → List ℕ → List ℕ → List ℕ → Type 0
Right m o t s b = (o ≡ parsed_of m) × (t ≡ table_of m) × (s ≡ store_of m) × (b ≡ bindings_of m)

pub right-bad : (m : Meant) (n : ℕ) (t s b : List ℕ) → m ≡ bad n → t ≡ zeros 4096 → s ≡ zeros 8192 → b ≡ zeros variables → Right m (told.Bad n) t s b
right-bad m n t s b e p q r = rw e (refl, p, q, r)

-- The outcome tells what the text means.
pub holds-bad : (m : Meant) (o : Parsed) (n : ℕ) (t s b : List ℕ) → Holds m o t s b → o ≡ told.Bad n → m ≡ bad n
holds-bad (bad k) o n t s b h e = let d : k ≡ n = cc in ap bad d
holds-bad (good g) o n t s b h e =
    let p : o ≡ told.Read g.heading = h.0 in
    let z : ◌≡◌ {A = ℕ} 0 1 = cc in absurd (omega arith)

right-read : (m : Meant) (o : Parsed) (h : Heading) (t s b : List ℕ) → Holds m o t s b → o ≡ told.Read h → Right m (told.Read h) t s b
right-read (bad k) o h t s b w e = let z : ◌≡◌ {A = ℕ} 0 1 = cc in absurd (omega arith)
right-read (good g) o h t s b w e = (sym e ∙ w.0, w.1, w.2, w.3)

pub holds_read : {m m' : Meant} → m ≡ m' → (o : Parsed) (h : Heading) (t s b : List ℕ) → Holds m o t s b → o ≡ told.Read h → Right m' (told.Read h) t s b
holds_read {m} {m'} z o h t s b w e = subst (λ (k : Meant). Right k (told.Read h) t s b) z (right-read m o h t s b w e)
