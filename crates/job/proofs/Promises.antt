-- A text that is read as lines is the text of those lines, and of no others. Assumes nothing.
use mathlib.Core.Path.{◌≡◌, refl, ap, sym, ◌∙◌, subst}
use mathlib.Core.Bool.{Bool, true, false, ◌&&◌, true≢false}
use mathlib.Core.List.{List, [], ◌∷◌, ◌++◌, append_assoc, append-nil, map}
use mathlib.Core.Option.{Option, none, some}
use Prim.Native.Nat.{ℕ, suc, ◌+◌, ◌≤◌}
use native.Mathlib.Omega.{arith}
use lib.Dec.{ltb, eqb}
use lib.ListN.{length, get_or, length-append}
use borrow.Author.Tests.{le-ltb, ltb-false, eqb-true, eqb-false, ne_eqb}
use Rattle.std.specs.Prelude.{if◌then◌else◌}
use Rattle.text.specs.Text.{one_word, two_words, parts, joined, joined_after, number_of, in_front, numbers_of, decimal, decimal_wide}
use Rattle.text.specs.Written.{numbers_text}
use Rattle.job.specs.Lines.{Line, name_of, letter_of, fits, line_from, entry_numbers, field_numbers, line_of_fields, line_of}
use Rattle.job.specs.Job.{Reading, unread, admitted, taken, accepted, Meant, bad, good, or_bad, ended, read_lines, meant}
use Rattle.job.specs.Written.{name_text, entry_text, fields_text, line_text, written, Limited, entry, other, Follow, end, next}
use Rattle.job.specs.Promises.{JobText, TextIsJob, FirstBad, BadLine, OneReading}
use Rattle.text.proofs.Separators.{parts_cut, some-part, joined-parts, parts-rest}
use Rattle.text.proofs.Put.{for-one, for-two}
use Rattle.text.proofs.Decimal.{never, same, number-text, numbers-text, joined_after-numbers}
use Rattle.job.proofs.Readings.{fits-name}
use Rattle.job.proofs.Grammar.{line_read, line_clear, written_read}

-- A field that is a name is the name's text.
letter-text : (a : ℕ) → letter_of a ≤ 3 → a ∷ [] ≡ name_text (letter_of a)
unfolding letter_of name_text
letter-text a l = go (eqb a 101) refl (eqb a 110) refl (eqb a 98) refl l
  where
    go : (x : Bool) → eqb a 101 ≡ x → (y : Bool) → eqb a 110 ≡ y → (z : Bool) → eqb a 98 ≡ z
        → (if x then 1 else (if y then 2 else (if z then 3 else 4))) ≤ 3
        → a ∷ [] ≡ name_text (if x then 1 else (if y then 2 else (if z then 3 else 4)))
    go true i y j z k l = ap (λ (b : ℕ). b ∷ []) (eqb-true a 101 i)
    go false i true j z k l = ap (λ (b : ℕ). b ∷ []) (eqb-true a 110 j)
    go false i false j true k l = ap (λ (b : ℕ). b ∷ []) (eqb-true a 98 k)
    go false i false j false k l = absurd (omega arith)

job-text : {a b c : ℕ} → a ≡ 106 → b ≡ 111 → c ≡ 98 → a ∷ b ∷ c ∷ [] ≡ name_text 0
unfolding name_text
job-text i j k = rw (i, j, k)

name-text : (f : List ℕ) → name_of f ≤ 3 → f ≡ name_text (name_of f)
unfolding name_of
name-text [] l = absurd (omega arith)
name-text (a ∷ []) l = letter-text a l
name-text (a ∷ b ∷ []) l = absurd (omega arith)
name-text (a ∷ b ∷ c ∷ []) l = go (eqb a 106) refl (eqb b 111) refl (eqb c 98) refl l
  where
    go : (x : Bool) → eqb a 106 ≡ x → (y : Bool) → eqb b 111 ≡ y → (z : Bool) → eqb c 98 ≡ z
        → (if x && (y && z) then 0 else 4) ≤ 3
        → a ∷ b ∷ c ∷ [] ≡ name_text (if x && (y && z) then 0 else 4)
    go true i true j true k l = job-text (eqb-true a 106 i) (eqb-true b 111 j) (eqb-true c 98 k)
    go true i true j false k l = absurd (omega arith)
    go true i false j z k l = absurd (omega arith)
    go false i y j z k l = absurd (omega arith)
name-text (a ∷ b ∷ c ∷ d ∷ f) l = absurd (long (rw (ne_eqb (suc (suc (suc (suc (length f))))) 1 (λ e. omega arith), ne_eqb (suc (suc (suc (suc (length f))))) 3 (λ e. omega arith)) at l))
  where
    long : 4 ≤ 3 → ⊥
    long h = omega arith

-- What is read of a line.
record Read (l : List ℕ) (x : Line) : Type 0 where
  text : l ≡ line_text x
  fit : fits x.name (length x.numbers) x.numbers ≡ true
  within : Limited x.name x.numbers

-- The fields of an `e` line are the text of its numbers.
entry-text : (fs : List (List ℕ)) (vs : List ℕ) → entry_numbers fs ≡ some vs → (joined_after 9 fs ≡ entry_text vs) × Limited 1 vs
unfolding entry_numbers entry_text
entry-text [] vs e = never e
entry-text (f ∷ []) vs e = never e
entry-text (f ∷ g ∷ fs) vs e = go (number_of one_word f) refl (number_of two_words g) refl (numbers_of 8 fs) refl e
  where
    text_of : (k a : ℕ) (ws : List ℕ) → f ≡ decimal k → g ≡ decimal_wide a → fs ≡ map decimal ws → joined_after 9 (f ∷ g ∷ fs) ≡ entry_text (k ∷ a ∷ ws)
    text_of k a ws p q r =
        (λ z. 9 ∷ (p z ++ (9 ∷ (q z ++ joined_after 9 (r z)))))
        ∙ ap (λ (t : List ℕ). 9 ∷ (decimal k ++ (9 ∷ (decimal_wide a ++ t)))) (joined_after-numbers ws)

    go : (x : Option ℕ) → number_of one_word f ≡ x → (y : Option ℕ) → number_of two_words g ≡ y → (z : Option (List ℕ)) → numbers_of 8 fs ≡ z
        → in_front x (in_front y z) ≡ some vs → (joined_after 9 (f ∷ g ∷ fs) ≡ entry_text vs) × Limited 1 vs
    go none i y j z k e = never e
    go (some a) i none j z k e = never e
    go (some a) i (some b) j none k e = never e
    go (some a) i (some b) j (some ws) k e =
        let p = number-text for-one f a i in
        let q = number-text for-two g b j in
        let r = numbers-text 8 fs ws k in
        subst (λ (us : List ℕ). (joined_after 9 (f ∷ g ∷ fs) ≡ entry_text us) × Limited 1 us) (same e)
        (text_of a b ws p.0 q.0 r.0, entry p.1 q.1 r.1)

-- So are the fields of any line.
fields-text : (k : ℕ) (fs : List (List ℕ)) (vs : List ℕ) → field_numbers k fs ≡ some vs → (joined_after 9 fs ≡ fields_text k vs) × Limited k vs
fields-text k fs vs e = go (eqb k 1) refl e
  where
    go : (b : Bool) → eqb k 1 ≡ b → (if b then entry_numbers fs else numbers_of 8 fs) ≡ some vs → (joined_after 9 fs ≡ (if b then entry_text vs else numbers_text vs)) × Limited k vs
    go true i e = let t = entry-text fs vs e in (t.0, subst (λ (n : ℕ). Limited n vs) (sym (eqb-true k 1 i)) t.1)
    go false i e =
        let t = numbers-text 8 fs vs e in
        (ap (joined_after 9) t.0 ∙ joined_after-numbers vs, other i t.1)

line_made : (f : List ℕ) (fs : List (List ℕ)) (vs : List ℕ) → f ≡ name_text (name_of f) → joined_after 9 fs ≡ fields_text (name_of f) vs
    → f ++ joined_after 9 fs ≡ line_text (record { name = name_of f; numbers = vs })
unfolding line_text
line_made f fs vs n e = ap (λ (r : List ℕ). f ++ r) e ∙ ap (λ (a : List ℕ). a ++ fields_text (name_of f) vs) n

read-from : (f : List ℕ) (fs : List (List ℕ)) (o : Option (List ℕ)) → field_numbers (name_of f) fs ≡ o → (x : Line) → line_from (name_of f) o ≡ some x → Read (f ++ joined_after 9 fs) x
read-from f fs none i x e = never e
read-from f fs (some vs) i x e = go (fits (name_of f) (length vs) vs) refl e
  where
    made : fits (name_of f) (length vs) vs ≡ true → Read (f ++ joined_after 9 fs) (record { name = name_of f; numbers = vs })
    made t = record { text = text_of t; fit = t; within = (fields-text (name_of f) fs vs i).1 }
      where
        text_of : fits (name_of f) (length vs) vs ≡ true → f ++ joined_after 9 fs ≡ line_text (record { name = name_of f; numbers = vs })
        text_of t =
            line_made f fs vs (name-text f (ltb-false 3 (name_of f) (fits-name (name_of f) (length vs) vs t))) (fields-text (name_of f) fs vs i).0

    go : (b : Bool) → fits (name_of f) (length vs) vs ≡ b → (if b then some (record { name = name_of f; numbers = vs }) else none) ≡ some x → Read (f ++ joined_after 9 fs) x
    go true t e = subst (Read (f ++ joined_after 9 fs)) (same e) (made t)
    go false t e = never e

line-text : (l : List ℕ) (x : Line) → line_of l ≡ some x → Read l x
unfolding line_of
line-text l x e = subst (λ (s : List ℕ). Read s x) (joined-parts 9 l) (go (parts 9 l) e)
  where
    go : (fs : List (List ℕ)) → line_of_fields fs ≡ some x → Read (joined 9 fs) x
    go [] e = never e
    go (f ∷ fs) e = read-from f fs (field_numbers (name_of f) fs) refl x e

-- The lines of a text that is read.
record Lines (s : List ℕ) (g h : Reading) : Type 0 where
  lines : List Line
  text : s ≡ written lines
  follow : Follow g lines h
  begun : h.heading.section ≡ 0 → ⊥

bad-good : {B : Type 0} {n : ℕ} {g : Reading} → bad n ≡ good g → B
bad-good e = let z : ◌≡◌ {A = ℕ} 0 1 = cc in absurd (omega arith)

same_good : {g h : Reading} → good g ≡ good h → g ≡ h
same_good e = cc

nothing_written : [] ≡ written []
unfolding written
nothing_written = refl

line-more : (l r : List ℕ) (x : Line) (xs : List Line) → l ≡ line_text x → r ≡ written xs → l ++ (10 ∷ r) ≡ written (x ∷ xs)
unfolding written
line-more l r x xs e f = rw (e, f)

lines-ended : (g : Reading) (n : ℕ) (l : List ℕ) (h : Reading) → ended g n l ≡ good h → Lines (joined 10 (l ∷ [])) g h
lines-ended g n (b ∷ l) h e = bad-good e
lines-ended g n [] h e = go (eqb g.heading.section 0) refl e
  where
    go : (q : Bool) → eqb g.heading.section 0 ≡ q → (if q then bad n else good g) ≡ good h → Lines [] g h
    go true i e = bad-good e
    go false i e = subst (Lines [] g) (same_good e) (record { lines = []; text = nothing_written; follow = end; begun = eqb-false g.heading.section 0 i })

lines_next : (g : Reading) (n : ℕ) (l : List ℕ) (r : List ℕ) (h : Reading) (rest : Reading → Meant) (o : Option Line) → line_of l ≡ o
    → ((g' : Reading) → rest g' ≡ good h → Lines r g' h)
    → or_bad n (accepted g o) rest ≡ good h
    → Lines (l ++ (10 ∷ r)) g h
lines_next g n l r h rest none i k e = bad-good e
lines_next g n l r h rest (some x) i k e = go (admitted g.heading x.name (get_or x.numbers 0 0)) refl e
  where
    add : admitted g.heading x.name (get_or x.numbers 0 0) ≡ true → Lines r (taken g x) h → Lines (l ++ (10 ∷ r)) g h
    add a m =
        let t : Read l x = line-text l x i in
        record {
          lines = x ∷ m.lines;
          text = line-more l r x m.lines t.text m.text;
          follow = next t.fit t.within a m.follow;
          begun = m.begun;
        }

    go : (q : Bool) → admitted g.heading x.name (get_or x.numbers 0 0) ≡ q
        → or_bad n (if q then some (taken g x) else none) rest ≡ good h
        → Lines (l ++ (10 ∷ r)) g h
    go true a e = add a (k (taken g x) e)
    go false a e = bad-good e

lines-read : (ps : List (List ℕ)) (g : Reading) (n : ℕ) (h : Reading) → read_lines g n ps ≡ good h → Lines (joined 10 ps) g h
unfolding read_lines
lines-read [] g n h e = bad-good e
lines-read (l ∷ []) g n h e = lines-ended g n l h e
lines-read (l ∷ m ∷ ls) g n h e =
    lines_next g n l (joined 10 (m ∷ ls)) h (λ g'. read_lines g' (n + 1) (m ∷ ls)) (line_of l) refl (λ g'. lines-read (m ∷ ls) g' (n + 1) h) e

-- A text means a job exactly where it is the text of the job's lines.
job-text-of : (s : List ℕ) (g : Reading) → meant s ≡ good g → JobText s g
unfolding meant
job-text-of s g e = go (ltb 60000 (length s)) refl e
  where
    go : (q : Bool) → ltb 60000 (length s) ≡ q → (if q then bad 0 else read_lines unread 1 (parts 10 s)) ≡ good g → JobText s g
    go true i e = bad-good e
    go false i e =
        let t : Lines s unread g = subst (λ (r : List ℕ). Lines r unread g) (joined-parts 10 s) (lines-read (parts 10 s) unread 1 g e) in
        record { short = ltb-false 60000 (length s) i; lines = t.lines; text = t.text; follow = t.follow; begun = t.begun }

job-meant : (s : List ℕ) (g : Reading) → JobText s g → meant s ≡ good g
unfolding meant
job-meant s g t = rw (le-ltb 60000 (length s) t.short) (rw t.text (written_read 1 t.follow t.begun))

pub text_is_job : TextIsJob
text_is_job s g = (job-text-of s g, job-meant s g)

-- A text is read in one way.
cut : (x : Line) (xs : List Line) → parts 10 (written (x ∷ xs)) ≡ line_text x ∷ parts 10 (written xs)
unfolding written
cut x xs = parts_cut (written xs) (line_clear x)

-- Two texts of lines that are the same have the same first line and the same rest.
both : (x : Line) (xs : List Line) (y : Line) (ys : List Line) → written (x ∷ xs) ≡ written (y ∷ ys) → (line_text x ≡ line_text y) × (written xs ≡ written ys)
both x xs y ys e =
    let p : line_text x ∷ parts 10 (written xs) ≡ line_text y ∷ parts 10 (written ys) = sym (cut x xs) ∙ ap (parts 10) e ∙ cut y ys in
    let t : parts 10 (written xs) ≡ parts 10 (written ys) = cc in
    (cc, sym (joined-parts 10 (written xs)) ∙ ap (joined 10) t ∙ joined-parts 10 (written ys))

-- A line has some text.
no_text : (x : Line) (xs : List Line) → written (x ∷ xs) ≡ written [] → ⊥
unfolding written
no_text x xs e =
    let n : length (line_text x ++ (10 ∷ written xs)) ≡ 0 = ap length e in
    omega (arith, n, length-append (line_text x) (10 ∷ written xs))

one-reading : {f g h k : Reading} (xs ys : List Line) → Follow f xs g → Follow h ys k → written xs ≡ written ys → xs ≡ ys
one-reading [] [] end end e = refl
one-reading [] (y ∷ ys) end (next f w a r) e = absurd (no_text y ys (sym e))
one-reading (x ∷ xs) [] (next f w a r) end e = absurd (no_text x xs e)
one-reading {f = f''} {h = h''} (x ∷ xs) (y ∷ ys) (next f w a r) (next f' w' a' r') e =
    let p : _ = both x xs y ys e in
    let q : x ≡ y = same (sym (line_read x f w) ∙ ap line_of p.0 ∙ line_read y f' w') in
    ap (λ (z : Line). z ∷ xs) q ∙ ap (λ (zs : List Line). y ∷ zs) (one-reading {f = taken f'' x} {h = taken h'' y} xs ys r r' p.1)

pub one_reading : OneReading
one_reading xs ys g h p q e = one-reading xs ys p q e

good-bad : {B : Type 0} {n : ℕ} {g : Reading} → good g ≡ bad n → B
good-bad e = let z : ◌≡◌ {A = ℕ} 0 1 = cc in absurd (omega arith)

same-bad : {m n : ℕ} → bad m ≡ bad n → m ≡ n
same-bad e = cc

-- A line's text at the front of a text is its first part, and there are more.
front : (s : List ℕ) (x : Line) (r : List ℕ) (ps : List (List ℕ)) → parts 10 s ≡ ps → s ≡ line_text x ++ (10 ∷ r) → ps ≡ line_text x ∷ parts 10 r
front s x r ps i e = sym i ∙ ap (parts 10) e ∙ parts_cut r (line_clear x)

-- Bad where it stands: the lines before are none.
here : (g : Reading) (s : List ℕ) (n m : ℕ) → n ≡ m
    → ((x : Line) (r : List ℕ) → s ≡ line_text x ++ (10 ∷ r) → fits x.name (length x.numbers) x.numbers ≡ true
    → Limited x.name x.numbers → admitted g.heading x.name (get_or x.numbers 0 0) ≡ true → ⊥)
    → (s ≡ [] → g.heading.section ≡ 0)
    → FirstBad g s n m
unfolding written
here g s n m e k u = record { lines = []; after = g; rest = s; text = refl; follow = end; number = omega (arith, e); stuck = k; unfinished = u }

bad-ended : (g : Reading) (s l : List ℕ) (n m : ℕ) → parts 10 s ≡ l ∷ [] → ended g n l ≡ bad m → FirstBad g s n m
bad-ended g s l n m i e = here g s n m (number-of l e) (λ x r z f w a. two x r z) (λ z. opened l (sym (joined-parts 10 s) ∙ ap (joined 10) i ∙ append-nil l) z e)
  where
    number-of : (l : List ℕ) → ended g n l ≡ bad m → n ≡ m
    number-of (b ∷ l) e = same-bad e
    number-of [] e = pick_n (eqb g.heading.section 0) e
      where
        pick_n : (q : Bool) → (if q then bad n else good g) ≡ bad m → n ≡ m
        pick_n true e = same-bad e
        pick_n false e = good-bad e

    two : (x : Line) (r : List ℕ) → s ≡ line_text x ++ (10 ∷ r) → ⊥
    two x r z =
        let q : l ∷ [] ≡ line_text x ∷ parts 10 r = front s x r (l ∷ []) i z in
        let j : 1 ≡ suc (length (parts 10 r)) = ap length q in
        omega (arith, j, some-part 10 r)

    opened : (l : List ℕ) → s ≡ l → s ≡ [] → ended g n l ≡ bad m → g.heading.section ≡ 0
    opened (b ∷ l) p z e = absurd (let j : suc (length l) ≡ 0 = ap length (sym p ∙ z) in omega arith)
    opened [] p z e = pick_s (eqb g.heading.section 0) refl e
      where
        pick_s : (q : Bool) → eqb g.heading.section 0 ≡ q → (if q then bad n else good g) ≡ bad m → g.heading.section ≡ 0
        pick_s true i e = eqb-true g.heading.section 0 i
        pick_s false i e = good-bad e

line-and : (l : List ℕ) (x : Line) (r : List ℕ) (xs : List Line) (t : List ℕ) → l ≡ line_text x → r ≡ written xs ++ t → l ++ (10 ∷ r) ≡ written (x ∷ xs) ++ t
unfolding written
line-and l x r xs t e f = rw (e, f) (sym (append_assoc (line_text x) (10 ∷ written xs) t))

bad-next : (g : Reading) (s l k : List ℕ) (ls : List (List ℕ)) (n m : ℕ) → parts 10 s ≡ l ∷ k ∷ ls
    → (rest : Reading → Meant)
    → ((g' : Reading) → rest g' ≡ bad m → FirstBad g' (joined 10 (k ∷ ls)) (n + 1) m)
    → (o : Option Line) → line_of l ≡ o → or_bad n (accepted g o) rest ≡ bad m → FirstBad g s n m
bad-next g s l k ls n m i rest h o j e = go o j e
  where
    whole : s ≡ l ++ (10 ∷ joined 10 (k ∷ ls))
    whole = sym (joined-parts 10 s) ∙ ap (joined 10) i

    some-text : s ≡ [] → g.heading.section ≡ 0
    some-text z = absurd (let q : length (l ++ (10 ∷ joined 10 (k ∷ ls))) ≡ 0 = ap length (sym whole ∙ z) in omega (arith, q, length-append l (10 ∷ joined 10 (k ∷ ls))))

    first-line : (x : Line) (r : List ℕ) → s ≡ line_text x ++ (10 ∷ r) → fits x.name (length x.numbers) x.numbers ≡ true → Limited x.name x.numbers → line_of l ≡ some x
    first-line x r z f w =
        let q : l ∷ k ∷ ls ≡ line_text x ∷ parts 10 r = front s x r (l ∷ k ∷ ls) i z in
        let p : l ≡ line_text x = cc in
        ap line_of p ∙ line_read x f w

    more-lines : (x : Line) → line_of l ≡ some x → admitted g.heading x.name (get_or x.numbers 0 0) ≡ true → FirstBad (taken g x) (joined 10 (k ∷ ls)) (n + 1) m → FirstBad g s n m
    more-lines x j a t =
        let u : Read l x = line-text l x j in
        record {
          lines = x ∷ t.lines;
          after = t.after;
          rest = t.rest;
          text = whole ∙ line-and l x (joined 10 (k ∷ ls)) t.lines t.rest u.text t.text;
          follow = next u.fit u.within a t.follow;
          number = omega (arith, t.number);
          stuck = t.stuck;
          unfinished = t.unfinished;
        }

    tried : (x : Line) → line_of l ≡ some x → (q : Bool) → admitted g.heading x.name (get_or x.numbers 0 0) ≡ q
        → or_bad n (if q then some (taken g x) else none) rest ≡ bad m → FirstBad g s n m
    tried x j true a e = more-lines x j a (h (taken g x) e)
    tried x j false a e = here g s n m (same-bad e)
        (λ y r z f w b.
        let p : x ≡ y = same (sym j ∙ first-line y r z f w) in
        let c : admitted g.heading x.name (get_or x.numbers 0 0) ≡ true = subst (λ (v : Line). admitted g.heading v.name (get_or v.numbers 0 0) ≡ true) (sym p) b in
        true≢false (sym c ∙ a))
        some-text

    go : (o : Option Line) → line_of l ≡ o → or_bad n (accepted g o) rest ≡ bad m → FirstBad g s n m
    go none j e = here g s n m (same-bad e) (λ y r z f w b. never (sym j ∙ first-line y r z f w)) some-text
    go (some x) j e = tried x j (admitted g.heading x.name (get_or x.numbers 0 0)) refl e

bad-read : (ps : List (List ℕ)) (s : List ℕ) (g : Reading) (n m : ℕ) → parts 10 s ≡ ps → read_lines g n ps ≡ bad m → FirstBad g s n m
unfolding read_lines
bad-read [] s g n m i e = absurd (let q : length (parts 10 s) ≡ 0 = ap length i in omega (arith, q, some-part 10 s))
bad-read (l ∷ []) s g n m i e = bad-ended g s l n m i e
bad-read (l ∷ k ∷ ls) s g n m i e =
    bad-next g s l k ls n m i (λ g'. read_lines g' (n + 1) (k ∷ ls)) (λ g'. bad-read (k ∷ ls) (joined 10 (k ∷ ls)) g' (n + 1) m (parts-rest 10 s l k ls i)) (line_of l) refl e

pub bad_line : BadLine
unfolding meant
bad_line s n l e =
    let r : read_lines unread 1 (parts 10 s) ≡ bad n = rw (le-ltb 60000 (length s) l) at e in
    bad-read (parts 10 s) s unread 1 n refl r
