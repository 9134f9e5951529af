-- What the words of a frame mean: the two ways on of the visit that it asked for; and the plan that a turn says. A frame's ways on
-- depend on its own words, the bindings that it keeps and the table alone.
use Rattle.std.specs.Prelude.{◌≡◌, Bool, true, false, ◌&&◌, List, [], ◌∷◌, ◌++◌, ℕ, ◌+◌, ◌<◌, ◌%◌, eqb, ltb, length, get_or, take, drop, set, if◌then◌else◌}
use Rattle.std.proofs.Math.Option.{none, some}
use Rattle.words.specs.Words.{word_at, rows}
use Rattle.checks.specs.Kinds.{ours, variables, sort_of}
use Rattle.checks.specs.declared.kinds.Sort.TheVariants.{Strategy}
use Rattle.checks.specs.Good.{kind_of, operand_count, argument_of, constructor_of, child_count, mask_by}
use Rattle.meaning.specs.Bindings.{Bindings, unbound, bind, has, masked}
use Rattle.meaning.specs.Table.{six}
use Rattle.meaning.specs.Plan.{Keep, keep, drop as give, ret, fail, miss, stuck, look, make, ask}
use Rattle.meaning.specs.Rules.{Visit, apply, match, build, compare, Do, walk, again, zip, one_of, some_of}
use Rattle.meaning.specs.Store.{children}
use Rattle.turns.specs.declared.turn.Asked.{Asked}
use Rattle.turns.specs.declared.turn.Turn.{Turn}
use Rattle.turns.specs.declared.turn.Turn.TheVariants.{Done, Failed, Missed, Stuck, Bound, Leaf, Made, Ask, Next, Unscope}

-- where the words of the variables stand in the work list
abbrev pub record_from : ℕ
record_from = 327616

-- the bindings of the mask m whose words stand from place a on
unfoldable pub held_at : List ℕ → (a m : ℕ) → Bindings ℕ
held_at k a m = λ v. if ltb v variables && has m v then some (get_or k (a + v) 0) else none

-- the eight words of node k; a row's children
abbrev pub row_of : List ℕ → ℕ → List ℕ
row_of w k = constructor_of w k ∷ child_count w k ∷ six w k

abbrev pub kids : List ℕ → List ℕ
kids r = take (get_or r 1 0) (drop 2 r)

-- the row of a PCON that is built: its children are to come
abbrev pub row_to_build : List ℕ → ℕ → List ℕ
row_to_build t x = argument_of t x ∷ operand_count t x ∷ 0 ∷ 0 ∷ 0 ∷ 0 ∷ 0 ∷ 0 ∷ []

-- a frame: what the visit waits for, its entry or first node, its node, the child that it is at, its row and the other
pub record Frame : Type 0 where
  pub what : ℕ
  pub x : ℕ
  pub y : ℕ
  pub at : ℕ
  pub row : List ℕ
  pub other : List ℕ

-- the frame with the node y for the child that it is at
abbrev pub filled : Frame → ℕ → Frame
filled f y = record { what = f.what; x = f.x; y = f.y; at = f.at; row = set f.row (2 + f.at) y; other = f.other }

-- which frames keep the bindings of their visit's start
abbrev pub saves : ℕ → Bool
saves k = ltb 3 k && ltb k 11

-- the two ways on, and whether nodes stay
pub record Way : Type 0 where
  pub keeps : Keep
  pub yes : ℕ → Bindings ℕ → Do ℕ
  pub no : Do ℕ

abbrev pub way : Keep → (ℕ → Bindings ℕ → Do ℕ) → Do ℕ → Way
way k y n = record { keeps = k; yes = y; no = n }

-- a visit in a last position: what comes of it is handed on
abbrev pub last : Way
last = way keep ret fail

-- a frame at a child that its row does not have means nothing
abbrev pub within : ℕ → List ℕ → Do ℕ → Do ℕ
within i hs p = if ltb i (length hs) then p else fail

-- the node of a row made anew
abbrev pub makes : ℕ → List ℕ → Bindings ℕ → Do ℕ
makes c gs b = make c gs (λ n. ret n b)

-- children walked from left to right: a visit q of each with its partner in xs, and k at the end
abbrev pub walking : Frame → (ℕ → ℕ → Bindings ℕ → Visit ℕ) → List ℕ → (List ℕ → Bindings ℕ → Do ℕ) → Way
walking f q xs k =
    way keep (λ h c. within f.at (kids f.row) (walk (zip q (drop (f.at + 1) xs) (drop (f.at + 1) (kids f.row)))
    (take f.at (kids f.row) ++ (h ∷ [])) c k)) fail

-- one child visited: the node is made anew with what came of it; p where it failed
abbrev pub stepping : Frame → Do ℕ → Way
stepping f p = way keep (λ h c. within f.at (kids f.row) (again f.y (get_or f.row 0 0) (set (kids f.row) f.at h) c)) p

-- every child visited, of which one before has succeeded where s says so; e: the entry
abbrev pub trying : Frame → ℕ → Bool → Bindings ℕ → Way
trying f e s b =
    way keep (λ h c. within f.at (kids f.row)
    (some_of e true (take f.at (kids f.row) ++ (h ∷ [])) (drop (f.at + 1) (kids f.row)) c (again f.y (get_or f.row 0 0))))
    (within f.at (kids f.row) (some_of e s (take (f.at + 1) (kids f.row)) (drop (f.at + 1) (kids f.row)) b
    (again f.y (get_or f.row 0 0))))

-- the way of each word `what` from 0 on: the words of the frame f, the bindings b that it keeps
unfoldable pub ways : List ℕ → Frame → Bindings ℕ → List Way
ways t f b =
    last
    ∷ way keep (λ h c. ask keep (apply (word_at t f.x 3) h c) ret fail) fail  -- 1: SEQ
    ∷ way keep (λ h c. ret f.y c) fail  -- 2: WHERE
    ∷ way keep ret (miss f.x)  -- 3: a bound variable
    ∷ way give (λ h c. ret f.y b) fail  -- 4: TEST
    ∷ way keep (λ h c. fail) (ret f.y b)  -- 5: NOT
    ∷ way keep ret (ask keep (apply (word_at t f.x 3) f.y b) ret fail)  -- 6: CHOICE, LEFT
    ∷ way keep (λ h c. ret h (masked (mask_by ours t f.x) b c)) fail  -- 7: SCOPE
    -- 8: ONE
    ∷ stepping f (one_of (word_at t f.x 2) (take (f.at + 1) (kids f.row)) (drop (f.at + 1) (kids f.row)) b
    (again f.y (get_or f.row 0 0)))
    ∷ trying f (word_at t f.x 2) false b  -- 9: SOME, where none has succeeded yet
    ∷ trying f (word_at t f.x 2) true b  -- 10: SOME, where one has
    ∷ stepping f fail  -- 11: PATH
    ∷ walking f (λ o h. apply (word_at t f.x 2) h) (six t f.x) (again f.y (get_or f.row 0 0))  -- 12: ALL
    ∷ walking f apply (six t f.x) (again f.y (get_or f.row 0 0))  -- 13: CONG
    ∷ walking f match (six t f.x) (λ hs d. ret f.y d)  -- 14: PCON met by MATCH
    ∷ walking f (λ p h. build p f.y) (six t f.x) (makes (get_or f.row 0 0))  -- 15: PCON met by BUILD
    ∷ walking f compare (drop 2 f.other) (λ hs d. ret f.y d)  -- 16: a pair
    ∷ []

unfoldable pub way_of : List ℕ → Frame → Bindings ℕ → Way
way_of t f b = get_or (ways t f b) f.what (stepping f fail)

-- the visit that is asked for
unfoldable pub visit_of : ℕ → ℕ → ℕ → Bindings ℕ → Visit ℕ
visit_of m x y b = if eqb m 0 then apply x y b else if eqb m 1 then match x y b else if eqb m 2 then build x y b else compare x y b

-- the bindings without the variables of the mask; 0 hides none
abbrev pub hiding : ℕ → Bindings ℕ → Bindings ℕ
hiding m b = if eqb m 0 then b else masked m unbound b

-- the visit that a turn asks for; of a turn that asks for none it is of no account
abbrev pub asked_of : Turn → Asked
asked_of (Ask a) = a
asked_of (Next a) = a
asked_of r = record { mode = 0; what = 0; at = 0; x = 0; y = 0; mask = 0 }

-- the frame that the visit of x and y opens, and the one with which it goes on to its next child
abbrev pub opened : List ℕ → List ℕ → ℕ → ℕ → Asked → Frame
opened t w x y a = record {
  what = a.what;
  x = x;
  y = y;
  at = a.at % 8;
  row = if eqb a.what 15 then row_to_build t x else row_of w y;
  other = row_of w x;
}

abbrev pub next_of : Frame → Asked → Frame
next_of f a = record { what = a.what; x = f.x; y = f.y; at = (f.at + 1) % 8; row = f.row; other = f.other }

-- a visit is asked for: g is the frame that waits, c the bindings
abbrev pub asking : List ℕ → Frame → Asked → Bindings ℕ → Do ℕ
asking t g a c = ask (way_of t g c).keeps (visit_of (a.mode % 4) a.x a.y (hiding a.mask c)) (way_of t g c).yes (way_of t g c).no

-- what a turn says is next: f is the frame at hand, g the one that it opens, b the bindings that f keeps, c the present ones
unfoldable pub plan_of : List ℕ → Turn → Frame → Frame → (b c : Bindings ℕ) → Do ℕ
plan_of t (Done y) f g b c = ret y c
plan_of t Failed f g b c = fail
plan_of t (Missed p) f g b c = miss p
plan_of t (Stuck v) f g b c = stuck v
plan_of t (Bound v y) f g b c = ret y (bind (v % 64) y c)
plan_of t (Leaf a) f g b c = make a [] (λ n. ret n c)
plan_of t Made f g b c = make (get_or f.row 0 0) (kids f.row) (λ n. ret n c)
plan_of t (Ask a) f g b c = asking t g a c
plan_of t (Next a) f g b c = asking t (next_of f a) a c
plan_of t (Unscope y m) f g b c = ret y (masked m b c)

-- the plan with the terms looked at that it looks at first
unfoldable pub looked : List ℕ → Do ℕ → Do ℕ
looked w (ret h b) = ret h b
looked w fail = fail
looked w (miss p) = miss p
looked w (stuck v) = stuck v
looked w (look h k) = looked w (k (constructor_of w h) (children w h))
looked w (make c hs k) = make c hs k
looked w (ask t q k p) = ask t q k p

-- the bindings after a success: TEST has its own back
abbrev pub current : Frame → Bindings ℕ → Bindings ℕ → Bindings ℕ
current f b c = if eqb f.what 4 then b else c

-- entry p is a pattern, and its variable one of the 64
pub record Fit (t : List ℕ) (p : ℕ) : Type 0 where
  pub is : (kind_of t p ≡ 19 → ⊥) → kind_of t p ≡ 18
  pub variable : kind_of t p ≡ 18 → argument_of t p < variables

-- entry x lies inside the table and is a strategy
abbrev pub Applied : List ℕ → ℕ → Type 0
Applied t x = (x < rows t) × (sort_of (kind_of t x) ≡ Strategy)

-- what a visit needs of the table: such an entry; a pattern, where one is met
abbrev pub FairVisit : List ℕ → Visit ℕ → Type 0
FairVisit t (apply x h b) = Applied t x
FairVisit t (match p h b) = Fit t p
FairVisit t (build p h b) = Fit t p
FairVisit t (compare g h b) = Unit {0}

-- the same of a visit that is asked for by its mode
pub record Ready (t : List ℕ) (m x : ℕ) : Type 0 where
  pub matched : m ≡ 1 → Fit t x
  pub built : m ≡ 2 → Fit t x
