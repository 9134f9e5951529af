-- What the contracts of the cycle say: what a visit requires and gives, hints, and what the child walker does.
use Rattle.std.specs.Prelude.{◌≡◌, Bool, false, ◌⊎◌, List, [], map, ℕ, ◌+◌, ◌-◌, ◌≤◌, ◌<◌, eqb, length, if◌then◌else◌}
use Rattle.words.specs.Words.{word_at}
use Rattle.checks.specs.Good.{kind_of, operand_count, constructor_of}
use Rattle.meaning.specs.Bindings.{Bindings}
use Rattle.meaning.specs.Table.{operands}
use Rattle.meaning.specs.Rules.{Visit, apply, Do, walk, some_of, again, zip}
use Rattle.meaning.specs.Limits.{units, ended, lost, cut}
use Rattle.meaning.specs.Store.{children}
use Rattle.state.specs.Noted.{Standing, missed_at, on, Ran, left_of}
use Rattle.state.specs.Answers.{node_in, units_in}
use Rattle.state.specs.Record.{record_long, mark_of, standing, held}
use Rattle.state.specs.Visits.{count_of, agreeing, visit, plan, ruled, Entries, Steady, Gives, noded}

-- a kind that the loop of visits leaves to `rule`: neither SEQ, CHOICE, LEFT, REC nor CALL, which have an operand in a last
-- position, nor CONG nor ONE
pub record Last (k : ℕ) : Type 0 where
  pub not-seq : k ≡ 4 → ⊥
  pub outside : (k < 5) ⊎ (8 < k)
  pub not-cong : k ≡ 10 → ⊥
  pub not-one : k ≡ 12 → ⊥

-- entry q applied to node k fails after n visits, where units and nesting are enough for them, whatever the bindings and
-- the mark; a match gives up at the pattern p last
pub record Fails (t w : List ℕ) (q k p n : ℕ) : Type 0 where
  pub is : (b : Bindings ℕ) (m : Standing) (d u : ℕ) → n ≤ d → n ≤ u → visit t d (apply q k b) w m u ≡ lost (left_of w (missed_at p m)) (u - n)

-- applied to a node, entry x comes to entry y after n visits, where units and nesting are enough for them
pub record Leads (t : List ℕ) (x y n : ℕ) : Type 0 where
  pub is : (k : ℕ) (b : Bindings ℕ) (w : List ℕ) (m : Standing) (d u : ℕ) → n ≤ d → n ≤ u → visit t d (apply x k b) w m u ≡ visit t (d - n) (apply y k b) w m (u - n)
  pub short : (k : ℕ) (b : Bindings ℕ) (w : List ℕ) (m : Standing) (d u : ℕ) → n ≤ d → u < n → visit t d (apply x k b) w m u ≡ cut units (left_of w m) 0

-- entry x fails after n visits on each node whose constructor and count are not entry p's
pub record Heads (t : List ℕ) (x p n : ℕ) : Type 0 where
  pub few : n ≤ 4
  pub fails : (w : List ℕ) (k : ℕ) → agreeing t w p k ≡ false → Fails t w x k p n

-- what words 4 and 5 tell of a first operand where they are no operands and word 5 is not 0: of CHOICE's and LEFT's at which
-- pattern it fails and after how many visits, of ALL's, ONE's and SOME's where a CALL and its REC lead
pub record Hinted (t : List ℕ) : Type 0 where
  pub head : (e : ℕ) → e < 4096 → (kind_of t e ≡ 5) ⊎ (kind_of t e ≡ 6) → (word_at t e 5 ≡ 0 → ⊥) → Heads t (word_at t e 2) (word_at t e 4) (word_at t e 5)
  pub ahead : (e : ℕ) → e < 4096 → (kind_of t e ≡ 11) ⊎ (kind_of t e ≡ 12) ⊎ (kind_of t e ≡ 13) → (word_at t e 5 ≡ 0 → ⊥) → (word_at t e 5 ≤ 2) × Leads t (word_at t e 2) (word_at t e 4) (word_at t e 5)

-- what a visit of entry e requires: the node and the units are in the word g
pub record Ready (t w st : List ℕ) (e g : ℕ) : Type 0 where
  pub entries : Entries t
  pub hints : Hinted t
  pub long : length st ≡ record_long
  pub inside : e < 4096
  pub steady : Steady w (standing st) (held st)
  pub subject : node_in g < mark_of st

-- entry e applied to the state g, and what follows its visit: r with the record and the store at return
abbrev pub Applied : (t w st : List ℕ) (e g d r : ℕ) → (st' w' : List ℕ) → Type 0
Applied t w st e g d r st' w' = Gives (visit t d (apply e (node_in g) (held st)) w (standing st) (units_in g)) st r st' w'

abbrev pub Follows : (t w st : List ℕ) (e g d r : ℕ) → (st' w' : List ℕ) → Type 0
Follows t w st e g d r st' w' = Gives (ruled t d e (node_in g) (held st) w (standing st) (units_in g)) st r st' w'

-- a number of visits after which entry q fails on node k, at the pattern p
pub record VisitsToFailure (t w : List ℕ) (q k p most n : ℕ) : Type 0 where
  pub few : n ≤ most
  pub fails : Fails t w q k p n

-- n visits, no more than the nesting d, that lead from the one operand of entry e to its word 4; 0 where none are known, and
-- in CONG
pub record VisitsAhead (t : List ℕ) (e d n : ℕ) : Type 0 where
  pub few : n ≤ d
  pub one : kind_of t e ≡ 10 → n ≡ 0
  pub leads : (n ≡ 0 → ⊥) → Leads t (word_at t e 2) (word_at t e 4) n

-- the entry after so many visits
abbrev pub entry_ahead : List ℕ → ℕ → ℕ → ℕ
entry_ahead t e n = if eqb n 0 then word_at t e 2 else word_at t e 4

-- the operand for child i: its own in CONG, else the one
abbrev pub operand_for : List ℕ → ℕ → ℕ → ℕ → ℕ
operand_for t e k i = if eqb k 10 then word_at t e (2 + i) else word_at t e 2

-- entry e is no SCOPE; where it is a CONG, it has an operand for each child of node k
abbrev pub Counted : List ℕ → List ℕ → ℕ → ℕ → Type 0
Counted t w e k = (kind_of t e ≡ 16 → ⊥) × (kind_of t e ≡ 10 → operand_count t e ≡ count_of w k)

-- what the child walker does with node k, once CONG's constructor and count agree: SOME, or a visit for each child
unfoldable pub visits : List ℕ → ℕ → List ℕ → List (Bindings ℕ → Visit ℕ)
visits t e hs = if eqb (kind_of t e) 10 then zip apply (operands t e) hs else map (apply (word_at t e 2)) hs

unfoldable pub walked : List ℕ → List ℕ → ℕ → ℕ → Bindings ℕ → Do ℕ
walked t w e k b =
    if eqb (kind_of t e) 13 then some_of (word_at t e 2) false [] (children w k) b (again k (constructor_of w k))
    else walk (visits t e (children w k)) [] b (again k (constructor_of w k))

-- what the child walker gives on the node of g
abbrev pub Walks : (t w st : List ℕ) (e g d r : ℕ) → (st' w' : List ℕ) → Type 0
Walks t w st e g d r st' w' = Gives (plan t d (walked t w e (node_in g) (held st)) w (standing st) (units_in g)) st r st' w'

-- the walk's end: SOME needs a success, and a term without children is returned itself
unfoldable pub finished : (k : ℕ) (won : Bool) (n g : ℕ) → List ℕ → List ℕ → List ℕ → ℕ → Ran
finished k won n g made st w u =
    if eqb k 13 then (if won then noded made st w u else lost (left_of w (standing st)) u)
    else if eqb n 0 then ended (node_in g) (held st) (on w (standing st)) (units_in g) else noded made st w u
