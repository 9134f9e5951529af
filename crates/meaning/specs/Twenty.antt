-- What each of the twenty kinds is read as, in numerals: word 0 of an entry is 16 × kind + operand count.
use Rattle.std.specs.Prelude.{◌≡◌, List, ℕ, ◌+◌, ◌*◌, ◌≤◌, take}
use Rattle.words.specs.Words.{word_at}
use Rattle.checks.specs.Good.{mask_by}
use Rattle.meaning.specs.Table.{Strategy, ID, FAIL, TEST, NOT, SEQ, CHOICE, LEFT, REC, CALL, PATH, CONG, ALL, ONE, SOME, MATCH, BUILD, SCOPE, WHERE, Pattern, PVAR, PCON, six, table_by}

module _ (W : ℕ) (t : List ℕ) (e : ℕ) where
  -- an entry whose word 0 is w is this strategy, or this pattern
  abbrev pub Strategic : ℕ → Strategy → Type 0
  Strategic w s = word_at t e 0 ≡ w → (table_by W t).strategies e ≡ s

  abbrev pub Patterned : ℕ → Pattern → Type 0
  Patterned w p = word_at t e 0 ≡ w → (table_by W t).patterns e ≡ p

  pub record Twenty : Type 0 where
    pub id_0 : Strategic 0 ID
    pub fail_1 : Strategic 16 FAIL
    pub test_2 : Strategic 33 (TEST (word_at t e 2))
    pub not_3 : Strategic 49 (NOT (word_at t e 2))
    pub seq_4 : Strategic 66 (SEQ (word_at t e 2) (word_at t e 3))
    pub choice_5 : Strategic 82 (CHOICE (word_at t e 2) (word_at t e 3))
    pub left_6 : Strategic 98 (LEFT (word_at t e 2) (word_at t e 3))
    pub rec_7 : Strategic 113 (REC (word_at t e 2))
    pub call_8 : Strategic 129 (CALL (word_at t e 2))
    pub path_9 : Strategic 145 (PATH (word_at t e 1) (word_at t e 2))
    pub cong_10 : (n : ℕ) → n ≤ 6 → Strategic (160 + n) (CONG (word_at t e 1) (take n (six t e)))
    pub all_11 : Strategic 177 (ALL (word_at t e 2))
    pub one_12 : Strategic 193 (ONE (word_at t e 2))
    pub some_13 : Strategic 209 (SOME (word_at t e 2))
    pub match_14 : Strategic 225 (MATCH (word_at t e 2))
    pub build_15 : Strategic 241 (BUILD (word_at t e 2))
    pub scope_16 : Strategic 257 (SCOPE (mask_by W t e) (word_at t e (1 + W)))
    pub where_17 : Strategic 273 (WHERE (word_at t e 2))
    pub pvar_18 : Patterned 288 (PVAR (word_at t e 1))
    pub pcon_19 : (n : ℕ) → n ≤ 6 → Patterned (304 + n) (PCON (word_at t e 1) (take n (six t e)))

-- Every entry of every table is read so.
abbrev pub TwentyKinds : Type 0
TwentyKinds = (W : ℕ) (t : List ℕ) (e : ℕ) → Twenty W t e

-- A SCOPE in numerals: with 32 variables its mask is word 1 and its operand word 2; with 64 the mask is words 1 (low) and 2, and the
-- operand is word 3.
pub record ScopeRead : Type 0 where
  pub with-32 : (t : List ℕ) (e : ℕ) → word_at t e 0 ≡ 257 → (table_by 1 t).strategies e ≡ SCOPE (word_at t e 1) (word_at t e 2)
  pub with-64 : (t : List ℕ) (e : ℕ) → word_at t e 0 ≡ 257 → (table_by 2 t).strategies e ≡ SCOPE (word_at t e 1 + 4294967296 * word_at t e 2) (word_at t e 3)
