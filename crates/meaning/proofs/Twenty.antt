-- The twenty kinds read, each by computing.
use mathlib.Core.Path.{◌≡◌}
use Prim.Native.Nat.{ℕ, ◌+◌, ◌*◌, ◌/◌, ◌%◌, ◌≤◌}
use native.Mathlib.Omega.{arith}
use Rattle.checks.specs.Good.{number}
use Rattle.meaning.specs.Table.{by_kind, table_by}
use Rattle.meaning.specs.Twenty.{TwentyKinds, ScopeRead}

-- the kind and the count of a word 0 that has up to six operands
kind-of : (k n : ℕ) → n ≤ 6 → (16 * k + n) / 16 ≡ k
kind-of k n l = omega arith

count_of : (k n : ℕ) → n ≤ 6 → (16 * k + n) % 16 ≡ n
count_of k n l = omega arith

pub twenty-kinds : TwentyKinds
unfolding by_kind table_by
twenty-kinds W t e = record {
  id_0 = λ q. rw q;
  fail_1 = λ q. rw q;
  test_2 = λ q. rw q;
  not_3 = λ q. rw q;
  seq_4 = λ q. rw q;
  choice_5 = λ q. rw q;
  left_6 = λ q. rw q;
  rec_7 = λ q. rw q;
  call_8 = λ q. rw q;
  path_9 = λ q. rw q;
  cong_10 = λ n l q. rw (q, kind-of 10 n l, count_of 10 n l);
  all_11 = λ q. rw q;
  one_12 = λ q. rw q;
  some_13 = λ q. rw q;
  match_14 = λ q. rw q;
  build_15 = λ q. rw q;
  scope_16 = λ q. rw q;
  where_17 = λ q. rw q;
  pvar_18 = λ q. rw q;
  pcon_19 = λ n l q. rw (q, kind-of 19 n l, count_of 19 n l);
}

pub scope-read : ScopeRead
unfolding by_kind table_by number
scope-read = record { with-32 = λ t e q. rw q; with-64 = λ t e q. rw q }
