-- The loop over a job's lines: what holds before each line, what each line asks of the arrays, and what holds after it.
-- Assumes nothing.
use mathlib.Core.Path.{◌≡◌, ap, sym, ◌∙◌}
use mathlib.Core.Bool.{true, false}
use mathlib.Core.List.{List}
use Prim.Native.Nat.{ℕ, ◌+◌, ◌≤◌, ◌<◌}
use native.Mathlib.Omega.{arith}
use lib.ListN.{length, get_or, drop}
use Rattle.checks.specs.Kinds.{variables}
use Rattle.text.specs.Text.{parts}
use Rattle.job.specs.Lines.{Taken, taken_at}
use Rattle.job.specs.Job.{Heading, Reading, admitted, headed, table_with, store_with, bindings_with, bad, good, read_lines}
use Rattle.job.proofs.Readings.{Sound, sound, reads-bad, reads-refused, reads_on, reads_none, reads_all, with-made, entry-fit, node-fit, binding-fit, entry-room, node-room, rows-kept}

-- Line n begins at a place of s; g is what was read before it, beginning with g₀.
pub record Goes (s : List ℕ) (g₀ g : Reading) (at n : ℕ) : Type 0 where
  pub inside : at ≤ length s
  pub counted : n ≤ at + 1
  pub table : length g.table ≡ 4096
  pub store : length g.store ≡ 8192
  pub bindings : length g.bindings ≡ variables
  pub entries : g.heading.entries ≤ 512
  pub nodes : g.heading.nodes ≤ 1024
  pub means : read_lines g n (parts 10 (drop at s)) ≡ read_lines g₀ 1 (parts 10 s)

module _ {s : List ℕ} {g₀ g : Reading} {at n : ℕ} (goes : Goes s g₀ g at n) where
  -- Nothing is left: no job, or the job read.
  pub goes_none : length s ≤ at → g.heading.section ≡ 0 → read_lines g₀ 1 (parts 10 s) ≡ bad n
  goes_none h z = sym goes.means ∙ reads_none s at g n h z

  pub goes-all : length s ≤ at → (g.heading.section ≡ 0 → ⊥) → read_lines g₀ 1 (parts 10 s) ≡ good g
  goes-all h z = sym goes.means ∙ reads_all s at g n h z

  module _ {t : Taken} (z : t ≡ taken_at s at) where
    -- A bad line, and one that may not come next.
    pub goes-bad : at < length s → 3 < t.name → read_lines g₀ 1 (parts 10 s) ≡ bad n
    goes-bad h b = sym goes.means ∙ reads-bad s at t z h g n b

    pub goes-refused : at < length s → t.name ≤ 3 → admitted g.heading t.name (get_or t.at 0 0) ≡ false → read_lines g₀ 1 (parts 10 s) ≡ bad n
    goes-refused h k a = sym goes.means ∙ reads-refused s at t z h g n k a

    -- A good line's numbers are in range, and the text goes on after it.
    module _ (k : t.name ≤ 3) where
      pub line-sound : Sound s at t
      line-sound = sound s at t z k

      pub binding-asks : (length g.bindings ≡ variables) × (t.name ≡ 3 → (get_or t.at 0 0 < variables) × (get_or t.at 1 0 < 131072))
      binding-asks = (goes.bindings, binding-fit t.name t.count t.at line-sound.fit)

      pub heading-asks : (g.heading.entries ≤ 512) × (g.heading.nodes ≤ 1024) × (t.name ≡ 3 → get_or t.at 0 0 < variables)
      heading-asks = (goes.entries, goes.nodes, λ e. (binding-asks.1 e).0)

      -- One that may come next finds room in the arrays.
      module _ (a : admitted g.heading t.name (get_or t.at 0 0) ≡ true) where
        pub entry-asks : (length g.table ≡ 4096) × (t.name ≡ 1 → (g.heading.entries < 512) × (2 ≤ t.count) × (t.count ≤ 8) × (get_or t.at 0 0 ≤ 255))
        entry-asks = (goes.table, λ e. let f : _ = entry-fit t.name t.count t.at line-sound.fit e in (entry-room g.heading t.name _ a e, f.0, f.1, f.2))

        pub node-asks : (length g.store ≡ 8192) × (t.name ≡ 2 → (g.heading.nodes < 1024) × (1 ≤ t.count))
        node-asks = (goes.store, λ e. (node-room g.heading t.name _ a e, node-fit t.name t.count t.at line-sound.fit e))

        -- Taken in, it leaves the loop where it was, one line on.
        pub goes_on : at < length s → {h' : Heading} {t' s' b' : List ℕ}
            → h' ≡ headed g.heading t.name t.at
            → t' ≡ table_with g.table g.heading.entries t.name t.count t.at t.high
            → s' ≡ store_with g.store g.heading.nodes t.name t.count t.at
            → b' ≡ bindings_with g.bindings t.name t.at
            → length t' ≡ length g.table → length s' ≡ length g.store → length b' ≡ length g.bindings
            → Goes s g₀ (record { heading = h'; table = t'; store = s'; bindings = b' }) t.next (n + 1)
        goes_on h {h'} {t'} {s'} {b'} p q r u i j l =
            let rows : _ = rows-kept g.heading t.name _ a t.at goes.entries goes.nodes in
            record {
              inside = line-sound.within;
              counted = omega (arith, goes.counted, line-sound.on);
              table = i ∙ goes.table;
              store = j ∙ goes.store;
              bindings = l ∙ goes.bindings;
              entries = rw p rows.0;
              nodes = rw p rows.1;
              means =
                  ap (λ (x : Reading). read_lines x (n + 1) (parts 10 (drop t.next s))) (with-made g t.name t.count t.at t.high h' t' s' b' p q r u)
                  ∙ sym (reads_on s at t z h g n k a)
                  ∙ goes.means;
            }
