-- The promises of the answer to a text, proved.
use mathlib.Core.Path.{◌≡◌, refl, ap, sym, ◌∙◌}
use mathlib.Core.Bool.{Bool, true, false, ◌&&◌}
use mathlib.Core.List.{List, [], ◌++◌, append_assoc}
use Prim.Native.Nat.{ℕ, ◌+◌, ◌*◌, ◌≤◌, ◌<◌}
use native.Mathlib.Nat.{pos_of_ne-zero}
use native.Mathlib.Omega.{arith}
use lib.Dec.{eqb}
use lib.ListN.{length, take, drop}
use lib.Seq.{take_at, length-take-le}
use borrow.Author.Tests.{lt-ltb, lt-leb, eqb-false}
use Rattle.checks.specs.Kinds.{variables}
use Rattle.std.specs.Prelude.{if◌then◌else◌}
use Rattle.words.specs.Words.{rows}
use Rattle.checks.specs.Checked.{Checked}
use Rattle.checks.specs.Checked.{checked, table_length_fits, store_length_fits}
use Rattle.calls.specs.Refused.{sizes_fit_by, or_else, words_refused_by, refused_with_by, refused}
use Rattle.meaning.specs.Store.{Input}
use Rattle.meaning.specs.Answer.{Returned}
use Rattle.calls.specs.Run.{run_with_by}
use Rattle.job.specs.Job.{Heading}
use Rattle.job.specs.Lines.{Line, words}
use Rattle.job.specs.Job.{Reading, headed, with, Meant, bad, good, meant}
use Rattle.job.specs.Written.{written, Follow, end, next}
use Rattle.text.specs.Written.{put_text}
use Rattle.job.specs.Answer.{node_lines, binding_lines, shown}
use Rattle.job.specs.Promises.{Left, Back}
use Rattle.job.proofs.Answers.{written-more, answered-alone, answered-shown, answer_fits}
use Rattle.job.proofs.Promises.{text_is_job}
use Rattle.job.proofs.ReadBack.{read_back}
use Rattle.whole_job.specs.Whole.{handed, text_of, run_text, bad_text, meant_text, answer_to}
use Rattle.whole_job.specs.Promises.{run_of_job, first_line}
use Rattle.whole_job.specs.Promises as promises
use Rattle.whole_job.proofs.Sizes.{Sized, pick, sized}
use Rattle.whole_job.proofs.Answering.{mark-most}
use Rattle.whole_job.proofs.Left.{accepted-shown, run-not-three, left}

pub one_answer : promises.OneAnswer
one_answer s b b' b'' r r' p q = (p.put.text ∙ sym q.put.text, p.put.place ∙ sym q.put.place)

pub all_of_it : promises.AllOfIt
unfolding put_text
all_of_it s b b' r p =
    ap (take r) p.put.text ∙ take_at (answer_to s) (drop (0 + length (answer_to s)) b) r (omega (arith, p.put.place))

-- ---- what a job hands over

module _ (s : List ℕ) (g : Reading) (e : meant s ≡ good g) where
  -- The store has as many nodes as there is room.
  nodes-handed : rows (handed g).store ≡ g.heading.room
  nodes-handed =
      let z : Sized g = sized s g e in
      omega (arith, length-take-le (8 * g.heading.room) g.store (omega (arith, z.room, z.store)))

  -- The answer is the text of its run.
  answer-good : answer_to s ≡ text_of (run_of_job g)
  unfolding answer_to meant_text run_text
  answer-good = rw e

  short-good : length (answer_to s) ≤ 80958 + 24 * variables
  short-good =
      let z : Sized g = sized s g e in
      rw answer-good (answer_fits _ _ _ _ _ _ _ (mark-most (handed g) 1024 z.nodes (omega (arith, z.room, nodes-handed))))

-- A bad line's answer is one line.
short-bad : (s : List ℕ) (n : ℕ) → meant s ≡ bad n → length (answer_to s) ≤ 80958 + 24 * variables
unfolding answer_to meant_text bad_text
short-bad s n e = rw e (answer_fits 9 n 0 0 0 [] [] (omega arith))

pub short_enough : promises.ShortEnough
short_enough s = go (meant s) refl
  where
    go : (m : Meant) → meant s ≡ m → length (answer_to s) ≤ 80958 + 24 * variables
    go (bad n) e = short-bad s n e
    go (good g) e = short-good s g e

pub too_long : promises.TooLong
unfolding answer_to meant_text meant
too_long s l = rw (lt-ltb 60000 (length s) l)

-- ---- a mark above the room

-- Sizes that do not fit are refused before all else.
refused-sizes : (t s b : List ℕ) (mark start subject : ℕ) → rows s < mark → refused t s b mark start subject ≡ checked 2 0
unfolding refused_with_by words_refused_by sizes_fit_by
refused-sizes t s b mark start subject l =
    rw (lt-leb mark (rows s) l) (go (table_length_fits (length t)) (store_length_fits (length s)) (eqb (length b) variables) _ _)
  where
    go : (x y z : Bool) (c d : Checked) → or_else (if (x && (y && (z && false))) && true then c else checked 2 0) d ≡ checked 2 0
    go true true true c d = refl
    go true true false c d = refl
    go true false z c d = refl
    go false y z c d = refl

pub no_room : promises.NoRoom
unfolding run_with_by shown
no_room s g e l =
    let i : Input = handed g in
    let c = refused-sizes i.table i.store i.bindings i.mark i.start i.subject (omega (arith, nodes-handed s g e)) in
    answer-good s g e
    ∙ rw c
    (answered-alone 2 0 g.heading.subject g.heading.nodes 0 (handed g).store g.bindings refl
    ∙ sym (answered-alone 2 0 g.heading.subject g.heading.nodes 0 [] [] refl))

pub never_three : promises.NeverThree
never_three g = run-not-three (handed g)

-- ---- what is left, read again

left-shown : (s : List ℕ) (g : Reading) → meant s ≡ good g → shown (run_of_job g).answer ≡ true
    → Left (run_of_job g).store (run_of_job g).bindings (run_of_job g).mark
left-shown s g e h =
    let z : Sized g = sized s g e in
    left (handed g) (accepted-shown (handed g) h) z.nodes (omega (arith, z.room, nodes-handed s g e))

pub reads_back : promises.ReadsBack
reads_back s g h e q y = read_back h (run_of_job g).store (run_of_job g).bindings (run_of_job g).mark y (left-shown s g e q)

-- Lines that follow lines that follow.
follow-more : {g h k : Reading} {xs : List Line} (ys : List Line) → Follow g xs h → Follow h ys k → Follow g (xs ++ ys) k
follow-more ys end q = q
follow-more ys (next f w a r) q = next f w a (follow-more ys r q)

-- Once line 1 is read it stays read.
begun-with : (h : Heading) (k : ℕ) (vs : List ℕ) → 1 ≤ (headed h k vs).section
unfolding headed
begun-with h k vs =
    let n : eqb k 0 ≡ false → 1 ≤ k = λ e. pos_of_ne-zero (eqb-false k 0 e) in
    pick (λ (g : Heading). 1 ≤ g.section) (eqb k 0) (eqb k 1) (eqb k 2) _ _ _ _ (λ e. omega arith) n n n

begun-follow : {g h : Reading} {xs : List Line} → Follow g xs h → 1 ≤ g.heading.section → 1 ≤ h.heading.section
unfolding with
begun-follow end l = l
begun-follow (next {g} {x} f w a r) l = begun-follow r (begun-with g.heading x.name (words x.name x.numbers))

pub runs_on : promises.RunsOn
runs_on s g h xs e q f y =
    let o : Returned = run_of_job g in
    let t : Back h o.store o.bindings o.mark = reads_back s g h e q y in
    let ns : List Line = node_lines o.store o.mark in
    let bs : List Line = binding_lines o.bindings variables in
    record {
      rest = written (ns ++ bs);
      text =
          answer-good s g e
          ∙ answered-shown o.answer o.place o.subject o.mark o.units o.store o.bindings q
          ∙ append_assoc (first_line (run_of_job g)) (written ns) (written bs)
          ∙ ap (λ (r : List ℕ). first_line (run_of_job g) ++ r) (sym (written-more ns bs));
      after = t.after;
      job =
          λ l.
          (text_is_job (written xs ++ written (ns ++ bs)) t.after).1
          (record {
            short = l;
            lines = xs ++ (ns ++ bs);
            text = sym (written-more xs (ns ++ bs));
            follow = follow-more (ns ++ bs) f t.follow;
            begun = λ z. omega (arith, begun-follow t.follow y.begun);
          });
      mark = t.mark;
      nodes = t.nodes;
      bindings = t.bindings;
    }
