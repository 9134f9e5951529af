-- `job::answer::answer` meets its contract: the line alone, or the line, the nodes and the bindings. Assumes nothing.
use Rattle.std.proofs.Common.{arith, rules, ◌≡◌, length, get_or, length-append, sym}
use Rattle.job.specs.Written.{written}
use Rattle.job.specs.Answer.{answer_line, node_lines}
use Rattle.text.proofs.Put.{put-more}
use Rattle.job.proofs.Answers.{five-listed, length-line_five, answered-alone, answered-shown, length-nodes}
use Rattle.job.proofs.answer.answer.Goals as goal

pub returns-then-not-shows : goal.returns-then-not-shows
returns-then-not-shows c =
    let e : length c.args.five ≡ 5 = search rules in
    rw (answered-alone _ _ _ _ _ c.args.store.now c.args.bindings.now (sym c.if-not-shows.ensures), five-listed c.args.five e) c.put_line-end.ensures

pub put_nodes-nodes-requires : goal.put_nodes-nodes-requires
put_nodes-nodes-requires c =
    let e : length c.args.five ≡ 5 = search rules in
    omega (arith, c.put_line-end.ensures.place, length-line_five c.args.five e)

pub put_bindings-requires : goal.put_bindings-requires
put_bindings-requires c =
    let e : length c.args.five ≡ 5 = search rules in (
      omega (
        arith,
        c.put_line-end.ensures.place,
        length-line_five c.args.five e,
        c.put_nodes-nodes.ensures.place,
        length-nodes c.args.store.now (get_or c.args.five 3 0),
      ),
      c.requires.2,
    )

pub returns : goal.returns
returns c =
    let e : length c.args.five ≡ 5 = search rules in
    rw (answered-shown _ _ _ _ _ c.args.store.now c.args.bindings.now (sym c.if-not-shows.ensures), five-listed c.args.five e)
    (put-more (omega (
      arith,
      length-line_five c.args.five e,
      length-nodes c.args.store.now (get_or c.args.five 3 0),
      length-append (answer_line c.args.five) (written (node_lines c.args.store.now (get_or c.args.five 3 0))),
    ))
    (put-more (omega (arith, length-line_five c.args.five e)) c.put_line-end.ensures c.put_nodes-nodes.ensures) c.put_bindings.ensures)
