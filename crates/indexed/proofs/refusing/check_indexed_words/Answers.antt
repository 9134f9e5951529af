-- What is refused before the start is looked at, by what is found first. Assumes nothing.
use Rattle.std.proofs.lemmas.Result.{err_from_is_err_and}
use Rattle.calls.specs.Refused.{lent_signature}
use Rattle.indexed.proofs.Whole.{short-refused, words-refused-as, twin-refused, mark-few}
use Rattle.indexed.proofs.refusing.check_indexed_words.Goals as goal

pub returns-then-size-store : goal.returns-then-size-store
returns-then-size-store c =
    let a = c.args in
    λ x e. short-refused (lent_signature a.signature) a.table.now a.store.now a.bindings.now a.mark x (rw e c.if-size-store.true)

pub returns-in_err-check_words : goal.returns-in_err-check_words
returns-in_err-check_words c =
    let a = c.args in
    let p = err_from_is_err_and c.from_residual.result c.from_residual.ensures.1 in
    rw (p.1, p.2)
    (λ x e. words-refused-as (lent_signature a.signature) a.table.now a.store.now a.bindings.now a.mark x (rw e c.if-size-store.false) _ c.in_err-check_words.ensures)

pub first_twin-requires : goal.first_twin-requires
first_twin-requires c =
    let a = c.args in
    mark-few (lent_signature a.signature) a.table.now a.store.now a.bindings.now a.mark c.in_ok-check_words.ensures

pub returns-in-Some : goal.returns-in-Some
returns-in-Some c =
    let a = c.args in
    λ x e. twin-refused (lent_signature a.signature) a.table.now a.store.now a.bindings.now a.mark x (rw e c.if-size-store.false) c.in_ok-check_words.ensures _ c.in-Some.ensures

pub returns-in-None : goal.returns-in-None
returns-in-None c =
    let a = c.args in
    λ x e. twin-refused (lent_signature a.signature) a.table.now a.store.now a.bindings.now a.mark x (rw e c.if-size-store.false) c.in_ok-check_words.ensures _ c.in-None.ensures
