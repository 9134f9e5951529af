-- `refusals::subjects_below` meets its contract: a test of each place is a test of each subject.
use Rattle.std.proofs.Common.{◌∙◌, sym, rules, tests}
use Rattle.std.specs.Prelude.{ltb}
use Rattle.std.proofs.lemmas.Iterator.{YieldsList-from_slice}
use Rattle.std.proofs.lemmas.Iterator.Search.{all_from_yields_List}
use Rattle.calls.proofs.Starts.{subjects_below_list}
use Rattle.refusals.proofs.subjects_below.Goals as goal

pub returns : goal.returns
returns c =
    let ks = c.args.subjects.now in
    all_from_yields_List (λ k. ltb k c.args.mark) _ _ c.all.result c.all.ensures.ran (YieldsList-from_slice ks cc) (λ x b q k. search (rules, tests))
    ∙ sym (subjects_below_list ks c.args.mark)
