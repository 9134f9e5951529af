-- `key::home_of` meets its contract. Assumes nothing.
use Rattle.std.proofs.Common.{◌*◌, ◌/◌, ◌%◌, ap, arith, rules}
use Rattle.index.specs.Key.{home}
use Rattle.index.proofs.Keying.{product-fits, place-below}
use Rattle.index.proofs.key.home_of.Goals as goal

pub overflow_mul-result : goal.overflow_mul-result
overflow_mul-result c = record { fits = product-fits (c.key-x.result % 4294967296) c.args.n (omega arith) (search rules) }

pub returns-clause-is : goal.returns-clause-is
unfolding home
returns-clause-is c = ap (λ x. x % 4294967296 * c.args.n / 4294967296) c.key-x.ensures

pub returns-clause-below : goal.returns-clause-below
unfolding home
returns-clause-below c =
    let e = ap (λ x. x % 4294967296 * c.args.n / 4294967296) c.key-x.ensures in
    place-below c.args.n c.args.r e c.requires
