-- `see` meets its contract. Assumes nothing.
use Rattle.std.proofs.Common.{refl}
use Rattle.tallying.proofs.Tallying.{seen_entry, seen-pair, seen-pattern}
use Rattle.tallying.proofs.see.Goals as goal

pub returns-in-0 : goal.returns-in-0
returns-in-0 c = seen_entry _ _ c.in-0.is

pub returns-in-3 : goal.returns-in-3
returns-in-3 c = seen-pair c.args.s _ c.in-3.is refl

pub returns-in_default : goal.returns-in_default
returns-in_default c = let none = c.in_default.in_default-own.rest in seen-pattern c.args.s _ none.0.1 none.1 refl
