-- What the way to a variable says.
use Rattle.std.specs.Prelude.{Bool, true, false}
use Rattle.variable_tree.specs.declared.Way.{Way}
use Rattle.variable_tree.specs.declared.Way.TheVariants.{Found, Missing}

abbrev pub is_found : Way → Bool
is_found Found = true
is_found (Missing link) = false
