-- Symbols of types.
use Rattle.std.proofs.Common.{◌≤◌, arith}
use Rattle.task_model.specs.Terms.Basic.{BasicTerm, unit_type, bool_type, int_type, text_type, pair_type, list_type}
use Rattle.task_model.specs.Checking.TypeParts.{symbols_of}

pub some_symbol : (b : BasicTerm) → 1 ≤ symbols_of b
some_symbol unit_type = omega arith
some_symbol bool_type = omega arith
some_symbol int_type = omega arith
some_symbol text_type = omega arith
some_symbol (pair_type a b) = omega arith
some_symbol (list_type a) = omega arith
