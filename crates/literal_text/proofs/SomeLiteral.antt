-- Some literal of each type, and some name of a type.
use Rattle.std.proofs.Common.{◌≤◌, Option, None, Some, [], refl, arith}
use Rattle.std.specs.Prelude.{codes}
use Rattle.task_model.specs.Terms.Text.{Text}
use Rattle.task_model.specs.Terms.Basic.{BasicTerm, unit_type, bool_type, int_type, text_type, pair_type, list_type}
use Rattle.task_model.specs.Terms.Value.{ValueTerm}
use Rattle.task_model.specs.Checking.TypeParts.{symbols_of}
use Rattle.exact_reading.specs.Reading.{IsViablePrefix, Always}
use Rattle.literal_text.specs.Literals.{IsLiteral, IsLiteralOf}
use Rattle.literal_text.specs.Types as types
use Rattle.literal_text.specs.Types.{IsTypeName}
use Rattle.literal_text.specs.LiteralReading.{fewest_levels, Lit}
use Rattle.literal_text.proofs.FitLemmas.{least_lit}

whole_lit : (want : Option BasicTerm) (t : Text) (v : ValueTerm) → Lit want 64 t v → IsLiteral t v
whole_lit want t v l = record {
  before = 0;
  parse = l.parse;
  are = l.are;
  stands_for = l.stands_for;
  limits = l.fit.limits;
  levels = l.fit.levels;
}

pub some_any : IsViablePrefix IsLiteral Always []
some_any = let (t, v, l) = least_lit None 64 (omega arith) in (t, v, whole_lit None t v l, tt)

fewest_symbols : (b : BasicTerm) → fewest_levels b ≤ symbols_of b
fewest_symbols unit_type = omega arith
fewest_symbols bool_type = omega arith
fewest_symbols int_type = omega arith
fewest_symbols text_type = omega arith
fewest_symbols (pair_type a b) = let l = fewest_symbols a in let r = fewest_symbols b in omega (arith, l, r)
fewest_symbols (list_type a) = omega arith

pub some_typed : (b : BasicTerm) → symbols_of b ≤ 64 → IsViablePrefix (IsLiteralOf b) Always []
some_typed b le =
    let few = fewest_symbols b in
    let (t, v, l) = least_lit (Some b) 64 (omega (arith, few, le)) in
    (t, v, record { is = whole_lit (Some b) t v l; has = l.fit.typed }, tt)

pub some_name : IsViablePrefix IsTypeName Always []
some_name = (codes "unit", unit_type, record { before = 0; parse = types.unit 0; are = refl; stands_for = refl; symbols = omega arith }, tt)
