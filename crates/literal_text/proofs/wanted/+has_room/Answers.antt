use Rattle.std.proofs.Common.{◌≤◌, arith}
use Rattle.task_model.specs.Terms.Basic.{basic_term, BasicTerm, unit_type, bool_type, int_type, text_type, pair_type, list_type}
use Rattle.literal_text.specs.LiteralReading.{fewest_levels}
use Rattle.literal_text.proofs.wanted.+has_room.Goals as goal

some_level : (b : BasicTerm) → 1 ≤ fewest_levels b
some_level unit_type = omega arith
some_level bool_type = omega arith
some_level int_type = omega arith
some_level text_type = omega arith
some_level (pair_type a b) = omega arith
some_level (list_type a) = omega arith

pub returns-then-room-eq0 : goal.returns-then-room-eq0
returns-then-room-eq0 t c = (λ no. cc, λ h. let one = some_level (basic_term c.args.b.now) in absurd (omega (arith, h, one)))
