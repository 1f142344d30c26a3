-- What a row becomes once the loan of its items is over (docs/LAYERS.md, "task_model").
use Rattle.std.specs.Prelude.{List, length}
use Rattle.std.specs.Borrow.{Lends, MutBor, Fml, RattleType, Array}
use Rattle.std.specs.List.{refill}
use Rattle.task_model.specs.Terms.Rowed.{Rowed}
use Rattle.task_model.specs.contracts.row.Row.{the_row}

-- a row with these items in place of its own, of which there are as many, and with as much spare room
abbrev pub with_items : {A : Type 0} → Rowed A → List A → Rowed A
with_items row items = record { list = refill (length row.list) row.list items; spare = row.spare }

-- once the loan r is over, the row has the items that were left behind r
abbrev pub LendsItems : (T : RattleType) → MutBor (Rowed T.Denot) → MutBor (List T.Denot) → Fml
LendsItems T row r = Lends (the_row T) (Array T 0) row r (with_items row.now)
