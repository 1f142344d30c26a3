-- Where bytes stop being a literal.
use Rattle.std.specs.Prelude.{ℕ}
use Rattle.task_model.specs.Terms.Text.{Text}
use Rattle.exact_reading.specs.declared.stop.FaultKind.TheVariants.{Unexpected}
use Rattle.exact_reading.specs.Reading.{Language, Always}
use Rattle.exact_reading.specs.Whole.{IsFirstFault}
use Rattle.literal_text.specs.declared.stop.LiteralStop.{LiteralStop}
use Rattle.literal_text.specs.declared.stop.LiteralStop.TheVariants.{Bad, Memory}

-- The bytes are no word of the language, and the place is the length of their longest prefix that begins one. Want of memory says nothing
-- of them.
abbrev pub IsStopAt : {X : Type 0} → Language ℕ X → Text → LiteralStop → Type 0
IsStopAt A t (Bad bad) = IsFirstFault A Always t Unexpected bad.place
IsStopAt A t Memory = Unit {0}
