use Rattle.std.proofs.Common.{ℕ, ◌≤◌, length}
use Rattle.exact_reading.specs.Reading.{Right, Answer, Always}
use Rattle.literal_text.specs.LiteralReading.{Number, Digits, NoDigit}
use Rattle.literal_text.proofs.ints.number.Given as goal

abbrev pub invariant-loop-digit : goal.invariant-loop-digit
invariant-loop-digit l = record {
  within : l.number ≤ l.limit;
  goes_on : (r : Answer ℕ ℕ) → Right (Digits l.limit l.number) Always NoDigit l.rest r → Right (Number l.limit) Always NoDigit l.bytes r;
}

abbrev pub decreases-loop-digit : goal.decreases-loop-digit
decreases-loop-digit l = length l.rest
