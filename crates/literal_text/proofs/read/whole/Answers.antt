use Rattle.std.proofs.Common.{sym, subst}
use Rattle.exact_reading.proofs.Whole.{whole_only, trailing, refused, always_unexpected, no_word}
use Rattle.literal_text.specs.LiteralPlaces.{IsStopAt}
use Rattle.literal_text.specs.LiteralReading.{Whole, want_of}
use Rattle.literal_text.proofs.ReadLemmas.{nothing_ends, not_empty, read_whole}
use Rattle.literal_text.proofs.read.whole.Goals as goal

pub returns-then-is_empty-clause-only : goal.returns-then-is_empty-clause-only
returns-then-is_empty-clause-only c = λ v h. sym
    (whole_only nothing_ends (read_whole _ c.requires c.skip.ensures.copies c.skip.ensures.ends c.in-Ok.ensures) h).1

pub returns-else-is_empty-clause-only : goal.returns-else-is_empty-clause-only
returns-else-is_empty-clause-only c = λ v h. absurd
    (not_empty _ c.if-is_empty.ensures
    (whole_only nothing_ends (read_whole _ c.requires c.skip.ensures.copies c.skip.ensures.ends c.in-Ok.ensures) h).0)

pub returns-else-is_empty-clause-bad : goal.returns-else-is_empty-clause-bad
returns-else-is_empty-clause-bad c = let (n, is, sum) = c.bad.ensures in
    subst (λ e. IsStopAt (Whole (want_of c.args.wanted)) c.args.bytes.now e) (sym is)
    (trailing nothing_ends (not_empty _ c.if-is_empty.ensures)
    (read_whole _ c.requires c.skip.ensures.copies c.skip.ensures.ends c.in-Ok.ensures) sum)

pub returns-in-Err-Fault-clause-only : goal.returns-in-Err-Fault-clause-only
returns-in-Err-Fault-clause-only c = let (n, is, sum) = c.bad-in-Err-Fault.ensures in
    λ v h. absurd
    (no_word (refused nothing_ends
    (read_whole _ c.requires c.skip.ensures.copies c.skip.ensures.ends (rw c.in-Err-Fault.field-0-is at c.in-Err-Fault.ensures)) sum) h
    tt)

pub returns-in-Err-Fault-clause-bad : goal.returns-in-Err-Fault-clause-bad
returns-in-Err-Fault-clause-bad c = let (n, is, sum) = c.bad-in-Err-Fault.ensures in
    subst (λ e. IsStopAt (Whole (want_of c.args.wanted)) c.args.bytes.now e) (sym is)
    (always_unexpected
    (refused nothing_ends
    (read_whole _ c.requires c.skip.ensures.copies c.skip.ensures.ends (rw c.in-Err-Fault.field-0-is at c.in-Err-Fault.ensures)) sum))
