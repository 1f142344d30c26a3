use Rattle.std.proofs.Common.{sym, subst, ap, refl}
use Rattle.exact_reading.proofs.Whole.{whole_only, trailing, refused, always_unexpected, no_word}
use Rattle.literal_text.specs.Types.{IsTypeName}
use Rattle.literal_text.specs.LiteralPlaces.{IsStopAt}
use Rattle.literal_text.proofs.ReadLemmas.{nothing_blank, not_empty, read_named, named_fault}
use Rattle.literal_text.proofs.read.read_basic.Goals as goal

pub returns-then-is_empty-clause-only : goal.returns-then-is_empty-clause-only
returns-then-is_empty-clause-only c = λ b h. ap (λ x. x.0)
    (sym (whole_only nothing_blank (read_named c.skip.ensures.copies c.skip.ensures.ends c.in-Ok.ensures) (h, refl)).1)

pub returns-else-is_empty-clause-only : goal.returns-else-is_empty-clause-only
returns-else-is_empty-clause-only c = λ b h. absurd
    (not_empty _ c.if-is_empty.ensures (whole_only nothing_blank (read_named c.skip.ensures.copies c.skip.ensures.ends c.in-Ok.ensures)
    (h, refl)).0)

pub returns-else-is_empty-clause-bad : goal.returns-else-is_empty-clause-bad
returns-else-is_empty-clause-bad c = let (n, is, sum) = c.bad.ensures in
    subst (λ e. IsStopAt IsTypeName c.args.bytes.now e) (sym is)
    (named_fault (trailing nothing_blank (not_empty _ c.if-is_empty.ensures)
    (read_named c.skip.ensures.copies c.skip.ensures.ends c.in-Ok.ensures) sum))

pub returns-in-Err-Fault-clause-only : goal.returns-in-Err-Fault-clause-only
returns-in-Err-Fault-clause-only c = let (n, is, sum) = c.bad-in-Err-Fault.ensures in
    λ b h. absurd
    (no_word (refused nothing_blank
    (read_named c.skip.ensures.copies c.skip.ensures.ends (rw c.in-Err-Fault.field-0-is at c.in-Err-Fault.ensures)) sum) (h, refl) tt)

pub returns-in-Err-Fault-clause-bad : goal.returns-in-Err-Fault-clause-bad
returns-in-Err-Fault-clause-bad c = let (n, is, sum) = c.bad-in-Err-Fault.ensures in
    subst (λ e. IsStopAt IsTypeName c.args.bytes.now e) (sym is)
    (named_fault (always_unexpected
    (refused nothing_blank
    (read_named c.skip.ensures.copies c.skip.ensures.ends (rw c.in-Err-Fault.field-0-is at c.in-Err-Fault.ensures)) sum)))
