use Rattle.std.proofs.Common.{◌-◌, ◌∙◌, length, take, ap, rules}
use Rattle.std.specs.Prelude.{string_bytes}
use Rattle.terminal_view.proofs.TurnLemmas.{printed, read_back, gone_back, low_byte}
use Rattle.terminal_view.proofs.printed_trail.PrintedTrail.back.Goals as goal

pub truncate-requires : goal.truncate-requires
truncate-requires c = λ le. (
  search rules,
  λ some within high. absurd (low_byte (string_bytes c.self.inside.text) (c.len-most.result - 1) c.self.invariant high),
)

pub invariant_of-self : goal.invariant_of-self
invariant_of-self c =
    printed _ _ (gone_back (string_bytes c.self.inside.text) _ (c.len-most.result - 1) c.self.invariant (search rules)
    (rw (← c.self.view_is) at c.requires) c.truncate.ensures.bytes)

pub returns : goal.returns
returns c =
    read_back _ _ (gone_back (string_bytes c.self.inside.text) _ (c.len-most.result - 1) c.self.invariant (search rules)
    (rw (← c.self.view_is) at c.requires) c.truncate.ensures.bytes)
    ∙ ap (λ ts. take (length ts - 1) ts) c.self.view_is
