use Rattle.std.proofs.Common.{refl}
use Rattle.host_types.specs.Seen.{scope_term}
use Rattle.host_types.proofs.ScopeLemmas.{kind_in-named}
use Rattle.host_types.proofs.names.+found.Goals as goal

pub returns-then-is : goal.returns-then-is
returns-then-is t c = rw (c.in-Named.is, kind_in-named (scope_term c.in-Named.outer.now), ← c.is.ensures, c.if-is.true) refl

pub returns-else-is : goal.returns-else-is
returns-else-is t c = rw (c.in-Named.is, kind_in-named (scope_term c.in-Named.outer.now), ← c.is.ensures, c.if-is.false) c.found.ensures
