use Rattle.std.specs.List.{All}
use Rattle.outer_io.specs.Links.{IsFresh}
use Rattle.outer_io.specs.MemLinks.{told_in_memory}
use Rattle.outer_io.specs.declared.mem_link.MemLink.{MemLink}
use Rattle.tophat_commands_tests.proofs.tests.case.links.Given as goal

abbrev pub invariant-loop-text : goal.invariant-loop-text
invariant-loop-text l = All (λ (link : MemLink). IsFresh (told_in_memory link)) l.links.items
