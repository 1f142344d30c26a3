use Rattle.std.proofs.Common.{List, subst, sym}
use Rattle.std.specs.List.{All}
use Rattle.std.proofs.lemmas.List.Elements.{All-push}
use Rattle.outer_io.specs.Links.{IsFresh}
use Rattle.outer_io.specs.MemLinks.{told_in_memory}
use Rattle.outer_io.specs.declared.mem_link.MemLink.{MemLink}
use Rattle.tophat_commands_tests.proofs.tests.case.links.Goals as goal

pub loop-text-preserved : goal.loop-text-preserved
loop-text-preserved c =
    subst (All (λ (link : MemLink). IsFresh (told_in_memory link))) (sym c.in_ok-push_back.ensures.items)
    (All-push (λ (link : MemLink). IsFresh (told_in_memory link)) c.loop-text.links.items c.in_ok-link.field-0 c.loop-text.invariant
    c.in_ok-link.ensures)
