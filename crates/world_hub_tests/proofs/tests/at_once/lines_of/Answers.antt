use Rattle.std.proofs.Common.{◌≡◌, List, [], ◌∷◌, ◌++◌, rules, sym, subst}
use Rattle.std.proofs.lemmas.List.Elements.{All-push}
use Rattle.std.specs.List.{All}
use Rattle.input_lines.specs.ScriptLines.{line_term}
use Rattle.hub_lines.specs.HubLines.{NamesWorld, at_world}
use Rattle.hub_lines.specs.declared.hub_line.HubLine.{HubLine}
use Rattle.world_hub_tests.proofs.tests.at_once.lines_of.Goals as goal

pub loop-line-preserved : goal.loop-line-preserved
loop-line-preserved c =
    let grown : c.push.new.self.items ≡ c.loop-line.lines.items ++ c.in-Ok-Some.line ∷ [] = search rules in
    let named : NamesWorld 2 (at_world c.in-Ok-Some.line.world (line_term c.in-Ok-Some.line.line)) = search rules in
    subst (All (λ (x : HubLine). NamesWorld 2 (at_world x.world (line_term x.line)))) (sym grown)
    (All-push (λ (x : HubLine). NamesWorld 2 (at_world x.world (line_term x.line))) c.loop-line.lines.items c.in-Ok-Some.line
    c.loop-line.invariant named)
