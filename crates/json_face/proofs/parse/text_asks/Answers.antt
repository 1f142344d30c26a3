use Rattle.std.proofs.Common.{◌≡◌, ◌==◌, [], length, sym, ap, ◌∙◌}
use Rattle.std.proofs.lemmas.Result.{IfOk-weaker}
use Rattle.serde_json.specs.View.{view}
use Rattle.json_face.specs.JsonLines.{json}
use Rattle.json_face.proofs.parse.text_asks.Goals as goal

pub returns-clause-found : goal.returns-clause-found
returns-clause-found c =
    let some : c.args.text.now ≡ [] → ⊥ = λ none.
    let e = sym c.if-is_empty.false ∙ (c.is_empty.ensures ∙ ap (λ t. length t == 0) none) in
    cc in
    let held = c.in_ok-json.ensures.found in
    IfOk-weaker _ _ _ (λ l is. json (view c.in_ok-json.json) some held.0 held.1 is) c.read_line.ensures.found
