use Rattle.std.proofs.Common.{◌≡◌, codes, refl, ap, ◌∙◌, rules}
use Rattle.task_model.specs.Terms.Value.{value_term}
use Rattle.task_model.specs.Showing.Page.{path_text}
use Rattle.json_face.specs.Fields.{left}
use Rattle.serde_json.specs.Data.{Data, Members, member, no_members, number, unsigned, string}
use Rattle.serde_json.specs.View.{view}
use Rattle.json_face.proofs.acts.read_set.Goals as goal

pub returns-clause-found : goal.returns-clause-found
returns-clause-found c =
    let done : left c.take.new.self ≡ no_members = search rules in
    let value = c.in_ok-value.ensures.found in
    let last = c.in-Some-take.ensures ∙ ap (λ (ms : Members). member (codes "value") (view c.in-Some-take.value.now) ms) done
    ∙ ap (λ (d : Data). member (codes "value") d no_members) value.are in
    let seat = c.in-Some.ensures.0 ∙ ap (λ (ms : Members). member (codes "seat") (number (unsigned c.in-Some.seat)) ms) last in (
      value_term c.in_ok-value.value,
      refl,
      record {
        are = c.in_ok-path.ensures.found ∙ ap (λ (ms : Members). member (codes "path") (string (path_text c.in_ok-path.path.turns)) ms) seat;
        seat = c.in-Some.ensures.1;
        fits = (value.limits, value.levels);
      },
    )
