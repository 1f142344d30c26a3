use Rattle.std.proofs.Common.{◌≡◌, codes, option_map, sym, ap, ◌∙◌}
use Rattle.serde_json.specs.Data.{Members, member, no_members, number, unsigned, array}
use Rattle.serde_json.specs.Find.{as_object}
use Rattle.json_face.specs.Fields.{left}
use Rattle.json_face.specs.JsonPages.{widgets_data}
use Rattle.json_face.proofs.DataParts.{some_or, rest_in}
use Rattle.json_face.proofs.read.page_of.Goals as goal

pub returns-in_default-take-clause-bad : goal.returns-in_default-take-clause-bad
returns-in_default-take-clause-bad c = λ _ p is fits.
    let version = c.in-Some-take_count.ensures in
    let seat = c.in-Some-take_seat.ensures.0 ∙ ap (λ (ms : Members). member (codes "seat") (number (unsigned c.in-Some-take_seat.seat)) ms) version in
    let whole = ap (option_map left) (sym c.in-Some.is) ∙ (c.of.ensures ∙ ap as_object is) in
    let rest : left c.take_count.new.fields ≡ member (codes "widgets") (array (widgets_data p.widgets)) no_members =
    ap (λ ms. rest_in (rest_in ms)) (sym seat) ∙ ap (λ o. rest_in (rest_in (some_or no_members o))) whole in
    c.in_default-take.ensures (array (widgets_data p.widgets)) no_members rest
