use Rattle.std.specs.Option.{unwrap_or}
use Rattle.std.proofs.Common.{length, ap, ◌∙◌, arith}
use Rattle.serde_json.specs.Data.{no_items}
use Rattle.serde_json.specs.Find.{as_array}
use Rattle.json_face.proofs.PartLemmas.{one_item}
use Rattle.json_face.proofs.kinds.only_choice.Goals as goal

pub returns-in_default-2 : goal.returns-in_default-2
returns-in_default-2 c = λ s e.
    let same = ap (λ o. unwrap_or o no_items) (c.in_ok-choices.ensures ∙ ap as_array e) in
    let one = one_item c.in_ok-choices.choices.now.items _ same in
    omega (arith, one, ap length c.as_slice.ensures.value, c.in_default.len_at_least)
