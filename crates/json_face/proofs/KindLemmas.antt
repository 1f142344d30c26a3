-- What is shown by its kind.
use Rattle.std.proofs.Common.{◌≡◌, ℕ, codes, ap, arith}
use Rattle.task_model.specs.Terms.Text.{Text}
use Rattle.task_model.specs.Showing.Widget.{ShapeTerm, edit_shape, enter_shape, share_shape, then_shape, step_shape, fail_shape, and_shape, or_shape, pick_shape}
use Rattle.task_model.specs.declared.widget.Sign.{Sign}
use Rattle.serde_json.specs.Data.{string, Members, no_members, member}
use Rattle.json_face.proofs.DataParts.{first_byte, text_in, rest_in}
use Rattle.json_face.specs.JsonPages.{sign_word, shape_members}

abbrev key_in : Members → ℕ
key_in no_members = 0
key_in (member k d ms) = first_byte k

abbrev kind_in : Members → ℕ
kind_in no_members = 0
kind_in (member k d ms) = first_byte (text_in d)

-- behind the kind `pick` stands an external choice
pub pick_only : (rest : Members) (path : Text) (s : ShapeTerm) → member (codes "kind") (string (codes "pick")) rest ≡ shape_members path s
    → (x : Sign) × (z : Sign) × (rest ≡ member (codes "left") (string (sign_word x)) (member (codes "path") (string path)
    (member (codes "right") (string (sign_word z)) no_members)))
pick_only rest path (edit_shape b v) h = absurd (omega (arith, ap kind_in h))
pick_only rest path (enter_shape b) h = absurd (omega (arith, ap kind_in h))
pick_only rest path (share_shape b v) h = absurd (omega (arith, ap kind_in h))
pick_only rest path then_shape h = absurd (omega (arith, ap kind_in h))
pick_only rest path (step_shape s) h = absurd (omega (arith, ap key_in h))
pick_only rest path fail_shape h = absurd (omega (arith, ap kind_in h))
pick_only rest path and_shape h = absurd (omega (arith, ap kind_in h))
pick_only rest path or_shape h = absurd (omega (arith, ap kind_in h))
pick_only rest path (pick_shape x z) h = (x, z, ap rest_in h)
