-- What is left of an object.
use Rattle.serde_json.specs.Data.{Members}
use Rattle.serde_json.specs.View.{members_view}
use Rattle.json_face.specs.declared.fields.Fields.{Fields}

-- the members that weren't taken yet
abbrev pub left : Fields → Members
left f = members_view f.rest
