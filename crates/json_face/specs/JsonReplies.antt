-- The JSON form of replies (docs/FORMATS.md, "JSON"). An object's members stand in the order of their keys.
use Rattle.std.specs.Prelude.{ℕ, codes}
use Rattle.task_model.specs.Terms.Text.{Text}
use Rattle.json_face.specs.declared.reply.JsonReply.{JsonReply}
use Rattle.json_face.specs.declared.reply.JsonReply.TheVariants as replies
use Rattle.serde_json.specs.Data.{Data, number, unsigned, string, object, no_members, member}

-- the reply to an input that was taken, with the version that it led to
abbrev pub taken_data : ℕ → Data
taken_data version = object (member (codes "taken") (number (unsigned version)) no_members)

-- the reply to an input that was refused at a version
abbrev pub refused_data : Text → ℕ → Data
refused_data why version = object (member (codes "refused") (string why) (member (codes "version") (number (unsigned version)) no_members))

-- a reply
abbrev pub reply_data : JsonReply → Data
reply_data (replies.Taken version) = taken_data version
reply_data (replies.NotOffered version) = refused_data (codes "not offered") version
reply_data (replies.OverBudget version) = refused_data (codes "over budget") version
