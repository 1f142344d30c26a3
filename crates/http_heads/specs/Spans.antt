-- A head as the code holds it: its parts as spans of the block (docs/FORMATS.md, "Checks").
use Rattle.std.specs.Prelude.{◌≡◌, ◌≤◌, ◌<◌, unwrap_or, [], List, map, length, All}
use Rattle.httparse.specs.declared.spans.HeaderSpan.{HeaderSpan}
use Rattle.httparse.specs.Spans.{IsHeaderWithin, header_bytes}
use Rattle.task_model.specs.Terms.Text.{Text}
use Rattle.http_heads.specs.declared.check.Check.{Check}
use Rattle.http_heads.specs.declared.check.Check.TheVariants.{ShortHead, WholeHead, OneHost, NoCoding, OneLength, ShortBody, KnownTarget, KnownMethod, LengthOfPost, GoodContent}
use Rattle.http_heads.specs.declared.head.Head.{Head}
use Rattle.http_heads.specs.declared.facts.HeadFacts.{HeadFacts}
use Rattle.http_heads.specs.Blocks.{field_lines}
use Rattle.http_heads.specs.Heads.{HeadTerm, IsHead, query_of, is_head, is_post, asks_close}
use Rattle.http_heads.specs.Checks.{failed_check, body_taken}

-- The spans lie within the block.
abbrev pub AreFieldsWithin : Text → List HeaderSpan → Type 0
AreFieldsWithin block fields = All (IsHeaderWithin (length block)) fields

-- The fields that the spans cover.
abbrev pub fields_at : Text → List HeaderSpan → List (Text × Text)
fields_at block fields = map (header_bytes block) fields

abbrev pub head_of : Head → HeadTerm
head_of h = record { method = h.method.now; target = h.target.now; minor = h.minor; fields = fields_at h.block.now h.fields.now }

-- What a request's head says of it.
pub record SaysOf (facts : HeadFacts) (h : HeadTerm) : Type 0 where
  pub failed : facts.failed ≡ failed_check h
  pub head_only : facts.head_only ≡ is_head h
  pub posts : facts.posts ≡ is_post h
  pub closes : facts.closes ≡ asks_close h
  pub taken : facts.taken ≡ body_taken h
  pub query : facts.query.now ≡ unwrap_or (query_of h) []

-- The checks 1 and 2 as far as a block decides them: it has too many lines, or is no head.
abbrev pub FailsAsBlock : Text → Check → Type 0
FailsAsBlock block ShortHead = 64 < field_lines block
FailsAsBlock block WholeHead = (field_lines block ≤ 64) × ((h : HeadTerm) → IsHead block h → ⊥)
FailsAsBlock block OneHost = ⊥
FailsAsBlock block NoCoding = ⊥
FailsAsBlock block OneLength = ⊥
FailsAsBlock block ShortBody = ⊥
FailsAsBlock block KnownTarget = ⊥
FailsAsBlock block KnownMethod = ⊥
FailsAsBlock block LengthOfPost = ⊥
FailsAsBlock block GoodContent = ⊥

-- A block that passes them, with what its head says.
pub record PassesAsBlock (block : Text) (facts : HeadFacts) : Type 0 where
  pub few_lines : field_lines block ≤ 64
  pub head : HeadTerm
  pub is_head : IsHead block head
  pub says : SaysOf facts head
