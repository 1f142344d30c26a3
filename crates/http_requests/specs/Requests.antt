-- What bytes are a request, and what it asks for (docs/FORMATS.md, "HTTP").
use Rattle.std.specs.Prelude.{◌≡◌, ℕ, ◌<◌, ◌≤◌, ◌&&◌, not, Bool, true, false, Option, None, Some, unwrap_or, ◌++◌, length, codes, decimal}
use Rattle.task_model.specs.Terms.Text.{Text}
use Rattle.task_model.specs.Terms.Input.{InputTerm}
use Rattle.task_model.specs.declared.widget.Face.{Face}
use Rattle.http_heads.specs.declared.check.Check.{Check}
use Rattle.http_heads.specs.declared.check.Check.TheVariants.{ShortHead, WholeHead, GoodContent}
use Rattle.http_heads.specs.Blocks.{head_limit, without_blanks, head_length, field_lines}
use Rattle.http_heads.specs.Heads.{HeadTerm, IsHead, asks_close, query_of, is_head, is_post}
use Rattle.http_heads.specs.Checks.{check_status, ends_at, check_text, failed_check, ends_connection, body_taken}
use Rattle.http_forms.specs.Forms.{page_asked, GivesInput, HasBadLiteral, IsMalformed}

-- What a request asks for.
pub data AskedTerm : Type 0 where
  -- a page in a face, of at least a version or of any; whether the reply has its head alone
  asks_page : Face → Option ℕ → Bool → AskedTerm
  -- that an input be taken
  asks_act : InputTerm → AskedTerm
  -- nothing: it is refused with a status and a text; whether that ends the connection; whether the reply has its head alone
  refused : ℕ → Text → Bool → Bool → AskedTerm

-- A request: what it asks for, whether it asks for the end of the connection, and how many bytes it takes.
pub record RequestTerm : Type 0 where
  pub asked : AskedTerm
  pub closes : Bool
  pub length : ℕ

-- A request that fails a check.
abbrev pub refused_by : Check → Bool → AskedTerm
refused_by check head_only = refused (check_status check) (check_text check) (ends_at check) head_only

-- ---- what a head and a body ask for
abbrev pub asked_by_parts : Option (Face × Option ℕ) → Bool → AskedTerm
asked_by_parts None head_only = refused_by GoodContent head_only
asked_by_parts (Some (face, version)) head_only = asks_page face version head_only

-- A query asks for a page, or fails check 10.
abbrev pub asked_by_query : Text → Bool → AskedTerm
asked_by_query query head_only = asked_by_parts (page_asked query) head_only

-- A form gives an input, or has a bad literal, or is malformed; the last two fail check 10.
pub data IsAskedByForm (form : Text) (a : AskedTerm) : Type 0 where
  gives : (i : InputTerm) → GivesInput form i → a ≡ asks_act i → IsAskedByForm form a
  bad_literal : (place : ℕ) → HasBadLiteral form place
      → a ≡ refused (check_status GoodContent) (codes "bad literal at " ++ decimal place) false false → IsAskedByForm form a
  malformed : IsMalformed form → a ≡ refused_by GoodContent false → IsAskedByForm form a

-- What a head with a body asks for: the first of the checks 3 to 10 that fails refuses it.
pub data IsAskedBy (h : HeadTerm) (body : Text) (a : AskedTerm) : Type 0 where
  fails : (check : Check) → failed_check h ≡ Some check → a ≡ refused_by check (is_head h) → IsAskedBy h body a
  queries : failed_check h ≡ None → is_post h ≡ false → a ≡ asked_by_query (unwrap_or (query_of h) (codes "")) (is_head h)
      → IsAskedBy h body a
  posts : failed_check h ≡ None → is_post h ≡ true → IsAskedByForm body a → IsAskedBy h body a

-- ---- requests
-- A request of so many bytes that check 1 or 2 refuses.
abbrev pub refusal_of : Check → ℕ → RequestTerm
refusal_of check size = record { asked = refused_by check false; closes = false; length = size }

-- A request of so many bytes with this head; one that ends the connection doesn't ask for the end as well.
abbrev pub request_of : HeadTerm → AskedTerm → ℕ → RequestTerm
request_of h a size = record { asked = a; closes = not (ends_connection h) && asks_close h; length = size }

-- The bytes are one whole request: blank lines, a block, and a body.
pub data IsRequest (bytes : Text) (r : RequestTerm) : Type 0 where
  -- check 1 fails: no block ends in 8,192 bytes
  endless : head_length bytes ≡ None → length bytes ≡ head_limit → r ≡ refusal_of ShortHead (length bytes) → IsRequest bytes r
  -- check 1 fails: the block has over 64 field lines
  crowded : head_length bytes ≡ Some (length bytes) → 64 < field_lines (without_blanks bytes)
      → r ≡ refusal_of ShortHead (length bytes) → IsRequest bytes r
  -- check 2 fails: the block is no head
  garbled : head_length bytes ≡ Some (length bytes) → field_lines (without_blanks bytes) ≤ 64
      → ((h : HeadTerm) → IsHead (without_blanks bytes) h → ⊥) → r ≡ refusal_of WholeHead (length bytes) → IsRequest bytes r
  -- the block is a head, and what belongs to the request of the body stands behind it
  headed : (front body : Text) → bytes ≡ front ++ body → head_length bytes ≡ Some (length front)
      → field_lines (without_blanks front) ≤ 64 → (h : HeadTerm) → IsHead (without_blanks front) h
      → length body ≡ body_taken h → (a : AskedTerm) → IsAskedBy h body a → r ≡ request_of h a (length bytes) → IsRequest bytes r
