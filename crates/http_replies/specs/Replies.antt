-- Replies as bytes (docs/FORMATS.md, "Replies").
use Rattle.std.specs.Prelude.{ℕ, ◌==◌, if◌then◌else◌, Bool, Option, None, Some, unwrap_or, List, [], ◌∷◌, ◌++◌, length, codes, decimal}
use Rattle.task_model.specs.Terms.Text.{Text}
use Rattle.task_model.specs.declared.widget.Face.{Face}
use Rattle.task_model.specs.declared.widget.Face.TheVariants as faces

-- ---- heads
-- The phrases that are written, each with its status.
abbrev pub phrases : List (ℕ × Text)
phrases =
    (200, codes "OK") ∷ (303, codes "See Other") ∷ (400, codes "Bad Request") ∷ (404, codes "Not Found")
    ∷ (405, codes "Method Not Allowed") ∷ (409, codes "Conflict") ∷ (411, codes "Length Required") ∷ (413, codes "Content Too Large")
    ∷ (431, codes "Request Header Fields Too Large") ∷ (500, codes "Internal Server Error") ∷ (501, codes "Not Implemented") ∷ []

-- The phrase of the first row with this status.
abbrev pub phrase_among : ℕ → List (ℕ × Text) → Option Text
phrase_among status [] = None
phrase_among status (row ∷ rows) = if row.0 == status then Some row.1 else phrase_among status rows

-- The phrase of a status, if it has one.
abbrev pub phrase_of : ℕ → Option Text
phrase_of status = phrase_among status phrases

-- A line of a head ends with CR LF.
abbrev pub head_line : Text → Text
head_line t = t ++ codes "\r\n"

-- A version that an input led to is told by `Location`.
abbrev pub location_line : Option ℕ → Text
location_line None = []
location_line (Some version) = head_line (codes "Location: /?v=" ++ decimal version)

-- A reply of status 405 tells the methods.
abbrev pub allow_line : ℕ → Text
allow_line status = if status == 405 then head_line (codes "Allow: GET, HEAD, POST") else []

-- A body is a page in HTML, or plain text.
abbrev pub type_line : Option Face → Text
type_line None = []
type_line (Some faces.Html) = head_line (codes "Content-Type: text/html; charset=utf-8")
type_line (Some faces.Text) = head_line (codes "Content-Type: text/plain; charset=utf-8")

-- The end of the connection is told.
abbrev pub close_line : Bool → Text
close_line closes = if closes then head_line (codes "Connection: close") else []

-- The lines of a head, in their order, and an empty one.
abbrev pub reply_head_text : ℕ → Option ℕ → Option Face → ℕ → Bool → Text
reply_head_text status location kind size closes =
    head_line (codes "HTTP/1.1 " ++ (decimal status ++ (32 ∷ unwrap_or (phrase_of status) [])))
    ++ (location_line location ++ (allow_line status ++ (type_line kind
    ++ (head_line (codes "Content-Length: " ++ decimal size) ++ (close_line closes ++ head_line [])))))

-- ---- replies
-- What is replied.
pub data ReplyTerm : Type 0 where
  -- a page in its face
  page_reply : Face → Text → ReplyTerm
  -- the input was taken, and the version that it led to
  taken_reply : ℕ → ReplyTerm
  -- the page asked for is ahead of this version
  ahead_reply : ℕ → ReplyTerm
  -- what became of the input, and the version seen
  not_offered_reply : ℕ → ReplyTerm
  over_reply : ℕ → ReplyTerm
  -- the request was refused, with a status and a text
  refused_reply : ℕ → Text → ReplyTerm
  -- want of memory
  memory_reply : ReplyTerm

-- The status of a reply.
abbrev pub reply_status : ReplyTerm → ℕ
reply_status (page_reply face page) = 200
reply_status (taken_reply version) = 303
reply_status (ahead_reply version) = 409
reply_status (not_offered_reply version) = 409
reply_status (over_reply version) = 409
reply_status (refused_reply status text) = status
reply_status memory_reply = 500

-- The version that its `Location` tells, if there is one.
abbrev pub reply_location : ReplyTerm → Option ℕ
reply_location (taken_reply version) = Some version
reply_location reply = None

-- The kind of its body, if it has one.
abbrev pub reply_kind : ReplyTerm → Option Face
reply_kind (page_reply face page) = Some face
reply_kind (taken_reply version) = None
reply_kind (ahead_reply version) = Some faces.Text
reply_kind (not_offered_reply version) = Some faces.Text
reply_kind (over_reply version) = Some faces.Text
reply_kind (refused_reply status text) = Some faces.Text
reply_kind memory_reply = None

-- Each body but a page ends with an LF.
abbrev pub text_line : Text → Text
text_line t = t ++ codes "\n"

-- Its body.
abbrev pub reply_body : ReplyTerm → Text
reply_body (page_reply face page) = page
reply_body (taken_reply version) = []
reply_body (ahead_reply version) = text_line (codes "have " ++ decimal version)
reply_body (not_offered_reply version) = text_line (codes "not offered at version " ++ decimal version)
reply_body (over_reply version) = text_line (codes "over budget at version " ++ decimal version)
reply_body (refused_reply status text) = text_line text
reply_body memory_reply = []

-- Its head, where its body has so many bytes, and the connection ends behind it or goes on.
abbrev pub reply_head_of : ReplyTerm → ℕ → Bool → Text
reply_head_of reply size closes = reply_head_text (reply_status reply) (reply_location reply) (reply_kind reply) size closes

abbrev pub reply_head : ReplyTerm → Bool → Text
reply_head reply closes = reply_head_of reply (length (reply_body reply)) closes

-- Its head, and its body unless the head alone is wanted.
abbrev pub reply_bytes : ReplyTerm → (head_only closes : Bool) → Text
reply_bytes reply head_only closes = reply_head reply closes ++ (if head_only then [] else reply_body reply)
