-- What is read off the head of a request: its fields, its target and its method (docs/FORMATS.md, "Checks").
use Rattle.std.specs.Prelude.{◌≡◌, ℕ, ◌==◌, ◌&&◌, ◌||◌, nat_lt, nat_le, if◌then◌else◌, Bool, Option, None, Some, unwrap_or, List, [], ◌∷◌, map, length, codes}
use Rattle.std.specs.Char.{is_ascii_digit}
use Rattle.std.specs.List.{list_all, list_any, slice_split}
use Rattle.std.specs.Str.{str_eq_ignore_ascii_case}
use Rattle.std.specs.Str.Parse.{digits_value}
use Rattle.httparse.specs.Grammar.{trim_ows, RequestHead, ReadsRequest}
use Rattle.httparse.specs.Spans.{name_and_value}
use Rattle.task_model.specs.Terms.Text.{Text, same_text}

-- A head is its method, its target, the minor number of its version, and its fields: their names, and their values without the
-- spaces and tabs round them.
pub record HeadTerm : Type 0 where
  pub method : Text
  pub target : Text
  pub minor : ℕ
  pub fields : List (Text × Text)

-- A head of httparse's grammar, as what is looked at of it.
abbrev pub head_term : RequestHead → HeadTerm
head_term h = record { method = h.method; target = h.target; minor = h.minor; fields = map name_and_value h.fields }

-- The block is one whole head by httparse's grammar as it is by default.
abbrev pub IsHead : Text → HeadTerm → Type 0
IsHead block h = (whole : RequestHead) × ReadsRequest block whole [] × (head_term whole ≡ h)

-- ---- fields
-- The values of the fields of a name, which is compared without regard to the case of ASCII letters.
abbrev pub values_among : Text → List (Text × Text) → List Text
values_among name [] = []
values_among name (field ∷ fields) =
    if str_eq_ignore_ascii_case field.0 name then field.1 ∷ values_among name fields else values_among name fields

abbrev pub values_of : Text → HeadTerm → List Text
values_of name h = values_among name h.fields

-- The number below 2^64 that the text writes in 1 to so many digits.
abbrev pub below_two_64 : ℕ → Option ℕ
below_two_64 n = if nat_le n 18446744073709551615 then Some n else None

abbrev pub number_of : ℕ → Text → Option ℕ
number_of most t =
    if nat_lt 0 (length t) && (nat_le (length t) most && list_all is_ascii_digit t) then below_two_64 (digits_value 10 t) else None

-- The number that `Content-Length` says: 0 without that field, and none where there are two, or one without 1 to 19 digits.
abbrev pub length_among : List Text → Option ℕ
length_among [] = Some 0
length_among (value ∷ []) = number_of 19 value
length_among (value ∷ other ∷ values) = None

abbrev pub length_given : HeadTerm → Option ℕ
length_given h = length_among (values_of (codes "content-length") h)

-- The body has so many bytes.
abbrev pub body_length : HeadTerm → ℕ
body_length h = unwrap_or (length_given h) 0

-- The word is `close`, in any case of letters, without the spaces and tabs round it.
abbrev pub is_close : Text → Bool
is_close word = str_eq_ignore_ascii_case (trim_ows word) (codes "close")

-- One of the words that commas part is `close`.
abbrev pub has_close : Text → Bool
has_close value = list_any is_close (slice_split (λ byte. byte == 44) value)

-- The request asks for the end of the connection, by a `Connection` field, or since it is of HTTP/1.0.
abbrev pub asks_close : HeadTerm → Bool
asks_close h = h.minor == 0 || list_any has_close (values_of (codes "connection") h)

-- ---- the target and the method
-- The query behind "/" is what stands behind a "?", or nothing.
abbrev pub query_behind : Text → Option Text
query_behind [] = Some []
query_behind (byte ∷ bytes) = if byte == 63 then Some bytes else None

-- The target is "/", alone or with "?" and a query behind it.
abbrev pub query_in : Text → Option Text
query_in [] = None
query_in (byte ∷ bytes) = if byte == 47 then query_behind bytes else None

abbrev pub query_of : HeadTerm → Option Text
query_of h = query_in h.target

-- The method is GET, HEAD or POST.
abbrev pub is_get : HeadTerm → Bool
is_get h = same_text h.method (codes "GET")

abbrev pub is_head : HeadTerm → Bool
is_head h = same_text h.method (codes "HEAD")

abbrev pub is_post : HeadTerm → Bool
is_post h = same_text h.method (codes "POST")
