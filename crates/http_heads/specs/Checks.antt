-- The checks of a request, in their order (docs/FORMATS.md, "Checks").
use Rattle.std.specs.Prelude.{ℕ, ◌==◌, ◌&&◌, ◌||◌, not, nat_lt, is_none, if◌then◌else◌, Bool, true, false, Option, None, Some, length, codes}
use Rattle.task_model.specs.Terms.Text.{Text}
use Rattle.http_heads.specs.declared.check.Check.{Check}
use Rattle.http_heads.specs.declared.check.Check.TheVariants.{ShortHead, WholeHead, OneHost, NoCoding, OneLength, ShortBody, KnownTarget, KnownMethod, LengthOfPost, GoodContent}
use Rattle.http_heads.specs.Heads.{HeadTerm, values_of, length_given, body_length, query_of, is_get, is_head, is_post}

-- A request that fails a check is refused with a status,
abbrev pub check_status : Check → ℕ
check_status ShortHead = 431
check_status WholeHead = 400
check_status OneHost = 400
check_status NoCoding = 501
check_status OneLength = 400
check_status ShortBody = 413
check_status KnownTarget = 404
check_status KnownMethod = 405
check_status LengthOfPost = 411
check_status GoodContent = 400

-- the connection ends with it or goes on,
abbrev pub ends_at : Check → Bool
ends_at ShortHead = true
ends_at WholeHead = true
ends_at OneHost = true
ends_at NoCoding = true
ends_at OneLength = true
ends_at ShortBody = true
ends_at KnownTarget = false
ends_at KnownMethod = false
ends_at LengthOfPost = false
ends_at GoodContent = false

-- and a text tells why.
abbrev pub check_text : Check → Text
check_text ShortHead = codes "head too large"
check_text WholeHead = codes "bad request"
check_text OneHost = codes "bad request"
check_text NoCoding = codes "not implemented"
check_text OneLength = codes "bad request"
check_text ShortBody = codes "body too large"
check_text KnownTarget = codes "not found"
check_text KnownMethod = codes "method not allowed"
check_text LengthOfPost = codes "length required"
check_text GoodContent = codes "bad request"

-- There is no field of the name.
abbrev pub lacks : Text → HeadTerm → Bool
lacks name h = length (values_of name h) == 0

-- Of the checks 3 to 9, which a head alone decides, the first one that it fails.
abbrev pub failed_check : HeadTerm → Option Check
failed_check h =
    if h.minor == 1 && not (length (values_of (codes "host") h) == 1) then Some OneHost
    else if not (lacks (codes "transfer-encoding") h) then Some NoCoding
    else if is_none (length_given h) then Some OneLength
    else if nat_lt 65536 (body_length h) then Some ShortBody
    else if is_none (query_of h) then Some KnownTarget
    else if not (is_get h || (is_head h || is_post h)) then Some KnownMethod
    else if is_post h && lacks (codes "content-length") h then Some LengthOfPost
    else None

-- The head fails one of the checks 3 to 6, and the connection ends.
abbrev pub is_end : Option Check → Bool
is_end None = false
is_end (Some check) = ends_at check

abbrev pub ends_connection : HeadTerm → Bool
ends_connection h = is_end (failed_check h)

-- So many bytes of the body belong to the request: none where it is refused by one of the checks 3 to 6.
abbrev pub body_taken : HeadTerm → ℕ
body_taken h = if ends_connection h then 0 else body_length h
