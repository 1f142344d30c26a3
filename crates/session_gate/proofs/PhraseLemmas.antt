-- The statuses of requests that are refused.
use Rattle.std.proofs.Common.{◌≡◌, ℕ, List, refl, sym, subst, arith}
use Rattle.std.specs.Prelude.{IsSome}
use Rattle.task_model.specs.Terms.Text.{Text}
use Rattle.task_model.specs.Terms.Item.{ItemTerm}
use Rattle.http_heads.specs.declared.check.Check.{Check}
use Rattle.http_heads.specs.declared.check.Check.TheVariants as check
use Rattle.http_heads.specs.Checks.{check_status}
use Rattle.http_requests.specs.Requests.{AskedTerm, asks_page, asks_act, refused, RequestTerm}
use Rattle.http_requests.specs.Streams.{BeginsWith, IsOfCheck}
use Rattle.http_requests.proofs.RefusalLemmas.{begun_of_check}
use Rattle.http_replies.specs.Replies.{ReplyTerm, phrase_of}
use Rattle.http_replies.specs.ReplyForms.{HasPhrase}
use Rattle.session_gate.specs.Notes.{IsReplyAt}
use Rattle.session_gate.specs.declared.note_kind.NoteKind.{NoteKind}
use Rattle.session_gate.specs.declared.note_kind.NoteKind.TheVariants as kind

-- a status that a reply tells a refusal by
abbrev pub IsRefusal : ℕ → Type 0
IsRefusal status = IsSome (phrase_of status) × (status ≡ 303 → ⊥)

check_refuses : (c : Check) → IsRefusal (check_status c)
check_refuses check.ShortHead = (refl, λ e. absurd (omega (arith, e)))
check_refuses check.WholeHead = (refl, λ e. absurd (omega (arith, e)))
check_refuses check.OneHost = (refl, λ e. absurd (omega (arith, e)))
check_refuses check.NoCoding = (refl, λ e. absurd (omega (arith, e)))
check_refuses check.OneLength = (refl, λ e. absurd (omega (arith, e)))
check_refuses check.ShortBody = (refl, λ e. absurd (omega (arith, e)))
check_refuses check.KnownTarget = (refl, λ e. absurd (omega (arith, e)))
check_refuses check.KnownMethod = (refl, λ e. absurd (omega (arith, e)))
check_refuses check.LengthOfPost = (refl, λ e. absurd (omega (arith, e)))
check_refuses check.GoodContent = (refl, λ e. absurd (omega (arith, e)))

-- what is asked, where it is refused, has such a status
abbrev pub RefusesWell : AskedTerm → Type 0
RefusesWell (asks_page face least head_only) = Unit {0}
RefusesWell (asks_act i) = Unit {0}
RefusesWell (refused status text ends head_only) = IsRefusal status

of_check : (a : AskedTerm) → IsOfCheck a → RefusesWell a
of_check (asks_page face least head_only) p = tt
of_check (asks_act i) p = tt
of_check (refused status text ends head_only) p = subst IsRefusal (sym p.1) (check_refuses p.0)

pub request_refuses : (bytes : Text) (r : RequestTerm) (rest : Text) → BeginsWith bytes r rest → RefusesWell r.asked
request_refuses bytes r rest b = of_check r.asked (begun_of_check bytes r rest b)

-- the reply of any note has a phrase
page_phrase : (asked : AskedTerm) (version seat : ℕ) (H : List ItemTerm) (reply : ReplyTerm)
    → IsReplyAt kind.Page asked version seat H reply → HasPhrase reply
page_phrase (asks_page face least head_only) version seat H reply p = subst HasPhrase (sym p.2) tt
page_phrase (asks_act i) version seat H reply p = absurd p
page_phrase (refused status text ends head_only) version seat H reply p = absurd p

refused_phrase : (status : ℕ) (asked : AskedTerm) (version seat : ℕ) (H : List ItemTerm) (reply : ReplyTerm)
    → IsReplyAt (kind.Refused status) asked version seat H reply → RefusesWell asked → HasPhrase reply
refused_phrase status (asks_page face least head_only) version seat H reply p well = absurd p
refused_phrase status (asks_act i) version seat H reply p well = absurd p
refused_phrase status (refused number text ends head_only) version seat H reply p well = subst HasPhrase (sym p) well

pub reply_phrase : (k : NoteKind) (asked : AskedTerm) (version seat : ℕ) (H : List ItemTerm) (reply : ReplyTerm)
    → IsReplyAt k asked version seat H reply → RefusesWell asked → HasPhrase reply
reply_phrase kind.Page asked version seat H reply p well = page_phrase asked version seat H reply p
reply_phrase kind.Taken asked version seat H reply p well = subst HasPhrase (sym p) tt
reply_phrase kind.NotOffered asked version seat H reply p well = subst HasPhrase (sym p) tt
reply_phrase kind.Over asked version seat H reply p well = subst HasPhrase (sym p) tt
reply_phrase kind.Ahead asked version seat H reply p well = subst HasPhrase (sym p) tt
reply_phrase (kind.Refused status) asked version seat H reply p well = refused_phrase status asked version seat H reply p well
reply_phrase kind.Memory asked version seat H reply p well = subst HasPhrase (sym p) tt
