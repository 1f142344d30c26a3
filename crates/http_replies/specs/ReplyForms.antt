-- Replies as the code holds them (docs/FORMATS.md, "Replies").
use Rattle.std.specs.Prelude.{◌≡◌, ◌≤◌, IsSome, length}
use Rattle.http_replies.specs.declared.http_reply.HttpReply.{HttpReply}
use Rattle.http_replies.specs.declared.http_reply.HttpReply.TheVariants as replies
use Rattle.http_replies.specs.Replies.{ReplyTerm, page_reply, taken_reply, ahead_reply, not_offered_reply, over_reply, refused_reply, memory_reply, phrase_of}

-- A reply as a plain term.
abbrev pub reply_term : HttpReply → ReplyTerm
reply_term (replies.Page face page) = page_reply face page.now
reply_term (replies.Taken version) = taken_reply version
reply_term (replies.Ahead version) = ahead_reply version
reply_term (replies.NotOffered version) = not_offered_reply version
reply_term (replies.Over version) = over_reply version
reply_term (replies.Refused status text) = refused_reply status text.now
reply_term replies.Memory = memory_reply

-- Its status has a phrase, and is not the one that tells where to go on.
abbrev pub HasPhrase : ReplyTerm → Type 0
HasPhrase (page_reply face page) = Unit {0}
HasPhrase (taken_reply version) = Unit {0}
HasPhrase (ahead_reply version) = Unit {0}
HasPhrase (not_offered_reply version) = Unit {0}
HasPhrase (over_reply version) = Unit {0}
HasPhrase (refused_reply status text) = IsSome (phrase_of status) × (status ≡ 303 → ⊥)
HasPhrase memory_reply = Unit {0}

-- Its page or its text has at most 48 bytes.
abbrev pub IsShort : ReplyTerm → Type 0
IsShort (page_reply face page) = length page ≤ 48
IsShort (taken_reply version) = Unit {0}
IsShort (ahead_reply version) = Unit {0}
IsShort (not_offered_reply version) = Unit {0}
IsShort (over_reply version) = Unit {0}
IsShort (refused_reply status text) = length text ≤ 48
IsShort memory_reply = Unit {0}
