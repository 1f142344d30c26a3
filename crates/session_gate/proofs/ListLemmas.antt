-- Requests with their notes, behind others, and at histories that go on.
use Rattle.std.proofs.Common.{◌≡◌, ℕ, ◌+◌, ◌-◌, ◌≤◌, List, [], ◌∷◌, ◌++◌, length, Option, Some, None, refl, ap, sym, subst, ◌∙◌, arith, append_assoc, append-nil}
use mathlib.Core.List.{IsPrefix}
use Rattle.std.specs.Io.KnownBytes.{Consumes}
use Rattle.task_model.specs.Terms.Text.{Text}
use Rattle.task_model.specs.Terms.Item.{ItemTerm}
use Rattle.task_model.specs.Running.State.{IsLegal, history_prefix, version_of}
use Rattle.task_laws.proofs.BeginningLemmas.{begins_same}
use Rattle.http_requests.specs.Requests.{RequestTerm}
use Rattle.http_replies.specs.Replies.{reply_bytes}
use Rattle.session_gate.specs.Connections.{HoldsRequests, AllGoOn, MayEndLast, HasGivenAll}
use Rattle.session_gate.specs.Notes.{SuitsAt, AllSuit, IsRising, NoneIsMemory, LastMayBeMemory, taken_entry, taken_entries, version_requests, IsReplyAt, IsJoined, closes_after, wants_head}
use Rattle.session_gate.specs.declared.note.Note.{Note}

-- ---- histories that go on
pub prefix_refl : (H : List ItemTerm) → IsPrefix H H
prefix_refl H = ([], append-nil H)

pub prefix_trans : (H J K : List ItemTerm) → IsPrefix H J → IsPrefix J K → IsPrefix H K
prefix_trans H J K p q = (p.0 ++ q.0, sym (append_assoc H p.0 q.0) ∙ ap (λ z. z ++ q.0) p.1 ∙ q.1)

-- up to a version that was seen a later history is the same
at_later : (H K : List ItemTerm) (version : ℕ) → IsLegal H → IsLegal K → IsPrefix H K → version ≤ version_of H
    → history_prefix K version ≡ history_prefix H version
at_later H K version legal later pre low = begins_same H K version later pre (λ e. subst IsLegal e legal) low

rising_low : (low high : ℕ) (notes : List Note) → IsRising low notes high → low ≤ high
rising_low low high [] p = p
rising_low low high (note ∷ notes) p = let ih = rising_low note.version high notes p.1 in let le = p.0 in omega arith

pub suits_later : (rs : List RequestTerm) (notes : List Note) (seat low : ℕ) (H K : List ItemTerm) → IsLegal H → IsLegal K → IsPrefix H K
    → IsRising low notes (version_of H) → AllSuit rs notes seat H → AllSuit rs notes seat K
suits_later [] [] seat low H K legal later pre up p = tt
suits_later [] (note ∷ notes) seat low H K legal later pre up p = p
suits_later (r ∷ rs) [] seat low H K legal later pre up p = absurd p
suits_later (r ∷ rs) (note ∷ notes) seat low H K legal later pre up p =
    let same = at_later H K note.version legal later pre (rising_low note.version (version_of H) notes up.1) in (
      subst (SuitsAt note.kind r.asked note.version seat) (sym same) p.0,
      suits_later rs notes seat note.version H K legal later pre up.1 p.1,
    )

pub joined_later : (left : ℕ) (rs : List RequestTerm) (notes : List Note) (seat low : ℕ) (H K : List ItemTerm) (bytes : Text) → IsLegal H
    → IsLegal K → IsPrefix H K → IsRising low notes (version_of H) → IsJoined left rs notes seat H bytes
    → IsJoined left rs notes seat K bytes
joined_later left [] [] seat low H K bytes legal later pre up p = p
joined_later left [] (note ∷ notes) seat low H K bytes legal later pre up p = p
joined_later left (r ∷ rs) [] seat low H K bytes legal later pre up p = absurd p
joined_later left (r ∷ rs) (note ∷ notes) seat low H K bytes legal later pre up p =
    let same = at_later H K note.version legal later pre (rising_low note.version (version_of H) notes up.1) in (
      p.0,
      p.1,
      subst (λ (z : List ItemTerm). IsReplyAt note.kind r.asked note.version seat z p.0) (sym same) p.2,
      joined_later (left - 1) rs notes seat note.version H K p.1 legal later pre up.1 p.3,
      p.4,
    )

-- ---- behind others
rising_lower : (low mid high : ℕ) (notes : List Note) → low ≤ mid → IsRising mid notes high → IsRising low notes high
rising_lower low mid high [] le p = omega arith
rising_lower low mid high (note ∷ notes) le p = (let q = p.0 in omega arith, p.1)

pub rising_append : (low mid high : ℕ) (notes more : List Note) → IsRising low notes mid → IsRising mid more high
    → IsRising low (notes ++ more) high
rising_append low mid high [] more p q = rising_lower low mid high more p q
rising_append low mid high (note ∷ notes) more p q = (p.0, rising_append note.version mid high notes more p.1 q)

pub suits_append : (rs qs : List RequestTerm) (notes more : List Note) (seat : ℕ) (H : List ItemTerm) → length rs ≡ length notes
    → AllSuit rs notes seat H → AllSuit qs more seat H → AllSuit (rs ++ qs) (notes ++ more) seat H
suits_append [] qs [] more seat H len p q = q
suits_append [] qs (note ∷ notes) more seat H len p q = absurd (omega (arith, len))
suits_append (r ∷ rs) qs [] more seat H len p q = absurd p
suits_append (r ∷ rs) qs (note ∷ notes) more seat H len p q =
    (p.0, suits_append rs qs notes more seat H (omega (arith, len)) p.1 q)

pub taken_append : (seat : ℕ) (rs qs : List RequestTerm) (notes more : List Note) → length rs ≡ length notes
    → taken_entries seat (rs ++ qs) (notes ++ more) ≡ taken_entries seat rs notes ++ taken_entries seat qs more
taken_append seat [] qs [] more len = refl
taken_append seat [] qs (note ∷ notes) more len = absurd (omega (arith, len))
taken_append seat (r ∷ rs) qs [] more len = absurd (omega (arith, len))
taken_append seat (r ∷ rs) qs (note ∷ notes) more len =
    ap (λ z. taken_entry seat note.kind r.asked ++ z) (taken_append seat rs qs notes more (omega (arith, len)))
    ∙ sym (append_assoc (taken_entry seat note.kind r.asked) (taken_entries seat rs notes) (taken_entries seat qs more))

pub versions_append : (rs qs : List RequestTerm) → version_requests (rs ++ qs) ≡ version_requests rs + version_requests qs
versions_append [] qs = omega arith
versions_append (r ∷ rs) qs = let ih = versions_append rs qs in omega arith

pub joined_append : (left : ℕ) (rs qs : List RequestTerm) (notes more : List Note) (seat : ℕ) (H : List ItemTerm) (bytes behind : Text)
    → length rs ≡ length notes → IsJoined left rs notes seat H bytes → IsJoined (left - length rs) qs more seat H behind
    → IsJoined left (rs ++ qs) (notes ++ more) seat H (bytes ++ behind)
joined_append left [] qs [] more seat H bytes behind len p q =
    let whole : left - 0 ≡ left = omega arith in
    subst (λ (z : Text). IsJoined left qs more seat H (z ++ behind)) (sym p)
    (subst (λ (k : ℕ). IsJoined k qs more seat H behind) whole q)
joined_append left [] qs (note ∷ notes) more seat H bytes behind len p q = absurd (omega (arith, len))
joined_append left (r ∷ rs) qs [] more seat H bytes behind len p q = absurd p
joined_append left (r ∷ rs) qs (note ∷ notes) more seat H bytes behind len p q =
    let less : left - length (r ∷ rs) ≡ (left - 1) - length rs = omega arith in (
      p.0,
      p.1 ++ behind,
      p.2,
      joined_append (left - 1) rs qs notes more seat H p.1 behind (omega (arith, len)) p.3
          (subst (λ (k : ℕ). IsJoined k qs more seat H behind) less q),
      ap (λ z. z ++ behind) p.4
          ∙ append_assoc (reply_bytes p.0 (wants_head r.asked) (closes_after left r note.kind)) p.1 behind,
    )

pub holds_append : (bytes behind : Text) (rs qs : List RequestTerm) → HoldsRequests bytes rs → HoldsRequests behind qs
    → HoldsRequests (bytes ++ behind) (rs ++ qs)
holds_append bytes behind [] qs p q = subst (λ (z : Text). HoldsRequests (z ++ behind) qs) (sym p) q
holds_append bytes behind (r ∷ rs) qs p q =
    (p.0, p.1 ++ behind, ap (λ z. z ++ behind) p.2 ∙ append_assoc p.0 p.1 behind, p.3, holds_append p.1 behind rs qs p.4 q)

pub open_append : (rs qs : List RequestTerm) → AllGoOn rs → AllGoOn qs → AllGoOn (rs ++ qs)
open_append [] qs p q = q
open_append (r ∷ rs) qs p q = (p.0, open_append rs qs p.1 q)

last_append : (r : RequestTerm) (qs : List RequestTerm) → AllGoOn (r ∷ []) → MayEndLast qs → MayEndLast (r ∷ qs)
last_append r [] p q = tt
last_append r (s ∷ qs) p q = (p.0, q)

pub end_append : (rs qs : List RequestTerm) → AllGoOn rs → MayEndLast qs → MayEndLast (rs ++ qs)
end_append [] qs p q = q
end_append (r ∷ []) qs p q = last_append r qs p q
end_append (r ∷ s ∷ rs) qs p q = (p.0, end_append (s ∷ rs) qs p.1 q)

pub open_ends : (rs : List RequestTerm) → AllGoOn rs → MayEndLast rs
open_ends rs p = subst MayEndLast (append-nil rs) (end_append rs [] p tt)

pub none_append : (notes more : List Note) → NoneIsMemory notes → NoneIsMemory more → NoneIsMemory (notes ++ more)
none_append [] more p q = q
none_append (note ∷ notes) more p q = (p.0, none_append notes more p.1 q)

memory_behind : (note : Note) (more : List Note) → NoneIsMemory (note ∷ []) → LastMayBeMemory more → LastMayBeMemory (note ∷ more)
memory_behind note [] p q = tt
memory_behind note (next ∷ more) p q = (p.0, q)

pub memory_append : (notes more : List Note) → NoneIsMemory notes → LastMayBeMemory more → LastMayBeMemory (notes ++ more)
memory_append [] more p q = q
memory_append (note ∷ []) more p q = memory_behind note more p q
memory_append (note ∷ next ∷ notes) more p q = (p.0, memory_append (next ∷ notes) more p.1 q)

-- ---- what is left of a link
pub gives_all : (first mid last : Option Text) (bytes : Text) → Consumes first mid bytes → HasGivenAll mid last → HasGivenAll first last
gives_all None mid last bytes c p = tt
gives_all (Some xs) None last bytes c p = absurd c
gives_all (Some xs) (Some ys) last bytes c p = p
