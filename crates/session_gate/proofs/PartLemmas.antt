-- The parts of a round as exchanges.
use Rattle.std.proofs.Common.{◌≡◌, ℕ, ◌≤◌, true, false, List, [], ◌∷◌, ◌++◌, Option, refl, ap, sym, subst, ◌∙◌, arith, append-nil}
use Rattle.std.specs.Io.KnownBytes.{Appends, Consumes}
use Rattle.std.proofs.KnownBytes.{Appends-nil, Consumes-nil}
use Rattle.outer_io.specs.Links.{LinkTold}
use Rattle.outer_io.specs.Sink.{IsStart}
use Rattle.outer_io.specs.declared.sink.Written.{Written}
use Rattle.outer_io.specs.declared.sink.Written.TheVariants as written
use Rattle.task_model.specs.Terms.Text.{Text}
use Rattle.task_model.specs.Terms.Item.{ItemTerm}
use Rattle.task_model.specs.Running.State.{IsLegal, history_prefix, version_of}
use Rattle.task_laws.proofs.HistoryLemmas.{prefix_whole}
use Rattle.task_laws.proofs.BeginningLemmas.{version_later}
use Rattle.http_requests.specs.Requests.{RequestTerm, IsRequest}
use Rattle.http_replies.specs.Replies.{ReplyTerm, memory_reply, reply_bytes}
use Rattle.session_desk.specs.Desks.{DeskTerm}
use Rattle.session_gate.specs.Notes.{SuitsAt, IsReplyAt, taken_entry, closes_after, wants_head}
use Rattle.session_gate.specs.DeskAnswers.{IsDeskAnswer, memory_note}
use Rattle.session_gate.specs.Connections.{Exchange}
use Rattle.session_gate.specs.Readings.{Reading}
use Rattle.session_gate.specs.Sendings.{Sending}
use Rattle.session_gate.specs.declared.note.Note.{Note}
use Rattle.session_gate.proofs.ExchangeLemmas.{goes_on_refl}

appends_same : (a b : Option Text) → b ≡ a → Appends a b []
appends_same a b e = subst (λ (z : Option Text). Appends a z []) (sym e) (Appends-nil a)

consumes_same : (a b : Option Text) → b ≡ a → Consumes a b []
consumes_same a b e = subst (λ (z : Option Text). Consumes a z []) (sym e) (Consumes-nil a)

-- reading alone
pub reading_exchange : (left : ℕ) (d : DeskTerm) (a b : LinkTold) (kept now : Text) → IsLegal d.seen → Reading a b kept now
    → Exchange left d d a b kept now [] [] [] []
reading_exchange left d a b kept now legal r = record {
  bytes = r.bytes;
  read = r.consumed;
  asked = [];
  split = sym r.kept;
  holds = refl;
  ends_last = tt;
  whole = r.whole;
  is_shut = r.is_shut;
  on = goes_on_refl d legal;
  own = sym (append-nil d.own);
  suits = tt;
  memory = tt;
  rising = omega arith;
  joined = refl;
  starts = ([], refl);
  took = appends_same a.taken b.taken r.taken;
  calls = λ few. omega arith;
  asks = λ few. omega arith;
}

-- what was written of a reply
abbrev pub part_of : (b c : LinkTold) (bytes : Text) (w : Written) → Sending b c bytes w → Text
part_of b c bytes written.Whole s = bytes
part_of b c bytes written.Failed s = s.wrote.0

pub part_starts : (b c : LinkTold) (bytes : Text) (w : Written) (s : Sending b c bytes w) → IsStart (part_of b c bytes w s) bytes
part_starts b c bytes written.Whole s = ([], sym (append-nil bytes))
part_starts b c bytes written.Failed s = s.wrote.1

pub part_took : (b c : LinkTold) (bytes : Text) (w : Written) (s : Sending b c bytes w) → Appends b.taken c.taken (part_of b c bytes w s)
part_took b c bytes written.Whole s = s.wrote
part_took b c bytes written.Failed s = s.wrote.2

-- a reply written for want of memory, with no request
pub memory_exchange : (left : ℕ) (d : DeskTerm) (b c : LinkTold) (kept bytes : Text) (note : Note) (w : Written) → IsLegal d.seen
    → note ≡ memory_note (version_of d.seen) → bytes ≡ reply_bytes memory_reply false true → (s : Sending b c bytes w)
    → Exchange left d d b c kept kept [] (note ∷ []) bytes (part_of b c bytes w s)
memory_exchange left d b c kept bytes note w legal n e s = record {
  bytes = [];
  read = consumes_same b.left c.left s.left;
  asked = [];
  split = append-nil kept;
  holds = refl;
  ends_last = tt;
  whole = s.whole;
  is_shut = s.is_shut;
  on = goes_on_refl d legal;
  own = sym (append-nil d.own);
  suits = (ap (λ (z : Note). z.kind) n, refl);
  memory = tt;
  rising = (omega (arith, ap (λ (z : Note). z.version) n), omega (arith, ap (λ (z : Note). z.version) n));
  joined = ((ap (λ (z : Note). z.kind) n, refl), e);
  starts = part_starts b c bytes w s;
  took = part_took b c bytes w s;
  calls = λ few. omega arith;
  asks = λ few. omega arith;
}

-- a request that is answered
pub answer_exchange : (left : ℕ) (old new : DeskTerm) (b c : LinkTold) (kept front rest bytes : Text) (r : RequestTerm) (note : Note)
    (reply : ReplyTerm) (w : Written) → kept ≡ front ++ rest → IsRequest front r → IsDeskAnswer r.asked old new note reply
    → bytes ≡ reply_bytes reply (wants_head r.asked) (closes_after left r note.kind) → (s : Sending b c bytes w)
    → Exchange left old new b c kept rest (r ∷ []) (note ∷ []) bytes (part_of b c bytes w s)
answer_exchange left old new b c kept front rest bytes r note reply w split is a e s =
    let here : history_prefix new.seen note.version ≡ new.seen = ap (history_prefix new.seen) a.version ∙ prefix_whole new.seen in
    let grew : version_of old.seen ≤ version_of new.seen = version_later old.seen new.seen a.on.later in
    let version = a.version in
    record {
      bytes = [];
      read = consumes_same b.left c.left s.left;
      asked = front;
      split = append-nil kept ∙ split;
      holds = (front, [], sym (append-nil front), is, refl);
      ends_last = tt;
      whole = s.whole;
      is_shut = s.is_shut;
      on = a.on;
      own = a.own ∙ ap (λ z. old.own ++ z) (sym (append-nil (taken_entry old.seat note.kind r.asked)));
      suits = (subst (SuitsAt note.kind r.asked note.version new.seat) (sym here) a.suits, tt);
      memory = tt;
      rising = (omega (arith, grew, version), omega (arith, version));
      joined = (
        reply,
        [],
        subst (λ (z : List ItemTerm). IsReplyAt note.kind r.asked note.version new.seat z reply) (sym here) a.replies,
        refl,
        e ∙ sym (append-nil (reply_bytes reply (wants_head r.asked) (closes_after left r note.kind))),
      );
      starts = part_starts b c bytes w s;
      took = part_took b c bytes w s;
      calls = λ few. let h = a.calls few in omega (arith, h);
      asks = λ few. let h = a.asks few in omega (arith, h);
    }
