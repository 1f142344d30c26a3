-- What the parts of a round make of it.
use Rattle.std.proofs.Common.{◌≡◌, ◌≢◌, ℕ, ◌-◌, ◌||◌, ◌==◌, Bool, true, false, List, [], ◌∷◌, ◌++◌, drop, Option, Some, None, is_some, refl, ap, sym, subst, ◌∙◌, arith, append-nil}
use Rattle.outer_io.specs.Links.{LinkTold}
use Rattle.outer_io.specs.declared.sink.Written.{Written}
use Rattle.outer_io.specs.declared.sink.Written.TheVariants as written
use Rattle.task_model.specs.Terms.Text.{Text}
use Rattle.task_model.specs.Running.State.{IsLegal, version_of}
use Rattle.http_requests.specs.Requests.{RequestTerm, AskedTerm, asks_page, asks_act, refused}
use Rattle.http_requests.specs.Streams.{BeginsWith, is_last, ends_asked}
use Rattle.http_replies.specs.Replies.{ReplyTerm, memory_reply, reply_bytes}
use Rattle.session_gate.specs.DeskAnswers.{IsDeskAnswer, IsReady, as_answered, out_of_memory, note_of, reply_of, memory_note}
use Rattle.session_gate.specs.Connections.{AreWritten, Exchange, IsEnding, read_faults_after, write_faults_after}
use Rattle.session_desk.specs.Desks.{DeskTerm}
use Rattle.session_gate.specs.Notes.{closes_after, is_memory, taken_entry, wants_head}
use Rattle.session_gate.specs.Plans.{closing_status, asked_ending, ending_after}
use Rattle.session_gate.specs.Readings.{Reading}
use Rattle.session_gate.specs.Rounds.{AnswersAtMostOne, IsOneCut, IsRound, IsRoundEnd}
use Rattle.session_gate.specs.Sendings.{Sending}
use Rattle.session_gate.specs.declared.answer.Answer.{Answer}
use Rattle.session_gate.specs.declared.ending.Ending.{Ending}
use Rattle.session_gate.specs.declared.ending.Ending.TheVariants as ending
use Rattle.session_gate.specs.declared.note.Note.{Note}
use Rattle.session_gate.specs.declared.note_kind.NoteKind.{NoteKind}
use Rattle.session_gate.specs.declared.note_kind.NoteKind.TheVariants as kind
use Rattle.session_gate.proofs.ExchangeLemmas.{exchange_then}
use Rattle.session_gate.proofs.PartLemmas.{reading_exchange, memory_exchange, answer_exchange, part_of}
use Rattle.session_gate.proofs.StandingLemmas.{ending_behind}

-- ---- a round that read, and then did something else
module _ {left : ℕ} {old new : DeskTerm} {a b c : LinkTold} {kept mid last : Text} {notes all : List Note} {result : Option Ending}
    (legal : IsLegal old.seen) (r : Reading a b kept mid) (reads : b.read_faults ≡ a.read_faults)
    (t : IsRound left old new b c mid last notes all result) where
  behind_reading : Exchange left old new a c kept last t.requests t.notes t.replies t.written
  behind_reading =
      let same : left ≡ left - 0 = omega arith in
      exchange_then (reading_exchange left old a b kept mid legal r)
      (subst (λ (k : ℕ). Exchange k old new b c mid last t.requests t.notes t.replies t.written) same t.exchange) refl tt tt

  ends_behind : (result : Option Ending) → IsRoundEnd result b c t.requests last t.notes t.replies t.written
      → IsRoundEnd result a c t.requests last t.notes t.replies t.written
  ends_behind None e = record {
    none_ends = e.none_ends;
    one = e.one;
    noted = e.noted;
    no_memory = e.no_memory;
    all = e.all;
    read_faults = e.read_faults ∙ reads;
    write_faults = e.write_faults ∙ r.write_faults;
  }
  ends_behind (Some end) e = record {
    ending = ending_behind end [] t.requests last [] t.notes a.left b.left c.left r.bytes r.consumed tt tt e.ending;
    answered = e.answered;
    all = e.all;
    cut = e.cut;
    read_faults = e.read_faults ∙ ap (read_faults_after end) reads;
    write_faults = e.write_faults ∙ ap (write_faults_after end) r.write_faults;
  }

  pub round_after : IsRound left old new a c kept last notes all result
  round_after = record {
    requests = t.requests;
    notes = t.notes;
    replies = t.replies;
    written = t.written;
    added = t.added;
    exchange = behind_reading;
    end = ends_behind result t.end;
  }

-- a round that read alone
pub round_stops : {left : ℕ} {old : DeskTerm} {a b : LinkTold} {kept last : Text} {notes : List Note} (end : Ending) → IsLegal old.seen
    → Reading a b kept last → IsEnding end [] last [] a.left b.left → AnswersAtMostOne end 0 → AreWritten end [] [] → IsOneCut end []
    → b.read_faults ≡ read_faults_after end a.read_faults → write_faults_after end a.write_faults ≡ a.write_faults
    → IsRound left old old a b kept last notes notes (Some end)
round_stops {left} {old} {a} {b} {kept} {last} {notes} end legal r is one written cut reads writes = record {
  requests = [];
  notes = [];
  replies = [];
  written = [];
  added = sym (append-nil notes);
  exchange = reading_exchange left old a b kept last legal r;
  end = record {
    ending = is;
    answered = one;
    all = written;
    cut = cut;
    read_faults = reads;
    write_faults = r.write_faults ∙ sym writes;
  };
}

-- a round in which memory ran out before a request was whole
pub round_memory : {left : ℕ} {d : DeskTerm} {b c : LinkTold} {kept bytes : Text} {notes all : List Note} {note : Note} → IsLegal d.seen
    → note ≡ memory_note (version_of d.seen) → bytes ≡ reply_bytes memory_reply false true → all ≡ notes ++ note ∷ []
    → Sending b c bytes written.Whole → IsRound left d d b c kept kept notes all (Some ending.Memory)
round_memory {left} {d} {b} {c} {kept} {bytes} {notes} {all} {note} legal n e added s = record {
  requests = [];
  notes = note ∷ [];
  replies = bytes;
  written = bytes;
  added = added;
  exchange = memory_exchange left d b c kept bytes note written.Whole legal n e s;
  end = record {
    ending = (note, ([], refl), ap (λ (z : Note). z.kind) n);
    answered = omega arith;
    all = refl;
    cut = tt;
    read_faults = s.read_faults;
    write_faults = s.write_faults;
  };
}

pub round_memory_cut : {left : ℕ} {d : DeskTerm} {b c : LinkTold} {kept bytes : Text} {notes all : List Note} {note : Note} → IsLegal d.seen
    → note ≡ memory_note (version_of d.seen) → bytes ≡ reply_bytes memory_reply false true → all ≡ notes ++ note ∷ []
    → Sending b c bytes written.Failed → IsRound left d d b c kept kept notes all (Some ending.WriteFault)
round_memory_cut {left} {d} {b} {c} {kept} {bytes} {notes} {all} {note} legal n e added s = record {
  requests = [];
  notes = note ∷ [];
  replies = bytes;
  written = s.wrote.0;
  added = added;
  exchange = memory_exchange left d b c kept bytes note written.Failed legal n e s;
  end = record {
    ending = tt;
    answered = omega arith;
    all = tt;
    cut = (note, refl);
    read_faults = s.read_faults;
    write_faults = s.write_faults;
  };
}

-- ---- a request that is answered
-- the desk's answer, or want of memory in its place
memory_head : (head_only closes : Bool) → reply_bytes memory_reply false closes ≡ reply_bytes memory_reply head_only closes
memory_head true closes = refl
memory_head false closes = refl

untaken : (seat : ℕ) (k : NoteKind) (asked : AskedTerm) → k ≢ kind.Taken → taken_entry seat k asked ≡ []
untaken seat kind.Page asked n = refl
untaken seat kind.Taken asked n = absurd (n refl)
untaken seat kind.NotOffered asked n = refl
untaken seat kind.Over asked n = refl
untaken seat kind.Ahead asked n = refl
untaken seat (kind.Refused status) asked n = refl
untaken seat kind.Memory asked n = refl

memory_answers : (asked : AskedTerm) (old new : DeskTerm) (note : Note) (reply : ReplyTerm) → note.kind ≢ kind.Taken
    → IsDeskAnswer asked old new note reply → IsDeskAnswer asked old new (memory_note note.version) memory_reply
memory_answers asked old new note reply n a = record {
  suits = tt;
  replies = refl;
  version = a.version;
  on = a.on;
  own = a.own ∙ ap (λ z. old.own ++ z) (untaken old.seat note.kind asked n);
  calls = a.calls;
  asks = a.asks;
}

or_true : (b : Bool) → (b || true) ≡ true
or_true true = refl
or_true false = refl

or_swap : (x m l : Bool) → ((x || l) || m) ≡ ((x || m) || l)
or_swap true m l = refl
or_swap false true true = refl
or_swap false true false = refl
or_swap false false true = refl
or_swap false false false = refl

abbrev ReadyReply : AskedTerm → (old new : DeskTerm) → Note → (closes : Bool) → Text → Type 0
ReadyReply asked old new note closes bytes =
    (reply : ReplyTerm) × IsDeskAnswer asked old new note reply
    × (bytes ≡ reply_bytes reply (wants_head asked) (closes || is_memory note.kind))

-- the note of a page is of no input that was taken
kinds_differ : kind.Page ≡ kind.Taken → ⊥
kinds_differ e = cc

page_untaken : {k : NoteKind} → k ≡ kind.Page → k ≢ kind.Taken
page_untaken is taken = kinds_differ (sym is ∙ taken)

ready_reply : (asked : AskedTerm) (old new : DeskTerm) (a : Answer) (closes : Bool) (note : Note) (bytes : Text)
    → IsDeskAnswer asked old new (note_of a) (reply_of a) → IsReady a (wants_head asked) closes note bytes
    → ReadyReply asked old new note closes bytes
ready_reply asked old new a closes note bytes p (as_answered n e) =
    (reply_of a, subst (λ (z : Note). IsDeskAnswer asked old new z (reply_of a)) (sym n) p, e)
ready_reply asked old new a closes note bytes p (out_of_memory k n e) = (
  memory_reply,
  subst (λ (z : Note). IsDeskAnswer asked old new z memory_reply) (sym n) (memory_answers asked old new (note_of a) (reply_of a) (page_untaken k) p),
  e ∙ memory_head (wants_head asked) true
      ∙ ap (λ (z : Bool). reply_bytes memory_reply (wants_head asked) z)
      (sym (or_true closes) ∙ ap (λ (z : Note). closes || is_memory z.kind) (sym n)),
)

closing_ends : (asked : AskedTerm) → is_some (closing_status asked) ≡ ends_asked asked
closing_ends (asks_page face least head_only) = refl
closing_ends (asks_act i) = refl
closing_ends (refused status text true head_only) = refl
closing_ends (refused status text false head_only) = refl

-- how the connection goes on after a reply that was written whole
module _ (b c : LinkTold) (rest : Text) (note : Note) (bytes : Text) (reads : c.read_faults ≡ b.read_faults)
    (writes : c.write_faults ≡ b.write_faults) where
  parts : is_memory note.kind ≡ false → (r : RequestTerm) → r.closes ≡ true → ends_asked r.asked ≡ false
      → IsRoundEnd (Some ending.Parted) b c (r ∷ []) rest (note ∷ []) bytes bytes
  parts m r p q = record {
    ending = (r, ([], refl), p, q, (m, tt));
    answered = omega arith;
    all = refl;
    cut = tt;
    read_faults = reads;
    write_faults = writes;
  }

  goes : is_memory note.kind ≡ false → (r : RequestTerm) → is_last r ≡ false → IsRoundEnd None b c (r ∷ []) rest (note ∷ []) bytes bytes
  goes m r p = record {
    none_ends = (p, tt);
    one = refl;
    noted = refl;
    no_memory = (m, tt);
    all = refl;
    read_faults = reads;
    write_faults = writes;
  }

  asked_leads : is_memory note.kind ≡ false → (asked : AskedTerm) (closes : Bool) (size : ℕ)
      → IsRoundEnd (asked_ending (closing_status asked) closes) b c (record { asked = asked; closes = closes; length = size } ∷ []) rest
      (note ∷ []) bytes bytes
  asked_leads m (asks_page face least head_only) true size = parts m _ refl refl
  asked_leads m (asks_page face least head_only) false size = goes m _ refl
  asked_leads m (asks_act i) true size = parts m _ refl refl
  asked_leads m (asks_act i) false size = goes m _ refl
  asked_leads m (refused status text true head_only) closes size = record {
    ending = (record { asked = refused status text true head_only; closes = closes; length = size }, ([], refl), text, head_only, refl, (m, tt));
    answered = omega arith;
    all = refl;
    cut = tt;
    read_faults = reads;
    write_faults = writes;
  }
  asked_leads m (refused status text false head_only) true size = parts m _ refl refl
  asked_leads m (refused status text false head_only) false size = goes m _ refl

  remembers : (r : RequestTerm) → note.kind ≡ kind.Memory → IsRoundEnd (Some ending.Memory) b c (r ∷ []) rest (note ∷ []) bytes bytes
  remembers r m = record {
    ending = (note, ([], refl), m);
    answered = omega arith;
    all = refl;
    cut = tt;
    read_faults = reads;
    write_faults = writes;
  }

  pub kind_leads : (k : NoteKind) (r : RequestTerm) → note.kind ≡ k
      → IsRoundEnd (ending_after (closing_status r.asked) k r.closes) b c (r ∷ []) rest (note ∷ [])
      bytes bytes
  kind_leads kind.Page r e = asked_leads (ap is_memory e) r.asked r.closes r.length
  kind_leads kind.Taken r e = asked_leads (ap is_memory e) r.asked r.closes r.length
  kind_leads kind.NotOffered r e = asked_leads (ap is_memory e) r.asked r.closes r.length
  kind_leads kind.Over r e = asked_leads (ap is_memory e) r.asked r.closes r.length
  kind_leads kind.Ahead r e = asked_leads (ap is_memory e) r.asked r.closes r.length
  kind_leads (kind.Refused status) r e = asked_leads (ap is_memory e) r.asked r.closes r.length
  kind_leads kind.Memory r e = remembers r e

closes_so : (left : ℕ) (r : RequestTerm) (k : NoteKind) (closes : Bool)
    → closes ≡ (r.closes || is_some (closing_status r.asked) || (left == 1)) → (closes || is_memory k) ≡ closes_after left r k
closes_so left r k closes e =
    ap (λ (z : Bool). z || is_memory k) e
    ∙ ap (λ (z : Bool). (r.closes || z || (left == 1)) || is_memory k) (closing_ends r.asked)
    ∙ or_swap (r.closes || ends_asked r.asked) (is_memory k) (left == 1)

-- what was planned for a request
pub record IsPlanned (r : RequestTerm) (left : ℕ) (head_only : Bool) (closing : Option ℕ) (asks closes : Bool) : Type 0 where
  pub head : head_only ≡ wants_head r.asked
  pub status : closing ≡ closing_status r.asked
  pub asked : asks ≡ r.closes
  pub last : closes ≡ (asks || is_some closing || (left == 1))

planned_closes : {r : RequestTerm} {left : ℕ} {head_only : Bool} {closing : Option ℕ} {asks closes : Bool}
    → IsPlanned r left head_only closing asks closes → closes ≡ (r.closes || is_some (closing_status r.asked) || (left == 1))
planned_closes {r} {left} {head_only} {closing} {asks} {closes} p =
    p.last ∙ ap (λ (z : Bool). z || is_some closing || (left == 1)) p.asked
    ∙ ap (λ (z : Option ℕ). r.closes || is_some z || (left == 1)) p.status

request_exchange : {left : ℕ} {old new : DeskTerm} {b c : LinkTold} {kept last ready_text bytes : Text} {note : Note} {r : RequestTerm}
    {a : Answer} {head_only asks closes : Bool} {closing : Option ℕ} {w : Written} → BeginsWith kept r (drop r.length kept)
    → last ≡ drop r.length kept → IsDeskAnswer r.asked old new (note_of a) (reply_of a) → IsReady a head_only closes note ready_text
    → bytes ≡ ready_text → IsPlanned r left head_only closing asks closes → (sent : Sending b c bytes w)
    → Exchange left old new b c kept last (r ∷ []) (note ∷ []) bytes (part_of b c bytes w sent)
request_exchange {left} {old} {new} {b} {c} {kept} {last} {ready_text} {bytes} {note} {r} {a} {head_only} {asks} {closes} {closing} {w}
    begins advanced answer ready same plan sent =
    let here : IsReady a (wants_head r.asked) closes note bytes =
    subst (λ (h : Bool). IsReady a h closes note bytes) plan.head (subst (IsReady a head_only closes note) (sym same) ready) in
    let reply = ready_reply r.asked old new a closes note bytes answer here in
    answer_exchange left old new b c kept begins.front last bytes r note reply.0 w
    (begins.split ∙ ap (λ z. begins.front ++ z) (sym advanced)) begins.is reply.1
    (reply.2 ∙ ap (reply_bytes reply.0 (wants_head r.asked)) (closes_so left r note.kind closes (planned_closes plan))) sent

pub round_answers : {left : ℕ} {old new : DeskTerm} {b c : LinkTold} {kept last ready_text bytes : Text} {notes all : List Note}
    {note : Note} {r : RequestTerm} {a : Answer} {head_only asks closes : Bool} {closing : Option ℕ} {result : Option Ending}
    → BeginsWith kept r (drop r.length kept) → last ≡ drop r.length kept → IsDeskAnswer r.asked old new (note_of a) (reply_of a)
    → IsReady a head_only closes note ready_text → bytes ≡ ready_text → IsPlanned r left head_only closing asks closes
    → all ≡ notes ++ note ∷ [] → Sending b c bytes written.Whole → result ≡ ending_after closing note.kind asks
    → IsRound left old new b c kept last notes all result
round_answers {b = b} {c = c} {last = last} {bytes = bytes} {note = note} {r = r} {asks = asks} {closing = closing} {result = result} begins
    advanced answer ready same plan added sent end =
    let is : result ≡ ending_after (closing_status r.asked) note.kind r.closes =
    end ∙ ap (λ (z : Option ℕ). ending_after z note.kind asks) plan.status
    ∙ ap (ending_after (closing_status r.asked) note.kind) plan.asked in
    record {
      requests = r ∷ [];
      notes = note ∷ [];
      replies = bytes;
      written = bytes;
      added = added;
      exchange = request_exchange begins advanced answer ready same plan sent;
      end = subst (λ (z : Option Ending). IsRoundEnd z b c (r ∷ []) last (note ∷ []) bytes bytes) (sym is)
          (kind_leads b c last note bytes sent.read_faults sent.write_faults note.kind r refl);
    }

pub round_cut : {left : ℕ} {old new : DeskTerm} {b c : LinkTold} {kept last ready_text bytes : Text} {notes all : List Note} {note : Note}
    {r : RequestTerm} {a : Answer} {head_only asks closes : Bool} {closing : Option ℕ} → BeginsWith kept r (drop r.length kept)
    → last ≡ drop r.length kept → IsDeskAnswer r.asked old new (note_of a) (reply_of a) → IsReady a head_only closes note ready_text
    → bytes ≡ ready_text → IsPlanned r left head_only closing asks closes → all ≡ notes ++ note ∷ [] → Sending b c bytes written.Failed
    → IsRound left old new b c kept last notes all (Some ending.WriteFault)
round_cut {bytes = bytes} {note = note} {r = r} begins advanced answer ready same plan added sent = record {
  requests = r ∷ [];
  notes = note ∷ [];
  replies = bytes;
  written = sent.wrote.0;
  added = added;
  exchange = request_exchange begins advanced answer ready same plan sent;
  end = record {
    ending = tt;
    answered = omega arith;
    all = tt;
    cut = (note, refl);
    read_faults = sent.read_faults;
    write_faults = sent.write_faults;
  };
}
