-- The replies on a finished link that tells its bytes.
use Rattle.std.proofs.Common.{◌≡◌, ℕ, zero, suc, ◌+◌, ◌-◌, ◌^◌, ◌<◌, ◌≤◌, ◌||◌, Bool, true, false, true≢false, List, [], ◌∷◌, ◌++◌, length, Option, Some, None, refl, ap, sym, subst, ◌∙◌, arith, append_assoc, append-nil, length-append}
use mathlib.Core.List.{IsPrefix}
use Rattle.std.specs.Io.KnownBytes.{Appends, Consumes}
use Rattle.outer_io.specs.Causes.{next_count}
use Rattle.outer_io.specs.Links.{LinkTold, shut_link}
use Rattle.task_model.specs.Terms.Item.{ItemTerm, opened, took}
use Rattle.task_model.specs.Terms.Text.{Text}
use Rattle.task_model.specs.Running.State.{IsLegal, version_of}
use Rattle.http_requests.specs.Requests.{RequestTerm, refused}
use Rattle.http_requests.specs.Streams.{BeginsWith, HasNoRequest, BeginsSome, IsIdle, Requests, AreRequests, no_more, no_whole, last, further, is_last, ends_asked}
use Rattle.session_gate.specs.Connections.{AllGoOn, AreWritten, HasAnswered, HasGivenAll, IsCut, IsCutAtLast, IsEnding, IsLastOf, MayEndLast, read_faults_after, write_faults_after}
use Rattle.session_gate.specs.Notes.{AllSuit, IsJoined, IsRising, NoneIsMemory, is_memory, taken_entries}
use Rattle.session_gate.specs.declared.ending.Ending.{Ending}
use Rattle.session_gate.specs.declared.ending.Ending.TheVariants as ending
use Rattle.session_gate.specs.declared.note.Note.{Note}
use Rattle.session_gate.specs.declared.note_kind.NoteKind.{NoteKind}
use Rattle.session_gate.specs.declared.note_kind.NoteKind.TheVariants as kind
use Rattle.session_gate.proofs.ListLemmas.{suits_later, joined_later, rising_append}
use Rattle.session_gate.proofs.FirstRequests.{first_requests, only_requests}
use Rattle.task_server.specs.Answering.{IsAnswered}
use Rattle.task_server.specs.LinkReplies.{HasReplies}

-- ---- versions
longer : (xs ys : List ItemTerm) → version_of xs ≤ version_of (xs ++ ys)
longer [] ys = omega arith
longer (opened p b ∷ xs) ys = longer xs ys
longer (took e ∷ xs) ys = let ih = longer xs ys in omega arith

higher : (h k : List ItemTerm) → IsPrefix h k → version_of h ≤ version_of k
higher h k p = subst (λ (z : List ItemTerm). version_of h ≤ version_of z) p.1 (longer h p.0)

rising_wide : (low high lower higher : ℕ) (notes : List Note) → lower ≤ low → high ≤ higher → IsRising low notes high → IsRising lower notes higher
rising_wide low high lower higher [] a b p = omega arith
rising_wide low high lower higher (n ∷ ns) a b p = (let q = p.0 in omega arith, rising_wide n.version high n.version higher ns (omega arith) b p.1)

-- ---- a list of requests
at_most : (n : ℕ) {whole rest : Text} {qs : List RequestTerm} → AreRequests n whole qs rest → length qs ≤ n
at_most n (no_more w) = omega arith
at_most n (no_whole m w none) = omega arith
at_most n (last m w q rest b l) = omega arith
at_most n (further m w q after us rest b l a) = let ih = at_most m a in omega arith

-- where the last one of the first ends the list, there are no others
none_behind : (n : ℕ) {whole rest : Text} (rs : List RequestTerm) (r : RequestTerm) (others : List RequestTerm) {qs : List RequestTerm}
    → AreRequests n whole qs rest → qs ≡ (rs ++ r ∷ []) ++ others → is_last r ≡ true → others ≡ []
none_behind n rs r others (no_more w) e l = absurd (omega (arith, ap length e, length-append (rs ++ r ∷ []) others, length-append rs (r ∷ [])))
none_behind n rs r others (no_whole m w none) e l = absurd (omega (arith, ap length e, length-append (rs ++ r ∷ []) others, length-append rs (r ∷ [])))
none_behind n [] r others (last m w q rest b k) e l = sym (cc e)
none_behind n (s ∷ rs) r others (last m w q rest b k) e l = absurd (omega (arith, ap length e, length-append (rs ++ r ∷ []) others, length-append rs (r ∷ [])))
none_behind n [] r others (further m w q after us rest b k a) e l = absurd (true≢false (sym l ∙ sym (ap is_last (heads e)) ∙ k))
  where
    heads : {q : RequestTerm} {us : List RequestTerm} → q ∷ us ≡ r ∷ others → q ≡ r
    heads h = cc h
none_behind n (s ∷ rs) r others (further m w q after us rest b k a) e l = none_behind m rs r others a (cc e) l

-- ---- what a link told
pub record Left (whole bytes : Text) (after : Option Text) : Type 0 where
  pub rest : Text
  pub is : after ≡ Some rest
  pub split : whole ≡ bytes ++ rest

left_of : (before after : Option Text) (whole bytes : Text) → before ≡ Some whole → Consumes before after bytes → Left whole bytes after
left_of before after whole bytes is consumed = at after (subst (λ (b : Option Text). Consumes b after bytes) is consumed)
  where
    at : (after : Option Text) → Consumes (Some whole) after bytes → Left whole bytes after
    at None c = absurd c
    at (Some rest) c = record { rest = rest; is = refl; split = c }

took_all : (before after : Option Text) (taken written : Text) → before ≡ Some [] → after ≡ Some taken → Appends before after written → taken ≡ written
took_all before after taken written from to grown = subst (λ (a : Option Text). Appends (Some []) a written) to (subst (λ (b : Option Text). Appends b after written) from grown)

given_all : (whole rest : Text) (first after : Option Text) → first ≡ Some whole → after ≡ Some rest → HasGivenAll first after → rest ≡ []
given_all whole rest first after is left all = some_same (sym left ∙ subst (λ (f : Option Text). HasGivenAll f after) is all)
  where
    some_same : Some rest ≡ Some [] → rest ≡ []
    some_same e = cc e

-- ---- endings
few : (end : Ending) (count : ℕ) → HasAnswered end count → count ≤ 100
few ending.Ended count h = omega (arith, h)
few ending.Cut count h = omega (arith, h)
few ending.ReadFault count h = omega (arith, h)
few ending.Spent count h = omega (arith, h)
few ending.Parted count h = h
few (ending.Refused s) count h = h
few ending.WriteFault count h = h
few ending.Memory count h = h

risen : (before now : ℕ) → now ≡ next_count before → before ≡ 0 → now ≡ 0 → ⊥
risen before now is from to = omega (arith, is, from, to)

all_written : (end : Ending) (before now : ℕ) (replies written : Text) → AreWritten end replies written → now ≡ write_faults_after end before → before ≡ 0
    → now ≡ 0 → written ≡ replies
all_written ending.WriteFault before now replies written p is from to = absurd (risen before now is from to)
all_written ending.Ended before now replies written p is from to = p
all_written ending.Parted before now replies written p is from to = p
all_written ending.Spent before now replies written p is from to = p
all_written ending.Cut before now replies written p is from to = p
all_written (ending.Refused s) before now replies written p is from to = p
all_written ending.ReadFault before now replies written p is from to = p
all_written ending.Memory before now replies written p is from to = p

no_memory : (before : List Note) (note : Note) (notes : List Note) → notes ≡ before ++ note ∷ [] → note.kind ≡ kind.Memory → NoneIsMemory notes → ⊥
no_memory before note notes e m none = at before (subst NoneIsMemory e none)
  where
    at : (before : List Note) → NoneIsMemory (before ++ note ∷ []) → ⊥
    at [] p = true≢false (sym (ap is_memory m) ∙ p.0)
    at (n ∷ ns) p = at ns p.1

closes_last : (r : RequestTerm) → r.closes ≡ true → is_last r ≡ true
closes_last r e = ap (λ b. b || ends_asked r.asked) e

or_true : (b c : Bool) → c ≡ true → b || c ≡ true
or_true true c e = refl
or_true false c e = e

refused_last : (r : RequestTerm) (status : ℕ) (text : Text) (head_only : Bool) → r.asked ≡ refused status text true head_only → is_last r ≡ true
refused_last r status text head_only e = or_true r.closes (ends_asked r.asked) (ap ends_asked e)

-- Blank lines alone begin with no whole request.
abbrev pub IdleBegins : Type 0
IdleBegins = (bytes : Text) → IsIdle bytes → HasNoRequest bytes × BeginsSome bytes

-- whatever ended the connection, no request is left without its note, unless memory ran out or a call failed
module _ (idle_begun : IdleBegins) {whole : Text} {qs : List RequestTerm} {end : Text} (asked kept left : Text) (rs : List RequestTerm) (others : List RequestTerm) (notes : List Note)
    (requests : Requests whole qs end) (parts : qs ≡ rs ++ others) where
  last_of : (r : RequestTerm) → IsLastOf rs r → is_last r ≡ true → others ≡ []
  last_of r l ends = none_behind 100 l.0 r others requests (parts ∙ ap (λ z. z ++ others) l.1) ends

  none_left : (e : Ending) (first after : Option Text) → IsEnding e rs kept notes first after → HasAnswered e (length rs)
      → (read_before read_now write_before write_now : ℕ) → read_now ≡ read_faults_after e read_before → write_now ≡ write_faults_after e write_before
      → read_before ≡ 0 → write_before ≡ 0
      → (HasNoRequest kept → HasGivenAll first after → AllGoOn rs → length rs < 100 → others ≡ [])
      → NoneIsMemory notes → read_now ≡ 0 → write_now ≡ 0 → others ≡ []
  none_left ending.Ended first after p many rb rn wb wn re we rz wz rest none r0 w0 = rest (idle_begun kept p.2).0 p.3 p.0 many
  none_left ending.Cut first after p many rb rn wb wn re we rz wz rest none r0 w0 = rest p.2 p.4 p.0 many
  none_left ending.Parted first after p many rb rn wb wn re we rz wz rest none r0 w0 = last_of p.0 p.1 (closes_last p.0 p.2)
  none_left (ending.Refused s) first after p many rb rn wb wn re we rz wz rest none r0 w0 = last_of p.0 p.1 (refused_last p.0 s p.2 p.3 p.4)
  none_left ending.Spent first after p many rb rn wb wn re we rz wz rest none r0 w0 = empty others (omega (arith, many, ap length parts, length-append rs others, at_most 100 requests))
    where
      empty : (xs : List RequestTerm) → length xs ≤ 0 → xs ≡ []
      empty [] le = refl
      empty (x ∷ xs) le = absurd (omega arith)
  none_left ending.ReadFault first after p many rb rn wb wn re we rz wz rest none r0 w0 = absurd (risen rb rn re rz r0)
  none_left ending.WriteFault first after p many rb rn wb wn re we rz wz rest none r0 w0 = absurd (risen wb wn we wz w0)
  none_left ending.Memory first after p many rb rn wb wn re we rz wz rest none r0 w0 = absurd (no_memory p.1.0 p.0 notes p.1.1 p.2 none)

self_append : (xs ys : List RequestTerm) → xs ≡ xs ++ ys → ys ≡ []
self_append [] ys e = sym e
self_append (x ∷ xs) ys e = self_append xs ys (cc e)

rising_up : (low high : ℕ) (notes : List Note) → IsRising low notes high → low ≤ high
rising_up low high [] up = up
rising_up low high (n ∷ ns) up = let ih = rising_up n.version high ns up.1 in let le = up.0 in omega arith

rising_front : (notes more : List Note) (low high : ℕ) → IsRising low (notes ++ more) high → IsRising low notes high
rising_front [] more low high up = rising_up low high more up
rising_front (n ∷ ns) more low high up = (up.0, rising_front ns more n.version high up.1)

-- a write failed only where one ended the connection, and then all replies but that of the last note are whole
cut_where_failed : (end : Ending) (before now : ℕ) (rs : List RequestTerm) (notes : List Note) (seat : ℕ) (h k : List ItemTerm) (written : Text)
    → IsLegal h → IsLegal k → IsPrefix h k → (low : ℕ) → IsRising low notes (version_of h) → IsCutAtLast end rs notes seat h written
    → now ≡ write_faults_after end before → before ≡ 0 → 0 < now → IsCut rs notes seat k written
cut_where_failed ending.WriteFault before now rs notes seat h k written legal later on low up p is from some = record {
  first = p.first;
  others = p.others;
  split = p.split;
  before = p.before;
  last = p.last;
  noted = p.noted;
  whole = p.whole;
  joined = joined_later 100 p.first p.before seat low h k p.whole legal later on
      (rising_front p.before (p.last ∷ []) low (version_of h) (subst (λ (ns : List Note). IsRising low ns (version_of h)) p.noted up)) p.joined;
  begins = p.begins;
}
cut_where_failed ending.Ended before now rs notes seat h k written legal later on low up p is from some = absurd (omega (arith, is, from, some))
cut_where_failed ending.Cut before now rs notes seat h k written legal later on low up p is from some = absurd (omega (arith, is, from, some))
cut_where_failed ending.Parted before now rs notes seat h k written legal later on low up p is from some = absurd (omega (arith, is, from, some))
cut_where_failed (ending.Refused status) before now rs notes seat h k written legal later on low up p is from some = absurd (omega (arith, is, from, some))
cut_where_failed ending.Spent before now rs notes seat h k written legal later on low up p is from some = absurd (omega (arith, is, from, some))
cut_where_failed ending.ReadFault before now rs notes seat h k written legal later on low up p is from some = absurd (omega (arith, is, from, some))
cut_where_failed ending.Memory before now rs notes seat h k written legal later on low up p is from some = absurd (omega (arith, is, from, some))

replies_before : IdleBegins → (start history : List ItemTerm) {link : LinkTold} (count : ℕ) → IsLegal history → (a : IsAnswered start history link count)
    → (whole taken : Text) → a.connection.after.whole ≡ Some whole → a.connection.after.taken ≡ Some taken
    → (requests : List RequestTerm) (rest : Text) → Requests whole requests rest → HasReplies history (shut_link a.connection.after) taken requests count
replies_before idle start history count legal a whole taken whole_is taken_is requests rest are =
    let c = a.connection in
    let s = c.served in
    let x = s.exchange in
    let link = c.after in
    let told : c.before.whole ≡ Some whole = sym x.whole ∙ whole_is in
    let first : c.before.left ≡ Some whole = c.fresh.left ∙ told in
    let left = left_of c.before.left link.left whole x.bytes first x.read in
    let all : taken ≡ s.written = took_all c.before.taken link.taken taken s.written (c.fresh.taken whole told) taken_is x.took in
    let bytes : whole ≡ x.asked ++ (s.kept ++ left.rest) =
    left.split ∙ ap (λ z. z ++ left.rest) x.split ∙ append_assoc x.asked s.kept left.rest in
    let front = first_requests x.asked (s.kept ++ left.rest) s.requests bytes x.holds x.ends_last (few c.end (length s.requests) s.answered) are in
    record {
      seat = a.new.seat;
      seated = subst (λ (n : ℕ). (1 ≤ n) × (n ≤ 64)) (sym x.on.seat) c.seated;
      answered = s.requests;
      others = front.0;
      split = front.1;
      notes = c.notes;
      suits = suits_later s.requests c.notes a.new.seat (version_of a.old.seen) a.new.seen history x.on.legal legal a.within x.rising x.suits;
      rising = rising_wide (version_of a.old.seen) (version_of a.new.seen) 0 (version_of history) c.notes (omega arith) (higher a.new.seen history a.within) x.rising;
      counted = subst (λ (n : ℕ). count ≡ length (taken_entries n s.requests c.notes)) (sym x.on.seat) c.counted;
      replies = s.replies;
      joined = joined_later 100 s.requests c.notes a.new.seat (version_of a.old.seen) a.new.seen history s.replies x.on.legal legal a.within x.rising x.joined;
      starts = subst (λ (t : Text). (more : Text) × (s.replies ≡ t ++ more)) (sym all) x.starts;
      written = λ none. all ∙ all_written c.end c.before.write_faults link.write_faults s.replies s.written s.all s.write_faults c.fresh.write_faults none;
      cut = λ some. subst (λ (t : Text). IsCut s.requests c.notes a.new.seat history t) (sym all)
          (cut_where_failed c.end c.before.write_faults link.write_faults s.requests c.notes a.new.seat a.new.seen history s.written x.on.legal legal
          a.within (version_of a.old.seen) x.rising s.cut s.write_faults c.fresh.write_faults some);
      each = none_left idle x.asked s.kept left.rest s.requests front.0 c.notes are front.1 c.end c.before.left link.left s.ending s.answered
          c.before.read_faults link.read_faults c.before.write_faults link.write_faults s.read_faults s.write_faults c.fresh.read_faults c.fresh.write_faults
          (λ none given goes many.
          let nothing : left.rest ≡ [] = given_all whole left.rest c.before.left link.left first left.is given in
          let short : whole ≡ x.asked ++ s.kept = bytes ∙ ap (λ z. x.asked ++ (s.kept ++ z)) nothing ∙ ap (λ z. x.asked ++ z) (append-nil s.kept) in
          let only = only_requests x.asked s.kept s.requests short x.holds goes many none are in
          self_append s.requests front.0 (sym only.0 ∙ front.1));
    }

pub replies_of : IdleBegins → (start history : List ItemTerm) (link : LinkTold) (count : ℕ) → IsLegal history → IsAnswered start history link count
    → (whole taken : Text) → link.whole ≡ Some whole → link.taken ≡ Some taken
    → (requests : List RequestTerm) (rest : Text) → Requests whole requests rest → HasReplies history link taken requests count
replies_of idle start history link count legal a whole taken whole_is taken_is requests rest are =
    let shut = a.connection.shut in
    subst (λ (l : LinkTold). HasReplies history l taken requests count) (sym shut)
    (replies_before idle start history count legal a whole taken (sym (ap (λ (l : LinkTold). l.whole) shut) ∙ whole_is)
    (sym (ap (λ (l : LinkTold). l.taken) shut) ∙ taken_is) requests rest are)
