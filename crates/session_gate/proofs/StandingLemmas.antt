-- Where a connection stands between two requests, and where it ends.
use Rattle.std.proofs.Common.{◌≡◌, ℕ, ◌+◌, ◌-◌, ◌<◌, List, [], ◌∷◌, ◌++◌, length, Option, refl, ap, sym, subst, ◌∙◌, arith, append_assoc, append-nil, length-append}
use Rattle.std.specs.Io.KnownBytes.{Consumes}
use Rattle.std.proofs.KnownBytes.{Appends-nil, Consumes-nil}
use Rattle.outer_io.specs.Links.{LinkTold}
use Rattle.task_model.specs.Terms.Text.{Text}
use Rattle.task_model.specs.Running.State.{IsLegal, version_of}
use Rattle.http_requests.specs.Requests.{RequestTerm}
use Rattle.session_desk.specs.Desks.{DeskTerm}
use Rattle.session_gate.specs.Connections.{AllGoOn, AreWritten, Exchange, HasAnswered, IsCutAtLast, IsEnding, IsLastOf, Served, read_faults_after, write_faults_after}
use Rattle.session_gate.specs.Notes.{IsJoined, NoneIsMemory}
use Rattle.session_gate.specs.Rounds.{AnswersAtMostOne, EndsAfter, GoesOnAfter, IsOneCut, IsRound}
use Rattle.session_gate.specs.declared.note.Note.{Note}
use Rattle.session_gate.specs.declared.ending.Ending.{Ending}
use Rattle.session_gate.specs.declared.ending.Ending.TheVariants as ending
use Rattle.session_gate.proofs.ListLemmas.{gives_all, joined_later, none_append, open_append}
use Rattle.session_gate.proofs.ExchangeLemmas.{exchange_then, goes_on_refl}

-- So many requests were answered, all replies were written, and the connection goes on.
pub record Stands (old now : DeskTerm) (before after : LinkTold) (kept : Text) (notes : List Note) (round : ℕ) : Type 0 where
  pub requests : List RequestTerm
  pub replies : Text
  pub exchange : Exchange 100 old now before after [] kept requests notes replies replies
  pub none_ends : AllGoOn requests
  pub count : length requests ≡ round
  pub noted : length notes ≡ round
  pub no_memory : NoneIsMemory notes
  pub read_faults : after.read_faults ≡ before.read_faults
  pub write_faults : after.write_faults ≡ before.write_faults

stands_empty : (d : DeskTerm) (link : LinkTold) → IsLegal d.seen → Stands d d link link [] [] 0
stands_empty d link legal = record {
  requests = [];
  replies = [];
  exchange = record {
    bytes = [];
    read = Consumes-nil link.left;
    asked = [];
    split = refl;
    holds = refl;
    ends_last = tt;
    whole = refl;
    is_shut = refl;
    on = goes_on_refl d legal;
    own = sym (append-nil d.own);
    suits = tt;
    memory = tt;
    rising = omega arith;
    joined = refl;
    starts = ([], refl);
    took = Appends-nil link.taken;
    calls = λ few. omega arith;
    asks = λ few. omega arith;
  };
  none_ends = tt;
  count = refl;
  noted = refl;
  no_memory = tt;
  read_faults = refl;
  write_faults = refl;
}

pub stands_first : (d : DeskTerm) (link : LinkTold) (kept : Text) (notes : List Note) → IsLegal d.seen → kept ≡ [] → notes ≡ []
    → Stands d d link link kept notes 0
stands_first d link kept notes legal k n =
    subst (λ (z : Text). Stands d d link link z notes 0) (sym k)
    (subst (λ (z : List Note). Stands d d link link [] z 0) (sym n) (stands_empty d link legal))

-- ---- endings behind requests that were answered
last_behind : {A : Type 0} (before items : List A) (item : A) → IsLastOf items item → IsLastOf (before ++ items) item
last_behind before items item p =
    (before ++ p.0, ap (λ z. before ++ z) p.1 ∙ sym (append_assoc before p.0 (item ∷ [])))

pub ending_behind : (end : Ending) (rs qs : List RequestTerm) (kept : Text) (notes more : List Note) (first mid last : Option Text)
    (bytes : Text) → Consumes first mid bytes → AllGoOn rs → NoneIsMemory notes → IsEnding end qs kept more mid last
    → IsEnding end (rs ++ qs) kept (notes ++ more) first last
ending_behind ending.Ended rs qs kept notes more first mid last bytes read goes none p =
    (open_append rs qs goes p.0, none_append notes more none p.1, p.2, gives_all first mid last bytes read p.3)
ending_behind ending.Cut rs qs kept notes more first mid last bytes read goes none p =
    (open_append rs qs goes p.0, none_append notes more none p.1, p.2, p.3, gives_all first mid last bytes read p.4)
ending_behind ending.Parted rs qs kept notes more first mid last bytes read goes none p =
    (p.0, last_behind rs qs p.0 p.1, p.2, p.3, none_append notes more none p.4)
ending_behind (ending.Refused status) rs qs kept notes more first mid last bytes read goes none p =
    (p.0, last_behind rs qs p.0 p.1, p.2, p.3, p.4, none_append notes more none p.5)
ending_behind ending.Spent rs qs kept notes more first mid last bytes read goes none p =
    (open_append rs qs goes p.0, none_append notes more none p.1)
ending_behind ending.ReadFault rs qs kept notes more first mid last bytes read goes none p =
    (open_append rs qs goes p.0, none_append notes more none p.1, p.2)
ending_behind ending.WriteFault rs qs kept notes more first mid last bytes read goes none p = tt
ending_behind ending.Memory rs qs kept notes more first mid last bytes read goes none p = (p.0, last_behind notes more p.0 p.1, p.2)

answered_behind : (end : Ending) (round some all : ℕ) → round < 100 → all ≡ round + some → AnswersAtMostOne end some → HasAnswered end all
answered_behind ending.Ended round some all less sum p = omega arith
answered_behind ending.Cut round some all less sum p = omega arith
answered_behind ending.Parted round some all less sum p = omega arith
answered_behind (ending.Refused status) round some all less sum p = omega arith
answered_behind ending.Spent round some all less sum p = absurd p
answered_behind ending.ReadFault round some all less sum p = omega arith
answered_behind ending.WriteFault round some all less sum p = omega arith
answered_behind ending.Memory round some all less sum p = omega arith

written_behind : (end : Ending) (front replies written : Text) → AreWritten end replies written
    → AreWritten end (front ++ replies) (front ++ written)
written_behind ending.Ended front replies written p = ap (λ z. front ++ z) p
written_behind ending.Cut front replies written p = ap (λ z. front ++ z) p
written_behind ending.Parted front replies written p = ap (λ z. front ++ z) p
written_behind (ending.Refused status) front replies written p = ap (λ z. front ++ z) p
written_behind ending.Spent front replies written p = ap (λ z. front ++ z) p
written_behind ending.ReadFault front replies written p = ap (λ z. front ++ z) p
written_behind ending.WriteFault front replies written p = tt
written_behind ending.Memory front replies written p = ap (λ z. front ++ z) p

-- ---- one round more
module _ {old now next : DeskTerm} {before mid after : LinkTold} {kept last : Text} {notes all : List Note} {round : ℕ}
    {result : Option Ending} (s : Stands old now before mid kept notes round) (less : round < 100)
    (t : IsRound (100 - round) now next mid after kept last notes all result)
  where
    same_length : length s.requests ≡ length notes
    same_length = s.count ∙ sym s.noted

    behind : Exchange (100 - length s.requests) now next mid after kept last t.requests t.notes t.replies t.written
    behind = subst
        (λ (k : ℕ). Exchange (100 - k) now next mid after kept last t.requests t.notes t.replies t.written) (sym s.count) t.exchange

    both : Exchange 100 old next before after [] last (s.requests ++ t.requests) all (s.replies ++ t.replies) (s.replies ++ t.written)
    both = subst
        (λ (ns : List Note). Exchange 100 old next before after [] last (s.requests ++ t.requests) ns (s.replies ++ t.replies)
        (s.replies ++ t.written))
        (sym t.added) (exchange_then s.exchange behind same_length s.none_ends s.no_memory)

    pub stands_on : GoesOnAfter mid after t.requests t.notes t.replies t.written → Stands old next before after last all (round + 1)
    stands_on g = record {
      requests = s.requests ++ t.requests;
      replies = s.replies ++ t.replies;
      exchange = subst
          (λ (w : Text). Exchange 100 old next before after [] last (s.requests ++ t.requests) all (s.replies ++ t.replies)
          (s.replies ++ w))
          g.all both;
      none_ends = open_append s.requests t.requests s.none_ends g.none_ends;
      count = omega (arith, length-append s.requests t.requests, s.count, g.one);
      noted = omega (arith, ap length t.added, length-append notes t.notes, s.noted, g.noted);
      no_memory = subst NoneIsMemory (sym t.added) (none_append notes t.notes s.no_memory g.no_memory);
      read_faults = g.read_faults ∙ s.read_faults;
      write_faults = g.write_faults ∙ s.write_faults;
    }

    -- the replies to the requests before the round were written whole
    cut_at_last : (end : Ending) → IsOneCut end t.notes
        → IsCutAtLast end (s.requests ++ t.requests) all next.seat next.seen (s.replies ++ t.written)
    cut_at_last ending.WriteFault one = record {
      first = s.requests;
      others = t.requests;
      split = refl;
      before = notes;
      last = one.0;
      noted = t.added ∙ ap (λ z. notes ++ z) one.1;
      whole = s.replies;
      joined = subst (λ (seat : ℕ). IsJoined 100 s.requests notes seat next.seen s.replies) (sym t.exchange.on.seat)
          (joined_later 100 s.requests notes now.seat (version_of old.seen) now.seen next.seen s.replies s.exchange.on.legal
          t.exchange.on.legal t.exchange.on.later s.exchange.rising s.exchange.joined);
      begins = (t.written, refl);
    }
    cut_at_last ending.Ended one = tt
    cut_at_last ending.Cut one = tt
    cut_at_last ending.Parted one = tt
    cut_at_last (ending.Refused status) one = tt
    cut_at_last ending.Spent one = tt
    cut_at_last ending.ReadFault one = tt
    cut_at_last ending.Memory one = tt

    pub served_by : (end : Ending) → EndsAfter end mid after t.requests last t.notes t.replies t.written
        → Served old next before after all end
    served_by end e = record {
      requests = s.requests ++ t.requests;
      kept = last;
      replies = s.replies ++ t.replies;
      written = s.replies ++ t.written;
      exchange = both;
      ending = subst (λ (ns : List Note). IsEnding end (s.requests ++ t.requests) last ns before.left after.left) (sym t.added)
          (ending_behind end s.requests t.requests last notes t.notes before.left mid.left after.left s.exchange.bytes s.exchange.read
          s.none_ends s.no_memory e.ending);
      answered = answered_behind end round (length t.requests) (length (s.requests ++ t.requests)) less
          (omega (arith, length-append s.requests t.requests, s.count)) e.answered;
      all = written_behind end s.replies t.replies t.written e.all;
      cut = cut_at_last end e.cut;
      read_faults = e.read_faults ∙ ap (read_faults_after end) s.read_faults;
      write_faults = e.write_faults ∙ ap (write_faults_after end) s.write_faults;
    }

pub served_spent : (old now : DeskTerm) (before after : LinkTold) (kept : Text) (notes : List Note) (round : ℕ)
    → Stands old now before after kept notes round → round ≡ 100 → Served old now before after notes ending.Spent
served_spent old now before after kept notes round s full = record {
  requests = s.requests;
  kept = kept;
  replies = s.replies;
  written = s.replies;
  exchange = s.exchange;
  ending = (s.none_ends, s.no_memory);
  answered = s.count ∙ full;
  all = refl;
  cut = tt;
  read_faults = s.read_faults;
  write_faults = s.write_faults;
}
