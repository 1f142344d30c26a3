-- One exchange behind another.
use Rattle.std.proofs.Common.{◌≡◌, ℕ, ◌+◌, ◌-◌, ◌^◌, ◌<◌, ◌≤◌, List, ◌++◌, length, refl, ap, sym, subst, ◌∙◌, arith, append_assoc}
use Rattle.std.proofs.KnownBytes.{Appends-trans, Consumes-trans}
use Rattle.outer_io.specs.Links.{LinkTold}
use Rattle.task_model.specs.Terms.Text.{Text}
use Rattle.task_model.specs.Running.State.{IsLegal, version_of}
use Rattle.http_requests.specs.Requests.{RequestTerm}
use Rattle.session_desk.specs.Desks.{DeskTerm, GoesOn}
use Rattle.session_gate.specs.Notes.{AllSuit, NoneIsMemory, taken_entries, IsJoined, version_requests}
use Rattle.session_gate.specs.Connections.{AllGoOn, Exchange}
use Rattle.session_gate.specs.declared.note.Note.{Note}
use Rattle.session_gate.proofs.ListLemmas.{prefix_refl, prefix_trans, suits_later, joined_later, rising_append, suits_append, taken_append, versions_append, joined_append, holds_append, end_append, memory_append}

pub goes_on_refl : (d : DeskTerm) → IsLegal d.seen → GoesOn d d
goes_on_refl d legal = record { seat = refl; later = prefix_refl d.seen; legal = legal; refusals = omega arith }

pub goes_on_trans : (o m n : DeskTerm) → GoesOn o m → GoesOn m n → GoesOn o n
goes_on_trans o m n p q =
    let low = p.refusals in
    let high = q.refusals in
    record {
      seat = q.seat ∙ p.seat;
      later = prefix_trans o.seen m.seen n.seen p.later q.later;
      legal = q.legal;
      refusals = omega arith;
    }

module _ {left : ℕ} {o m n : DeskTerm} {a b c : LinkTold} {kept mid last : Text} {rs qs : List RequestTerm} {notes more : List Note}
    {replies behind written : Text} (x : Exchange left o m a b kept mid rs notes replies replies)
    (y : Exchange (left - length rs) m n b c mid last qs more behind written) (len : length rs ≡ length notes) (goes : AllGoOn rs) (none : NoneIsMemory notes) where
  both_split : kept ++ (x.bytes ++ y.bytes) ≡ (x.asked ++ y.asked) ++ last
  both_split =
      sym (append_assoc kept x.bytes y.bytes) ∙ ap (λ z. z ++ y.bytes) x.split ∙ append_assoc x.asked mid y.bytes
      ∙ ap (λ z. x.asked ++ z) y.split ∙ sym (append_assoc x.asked y.asked last)

  both_own : n.own ≡ o.own ++ taken_entries o.seat (rs ++ qs) (notes ++ more)
  both_own =
      y.own ∙ ap (λ z. z ++ taken_entries m.seat qs more) x.own
      ∙ append_assoc o.own (taken_entries o.seat rs notes) (taken_entries m.seat qs more)
      ∙ ap (λ (s : ℕ). o.own ++ (taken_entries o.seat rs notes ++ taken_entries s qs more)) x.on.seat
      ∙ ap (λ z. o.own ++ z) (sym (taken_append o.seat rs qs notes more len))

  both_calls : n.refusals < 2 ^ 64 - 1 → n.page_at_calls + o.refusals ≤ o.page_at_calls + n.refusals + version_requests (rs ++ qs)
  both_calls few =
      let grew = y.on.refusals in
      let late = y.calls few in
      let early = x.calls (omega (arith, few, grew)) in
      let all = versions_append rs qs in
      omega (arith, late, early, all)

  both_asks : n.page_at_calls < 2 ^ 64 - 1 → o.page_at_calls + version_requests (rs ++ qs) ≤ n.page_at_calls
  both_asks few =
      let late = y.asks few in
      let early = x.asks (omega (arith, few, late)) in
      let all = versions_append rs qs in
      omega (arith, late, early, all)

  pub exchange_then : Exchange left o n a c kept last (rs ++ qs) (notes ++ more) (replies ++ behind) (replies ++ written)
  exchange_then =
      let suited = suits_later rs notes m.seat (version_of o.seen) m.seen n.seen x.on.legal y.on.legal y.on.later x.rising x.suits in
      let joined =
      joined_later left rs notes m.seat (version_of o.seen) m.seen n.seen replies x.on.legal y.on.legal y.on.later x.rising x.joined in
      record {
        bytes = x.bytes ++ y.bytes;
        read = Consumes-trans a.left b.left c.left x.bytes y.bytes x.read y.read;
        asked = x.asked ++ y.asked;
        split = both_split;
        holds = holds_append x.asked y.asked rs qs x.holds y.holds;
        ends_last = end_append rs qs goes y.ends_last;
        whole = y.whole ∙ x.whole;
        is_shut = y.is_shut ∙ x.is_shut;
        on = goes_on_trans o m n x.on y.on;
        own = both_own;
        suits = suits_append rs qs notes more n.seat n.seen len
            (subst (λ (s : ℕ). AllSuit rs notes s n.seen) (sym y.on.seat) suited) y.suits;
        memory = memory_append notes more none y.memory;
        rising = rising_append (version_of o.seen) (version_of m.seen) (version_of n.seen) notes more x.rising y.rising;
        joined = joined_append left rs qs notes more n.seat n.seen replies behind len
            (subst (λ (s : ℕ). IsJoined left rs notes s n.seen replies) (sym y.on.seat) joined) y.joined;
        starts = (
          y.starts.0,
          ap (λ z. replies ++ z) y.starts.1 ∙ sym (append_assoc replies written y.starts.0),
        );
        took = Appends-trans a.taken b.taken c.taken replies written x.took y.took;
        calls = both_calls;
        asks = both_asks;
      }
