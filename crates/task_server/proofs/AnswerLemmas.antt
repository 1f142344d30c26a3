-- What is answered at a history is answered at each that goes on from it.
use Rattle.std.proofs.Common.{◌≡◌, ℕ, List, [], ◌∷◌, ◌++◌, length, map, Option, None, Some, refl, ap, sym, subst, ◌∙◌, ◌+◌, ◌-◌, arith, append_assoc, append-nil, length-append}
use Rattle.std.proofs.lemmas.List.{map-append}
use mathlib.Core.List.{IsPrefix}
use Rattle.outer_io.specs.Links.{LinkTold, IsFresh, shut_link}
use Rattle.outer_gates.specs.Gates.{Finishes}
use Rattle.task_model.specs.Terms.Item.{ItemTerm, history_term}
use Rattle.task_model.specs.Running.State.{IsSeat}
use Rattle.task_model.specs.declared.item.Item.{Item}
use Rattle.session_desk.specs.Desks.{DeskTerm}
use Rattle.session_gate.specs.Connections.{Served}
use Rattle.session_gate.specs.Notes.{taken_entries}
use Rattle.session_gate.specs.declared.note.Note.{Note}
use Rattle.session_gate.specs.declared.ending.Ending.{Ending}
use Rattle.task_server.specs.Answering.{IsLinkServed, IsAnswered, AreLinksAnswered, FinishedSince}

pub prefix_on : (H J K : List ItemTerm) → IsPrefix H J → IsPrefix J K → IsPrefix H K
prefix_on H J K p q = (p.0 ++ q.0, sym (append_assoc H p.0 q.0) ∙ ap (λ z. z ++ q.0) p.1 ∙ q.1)

-- histories of items that go on are histories of terms that go on
pub terms_on : (xs ys : List Item) → IsPrefix xs ys → IsPrefix (history_term xs) (history_term ys)
terms_on xs ys p = (history_term p.0, sym (map-append _ xs p.0) ∙ ap history_term p.1)

pub answered_on : (start h k : List ItemTerm) (link : LinkTold) (count : ℕ) → IsPrefix h k → IsAnswered start h link count → IsAnswered start k link count
answered_on start h k link count on a = record {
  old = a.old;
  new = a.new;
  connection = a.connection;
  within = prefix_on a.new.seen h k a.within on;
}

are_answered_on : (start h k : List ItemTerm) (links : List LinkTold) (counts : List ℕ) → IsPrefix h k → AreLinksAnswered start h links counts → AreLinksAnswered start k links counts
are_answered_on start h k [] [] on p = tt
are_answered_on start h k [] (n ∷ ns) on p = absurd p
are_answered_on start h k (l ∷ ls) [] on p = absurd p
are_answered_on start h k (l ∷ ls) (n ∷ ns) on p = (answered_on start h k l n on p.0, are_answered_on start h k ls ns on p.1)

pub finished_on : (start h k : List ItemTerm) (entry now : Option (List LinkTold)) (counts : List ℕ) → IsPrefix h k → FinishedSince start h entry now counts
    → FinishedSince start k entry now counts
finished_on start h k entry None counts on p = tt
finished_on start h k None (Some now) counts on p = absurd p
finished_on start h k (Some entry) (Some now) counts on p = (p.0, p.1, are_answered_on start h k p.0 counts on p.2)

are_answered_push : (start h : List ItemTerm) (links : List LinkTold) (counts : List ℕ) (link : LinkTold) (count : ℕ) → AreLinksAnswered start h links counts
    → IsAnswered start h link count → AreLinksAnswered start h (links ++ link ∷ []) (counts ++ count ∷ [])
are_answered_push start h [] [] link count p q = (q, tt)
are_answered_push start h [] (n ∷ ns) link count p q = absurd p
are_answered_push start h (l ∷ ls) [] link count p q = absurd p
are_answered_push start h (l ∷ ls) (n ∷ ns) link count p q = (p.0, are_answered_push start h ls ns link count p.1 q)

-- one more link was finished
pub finished_push : (start h : List ItemTerm) (entry now new : Option (List LinkTold)) (link : LinkTold) (counts : List ℕ) (count : ℕ)
    → FinishedSince start h entry now counts → Finishes now new link → IsAnswered start h link count → FinishedSince start h entry new (counts ++ count ∷ [])
finished_push start h entry now None link counts count p q a = tt
finished_push start h entry None (Some new) link counts count p q a = absurd q
finished_push start h None (Some now) (Some new) link counts count p q a = absurd p
finished_push start h (Some entry) (Some now) (Some new) link counts count p q a =
    (p.0 ++ link ∷ [], q ∙ ap (λ l. l ++ link ∷ []) p.1 ∙ append_assoc entry p.0 (link ∷ []), are_answered_push start h p.0 counts link count p.2 a)

-- so many inputs were taken as the own entries grew
pub served_link : {start : List ItemTerm} {old new : DeskTerm} {before after link : LinkTold} {notes : List Note} {end : Ending}
    → IsFresh before → Served old new before after notes end → link ≡ shut_link after → IsSeat old.seat → IsPrefix start old.seen → (count : ℕ)
    → count + length old.own ≡ length new.own → IsLinkServed start old new link count
served_link {start} {old} {new} {before} {after} {link} {notes} {end} fresh served shut seated opened count grew = record {
  before = before;
  after = after;
  fresh = fresh;
  notes = notes;
  end = end;
  served = served;
  shut = shut;
  seated = seated;
  opened = opened;
  counted = (
      let taken = taken_entries old.seat served.requests notes in
      let all = ap length served.exchange.own ∙ length-append old.own taken in
      omega (arith, all, grew));
}

pub served_grown : {start : List ItemTerm} {old new : DeskTerm} {before after link : LinkTold} {notes : List Note} {end : Ending}
    → IsFresh before → Served old new before after notes end → link ≡ shut_link after → IsSeat old.seat → IsPrefix start old.seen
    → IsLinkServed start old new link (length new.own - length old.own)
served_grown {start} {old} {new} {before} {after} {link} {notes} {end} fresh served shut seated opened =
    let all = ap length served.exchange.own ∙ length-append old.own (taken_entries old.seat served.requests notes) in
    served_link fresh served shut seated opened (length new.own - length old.own) (omega (arith, all))

-- a link that was served at a history that was seen in the end
pub link_answered : {start : List ItemTerm} {old new : DeskTerm} {link told : LinkTold} {count grown : ℕ} (history : List ItemTerm)
    → IsLinkServed start old new link grown → link ≡ told → grown ≡ count → history ≡ new.seen → IsAnswered start history told count
link_answered {start} {old} {new} {link} {told} {count} {grown} history served is same seen = record {
  old = old;
  new = new;
  connection = subst (λ (l : LinkTold). IsLinkServed start old new l count) is
      (subst (λ (n : ℕ). IsLinkServed start old new link n) same served);
  within = ([], append-nil new.seen ∙ sym seen);
}
