-- What a session keeps, as the history that it has seen goes on.
use Rattle.std.proofs.Common.{◌≡◌, ◌⊎◌, ℕ, ◌+◌, List, [], ◌∷◌, ◌++◌, length, map, Result, Ok, Err, IfOk, IfSome, ap, sym, ◌∙◌, arith, ⊎_elim, length-append}
use Rattle.std.specs.Result.{result_ok}
use Rattle.std.proofs.lemmas.List.{map-append, length-map}
use mathlib.Core.List.{IsPrefix}
use Rattle.logbook.specs.Pages.{Book}
use Rattle.task_model.specs.Terms.Input.{InputTerm, EntryTerm, entry_term}
use Rattle.task_model.specs.Terms.Item.{ItemTerm, took, item_term, history_term}
use Rattle.task_model.specs.Running.State.{IsLegal, version_of}
use Rattle.task_model.specs.declared.item.Item.{Item}
use Rattle.task_model.specs.declared.input.Entry.{Entry}
use Rattle.session_desk.specs.Desks.{DeskTerm, seat_entry, KeepsEntries, IsTakenBy}
use Rattle.page_board.proofs.FrontLemmas.{prefix_length, prefix_trans}
use Rattle.world_lock.specs.Sessions.{IsAttending}
use Rattle.world_lock.proofs.WithinLemmas.{within_later, within_own}

module _ {mark board : Book} {start : List ItemTerm} {s : DeskTerm} {version parts amount : ℕ}
    (p : IsAttending mark start board s version parts amount) where
  -- it sees a later history
  pub attends_later : {board' : Book} {s' : DeskTerm} {version' : ℕ} → board' ≡ mark → s'.seat ≡ s.seat → s'.own ≡ s.own
      → IsPrefix s.seen s'.seen → IsLegal s'.seen → version' ≡ version_of s'.seen → IsAttending mark start board' s' version' parts amount
  attends_later {s' = s'} marked seat own later legal counted = record {
    seated = rw seat p.seated;
    marked = marked;
    legal = legal;
    begins = prefix_trans start s.seen s'.seen p.begins later;
    counted = counted;
    stands = rw (own, seat) (within_later s.own s.seen s'.seen s.seat later p.stands);
    one_part = p.one_part;
    shared = p.shared ∙ ap length (sym own);
  }

  -- it has acted
  pub attends_own : (input : InputTerm) {board' : Book} {s' : DeskTerm} {version' parts' amount' : ℕ}
      → board' ≡ board → s'.seat ≡ s.seat → s'.seen ≡ s.seen ++ took (seat_entry s.seat input) ∷ [] → IsLegal s'.seen
      → version' ≡ version_of s'.seen → s'.own ≡ s.own ++ seat_entry s.seat input ∷ [] → parts' ≡ parts → amount' ≡ amount + 1
      → IsAttending mark start board' s' version' parts' amount'
  attends_own input {s' = s'} same seat seen legal counted own parts_are amount_is = record {
    seated = rw seat p.seated;
    marked = same ∙ p.marked;
    legal = legal;
    begins = prefix_trans start s.seen s'.seen p.begins (took (seat_entry s.seat input) ∷ [], sym seen);
    counted = counted;
    stands = rw (own, seen, seat) (within_own s.own s.seen (seat_entry s.seat input) p.stands);
    one_part = parts_are ∙ p.one_part;
    shared = omega (arith, amount_is, p.shared, ap length own ∙ length-append s.own (seat_entry s.seat input ∷ []));
  }

-- a beginning of items begins them as terms, too
pub prefix_terms : (xs ys : List Item) → IsPrefix xs ys → IsPrefix (history_term xs) (history_term ys)
prefix_terms xs ys p = (history_term p.0, sym (map-append item_term xs p.0) ∙ ap history_term p.1)

-- a reader that learnt a longer list sees just that list
pub learnt_all : (old told new : List Item) (h : List ItemTerm) (i : ItemTerm) → history_term old ≡ h → history_term told ≡ h ++ i ∷ []
    → IsPrefix told new → (new ≡ old) ⊎ (new ≡ told) → history_term new ≡ h ++ i ∷ []
learnt_all old told new h i was is learnt longer = ⊎_elim
    (λ (e : new ≡ old). (let le = prefix_length told new learnt in
    absurd (omega (
      arith,
      ap length e,
      sym (length-map old item_term) ∙ ap length was,
      sym (length-map told item_term) ∙ ap length is,
      length-append h (i ∷ []),
    ))))
    (λ (e : new ≡ told). ap history_term e ∙ is) longer

-- what keeps the entries twice keeps them
pub keeps_on : (a b c : DeskTerm) (n m : ℕ) → KeepsEntries a b n → KeepsEntries b c m → KeepsEntries a c m
keeps_on a b c n m p q = record {
  on = record {
    seat = q.on.seat ∙ p.on.seat;
    later = prefix_trans a.seen b.seen c.seen p.on.later q.on.later;
    legal = q.on.legal;
    refusals = omega (arith, p.on.refusals, q.on.refusals);
  };
  own = q.own ∙ p.own;
  calls = q.calls;
}

-- what is said of an answer of the board
pub shown_newest : {A E : Type 0} (r : Result A E) (P Q : A → Type 0) → ((x : A) → P x → Q x) → IfOk r P → IfSome (result_ok r) Q
shown_newest (Ok x) P Q f p = f x p
shown_newest (Err e) P Q f p = tt

-- an entry is one more of the own entries
pub own_more : (before now : List Entry) (own : Entry) (old : List EntryTerm) (e : EntryTerm) → map entry_term before ≡ old
    → now ≡ before ++ own ∷ [] → entry_term own ≡ e → map entry_term now ≡ old ++ e ∷ []
own_more before now own old e was more is =
    ap (map entry_term) more ∙ map-append entry_term before (own ∷ []) ∙ ap (λ (es : List EntryTerm). es ++ entry_term own ∷ []) was
    ∙ ap (λ (x : EntryTerm). old ++ x ∷ []) is

-- an input was taken behind a history that goes on from what was seen
pub takes : (old new : DeskTerm) (h : List ItemTerm) (input : InputTerm) (version : ℕ) → IsPrefix old.seen h
    → new.seen ≡ h ++ took (seat_entry old.seat input) ∷ [] → IsLegal new.seen → new.seat ≡ old.seat → new.refusals ≡ old.refusals
    → new.own ≡ old.own ++ seat_entry old.seat input ∷ [] → new.page_at_calls ≡ old.page_at_calls → version ≡ version_of new.seen
    → IsTakenBy old new input version
takes old new h input version later seen legal seat refusals own calls counted = record {
  on = record {
    seat = seat;
    later = prefix_trans old.seen h new.seen later (took (seat_entry old.seat input) ∷ [], sym seen);
    legal = legal;
    refusals = omega (arith, refusals);
  };
  own = own;
  calls = calls;
  ends = (h, seen);
  version = counted;
}
