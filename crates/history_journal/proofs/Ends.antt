-- Bytes that are a journal of a legal history have no bad place.
use Rattle.std.proofs.Common.{◌≡◌, ◌≢◌, ℕ, List, [], ◌∷◌, ◌++◌, refl, sym, ◌∙◌, ap, subst, append_assoc}
use Rattle.std.specs.List.{AllByRecursion}
use Rattle.std.proofs.lemmas.List.{append-nil}
use Rattle.task_model.specs.Terms.Text.{Text}
use Rattle.task_model.specs.Terms.Item.{ItemTerm}
use Rattle.task_model.specs.Running.State.{IsLegal}
use Rattle.task_laws.proofs.BeginningLemmas.{begins_legal}
use Rattle.journal_bytes.specs.Records.{record_bytes, open_records, FitsRecord}
use Rattle.journal_bytes.specs.HistoryRecords.{item_record, records_of, IsShortItem, IsJournalOf}
use Rattle.journal_bytes.proofs.Images.{first_of_list, same_record}
use Rattle.history_journal.specs.Restarting.{IsKeepable, IsBadThere, no_record, no_gate, no_opening, not_taken, IsBadJournal}
use Rattle.history_journal.proofs.Fronts.{all_front}

abbrev tail_of : List ℕ → List ℕ
tail_of [] = []
tail_of (x ∷ xs) = xs

-- records that are the first of others
record Split (all front : List Text) (g : ℕ) (a rest : List ℕ) : Type 0 where
  todo : List Text
  is : all ≡ front ++ todo
  fit : AllByRecursion FitsRecord todo
  are : open_records todo ++ g ∷ a ≡ rest

split_records : (all front : List Text) (g : ℕ) (a rest : List ℕ) → AllByRecursion FitsRecord all → AllByRecursion FitsRecord front → g ≢ 1
    → open_records all ++ g ∷ a ≡ open_records front ++ rest → Split all front g a rest
split_records all [] g a rest fa ff shut e = record { todo = all; is = refl; fit = fa; are = e }
split_records [] (x ∷ front) g a rest fa ff shut e = absurd (shut (ap first_of_list e))
split_records (y ∷ all) (x ∷ front) g a rest fa ff shut e =
    let same = same_record y x (open_records all ++ g ∷ a) (open_records front ++ rest) fa.0 ff.0
    (sym (append_assoc (record_bytes y) (open_records all) (g ∷ a)) ∙ (ap tail_of e ∙ append_assoc (record_bytes x) (open_records front) rest)) in
    let m = split_records all front g a rest fa.1 ff.1 shut same.1 in
    record {
      todo = m.todo;
      is = ap (λ (r : Text). r ∷ all) same.0 ∙ ap (λ (l : List Text). x ∷ l) m.is;
      fit = m.fit;
      are = m.are;
    }

-- a history by the records of its first items
record FirstItems (h : List ItemTerm) (rs : List Text) : Type 0 where
  first : List ItemTerm
  rest : List ItemTerm
  is : h ≡ first ++ rest
  are : records_of first ≡ rs

abbrev texts_tail : List Text → List Text
texts_tail [] = []
texts_tail (x ∷ xs) = xs

abbrev text_head : List Text → Text
text_head [] = []
text_head (x ∷ xs) = x

first_items : (h : List ItemTerm) (rs ss : List Text) → records_of h ≡ rs ++ ss → FirstItems h rs
first_items h [] ss e = record { first = []; rest = h; is = refl; are = refl }
first_items [] (r ∷ rs) ss e = absurd cc
first_items (i ∷ h) (r ∷ rs) ss e =
    let m = first_items h rs ss (ap texts_tail e) in
    record {
      first = i ∷ m.first;
      rest = m.rest;
      is = ap (λ (l : List ItemTerm). i ∷ l) m.is;
      are = ap (λ (l : List Text). item_record i ∷ l) m.are ∙ ap (λ (x : Text). x ∷ rs) (ap text_head e);
    }

-- items whose last record is this one are some
some_items : (f : List ItemTerm) (rs : List Text) (r : Text) → records_of f ≡ rs ++ r ∷ [] → f ≢ []
some_items [] [] r e n = absurd cc
some_items [] (x ∷ rs) r e n = absurd cc
some_items (i ∷ f) rs r e n = absurd cc

legal_some : (h : List ItemTerm) → IsLegal h → h ≢ []
legal_some [] legal n = legal
legal_some (i ∷ h) legal n = absurd cc

nothing_recorded : (h : List ItemTerm) → records_of h ≡ [] → h ≡ []
nothing_recorded [] e = refl
nothing_recorded (i ∷ h) e = absurd cc

module _ (h good : List ItemTerm) (keep : IsKeepable h) (todo : List Text) (is : records_of h ≡ records_of good ++ todo) where
  -- the history's own record stands there
  followed : (y : Text) (ys : List Text) → todo ≡ y ∷ ys → ((other : List ItemTerm) → IsKeepable other → records_of other ≡ records_of good ++ y ∷ [] → ⊥) → ⊥
  followed y ys e none =
      let m = first_items h (records_of good ++ y ∷ []) ys
      (is ∙ (ap (λ (l : List Text). records_of good ++ l) e ∙ sym (append_assoc (records_of good) (y ∷ []) ys))) in
      none m.first (
        begins_legal m.first h keep.0 (m.rest, sym m.is) (some_items m.first (records_of good) y m.are),
        all_front IsShortItem m.first m.rest (subst (λ (l : List ItemTerm). AllByRecursion IsShortItem l) m.is keep.1),
      ) m.are

  not_bad : (g : ℕ) (a rest : List ℕ) → AllByRecursion FitsRecord todo → g ≢ 1 → open_records todo ++ g ∷ a ≡ rest → IsBadThere good rest → ⊥
  not_bad g a rest fit shut are bad = go todo refl fit are bad
    where
      go : (t : List Text) → todo ≡ t → AllByRecursion FitsRecord t → open_records t ++ g ∷ a ≡ rest → IsBadThere good rest → ⊥
      go [] e f r (no_record b) = shut (ap first_of_list (r ∙ b.open_gate))
      go [] e f r (no_gate none) = absurd (let q = r ∙ none in cc)
      go [] e f r (no_opening none closed) = legal_some h keep.0 (nothing_recorded h (is ∙ (ap (λ (l : List Text). records_of good ++ l) e
          ∙ (append-nil (records_of good) ∙ ap records_of none))))
      go [] e f r (not_taken s after begins none) = shut (ap first_of_list (r ∙ begins.1))
      go (y ∷ ys) e f r (no_record b) =
          b.none y (open_records ys ++ g ∷ a) (f.0, sym (ap tail_of (r ∙ b.open_gate)) ∙ append_assoc (record_bytes y) (open_records ys) (g ∷ a))
      go (y ∷ ys) e f r (no_gate none) = absurd (let q = r ∙ none in cc)
      go (y ∷ ys) e f r (no_opening none closed) = closed.closed (sym (ap first_of_list (r ∙ closed.are)))
      go (y ∷ ys) e f r (not_taken s after begins none) =
          let same = same_record y s (open_records ys ++ g ∷ a) after f.0 begins.0
          (sym (append_assoc (record_bytes y) (open_records ys) (g ∷ a)) ∙ ap tail_of (r ∙ begins.1)) in
          followed y ys e (λ other k o. none other k (o ∙ ap (λ (x : Text). records_of good ++ x ∷ []) same.0))

pub no_bad : (bytes : List ℕ) (h : List ItemTerm) (place : ℕ) → IsJournalOf bytes h → IsLegal h → IsBadJournal bytes place → ⊥
no_bad bytes h place journal legal bad =
    let m = split_records (records_of h) (records_of bad.good) journal.image.gate journal.image.rest bad.rest journal.image.fit bad.front.fit
    journal.image.closed (sym journal.image.are ∙ bad.front.are) in
    not_bad h bad.good (legal, journal.short) m.todo m.is journal.image.gate journal.image.rest bad.rest m.fit journal.image.closed m.are bad.bad
