-- What the three parts of an event make of a journal.
use Rattle.std.proofs.Common.{◌≡◌, inl, inr, ⊎_elim, ℕ, Bool, true, false, IsTrue, ◌+◌, ◌<◌, ◌≤◌, List, [], ◌∷◌, ◌++◌, length, Option, None, Ok, Err, refl, sym, ◌∙◌, ap, subst, arith, length-append}
use Rattle.std.specs.List.{AllByRecursion}
use Rattle.task_model.specs.Terms.Input.{EntryTerm}
use Rattle.task_model.specs.Terms.Item.{ItemTerm, took}
use Rattle.task_model.specs.Terms.Tree.{State}
use Rattle.task_model.specs.Running.Outcome.{IsOutcome, not_offered, over_budget}
use Rattle.task_model.specs.declared.stops.ActStop.{ActStop}
use Rattle.task_model.specs.declared.stops.ActStop.TheVariants as acts
use Rattle.outer_disks.specs.Disks.{DiskTold, IsHonest, KeepsTime, LeavesOnly}
use Rattle.outer_disks.specs.declared.disk.DiskDone.{DiskDone}
use Rattle.outer_disks.specs.declared.disk.DiskDone.TheVariants as done
use Rattle.input_lines.specs.EntryText.{entry_line}
use Rattle.journal_bytes.specs.Records.{record_bytes, open_records, IsImageOf}
use Rattle.journal_bytes.specs.HistoryRecords.{item_record, records_of, IsShortItem, IsJournalOf}
use Rattle.world_core.specs.World.{WorldTerm, NextTerm, with_prepared, at_rest, with_entry, Prepares, Commits}
use Rattle.world_core.specs.declared.answers.Taken.{Taken}
use Rattle.world_core.proofs.RunLemmas.{replies_taken}
use Rattle.history_journal.specs.Appending.{IsSettled, IsNoneOrAll, AppendsAll}
use Rattle.history_journal.specs.Journals.{WouldTake, IsBeforeOrTaken, TakesOn, IsKeptJournal}
use Rattle.history_journal.specs.NotTaken.{IsNotTaken}
use Rattle.history_journal.specs.declared.stops.KeepStop.TheVariants as keeps
use Rattle.history_journal.proofs.Bytes.{open-append}
use Rattle.history_journal.proofs.Moments.{started}

pub records_push : (h : List ItemTerm) (e : EntryTerm) → records_of (h ++ took e ∷ []) ≡ records_of h ++ entry_line e ∷ []
records_push [] e = refl
records_push (i ∷ h) e = ap (λ (l : List (List ℕ)). item_record i ∷ l) (records_push h e)

pub short_push : (h : List ItemTerm) (e : EntryTerm) → AllByRecursion IsShortItem h → length (entry_line e) ≤ 1048576 → AllByRecursion IsShortItem (h ++ took e ∷ [])
short_push [] e all short = (short, tt)
short_push (i ∷ h) e all short = (all.0, short_push h e all.1 short)

-- a world whose prepared entry is given up is as it was
pub given_up : (w mid : WorldTerm) (e : EntryTerm) (t : State) → w.next ≡ None → mid ≡ with_prepared w e t → at_rest mid ≡ w
given_up w mid e t rest is = ap at_rest is ∙ ap (λ (n : Option NextTerm). record w { next = n }) (sym rest)

-- a journal of the records is one of the history
pub is_journal : (h : List ItemTerm) (c : List ℕ) → AllByRecursion IsShortItem h → IsImageOf c (records_of h) → IsJournalOf c h
is_journal h c short image = record { short = short; image = image }

pub before_or_taken : (w : WorldTerm) (e : EntryTerm) → AllByRecursion IsShortItem w.history → length (entry_line e) ≤ 1048576 → WouldTake w e
    → (c : List ℕ) → IsNoneOrAll (records_of w.history) (entry_line e) [] c → IsBeforeOrTaken w e c
before_or_taken w e all short takes c left = ⊎_elim
    (λ before. inl (record { short = all; image = before }))
    (λ after. inr (
      takes,
      record {
        short = short_push w.history e all short;
        image = subst (λ (l : List (List ℕ)). IsImageOf c l) (sym (records_push w.history e)) after;
      },
    ))
    left

-- a run of which less is said
pub weaker : (old new : DiskTold) (P Q : List ℕ → Type 0) → LeavesOnly old new P → ((c : List ℕ) → P c → Q c) → LeavesOnly old new Q
weaker old new P Q run all = record {
  later = run.later;
  each = λ c left. all c (run.each c left);
  before = λ t c le left. ⊎_elim (λ had. inl had) (λ is. inr (all c is)) (run.before t c le left);
}

-- where the closed gate stands behind one record more
place_next : (h : List (List ℕ)) (r : List ℕ) (gate next : ℕ) → gate ≡ length (open_records h) → next ≡ gate + length r + 5 → next ≡ length (open_records (h ++ r ∷ []))
place_next h r gate next is more =
    omega (arith, is, more, ap length (open-append h r [] []), length-append (open_records (h ++ r ∷ [])) [], length-append (open_records h) (1 ∷ (record_bytes r ++ [])), length-append (record_bytes r) [])

module _ (d0 d1 : DiskTold) (w : WorldTerm) (e : EntryTerm) (gate : ℕ) (closed : Bool) (kept : IsKeptJournal d0 w gate closed) (r : List ℕ) (r_is : r ≡ entry_line e) (short : length r ≤ 1048576) where
  fits : length (entry_line e) ≤ 1048576
  fits = omega (arith, short, ap length r_is)

  after_is : (new : WorldTerm) (t : State) → new ≡ with_entry w e t → records_of new.history ≡ records_of w.history ++ r ∷ []
  after_is new t is = ap (λ (x : WorldTerm). records_of x.history) is ∙ (records_push w.history e ∙ ap (λ (l : List ℕ). records_of w.history ++ l ∷ []) (sym r_is))

  -- what a journal keeps once its entry is committed
  pub kept_on : (new : WorldTerm) (t : State) (next : ℕ) → new ≡ with_entry w e t → next ≡ gate + length r + 5 → d1.honest ≡ d0.honest
      → ((h : List (List ℕ)) → IsHonest d0 → IsSettled d0 h → gate ≡ length (open_records h) → AppendsAll d0 h r [] d1 done.Done)
      → IsKeptJournal d1 new next closed
  kept_on new t next is more same appends = record {
    rest = ap (λ (x : WorldTerm). x.next) is;
    short = subst (λ (l : List ItemTerm). AllByRecursion IsShortItem l) (sym (ap (λ (x : WorldTerm). x.history) is)) (short_push w.history e kept.short fits);
    place = place_next (records_of w.history) r gate next kept.place more ∙ sym (ap (λ (l : List (List ℕ)). length (open_records l)) (after_is new t is));
    settled = λ free honest.
        (let before : IsHonest d0 = subst IsTrue same honest in
        subst (λ (l : List (List ℕ)). IsSettled d1 l) (sym (after_is new t is)) ((appends (records_of w.history) before (kept.settled free before) kept.place).done refl));
  }

  -- a crash at any moment of the calls that appended it, or that failed
  pub any_appended : (answer : DiskDone) → closed ≡ false → IsHonest d0 → WouldTake w e
      → ((h : List (List ℕ)) → IsHonest d0 → IsSettled d0 h → gate ≡ length (open_records h) → AppendsAll d0 h r [] d1 answer)
      → LeavesOnly d0 d1 (IsBeforeOrTaken w e)
  any_appended answer free honest takes appends =
      weaker d0 d1 (IsNoneOrAll (records_of w.history) r []) (IsBeforeOrTaken w e)
      (appends (records_of w.history) honest (kept.settled free honest) kept.place).any_moment
      (λ c left. before_or_taken w e kept.short fits takes c (subst (λ (l : List ℕ). IsNoneOrAll (records_of w.history) l [] c) r_is left))

  -- and after them
  pub now_appended : (answer : DiskDone) → closed ≡ false → IsHonest d0 → WouldTake w e
      → ((h : List (List ℕ)) → IsHonest d0 → IsSettled d0 h → gate ≡ length (open_records h) → AppendsAll d0 h r [] d1 answer)
      → (c : List ℕ) → d1.may_leave c → IsBeforeOrTaken w e c
  now_appended answer free honest takes appends c left =
      before_or_taken w e kept.short fits takes c (subst (λ (l : List ℕ). IsNoneOrAll (records_of w.history) l [] c) r_is
      ((appends (records_of w.history) honest (kept.settled free honest) kept.place).now c left))

-- a crash at any moment of a call that doesn't touch the disk
pub any_rested : (d : DiskTold) (w : WorldTerm) (e : EntryTerm) (gate : ℕ) (closed : Bool) → IsKeptJournal d w gate closed → closed ≡ false → IsHonest d → KeepsTime d
    → LeavesOnly d d (IsBeforeOrTaken w e)
any_rested d w e gate closed kept free honest time =
    let settled = kept.settled free honest in
    started d (IsBeforeOrTaken w e) time
    (λ c left. inl (record { short = kept.short; image = subst (λ (b : List ℕ). IsImageOf b (records_of w.history)) (sym (settled.just c left)) settled.image }))

-- what is kept of a world that is as it was
pub kept_same : (d : DiskTold) (w new : WorldTerm) (gate : ℕ) (closed : Bool) → new ≡ w → IsKeptJournal d w gate closed → IsKeptJournal d new gate closed
kept_same d w new gate closed same kept = subst (λ (x : WorldTerm). IsKeptJournal d x gate closed) (sym same) kept

-- and where the journal is closed from now on
pub kept_closed : (d0 d1 : DiskTold) (w new : WorldTerm) (gate : ℕ) (closed : Bool) → new ≡ w → IsKeptJournal d0 w gate closed → IsKeptJournal d1 new gate true
kept_closed d0 d1 w new gate closed same kept = subst (λ (x : WorldTerm). IsKeptJournal d1 x gate true) (sym same)
    (record { rest = kept.rest; short = kept.short; place = kept.place; settled = λ free honest. absurd cc })

-- ---- what the first part answered
pub not_offered_there : (w mid : WorldTerm) (e : EntryTerm) (stop : ActStop) → stop ≡ acts.NotOffered → Prepares w e mid (Err stop)
    → IsOutcome w.checked w.budget w.state e.input not_offered
not_offered_there w mid e stop is p = outcome (subst (λ (s : ActStop). Prepares w e mid (Err s)) is p)
  where
    outcome : Prepares w e mid (Err acts.NotOffered) → IsOutcome w.checked w.budget w.state e.input not_offered
    outcome q = q.0

pub over_there : (w mid : WorldTerm) (e : EntryTerm) (stop : ActStop) → stop ≡ acts.Over → Prepares w e mid (Err stop)
    → IsOutcome w.checked w.budget w.state e.input over_budget
over_there w mid e stop is p = outcome (subst (λ (s : ActStop). Prepares w e mid (Err s)) is p)
  where
    outcome : Prepares w e mid (Err acts.Over) → IsOutcome w.checked w.budget w.state e.input over_budget
    outcome q = q.0

pub takes_there : (w mid : WorldTerm) (e : EntryTerm) → Prepares w e mid (Ok tt) → WouldTake w e
takes_there w mid e p = (p.0, p.1)

-- and the last one
pub takes_on : (w mid new : WorldTerm) (e : EntryTerm) (done : Taken) (before now : Bool) → Prepares w e mid (Ok tt) → Commits mid new done → before ≡ false → now ≡ false
    → TakesOn w e new before now
takes_on w mid new e done before now p q was is =
    let r = replies_taken w mid new e done p q in
    record { state = r.0; outcome = r.1; world = r.2; open_before = was; open_now = is }

-- an entry that is taken, and whose record is too long
pub long_there : (w mid : WorldTerm) (e : EntryTerm) (r : List ℕ) (count : ℕ) → r ≡ entry_line e → Prepares w e mid (Ok tt) → count ≡ length r → 1048576 < length r
    → {D : Type 0} (told : D → DiskTold) (closed : Bool) (old new : D) → new ≡ old → IsNotTaken told w e closed closed old new (keeps.LongEntry count)
long_there w mid e r count is p size great told closed old new same = ((p.0, p.1), size ∙ ap length is, subst (λ (l : List ℕ). 1048576 < length l) is great, same, refl)
