-- What a restart makes of the bytes of a disk.
use Rattle.std.proofs.Common.{◌≡◌, ℕ, ◌≤◌, Bool, false, IsTrue, List, [], ◌∷◌, ◌++◌, None, length, refl, sym, ◌∙◌, ap, subst, arith}
use Rattle.std.specs.List.{AllByRecursion}
use Rattle.task_model.specs.Terms.Item.{ItemTerm, took}
use Rattle.outer_io.specs.Causes.{Rose, next_count}
use Rattle.outer_disks.specs.Disks.{DiskTold, IsHonest, Syncs}
use Rattle.outer_disks.specs.declared.disk.DiskDone.TheVariants as done
use Rattle.journal_bytes.specs.Records.{IsImageOf, BeginsRecord}
use Rattle.journal_bytes.specs.HistoryRecords.{records_of, item_record, IsShortItem}
use Rattle.journal_bytes.specs.ReadRecords.{IsEntryRecord}
use Rattle.world_core.specs.World.{WorldTerm, IsStanding}
use Rattle.history_journal.specs.Journals.{HoldsJournal, IsKeptJournal}
use Rattle.history_journal.specs.Making.{Looks}
use Rattle.history_journal.specs.Restarting.{IsBadJournal, IsOnlyJournalOf, IsFront}
use Rattle.history_journal.specs.Replaying.{HasAloneRecords, OpensRecord, TakesRecord, ReplaysAll}
use Rattle.history_journal.proofs.Fronts.{front_none, front_next, alone_none, alone_next}
use Rattle.history_journal.proofs.Legal.{only_entry}

-- ---- the first record
pub opened_front : (bytes r after : List ℕ) (w : WorldTerm) → BeginsRecord bytes r after → OpensRecord r w → IsFront bytes w.history after
opened_front bytes r after w begins o =
    subst (λ (h : List ItemTerm). IsFront bytes h after) (sym o.begins) (front_next bytes [] o.item bytes r after (front_none bytes) begins o.short o.are)

pub opened_alone : (r : List ℕ) (w : WorldTerm) → OpensRecord r w → HasAloneRecords w.history
opened_alone r w o = subst (λ (h : List ItemTerm). HasAloneRecords h) (sym o.begins) (alone_next [] o.item r alone_none o.are o.only)

-- ---- each later one
after_is : (old new : WorldTerm) (r : List ℕ) (t : TakesRecord old r new) → new.history ≡ old.history ++ took t.entry ∷ []
after_is old new r t = ap (λ (w : WorldTerm). w.history) t.world

short_is : (old new : WorldTerm) (r : List ℕ) (t : TakesRecord old r new) → IsShortItem (took t.entry)
short_is old new r t = let short = t.are.short in omega (arith, short, ap length t.are.line)

pub taken_front : (bytes rest r after : List ℕ) (old new : WorldTerm) → IsFront bytes old.history rest → BeginsRecord rest r after → TakesRecord old r new
    → IsFront bytes new.history after
taken_front bytes rest r after old new front begins t =
    subst (λ (h : List ItemTerm). IsFront bytes h after) (sym (after_is old new r t))
    (front_next bytes old.history (took t.entry) rest r after front begins (short_is old new r t) t.are.line)

pub taken_alone : (r : List ℕ) (old new : WorldTerm) → IsStanding old → HasAloneRecords old.history → TakesRecord old r new → HasAloneRecords new.history
taken_alone r old new standing alone t =
    subst (λ (h : List ItemTerm). HasAloneRecords h) (sym (after_is old new r t))
    (alone_next old.history (took t.entry) r alone t.are.line (only_entry old standing r t.entry t.are))

-- ---- the disk
looks_then : (a b d : DiskTold) → Looks a b → Looks b d → Looks a d
looks_then a b d one two = record {
  honest = two.honest ∙ one.honest;
  seen = λ h. two.seen (subst IsTrue (sym one.honest) h) ∙ one.seen h;
  crash = λ h c left. one.crash h c (two.crash (subst IsTrue (sym one.honest) h) c left);
}

synced_looks : (a b : DiskTold) → Syncs a b done.Done → Looks a b
synced_looks a b s = record {
  honest = s.rests.honest;
  seen = λ h. (s.rests.keeps h).seen;
  crash = λ h c left. (s.rests.keeps h).crash c left;
}

pub rose_later : (before mid now : ℕ) → before ≤ mid → Rose mid now → Rose before now
rose_later before mid now le rose = omega (arith, le, rose)

module _ (d0 d1 d2 : DiskTold) (synced : Syncs d0 d1 done.Done) (looks : Looks d1 d2) where
  pub looked : Looks d0 d2
  looked = looks_then d0 d1 d2 (synced_looks d0 d1 synced) looks

  there : IsHonest d0 → IsHonest d1
  there h = subst IsTrue (sym synced.rests.honest) h

  back : IsHonest d2 → IsHonest d0
  back h = subst IsTrue looked.honest h

  module _ (bytes : List ℕ) (read : IsHonest d1 → bytes ≡ d1.seen) where
    bytes_are : IsHonest d0 → bytes ≡ d0.seen
    bytes_are h = read (there h) ∙ (synced.rests.keeps h).seen

    bytes_stay : IsHonest d0 → bytes ≡ d2.seen
    bytes_stay h = read (there h) ∙ sym (looks.seen (there h))

    pub bad_is : (place : ℕ) → IsBadJournal bytes place → IsHonest d0 → IsBadJournal d0.seen place
    bad_is place bad h = subst (λ (b : List ℕ). IsBadJournal b place) (bytes_are h) bad

    pub only_is : (h : List ItemTerm) → IsOnlyJournalOf bytes h → IsHonest d0 → IsOnlyJournalOf d0.seen h
    only_is h only honest = subst (λ (b : List ℕ). IsOnlyJournalOf b h) (bytes_are honest) only

    pub holds : (h : List ItemTerm) → IsOnlyJournalOf bytes h → IsHonest d0 → HoldsJournal d2 h
    holds h only honest = record {
      short = only.is.short;
      settled = record {
        image = subst (λ (b : List ℕ). IsImageOf b (records_of h)) (bytes_stay honest) only.is.image;
        just = λ c left. synced.durable refl honest c (looks.crash (there honest) c left) ∙ sym (looks.seen (there honest));
      };
    }

    pub kept : (w : WorldTerm) (gate : ℕ) (closed : Bool) → ReplaysAll bytes w gate → w.next ≡ None → IsKeptJournal d2 w gate closed
    kept w gate closed all rest = record {
      rest = rest;
      short = all.only.is.short;
      place = all.place_is;
      settled = λ free honest. (holds w.history all.only (back honest)).settled;
    }
