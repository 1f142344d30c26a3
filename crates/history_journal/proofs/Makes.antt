-- A journal of an opening alone.
use Rattle.std.proofs.Common.{◌≡◌, ℕ, ◌+◌, ◌-◌, ◌≤◌, Bool, IsTrue, List, [], ◌∷◌, ◌++◌, length, take, drop, None, decimal, refl, sym, ◌∙◌, ap, subst, arith, length-append}
use Rattle.std.specs.List.{AllByRecursion}
use Rattle.std.proofs.lemmas.Fmt.{length-decimal-le}
use Rattle.std.proofs.lemmas.List.{append-nil, drop_all}
use Rattle.task_model.specs.Terms.Program.{ProgramTerm}
use Rattle.task_model.specs.Terms.Item.{ItemTerm, opened}
use Rattle.task_model.specs.Syntax.Printed.{program_text}
use Rattle.task_model.specs.Running.State.{IsBudget}
use Rattle.outer_disks.specs.Disks.{DiskTold, IsHonest, Rests, WritesAt, Syncs, Measures}
use Rattle.outer_disks.specs.declared.disk.DiskDone.{DiskDone}
use Rattle.outer_disks.specs.declared.disk.DiskDone.TheVariants as done
use Rattle.outer_disks.specs.declared.disk.DiskLength.{DiskLength}
use Rattle.outer_disks.specs.declared.disk.DiskLength.TheVariants as lengths
use Rattle.outer_disks.specs.Writing.{LeavesJust}
use Rattle.journal_bytes.specs.Records.{record_bytes, open_records, FitsRecord}
use Rattle.journal_bytes.specs.HistoryRecords.{opening_record, records_of, IsShortItem}
use Rattle.world_core.specs.World.{WorldTerm}
use Rattle.history_journal.specs.Appending.{IsSettled}
use Rattle.history_journal.specs.Journals.{IsKeptJournal, HoldsJournal}
use Rattle.history_journal.specs.Making.{Looks}

pub opening_fits : (budget : ℕ) (text r : List ℕ) → IsBudget budget → length text ≤ 1048576 → r ≡ decimal budget ++ (10 ∷ text) → FitsRecord r
opening_fits budget text r within short is =
    let low = within.0 in
    let high = within.1 in
    omega (arith, short, ap length is, length-append (decimal budget) (10 ∷ text), length-decimal-le 7 budget (omega arith) (omega (arith, high)) (omega (arith, high)))

pub first_length : (r v : List ℕ) → v ≡ open_records (r ∷ []) ++ 0 ∷ [] → length v ≡ length r + 6
first_length r v is =
    omega (arith, ap length is, length-append (open_records (r ∷ [])) (0 ∷ []), length-append (record_bytes r) [])

-- ---- calls that write nothing
pub looks_once : (a b : DiskTold) (answer : DiskDone) → Syncs a b answer → Looks a b
looks_once a b answer s = record {
  honest = s.rests.honest;
  seen = λ h. (s.rests.keeps h).seen;
  crash = λ h c left. (s.rests.keeps h).crash c left;
}

pub there : (a b : DiskTold) → b.honest ≡ a.honest → IsHonest a → IsHonest b
there a b same h = subst IsTrue (sym same) h

pub looks_twice : (a b c : DiskTold) (answer : DiskDone) → Syncs a b answer → Rests b c → Looks a c
looks_twice a b c answer s rests = record {
  honest = rests.honest ∙ s.rests.honest;
  seen = λ h. (rests.keeps (there a b s.rests.honest h)).seen ∙ (s.rests.keeps h).seen;
  crash = λ h l left. (s.rests.keeps h).crash l ((rests.keeps (there a b s.rests.honest h)).crash l left);
}

pub measures_after : (a b : DiskTold) (answer : DiskDone) (length_is : DiskLength) → Syncs a b answer → Measures b length_is → Measures a length_is
measures_after a b answer (lengths.Bytes count) s m = λ h. m (there a b s.rests.honest h) ∙ ap length (s.rests.keeps h).seen
measures_after a b answer lengths.Failed s m = tt

-- ---- the first write
pub first_written : (a b c : DiskTold) (piece : List ℕ) → (IsHonest a → a.seen ≡ []) → WritesAt a 0 piece b done.Done → Syncs b c done.Done → IsHonest a
    → (c.seen ≡ piece) × LeavesJust piece c.may_leave
first_written a b c piece none w s honest =
    let sure = there a b w.honest honest in
    let written : b.seen ≡ piece =
    w.written refl honest ∙ (ap (λ (l : List ℕ). take 0 l ++ piece ++ drop (0 + length piece) l) (none honest) ∙ nothing_behind) in
    let seen : c.seen ≡ piece = (s.rests.keeps sure).seen ∙ written in
    (seen, λ l left. s.durable refl sure l left ∙ seen)
  where
    nothing_behind : take {A = ℕ} 0 [] ++ piece ++ drop {A = ℕ} (0 + length piece) [] ≡ piece
    nothing_behind = ap (λ (l : List ℕ). piece ++ l) (drop_all (0 + length piece) [] (omega arith)) ∙ append-nil piece

-- ---- what the journal keeps then
module _ (d : DiskTold) (w : WorldTerm) (p : ProgramTerm) (budget : ℕ) (piece : List ℕ) (begins : w.history ≡ opened p budget ∷ []) (within : IsBudget budget)
    (short : length (program_text p) ≤ 1048576) (is : piece ≡ open_records (opening_record p budget ∷ []) ++ 0 ∷ [])
    (wrote : IsHonest d → (d.seen ≡ piece) × LeavesJust piece d.may_leave) where
  settles : IsHonest d → IsSettled d (records_of w.history)
  settles honest = subst (λ (h : List ItemTerm). IsSettled d (records_of h)) (sym begins) (record {
    image = record {
      fit = (opening_fits budget (program_text p) (opening_record p budget) within short refl, tt);
      gate = 0;
      closed = omega arith;
      rest = [];
      are = (wrote honest).0 ∙ is;
    };
    just = λ c left. (wrote honest).1 c left ∙ sym (wrote honest).0;
  })

  pub made_kept : (gate : ℕ) (closed : Bool) → w.next ≡ None → gate ≡ length piece - 1 → IsKeptJournal d w gate closed
  made_kept gate closed rest place = record {
    rest = rest;
    short = subst (λ (h : List ItemTerm). AllByRecursion IsShortItem h) (sym begins) (short, tt);
    place = place ∙ (ends ∙ ap (λ (h : List ItemTerm). length (open_records (records_of h))) (sym begins));
    settled = λ free honest. settles honest;
  }
    where
      ends : length piece - 1 ≡ length (open_records (opening_record p budget ∷ []))
      ends = omega (arith, ap length is, length-append (open_records (opening_record p budget ∷ [])) (0 ∷ []))

  pub made_holds : IsHonest d → HoldsJournal d w.history
  made_holds honest = record { short = subst (λ (h : List ItemTerm). AllByRecursion IsShortItem h) (sym begins) (short, tt); settled = settles honest }
