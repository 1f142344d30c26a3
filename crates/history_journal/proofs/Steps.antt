-- The four calls of an event: behind the gate, sure, the gate, sure.
use Rattle.std.proofs.Common.{◌≡◌, inl, ℕ, ◌+◌, List, [], ◌∷◌, ◌++◌, length, refl, sym, ◌∙◌, subst, IsTrue}
use Rattle.std.specs.List.{AllByRecursion}
use Rattle.outer_disks.specs.Writing.{IsWithPiece, IsTorn, LeavesJust}
use Rattle.outer_disks.specs.Disks.{DiskTold, IsHonest, KeepsTime, LeavesOnly, WritesAt, Syncs}
use Rattle.outer_disks.specs.declared.disk.DiskDone.{DiskDone}
use Rattle.outer_disks.specs.declared.disk.DiskDone.TheVariants as done
use Rattle.journal_bytes.specs.Records.{open_records, FitsRecord, IsImageOf}
use Rattle.history_journal.specs.Appending.{group_piece, FitTogether, IsSettled, IsNoneOrAll, AppendsAll}
use Rattle.history_journal.proofs.Bytes.{staged, torn_behind, written_behind, torn_gate, written_gate}
use Rattle.history_journal.proofs.Moments.{started, goes_on}

pub still_honest : (old new : DiskTold) → new.honest ≡ old.honest → IsHonest old → IsHonest new
still_honest old new same h = subst IsTrue (sym same) h

module _ (h : List (List ℕ)) (r : List ℕ) (more : List (List ℕ)) (all : AllByRecursion FitsRecord h) (fits : FitTogether r more) where
  -- the gate is closed still, whatever stands behind it
  pub record IsBehind (old new : DiskTold) : Type 0 where
    pub any : LeavesOnly old new (IsNoneOrAll h r more)
    pub shut : (c : List ℕ) → new.may_leave c → IsImageOf c h

  -- the record stands behind it
  abbrev pub HasStaged : DiskTold → Type 0
  HasStaged d = (g : ℕ) × (end : List ℕ) × (d.seen ≡ staged h g r more end)

  -- the gate was written
  pub record IsOpening (old new : DiskTold) : Type 0 where
    pub any : LeavesOnly old new (IsNoneOrAll h r more)
    pub now : (c : List ℕ) → new.may_leave c → IsNoneOrAll h r more c

  pub first_write : (old new : DiskTold) (piece : List ℕ) (answer : DiskDone) → KeepsTime old → IsHonest old → IsSettled old h
      → WritesAt old (length (open_records h) + 1) piece new answer → IsBehind old new
  first_write old new piece answer time honest settled w =
      let torn = w.torn honest in
      let shut : (c : List ℕ) → new.may_leave c → IsImageOf c h = λ c left.
      (let from = torn.crash c left in
      torn_behind h old.seen settled.image (length piece) c (subst (λ (d : List ℕ). IsTorn (length (open_records h) + 1) (length piece) d c) (settled.just from.0 from.1) from.2)) in
      let start = started old (IsNoneOrAll h r more) time (λ c left. inl (subst (λ (b : List ℕ). IsImageOf b h) (sym (settled.just c left)) settled.image)) in
      record { any = goes_on old old new (IsNoneOrAll h r more) start torn.time (λ c left. inl (shut c left)); shut = shut }

  pub first_written : (old new : DiskTold) (piece : List ℕ) → IsHonest old → IsSettled old h → piece ≡ group_piece r more
      → WritesAt old (length (open_records h) + 1) piece new done.Done → HasStaged new
  first_written old new piece honest settled is w =
      (settled.image.gate, _, written_behind h old.seen settled.image r more piece new.seen is (w.written refl honest))

  pub first_sync : (old mid new : DiskTold) (answer : DiskDone) → IsHonest mid → IsBehind old mid → Syncs mid new answer → IsBehind old new
  first_sync old mid new answer honest behind s =
      let keeps = s.rests.keeps honest in
      let shut : (c : List ℕ) → new.may_leave c → IsImageOf c h = λ c left. behind.shut c (keeps.crash c left) in
      record { any = goes_on old mid new (IsNoneOrAll h r more) behind.any keeps.time (λ c left. inl (shut c left)); shut = shut }

  pub still_staged : (mid new : DiskTold) (answer : DiskDone) → IsHonest mid → HasStaged mid → Syncs mid new answer → HasStaged new
  still_staged mid new answer honest has s = (has.0, has.1, (s.rests.keeps honest).seen ∙ has.2)

  pub second_write : (old mid new : DiskTold) (answer : DiskDone) → IsHonest mid → IsBehind old mid → HasStaged mid → LeavesJust mid.seen mid.may_leave
      → WritesAt mid (length (open_records h)) (1 ∷ []) new answer → IsOpening old new
  second_write old mid new answer honest behind has just w =
      let torn = w.torn honest in
      let now : (c : List ℕ) → new.may_leave c → IsNoneOrAll h r more c = λ c left.
      (let from = torn.crash c left in
      torn_gate h has.0 r more has.1 c all fits (subst (λ (d : List ℕ). IsTorn (length (open_records h)) 1 d c) (just from.0 from.1 ∙ has.2) from.2)) in
      record { any = goes_on old mid new (IsNoneOrAll h r more) behind.any torn.time now; now = now }

  pub second_written : (mid new : DiskTold) → IsHonest mid → HasStaged mid → WritesAt mid (length (open_records h)) (1 ∷ []) new done.Done → IsImageOf new.seen (h ++ r ∷ more)
  second_written mid new honest has w =
      written_gate h has.0 r more has.1 new.seen all fits (subst (λ (d : List ℕ). IsWithPiece d (length (open_records h)) (1 ∷ []) new.seen) has.2 (w.written refl honest))

  pub second_sync : (old mid new : DiskTold) (answer : DiskDone) → IsHonest mid → IsOpening old mid → IsImageOf mid.seen (h ++ r ∷ more) → Syncs mid new answer
      → AppendsAll old h r more new answer
  second_sync old mid new answer honest opening image s =
      let keeps = s.rests.keeps honest in
      let now : (c : List ℕ) → new.may_leave c → IsNoneOrAll h r more c = λ c left. opening.now c (keeps.crash c left) in
      record {
        any_moment = goes_on old mid new (IsNoneOrAll h r more) opening.any keeps.time now;
        now = now;
        done = λ is. record { image = subst (λ (b : List ℕ). IsImageOf b (h ++ r ∷ more)) (sym keeps.seen) image; just = s.durable is honest };
      }

  -- the answers of calls that failed
  pub behind_appends : (old new : DiskTold) → IsBehind old new → AppendsAll old h r more new done.Failed
  behind_appends old new behind = record { any_moment = behind.any; now = λ c left. inl (behind.shut c left); done = λ is. absurd cc }

  pub opening_appends : (old new : DiskTold) → IsOpening old new → AppendsAll old h r more new done.Failed
  opening_appends old new opening = record { any_moment = opening.any; now = opening.now; done = λ is. absurd cc }
