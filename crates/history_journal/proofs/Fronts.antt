-- Records that are followed one after the other, and the place of the first that isn't.
use Rattle.std.proofs.Common.{◌≡◌, ◌≢◌, ◌⊎◌, inl, inr, ℕ, ◌-◌, List, [], ◌∷◌, ◌++◌, length, refl, sym, ◌∙◌, ap, subst, arith, length-append}
use Rattle.std.specs.List.{AllByRecursion}
use Rattle.task_model.specs.Terms.Text.{Text}
use Rattle.task_model.specs.Terms.Item.{ItemTerm}
use Rattle.task_model.specs.Running.State.{IsLegal}
use Rattle.task_laws.proofs.BeginningLemmas.{begins_legal}
use Rattle.journal_bytes.specs.Records.{record_bytes, open_records, FitsRecord, BeginsRecord, IsBad, IsShut}
use Rattle.journal_bytes.specs.HistoryRecords.{item_record, records_of, IsShortItem}
use Rattle.journal_bytes.proofs.Images.{one_list}
use Rattle.history_journal.specs.Restarting.{IsKeepable, AreNoRecords, IsFront, IsBadThere, no_record, no_gate, no_opening, not_taken, IsBadJournal, IsOnlyJournalOf}
use Rattle.history_journal.specs.Replaying.{HasAloneRecords, IsNoRecord}
use Rattle.history_journal.proofs.Bytes.{open-append, fits-append}

-- ---- one item more
pub records_more : (h : List ItemTerm) (i : ItemTerm) → records_of (h ++ i ∷ []) ≡ records_of h ++ item_record i ∷ []
records_more [] i = refl
records_more (j ∷ h) i = ap (λ (l : List Text). item_record j ∷ l) (records_more h i)

all_more : {A : Type 0} (P : A → Type 0) (xs : List A) (x : A) → AllByRecursion P xs → P x → AllByRecursion P (xs ++ x ∷ [])
all_more P [] x all one = (one, tt)
all_more P (y ∷ xs) x all one = (all.0, all_more P xs x all.1 one)

pub all_front : {A : Type 0} (P : A → Type 0) (xs ys : List A) → AllByRecursion P (xs ++ ys) → AllByRecursion P xs
all_front P [] ys all = tt
all_front P (x ∷ xs) ys all = (all.0, all_front P xs ys all.1)

pub all_last : {A : Type 0} (P : A → Type 0) (xs : List A) (y : A) → AllByRecursion P (xs ++ y ∷ []) → P y
all_last P [] y all = all.0
all_last P (x ∷ xs) y all = all_last P xs y all.1

pub front_next : (bytes : List ℕ) (h : List ItemTerm) (i : ItemTerm) (rest r after : List ℕ) → IsFront bytes h rest → BeginsRecord rest r after
    → IsShortItem i → r ≡ item_record i → IsFront bytes (h ++ i ∷ []) after
front_next bytes h i rest r after front begins short is =
    let records : records_of (h ++ i ∷ []) ≡ records_of h ++ r ∷ [] = records_more h i ∙ ap (λ (x : Text). records_of h ++ x ∷ []) (sym is) in
    record {
      short = all_more IsShortItem h i front.short short;
      fit = subst (λ (l : List Text). AllByRecursion FitsRecord l) (sym records) (fits-append (records_of h) r [] front.fit (begins.0, tt));
      are = front.are ∙ (ap (λ (l : List ℕ). open_records (records_of h) ++ l) begins.1 ∙ (sym (open-append (records_of h) r [] after)
          ∙ ap (λ (l : List Text). open_records l ++ after) (sym records)));
    }

pub front_none : (bytes : List ℕ) → IsFront bytes [] bytes
front_none bytes = record { short = tt; fit = tt; are = refl }

pub front_place : (bytes : List ℕ) (h : List ItemTerm) (rest : List ℕ) → IsFront bytes h rest → length bytes - length rest ≡ length (open_records (records_of h))
front_place bytes h rest front = omega (arith, ap length front.are, length-append (open_records (records_of h)) rest)

-- ---- histories by their records
abbrev head_of : List Text → Text
head_of [] = []
head_of (x ∷ xs) = x

abbrev tail_of : List Text → List Text
tail_of [] = []
tail_of (x ∷ xs) = xs

something : (x : Text) (xs : List Text) → [] ≡ x ∷ xs → ⊥
something x xs e = cc

-- the last record is that of the last item
record Ended (other : List ItemTerm) (rs : List Text) (r : Text) : Type 0 where
  front : List ItemTerm
  last : ItemTerm
  is : other ≡ front ++ last ∷ []
  before : records_of front ≡ rs
  ends : item_record last ≡ r

not_none : (rs : List Text) (r : Text) → [] ≡ rs ++ r ∷ [] → ⊥
not_none [] r e = something r [] e
not_none (x ∷ rs) r e = something x (rs ++ r ∷ []) e

last_record : (other : List ItemTerm) (rs : List Text) (r : Text) → records_of other ≡ rs ++ r ∷ [] → Ended other rs r
last_record [] rs r e = absurd (not_none rs r e)
last_record (i ∷ []) [] r e = record { front = []; last = i; is = refl; before = refl; ends = ap head_of e }
last_record (i ∷ (j ∷ is)) [] r e = absurd (something (item_record j) (records_of is) (sym (ap tail_of e)))
last_record (i ∷ is) (x ∷ rs) r e =
    let m = last_record is rs r (ap tail_of e) in
    record {
      front = i ∷ m.front;
      last = m.last;
      is = ap (λ (l : List ItemTerm). i ∷ l) m.is;
      before = ap (λ (l : List Text). item_record i ∷ l) m.before ∙ ap (λ (y : Text). y ∷ rs) (ap head_of e);
      ends = m.ends;
    }

none_recorded : (h : List ItemTerm) → records_of h ≡ [] → h ≡ []
none_recorded [] e = refl
none_recorded (i ∷ h) e = absurd (something (item_record i) (records_of h) (sym e))

front_is : (h f : List ItemTerm) (last : ItemTerm) (other : List ItemTerm) → HasAloneRecords h → IsKeepable other → other ≡ f ++ last ∷ []
    → records_of f ≡ records_of h → f ≡ h
front_is h [] last other alone keep e same = sym (none_recorded h (sym same))
front_is h (x ∷ xs) last other alone keep e same =
    alone (x ∷ xs) (
      begins_legal (x ∷ xs) other keep.0 (last ∷ [], sym e) (some x xs),
      all_front IsShortItem (x ∷ xs) (last ∷ []) (subst (λ (l : List ItemTerm). AllByRecursion IsShortItem l) e keep.1),
    ) same
  where
    some : (y : ItemTerm) (ys : List ItemTerm) → y ∷ ys ≢ []
    some y ys n = cc

-- a history that has these records and one more is this history and one item more
record OneMore (h other : List ItemTerm) (r : Text) : Type 0 where
  item : ItemTerm
  is : other ≡ h ++ item ∷ []
  short : IsShortItem item
  ends : r ≡ item_record item
  legal : IsLegal (h ++ item ∷ [])

one_more : (h other : List ItemTerm) (r : Text) → HasAloneRecords h → IsKeepable other → records_of other ≡ records_of h ++ r ∷ [] → OneMore h other r
one_more h other r alone keep same =
    let m = last_record other (records_of h) r same in
    let front = front_is h m.front m.last other alone keep m.is m.before in
    let is : other ≡ h ++ m.last ∷ [] = m.is ∙ ap (λ (f : List ItemTerm). f ++ m.last ∷ []) front in
    record {
      item = m.last;
      is = is;
      short = all_last IsShortItem h m.last (subst (λ (l : List ItemTerm). AllByRecursion IsShortItem l) is keep.1);
      ends = sym m.ends;
      legal = subst IsLegal is keep.0;
    }

pub no_records_behind : (h : List ItemTerm) (r : Text) → HasAloneRecords h → IsNoRecord h r → AreNoRecords (records_of h ++ r ∷ [])
no_records_behind h r alone none other keep same = let m = one_more h other r alone keep same in none m.item m.short m.ends m.legal

pub alone_next : (h : List ItemTerm) (i : ItemTerm) (r : Text) → HasAloneRecords h → r ≡ item_record i
    → ((other : ItemTerm) → IsShortItem other → r ≡ item_record other → IsLegal (h ++ other ∷ []) → other ≡ i) → HasAloneRecords (h ++ i ∷ [])
alone_next h i r alone is only other keep same =
    let m = one_more h other r alone keep (same ∙ (records_more h i ∙ ap (λ (x : Text). records_of h ++ x ∷ []) (sym is))) in
    m.is ∙ ap (λ (x : ItemTerm). h ++ x ∷ []) (only m.item m.short m.ends m.legal)

pub alone_none : HasAloneRecords []
alone_none other keep same = none_recorded other same

-- ---- the end of the records
pub only_journal : (bytes : List ℕ) (h : List ItemTerm) (rest : List ℕ) → IsFront bytes h rest → IsShut rest → HasAloneRecords h → IsOnlyJournalOf bytes h
only_journal bytes h rest front shut alone =
    let are : bytes ≡ open_records (records_of h) ++ shut.gate ∷ shut.rest = front.are ∙ ap (λ (l : List ℕ). open_records (records_of h) ++ l) shut.are in
    record {
      is = record { short = front.short; image = record { fit = front.fit; gate = shut.gate; closed = shut.closed; rest = shut.rest; are = are } };
      only = λ other legal journal. alone other (legal, journal.short)
          (one_list (records_of other) (records_of h) journal.image.gate shut.gate journal.image.rest shut.rest journal.image.fit front.fit journal.image.closed
          shut.closed (sym journal.image.are ∙ are));
    }

bad_behind : (bytes : List ℕ) (h : List ItemTerm) (rest : List ℕ) → IsFront bytes h rest → IsLegal h → IsBadThere h rest → IsBadJournal bytes (length bytes - length rest)
bad_behind bytes h rest front legal bad = record { good = h; legal = inr legal; rest = rest; front = front; place_is = front_place bytes h rest front; bad = bad }

pub bad_refused : (bytes : List ℕ) (h : List ItemTerm) (rest r after : List ℕ) → IsFront bytes h rest → IsLegal h → BeginsRecord rest r after → HasAloneRecords h
    → IsNoRecord h r → IsBadJournal bytes (length bytes - length rest)
bad_refused bytes h rest r after front legal begins alone none =
    bad_behind bytes h rest front legal (not_taken r after begins (no_records_behind h r alone none))

pub bad_record : (bytes : List ℕ) (h : List ItemTerm) (rest : List ℕ) → IsFront bytes h rest → IsLegal h → IsBad rest → IsBadJournal bytes (length bytes - length rest)
bad_record bytes h rest front legal bad = bad_behind bytes h rest front legal (no_record bad)

pub bad_gate : (bytes : List ℕ) (h : List ItemTerm) (rest : List ℕ) → IsFront bytes h rest → IsLegal h → rest ≡ [] → IsBadJournal bytes (length bytes - length rest)
bad_gate bytes h rest front legal none = bad_behind bytes h rest front legal (no_gate none)

bad_first : (bytes : List ℕ) → IsBadThere [] bytes → IsBadJournal bytes 0
bad_first bytes bad = record { good = []; legal = inl refl; rest = bytes; front = front_none bytes; place_is = refl; bad = bad }

pub first_shut : (bytes : List ℕ) → IsShut bytes → IsBadJournal bytes 0
first_shut bytes shut = bad_first bytes (no_opening refl shut)

pub first_bad : (bytes : List ℕ) → IsBad bytes → IsBadJournal bytes 0
first_bad bytes bad = bad_first bytes (no_record bad)

pub first_missing : (bytes : List ℕ) → bytes ≡ [] → IsBadJournal bytes 0
first_missing bytes none = bad_first bytes (no_gate none)

pub first_unread : (bytes r after : List ℕ) → BeginsRecord bytes r after → IsNoRecord [] r → IsBadJournal bytes 0
first_unread bytes r after begins none = bad_first bytes (not_taken r after begins (no_records_behind [] r alone_none none))
