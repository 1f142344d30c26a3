-- Requests alone, and nothing that fails: a connection comes to its end.
use Rattle.std.proofs.Common.{◌≡◌, ◌≤◌, ℕ, false, true≢false, List, [], ◌∷◌, ◌++◌, Option, Some, None, refl, ap, sym, subst, ◌∙◌, arith, append_assoc, append-nil}
use Rattle.std.specs.Prelude.{unwrap_or}
use Rattle.std.specs.List.{AllByRecursion}
use Rattle.std.proofs.lemmas.List.Elements.{recursion_from_All}
use Rattle.std.specs.Io.KnownBytes.{Consumes}
use Rattle.outer_io.specs.Causes.{next_count, Rose}
use Rattle.outer_io.specs.Links.{LinkTold}
use Rattle.task_model.specs.Terms.Text.{Text}
use Rattle.http_requests.specs.Requests.{RequestTerm}
use Rattle.http_requests.specs.Streams.{BeginsWith, HasNoRequest, IsIdle, ends_asked}
use Rattle.http_requests.proofs.OneRequest.{one_request}
use Rattle.session_desk.specs.Desks.{DeskTerm}
use Rattle.session_gate.specs.Connections.{HoldsRequests, HasGivenAll, Served}
use Rattle.session_gate.specs.Completeness.{AreAnswerable, HasNoFault, IsWholeEnd}
use Rattle.session_gate.specs.declared.ending.Ending.{Ending}
use Rattle.session_gate.specs.declared.ending.Ending.TheVariants as ending
use Rattle.session_gate.specs.declared.note.Note.{Note}
use Rattle.session_gate.proofs.FirstRequests.{front_request}

-- the requests that bytes hold are the first of those that the same bytes hold with no whole request behind them
heads : (asked behind all blank : Text) (rs qs : List RequestTerm) → asked ++ behind ≡ all ++ blank → HoldsRequests asked rs
    → HoldsRequests all qs → HasNoRequest blank → (others : List RequestTerm) × (qs ≡ rs ++ others)
heads asked behind all blank [] qs e h k none = (qs, refl)
heads asked behind all blank (r ∷ rs) [] e h k none =
    absurd (none r (h.1 ++ behind)
    (subst (λ (z : Text). BeginsWith z r (h.1 ++ behind)) (e ∙ ap (λ z. z ++ blank) k) (front_request asked h.1 h.0 behind r h.2 h.3)))
heads asked behind all blank (r ∷ rs) (q ∷ qs) e h k none =
    let here = subst (λ (z : Text). BeginsWith z r (h.1 ++ behind)) e (front_request asked h.1 h.0 behind r h.2 h.3) in
    let (same, rests) = one_request (all ++ blank) r q (h.1 ++ behind) (k.1 ++ blank) here (front_request all k.1 k.0 blank q k.2 k.3) in
    let ih = heads h.1 behind k.1 blank rs qs rests h.4 k.4 none in
    (ih.0, ap (λ z. z ∷ qs) (sym same) ∙ ap (λ z. r ∷ z) ih.1)

-- what has no whole request behind the requests of the same bytes is the same
behind_all : (asked kept all blank : Text) (rs qs : List RequestTerm) → asked ++ kept ≡ all ++ blank → HoldsRequests asked rs
    → HoldsRequests all qs → HasNoRequest kept → HasNoRequest blank → kept ≡ blank
behind_all asked kept all blank [] [] e h k unread none = sym (ap (λ z. z ++ kept) h) ∙ e ∙ ap (λ z. z ++ blank) k
behind_all asked kept all blank [] (q ∷ qs) e h k unread none =
    absurd (unread q (k.1 ++ blank)
    (subst (λ (z : Text). BeginsWith z q (k.1 ++ blank)) (sym e ∙ ap (λ z. z ++ kept) h) (front_request all k.1 k.0 blank q k.2 k.3)))
behind_all asked kept all blank (r ∷ rs) [] e h k unread none =
    absurd (none r (h.1 ++ kept)
    (subst (λ (z : Text). BeginsWith z r (h.1 ++ kept)) (e ∙ ap (λ z. z ++ blank) k) (front_request asked h.1 h.0 kept r h.2 h.3)))
behind_all asked kept all blank (r ∷ rs) (q ∷ qs) e h k unread none =
    let here = subst (λ (z : Text). BeginsWith z r (h.1 ++ kept)) e (front_request asked h.1 h.0 kept r h.2 h.3) in
    let (same, rests) = one_request (all ++ blank) r q (h.1 ++ kept) (k.1 ++ blank) here (front_request all k.1 k.0 blank q k.2 k.3) in
    behind_all h.1 kept k.1 blank rs qs rests h.4 k.4 unread none

-- what holds of all holds of one in the middle
of_middle : {A : Type 0} (P : A → Type 0) (before others : List A) (item : A) → AllByRecursion P ((before ++ item ∷ []) ++ others) → P item
of_middle P [] others item all = all.0
of_middle P (x ∷ before) others item all = of_middle P before others item all.1

-- of told bytes some were read, and the others are left
some_read : (first last : Option Text) (bytes read : Text) → first ≡ Some bytes → Consumes first last read
    → (left : Text) × (bytes ≡ read ++ left)
some_read None last bytes read e c = absurd cc
some_read (Some all) None bytes read e c = absurd c
some_read (Some all) (Some left) bytes read e c = (left, sym (ap (λ o. unwrap_or o []) e) ∙ c)

all_read : (first last : Option Text) (bytes read : Text) → first ≡ Some bytes → Consumes first last read → HasGivenAll first last
    → bytes ≡ read
all_read None last bytes read e c g = absurd cc
all_read (Some all) None bytes read e c g = absurd c
all_read (Some all) (Some left) bytes read e c g =
    sym (ap (λ o. unwrap_or o []) e) ∙ c ∙ ap (λ z. read ++ z) (ap (λ o. unwrap_or o []) g) ∙ append-nil read

rose : (before after : ℕ) → after ≡ next_count before → Rose before after
rose before after e = subst (λ n. next_count before ≤ n) (sym e) (omega arith)

module _ (old new : DeskTerm) (before after : LinkTold) (notes : List Note) (bytes : Text) (told : before.left ≡ Some bytes)
    (given : AreAnswerable bytes) (none : HasNoRequest given.blank) (fine : HasNoFault before after) where
  never_cut : Served old new before after notes ending.Cut → ⊥
  never_cut s =
      let x = s.exchange in
      let read = all_read before.left after.left bytes x.bytes told x.read s.ending.4 in
      let same = behind_all x.asked s.kept given.asked given.blank s.requests given.requests (sym x.split ∙ sym read ∙ given.split) x.holds
      given.holds s.ending.2 none in
      s.ending.3 (subst IsIdle (sym same) given.idle)

  never_refused : (status : ℕ) → Served old new before after notes (ending.Refused status) → ⊥
  never_refused status s =
      let x = s.exchange in
      let left = some_read before.left after.left bytes x.bytes told x.read in
      let whole : x.asked ++ (s.kept ++ left.0) ≡ given.asked ++ given.blank =
      sym (append_assoc x.asked s.kept left.0) ∙ ap (λ z. z ++ left.0) (sym x.split) ∙ sym left.1 ∙ given.split in
      let firsts = heads x.asked (s.kept ++ left.0) given.asked given.blank s.requests given.requests whole x.holds given.holds none in
      let last = s.ending.1 in
      let all = subst (AllByRecursion (λ (r : RequestTerm). ends_asked r.asked ≡ false)) (firsts.1 ∙ ap (λ z. z ++ firsts.0) last.1)
      (recursion_from_All (λ (r : RequestTerm). ends_asked r.asked ≡ false) given.requests given.stay) in
      true≢false (sym (ap ends_asked s.ending.4) ∙ of_middle (λ r. ends_asked r.asked ≡ false) last.0 firsts.0 s.ending.0 all)

  pub complete : (end : Ending) → Served old new before after notes end → IsWholeEnd end
  complete ending.Ended s = tt
  complete ending.Cut s = never_cut s
  complete ending.Parted s = tt
  complete (ending.Refused status) s = never_refused status s
  complete ending.Spent s = tt
  complete ending.ReadFault s = fine.0 (rose before.read_faults after.read_faults s.read_faults)
  complete ending.WriteFault s = fine.1 (rose before.write_faults after.write_faults s.write_faults)
  complete ending.Memory s = tt
