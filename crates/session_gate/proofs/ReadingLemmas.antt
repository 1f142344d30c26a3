-- Reads one after the other, and what they leave.
use Rattle.std.proofs.Common.{◌≡◌, ℕ, ◌+◌, Bool, true, false, [], ◌++◌, length, take, drop, Option, None, Some, refl, ap, sym, subst, ◌∙◌, arith, append_assoc, append-nil, length-drop}
use Rattle.std.proofs.Math.Seq.{take-add}
use Rattle.std.proofs.lemmas.List.{length-take, take_all, take_at}
use Rattle.std.specs.Io.KnownBytes.{Consumes, IsAtEnd, Keeps}
use Rattle.std.proofs.KnownBytes.{Consumes-kept, Consumes-nil, Consumes-trans}
use Rattle.outer_io.specs.Links.{LinkTold}
use Rattle.outer_io.specs.Source.{Gave}
use Rattle.outer_io.specs.declared.source.Got.{Got}
use Rattle.outer_io.specs.declared.source.Got.TheVariants as got
use Rattle.task_model.specs.Terms.Text.{Text}
use Rattle.http_requests.specs.Knowledge.{HasRead}
use Rattle.http_requests.specs.RequestReading.{IsProgress, IsUnfinished}
use Rattle.http_requests.specs.declared.progress.Progress.{Progress}
use Rattle.http_requests.specs.declared.progress.Progress.TheVariants.{More}
use Rattle.http_requests.specs.declared.reader.RequestReader.{RequestReader}
use Rattle.session_gate.specs.Connections.{HasGivenAll}
use Rattle.session_gate.specs.Readings.{IsFilled, IsReadOnce, Reading, bytes_given, filled_of}

-- 1 until the link has ended
abbrev pub unless_ended : Bool → ℕ
unless_ended true = 0
unless_ended false = 1

pub reads_nothing : (a : LinkTold) (kept : Text) → Reading a a kept kept
reads_nothing a kept = record {
  bytes = [];
  consumed = Consumes-nil a.left;
  kept = sym (append-nil kept);
  whole = refl;
  taken = refl;
  write_faults = refl;
  is_shut = refl;
}

pub reads_more : {a b c : LinkTold} {kept mid last : Text} → Reading a b kept mid → Reading b c mid last → Reading a c kept last
reads_more {a} {b} {c} {kept} {mid} {last} p q = record {
  bytes = p.bytes ++ q.bytes;
  consumed = Consumes-trans a.left b.left c.left p.bytes q.bytes p.consumed q.consumed;
  kept = q.kept ∙ ap (λ z. z ++ q.bytes) p.kept ∙ append_assoc kept p.bytes q.bytes;
  whole = q.whole ∙ p.whole;
  taken = q.taken ∙ p.taken;
  write_faults = q.write_faults ∙ p.write_faults;
  is_shut = q.is_shut ∙ p.is_shut;
}

-- a reader that knows the bytes whatever follows knows them
pub knows_here : {reader : RequestReader} {bytes : Text} → ((more : Text) → HasRead reader (bytes ++ more)) → HasRead reader bytes
knows_here {reader} {bytes} knows = subst (HasRead reader) (append-nil bytes) (knows [])

-- and with those that follow
pub knows_more : {a b : LinkTold} {reader : RequestReader} {kept last : Text} → Reading a b kept last
    → ((more : Text) → HasRead reader (kept ++ more)) → (more : Text) → HasRead reader (last ++ more)
knows_more {a} {b} {reader} {kept} {last} r knows more =
    subst (λ (z : Text). HasRead reader (z ++ more)) (sym r.kept)
    (subst (HasRead reader) (sym (append_assoc kept r.bytes more)) (knows (r.bytes ++ more)))

-- the reader wants more of the kept bytes
pub unfinished : {bytes kept : Text} {ended : Bool} {p : Progress} → IsProgress bytes ended p → p ≡ More → bytes ≡ kept
    → IsUnfinished kept ended
unfinished {bytes} {kept} {ended} {p} is more same =
    subst (λ (z : Text). IsUnfinished z ended) same (subst (IsProgress bytes ended) more is)

-- ---- one read
-- the kept bytes stand in front of the room that is made behind them
pub in_front : (kept more : Text) (n held : ℕ) → held ≡ length kept → take held (take (held + n) kept ++ more) ≡ kept
in_front kept more n held e =
    let whole : take (held + n) kept ≡ kept = take_all (held + n) kept (omega (arith, e)) in
    ap (λ z. take held (z ++ more)) whole ∙ take_at kept more held (sym e)

-- what was written over all of a list
pub written_over : (old new : Text) → length new ≡ length old → take (length old) (new ++ drop (length new) old) ≡ new
written_over old new e = take_at new (drop (length new) old) (length old) e

gives : (a b : Option Text) (room : Text) (answer : Got) → Gave a b room answer → Consumes a b (take (bytes_given answer) room)
gives a b room (got.Took count) g = g.2
gives a b room got.End g = Consumes-kept a a b [] (Consumes-nil a) g.1
gives a b room got.Failed g = Consumes-kept a a b [] (Consumes-nil a) g

pub fill_reading : (a b : LinkTold) (kept room last : Text) (held : ℕ) (answer : Got) → take held room ≡ kept
    → IsReadOnce a b (drop held room) answer → last ≡ take (held + bytes_given answer) room → Reading a b kept last
fill_reading a b kept room last held answer front r e = record {
  bytes = take (bytes_given answer) (drop held room);
  consumed = gives a.left b.left (drop held room) answer r.gave;
  kept = e ∙ take-add held (bytes_given answer) room ∙ ap (λ z. z ++ take (bytes_given answer) (drop held room)) front;
  whole = r.whole;
  taken = r.taken;
  write_faults = r.write_faults;
  is_shut = r.is_shut;
}

ended : (a b : Option Text) → IsAtEnd a → Keeps a b → HasGivenAll a b
ended None b p q = tt
ended (Some xs) None p q = absurd q
ended (Some xs) (Some ys) p q = ap Some (q ∙ p)

pub fill_filled : (a b : LinkTold) (kept room last : Text) (held : ℕ) (answer : Got) → take held room ≡ kept → held ≡ length kept
    → IsReadOnce a b (drop held room) answer → last ≡ take (held + bytes_given answer) room → IsFilled (filled_of answer) a b kept last
fill_filled a b kept room last held (got.Took count) front size r e =
    let some = r.gave.0 in
    let few = r.gave.1 in
    let all = length-take (held + count) room in
    let behind = length-drop held room in
    (omega (arith, some, few, all, behind, size, ap length e), r.read_faults)
fill_filled a b kept room last held got.End front size r e =
    let none : held + 0 ≡ held = omega arith in (
      e ∙ ap (λ (n : ℕ). take n room) none ∙ front,
      ended a.left b.left r.gave.0 r.gave.1,
      r.read_faults,
    )
fill_filled a b kept room last held got.Failed front size r e =
    let none : held + 0 ≡ held = omega arith in (e ∙ ap (λ (n : ℕ). take n room) none ∙ front, r.read_faults)
