-- From the front of a line of any length to what is said within the limit.
use Rattle.std.proofs.lemmas.Bool.{cases_lt}
use Rattle.std.proofs.lemmas.List.{length-take-le, take-append-drop, take_more, drop_all, take_all}
use Rattle.std.proofs.Math.Seq.{drop-cons}
use Rattle.std.proofs.Common.{◌≡◌, ◌↔◌, ℕ, zero, suc, ◌+◌, ◌≤◌, ◌<◌, ◌⊎◌, inl, inr, false, [], ◌∷◌, ◌++◌, length, take, drop, get_or, refl, sym, ap, ◌∙◌, subst, arith, append_assoc, length-append}
use Rattle.exact_reading.specs.declared.stop.FaultKind.TheVariants.{Unexpected}
use Rattle.exact_reading.specs.Reading.{IsViablePrefix, Always}
use Rattle.exact_reading.specs.Whole.{IsFault}
use Rattle.exact_reading.proofs.Sequences.{append_nil}
use Rattle.task_model.specs.Terms.Text.{Text}
use Rattle.input_lines.specs.declared.standing.Standing.{Standing}
use Rattle.input_lines.specs.ShortestRest.{shortest_rest, behind_byte, behind_bytes, at_start}
use Rattle.input_lines.specs.ScriptLines.{LineTerm, nothing, empty, IsScriptLine}
use Rattle.input_lines.specs.LinePlaces.{IsLineWithin, BeginsLine, IsBadLine}
use Rattle.input_lines.specs.LineFronts.{HasNoRoom, IsLongestFront}
use Rattle.input_lines.proofs.FillLemmas.{behind_append}
use Rattle.input_lines.proofs.RoomLemmas.{HasRoom, has_room, begins_line}

-- the empty line
pub some_line : IsViablePrefix IsScriptLine Always []
some_line = ([], nothing, record { parse = empty; returned = false; are = refl; stands_for = refl }, tt)

-- what begins a line begins one with each of its fronts
pub begins_with_less : (p q : Text) → IsViablePrefix IsScriptLine Always (p ++ q) → IsViablePrefix IsScriptLine Always p
begins_with_less p q (w, l, is, _) = (q ++ w, l, subst (λ s. IsScriptLine s l) (append_assoc p q w) is, tt)

pub whole_begins : (t : Text) (l : LineTerm) → IsScriptLine t l → IsViablePrefix IsScriptLine Always t
whole_begins t l is = ([], l, subst (λ s. IsScriptLine s l) (sym (append_nil t)) is, tt)

-- ---- the longest front
-- there is room for so many bytes, and not for one more
pub stops_before : (longest : ℕ) (t : Text) (place : ℕ) → IsViablePrefix IsScriptLine Always t → place < length t
    → HasRoom longest (take place t) → (HasRoom longest (take (place + 1) t) → ⊥) → IsLongestFront longest t place
stops_before longest t place is lt room no_room = record {
  front = take place t;
  back = get_or t place 0 ∷ drop (suc place) t;
  split = sym (take-append-drop place t) ∙ ap (λ l. take place t ++ l) (drop-cons t place 0 lt);
  at = length-take-le place t (omega (arith, lt));
  begins = begins_line longest (take place t) (begins_with_less (take place t) (drop place t)
      (subst (IsViablePrefix IsScriptLine Always) (sym (take-append-drop place t)) is)) room;
  stops = λ begins. no_room (has_room longest (take (place + 1) t) (subst (BeginsLine longest) (sym (take_more t place 0 lt)) begins));
}

-- there is room for all bytes
pub stops_behind : (longest : ℕ) (t : Text) → IsViablePrefix IsScriptLine Always t → HasRoom longest t → IsLongestFront longest t (length t)
stops_behind longest t is room = record {
  front = t;
  back = [];
  split = sym (append_nil t);
  at = refl;
  begins = begins_line longest t is room;
  stops = tt;
}

room_or_not : (longest : ℕ) (p : Text) → (HasRoom longest p → ⊥) ⊎ HasRoom longest p
room_or_not longest p = go (cases_lt longest (length p + shortest_rest (behind_bytes at_start p)))
  where
    go : (longest < length p + shortest_rest (behind_bytes at_start p)) ⊎ HasRoom longest p → (HasRoom longest p → ⊥) ⊎ HasRoom longest p
    go (inl over) = inl (λ le. omega (arith, over, le))
    go (inr le) = inr le

-- with so many bytes left
front_from : (longest : ℕ) (t : Text) → IsViablePrefix IsScriptLine Always t → (left place : ℕ) → place + left ≡ length t
    → HasRoom longest (take place t) → (n : ℕ) × IsLongestFront longest t n
front_from longest t is zero place sum room =
    (length t, stops_behind longest t is (subst (HasRoom longest) (take_all place t (omega (arith, sum))) room))
front_from longest t is (suc left) place sum room =
    go (room_or_not longest (take (place + 1) t)) (front_from longest t is left (place + 1) (omega (arith, sum)))
  where
    go : (HasRoom longest (take (place + 1) t) → ⊥) ⊎ HasRoom longest (take (place + 1) t)
        → (HasRoom longest (take (place + 1) t) → (n : ℕ) × IsLongestFront longest t n) → (n : ℕ) × IsLongestFront longest t n
    go (inl no_room) more = (place, stops_before longest t place is (omega (arith, sum)) room no_room)
    go (inr le) more = more le

pub longest_front : (longest : ℕ) (t : Text) → IsViablePrefix IsScriptLine Always t → (place : ℕ) × IsLongestFront longest t place
longest_front longest t is = front_from longest t is (length t) 0 (omega arith) (omega arith)

-- ---- the scan
-- where so many bytes stand
abbrev pub StandsBehind : Text → ℕ → Standing → Type 0
StandsBehind t place s = s ≡ behind_bytes at_start (take place t)

pub one_more : (t : Text) (place : ℕ) (s new : Standing) → place < length t → StandsBehind t place s
    → new ≡ behind_byte s (get_or t place 0) → StandsBehind t (place + 1) new
one_more t place s new lt at to = to ∙ ap (λ q. behind_byte q (get_or t place 0)) at
    ∙ sym (behind_append at_start (take place t) (get_or t place 0 ∷ [])) ∙ ap (behind_bytes at_start) (sym (take_more t place 0 lt))

pub room_behind : (longest : ℕ) (t : Text) (place : ℕ) (s : Standing) → place ≤ length t → StandsBehind t place s
    → (place + shortest_rest s ≤ longest) ↔ HasRoom longest (take place t)
room_behind longest t place s le at =
    let long = length-take-le place t le in
    let same = ap shortest_rest at in
    (λ room. omega (arith, long, same, room), λ room. omega (arith, long, same, room))

-- ---- faults
pub begins_short : (longest : ℕ) (p : Text) → BeginsLine longest p → length p ≤ longest
begins_short longest p (w, l, (is, le), _) = let long = length-append p w in omega (arith, le, long)

-- what is at fault at any length is at fault within the limit
fault_within : (longest : ℕ) (front back : Text) → IsFault IsScriptLine Always front back Unexpected
    → IsFault (IsLineWithin longest) Always front back Unexpected
fault_within longest front [] stops = λ l is. stops l is.0
fault_within longest front (byte ∷ back) stops = λ (w, l, is, _). stops (w, l, is.0, tt)

-- no line within the limit is longer than that
pub over_long : (longest : ℕ) (front back : Text) → longest ≤ length front → 0 < length back
    → IsFault (IsLineWithin longest) Always front back Unexpected
over_long longest front [] all some = absurd (omega (arith, some))
over_long longest front (byte ∷ back) all some = λ begins.
    let few = begins_short longest (front ++ (byte ∷ [])) begins in
    let long = length-append front (byte ∷ []) in
    omega (arith, few, long, all)

pub line_over_long : (longest : ℕ) (t : Text) → longest < length t
    → IsFault (IsLineWithin longest) Always (take longest t) (drop longest t) Unexpected
line_over_long longest t over =
    let long = length-take-le longest t (omega (arith, over)) in
    let all = ap length (take-append-drop longest t) in
    let both = length-append (take longest t) (drop longest t) in
    over_long longest (take longest t) (drop longest t) (omega (arith, long)) (omega (arith, over, all, both, long))

-- a fault in the first bytes of all, at most so many as the longest line has
pub fault_cut : (longest : ℕ) (t front back : Text) → take longest t ≡ front ++ back → IsFault IsScriptLine Always front back Unexpected
    → IsFault (IsLineWithin longest) Always front (back ++ drop longest t) Unexpected
fault_cut longest t front [] e stops = go (cases_lt longest (length t))
  where
    all : take longest t ≡ front
    all = e ∙ append_nil front

    go : (longest < length t) ⊎ (length t ≤ longest) → IsFault (IsLineWithin longest) Always front (drop longest t) Unexpected
    go (inl over) = subst (λ f. IsFault (IsLineWithin longest) Always f (drop longest t) Unexpected) all (line_over_long longest t over)
    go (inr le) = subst (λ r. IsFault (IsLineWithin longest) Always front r Unexpected) (sym (drop_all longest t le))
        (fault_within longest front [] stops)
fault_cut longest t front (byte ∷ back) e stops = fault_within longest front (byte ∷ back) stops

-- ---- places
-- bytes whose front begins a line of some length, and nothing behind it goes on within the limit, are bad behind its longest front
pub bad_line : (longest : ℕ) (t front rest : Text) (place : ℕ) → t ≡ front ++ rest → IsLongestFront longest front place
    → IsFault (IsLineWithin longest) Always front rest Unexpected → IsBadLine longest t place
bad_line longest t front rest place e h stops = record {
  front = h.front;
  back = h.back ++ rest;
  split = e ∙ ap (λ l. l ++ rest) h.split ∙ append_assoc h.front h.back rest;
  at = h.at;
  begins = λ _. h.begins;
  nothing = λ no. absurd (no (begins_line longest [] some_line (omega arith)));
  stops = go h.back h.split h.stops;
}
  where
    go : (back : Text) → front ≡ h.front ++ back → HasNoRoom longest h.front back
        → IsFault (IsLineWithin longest) Always h.front (back ++ rest) Unexpected
    go [] same room = subst (λ s. IsFault (IsLineWithin longest) Always s rest Unexpected) (same ∙ append_nil h.front) stops
    go (byte ∷ back) same no_room = no_room
