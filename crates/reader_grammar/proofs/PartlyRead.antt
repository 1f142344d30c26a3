-- A production as it is read: some of its symbols were, and the others are left. What is read next goes on from there, and so does a fault.
use Rattle.std.proofs.Common.{◌≡◌, ℕ, ◌+◌, ◌≤◌, max, List, [], ◌∷◌, Ok, Err, arith}
use Rattle.exact_reading.specs.declared.stop.ParseStop.{ParseStop}
use Rattle.exact_reading.specs.Reading.{IsWithinLevels, Always, Anything, Answer, Right}
use Rattle.exact_reading.proofs.Symbols.{Sym, one, part, Values, One, Follow, Sequence, size, size_up, size_max, seq_one, seq_one_stop, seq_part, seq_part_stop, seq_done}
use Rattle.task_model.specs.Syntax.Lexemes.{Lexeme}
use Rattle.task_model.specs.Syntax.Grammar.{Form, Parse}
use Rattle.reader_grammar.specs.Languages.{Of, EndsForm, ReadsAs}
use Rattle.reader_grammar.proofs.GrammarLemmas.{grammar, least}
use Rattle.reader_grammar.proofs.RuleLemmas.{Rule, by_rule}

pub record PartlyRead {f : Form} (up : ℕ) (s : List (Sym grammar)) (build : Values grammar s → Parse f) (m room : ℕ)
    (ts rest : List Lexeme) : Type 0 where
  pub fits : size grammar up s m ≤ room
  pub goes_on : (r : Answer Lexeme (Parse f × ℕ))
      → Right (Sequence grammar up s build m) (IsWithinLevels room) (EndsForm f) rest r
      → Right (Of f) (IsWithinLevels room) (EndsForm f) ts r

-- the first token is there, and room for the production
pub begun : {f : Form} {up : ℕ} {t : Lexeme} (R : Rule f up t) {room : ℕ} {ts rest : List Lexeme} → ts ≡ t ∷ rest
    → size grammar up R.symbols 0 ≤ room → PartlyRead up R.symbols R.build 0 room ts rest
begun R e le = record { fits = le; goes_on = λ r right. by_rule R e le right }

-- before a part there is room for what comes after it
after_part : (up : ℕ) (f : Form) (s : List (Sym grammar)) (m room : ℕ) → size grammar up (part f ∷ s) m ≤ room → size grammar up s m ≤ room
after_part up f s m room le = let less = size_up grammar up s m (max m (least f)) (omega arith) in omega (arith, le, less)

module _ {f : Form} {up : ℕ} {m room : ℕ} {ts rest : List Lexeme} where
  -- a token of a class
  pub past_one : {c : grammar.Class} {s : List (Sym grammar)} {build : grammar.Payload c × Values grammar s → Parse f}
      {p : grammar.Payload c} {after : List Lexeme} → PartlyRead up (one c ∷ s) build m room ts rest
      → Right (One grammar c) Always Anything rest (Ok (p, after))
      → PartlyRead up s (λ vs. build (p, vs)) m room ts after
  past_one g found = record { fits = g.fits; goes_on = λ r right. g.goes_on r (seq_one grammar up g.fits found right) }

  pub stop_one : {c : grammar.Class} {s : List (Sym grammar)} {build : grammar.Payload c × Values grammar s → Parse f} {e : ParseStop}
      → PartlyRead up (one c ∷ s) build m room ts rest → Right (One grammar c) Always Anything rest (Err e)
      → Right (Of f) (IsWithinLevels room) (EndsForm f) ts (Err e)
  stop_one g right = g.goes_on _ (seq_one_stop grammar up g.fits right)

  -- a part, with room for the production's own levels less
  pub past_part : {g : Form} {s : List (Sym grammar)} {build : Parse g × Values grammar s → Parse f} {Y : Type 0} {show : Parse g × ℕ → Y}
      {within : ℕ} {y : Y} {after : List Lexeme} → PartlyRead up (part g ∷ s) build m room ts rest → Follow grammar g s (EndsForm f)
      → up + within ≡ room → (h : ReadsAs (Of g) (IsWithinLevels within) (EndsForm g) show rest (Ok (y, after)))
      → PartlyRead up s (λ vs. build (h.by.0.0, vs)) (max m h.by.0.1) room ts after
  past_part {g = form} {s = s} {build = build} g follow same h =
      let (x, shows, right) = h.by in
      let fits = right.by.fits in
      let small = after_part up form s m room g.fits in
      record {
        fits = size_max grammar up s m x.1 room small (omega (arith, fits, same));
        goes_on = λ r next. g.goes_on r (seq_part grammar up {build = build} {m = m} follow small same right next);
      }

  pub stop_part : {g : Form} {s : List (Sym grammar)} {build : Parse g × Values grammar s → Parse f} {within : ℕ} {e : ParseStop}
      → PartlyRead up (part g ∷ s) build m room ts rest → Follow grammar g s (EndsForm f) → up + within ≡ room
      → Right (Of g) (IsWithinLevels within) (EndsForm g) rest (Err e) → Right (Of f) (IsWithinLevels room) (EndsForm f) ts (Err e)
  stop_part {g = form} {s = s} {build = build} g follow same right =
      g.goes_on _ (seq_part_stop grammar up {build = build} {m = m} follow (after_part up form s m room g.fits) same right)

  -- all of it
  pub whole : {build : Unit {0} → Parse f} → PartlyRead up [] build m room ts rest
      → Right (Of f) (IsWithinLevels room) (EndsForm f) ts (Ok ((build tt, up + m), rest))
  whole g = g.goes_on _ (seq_done grammar up g.fits)
