-- Lines of any length, by the laws on lines, in each form.
use Rattle.std.proofs.Common.{◌≡◌, ℕ, ◌+◌, ◌≤◌, length, take, inl, inr, ◌⊎◌, refl, sym, ◌∙◌, subst, arith}
use Rattle.std.proofs.lemmas.Bool.Decides.{leb_tells}
use Rattle.std.proofs.lemmas.List.{take_all}
use Rattle.task_model.specs.Terms.Text.{Text}
use Rattle.input_lines.specs.ScriptLines.{LineTerm, IsScriptLine}
use Rattle.input_lines.specs.LinePlaces.{IsLineWithin, IsBadLine}
use Rattle.json_face.proofs.AskedLemmas.{one_asked}
use Rattle.json_face.proofs.LineDecisions.{json_line_or_none}
use Rattle.world_answers.specs.declared.line_form.LineForm.{LineForm}
use Rattle.world_answers.specs.declared.line_form.LineForm.TheVariants.{Script, Json}
use Rattle.tophat.specs.LineForms.{Asking, IsAsking, IsOutside}
use Rattle.input_lines.proofs.Decisions.{one_line_meaning, line_or_place}
use Rattle.input_lines.proofs.LawLemmas.{one_place, line_is_good, of_front}

line_once : (line : Text) (m n : LineTerm) → IsScriptLine line m → IsScriptLine line n → m ≡ n
line_once line m n p q = one_line_meaning line m n p q

bad_once : (longest : ℕ) (line : Text) (p q : ℕ) → IsBadLine longest line p → IsBadLine longest line q → p ≡ q
bad_once longest line p q a b = one_place longest line p q a b

line_apart : (longest : ℕ) (line : Text) (m : LineTerm) (p : ℕ) → IsLineWithin longest line m → IsBadLine longest line p → ⊥
line_apart longest line m p a b = line_is_good longest line m p a.0 a.1 b

-- the first bytes of a line tell where it is bad
cut_bad : (longest : ℕ) (whole : Text) (p : ℕ) → IsBadLine longest (take (longest + 1) whole) p → IsBadLine longest whole p
cut_bad longest whole p h = elim (leb_tells (length whole) longest) [
  | inl q ↦ let le = q.1 in subst (λ (z : Text). IsBadLine longest z p) (take_all (longest + 1) whole (omega arith)) h
  | inr q ↦ of_front longest whole q.1 p h
]

line_decided : (longest : ℕ) (line : Text) → ((m : LineTerm) × IsLineWithin longest line m) ⊎ ((p : ℕ) × IsBadLine longest line p)
line_decided longest line = elim (line_or_place longest line) [
  | inl (m, is, le) ↦ inl (m, (is, le))
  | inr (p, bad) ↦ inr (p, bad)
]

-- ---- in each form
-- what a line asks for is one thing
pub asked_once : (form : LineForm) (longest : ℕ) (line : Text) (m n : LineTerm) → IsAsking form longest line m → IsAsking form longest line n
    → m ≡ n
asked_once Script longest line m n p q = line_once line m n p.0 q.0
asked_once Json longest line m n p q = one_asked longest line m n p q

-- a line outside the form is so at one place
pub outside_once : (form : LineForm) (longest : ℕ) (line : Text) (p q : ℕ) → IsOutside form longest line p → IsOutside form longest line q
    → p ≡ q
outside_once Script longest line p q a b = bad_once longest line p q a b
outside_once Json longest line p q a b = a.1 ∙ sym b.1

pub form_apart : (form : LineForm) (longest : ℕ) (line : Text) (m : LineTerm) (p : ℕ) → IsAsking form longest line m
    → IsOutside form longest line p → ⊥
form_apart Script longest line m p a b = line_apart longest line m p a b
form_apart Json longest line m p a b = b.0 m a

-- the first bytes of a line tell where it is outside
pub cut_outside : (form : LineForm) (longest : ℕ) (whole : Text) (p : ℕ) → IsOutside form longest (take (longest + 1) whole) p
    → IsOutside form longest whole p
cut_outside Script longest whole p h = cut_bad longest whole p h
cut_outside Json longest whole p h = elim (leb_tells (length whole) longest) [
  | inl q ↦ let le = q.1 in subst (λ (z : Text). IsOutside Json longest z p) (take_all (longest + 1) whole (omega arith)) h
  | inr q ↦ (λ m is. let le = is.within in let over = q.1 in absurd (omega (arith, le, over)), h.1)
]

pub form_decided : (form : LineForm) (longest : ℕ) (line : Text)
    → ((m : LineTerm) × IsAsking form longest line m) ⊎ ((p : ℕ) × IsOutside form longest line p)
form_decided Script longest line = line_decided longest line
form_decided Json longest line = elim (json_line_or_none longest line) [
  | inl p ↦ inl p
  | inr none ↦ inr (0, (none, refl))
]

-- a line in the form is no longer than the longest
pub asking_within : (form : LineForm) (longest : ℕ) (line : Text) (m : LineTerm) → IsAsking form longest line m → length line ≤ longest
asking_within Script longest line m a = a.1
asking_within Json longest line m a = a.within

-- and it asks for this, whatever the longest is
pub asking_of : (form : LineForm) (longest : ℕ) (line : Text) (m : LineTerm) → IsAsking form longest line m → Asking form line m
asking_of Script longest line m a = a.0
asking_of Json longest line m a = a.is
