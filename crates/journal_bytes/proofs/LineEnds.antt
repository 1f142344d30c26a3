-- A line without its LF, and what lines ask for.
use Rattle.std.proofs.Common.{◌≡◌, ℕ, sym, ◌-◌, ◌≤◌, List, [], ◌∷◌, ◌++◌, length, take, ◌∙◌, ap, arith, length-append}
use Rattle.std.proofs.lemmas.List.{take_at}
use Rattle.task_model.specs.Terms.Input.{EntryTerm}
use Rattle.line_frame.specs.declared.machine.LineStop.{LineStop}
use Rattle.line_frame.specs.declared.machine.LineStop.TheVariants as stops
use Rattle.input_lines.specs.ScriptLines.{LineTerm, nothing, shows, gives}

pub without_end : (t l : List ℕ) → t ≡ l ++ 10 ∷ [] → take (length t - 1) t ≡ l
without_end t l is = ap (λ (k : List ℕ). take (length t - 1) k) is ∙ take_at l (10 ∷ []) (length t - 1) (omega (arith, ap length is, length-append l (10 ∷ [])))

pub has_end : (t l : List ℕ) → t ≡ l ++ 10 ∷ [] → 1 ≤ length t
has_end t l is = omega (arith, ap length is, length-append l (10 ∷ []))

-- ---- what a line asks for
pub nothing_is_no_entry : (e : EntryTerm) → nothing ≡ gives e → ⊥
nothing_is_no_entry e is = cc

pub a_page_is_no_entry : (seat : ℕ) (e : EntryTerm) → shows seat ≡ gives e → ⊥
a_page_is_no_entry seat e is = cc

abbrev entry_in : EntryTerm → LineTerm → EntryTerm
entry_in usual nothing = usual
entry_in usual (shows seat) = usual
entry_in usual (gives e) = e

pub bad_is_no_want : (stop : LineStop) (column : ℕ) → stop ≡ stops.Bad column → stop ≡ stops.Memory → ⊥
bad_is_no_want stop column is want = none (sym is ∙ want)
  where
    none : stops.Bad column ≡ stops.Memory → ⊥
    none e = cc

pub same_entry : (a b : EntryTerm) → gives a ≡ gives b → a ≡ b
same_entry a b is = ap (entry_in a) is
