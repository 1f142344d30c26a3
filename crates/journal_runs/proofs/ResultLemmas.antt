-- Facts about the answer to a line.
use Rattle.std.proofs.Common.{◌≡◌, ℕ, Result, Ok, Err, refl, sym, subst}
use Rattle.std.specs.Prelude.{IfOk, IfErr, OnErr, MatchResult}
use Rattle.task_model.specs.declared.memory.OutOfMemory.{OutOfMemory}
use Rattle.task_model.specs.Terms.Rowed.{Rowed}
use Rattle.line_frame.specs.BadLine.{IfBad}
use Rattle.line_frame.specs.declared.machine.LineStop.{LineStop}
use Rattle.line_frame.specs.declared.machine.LineStop.TheVariants.{Bad, Memory}

-- two facts of an answer give a third one
pub answer_both : (r : Result (Rowed ℕ) LineStop) (P Q R : Rowed ℕ → Type 0) → ((text : Rowed ℕ) → P text → Q text → R text) → IfOk r P → IfOk r Q → IfOk r R
answer_both (Ok text) P Q R both p q = both text p q
answer_both (Err stop) P Q R both p q = tt

-- a line that has no answer for want of memory isn't bad
pub memory_not_bad : (r : Result (Rowed ℕ) LineStop) (P : ℕ → Type 0) → IfErr r (λ stop. stop ≡ Memory) → IfBad r P
memory_not_bad (Ok text) P is = tt
memory_not_bad (Err Memory) P is = tt
memory_not_bad (Err (Bad column)) P is = absurd (cc)

pub stop_alone : (r : Result (Rowed ℕ) LineStop) (X : Type 0) → IfErr r (λ _. X) → OnErr r X
stop_alone (Ok text) X x = tt
stop_alone (Err stop) X x = x

-- a text, or a line's stop where memory for it ran out
pub text_or_stop : (text : Result (Rowed ℕ) OutOfMemory) (result : Result (Rowed ℕ) LineStop) (P : Rowed ℕ → Type 0) (Q : Result (Rowed ℕ) LineStop → Type 0)
    → MatchResult text (λ row. result ≡ Ok row) (λ _. result ≡ Err Memory) → ((row : Rowed ℕ) → P row → Q (Ok row)) → Q (Err Memory) → IfOk text P → Q result
text_or_stop (Ok row) result P Q is whole none p = subst Q (sym is) (whole row p)
text_or_stop (Err e) result P Q is whole none p = subst Q (sym is) none
