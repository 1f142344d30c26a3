use denote.Shadow.{shadow}
use denote.Text.{Utf8}
use Rattle.std.proofs.Common.{◌≡◌, List, ◌∷◌, ◌++◌, length, string_bytes}
use Rattle.task_model.specs.Terms.Token.{TextPart, spelled, PartsAre}
use Rattle.task_syntax.proofs.text.text_at.Given as goal

abbrev pub invariant-loop-first : goal.invariant-loop-first
invariant-loop-first l = record {
  utf8 : shadow (Utf8 l.rest);
  so_far : (ps : List TextPart) × (l.text ≡ 34 ∷ spelled ps ++ l.rest) × PartsAre ps (string_bytes l.content);
}

abbrev pub decreases-loop-first : goal.decreases-loop-first
decreases-loop-first l = length l.rest
