-- First parts, joined and taken apart.
use Rattle.std.proofs.Common.{◌≡◌, ℕ, List, map, Option, None, Some, refl, sym, ap, ◌∙◌}
use Rattle.std.specs.Prelude.{slice_get, IsSome, IfSome}
use Rattle.std.specs.Option.{option_map}
use Rattle.std.proofs.lemmas.Option.{slice_get-map}
use Rattle.task_model.specs.Terms.Rowed.{Rowed}
use Rattle.task_model.specs.Terms.Task.{TaskTerm, BodyTerm}
use Rattle.task_model.specs.Terms.Program.{DefTerm, ProgramTerm, program_term}
use Rattle.task_model.specs.Running.Checked.{SeenChecked, checked_term, counts_of, nodes_in}
use Rattle.task_evaluation.specs.declared.first_part.FirstPart.{FirstPart}
use Rattle.task_evaluation.specs.declared.kinds.StepKind.{StepKind}
use Rattle.task_evaluation.specs.declared.kinds.StepKind.TheVariants as steps
use Rattle.task_evaluation.specs.declared.kinds.PairKind.{PairKind}
use Rattle.task_evaluation.specs.declared.kinds.PairKind.TheVariants as pairs
use Rattle.task_evaluation.specs.Kinds.{step_task, pair_task}
use Rattle.task_evaluation.specs.FirstParts.{parts_joined, first_parts, parts_at, what_parts, parts_in_definitions, parts_in_bodies}
use Rattle.task_evaluation.specs.Tables.{lists}

-- the first parts of an equal task
pub parts_arm : (c : SeenChecked) {xs : List FirstPart} {t u : TaskTerm} → t ≡ u → xs ≡ parts_at c t → xs ≡ parts_at c u
parts_arm c e is = is ∙ ap (parts_at c) e

-- ---- steps and pairs of any kind
pub step_parts : (counts : List ℕ) (kind : StepKind) (t : TaskTerm) (i : ℕ) → first_parts counts (step_task kind t i) ≡ first_parts counts t
step_parts counts steps.Then t i = refl
step_parts counts steps.Next t i = refl

pub pair_parts : (counts : List ℕ) (kind : PairKind) (t u : TaskTerm)
    → first_parts counts (pair_task kind t u) ≡ parts_joined (nodes_in counts 0 t) (first_parts counts t) (first_parts counts u)
pair_parts counts pairs.And t u = refl
pair_parts counts pairs.Or t u = refl

-- ---- a table of rows, one for each item of a list
module _ {A B : Type 0} (f : B → List A) (rows : List (Rowed A)) (xs : List B) (i : ℕ) (table : lists rows ≡ map f xs) where
  same : option_map (λ (r : Rowed A). r.list) (slice_get rows i) ≡ option_map f (slice_get xs i)
  same = sym (slice_get-map (λ (r : Rowed A). r.list) rows i) ∙ ap (λ l. slice_get l i) table ∙ slice_get-map f xs i

  pub row_there : IsSome (slice_get xs i) → IsSome (slice_get rows i)
  row_there = by_rows (slice_get rows i) (slice_get xs i) same
    where
      by_rows : (o : Option (Rowed A)) (p : Option B) → option_map (λ (r : Rowed A). r.list) o ≡ option_map f p → IsSome p → IsSome o
      by_rows (Some r) p q s = refl
      by_rows None (Some x) q s = absurd cc
      by_rows None None q s = s

  pub row_is : (r : Rowed A) (x : B) → slice_get rows i ≡ Some r → slice_get xs i ≡ Some x → r.list ≡ f x
  row_is r x there here =
      let e : Some r.list ≡ Some (f x) = ap (option_map (λ (r : Rowed A). r.list)) (sym there) ∙ same ∙ ap (option_map f) here in
      cc

-- the row of a body, and that of a definition
pub body_row : (c : SeenChecked) (rows : List (Rowed FirstPart)) (i : ℕ) (r : Rowed FirstPart)
    → lists rows ≡ parts_in_bodies (counts_of (program_term c.program)) (program_term c.program).bodies → slice_get rows i ≡ Some r
    → IfSome (slice_get (checked_term c).program.bodies i) (λ own. r.list ≡ parts_at c own.task)
body_row c rows i r table there = by_get (slice_get (program_term c.program).bodies i) refl
  where
    by_get : (o : Option BodyTerm) → slice_get (program_term c.program).bodies i ≡ o → IfSome o (λ own. r.list ≡ parts_at c own.task)
    by_get None here = tt
    by_get (Some own) here = row_is (λ b. first_parts (counts_of (program_term c.program)) b.task) rows (program_term c.program).bodies i
        table r own there here

pub definition_row : (p : ProgramTerm) (rows : List (Rowed FirstPart)) (i : ℕ) (r : Rowed FirstPart)
    → lists rows ≡ parts_in_definitions (counts_of p) p.defs → slice_get rows i ≡ Some r
    → IfSome (slice_get p.defs i) (λ d. r.list ≡ what_parts (counts_of p) d.what)
definition_row p rows i r table there = by_get (slice_get p.defs i) refl
  where
    by_get : (o : Option DefTerm) → slice_get p.defs i ≡ o → IfSome o (λ d. r.list ≡ what_parts (counts_of p) d.what)
    by_get None here = tt
    by_get (Some d) here = row_is (λ d. what_parts (counts_of p) d.what) rows p.defs i table r d there here
