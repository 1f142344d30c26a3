-- The program that a check has seen.
use Rattle.std.proofs.Common.{◌≡◌, List, [], ◌++◌, map, None, Result, Ok, Err, refl, sym, ap, ◌∙◌, subst}
use Rattle.std.specs.Prelude.{IsErrAnd}
use Rattle.task_model.specs.Terms.Basic.{BasicTerm}
use Rattle.task_model.specs.Terms.Task.{body_term}
use Rattle.task_model.specs.Terms.Program.{ProgramTerm, def_term, program_term}
use Rattle.task_model.specs.declared.task.Body.{Body}
use Rattle.task_model.specs.declared.program.Program.{Program}
use Rattle.host_types.specs.declared.definitions.Definitions.{Definitions}
use Rattle.host_types.specs.declared.fault.CheckStop.{CheckStop}
use Rattle.task_model.specs.Checking.TypeFault.{first_fault}
use Rattle.task_model.specs.Checking.TaskDemands.{demands_of, types_of, fault_of}
use Rattle.host_types.specs.Answer.{StopsBy, IsStop}
use Rattle.task_model.specs.Checking.Accepted.{IsAccepted}
use Rattle.host_types.specs.declared.fault.CheckStop.TheVariants.{Fault, Memory}
use Rattle.host_types.specs.CheckWords.{seen_program, IsChecked, IsFirstTypeFault}
use Rattle.task_model.specs.Syntax.Written.{IsWritten}
use Rattle.task_model.proofs.DemandLemmas.{first_unmet-listed}

same_program : (d : Definitions) (bodies : List Body) (p : Program) → d.defs.now ≡ p.defs.list → bodies ≡ p.bodies.list
    → seen_program d bodies ≡ program_term p
same_program d bodies p e f =
    ap (λ ds. let q : ProgramTerm = record { defs = map def_term ds; bodies = map body_term bodies } in q) e
    ∙ ap (λ bs. let q : ProgramTerm = record { defs = map def_term p.defs.list; bodies = map body_term bs } in q) f

pub seen_accepted : (d : Definitions) (bodies : List Body) (p : Program) (old types : List BasicTerm) → d.defs.now ≡ p.defs.list
    → bodies ≡ p.bodies.list → old ≡ []
    → IsWritten (program_term p) → IsChecked (demands_of (seen_program d bodies)) (old ++ types_of (seen_program d bodies)) types
    → IsAccepted (record { program = program_term p; types = types })
seen_accepted d bodies p old types e f none written c =
    let same = same_program d bodies p e f in
    record {
      written = written;
      met = first_unmet-listed (demands_of (program_term p)) ∙ ap (λ q. first_fault (demands_of q)) (sym same) ∙ c.none;
      types = c.types ∙ ap (λ l. l ++ types_of (seen_program d bodies)) none ∙ ap types_of same;
    }

pub seen_fault : (d : Definitions) (bodies : List Body) (p : Program) (stop : CheckStop) → d.defs.now ≡ p.defs.list
    → bodies ≡ p.bodies.list → IsStop (demands_of (seen_program d bodies)) stop → IsFirstTypeFault (program_term p) stop
seen_fault d bodies p stop e f s =
    record {
      by =
          subst (λ o. StopsBy o stop)
          (ap (λ q. first_fault (demands_of q)) (same_program d bodies p e f) ∙ sym (first_unmet-listed (demands_of (program_term p))))
          s.by;
    }

-- what a `?` passes on
pub stopped : {X : Type 0} (r : Result X CheckStop) (stop : CheckStop) → IsErrAnd r (λ e. e ≡ stop) → r ≡ Err stop
stopped (Ok x) stop h = absurd h
stopped (Err e) stop h = ap Err h

-- where every demand is met there is no fault
pub no_fault : (p : ProgramTerm) (stop : CheckStop) → IsFirstTypeFault p stop → fault_of p ≡ None → stop ≡ Memory
no_fault p (Fault n k) h e = let no = h.by in absurd cc
no_fault p Memory h e = refl
