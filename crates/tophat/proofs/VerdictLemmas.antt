-- The one verdict on bytes.
use Rattle.std.proofs.Common.{◌≡◌, ℕ, List, Option, Some, None, refl, sym, ◌∙◌, ap, subst}
use Rattle.task_model.specs.Terms.Text.{Text}
use Rattle.task_model.specs.Terms.Program.{ProgramTerm}
use Rattle.task_model.specs.Running.Checked.{CheckedTerm}
use Rattle.task_model.specs.Checking.TypeFault.{TypeFaultTerm}
use Rattle.task_model.specs.Checking.TaskDemands.{fault_of}
use Rattle.task_model.specs.Checking.Accepted.{IsAccepted, typed_program}
use Rattle.task_model.specs.Syntax.ProgramText.{IsProgramText}
use Rattle.reader_grammar.specs.Faults.{IsFaultOf}
use Rattle.reader_grammar.proofs.ReadingLemmas.{fault_once, fault_apart}
use Rattle.task_syntax.specs.declared.stop.ReadKind.{ReadKind}
use Rattle.tophat.specs.declared.refusal.Refusal.TheVariants.{Read, Typed}
use Rattle.tophat.specs.TypeFaultText.{type_fault_text}
use Rattle.tophat.specs.Verdict.{Verdict, accepted, refused, node_place, IsVerdict, IsOnlyVerdict, Judges, Refuses}
use Rattle.tophat.specs.declared.no_world.NoWorld.{NoWorld}
use Rattle.tophat.specs.declared.no_world.NoWorld.TheVariants.{Refused, OverBudget, Memory}
use Rattle.std.specs.Prelude.{Err}

some_is : {A : Type 0} (a b : A) → Some a ≡ Some b → a ≡ b
some_is a b e = cc

none_some : {A : Type 0} (a : A) (o : Option A) → o ≡ None → o ≡ Some a → ⊥
none_some a o n s = absurd (cc)

-- an accepted program has the types that it gives
types_given : (c : CheckedTerm) → IsAccepted c → c ≡ typed_program c.program
types_given c a = ap (λ ts. record { program = c.program; types = ts }) a.types

-- the bytes have no program, and this is their first fault
pub read_refused : (bytes : Text) (kind : ReadKind) (place : ℕ) → IsFaultOf bytes kind place
    → IsOnlyVerdict bytes (refused place (Read kind))
read_refused bytes kind place fault = record { is = fault; only = others }
  where
    others : (other : Verdict) → IsVerdict bytes other → other ≡ refused place (Read kind)
    others (accepted c) (places, text, a) = absurd (fault_apart bytes kind place c.program places fault text)
    others (refused at (Read cause)) h =
        let same = fault_once bytes cause kind at place h fault in
        ap (λ (k : ReadKind). refused at (Read k)) same.0 ∙ ap (λ (n : ℕ). refused n (Read kind)) same.1
    others (refused at (Typed text)) h = absurd (fault_apart bytes kind place h.program h.places fault h.has)

module _ (bytes : Text) (p : ProgramTerm) (places : List ℕ) (has : IsProgramText bytes p places)
    (only : (q : ProgramTerm) (others : List ℕ) → IsProgramText bytes q others → (q ≡ p) × (others ≡ places)) where
  -- they have this program, which is accepted
  pub program_accepted : (c : CheckedTerm) → c.program ≡ p → IsAccepted c → IsOnlyVerdict bytes (accepted c)
  program_accepted c same a = record {
    is = (places, subst (λ (q : ProgramTerm). IsProgramText bytes q places) (sym same) has, a);
    only = others;
  }
    where
      others : (other : Verdict) → IsVerdict bytes other → other ≡ accepted c
      others (accepted d) (others_places, text, b) =
          let e : d.program ≡ c.program = (only d.program others_places text).0 ∙ sym same in
          ap accepted (types_given d b ∙ ap typed_program e ∙ sym (types_given c a))
      others (refused at (Read cause)) h = absurd (fault_apart bytes cause at p places h has)
      others (refused at (Typed text)) h =
          let e : h.program ≡ c.program = (only h.program h.places h.has).0 ∙ sym same in
          absurd (none_some h.fault (fault_of c.program) a.met (subst (λ (q : ProgramTerm). fault_of q ≡ Some h.fault) e h.first))

  -- they have this program, and this is the first fault of its types
  pub program_refused : (fault : TypeFaultTerm) → fault_of p ≡ Some fault
      → IsOnlyVerdict bytes (refused (node_place bytes places fault.node) (Typed (type_fault_text fault.kind)))
  program_refused fault first = record {
    is = record { program = p; places = places; has = has; fault = fault; first = first; at = refl; told = refl };
    only = others;
  }
    where
      others : (other : Verdict) → IsVerdict bytes other → other ≡ refused (node_place bytes places fault.node)
          (Typed (type_fault_text fault.kind))
      others (accepted d) (others_places, text, b) =
          let e : d.program ≡ p = (only d.program others_places text).0 in
          absurd (none_some fault (fault_of d.program) b.met (subst (λ (q : ProgramTerm). fault_of q ≡ Some fault) (sym e) first))
      others (refused at (Read cause)) h = absurd (fault_apart bytes cause at p places h has)
      others (refused at (Typed text)) h =
          let e = only h.program h.places h.has in
          let same : h.fault ≡ fault =
          some_is h.fault fault (sym (subst (λ (q : ProgramTerm). fault_of q ≡ Some h.fault) e.0 h.first) ∙ first) in
          let place : at ≡ node_place bytes places fault.node =
          h.at ∙ ap (λ z. node_place bytes z h.fault.node) e.1 ∙ ap (λ (z : TypeFaultTerm). node_place bytes places z.node) same in
          let told : text ≡ type_fault_text fault.kind = h.told ∙ ap (λ (z : TypeFaultTerm). type_fault_text z.kind) same in
          ap (λ (n : ℕ). refused n (Typed text)) place ∙ ap (λ (t : Text). refused (node_place bytes places fault.node) (Typed t)) told

  -- the refusal that was made of it
  pub refused_judges : (fault : TypeFaultTerm) (place : ℕ) (why : NoWorld) → fault_of p ≡ Some fault
      → place ≡ node_place bytes places fault.node → Refuses place fault.kind why → Judges bytes (Err why)
  refused_judges fault place (Refused at (Typed text)) first is r =
      subst (λ (t : Text). IsOnlyVerdict bytes (refused at (Typed t))) (sym r.1)
      (subst (λ (n : ℕ). IsOnlyVerdict bytes (refused n (Typed (type_fault_text fault.kind)))) (sym (r.0 ∙ is))
      (program_refused fault first))
  refused_judges fault place (Refused at (Read kind)) first is r = absurd r
  refused_judges fault place OverBudget first is r = absurd r
  refused_judges fault place Memory first is r = tt
