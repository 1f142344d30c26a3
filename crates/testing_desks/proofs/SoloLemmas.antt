-- What a world's answers make of a desk over it.
use Rattle.std.proofs.Common.{◌≡◌, ℕ, List, [], ◌∷◌, ◌++◌, Result, Ok, Err, refl, ap, sym, subst, ◌∙◌, arith}
use Rattle.std.specs.Prelude.{IsErrAnd}
use Rattle.task_model.specs.Terms.Input.{InputTerm}
use Rattle.task_model.specs.Terms.Item.{ItemTerm, history_term, took}
use Rattle.task_model.specs.Running.Checked.{CheckedTerm}
use Rattle.task_model.specs.Running.Outcome.{Outcome, IsOutcome, not_offered, over_budget}
use Rattle.task_model.specs.Running.State.{IsLegal, IsState, entries_of}
use Rattle.task_model.specs.Checking.Accepted.{IsAccepted, typed_program}
use Rattle.task_model.specs.declared.stops.ActStop.{ActStop}
use Rattle.task_model.specs.declared.stops.ActStop.TheVariants.{NotOffered, Over}
use Rattle.task_laws.proofs.EntryLemmas.{entries_own}
use Rattle.world_core.specs.World.{IsStanding, Replies, SeenWorld, WorldTerm, world_term}
use Rattle.world_core.specs.declared.answers.Taken.{Taken}
use Rattle.world_core.proofs.WorldLemmas.{standing_state}
use Rattle.session_desk.specs.Desks.{IsTakenBy, seat_entry}
use Rattle.session_desk.specs.Outcomes.{HasOutcome}
use Rattle.testing_desks.specs.SoloDesks.{solo_desk}

-- ---- outcomes
-- the types of an accepted program are those that it gives
typed_alone : (c : CheckedTerm) → IsAccepted c → c ≡ typed_program c.program
typed_alone c a = ap (λ types. record { program = c.program; types = types }) a.types

-- an outcome at the state of a standing world is one at the state of its history
standing_outcome : (w : WorldTerm) → IsStanding w → (i : InputTerm) (o : Outcome) → IsOutcome w.checked w.budget w.state i o
    → HasOutcome w.history i o
standing_outcome w s i o a =
    let state = subst (λ h. IsState h w.state) s.begins (standing_state w s) in
    let out = subst (λ c. IsOutcome c w.budget w.state i o) (typed_alone w.checked s.accepted) a in
    subst (λ h. HasOutcome h i o) (sym s.begins) (w.state, state, out)

-- it is one at what is seen of a world that tells the same
seen_outcome : (w v : WorldTerm) (i : InputTerm) (o : Outcome) → v ≡ w → HasOutcome w.history i o → HasOutcome v.history i o
seen_outcome w v i o e h = subst (λ (z : WorldTerm). HasOutcome z.history i o) (sym e) h

-- the exit of a `?` is the refusal
stopped_by : {X : Type 0} (r : Result X ActStop) (s stop : ActStop) → IsErrAnd r (λ y. y ≡ s) → r ≡ Err stop → s ≡ stop
stopped_by (Ok x) s stop h e = absurd h
stopped_by (Err y) s stop h e = cc

module _ {X : Type 0} (seat : ℕ) (w v : SeenWorld) (i : InputTerm) (s : ActStop) (r : Result X ActStop) (standing : IsStanding (world_term w))
    (replies : Replies (world_term w) (seat_entry seat i) (world_term v) (Err s)) (is : IsErrAnd r (λ y. y ≡ s)) where
  replied : (stop : ActStop) → r ≡ Err stop → Replies (world_term w) (seat_entry seat i) (world_term v) (Err stop)
  replied stop e = subst (λ z. Replies (world_term w) (seat_entry seat i) (world_term v) (Err z)) (stopped_by r s stop is e) replies

  pub solo_not_offered : r ≡ Err NotOffered → HasOutcome (history_term v.history) i not_offered
  solo_not_offered e =
      let a = replied NotOffered e in
      seen_outcome (world_term w) (world_term v) i not_offered a.1 (standing_outcome (world_term w) standing i not_offered a.0)

  pub solo_over : r ≡ Err Over → HasOutcome (history_term v.history) i over_budget
  solo_over e =
      let a = replied Over e in
      seen_outcome (world_term w) (world_term v) i over_budget a.1 (standing_outcome (world_term w) standing i over_budget a.0)

-- ---- what is taken
pub solo_taken : (seat : ℕ) (w v : SeenWorld) (calls : ℕ) (input : InputTerm) (done : Taken)
    → Replies (world_term w) (seat_entry seat input) (world_term v) (Ok done) → IsLegal (history_term v.history)
    → IsTakenBy (solo_desk seat w calls) (solo_desk seat v calls) input done.version
solo_taken seat w v calls input done r legal =
    let grew : history_term v.history ≡ history_term w.history ++ took (seat_entry seat input) ∷ [] =
    ap (λ (z : WorldTerm). z.history) r.2 in
    record {
      on = record {
        seat = refl;
        later = (took (seat_entry seat input) ∷ [], sym grew);
        legal = legal;
        refusals = omega arith;
      };
      own = ap (λ (z : List ItemTerm). entries_of z seat) grew ∙ entries_own (history_term w.history) (seat_entry seat input);
      calls = refl;
      ends = (history_term w.history, grew);
      version = r.3;
    }
