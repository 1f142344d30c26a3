-- Links that come and go at the gate.
use Rattle.std.proofs.Common.{◌≡◌, ℕ, ◌+◌, ◌≤◌, ◌<◌, List, [], ◌∷◌, ◌++◌, length, sum, Option, None, Some, refl, ap, sym, subst, ◌∙◌, arith, append_assoc, length-append}
use Rattle.std.proofs.lemmas.List.Sums.{sum_by_push}
use mathlib.Core.List.{IsPrefix}
use Rattle.outer_io.specs.Links.{LinkTold}
use Rattle.outer_gates.specs.Gates.{GateTold, HandsOut, Finishes}
use Rattle.task_model.specs.Terms.Item.{ItemTerm}
use Rattle.task_server.specs.Answering.{IsAnswered, FinishedSince}
use Rattle.task_server.specs.Porches.{HandedOut, IsGateState, IsEnough, IsPorch, IsGateServed}
use Rattle.task_server.specs.declared.gate_state.GateState.{GateState}
use Rattle.task_server.specs.declared.gate_state.GateState.TheVariants as state
use Rattle.task_server.proofs.AnswerLemmas.{finished_on, finished_push}

handed_one : (entry now new : Option (List LinkTold)) (link : LinkTold) (n : ℕ) → HandedOut entry now n → HandsOut now new link → HandedOut entry new (n + 1)
handed_one None now new link n p q = tt
handed_one (Some all) None new link n p q = absurd p
handed_one (Some all) (Some rest) None link n p q = absurd q
handed_one (Some all) (Some rest) (Some more) link n p q =
    (p.0 ++ link ∷ [], p.1 ∙ ap (λ l. p.0 ++ l) q ∙ sym (append_assoc p.0 (link ∷ []) more), omega (arith, p.2, length-append p.0 (link ∷ [])))

-- an open gate is enough only where the stated number was accepted
open_goes_on : (s : GateState) (limit accepted : ℕ) → s ≡ state.Open → accepted < limit → IsEnough s limit accepted → ⊥
open_goes_on state.Open limit accepted is less enough = omega (arith, enough, less)
open_goes_on state.Closed limit accepted is less enough = absurd (cc is)
open_goes_on state.Failed limit accepted is less enough = absurd (cc is)

module _ {start : List ItemTerm} {entry : GateTold} {held limit : ℕ} {now : GateTold} {s : GateState} {front : List ItemTerm}
    {accepted finished stated out gained told : ℕ} (p : IsPorch start entry held limit now s front accepted finished stated out gained told) where
  -- a link is out
  pub porch_out : (new : GateTold) (t : GateState) (link : LinkTold) (out' : ℕ) → HandsOut now.left new.left link → accepted < stated → s ≡ state.Open → t ≡ state.Open
      → IsGateState t entry new → new.finished ≡ now.finished → out' ≡ out + 1
      → IsPorch start entry held limit new t front (accepted + 1) finished stated out' gained told
  porch_out new t link out' hands less begun still is same more = record {
    stated_is = p.stated_is;
    within = omega (arith, less, p.stated_is);
    handed = handed_one entry.left now.left new.left link accepted p.handed hands;
    state_is = is;
    balance = omega (arith, p.balance, more);
    counts = p.counts;
    many = p.many;
    summed = p.summed;
    answered = rw same p.answered;
    enough = λ some. absurd (open_goes_on s limit accepted begun (omega (arith, less, p.stated_is)) (p.enough some));
  }

  -- a worker is told that nothing more comes
  pub porch_end : (new : GateTold) (t : GateState) (told' : ℕ) → IsEnough t stated accepted → new.left ≡ now.left → IsGateState t entry new
      → new.finished ≡ now.finished → told' ≡ told + 1
      → IsPorch start entry held limit new t front accepted finished stated out gained told'
  porch_end new t told' enough left is same more = record {
    stated_is = p.stated_is;
    within = p.within;
    handed = rw left p.handed;
    state_is = is;
    balance = p.balance;
    counts = p.counts;
    many = p.many;
    summed = p.summed;
    answered = rw same p.answered;
    enough = λ some. subst (λ (l : ℕ). IsEnough t l accepted) p.stated_is enough;
  }

  -- a link is back
  pub porch_back : (new : GateTold) (link : LinkTold) (count : ℕ) (front' : List ItemTerm) (out' gained' : ℕ) → IsPrefix front front' → IsAnswered start front' link count
      → new.left ≡ now.left → new.faults ≡ now.faults → Finishes now.finished new.finished link → out' + 1 ≡ out → gained' ≡ gained + count
      → IsPorch start entry held limit new s front' accepted (finished + 1) stated out' gained' told
  porch_back new link count front' out' gained' on answered left faults finishes less more = record {
    stated_is = p.stated_is;
    within = p.within;
    handed = rw left p.handed;
    state_is = state_on s p.state_is;
    balance = omega (arith, p.balance, less);
    counts = p.counts ++ count ∷ [];
    many = omega (arith, p.many, length-append p.counts (count ∷ []));
    summed = omega (arith, p.summed, more, sum_by_push (λ n. n) p.counts count);
    answered = finished_push start front' entry.finished now.finished new.finished link p.counts count
        (finished_on start front front' entry.finished now.finished p.counts on p.answered) finishes answered;
    enough = p.enough;
  }
    where
      state_on : (t : GateState) → IsGateState t entry now → IsGateState t entry new
      state_on state.Open is = faults ∙ is
      state_on state.Closed is = (rw left is.0, faults ∙ is.1)
      state_on state.Failed is = faults ∙ is

  -- nothing is out, and some worker was told that nothing more comes
  pub porch_settled : (gained' : ℕ) → out ≡ 0 → 0 < told → gained' ≡ gained
      → IsGateServed start entry held limit now s front accepted gained'
  porch_settled gained' none some same = record {
    handed = p.handed;
    state_is = p.state_is;
    enough = p.enough some;
    counts = p.counts;
    many = omega (arith, p.many, p.balance, none);
    summed = omega (arith, p.summed, same);
    answered = p.answered;
  }
