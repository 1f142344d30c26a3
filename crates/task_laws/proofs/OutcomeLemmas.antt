-- Each input has exactly one outcome, and an opening or a history at most one state.
use Rattle.std.proofs.Common.{◌≡◌, ℕ, ◌+◌, max, List, [], ◌∷◌, ◌++◌, Option, Some, None, refl, sym, ap, ◌∙◌, subst, arith}
use Rattle.task_model.specs.Terms.Tree.{State}
use Rattle.task_model.specs.Terms.Env.{empty_env}
use Rattle.task_model.specs.Terms.Task.{call_task}
use Rattle.task_model.specs.Terms.Input.{InputTerm}
use Rattle.task_model.specs.Terms.Item.{ItemTerm, opened, took}
use Rattle.task_model.specs.Running.Checked.{CheckedTerm}
use Rattle.task_model.specs.Running.Plan.{normal, ask, give, plan_work, Derives}
use Rattle.task_model.specs.Running.Rules.{rule_of}
use Rattle.task_model.specs.Running.Judgements.{IsWithinBudget}
use Rattle.task_model.specs.Running.Handling.{handles, settled, interacts, Interacts}
use Rattle.task_model.specs.Running.Outcome.{Outcome, taken, not_offered, over_budget, IsTaken, IsNotOffered, IsOutcome}
use Rattle.task_model.specs.Terms.Program.{main_name}
use Rattle.task_model.specs.Checking.Accepted.{typed_program}
use Rattle.task_model.specs.Running.State.{IsOpening, LeadTo, IsReached, IsState}
use Rattle.task_laws.proofs.WorkLemmas.{Agree}
use Rattle.task_laws.proofs.PlanLemmas.{agree_work, at_most_one, work_after, after_work}
use Rattle.task_laws.proofs.DecideLemmas.{Ends, ends, ends_never, plan_ends}
use Rattle.task_laws.proofs.EqualityLemmas.{same_state}

module _ (c : CheckedTerm) (budget : ℕ) where
  module _ (s : State) (i : InputTerm) where
    abbrev W : Option State → ℕ → ℕ → Type 0
    W = Interacts c s i

    once : Agree W W
    once = agree_work (Derives (rule_of c)) (Derives (rule_of c)) (λ q. at_most_one (rule_of c) q) (interacts c s i)

    -- lacking and interacting to none are the same
    pub none_lacks : (n h : ℕ) → W None n h → IsWithinBudget budget n h → IsNotOffered c budget s i
    none_lacks n h d l =
        let w = work_after (Derives (rule_of c)) settled (handles c s i) None n h d in
        by_answer w.middle w.n1 w.h1 w.n2 w.h2 w.one w.two w.units w.height
      where
        by_answer : (r : Option State) (n1 h1 n2 h2 : ℕ) → plan_work (Derives (rule_of c)) (handles c s i) r n1 h1
            → plan_work (Derives (rule_of c)) (settled r) None n2 h2 → n ≡ n1 + n2 → h ≡ max h1 h2 → IsNotOffered c budget s i
        by_answer None n1 h1 n2 h2 one two u g =
            let lu = l.units in
            let lh = l.height in
            (n1, h1, one, record { units = omega arith; height = omega arith })
        by_answer (Some t) n1 h1 n2 h2 one two u g = let last = two.two in let e = last.value in absurd (cc)

    pub lacks_none : (n h : ℕ) → plan_work (Derives (rule_of c)) (handles c s i) None n h → W None n h
    lacks_none n h d =
        after_work (Derives (rule_of c)) settled (handles c s i) None n h
        (record {
          middle = None;
          n1 = n;
          h1 = h;
          n2 = 0;
          h2 = 0;
          one = d;
          two = record {
            value = refl;
            units = refl;
            height = refl;
          };
          units = omega arith;
          height = omega arith;
        })

    pub outcome_exists : (o : Outcome) × IsOutcome c budget s i o
    outcome_exists = by_end (plan_ends same_state (rule_of c) 1000 budget (interacts c s i))
      where
        by_end : Ends W budget 1000 → (o : Outcome) × IsOutcome c budget s i o
        by_end (ends (Some t) n h d l le) = (taken t, (n, h, d, record { units = l; height = le }))
        by_end (ends None n h d l le) = (not_offered, none_lacks n h d (record { units = l; height = le }))
        by_end (ends_never none) = (
          over_budget,
          (
            (λ t q. none (Some t) q.0 q.1 q.2 q.3.units q.3.height),
            (λ l. none None l.0 l.1 (lacks_none l.0 l.1 l.2) l.3.units l.3.height),
          ),
        )

    pub outcome_once : (o o' : Outcome) → IsOutcome c budget s i o → IsOutcome c budget s i o' → o ≡ o'
    outcome_once (taken t) (taken u) d e =
        let q = (once.by (Some t) (Some u) d.0 e.0 d.1 e.1 d.2 e.2).0 in
        let same : t ≡ u = cc in
        ap taken same
    outcome_once (taken t) not_offered d e = let q = (once.by (Some t) None d.0 e.0 d.1 e.1 d.2 (lacks_none e.0 e.1 e.2)).0 in absurd (cc)
    outcome_once (taken t) over_budget d e = absurd (e.0 t d)
    outcome_once not_offered (taken t) d e = let q = (once.by None (Some t) d.0 e.0 d.1 e.1 (lacks_none d.0 d.1 d.2) e.2).0 in absurd (cc)
    outcome_once not_offered not_offered d e = refl
    outcome_once not_offered over_budget d e = absurd (e.1 d)
    outcome_once over_budget (taken t) d e = absurd (d.0 t e)
    outcome_once over_budget not_offered d e = absurd (d.1 e)
    outcome_once over_budget over_budget d e = refl

  pub taken_once : (s : State) (i : InputTerm) (t u : State) → IsTaken c budget s i t → IsTaken c budget s i u → t ≡ u
  taken_once s i t u d e = let q = outcome_once s i (taken t) (taken u) d e in cc

  -- the opening's state, or none where there is no derivation within the budget
  pub data Opens : Type 0 where
    opens : (s : State) → IsOpening c budget s → Opens
    never_opens : ((s : State) → IsOpening c budget s → ⊥) → Opens

  pub opening_decided : Opens
  opening_decided = by_end (plan_ends same_state (rule_of c) 1000 budget (ask (normal (call_task main_name []) empty_env []) give))
    where
      by_end : Ends (plan_work (Derives (rule_of c)) (ask (normal (call_task main_name []) empty_env []) give)) budget 1000 → Opens
      by_end (ends s n h d l le) =
          let last = d.two in
          let e = last.value in
          let du = d.units in
          let dh = d.height in
          opens d.middle (d.n1, d.h1, d.one, record { units = omega arith; height = omega arith })
      by_end (ends_never none) = never_opens (λ s q.
          none s q.0 q.1 (record {
            middle = s;
            n1 = q.0;
            h1 = q.1;
            n2 = 0;
            h2 = 0;
            one = q.2;
            two = record {
              value = refl;
              units = refl;
              height = refl;
            };
            units = omega arith;
            height = omega arith;
          }) q.3.units q.3.height)

  pub opening_once : (s t : State) → IsOpening c budget s → IsOpening c budget t → s ≡ t
  opening_once s t d e = ((at_most_one (rule_of c) (normal (call_task main_name []) empty_env [])).by s t d.0 e.0 d.1 e.1 d.2 e.2).0

  pub lead_to_one : (items : List ItemTerm) (s t u : State) → LeadTo c budget s items t → LeadTo c budget s items u → t ≡ u
  lead_to_one [] s t u d e = d ∙ sym e
  lead_to_one (opened p b ∷ items) s t u d e = absurd d
  lead_to_one (took a ∷ items) s t u d e =
      let same = taken_once s a.input d.0 e.0 d.1 e.1 in
      lead_to_one items d.0 t u d.2 (subst (λ z. LeadTo c budget z items u) (sym same) e.2)

  pub reached_once : (items : List ItemTerm) (t u : State) → IsReached c budget items t → IsReached c budget items u → t ≡ u
  reached_once items t u d e =
      let same = opening_once d.0 e.0 d.1 e.1 in
      lead_to_one items d.0 t u d.2 (subst (λ z. LeadTo c budget z items u) (sym same) e.2)

  -- one entry more
  pub lead_to_more : (items : List ItemTerm) (s m t : State) (e : ItemTerm) → LeadTo c budget s items m → LeadTo c budget m (e ∷ []) t
      → LeadTo c budget s (items ++ e ∷ []) t
  lead_to_more [] s m t e d f = subst (λ z. LeadTo c budget z (e ∷ []) t) d f
  lead_to_more (opened p b ∷ items) s m t e d f = absurd d
  lead_to_more (took a ∷ items) s m t e d f = (d.0, d.1, lead_to_more items d.0 m t e d.2 f)

-- a history has at most one state
pub state_once : (H : List ItemTerm) (s t : State) → IsState H s → IsState H t → s ≡ t
state_once [] s t d e = absurd d
state_once (took a ∷ items) s t d e = absurd d
state_once (opened p budget ∷ items) s t d e = reached_once (typed_program p) budget items s t d.1 e.1
