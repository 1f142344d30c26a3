-- So many inputs of the generator lead to exactly one world.
use Rattle.std.proofs.Common.{◌≡◌, ℕ, zero, suc, ◌+◌, ◌-◌, ◌<◌, refl, sym, ◌∙◌, ap, subst, arith}
use Rattle.std.proofs.Common.{List, [], ◌++◌, map, Option}
use Rattle.std.specs.Prelude.{slice_get, unwrap_or, option_map}
use Rattle.std.proofs.lemmas.Option.{slice_get-map}
use Rattle.std.proofs.lemmas.List.{append_assoc}
use Rattle.task_model.specs.Terms.Text.{Text}
use Rattle.task_model.specs.Terms.Value.{value_term, unit_value}
use Rattle.task_model.specs.declared.value.Value.{Value}
use Rattle.task_model.specs.Showing.Widget.{stored}
use Rattle.task_laws.proofs.OutcomeLemmas.{outcome_exists, outcome_once}
use Rattle.task_model.specs.Terms.Input.{EntryTerm}
use Rattle.task_model.specs.Running.Outcome.{Outcome, IsOutcome, taken, not_offered, over_budget}
use Rattle.world_core.specs.World.{WorldTerm}
use Rattle.input_lines.specs.Soak.{soak_next, soak_entry_of}
use Rattle.world_answers.specs.LineAnswers.{world_after}
use Rattle.tophat.specs.SoakReport.{TallyTerm, counted, all_inputs, CountsInput, Soaks}

pub soaks_exist : (n s : ℕ) (w : WorldTerm) (t : TallyTerm) → (u : WorldTerm) × (r : TallyTerm) × Soaks n s w t u r
soaks_exist zero s w t = (w, t, (refl, refl))
soaks_exist (suc n) s w t =
    let e = soak_entry_of (soak_next s) in
    let o = outcome_exists w.checked w.budget w.state e.input in
    let more = soaks_exist n (soak_next s) (world_after w e o.0) (counted t o.0) in
    (more.0, more.1, (o.0, o.1, more.2))

pub soaks_once : (n s : ℕ) (w : WorldTerm) (t : TallyTerm) (u v : WorldTerm) (r q : TallyTerm) → Soaks n s w t u r → Soaks n s w t v q
    → (u ≡ v) × (r ≡ q)
soaks_once zero s w t u v r q a b = (a.0 ∙ sym b.0, a.1 ∙ sym b.1)
soaks_once (suc n) s w t u v r q a b =
    let e = soak_entry_of (soak_next s) in
    let same = outcome_once w.checked w.budget w.state e.input a.0 b.0 a.1 b.1 in
    soaks_once n (soak_next s) (world_after w e b.0) (counted t b.0) u v r q
    (subst (λ (o : Outcome). Soaks n (soak_next s) (world_after w e o) (counted t o) u r) same a.2) b.2

-- an input more at the front
pub soaks_step : (left s next : ℕ) (w v u : WorldTerm) (t q r : TallyTerm) (e : EntryTerm) → 0 < left → next ≡ soak_next s
    → e ≡ soak_entry_of next → CountsInput w t e v q → Soaks (left - 1) next v q u r → Soaks left s w t u r
soaks_step zero s next w v u t q r e lt is entry c more = absurd (omega arith)
soaks_step (suc n) s next w v u t q r e lt is entry c more =
    let less : suc n - 1 ≡ n = omega arith in
    let same : e ≡ soak_entry_of (soak_next s) = entry ∙ ap soak_entry_of is in
    let behind : Soaks n (soak_next s) v q u r =
    subst (λ (k : ℕ). Soaks n k v q u r) is (subst (λ (k : ℕ). Soaks k next v q u r) less more) in
    let world = c.2 ∙ ap (λ (z : EntryTerm). world_after w z c.0) same in (
      c.0,
      subst (λ (z : EntryTerm). IsOutcome w.checked w.budget w.state z.input c.0) same c.1,
      subst (λ (k : TallyTerm). Soaks n (soak_next s) (world_after w (soak_entry_of (soak_next s)) c.0) k u r) c.3
          (subst (λ (z : WorldTerm). Soaks n (soak_next s) z q u r) world behind),
    )

-- it is counted once
pub counts_one : (t q : TallyTerm) (o : Outcome) → q ≡ counted t o → all_inputs q ≡ all_inputs t + 1
counts_one t q (taken s) e = ap all_inputs e ∙ omega arith
counts_one t q not_offered e = ap all_inputs e ∙ omega arith
counts_one t q over_budget e = ap all_inputs e ∙ omega arith

-- none are left
pub soaks_none : (left s : ℕ) (w : WorldTerm) (t : TallyTerm) → left ≡ 0 → Soaks left s w t w t
soaks_none left s w t none = subst (λ (n : ℕ). Soaks n s w t w t) (sym none) (refl, refl)

-- ---- the summary
-- a word was pushed, and then a text
pub pushed : (old mid new word text shown : Text) → mid ≡ old ++ word → new ≡ mid ++ text → text ≡ shown → new ≡ old ++ (word ++ shown)
pushed old mid new word text shown first second is =
    second ∙ ap (λ z. z ++ text) first ∙ append_assoc old word text ∙ ap (λ z. old ++ (word ++ z)) is

-- what the store holds at a place, or unit where there is no such place
pub stored_at : (xs : List Value) (n : ℕ) (o : Option Value) → slice_get xs n ≡ o
    → stored (map value_term xs) n ≡ unwrap_or (option_map value_term o) unit_value
stored_at xs n o e = ap (λ p. unwrap_or p unit_value) (slice_get-map value_term xs n ∙ ap (option_map value_term) e)

joined : (a b c d e f g h : Text) → a ++ b ++ c ++ d ++ e ++ f ++ g ++ h ≡ a ++ (b ++ (c ++ (d ++ (e ++ (f ++ (g ++ h))))))
joined a b c d e f g h =
    append_assoc (a ++ b ++ c ++ d ++ e ++ f) g h ∙ append_assoc (a ++ b ++ c ++ d ++ e) f (g ++ h)
    ∙ append_assoc (a ++ b ++ c ++ d) e (f ++ (g ++ h)) ∙ append_assoc (a ++ b ++ c) d (e ++ (f ++ (g ++ h)))
    ∙ append_assoc (a ++ b) c (d ++ (e ++ (f ++ (g ++ h)))) ∙ append_assoc a b (c ++ (d ++ (e ++ (f ++ (g ++ h)))))

-- eight texts, one behind the other
pub all_pushed : (x0 x1 x2 x3 x4 x5 x6 x7 x8 a b c d e f g h : Text) → x0 ≡ [] → x1 ≡ x0 ++ a → x2 ≡ x1 ++ b → x3 ≡ x2 ++ c
    → x4 ≡ x3 ++ d → x5 ≡ x4 ++ e → x6 ≡ x5 ++ f → x7 ≡ x6 ++ g → x8 ≡ x7 ++ h
    → x8 ≡ a ++ (b ++ (c ++ (d ++ (e ++ (f ++ (g ++ h))))))
all_pushed x0 x1 x2 x3 x4 x5 x6 x7 x8 a b c d e f g h p0 p1 p2 p3 p4 p5 p6 p7 p8 =
    let q1 : x1 ≡ a = p1 ∙ ap (λ z. z ++ a) p0 in
    let q2 = p2 ∙ ap (λ z. z ++ b) q1 in
    let q3 = p3 ∙ ap (λ z. z ++ c) q2 in
    let q4 = p4 ∙ ap (λ z. z ++ d) q3 in
    let q5 = p5 ∙ ap (λ z. z ++ e) q4 in
    let q6 = p6 ∙ ap (λ z. z ++ f) q5 in
    let q7 = p7 ∙ ap (λ z. z ++ g) q6 in
    p8 ∙ ap (λ z. z ++ h) q7 ∙ joined a b c d e f g h
