-- A world's history grows by one entry, and what follows from that.
use Rattle.std.proofs.Common.{◌≡◌, ℕ, suc, List, [], ◌∷◌, ◌++◌, length, Option, Some, None, Result, Ok, Err, refl, sym, ap, ◌∙◌, subst, arith}
use Rattle.task_model.specs.Terms.Left.{Left}
use Rattle.task_model.specs.Terms.Text.{Text}
use Rattle.task_model.specs.Terms.Value.{ValueTerm}
use Rattle.task_model.specs.Terms.Env.{EnvTerm, empty_env}
use Rattle.task_model.specs.Terms.Task.{TaskTerm, call_task}
use Rattle.task_model.specs.Terms.Tree.{State}
use Rattle.task_model.specs.Terms.Input.{EntryTerm}
use Rattle.task_model.specs.Terms.Item.{ItemTerm, opened, took}
use Rattle.task_model.specs.Running.Checked.{CheckedTerm}
use Rattle.task_model.specs.Running.Judgements.{Normal}
use Rattle.task_model.specs.Running.Plan.{normal}
use Rattle.task_model.specs.Running.Spends.{Spends}
use Rattle.task_model.specs.Showing.Widget.{WidgetTerm, AreWidgets}
use Rattle.task_model.specs.Terms.Program.{main_name}
use Rattle.task_model.specs.Checking.Accepted.{IsAccepted, typed_program}
use Rattle.task_model.specs.Checking.Fits.{Fits}
use Rattle.task_model.specs.Running.State.{IsOpening, IsReached, IsState, IsLegal, IsPage, HasWidgets, IsEntry, AreEntries, version_of}
use Rattle.task_model.specs.declared.widget.Face.{Face}
use Rattle.task_model.specs.declared.widget.Face.TheVariants as faces
use Rattle.task_model.specs.declared.purse.Stop.{Stop}
use Rattle.task_model.specs.declared.purse.Stop.TheVariants.{Over}
use Rattle.task_laws.proofs.OutcomeLemmas.{lead_to_more}
use Rattle.task_laws.proofs.HistoryLemmas.{version_length}
use Rattle.typing_laws.specs.Assumed.{main_type}
use Rattle.typing_laws.specs.Well.{MayAsk}
use Rattle.typing_laws.proofs.HistoryLemmas.{main_fits, opening_kept, reached_kept}
use Rattle.html_pages.specs.Fragments.{face_text}
use Rattle.world_core.specs.Pages.{IsWorldPage}
use Rattle.world_core.specs.World.{WorldTerm, NextTerm, NextStands, MayFollow, IsStanding, with_item, LeadsOn}

-- ---- histories
pub entries_more : (items : List ItemTerm) (e : EntryTerm) → AreEntries items → IsEntry e → AreEntries (items ++ took e ∷ [])
entries_more [] e h s = (s, tt)
entries_more (opened p b ∷ items) e h s = absurd h
entries_more (took a ∷ items) e h s = (h.0, entries_more items e h.1 s)

pub standing_version : (w : WorldTerm) → IsStanding w → length w.history ≡ suc (version_of w.history)
standing_version w s = ap length s.begins ∙ ap suc (sym (version_length s.entries s.valid)) ∙ ap (λ h. suc (version_of h)) (sym s.begins)

-- ---- one entry more
pub standing_more : (w : WorldTerm) (n : NextTerm) → IsStanding w → NextStands w n → IsStanding (with_item w n)
standing_more w n s d = record {
  accepted = s.accepted;
  budget = s.budget;
  entries = s.entries ++ took d.entry ∷ [];
  begins = ap (λ h. h ++ n.item ∷ []) s.begins ∙ ap (λ i. opened w.checked.program w.budget ∷ (s.entries ++ i ∷ [])) d.is;
  valid = entries_more s.entries d.entry s.valid d.valid;
  reached = (
    s.reached.0,
    s.reached.1,
    lead_to_more w.checked w.budget s.entries s.reached.0 w.state n.state (took d.entry) s.reached.2
        (n.state, d.taken, refl),
  );
  follows = tt;
}

-- what is prepared may be given up, and something else prepared
pub standing_next : (w : WorldTerm) (o : Option NextTerm) → IsStanding w → MayFollow (record w { next = o }) o
    → IsStanding (record w { next = o })
standing_next w o s d = record {
  accepted = s.accepted;
  budget = s.budget;
  entries = s.entries;
  begins = s.begins;
  valid = s.valid;
  reached = s.reached;
  follows = d;
}

-- ---- the opening
-- `main()` may be evaluated over the empty store
pub opening_may : (c : CheckedTerm) (t : TaskTerm) (env : EnvTerm) (σ : List ValueTerm) → IsAccepted c → t ≡ call_task main_name []
    → env ≡ empty_env → σ ≡ [] → MayAsk c (normal t env σ)
opening_may c t env σ accepted a b d = rw (a, b, d) (record {
  typing = record { places = []; type = main_type c.program };
  assumed = main_fits c accepted;
})

module _ {X : Type 0} (view : X → State) (c : CheckedTerm) (budget : ℕ) (t : TaskTerm) (env : EnvTerm) (σ : List ValueTerm) (old new : Left)
    (task : t ≡ call_task main_name []) (empty : env ≡ empty_env) (none : σ ≡ []) (units : old.units ≡ budget)
    (height : old.height ≡ 1000) where
  abbrev spent : Result X Stop → Type 0
  spent r = Spends (Normal c t env σ) view old new r

  opening_spent : (r : Result X Stop) → spent r → Spends (Normal c (call_task main_name []) empty_env []) view old new r
  opening_spent r a = rw (task, empty, none) at a

  pub opening_is : (x : X) → spent (Ok x) → IsOpening c budget (view x)
  opening_is x a =
      let q = opening_spent (Ok x) a in
      let le = q.3 in
      let paid = q.4 in
      (q.0, q.1, q.2, record { units = omega (arith, units, paid); height = omega (arith, height, le) })

  pub opening_never : (stop : Stop) → stop ≡ Over → spent (Err stop) → (s : State) → IsOpening c budget s → ⊥
  opening_never stop is spends s o =
      let a = subst (λ z. spent (Err z)) is spends in
      let w = o.3 in
      let wu = w.units in
      let wh = w.height in
      opening_spent (Err Over) a s o.0 o.1 o.2 (omega (arith, units, wu)) (omega (arith, height, wh))

-- the opening fits
pub opening_state_fits : (c : CheckedTerm) (budget : ℕ) (s : State) → IsAccepted c → IsOpening c budget s → Fits c s
opening_state_fits c budget s accepted o = let k = opening_kept c accepted budget s o in (k.0, main_type c.program, k.2)

-- ---- what a standing world shows
-- the types of an accepted program are those that it gives
pub typed_alone : (c : CheckedTerm) → IsAccepted c → c ≡ typed_program c.program
typed_alone c a = ap (λ types. record { program = c.program; types = types }) a.types

pub standing_typed : (w : WorldTerm) (s : IsStanding w) → IsAccepted (typed_program w.checked.program)
    × IsReached (typed_program w.checked.program) w.budget s.entries w.state
standing_typed w s =
    let e = typed_alone w.checked s.accepted in
    (subst IsAccepted e s.accepted, subst (λ c. IsReached c w.budget s.entries w.state) e s.reached)

pub standing_state : (w : WorldTerm) → IsStanding w → IsState w.history w.state
standing_state w s = subst (λ h. IsState h w.state) (sym s.begins) (standing_typed w s)

pub standing_legal : (w : WorldTerm) → IsStanding w → IsLegal w.history
standing_legal w s = subst IsLegal (sym s.begins) (s.budget, s.valid, (w.state, standing_typed w s))

pub standing_fits : (w : WorldTerm) → IsStanding w → Fits w.checked w.state
standing_fits w s =
    let k = reached_kept w.checked s.accepted w.budget s.entries w.state s.reached in (k.0, main_type w.checked.program, k.1)

leads_on : (w : WorldTerm) (o : Option NextTerm) → IsStanding w → MayFollow w o → LeadsOn w o
leads_on w None s d = tt
leads_on w (Some n) s d =
    let more = standing_more w n s d in (standing_legal (with_item w n) more, standing_state (with_item w n) more)

pub standing_leads : (w : WorldTerm) → IsStanding w → LeadsOn w w.next
standing_leads w s = leads_on w w.next s s.follows

-- its widgets are those of its history
pub standing_widgets : (w : WorldTerm) → IsStanding w → (ws : List WidgetTerm) → AreWidgets w.checked w.budget w.state.tree w.state.store ws
    → HasWidgets w.history ws
standing_widgets w s ws shown =
    let typed = standing_typed w s in
    subst (λ h. HasWidgets h ws) (sym s.begins)
    (w.state, typed.0, typed.1, subst (λ c. AreWidgets c w.budget w.state.tree w.state.store ws) (typed_alone w.checked s.accepted) shown)

-- a page of either face
pub faced : (face : Face) (h : List ItemTerm) (seat : ℕ) (text : Text) (ws : List WidgetTerm) → HasWidgets h ws
    → text ≡ face_text face (version_of h) seat ws → IsPage face h seat text
faced faces.Text h seat text ws shown told = (ws, shown, told)
faced faces.Html h seat text ws shown told = (ws, shown, told)

-- a page of a standing world is the page of its history
page_is : (face : Face) (w : WorldTerm) (seat : ℕ) (text : Text) (s : IsStanding w) → IsWorldPage face w seat text
    → IsPage face (opened w.checked.program w.budget ∷ s.entries) seat text
page_is face w seat text s p =
    let typed = standing_typed w s in
    let same = typed_alone w.checked s.accepted in
    let shown = subst (λ c. AreWidgets c w.budget w.state.tree w.state.store p.0) same p.1 in
    let told = p.2 ∙ ap (λ h. face_text face (version_of h) seat p.0) s.begins in
    faced face (opened w.checked.program w.budget ∷ s.entries) seat text p.0 (w.state, typed.0, typed.1, shown) told

pub standing_page : (face : Face) (w : WorldTerm) (seat : ℕ) (text : Text) → IsStanding w → IsWorldPage face w seat text
    → IsPage face w.history seat text
standing_page face w seat text s p = subst (λ h. IsPage face h seat text) (sym s.begins) (page_is face w seat text s p)
