-- Answers of a world to its own lines, one behind the other, and those of all worlds.
use Rattle.std.proofs.Common.{◌≡◌, ℕ, zero, suc, ◌+◌, ◌<◌, ◌==◌, true, false, List, [], ◌∷◌, length, map, slice_index_or, Result, Ok, Err, IfOk, None, refl, ap, sym, subst, arith}
use Rattle.std.specs.List.{All}
use Rattle.task_model.specs.Terms.Text.{Text}
use Rattle.task_model.specs.Terms.Item.{history_term}
use Rattle.task_model.specs.Running.State.{IsLegal}
use Rattle.task_model.specs.declared.memory.OutOfMemory.{OutOfMemory}
use Rattle.input_lines.specs.ScriptLines.{LineTerm}
use Rattle.world_core.specs.World.{SeenWorld, WorldTerm, world_term}
use Rattle.world_answers.specs.LineAnswers.{AnswersInTurn}
use Rattle.world_answers.specs.declared.line_form.LineForm.TheVariants.{Script}
use Rattle.hub_lines.specs.OwnLines.{AddressedTerm, own_lines}
use Rattle.world_hub.specs.declared.own.Numbered.{Numbered}
use Rattle.world_hub.specs.declared.own.Share.{Share}
use Rattle.world_hub.specs.Hubs.{EachAnswersOwn}
use Rattle.world_hub.specs.Shares.{HasAnsweredOwn, HaveAnsweredOwn, numbered_from, share_texts}
use Rattle.hub_lines.specs.Queues.{AreCounted, StandAtOwn}

-- a line of the world comes first, or another
pub own_here : (k : ℕ) (l : AddressedTerm) (ls : List AddressedTerm) → (l.world == k) ≡ true → own_lines k (l ∷ ls) ≡ l.line ∷ own_lines k ls
own_here k l ls e = rw e refl

pub own_other : (k : ℕ) (l : AddressedTerm) (ls : List AddressedTerm) → (l.world == k) ≡ false → own_lines k (l ∷ ls) ≡ own_lines k ls
own_other k l ls e = rw e refl

-- ---- what each call gave, and all of them
abbrev pub came : {A : Type 0} → A → Result A OutOfMemory
came x = Ok x

pub answered_each : (lines : List AddressedTerm) (jobs : List Numbered) (shares : List Share) → length shares ≡ length jobs
    → ((i : ℕ) (d : Numbered) (e : Result Share OutOfMemory) → i < length jobs
    → IfOk (slice_index_or (map came shares) i e) (λ s. HasAnsweredOwn lines (slice_index_or jobs i d) s))
    → HaveAnsweredOwn lines jobs shares
answered_each lines [] [] same given = tt
answered_each lines [] (t ∷ ts) same given = absurd (omega (arith, same))
answered_each lines (s ∷ ss) [] same given = absurd (omega (arith, same))
answered_each lines (s ∷ ss) (t ∷ ts) same given =
    (given 0 s (came t) (omega arith), answered_each lines ss ts (omega (arith, same)) (λ i d e less. given (suc i) d e (omega (arith, less))))

pub oks_length : {A : Type 0} (xs : List A) → length (map came xs) ≡ length xs
oks_length [] = refl
oks_length (x ∷ xs) = ap suc (oks_length xs)

pub if_ok : {A E : Type 0} (r : Result A E) (P Q : A → Type 0) → ((a : A) → P a → Q a) → IfOk r P → IfOk r Q
if_ok (Ok a) P Q f p = f a p
if_ok (Err e) P Q f p = tt

-- ---- all worlds
-- as many texts as lines
pub in_turn_length : (w : WorldTerm) (lines : List LineTerm) (texts : List Text) (next : WorldTerm) → AnswersInTurn Script w lines texts next
    → length texts ≡ length lines
in_turn_length w [] [] next a = refl
in_turn_length w [] (t ∷ texts) next a = absurd a
in_turn_length w (l ∷ lines) [] next a = absurd a
in_turn_length w (l ∷ lines) (t ∷ texts) next (m, here, more) = ap suc (in_turn_length m lines texts next more)

pub shares_count : (lines : List AddressedTerm) (k : ℕ) (ws : List SeenWorld) (shares : List Share)
    → HaveAnsweredOwn lines (numbered_from k ws) shares → length shares ≡ length ws
shares_count lines k [] [] h = refl
shares_count lines k [] (s ∷ shares) h = absurd h
shares_count lines k (w ∷ ws) [] h = absurd h
shares_count lines k (w ∷ ws) (s ∷ shares) h = ap suc (shares_count lines (k + 1) ws shares h.1)

pub shares_counted : (lines : List AddressedTerm) (k : ℕ) (ws : List SeenWorld) (shares : List Share)
    → HaveAnsweredOwn lines (numbered_from k ws) shares → AreCounted k (map share_texts shares) lines
shares_counted lines k [] [] h = tt
shares_counted lines k [] (s ∷ shares) h = absurd h
shares_counted lines k (w ∷ ws) [] h = absurd h
shares_counted lines k (w ∷ ws) (s ∷ shares) h =
    (in_turn_length (world_term w) (own_lines k lines) (share_texts s) (world_term s.world) h.0.answers, shares_counted lines (k + 1) ws shares h.1)

pub hub_answers : (lines : List AddressedTerm) (k : ℕ) (ws : List SeenWorld) (shares : List Share) (texts : List Text)
    → HaveAnsweredOwn lines (numbered_from k ws) shares → StandAtOwn k (map share_texts shares) lines texts
    → EachAnswersOwn k (map world_term ws) lines texts (map world_term (map (λ s. s.world) shares))
hub_answers lines k [] [] texts h stand = tt
hub_answers lines k [] (s ∷ shares) texts h stand = absurd h
hub_answers lines k (w ∷ ws) [] texts h stand = absurd h
hub_answers lines k (w ∷ ws) (s ∷ shares) texts h stand = (
  subst (λ ts. AnswersInTurn Script (world_term w) (own_lines k lines) ts (world_term s.world)) (sym stand.0) h.0.answers,
  hub_answers lines (k + 1) ws shares texts h.1 stand.1,
)

all_none : {X : Type 0} (P : X → Type 0) → All P []
all_none P k d less = absurd (omega (arith, less))

all_cons : {X : Type 0} (P : X → Type 0) (x : X) (xs : List X) → P x → All P xs → All P (x ∷ xs)
all_cons P x xs here more zero d less = here
all_cons P x xs here more (suc k) d less = more k d (omega (arith, less))

all_more : {X : Type 0} (P : X → Type 0) (x : X) (xs : List X) → All P (x ∷ xs) → All P xs
all_more P x xs all k d less = all (suc k) d (omega (arith, less))

pub shares_rest : (lines : List AddressedTerm) (jobs : List Numbered) (shares : List Share) → HaveAnsweredOwn lines jobs shares
    → All (λ (w : SeenWorld). w.next ≡ None) (map (λ s. s.world) shares)
shares_rest lines [] [] h = all_none (λ (w : SeenWorld). w.next ≡ None)
shares_rest lines [] (s ∷ shares) h = absurd h
shares_rest lines (j ∷ jobs) [] h = absurd h
shares_rest lines (j ∷ jobs) (s ∷ shares) h =
    all_cons (λ (w : SeenWorld). w.next ≡ None) s.world (map (λ s. s.world) shares) h.0.rest (shares_rest lines jobs shares h.1)

pub shares_legal : (lines : List AddressedTerm) (jobs : List Numbered) (shares : List Share) → HaveAnsweredOwn lines jobs shares
    → All (λ (w : SeenWorld). IsLegal (history_term w.history)) (map (λ s. s.world) shares)
shares_legal lines [] [] h = all_none (λ (w : SeenWorld). IsLegal (history_term w.history))
shares_legal lines [] (s ∷ shares) h = absurd h
shares_legal lines (j ∷ jobs) [] h = absurd h
shares_legal lines (j ∷ jobs) (s ∷ shares) h = all_cons (λ (w : SeenWorld). IsLegal (history_term w.history)) s.world
    (map (λ s. s.world) shares) h.0.legal (shares_legal lines jobs shares h.1)

pub numbered_rest : (k : ℕ) (ws : List SeenWorld) → All (λ (w : SeenWorld). w.next ≡ None) ws
    → All (λ (j : Numbered). j.world.next ≡ None) (numbered_from k ws)
numbered_rest k [] h = all_none (λ (j : Numbered). j.world.next ≡ None)
numbered_rest k (w ∷ ws) h = all_cons (λ (j : Numbered). j.world.next ≡ None) (record { number = k; world = w }) (numbered_from (k + 1) ws)
    (h 0 w (omega arith)) (numbered_rest (k + 1) ws (all_more (λ (v : SeenWorld). v.next ≡ None) w ws h))
