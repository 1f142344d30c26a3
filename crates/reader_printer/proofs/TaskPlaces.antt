-- Tasks as they are printed, with no more levels than they were read with.
use Rattle.std.proofs.Common.{◌≡◌, ℕ, zero, suc, ◌+◌, ◌-◌, ◌≤◌, Bool, true, false, List, [], ◌∷◌, ◌++◌, length, refl, ◌∙◌, subst, arith, append_assoc}
use Rattle.std.specs.Prelude.{codes, nat_lt, if◌then◌else◌, ◌==◌}
use Rattle.std.proofs.lemmas.Bool.Decides.{nat_tests}
use Rattle.task_model.specs.Terms.Text.{Text}
use Rattle.task_model.specs.Terms.Task.{TaskTerm, edit, enter, share, fail, call_task, then_task, next_task, and_task, or_task, xor_task, let_task, if_task, case_task, new_task, put_task, BodyTerm}
use Rattle.task_model.specs.declared.symbol.Symbol.TheVariants as signs
use Rattle.task_model.specs.Syntax.Lexemes.{symbol}
use Rattle.task_model.specs.Syntax.Grammar as grammar
use Rattle.task_model.specs.Syntax.Grammar.{Form, Parse, tokens, levels}
use Rattle.task_model.specs.Syntax.Meaning.{meaning, bodies, bodies_of}
use Rattle.reader_printer.specs.PrintedPlaces.{task_form}
use Rattle.task_model.specs.Syntax.Printed.{BodyText, no_body, body_numbered, body_text, body_texts, task_rank, task_tokens, task_at}
use Rattle.reader_printer.proofs.ExpressionPlaces.{climbed, climbed_sum}
use Rattle.task_model.proofs.BodyLemmas.{numbered_there}
use Rattle.reader_printer.proofs.Showing.{Shown, looser, part_alone, tokens_around, sign_spelled}

-- ---- bodies by their numbers
-- from this number on, the bodies as they are written are these
abbrev pub Agrees : ℕ → List BodyText → ℕ → List BodyTerm → Type 0
Agrees first bs next rest = (i : ℕ) → next ≤ i → body_numbered first bs i ≡ body_numbered next (body_texts next rest) i

numbered_behind : (next m : ℕ) (front rest : List BodyTerm) (i : ℕ) → m ≡ next + length front → m ≤ i
    → body_numbered next (body_texts next (front ++ rest)) i ≡ body_numbered m (body_texts m rest) i
numbered_behind next m [] rest i e le = let same : m ≡ next = omega (arith, e) in rw same refl
numbered_behind next m (b ∷ front) rest i e le =
    let apart : (i == next) ≡ false = grind (arith, nat_tests, e, le) in
    rw apart (numbered_behind (suc next) m front rest i (omega (arith, e)) le)

-- the bodies of a first part, and those of what follows it
pub agrees_left : (first : ℕ) (bs : List BodyText) (next : ℕ) (front more after : List BodyTerm)
    → Agrees first bs next ((front ++ more) ++ after) → Agrees first bs next (front ++ (more ++ after))
agrees_left first bs next front more after h = subst (Agrees first bs next) (append_assoc front more after) h

pub agrees_right : (first : ℕ) (bs : List BodyText) (next n : ℕ) (front more after : List BodyTerm) → length front ≡ n
    → Agrees first bs next ((front ++ more) ++ after) → Agrees first bs (next + n) (more ++ after)
agrees_right first bs next n front more after many h = λ i le.
    agrees_left first bs next front more after h i (omega (arith, le))
    ∙ numbered_behind next (next + n) front (more ++ after) i (omega (arith, many)) le

pub agrees_head : (first : ℕ) (bs : List BodyText) (next : ℕ) (b : BodyTerm) (rest : List BodyTerm) → Agrees first bs next (b ∷ rest)
    → body_numbered first bs next ≡ body_text (suc next) (body_texts (suc next) rest) b
agrees_head first bs next b rest h =
    h next (omega arith)
    ∙ numbered_there body_texts body_text body_numbered (λ x. x) no_body (λ _ _. refl) (λ _ _ _ _. refl) next (b ∷ rest) [] b rest next refl
    (omega arith)

pub agrees_self : (next : ℕ) (rest : List BodyTerm) → Agrees next (body_texts next rest) next rest
agrees_self next rest = λ i le. refl

-- ---- the nonterminals of tasks
-- a task, how many bodies it has, and those bodies
abbrev pub TaskMeaning : Type 0
TaskMeaning = TaskTerm × ℕ × List BodyTerm

-- what a parse stands for where these names are in scope and its first body has this number
abbrev pub task_in : (p : ℕ) → List Text → ℕ → Parse (task_form p) → TaskMeaning
task_in zero scope next d = (meaning d next, bodies d, bodies_of d scope next)
task_in (suc zero) scope next d = (meaning d next, bodies d, bodies_of d scope next)
task_in (suc (suc zero)) scope next d = (meaning d next, bodies d, bodies_of d scope next)
task_in (suc (suc (suc p))) scope next d = (meaning d next, bodies d, bodies_of d scope next)

module _ (scope : List Text) (next : ℕ) where
  abbrev IsShown : ℕ → TaskMeaning → ℕ → List Text → Type 0
  IsShown p v k ts = Shown (task_in p scope next) v k ts

  up_one : (p : ℕ) (v : TaskMeaning) (k : ℕ) (ts : List Text) → IsShown p v k ts → IsShown (suc p) v k ts
  up_one zero v k ts s = part_alone (λ d. grammar.single grammar.chain d) (λ d. refl) (λ d e. e) (λ d. refl) s
  up_one (suc zero) v k ts s = part_alone (λ d. grammar.single grammar.choice d) (λ d. refl) (λ d e. e) (λ d. refl) s
  up_one (suc (suc zero)) v k ts s = part_alone (λ d. grammar.task_plain d) (λ d. refl) (λ d e. e) (λ d. refl) s
  up_one (suc (suc (suc p))) v k ts s = s

  up : (n p : ℕ) (v : TaskMeaning) (k : ℕ) (ts : List Text) → IsShown p v k ts → IsShown (climbed n p) v k ts
  up zero p v k ts s = s
  up (suc n) p v k ts s = up n (suc p) v k ts (up_one p v k ts s)

  lifted : (p q : ℕ) (v : TaskMeaning) (k : ℕ) (ts : List Text) → p ≤ q → IsShown p v k ts → IsShown q v k ts
  lifted p q v k ts le s =
      let same : climbed (q - p) p ≡ q = (let c = climbed_sum (q - p) p in omega (arith, c, le)) in
      subst (λ r. IsShown r v k ts) same (up (q - p) p v k ts s)

  grouped : (v : TaskMeaning) (k : ℕ) (ts : List Text) → IsShown 3 v k ts → IsShown 0 v (1 + k) (codes "(" ∷ ts ++ codes ")" ∷ [])
  grouped v k ts s = tokens_around 1 (symbol signs.Open 0) (symbol signs.Close 0) (sign_spelled signs.Open 0) (sign_spelled signs.Close 0)
      (λ n d m. grammar.task_group n d m) (λ n d m. refl) (λ n d m e. e) (λ n d m. omega arith) s

-- ---- a task at its place
pub task_within : (t : TaskTerm) → task_rank t ≤ 3
task_within (edit e) = omega arith
task_within (enter b) = omega arith
task_within (share x) = omega arith
task_within (fail b) = omega arith
task_within (call_task f es) = omega arith
task_within (then_task t i) = omega arith
task_within (next_task t i) = omega arith
task_within (and_task t u) = omega arith
task_within (or_task t u) = omega arith
task_within (xor_task i j) = omega arith
task_within (let_task x e t) = omega arith
task_within (if_task e t u) = omega arith
task_within (case_task e t x y u) = omega arith
task_within (new_task x e t) = omega arith
task_within (put_task x e t) = omega arith

-- What was read at a place within so many levels: its own production has no more, and fewer where it stood in parentheses.
pub record OwnTask (p : ℕ) (scope : List Text) (next first : ℕ) (bs : List BodyText) (v : TaskMeaning) (most : ℕ) : Type 0 where
  pub least : ℕ
  pub own : Shown (task_in (task_rank v.0) scope next) v least (task_tokens first bs v.0)
  pub less : least ≤ most
  pub enclosed : nat_lt p (task_rank v.0) ≡ true → suc least ≤ most

pub task_place : (p : ℕ) (scope : List Text) (next first : ℕ) (bs : List BodyText) (v : TaskMeaning) {k : ℕ}
    → OwnTask p scope next first bs v k → Shown (task_in p scope next) v k (task_at p first bs v.0)
task_place p scope next first bs v {k} o = go (nat_lt p (task_rank v.0)) refl
  where
    go : (b : Bool) → nat_lt p (task_rank v.0) ≡ b
        → Shown (task_in p scope next) v k (if b then codes "(" ∷ task_tokens first bs v.0 ++ codes ")" ∷ [] else task_tokens first bs v.0)
    go true is =
        let fewer = o.enclosed is in
        lifted scope next 0 p v k _ (omega arith) (looser (omega (arith, fewer))
        (grouped scope next v o.least _ (lifted scope next (task_rank v.0) 3 v o.least _ (task_within v.0) o.own)))
    go false is = let less = o.less in lifted scope next (task_rank v.0) p v k _ (grind (arith, nat_tests, is)) (looser less o.own)

pub wider_task : (p q : ℕ) {scope : List Text} {next first : ℕ} {bs : List BodyText} {v : TaskMeaning} {k : ℕ} → p ≤ q
    → OwnTask p scope next first bs v k → OwnTask q scope next first bs v k
wider_task p q le o = record { least = o.least; own = o.own; less = o.less; enclosed = λ h. o.enclosed (grind (arith, nat_tests, h, le)) }

-- by its own production
pub task_here : (p : ℕ) (scope : List Text) (next first : ℕ) (bs : List BodyText) (v : TaskMeaning) {k : ℕ}
    → nat_lt p (task_rank v.0) ≡ false → Shown (task_in (task_rank v.0) scope next) v k (task_tokens first bs v.0)
    → OwnTask p scope next first bs v k
task_here p scope next first bs v {k} fits s = record { least = k; own = s; less = omega arith; enclosed = λ h. absurd cc }

-- in parentheses
pub task_grouped : {scope : List Text} {next first : ℕ} {bs : List BodyText} {v : TaskMeaning} {k : ℕ} → OwnTask 3 scope next first bs v k
    → OwnTask 0 scope next first bs v (suc k)
task_grouped o =
    let less = o.less in record { least = o.least; own = o.own; less = omega (arith, less); enclosed = λ h. omega (arith, less) }
