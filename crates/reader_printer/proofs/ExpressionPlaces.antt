-- Expressions as they are printed, with no more levels than they were read with.
use Rattle.std.proofs.Common.{◌≡◌, ℕ, zero, suc, ◌+◌, ◌-◌, ◌≤◌, Bool, true, false, List, [], ◌∷◌, ◌++◌, refl, subst, arith}
use Rattle.std.specs.Prelude.{codes, nat_lt, if◌then◌else◌}
use Rattle.std.proofs.lemmas.Bool.Decides.{nat_tests}
use Rattle.task_model.specs.Terms.Text.{Text}
use Rattle.task_model.specs.Terms.Host.{HostTerm, unit_expr, bool_expr, int_expr, text_expr, name_expr, read_expr, call_expr, pair_expr, list_expr, nil_expr, neg_expr, not_expr, fst_expr, snd_expr, len_expr, op_expr, let_expr, if_expr, case_expr}
use Rattle.task_model.specs.declared.host.Op.{Op}
use Rattle.task_model.specs.declared.host.Op.TheVariants as ops
use Rattle.task_model.specs.declared.symbol.Symbol.TheVariants as signs
use Rattle.task_model.specs.Syntax.Lexemes.{symbol}
use Rattle.task_model.specs.Syntax.Grammar as grammar
use Rattle.task_model.specs.Syntax.Grammar.{Form, Parse, tokens, levels}
use Rattle.reader_printer.specs.PrintedPlaces.{term_at}
use Rattle.task_model.specs.Syntax.Printed.{expression_at, expression_rank, expression_tokens, operator_rank}
use Rattle.reader_printer.proofs.Showing.{Shown, looser, part_alone, tokens_around, sign_spelled}

-- ---- the nonterminals of expressions
-- each one reaches the productions of the one before it
abbrev IsShown : ℕ → HostTerm → ℕ → List Text → Type 0
IsShown p e k ts = Shown (term_at p) e k ts

up_one : (p : ℕ) {e : HostTerm} {k : ℕ} {ts : List Text} → IsShown p e k ts → IsShown (suc p) e k ts
up_one zero s = part_alone (λ d. grammar.unprefixed d) (λ d. refl) (λ d e. e) (λ d. refl) s
up_one (suc zero) s = part_alone (λ d. grammar.single grammar.product d) (λ d. refl) (λ d e. e) (λ d. refl) s
up_one (suc (suc zero)) s = part_alone (λ d. grammar.single grammar.sum d) (λ d. refl) (λ d e. e) (λ d. refl) s
up_one (suc (suc (suc zero))) s = part_alone (λ d. grammar.unlisted d) (λ d. refl) (λ d e. e) (λ d. refl) s
up_one (suc (suc (suc (suc zero)))) s = part_alone (λ d. grammar.uncompared d) (λ d. refl) (λ d e. e) (λ d. refl) s
up_one (suc (suc (suc (suc (suc zero))))) s = part_alone (λ d. grammar.single grammar.both d) (λ d. refl) (λ d e. e) (λ d. refl) s
up_one (suc (suc (suc (suc (suc (suc zero)))))) s = part_alone (λ d. grammar.single grammar.either d) (λ d. refl) (λ d e. e) (λ d. refl) s
up_one (suc (suc (suc (suc (suc (suc (suc zero))))))) s = part_alone (λ d. grammar.plain d) (λ d. refl) (λ d e. e) (λ d. refl) s
up_one (suc (suc (suc (suc (suc (suc (suc (suc p)))))))) s = s

-- as many places further
abbrev pub climbed : ℕ → ℕ → ℕ
climbed zero p = p
climbed (suc k) p = climbed k (suc p)

pub climbed_sum : (k p : ℕ) → climbed k p ≡ k + p
climbed_sum zero p = omega arith
climbed_sum (suc k) p = let e = climbed_sum k (suc p) in omega (arith, e)

up : (n p : ℕ) {e : HostTerm} {k : ℕ} {ts : List Text} → IsShown p e k ts → IsShown (climbed n p) e k ts
up zero p s = s
up (suc n) p s = up n (suc p) (up_one p s)

lifted : (p q : ℕ) {e : HostTerm} {k : ℕ} {ts : List Text} → p ≤ q → IsShown p e k ts → IsShown q e k ts
lifted p q {e} {k} {ts} le s =
    let same : climbed (q - p) p ≡ q = (let c = climbed_sum (q - p) p in omega (arith, c, le)) in
    subst (λ r. IsShown r e k ts) same (up (q - p) p s)

-- ---- an expression at its place
operator_within : (o : Op) → operator_rank o ≤ 8
operator_within ops.Or = omega arith
operator_within ops.And = omega arith
operator_within ops.Eq = omega arith
operator_within ops.Ne = omega arith
operator_within ops.Lt = omega arith
operator_within ops.Le = omega arith
operator_within ops.Gt = omega arith
operator_within ops.Ge = omega arith
operator_within ops.Cons = omega arith
operator_within ops.Add = omega arith
operator_within ops.Sub = omega arith
operator_within ops.Join = omega arith
operator_within ops.Mul = omega arith
operator_within ops.Quot = omega arith
operator_within ops.Rem = omega arith

rank_within : (e : HostTerm) → expression_rank e ≤ 8
rank_within unit_expr = omega arith
rank_within (bool_expr b) = omega arith
rank_within (int_expr i) = omega arith
rank_within (text_expr t) = omega arith
rank_within (name_expr x) = omega arith
rank_within (read_expr x) = omega arith
rank_within (call_expr f es) = omega arith
rank_within (pair_expr a b) = omega arith
rank_within (list_expr es) = omega arith
rank_within (nil_expr b) = omega arith
rank_within (neg_expr a) = omega arith
rank_within (not_expr a) = omega arith
rank_within (fst_expr a) = omega arith
rank_within (snd_expr a) = omega arith
rank_within (len_expr a) = omega arith
rank_within (op_expr o a b) = operator_within o
rank_within (let_expr x a b) = omega arith
rank_within (if_expr c a b) = omega arith
rank_within (case_expr l a x y b) = omega arith

-- What was read at a place within so many levels: its own production has no more, and fewer where it stood in parentheses.
pub record Own (p : ℕ) (e : HostTerm) (most : ℕ) : Type 0 where
  pub least : ℕ
  pub own : Shown (term_at (expression_rank e)) e least (expression_tokens e)
  pub less : least ≤ most
  pub enclosed : nat_lt p (expression_rank e) ≡ true → suc least ≤ most

grouped : {e : HostTerm} {k : ℕ} {ts : List Text} → IsShown 8 e k ts → IsShown 0 e (1 + k) (codes "(" ∷ ts ++ codes ")" ∷ [])
grouped s = tokens_around 1 (symbol signs.Open 0) (symbol signs.Close 0) (sign_spelled signs.Open 0) (sign_spelled signs.Close 0)
    (λ n d m. grammar.group n d m) (λ n d m. refl) (λ n d m e. e) (λ n d m. omega arith) s

pub at_place : (p : ℕ) (e : HostTerm) {k : ℕ} → p ≤ 8 → Own p e k → Shown (term_at p) e k (expression_at p e)
at_place p e {k} le o = go (nat_lt p (expression_rank e)) refl
  where
    go : (b : Bool) → nat_lt p (expression_rank e) ≡ b
        → Shown (term_at p) e k (if b then codes "(" ∷ expression_tokens e ++ codes ")" ∷ [] else expression_tokens e)
    go true is =
        let fewer = o.enclosed is in lifted 0 p (omega arith) (looser (omega (arith, fewer))
        (grouped (lifted (expression_rank e) 8 (rank_within e) o.own)))
    go false is = let less = o.less in lifted (expression_rank e) p (grind (arith, nat_tests, is)) (looser less o.own)

pub wider : (p q : ℕ) {e : HostTerm} {k : ℕ} → p ≤ q → Own p e k → Own q e k
wider p q {e} le o = record { least = o.least; own = o.own; less = o.less; enclosed = λ h. o.enclosed (grind (arith, nat_tests, h, le)) }

-- by its own production
pub own_here : (p : ℕ) (e : HostTerm) {k : ℕ} → nat_lt p (expression_rank e) ≡ false
    → Shown (term_at (expression_rank e)) e k (expression_tokens e) → Own p e k
own_here p e {k} fits s = record { least = k; own = s; less = omega arith; enclosed = λ h. absurd cc }

-- in parentheses
pub own_group : {e : HostTerm} {k : ℕ} → Own 8 e k → Own 0 e (suc k)
own_group o = let less = o.less in record { least = o.least; own = o.own; less = omega (arith, less); enclosed = λ h. omega (arith, less) }
