-- What a node comes to by what its parts come to. The code counts a level as `1 + n` where a parse has `suc n`.
use Rattle.std.proofs.Common.{◌≡◌, ℕ, suc, ◌+◌, List, [], sym, ap, ◌∙◌, arith}
use Rattle.task_model.specs.Terms.Host.{HostTerm, op_expr}
use Rattle.task_model.specs.declared.host.Op.{Op}
use Rattle.task_model.specs.declared.host.Host.{Host}
use Rattle.reader_grammar.specs.declared.parsed.Parsed.{Parsed}
use Rattle.task_model.specs.Terms.Basic.{BasicTerm}
use Rattle.reader_grammar.specs.Parts.{shown_host, ParsedTerm, PartsTerm, Listed, one_part, both_parts, node, over_type, over_list, over_one, over_two, over_three, grouped}

-- the same parsed term with other levels, and with another start
abbrev pub raised : {V : Type 0} → ℕ → ParsedTerm V → ParsedTerm V
raised n r = record { term = r.term; levels = n; start = r.start; places = r.places; bodies = r.bodies }

abbrev pub starting : {V : Type 0} → ℕ → ParsedTerm V → ParsedTerm V
starting p r = record { term = r.term; levels = r.levels; start = p; places = r.places; bodies = r.bodies }

one_more : {n : ℕ} → suc n ≡ 1 + n
one_more = omega arith

-- a node of these parts, with its levels as a parse has them
abbrev pub node_over : {V : Type 0} → V → ℕ → PartsTerm → ParsedTerm V
node_over term p parts = raised (suc parts.levels) (node term p parts)

node_is : {V : Type 0} (term : V) (p : ℕ) (parts : PartsTerm) → node_over term p parts ≡ node term p parts
node_is term p parts = ap (λ n. raised n (node term p parts)) one_more

module _ {V : Type 0} where
  pub over_type_is : (make : BasicTerm → V) {p : ℕ} {b c : BasicTerm × ℕ} {r : ParsedTerm V}
      → b ≡ c → r ≡ over_type make p c → node_over (make b.0) p (record { levels = b.1; places = []; bodies = [] }) ≡ r
  over_type_is make {p = p} {b = b} e is = node_is (make b.0) p (record { levels = b.1; places = []; bodies = [] })
      ∙ ap (over_type make p) e ∙ sym is

  pub over_list_is : (make : List HostTerm → V) {p : ℕ} {l m : Listed (List HostTerm)} {r : ParsedTerm V}
      → l ≡ m → r ≡ over_list make p m → node_over (make l.list) p (record { levels = l.levels; places = l.places; bodies = [] }) ≡ r
  over_list_is make {p = p} {l = l} e is = node_is (make l.list) p (record { levels = l.levels; places = l.places; bodies = [] })
      ∙ ap (over_list make p) e ∙ sym is

  pub over_one_is : {T : Type 0} (make : T → V) {p : ℕ} {a a' : ParsedTerm T} {r : ParsedTerm V}
      → a ≡ a' → r ≡ over_one make p a' → node_over (make a.term) p (one_part a) ≡ r
  over_one_is make {p = p} {a = a} e is = node_is (make a.term) p (one_part a) ∙ ap (over_one make p) e ∙ sym is

  pub over_two_is : {T U : Type 0} (make : T → U → V) {p : ℕ} {a a' : ParsedTerm T} {b b' : ParsedTerm U} {r : ParsedTerm V}
      → a ≡ a' → b ≡ b' → r ≡ over_two make p a' b' → node_over (make a.term b.term) p (both_parts (one_part a) (one_part b)) ≡ r
  over_two_is make {p = p} {a = a} {a' = a'} {b = b} e f is =
      node_is (make a.term b.term) p (both_parts (one_part a) (one_part b)) ∙ ap (λ q. over_two make p q b) e ∙ ap (over_two make p a') f
      ∙ sym is

  pub over_three_is : {S T U : Type 0} (make : S → T → U → V) {p : ℕ} {a a' : ParsedTerm S} {b b' : ParsedTerm T} {c c' : ParsedTerm U}
      {r : ParsedTerm V}
      → a ≡ a' → b ≡ b' → c ≡ c' → r ≡ over_three make p a' b' c'
      → node_over (make a.term b.term c.term) p (both_parts (one_part a) (both_parts (one_part b) (one_part c))) ≡ r
  over_three_is make {p = p} {a = a} {a' = a'} {b = b} {b' = b'} {c = c} e f g is =
      node_is (make a.term b.term c.term) p (both_parts (one_part a) (both_parts (one_part b) (one_part c)))
      ∙ ap (λ q. over_three make p q b c) e ∙ ap (λ q. over_three make p a' q c) f ∙ ap (over_three make p a' b') g ∙ sym is

  -- a node over two parts, which begins where the first one does: by what comes to that place
  pub between_is : {T U : Type 0} {make make' : T → U → V} {p : ℕ} {a a' : ParsedTerm T} {b b' : ParsedTerm U} {r : ParsedTerm V}
      → p ≡ a.start → make ≡ make' → a ≡ a' → b ≡ b' → r ≡ over_two make' a'.start a' b'
      → starting p (node_over (make a.term b.term) a.start (both_parts (one_part a) (one_part b))) ≡ r
  between_is {make = make} {make' = make'} {a = a} {a' = a'} {b = b} starts d e f is =
      ap (λ n. starting n (node_over (make a.term b.term) a.start (both_parts (one_part a) (one_part b)))) starts
      ∙ node_is (make a.term b.term) a.start (both_parts (one_part a) (one_part b))
      ∙ ap (λ m. over_two m a.start a b) d ∙ ap (λ q. over_two make' q.start q b) e ∙ ap (over_two make' a'.start a') f ∙ sym is

  -- a node over one part behind a token that stands here
  pub behind_is : {T : Type 0} (make : T → V) {p p' : ℕ} {a a' : ParsedTerm T} {r : ParsedTerm V}
      → p' ≡ p → a ≡ a' → r ≡ over_one make p a' → starting p' (node_over (make a.term) p (one_part a)) ≡ r
  behind_is make {p = p} {a = a} starts e is = ap (λ n. starting n (node_over (make a.term) p (one_part a))) starts ∙ over_one_is make e is

  pub grouped_is : {p : ℕ} {a a' r : ParsedTerm V} → a ≡ a' → r ≡ grouped p a' → starting p (raised (suc a.levels) a) ≡ r
  grouped_is {p = p} {a = a} e is = ap (λ n. starting p (raised n a)) one_more ∙ ap (grouped p) e ∙ sym is

-- an expression in parentheses, by what it is
pub group_shown : (a r : Parsed Host) {p : ℕ}
    → r.term ≡ a.term → r.levels ≡ 1 + a.levels → r.start ≡ p → r.places ≡ a.places → r.bodies ≡ a.bodies
    → shown_host r ≡ grouped p (shown_host a)
group_shown a r term levels start places bodies = cc

-- an operator between two expressions
pub operated_is : {op op' : Op} {p : ℕ} {a a' b b' r : ParsedTerm HostTerm}
    → p ≡ a.start → op ≡ op' → a ≡ a' → b ≡ b' → r ≡ over_two (op_expr op') a'.start a' b'
    → starting p (node_over (op_expr op a.term b.term) a.start (both_parts (one_part a) (one_part b))) ≡ r
operated_is {op = op} {op' = op'} {p = p} {a = a} {b = b} starts same left right is =
    between_is {make = λ x y. op_expr op x y} {make' = λ x y. op_expr op' x y} {p = p} {a = a} {b = b} starts
    (ap (λ o x y. op_expr o x y) same) left right is
