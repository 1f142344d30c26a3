-- A parse has no more bodies than tokens, and where bodies are read there is room for one more.
use Rattle.std.proofs.Common.{◌≡◌, ℕ, ◌+◌, ◌≤◌, List, ◌++◌, length, Ok, sym, ap, ◌∙◌, arith, length-append}
use Rattle.task_model.specs.Syntax.Lexemes.{Lexeme}
use Rattle.task_model.specs.Syntax.Grammar.{parameters, arguments, list, choice, chain, internal, external, Form, task, task_atom, series, Parse, more_definitions, task_named, task_let, task_if, task_case, task_new, task_put, task_plain, task_then, task_next, task_edit, task_enter, task_share, task_fail, task_call, task_group, single, joined, full, tokens}
use Rattle.task_model.specs.Syntax.Meaning.{bodies}
use Rattle.exact_reading.specs.Reading.{Right}
use Rattle.reader_grammar.specs.Languages.{Of, Reads}

-- a task could have one body more
abbrev pub spare : Form → ℕ
spare task = 1
spare task_atom = 1
spare (series choice) = 1
spare (series chain) = 1
spare f = 0

pub bodies_fit : {f : Form} (d : Parse f) → spare f + bodies d ≤ length (tokens d)
bodies_fit (more_definitions ds d) = grind (arith, length-append, bodies_fit ds, bodies_fit d)
bodies_fit (task_named p x q ps r b s t) = grind (arith, length-append, bodies_fit t)
bodies_fit (task_let p x q r e s t) = grind (arith, length-append, bodies_fit t)
bodies_fit (task_if p e q t r u) = grind (arith, length-append, bodies_fit t, bodies_fit u)
bodies_fit (task_case p e q r s a t b x i j y k c u) = grind (arith, length-append, bodies_fit t, bodies_fit u)
bodies_fit (task_new p x q r e s t) = grind (arith, length-append, bodies_fit t)
bodies_fit (task_put x p q e r t) = grind (arith, length-append, bodies_fit t)
bodies_fit (task_plain t) = bodies_fit t
bodies_fit (task_then t p x q r u) = grind (arith, length-append, bodies_fit t, bodies_fit u)
bodies_fit (task_next t p x q r u) = grind (arith, length-append, bodies_fit t, bodies_fit u)
bodies_fit (task_edit p e) = omega arith
bodies_fit (task_enter p b) = omega arith
bodies_fit (task_share p x q) = omega arith
bodies_fit (task_fail p b) = omega arith
bodies_fit (task_call x p es) = omega arith
bodies_fit (task_group p t q) = grind (arith, length-append, bodies_fit t)
bodies_fit (single choice t) = bodies_fit t
bodies_fit (single chain t) = bodies_fit t
bodies_fit (joined choice t internal p u) = grind (arith, length-append, bodies_fit t, bodies_fit u)
bodies_fit (joined choice t external p u) = grind (arith, length-append, bodies_fit t, bodies_fit u)
bodies_fit (joined chain t o p u) = grind (arith, length-append, bodies_fit t, bodies_fit u)
bodies_fit (single (list parameters) a) = omega arith
bodies_fit (single (list arguments) a) = omega arith
bodies_fit (joined (list parameters) a o p b) = omega arith
bodies_fit (joined (list arguments) a o p b) = omega arith
bodies_fit (full parameters p ps q) = omega arith
bodies_fit (full arguments p es q) = omega arith
bodies_fit d = omega arith

-- what was read stands before the rest
pub before_rest : {f : Form} {F : Parse f × ℕ → Type 0} {E : List Lexeme → Type 0} {ts rest : List Lexeme} {x : Parse f × ℕ}
    → Right (Of f) F E ts (Ok (x, rest)) → ts ≡ tokens x.0 ++ rest
before_rest {rest = rest} right = right.by.split ∙ ap (λ l. l ++ rest) (sym right.by.found.0)

-- so the rest has fewer tokens than there were, by the bodies of what was read, which are so many
pub room_left : {f : Form} (d : Parse f) (ts rest : List Lexeme) (many : ℕ) → many ≡ bodies d → ts ≡ tokens d ++ rest
    → spare f + many + length rest ≤ length ts
room_left d ts rest many count split =
    let whole = ap length split in
    let parts = length-append (tokens d) rest in
    let fit = bodies_fit d in
    omega (arith, count, whole, parts, fit)

pub bodies_left : {f : Form} {Y : Type 0} {show : Parse f → Y} (many : Y → ℕ) → ((d : Parse f) → many (show d) ≡ bodies d)
    → {room : ℕ} {ts rest : List Lexeme} {y : Y} → Reads f show room ts (Ok (y, rest)) → spare f + many y + length rest ≤ length ts
bodies_left many count {ts = ts} {rest = rest} {y = y} h =
    let (x, shows, right) = h.by in
    room_left x.0 ts rest (many y) (ap many (sym shows) ∙ count x.0) (before_rest right)
