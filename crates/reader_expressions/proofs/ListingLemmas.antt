-- Arguments and elements, as the loop over their commas goes on, and what stands between their parentheses.
use Rattle.std.proofs.Common.{◌≡◌, ℕ, ◌+◌, ◌≤◌, max, List, [], ◌∷◌, ◌++◌, Ok, Err, refl, sym, ap, ◌∙◌, subst, arith}
use Rattle.task_model.specs.Terms.Host.{HostTerm}
use Rattle.task_model.specs.declared.symbol.Symbol.TheVariants as signs
use Rattle.exact_reading.specs.declared.stop.ParseStop.{ParseStop}
use Rattle.exact_reading.specs.Reading.{Language, IsWithinLevels, Right}
use Rattle.exact_reading.proofs.Productions.{Least, bind_stop, by_production, least_alive, least_ever}
use Rattle.exact_reading.proofs.Symbols.{part, one, Seq, Sequence, least_seq}
use Rattle.task_model.specs.Syntax.Lexemes.{Lexeme, symbol}
use Rattle.task_model.specs.Syntax.Grammar.{Listing, list, arguments, expression, series, enclosed, Operator, comma, operator, Parse, full, joined, levels}
use Rattle.task_model.specs.Syntax.Meaning.{meaning}
use Rattle.task_model.specs.Syntax.Nodes.{places}
use Rattle.reader_grammar.specs.Languages.{Of, EndsForm, Reads}
use Rattle.reader_grammar.specs.Parts.{ParsedTerm, shown, Listed, shown_list, one_item, more_items}
use Rattle.reader_grammar.proofs.GrammarLemmas.{grammar, a_sign}
use Rattle.reader_grammar.proofs.RuleLemmas.{built}
use Rattle.reader_grammar.proofs.SeriesReading as loops

abbrev listed_at : List HostTerm → ℕ → List ℕ → Listed (List HostTerm)
listed_at l n ps = record { list = l; levels = n; places = ps }

joined_items : (d : Parse (series (list arguments))) (p : ℕ) (e : Parse expression)
    → shown_list (joined (list arguments) d (comma arguments) p e) ≡ more_items (shown_list d) (shown e)
joined_items d p e =
    let same : 0 + max (levels d) (levels e) ≡ max (levels d) (levels e) = omega arith in
    ap (λ n. listed_at (meaning d ++ (meaning e ∷ [])) n (places d ++ places e)) same

-- some items were read, and the rest goes on
abbrev pub Gathering : ℕ → List Lexeme → Listed (List HostTerm) → List Lexeme → Type 0
Gathering room ts items rest = loops.Going (list arguments) shown_list room ts items rest

module _ {room : ℕ} {ts : List Lexeme} where
  pub begin_stop : {e : ParseStop} → Reads expression shown room ts (Err e) → Reads (series (list arguments)) shown_list room ts (Err e)
  begin_stop h = loops.begin_stop (list arguments) shown_list shown h

  pub begin : {first : ParsedTerm HostTerm} {items : Listed (List HostTerm)} {rest : List Lexeme}
      → Reads expression shown room ts (Ok (first, rest)) → items ≡ one_item first → Gathering room ts items rest
  begin h is = loops.begin (list arguments) shown_list (λ d shows. ap one_item shows ∙ sym is) h

  module _ {items : Listed (List HostTerm)} {rest after : List Lexeme} (g : Gathering room ts items rest) (p : ℕ)
      (e : rest ≡ symbol signs.Comma p ∷ after) where
    up : 0 + room ≡ room
    up = omega arith

    enough : 0 + g.parse.1 ≤ room
    enough = let fits = g.fits in omega (arith, fits)

    pub next_stop : {s : ParseStop} → Reads expression shown room after (Err s) → Reads (series (list arguments)) shown_list room ts (Err s)
    next_stop h = loops.next_stop (list arguments) shown_list g (comma arguments) p e up enough shown h

    pub next : {new : Listed (List HostTerm)} {second : ParsedTerm HostTerm} {behind : List Lexeme}
        → Reads expression shown room after (Ok (second, behind)) → new ≡ more_items items second → Gathering room ts new behind
    next h is =
        loops.next (list arguments) shown_list g (comma arguments) p e up enough
        (λ x y left_is right_is. joined_items x p y ∙ ap (λ q. more_items q (shown y)) left_is ∙ ap (λ q. more_items items q) right_is
        ∙ sym is) h

  pub finish : {items : Listed (List HostTerm)} {rest : List Lexeme} → Gathering room ts items rest
      → ((p : ℕ) (s : List Lexeme) → rest ≡ symbol signs.Comma p ∷ s → ⊥)
      → Reads (series (list arguments)) shown_list room ts (Ok (items, rest))
  finish {rest = rest} g none = loops.finish (list arguments) shown_list g no_comma
    where
      no_comma : (o : Operator (list arguments)) (p : ℕ) (s : List Lexeme) → rest ≡ operator o p ∷ s → ⊥
      no_comma (comma m) p s e = none p s e

-- ---- in parentheses
-- what stands behind the items
abbrev Behind : (l : Listing) → ℕ → Parse (series (list l)) × ℕ → Language Lexeme (Parse (enclosed l) × ℕ)
Behind l p x = Seq grammar 0 (one (a_sign signs.Close) ∷ []) (λ vs. full l p x.0 vs.0) (max 0 x.1)

least_behind : (l : Listing) (p : ℕ) (x : Parse (series (list l)) × ℕ) → Least (0 + max 0 x.1) (Behind l p x)
least_behind l p x = least_seq grammar 0 (one (a_sign signs.Close) ∷ []) (λ vs. full l p x.0 vs.0) (max 0 x.1)

-- the first item was refused, or one behind it was; where there is no room, none fits
pub full_stop : {l : Listing} {p room : ℕ} {ts : List Lexeme} {e : ParseStop}
    → Right (Of (series (list l))) (IsWithinLevels room) (EndsForm (series (list l))) ts (Err e)
    → Right (Sequence grammar 0 (part (series (list l)) ∷ one (a_sign signs.Close) ∷ []) (λ vs. full l p vs.0 vs.1.0) 0)
    (IsWithinLevels room)
    (EndsForm (enclosed l)) ts (Err e)
full_stop {l} {p} {room} right =
    by_production (Seq grammar 0 (part (series (list l)) ∷ one (a_sign signs.Close) ∷ []) (λ vs. full l p vs.0 vs.1.0) 0)
    (Sequence grammar 0 (part (series (list l)) ∷ one (a_sign signs.Close) ∷ []) (λ vs. full l p vs.0 vs.1.0) 0)
    (λ a y h. record { by = h }) (λ a y z h _ _. h.by)
    (bind_stop {B = Behind l p} (λ x b y z h hz. subst (λ t. EndsForm (series (list l)) (t ++ z))
    (sym (built 0 (one (a_sign signs.Close) ∷ []) (λ vs. full l p x.0 vs.0) (max 0 x.1) b y h).are) refl)
    (λ x b y h fits. let n = (least_behind l p x).above b y h in omega (arith, n, fits))
    (λ a x h fits. least_alive (0 + max 0 x.1) room (Behind l p x) (omega (arith, fits)) (least_behind l p x))
    (λ a x h. least_ever (0 + max 0 x.1) (Behind l p x) (least_behind l p x)) right)
