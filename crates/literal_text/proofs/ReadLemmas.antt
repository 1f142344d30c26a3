-- Whole literals and names of types, with the spaces in front.
use Rattle.std.proofs.Common.{◌≡◌, ℕ, suc, ◌≤◌, true, false, ◌==◌, Option, None, Some, [], ◌∷◌, ◌++◌, length, Result, Ok, Err, refl, sym, ap, ◌∙◌, subst, arith}
use Rattle.std.specs.Prelude.{IfErr}
use Rattle.std.proofs.lemmas.Bool.Decides.{nat_tests}
use Rattle.task_model.specs.Terms.Text.{Text}
use Rattle.task_model.specs.Terms.Basic.{BasicTerm}
use Rattle.task_model.specs.Terms.Value.{ValueTerm}
use Rattle.exact_reading.specs.declared.stop.FaultKind.TheVariants.{Unexpected}
use Rattle.exact_reading.specs.Reading.{Language, IsViablePrefix, Always, Answer, Right}
use Rattle.exact_reading.specs.Whole.{IsFirstFault, IsFault}
use Rattle.exact_reading.proofs.Sequences.{Bind}
use Rattle.exact_reading.proofs.Productions.{then_right, same_language}
use Rattle.exact_reading.proofs.Whole.{same_fault}
use Rattle.literal_text.specs.declared.stop.LiteralStop.{LiteralStop}
use Rattle.literal_text.specs.declared.stop.LiteralStop.TheVariants.{Bad, Memory}
use Rattle.literal_text.specs.Literals.{spaces, IsLiteral, IsLiteralOf}
use Rattle.literal_text.specs.Types.{IsTypeName}
use Rattle.literal_text.specs.Types as types
use Rattle.literal_text.specs.LiteralPlaces.{IsStopAt}
use Rattle.task_model.specs.Checking.TypeParts.{symbols_of}
use Rattle.literal_text.specs.LiteralReading.{NoBlank, Ends, Gap, Lit, Whole, TypeName, fewest}
use Rattle.literal_text.proofs.WordLemmas.{gap_right}
use Rattle.literal_text.proofs.FitLemmas.{least_lit, fewest_least}
use Rattle.literal_text.proofs.LiteralLemmas.{lit_no_blank}
use Rattle.literal_text.proofs.TypeLemmas.{Measured, name_no_blank, name_alive}

pub nothing_ends : Ends []
nothing_ends = record { blank = λ y e. cc; digit = tt }

pub nothing_blank : NoBlank []
nothing_blank y e = cc

test_some : (n : ℕ) → true ≡ (suc n == 0) → ⊥
test_some n e = grind (arith, nat_tests)

pub is_empty : (l : Text) → true ≡ (length l == 0) → l ≡ []
is_empty [] e = refl
is_empty (x ∷ l) e = absurd (test_some (length l) e)

pub not_empty : (l : Text) → false ≡ (length l == 0) → l ≡ [] → ⊥
not_empty [] e same = cc
not_empty (x ∷ l) e same = cc

-- ---- literals
module _ (want : Option BasicTerm) where
  whole_in : (a : Text) (y : ValueTerm) → Bind Gap (λ _. Lit want 64) a y → Whole want a y
  whole_in a y h = record {
    before = h.first.many;
    parse = h.next.parse;
    are = h.split ∙ ap (λ l. l ++ h.back) h.first.are
        ∙ ap (λ l. spaces h.first.many ++ l) h.next.are;
    stands_for = h.next.stands_for;
    fit = h.next.fit;
  }

  whole_out : (a : Text) (y : ValueTerm) → Whole want a y → Bind Gap (λ _. Lit want 64) a y
  whole_out a y h = record {
    front = spaces h.before;
    back = _;
    value = tt;
    split = h.are;
    first = record {
      many = h.before;
      are = refl;
    };
    next = record { parse = h.parse; are = refl; stands_for = h.stands_for; fit = h.fit };
  }

  lit_alive : fewest want ≤ 64 → IsViablePrefix (Lit want 64) Always []
  lit_alive le = let (t, v, h) = least_lit want 64 le in (t, v, h, tt)

  pub read_whole : {ts rest : Text} {r : Answer ℕ ValueTerm} → fewest want ≤ 64 → (n : ℕ) × (ts ≡ spaces n ++ rest) → NoBlank rest
      → Right (Lit want 64) Always Ends rest r → Right (Whole want) Always Ends ts r
  read_whole le gap ends right = same_language (Bind Gap (λ _. Lit want 64)) (Whole want) whole_in whole_out
      (then_right (λ x b y z h hz. lit_no_blank z h) (lit_alive le) (gap_right gap ends) right)

-- ---- names of types
abbrev TypeNames : Language ℕ Measured
TypeNames = Bind Gap (λ _. TypeName 64)

abbrev pub Named : Language ℕ Measured
Named t x = IsTypeName t x.0 × (x.1 ≡ symbols_of x.0)

named_in : (a : Text) (y : Measured) → TypeNames a y → Named a y
named_in a y h =
    let b : y.0 ≡ types.basic h.next.parse = ap (λ p. p.0) h.next.stands_for in
    let n : y.1 ≡ symbols_of (types.basic h.next.parse) = ap (λ p. p.1) h.next.stands_for in
    let le = h.next.symbols in (
      record {
        before = h.first.many;
        parse = h.next.parse;
        are = h.split ∙ ap (λ l. l ++ h.back) h.first.are
            ∙ ap (λ l. spaces h.first.many ++ l) h.next.are;
        stands_for = b;
        symbols = subst (λ t. symbols_of t ≤ 64) (sym b) le;
      },
      n
          ∙ ap symbols_of (sym b),
    )

named_out : (a : Text) (y : Measured) → Named a y → TypeNames a y
named_out a y (h, n) = record {
  front = spaces h.before;
  back = types.type_bytes h.parse;
  value = tt;
  split = h.are;
  first = record {
    many = h.before;
    are = refl;
  };
  next = record {
    parse = h.parse;
    are = refl;
    stands_for = λ i. (h.stands_for i, (n ∙ ap symbols_of h.stands_for) i);
    symbols = subst (λ t. symbols_of t ≤ 64) h.stands_for h.symbols;
  };
}

pub read_named : {ts rest : Text} {r : Answer ℕ Measured} → (n : ℕ) × (ts ≡ spaces n ++ rest) → NoBlank rest
    → Right (TypeName 64) Always NoBlank rest r → Right Named Always NoBlank ts r
read_named gap ends right = same_language TypeNames Named named_in named_out
    (then_right (λ x b y z h hz. name_no_blank z h) (name_alive 64 (omega arith)) (gap_right gap ends) right)

-- a fault among names with their symbols is one among names
pub named_fault : {ts : Text} {place : ℕ} → IsFirstFault Named Always ts Unexpected place
    → IsFirstFault IsTypeName Always ts Unexpected place
named_fault {ts = ts} fault = record {
  front = fault.front;
  back = fault.back;
  split = fault.split;
  at = fault.at;
  begins = λ (w, b, h, _). let (w', x, h', _) = fault.begins (w, (b, symbols_of b), (h, refl), tt) in (w', x.0, h'.0, tt);
  nothing = λ none. fault.nothing (λ (w, x, h, _). none (w, x.0, h.0, tt));
  stops = go fault.back fault.stops;
}
  where
    go : (back : Text) → IsFault Named Always fault.front back Unexpected → IsFault IsTypeName Always fault.front back Unexpected
    go [] dead = λ b h. dead (b, symbols_of b) (h, refl)
    go (t ∷ back) dead = λ (w, b, h, _). dead (w, (b, symbols_of b), (h, refl), tt)

-- ---- the answers of the calls
-- the same where another language has the same words
pub same_stop : {X : Type 0} (A C : Language ℕ X) (t : Text) → ((a : Text) (x : X) → A a x → C a x) → ((a : Text) (x : X) → C a x → A a x)
    → (e : LiteralStop) → IsStopAt A t e → IsStopAt C t e
same_stop A C t into out (Bad bad) h = same_fault A C into out h
same_stop A C t into out Memory h = tt

pub same_err : {X Y : Type 0} (A C : Language ℕ X) (t : Text) → ((a : Text) (x : X) → A a x → C a x) → ((a : Text) (x : X) → C a x → A a x)
    → (r : Result Y LiteralStop) → IfErr r (λ e. IsStopAt A t e) → IfErr r (λ e. IsStopAt C t e)
same_err A C t into out (Ok y) h = h
same_err A C t into out (Err e) h = same_stop A C t into out e h

pub any_in : (a : Text) (v : ValueTerm) → Whole None a v → IsLiteral a v
any_in a v h = record {
  before = h.before;
  parse = h.parse;
  are = h.are;
  stands_for = h.stands_for;
  limits = h.fit.limits;
  levels = h.fit.levels;
}

pub any_out : (a : Text) (v : ValueTerm) → IsLiteral a v → Whole None a v
any_out a v h = record {
  before = h.before;
  parse = h.parse;
  are = h.are;
  stands_for = h.stands_for;
  fit = record {
    limits = h.limits;
    levels = h.levels;
    typed = tt;
  };
}

pub typed_in : (b : BasicTerm) (a : Text) (v : ValueTerm) → Whole (Some b) a v → IsLiteralOf b a v
typed_in b a v h = record {
  is = record {
    before = h.before;
    parse = h.parse;
    are = h.are;
    stands_for = h.stands_for;
    limits = h.fit.limits;
    levels = h.fit.levels;
  };
  has = h.fit.typed;
}

pub typed_out : (b : BasicTerm) (a : Text) (v : ValueTerm) → IsLiteralOf b a v → Whole (Some b) a v
typed_out b a v h = let i = h.is in record {
  before = i.before;
  parse = i.parse;
  are = i.are;
  stands_for = i.stands_for;
  fit = record {
    limits = i.limits;
    levels = i.levels;
    typed = h.has;
  };
}

-- a type whose literals all have more levels
pub no_literal : (b : BasicTerm) → (fewest (Some b) ≤ 64 → ⊥) → (a : Text) (v : ValueTerm) → IsLiteralOf b a v → ⊥
no_literal b deep a v h = let low = fewest_least (Some b) v h.has in let most = h.is.levels in deep (omega (arith, low, most))
