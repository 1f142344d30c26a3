-- What `clap` sees in one word.
use Rattle.std.proofs.Common.{◌≡◌, ◌∙◌, ap, ap₂, sym, subst, refl, ℕ, Bool, true, false, cond, List, ◌∷◌, Some, None, one-add, []}
use Rattle.std.specs.Prelude.{◌==◌, encode_utf8_all, slice_get, option_and_then, ◌&&◌}
use Rattle.std.specs.Char.{encode_utf8}
use Rattle.std.specs.Str.{IsUtf8, bytes_eq, chars}
use Rattle.std.specs.List.{after_first, before_first, list_any}
use Rattle.std.proofs.lemmas.Bool.{eqb-true, or_parts}
use Rattle.std.proofs.lemmas.Str.{IsUtf8-past_char, encodes-chars}
use Rattle.clap.specs.Lexer.{long_of, long_of_rest, short_of, short_of_rest, strip_byte}
use Rattle.task_model.specs.Terms.Text.{Text}
use Rattle.command_words.specs.WordReading.{WordKind, is_equals, word_after_dash, word_after_two, kind_of_word}
use Rattle.command_words.specs.WordReading.WordKind.{joined, named, plain, refused, stop}

abbrev pub dashes : Text
dashes = 45 ∷ 45 ∷ []

-- what `clap`'s tests of a word say, by what the word is
abbrev pub Looks : WordKind → Text → Type 0
Looks stop w = bytes_eq w dashes ≡ true
Looks (named n) w = (bytes_eq w dashes ≡ false) × (long_of w ≡ Some (n, None))
Looks (joined n v) w = (bytes_eq w dashes ≡ false) × (long_of w ≡ Some (n, Some v))
Looks refused w = (bytes_eq w dashes ≡ false) × (long_of w ≡ None)
    × ((x : ℕ) × (xs : Text) × (w ≡ 45 ∷ x ∷ xs) × (short_of w ≡ Some (x ∷ xs)))
Looks plain w = (bytes_eq w dashes ≡ false) × (long_of w ≡ None) × (short_of w ≡ None)

before_first-all : (p : ℕ → Bool) (xs : Text) → list_any p xs ≡ false → before_first p xs ≡ xs
before_first-all p [] e = refl
before_first-all p (x ∷ xs) e =
    let parts = or_parts (p x) (list_any p xs) e in
    rw (parts.0, one-add) (ap (λ ys. x ∷ ys) (before_first-all p xs parts.1))

looks_after_two : (cs : Text) → Looks (word_after_two cs) (45 ∷ 45 ∷ cs)
looks_after_two [] = refl
looks_after_two (c ∷ cs) = go (list_any is_equals (c ∷ cs)) refl
  where
    go : (b : Bool) → list_any is_equals (c ∷ cs) ≡ b → Looks (word_after_two (c ∷ cs)) (45 ∷ 45 ∷ c ∷ cs)
    go true e = rw e (refl, ap (λ b. Some (before_first is_equals (c ∷ cs), cond b (Some (after_first is_equals (c ∷ cs))) None)) e)
    go false e = rw e (
      refl,
      ap₂ (λ n b. Some (n, cond b (Some (after_first is_equals (c ∷ cs))) None))
          (before_first-all is_equals (c ∷ cs) e) e,
    )

looks_after_dash : (cs : Text) → Looks (word_after_dash cs) (45 ∷ cs)
looks_after_dash [] = (refl, refl, refl)
looks_after_dash (c ∷ cs) = go (c == 45) refl
  where
    go : (b : Bool) → (c == 45) ≡ b → Looks (word_after_dash (c ∷ cs)) (45 ∷ c ∷ cs)
    go true e = rw e (subst (λ x. Looks (word_after_two cs) (45 ∷ x ∷ cs)) (sym (eqb-true c 45 e)) (looks_after_two cs))
    go false e =
        rw e (
          ap (λ b. b && bytes_eq cs []) e,
          ap (λ b. option_and_then long_of_rest (cond b (Some cs) None)) e,
          (c, cs, refl, ap (λ b. cond b None (Some (c ∷ cs))) e),
        )

pub looks : (w : Text) → Looks (kind_of_word w) w
looks [] = (refl, refl, refl)
looks (c ∷ cs) = go (c == 45) refl
  where
    go : (b : Bool) → (c == 45) ≡ b → Looks (kind_of_word (c ∷ cs)) (c ∷ cs)
    go true e = rw e (subst (λ x. Looks (word_after_dash cs) (x ∷ cs)) (sym (eqb-true c 45 e)) (looks_after_dash cs))
    go false e =
        rw e (
          ap (λ b. b && bytes_eq cs (45 ∷ [])) e,
          ap (λ b. option_and_then long_of_rest (option_and_then (strip_byte 45) (cond b (Some cs) None))) e,
          ap (λ b. option_and_then short_of_rest (cond b (Some cs) None)) e,
        )

-- a text that begins with `-` and goes on has a character after it
pub has_character : (x : ℕ) (xs : Text) → IsUtf8 (45 ∷ x ∷ xs) → (y : ℕ) × (slice_get (chars (x ∷ xs)) 0 ≡ Some y)
unfolding encode_utf8
has_character x xs u = go (chars (x ∷ xs)) refl
  where
    rest : IsUtf8 (x ∷ xs)
    rest = IsUtf8-past_char (45 ∷ x ∷ xs) (x ∷ xs) 45 u refl

    go : (cs : List ℕ) → chars (x ∷ xs) ≡ cs → (y : ℕ) × (slice_get cs 0 ≡ Some y)
    go [] e =
        let nothing : ◌≡◌ {A = Text} [] (x ∷ xs) = ap encode_utf8_all (sym e) ∙ encodes-chars (x ∷ xs) rest in
        cc
    go (y ∷ ys) e = (y, refl)
