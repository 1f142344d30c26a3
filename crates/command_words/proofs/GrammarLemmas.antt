-- The reading of words is the grammar's, in both directions.
use Rattle.std.proofs.Common.{◌≡◌, ◌∙◌, ◌⊎◌, ◌↔◌, ⊎_elim, inl, inr, ap, ap₂, sym, subst, refl, suc, Bool, true, false, cond, List, ◌∷◌, ◌++◌, length, drop, Option, Some, None, arith, one-add, true≢false, []}
use Rattle.std.specs.Prelude.{◌==◌, ◌+◌, ◌||◌, nat_lt}
use Rattle.std.specs.List.{after_first, before_first, list_all, list_any, position_or_len}
use Rattle.std.specs.Str.{bytes_eq}
use Rattle.std.proofs.lemmas.Bool.{and_parts, eqb-true, not-true, or_parts, or_right}
use Rattle.std.proofs.lemmas.Slice.Eq.{bytes_eq-Decides}
use Rattle.command_words.specs.WordGrammar.{Fills, Follows, is_option_name}
use Rattle.command_words.specs.WordGrammar.Fills.{none, one}
use Rattle.command_words.specs.WordGrammar.Follows.{apart, ended, placed, placed_dash, stopped, together}
use Rattle.task_model.specs.Terms.Text.{Text}
use Rattle.command_words.specs.WordReading.{Use, WordKind, begins_with_dash, filled, has, is_equals, read, read_word, with_use, without, word_after_dash, word_after_two, kind_of_word}
use Rattle.command_words.specs.WordReading.WordKind.{joined, named, plain, refused, stop}
use Rattle.command_words.proofs.Names.{has-without-other, has-without-same}

-- ---- one word

before-at : (n v : Text) → list_any is_equals n ≡ false → before_first is_equals (n ++ 61 ∷ v) ≡ n
before-at [] v e = refl
before-at (c ∷ cs) v e =
    let parts = or_parts (is_equals c) (list_any is_equals cs) e in
    rw (parts.0, one-add) (ap (λ ys. c ∷ ys) (before-at cs v parts.1))

after-at : (n v : Text) → list_any is_equals n ≡ false → after_first is_equals (n ++ 61 ∷ v) ≡ v
after-at [] v e = refl
after-at (c ∷ cs) v e =
    let parts = or_parts (is_equals c) (list_any is_equals cs) e in
    let k = position_or_len is_equals (cs ++ 61 ∷ v) in
    let next : (1 + k) + 1 ≡ suc (k + 1) = omega arith in
    rw (parts.0) (ap (λ m. drop m (c ∷ (cs ++ 61 ∷ v))) next ∙ after-at cs v parts.1)

any-at : (n v : Text) → list_any is_equals (n ++ 61 ∷ v) ≡ true
any-at [] v = refl
any-at (c ∷ cs) v = or_right (is_equals c) _ (any-at cs v)

split-at : (xs : Text) → list_any is_equals xs ≡ true → xs ≡ before_first is_equals xs ++ 61 ∷ after_first is_equals xs
split-at [] e = absurd (true≢false (sym e))
split-at (c ∷ cs) e = go (is_equals c) refl e (λ h. split-at cs h)
  where
    go : (b : Bool) → is_equals c ≡ b → (b || list_any is_equals cs) ≡ true
        → (list_any is_equals cs ≡ true → cs ≡ before_first is_equals cs ++ 61 ∷ after_first is_equals cs)
        → c ∷ cs ≡ before_first is_equals (c ∷ cs) ++ 61 ∷ after_first is_equals (c ∷ cs)
    go true t h later = rw t (ap (λ x. x ∷ cs) (eqb-true c 61 t))
    go false t h later =
        let k = position_or_len is_equals cs in
        let next : (1 + k) + 1 ≡ suc (k + 1) = omega arith in
        rw (t, next, one-add) (ap (λ ys. c ∷ ys) (later h))

option_is_named : (name : Text) → is_option_name name ≡ true → kind_of_word (45 ∷ 45 ∷ name) ≡ named name
option_is_named [] e = absurd (true≢false (sym e))
option_is_named (c ∷ cs) e =
    let lacks = not-true _ (and_parts (nat_lt 0 (length (c ∷ cs))) _ e).1 in
    ap (λ b. cond b (joined (before_first is_equals (c ∷ cs)) (after_first is_equals (c ∷ cs))) (named (c ∷ cs))) lacks

option_is_joined : (name value : Text) → is_option_name name ≡ true → kind_of_word (45 ∷ 45 ∷ (name ++ 61 ∷ value)) ≡ joined name value
option_is_joined [] value e = absurd (true≢false (sym e))
option_is_joined (c ∷ cs) value e =
    let n = c ∷ cs in
    let lacks = not-true _ (and_parts (nat_lt 0 (length n)) _ e).1 in
    ap (λ b. cond b (joined (before_first is_equals (n ++ 61 ∷ value)) (after_first is_equals (n ++ 61 ∷ value))) (named (n ++ 61 ∷ value)))
    (any-at n value)
    ∙ ap₂ joined (before-at n value lacks) (after-at n value lacks)

plain_is_plain : (w : Text) → begins_with_dash w ≡ false → kind_of_word w ≡ plain
plain_is_plain [] e = refl
plain_is_plain (c ∷ cs) e = ap (λ b. cond b (word_after_dash cs) plain) e

-- how a word is spelt
abbrev Spelt : WordKind → Text → Type 0
Spelt stop w = w ≡ 45 ∷ 45 ∷ []
Spelt (named n) w = w ≡ 45 ∷ 45 ∷ n
Spelt (joined n v) w = w ≡ 45 ∷ 45 ∷ (n ++ 61 ∷ v)
Spelt refused w = Unit {0}
Spelt plain w = (begins_with_dash w ≡ false) ⊎ (w ≡ 45 ∷ [])

spelt_after_two : (cs : Text) → Spelt (word_after_two cs) (45 ∷ 45 ∷ cs)
spelt_after_two [] = refl
spelt_after_two (c ∷ cs) = go (list_any is_equals (c ∷ cs)) refl
  where
    go : (b : Bool) → list_any is_equals (c ∷ cs) ≡ b
        → Spelt (cond b (joined (before_first is_equals (c ∷ cs)) (after_first is_equals (c ∷ cs))) (named (c ∷ cs))) (45 ∷ 45 ∷ c ∷ cs)
    go true e = ap (λ t. 45 ∷ 45 ∷ t) (split-at (c ∷ cs) e)
    go false e = refl

spelt_after_dash : (cs : Text) → Spelt (word_after_dash cs) (45 ∷ cs)
spelt_after_dash [] = inr refl
spelt_after_dash (c ∷ cs) = go (c == 45) refl
  where
    go : (b : Bool) → (c == 45) ≡ b → Spelt (cond b (word_after_two cs) refused) (45 ∷ c ∷ cs)
    go true e = subst (λ x. Spelt (word_after_two cs) (45 ∷ x ∷ cs)) (sym (eqb-true c 45 e)) (spelt_after_two cs)
    go false e = tt

spelt : (w : Text) → Spelt (kind_of_word w) w
spelt [] = inl refl
spelt (c ∷ cs) = go (c == 45) refl
  where
    go : (b : Bool) → (c == 45) ≡ b → Spelt (cond b (word_after_dash cs) plain) (c ∷ cs)
    go true e = subst (λ x. Spelt (word_after_dash cs) (x ∷ cs)) (sym (eqb-true c 45 e)) (spelt_after_dash cs)
    go false e = inl e

-- ---- from the grammar to the reading

-- each option has an option's name
abbrev pub AreNames : List Text → Type 0
AreNames os = (n : Text) → has n os ≡ true → is_option_name n ≡ true

names_without : (name : Text) (os : List Text) → AreNames os → AreNames (without name os)
names_without name os names n h = go (bytes_eq name n) refl
  where
    go : (b : Bool) → bytes_eq name n ≡ b → is_option_name n ≡ true
    go true e = absurd (true≢false
        (sym h ∙ ap (λ x. has x (without name os)) (sym ((bytes_eq-Decides name n).0 e)) ∙ has-without-same name os))
    go false e = names n (sym (has-without-other n name os e) ∙ h)

fills_read : {ps ws : List Text} {us : List Use} → Fills ps ws us → filled ps ws ≡ Some us
fills_read none = refl
fills_read (one {argument = p} {word = w} f) = ap (with_use p w) (fills_read f)

word_read : (w : Text) (ws ps os : List Text) (k : WordKind) → kind_of_word w ≡ k
    → read (w ∷ ws) ps os None ≡ read_word ps os k w ws (read ws)
word_read w ws ps os k e = ap (λ x. read_word ps os x w ws (read ws)) e

pub follows_read : {ps os ws : List Text} {us : List Use} → AreNames os → Follows ps os ws us → read ws ps os None ≡ Some us
follows_read names ended = refl
follows_read names (stopped {arguments = ps} {options = os} {words = ws} {word = w} is f) = word_read w ws ps os stop (ap kind_of_word is)
    ∙ fills_read f
follows_read names (apart {arguments = ps} {options = os} {words = ws} {word = w} {value = v} {name = n} is here value rest) =
    word_read w (v ∷ ws) ps os (named n) (ap kind_of_word is ∙ option_is_named n (names n here))
    ∙ ap (λ b. cond b (read (v ∷ ws) ps (without n os) (Some n)) None) here
    ∙ ap (λ b. cond b None (with_use n v (read ws ps (without n os) None))) value
    ∙ ap (with_use n v) (follows_read (names_without n os names) rest)
follows_read names (together {arguments = ps} {options = os} {words = ws} {word = w} {value = v} {name = n} is here rest) =
    word_read w ws ps os (joined n v) (ap kind_of_word is ∙ option_is_joined n v (names n here))
    ∙ ap (λ b. cond b (with_use n v (read ws ps (without n os) None)) None) here
    ∙ ap (with_use n v) (follows_read (names_without n os names) rest)
follows_read names (placed {argument = p} {word = w} {arguments = ps} {options = os} {words = ws} value rest) =
    word_read w ws (p ∷ ps) os plain (plain_is_plain w value) ∙ ap (with_use p w) (follows_read names rest)
follows_read names (placed_dash {argument = p} {word = w} {arguments = ps} {options = os} {words = ws} is rest) =
    word_read w ws (p ∷ ps) os plain (ap kind_of_word is) ∙ ap (with_use p w) (follows_read names rest)

-- ---- from the reading to the grammar

use_split : (n v : Text) (o : Option (List Use)) (us : List Use) → with_use n v o ≡ Some us
    → (rest : List Use) × (o ≡ Some rest) × ((n, v) ∷ rest ≡ us)
use_split n v None us e = cc
use_split n v (Some rest) us e = (rest, refl, cc)

filled_fills : (ps ws : List Text) (us : List Use) → filled ps ws ≡ Some us → Fills ps ws us
filled_fills [] [] us e =
    let same : ◌≡◌ {A = List Use} [] us = cc in
    subst (λ x. Fills [] [] x) same none
filled_fills (p ∷ ps) [] us e = cc
filled_fills [] (w ∷ ws) us e = cc
filled_fills (p ∷ ps) (w ∷ ws) us e =
    let split = use_split p w (filled ps ws) us e in
    subst (λ x. Fills (p ∷ ps) (w ∷ ws) x) split.2 (one (filled_fills ps ws split.0 split.1))

-- what the words after it are, where an option waits for its value
abbrev pub From : Option Text → List Text → List Text → List Text → List Use → Type 0
From None ps os ws us = Follows ps os ws us
From (Some n) ps os ws us = (v : Text) × (rest : List Text) × (uses : List Use) × (ws ≡ v ∷ rest) × ((n, v) ∷ uses ≡ us)
    × (begins_with_dash v ≡ false) × Follows ps os rest uses

follow_word : (w : Text) (ws ps os : List Text) (us : List Use) (k : WordKind) → Spelt k w
    → ((ps os : List Text) (waits : Option Text) (us : List Use) → read ws ps os waits ≡ Some us → From waits ps os ws us)
    → read_word ps os k w ws (read ws) ≡ Some us → Follows ps os (w ∷ ws) us
follow_word w ws ps os us stop is follows e = stopped is (filled_fills ps ws us e)
follow_word w ws ps os us (named n) is follows e = go (has n os) refl e
  where
    go : (b : Bool) → has n os ≡ b → cond b (read ws ps (without n os) (Some n)) None ≡ Some us → Follows ps os (w ∷ ws) us
    go true here h =
        let from = follows ps (without n os) (Some n) us h in
        subst (λ x. Follows ps os (w ∷ x) us) (sym from.3)
        (subst (λ x. Follows ps os (w ∷ from.0 ∷ from.1) x) from.4 (apart is here from.5 from.6))
    go false here h = cc
follow_word w ws ps os us (joined n v) is follows e = go (has n os) refl e
  where
    go : (b : Bool) → has n os ≡ b → cond b (with_use n v (read ws ps (without n os) None)) None ≡ Some us → Follows ps os (w ∷ ws) us
    go true here h =
        let split = use_split n v (read ws ps (without n os) None) us h in
        subst (λ x. Follows ps os (w ∷ ws) x) split.2 (together is here (follows ps (without n os) None split.0 split.1))
    go false here h = cc
follow_word w ws ps os us refused is follows e = cc
follow_word w ws [] os us plain is follows e = cc
follow_word w ws (p ∷ ps) os us plain is follows e =
    let split = use_split p w (read ws ps os None) us e in
    let rest = follows ps os None split.0 split.1 in
    subst (λ x. Follows (p ∷ ps) os (w ∷ ws) x) split.2 (⊎_elim (λ value. placed value rest) (λ dash. placed_dash dash rest) is)

pub read_follows : (ws ps os : List Text) (waits : Option Text) (us : List Use) → read ws ps os waits ≡ Some us → From waits ps os ws us
read_follows [] [] os None us e =
    let same : ◌≡◌ {A = List Use} [] us = cc in
    subst (λ x. Follows [] os [] x) same ended
read_follows [] (p ∷ ps) os None us e = cc
read_follows [] [] os (Some n) us e = cc
read_follows [] (p ∷ ps) os (Some n) us e = cc
read_follows (w ∷ ws) ps os None us e = follow_word w ws ps os us (kind_of_word w) (spelt w)
    (λ qs rs waits vs h. read_follows ws qs rs waits vs h) e
read_follows (w ∷ ws) ps os (Some n) us e = go (begins_with_dash w) refl e (λ vs h. read_follows ws ps os None vs h)
  where
    go : (b : Bool) → begins_with_dash w ≡ b → cond b None (with_use n w (read ws ps os None)) ≡ Some us
        → ((vs : List Use) → read ws ps os None ≡ Some vs → Follows ps os ws vs) → From (Some n) ps os (w ∷ ws) us
    go true d h follows = cc
    go false d h follows =
        let split = use_split n w (read ws ps os None) us h in
        (w, ws, split.0, refl, split.2, d, follows split.0 split.1)

-- ---- together

pub are_names : (os : List Text) → list_all is_option_name os ≡ true → AreNames os
are_names [] e n h = absurd (true≢false (sym h))
are_names (o ∷ os) e n h = go (bytes_eq o n) refl h (and_parts (is_option_name o) _ e)
    (λ more. are_names os (and_parts (is_option_name o) _ e).1 n more)
  where
    go : (b : Bool) → bytes_eq o n ≡ b → (b || has n os) ≡ true → (is_option_name o ≡ true) × (list_all is_option_name os ≡ true)
        → (has n os ≡ true → is_option_name n ≡ true)
        → is_option_name n ≡ true
    go true t h parts later = ap is_option_name (sym ((bytes_eq-Decides o n).0 t)) ∙ parts.0
    go false t h parts later = later h

pub reading_is_the_grammar : (arguments options words : List Text) (uses : List Use) → list_all is_option_name options ≡ true
    → (read words arguments options None ≡ Some uses) ↔ Follows arguments options words uses
reading_is_the_grammar arguments options words uses names =
    (read_follows words arguments options None uses, follows_read (are_names options names))
