-- Where `clap`'s reading and the strict one differ: an option has the value `-`.
use Rattle.std.proofs.Common.{◌≡◌, ◌∙◌, ◌⊎◌, inl, inr, ap, sym, subst, refl, Bool, true, false, cond, List, ◌∷◌, Option, Some, None, true≢false, []}
use Rattle.std.specs.Prelude.{◌==◌, find, option_map}
use Rattle.std.specs.List.{after_first, before_first, list_any}
use Rattle.std.specs.Str.{bytes_eq}
use Rattle.std.proofs.lemmas.Bool.{eqb-true, or_left, or_right}
use Rattle.std.proofs.lemmas.Slice.Eq.{bytes_eq-Decides}
use Rattle.task_model.specs.Terms.Text.{Text}
use Rattle.command_words.specs.WordReading.{Use, WordKind, begins_with_dash, has, is_equals, read, read_word, value_given, with_use, without, word_after_dash, word_after_two, kind_of_word}
use Rattle.command_words.specs.ClapReading.{clap_read, clap_value}
use Rattle.command_words.specs.WordReading.WordKind.{joined, named, plain, refused, stop}
use Rattle.command_words.proofs.Names.{has-without-other, has-without-same}

abbrev pub dash : Text
dash = 45 ∷ []

-- the option is left, or it waits
abbrev pub IsOpen : List Text → Option Text → Text → Type 0
IsOpen os None name = has name os ≡ true
IsOpen os (Some n) name = (has name os ≡ true) ⊎ (n ≡ name)

-- the reading gives an option the value `-`
pub record GivesDash (os : List Text) (waits : Option Text) (read_so : Option (List Use)) : Type 0 where
  pub uses : List Use
  pub is : read_so ≡ Some uses
  pub name : Text
  pub is_open : IsOpen os waits name
  pub value : value_given name uses ≡ Some dash

abbrev pub Strict : List Text → Option Text → Option (List Use) → Option (List Use) → Type 0
Strict os waits lax strict = (lax ≡ strict) ⊎ ((strict ≡ None) × GivesDash os waits lax)

-- what is left of arguments and options does not meet
pub record IsApart (ps os : List Text) (waits : Option Text) : Type 0 where
  pub arguments : (n : Text) → has n ps ≡ true → has n os ≡ false
  pub waiting : (n : Text) → waits ≡ Some n → has n os ≡ false

value-other : (n v name : Text) (uses : List Use) → bytes_eq n name ≡ false → value_given name ((n, v) ∷ uses) ≡ value_given name uses
value-other n v name uses e = ap (λ b. option_map (λ (u : Use). u.1) (cond b (Some (n, v)) (find (λ (u : Use). bytes_eq u.0 name) uses))) e

-- a name that is left is not one that is gone
other_name : (n name : Text) (os : List Text) → has n os ≡ false → has name os ≡ true → bytes_eq n name ≡ false
other_name n name os gone here = go (bytes_eq n name) refl
  where
    go : (b : Bool) → bytes_eq n name ≡ b → b ≡ false
    go true e = absurd (true≢false (sym here ∙ ap (λ x. has x os) (sym ((bytes_eq-Decides n name).0 e)) ∙ gone))
    go false e = refl

-- one more use of a name that is gone
strict_use : (n v : Text) (os : List Text) (lax strict : Option (List Use)) → has n os ≡ false → Strict os None lax strict
    → Strict os None (with_use n v lax) (with_use n v strict)
strict_use n v os lax strict gone (inl same) = inl (ap (with_use n v) same)
strict_use n v os lax strict gone (inr (none, given)) = inr (
  ap (with_use n v) none,
  record {
    uses = (n, v) ∷ given.uses;
    is = ap (with_use n v) given.is;
    name = given.name;
    is_open = given.is_open;
    value = value-other n v given.name given.uses (other_name n given.name os gone given.is_open) ∙ given.value;
  },
)

has-without : (n m : Text) (os : List Text) → has m os ≡ false → has m (without n os) ≡ false
has-without n m os e = go (bytes_eq n m) refl
  where
    go : (b : Bool) → bytes_eq n m ≡ b → has m (without n os) ≡ false
    go true t = subst (λ x. has x (without n os) ≡ false) ((bytes_eq-Decides n m).0 t) (has-without-same n os)
    go false t = has-without-other m n os t ∙ e

back : (n m : Text) (os : List Text) → has n os ≡ true → has m (without n os) ≡ true → has m os ≡ true
back n m os here h = go (bytes_eq n m) refl
  where
    go : (b : Bool) → bytes_eq n m ≡ b → has m os ≡ true
    go true t = ap (λ x. has x os) (sym ((bytes_eq-Decides n m).0 t)) ∙ here
    go false t = sym (has-without-other m n os t) ∙ h

-- an option taken off the list
strict_back : (n : Text) (os : List Text) (lax strict : Option (List Use)) → has n os ≡ true → Strict (without n os) (Some n) lax strict
    → Strict os None lax strict
strict_back n os lax strict here (inl same) = inl same
strict_back n os lax strict here (inr (none, given)) = inr (
  none,
  record { uses = given.uses; is = given.is; name = given.name; is_open = go given.is_open; value = given.value },
)
  where
    go : (has given.name (without n os) ≡ true) ⊎ (n ≡ given.name) → has given.name os ≡ true
    go (inl h) = back n given.name os here h
    go (inr e) = ap (λ x. has x os) (sym e) ∙ here

strict_less : (n : Text) (os : List Text) (lax strict : Option (List Use)) → has n os ≡ true → Strict (without n os) None lax strict
    → Strict os None lax strict
strict_less n os lax strict here (inl same) = inl same
strict_less n os lax strict here (inr (none, given)) =
    inr (
      none,
      record {
        uses = given.uses;
        is = given.is;
        name = given.name;
        is_open = back n given.name os here given.is_open;
        value =
            given.value;
      },
    )

-- a use of the option that waited
strict_waited : (n v : Text) (os : List Text) (lax strict : Option (List Use)) → has n os ≡ false → Strict os None lax strict
    → Strict os (Some n) (with_use n v lax) (with_use n v strict)
strict_waited n v os lax strict gone (inl same) = inl (ap (with_use n v) same)
strict_waited n v os lax strict gone (inr (none, given)) = inr (
  ap (with_use n v) none,
  record {
    uses = (n, v) ∷ given.uses;
    is = ap (with_use n v) given.is;
    name = given.name;
    is_open = inl given.is_open;
    value = value-other n v given.name given.uses (other_name n given.name os gone given.is_open) ∙ given.value;
  },
)

-- the word `-` as the value of the option that waits
strict_dash : (n : Text) (os : List Text) (lax : Option (List Use)) → Strict os (Some n) (with_use n dash lax) None
strict_dash n os None = inl refl
strict_dash n os (Some uses) =
    let same : bytes_eq n n ≡ true = (bytes_eq-Decides n n).1 refl in
    inr (
      refl,
      record {
        uses = (n, dash) ∷ uses;
        is = refl;
        name = n;
        is_open = inr refl;
        value = ap
            (λ b. option_map (λ (u : Use). u.1) (cond b (Some (n, dash)) (find (λ (u : Use). bytes_eq u.0 n) uses))) same;
      },
    )

-- no other word that begins with `-` is a value
no_value_after_two : (ds name value : Text) (lax : Option (List Use)) → clap_value (word_after_two ds) name value lax ≡ None
no_value_after_two [] name value lax = refl
no_value_after_two (d ∷ ds) name value lax = go (list_any is_equals (d ∷ ds))
  where
    go : (b : Bool) → clap_value (cond b (joined (before_first is_equals (d ∷ ds)) (after_first is_equals (d ∷ ds))) (named (d ∷ ds))) name
        value lax ≡ None
    go true = refl
    go false = refl

strict_after_dash : (n cs : Text) (os : List Text) (lax : Option (List Use))
    → Strict os (Some n) (clap_value (word_after_dash cs) n (45 ∷ cs) lax) None
strict_after_dash n [] os lax = strict_dash n os lax
strict_after_dash n (d ∷ ds) os lax = inl (go (d == 45))
  where
    go : (b : Bool) → clap_value (cond b (word_after_two ds) refused) n (45 ∷ d ∷ ds) lax ≡ None
    go true = no_value_after_two ds n (45 ∷ d ∷ ds) lax
    go false = refl

-- the value of the option that waits
strict_value : (n w : Text) (os : List Text) (lax strict : Option (List Use)) → has n os ≡ false → Strict os None lax strict
    → Strict os (Some n) (clap_value (kind_of_word w) n w lax) (cond (begins_with_dash w) None (with_use n w strict))
strict_value n [] os lax strict gone h = strict_waited n [] os lax strict gone h
strict_value n (c ∷ cs) os lax strict gone h = go (c == 45) refl
  where
    go : (b : Bool) → (c == 45) ≡ b
        → Strict os (Some n) (clap_value (cond b (word_after_dash cs) plain) n (c ∷ cs) lax) (cond b None (with_use n (c ∷ cs) strict))
    go true e = subst (λ x. Strict os (Some n) (clap_value (word_after_dash cs) n (x ∷ cs) lax) None) (sym (eqb-true c 45 e))
        (strict_after_dash n cs os lax)
    go false e = strict_waited n (c ∷ cs) os lax strict gone h

strict_word : (w : Text) (ws ps os : List Text) (k : WordKind) → IsApart ps os None
    → ((ps os : List Text) (waits : Option Text) → IsApart ps os waits → Strict os waits (clap_read ws ps os waits) (read ws ps os waits))
    → Strict os None (read_word ps os k w ws (clap_read ws)) (read_word ps os k w ws (read ws))
strict_word w ws ps os stop apart follows = inl refl
strict_word w ws ps os (named n) apart follows = go (has n os) refl
  where
    go : (b : Bool) → has n os ≡ b
        → Strict os None (cond b (clap_read ws ps (without n os) (Some n)) None) (cond b (read ws ps (without n os) (Some n)) None)
    go true e = strict_back n os (clap_read ws ps (without n os) (Some n)) (read ws ps (without n os) (Some n)) e
        (follows ps (without n os) (Some n) (record {
          arguments = λ m h. has-without n m os (apart.arguments m h);
          waiting = λ m is. let same : n ≡ m = cc in subst (λ x. has x (without n os) ≡ false) same (has-without-same n os);
        }))
    go false e = inl refl
strict_word w ws ps os (joined n v) apart follows = go (has n os) refl
  where
    go : (b : Bool) → has n os ≡ b
        → Strict os None (cond b (with_use n v (clap_read ws ps (without n os) None)) None)
        (cond b (with_use n v (read ws ps (without n os) None)) None)
    go true e = strict_less n os (with_use n v (clap_read ws ps (without n os) None)) (with_use n v (read ws ps (without n os) None)) e
        (strict_use n v (without n os) (clap_read ws ps (without n os) None) (read ws ps (without n os) None) (has-without-same n os)
        (follows ps (without n os) None (record { arguments = λ m h. has-without n m os (apart.arguments m h); waiting = λ m is. (cc) })))
    go false e = inl refl
strict_word w ws ps os refused apart follows = inl refl
strict_word w ws [] os plain apart follows = inl refl
strict_word w ws (p ∷ ps) os plain apart follows =
    strict_use p w os (clap_read ws ps os None) (read ws ps os None)
    (apart.arguments p (or_left (bytes_eq p p) (has p ps) ((bytes_eq-Decides p p).1 refl)))
    (follows ps os None (record { arguments = λ m h. apart.arguments m (or_right (bytes_eq p m) (has m ps) h); waiting = λ m is. (cc) }))

pub strict_reads : (words ps os : List Text) (waits : Option Text) → IsApart ps os waits
    → Strict os waits (clap_read words ps os waits) (read words ps os waits)
strict_reads [] [] os None apart = inl refl
strict_reads [] (p ∷ ps) os None apart = inl refl
strict_reads [] [] os (Some n) apart = inl refl
strict_reads [] (p ∷ ps) os (Some n) apart = inl refl
strict_reads (w ∷ ws) ps os None apart = strict_word w ws ps os (kind_of_word w) apart (λ qs rs waits a. strict_reads ws qs rs waits a)
strict_reads (w ∷ ws) ps os (Some n) apart =
    let gone = apart.waiting n refl in
    strict_value n w os (clap_read ws ps os None) (read ws ps os None) gone
    (strict_reads ws ps os None (record { arguments = apart.arguments; waiting = λ m is. (cc) }))

-- what is made of the uses is the same by both, where it can be made of none that give an option the value `-`
pub same_by_both : {T : Type 0} (f : Option (List Use) → Option T) (words ps os : List Text)
    → ((n : Text) → has n ps ≡ true → has n os ≡ false) → f None ≡ None
    → ((uses : List Use) (name : Text) → has name os ≡ true → value_given name uses ≡ Some dash → f (Some uses) ≡ None)
    → f (clap_read words ps os None) ≡ f (read words ps os None)
same_by_both f words ps os apart none fails = go (strict_reads words ps os None (record { arguments = apart; waiting = λ m is. (cc) }))
  where
    go : Strict os None (clap_read words ps os None) (read words ps os None) → f (clap_read words ps os None) ≡ f (read words ps os None)
    go (inl same) = ap f same
    go (inr (nothing, given)) = ap f given.is ∙ fails given.uses given.name given.is_open given.value ∙ sym (ap f nothing ∙ none)
