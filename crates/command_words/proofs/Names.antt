-- Names of arguments and options, and which of them are left.
use Rattle.std.proofs.Common.{◌≡◌, ◌∙◌, ap, sym, subst, refl, ℕ, Bool, true, false, List, ◌∷◌, true≢false, []}
use Rattle.std.specs.Prelude.{◌||◌, not}
use Rattle.std.specs.Str.{bytes_eq}
use Rattle.std.proofs.lemmas.Bool.{and_parts, not-true, or_left, or_right}
use Rattle.std.proofs.lemmas.Slice.Eq.{bytes_eq-Decides}
use Rattle.clap.specs.Walk.{Rule}
use Rattle.task_model.specs.Terms.Text.{Text}
use Rattle.command_words.specs.WordReading.{has, is_distinct, without}
use Rattle.command_words.proofs.Rules.{IsAt, next_index}

pub same_name : (n : Text) → bytes_eq n n ≡ true
same_name n = (bytes_eq-Decides n n).1 refl

pub is_name : (a b : Text) → bytes_eq a b ≡ true → a ≡ b
is_name a b e = (bytes_eq-Decides a b).0 e

pub has-head : (n : Text) (ns : List Text) → has n (n ∷ ns) ≡ true
has-head n ns = or_left (bytes_eq n n) (has n ns) (same_name n)

pub has-without-same : (n : Text) (ns : List Text) → has n (without n ns) ≡ false
has-without-same n [] = refl
has-without-same n (x ∷ xs) = go (bytes_eq x n) refl (has-without-same n xs)
  where
    go : (b : Bool) → bytes_eq x n ≡ b → has n (without n xs) ≡ false → has n (without n (x ∷ xs)) ≡ false
    go true e later = rw e later
    go false e later = rw e (rw e later)

pub has-without-other : (m n : Text) (ns : List Text) → bytes_eq n m ≡ false → has m (without n ns) ≡ has m ns
has-without-other m n [] e = refl
has-without-other m n (x ∷ xs) e = go (bytes_eq x n) refl (has-without-other m n xs e)
  where
    go : (b : Bool) → bytes_eq x n ≡ b → has m (without n xs) ≡ has m xs → has m (without n (x ∷ xs)) ≡ has m (x ∷ xs)
    go true t later =
        let differs : bytes_eq x m ≡ false = subst (λ y. bytes_eq y m ≡ false) (sym (is_name x n t)) e in
        rw (t, differs) later
    go false t later = rw t (ap (λ b. bytes_eq x m || b) later)

-- ---- what is left: arguments, options and the argument's index, where `taken` tells which names were used

pub record Left (arguments options : List Text) (rules : List Rule) (ps os : List Text) (i : ℕ) (taken : Text → Bool) : Type 0 where
  pub at : IsAt rules i ps
  pub distinct : is_distinct ps ≡ true
  pub arguments_left : (n : Text) → has n arguments ≡ true → taken n ≡ not (has n ps)
  pub of_arguments : (n : Text) → has n ps ≡ true → has n arguments ≡ true
  pub options_left : (n : Text) → has n options ≡ true → taken n ≡ not (has n os)
  pub of_options : (n : Text) → has n os ≡ true → has n options ≡ true

-- the name is taken now
abbrev pub and_taken : (Text → Bool) → Text → Text → Bool
and_taken taken name n = taken n || bytes_eq name n

or_false_part : (a b : Bool) → b ≡ false → (a || b) ≡ a
or_false_part true b e = refl
or_false_part false b e = e

module _ (arguments options : List Text) (rules : List Rule) (apart : (n : Text) → has n arguments ≡ true → has n options ≡ false) where
  differ : (a b : Text) → has a options ≡ true → has b arguments ≡ true → bytes_eq a b ≡ false
  differ a b opt pl = go (bytes_eq a b) refl
    where
      go : (t : Bool) → bytes_eq a b ≡ t → t ≡ false
      go true e = absurd (true≢false (sym opt ∙ ap (λ x. has x options) (is_name a b e) ∙ apart b pl))
      go false e = refl

  differ-back : (a b : Text) → has a arguments ≡ true → has b options ≡ true → bytes_eq a b ≡ false
  differ-back a b pl opt = go (bytes_eq a b) refl
    where
      go : (t : Bool) → bytes_eq a b ≡ t → t ≡ false
      go true e = absurd (true≢false (sym opt ∙ ap (λ x. has x options) (sym (is_name a b e)) ∙ apart a pl))
      go false e = refl

  pub take_option : (ps os : List Text) (i : ℕ) (taken : Text → Bool) (name : Text) → Left arguments options rules ps os i taken
      → has name os ≡ true
      → Left arguments options rules ps (without name os) i (and_taken taken name)
  take_option ps os i taken name left here =
      let known = left.of_options name here in
      record {
        at = left.at;
        distinct = left.distinct;
        arguments_left = λ n pl. or_false_part _ _ (differ name n known pl) ∙ left.arguments_left n pl;
        of_arguments = left.of_arguments;
        options_left = λ n opt. go n opt (bytes_eq name n) refl;
        of_options = λ n h. left.of_options n (sub n h (bytes_eq name n) refl);
      }
    where
      go : (n : Text) → has n options ≡ true → (b : Bool) → bytes_eq name n ≡ b → (taken n || b) ≡ not (has n (without name os))
      go n opt true e =
          let gone : has n (without name os)
          ≡ false = subst (λ x. has x (without name os) ≡ false) (is_name name n e) (has-without-same name os) in
          or_right _ _ refl ∙ ap not (sym gone)
      go n opt false e = or_false_part _ _ refl ∙ left.options_left n opt ∙ ap not (sym (has-without-other n name os e))

      sub : (n : Text) → has n (without name os) ≡ true → (b : Bool) → bytes_eq name n ≡ b → has n os ≡ true
      sub n h true e = ap (λ x. has x os) (sym (is_name name n e)) ∙ here
      sub n h false e = sym (has-without-other n name os e) ∙ h

  pub take_argument : (p : Text) (ps os : List Text) (i : ℕ) (taken : Text → Bool) → Left arguments options rules (p ∷ ps) os i taken
      → Left arguments options rules ps os (next_index i) (and_taken taken p)
  take_argument p ps os i taken left =
      let parts = and_parts (not (has p ps)) (is_distinct ps) left.distinct in
      let known = left.of_arguments p (has-head p ps) in
      record {
        at = left.at.1;
        distinct = parts.1;
        arguments_left = λ n pl. go n pl (not-true _ parts.0) (bytes_eq p n) refl (left.arguments_left n pl);
        of_arguments = λ n h. left.of_arguments n (or_right (bytes_eq p n) (has n ps) h);
        options_left = λ n opt. or_false_part _ _ (differ-back p n known opt) ∙ left.options_left n opt;
        of_options = left.of_options;
      }
    where
      go : (n : Text) → has n arguments ≡ true → has p ps ≡ false → (b : Bool) → bytes_eq p n ≡ b → taken n ≡ not (b || has n ps)
          → (taken n || b) ≡ not (has n ps)
      go n pl gone true e t =
          let none : has n ps ≡ false = subst (λ x. has x ps ≡ false) (is_name p n e) gone in
          or_right _ _ refl ∙ ap not (sym none)
      go n pl gone false e t = or_false_part _ _ refl ∙ t

pub left_as : (arguments options : List Text) (rules : List Rule) (ps os : List Text) (i : ℕ) (taken other : Text → Bool)
    → ((n : Text) → other n ≡ taken n)
    → Left arguments options rules ps os i taken → Left arguments options rules ps os i other
left_as arguments options rules ps os i taken other same left = record {
  at = left.at;
  distinct = left.distinct;
  arguments_left = λ n pl. same n ∙ left.arguments_left n pl;
  of_arguments = left.of_arguments;
  options_left = λ n opt. same n ∙ left.options_left n opt;
  of_options = left.of_options;
}
