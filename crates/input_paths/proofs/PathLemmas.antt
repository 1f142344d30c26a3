-- Paths.
use Rattle.std.proofs.Common.{◌≡◌, ℕ, List, [], ◌∷◌, ◌++◌, ◌-◌, ◌+◌, ◌==◌, ◌⊎◌, inl, inr, true, false, true≢false, eq-eqb, suc, length, get_or, Ok, Err, refl, sym, ap, ◌∙◌, subst, append_assoc, arith}
use Rattle.std.proofs.lemmas.Bool.{eqb-true, cases_Bool}
use Rattle.task_model.specs.Terms.Text.{Text}
use Rattle.task_model.specs.Showing.Page.{path_text, turns_text}
use Rattle.task_model.specs.declared.input.Turn.{Turn}
use Rattle.task_model.specs.declared.input.Turn.TheVariants.{First, Second}
use Rattle.exact_reading.specs.declared.stop.FaultKind.{FaultKind}
use Rattle.exact_reading.specs.declared.stop.ParseStop.{ParseStop}
use Rattle.exact_reading.specs.declared.stop.ParseStop.TheVariants.{Fault}
use Rattle.exact_reading.specs.Reading.{Language, SharesPrefix, Always, Right, Tok, Anything}
use Rattle.exact_reading.proofs.Sequences.{Bind, append_nil}
use Rattle.exact_reading.proofs.Whole.{whole_found, whole_only, refused, left_within, no_word}
use Rattle.exact_reading.proofs.Productions.{then_stop, same_language, at_tokens, begins_token}
use Rattle.input_paths.specs.Paths.{PathLetters, NoLetter}

-- what goes on after letters as these bytes do begins with no letter, if these don't
no_letter_on : (rest w : Text) → NoLetter rest → SharesPrefix [] rest w → NoLetter w
no_letter_on rest w none b = record {
  first = λ s e. begins_token 70 rest s none.first (subst (λ l. SharesPrefix [] rest l) e b);
  second = λ s e. begins_token 83 rest s none.second (subst (λ l. SharesPrefix [] rest l) e b);
}

-- where no letter follows, the same bytes have the same letters in front
same_turns : (p q : List Turn) (s z : Text) → NoLetter s → NoLetter z → turns_text p ++ s ≡ turns_text q ++ z → p ≡ q
same_turns [] [] s z hs hz e = refl
same_turns [] (First ∷ q) s z hs hz e = absurd (hs.first (turns_text q ++ z) e)
same_turns [] (Second ∷ q) s z hs hz e = absurd (hs.second (turns_text q ++ z) e)
same_turns (First ∷ p) [] s z hs hz e = absurd (hz.first (turns_text p ++ s) (sym e))
same_turns (Second ∷ p) [] s z hs hz e = absurd (hz.second (turns_text p ++ s) (sym e))
same_turns (First ∷ p) (First ∷ q) s z hs hz e = let rest : turns_text p ++ s ≡ turns_text q ++ z = cc in
    ap (λ l. First ∷ l) (same_turns p q s z hs hz rest)
same_turns (First ∷ p) (Second ∷ q) s z hs hz e = absurd (let h : 70 ≡ 83 = ap (λ l. get_or l 0 0) e in omega (arith, h))
same_turns (Second ∷ p) (First ∷ q) s z hs hz e = absurd (let h : 83 ≡ 70 = ap (λ l. get_or l 0 0) e in omega (arith, h))
same_turns (Second ∷ p) (Second ∷ q) s z hs hz e = let rest : turns_text p ++ s ≡ turns_text q ++ z = cc in
    ap (λ l. Second ∷ l) (same_turns p q s z hs hz rest)

-- what begins with a front goes on from it
goes_on : (front rest s : Text) → SharesPrefix front rest s → (w : Text) × (s ≡ front ++ w) × SharesPrefix [] rest w
goes_on front [] s b = ([], b ∙ sym (append_nil front), refl)
goes_on front (t ∷ rest) s (y, b) = (t ∷ y, b, (y, refl))

pub path_right : {ts rest : Text} {path : List Turn} → ts ≡ path_text path ++ rest → NoLetter rest
    → Right PathLetters Always NoLetter ts (Ok (path, rest))
path_right {rest = rest} {path = path} e none = at_tokens e (record {
  by = record {
    front = path_text path;
    split = refl;
    found = refl;
    fits = tt;
    only = λ a q z h hz b.
        let (w, are, on) = goes_on (path_text path) rest (a ++ z) b in
        let whole : 46 ∷ (turns_text q ++ z) ≡ 46 ∷ (turns_text path ++ w) = ap (λ l. l ++ z) (sym h) ∙ are in
        let letters : turns_text q ++ z ≡ turns_text path ++ w = cc in
        let same = same_turns q path z w hz (no_letter_on rest w none on) letters in
        (h ∙ ap path_text same, same);
  };
})

-- the letters of a path
abbrev Letters : Language ℕ (List Turn)
Letters t path = t ≡ turns_text path

path_in : (a : Text) (path : List Turn) → Bind (Tok 46) (λ _. Letters) a path → PathLetters a path
path_in a path h = h.split ∙ ap (λ l. l ++ h.back) h.first ∙ ap (λ l. 46 ∷ l) h.next

path_out : (a : Text) (path : List Turn) → PathLetters a path → Bind (Tok 46) (λ _. Letters) a path
path_out a path e = record { front = 46 ∷ []; back = turns_text path; value = tt; split = e; first = refl; next = refl }

pub path_stop : {ts : Text} {e : ParseStop} → Right (Tok 46) Always Anything ts (Err e) → Right PathLetters Always NoLetter ts (Err e)
path_stop right = same_language (Bind (Tok 46) (λ _. Letters)) PathLetters path_in path_out
    (then_stop (λ _ _ _ _ _ _. tt) (λ _ _ _. ([], [], refl, tt)) right)

-- the dot was read
pub dot_read : {ts rest : Text} → Right (Tok 46) Always Anything ts (Ok (tt, rest)) → ts ≡ path_text [] ++ rest
dot_read {rest = rest} right = let f = right.by in f.split ∙ ap (λ l. l ++ rest) f.found

turns_more : (path : List Turn) (turn : Turn) → turns_text (path ++ (turn ∷ [])) ≡ turns_text path ++ turns_text (turn ∷ [])
turns_more [] turn = sym (append_nil (turns_text (turn ∷ []))) ∙ append_nil (turns_text (turn ∷ []))
turns_more (First ∷ path) turn = ap (λ l. 70 ∷ l) (turns_more path turn)
turns_more (Second ∷ path) turn = ap (λ l. 83 ∷ l) (turns_more path turn)

-- one turn more
pub turn_read : {ts rest : Text} (path : List Turn) (turn : Turn) (after : Text) → ts ≡ path_text path ++ rest
    → rest ≡ turns_text (turn ∷ []) ++ after → ts ≡ path_text (path ++ (turn ∷ [])) ++ after
turn_read path turn after e is =
    e ∙ ap (λ l. path_text path ++ l) is ∙ sym (append_assoc (path_text path) (turns_text (turn ∷ [])) after)
    ∙ ap (λ l. (46 ∷ l) ++ after) (sym (turns_more path turn))

nothing_follows : NoLetter []
nothing_follows = record { first = λ y e. cc; second = λ y e. cc }

-- a text is one path at most
pub same_path : (p q : List Turn) → path_text p ≡ path_text q → p ≡ q
same_path p q e =
    let letters : turns_text p ≡ turns_text q = cc in
    same_turns p q [] [] nothing_follows nothing_follows (ap (λ l. l ++ []) letters)

-- ---- a whole text
no_length : (t : Text) → (length t == 0) ≡ true → t ≡ []
no_length [] e = refl
no_length (b ∷ t) e = absurd (let h : suc (length t) ≡ 0 = eqb-true (suc (length t)) 0 e in omega (arith, h))

pub whole_read : {ts rest : Text} {path : List Turn} → (length rest == 0) ≡ true → Right PathLetters Always NoLetter ts (Ok (path, rest))
    → ts ≡ path_text path
whole_read {rest = rest} none right = (whole_found (no_length rest none) right).0

pub not_whole : {ts rest : Text} {path : List Turn} → (length rest == 0) ≡ false → Right PathLetters Always NoLetter ts (Ok (path, rest))
    → (q : List Turn) → ts ≡ path_text q → ⊥
not_whole more right q e = true≢false (ap (λ l. length l == 0) (sym (whole_only nothing_follows right e).0) ∙ more)

pub no_path : {ts : Text} {kind : FaultKind} {left : ℕ} {e : ParseStop} → e ≡ Fault kind left
    → Right PathLetters Always NoLetter ts (Err e) → (q : List Turn) → ts ≡ path_text q → ⊥
no_path {ts = ts} {kind = kind} {left = left} is stop q e =
    let right : Right PathLetters Always NoLetter ts (Err (Fault kind left))
    = subst (λ z. Right PathLetters Always NoLetter ts (Err z)) is stop in
    let le = left_within right in
    let at : (length ts - left) + left ≡ length ts = omega (arith, le) in
    no_word (refused {place = length ts - left} nothing_follows right at) e tt

-- ---- each text is a path or none
none_after : (b : ℕ) (t : Text) → (b ≡ 70 → ⊥) → (b ≡ 83 → ⊥) → (p : List Turn) → b ∷ t ≡ turns_text p → ⊥
none_after b t first second [] e = cc
none_after b t first second (First ∷ p) e = first (ap (λ l. get_or l 0 0) e)
none_after b t first second (Second ∷ p) e = second (ap (λ l. get_or l 0 0) e)

no_rest : (b : ℕ) (t : Text) → ((p : List Turn) → t ≡ turns_text p → ⊥) → (p : List Turn) → b ∷ t ≡ turns_text p → ⊥
no_rest b t none [] e = cc
no_rest b t none (First ∷ p) e = none p (let rest : t ≡ turns_text p = cc in rest)
no_rest b t none (Second ∷ p) e = none p (let rest : t ≡ turns_text p = cc in rest)

abbrev AreTurns : Text → Type 0
AreTurns t = ((p : List Turn) × (t ≡ turns_text p)) ⊎ ((p : List Turn) → t ≡ turns_text p → ⊥)

some_turns : (t : Text) → AreTurns t
some_turns [] = inl ([], refl)
some_turns (b ∷ t) = go (cases_Bool (b == 70)) (cases_Bool (b == 83)) (some_turns t)
  where
    go : (((b == 70) ≡ true) ⊎ ((b == 70) ≡ false)) → (((b == 83) ≡ true) ⊎ ((b == 83) ≡ false)) → AreTurns t → AreTurns (b ∷ t)
    go f s (inr none) = inr (no_rest b t none)
    go (inl first) s (inl (p, e)) = inl (First ∷ p, ap (λ l. b ∷ l) e ∙ ap (λ c. c ∷ turns_text p) (eqb-true b 70 first))
    go (inr other) (inl second) (inl (p, e)) = inl (Second ∷ p, ap (λ l. b ∷ l) e ∙ ap (λ c. c ∷ turns_text p) (eqb-true b 83 second))
    go (inr other) (inr third) (inl (p, e)) = inr (none_after b t (λ h. differs 70 other h) (λ h. differs 83 third h))
      where
        differs : (n : ℕ) → (b == n) ≡ false → b ≡ n → ⊥
        differs n unlike h = true≢false (sym (eq-eqb b n h) ∙ unlike)

pub some_path : (t : Text) → ((p : List Turn) × (t ≡ path_text p)) ⊎ ((p : List Turn) → t ≡ path_text p → ⊥)
some_path [] = inr (λ p e. cc)
some_path (b ∷ t) = go (cases_Bool (b == 46)) (some_turns t)
  where
    go : (((b == 46) ≡ true) ⊎ ((b == 46) ≡ false)) → AreTurns t
        → ((p : List Turn) × (b ∷ t ≡ path_text p)) ⊎ ((p : List Turn) → b ∷ t ≡ path_text p → ⊥)
    go (inl dot) (inl (p, e)) = inl (p, ap (λ l. b ∷ l) e ∙ ap (λ c. c ∷ turns_text p) (eqb-true b 46 dot))
    go (inl dot) (inr none) = inr (λ p e. none p (let rest : t ≡ turns_text p = cc in rest))
    go (inr other) turns = inr (λ p e. true≢false (sym (eq-eqb b 46 (ap (λ l. get_or l 0 0) e)) ∙ other))
