-- Where heads end: what follows doesn't move an end, and where no block ends.
use Rattle.std.proofs.Common.{◌≡◌, ◌⊎◌, ℕ, zero, suc, ◌+◌, ◌<◌, ◌≤◌, ◌==◌, ◌&&◌, ◌||◌, nat_lt, Bool, true, false, cond, true≢false, Option, None, Some, is_some, option_map, unwrap_or, [], ◌∷◌, ◌++◌, length, take, replicate, length-append, inl, inr, refl, sym, ap, ◌∙◌, subst, arith, append-nil}
use Rattle.std.proofs.lemmas.Bool.{cases_Bool}
use Rattle.std.proofs.lemmas.Bool.Decides.{nat_tests}
use Rattle.task_model.specs.Terms.Text.{Text}
use Rattle.http_heads.specs.Blocks.{head_limit, begins_with_lf, line_end_length, in_line_end, without_blanks, block_length, end_of_block, head_length}
use Rattle.http_heads.proofs.ScanLemmas.{take_part}

-- ---- options
pub none_some : {X : Type 0} (x : X) → None ≡ Some x → ⊥
none_some x h = true≢false (sym (ap is_some h))

pub same_some : {X : Type 0} (x y : X) → Some x ≡ Some y → x ≡ y
same_some x y h = ap (λ o. unwrap_or o x) h

mapped : (o : Option ℕ) (n : ℕ) → option_map (λ k. suc k) o ≡ Some n → (k : ℕ) × (o ≡ Some k) × (Some (suc k) ≡ Some n)
mapped None n h = absurd (none_some n h)
mapped (Some k) n h = (k, refl, h)

-- ---- lists
pub same_front : (a b x y : Text) → a ++ x ≡ b ++ y → length a ≡ length b → (a ≡ b) × (x ≡ y)
same_front [] [] x y e l = (refl, e)
same_front [] (c ∷ b) x y e l = absurd (omega (arith, l))
same_front (c ∷ a) [] x y e l = absurd (omega (arith, l))
same_front (c ∷ a) (d ∷ b) x y e l =
    let first : c ≡ d = cc in
    let rest : a ++ x ≡ b ++ y = cc in
    let (p, q) = same_front a b x y rest (omega (arith, l)) in
    (ap (λ t. c ∷ t) p ∙ ap (λ t. t ∷ b) first, q)

take_more : (k : ℕ) (t m : Text) → (w : Text) × (take k (t ++ m) ≡ take k t ++ w)
take_more zero t m = ([], refl)
take_more (suc k) [] m = (take (suc k) m, refl)
take_more (suc k) (b ∷ t) m = let (w, e) = take_more k t m in (w, ap (λ l. b ∷ l) e)

take_front : (k : ℕ) (a x : Text) → length a ≡ k → take k (a ++ x) ≡ a
take_front zero [] x l = refl
take_front zero (b ∷ a) x l = absurd (omega (arith, l))
take_front (suc k) [] x l = absurd (omega (arith, l))
take_front (suc k) (b ∷ a) x l = ap (λ t. b ∷ t) (take_front k a x (omega (arith, l)))

-- ---- blocks
never : (c : Bool) → (c && false) ≡ true → ⊥
never true k = true≢false (sym k)
never false k = true≢false (sym k)

in_more : (b : ℕ) (t m : Text) → in_line_end b t ≡ true → in_line_end b (t ++ m) ≡ true
in_more b [] m h = go (b == 10) h
  where
    go : (c : Bool) → (c || (b == 13 && false)) ≡ true → (c || (b == 13 && begins_with_lf m)) ≡ true
    go true k = refl
    go false k = absurd (never (b == 13) k)
in_more b (c ∷ t) m h = h

-- one byte is no block
single : (b n : ℕ) → block_length (b ∷ []) ≡ Some n → ⊥
single b n h = go (b == 10) h
  where
    go : (c : Bool) → cond (c && nat_lt 0 0) (Some 1) None ≡ Some n → ⊥
    go true k = none_some n k
    go false k = none_some n k

block_more : (t m : Text) (n : ℕ) → block_length t ≡ Some n → block_length (t ++ m) ≡ Some n
block_more [] m n h = absurd (none_some n h)
block_more (b ∷ []) m n h = absurd (single b n h)
block_more (b ∷ c ∷ []) m n h = go (c == 10) (b == 10) h
  where
    go : (p q : Bool)
        → cond (q && nat_lt 0 (cond p 1 (cond (c == 13 && false) 2 0))) (Some (suc (cond p 1 (cond (c == 13 && false) 2 0))))
        (option_map (λ k. suc k) (cond (p && nat_lt 0 0) (Some 1) None)) ≡ Some n
        → cond (q && nat_lt 0 (cond p 1 (cond (c == 13 && begins_with_lf m) 2 0)))
        (Some (suc (cond p 1 (cond (c == 13 && begins_with_lf m) 2 0)))) (option_map (λ k. suc k) (block_length (c ∷ m))) ≡ Some n
    go true true k = k
    go true false k = absurd (none_some n k)
    go false q k = absurd (dead (c == 13) q k)
      where
        dead : (r q : Bool) → cond (q && nat_lt 0 (cond (r && false) 2 0)) (Some (suc (cond (r && false) 2 0))) None ≡ Some n → ⊥
        dead true true k = none_some n k
        dead true false k = none_some n k
        dead false true k = none_some n k
        dead false false k = none_some n k
block_more (b ∷ c ∷ d ∷ t) m n h = go (b == 10 && nat_lt 0 (line_end_length (c ∷ d ∷ t))) (block_more (c ∷ d ∷ t) m) h
  where
    go : (p : Bool)
        → ((j : ℕ) → block_length (c ∷ d ∷ t) ≡ Some j → block_length (c ∷ d ∷ (t ++ m)) ≡ Some j)
        → cond p (Some (suc (line_end_length (c ∷ d ∷ t)))) (option_map (λ k. suc k) (block_length (c ∷ d ∷ t))) ≡ Some n
        → cond p (Some (suc (line_end_length (c ∷ d ∷ t)))) (option_map (λ k. suc k) (block_length (c ∷ d ∷ (t ++ m)))) ≡ Some n
    go true on k = k
    go false on k = let (j, e, s) = mapped (block_length (c ∷ d ∷ t)) n k in ap (option_map (λ k. suc k)) (on j e) ∙ s

end_more : (t m : Text) (n : ℕ) → end_of_block t ≡ Some n → end_of_block (t ++ m) ≡ Some n
end_more [] m n h = absurd (none_some n h)
end_more (b ∷ t) m n h = go (end_more t m) (cases_Bool (in_line_end b t))
  where
    stays : (t : Text) → in_line_end b t ≡ false → block_length (b ∷ t) ≡ Some n → in_line_end b (t ++ m) ≡ false
    stays [] other k = absurd (single b n k)
    stays (c ∷ t) other k = other

    go : ((j : ℕ) → end_of_block t ≡ Some j → end_of_block (t ++ m) ≡ Some j) → (in_line_end b t ≡ true) ⊎ (in_line_end b t ≡ false)
        → end_of_block (b ∷ (t ++ m)) ≡ Some n
    go on (inl ends) =
        let k : option_map (λ k. suc k) (end_of_block t) ≡ Some n
        = subst (λ c. cond c (option_map (λ k. suc k) (end_of_block t)) (block_length (b ∷ t)) ≡ Some n) ends h in
        let (j, e, s) = mapped (end_of_block t) n k in
        subst (λ c. cond c (option_map (λ k. suc k) (end_of_block (t ++ m))) (block_length (b ∷ (t ++ m))) ≡ Some n)
        (sym (in_more b t m ends)) (ap (option_map (λ k. suc k)) (on j e) ∙ s)
    go on (inr other) =
        let k : block_length (b ∷ t) ≡ Some n
        = subst (λ c. cond c (option_map (λ k. suc k) (end_of_block t)) (block_length (b ∷ t)) ≡ Some n) other h in
        subst (λ c. cond c (option_map (λ k. suc k) (end_of_block (t ++ m))) (block_length (b ∷ (t ++ m))) ≡ Some n)
        (sym (stays t other k)) (block_more (b ∷ t) m n k)

pub head_more : (t m : Text) (n : ℕ) → head_length t ≡ Some n → head_length (t ++ m) ≡ Some n
head_more t m n h = let (w, e) = take_more head_limit t m in ap end_of_block e ∙ end_more (take head_limit t) w n h

-- 8,192 bytes decide
pub head_full : (t m : Text) → length t ≡ head_limit → head_length t ≡ None → head_length (t ++ m) ≡ None
head_full t m l h =
    let all : take head_limit t ≡ t = ap (take head_limit) (sym (append-nil t)) ∙ take_front head_limit t [] l in
    ap end_of_block (take_front head_limit t m l ∙ sym all) ∙ h

-- ---- how far an end can stand
line_end_within : (t : Text) → line_end_length t ≤ length t
line_end_within [] = omega arith
line_end_within (b ∷ []) = go (b == 10) (b == 13)
  where
    go : (p q : Bool) → cond p 1 (cond (q && false) 2 0) ≤ 1
    go true q = omega arith
    go false true = omega arith
    go false false = omega arith
line_end_within (b ∷ c ∷ t) = go (b == 10) ((b == 13) && (c == 10))
  where
    go : (p q : Bool) → cond p 1 (cond q 2 0) ≤ suc (suc (length t))
    go true q = omega arith
    go false true = omega arith
    go false false = omega arith

block_within : (t : Text) (n : ℕ) → block_length t ≡ Some n → n ≤ length t
block_within [] n h = absurd (none_some n h)
block_within (b ∷ t) n h = go ((b == 10) && nat_lt 0 (line_end_length t)) (block_within t) h
  where
    go : (p : Bool) → ((j : ℕ) → block_length t ≡ Some j → j ≤ length t)
        → cond p (Some (suc (line_end_length t))) (option_map (λ k. suc k) (block_length t)) ≡ Some n → n ≤ suc (length t)
    go true on k = let e = same_some _ _ k in let le = line_end_within t in omega (arith, e, le)
    go false on k = let (j, e, s) = mapped (block_length t) n k in let le = on j e in let e' = same_some _ _ s in omega (arith, le, e')

end_within : (t : Text) (n : ℕ) → end_of_block t ≡ Some n → n ≤ length t
end_within [] n h = absurd (none_some n h)
end_within (b ∷ t) n h = go (in_line_end b t) (end_within t) (block_within (b ∷ t) n) h
  where
    go : (p : Bool) → ((j : ℕ) → end_of_block t ≡ Some j → j ≤ length t) → (block_length (b ∷ t) ≡ Some n → n ≤ suc (length t))
        → cond p (option_map (λ k. suc k) (end_of_block t)) (block_length (b ∷ t)) ≡ Some n → n ≤ suc (length t)
    go true on here k = let (j, e, s) = mapped (end_of_block t) n k in let le = on j e in let e' = same_some _ _ s in omega (arith, le, e')
    go false on here k = here k

take_within : (k : ℕ) (t : Text) → (length (take k t) ≤ k) × (length (take k t) ≤ length t)
take_within zero t = (omega arith, omega arith)
take_within (suc k) [] = (omega arith, omega arith)
take_within (suc k) (b ∷ t) = let (p, q) = take_within k t in (omega (arith, p), omega (arith, q))

pub head_within : (t : Text) (n : ℕ) → head_length t ≡ Some n → (n ≤ length t) × (n ≤ head_limit)
head_within t n h =
    let le = end_within (take head_limit t) n h in
    let (p, q) = take_within head_limit t in
    (omega (arith, le, q), omega (arith, le, p))

-- ---- bytes that are filled up with a letter
abbrev pub letters : ℕ → Text
letters n = replicate n 120

no_lf : (n : ℕ) → begins_with_lf (letters n) ≡ false
no_lf zero = refl
no_lf (suc n) = refl

in_filled : (b : ℕ) (t : Text) (n : ℕ) → in_line_end b (t ++ letters n) ≡ in_line_end b t
in_filled b [] n = ap (λ p. (b == 10) || ((b == 13) && p)) (no_lf n)
in_filled b (c ∷ t) n = refl

no_end_filled : (t : Text) (n : ℕ) → nat_lt 0 (line_end_length t) ≡ false → nat_lt 0 (line_end_length (t ++ letters n)) ≡ false
no_end_filled [] zero h = h
no_end_filled [] (suc n) h = refl
no_end_filled (b ∷ []) n h =
    ap (λ p. nat_lt 0 (cond (b == 10) 1 (cond ((b == 13) && p) 2 0))) (no_lf n) ∙ h
no_end_filled (b ∷ c ∷ t) n h = h

letters_no_block : (n : ℕ) → block_length (letters n) ≡ None
letters_no_block zero = refl
letters_no_block (suc n) = ap (option_map (λ k. suc k)) (letters_no_block n)

unmapped : (o : Option ℕ) → option_map (λ k. suc k) o ≡ None → o ≡ None
unmapped None h = refl
unmapped (Some k) h = absurd (none_some _ (sym h))

block_filled : (t : Text) (n : ℕ) → block_length t ≡ None → block_length (t ++ letters n) ≡ None
block_filled [] n h = letters_no_block n
block_filled (b ∷ t) n h = go (b == 10) (cases_Bool (nat_lt 0 (line_end_length t))) (block_filled t n) h
  where
    go : (p : Bool) → ((nat_lt 0 (line_end_length t) ≡ true) ⊎ (nat_lt 0 (line_end_length t) ≡ false))
        → (block_length t ≡ None → block_length (t ++ letters n) ≡ None)
        → cond (p && nat_lt 0 (line_end_length t)) (Some (suc (line_end_length t))) (option_map (λ k. suc k) (block_length t)) ≡ None
        → cond (p && nat_lt 0 (line_end_length (t ++ letters n))) (Some (suc (line_end_length (t ++ letters n))))
        (option_map (λ k. suc k) (block_length (t ++ letters n))) ≡ None
    go false q on k = ap (option_map (λ k. suc k)) (on (unmapped (block_length t) k))
    go true (inl ends) on k = absurd (none_some _ (sym (subst
        (λ q. cond q (Some (suc (line_end_length t))) (option_map (λ k. suc k) (block_length t)) ≡ None) ends k)))
    go true (inr none_ends) on k =
        let none = unmapped (block_length t) (subst
        (λ q. cond q (Some (suc (line_end_length t))) (option_map (λ k. suc k) (block_length t)) ≡ None) none_ends k) in
        subst (λ q. cond q (Some (suc (line_end_length (t ++ letters n)))) (option_map (λ k. suc k) (block_length (t ++ letters n))) ≡ None)
        (sym (no_end_filled t n none_ends)) (ap (option_map (λ k. suc k)) (on none))

end_filled : (t : Text) (n : ℕ) → end_of_block t ≡ None → end_of_block (t ++ letters n) ≡ None
end_filled [] zero h = refl
end_filled [] (suc n) h = letters_no_block (suc n)
end_filled (b ∷ t) n h =
    subst (λ p. cond p (option_map (λ k. suc k) (end_of_block (t ++ letters n))) (block_length (b ∷ (t ++ letters n))) ≡ None)
    (sym (in_filled b t n)) (go (in_line_end b t) (end_filled t n) (block_filled (b ∷ t) n) h)
  where
    go : (p : Bool) → (end_of_block t ≡ None → end_of_block (t ++ letters n) ≡ None)
        → (block_length (b ∷ t) ≡ None → block_length (b ∷ (t ++ letters n)) ≡ None)
        → cond p (option_map (λ k. suc k) (end_of_block t)) (block_length (b ∷ t)) ≡ None
        → cond p (option_map (λ k. suc k) (end_of_block (t ++ letters n))) (block_length (b ∷ (t ++ letters n))) ≡ None
    go true on here k = ap (option_map (λ k. suc k)) (on (unmapped (end_of_block t) k))
    go false on here k = here k

pub take_short : (k : ℕ) (t : Text) → length t ≤ k → take k t ≡ t
take_short zero [] l = refl
take_short zero (b ∷ t) l = absurd (omega (arith, l))
take_short (suc k) [] l = refl
take_short (suc k) (b ∷ t) l = ap (λ r. b ∷ r) (take_short k t (omega (arith, l)))

pub length_letters : (n : ℕ) → length (letters n) ≡ n
length_letters zero = refl
length_letters (suc n) = let e = length_letters n in omega (arith, e)

-- filled up to the limit, bytes without the end of a block have none
pub head_filled : (t : Text) (n : ℕ) → length t + n ≡ head_limit → head_length t ≡ None
    → (length (t ++ letters n) ≡ head_limit) × (head_length (t ++ letters n) ≡ None)
head_filled t n l h =
    let size = length-append t (letters n) in
    let fill = length_letters n in
    let whole : length (t ++ letters n) ≡ head_limit = omega (arith, size, fill, l) in
    let before : end_of_block t ≡ None = ap end_of_block (sym (take_short head_limit t (omega (arith, l)))) ∙ h in
    (whole, ap end_of_block (take_short head_limit (t ++ letters n) (omega (arith, whole))) ∙ end_filled t n before)

-- ---- blank lines
blank_no_end : (t : Text) → without_blanks t ≡ [] → end_of_block t ≡ None
blank_no_end [] h = refl
blank_no_end (b ∷ t) h = go (in_line_end b t) (blank_no_end t) h
  where
    go : (p : Bool) → (without_blanks t ≡ [] → end_of_block t ≡ None) → cond p (without_blanks t) (b ∷ t) ≡ []
        → cond p (option_map (λ k. suc k) (end_of_block t)) (block_length (b ∷ t)) ≡ None
    go true on k = ap (option_map (λ k. suc k)) (on k)
    go false on k = absurd (let e : suc (length t) ≡ 0 = ap length k in omega (arith, e))

-- no block ends among blank lines alone
pub head_blank : (t : Text) → length t < head_limit → without_blanks t ≡ [] → head_length t ≡ None
head_blank t l h = ap end_of_block (take_short head_limit t (omega (arith, l))) ∙ blank_no_end t h

-- ---- the bytes up to an end alone have it there
block_some : (t : Text) (n : ℕ) → block_length t ≡ Some n → 2 ≤ n
block_some [] n h = absurd (none_some n h)
block_some (b ∷ t) n h = go (b == 10) (line_end_length t) (block_some t) h
  where
    go : (p : Bool) (size : ℕ) → ((j : ℕ) → block_length t ≡ Some j → 2 ≤ j)
        → cond (p && nat_lt 0 size) (Some (suc size)) (option_map (λ k. suc k) (block_length t)) ≡ Some n → 2 ≤ n
    go true zero on k = let (j, e, s) = mapped (block_length t) n k in let le = on j e in let e' = same_some _ _ s in omega (arith, le, e')
    go true (suc size) on k =
        let some : nat_lt 0 (suc size) ≡ true = grind (arith, nat_tests) in
        let e = same_some _ _ (subst (λ p. cond p (Some (suc (suc size))) (option_map (λ k. suc k) (block_length t)) ≡ Some n) some k) in
        omega (arith, e)
    go false size on k = let (j, e, s) = mapped (block_length t) n k in let le = on j e in let e' = same_some _ _ s in omega (arith, le, e')

end_some : (t : Text) (n : ℕ) → end_of_block t ≡ Some n → 2 ≤ n
end_some [] n h = absurd (none_some n h)
end_some (b ∷ t) n h = go (in_line_end b t) (end_some t) h
  where
    go : (p : Bool) → ((j : ℕ) → end_of_block t ≡ Some j → 2 ≤ j)
        → cond p (option_map (λ k. suc k) (end_of_block t)) (block_length (b ∷ t)) ≡ Some n → 2 ≤ n
    go true on k = let (j, e, s) = mapped (end_of_block t) n k in let le = on j e in let e' = same_some _ _ s in omega (arith, le, e')
    go false on k = block_some (b ∷ t) n k

block_front : (a b : Text) (n : ℕ) → block_length (a ++ b) ≡ Some n → n ≤ length a → block_length a ≡ Some n
block_front [] b n h le = absurd (let some = block_some b n h in omega (arith, some, le))
block_front (x ∷ []) b n h le = absurd (let some = block_some (x ∷ b) n h in omega (arith, some, le))
block_front (x ∷ c ∷ []) b n h le = go (x == 10) (c == 10) ((c == 13) && begins_with_lf b) h
  where
    later : option_map (λ k. suc k) (block_length (c ∷ b)) ≡ Some n → ⊥
    later k =
        let (j, e, s) = mapped (block_length (c ∷ b)) n k in
        let some = block_some (c ∷ b) j e in
        let e' = same_some _ _ s in
        omega (arith, some, e', le)

    go : (q p r : Bool)
        → cond (q && nat_lt 0 (cond p 1 (cond r 2 0))) (Some (suc (cond p 1 (cond r 2 0)))) (option_map (λ k. suc k) (block_length (c ∷ b)))
        ≡ Some n
        → cond (q && nat_lt 0 (cond p 1 (cond ((c == 13) && false) 2 0))) (Some (suc (cond p 1 (cond ((c == 13) && false) 2 0))))
        (option_map (λ k. suc k) (cond (p && nat_lt 0 0) (Some 1) None)) ≡ Some n
    go true true r k = k
    go true false true k = absurd (let e : 3 ≡ n = same_some _ _ k in omega (arith, e, le))
    go true false false k = absurd (later k)
    go false p r k = absurd (later k)
block_front (x ∷ c ∷ d ∷ a) b n h le = go ((x == 10) && nat_lt 0 (line_end_length (c ∷ d ∷ a))) (block_front (c ∷ d ∷ a) b) h
  where
    go : (p : Bool)
        → ((j : ℕ) → block_length (c ∷ d ∷ (a ++ b)) ≡ Some j → j ≤ length (c ∷ d ∷ a) → block_length (c ∷ d ∷ a) ≡ Some j)
        → cond p (Some (suc (line_end_length (c ∷ d ∷ a)))) (option_map (λ k. suc k) (block_length (c ∷ d ∷ (a ++ b)))) ≡ Some n
        → cond p (Some (suc (line_end_length (c ∷ d ∷ a)))) (option_map (λ k. suc k) (block_length (c ∷ d ∷ a))) ≡ Some n
    go true on k = k
    go false on k =
        let (j, e, s) = mapped (block_length (c ∷ d ∷ (a ++ b))) n k in
        let e' = same_some _ _ s in
        ap (option_map (λ k. suc k)) (on j e (omega (arith, e', le))) ∙ s

end_front : (a b : Text) (n : ℕ) → end_of_block (a ++ b) ≡ Some n → n ≤ length a → end_of_block a ≡ Some n
end_front [] b n h le = absurd (let some = end_some b n h in omega (arith, some, le))
end_front (x ∷ []) b n h le = absurd (let some = end_some (x ∷ b) n h in omega (arith, some, le))
end_front (x ∷ c ∷ a) b n h le = go (in_line_end x (c ∷ a)) (end_front (c ∷ a) b) (block_front (x ∷ c ∷ a) b n) h
  where
    go : (p : Bool) → ((j : ℕ) → end_of_block (c ∷ (a ++ b)) ≡ Some j → j ≤ length (c ∷ a) → end_of_block (c ∷ a) ≡ Some j)
        → (block_length (x ∷ c ∷ (a ++ b)) ≡ Some n → n ≤ length (x ∷ c ∷ a) → block_length (x ∷ c ∷ a) ≡ Some n)
        → cond p (option_map (λ k. suc k) (end_of_block (c ∷ (a ++ b)))) (block_length (x ∷ c ∷ (a ++ b))) ≡ Some n
        → cond p (option_map (λ k. suc k) (end_of_block (c ∷ a))) (block_length (x ∷ c ∷ a)) ≡ Some n
    go true on here k =
        let (j, e, s) = mapped (end_of_block (c ∷ (a ++ b))) n k in
        let e' = same_some _ _ s in
        ap (option_map (λ k. suc k)) (on j e (omega (arith, e', le))) ∙ s
    go false on here k = here k le

pub length_take : (n : ℕ) (t : Text) → n ≤ length t → length (take n t) ≡ n
length_take zero t le = refl
length_take (suc n) [] le = absurd (omega arith)
length_take (suc n) (b ∷ t) le = let e = length_take n t (omega arith) in omega (arith, e)

pub head_front : (t : Text) (n : ℕ) → head_length t ≡ Some n → head_length (take n t) ≡ Some n
head_front t n h =
    let (within, short) = head_within t n h in
    let size = length_take n t within in
    let (u, split) = take_part t n head_limit short in
    ap end_of_block (take_short head_limit (take n t) (omega (arith, size, short)))
    ∙ end_front (take n t) u n (ap end_of_block (sym split) ∙ h) (omega (arith, size))
