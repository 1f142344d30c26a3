-- Ends of lines, and words in front of them.
use Rattle.std.proofs.Common.{◌≡◌, ◌≢◌, ℕ, zero, suc, ◌<◌, Bool, true, false, [], ◌∷◌, ◌++◌, length, take, get_or, Ok, Err, refl, sym, ap, ◌∙◌, subst, arith}
use Rattle.task_model.specs.Terms.Text.{Text}
use Rattle.exact_reading.specs.declared.stop.ParseStop.{ParseStop}
use Rattle.exact_reading.specs.declared.stop.ParseStop.TheVariants.{Fault}
use Rattle.exact_reading.specs.declared.stop.FaultKind.TheVariants.{Unexpected}
use Rattle.exact_reading.specs.Reading.{SharesPrefix, IsViablePrefix, Always, Answer, Right, Tok, Run, NoToken, Anything}
use Rattle.exact_reading.proofs.Sequences.{Bind}
use Rattle.exact_reading.proofs.Productions.{then_right, then_stop, by_production, same_language, at_tokens, refused_first, tok_right, begins_token}
use Rattle.input_lines.specs.ScriptLines.{return_text}
use Rattle.input_lines.specs.LineReading.{AtEnd, LineEnd, EndWord, NoReturn}

-- ---- nothing more
pub nothing_right : {ts : Text} → ts ≡ [] → Right (Run []) Always AtEnd ts (Ok (tt, []))
nothing_right e = at_tokens e (record {
  by = record { front = []; split = refl; found = refl; fits = tt; only = λ a y z h hz b. (h, refl) };
})

pub nothing_stop : (ts : Text) → ts ≢ [] → Right (Run []) Always AtEnd ts (Err (Fault Unexpected (length ts)))
nothing_stop ts some = refused_first (Run []) ts (go ts some)
  where
    go : (ts : Text) → ts ≢ [] → (a : Text) (y : Unit {0}) (z : Text) → a ≡ [] → z ≡ [] → SharesPrefix [] ts (a ++ z) → ⊥
    go [] some a y z ha hz b = some refl
    go (t ∷ ts) some a y z ha hz (w, b) = cc

-- ---- the end of a line
module _ (rest : Text) where
  with_in : (a : Text) (y : Unit {0}) → Bind (Tok 13) (λ _. Run []) a y → LineEnd a y
  with_in a y h = record { returned = true; are = h.split ∙ ap (λ l. l ++ h.back) h.first ∙ ap (λ l. 13 ∷ l) h.next }

  with_out : (r : Bool) (a : Text) (y : Unit {0}) (z : Text) → a ≡ return_text r → z ≡ [] → SharesPrefix [] (13 ∷ rest) (a ++ z)
      → Bind (Tok 13) (λ _. Run []) a y
  with_out true a y z are hz b = record { front = 13 ∷ []; back = []; value = tt; split = are; first = refl; next = refl }
  with_out false a y z are hz (w, b) = absurd
      (let e : [] ++ [] ≡ 13 ∷ w = ap (λ l. l ++ []) (sym are) ∙ ap (λ l. a ++ l) (sym hz) ∙ b in cc)

pub end_with : {ts rest : Text} {r : Answer ℕ (Unit {0})} → ts ≡ 13 ∷ rest → Right (Run []) Always AtEnd rest r
    → Right LineEnd Always AtEnd ts r
end_with {rest = rest} e right =
    at_tokens e (by_production (Bind (Tok 13) (λ _. Run [])) LineEnd (with_in rest)
    (λ a y z h hz b. with_out rest h.returned a y z h.are hz b)
    (then_right (λ _ _ _ _ _ _. tt) ([], tt, refl, tt) (tok_right 13 refl) right))

pub end_without : {ts : Text} {r : Answer ℕ (Unit {0})} → NoToken 13 ts → Right (Run []) Always AtEnd ts r → Right LineEnd Always AtEnd ts r
end_without {ts = ts} none right =
    by_production (Run []) LineEnd (λ a y h. record { returned = false; are = h }) (λ a y z h hz b. out h.returned a z h.are b) right
  where
    out : (r : Bool) (a z : Text) → a ≡ return_text r → SharesPrefix [] ts (a ++ z) → a ≡ []
    out true a z are b = absurd (begins_token 13 ts z none (subst (λ l. SharesPrefix [] ts (l ++ z)) are b))
    out false a z are b = are

pub end_alive : IsViablePrefix LineEnd Always []
end_alive = ([], tt, record { returned = false; are = refl }, tt)

-- ---- a word
module _ (word : Text) where
  word_in : (a : Text) (y : Unit {0}) → Bind (Run word) (λ _. LineEnd) a y → EndWord word a y
  word_in a y h = record {
    returned = h.next.returned;
    are = h.split ∙ ap (λ l. l ++ h.back) h.first ∙ ap (λ l. word ++ l) h.next.are;
  }

  word_out : (a : Text) (y : Unit {0}) → EndWord word a y → Bind (Run word) (λ _. LineEnd) a y
  word_out a y h = record {
    front = word;
    back = return_text h.returned;
    value = tt;
    split = h.are;
    first = refl;
    next = record { returned = h.returned; are = refl };
  }

pub end_word_right : {word ts rest : Text} {r : Answer ℕ (Unit {0})} → Right (Run word) Always Anything ts (Ok (tt, rest))
    → Right LineEnd Always AtEnd rest r → Right (EndWord word) Always AtEnd ts r
end_word_right {word = word} found right = same_language (Bind (Run word) (λ _. LineEnd)) (EndWord word) (word_in word) (word_out word)
    (then_right (λ _ _ _ _ _ _. tt) end_alive found right)

pub end_word_stop : {word ts : Text} {e : ParseStop} → Right (Run word) Always Anything ts (Err e)
    → Right (EndWord word) Always AtEnd ts (Err e)
end_word_stop {word = word} right = same_language (Bind (Run word) (λ _. LineEnd)) (EndWord word) (word_in word) (word_out word)
    (then_stop (λ _ _ _ _ _ _. tt) (λ _ _ _. end_alive) right)

-- ---- bytes before the first CR
pub NoReturn-before : (n : ℕ) (bytes : Text) → ((k : ℕ) → k < n → get_or bytes k 0 ≢ 13) → NoReturn (take n bytes)
NoReturn-before zero bytes none = tt
NoReturn-before (suc n) [] none = tt
NoReturn-before (suc n) (byte ∷ bytes) none = (none 0 (omega arith), NoReturn-before n bytes (λ k lt. none (suc k) (omega arith)))

pub NoReturn-whole : (bytes : Text) → ((k : ℕ) → k < length bytes → get_or bytes k 0 ≢ 13) → NoReturn bytes
NoReturn-whole [] none = tt
NoReturn-whole (byte ∷ bytes) none = (none 0 (omega arith), NoReturn-whole bytes (λ k lt. none (suc k) (omega arith)))
