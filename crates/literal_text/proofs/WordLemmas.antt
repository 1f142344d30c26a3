-- Words, brackets and the spaces behind them.
use Rattle.std.proofs.Common.{◌≡◌, ℕ, zero, suc, [], ◌∷◌, ◌++◌, Ok, Err, refl, sym, ap, ◌∙◌}
use Rattle.task_model.specs.Terms.Text.{Text}
use Rattle.exact_reading.specs.declared.stop.ParseStop.{ParseStop}
use Rattle.exact_reading.specs.Reading.{SharesPrefix, IsViablePrefix, Always, Answer, Right, Run, Anything}
use Rattle.exact_reading.proofs.Sequences.{Bind, append_nil}
use Rattle.exact_reading.proofs.Productions.{then_right, then_stop, same_language, at_tokens}
use Rattle.literal_text.specs.Literals.{spaces}
use Rattle.literal_text.specs.LiteralReading.{NoBlank, Gap, SpelledWord}

-- where no space follows, the same bytes have the same spaces in front
same_spaces : (k n : ℕ) (z s : Text) → NoBlank z → NoBlank s → spaces k ++ z ≡ spaces n ++ s → k ≡ n
same_spaces zero zero z s hz hs e = refl
same_spaces zero (suc n) z s hz hs e = absurd (hz (spaces n ++ s) e)
same_spaces (suc k) zero z s hz hs e = absurd (hs (spaces k ++ z) (sym e))
same_spaces (suc k) (suc n) z s hz hs e = let rest : spaces k ++ z ≡ spaces n ++ s = cc in ap suc (same_spaces k n z s hz hs rest)

-- all spaces at the front
pub gap_right : {ts rest : Text} → (n : ℕ) × (ts ≡ spaces n ++ rest) → NoBlank rest → Right Gap Always NoBlank ts (Ok (tt, rest))
gap_right {ts = ts} {rest = rest} (n, e) ends = at_tokens e (record {
  by = record {
    front = spaces n;
    split = refl;
    found = record {
      many = n;
      are = refl;
    };
    fits = tt;
    only = λ a y z h hz b. only rest ends a z h hz b;
  };
})
  where
    only : (rest : Text) → NoBlank rest → (a z : Text) → Gap a tt → NoBlank z → SharesPrefix (spaces n) rest (a ++ z) → (a ≡ spaces n)
        × (tt {0} ≡ tt {0})
    only [] ends a z h hz b =
        let same : spaces h.many ++ z ≡ spaces n ++ [] = ap (λ l. l ++ z) (sym h.are) ∙ b ∙ sym (append_nil (spaces n)) in
        (h.are ∙ ap spaces (same_spaces h.many n z [] hz ends same), refl)
    only (t ∷ rest) ends a z h hz (w, b) =
        let same : spaces h.many ++ z ≡ spaces n ++ (t ∷ w) = ap (λ l. l ++ z) (sym h.are) ∙ b in (
          h.are ∙ ap spaces (same_spaces h.many n z (t ∷ w) hz (λ y e. ends rest (let t_is : t ≡ 32 = cc in ap (λ q. q ∷ rest) t_is)) same),
          refl,
        )

pub gap_alive : IsViablePrefix Gap Always []
gap_alive = ([], tt, record { many = 0; are = refl }, tt)

word_in : (word a : Text) (y : Unit {0}) → Bind (Run word) (λ _. Gap) a y → SpelledWord word a y
word_in word a y h = record { behind = h.next.many; are = h.split ∙ ap (λ l. l ++ h.back) h.first ∙ ap (λ l. word ++ l) h.next.are }

word_out : (word a : Text) (y : Unit {0}) → SpelledWord word a y → Bind (Run word) (λ _. Gap) a y
word_out word a y h = record {
  front = word;
  back = spaces h.behind;
  value = tt;
  split = h.are;
  first = refl;
  next = record { many = h.behind; are = refl };
}

pub word_right : {word ts rest : Text} {r : Answer ℕ (Unit {0})} → Right (Run word) Always Anything ts (Ok (tt, rest))
    → Right Gap Always NoBlank rest r → Right (SpelledWord word) Always NoBlank ts r
word_right {word = word} found right = same_language (Bind (Run word) (λ _. Gap)) (SpelledWord word) (word_in word) (word_out word)
    (then_right (λ _ _ _ _ _ _. tt) gap_alive found right)

pub word_stop : {word ts : Text} {e : ParseStop} → Right (Run word) Always Anything ts (Err e)
    → Right (SpelledWord word) Always NoBlank ts (Err e)
word_stop {word = word} right = same_language (Bind (Run word) (λ _. Gap)) (SpelledWord word) (word_in word) (word_out word)
    (then_stop (λ _ _ _ _ _ _. tt) (λ _ _ _. gap_alive) right)
