-- A form that is another one: the same tokens and the same levels.
use Rattle.std.proofs.Common.{◌≡◌, ℕ, ◌≤◌, List, [], ◌∷◌, ◌++◌, Ok, Err, refl, sym, ap, ◌∙◌, subst, arith}
use Rattle.exact_reading.specs.declared.stop.ParseStop.{ParseStop}
use Rattle.exact_reading.specs.Reading.{Language, IsWithinLevels, SharesPrefix, Right}
use Rattle.exact_reading.proofs.Sequences.{Bind, Done, append_nil}
use Rattle.exact_reading.proofs.Productions.{Follows, least_done, least_alive, least_ever, bind_right, bind_stop, done_right, by_production}
use Rattle.task_model.specs.Syntax.Lexemes.{Lexeme}
use Rattle.task_model.specs.Syntax.Grammar.{Form, Parse, tokens, levels}
use Rattle.reader_grammar.specs.Languages.{Of, EndsForm, reach}
use Rattle.reader_grammar.proofs.GrammarLemmas.{Some, head, begins_head, stops_within}

-- where the tokens begin so, f is g
pub record Passing (f g : Form) (ts : List Lexeme) : Type 0 where
  pub some : Some f
  pub pass : Parse g → Parse f
  pub tokens_are : (d : Parse g) → tokens (pass d) ≡ tokens d
  pub levels_are : (d : Parse g) → levels (pass d) ≡ levels d
  pub within : reach g ≤ reach f
  pub back : (d : Parse f) (s : List Lexeme) → ts ≡ head d ∷ s → (e : Parse g) × (pass e ≡ d)

module _ {f g : Form} {ts : List Lexeme} (P : Passing f g ts) where
  abbrev Passed : Language Lexeme (Parse f × ℕ)
  Passed = Bind (Of g) (λ x. Done (P.pass x.0, x.1))

  pass_in : (a : List Lexeme) (y : Parse f × ℕ) → Passed a y → Of f a y
  pass_in a y h =
      let e0 : y.0 ≡ P.pass h.value.0 = ap (λ q. q.0) h.next.same in
      let e1 : y.1 ≡ h.value.1 = ap (λ q. q.1) h.next.same in (
        ap (λ q. tokens q) e0 ∙ P.tokens_are h.value.0 ∙ h.first.0
            ∙ sym (h.split ∙ ap (λ l. h.front ++ l) h.next.none ∙ append_nil h.front),
        ap (λ q. levels q) e0 ∙ P.levels_are h.value.0 ∙ h.first.1 ∙ sym e1,
      )

  pass_out : (a : List Lexeme) (y : Parse f × ℕ) (z : List Lexeme) → Of f a y → SharesPrefix [] ts (a ++ z) → Passed a y
  pass_out a y z h b =
      let (s, is) = begins_head y.0 P.some a z ts h.0 b in
      let (e, same) = P.back y.0 s is in
      record {
        front = tokens e;
        back = [];
        value = (e, levels e);
        split = sym h.0 ∙ ap (λ q. tokens q) (sym same) ∙ P.tokens_are e ∙ sym (append_nil (tokens e));
        first = (refl, refl);
        next = record {
          none = refl;
          same = ap (λ n. (y.0, n)) (sym h.1) ∙ ap (λ q. (q, levels q)) (sym same)
              ∙ ap (λ n. (P.pass e, n)) (P.levels_are e);
        };
      }

  pass_follow : Follows {X = Parse g × ℕ} {Y = Parse f × ℕ} (EndsForm g) (λ x. Done (P.pass x.0, x.1)) (EndsForm f)
  pass_follow x b y z h hz = subst (λ l. EndsForm g (l ++ z)) (sym h.none) (stops_within g f P.within z hz)

  pub pass_stop : {room : ℕ} {e : ParseStop} → Right (Of g) (IsWithinLevels room) (EndsForm g) ts (Err e)
      → Right (Of f) (IsWithinLevels room) (EndsForm f) ts (Err e)
  pass_stop {room = room} right =
      by_production Passed (Of f) pass_in (λ a y z h _ b. pass_out a y z h b)
      (bind_stop {B = λ x. Done (P.pass x.0, x.1)} pass_follow
      (λ x b y h fits. let e : y.1 ≡ x.1 = ap (λ q. q.1) h.same in omega (arith, e, fits))
      (λ a x h fits. least_alive x.1 room (Done (P.pass x.0, x.1)) fits (least_done (P.pass x.0) x.1))
      (λ a x h. least_ever x.1 (Done (P.pass x.0, x.1)) (least_done (P.pass x.0) x.1)) right)

  pub pass_found : {room : ℕ} {x : Parse g × ℕ} {rest : List Lexeme} → Right (Of g) (IsWithinLevels room) (EndsForm g) ts (Ok (x, rest))
      → Right (Of f) (IsWithinLevels room) (EndsForm f) ts (Ok ((P.pass x.0, x.1), rest))
  pass_found {room = room} {x = x} found =
      by_production Passed (Of f) pass_in (λ a y z h _ b. pass_out a y z h b)
      (bind_right {B = λ x. Done (P.pass x.0, x.1)} pass_follow
      (least_alive x.1 room (Done (P.pass x.0, x.1)) found.by.fits (least_done (P.pass x.0) x.1)) found (done_right found.by.fits))
