-- Parses of a form that are another form, and then perhaps a token and more: comparisons, lists with one more element in front, and of
-- the parses of tasks the steps. What comes after the token depends on it.
use Rattle.std.proofs.Common.{◌≡◌, ℕ, ◌+◌, ◌≤◌, ◌<◌, true, false, List, [], ◌∷◌, ◌++◌, length, Ok, Err, refl, sym, ap, ◌∙◌, subst, arith}
use Rattle.exact_reading.specs.declared.stop.ParseStop.{ParseStop}
use Rattle.exact_reading.specs.declared.stop.ParseStop.TheVariants.{Fault}
use Rattle.exact_reading.specs.declared.stop.FaultKind.TheVariants.{TooNested}
use Rattle.exact_reading.specs.Reading.{Language, IsWithinLevels, SharesPrefix, Answer, Right, Tok}
use Rattle.task_model.specs.Syntax.Lexemes.{Lexeme}
use Rattle.std.proofs.Common.{◌⊎◌, inl, inr}
use Rattle.task_model.specs.Syntax.Grammar.{Form, Parse, tokens, levels}
use Rattle.reader_grammar.specs.Languages.{Of, EndsForm, stops_at, rank, reach}
use Rattle.exact_reading.proofs.Sequences.{Bind, Done, append_nil}
use Rattle.exact_reading.proofs.Productions.{Least, least_alive, least_ever, bind_right, bind_stop, by_production, same_language, done_right, tok_right, refused_deep, at_tokens}
use Rattle.exact_reading.proofs.Symbols.{Sym, Values, Seq, Sequence, size, size_above, least_seq, open_up}
use Rattle.reader_grammar.proofs.GrammarLemmas.{grammar, stops_within}
use Rattle.reader_grammar.proofs.RuleLemmas.{tokens_of, most_of, built, build_up}

pub record Optional (f g : Form) : Type 1 where
  -- which parses these are
  pub Among : Parse f → Type 0
  pub bare : Parse g → Parse f
  pub bare_among : (d : Parse g) → Among (bare d)
  pub bare_tokens : (d : Parse g) → tokens (bare d) ≡ tokens d
  pub bare_levels : (d : Parse g) → levels (bare d) ≡ levels d
  pub Lead : Type 0
  pub lead : Lead → Lexeme
  pub symbols : Lead → List (Sym grammar)
  pub build : Parse g → (l : Lead) → Values grammar (symbols l) → Parse f
  pub build_among : (d : Parse g) (l : Lead) (vs : Values grammar (symbols l)) → Among (build d l vs)
  pub tokens_are : (d : Parse g) (l : Lead) (vs : Values grammar (symbols l))
      → tokens (build d l vs) ≡ tokens d ++ (lead l ∷ tokens_of (symbols l) vs)
  pub levels_are : (d : Parse g) (l : Lead) (vs : Values grammar (symbols l))
      → levels (build d l vs) ≡ 1 + most_of (symbols l) vs (levels d)
  pub cases : (d : Parse f) → Among d → ((e : Parse g) × (bare e ≡ d)) ⊎
      ((e : Parse g) × (l : Lead) × (vs : Values grammar (symbols l)) × (build e l vs ≡ d))
  pub reaches : reach g ≤ reach f
  pub past : (l : Lead) → stops_at (reach g) (rank (lead l)) ≡ true
  pub goes_on : (l : Lead) → stops_at (reach f) (rank (lead l)) ≡ false
  pub apart : (l m : Lead) → lead l ≡ lead m → l ≡ m

module _ {f g : Form} (O : Optional f g) where
  -- these parses, as a language
  abbrev pub Those : Language Lexeme (Parse f × ℕ)
  Those ts y = Of f ts y × O.Among y.0

  abbrev pub Going : Parse g × ℕ → O.Lead → Language Lexeme (Parse f × ℕ)
  Going x l = Seq grammar 1 (O.symbols l) (O.build x.0 l) x.1

  abbrev Led : Parse g × ℕ → O.Lead → Language Lexeme (Parse f × ℕ)
  Led x l = Bind (Tok (O.lead l)) (λ _. Going x l)

  -- what may stand behind the first part
  pub record Behind (x : Parse g × ℕ) (ts : List Lexeme) (y : Parse f × ℕ) : Type 0 where
    pub by : Done (O.bare x.0, x.1) ts y ⊎ ((l : O.Lead) × Led x l ts y)

  abbrev Whole : Language Lexeme (Parse f × ℕ)
  Whole = Bind (Of g) Behind

  least_behind : (x : Parse g × ℕ) → Least x.1 (Behind x)
  least_behind x = record {
    text = [];
    result = (O.bare x.0, x.1);
    here = record { by = inl (record { none = refl; same = refl }) };
    few = omega arith;
    above = λ b y h. go b y h.by;
  }
    where
      go : (b : List Lexeme) (y : Parse f × ℕ) → (Done (O.bare x.0, x.1) b y ⊎ ((l : O.Lead) × Led x l b y)) → x.1 ≤ y.1
      go b y (inl h) = let e : y.1 ≡ x.1 = ap (λ q. q.1) h.same in omega (arith, e)
      go b y (inr (l, h)) =
          let n = (least_seq grammar 1 (O.symbols l) (O.build x.0 l) x.1).above h.back y h.next in
          let m = size_above grammar 1 (O.symbols l) x.1 in
          omega (arith, n, m)

  behind_follow : (x : Parse g × ℕ) (b : List Lexeme) (y : Parse f × ℕ) (z : List Lexeme) → Behind x b y → EndsForm f z
      → EndsForm g (b ++ z)
  behind_follow x b y z h hz = go h.by
    where
      go : (Done (O.bare x.0, x.1) b y ⊎ ((l : O.Lead) × Led x l b y)) → EndsForm g (b ++ z)
      go (inl k) = subst (λ t. EndsForm g (t ++ z)) (sym k.none) (stops_within g f O.reaches z hz)
      go (inr (l, k)) = subst (λ t. EndsForm g (t ++ z)) (sym (k.split ∙ ap (λ t. t ++ k.back) k.first)) (O.past l)

  whole_in : (a : List Lexeme) (y : Parse f × ℕ) → Whole a y → Those a y
  whole_in a y h = go h.next.by
    where
      go : (Done (O.bare h.value.0, h.value.1) h.back y ⊎ ((l : O.Lead) × Led h.value l h.back y)) → Those a y
      go (inl k) =
          let e0 : y.0 ≡ O.bare h.value.0 = ap (λ q. q.0) k.same in
          let e1 : y.1 ≡ h.value.1 = ap (λ q. q.1) k.same in (
            (
              ap (λ q. tokens q) e0 ∙ O.bare_tokens h.value.0 ∙ h.first.0
                  ∙ sym (h.split ∙ ap (λ l. h.front ++ l) k.none ∙ append_nil h.front),
              ap (λ q. levels q) e0 ∙ O.bare_levels h.value.0 ∙ h.first.1 ∙ sym e1,
            ),
            subst O.Among (sym e0) (O.bare_among h.value.0),
          )
      go (inr (l, k)) =
          let b = built 1 (O.symbols l) (O.build h.value.0 l) h.value.1 k.back y k.next in
          let e0 : y.0 ≡ O.build h.value.0 l b.parts = ap (λ q. q.0) b.is in
          let e1 : y.1 ≡ 1 + most_of (O.symbols l) b.parts h.value.1 = ap (λ q. q.1) b.is in (
            (
              ap (λ q. tokens q) e0 ∙ O.tokens_are h.value.0 l b.parts
                  ∙ ap (λ t. t ++ (O.lead l ∷ tokens_of (O.symbols l) b.parts)) h.first.0
                  ∙ sym (h.split ∙ ap (λ t. h.front ++ t) (k.split ∙ ap (λ t. t ++ k.back) k.first ∙ ap (λ t. O.lead l ∷ t) b.are)),
              ap (λ q. levels q) e0 ∙ O.levels_are h.value.0 l b.parts ∙ ap (λ n. 1 + most_of (O.symbols l) b.parts n) h.first.1 ∙ sym e1,
            ),
            subst O.Among (sym e0) (O.build_among h.value.0 l b.parts),
          )

  whole_out : (a : List Lexeme) (y : Parse f × ℕ) → Those a y → Whole a y
  whole_out a y (h, among) = go (O.cases y.0 among)
    where
      go : (((e : Parse g) × (O.bare e ≡ y.0)) ⊎ ((e : Parse g) × (l : O.Lead) × (vs : Values grammar (O.symbols l))
          × (O.build e l vs ≡ y.0))) → Whole a y
      go (inl (e, same)) = record {
        front = tokens e;
        back = [];
        value = (e, levels e);
        split = sym h.0 ∙ ap (λ q. tokens q) (sym same) ∙ O.bare_tokens e ∙ sym (append_nil (tokens e));
        first = (refl, refl);
        next = record {
          by = inl
              (record {
                none = refl;
                same = ap (λ n. (y.0, n)) (sym h.1) ∙ ap (λ q. (q, levels q)) (sym same)
                    ∙ ap (λ n. (O.bare e, n)) (O.bare_levels e);
              });
        };
      }
      go (inr (e, l, vs, same)) =
          let is : (O.build e l vs, 1 + most_of (O.symbols l) vs (levels e)) ≡ y =
          ap (λ n. (O.build e l vs, n)) (sym (O.levels_are e l vs)) ∙ ap (λ q. (q, levels q)) same ∙ ap (λ n. (y.0, n)) h.1 in
          record {
            front = tokens e;
            back = O.lead l ∷ tokens_of (O.symbols l) vs;
            value = (e, levels e);
            split = sym h.0 ∙ ap (λ q. tokens q) (sym same) ∙ O.tokens_are e l vs;
            first = (refl, refl);
            next = record {
              by = inr (
                l,
                record {
                  front = O.lead l ∷ [];
                  back = tokens_of (O.symbols l) vs;
                  value = tt;
                  split = refl;
                  first = refl;
                  next = subst (λ q. Seq grammar 1 (O.symbols l) (O.build e l) (levels e) (tokens_of (O.symbols l) vs) q) is
                      (build_up 1 (O.symbols l) (O.build e l) (levels e) vs);
                },
              );
            };
          }

  pub first_stop : {room : ℕ} {ts : List Lexeme} {e : ParseStop} → Right (Of g) (IsWithinLevels room) (EndsForm g) ts (Err e)
      → Right Those (IsWithinLevels room) (EndsForm f) ts (Err e)
  first_stop {room = room} right =
      same_language Whole Those whole_in whole_out
      (bind_stop {B = Behind} behind_follow
      (λ x b y h fits. let n = (least_behind x).above b y h in omega (arith, n, fits))
      (λ a x h fits. least_alive x.1 room (Behind x) fits (least_behind x))
      (λ a x h. least_ever x.1 (Behind x) (least_behind x)) right)

  pub first_found : {room : ℕ} {x : Parse g × ℕ} {ts rest : List Lexeme} {r : Answer Lexeme (Parse f × ℕ)}
      → Right (Of g) (IsWithinLevels room) (EndsForm g) ts (Ok (x, rest)) → Right (Behind x) (IsWithinLevels room) (EndsForm f) rest r
      → Right Those (IsWithinLevels room) (EndsForm f) ts r
  first_found {room = room} {x = x} found right =
      same_language Whole Those whole_in whole_out (bind_right {B = Behind} behind_follow
      (least_alive x.1 room (Behind x) found.by.fits (least_behind x)) found right)

  of_all : ((d : Parse f) → O.Among d) → {room : ℕ} {ts : List Lexeme} {r : Answer Lexeme (Parse f × ℕ)}
      → Right Those (IsWithinLevels room) (EndsForm f) ts r → Right (Of f) (IsWithinLevels room) (EndsForm f) ts r
  of_all all right = same_language Those (Of f) (λ a y h. h.0) (λ a y h. (h, all y.0)) right

  -- the same where these are all parses of the form
  pub all_stop : ((d : Parse f) → O.Among d) → {room : ℕ} {ts : List Lexeme} {e : ParseStop}
      → Right (Of g) (IsWithinLevels room) (EndsForm g) ts (Err e)
      → Right (Of f) (IsWithinLevels room) (EndsForm f) ts (Err e)
  all_stop all right = of_all all (first_stop right)

  pub all_found : ((d : Parse f) → O.Among d) → {room : ℕ} {x : Parse g × ℕ} {ts rest : List Lexeme} {r : Answer Lexeme (Parse f × ℕ)}
      → Right (Of g) (IsWithinLevels room) (EndsForm g) ts (Ok (x, rest)) → Right (Behind x) (IsWithinLevels room) (EndsForm f) rest r
      → Right (Of f) (IsWithinLevels room) (EndsForm f) ts r
  all_found all found right = of_all all (first_found found right)

  led_out : (x : Parse g × ℕ) (l : O.Lead) (rest a : List Lexeme) (y : Parse f × ℕ) (z : List Lexeme) → Behind x a y → EndsForm f z
      → SharesPrefix [] (O.lead l ∷ rest) (a ++ z) → Led x l a y
  led_out x l rest a y z h hz b = go h.by
    where
      go : (Done (O.bare x.0, x.1) a y ⊎ ((m : O.Lead) × Led x m a y)) → Led x l a y
      go (inl k) =
          let (w, b') = b in
          let same : z ≡ O.lead l ∷ w = ap (λ t. t ++ z) (sym k.none) ∙ b' in
          let yes' : stops_at (reach f) (rank (O.lead l)) ≡ true = subst (EndsForm f) same hz in
          let no' = O.goes_on l in
          absurd cc
      go (inr (m, k)) =
          let (w, b') = b in
          let same : O.lead m ∷ (k.back ++ z) ≡ O.lead l ∷ w = ap (λ t. t ++ z) (sym (k.split ∙ ap (λ t. t ++ k.back) k.first)) ∙ b' in
          let heads : O.lead m ≡ O.lead l = cc in
          subst (λ n. Led x n a y) (O.apart m l heads) k

  -- the token is there, and so is room for what comes after it
  pub led : {room : ℕ} {x : Parse g × ℕ} {ts rest : List Lexeme} {r : Answer Lexeme (Parse f × ℕ)} (l : O.Lead) → ts ≡ O.lead l ∷ rest
      → size grammar 1 (O.symbols l) x.1 ≤ room → Right (Sequence grammar 1 (O.symbols l) (O.build x.0 l) x.1) (IsWithinLevels room)
      (EndsForm f) rest r → Right (Behind x) (IsWithinLevels room) (EndsForm f) ts r
  led {room = room} {x = x} {rest = rest} l e le right =
      at_tokens e (by_production (Led x l) (Behind x) (λ a y h. record { by = inr (l, h) }) (λ a y z h hz b. led_out x l rest a y z h hz b)
      (bind_right (λ _ _ _ _ _ _. tt) (least_alive (size grammar 1 (O.symbols l) x.1) room (Going x l) le
      (least_seq grammar 1 (O.symbols l) (O.build x.0 l) x.1)) (tok_right (O.lead l) refl) (open_up grammar 1 right)))

  -- the token is there, and no room for what comes after it
  pub led_too_deep : {room : ℕ} {x : Parse g × ℕ} {ts rest : List Lexeme} (l : O.Lead) → ts ≡ O.lead l ∷ rest
      → room < size grammar 1 (O.symbols l) x.1 → Right (Behind x) (IsWithinLevels room) (EndsForm f) ts (Err (Fault TooNested (length ts)))
  led_too_deep {x = x} {rest = rest} l e lt =
      let q = least_seq grammar 1 (O.symbols l) (O.build x.0 l) x.1 in
      refused_deep (Behind x) e (λ a y z h fits hz b. let n = q.above _ y (led_out x l rest a y z h hz b).next in
      omega (arith, n, fits, lt)) (
        q.text,
        q.result,
        record {
          by = inr
              (l, record { front = O.lead l ∷ []; back = q.text; value = tt; split = refl; first = refl; next = q.here });
        },
        tt,
      )

  -- the token is not there
  pub bare_found : {room : ℕ} {x : Parse g × ℕ} {ts : List Lexeme} → ((l : O.Lead) (rest : List Lexeme) → ts ≡ O.lead l ∷ rest → ⊥)
      → x.1 ≤ room → Right (Behind x) (IsWithinLevels room) (EndsForm f) ts (Ok ((O.bare x.0, x.1), ts))
  bare_found {x = x} {ts = ts} none le =
      by_production (Done (O.bare x.0, x.1)) (Behind x) (λ a y h. record { by = inl h }) (λ a y z h _ b. go ts a y z none h.by b)
      (done_right le)
    where
      go : (ts a : List Lexeme) (y : Parse f × ℕ) (z : List Lexeme) → ((l : O.Lead) (rest : List Lexeme) → ts ≡ O.lead l ∷ rest → ⊥)
          → (Done (O.bare x.0, x.1) a y ⊎ ((l : O.Lead) × Led x l a y)) → SharesPrefix [] ts (a ++ z) → Done (O.bare x.0, x.1) a y
      go ts a y z none (inl k) b = k
      go [] a y z none (inr (l, k)) b =
          let same : O.lead l ∷ (k.back ++ z) ≡ [] = ap (λ t. t ++ z) (sym (k.split ∙ ap (λ t. t ++ k.back) k.first)) ∙ b in absurd cc
      go (t ∷ ts) a y z none (inr (l, k)) (w, b) =
          let same : O.lead l ∷ (k.back ++ z) ≡ t ∷ w = ap (λ t. t ++ z) (sym (k.split ∙ ap (λ t. t ++ k.back) k.first)) ∙ b in
          let t_is : t ≡ O.lead l = cc in
          absurd (none l ts (ap (λ q. q ∷ ts) t_is))
