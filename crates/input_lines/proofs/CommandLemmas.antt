-- What stands behind a seat, and whole lines.
use Rattle.std.specs.Prelude.{codes, decimal}
use Rattle.std.proofs.Common.{◌≡◌, ℕ, ◌≤◌, Bool, true, false, List, [], ◌∷◌, ◌++◌, get_or, Ok, Err, refl, sym, ap, ◌∙◌, subst, arith, append_assoc}
use Rattle.task_model.specs.Terms.Text.{Text}
use Rattle.task_model.specs.Terms.Token.{IsDigit}
use Rattle.task_model.specs.Running.State.{IsSeat}
use Rattle.task_model.specs.Showing.Page.{path_text}
use Rattle.task_model.specs.Terms.Input.{ActTerm}
use Rattle.task_model.specs.declared.input.Turn.{Turn}
use Rattle.exact_reading.specs.declared.stop.ParseStop.{ParseStop}
use Rattle.exact_reading.specs.Reading.{Language, SharesPrefix, IsViablePrefix, Always, Answer, Right, Tok, NoToken, Anything}
use Rattle.exact_reading.proofs.Sequences.{Bind, append_nil}
use Rattle.exact_reading.proofs.Productions.{then_right, then_stop, same_language, by_production, at_tokens, begins_token}
use Rattle.literal_text.specs.LiteralReading.{NoDigit}
use Rattle.input_lines.specs.ScriptLines.{LineTerm, nothing, shows, gives, LineParse, empty, comment, show, act, parse_bytes, parsed_line, act_bytes, parsed_act, return_text, IsScriptLine}
use Rattle.input_paths.specs.Paths.{PathLetters, NoLetter}
use Rattle.input_lines.specs.LineReading.{AtEnd, LineEnd, EndWord, SeatNumber, EndAct, EndInput, EndCommand, shown, given, SeatedLine}
use Rattle.input_lines.proofs.Images.{image_right, image_stop}
use Rattle.input_lines.proofs.SeatLemmas.{first_digit}
use Rattle.input_lines.proofs.ActLemmas.{act_alive}

-- ---- a path and an act
abbrev pub entry_of : ℕ → List Turn → ActTerm → LineTerm
entry_of seat path a = gives (record { seat = seat; input = record { path = path; act = a } })

-- an act, as the entry of a seat at a path
record Acting (seat : ℕ) (path : List Turn) (t : Text) (l : LineTerm) : Type 0 where
  pub a : ActTerm
  pub is : EndAct t a
  pub same : l ≡ entry_of seat path a

acting_into : (seat : ℕ) (path : List Turn) (t : Text) (a : ActTerm) → EndAct t a → Acting seat path t (entry_of seat path a)
acting_into seat path t a h = record { a = a; is = h; same = refl }

acting_out : (seat : ℕ) (path : List Turn) (t : Text) (l : LineTerm) → Acting seat path t l
    → (a : ActTerm) × EndAct t a × (l ≡ entry_of seat path a)
acting_out seat path t l h = (h.a, h.is, h.same)

acting_alive : (seat : ℕ) (path : List Turn) → IsViablePrefix (Acting seat path) Always []
acting_alive seat path = let (t, a, h, _) = act_alive in (t, entry_of seat path a, acting_into seat path t a h, tt)

-- a space, and then this
abbrev Behind : {X : Type 0} → Language ℕ X → Language ℕ X
Behind A = Bind (Tok 32) (λ _. A)

behind_text : {X : Type 0} (A : Language ℕ X) (t : Text) (x : X) (h : Behind A t x) → t ≡ 32 ∷ h.back
behind_text A t x h = h.split ∙ ap (λ l. l ++ h.back) h.first

behind_alive : {X : Type 0} (A : Language ℕ X) → IsViablePrefix A Always [] → IsViablePrefix (Behind A) Always []
behind_alive A (w, x, h, _) = (32 ∷ w, x, record { front = 32 ∷ []; back = w; value = tt; split = refl; first = refl; next = h }, tt)

module _ (seat : ℕ) where
  abbrev Inputs : Language ℕ LineTerm
  Inputs = Bind PathLetters (λ path. Behind (Acting seat path))

  input_in : (a : Text) (l : LineTerm) → Inputs a l → EndInput seat a l
  input_in a l h = let b = h.next in record {
    path = h.value;
    bytes = b.back;
    act = b.next.a;
    is = b.next.is;
    are = h.split ∙ ap (λ k. k ++ h.back) h.first
        ∙ ap (λ k. path_text h.value ++ k) (behind_text (Acting seat h.value) h.back l b);
    stands_for = b.next.same;
  }

  input_out : (a : Text) (l : LineTerm) → EndInput seat a l → Inputs a l
  input_out a l h = record {
    front = path_text h.path;
    back = 32 ∷ h.bytes;
    value = h.path;
    split = h.are;
    first = refl;
    next = record {
      front = 32 ∷ [];
      back = h.bytes;
      value = tt;
      split = refl;
      first = refl;
      next = record { a = h.act; is = h.is; same = h.stands_for };
    };
  }

  no_letter : (path : List Turn) (b : Text) (l : LineTerm) (z : Text) → Behind (Acting seat path) b l → AtEnd z → NoLetter (b ++ z)
  no_letter path b l z h hz = subst (λ k. NoLetter (k ++ z)) (sym (behind_text (Acting seat path) b l h)) (record {
    first = λ y e. let q : 32 ≡ 70 = ap (λ k. get_or k 0 0) e in omega (arith, q);
    second = λ y e. let q : 32 ≡ 83 = ap (λ k. get_or k 0 0) e in omega (arith, q);
  })

  pub input_path_stop : {ts : Text} {e : ParseStop} → Right PathLetters Always NoLetter ts (Err e)
      → Right (EndInput seat) Always AtEnd ts (Err e)
  input_path_stop stop = same_language Inputs (EndInput seat) input_in input_out
      (then_stop no_letter (λ a path h. behind_alive (Acting seat path) (acting_alive seat path)) stop)

  after_path : {ts rest : Text} {path : List Turn} {r : Answer ℕ LineTerm} → Right PathLetters Always NoLetter ts (Ok (path, rest))
      → Right (Behind (Acting seat path)) Always AtEnd rest r → Right (EndInput seat) Always AtEnd ts r
  after_path {path = path} found answer = same_language Inputs (EndInput seat) input_in input_out
      (then_right no_letter (behind_alive (Acting seat path) (acting_alive seat path)) found answer)

  pub input_space_stop : {ts rest : Text} {path : List Turn} {e : ParseStop} → Right PathLetters Always NoLetter ts (Ok (path, rest))
      → Right (Tok 32) Always Anything rest (Err e) → Right (EndInput seat) Always AtEnd ts (Err e)
  input_space_stop {path = path} found stop = after_path found (then_stop (λ _ _ _ _ _ _. tt) (λ _ _ _. acting_alive seat path) stop)

  pub input_act_stop : {ts rest after : Text} {path : List Turn} {e : ParseStop} → Right PathLetters Always NoLetter ts (Ok (path, rest))
      → Right (Tok 32) Always Anything rest (Ok (tt, after)) → Right EndAct Always AtEnd after (Err e)
      → Right (EndInput seat) Always AtEnd ts (Err e)
  input_act_stop {path = path} found space stop = after_path found (then_right (λ _ _ _ _ _ _. tt) (acting_alive seat path) space
      (image_stop EndAct (Acting seat path) (entry_of seat path) AtEnd (acting_into seat path) (λ a y z h _ _. acting_out seat path a y h)
      stop))

  pub input_right : {ts rest after : Text} {path : List Turn} {a : ActTerm} → Right PathLetters Always NoLetter ts (Ok (path, rest))
      → Right (Tok 32) Always Anything rest (Ok (tt, after)) → Right EndAct Always AtEnd after (Ok (a, []))
      → Right (EndInput seat) Always AtEnd ts (Ok (entry_of seat path a, []))
  input_right {path = path} found space answer = after_path found (then_right (λ _ _ _ _ _ _. tt) (acting_alive seat path) space
      (image_right EndAct (Acting seat path) (entry_of seat path) AtEnd (acting_into seat path) (λ a y z h _ _. acting_out seat path a y h)
      answer))

  -- ---- what stands behind a seat
  shown_into : (a : Text) (x : Unit {0}) → EndWord (codes "show") a x → EndCommand seat a (shows seat)
  shown_into a x h = shown h refl

  shown_out : (s a : Text) (l : LineTerm) (z : Text) → EndCommand seat a l → SharesPrefix [] (115 ∷ s) (a ++ z)
      → (x : Unit {0}) × EndWord (codes "show") a x × (l ≡ shows seat)
  shown_out s a l z (shown h e) b = (tt, h, e)
  shown_out s a l z (given h) (w, b) = absurd (let whole : (path_text h.path ++ (32 ∷ h.bytes)) ++ z ≡ 115 ∷ w =
      ap (λ k. k ++ z) (sym h.are) ∙ b in let q : 46 ≡ 115 = ap (λ k. get_or k 0 0) whole in omega (arith, q))

  pub shown_right : {ts : Text} → (s : Text) × (ts ≡ 115 ∷ s) → Right (EndWord (codes "show")) Always AtEnd ts (Ok (tt, []))
      → Right (EndCommand seat) Always AtEnd ts (Ok (shows seat, []))
  shown_right (s, e) answer = at_tokens e
      (image_right (EndWord (codes "show")) (EndCommand seat) (λ _. shows seat) AtEnd shown_into (λ a l z h _ b. shown_out s a l z h b)
      (at_tokens (sym e) answer))

  pub shown_stop : {ts : Text} {e : ParseStop} → (s : Text) × (ts ≡ 115 ∷ s) → Right (EndWord (codes "show")) Always AtEnd ts (Err e)
      → Right (EndCommand seat) Always AtEnd ts (Err e)
  shown_stop (s, e) stop = at_tokens e
      (image_stop (EndWord (codes "show")) (EndCommand seat) (λ _. shows seat) AtEnd shown_into (λ a l z h _ b. shown_out s a l z h b)
      (at_tokens (sym e) stop))

  given_out : (ts : Text) → NoToken 115 ts → (a : Text) (l : LineTerm) (z : Text) → EndCommand seat a l → SharesPrefix [] ts (a ++ z)
      → EndInput seat a l
  given_out ts none a l z (shown h e) b = absurd (begins_token 115 ts ((codes "how" ++ return_text h.returned) ++ z) none
      (subst (λ k. SharesPrefix [] ts (k ++ z)) h.are b))
  given_out ts none a l z (given h) b = h

  pub given_right : {ts : Text} {r : Answer ℕ LineTerm} → NoToken 115 ts → Right (EndInput seat) Always AtEnd ts r
      → Right (EndCommand seat) Always AtEnd ts r
  given_right {ts = ts} none answer = by_production (EndInput seat) (EndCommand seat) (λ a l h. given h)
      (λ a l z h _ b. given_out ts none a l z h b) answer

  command_alive : IsViablePrefix (EndCommand seat) Always []
  command_alive = (codes "show", shows seat, shown (record { returned = false; are = refl }) refl, tt)

-- ---- a seat and its command
abbrev Seated : Language ℕ LineTerm
Seated = Bind SeatNumber (λ seat. Behind (EndCommand seat))

seated_in : (a : Text) (l : LineTerm) → Seated a l → SeatedLine a l
seated_in a l h = let b = h.next in record {
  seat = h.value;
  is = h.first.is;
  bytes = b.back;
  command = b.next;
  are = h.split ∙ ap (λ k. k ++ h.back) h.first.are
      ∙ ap (λ k. decimal h.value ++ k) (behind_text (EndCommand h.value) h.back l b);
}

seated_out : (a : Text) (l : LineTerm) → SeatedLine a l → Seated a l
seated_out a l h = record {
  front = decimal h.seat;
  back = 32 ∷ h.bytes;
  value = h.seat;
  split = h.are;
  first = record { is = h.is; are = refl };
  next = record { front = 32 ∷ []; back = h.bytes; value = tt; split = refl; first = refl; next = h.command };
}

no_digit : (seat : ℕ) (b : Text) (l : LineTerm) (z : Text) → Behind (EndCommand seat) b l → AtEnd z → NoDigit (b ++ z)
no_digit seat b l z h hz = subst (λ k. NoDigit (k ++ z)) (sym (behind_text (EndCommand seat) b l h)) (λ is. omega (arith, is.0))

pub seated_seat_stop : {ts : Text} {e : ParseStop} → Right SeatNumber Always NoDigit ts (Err e) → Right SeatedLine Always AtEnd ts (Err e)
seated_seat_stop stop = same_language Seated SeatedLine seated_in seated_out
    (then_stop no_digit (λ a seat h. behind_alive (EndCommand seat) (command_alive seat)) stop)

after_seat : {ts rest : Text} {seat : ℕ} {r : Answer ℕ LineTerm} → Right SeatNumber Always NoDigit ts (Ok (seat, rest))
    → Right (Behind (EndCommand seat)) Always AtEnd rest r → Right SeatedLine Always AtEnd ts r
after_seat {seat = seat} found answer = same_language Seated SeatedLine seated_in seated_out
    (then_right no_digit (behind_alive (EndCommand seat) (command_alive seat)) found answer)

pub seated_space_stop : {ts rest : Text} {seat : ℕ} {e : ParseStop} → Right SeatNumber Always NoDigit ts (Ok (seat, rest))
    → Right (Tok 32) Always Anything rest (Err e) → Right SeatedLine Always AtEnd ts (Err e)
seated_space_stop {seat = seat} found stop = after_seat found (then_stop (λ _ _ _ _ _ _. tt) (λ _ _ _. command_alive seat) stop)

pub seated_right : {ts rest after : Text} {seat : ℕ} {r : Answer ℕ LineTerm} → Right SeatNumber Always NoDigit ts (Ok (seat, rest))
    → Right (Tok 32) Always Anything rest (Ok (tt, after)) → Right (EndCommand seat) Always AtEnd after r
    → Right SeatedLine Always AtEnd ts r
seated_right {seat = seat} found space answer =
    after_seat found (then_right (λ _ _ _ _ _ _. tt) (command_alive seat) space answer)

-- ---- whole lines, by their first byte
seated_line : (a : Text) (l : LineTerm) (seat : ℕ) → IsSeat seat → (bytes : Text) → EndCommand seat bytes l
    → a ≡ decimal seat ++ (32 ∷ bytes)
    → IsScriptLine a l
seated_line a l seat is bytes (shown h e) are = record {
  parse = show seat is;
  returned = h.returned;
  are = are ∙ ap (λ k. decimal seat ++ (32 ∷ k)) h.are
      ∙ sym (append_assoc (decimal seat) (codes " show") (return_text h.returned));
  stands_for = e;
}
seated_line a l seat is bytes (given h) are = let i = h.is in record {
  parse = act seat is h.path i.parse;
  returned = i.returned;
  are = are ∙ ap (λ k. decimal seat ++ (32 ∷ k)) (h.are ∙ ap (λ k. path_text h.path ++ (32 ∷ k)) i.are)
      ∙ ap (λ k. decimal seat ++ (32 ∷ k)) (sym (append_assoc (path_text h.path) (32 ∷ act_bytes i.parse) (return_text i.returned)))
      ∙ sym (append_assoc (decimal seat) (32 ∷ (path_text h.path ++ (32 ∷ act_bytes i.parse))) (return_text i.returned));
  stands_for = h.stands_for ∙ ap (entry_of seat h.path) i.stands_for;
}

-- the text of a parse with a seat begins with its first digit
seat_first : (seat : ℕ) → IsSeat seat → (a rest z : Text) (c : ℕ) (w : Text) → a ≡ decimal seat ++ rest → a ++ z ≡ c ∷ w
    → IsDigit c × (49 ≤ c)
seat_first seat is a rest z c w are b =
    let (digit, s, e, d, low) = first_digit seat is in
    let whole : ((digit ∷ s) ++ rest) ++ z ≡ c ∷ w = ap (λ k. (k ++ rest) ++ z) (sym e) ∙ ap (λ k. k ++ z) (sym are) ∙ b in
    let same : digit ≡ c = cc in
    (subst IsDigit same d, subst (λ q. 49 ≤ q) same low)

show_text : (seat : ℕ) (a : Text) (r : Bool) → a ≡ (decimal seat ++ codes " show") ++ return_text r
    → a ≡ decimal seat ++ (32 ∷ (codes "show" ++ return_text r))
show_text seat a r are = are ∙ append_assoc (decimal seat) (codes " show") (return_text r)

act_text_of : (seat : ℕ) (path : List Turn) (bytes a : Text) (r : Bool)
    → a ≡ (decimal seat ++ (32 ∷ (path_text path ++ (32 ∷ bytes)))) ++ return_text r
    → a ≡ decimal seat ++ (32 ∷ (path_text path ++ (32 ∷ (bytes ++ return_text r))))
act_text_of seat path bytes a r are = are ∙ append_assoc (decimal seat) (32 ∷ (path_text path ++ (32 ∷ bytes))) (return_text r)
    ∙ ap (λ k. decimal seat ++ (32 ∷ k)) (append_assoc (path_text path) (32 ∷ bytes) (return_text r))

-- a line that begins with a digit has a seat
digit_line : (p : LineParse) (r : Bool) (byte : ℕ) (s a : Text) (l : LineTerm) (z : Text) → IsDigit byte
    → a ≡ parse_bytes p ++ return_text r
    → l ≡ parsed_line p → z ≡ [] → SharesPrefix [] (byte ∷ s) (a ++ z) → SeatedLine a l
digit_line empty true byte s a l z d are is hz (w, b) = absurd (let whole : (13 ∷ []) ++ z ≡ byte ∷ w = ap (λ k. k ++ z) (sym are) ∙ b in
    let q : 13 ≡ byte = cc in let low = d.0 in omega (arith, q, low))
digit_line empty false byte s a l z d are is hz (w, b) = absurd (let whole : [] ++ [] ≡ byte ∷ w =
    ap (λ k. k ++ []) (sym are) ∙ ap (λ k. a ++ k) (sym hz) ∙ b in cc)
digit_line (comment bytes) r byte s a l z d are is hz (w, b) = absurd (let whole : ((35 ∷ bytes) ++ return_text r) ++ z ≡ byte ∷ w =
    ap (λ k. k ++ z) (sym are) ∙ b in let q : 35 ≡ byte = ap (λ k. get_or k 0 0) whole in let low = d.0 in omega (arith, q, low))
digit_line (show seat at) r byte s a l z d are is hz b = record {
  seat = seat;
  is = at;
  bytes = codes "show" ++ return_text r;
  command = shown (record { returned = r; are = refl }) is;
  are = show_text seat a r are;
}
digit_line (act seat at path p) r byte s a l z d are is hz b = record {
  seat = seat;
  is = at;
  bytes = path_text path ++ (32 ∷ (act_bytes p ++ return_text r));
  command = given (record {
    path = path;
    bytes = act_bytes p ++ return_text r;
    act = parsed_act p;
    is = record { parse = p; returned = r; are = refl; stands_for = refl };
    are = refl;
    stands_for = is;
  });
  are = act_text_of seat path (act_bytes p) a r are;
}

pub line_seated : {ts : Text} {r : Answer ℕ LineTerm} (byte : ℕ) (s : Text) → IsDigit byte → ts ≡ byte ∷ s
    → Right SeatedLine Always AtEnd ts r
    → Right IsScriptLine Always AtEnd ts r
line_seated byte s d e answer = at_tokens e (by_production SeatedLine IsScriptLine
    (λ a l h. seated_line a l h.seat h.is h.bytes h.command h.are)
    (λ a l z h hz b. digit_line h.parse h.returned byte s a l z d h.are h.stands_for hz b) (at_tokens (sym e) answer))

-- a line that begins with a number sign asks for nothing
comment_line : (p : LineParse) (r : Bool) (s a : Text) (l : LineTerm) → a ≡ parse_bytes p ++ return_text r → l ≡ parsed_line p
    → a ≡ 35 ∷ s → l ≡ nothing
comment_line empty r s a l are is e = is
comment_line (comment bytes) r s a l are is e = is
comment_line (show seat at) r s a l are is e = absurd (
    let (d, low) = seat_first seat at a (32 ∷ (codes "show" ++ return_text r)) [] 35 s (show_text seat a r are) (append_nil a ∙ e) in
    omega (arith, low))
comment_line (act seat at path p) r s a l are is e = absurd (
    let (d, low) = seat_first seat at a (32 ∷ (path_text path ++ (32 ∷ (act_bytes p ++ return_text r)))) [] 35 s
    (act_text_of seat path (act_bytes p) a r are) (append_nil a ∙ e) in
    omega (arith, low))

pub line_comment : {ts : Text} → (s : Text) × (ts ≡ 35 ∷ s) → Right IsScriptLine Always AtEnd ts (Ok (nothing, []))
line_comment (s, e) = at_tokens e (record {
  by = record {
    front = 35 ∷ s;
    split = sym (append_nil (35 ∷ s));
    found = record { parse = comment s; returned = false; are = sym (append_nil (35 ∷ s)); stands_for = refl };
    fits = tt;
    only = λ a l z h hz b.
        let same : a ≡ 35 ∷ s = sym (append_nil a) ∙ ap (λ k. a ++ k) (sym hz) ∙ b in
        (same, comment_line h.parse h.returned s a l h.are h.stands_for same);
  };
})

-- all other lines have nothing but a CR
blank_in : (a : Text) (x : Unit {0}) → LineEnd a x → IsScriptLine a nothing
blank_in a x h = record { parse = empty; returned = h.returned; are = h.are; stands_for = refl }

no_digit_on : (ts s : Text) (c : ℕ) (w : Text) → NoDigit ts → s ≡ c ∷ w → IsDigit c → SharesPrefix [] ts s → ⊥
no_digit_on [] s c w none e d b = let q : c ∷ w ≡ [] = sym e ∙ b in cc
no_digit_on (t ∷ ts) s c w none e d (y, b) = let q : c ∷ w ≡ t ∷ y = sym e ∙ b in
    let same : c ≡ t = cc in none (subst IsDigit same d)

seat_never : (ts : Text) → NoDigit ts → (seat : ℕ) → IsSeat seat → (a rest z : Text) → a ≡ decimal seat ++ rest
    → SharesPrefix [] ts (a ++ z) → ⊥
seat_never ts none seat is a rest z are b =
    let (digit, s, e, d, low) = first_digit seat is in
    no_digit_on ts (a ++ z) digit ((s ++ rest) ++ z) none (ap (λ k. k ++ z) are ∙ ap (λ k. (k ++ rest) ++ z) e) d b

blank_out : (ts : Text) → NoToken 35 ts → NoDigit ts → (p : LineParse) (r : Bool) (a : Text) (l : LineTerm) (z : Text)
    → a ≡ parse_bytes p ++ return_text r → l ≡ parsed_line p → SharesPrefix [] ts (a ++ z) → (x : Unit {0}) × LineEnd a x × (l ≡ nothing)
blank_out ts no_sign none empty r a l z are is b = (tt, record { returned = r; are = are }, is)
blank_out ts no_sign none (comment bytes) r a l z are is b = absurd (begins_token 35 ts ((bytes ++ return_text r) ++ z) no_sign
    (subst (λ k. SharesPrefix [] ts (k ++ z)) are b))
blank_out ts no_sign none (show seat at) r a l z are is b =
    absurd (seat_never ts none seat at a (32 ∷ (codes "show" ++ return_text r)) z (show_text seat a r are) b)
blank_out ts no_sign none (act seat at path p) r a l z are is b =
    absurd (seat_never ts none seat at a (32 ∷ (path_text path ++ (32 ∷ (act_bytes p ++ return_text r)))) z
    (act_text_of seat path (act_bytes p) a r are) b)

pub line_blank : {ts : Text} → NoToken 35 ts → NoDigit ts → Right LineEnd Always AtEnd ts (Ok (tt, []))
    → Right IsScriptLine Always AtEnd ts (Ok (nothing, []))
line_blank {ts = ts} no_sign none answer = image_right LineEnd IsScriptLine (λ _. nothing) AtEnd blank_in
    (λ a l z h hz b. blank_out ts no_sign none h.parse h.returned a l z h.are h.stands_for b) answer

pub line_blank_stop : {ts : Text} {e : ParseStop} → NoToken 35 ts → NoDigit ts → Right LineEnd Always AtEnd ts (Err e)
    → Right IsScriptLine Always AtEnd ts (Err e)
line_blank_stop {ts = ts} no_sign none stop = image_stop LineEnd IsScriptLine (λ _. nothing) AtEnd blank_in
    (λ a l z h hz b. blank_out ts no_sign none h.parse h.returned a l z h.are h.stands_for b) stop
