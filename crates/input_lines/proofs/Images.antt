-- A language, with what its words stand for put otherwise.
use Rattle.std.proofs.Common.{◌≡◌, List, [], ◌++◌, Ok, Err, refl, sym, ap, ◌∙◌, subst}
use Rattle.exact_reading.specs.declared.stop.ParseStop.{ParseStop}
use Rattle.exact_reading.specs.Reading.{Language, SharesPrefix, IsViablePrefix, Always, Right}
use Rattle.exact_reading.proofs.Sequences.{Bind, Done, append_nil}
use Rattle.exact_reading.proofs.Productions.{then_right, then_stop, done_right, by_production}

module _ {T X Y : Type 0} (A : Language T X) (C : Language T Y) (f : X → Y) (E : List T → Type 0) where
  -- C has the words of A where the tokens begin as these do, each with the value that f makes
  abbrev pub Into : Type 0
  Into = (a : List T) (x : X) → A a x → C a (f x)

  abbrev pub OutOf : List T → Type 0
  OutOf ts = (a : List T) (y : Y) (z : List T) → C a y → E z → SharesPrefix [] ts (a ++ z) → (x : X) × A a x × (y ≡ f x)

  into_bind : Into → (a : List T) (y : Y) → Bind A (λ x. Done (f x)) a y → C a y
  into_bind into a y h =
      let e : a ≡ h.front = h.split ∙ ap (λ l. h.front ++ l) h.next.none ∙ append_nil h.front in
      subst (λ v. C a v) (sym h.next.same) (subst (λ l. C l (f h.value)) (sym e) (into h.front h.value h.first))

  out_bind : (ts : List T) → OutOf ts → (a : List T) (y : Y) (z : List T) → C a y → E z → SharesPrefix [] ts (a ++ z)
      → Bind A (λ x. Done (f x)) a y
  out_bind ts out a y z h hz b = let (x, g, same) = out a y z h hz b in
      record {
        front = a;
        back = [];
        value = x;
        split = sym (append_nil a);
        first = g;
        next = record { none = refl; same = same };
      }

  follow : (x : X) (b : List T) (y : Y) (z : List T) → Done (f x) b y → E z → E (b ++ z)
  follow x b y z h hz = subst (λ l. E (l ++ z)) (sym h.none) hz

  fill : (x : X) → IsViablePrefix (Done {T = T} (f x)) Always []
  fill x = ([], f x, record { none = refl; same = refl }, tt)

  pub image_right : {ts rest : List T} {x : X} → Into → OutOf ts → Right A Always E ts (Ok (x, rest)) → Right C Always E ts (Ok (f x, rest))
  image_right {ts = ts} {x = x} into out right = by_production (Bind A (λ x. Done (f x))) C (into_bind into) (out_bind ts out)
      (then_right follow (fill x) right (done_right tt))

  pub image_stop : {ts : List T} {e : ParseStop} → Into → OutOf ts → Right A Always E ts (Err e) → Right C Always E ts (Err e)
  image_stop {ts = ts} into out right = by_production (Bind A (λ x. Done (f x))) C (into_bind into) (out_bind ts out)
      (then_stop follow (λ a x h. fill x) right)
