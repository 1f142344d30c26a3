-- Each change leaves the list at every mark.
use Rattle.std.proofs.Common.{◌≡◌, ◌≤◌, ◌<◌, ℕ, zero, suc, List, [], ◌∷◌, ◌++◌, length, take, drop, map, reverse, Option, Some, None, refl, sym, ap, ◌∙◌, subst, arith, get_or, append-nil}
use Rattle.std.specs.Prelude.{slice_set, slice_get, option_to_list, ◌-◌, ◌↔◌, IsSome, Result, Ok, Err, OnOk, OnErr}
use Rattle.std.proofs.lemmas.List.{take-set-le, drop-append-le, take-append-drop, length-set, length_push, map-append, reverse-append, length-reverse, length-map}
use Rattle.shared_store.specs.declared.store.Overwritten.{Overwritten}
use Rattle.shared_store.specs.declared.store.Mark.{Mark}
use Rattle.shared_store.specs.Layered.{Layered}
use Rattle.shared_store.specs.Log.{rewound, earlier, IsStack}

-- ---- marks
stack_head : (m : Mark) (ms : List Mark) (c l : ℕ) → IsStack (m ∷ ms) c l → (m.count ≤ c) × (m.log ≤ l)
stack_head m [] c l h = h
stack_head m (n ∷ ms) c l h = let q = stack_head n ms c l h.2 in let a = h.0 in let b = h.1 in let a' = q.0 in let b' = q.1
    in (omega arith, omega arith)

stack_tail : (m : Mark) (ms : List Mark) (c l : ℕ) → IsStack (m ∷ ms) c l → IsStack ms c l
stack_tail m [] c l h = tt
stack_tail m (n ∷ ms) c l h = h.2

pub stack_more : (ms : List Mark) (c l c' l' : ℕ) → IsStack ms c l → c ≤ c' → l ≤ l' → IsStack ms c' l'
stack_more [] c l c' l' h a b = tt
stack_more (m ∷ []) c l c' l' h a b = let p = h.0 in let q = h.1 in (omega arith, omega arith)
stack_more (m ∷ n ∷ ms) c l c' l' h a b = (h.0, h.1, stack_more (n ∷ ms) c l c' l' h.2 a b)

pub stack_push : (ms : List Mark) (m : Mark) (c l : ℕ) → IsStack ms m.count m.log → m.count ≤ c → m.log ≤ l → IsStack (ms ++ m ∷ []) c l
stack_push [] m c l h a b = (a, b)
stack_push (n ∷ []) m c l h a b = (h.0, h.1, (a, b))
stack_push (n ∷ k ∷ ms) m c l h a b = (h.0, h.1, stack_push (k ∷ ms) m c l h.2 a b)

pub stack_pop : (ms : List Mark) (m : Mark) (c l : ℕ) → IsStack (ms ++ m ∷ []) c l → IsStack ms m.count m.log × (m.count ≤ c) × (m.log ≤ l)
stack_pop [] m c l h = (tt, h.0, h.1)
stack_pop (n ∷ []) m c l h = ((h.0, h.1), h.2.0, h.2.1)
stack_pop (n ∷ k ∷ ms) m c l h = let q = stack_pop (k ∷ ms) m c l h.2 in ((h.0, h.1, q.0), q.1, q.2)

-- the last mark's count is above no other one's
stack_last : (ms : List Mark) (m : Mark) (k c l : ℕ) → length ms ≡ suc k → slice_get ms k ≡ Some m → IsStack ms c l → IsStack ms m.count l
stack_last [] m k c l e q h = tt
stack_last (n ∷ []) m zero c l e q h = let same : n ≡ m = cc in let same_count = ap (λ (z : Mark). z.count) same in let b = h.1
    in (omega arith, b)
stack_last (n ∷ []) m (suc k) c l e q h = absurd (cc)
stack_last (n ∷ j ∷ ms) m zero c l e q h = absurd (omega arith)
stack_last (n ∷ j ∷ ms) m (suc k) c l e q h = (h.0, h.1, stack_last (j ∷ ms) m k c l (omega arith) q h.2)

pub stack_at : (ms : List Mark) (m : Mark) (c l : ℕ) → Some m ≡ slice_get ms (length ms - 1) → IsStack ms c l → IsStack ms m.count l
stack_at [] m c l q h = tt
stack_at (n ∷ ms) m c l q h =
    let k : suc (length ms) - 1 ≡ length ms = omega arith in
    stack_last (n ∷ ms) m (length ms) c l refl (ap (slice_get (n ∷ ms)) (sym k) ∙ sym q) h

-- the last mark, and those before it
last_split : (ms : List Mark) (k : ℕ) (m : Mark) → length ms ≡ suc k → slice_get ms k ≡ Some m → (front : List Mark)
    × (ms ≡ front ++ m ∷ [])
last_split [] k m e q = absurd (cc)
last_split (n ∷ []) zero m e q = let same : n ≡ m = cc in ([], ap (λ z. z ∷ []) same)
last_split (n ∷ []) (suc k) m e q = absurd (cc)
last_split (n ∷ j ∷ ms) zero m e q = absurd (omega arith)
last_split (n ∷ j ∷ ms) (suc k) m e q = let rest = last_split (j ∷ ms) k m (omega arith) q in (n ∷ rest.0, ap (λ l. n ∷ l) rest.1)

pub last_of : (ms : List Mark) (m : Mark) → 0 < length ms → slice_get ms (length ms - 1) ≡ Some m → (front : List Mark)
    × (ms ≡ front ++ m ∷ [])
last_of [] m some q = absurd (omega arith)
last_of (n ∷ ms) m some q =
    let k : suc (length ms) - 1 ≡ length ms = omega arith in
    last_split (n ∷ ms) (length ms) m refl (ap (slice_get (n ∷ ms)) (sym k) ∙ q)

pub last_within : (ms : List Mark) (m : Mark) (c l : ℕ) → 0 < length ms → slice_get ms (length ms - 1) ≡ Some m → IsStack ms c l
    → (m.count ≤ c) × (m.log ≤ l)
last_within ms m c l some q h =
    let split = last_of ms m some q in
    let parts = stack_pop split.0 m c l (subst (λ z. IsStack z c l) split.1 h) in (parts.1, parts.2)

-- what `pop` leaves
pub stack_rest : (ms : List Mark) (o : Option Mark) (c l : ℕ) → IsStack (ms ++ option_to_list o) c l → IsStack ms c l
stack_rest ms None c l h = subst (λ z. IsStack z c l) (append-nil ms) h
stack_rest ms (Some m) c l h = let q = stack_pop ms m c l h in stack_more ms m.count m.log c l q.0 q.1 q.2

pub marks_same : {A : Type 0} (f g : Mark → List A) (ms : List Mark) (c l : ℕ) → IsStack ms c l
    → ((m : Mark) → m.count ≤ c → m.log ≤ l → f m ≡ g m) → map f ms ≡ map g ms
marks_same f g [] c l h e = refl
marks_same f g (m ∷ ms) c l h e =
    let q = stack_head m ms c l h in
    let first = e m q.0 q.1 in
    let rest = marks_same f g ms c l (stack_tail m ms c l h) e in
    cc

-- ---- the log
set_take : {A : Type 0} (c : ℕ) (xs : List A) (i : ℕ) (v : A) → take c (slice_set xs i v) ≡ slice_set (take c xs) i v
set_take zero xs i v = refl
set_take (suc c) [] i v = refl
set_take (suc c) (x ∷ xs) zero v = refl
set_take (suc c) (x ∷ xs) (suc i) v = ap (λ z. x ∷ z) (set_take c xs i v)

pub take_rewound : {A : Type 0} (c : ℕ) (ws : List (Overwritten A)) (xs : List A) → take c (rewound ws xs) ≡ rewound ws (take c xs)
take_rewound c [] xs = refl
take_rewound c (w ∷ ws) xs = set_take c (rewound ws xs) w.place w.value ∙ ap (λ z. slice_set z w.place w.value) (take_rewound c ws xs)

-- undone to the same, where the lists are the same below
rewound_below : {A : Type 0} (c : ℕ) (ws : List (Overwritten A)) (xs ys : List A) → take c xs ≡ take c ys → take c (rewound ws xs)
    ≡ take c (rewound ws ys)
rewound_below c ws xs ys e = take_rewound c ws xs ∙ ap (rewound ws) e ∙ sym (take_rewound c ws ys)

pub rewound_append : {A : Type 0} (us ws : List (Overwritten A)) (xs : List A) → rewound (us ++ ws) xs ≡ rewound us (rewound ws xs)
rewound_append [] ws xs = refl
rewound_append (u ∷ us) ws xs = ap (λ z. slice_set z u.place u.value) (rewound_append us ws xs)

pub take_append : {A : Type 0} (c : ℕ) (xs ys : List A) → c ≤ length xs → take c (xs ++ ys) ≡ take c xs
take_append zero xs ys h = refl
take_append (suc c) [] ys h = absurd (omega arith)
take_append (suc c) (x ∷ xs) ys h = ap (λ z. x ∷ z) (take_append c xs ys (omega arith))

take_whole : {A : Type 0} (xs : List A) → take (length xs) xs ≡ xs
take_whole [] = refl
take_whole (x ∷ xs) = ap (λ z. x ∷ z) (take_whole xs)

drop_whole : {A : Type 0} (xs : List A) → drop (length xs) xs ≡ []
drop_whole [] = refl
drop_whole (x ∷ xs) = drop_whole xs

take_take : {A : Type 0} (c d : ℕ) (xs : List A) → c ≤ d → take c (take d xs) ≡ take c xs
take_take zero d xs h = refl
take_take (suc c) zero xs h = absurd (omega arith)
take_take (suc c) (suc d) [] h = refl
take_take (suc c) (suc d) (x ∷ xs) h = ap (λ z. x ∷ z) (take_take c d xs (omega arith))

drop_take : {A : Type 0} (c d : ℕ) (xs : List A) → c ≤ d → drop c (take d xs) ++ drop d xs ≡ drop c xs
drop_take zero d xs h = take-append-drop d xs
drop_take (suc c) zero xs h = absurd (omega arith)
drop_take (suc c) (suc d) [] h = refl
drop_take (suc c) (suc d) (x ∷ xs) h = drop_take c d xs (omega arith)

set_back : {A : Type 0} (xs : List A) (i : ℕ) (v w : A) → slice_set (slice_set xs i v) i (get_or xs i w) ≡ xs
set_back [] i v w = refl
set_back (x ∷ xs) zero v w = refl
set_back (x ∷ xs) (suc i) v w = ap (λ z. x ∷ z) (set_back xs i v w)

-- ---- the list at a mark
module _ {A : Type 0} (xs : List A) (log : List (Overwritten A)) (m : Mark) where
  -- after a change above it
  pub earlier_above : (ys : List A) → take m.count ys ≡ take m.count xs → earlier ys log m ≡ earlier xs log m
  earlier_above ys e = rewound_below m.count (drop m.log log) ys xs e

  pub earlier_grown : (v : A) → m.count ≤ length xs → earlier (xs ++ v ∷ []) log m ≡ earlier xs log m
  earlier_grown v h = earlier_above (xs ++ v ∷ []) (take_append m.count xs (v ∷ []) h)

  pub earlier_set : (i : ℕ) (v : A) → m.count ≤ i → earlier (slice_set xs i v) log m ≡ earlier xs log m
  earlier_set i v h = earlier_above (slice_set xs i v) (take-set-le m.count xs i v h)

  -- after a change that was logged
  pub earlier_logged : (w : Overwritten A) (v : A) → m.log ≤ length log → slice_set (slice_set xs w.place v) w.place w.value ≡ xs
      → earlier (slice_set xs w.place v) (log ++ w ∷ []) m ≡ earlier xs log m
  earlier_logged w v h e =
      ap (λ z. take m.count (rewound z (slice_set xs w.place v))) (drop-append-le m.log log (w ∷ []) h)
      ∙ ap (take m.count) (rewound_append (drop m.log log) (w ∷ []) (slice_set xs w.place v))
      ∙ ap (λ z. take m.count (rewound (drop m.log log) z)) e

  -- after a later layer was dropped
  pub earlier_dropped : (c l : ℕ) → m.count ≤ c → m.log ≤ l → earlier (take c (rewound (drop l log) xs)) (take l log) m ≡ earlier xs log m
  earlier_dropped c l h q =
      rewound_below m.count (drop m.log (take l log)) (take c (rewound (drop l log) xs)) (rewound (drop l log) xs)
      (take_take m.count c (rewound (drop l log) xs) h)
      ∙ ap (take m.count) (sym (rewound_append (drop m.log (take l log)) (drop l log) xs))
      ∙ ap (λ z. take m.count (rewound z xs)) (drop_take m.log l log q)

-- at a new mark
pub earlier_now : {A : Type 0} (xs : List A) (log : List (Overwritten A)) (m : Mark) → m.count ≡ length xs → m.log ≡ length log
    → earlier xs log m ≡ xs
earlier_now xs log m c l =
    ap (λ z. take z (rewound (drop m.log log) xs)) c
    ∙ ap (λ z. take (length xs) (rewound (drop z log) xs)) l
    ∙ ap (λ z. take (length xs) (rewound z xs)) (drop_whole log)
    ∙ take_whole xs

pub take_length : {A : Type 0} (c : ℕ) (xs : List A) → c ≤ length xs → length (take c xs) ≡ c
take_length zero xs h = refl
take_length (suc c) [] h = absurd (omega arith)
take_length (suc c) (x ∷ xs) h = ap suc (take_length c xs (omega arith))

pub rewound_length : {A : Type 0} (ws : List (Overwritten A)) (xs : List A) → length (rewound ws xs) ≡ length xs
rewound_length [] xs = refl
rewound_length (w ∷ ws) xs = length-set (rewound ws xs) w.place w.value ∙ rewound_length ws xs

-- ---- the layers, the newest first
abbrev pub layers_of : {A : Type 0} → List A → List (Overwritten A) → List Mark → List (List A)
layers_of xs log ms = reverse (map (earlier xs log) ms)

pub layers_push : {A : Type 0} (xs : List A) (log : List (Overwritten A)) (ms : List Mark) (m : Mark) → layers_of xs log (ms ++ m ∷ [])
    ≡ earlier xs log m ∷ layers_of xs log ms
layers_push xs log ms m = ap reverse (map-append (earlier xs log) ms (m ∷ []))
    ∙ reverse-append (map (earlier xs log) ms) (earlier xs log m ∷ [])

pub layers_dropped : {A : Type 0} (xs : List A) (log : List (Overwritten A)) (ms : List Mark) (m : Mark) (c l : ℕ)
    → IsStack (ms ++ m ∷ []) c l → layers_of xs log (ms ++ m ∷ []) ≡ earlier xs log m ∷ layers_of (earlier xs log m) (take m.log log) ms
layers_dropped xs log ms m c l h =
    layers_push xs log ms m
    ∙ ap (λ z. earlier xs log m ∷ reverse z) (sym (marks_same (earlier (earlier xs log m) (take m.log log)) (earlier xs log) ms m.count
    m.log (stack_pop ms m c l h).0 (λ k a b. earlier_dropped xs log k m.count m.log a b)))

pub stack_dropped : {A : Type 0} (xs : List A) (log : List (Overwritten A)) (ms : List Mark) (m : Mark)
    → IsStack (ms ++ m ∷ []) (length xs) (length log) → IsStack ms (length (earlier xs log m)) (length (take m.log log))
stack_dropped xs log ms m h =
    let q = stack_pop ms m (length xs) (length log) h in
    let len : length (rewound (drop m.log log) xs) ≡ length xs = rewound_length (drop m.log log) xs in
    let fits = q.1 in
    let above : m.count ≤ length (rewound (drop m.log log) xs) = omega arith in
    let c : length (earlier xs log m) ≡ m.count = take_length m.count (rewound (drop m.log log) xs) above in
    let l : length (take m.log log) ≡ m.log = take_length m.log log q.2 in
    stack_more ms m.count m.log (length (earlier xs log m)) (length (take m.log log)) q.0 (omega arith) (omega arith)

-- ---- a step of undoing
pub fewer : {A : Type 0} (xs ys : List A) (y : A) (n : ℕ) → xs ≡ ys ++ y ∷ [] → n < length xs → n ≤ length ys
fewer xs ys y n e h = let l = ap length e ∙ length_push ys y in omega arith

-- ---- a write that was logged
pub written : {A : Type 0} (xs ys : List A) (log us : List (Overwritten A)) (ms : List Mark) (i : ℕ) (v : A)
    → IsStack ms (length xs) (length log) → ys ≡ slice_set xs i v → us ≡ log ++ (record { place = i; value = get_or xs i v }) ∷ []
    → IsStack ms (length ys) (length us) × (layers_of ys us ms ≡ layers_of xs log ms)
written xs ys log us ms i v h e q =
    let ly = ap length e ∙ length-set xs i v in
    let lu = ap length q ∙ length_push log (record { place = i; value = get_or xs i v }) in (
      stack_more ms (length xs) (length log) (length ys) (length us) h (omega arith) (omega arith),
      ap (λ z. layers_of z us ms) e ∙ ap (λ z. layers_of (slice_set xs i v) z ms) q
          ∙ ap reverse (marks_same (earlier (slice_set xs i v) (log ++ (record { place = i; value = get_or xs i v }) ∷ [])) (earlier xs log)
          ms (length xs) (length log) h
          (λ m a b. earlier_logged xs log m (record { place = i; value = get_or xs i v }) v b (set_back xs i v v))),
    )

-- a write that was maybe refused
pub written_if : {A E : Type 0} (r : Result (Unit {0}) E) (xs ys : List A) (log us : List (Overwritten A)) (ms : List Mark) (i : ℕ) (v : A)
    → IsStack ms (length xs) (length log) → OnOk r (ys ≡ slice_set xs i v)
    → OnOk r (us ≡ log ++ (record { place = i; value = get_or xs i v }) ∷ []) → OnErr r (ys ≡ xs) → OnErr r (us ≡ log)
    → IsStack ms (length ys) (length us) × (layers_of ys us ms ≡ layers_of xs log ms)
written_if (Ok x) xs ys log us ms i v h e q e' q' = written xs ys log us ms i v h e q
written_if (Err x) xs ys log us ms i v h e q e' q' = (
  subst (λ z. IsStack ms (length z) (length us)) (sym e') (subst (λ z. IsStack ms (length xs) (length z)) (sym q') h),
  ap
      (λ z. layers_of z us ms) e' ∙ ap (λ z. layers_of xs z ms) q',
)

-- ---- one value more
pub grown : {A : Type 0} (xs ys : List A) (log : List (Overwritten A)) (ms : List Mark) (v : A) → IsStack ms (length xs) (length log) → ys
    ≡ xs ++ v ∷ [] → IsStack ms (length ys) (length log) × (layers_of ys log ms ≡ layers_of xs log ms)
grown xs ys log ms v h e =
    let l = ap length e ∙ length_push xs v in (
      stack_more ms (length xs) (length log) (length ys) (length log) h (omega arith) (omega arith),
      ap (λ z. layers_of z log ms) e ∙ ap reverse (marks_same (earlier (xs ++ v ∷ []) log) (earlier xs log) ms (length xs) (length log) h
          (λ m a b. earlier_grown xs log m v a)),
    )

-- ---- a layer was given up, and maybe the log with it
pub kept_on : {A : Type 0} (xs : List A) (log us : List (Overwritten A)) (ms : List Mark) (o : Option Mark)
    → IsStack (ms ++ option_to_list o) (length xs) (length log) → (0 < length ms → us ≡ log) → IsStack ms (length xs) (length us)
kept_on xs log us [] o h e = tt
kept_on xs log us (m ∷ ms) o h e =
    let some : 0 < length (m ∷ ms) = omega arith in
    subst (λ z. IsStack (m ∷ ms) (length xs) (length z)) (sym (e some)) (stack_rest (m ∷ ms) o (length xs) (length log) h)

pub layers_kept : {A : Type 0} (xs : List A) (log us : List (Overwritten A)) (ms : List Mark) → (0 < length ms → us ≡ log)
    → layers_of xs us ms ≡ layers_of xs log ms
layers_kept xs log us [] e = refl
layers_kept xs log us (m ∷ ms) e =
    let some : 0 < length (m ∷ ms) = omega arith in
    ap (λ z. layers_of xs z (m ∷ ms)) (e some)

-- the layers but the newest, where `pop` took the last mark
pub popped : {A : Type 0} (xs : List A) (log : List (Overwritten A)) (old ms : List Mark) (o : Option Mark) → old ≡ ms ++ option_to_list o
    → IsSome o ↔ (0 < length old) → layers_of xs log ms ≡ drop 1 (layers_of xs log old)
popped xs log old ms (Some m) e v = ap (drop 1) (sym (layers_push xs log ms m)) ∙ ap (λ z. drop 1 (layers_of xs log z)) (sym e)
popped xs log [] ms None e v = ap (layers_of xs log) (sym (append-nil ms) ∙ sym e)
popped xs log (m ∷ old) ms None e v = let some : 0 < length (m ∷ old) = omega arith in let is_none = v.1 some in absurd (cc)

-- the newest layer is the list at the last mark
pub newest_layer : {A : Type 0} (xs : List A) (log : List (Overwritten A)) (ms : List Mark) (m : Mark) → 0 < length ms
    → slice_get ms (length ms - 1) ≡ Some m → slice_get (layers_of xs log ms) 0 ≡ Some (earlier xs log m)
newest_layer xs log ms m some q =
    let split = last_of ms m some q in
    ap (λ l. slice_get (layers_of xs log l) 0) split.1 ∙ ap (λ l. slice_get l 0) (layers_push xs log split.0 m)

pub as_many : {A : Type 0} (xs : List A) (log : List (Overwritten A)) (ms : List Mark) → length (layers_of xs log ms) ≡ length ms
as_many xs log ms = length-reverse (map (earlier xs log) ms) ∙ length-map ms (earlier xs log)

-- where a layer stands, there is a mark
pub marked : {A : Type 0} (xs : List A) (log : List (Overwritten A)) (ms : List Mark) (v : Layered A)
    → record { list = xs; layers = layers_of xs log ms } ≡ v → 0 < length v.layers → 0 < length ms
marked xs log ms v is some =
    let many = as_many xs log ms in
    let same = ap (λ (z : Layered _). length z.layers) is in
    omega (arith, many, same, some)
