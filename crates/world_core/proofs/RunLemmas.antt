-- Both parts of an event together, and replies to entries, one after the other.
use Rattle.std.proofs.Common.{◌≡◌, ℕ, zero, suc, ◌+◌, ◌<◌, List, [], ◌∷◌, ◌++◌, map, length, take, drop, get_or, arith, Option, None, Some, Result, Ok, Err, refl, sym, ap, ◌∙◌, subst}
use Rattle.std.specs.Prelude.{IsSome}
use Rattle.std.specs.Option.{option_map}
use Rattle.std.proofs.lemmas.List.{map-append}
use Rattle.task_model.specs.Terms.Input.{EntryTerm, entry_term}
use Rattle.task_model.specs.declared.input.Entry.{Entry}
use Rattle.task_model.specs.Terms.Item.{took}
use Rattle.task_model.specs.declared.stops.ActStop.{ActStop}
use Rattle.task_model.specs.declared.stops.ActStop.TheVariants as acts
use Rattle.world_core.specs.World.{SeenNext, SeenWorld, next_term, NextTerm, WorldTerm, world_term, with_item, Prepares, Commits, Replies}
use Rattle.world_core.specs.Replying.{reply_answer, RepliesToAll}
use Rattle.world_core.specs.declared.answers.Taken.{Taken}
use Rattle.world_core.specs.declared.answers.Reply.{Reply}

some_next : (o : Option SeenNext) (n : NextTerm) → option_map next_term o ≡ Some n → IsSome o
some_next None n e = absurd cc
some_next (Some m) n e = refl

no_next : (o : Option SeenNext) → option_map next_term o ≡ None → o ≡ None
no_next None e = refl
no_next (Some m) e = absurd cc

-- what is prepared may be taken
pub prepared_some : (old : WorldTerm) (e : EntryTerm) (w : SeenWorld) → Prepares old e (world_term w) (Ok tt) → IsSome w.next
prepared_some old e w p = some_next w.next (record { item = took e; state = p.0 }) (ap (λ (z : WorldTerm). z.next) p.2)

-- an event in both parts
pub replies_taken : (old mid new : WorldTerm) (e : EntryTerm) (done : Taken) → Prepares old e mid (Ok tt) → Commits mid new done
    → Replies old e new (Ok done)
replies_taken old mid new e done p q =
    let n : NextTerm = record { item = took e; state = p.0 } in
    let some : Some n ≡ Some q.0 = sym (ap (λ (z : WorldTerm). z.next) p.2) ∙ q.1 in
    let same : n ≡ q.0 = cc in
    (p.0, p.1, q.2 ∙ ap (λ w. with_item w q.0) p.2 ∙ ap (with_item old) (sym same), q.3)

pub replies_refused : (old new : WorldTerm) (e : EntryTerm) (stop : ActStop) → Prepares old e new (Err stop) → Replies old e new (Err stop)
replies_refused old new e acts.NotOffered p = p
replies_refused old new e acts.Over p = p
replies_refused old new e acts.Memory p = p

-- after a reply nothing is prepared
rest_after : (old new : WorldTerm) (e : EntryTerm) (r : Result Taken ActStop) → Replies old e new r → old.next ≡ None → new.next ≡ None
rest_after old new e (Ok done) a h = ap (λ (z : WorldTerm). z.next) a.2
rest_after old new e (Err acts.NotOffered) a h = ap (λ (z : WorldTerm). z.next) a.1 ∙ h
rest_after old new e (Err acts.Over) a h = ap (λ (z : WorldTerm). z.next) a.1 ∙ h
rest_after old new e (Err acts.Memory) a h = ap (λ (z : WorldTerm). z.next) a ∙ h

pub rest_kept : (old new : SeenWorld) (e : EntryTerm) (r : Result Taken ActStop) → Replies (world_term old) e (world_term new) r
    → old.next ≡ None → new.next ≡ None
rest_kept old new e r a h = no_next new.next (rest_after (world_term old) (world_term new) e r a (ap (option_map next_term) h))

-- one entry more
pub replies_more : (old m new : WorldTerm) (es : List EntryTerm) (rs : List Reply) (e : EntryTerm) (r : Reply) → RepliesToAll old es rs m
    → Replies m e new (reply_answer r) → RepliesToAll old (es ++ e ∷ []) (rs ++ r ∷ []) new
replies_more old m new [] [] e r h a = (new, subst (λ w. Replies w e new (reply_answer r)) h a, refl)
replies_more old m new (f ∷ es) (q ∷ rs) e r h a = (h.0, h.1, replies_more h.0 m new es rs e r h.2 a)
replies_more old m new [] (q ∷ rs) e r h a = absurd h
replies_more old m new (f ∷ es) [] e r h a = absurd h

-- ---- a run of entries
-- an element, those in front of it and those behind
parted : {X : Type 0} (xs : List X) (i : ℕ) (x : X) → i < length xs → x ≡ get_or xs i x → xs ≡ take i xs ++ x ∷ drop (suc i) xs
parted [] i x lt e = absurd (omega arith)
parted (y ∷ ys) zero x lt e = ap (λ z. z ∷ ys) (sym e)
parted (y ∷ ys) (suc i) x lt e = ap (λ l. y ∷ l) (parted ys i x (omega arith) e)

taken_suc : {X : Type 0} (xs : List X) (i : ℕ) (x : X) → i < length xs → x ≡ get_or xs i x → take (suc i) xs ≡ take i xs ++ x ∷ []
taken_suc [] i x lt e = absurd (omega arith)
taken_suc (y ∷ ys) zero x lt e = ap (λ z. z ∷ []) (sym e)
taken_suc (y ∷ ys) (suc i) x lt e = ap (λ l. y ∷ l) (taken_suc ys i x (omega arith) e)

taken_more : {X : Type 0} (xs : List X) (i : ℕ) (x : X) → i < length xs → x ≡ get_or xs i x → take (i + 1) xs ≡ take i xs ++ x ∷ []
taken_more xs i x lt e = let next : i + 1 ≡ suc i = omega arith in ap (λ n. take n xs) next ∙ taken_suc xs i x lt e

module _ (es : List Entry) (i : ℕ) (e : Entry) (lt : i < length es) (is : e ≡ get_or es i e) where
  entries_more : map entry_term (take (i + 1) es) ≡ map entry_term (take i es) ++ entry_term e ∷ []
  entries_more = ap (map entry_term) (taken_more es i e lt is) ∙ map-append entry_term (take i es) (e ∷ [])

  entries_parted : map entry_term es ≡ map entry_term (take i es) ++ entry_term e ∷ map entry_term (drop (suc i) es)
  entries_parted = ap (map entry_term) (parted es i e lt is) ∙ map-append entry_term (take i es) (e ∷ drop (suc i) es)

  -- where memory runs out, those in front were handled
  pub run_stops : (old m new : WorldTerm) (rs done : List Reply) → RepliesToAll old (map entry_term (take i es)) rs m → new ≡ m → done ≡ rs
      → (front : List EntryTerm) × (f : EntryTerm) × (rest : List EntryTerm) × (map entry_term es ≡ front ++ f ∷ rest)
      × RepliesToAll old front done new
  run_stops old m new rs done a same d = (
    map entry_term (take i es),
    entry_term e,
    map entry_term (drop (suc i) es),
    entries_parted,
    subst (λ l. RepliesToAll old (map entry_term (take i es)) l new) (sym d)
        (subst (RepliesToAll old (map entry_term (take i es)) rs) (sym same) a),
  )

  -- one entry more is handled
  pub run_more : (old m new : WorldTerm) (rs done : List Reply) (r : Reply) → RepliesToAll old (map entry_term (take i es)) rs m
      → Replies m (entry_term e) new (reply_answer r) → done ≡ rs ++ r ∷ [] → RepliesToAll old (map entry_term (take (i + 1) es)) done new
  run_more old m new rs done r a b d =
      subst (λ l. RepliesToAll old l done new) (sym entries_more)
      (subst (λ l. RepliesToAll old (map entry_term (take i es) ++ entry_term e ∷ []) l new) (sym d)
      (replies_more old m new (map entry_term (take i es)) rs (entry_term e) r a b))
