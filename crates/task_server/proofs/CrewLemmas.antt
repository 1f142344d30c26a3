-- Sessions of workers, as they are dealt, turned and gathered.
use Rattle.std.proofs.Common.{◌≡◌, ◌⊎◌, ℕ, suc, ◌+◌, ◌<◌, List, [], ◌∷◌, ◌++◌, length, map, slice_index_or, refl, ap, sym, subst, ◌∙◌, inl, inr, ⊎_elim, arith, append_assoc, append-nil, length-append}
use Rattle.std.proofs.lemmas.List.{map-append}
use Rattle.session_desk.specs.Desks.{DeskTerm}
use Rattle.task_server.specs.Crews.{CrewTerm, KeepSeats, HasWorked, HaveWorked, HaveAll, all_sessions, all_told, crew_term, desks, owned}
use Rattle.world_lock.specs.Closings.{HasSessionOf, own_total}
use Rattle.world_lock.specs.Sessions.{SeenSession, session_term}

-- ---- seats
left : (xs ys : List DeskTerm) (seat : ℕ) → HasSessionOf xs seat → HasSessionOf (xs ++ ys) seat
left [] ys seat h = absurd h
left (x ∷ xs) ys seat h = ⊎_elim (λ (e : x.seat ≡ seat). inl e) (λ (m : HasSessionOf xs seat). inr (left xs ys seat m)) h

right : (xs ys : List DeskTerm) (seat : ℕ) → HasSessionOf ys seat → HasSessionOf (xs ++ ys) seat
right [] ys seat h = h
right (x ∷ xs) ys seat h = inr (right xs ys seat h)

split : (xs ys : List DeskTerm) (seat : ℕ) → HasSessionOf (xs ++ ys) seat → HasSessionOf xs seat ⊎ HasSessionOf ys seat
split [] ys seat h = inr h
split (x ∷ xs) ys seat h = ⊎_elim (λ (e : x.seat ≡ seat). inl (inl e))
    (λ (m : HasSessionOf (xs ++ ys) seat). ⊎_elim (λ (a : HasSessionOf xs seat). inl (inr a)) (λ (b : HasSessionOf ys seat). inr b) (split xs ys seat m)) h

abbrev Has : List SeenSession → ℕ → Type 0
Has sessions seat = HasSessionOf (desks sessions) seat

has_left : (xs ys : List SeenSession) (seat : ℕ) → Has xs seat → Has (xs ++ ys) seat
has_left xs ys seat h = subst (λ (ds : List DeskTerm). HasSessionOf ds seat) (sym (map-append session_term xs ys)) (left (desks xs) (desks ys) seat h)

has_right : (xs ys : List SeenSession) (seat : ℕ) → Has ys seat → Has (xs ++ ys) seat
has_right xs ys seat h = subst (λ (ds : List DeskTerm). HasSessionOf ds seat) (sym (map-append session_term xs ys)) (right (desks xs) (desks ys) seat h)

has_split : (xs ys : List SeenSession) (seat : ℕ) → Has (xs ++ ys) seat → Has xs seat ⊎ Has ys seat
has_split xs ys seat h = split (desks xs) (desks ys) seat (subst (λ (ds : List DeskTerm). HasSessionOf ds seat) (map-append session_term xs ys) h)

-- where both parts keep their seats, so does the whole
pub keep_both : (xs ys us vs : List SeenSession) → KeepSeats xs us → KeepSeats ys vs → KeepSeats (xs ++ ys) (us ++ vs)
keep_both xs ys us vs p q = λ seat h. ⊎_elim (λ (a : Has xs seat). has_left us vs seat (p seat a)) (λ (b : Has ys seat). has_right us vs seat (q seat b)) (has_split xs ys seat h)

-- the first session has served, and stands behind the others
pub keep_turn : (s t : SeenSession) (rest : List SeenSession) → (session_term t).seat ≡ (session_term s).seat → KeepSeats (s ∷ rest) (rest ++ t ∷ [])
keep_turn s t rest same = λ seat h. ⊎_elim (λ (e : (session_term s).seat ≡ seat). has_right rest (t ∷ []) seat (inl (same ∙ e)))
    (λ (m : Has rest seat). has_left rest (t ∷ []) seat m) h

-- ---- own entries
pub owned_append : (xs ys : List SeenSession) → owned (xs ++ ys) ≡ owned xs + owned ys
owned_append [] ys = omega arith
owned_append (x ∷ xs) ys = let ih = owned_append xs ys in omega arith

-- the same of the session that has served, step by step
pub turned : (all sessions rest pushed : List SeenSession) (s t : SeenSession) → KeepSeats all sessions → sessions ≡ s ∷ rest
    → (session_term t).seat ≡ (session_term s).seat → pushed ≡ rest ++ t ∷ [] → KeepSeats all pushed
turned all sessions rest pushed s t kept first same push = λ seat h.
    subst (λ (w : List SeenSession). Has w seat) (sym push)
    (keep_turn s t rest same seat (subst (λ (w : List SeenSession). Has w seat) first (kept seat h)))

pub turned_own : (sessions rest pushed : List SeenSession) (s t : SeenSession) → sessions ≡ s ∷ rest → pushed ≡ rest ++ t ∷ []
    → owned pushed + length (session_term s).own ≡ owned sessions + length (session_term t).own
turned_own sessions rest pushed s t first push =
    let now = ap owned push ∙ owned_append rest (t ∷ []) in
    let before = ap owned first in
    omega (arith, now, before)

-- ---- workers
pub all_push : (crews : List CrewTerm) (crew : CrewTerm) → all_sessions (crews ++ crew ∷ []) ≡ all_sessions crews ++ crew.sessions
all_push [] crew = append-nil crew.sessions
all_push (c ∷ cs) crew = ap (λ w. c.sessions ++ w) (all_push cs crew) ∙ sym (append_assoc c.sessions (all_sessions cs) crew.sessions)

pub told_push : (crews : List CrewTerm) (crew : CrewTerm) → all_told (crews ++ crew ∷ []) ≡ all_told crews + crew.told
told_push [] crew = omega arith
told_push (c ∷ cs) crew = let ih = told_push cs crew in omega arith

pub have_trans : (xs ys zs : List SeenSession) → HaveAll xs ys → HaveAll ys zs → HaveAll xs zs
have_trans xs ys zs p q = record { seats = λ seat h. q.seats seat (p.seats seat h); own = q.own ∙ p.own }

-- a session is dealt to the worker whose turn it is, who stands behind the others then
pub dealt : (c d : CrewTerm) (crews : List CrewTerm) (s : SeenSession) (rest : List SeenSession) → d.sessions ≡ c.sessions ++ s ∷ []
    → HaveAll (all_sessions (c ∷ crews) ++ s ∷ rest) (all_sessions (crews ++ d ∷ []) ++ rest)
dealt c d crews s rest more =
    let A = c.sessions in
    let B = all_sessions crews in
    let after : all_sessions (crews ++ d ∷ []) ≡ B ++ (A ++ s ∷ []) = all_push crews d ∙ ap (λ w. B ++ w) more in
    let own_before : owned ((A ++ B) ++ s ∷ rest) ≡ owned A + owned B + owned (s ∷ rest) =
    (let a = owned_append (A ++ B) (s ∷ rest) in let b = owned_append A B in omega arith) in
    let own_after : owned ((B ++ (A ++ s ∷ [])) ++ rest) ≡ owned B + (owned A + owned (s ∷ [])) + owned rest =
    (let a = owned_append (B ++ (A ++ s ∷ [])) rest in let b = owned_append B (A ++ s ∷ []) in let e = owned_append A (s ∷ []) in omega arith) in
    subst (λ (w : List SeenSession). HaveAll ((A ++ B) ++ s ∷ rest) (w ++ rest)) (sym after) (record {
      seats = λ seat h. ⊎_elim
          (λ (ab : Has (A ++ B) seat). has_left (B ++ (A ++ s ∷ [])) rest seat (⊎_elim
          (λ (a : Has A seat). has_right B (A ++ s ∷ []) seat (has_left A (s ∷ []) seat a))
          (λ (b : Has B seat). has_left B (A ++ s ∷ []) seat b) (has_split A B seat ab)))
          (λ (sr : Has (s ∷ rest) seat). ⊎_elim
          (λ (e : (session_term s).seat ≡ seat). has_left (B ++ (A ++ s ∷ [])) rest seat (has_right B (A ++ s ∷ []) seat (has_right A (s ∷ []) seat (inl e))))
          (λ (r : Has rest seat). has_right (B ++ (A ++ s ∷ [])) rest seat r) sr)
          (has_split (A ++ B) (s ∷ rest) seat h);
      own = omega (arith, own_before, own_after);
    })

-- the same, step by step
pub dealt_next : (sessions rest new : List SeenSession) (crews others pushed : List CrewTerm) (c d : CrewTerm) (s : SeenSession)
    → HaveAll sessions (all_sessions crews ++ rest) → rest ≡ s ∷ new → crews ≡ c ∷ others → d ≡ crew_term (c.sessions ++ s ∷ []) c.told
    → pushed ≡ others ++ d ∷ [] → HaveAll sessions (all_sessions pushed ++ new)
dealt_next sessions rest new crews others pushed c d s have first turn is push =
    have_trans sessions (all_sessions (c ∷ others) ++ s ∷ new) (all_sessions pushed ++ new)
    (subst (λ (w : List CrewTerm). HaveAll sessions (all_sessions w ++ s ∷ new)) turn
    (subst (λ (w : List SeenSession). HaveAll sessions (all_sessions crews ++ w)) first have))
    (subst (λ (w : List CrewTerm). HaveAll (all_sessions (c ∷ others) ++ s ∷ new) (all_sessions w ++ new)) (sym push)
    (dealt c d others s new (ap (λ (x : CrewTerm). x.sessions) is)))

pub next_total : (crews others pushed : List CrewTerm) (c d : CrewTerm) (s : SeenSession) → crews ≡ c ∷ others
    → d ≡ crew_term (c.sessions ++ s ∷ []) c.told → pushed ≡ others ++ d ∷ []
    → owned (all_sessions pushed) ≡ owned (all_sessions crews) + length (session_term s).own
next_total crews others pushed c d s turn is push =
    let whole = ap (λ (w : List CrewTerm). owned (all_sessions w)) push ∙ ap owned (all_push others d) ∙ owned_append (all_sessions others) d.sessions in
    let last = ap (λ (x : CrewTerm). owned x.sessions) is ∙ owned_append c.sessions (s ∷ []) in
    let before = ap (λ (w : List CrewTerm). owned (all_sessions w)) turn ∙ owned_append c.sessions (all_sessions others) in
    omega (arith, whole, last, before)

-- a worker gets its first session
pub dealt_first : (all rest new : List SeenSession) (crews pushed : List CrewTerm) (crew : CrewTerm) (s : SeenSession)
    → all ≡ all_sessions crews ++ rest → rest ≡ s ∷ new → crew ≡ crew_term (s ∷ []) 0 → pushed ≡ crews ++ crew ∷ []
    → all ≡ all_sessions pushed ++ new
dealt_first all rest new crews pushed crew s e first is push =
    let grown : all_sessions pushed ≡ all_sessions crews ++ s ∷ [] =
    ap all_sessions push ∙ all_push crews crew ∙ ap (λ (x : CrewTerm). all_sessions crews ++ x.sessions) is in
    e ∙ ap (λ (w : List SeenSession). all_sessions crews ++ w) first ∙ sym (append_assoc (all_sessions crews) (s ∷ []) new)
    ∙ ap (λ (w : List SeenSession). w ++ new) (sym grown)

pub first_total : (crews pushed : List CrewTerm) (crew : CrewTerm) (s : SeenSession) → crew ≡ crew_term (s ∷ []) 0
    → pushed ≡ crews ++ crew ∷ [] → owned (all_sessions pushed) ≡ owned (all_sessions crews) + length (session_term s).own
first_total crews pushed crew s is push =
    let whole = ap (λ (w : List CrewTerm). owned (all_sessions w)) push ∙ ap owned (all_push crews crew) ∙ owned_append (all_sessions crews) crew.sessions in
    let last = ap (λ (x : CrewTerm). owned x.sessions) is in
    omega (arith, whole, last)

-- ---- all workers have worked
pub worked_each : (olds news : List CrewTerm) → length news ≡ length olds
    → ((i : ℕ) (d e : CrewTerm) → i < length olds → HasWorked (slice_index_or olds i d) (slice_index_or news i e)) → HaveWorked olds news
worked_each [] [] same each = tt
worked_each [] (n ∷ ns) same each = absurd (omega (arith, same))
worked_each (o ∷ os) [] same each = absurd (omega (arith, same))
worked_each (o ∷ os) (n ∷ ns) same each = (each 0 o n (omega arith), worked_each os ns (omega (arith, same)) (λ i d e less. each (suc i) d e (omega (arith, less))))

pub worked_seats : (olds news : List CrewTerm) → HaveWorked olds news → KeepSeats (all_sessions olds) (all_sessions news)
worked_seats [] [] w = λ seat h. h
worked_seats [] (n ∷ ns) w = absurd w
worked_seats (o ∷ os) [] w = absurd w
worked_seats (o ∷ os) (n ∷ ns) w = keep_both o.sessions (all_sessions os) n.sessions (all_sessions ns) w.0.seats (worked_seats os ns w.1)

pub worked_told : (olds news : List CrewTerm) → HaveWorked olds news → all_told news ≡ all_told olds + length olds
worked_told [] [] w = omega arith
worked_told [] (n ∷ ns) w = absurd w
worked_told (o ∷ os) [] w = absurd w
worked_told (o ∷ os) (n ∷ ns) w = let ih = worked_told os ns w.1 in let one = w.0.told in omega arith

-- ---- a worker is gathered
pub gathered : (back rest new : List CrewTerm) (crew : CrewTerm) (sessions all more : List SeenSession) → all_sessions back ≡ sessions ++ all_sessions rest
    → rest ≡ crew ∷ new → more ≡ crew.sessions → all ≡ sessions ++ more → all_sessions back ≡ all ++ all_sessions new
gathered back rest new crew sessions all more e first same grown =
    e ∙ ap (λ (w : List CrewTerm). sessions ++ all_sessions w) first ∙ sym (append_assoc sessions crew.sessions (all_sessions new))
    ∙ ap (λ w. w ++ all_sessions new) (ap (λ w. sessions ++ w) (sym same) ∙ sym grown)

pub first_owned : (rest new : List CrewTerm) (crew : CrewTerm) → rest ≡ crew ∷ new → owned (all_sessions rest) ≡ owned crew.sessions + owned (all_sessions new)
first_owned rest new crew e = ap (λ (w : List CrewTerm). owned (all_sessions w)) e ∙ owned_append crew.sessions (all_sessions new)

pub first_told : (rest new : List CrewTerm) (crew : CrewTerm) → rest ≡ crew ∷ new → all_told rest ≡ crew.told + all_told new
first_told rest new crew e = ap all_told e
