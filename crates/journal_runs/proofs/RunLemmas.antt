-- The run of lines on a journal, put together line by line.
use Rattle.std.proofs.Common.{◌≡◌, ◌⊎◌, inl, inr, ⊎_elim, ℕ, ◌≤◌, Bool, true, false, IsTrue, List, [], ◌∷◌, ◌++◌, Option, refl, sym, ap, ◌∙◌, subst, arith, append_assoc, append-nil}
use Rattle.task_model.specs.Terms.Text.{Text}
use Rattle.task_model.specs.Terms.Input.{EntryTerm}
use Rattle.task_model.specs.Terms.Item.{ItemTerm, took}
use Rattle.outer_disks.specs.Disks.{DiskTold, IsHonest, KeepsTime, LeavesOnly}
use Rattle.line_frame.specs.Machines.{LeadsOver, RanMachine}
use Rattle.world_core.specs.World.{WorldTerm, world_term}
use Rattle.journal_bytes.specs.Records.{IsImageOf}
use Rattle.journal_bytes.specs.HistoryRecords.{records_of, IsJournalOf}
use Rattle.history_journal.specs.Journals.{SeenJournal, HoldsJournal, WouldTake, IsBeforeOrTaken}
use Rattle.history_journal.proofs.Moments.{started, joins}
use Rattle.history_journal.proofs.Events.{weaker}
use Rattle.history_journal.proofs.Restarts.{rose_later}
use Rattle.journal_runs.specs.Moves.{StaysAsBefore, TakesEntry, MeetsFault, Moves, Stops, TakesLine}
use Rattle.journal_runs.specs.KeptRuns.{BeginsHistory, IsBetween, LosesNothing, AnswersKept, IsLedTo, EndsOpen, EndsClosed, RunsKept}

-- ---- histories that begin alike
begins_self : (h : List ItemTerm) → BeginsHistory h h
begins_self h = ([], sym (append-nil h))

begins_same : (h k : List ItemTerm) → k ≡ h → BeginsHistory h k
begins_same h k is = ([], is ∙ sym (append-nil h))

begins_then : (a b d : List ItemTerm) → BeginsHistory a b → BeginsHistory b d → BeginsHistory a d
begins_then a b d x y = (x.0 ++ y.0, y.1 ∙ (ap (λ (z : List ItemTerm). z ++ y.0) x.1 ∙ append_assoc a x.0 y.0))

between_first : (h most : List ItemTerm) (c : List ℕ) → IsJournalOf c h → BeginsHistory h most → IsBetween h most c
between_first h most c is begins = record { history = h; is = is; least_is = begins_self h; most_is = begins }

between_later : (g h most : List ItemTerm) (c : List ℕ) → BeginsHistory g h → IsBetween h most c → IsBetween g most c
between_later g h most c begins b = record { history = b.history; is = b.is; least_is = begins_then g h b.history begins b.least_is; most_is = b.most_is }

between_either : (w : WorldTerm) (e : EntryTerm) (most : List ItemTerm) (c : List ℕ) → BeginsHistory (w.history ++ took e ∷ []) most → IsBeforeOrTaken w e c
    → IsBetween w.history most c
between_either w e most c begins (inl is) =
    between_first w.history most c is (begins_then w.history (w.history ++ took e ∷ []) most (took e ∷ [], refl) begins)
between_either w e most c begins (inr is) = record { history = w.history ++ took e ∷ []; is = is.1; least_is = (took e ∷ [], refl); most_is = begins }

module _ {D : Type 0} (told : D → DiskTold) (time : (d : D) → IsHonest (told d) → KeepsTime (told d)) where
  abbrev hist : SeenJournal D → List ItemTerm
  hist j = (world_term j.world).history

  -- a journal that met no fault, as its disk holds it
  pub record Held (j : SeenJournal D) : Type 0 where
    pub free : j.closed ≡ false
    pub holds : IsHonest (told j.disk) → HoldsJournal (told j.disk) (world_term j.world).history

  held_leaves : (j : SeenJournal D) → Held j → IsHonest (told j.disk) → (c : List ℕ) → (told j.disk).may_leave c → IsJournalOf c (hist j)
  held_leaves j held honest c left =
      let h = held.holds honest in
      record { short = h.short; image = subst (λ (b : List ℕ). IsImageOf b (records_of (hist j))) (sym (h.settled.just c left)) h.settled.image }

  rested_held : (a b : SeenJournal D) → StaysAsBefore a b → Held a → Held b
  rested_held a b r held = record {
    free = r.closed ∙ held.free;
    holds = subst (λ (w : WorldTerm). IsHonest (told b.disk) → HoldsJournal (told b.disk) w.history) (sym r.world)
        (subst (λ (d : D). IsHonest (told d) → HoldsJournal (told d) (hist a)) (sym r.disk) held.holds);
  }

  kept_held : (a b : SeenJournal D) → TakesEntry told a b → Held b
  kept_held a b k = record { free = k.takes.open_now; holds = λ honest. k.holds (subst IsTrue k.honest honest) }

  moved_held : (a b : SeenJournal D) → Moves told a b → Held a → Held b
  moved_held a b (inl r) held = rested_held a b r held
  moved_held a b (inr k) held = kept_held a b k

  -- ---- from a journal to the end of its run
  module _ (end : SeenJournal D) (most : List ItemTerm) where
    pub record Course (now : SeenJournal D) : Type 0 where
      pub begins : BeginsHistory (world_term now.world).history most
      pub loses : LosesNothing told end most now
      pub honest : (told end.disk).honest ≡ (told now.disk).honest
      pub count : (told now.disk).faults ≤ (told end.disk).faults

    rested_course : (a mid : SeenJournal D) → StaysAsBefore a mid → Course mid → Course a
    rested_course a mid r run = record {
      begins = subst (λ (w : WorldTerm). BeginsHistory w.history most) r.world run.begins;
      loses = subst (λ (w : WorldTerm). IsHonest (told a.disk) → LeavesOnly (told a.disk) (told end.disk) (IsBetween w.history most)) r.world
          (subst (λ (d : D). IsHonest (told d) → LeavesOnly (told d) (told end.disk) (IsBetween (hist mid) most)) r.disk run.loses);
      honest = run.honest ∙ ap (λ (d : D). (told d).honest) r.disk;
      count = subst (λ (d : D). (told d).faults ≤ (told end.disk).faults) r.disk run.count;
    }

    kept_course : (a mid : SeenJournal D) → TakesEntry told a mid → Course mid → Course a
    kept_course a mid k run =
        let grown : hist mid ≡ hist a ++ took k.entry ∷ [] = ap (λ (w : WorldTerm). w.history) k.takes.world in
        let later : BeginsHistory (hist a) (hist mid) = (took k.entry ∷ [], grown) in
        let whole : BeginsHistory (hist a ++ took k.entry ∷ []) most = subst (λ (h : List ItemTerm). BeginsHistory h most) grown run.begins in
        let one = k.count in
        let two = run.count in
        record {
          begins = begins_then (hist a) (hist mid) most later run.begins;
          loses = λ honest. joins (told a.disk) (told mid.disk) (told end.disk) (IsBeforeOrTaken (world_term a.world) k.entry) (IsBetween (hist mid) most)
              (IsBetween (hist a) most) (k.any_moment honest) (run.loses (subst IsTrue (sym k.honest) honest))
              (λ c is. between_either (world_term a.world) k.entry most c whole is) (λ c is. between_later (hist a) (hist mid) most c later is);
          honest = run.honest ∙ k.honest;
          count = omega (arith, one, two);
        }

    moved_course : (a mid : SeenJournal D) → Moves told a mid → Course mid → Course a
    moved_course a mid (inl r) run = rested_course a mid r run
    moved_course a mid (inr k) run = kept_course a mid k run

    -- the end itself, where nothing is lost
    end_course : Held end → hist end ≡ most → Course end
    end_course held is = record {
      begins = begins_same (hist end) most (sym is);
      loses = λ honest. started (told end.disk) (IsBetween (hist end) most) (time end.disk honest)
          (λ c left. between_first (hist end) most c (held_leaves end held honest c left) (begins_same (hist end) most (sym is)));
      honest = refl;
      count = omega arith;
    }

    failed_course : (last : SeenJournal D) (f : MeetsFault told last end) → most ≡ hist last ++ took f.entry ∷ [] → Course last
    failed_course last f is =
        let whole : BeginsHistory (hist last ++ took f.entry ∷ []) most = begins_same (hist last ++ took f.entry ∷ []) most is in
        record {
          begins = (took f.entry ∷ [], is);
          loses = λ honest. weaker (told last.disk) (told end.disk) (IsBeforeOrTaken (world_term last.world) f.entry) (IsBetween (hist last) most)
              (f.any_moment honest) (λ c left. between_either (world_term last.world) f.entry most c whole left);
          honest = f.honest;
          count = f.count;
        }

  -- ---- over lines
  module _ {M : Type 0} (journal_of : M → SeenJournal D) where
    abbrev takes : M → Text → Text → M → Type 0
    takes old line text new = TakesLine told (journal_of old) line text (journal_of new)

    -- what lines make of a journal
    pub record Led (a last : SeenJournal D) : Type 0 where
      pub held : Held last
      pub count : (told a.disk).faults ≤ (told last.disk).faults
      pub honest : (told last.disk).honest ≡ (told a.disk).honest

    moved_led : (a mid last : SeenJournal D) → Moves told a mid → Led mid last → Led a last
    moved_led a mid last (inl r) led = record {
      held = led.held;
      count = subst (λ (d : D). (told d).faults ≤ (told last.disk).faults) r.disk led.count;
      honest = led.honest ∙ ap (λ (d : D). (told d).honest) r.disk;
    }
    moved_led a mid last (inr k) led =
        let one = k.count in
        let two = led.count in
        record { held = led.held; count = omega (arith, one, two); honest = led.honest ∙ k.honest }

    leads_led : (a last : M) (lines : List Text) (text : Text) → LeadsOver takes a lines text last → Held (journal_of a) → Led (journal_of a) (journal_of last)
    leads_led a last [] text leads held =
        subst (λ (m : M). Led (journal_of a) (journal_of m)) (sym leads.1) (record { held = held; count = omega arith; honest = refl })
    leads_led a last (line ∷ lines) text leads held =
        moved_led (journal_of a) (journal_of leads.0) (journal_of last) leads.3.moves
        (leads_led leads.0 last lines leads.2 leads.5 (moved_held (journal_of a) (journal_of leads.0) leads.3.moves held))

    module _ (end : SeenJournal D) (most : List ItemTerm) where
      leads_kept : (a last : M) (lines : List Text) (text : Text) → LeadsOver takes a lines text last → Course end most (journal_of last)
          → IsLedTo told end most (journal_of last) → Course end most (journal_of a) × AnswersKept told end most (journal_of a) lines text
      leads_kept a last [] text leads run led =
          subst (λ (m : M). Course end most (journal_of m) × AnswersKept told end most (journal_of m) [] text) leads.1 (run, (run.loses, leads.0, led))
      leads_kept a last (line ∷ lines) text leads run led =
          let more = leads_kept leads.0 last lines leads.2 leads.5 run led in
          let step = leads.3 in
          let here = moved_course end most (journal_of a) (journal_of leads.0) step.moves more.0 in (
            here,
            (
              here.loses,
              record {
                asked = step.asked;
                is = step.is;
                answer = leads.1;
                next = journal_of leads.0;
                rest = leads.2;
                answers = step.answers;
                more = more.1;
                all = leads.4;
              },
            ),
          )

    -- ---- a whole run
    module _ (old new : M) (taken_old taken_new : Option Text) (held : Held (journal_of old)) where
      abbrev Ran : Type 0
      Ran = RanMachine takes (λ a b. Stops told (journal_of a) (journal_of b)) old new taken_old taken_new

      abbrev end : SeenJournal D
      end = journal_of new

      runs_by : (ran : Ran) (most : List ItemTerm) → Course end most (journal_of ran.last) → IsLedTo told end most (journal_of ran.last)
          → EndsOpen (told end.disk) (world_term end.world) end.closed most
          ⊎ EndsClosed (told (journal_of old).disk) (told end.disk) (world_term end.world) end.closed most
          → RunsKept told (journal_of old) end taken_old taken_new
      runs_by ran most run led ends =
          let all = leads_kept end most old ran.last ran.lines ran.text ran.leads run led in
          record {
            lines = ran.lines;
            text = ran.text;
            most = most;
            answered = all.1;
            ends = ends;
            honest = all.0.honest;
            count = all.0.count;
            written = ran.written;
            took = ran.took;
            begins = ran.begins;
          }

      runs_open : (ran : Ran) → Held end → Course end (hist end) (journal_of ran.last) → IsLedTo told end (hist end) (journal_of ran.last)
          → RunsKept told (journal_of old) end taken_old taken_new
      runs_open ran free run led = runs_by ran (hist end) run led (inl (record { open_now = free.free; most_is = refl; holds = free.holds }))

      rests_at : (last : M) → new ≡ last → StaysAsBefore (journal_of last) end
      rests_at last is = record {
        world = ap (λ (m : M). world_term (journal_of m).world) is;
        disk = ap (λ (m : M). (journal_of m).disk) is;
        closed = ap (λ (m : M). (journal_of m).closed) is;
      }

      runs_rested : (ran : Ran) → StaysAsBefore (journal_of ran.last) end → RunsKept told (journal_of old) end taken_old taken_new
      runs_rested ran r =
          let led = leads_led old ran.last ran.lines ran.text ran.leads held in
          let free = rested_held (journal_of ran.last) end r led.held in
          runs_open ran free (rested_course end (hist end) (journal_of ran.last) end r (end_course end (hist end) free refl)) (inl r.world)

      runs_stopped : (ran : Ran) → Stops told (journal_of ran.last) end → RunsKept told (journal_of old) end taken_old taken_new
      runs_stopped ran (inl r) = runs_rested ran r
      runs_stopped ran (inr (inl k)) =
          let free = kept_held (journal_of ran.last) end k in
          runs_open ran free (kept_course end (hist end) (journal_of ran.last) end k (end_course end (hist end) free refl)) (inr (k.entry, k.takes))
      runs_stopped ran (inr (inr f)) =
          let led = leads_led old ran.last ran.lines ran.text ran.leads held in
          let most : List ItemTerm = hist (journal_of ran.last) ++ took f.entry ∷ [] in
          runs_by ran most (failed_course end most (journal_of ran.last) f refl) (inl f.world) (inr (record {
            closed_now = f.closed_now;
            rose = rose_later (told (journal_of old).disk).faults (told (journal_of ran.last).disk).faults (told end.disk).faults led.count f.rose;
            entry = f.entry;
            would = subst (λ (w : WorldTerm). WouldTake w f.entry) (sym f.world) f.would;
            most_is = ap (λ (w : WorldTerm). w.history ++ took f.entry ∷ []) (sym f.world);
            leaves = λ honest. subst (λ (w : WorldTerm). (c : List ℕ) → (told end.disk).may_leave c → IsBeforeOrTaken w f.entry c) (sym f.world)
                (f.now (subst IsTrue f.honest honest));
          }))

      pub runs_kept : Ran → RunsKept told (journal_of old) end taken_old taken_new
      runs_kept ran = elim ran.ends [
        | inl is ↦ runs_rested ran (rests_at ran.last is)
        | inr stop ↦ runs_stopped ran stop
      ]
