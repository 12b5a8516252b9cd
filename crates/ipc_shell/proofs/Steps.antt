-- The command of an input that is not of the clock is done, and brings what the history says.
use Rattle.std.proofs.Common.{◌≡◌, refl, sym, ap, subst, ◌∙◌, ℕ, ◌+◌, ◌≤◌, ◌<◌, Bool, true, false, not, ◌&&◌, ◌||◌, ◌==◌, eqb-true, List}
use Rattle.std.proofs.Common.{[], ◌∷◌, ◌++◌, length, map, Some, None, inl, arith}
use Rattle.std.specs.Prelude.{nat_le}
use Rattle.std.specs.Option.{option_map_or}
use Rattle.std.proofs.lemmas.Bool.{false≢true, false_from_ne_true, le-ltb, leb-true}
use Rattle.ipc_words.specs.Limits.{max_thread_number, max_space}
use Rattle.ipc_words.specs.ThreadId.{number_of, version_of}
use Rattle.ipc_words.specs.Control.{is_masked, masked_of}
use Rattle.ipc_history.specs.Blocks.{block_of}
use Rattle.ipc_history.specs.CallParts.{CallParts}
use Rattle.ipc_history.specs.Calls.{calls_made}
use Rattle.ipc_history.specs.Legal.{Legal, Quiet, is_admissible, is_free, may_move, may_open, next_moving}
use Rattle.ipc_history.specs.Threads.{has_broken, is_live, is_taken, next_version}
use Rattle.ipc_history.specs.declared.entry.Entry.{Entry}
use Rattle.ipc_history.specs.declared.entry.Entry.TheVariants.{Given, Written}
use Rattle.ipc_history.specs.declared.entry.Input.{Input}
use Rattle.ipc_history.specs.declared.entry.Input.TheVariants as input
use Rattle.ipc_history.specs.declared.entry.Output.{Output}
use Rattle.ipc_laws.specs.Counting.{pledged}
use Rattle.ipc_laws.proofs.LiveThreads.{taken}
use Rattle.ipc_laws.proofs.OneOpen.{free_parts}
use Rattle.ipc_laws.proofs.Tests.{held, left, not_both, right}
use Rattle.ipc_laws.proofs.Endings.{live_opened}
use Rattle.ipc_core.specs.ExchangeRegisters.{exreg_answer}
use Rattle.ipc_core.specs.KernelParts.{KernelParts}
use Rattle.ipc_core.specs.Laws.{IsSound}
use Rattle.ipc_core.specs.Obeying.{Does, Obeys, ObeysOr, cause_of}
use Rattle.ipc_core.specs.Outcomes.{has_untaken}
use Rattle.ipc_core.specs.Room.{is_full}
use Rattle.ipc_core.specs.Steps.{Takes}
use Rattle.ipc_core.specs.declared.answers.Advance.TheVariants.{Moved}
use Rattle.ipc_core.specs.declared.command.Answer.{Answer}
use Rattle.ipc_core.specs.declared.command.Answer.TheVariants.{Opened, Entered, Exchanged, Done, Advanced}
use Rattle.ipc_core.specs.declared.command.Command.{Command}
use Rattle.ipc_core.specs.declared.command.Command.TheVariants.{Open, Enter, Exreg, Broke, Advance}
use Rattle.ipc_core.proofs.BusyLaws.{entered_is_busy, busy_is}
use Rattle.ipc_core.proofs.EnteringLemmas.{entered}
use Rattle.ipc_core.proofs.OpeningLemmas.{InRange}
use Rattle.ipc_core.proofs.RefusalLemmas.{open_allowed, exreg_allowed}
use Rattle.ipc_core.proofs.SoundLaws.{stays_sound}
use Rattle.ipc_shell.specs.Replays.{FindsRoom}
use Rattle.ipc_shell.specs.Script.{is_untaken}
use Rattle.ipc_shell.proofs.Busy.{ended_in, ended_untaken, untaken_falls}
use Rattle.ipc_shell.proofs.Runs.{Leads, leads_one}
use Rattle.ipc_shell.proofs.Stages.{ReadyBut, Stage, Stands, admitted, after, ahead, stands_after, takes}

pub obeys_by : (k new : KernelParts) (command : Command) (answer : Answer) → cause_of k command ≡ None → Does k command answer new
    → Obeys k command answer new
unfolding Obeys
obeys_by k new command answer none does = subst (λ c. ObeysOr c k command answer new) (sym none) does

not_full : (k : KernelParts) (need limit : ℕ) → k.entries_limit ≡ limit → length k.history + pledged k.history + need ≤ limit
    → is_full k need ≡ false
unfolding is_full
not_full k need limit same room = le-ltb k.entries_limit (length k.history + pledged k.history + need) (omega (arith, same, room))

-- the parts of what is admissible
pub record MayOpen (H : List Entry) (thread space : ℕ) : Type 0 where
  pub range : InRange (number_of thread) space
  pub free : is_taken H (number_of thread) ≡ false
  pub next : next_version H (number_of thread) ≡ Some (version_of thread)

opens_parts : (H : List Entry) (thread space : ℕ) → is_admissible H (input.Opened thread space) ≡ true → MayOpen H thread space
unfolding is_admissible may_open
opens_parts H thread space h =
    go (nat_le 1 (number_of thread)) (nat_le (number_of thread) max_thread_number) (is_taken H (number_of thread))
    (option_map_or (λ version. version == version_of thread) (next_version H (number_of thread)) false) (nat_le 1 space)
    (nat_le space max_space) refl refl refl refl refl refl h
  where
    go : (a b c d e f : Bool) → nat_le 1 (number_of thread) ≡ a → nat_le (number_of thread) max_thread_number ≡ b
        → is_taken H (number_of thread) ≡ c
        → option_map_or (λ version. version == version_of thread) (next_version H (number_of thread)) false ≡ d → nat_le 1 space ≡ e
        → nat_le space max_space ≡ f → (a && b && not c && d && e && f) ≡ true → MayOpen H thread space
    go true true false true true true a b c d e f h = record {
      range = record {
        least = leb-true 1 (number_of thread) a;
        most = leb-true (number_of thread) max_thread_number b;
        inner = leb-true 1 space e;
        outer = leb-true space max_space f;
      };
      free = c;
      next = held (next_version H (number_of thread)) (version_of thread) d;
    }
    go false x1 x2 x3 x4 x5 a b c d e f h = absurd (false≢true h)
    go true false x2 x3 x4 x5 a b c d e f h = absurd (false≢true h)
    go true true true x3 x4 x5 a b c d e f h = absurd (false≢true h)
    go true true false false x4 x5 a b c d e f h = absurd (false≢true h)
    go true true false true false x5 a b c d e f h = absurd (false≢true h)
    go true true false true true false a b c d e f h = absurd (false≢true h)

pub call_parts : (H : List Entry) (n thread : ℕ) (call : CallParts) → is_admissible H (input.Called n thread call) ≡ true
    → (is_free H thread ≡ true) × (n ≡ calls_made H + 1)
unfolding is_admissible
call_parts H n thread call h = (left _ _ (left _ _ h), eqb-true n (calls_made H + 1) (right (is_free H thread) _ (left _ _ h)))

pub exreg_parts : (H : List Entry) (thread target control : ℕ) → is_admissible H (input.Exreg thread target control) ≡ true
    → (is_free H thread ≡ true) × (is_masked control ≡ true)
unfolding is_admissible
exreg_parts H thread target control h = (left _ _ h, right _ _ h)

broke_part : (H : List Entry) (thread : ℕ) → is_admissible H (input.Broke thread) ≡ true → is_live H thread ≡ true
unfolding is_admissible
broke_part H thread h = h

move_parts : (H : List Entry) (n count : ℕ) → is_admissible H (input.Moved n count) ≡ true
    → (next_moving H ≡ Some n) × (count ≡ block_of H n)
unfolding is_admissible may_move
move_parts H n count h = (held (next_moving H) n (left _ _ h), eqb-true count (block_of H n) (right _ _ h))

-- a thread that does not live has nothing to take
dead_untaken : (k : KernelParts) (t : ℕ) → is_live k.history t ≡ false → has_untaken k t ≡ false
unfolding has_untaken
dead_untaken k t dead = rw dead refl

-- a control word of the bits R and S alone is its bits
masked_same : (control : ℕ) → is_masked control ≡ true → masked_of control ≡ control
masked_same control h = go (control == 0) (control == 2) (control == 4) (control == 6) refl refl refl refl h
  where
    at : (value : ℕ) → masked_of value ≡ value → (control == value) ≡ true → masked_of control ≡ control
    at value same e = subst (λ c. masked_of c ≡ c) (sym (eqb-true control value e)) same

    go : (a b c d : Bool) → (control == 0) ≡ a → (control == 2) ≡ b → (control == 4) ≡ c → (control == 6) ≡ d → (a || b || c || d) ≡ true
        → masked_of control ≡ control
    go true b c d is x y z h = at 0 refl is
    go false true c d x is y z h = at 2 refl is
    go false false true d x y is z h = at 4 refl is
    go false false false true x y z is h = at 6 refl is
    go false false false false x y z w h = absurd (false≢true h)

module _ (entries_limit calls_limit : ℕ) (k : KernelParts) (stage : Stage entries_limit calls_limit k) (outputs : List Output)
    (K : List Entry) (legal : Legal K) (quiet : Quiet K) where
  abbrev Comes : Input → Type 0
  Comes given = K ≡ (ahead k ++ Given given ∷ []) ++ map Written outputs

  abbrev Ready : Type 0
  Ready = (t : ℕ) → is_untaken (ahead k) t ≡ has_untaken k t

  abbrev Then : Command → Type 0
  Then command = Leads k (command ∷ []) (Stands entries_limit calls_limit K)

  -- an open
  pub open_leads : (thread space : ℕ) → Comes (input.Opened thread space) → is_admissible (ahead k) (input.Opened thread space) ≡ true
      → Ready → FindsRoom entries_limit k.history (input.Opened thread space) → Then (Open (number_of thread) space)
  unfolding cause_of Does
  open_leads thread space whole may ready room = leads_one k (after k K) (Open (number_of thread) space) (Opened thread) _ obeys tt
      (stands_after k (input.Opened thread space) outputs K whole legal quiet entries_limit calls_limit stage refl
      (Open (number_of thread) space) (Opened thread) obeys (λ t other. refl) (λ t other. ready t) own)
    where
      parts : MayOpen k.history thread space
      parts = opens_parts k.history thread space (admitted k (input.Opened thread space) refl may)

      obeys : Obeys k (Open (number_of thread) space) (Opened thread) (after k K)
      obeys = obeys_by k (after k K) (Open (number_of thread) space) (Opened thread)
          (open_allowed k (number_of thread) space parts.range parts.free (version_of thread) parts.next
          (not_full k _ entries_limit stage.entries_limit_is room))
          (record {
            number_is = refl;
            version_is = parts.next;
            takes = takes k (input.Opened thread space) outputs K whole legal quiet;
            taken = refl;
          })

      -- who did not live has nothing to take
      had_none : has_untaken k thread ≡ false
      had_none = dead_untaken k thread (false_from_ne_true _ (λ live.
          not_both (taken k.history thread (live_opened k.history thread live) live) parts.free))

      idle : has_untaken (after k K) thread ≡ false
      idle = untaken_falls k (after k K) (Open (number_of thread) space) (Opened thread) thread stage.sound
          (stays_sound k (Open (number_of thread) space) (Opened thread) (after k K) stage.sound (inl obeys)) (inl obeys) refl had_none

      own : (t : ℕ) → (thread == t) ≡ true → false ≡ has_untaken (after k K) t
      own t acts = sym idle ∙ ap (has_untaken (after k K)) (eqb-true thread t acts)

  -- a call
  pub call_leads : (n thread : ℕ) (call : CallParts) → Comes (input.Called n thread call)
      → is_admissible (ahead k) (input.Called n thread call) ≡ true → ReadyBut k thread
      → FindsRoom entries_limit k.history (input.Called n thread call) → calls_made k.history + 1 ≤ calls_limit → Then (Enter thread call)
  unfolding cause_of Does
  call_leads n thread call whole may ready room few = leads_one k (after k K) (Enter thread call) (Entered n) _ obeys tt
      (stands_after k (input.Called n thread call) outputs K whole legal quiet entries_limit calls_limit stage refl (Enter thread call)
      (Entered n) obeys (λ t other. other) (λ t other. ready.others t other) own)
    where
      parts : (is_free k.history thread ≡ true) × (n ≡ calls_made k.history + 1)
      parts = call_parts k.history n thread call (admitted k (input.Called n thread call) refl may)

      obeys : Obeys k (Enter thread call) (Entered n) (after k K)
      obeys = obeys_by k (after k K) (Enter thread call) (Entered n)
          (entered k thread call (free_parts k.history thread parts.0).0 (busy_is k thread stage.sound ∙ ready.idle)
          (omega (arith, few, stage.calls_limit_is)) (not_full k _ entries_limit stage.entries_limit_is room))
          (record { number_is = parts.1; takes = takes k (input.Called n thread call) outputs K whole legal quiet; taken = refl })

      sound : IsSound (after k K)
      sound = stays_sound k (Enter thread call) (Entered n) (after k K) stage.sound (inl obeys)

      busy : has_untaken (after k K) thread ≡ true
      busy = sym (busy_is (after k K) thread sound)
          ∙ entered_is_busy k (after k K) n thread call stage.sound sound
          (record { number_is = parts.1; takes = takes k (input.Called n thread call) outputs K whole legal quiet; taken = refl })

      own : (t : ℕ) → (thread == t) ≡ true → true ≡ has_untaken (after k K) t
      own t acts = sym busy ∙ ap (has_untaken (after k K)) (eqb-true thread t acts)

  -- an ExchangeRegisters
  pub exreg_leads : (thread target control : ℕ) → Comes (input.Exreg thread target control)
      → is_admissible (ahead k) (input.Exreg thread target control) ≡ true → ReadyBut k thread
      → FindsRoom entries_limit k.history (input.Exreg thread target control) → Then (Exreg thread target control)
  unfolding cause_of Does
  exreg_leads thread target control whole may ready room =
      leads_one k (after k K) (Exreg thread target control) (Exchanged (exreg_answer k.history thread target)) _ obeys tt
      (stands_after k (input.Exreg thread target control) outputs K whole legal quiet entries_limit calls_limit stage refl
      (Exreg thread target control) (Exchanged (exreg_answer k.history thread target)) obeys (λ t other. refl)
      (λ t other. ready.others t other) own)
    where
      parts : (is_free k.history thread ≡ true) × (is_masked control ≡ true)
      parts = exreg_parts k.history thread target control (admitted k (input.Exreg thread target control) refl may)

      obeys : Obeys k (Exreg thread target control) (Exchanged (exreg_answer k.history thread target)) (after k K)
      obeys = obeys_by k (after k K) (Exreg thread target control) (Exchanged (exreg_answer k.history thread target))
          (exreg_allowed k thread (free_parts k.history thread parts.0).0 (busy_is k thread stage.sound ∙ ready.idle)
          (not_full k _ entries_limit stage.entries_limit_is room))
          (record {
            answer_is = refl;
            takes = subst (λ c. Takes k (after k K) (input.Exreg thread target c)) (sym (masked_same control parts.1))
                (takes k (input.Exreg thread target control) outputs K whole legal quiet);
            taken = refl;
          })

      sound : IsSound (after k K)
      sound = stays_sound k (Exreg thread target control) _ (after k K) stage.sound (inl obeys)

      idle : has_untaken (after k K) thread ≡ false
      idle = untaken_falls k (after k K) (Exreg thread target control) _ thread stage.sound sound (inl obeys) refl ready.idle

      own : (t : ℕ) → (thread == t) ≡ true → false ≡ has_untaken (after k K) t
      own t acts = sym idle ∙ ap (has_untaken (after k K)) (eqb-true thread t acts)

  -- the end of a thread
  pub broke_leads : (thread : ℕ) → Comes (input.Broke thread) → is_admissible (ahead k) (input.Broke thread) ≡ true → Ready
      → Then (Broke thread)
  unfolding cause_of Does
  broke_leads thread whole may ready = leads_one k (after k K) (Broke thread) Done _ obeys tt
      (stands_after k (input.Broke thread) outputs K whole legal quiet entries_limit calls_limit stage refl (Broke thread) Done obeys
      (λ t other. refl) (λ t other. ready t) own)
    where
      live : is_live k.history thread ≡ true
      live = broke_part k.history thread (admitted k (input.Broke thread) refl may)

      obeys : Obeys k (Broke thread) Done (after k K)
      obeys = obeys_by k (after k K) (Broke thread) Done (rw live refl)
          (record { takes = takes k (input.Broke thread) outputs K whole legal quiet; taken = refl; room = refl })

      own : (t : ℕ) → (thread == t) ≡ true → false ≡ has_untaken (after k K) t
      own t acts =
          sym (ended_untaken (after k K) t (ap (λ H. has_broken H t) whole ∙ ended_in (ahead k) (map Written outputs) thread t acts))

  -- a copy
  pub move_leads : (n count : ℕ) → Comes (input.Moved n count) → is_admissible (ahead k) (input.Moved n count) ≡ true → Ready
      → Then Advance
  unfolding cause_of Does
  move_leads n count whole may ready = leads_one k (after k K) Advance (Advanced Moved) _ obeys tt
      (stands_after k (input.Moved n count) outputs K whole legal quiet entries_limit calls_limit stage refl Advance (Advanced Moved)
      obeys (λ t other. refl) (λ t other. ready t) (λ t acts. absurd (false≢true acts)))
    where
      parts : (next_moving k.history ≡ Some n) × (count ≡ block_of k.history n)
      parts = move_parts k.history n count (admitted k (input.Moved n count) refl may)

      obeys : Obeys k Advance (Advanced Moved) (after k K)
      obeys = obeys_by k (after k K) Advance (Advanced Moved) refl
          (record {
            number = n;
            is_next = parts.0;
            takes = subst (λ c. Takes k (after k K) (input.Moved n c)) parts.1
                (takes k (input.Moved n count) outputs K whole legal quiet);
            taken = refl;
            room = refl;
          })
