-- The take of an outcome that is there.
use Rattle.std.proofs.Common.{◌≡◌, refl, sym, ap, subst, ◌∙◌, ℕ, Bool, true, false, not, ◌&&◌, ◌||◌, ◌==◌, eq-eqb, eqb-true, List}
use Rattle.std.proofs.Common.{[], ◌∷◌, length, Option, Some, None, inl}
use Rattle.std.specs.Prelude.{option_and_then, unwrap_or, if◌then◌else◌}
use Rattle.std.specs.Option.{option_map_or}
use Rattle.std.proofs.lemmas.Bool.{false≢true, false_from_ne_true}
use Rattle.std.proofs.lemmas.List.Folds.{list_any-append}
use Rattle.std.proofs.lemmas.Option.{none-some}
use Rattle.ipc_history.specs.Words.{first_some}
use Rattle.ipc_history.specs.Calls.{caller_of}
use Rattle.ipc_history.specs.Outcomes.{OutcomeParts, end_moment, outcome_in, outcome_of, nothing, timed}
use Rattle.ipc_history.specs.Phases.{is_over}
use Rattle.ipc_history.specs.Threads.{has_broken, is_live}
use Rattle.ipc_history.specs.declared.entry.Entry.{Entry}
use Rattle.ipc_laws.proofs.Tests.{left, not_both, refuted, right}
use Rattle.ipc_laws.proofs.Endings.{live_unbroken}
use Rattle.ipc_core.specs.KernelParts.{KernelParts}
use Rattle.ipc_core.specs.Laws.{IsSound}
use Rattle.ipc_core.specs.Obeying.{Does, Obeys, cause_of}
use Rattle.ipc_core.specs.Outcomes.{has_untaken, is_among, is_busy, outcome_to_take}
use Rattle.ipc_core.specs.Steps.{taken_after}
use Rattle.ipc_core.specs.declared.command.Answer.TheVariants.{Taken}
use Rattle.ipc_core.specs.declared.command.Command.TheVariants.{Take}
use Rattle.ipc_core.proofs.BusyLaws.{taken_is_idle, busy_is}
use Rattle.ipc_desks.proofs.TakenDesks.{outcome_call}
use Rattle.ipc_core.proofs.SoundLaws.{stays_sound}
use Rattle.ipc_desks.specs.CallsOf.{is_busy as waits, last_call, outcome_to_take as waiting}
use Rattle.ipc_desks.proofs.LastCalls.{last_is}
use Rattle.ipc_shell.specs.Replays.{IsDone}
use Rattle.ipc_shell.proofs.Stages.{Stage}

-- the outcome of a call that is over, while its caller lives
told_of : (H : List Entry) (n : ℕ) → is_over H n ≡ true → has_broken H (caller_of H n) ≡ false
    → (o : OutcomeParts) × (outcome_of H n ≡ Some o)
unfolding outcome_of
told_of H n over alive = (timed (end_moment H n) (unwrap_or (first_some (outcome_in H n) H) (nothing n)), rw (over, alive) refl)

-- what a thread has to take: the outcome of its last call, once that is over
pub record HasLast (k : KernelParts) (thread : ℕ) : Type 0 where
  pub number : ℕ
  pub last : last_call k.history thread ≡ Some number
  pub fresh : is_among number k.taken ≡ false
  pub live : is_live k.history thread ≡ true

pub has_last : (k : KernelParts) (thread : ℕ) → has_untaken k thread ≡ true → HasLast k thread
unfolding has_untaken waits
has_last k thread some = go (last_call k.history thread) refl (right (is_live k.history thread) _ some)
  where
    go : (o : Option ℕ) → last_call k.history thread ≡ o → option_map_or (λ n. not (is_among n k.taken)) o false ≡ true → HasLast k thread
    go None e h = absurd (false≢true h)
    go (Some n) e h =
        record { number = n; last = e; fresh = refuted (is_among n k.taken) h; live = left (is_live k.history thread) _ some }

pub to_take : (k : KernelParts) (thread : ℕ) → IsSound k → (own : HasLast k thread) → is_over k.history own.number ≡ true
    → (o : OutcomeParts) × (outcome_to_take k thread ≡ Some o)
unfolding outcome_to_take waiting
to_take k thread sound own over =
    let caller = (last_is k.history sound.legal thread own.number own.last).0 in
    let told = told_of k.history own.number over (ap (has_broken k.history) caller ∙ live_unbroken k.history thread own.live) in
    (told.0, rw (own.live, own.last, own.fresh) told.1)

-- and what it has not to take
pub not_over : (k : KernelParts) (thread n : ℕ) → last_call k.history thread ≡ Some n → is_over k.history n ≡ false
    → outcome_to_take k thread ≡ None
unfolding outcome_to_take waiting outcome_of
not_over k thread n last running = go (is_live k.history thread)
  where
    inner : (b : Bool) → (if b then None else outcome_of k.history n) ≡ None
    inner true = refl
    inner false = rw running refl

    go : (b : Bool) → (if b then waiting k.history k.taken thread else None) ≡ None
    go false = refl
    go true = rw last (inner (is_among n k.taken))

-- the kernel behind the take
abbrev pub took : KernelParts → ℕ → KernelParts
took k thread = record k { taken = taken_after (outcome_to_take k thread) k.taken; since = length k.history }

pub take_obeys : (k : KernelParts) (thread : ℕ) → Obeys k (Take thread) (Taken (outcome_to_take k thread)) (took k thread)
unfolding Obeys cause_of Does
take_obeys k thread = record { outcome_is = refl; taken = refl }

pub take_done : (k : KernelParts) (thread : ℕ) (o : OutcomeParts) → outcome_to_take k thread ≡ Some o
    → IsDone (Taken (outcome_to_take k thread))
take_done k thread o told = subst (λ o. IsDone (Taken o)) (sym told) tt

module _ (k : KernelParts) (thread : ℕ) (sound : IsSound k) where
  pub took_sound : IsSound (took k thread)
  took_sound = stays_sound k (Take thread) _ (took k thread) sound (inl (take_obeys k thread))

  -- the thread has then nothing to take
  pub took_idle : (o : OutcomeParts) → outcome_to_take k thread ≡ Some o → is_busy (took k thread) thread ≡ false
  took_idle o told =
      taken_is_idle k (took k thread) thread (length k.history) o took_sound told
      (ap (λ o. record k { taken = taken_after o k.taken; since = length k.history }) told)

  pub took_has_none : (o : OutcomeParts) → outcome_to_take k thread ≡ Some o → has_untaken (took k thread) thread ≡ false
  took_has_none o told = sym (busy_is (took k thread) thread took_sound) ∙ took_idle o told

  -- and every other one what it had
  same_among : (t : ℕ) → (thread == t) ≡ false → (n : ℕ) → last_call k.history t ≡ Some n
      → is_among n (taken_after (outcome_to_take k thread) k.taken) ≡ is_among n k.taken
  unfolding outcome_to_take waiting
  same_among t other n last = go (outcome_to_take k thread) refl
    where
      own : (o : OutcomeParts) → (b : Bool)
          → (if b then option_and_then (λ n. if is_among n k.taken then None else outcome_of k.history n) (last_call k.history thread)
          else None) ≡ Some o → caller_of k.history o.call ≡ thread
      own o false h = absurd (none-some o h)
      own o true h = at (last_call k.history thread) refl h
        where
          inner : (n : ℕ) (c : Bool) → last_call k.history thread ≡ Some n → (if c then None else outcome_of k.history n) ≡ Some o
              → caller_of k.history o.call ≡ thread
          inner n true e g = absurd (none-some o g)
          inner n false e g = ap (caller_of k.history) (outcome_call k.history n o g) ∙ (last_is k.history sound.legal thread n e).0

          at : (l : Option ℕ) → last_call k.history thread ≡ l
              → option_and_then (λ n. if is_among n k.taken then None else outcome_of k.history n) l ≡ Some o
              → caller_of k.history o.call ≡ thread
          at None e g = absurd (none-some o g)
          at (Some n) e g = inner n (is_among n k.taken) e g

      go : (o : Option OutcomeParts) → outcome_to_take k thread ≡ o → is_among n (taken_after o k.taken) ≡ is_among n k.taken
      go None e = refl
      go (Some o) e = list_any-append (λ m. m == n) k.taken (o.call ∷ []) ∙ rw apart (or_false (is_among n k.taken))
        where
          apart : (o.call == n) ≡ false
          apart = false_from_ne_true _ (λ same.
              let one : thread ≡ t =
              sym (own o (is_live k.history thread) e)
              ∙ (ap (caller_of k.history) (eqb-true o.call n same) ∙ (last_is k.history sound.legal t n last).0) in
              not_both (eq-eqb thread t one) other)

          or_false : (b : Bool) → (b || (false || false)) ≡ b
          or_false true = refl
          or_false false = refl

  pub took_others : (t : ℕ) → (thread == t) ≡ false → has_untaken (took k thread) t ≡ has_untaken k t
  unfolding has_untaken waits
  took_others t other = ap (λ b. is_live k.history t && b) (go (last_call k.history t) refl)
    where
      go : (l : Option ℕ) → last_call k.history t ≡ l
          → option_map_or (λ n. not (is_among n (taken_after (outcome_to_take k thread) k.taken))) l false ≡ option_map_or
          (λ n. not (is_among n k.taken)) l false
      go None e = refl
      go (Some n) e = ap not (same_among t other n e)

  pub took_others_take : (t : ℕ) → (thread == t) ≡ false → outcome_to_take (took k thread) t ≡ outcome_to_take k t
  unfolding outcome_to_take waiting
  took_others_take t other = ap (λ o. if is_live k.history t then o else None) (go (last_call k.history t) refl)
    where
      go : (l : Option ℕ) → last_call k.history t ≡ l
          → option_and_then (λ n. if is_among n (taken_after (outcome_to_take k thread) k.taken) then None else outcome_of k.history n)
          l ≡ option_and_then (λ n. if is_among n k.taken then None else outcome_of k.history n) l
      go None e = refl
      go (Some n) e = ap (λ b. if b then None else outcome_of k.history n) (same_among t other n e)

  pub took_stage : (entries_limit calls_limit : ℕ) → Stage entries_limit calls_limit k → Stage entries_limit calls_limit (took k thread)
  took_stage entries_limit calls_limit stage = record {
    sound = took_sound;
    entries_limit_is = stage.entries_limit_is;
    calls_limit_is = stage.calls_limit_is;
    past = stage.past;
    closed = stage.closed;
  }
