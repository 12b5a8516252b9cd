-- A kernel that has done what the entries so far ask: it has their history, but for the At that it
-- writes with its next input.
use Rattle.std.proofs.Common.{◌≡◌, refl, sym, ap, ◌∙◌, ℕ, ◌≤◌, Bool, true, false, ◌==◌, List, [], ◌∷◌, ◌++◌}
use Rattle.std.proofs.Common.{append-nil, length, map, None, le_refl, inl, arith}
use Rattle.std.specs.Prelude.{nat_lt, if◌then◌else◌}
use Rattle.std.specs.List.{list_any}
use Rattle.std.proofs.lemmas.Bool.{ltb-true, false_from_ne_true}
use Rattle.ipc_history.specs.Words.{last_some}
use Rattle.ipc_history.specs.Entries.{breaks, number_by}
use Rattle.ipc_history.specs.Legal.{Legal, Quiet, is_admissible}
use Rattle.ipc_history.specs.Settled.{Settled}
use Rattle.ipc_history.specs.Threads.{is_live, now}
use Rattle.ipc_history.specs.declared.entry.Entry.{Entry}
use Rattle.ipc_history.specs.declared.entry.Entry.TheVariants.{Given, Written}
use Rattle.ipc_history.specs.declared.entry.Input.{Input}
use Rattle.ipc_history.specs.declared.entry.Input.TheVariants as input
use Rattle.ipc_history.specs.declared.entry.Output.{Output}
use Rattle.ipc_desks.specs.CallsOf.{last_call}
use Rattle.ipc_core.specs.CommandRoom.{is_clock}
use Rattle.ipc_core.specs.KernelParts.{KernelParts}
use Rattle.ipc_core.specs.Laws.{IsSound, is_call_of}
use Rattle.ipc_core.specs.Obeying.{Obeys}
use Rattle.ipc_core.specs.Outcomes.{has_untaken}
use Rattle.ipc_core.specs.Steps.{Takes, at_if_later, with_input}
use Rattle.ipc_core.specs.declared.command.Answer.{Answer}
use Rattle.ipc_core.specs.declared.command.Command.{Command}
use Rattle.ipc_core.proofs.AfterAt.{same_admissible}
use Rattle.ipc_core.proofs.BusyLaws.{clock_call, no_call, outputs_break, outputs_call}
use Rattle.ipc_core.proofs.Commands.{now_settled, now_with_input}
use Rattle.ipc_core.proofs.SoundLaws.{stays_sound}
use Rattle.ipc_exchange.proofs.LiveLemmas.{live_more}
use Rattle.ipc_shell.specs.Replays.{ends_at}
use Rattle.ipc_shell.specs.Script.{is_act, is_call, is_untaken}
use Rattle.ipc_shell.proofs.Untaken.{untaken_act, untaken_other, untaken_written}
use Rattle.ipc_shell.proofs.AtEnds.{ends_push, ends_written, no_at}
use Rattle.ipc_shell.proofs.Busy.{untaken_same}

-- its history, and the At that its next input would bring
abbrev pub ahead : KernelParts → List Entry
ahead k = k.history ++ at_if_later k.history k.moment

pub record Stage (entries_limit calls_limit : ℕ) (k : KernelParts) : Type 0 where
  pub sound : IsSound k
  pub entries_limit_is : k.entries_limit ≡ entries_limit
  pub calls_limit_is : k.calls_limit ≡ calls_limit
  pub past : now k.history ≤ k.moment
  pub closed : ends_at k.history ≡ false

-- and the outcomes that the script has to take are those that its threads have to take
pub record Stands (entries_limit calls_limit : ℕ) (K : List Entry) (k : KernelParts) : Type 0 where
  pub stage : Stage entries_limit calls_limit k
  pub ahead_is : ahead k ≡ K
  pub untaken : (t : ℕ) → is_untaken K t ≡ has_untaken k t

-- or of all threads but one, which has nothing to take
pub record ReadyBut (k : KernelParts) (thread : ℕ) : Type 0 where
  pub others : (t : ℕ) → (thread == t) ≡ false → is_untaken (ahead k) t ≡ has_untaken k t
  pub idle : has_untaken k thread ≡ false

-- a moment that is the history's brings no At
not_later : (H : List Entry) (moment : ℕ) → now H ≡ moment → nat_lt (now H) moment ≡ false
not_later H moment same = false_from_ne_true _ (λ later. absurd (omega (arith, ltb-true (now H) moment later)))

pub ahead_same : (H : List Entry) (moment : ℕ) → now H ≡ moment → H ++ at_if_later H moment ≡ H
ahead_same H moment same = rw (not_later H moment same) (append-nil H)

-- which inputs may follow
pub admitted : (k : KernelParts) (given : Input) → is_clock given ≡ false → is_admissible (ahead k) given ≡ true
    → is_admissible k.history given ≡ true
admitted k given no_clock h = go (nat_lt (now k.history) k.moment) h
  where
    go : (b : Bool) → is_admissible (k.history ++ (if b then Given (input.At k.moment) ∷ [] else [])) given ≡ true
        → is_admissible k.history given ≡ true
    go true h = sym (same_admissible k.history k.moment given no_clock) ∙ h
    go false h = ap (λ l. is_admissible l given) (sym (append-nil k.history)) ∙ h

-- what a kernel is after an input, which brought these outputs
abbrev pub after : KernelParts → List Entry → KernelParts
after k K = record k { history = K; since = length k.history }

module _ (k : KernelParts) (given : Input) (outputs : List Output) (K : List Entry)
    (whole : K ≡ (ahead k ++ Given given ∷ []) ++ map Written outputs) (legal : Legal K) (quiet : Quiet K) where
  settled : Settled (with_input k.history k.moment given) K
  settled = record { outputs = outputs; appended = whole; legal = λ before. legal; quiet = quiet }

  pub takes : Takes k (after k K) given
  takes = record {
    history = settled;
    legal = λ before. legal;
    since = refl;
    moment = refl;
    entries_limit = refl;
    calls_limit = refl;
    held = refl;
    room = le_refl k.room;
  }

  module _ (entries_limit calls_limit : ℕ) (stage : Stage entries_limit calls_limit k) (no_clock : is_clock given ≡ false)
      (command : Command) (answer : Answer) (obeys : Obeys k command answer (after k K)) where
    moment_is : now K ≡ k.moment
    moment_is = now_settled _ _ settled ∙ now_with_input k.history k.moment given no_clock stage.past

    sound_after : IsSound (after k K)
    sound_after = stays_sound k command answer (after k K) stage.sound (inl obeys)

    pub stage_after : Stage entries_limit calls_limit (after k K)
    stage_after = record {
      sound = sound_after;
      entries_limit_is = stage.entries_limit_is;
      calls_limit_is = stage.calls_limit_is;
      past = omega (arith, moment_is);
      closed =
          ap ends_at whole
          ∙ ends_written (ahead k ++ Given given ∷ []) outputs (ends_push (ahead k) (Given given) ∙ no_at given no_clock);
    }

    pub ahead_after : ahead (after k K) ≡ K
    ahead_after = ahead_same K k.moment moment_is

    -- a thread of which the input is no act
    number_other : (given : Input) (t : ℕ) → is_act t (Given given) ≡ false → last_some (number_by t) (Given given ∷ []) ≡ None
    number_other (input.Called n caller call) t other = rw other refl
    number_other (input.At moment) t other = refl
    number_other (input.Opened thread space) t other = refl
    number_other (input.Exreg thread target control) t other = refl
    number_other (input.Broke thread) t other = refl
    number_other (input.Moved n count) t other = refl

    ends_other : (given : Input) (t : ℕ) → is_act t (Given given) ≡ false → list_any (breaks t) (Given given ∷ []) ≡ false
    ends_other (input.Broke thread) t other = rw other refl
    ends_other (input.Called n caller call) t other = refl
    ends_other (input.At moment) t other = refl
    ends_other (input.Opened thread space) t other = refl
    ends_other (input.Exreg thread target control) t other = refl
    ends_other (input.Moved n count) t other = refl

    clock_ends : (t : ℕ) → list_any (breaks t) (at_if_later k.history k.moment) ≡ false
    clock_ends t = go (nat_lt (now k.history) k.moment) refl
      where
        go : (b : Bool) → nat_lt (now k.history) k.moment ≡ b → list_any (breaks t) (at_if_later k.history k.moment) ≡ false
        go true e = rw e refl
        go false e = rw e refl

    last_other : (t : ℕ) → is_act t (Given given) ≡ false → last_call K t ≡ last_call k.history t
    last_other t other =
        ap (λ H. last_call H t) whole
        ∙ (no_call (ahead k ++ Given given ∷ []) (map Written outputs) t (outputs_call outputs t)
        ∙ (no_call (ahead k) (Given given ∷ []) t (number_other given t other)
        ∙ no_call k.history (at_if_later k.history k.moment) t (clock_call k.history k.moment t)))

    lives_other : (t : ℕ) → is_act t (Given given) ≡ false → is_live k.history t ≡ true → is_live K t ≡ true
    lives_other t other live =
        ap (λ H. is_live H t) whole
        ∙ live_more (ahead k ++ Given given ∷ []) (map Written outputs) t (outputs_break outputs t)
        (live_more (ahead k) (Given given ∷ []) t (ends_other given t other)
        (live_more k.history (at_if_later k.history k.moment) t (clock_ends t) live))

    -- what it has to take stays
    untaken_kept : (t : ℕ) → is_act t (Given given) ≡ false → is_call_of t command ≡ false → has_untaken (after k K) t ≡ has_untaken k t
    untaken_kept t other uncalled =
        untaken_same k (after k K) command answer t stage.sound sound_after (inl obeys) uncalled refl (last_other t other)
        (lives_other t other)

    seen_after : (t : ℕ) → is_untaken K t ≡ is_untaken (ahead k ++ Given given ∷ []) t
    seen_after t = ap (λ H. is_untaken H t) whole ∙ untaken_written (ahead k ++ Given given ∷ []) outputs t

    -- so the script goes on as its threads do, where it does for those whose act the input is
    pub stands_after : ((t : ℕ) → is_act t (Given given) ≡ false → is_call_of t command ≡ false)
        → ((t : ℕ) → is_act t (Given given) ≡ false → is_untaken (ahead k) t ≡ has_untaken k t)
        → ((t : ℕ) → is_act t (Given given) ≡ true → is_call (Given given) ≡ has_untaken (after k K) t)
        → Stands entries_limit calls_limit K (after k K)
    stands_after uncalled others own = record {
      stage = stage_after;
      ahead_is = ahead_after;
      untaken = λ t. go t (is_act t (Given given)) refl;
    }
      where
        go : (t : ℕ) (b : Bool) → is_act t (Given given) ≡ b → is_untaken K t ≡ has_untaken (after k K) t
        go t true acts = seen_after t ∙ (untaken_act (ahead k) (Given given) t acts ∙ own t acts)
        go t false other =
            seen_after t
            ∙ (untaken_other (ahead k) (Given given) t other ∙ (others t other ∙ sym (untaken_kept t other (uncalled t other))))
