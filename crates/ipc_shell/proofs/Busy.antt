-- Who has an outcome to take, or will have one, and who stays so.
use Rattle.std.proofs.Common.{◌≡◌, refl, sym, ◌∙◌, ℕ, ◌+◌, Bool, true, false, not, ◌&&◌, ◌||◌, ◌==◌, List}
use Rattle.std.proofs.Common.{[], ◌∷◌, ◌++◌, arith}
use Rattle.std.specs.List.{list_any}
use Rattle.std.specs.Option.{option_map_or}
use Rattle.std.proofs.lemmas.List.Folds.{list_any-append}
use Rattle.ipc_history.specs.Entries.{breaks}
use Rattle.ipc_history.specs.Threads.{has_broken, is_live, was_opened}
use Rattle.ipc_history.specs.declared.entry.Entry.{Entry}
use Rattle.ipc_history.specs.declared.entry.Entry.TheVariants.{Given}
use Rattle.ipc_history.specs.declared.entry.Input.TheVariants as input
use Rattle.ipc_laws.proofs.Tests.{left, right}
use Rattle.ipc_core.specs.KernelParts.{KernelParts}
use Rattle.ipc_core.specs.Laws.{IsSound, is_call_of}
use Rattle.ipc_core.specs.Obeying.{MayObey}
use Rattle.ipc_core.specs.Outcomes.{has_untaken, is_among}
use Rattle.ipc_core.specs.declared.command.Answer.{Answer}
use Rattle.ipc_core.specs.declared.command.Command.{Command}
use Rattle.ipc_core.proofs.BusyLaws.{idle_stays, busy_is}
use Rattle.ipc_desks.specs.CallsOf.{is_busy as waits, last_call}

-- a thread that ended has nothing to take
pub ended_untaken : (k : KernelParts) (t : ℕ) → has_broken k.history t ≡ true → has_untaken k t ≡ false
unfolding has_untaken is_live
ended_untaken k t broken = rw broken (go (was_opened k.history t) (waits k.history k.taken t))
  where
    go : (a b : Bool) → ((a && not true) && b) ≡ false
    go a b = grind arith

pub ended_in : (P Q : List Entry) (thread t : ℕ) → (thread == t) ≡ true
    → has_broken ((P ++ Given (input.Broke thread) ∷ []) ++ Q) t ≡ true
unfolding has_broken
ended_in P Q thread t same =
    rw (
      list_any-append (breaks t) (P ++ Given (input.Broke thread) ∷ []) Q,
      list_any-append (breaks t) P
          (Given (input.Broke thread) ∷ []),
      same,
    ) (go (list_any (breaks t) P) (list_any (breaks t) Q))
  where
    go : (a b : Bool) → ((a || true) || b) ≡ true
    go a b = grind arith

-- what is kept of a thread over a command that is no call, no end and no take of it
module _ (old new : KernelParts) (command : Command) (answer : Answer) (t : ℕ) (sound : IsSound old) (after : IsSound new)
    (may : MayObey old command answer new) (uncalled : is_call_of t command ≡ false) where
  pub untaken_falls : has_untaken old t ≡ false → has_untaken new t ≡ false
  untaken_falls none =
      sym (busy_is new t after) ∙ idle_stays old command answer new sound after may t uncalled (busy_is old t sound ∙ none)

  pub untaken_same : new.taken ≡ old.taken → last_call new.history t ≡ last_call old.history t
      → (is_live old.history t ≡ true → is_live new.history t ≡ true) → has_untaken new t ≡ has_untaken old t
  unfolding has_untaken waits
  untaken_same taken last lives = go (has_untaken old t) refl
    where
      stays : (is_live old.history t && option_map_or (λ n. not (is_among n old.taken)) (last_call old.history t) false) ≡ true
          → (is_live new.history t && option_map_or (λ n. not (is_among n new.taken)) (last_call new.history t) false) ≡ true
      stays h = rw (last, taken, lives (left _ _ h)) (right _ _ h)

      go : (b : Bool) → has_untaken old t ≡ b → has_untaken new t ≡ has_untaken old t
      go false none = untaken_falls none ∙ sym none
      go true some = stays some ∙ sym some
