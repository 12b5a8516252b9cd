-- Which cause a refusal has.
use Rattle.std.proofs.lemmas.Bool.{le-ltb, ltb-false, false_from_ne_true, true≢false}
use Rattle.std.proofs.Common.{◌≡◌, refl, ℕ, ◌||◌, Bool, true, false, Option, Some, None, is_some, nat_lt, arith}
use Rattle.ipc_words.specs.Limits.{max_space, max_thread_number}
use Rattle.ipc_history.specs.Threads.{is_live, is_taken, next_version}
use Rattle.ipc_history.specs.Phases.{open_call}
use Rattle.ipc_laws.proofs.Tests.{neither_left}
use Rattle.ipc_core.specs.KernelParts.{KernelParts}
use Rattle.ipc_core.specs.Ranges.{is_out_of_range}
use Rattle.ipc_core.specs.Room.{is_full, open_need, exreg_need}
use Rattle.ipc_core.specs.Refusals.{open_refusal, exreg_refusal}
use Rattle.ipc_core.specs.Outcomes.{is_busy}
use Rattle.ipc_core.specs.declared.refusal.Refusal.TheVariants.{BadNumber, NumberTaken, NumberWorn, HistoryFull, NoThread, Busy}
use Rattle.ipc_core.proofs.OpeningLemmas.{InRange}

-- Busy

no_call : (o : Option ℕ) → is_some o ≡ false → o ≡ None
no_call o none = grind arith

pub idle_no_call : (kernel : KernelParts) (thread : ℕ) → is_busy kernel thread ≡ false → open_call kernel.history thread ≡ None
unfolding is_busy
idle_no_call kernel thread idle = no_call _ (neither_left _ _ idle)

-- what holds only where nothing fails does not hold
pub not_since : (b : Bool) → (b ≡ true → true ≡ false) → b ≡ false
not_since b h = false_from_ne_true b (λ e. true≢false (h e))

-- Opens

range_tests : (number space : ℕ) → InRange number space → (nat_lt number 1 || nat_lt max_thread_number number || nat_lt space 1 || nat_lt max_space space) ≡ false
range_tests number space range = rw (le-ltb number 1 range.least, le-ltb max_thread_number number range.most, le-ltb space 1 range.inner, le-ltb max_space space range.outer) refl

none_passes : (a b c d : Bool) → (a || b || c || d) ≡ false → (a ≡ false) × (b ≡ false) × (c ≡ false) × (d ≡ false)
none_passes true b c d none = (cc, cc, cc, cc)
none_passes false true c d none = (cc, cc, cc, cc)
none_passes false false true d none = (cc, cc, cc, cc)
none_passes false false false d none = (refl, refl, refl, none)

pub range_from : (number space : ℕ) → is_out_of_range number space ≡ false → InRange number space
range_from number space tests =
    let each = none_passes (nat_lt number 1) (nat_lt max_thread_number number) (nat_lt space 1) (nat_lt max_space space) tests in
    record { least = ltb-false number 1 each.0; most = ltb-false max_thread_number number each.1; inner = ltb-false space 1 each.2; outer = ltb-false max_space space each.3 }

module _ (kernel : KernelParts) (number space : ℕ) where
  pub open_bad : is_out_of_range number space ≡ true → open_refusal kernel number space ≡ Some BadNumber
  unfolding open_refusal
  open_bad out = rw out refl

  module _ (range : InRange number space) where
    pub open_taken : is_taken kernel.history number ≡ true → open_refusal kernel number space ≡ Some NumberTaken
    unfolding open_refusal
    open_taken taken = rw (range_tests number space range, taken) refl

    module _ (free : is_taken kernel.history number ≡ false) where
      pub open_worn : next_version kernel.history number ≡ None → open_refusal kernel number space ≡ Some NumberWorn
      unfolding open_refusal
      open_worn worn = rw (range_tests number space range, free, worn) refl

      pub open_full : (version : ℕ) → next_version kernel.history number ≡ Some version → is_full kernel open_need ≡ true → open_refusal kernel number space ≡ Some HistoryFull
      unfolding open_refusal
      open_full version next full = rw (range_tests number space range, free, next, full) refl

      pub open_allowed : (version : ℕ) → next_version kernel.history number ≡ Some version → is_full kernel open_need ≡ false → open_refusal kernel number space ≡ None
      unfolding open_refusal
      open_allowed version next not_full = rw (range_tests number space range, free, next, not_full) refl

-- ExchangeRegisters

module _ (kernel : KernelParts) (thread : ℕ) where
  pub exreg_no_thread : is_live kernel.history thread ≡ false → exreg_refusal kernel thread ≡ Some NoThread
  unfolding exreg_refusal
  exreg_no_thread gone = rw gone refl

  module _ (live : is_live kernel.history thread ≡ true) where
    pub exreg_busy : is_busy kernel thread ≡ true → exreg_refusal kernel thread ≡ Some Busy
    unfolding exreg_refusal
    exreg_busy busy = rw (live, busy) refl

    pub exreg_full : is_busy kernel thread ≡ false → is_full kernel exreg_need ≡ true → exreg_refusal kernel thread ≡ Some HistoryFull
    unfolding exreg_refusal
    exreg_full idle full = rw (live, idle, full) refl

    pub exreg_allowed : is_busy kernel thread ≡ false → is_full kernel exreg_need ≡ false → exreg_refusal kernel thread ≡ None
    unfolding exreg_refusal
    exreg_allowed idle not_full = rw (live, idle, not_full) refl
