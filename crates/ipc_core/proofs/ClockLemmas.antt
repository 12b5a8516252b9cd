-- What keeps a kernel where its clock is set, a thread ends or a block is copied.
use Rattle.std.proofs.Common.{◌≡◌, refl, ◌∙◌, subst, ℕ, ◌+◌, ◌<◌, ◌≤◌, ◌^◌, List, [], ◌∷◌, ◌++◌, Bool, true, false, length, eq-eqb, IsTrue, IsFalse, Some, nat_lt, arith}
use Rattle.std.proofs.lemmas.Bool.{ltb-true, ltb-false}
use Rattle.std.specs.Bool.{MatchBool}
use Rattle.std.specs.List.{list_any}
use Rattle.ipc_core.specs.CourseParts.{CourseParts}
use Rattle.ipc_history.specs.Calls.{numbers}
use Rattle.ipc_history.specs.Blocks.{block_of}
use Rattle.ipc_history.specs.Phases.{is_over}
use Rattle.ipc_history.specs.Threads.{now, is_live}
use Rattle.ipc_history.specs.Timing.{is_due_at}
use Rattle.ipc_history.specs.Legal.{Legal, is_admissible, may_move, next_moving}
use Rattle.ipc_history.specs.Settled.{Settled}
use Rattle.ipc_history.specs.declared.entry.Entry.{Entry}
use Rattle.ipc_history.specs.declared.entry.Entry.TheVariants.{Given}
use Rattle.ipc_history.specs.declared.entry.Input.TheVariants.{At, Broke, Moved}
use Rattle.ipc_laws.specs.Counting.{room_owed}
use Rattle.ipc_laws.proofs.Changing.{changes}
use Rattle.ipc_laws.proofs.Histories.{moving_passes}
use Rattle.ipc_laws.proofs.Tests.{both, not_both}
use Rattle.ipc_core.specs.Invariants.{IsKernel}
use Rattle.ipc_core.specs.KernelParts.{KernelParts}
use Rattle.ipc_core.specs.Effects.{Breaks}
use Rattle.ipc_core.specs.Steps.{Advances, with_input}
use Rattle.ipc_core.proofs.Commands.{clock_legal, now_settled, undue_now}

-- the break of a live thread, and a copy of the least call in transfer, may follow
pub broke_admissible : (H : List Entry) (thread : ℕ) → is_live H thread ≡ true → IsTrue (is_admissible H (Broke thread))
unfolding is_admissible
broke_admissible H thread live = live

pub moved_admissible : (H : List Entry) (n count : ℕ) → next_moving H ≡ Some n → count ≡ block_of H n → IsTrue (is_admissible H (Moved n count))
unfolding is_admissible may_move
moved_admissible H n count next least = both _ _ (rw next (eq-eqb n n refl)) (eq-eqb count _ least)

-- that call is open
pub moving_open : (H : List Entry) (n : ℕ) → next_moving H ≡ Some n → IsFalse (is_over H n)
moving_open H n next = (moving_passes H n (block_of H n) (moved_admissible H n (block_of H n) next refl)).1.opened

-- where no phase is due at a later moment, the clock alone is set
pub kernel_waits : (entries_limit calls_limit moment later : ℕ) (course : CourseParts) → IsKernel entries_limit calls_limit moment course → moment ≤ later → later < 2 ^ 63 → list_any (is_due_at course.entries later) (numbers course.entries) ≡ false → IsKernel entries_limit calls_limit later course
kernel_waits entries_limit calls_limit moment later course kernel onward below undue =
    let stands = kernel.stands in
    record {
      stands = record {
        legal = stands.legal;
        quiet = stands.quiet;
        within = stands.within;
        past = omega arith;
        in_range = below;
        undue = undue;
      };
      room = kernel.room;
      few_entries = kernel.few_entries;
      few_calls = kernel.few_calls;
    }

-- a moment at which a phase is due is later than the history's, and its At may follow
module _ (entries_limit calls_limit moment later : ℕ) (old : CourseParts) (kernel : IsKernel entries_limit calls_limit moment old) (onward : moment ≤ later) (below : later < 2 ^ 63) (due : list_any (is_due_at old.entries later) (numbers old.entries) ≡ true) where
  due_later : now old.entries < later
  due_later = go (nat_lt moment later) refl
    where
      go : (b : Bool) → nat_lt moment later ≡ b → now old.entries < later
      go true after = let past = kernel.stands.past in let more = ltb-true moment later after in omega arith
      go false same =
          let least = ltb-false moment later same in
          let equal : moment ≡ later = omega arith in
          not_both due (subst (λ m. list_any (is_due_at old.entries m) (numbers old.entries) ≡ false) equal kernel.stands.undue)

  pub due_legal : Legal (old.entries ++ Given (At later) ∷ [])
  due_legal = clock_legal old.entries later kernel.stands.legal kernel.stands.quiet due_later below

  -- after that At and its outputs
  pub kernel_ticks : (new : CourseParts) → Settled (old.entries ++ Given (At later) ∷ []) new.entries → new.room ≡ old.room → length new.entries + room_owed new.entries ≤ length old.entries + room_owed old.entries → IsKernel entries_limit calls_limit later new
  kernel_ticks new settled same spent =
      let moment_is : now new.entries ≡ later = now_settled _ _ settled ∙ (changes old.entries (Given (At later))).moment in
      let within = kernel.stands.within in
      let room = kernel.room in
      record {
        stands = record {
          legal = settled.legal due_legal;
          quiet = settled.quiet;
          within = omega arith;
          past = omega arith;
          in_range = below;
          undue = subst (λ m. list_any (is_due_at new.entries m) (numbers new.entries) ≡ false) moment_is (undue_now new.entries settled.quiet);
        };
        room = omega arith;
        few_entries = kernel.few_entries;
        few_calls = kernel.few_calls;
      }

-- what setting the clock to a moment does to a history
abbrev pub Sets : List Entry → ℕ → List Entry → Type 0
Sets H moment new = MatchBool (list_any (is_due_at H moment) (numbers H)) (Settled (H ++ Given (At moment) ∷ []) new) (new ≡ H)

pub sets_due : (H : List Entry) (moment : ℕ) (new : List Entry) → list_any (is_due_at H moment) (numbers H) ≡ true → Settled (H ++ Given (At moment) ∷ []) new → Sets H moment new
sets_due H moment new due settled = rw due settled

pub sets_undue : (H : List Entry) (moment : ℕ) (new : List Entry) → list_any (is_due_at H moment) (numbers H) ≡ false → new ≡ H → Sets H moment new
sets_undue H moment new undue same = rw undue same

-- what the break of a thread does, said of a kernel's view
pub thread_ended : (seen old new : KernelParts) (thread : ℕ) → seen ≡ old → is_live seen.history thread ≡ true → Settled (with_input seen.history seen.moment (Broke thread)) new.history → Legal new.history → new.since ≡ length seen.history → new.moment ≡ seen.moment → new.entries_limit ≡ seen.entries_limit → new.calls_limit ≡ seen.calls_limit → new.held ≡ seen.held → new.room ≡ seen.room → new.taken ≡ seen.taken → IsTrue (is_live old.history thread) × Breaks old new thread
thread_ended seen old new thread same live settled legal since moment entries_limit calls_limit held room taken = subst (λ k. IsTrue (is_live k.history thread) × Breaks k new thread) same (
  live,
  record {
    takes = record { history = settled; legal = λ was. legal; since = since; moment = moment; entries_limit = entries_limit; calls_limit = calls_limit; held = held; room = omega (arith, room) };
    taken = taken;
    room = room;
  },
)

-- and what a copy does
pub advanced : (seen old new : KernelParts) (n count : ℕ) → seen ≡ old → next_moving seen.history ≡ Some n → count ≡ block_of seen.history n → Settled (with_input seen.history seen.moment (Moved n count)) new.history → Legal new.history → new.since ≡ length seen.history → new.moment ≡ seen.moment → new.entries_limit ≡ seen.entries_limit → new.calls_limit ≡ seen.calls_limit → new.held ≡ seen.held → new.room ≡ seen.room → new.taken ≡ seen.taken → Advances old new
advanced seen old new n count same next least settled legal since moment entries_limit calls_limit held room taken = subst (λ k. Advances k new) same (record {
  number = n;
  is_next = next;
  takes = record { history = subst (λ c. Settled (with_input seen.history seen.moment (Moved n c)) new.history) least settled; legal = λ was. legal; since = since; moment = moment; entries_limit = entries_limit; calls_limit = calls_limit; held = held; room = omega (arith, room) };
  taken = taken;
  room = room;
})
