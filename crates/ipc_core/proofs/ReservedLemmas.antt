-- The room that is made for a command, and the kernel after the command took it.
use Rattle.std.proofs.lemmas.Bool.{le-ltb, lt-ltb, ltb-true, ltb-false}
use Rattle.std.proofs.lemmas.List.Sums.{sum_by-cons}
use Rattle.std.proofs.Common.{◌≡◌, sym, ap, ◌∙◌, subst, ℕ, ◌+◌, ◌-◌, ◌*◌, ◌/◌, ◌<◌, ◌≤◌, ◌==◌, if◌then◌else◌, Bool, true, false, not, cond, List, [], ◌∷◌, length, IsTrue, Option, Some, None, IfSome, sum_by, arith}
use Rattle.std.specs.Prelude.{◌↔◌}
use Rattle.ipc_core.specs.CourseParts.{CourseParts}
use Rattle.ipc_history.specs.Legal.{Legal, is_admissible}
use Rattle.ipc_history.specs.Settled.{Settled}
use Rattle.ipc_history.specs.declared.entry.Entry.{Entry}
use Rattle.ipc_history.specs.declared.entry.Input.{Input}
use Rattle.ipc_laws.specs.Counting.{live_threads, open_calls, pledge_of, pledged, room_owed}
use Rattle.ipc_laws.proofs.Normal.{normal_message}
use Rattle.ipc_laws.proofs.OpenCalls.{open_bound}
use Rattle.ipc_laws.proofs.Pledge.{pledge_covers}
use Rattle.ipc_words.specs.Limits.{block_bytes, max_string_bytes, pledge_of_block, pledge_of_open_call, pledge_of_thread}
use Rattle.ipc_words.specs.ThreadId.{nilthread}
use Rattle.ipc_history.specs.Blocks.{blocks}
use Rattle.ipc_history.specs.Calls.{message_size, numbers, to_of}
use Rattle.ipc_history.specs.Phases.{is_over}
use Rattle.ipc_core.specs.CommandRoom.{command_need, is_clock}
use Rattle.ipc_core.specs.Invariants.{IsKernel, Stands}
use Rattle.ipc_core.specs.KernelParts.{KernelParts}
use Rattle.ipc_core.specs.Room.{is_full}
use Rattle.ipc_core.specs.Steps.{Takes, with_input}
use Rattle.ipc_core.proofs.KernelLemmas.{kernel_after}

-- the history is full where what is left is less than what is pledged and needed
pub full_where : (kernel : KernelParts) (need left live calls : ℕ) (P : Type 0) → left + length kernel.history ≡ kernel.entries_limit → live ≡ live_threads kernel.history → calls ≡ sum_by (pledge_of kernel.history) (numbers kernel.history) → (P ↔ (left < 2 * live + calls + need)) → P ↔ IsTrue (is_full kernel need)
unfolding is_full pledged
full_where kernel need left live calls P split live_is calls_are less = (
  λ p. (let over : left < 2 * live + calls + need = less.0 p in lt-ltb _ _ (omega arith)),
  λ full. less.1 (let over = ltb-true kernel.entries_limit (length kernel.history + pledged kernel.history + need) full in omega arith),
)

-- and there is room made for what is pledged and needed
pub room_where : (H : List Entry) (need live calls : ℕ) (found : Option ℕ) → live ≡ live_threads H → calls ≡ sum_by (pledge_of H) (numbers H) → IfSome found (λ room. room ≡ 2 * live + calls + need) → IfSome found (λ room. pledged H + need ≤ room)
unfolding pledged
room_where H need live calls None live_is calls_are none = none
room_where H need live calls (Some room) live_is calls_are some = let same : room ≡ 2 * live + calls + need = some in omega arith

-- the most that is pledged for an open call, and for a live thread with its call
abbrev most_of_call : ℕ
most_of_call = pledge_of_open_call + pledge_of_block * (max_string_bytes / block_bytes)

abbrev pub most_of_thread : ℕ
most_of_thread = pledge_of_thread + most_of_call

-- no thread has more pledged than this
call_most : (H : List Entry) → Legal H → (n : ℕ) → pledge_of H n ≤ most_of_call * cond (not (is_over H n)) 1 0
unfolding pledge_of
call_most H legal n = go (is_over H n) (to_of H n == nilthread)
  where
    go : (over none : Bool) → (if over then 0 else 5 + 2 * (if none then 0 else blocks (message_size H n))) ≤ most_of_call * cond (not over) 1 0
    go true none = omega arith
    go false true = omega arith
    go false false = let size = (normal_message H legal n).size in omega arith

most_in_all : (f g : ℕ → ℕ) (xs : List ℕ) → ((x : ℕ) → f x ≤ most_of_call * g x) → sum_by f xs ≤ most_of_call * sum_by g xs
most_in_all f g [] h = omega arith
most_in_all f g (x ∷ xs) h = omega (arith, most_in_all f g xs h, h x, sum_by-cons f x xs, sum_by-cons g x xs)

calls_most : (H : List Entry) → Legal H → sum_by (pledge_of H) (numbers H) ≤ most_of_call * open_calls H
unfolding open_calls
calls_most H legal = most_in_all (pledge_of H) (λ n. cond (not (is_over H n)) 1 0) (numbers H) (call_most H legal)

pub pledged_most : (H : List Entry) → Legal H → pledged H ≤ most_of_thread * live_threads H
unfolding pledged
pledged_most H legal = omega (arith, calls_most H legal, open_bound H legal)

pub room_most : (kernel : KernelParts) (need left live : ℕ) → Legal kernel.history → left + length kernel.history ≡ kernel.entries_limit → live ≡ live_threads kernel.history → need ≤ left → most_of_thread * live ≤ left - need → is_full kernel need ≡ false
unfolding is_full
room_most kernel need left live legal split live_is fits most = let bound = pledged_most kernel.history legal in le-ltb _ _ (omega arith)

-- what is pledged and needed fits where the history is not full
pub within_where : (kernel : KernelParts) (need : ℕ) → is_full kernel need ≡ false → length kernel.history + pledged kernel.history + need ≤ kernel.entries_limit
unfolding is_full
within_where kernel need not_full = ltb-false _ _ not_full

-- a kernel whose course has room for a need
pub record HasRoomFor (entries_limit calls_limit moment : ℕ) (course : CourseParts) (need : ℕ) : Type 0 where
  pub kernel : IsKernel entries_limit calls_limit moment course
  pub within : length course.entries + room_owed course.entries + need ≤ entries_limit
  pub fits : length course.entries + room_owed course.entries + need ≤ course.room

-- the same entries, with more room
kernel_kept : (entries_limit calls_limit moment : ℕ) (old kept : CourseParts) → IsKernel entries_limit calls_limit moment old → kept.entries ≡ old.entries → old.room ≤ kept.room → IsKernel entries_limit calls_limit moment kept
kernel_kept entries_limit calls_limit moment old kept kernel same more = record {
  stands = subst (λ H. Stands H entries_limit moment) (sym same) kernel.stands;
  room = subst (λ H. length H + room_owed H ≤ kept.room) (sym same) (let room = kernel.room in omega arith);
  few_entries = kernel.few_entries;
  few_calls = kernel.few_calls;
}

-- what is pledged and needed was reserved
module _ (view kernel : KernelParts) (old kept : CourseParts) (need : ℕ) (view_is : view ≡ kernel) where
  pub reserved : IsKernel view.entries_limit view.calls_limit view.moment old → old.entries ≡ view.history → kept.entries ≡ old.entries → old.room ≤ kept.room → is_full kernel need ≡ false → length kept.entries + (pledged kept.entries + need) ≤ kept.room → HasRoomFor view.entries_limit view.calls_limit view.moment kept need
  reserved stood before same more not_full made =
      let history : kept.entries ≡ kernel.history = same ∙ (before ∙ ap (λ k. k.history) view_is) in
      let limit : view.entries_limit ≡ kernel.entries_limit = ap (λ k. k.entries_limit) view_is in
      let stands = kernel_kept view.entries_limit view.calls_limit view.moment old kept stood same more in
      let within = within_where kernel need not_full in
      let covers = pledge_covers kept.entries stands.stands.legal in
      let pledge : pledged kept.entries ≡ pledged kernel.history = ap pledged history in
      let count : length kept.entries ≡ length kernel.history = ap length history in
      record { kernel = stands; within = omega arith; fits = omega arith }

-- a kernel that took an input for which it had room
pub kernel_took : (entries_limit calls_limit moment : ℕ) (old new : CourseParts) (input : Input) → HasRoomFor entries_limit calls_limit moment old (command_need input) → IsTrue (is_admissible old.entries input) → is_clock input ≡ false → Settled (with_input old.entries moment input) new.entries → new.room ≡ old.room → length new.entries + room_owed new.entries ≤ length old.entries + room_owed old.entries + command_need input → IsKernel entries_limit calls_limit moment new
kernel_took entries_limit calls_limit moment old new input had admissible no_clock settled same spent = kernel_after entries_limit calls_limit moment old new input had.kernel admissible no_clock had.within (let fits = had.fits in omega arith) settled spent

-- and what it did
pub takes_input : (view old new : KernelParts) (kept : CourseParts) (given input : Input) → view ≡ old → kept.entries ≡ view.history → given ≡ input → Settled (with_input kept.entries view.moment given) new.history → Legal new.history → new.since ≡ length kept.entries → new.moment ≡ view.moment → new.entries_limit ≡ view.entries_limit → new.calls_limit ≡ view.calls_limit → new.held ≡ view.held → view.room ≤ new.room → Takes old new input
takes_input view old new kept given input view_is same is_input settled legal since moment entries_limit calls_limit held room = subst (λ k. Takes k new input) view_is (record {
  history = subst (λ i. Settled (with_input view.history view.moment i) new.history) is_input (subst (λ H. Settled (with_input H view.moment given) new.history) same settled);
  legal = λ was. legal;
  since = since ∙ ap length same;
  moment = moment;
  entries_limit = entries_limit;
  calls_limit = calls_limit;
  held = held;
  room = room;
})
