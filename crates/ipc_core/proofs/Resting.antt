-- A kernel after a command that wrote nothing.
use Rattle.std.proofs.Common.{◌≡◌, sym, ap, ◌∙◌, subst, ℕ, ◌+◌, ◌≤◌, false, List, length, Option, IfSome, arith}
use Rattle.ipc_history.specs.HistoryParts.{HeldParts}
use Rattle.ipc_history.specs.declared.entry.Entry.{Entry}
use Rattle.ipc_laws.specs.Counting.{room_owed}
use Rattle.ipc_core.specs.Books.{AreBooks}
use Rattle.ipc_core.specs.CourseParts.{CourseParts}
use Rattle.ipc_core.specs.Invariants.{IsKernel, IsWhole, Stands}
use Rattle.ipc_core.specs.KernelParts.{KernelParts}
use Rattle.ipc_core.specs.Obeying.{rested}
use Rattle.ipc_core.proofs.AmpleLemmas.{fits_same}
use Rattle.ipc_core.proofs.BookLemmas.{books_rest, books_took}
use Rattle.ipc_history.specs.Outcomes.{OutcomeParts}
use Rattle.ipc_core.specs.Outcomes.{IsTaken, is_among}
use Rattle.ipc_core.specs.Steps.{taken_after}

-- a course with the same entries and the same room
pub kernel_same : (entries_limit calls_limit moment : ℕ) (old new : CourseParts) → IsKernel entries_limit calls_limit moment old → new.entries ≡ old.entries → old.room ≤ new.room → IsKernel entries_limit calls_limit moment new
kernel_same entries_limit calls_limit moment old new kernel same more = record {
  stands = subst (λ H. Stands H entries_limit moment) (sym same) kernel.stands;
  room = subst (λ H. length H + room_owed H ≤ new.room) (sym same) (let room = kernel.room in omega (arith, room, more));
  few_entries = kernel.few_entries;
  few_calls = kernel.few_calls;
}

-- where a command has begun and nothing more
pub rests : (entries_limit calls_limit moment : ℕ) (old new : CourseParts) → IsWhole entries_limit calls_limit moment old → new.entries ≡ old.entries → new.room ≡ old.room → new.taken ≡ old.taken → new.since ≡ length old.entries → new.held ≡ old.held → IsWhole entries_limit calls_limit moment new
rests entries_limit calls_limit moment old new whole same room taken since held = record {
  kernel = kernel_same entries_limit calls_limit moment old new whole.kernel same (omega (arith, room));
  books = subst (λ H. AreBooks H new.taken new.since) (sym same) (subst (λ t. AreBooks old.entries t new.since) (sym taken) (books_rest old.entries old.taken new.since old.since since whole.books));
  fits = fits_same entries_limit old new whole.fits same held;
}

-- and what is seen of it then
module _ (seen old : KernelParts) (entries : List Entry) (held : HeldParts) (taken : List ℕ) (since room : ℕ) where
  pub seen_begun : seen ≡ old → entries ≡ seen.history → held ≡ seen.held → taken ≡ seen.taken → since ≡ length seen.history → room ≡ seen.room → record seen { history = entries; held = held; taken = taken; since = since; room = room } ≡ rested old
  seen_begun same entries_are held_is taken_are since_is room_is = (λ i. record seen { history = entries_are i; held = held_is i; taken = taken_are i; since = since_is i; room = room_is i }) ∙ ap rested same

pub begins_rested : (seen old : KernelParts) (new : CourseParts) → seen ≡ old → new.entries ≡ seen.history → new.held ≡ seen.held → new.taken ≡ seen.taken → new.since ≡ length seen.history → new.room ≡ seen.room → record seen { history = new.entries; held = new.held; taken = new.taken; since = new.since; room = new.room } ≡ rested old
begins_rested seen old new same entries held taken since room = seen_begun seen old new.entries new.held new.taken new.since new.room same entries held taken since room

-- after an outcome was taken, or none
pub takes_one : (entries_limit calls_limit moment : ℕ) (old new : CourseParts) (outcome : Option OutcomeParts) → IsWhole entries_limit calls_limit moment old → new.entries ≡ old.entries → new.room ≡ old.room → new.taken ≡ taken_after outcome old.taken → new.since ≡ old.since → IfSome outcome (λ o. IsTaken old.entries o.call) → IfSome outcome (λ o. is_among o.call old.taken ≡ false) → new.held ≡ old.held → IsWhole entries_limit calls_limit moment new
takes_one entries_limit calls_limit moment old new outcome whole same room taken since done fresh held = record {
  kernel = kernel_same entries_limit calls_limit moment old new whole.kernel same (omega (arith, room));
  books = subst (λ H. AreBooks H new.taken new.since) (sym same) (subst (λ s. AreBooks old.entries new.taken s) (sym since) (books_took old.entries old.taken new.taken old.since outcome whole.books taken done fresh));
  fits = fits_same entries_limit old new whole.fits same held;
}

pub seen_took : (seen old : KernelParts) (new : CourseParts) (outcome : Option OutcomeParts) → seen ≡ old → new.entries ≡ seen.history → new.held ≡ seen.held → new.taken ≡ taken_after outcome seen.taken → new.since ≡ seen.since → new.room ≡ seen.room → record seen { history = new.entries; held = new.held; taken = new.taken; since = new.since; room = new.room } ≡ record old { taken = taken_after outcome old.taken }
seen_took seen old new outcome same entries held taken since room = (λ i. record seen { history = entries i; held = held i; taken = taken i; since = since i; room = room i }) ∙ ap (λ (k : KernelParts). record k { taken = taken_after outcome k.taken }) same
