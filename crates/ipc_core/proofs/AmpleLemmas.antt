-- How much memory a command wants at most, beside what is held.
use Rattle.std.proofs.lemmas.List.{append-nil, length-drop}
use Rattle.std.proofs.Common.{◌≡◌, sym, ap, ◌∙◌, subst, ℕ, ◌+◌, ◌≤◌, List, [], ◌++◌, length, length-append, drop, false, arith}
use Rattle.ipc_base.specs.Memory.{ample_items}
use Rattle.ipc_words.specs.Limits.{max_entries}
use Rattle.ipc_history.specs.Holding.{held_of}
use Rattle.ipc_history.specs.HistoryParts.{HeldParts}
use Rattle.ipc_history.specs.declared.entry.Entry.{Entry}
use Rattle.ipc_laws.specs.Counting.{pledged}
use Rattle.ipc_core.specs.CourseParts.{CourseParts, history_of}
use Rattle.ipc_core.specs.KernelParts.{KernelParts, nothing_held}
use Rattle.ipc_core.specs.Room.{is_full}
use Rattle.ipc_core.proofs.ReservedLemmas.{within_where}

-- what is held grows by no more than the history
held_grows : (H K more : List Entry) (held : HeldParts) → K ≡ H ++ more → length (held.front ++ drop held.whole_from K) + length H ≤ length (held.front ++ drop held.whole_from H) + length K
held_grows H K more held longer =
    let after = length-append held.front (drop held.whole_from K) in
    let before = length-append held.front (drop held.whole_from H) in
    let left = length-drop held.whole_from K in
    let was = length-drop held.whole_from H in
    let size = ap length longer ∙ length-append H more in
    omega (arith, after, before, left, was, size)

-- at first nothing is held
pub fits_none : (limit : ℕ) (course : CourseParts) → course.entries ≡ [] → course.held ≡ nothing_held → limit ≤ max_entries → limit + length (held_of (history_of course)) ≤ max_entries + length course.entries
fits_none limit course empty none least =
    let nothing : length (held_of (history_of course)) ≡ 0 = (λ i. length ((none i).front ++ drop (none i).whole_from (empty i))) in
    omega (arith, nothing, least)

-- so the limit fits where more entries come, and where none does
pub fits_grown : (limit : ℕ) (old new : CourseParts) (more : List Entry) → limit + length (held_of (history_of old)) ≤ max_entries + length old.entries → new.entries ≡ old.entries ++ more → new.held ≡ old.held → limit + length (held_of (history_of new)) ≤ max_entries + length new.entries
fits_grown limit old new more fits longer same =
    let grown = held_grows old.entries new.entries more old.held longer in
    subst (λ (h : HeldParts). limit + length (h.front ++ drop h.whole_from new.entries) ≤ max_entries + length new.entries) (sym same) (omega (arith, grown, fits))

pub fits_same : (limit : ℕ) (old new : CourseParts) → limit + length (held_of (history_of old)) ≤ max_entries + length old.entries → new.entries ≡ old.entries → new.held ≡ old.held → limit + length (held_of (history_of new)) ≤ max_entries + length new.entries
fits_same limit old new fits same held = fits_grown limit old new [] fits (same ∙ sym (append-nil old.entries)) held

-- what the history has room for is no more than ample memory gives
pub ample_where : (limit : ℕ) (kernel : KernelParts) (course : CourseParts) (need : ℕ) → limit ≡ kernel.entries_limit → course.entries ≡ kernel.history → limit + length (held_of (history_of course)) ≤ max_entries + length course.entries → is_full kernel need ≡ false → length (held_of (history_of course)) + (pledged course.entries + need) ≤ ample_items
ample_where limit kernel course need limit_is same fits not_full =
    let within = within_where kernel need not_full in
    let pledge : pledged course.entries ≡ pledged kernel.history = ap pledged same in
    let count : length course.entries ≡ length kernel.history = ap length same in
    omega (arith, within, pledge, count, fits, limit_is)
