-- A part that is told of the history under the lock.
use Rattle.std.proofs.Common.{ℕ, Option, Some, None, Result, Ok, Err}
use Rattle.std.specs.Prelude.{IfOk, IfSome}
use Rattle.ipc_history.specs.Legal.{Legal}
use Rattle.ipc_seats.specs.Parting.{IsBehind, IsPartOf}
use Rattle.ipc_seats.specs.declared.events.Event.TheVariants as event
use Rattle.ipc_seats.specs.declared.part.Behind.{Behind}
use Rattle.ipc_seats.specs.declared.part.HeldPart.{HeldPart}
use Rattle.ipc_lock.specs.Above.{EndsAPart, PartOfSome}
use Rattle.ipc_lock.specs.InsideParts.{LoggedParts}
use Rattle.ipc_lock.specs.Turns.{Turned}

pub ends_a_part : {E : Type 0} (C P : Type 0) (result : Result Behind E) (before after : LoggedParts) (place : ℕ) → Turned C P before after event.Parted
    → Legal before.inside.kernel.history → IfOk result (IsBehind before.inside.kernel.history before.inside.kernel.taken place)
    → IfOk result (EndsAPart C P place)
ends_a_part C P (Ok behind) before after place turned legal is =
    record { before = before; after = after; turned = turned; legal = legal; is_behind = is }
ends_a_part C P (Err error) before after place turned legal is = is

pub is_part : {E : Type 0} (C P : Type 0) (result : Result (Option HeldPart) E) (before after : LoggedParts) → Turned C P before after event.Parted
    → Legal before.inside.kernel.history → IfOk result (λ part. IfSome part (IsPartOf before.inside.kernel.history before.inside.kernel.taken))
    → IfOk result (λ part. IfSome part (PartOfSome C P))
is_part C P (Ok (Some part)) before after turned legal is =
    record { before = before; after = after; turned = turned; legal = legal; is_of = is }
is_part C P (Ok None) before after turned legal is = is
is_part C P (Err error) before after turned legal is = is
