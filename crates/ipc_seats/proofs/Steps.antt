-- A seat that nobody touched, and what a reader is told of its step.
use Rattle.std.proofs.Common.{ℕ, Option, Some, None, refl}
use Rattle.ipc_core.specs.declared.command.Answer.{Answer}
use Rattle.ipc_core.specs.declared.command.Answer.TheVariants as answer
use Rattle.ipc_frame.specs.declared.version.WireVersion.{WireVersion}
use Rattle.ipc_connection.specs.Asking.{command_of, version_asked}
use Rattle.ipc_connection.specs.Replying.{told_of}
use Rattle.ipc_connection.specs.declared.asking.Request.{Request}
use Rattle.ipc_connection.specs.declared.asking.Request.TheVariants as request
use Rattle.ipc_seats.specs.Acting.{AnswersStep, Asked, SitsStill}
use Rattle.ipc_seats.specs.declared.seated.seats.CallSeat.{CallSeat}

-- a seat that nobody touched
pub still : {C : Type 0} (seat : Option (CallSeat C)) → SitsStill seat seat
still None = tt
still (Some seat) = record { thread = refl; made = refl }

-- a reader's request is answered by its seat
pub asked_so : {C : Type 0} (any : WireVersion) (asked : Request) (space moment : ℕ) (said : Answer) (seat after : Option (CallSeat C))
    → AnswersStep seat (command_of asked space) said after → Asked (told_of (version_asked asked any) moment said) asked seat after
unfolding AnswersStep Asked
asked_so any (request.Open number version) space moment (answer.Opened thread) seat after is = (is.0, is.1, refl)
asked_so any (request.Open number version) space moment (answer.Entered entered) seat after is = absurd is
asked_so any (request.Open number version) space moment (answer.Exchanged exchanged) seat after is = absurd is
asked_so any (request.Open number version) space moment answer.Done seat after is = absurd is
asked_so any (request.Open number version) space moment (answer.Advanced advance) seat after is = absurd is
asked_so any (request.Open number version) space moment (answer.Taken outcome) seat after is = absurd is
asked_so any (request.Open number version) space moment (answer.Refused refusal) seat after is = is
asked_so any (request.Enter thread call) space moment (answer.Opened opened) seat after is = absurd is
asked_so any (request.Enter thread call) space moment (answer.Entered entered) seat after is = is
asked_so any (request.Enter thread call) space moment (answer.Exchanged exchanged) seat after is = absurd is
asked_so any (request.Enter thread call) space moment answer.Done seat after is = absurd is
asked_so any (request.Enter thread call) space moment (answer.Advanced advance) seat after is = absurd is
asked_so any (request.Enter thread call) space moment (answer.Taken outcome) seat after is = absurd is
asked_so any (request.Enter thread call) space moment (answer.Refused refusal) seat after is = is
asked_so any (request.Exreg thread target control) space moment (answer.Opened opened) seat after is = absurd is
asked_so any (request.Exreg thread target control) space moment (answer.Entered entered) seat after is = absurd is
asked_so any (request.Exreg thread target control) space moment (answer.Exchanged exchanged) seat after is = is
asked_so any (request.Exreg thread target control) space moment answer.Done seat after is = absurd is
asked_so any (request.Exreg thread target control) space moment (answer.Advanced advance) seat after is = absurd is
asked_so any (request.Exreg thread target control) space moment (answer.Taken outcome) seat after is = absurd is
asked_so any (request.Exreg thread target control) space moment (answer.Refused refusal) seat after is = is
