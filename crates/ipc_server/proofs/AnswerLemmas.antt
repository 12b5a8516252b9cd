-- What the lock tells of a request is an answer to it, as a session asks of a kernel port.
use Rattle.std.specs.Prelude.{Option}
use Rattle.ipc_connection.specs.declared.asking.Request.{Request}
use Rattle.ipc_connection.specs.declared.asking.Request.TheVariants.{Open, Enter, Exreg}
use Rattle.ipc_connection.specs.declared.replying.Told.{Told}
use Rattle.ipc_connection.specs.declared.replying.Told.TheVariants.{Opened, Entered, Exchanged, Refused, Faulted, Left}
use Rattle.ipc_seats.specs.Acting.{Asked}
use Rattle.ipc_seats.specs.declared.seated.seats.CallSeat.{CallSeat}
use Rattle.ipc_session.specs.Serving.{IsAnswer}

pub asked_answers : {C : Type 0} (told : Told) (request : Request) (seat after : Option (CallSeat C)) → Asked told request seat after
    → IsAnswer request told
unfolding Asked
asked_answers (Refused refusal) (Open number version) seat after asked = tt
asked_answers (Refused refusal) (Enter thread call) seat after asked = tt
asked_answers (Refused refusal) (Exreg thread target control) seat after asked = tt
asked_answers (Opened opened named) (Open number version) seat after asked = (asked.1, asked.2)
asked_answers (Opened opened named) (Enter thread call) seat after asked = asked
asked_answers (Opened opened named) (Exreg thread target control) seat after asked = asked
asked_answers Entered (Open number version) seat after asked = asked
asked_answers Entered (Enter thread call) seat after asked = tt
asked_answers Entered (Exreg thread target control) seat after asked = asked
asked_answers (Exchanged result stopped code moment) (Open number version) seat after asked = asked
asked_answers (Exchanged result stopped code moment) (Enter thread call) seat after asked = asked
asked_answers (Exchanged result stopped code moment) (Exreg thread target control) seat after asked = tt
asked_answers (Faulted class number) (Open n version) seat after asked = asked
asked_answers (Faulted class number) (Enter thread call) seat after asked = asked
asked_answers (Faulted class number) (Exreg thread target control) seat after asked = asked
asked_answers Left (Open number version) seat after asked = asked
asked_answers Left (Enter thread call) seat after asked = asked
asked_answers Left (Exreg thread target control) seat after asked = asked
