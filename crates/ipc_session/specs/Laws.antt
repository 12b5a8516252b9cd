-- What holds of what is served.
use Rattle.std.specs.Prelude.{◌≡◌, List, [], ◌∷◌, Result}
use Rattle.ipc_frame.specs.declared.fault.FrameFault.{FrameFault}
use Rattle.ipc_connection.specs.declared.heard.Heard.{Heard}
use Rattle.ipc_connection.specs.KernelCalls.{Asks, Breaks, KernelCall, Posts}
use Rattle.ipc_connection.specs.declared.replying.Told.{Told}
use Rattle.ipc_session.specs.Serving.{ServesAll}
use Rattle.ipc_session.specs.declared.turned.Turned.{Turned}

-- what a kernel port answered, in order
abbrev pub answers_in : List KernelCall → List Told
answers_in [] = []
answers_in (Asks request told ∷ calls) = told ∷ answers_in calls
answers_in (Posts frame ∷ calls) = answers_in calls
answers_in (Breaks ∷ calls) = answers_in calls

-- what was heard and what the kernel port answered determine all its calls, and where the
-- connection then stands
abbrev pub AnswersDetermine : Type 0
AnswersDetermine = (before after other : Turned) (heard : List (Result Heard FrameFault)) (calls others : List KernelCall)
    → ServesAll before heard calls after → ServesAll before heard others other → answers_in calls ≡ answers_in others
    → (calls ≡ others) × (after ≡ other)
