-- Which calls of a closed client fail, and how.
use Rattle.std.proofs.Common.{◌≡◌, Bool, true, false, Option, Some, None, Result, Ok, Err, IfOk, IfErr, IfNone, IfSome, OnOk, inr, refl}
use Rattle.ipc_frame.specs.declared.fault.FrameFault.{FrameFault}
use Rattle.ipc_frame.specs.declared.frame.Frame.{Frame}
use Rattle.ipc_frame.specs.declared.frame.Frame.TheVariants as frame
use Rattle.ipc_frame.specs.Making.{ipc_fault}
use Rattle.ipc_frame.specs.Parts.{IpcParts}
use Rattle.ipc_client.specs.ClientParts.{ClientParts}
use Rattle.ipc_client.specs.Asking.{Fails, FailsCall, IsWithheld, answers_call}
use Rattle.ipc_client.specs.declared.answer.Answer.{Answer}
use Rattle.ipc_client.specs.declared.error.ClientError.{ClientError}
use Rattle.ipc_client.specs.declared.error.ClientError.TheVariants as error

abbrev IsSame : Type 0 → ClientError → Type 0
IsSame A e = let failed : Result A ClientError = Err e in failed ≡ Err error.Closed

not_both : {A : Type 0} (b : Bool) → b ≡ false → b ≡ true → A
not_both b is_open is_closed = cc

-- a closed client fails as closed, and is as it was
pub closed_before : {A : Type 0} (is_answer : Frame → Bool) (old new : ClientParts) (asked : Frame)
    (e : ClientError) → Fails is_answer old new asked e → old.is_closed ≡ true → IsSame A e
    × (new ≡ old)
closed_before is_answer old new asked error.Closed h closed = (refl, h.1)
closed_before is_answer old new asked (error.Frame fault) h closed = not_both old.is_closed h.0 closed
closed_before is_answer old new asked (error.Fault class number) h closed = not_both old.is_closed h.0 closed
closed_before is_answer old new asked error.Unexpected h closed = not_both old.is_closed h.0 closed

-- a frame is made of parts that have no fault, and of no others
pub made_ok : (parts : IpcParts) (result : Result IpcParts FrameFault) (fault : Option FrameFault)
    → IfNone fault (result ≡ Ok parts) → IfSome fault (λ f. result ≡ Err f)
    → IfOk result (λ made. made ≡ parts)
made_ok parts result None h k = rw h refl
made_ok parts result (Some f) h k = rw k tt

pub made_fits : (parts : IpcParts) (result : Result IpcParts FrameFault) (fault : Option FrameFault)
    → IfNone fault (result ≡ Ok parts) → IfSome fault (λ f. result ≡ Err f)
    → OnOk result (fault ≡ None)
made_fits parts result None h k = rw h refl
made_fits parts result (Some f) h k = rw k tt

pub made_fault : (parts : IpcParts) (result : Result IpcParts FrameFault) (fault : Option FrameFault)
    → IfNone fault (result ≡ Ok parts) → IfSome fault (λ f. result ≡ Err f)
    → IfErr result (λ f. fault ≡ Some f)
made_fault parts result None h k = rw h tt
made_fault parts result (Some f) h k = rw k refl

-- a call whose parts are within the limits fails as its frame does
fails_call : (old new : ClientParts) (parts : IpcParts) (e : ClientError)
    → Fails (answers_call old.version) old new (frame.Ipc parts) e → FailsCall old new parts e
fails_call old new parts error.Closed h = h
fails_call old new parts (error.Frame fault) h = (h.0, h.1, inr h.2)
fails_call old new parts (error.Fault class number) h = h
fails_call old new parts error.Unexpected h = h

pub any_fails_call : (old new : ClientParts) (parts : IpcParts) (result : Result Answer ClientError)
    → IfErr result (λ e. Fails (answers_call old.version) old new (frame.Ipc parts) e)
    → IfErr result (λ e. FailsCall old new parts e)
any_fails_call old new parts (Ok answer) h = h
any_fails_call old new parts (Err e) h = fails_call old new parts e h

pub not_withheld : (old new : ClientParts) (parts : IpcParts) (result : Result Answer ClientError)
    → ipc_fault parts ≡ None → IsWithheld old new parts result
not_withheld old new parts result none = rw none tt
