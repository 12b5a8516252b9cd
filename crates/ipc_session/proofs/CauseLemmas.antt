-- Why a connection ends: by what was heard last, or by what the kernel port answered.
use Rattle.std.proofs.Common.{◌≡◌, ◌≢◌, inl, inr, ℕ, false, List, [], ◌∷◌, ◌++◌, Result, Ok, Err, refl, sym, ap, subst, ◌∙◌}
use Rattle.ipc_frame.specs.declared.fault.FrameFault.{FrameFault}
use Rattle.ipc_connection.specs.declared.heard.Heard.{Heard}
use Rattle.ipc_connection.specs.declared.heard.Heard.TheVariants as said
use Rattle.ipc_frame.specs.declared.version.WireVersion.{WireVersion}
use Rattle.ipc_connection.specs.Asking.{asks}
use Rattle.ipc_connection.specs.KernelCalls.{Asks, KernelCall, left_to_post}
use Rattle.ipc_connection.specs.Faults.{fault_number, of_frame, of_session, out_of_place}
use Rattle.ipc_connection.specs.Replying.{ends_by, next_stage, reply}
use Rattle.ipc_connection.specs.declared.asking.Reaction.{Reaction}
use Rattle.ipc_connection.specs.declared.asking.Reaction.TheVariants.{Ask, Leave, Refuse, Nothing}
use Rattle.ipc_connection.specs.declared.asking.Request.{Request}
use Rattle.ipc_connection.specs.declared.asking.Request.TheVariants as request
use Rattle.ipc_connection.specs.declared.replying.Told.{Told}
use Rattle.ipc_connection.specs.declared.replying.Told.TheVariants as told
use Rattle.ipc_connection.specs.declared.stage.Stage.{Stage}
use Rattle.ipc_connection.specs.declared.stage.Stage.TheVariants.{Greeting, Serving, Finished}
use Rattle.ipc_core.specs.declared.refusal.Refusal.{Refusal}
use Rattle.ipc_core.specs.declared.refusal.Refusal.TheVariants.{NoThread, Busy}
use Rattle.ipc_session.specs.Reading.{IsCause}
use Rattle.ipc_session.specs.Serving.{AsksSo, IsAnswer, Serves, ServesBy, ends_with, turned_at}
use Rattle.ipc_session.specs.declared.ending.Ending.{Ending}
use Rattle.ipc_session.specs.declared.ending.Ending.TheVariants as ending
use Rattle.ipc_session.specs.declared.ending.Ending.TheVariants.{Protocol, Gone, Bye}
use Rattle.ipc_session.specs.declared.turned.Turned.TheVariants.{On, Over}

abbrev HeardList : Type 0
HeardList = List (Result Heard FrameFault)

-- an ending that is this one has its cause
ends_as : (ending this : Ending) (heard : HeardList) (calls : List KernelCall) → Over ending ≡ Over this → IsCause this heard calls → IsCause ending heard calls
ends_as ending this heard calls e c = let same : this ≡ ending = cc in subst (λ (x : Ending). IsCause x heard calls) same c

goes_on : {A : Type 0} (ending : Ending) (stage : Stage) → Over ending ≡ On stage → A
goes_on ending stage e = absurd (cc)

abbrev RefusedSo : Stage → Request → Ending → HeardList → List KernelCall → Refusal → Type 0
RefusedSo stage request ending heard before refusal = Over ending ≡ ends_with (told.Refused refusal) stage → IsCause ending heard (before ++ Asks request (told.Refused refusal) ∷ left_to_post (told.Refused refusal))

refused_gone : (stage : Stage) (request : Request) (ending : Ending) (heard : HeardList) (before : List KernelCall) → RefusedSo stage request ending heard before NoThread
unfolding next_stage reply
refused_gone stage request ending heard before e = ends_as ending Gone heard _ e (before, request, refl)

refused_busy : (stage : Stage) (request : Request) (ending : Ending) (heard : HeardList) (before : List KernelCall) → RefusedSo stage request ending heard before Busy
unfolding next_stage reply
refused_busy stage request ending heard before e =
    ends_as ending Protocol heard _ e (inl (before, request, refl))

refused_on : (stage : Stage) (refusal : Refusal) → stage ≢ Finished → ends_by refusal ≡ false → ends_with (told.Refused refusal) stage ≡ On stage
unfolding next_stage
refused_on Greeting refusal is_on goes = rw goes refl
refused_on (Serving thread) refusal is_on goes = rw goes refl
refused_on Finished refusal is_on goes = absurd (is_on refl)

refused : (stage : Stage) (request : Request) (ending : Ending) (heard : HeardList) (before : List KernelCall) (refusal : Refusal) → stage ≢ Finished → RefusedSo stage request ending heard before refusal
refused stage request ending heard before NoThread is_on e = refused_gone stage request ending heard before e
refused stage request ending heard before Busy is_on e = refused_busy stage request ending heard before e
refused stage request ending heard before refusal is_on e = goes_on ending stage (e ∙ refused_on stage refusal is_on refl)

opened_on : (stage : Stage) (thread : ℕ) (version : WireVersion) → ends_with (told.Opened thread version) stage ≡ On (Serving thread)
unfolding next_stage
opened_on stage thread version = refl

entered_on : (stage : Stage) → stage ≢ Finished → ends_with told.Entered stage ≡ On stage
unfolding next_stage
entered_on Greeting is_on = refl
entered_on (Serving thread) is_on = refl
entered_on Finished is_on = absurd (is_on refl)

exchanged_on : (stage : Stage) (result control code moment : ℕ) → stage ≢ Finished → ends_with (told.Exchanged result control code moment) stage ≡ On stage
unfolding next_stage
exchanged_on Greeting result control code moment is_on = refl
exchanged_on (Serving thread) result control code moment is_on = refl
exchanged_on Finished result control code moment is_on = absurd (is_on refl)

answered : (stage : Stage) (r : Request) (t : Told) (ending : Ending) (heard : HeardList) (before : List KernelCall) → stage ≢ Finished → IsAnswer r t → Over ending ≡ ends_with t stage → IsCause ending heard (before ++ Asks r t ∷ left_to_post t)
answered stage r (told.Refused refusal) ending heard before is_on is e = refused stage r ending heard before refusal is_on e
answered stage (request.Open number version) (told.Opened thread named) ending heard before is_on is e = goes_on ending (Serving thread) (e ∙ opened_on stage thread named)
answered stage (request.Enter thread call) told.Entered ending heard before is_on is e = goes_on ending stage (e ∙ entered_on stage is_on)
answered stage (request.Exreg thread target control) (told.Exchanged result other code moment) ending heard before is_on is e = goes_on ending stage (e ∙ exchanged_on stage result other code moment is_on)
answered stage (request.Open number version) told.Entered ending heard before is_on is e = absurd is
answered stage (request.Open number version) (told.Exchanged result control code moment) ending heard before is_on is e = absurd is
answered stage (request.Open number version) (told.Faulted class fault) ending heard before is_on is e = absurd is
answered stage (request.Open number version) told.Left ending heard before is_on is e = absurd is
answered stage (request.Enter thread call) (told.Opened other named) ending heard before is_on is e = absurd is
answered stage (request.Enter thread call) (told.Exchanged result control code moment) ending heard before is_on is e = absurd is
answered stage (request.Enter thread call) (told.Faulted class fault) ending heard before is_on is e = absurd is
answered stage (request.Enter thread call) told.Left ending heard before is_on is e = absurd is
answered stage (request.Exreg thread target control) (told.Opened other named) ending heard before is_on is e = absurd is
answered stage (request.Exreg thread target control) told.Entered ending heard before is_on is e = absurd is
answered stage (request.Exreg thread target control) (told.Faulted class fault) ending heard before is_on is e = absurd is
answered stage (request.Exreg thread target control) told.Left ending heard before is_on is e = absurd is

by_kernel : (stage : Stage) (r : Request) (calls : List KernelCall) (ending : Ending) (heard : HeardList) (before : List KernelCall) → stage ≢ Finished → AsksSo stage r calls (Over ending) → IsCause ending heard (before ++ calls)
by_kernel stage r calls ending heard before is_on (t, is, calls_are, e) = subst (λ (l : List KernelCall). IsCause ending heard (before ++ l)) (sym calls_are) (answered stage r t ending heard before is_on is e)

-- a fault ends as one
over_fault : (stage : Stage) (class number : ℕ) (ending : Ending) → Over ending ≡ ends_with (told.Faulted class number) stage → Over ending ≡ Over Protocol
unfolding next_stage
over_fault stage class number ending e = e

-- a fault was heard, or a frame out of place
by_fault : (stage : Stage) (fault : FrameFault) (calls : List KernelCall) (ending : Ending) (front : HeardList) (before : List KernelCall) → calls ≡ left_to_post (told.Faulted of_frame (fault_number fault)) → Over ending ≡ ends_with (told.Faulted of_frame (fault_number fault)) stage → IsCause ending (front ++ Err fault ∷ []) (before ++ calls)
by_fault stage fault calls ending front before calls_are e =
    ends_as ending Protocol _ _ (over_fault stage _ _ ending e) (inr (inl (front, before, fault, refl, ap (λ (l : List KernelCall). before ++ l) calls_are)))

by_place : (stage : Stage) (heard : Heard) (calls : List KernelCall) (ending : Ending) (front : HeardList) (before : List KernelCall) → calls ≡ left_to_post (told.Faulted of_session out_of_place) → Over ending ≡ ends_with (told.Faulted of_session out_of_place) stage → IsCause ending (front ++ Ok heard ∷ []) (before ++ calls)
by_place stage heard calls ending front before calls_are e =
    ends_as ending Protocol _ _ (over_fault stage _ _ ending e) (inr (inr (front, before, heard, refl, ap (λ (l : List KernelCall). before ++ l) calls_are)))

by_bye : (calls : List KernelCall) (ending : Ending) (front : HeardList) (before : List KernelCall) → Over ending ≡ Over Bye → IsCause ending (front ++ Ok said.Bye ∷ []) (before ++ calls)
by_bye calls ending front before e = ends_as ending Bye _ _ e (front, refl)

pub cause_of : (stage : Stage) (heard : Result Heard FrameFault) (calls : List KernelCall) (ending : Ending) (front : HeardList) (before : List KernelCall) → stage ≢ Finished → Serves stage heard calls (Over ending) → IsCause ending (front ++ heard ∷ []) (before ++ calls)
unfolding Serves asks
cause_of Finished heard calls ending front before is_on s = absurd (is_on refl)
cause_of Greeting (Err fault) calls ending front before is_on s = by_fault Greeting fault calls ending front before s.0 s.1
cause_of Greeting (Ok (said.Hello number version)) calls ending front before is_on s = by_kernel Greeting (request.Open number version) calls ending _ before is_on s
cause_of Greeting (Ok (said.Call call)) calls ending front before is_on s = by_place Greeting _ calls ending front before s.0 s.1
cause_of Greeting (Ok (said.Exreg target control)) calls ending front before is_on s = by_place Greeting _ calls ending front before s.0 s.1
cause_of Greeting (Ok said.Bye) calls ending front before is_on s = by_bye calls ending front before s.1
cause_of (Serving thread) (Err fault) calls ending front before is_on s = by_fault (Serving thread) fault calls ending front before s.0 s.1
cause_of (Serving thread) (Ok (said.Hello number version)) calls ending front before is_on s = by_place (Serving thread) _ calls ending front before s.0 s.1
cause_of (Serving thread) (Ok (said.Call call)) calls ending front before is_on s = by_kernel (Serving thread) (request.Enter thread call) calls ending _ before is_on s
cause_of (Serving thread) (Ok (said.Exreg target control)) calls ending front before is_on s = by_kernel (Serving thread) (request.Exreg thread target control) calls ending _ before is_on s
cause_of (Serving thread) (Ok said.Bye) calls ending front before is_on s = by_bye calls ending front before s.1

-- a fault that is heard ends a connection
pub fault_ends : (stage : Stage) (fault : FrameFault) (calls : List KernelCall) (next : Stage) → stage ≢ Finished → Serves stage (Err fault) calls (On next) → ⊥
unfolding Serves asks next_stage
fault_ends Finished fault calls next is_on s = is_on refl
fault_ends Greeting fault calls next is_on s = let no = s.1 in cc
fault_ends (Serving thread) fault calls next is_on s = let no = s.1 in cc

-- a connection that goes on has not finished
by_told : (stage next : Stage) (t : Told) → On next ≡ ends_with t stage → next ≡ Finished → ⊥
by_told stage next t e done = finished (next_stage stage t) (ap (λ (x : Stage). On x) (sym done) ∙ e)
  where
    finished : (s : Stage) → On Finished ≡ turned_at t s → ⊥
    finished Greeting e = cc
    finished (Serving thread) e = cc
    finished Finished e = cc

by_asked : (stage next : Stage) (r : Reaction) (calls : List KernelCall) → stage ≢ Finished → ServesBy stage r calls (On next) → next ≡ Finished → ⊥
by_asked stage next Nothing calls is_on s done = let same = s.1 in is_on (cc)
by_asked stage next (Ask request) calls is_on s done = by_told stage next s.0 s.3 done
by_asked stage next Leave calls is_on s done = let other = s.1 in cc
by_asked stage next (Refuse class number) calls is_on s done = by_told stage next (told.Faulted class number) s.1 done

pub still_on : (stage : Stage) (heard : Result Heard FrameFault) (calls : List KernelCall) (next : Stage) → stage ≢ Finished → Serves stage heard calls (On next) → next ≢ Finished
unfolding Serves
still_on stage heard calls next is_on s done = by_asked stage next (asks stage heard) calls is_on s done

-- what is heard ends a connection in three ways alone
no_cause : (e : Ending) (heard : HeardList) (calls : List KernelCall) → IsCause e heard calls → (e ≡ ending.Device → ⊥) × (e ≡ ending.Stopped → ⊥)
no_cause e heard calls h = (λ is. subst (λ (x : Ending). IsCause x heard calls) is h, λ is. subst (λ (x : Ending). IsCause x heard calls) is h)

pub three_ends : (stage : Stage) (heard : Result Heard FrameFault) (calls : List KernelCall) (e : Ending) → stage ≢ Finished → Serves stage heard calls (Over e) → (e ≡ ending.Device → ⊥) × (e ≡ ending.Stopped → ⊥)
three_ends stage heard calls e is_on s = no_cause e (heard ∷ []) calls (cause_of stage heard calls e [] [] is_on s)
