-- What goes over the connection of a talk, and what is written, for the lines that are typed:
-- frames of requests alone, each whole and answered before the next one.
use Rattle.std.specs.Prelude.{◌≡◌, ℕ, zero, suc, List, Result, Ok, Err, Option, Some, None, ◌⊎◌}
use Rattle.std.specs.Io.KnownBytes.{Appends}
use Rattle.ipc_frame.specs.declared.frame.Frame.{Frame}
use Rattle.ipc_frame.specs.declared.frame.Frame.TheVariants as frame
use Rattle.ipc_frame.specs.declared.version.WireVersion.TheVariants.{One}
use Rattle.ipc_client.specs.Asking.{Answers, Fails, FailsBye, SaysBye, greets}
use Rattle.ipc_client.specs.ClientParts.{ClientParts}
use Rattle.ipc_client.specs.declared.error.ClientError.{ClientError}
use Rattle.ipc_trace.specs.Reading.{TakesLine}
use Rattle.ipc_trace.specs.declared.lines.LineEnd.TheVariants.{Newline, Input}
use Rattle.l4sh_talk.specs.Endings.{ending_of}
use Rattle.l4sh_talk.specs.Hearing.{Hears, Says}
use Rattle.l4sh_talk.specs.Requests.{FailsRequest, request_frame}
use Rattle.l4sh_talk.specs.declared.ending.Ending.{Ending}
use Rattle.l4sh_talk.specs.declared.ending.Ending.TheVariants.{Done, NoMemory, DeviceFailed, Refused}
use Rattle.l4sh_talk.specs.declared.reading.Heard.{Heard}
use Rattle.l4sh_talk.specs.declared.reading.Heard.TheVariants as heard
use Rattle.l4sh_talk.specs.declared.request.Request.{Request}
use Rattle.l4sh_talk.specs.declared.versions.Found.{Found}
use Rattle.l4sh_talk.specs.Versions.{Finds, Seeks}

-- what a contract sees of a talk: what is still to be read of what is typed, the connection, and
-- what is written
pub record TalkParts : Type 0 where
  pub typed : Option (List ℕ)
  pub client : ClientParts
  pub said : Option (List ℕ)

abbrev pub talk_of : Option (List ℕ) → ClientParts → Option (List ℕ) → TalkParts
talk_of typed client said = record { typed = typed; client = client; said = said }

-- the frame of the request went out, and one frame was read for it
abbrev pub Asks : ClientParts → ClientParts → Request → Type 0
Asks old new request = (answered : Frame) × Answers old new (request_frame request) answered

-- what goes over the connection for a line by what it stands for: the frame of a request, and its
-- answer; those of the versions of a number that are asked; for anything else nothing
abbrev pub GoesOver : ClientParts → ClientParts → Heard → Type 0
GoesOver old new (heard.Request request) = Asks old new request
GoesOver old new (heard.Number request) = (found : Found) × Finds old new request found
GoesOver old new heard.Quit = ⊥
GoesOver old new other = new ≡ old

-- why there is no answer, and what went out until then
abbrev pub FailsHeard : ClientParts → ClientParts → Heard → Ending → Type 0
FailsHeard old new (heard.Request request) ending =
    (error : ClientError) × FailsRequest old new request error × (ending ≡ ending_of error)
FailsHeard old new (heard.Number request) ending = Seeks old new request (Err ending)
FailsHeard old new other ending = ⊥

-- what comes of a line by what it stands for: it is answered, or asks to end, or has no answer, or
-- there is no memory for what is said of one
abbrev pub AnswersHeard : {T : Type 0} → ClientParts → ClientParts → Heard → Result (Option T) Ending → Type 0
AnswersHeard old new line (Ok (Some text)) = GoesOver old new line
AnswersHeard old new line (Ok None) = (line ≡ heard.Quit) × (new ≡ old)
AnswersHeard old new line (Err ending) =
    FailsHeard old new line ending ⊎ ((ending ≡ NoMemory) × GoesOver old new line)

-- a line was obeyed: what it stands for went over the connection, and what is said of it was
-- written
pub record Obeys (old new : ClientParts) (said said_now : Option (List ℕ)) (line : List ℕ) : Type 0 where
  pub stands_for : Heard
  pub hears : Hears line stands_for
  pub goes : GoesOver old new stands_for
  pub text : List ℕ
  pub says : Says stands_for text
  pub written : Appends said said_now text

-- a line asks to end
pub record Quits (old new : ClientParts) (said said_now : Option (List ℕ)) (line : List ℕ) : Type 0 where
  pub hears : Hears line heard.Quit
  pub silent : new ≡ old
  pub unsaid : said_now ≡ said

-- a line ends the talk: there is no memory for what it stands for, it has no answer, or what is
-- said of it was not written
abbrev pub EndsAtLine : ClientParts → ClientParts → List ℕ → Ending → Type 0
EndsAtLine old new line ending = ((ending ≡ NoMemory) × (new ≡ old)) ⊎ ((stands_for : Heard) × Hears line stands_for
    × (FailsHeard old new stands_for ending ⊎ (((ending ≡ NoMemory) ⊎ (ending ≡ DeviceFailed)) × GoesOver old new stands_for)))

-- the next line was read and obeyed
pub record TakesTurn (old new : TalkParts) : Type 0 where
  pub line : List ℕ
  pub read : TakesLine old.typed new.typed line Newline
  pub obeys : Obeys old.client new.client old.said new.said line

-- so many lines were, one after the other
abbrev pub HasTalked : ℕ → TalkParts → TalkParts → Type 0
HasTalked zero old new = new ≡ old
HasTalked (suc count) old new = (now : TalkParts) × HasTalked count old now × TakesTurn now new

-- the next line asks to end; or it is the last one, behind the last newline, and was obeyed or asks
-- to end
abbrev pub TakesLast : TalkParts → ClientParts → Option (List ℕ) → Type 0
TakesLast old client said = (line : List ℕ) × (typed : Option (List ℕ))
    × ((TakesLine old.typed typed line Newline × Quits old.client client old.said said line)
    ⊎ (TakesLine old.typed typed line Input
    × (Obeys old.client client old.said said line ⊎ Quits old.client client old.said said line)))

-- no further line could be read, or the next one ends the talk
abbrev pub BreaksOff : TalkParts → ClientParts → Ending → Type 0
BreaksOff old client ending =
    (((ending ≡ NoMemory) ⊎ (ending ≡ DeviceFailed)) × (client ≡ old.client))
    ⊎ ((line : List ℕ) × (typed : Option (List ℕ))
    × (TakesLine old.typed typed line Newline ⊎ TakesLine old.typed typed line Input)
    × EndsAtLine old.client client line ending)

-- all lines were obeyed, to the last one or to a request to end
abbrev pub TalksToEnd : TalkParts → ClientParts → Option (List ℕ) → Type 0
TalksToEnd old client said =
    (count : ℕ) × (last : TalkParts) × HasTalked count old last × TakesLast last client said

-- some were, and then the talk ended so
abbrev pub TalksUntil : TalkParts → ClientParts → Ending → Type 0
TalksUntil old client ending =
    (count : ℕ) × (last : TalkParts) × HasTalked count old last × BreaksOff last client ending

-- BYE was said, or could not be
abbrev pub PartsBy : ClientParts → ClientParts → Ending → Type 0
PartsBy old new ending = ((ending ≡ Done) × SaysBye old new)
    ⊎ ((error : ClientError) × FailsBye old new error × (ending ≡ ending_of error))

-- the lines ended the talk, or all were obeyed before BYE
abbrev pub EndsWelcomed : TalkParts → ClientParts → Ending → Type 0
EndsWelcomed old client ending = TalksUntil old client ending
    ⊎ ((now : ClientParts) × (said : Option (List ℕ)) × TalksToEnd old now said × PartsBy now client ending)

-- how a talk of a thread that was welcomed ended: its id was not written; or it was, and then the
-- talk ended
abbrev pub EndsVisit : TalkParts → ClientParts → Ending → Type 0
EndsVisit old client ending =
    (((ending ≡ NoMemory) ⊎ (ending ≡ DeviceFailed)) × (client ≡ old.client))
    ⊎ ((text : List ℕ) × (said : Option (List ℕ)) × Appends old.said said text
    × EndsWelcomed (talk_of old.typed old.client said) client ending)

-- how a talk ended: HELLO has no answer, or is refused, or was answered with an id, and then the
-- talk of that thread ended so
abbrev pub EndsTalk : ℕ → TalkParts → ClientParts → Ending → Type 0
EndsTalk number old client ending =
    ((error : ClientError) × Fails greets old.client client (frame.Hello number One) error × (ending ≡ ending_of error))
    ⊎ (((refusal : ℕ) × Answers old.client client (frame.Hello number One) (frame.Refused refusal) × (ending ≡ Refused refusal))
    ⊎ ((id : ℕ) × (greeted : ClientParts) × Answers old.client greeted (frame.Hello number One) (frame.Welcome id)
    × EndsVisit (talk_of old.typed greeted old.said) client ending))
