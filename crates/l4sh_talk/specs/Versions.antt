-- A thread of which a line tells the number alone: its versions are asked upward, to the first that
-- is there (docs/NAMES.md looks for its server in the same way).
use Rattle.std.specs.Prelude.{◌≡◌, ℕ, zero, suc, ◌+◌, Result, Ok, Err, ◌⊎◌}
use Rattle.ipc_words.specs.ThreadId.{id_of, nilthread, number_of}
use Rattle.ipc_client.specs.Asking.{Answers}
use Rattle.ipc_client.specs.ClientParts.{ClientParts}
use Rattle.ipc_client.specs.declared.answer.Answer.TheVariants as answer
use Rattle.ipc_client.specs.declared.answer.Registers.TheVariants as registers
use Rattle.ipc_client.specs.declared.error.ClientError.{ClientError}
use Rattle.l4sh_talk.specs.Endings.{ending_of}
use Rattle.l4sh_talk.specs.Requests.{FailsRequest, reply_frame, request_frame}
use Rattle.l4sh_talk.specs.declared.ending.Ending.{Ending}
use Rattle.l4sh_talk.specs.declared.ending.Ending.TheVariants.{NoMemory}
use Rattle.l4sh_talk.specs.declared.request.Reply.{Reply}
use Rattle.l4sh_talk.specs.declared.request.Reply.TheVariants as reply
use Rattle.l4sh_talk.specs.declared.request.Request.{Request}
use Rattle.l4sh_talk.specs.declared.request.Request.TheVariants as request
use Rattle.l4sh_talk.specs.declared.versions.Found.{Found}

-- the last version that is asked
abbrev pub max_version : ℕ
max_version = 63

-- another version of a thread
abbrev pub version_of_thread : ℕ → ℕ → ℕ
version_of_thread version thread = id_of (number_of thread) version

-- the same request of another version of its thread
abbrev pub request_of_version : ℕ → Request → Request
request_of_version version (request.Send to message send) = request.Send (version_of_thread version to) message send
request_of_version version (request.Receive from receive buffers) =
    request.Receive (version_of_thread version from) receive buffers
request_of_version version (request.Call to message send receive buffers) =
    request.Call (version_of_thread version to) message send receive buffers
request_of_version version (request.ReplyWait to message receive buffers) =
    request.ReplyWait (version_of_thread version to) message receive buffers
request_of_version version (request.ExchangeRegisters dest control) =
    request.ExchangeRegisters (version_of_thread version dest) control

-- the ErrorCode of a partner that is not there: in the first phase of the call, so nothing was sent
-- to anybody
abbrev pub missing_code : Request → ℕ
missing_code (request.Receive from receive buffers) = 0x5
missing_code other = 0x4

-- the answer says that the thread is not there
abbrev pub IsMissing : Request → Reply → Type 0
IsMissing asked (reply.Call (answer.Outcome ipcr)) = ipcr.error ≡ missing_code asked
IsMissing asked (reply.Call (answer.Refused number)) = ⊥
IsMissing asked (reply.Registers (registers.Exchanged result control code moment)) = result ≡ nilthread
IsMissing asked (reply.Registers (registers.Refused number)) = ⊥

-- no version is asked behind this answer: the thread is there, or the version is the last one
abbrev pub IsLast : Request → Reply → ℕ → Type 0
IsLast asked answered version = (IsMissing asked answered → ⊥) ⊎ (version ≡ max_version)

-- the answer to a request of one version
abbrev pub AnswersVersion : ClientParts → ClientParts → Request → Reply → Type 0
AnswersVersion old new asked answered = Answers old new (request_frame asked) (reply_frame answered)

-- or why there is none: no memory for the request, which did not go out, or an error
abbrev pub FailsVersion : ClientParts → ClientParts → Request → Ending → Type 0
FailsVersion old new asked ending = ((ending ≡ NoMemory) × (new ≡ old))
    ⊎ ((error : ClientError) × FailsRequest old new asked error × (ending ≡ ending_of error))

abbrev pub AsksVersion : ClientParts → ClientParts → Request → Result Reply Ending → Type 0
AsksVersion old new asked (Ok answered) = AnswersVersion old new asked answered
AsksVersion old new asked (Err ending) = FailsVersion old new asked ending

-- versions 1 to this many were asked in turn, and none is there
abbrev pub HasMissed : ClientParts → ClientParts → Request → ℕ → Type 0
HasMissed old new asked zero = new ≡ old
HasMissed old new asked (suc missed) = (now : ClientParts) × HasMissed old now asked missed
    × (answered : Reply) × AnswersVersion now new (request_of_version (suc missed) asked) answered × IsMissing asked answered

-- the next version is there, or is the last that is asked; nothing else went out
abbrev pub Finds : ClientParts → ClientParts → Request → Found → Type 0
Finds old new asked found = (now : ClientParts) × HasMissed old now asked found.missed
    × AnswersVersion now new (request_of_version (found.missed + 1) asked) found.reply
    × IsLast asked found.reply (found.missed + 1)

-- how versions are asked
abbrev pub Seeks : ClientParts → ClientParts → Request → Result Found Ending → Type 0
Seeks old new asked (Ok found) = Finds old new asked found
Seeks old new asked (Err ending) = (missed : ℕ) × (now : ClientParts) × HasMissed old now asked missed
    × FailsVersion now new (request_of_version (missed + 1) asked) ending
