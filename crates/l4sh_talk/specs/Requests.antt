-- The frame of each request, and what stands for its answer.
use Rattle.ipc_words.specs.ThreadId.{anythread}
use Rattle.ipc_words.specs.Time.{no_time}
use Rattle.ipc_words.specs.Timeouts.{timeouts_of}
use Rattle.ipc_frame.specs.declared.frame.Frame.{Frame}
use Rattle.ipc_frame.specs.declared.frame.Frame.TheVariants as frame
use Rattle.ipc_client.specs.Asking.{Fails, FailsCall, answer_frame, answers_exchange, registers_frame}
use Rattle.ipc_client.specs.ClientParts.{ClientParts}
use Rattle.ipc_client.specs.Messages.{ipc_of, no_buffers, no_message}
use Rattle.ipc_client.specs.declared.error.ClientError.{ClientError}
use Rattle.l4sh_talk.specs.declared.request.Reply.{Reply}
use Rattle.l4sh_talk.specs.declared.request.Reply.TheVariants as reply
use Rattle.l4sh_talk.specs.declared.request.Request.{Request}
use Rattle.l4sh_talk.specs.declared.request.Request.TheVariants as request

abbrev pub request_frame : Request → Frame
request_frame (request.Send to message send) = frame.Ipc (ipc_of to 0 (timeouts_of 0 send) message no_buffers)
request_frame (request.Receive from receive buffers) =
    frame.Ipc (ipc_of 0 from (timeouts_of receive 0) no_message buffers)
request_frame (request.Call to message send receive buffers) =
    frame.Ipc (ipc_of to to (timeouts_of receive send) message buffers)
request_frame (request.ReplyWait to message receive buffers) =
    frame.Ipc (ipc_of to anythread (timeouts_of receive no_time) message buffers)
request_frame (request.ExchangeRegisters dest control) = frame.Exreg dest control

abbrev pub reply_frame : Reply → Frame
reply_frame (reply.Call answer) = answer_frame answer
reply_frame (reply.Registers registers) = registers_frame registers

-- why a request has no answer, and what went out of it
abbrev pub FailsRequest : ClientParts → ClientParts → Request → ClientError → Type 0
FailsRequest old new (request.Send to message send) error =
    FailsCall old new (ipc_of to 0 (timeouts_of 0 send) message no_buffers) error
FailsRequest old new (request.Receive from receive buffers) error =
    FailsCall old new (ipc_of 0 from (timeouts_of receive 0) no_message buffers) error
FailsRequest old new (request.Call to message send receive buffers) error =
    FailsCall old new (ipc_of to to (timeouts_of receive send) message buffers) error
FailsRequest old new (request.ReplyWait to message receive buffers) error =
    FailsCall old new (ipc_of to anythread (timeouts_of receive no_time) message buffers) error
FailsRequest old new (request.ExchangeRegisters dest control) error =
    Fails (answers_exchange old.version) old new (frame.Exreg dest control) error
