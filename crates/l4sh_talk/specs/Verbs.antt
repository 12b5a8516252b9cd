-- The names of commands that make a call, and the request of each (L4 X.2 manual, Ipc: Send,
-- Receive, Call, ReplyWait).
use Rattle.std.specs.Prelude.{ℕ, List, codes}
use Rattle.ipc_client.specs.Messages.{BufferParts, MessageParts}
use Rattle.l4sh_talk.specs.declared.fields.Verb.{Verb}
use Rattle.l4sh_talk.specs.declared.fields.Verb.TheVariants as verb
use Rattle.l4sh_talk.specs.declared.request.Request.{Request}
use Rattle.l4sh_talk.specs.declared.request.Request.TheVariants as request

abbrev pub verb_name : Verb → List ℕ
verb_name verb.Send = codes "send"
verb_name verb.Receive = codes "receive"
verb_name verb.Call = codes "call"
verb_name verb.ReplyWait = codes "reply_wait"

-- the request for a thread, with what is sent, how long each phase may take, and where strings go
abbrev pub verb_request : Verb → ℕ → MessageParts → ℕ → ℕ → BufferParts → Request
verb_request verb.Send thread message send receive buffers = request.Send thread message send
verb_request verb.Receive thread message send receive buffers = request.Receive thread receive buffers
verb_request verb.Call thread message send receive buffers = request.Call thread message send receive buffers
verb_request verb.ReplyWait thread message send receive buffers = request.ReplyWait thread message receive buffers
