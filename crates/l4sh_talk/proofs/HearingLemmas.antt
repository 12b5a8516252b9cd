-- From a command to its name.
use Rattle.std.proofs.Common.{◌≡◌, ℕ, List, [], ◌∷◌, inl, inr, refl, subst, sym}
use Rattle.ipc_client.specs.Messages.{BufferParts, MessageParts}
use Rattle.l4sh_talk.specs.Hearing.{command_word, HearsName, HearsStop, HearsVerb, IsMistake, IsNamed, IsRequest}
use Rattle.std.specs.Prelude.{codes}
use Rattle.l4sh_talk.specs.Verbs.{verb_name, verb_request}
use Rattle.l4sh_talk.specs.declared.fields.Verb.{Verb}
use Rattle.l4sh_talk.specs.declared.fields.Verb.TheVariants as verb
use Rattle.l4sh_talk.specs.declared.reading.Command.{Command}
use Rattle.l4sh_talk.specs.declared.reading.Heard.{Heard}
use Rattle.l4sh_talk.specs.declared.reading.Heard.TheVariants as heard
use Rattle.l4sh_talk.specs.declared.request.Request.{Request}
use Rattle.l4sh_talk.specs.declared.request.Request.TheVariants as request

-- a word is that of its command
pub heard_command : (word : List ℕ) (command : Command) (line : Heard) → word ≡ command_word command → HearsName (command_word command) line
    → HearsName word line
heard_command word command line is hears = subst (λ w. HearsName w line) (sym is) hears

-- a mistake may stand for each command
pub mistaken : (name : List ℕ) (line : Heard) → IsMistake line → HearsName name line
mistaken name (heard.Request asked) is = absurd is
mistaken name (heard.Number asked) is = absurd is
mistaken name heard.Nothing is = absurd is
mistaken name heard.Help is = absurd is
mistaken name heard.Quit is = absurd is
mistaken name (heard.Mistake reason) is = tt

pub mistaken_verb : (verb : Verb) (line : Heard) → IsMistake line → HearsVerb verb line
mistaken_verb verb (heard.Request asked) is = absurd is
mistaken_verb verb (heard.Number asked) is = absurd is
mistaken_verb verb heard.Nothing is = absurd is
mistaken_verb verb heard.Help is = absurd is
mistaken_verb verb heard.Quit is = absurd is
mistaken_verb verb (heard.Mistake reason) is = tt

pub mistaken_stop : (line : Heard) → IsMistake line → HearsStop line
mistaken_stop (heard.Request asked) is = absurd is
mistaken_stop (heard.Number asked) is = absurd is
mistaken_stop heard.Nothing is = absurd is
mistaken_stop heard.Help is = absurd is
mistaken_stop heard.Quit is = absurd is
mistaken_stop (heard.Mistake reason) is = tt

-- what is asked of a thread is the request of its command
pub asked_verb : (verb : Verb) (thread : ℕ) (message : MessageParts) (send receive : ℕ) (buffers : BufferParts) (asked : Request) (line : Heard)
    → asked ≡ verb_request verb thread message send receive buffers → IsRequest asked line → HearsVerb verb line
asked_verb verb thread message send receive buffers asked (heard.Request same) is line =
    (thread, message, send, receive, buffers, subst (λ r. r ≡ verb_request verb thread message send receive buffers) (sym line) is)
asked_verb verb thread message send receive buffers asked (heard.Number same) is line =
    (thread, message, send, receive, buffers, subst (λ r. r ≡ verb_request verb thread message send receive buffers) (sym line) is)
asked_verb verb thread message send receive buffers asked heard.Nothing is line = absurd line
asked_verb verb thread message send receive buffers asked heard.Help is line = absurd line
asked_verb verb thread message send receive buffers asked heard.Quit is line = absurd line
asked_verb verb thread message send receive buffers asked (heard.Mistake reason) is line = absurd line

pub asked_stop : (dest control : ℕ) (line : Heard) → IsRequest (request.ExchangeRegisters dest control) line → HearsStop line
asked_stop dest control (heard.Request asked) same = subst (λ r. HearsStop (heard.Request r)) (sym same) tt
asked_stop dest control (heard.Number asked) same = subst (λ r. HearsStop (heard.Number r)) (sym same) tt
asked_stop dest control heard.Nothing same = absurd same
asked_stop dest control heard.Help same = absurd same
asked_stop dest control heard.Quit same = absurd same
asked_stop dest control (heard.Mistake reason) same = absurd same

-- a request of a command has its name
named_request : (verb : Verb) (name : List ℕ) (thread : ℕ) (message : MessageParts) (send receive : ℕ) (buffers : BufferParts)
    → name ≡ verb_name verb → IsNamed name (verb_request verb thread message send receive buffers)
named_request verb.Send name thread message send receive buffers is = is
named_request verb.Receive name thread message send receive buffers is = inl is
named_request verb.Call name thread message send receive buffers is = is
named_request verb.ReplyWait name thread message send receive buffers is = is

pub named : (verb : Verb) (name : List ℕ) (line : Heard) → name ≡ verb_name verb → HearsVerb verb line → HearsName name line
named verb name (heard.Request asked) is (thread, message, send, receive, buffers, same) =
    subst (IsNamed name) (sym same) (named_request verb name thread message send receive buffers is)
named verb name (heard.Number asked) is (thread, message, send, receive, buffers, same) =
    subst (IsNamed name) (sym same) (named_request verb name thread message send receive buffers is)
named verb name heard.Nothing is line = absurd line
named verb name heard.Help is line = absurd line
named verb name heard.Quit is line = absurd line
named verb name (heard.Mistake reason) is line = tt

-- wait is a name of receive
pub waits : (name : List ℕ) (line : Heard) → name ≡ codes "wait" → HearsVerb verb.Receive line → HearsName name line
waits name (heard.Request asked) is (thread, message, send, receive, buffers, same) = subst (IsNamed name) (sym same) (inr is)
waits name (heard.Number asked) is (thread, message, send, receive, buffers, same) = subst (IsNamed name) (sym same) (inr is)
waits name heard.Nothing is line = absurd line
waits name heard.Help is line = absurd line
waits name heard.Quit is line = absurd line
waits name (heard.Mistake reason) is line = tt

stops_by : (name : List ℕ) (asked : Request) → name ≡ codes "exreg" → HearsStop (heard.Request asked) → IsNamed name asked
stops_by name (request.Send to message send) is line = absurd line
stops_by name (request.Receive from receive buffers) is line = absurd line
stops_by name (request.Call to message send receive buffers) is line = absurd line
stops_by name (request.ReplyWait to message receive buffers) is line = absurd line
stops_by name (request.ExchangeRegisters dest control) is line = is

stops_number : (name : List ℕ) (asked : Request) → name ≡ codes "exreg" → HearsStop (heard.Number asked) → IsNamed name asked
stops_number name (request.Send to message send) is line = absurd line
stops_number name (request.Receive from receive buffers) is line = absurd line
stops_number name (request.Call to message send receive buffers) is line = absurd line
stops_number name (request.ReplyWait to message receive buffers) is line = absurd line
stops_number name (request.ExchangeRegisters dest control) is line = is

pub stops : (name : List ℕ) (line : Heard) → name ≡ codes "exreg" → HearsStop line → HearsName name line
stops name (heard.Request asked) is line = stops_by name asked is line
stops name (heard.Number asked) is line = stops_number name asked is line
stops name heard.Nothing is line = absurd line
stops name heard.Help is line = absurd line
stops name heard.Quit is line = absurd line
stops name (heard.Mistake reason) is line = tt
