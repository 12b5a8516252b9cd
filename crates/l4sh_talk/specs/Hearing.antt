-- What a typed line stands for.
use Rattle.std.specs.Prelude.{◌≡◌, ℕ, ◌<◌, List, [], ◌∷◌, Option, Some, None, length, codes, ⊤, ◌⊎◌}
use Rattle.ipc_words.specs.Limits.{max_line_bytes}
use Rattle.ipc_client.specs.Messages.{BufferParts, MessageParts}
use Rattle.l4sh_state.specs.Lines.{IsLine}
use Rattle.l4sh_talk.specs.Quoting.{line_words}
use Rattle.l4sh_talk.specs.Verbs.{verb_name, verb_request}
use Rattle.l4sh_talk.specs.declared.fields.Verb.{Verb}
use Rattle.l4sh_talk.specs.declared.reading.Heard.{Heard}
use Rattle.l4sh_talk.specs.declared.reading.Heard.TheVariants as heard
use Rattle.l4sh_talk.specs.declared.reading.Command.{Command}
use Rattle.l4sh_talk.specs.declared.reading.Command.TheVariants as command
use Rattle.l4sh_talk.specs.declared.request.Request.{Request}
use Rattle.l4sh_talk.specs.declared.request.Request.TheVariants as request

abbrev pub IsMistake : Heard → Type 0
IsMistake (heard.Mistake reason) = ⊤
IsMistake other = ⊥

-- this is asked, of a thread or of its number alone
abbrev pub IsRequest : Request → Heard → Type 0
IsRequest asked (heard.Request same) = same ≡ asked
IsRequest asked (heard.Number same) = same ≡ asked
IsRequest asked other = ⊥

-- the request of a command
abbrev pub IsOfVerb : Verb → Request → Type 0
IsOfVerb verb asked = (thread : ℕ) × (message : MessageParts) × (send : ℕ) × (receive : ℕ) × (buffers : BufferParts)
    × (asked ≡ verb_request verb thread message send receive buffers)

-- what a command stands for
abbrev pub HearsVerb : Verb → Heard → Type 0
HearsVerb verb (heard.Request asked) = IsOfVerb verb asked
HearsVerb verb (heard.Number asked) = IsOfVerb verb asked
HearsVerb verb (heard.Mistake reason) = ⊤
HearsVerb verb other = ⊥

-- the same of the one that stops phases
abbrev pub HearsStop : Heard → Type 0
HearsStop (heard.Request (request.ExchangeRegisters dest control)) = ⊤
HearsStop (heard.Number (request.ExchangeRegisters dest control)) = ⊤
HearsStop (heard.Mistake reason) = ⊤
HearsStop other = ⊥

-- the first words of lines that are no mistake
abbrev pub command_word : Command → List ℕ
command_word command.Help = codes "help"
command_word command.Mark = codes "?"
command_word command.Quit = codes "quit"
command_word command.Exit = codes "exit"
command_word command.Exreg = codes "exreg"
command_word command.Wait = codes "wait"
command_word (command.Makes verb) = verb_name verb

-- a request by the name of its command
abbrev pub IsNamed : List ℕ → Request → Type 0
IsNamed word (request.Send to message send) = word ≡ codes "send"
IsNamed word (request.Receive from receive buffers) = (word ≡ codes "receive") ⊎ (word ≡ codes "wait")
IsNamed word (request.Call to message send receive buffers) = word ≡ codes "call"
IsNamed word (request.ReplyWait to message receive buffers) = word ≡ codes "reply_wait"
IsNamed word (request.ExchangeRegisters dest control) = word ≡ codes "exreg"

-- what words stand for, of which the first one is this
abbrev pub HearsName : List ℕ → Heard → Type 0
HearsName word (heard.Request asked) = IsNamed word asked
HearsName word (heard.Number asked) = IsNamed word asked
HearsName word heard.Nothing = ⊥
HearsName word heard.Help = (word ≡ codes "help") ⊎ (word ≡ codes "?")
HearsName word heard.Quit = (word ≡ codes "quit") ⊎ (word ≡ codes "exit")
HearsName word (heard.Mistake reason) = ⊤

-- without a word it is nothing
abbrev pub HearsWords : List (List ℕ) → Heard → Type 0
HearsWords [] line = line ≡ heard.Nothing
HearsWords (word ∷ others) line = HearsName word line

-- a line that is too long, or whose last quotation mark lacks, is a mistake; any other stands for
-- what its words do
abbrev pub HearsAs : Option (List (List ℕ)) → Heard → Type 0
HearsAs None line = IsMistake line
HearsAs (Some words) line = HearsWords words line

abbrev pub Hears : List ℕ → Heard → Type 0
Hears line stands_for =
    ((max_line_bytes < length line) × IsMistake stands_for) ⊎ HearsAs (line_words line) stands_for

-- what is said to a line by its bytes: a line of an answer, or of the mistake
abbrev pub Says : Heard → List ℕ → Type 0
Says heard.Nothing text = text ≡ []
Says heard.Quit text = ⊥
Says other text = IsLine text
