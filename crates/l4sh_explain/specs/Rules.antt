-- Our choice (docs/PROFILE.md): the rules of the normal form of a call, each told of one of its
-- fields.
use Rattle.std.specs.Prelude.{ℕ, ◌+◌, ◌*◌, ◌^◌, ◌%◌, ◌<◌, ◌≤◌, Bool, not, ◌&&◌, ◌||◌, ◌==◌, nat_lt}
use Rattle.std.specs.Prelude.{List, [], ◌∷◌, Option, IfSome, is_some, length, find}
use Rattle.ipc_words.specs.Limits.{max_message_words}
use Rattle.ipc_words.specs.ThreadId.{nilthread}
use Rattle.ipc_words.specs.MsgTag.{untyped_of, typed_of, propagates, redirects, crosses, has_failed}
use Rattle.ipc_history.specs.CallParts.{CallParts}
use Rattle.ipc_lines.specs.Reading.{IsWord, AreWords, IsStringList, IsBufferList}
use Rattle.l4sh_explain.specs.declared.grammars.Field.{Field}
use Rattle.l4sh_explain.specs.declared.grammars.Field.TheVariants as field
use Rattle.l4sh_explain.specs.declared.rules.CallRule.{CallRule}
use Rattle.l4sh_explain.specs.declared.rules.CallRule.TheVariants as rule
use Rattle.l4sh_explain.specs.declared.rules.CallShape.{CallShape}
use Rattle.l4sh_explain.specs.declared.rules.ListCounts.{ListCounts}

-- a call each field of which is well formed
pub record IsWellFormed (thread : ℕ) (call : CallParts) : Type 0 where
  pub thread_word : IsWord thread
  pub to : IsWord call.to
  pub from : IsWord call.from
  pub send_period : call.send_period < 2 ^ 15
  pub receive_period : call.receive_period < 2 ^ 15
  pub tag : IsWord call.tag
  pub originator : IsWord call.originator
  pub words : AreWords call.words
  pub words_within : length call.words ≤ max_message_words
  pub strings : IsStringList call.strings
  pub buffers : IfSome call.buffers IsBufferList

-- what the rules look at of its lists
abbrev pub counts_of : CallParts → ListCounts
counts_of call = record {
  words = length call.words;
  strings = length call.strings;
  has_buffers = is_some call.buffers;
}

-- what the rules look at of a call
abbrev pub shape_of : CallParts → CallShape
shape_of call = record {
  to = call.to;
  from = call.from;
  send_period = call.send_period;
  receive_period = call.receive_period;
  tag = call.tag;
  originator = call.originator;
  lists = counts_of call;
}

-- whether a call breaks a rule
abbrev pub breaks : CallShape → CallRule → Bool
breaks call rule.NoReceivePeriod = (call.from == nilthread) && not (call.receive_period == 0)
breaks call rule.NoSendPeriod = (call.to == nilthread) && not (call.send_period == 0)
breaks call rule.EmptyTag = (call.to == nilthread) && not (call.tag == 0)
breaks call rule.ClearFlags = redirects call.tag || crosses call.tag || has_failed call.tag
breaks call rule.WordsFit = nat_lt max_message_words (untyped_of call.tag + typed_of call.tag)
breaks call rule.EvenTyped = not (typed_of call.tag % 2 == 0)
breaks call rule.NoOriginator = not (propagates call.tag) && not (call.originator == nilthread)
breaks call rule.WordsCounted = not (untyped_of call.tag == call.lists.words)
breaks call rule.StringsCounted = not (typed_of call.tag == 2 * call.lists.strings)
breaks call rule.NoBuffers = (call.from == nilthread) && call.lists.has_buffers

-- the rules in the order of the fields
abbrev pub call_rules : List CallRule
call_rules =
    rule.NoReceivePeriod ∷ rule.NoSendPeriod ∷ rule.EmptyTag ∷ rule.ClearFlags ∷ rule.WordsFit
    ∷ rule.EvenTyped ∷ rule.NoOriginator ∷ rule.WordsCounted ∷ rule.StringsCounted
    ∷ rule.NoBuffers ∷ []

-- the first rule that a call breaks
abbrev pub broken_rule : CallShape → Option CallRule
broken_rule call = find (breaks call) call_rules

-- the field of a call that a rule is of, counted from 0
abbrev pub place_of : CallRule → ℕ
place_of rule.NoReceivePeriod = 3
place_of rule.NoSendPeriod = 3
place_of rule.EmptyTag = 4
place_of rule.ClearFlags = 4
place_of rule.WordsFit = 4
place_of rule.EvenTyped = 4
place_of rule.NoOriginator = 5
place_of rule.WordsCounted = 6
place_of rule.StringsCounted = 7
place_of rule.NoBuffers = 8

-- its name
abbrev pub field_of : CallRule → Field
field_of rule.NoReceivePeriod = field.Timeouts
field_of rule.NoSendPeriod = field.Timeouts
field_of rule.EmptyTag = field.Tag
field_of rule.ClearFlags = field.Tag
field_of rule.WordsFit = field.Tag
field_of rule.EvenTyped = field.Tag
field_of rule.NoOriginator = field.Originator
field_of rule.WordsCounted = field.Words
field_of rule.StringsCounted = field.Strings
field_of rule.NoBuffers = field.Buffers
