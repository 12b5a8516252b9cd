-- What a chart tells of a call.
use Rattle.std.specs.Prelude.{◌≡◌, ℕ, List, map, length}
use Rattle.ipc_history.specs.CallParts.{CallParts}
use Rattle.ipc_items.specs.Strings.{size_of}
use Rattle.l4sh_chart.specs.declared.told.ToldCall.{ToldCall}

-- the lengths of strings
abbrev pub lengths_of : List (List ℕ) → List ℕ
lengths_of strings = map (λ string. length string) strings

-- all but what its strings hold, and its buffer strings
pub record IsToldOf (number : ℕ) (call : CallParts) (told : ToldCall) : Type 0 where
  pub number_is : told.number ≡ number
  pub to : told.to ≡ call.to
  pub from : told.from ≡ call.from
  pub send_period : told.send_period ≡ call.send_period
  pub receive_period : told.receive_period ≡ call.receive_period
  pub tag : told.tag ≡ call.tag
  pub originator : told.originator ≡ call.originator
  pub words : told.words.items ≡ call.words
  pub lengths : told.lengths.items ≡ lengths_of call.strings
  pub size : told.size ≡ size_of call.strings
