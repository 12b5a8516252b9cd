-- How a talk may end: no line that is typed is bad. What went over its connection.
use Rattle.std.specs.Prelude.{◌≡◌, ℕ, List, [], Option, Some, ⊤}
use Rattle.ipc_client.specs.ClientParts.{ClientParts}
use Rattle.l4sh_talk.specs.Talks.{EndsTalk, talk_of}
use Rattle.l4sh_talk.specs.declared.ending.Ending.{Ending}
use Rattle.l4sh_look.specs.declared.exit.Exit.{Exit}
use Rattle.l4sh_look.specs.declared.exit.Exit.TheVariants.{Done, NoMemory, DeviceFailed}

-- at the end or where that is asked for, without memory, or where a device failed
abbrev pub MayEndTalk : Exit → Type 0
MayEndTalk Done = ⊤
MayEndTalk NoMemory = ⊤
MayEndTalk DeviceFailed = ⊤
MayEndTalk other = ⊥

-- a talk of this thread ended so, for which these bytes went out and these came, and none before it
pub record EndsOver (number : ℕ) (typed said : Option (List ℕ)) (ending : Ending) (sent came : List ℕ) : Type 0 where
  pub old : ClientParts
  pub new : ClientParts
  pub unsent : old.written ≡ Some []
  pub unheard : old.input.came ≡ Some []
  pub sent_is : new.written ≡ Some sent
  pub came_is : new.input.came ≡ Some came
  pub talks : EndsTalk number (talk_of typed old said) new ending
