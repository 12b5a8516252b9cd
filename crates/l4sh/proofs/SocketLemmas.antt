-- What went over the socket of a talk.
use Rattle.std.proofs.Common.{◌≡◌, ℕ, List, [], Option, Some}
use Rattle.ipc_client.specs.ClientParts.{ClientParts}
use Rattle.l4sh.specs.Talking.{EndsOver}
use Rattle.l4sh_talk.specs.Talks.{EndsTalk, talk_of}
use Rattle.l4sh_talk.specs.declared.ending.Ending.{Ending}

pub ends_over : (number : ℕ) (typed said : Option (List ℕ)) (ending : Ending) (old new : ClientParts) (sent came : List ℕ)
    → old.written ≡ Some [] → old.input.came ≡ Some [] → new.written ≡ Some sent → new.input.came ≡ Some came
    → EndsTalk number (talk_of typed old said) new ending → EndsOver number typed said ending sent came
ends_over number typed said ending old new sent came unsent unheard sent_is came_is talks =
    record { old = old; new = new; unsent = unsent; unheard = unheard; sent_is = sent_is; came_is = came_is; talks = talks }
