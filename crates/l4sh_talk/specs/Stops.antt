-- The phases that an ExchangeRegisters stops, as they are typed, and the control (L4 X.2 manual,
-- ExchangeRegisters: R and S).
use Rattle.std.specs.Prelude.{ℕ, List, codes}
use Rattle.l4sh_talk.specs.declared.spelling.Stop.{Stop}
use Rattle.l4sh_talk.specs.declared.spelling.Stop.TheVariants.{Nothing, Receive, Send, Both}

abbrev pub stop_name : Stop → List ℕ
stop_name Nothing = codes "nothing"
stop_name Receive = codes "receive"
stop_name Send = codes "send"
stop_name Both = codes "both"

-- R is bit 1, S is bit 2
abbrev pub control_of : Stop → ℕ
control_of Nothing = 0
control_of Receive = 2
control_of Send = 4
control_of Both = 6
