-- What is said to a word that is asked about, by its bytes.
use Rattle.std.specs.Prelude.{ℕ, List, ⊤}
use Rattle.std.specs.String.{string_bytes}
use Rattle.l4sh_explain.specs.declared.told.Told.{Told}
use Rattle.l4sh_explain.specs.declared.told.Told.TheVariants.{Answer, Mistake}

-- what holds of an answer
abbrev pub IfAnswer : Told → (List ℕ → Type 0) → Type 0
IfAnswer (Answer text) holds = holds (string_bytes text)
IfAnswer (Mistake reason) holds = ⊤

-- what holds of a mistake
abbrev pub IfMistake : Told → (List ℕ → Type 0) → Type 0
IfMistake (Answer text) holds = ⊤
IfMistake (Mistake reason) holds = holds (string_bytes reason)
