-- What stands before the time of a beginning, and what times of day are.
use Rattle.std.specs.Prelude.{◌≡◌, ◌++◌, ◌∷◌, [], ℕ, Bool, true, false, List, codes}
use Rattle.l4sh_state.specs.declared.times.Times.{Times}
use Rattle.l4sh_state.specs.declared.times.Times.TheVariants.{Micros, OfDay}

-- whether moments are told as times of day
abbrev pub are_of_day : Times → Bool
are_of_day Micros = false
are_of_day (OfDay start) = true

-- the text is the one line of a file FILE.began
abbrev pub IsBegan : List ℕ → Type 0
IsBegan text = (time : List ℕ) × (text ≡ (codes "began " ++ time) ++ 10 ∷ [])
