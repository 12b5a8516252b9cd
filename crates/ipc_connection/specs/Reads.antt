-- What a call answers that reads a value for which it may need memory.
use Rattle.std.specs.Prelude.{◌≡◌, ◌⊎◌, Bool, true, Result, Ok, Err}

-- the value, or its fault; want of memory in place of the value, where memory is asked for
abbrev pub Reads : {A F : Type 0} → F → Result A F → Bool → Result A F → Type 0
Reads lack (Ok value) asks result = (result ≡ Ok value) ⊎ ((result ≡ Err lack) × (asks ≡ true))
Reads lack (Err fault) asks result = result ≡ Err fault
