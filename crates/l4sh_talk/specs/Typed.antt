-- What the fields of a command say.
use Rattle.std.specs.Prelude.{◌≡◌, ℕ, List, [], ◌∷◌, ◌++◌}
use Rattle.l4sh_explain.specs.Numbers.{IsNumber}

-- the words of a message, and behind them the number of each of these texts
unfoldable pub AddsWords : List (List ℕ) → List ℕ → List ℕ → Type 0
AddsWords [] old new = new ≡ old
AddsWords (text ∷ texts) old new =
    (number : ℕ) × IsNumber text number × AddsWords texts (old ++ number ∷ []) new
