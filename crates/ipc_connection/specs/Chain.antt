-- A relation along a list: each element in turn takes a state to the next one, and tells of it.
use Rattle.std.specs.Prelude.{◌≡◌, List, [], ◌∷◌, ◌++◌}

-- from the old state to the new one, by each element in turn; what is told of them, joined
unfoldable pub Chain : {S X Y : Type 0} → (S → X → List Y → S → Type 0)
    → S → List X → List Y → S → Type 0
Chain Step old [] told new = (told ≡ []) × (new ≡ old)
Chain {S} {X} {Y} Step old (x ∷ xs) told new =
    (first : List Y) × (rest : List Y) × (between : S)
    × (told ≡ first ++ rest) × Step old x first between × Chain Step between xs rest new
