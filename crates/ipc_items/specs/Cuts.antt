-- Lists of bytes that stand end to end at the front of a payload.
use Rattle.std.specs.Prelude.{ℕ, List}

-- the lists, and the payload
pub record CutParts : Type 0 where
  pub rows : List (List ℕ)
  pub payload : List ℕ
