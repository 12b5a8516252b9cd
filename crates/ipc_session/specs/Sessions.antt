-- What a session asked of its kernel, by what came.
use Rattle.std.specs.Prelude.{◌≡◌, ◌⊎◌, ℕ, List, [], ◌∷◌, ◌++◌, Option, Some, None}
use Rattle.std.specs.Io.KnownBytes.{Appends}
use Rattle.ipc_connection.specs.KernelCalls.{Breaks, KernelCall, posted}
use Rattle.ipc_frame.specs.declared.frame.Frame.{Frame}
use Rattle.ipc_connection.specs.declared.replying.Told.{Told}
use Rattle.ipc_session.specs.Reading.{EndsSo}
use Rattle.ipc_session.specs.declared.deed.Deed.{Deed}
use Rattle.ipc_session.specs.declared.deed.Deed.TheVariants as deed
use Rattle.ipc_session.specs.declared.ending.Ending.{Ending}

-- the bytes that came meanwhile ask for these calls, all of them and no others, up to an ending;
-- then the kernel port was told once that the thread ends
pub record AsksFor (old new : Option (List ℕ)) (calls : List KernelCall) : Type 0 where
  pub bytes : List ℕ
  pub came : Appends old new bytes
  pub ending : Ending
  pub left : Option (List ℕ)
  pub ends : EndsSo ending (Some []) (Some calls) bytes left (Breaks ∷ [])

-- or nothing came, and nothing was asked
abbrev pub MayAskFor : Option (List ℕ) → Option (List ℕ) → List KernelCall → Type 0
MayAskFor old new calls = AsksFor old new calls ⊎ ((new ≡ old) × (calls ≡ []))

-- what is done where a frame is left to be posted
abbrev pub deed_of : Option Frame → List Deed
deed_of None = []
deed_of (Some frame) = deed.Posted frame ∷ []

abbrev pub deeds_left : Told → List Deed
deeds_left told = deed_of (posted told)
