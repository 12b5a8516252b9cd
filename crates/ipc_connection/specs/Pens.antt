-- What a pen was given, and the text of it.
use Rattle.std.specs.Prelude.{◌≡◌, ℕ, ◌≤◌, List, [], ◌∷◌, ◌++◌, Option, Some, None, Result, MatchResult, Bool, false, is_some, ◌||◌, not, ⊤, take, drop, length}
use Rattle.ipc_frame.specs.Frames.{spelling}
use Rattle.ipc_frame.specs.Replies.{ipcr_of}
use Rattle.ipc_frame.specs.declared.frame.Frame.{Frame}
use Rattle.ipc_connection.specs.declared.given.Given.{Given}
use Rattle.ipc_connection.specs.declared.given.Given.TheVariants as given

-- what is told at the end was told before, and grew by these
abbrev pub Grows : {A : Type 0} → Option (List A) → Option (List A) → List A → Type 0
Grows old None more = ⊤
Grows None (Some ys) more = ⊥
Grows (Some xs) (Some ys) more = ys ≡ xs ++ more

-- a write told the bytes that it took, and none where it failed
abbrev pub Sends : {E : Type 0} → Option (List ℕ) → Option (List ℕ) → Result ℕ E → List ℕ → Type 0
Sends old new answer bytes = MatchResult answer (λ n. Grows old new (take n bytes)) (λ _. Grows old new [])

-- so many bytes of those that were still to come went out, and these are left
abbrev pub Passes : Option (List ℕ) → Option (List ℕ) → List ℕ → List ℕ → Type 0
Passes old new before after =
    (n : ℕ) × (n ≤ length before) × Grows old new (take n before) × (after ≡ drop n before)

-- the frame of what is given: an outcome goes out as IPCR
abbrev pub frame_of : Given → Frame
frame_of (given.Frame frame) = frame
frame_of (given.Outcome version outcome) = ipcr_of version outcome

-- the encodings of what was given, one after the other
unfoldable pub text_of : List Given → List ℕ
text_of [] = []
text_of (next ∷ rest) = spelling (frame_of next) ++ text_of rest

-- the rest of an unfinished frame
abbrev pub rest_of : Option (List ℕ) → List ℕ
rest_of None = []
rest_of (Some rest) = rest

-- what went out, and then the rest, is the text of what was given, where what went out is told
abbrev pub Follows : Option (List ℕ) → List ℕ → List Given → Type 0
Follows None rest given = ⊤
Follows (Some out) rest given = out ++ rest ≡ text_of given

-- nothing went out so far, where it is told
abbrev pub BeginsEmpty : Option (List ℕ) → Type 0
BeginsEmpty None = ⊤
BeginsEmpty (Some out) = out ≡ []

-- a pen: its box, the number of its connection, what went out, how often its device failed, what it
-- was given, the rest of that, and whether a write of it failed
pub record Page : Type 0 where
  pub place : ℕ
  pub number : ℕ
  pub out : Option (List ℕ)
  pub failures : ℕ
  pub given : List Given
  pub rest : Option (List ℕ)
  pub failed : Bool

-- a pen of this box and this connection, to which nothing was given, over a port that tells this
abbrev pub new_page : ℕ → ℕ → Option (List ℕ) → ℕ → Page
new_page place number out failures = record { place = place; number = number; out = out; failures = failures; given = []; rest = None; failed = false }

-- a pen that was given this, behind all that it was given before
abbrev pub given_next : Page → Given → Page
given_next page next = record page { given = page.given ++ next ∷ []; rest = Some (spelling (frame_of next)) }

-- it can be given more: all that it was given is written, and its device has not failed
abbrev pub is_ready : Page → Bool
is_ready page = not (is_some page.rest || page.failed)
