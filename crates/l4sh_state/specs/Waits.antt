-- Places of which each waits for at most one other.
use Rattle.std.specs.Prelude.{◌≡◌, ℕ, zero, suc, ◌<◌, List, Option, Some, None, IsSome, slice_index_or, option_and_then}
use Rattle.ipc_words.specs.Limits.{table_slots}
use Rattle.l4sh_state.specs.declared.courses.Course.{Course}
use Rattle.l4sh_state.specs.declared.courses.Course.TheVariants.{Ends, Returns, Enters}

-- how many places there are: one for each thread number
abbrev pub places : ℕ
places = table_slots

-- the place for which a place waits; none for a place past the last one
abbrev pub awaited_at : List (Option ℕ) → ℕ → Option ℕ
awaited_at waits k = slice_index_or waits k None

-- where following from k is after so many steps; none once a place was met that waits for none
unfoldable pub follow : List (Option ℕ) → ℕ → ℕ → Option ℕ
follow waits k zero = Some k
follow waits k (suc n) = option_and_then (awaited_at waits) (follow waits k n)

-- following from k is at k again after so many steps, and not before
pub record ComesBack (waits : List (Option ℕ)) (k n : ℕ) : Type 0 where
  pub some : 0 < n
  pub back : follow waits k n ≡ Some k
  pub first : (m : ℕ) → 0 < m → m < n → follow waits k m ≡ Some k → ⊥

-- following from k never ends, and never is at k again
pub record GoesRound (waits : List (Option ℕ)) (k : ℕ) : Type 0 where
  pub goes_on : (n : ℕ) → IsSome (follow waits k n)
  pub never_back : (n : ℕ) → 0 < n → follow waits k n ≡ Some k → ⊥

-- where following from k leads; exactly one of the three is so
abbrev pub IsCourse : List (Option ℕ) → ℕ → Course → Type 0
IsCourse waits k Ends = (n : ℕ) × (follow waits k n ≡ None)
IsCourse waits k (Returns n) = ComesBack waits k n
IsCourse waits k Enters = GoesRound waits k

-- so of each place
abbrev pub HasCourses : List (Option ℕ) → List Course → Type 0
HasCourses waits courses = (k : ℕ) → k < places → IsCourse waits k (slice_index_or courses k Ends)

-- a place is in a circle
pub record HasCircle (courses : List Course) : Type 0 where
  pub place : ℕ
  pub within : place < places
  pub steps : ℕ
  pub is : slice_index_or courses place Ends ≡ Returns steps
