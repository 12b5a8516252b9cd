-- The kind of entry that a name is found to be.
use Rattle.std.proofs.Common.{◌≡◌, ℕ, Bool, true, false, List, [], ◌∷◌, Option, Some, refl, sym, ap, ◌∙◌}
use Rattle.std.specs.Prelude.{cond, find}
use Rattle.std.specs.Str.{bytes_eq}
use Rattle.std.proofs.lemmas.Slice.Eq.{bytes_eq-Decides}
use Rattle.ipc_lines.specs.Names.{entry_name, entry_names, name_in}
use Rattle.ipc_lines.specs.declared.reading.names.EntryName.{EntryName}
use Rattle.ipc_lines.specs.declared.reading.names.EntryName.TheVariants as name

passes_at : {X : Type 0} (p : X → Bool) (b : Bool) (x y : X) (rest : Option X) → p x ≡ b → cond b (Some x) rest ≡ Some y → (rest ≡ Some y → p y ≡ true) → p y ≡ true
passes_at p true x y rest test e later = let same : x ≡ y = cc in ap p (sym same) ∙ test
passes_at p false x y rest test e later = later e

-- what is found passes
pub find_passes : {X : Type 0} (p : X → Bool) (xs : List X) (y : X) → find p xs ≡ Some y → p y ≡ true
find_passes p [] y e = cc
find_passes p (x ∷ xs) y e = passes_at p (p x) x y (find p xs) refl e (find_passes p xs y)

pub name_found : (text : List ℕ) (n : EntryName) → name_in text ≡ Some n → text ≡ entry_name n
name_found text n e = (bytes_eq-Decides text (entry_name n)).0 (find_passes (λ m. bytes_eq text (entry_name m)) entry_names n e)

found_itself : (n : EntryName) → name_in (entry_name n) ≡ Some n
found_itself name.At = refl
found_itself name.Opened = refl
found_itself name.Called = refl
found_itself name.Exreg = refl
found_itself name.Broke = refl
found_itself name.Moved = refl
found_itself name.Began = refl
found_itself name.Turned = refl
found_itself name.Ended = refl
found_itself name.Overflowed = refl
found_itself name.Aborted = refl
found_itself name.Failed = refl

pub name_only : (text : List ℕ) (n : EntryName) → text ≡ entry_name n → name_in text ≡ Some n
name_only text n e = ap name_in e ∙ found_itself n
