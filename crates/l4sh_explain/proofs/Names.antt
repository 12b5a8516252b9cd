-- The name that a text is found to be.
use Rattle.std.proofs.Common.{◌≡◌, ℕ, List, Some, refl, ap, ◌∙◌}
use Rattle.std.specs.Str.{bytes_eq}
use Rattle.std.proofs.lemmas.Slice.Eq.{bytes_eq-Decides}
use Rattle.ipc_lines.proofs.Names.{find_passes}
use Rattle.l4sh_explain.specs.Grammars.{all_names, any_name, name_text}
use Rattle.l4sh_explain.specs.declared.grammars.LineName.{LineName}
use Rattle.l4sh_explain.specs.declared.grammars.LineName.TheVariants as name

pub name_found : (text : List ℕ) (n : LineName) → any_name text ≡ Some n → text ≡ name_text n
name_found text n e = (bytes_eq-Decides text (name_text n)).0 (find_passes (λ m. bytes_eq text (name_text m)) all_names n e)

found_itself : (n : LineName) → any_name (name_text n) ≡ Some n
found_itself name.Open = refl
found_itself name.Call = refl
found_itself name.Take = refl
found_itself name.Exreg = refl
found_itself name.Broke = refl
found_itself name.At = refl
found_itself name.Advance = refl
found_itself name.Compact = refl
found_itself name.Connect = refl
found_itself name.Feed = refl
found_itself name.End = refl
found_itself name.Opened = refl
found_itself name.Called = refl
found_itself name.Moved = refl
found_itself name.Began = refl
found_itself name.Turned = refl
found_itself name.Ended = refl
found_itself name.Overflowed = refl
found_itself name.Aborted = refl
found_itself name.Failed = refl

pub name_only : (text : List ℕ) (n : LineName) → text ≡ name_text n → any_name text ≡ Some n
name_only text n e = ap any_name e ∙ found_itself n
