-- Strings are laid out one behind the other.
use Rattle.std.proofs.Common.{◌≡◌, ℕ, zero, suc, ◌+◌, ◌*◌, ◌≤◌, List, [], ◌∷◌, ◌++◌, Some, None}
use Rattle.std.proofs.Common.{length, drop, refl, sym, ap, ap₂, ◌∙◌, arith, append_assoc}
use Rattle.std.proofs.Common.{append-nil, length-append}
use Rattle.std.specs.List.{concat, slice_get}
use Rattle.std.proofs.lemmas.List.Sums.{sum_by-cons}
use Rattle.ipc_items.specs.Laws.{simple_words}
use Rattle.ipc_items.specs.Strings.{size_of}
use Rattle.ipc_items.proofs.RowLemmas.{drop_at}

-- what is laid out so far, and what the strings from a place on add, is all
pub record IsLaidOut (words : List ℕ) (strings : List (List ℕ)) (place : ℕ) (registers payload : List ℕ) : Type 0 where
  pub registers_are : registers ++ simple_words (length payload) (drop place strings) ≡ words ++ simple_words 0 strings
  pub payload_is : payload ++ concat (drop place strings) ≡ concat strings
  pub within : place ≤ length strings

pub place_within : (strings : List (List ℕ)) (place : ℕ) (string : List ℕ)
    → slice_get strings place ≡ Some string → place + 1 ≤ length strings
place_within [] place string e = cc
place_within (x ∷ xs) zero string e = omega arith
place_within (x ∷ xs) (suc place) string e = let h = place_within xs place string e in omega (arith, h)

pub string_within : (strings : List (List ℕ)) (place : ℕ) (string : List ℕ)
    → slice_get strings place ≡ Some string → length string ≤ size_of strings
string_within [] place string e = cc
string_within (x ∷ xs) zero string e = let same : x ≡ string = cc in omega
    (arith, ap length same, sum_by-cons (λ (s : List ℕ). length s) x xs)
string_within (x ∷ xs) (suc place) string e = let h = string_within xs place string e in omega
    (arith, h, sum_by-cons (λ (s : List ℕ). length s) x xs)

pub laid_out_none : (words registers payload : List ℕ) (strings : List (List ℕ))
    → registers ≡ words → payload ≡ [] → IsLaidOut words strings 0 registers payload
laid_out_none words registers payload strings r p = rw (r, p)
    (record { registers_are = refl; payload_is = refl; within = omega arith })

pub laid_out_more : (words registers payload next more : List ℕ) (strings : List (List ℕ))
    (place : ℕ) (string : List ℕ) → IsLaidOut words strings place registers payload
    → slice_get strings place ≡ Some string → next ≡ registers ++ length string * 1024 ∷ length
    payload ∷ [] → more ≡ payload ++ string → IsLaidOut words strings (place + 1) next more
laid_out_more words registers payload next more strings place string h e is_next is_more =
    let rest = drop (place + 1) strings in
    let here : drop place strings ≡ string ∷ rest = drop_at strings place string e in
    let size : length more ≡ length payload + length string = ap length is_more ∙ length-append payload string in
    record {
      registers_are =
          ap₂ (λ xs n. xs ++ simple_words n rest) is_next size
          ∙ append_assoc registers (length string * 1024 ∷ length payload ∷ []) (simple_words (length payload + length string) rest)
          ∙ ap (λ ss. registers ++ simple_words (length payload) ss) (sym here)
          ∙ h.registers_are;
      payload_is =
          ap (λ xs. xs ++ concat rest) is_more
          ∙ append_assoc payload string (concat rest)
          ∙ ap (λ ss. payload ++ concat ss) (sym here)
          ∙ h.payload_is;
      within = place_within strings place string e;
    }

none_past : (strings : List (List ℕ)) (place : ℕ) → slice_get strings place ≡ None → drop place strings ≡ []
none_past [] zero e = refl
none_past [] (suc place) e = refl
none_past (x ∷ xs) zero e = cc
none_past (x ∷ xs) (suc place) e = none_past xs place e

pub laid_out_all : (words registers payload : List ℕ) (strings : List (List ℕ)) (place : ℕ)
    → IsLaidOut words strings place registers payload → slice_get strings place ≡ None
    → (registers ≡ words ++ simple_words 0 strings) × (payload ≡ concat strings)
laid_out_all words registers payload strings place h e =
    let none = none_past strings place e in (
      sym (append-nil registers) ∙ ap (λ ss. registers ++ simple_words (length payload) ss) (sym none) ∙ h.registers_are,
      sym (append-nil payload) ∙ ap (λ ss. payload ++ concat ss) (sym none) ∙ h.payload_is,
    )
