-- The words that a receiver gets of a message, and how many strings it has.
use Rattle.std.proofs.Common.{◌≡◌, ℕ, zero, suc, ◌+◌, ◌*◌, ◌<◌, ◌≤◌, ◌==◌, eqb-true, Bool, true, false, cond, List, [], ◌∷◌, ◌++◌, length, drop, get_or, slice_get, Option, Some, None, refl, sym, ap, ◌∙◌, arith, nat_le, drop-cons, append_assoc}
use Rattle.std.specs.Option.{option_map, option_map_or}
use Rattle.std.proofs.lemmas.Option.{slice_get-get_or, none-some}
use Rattle.std.proofs.lemmas.List.Sums.{sum_by-cons}
use Rattle.ipc_items.specs.declared.buffer_list.Substring.{Substring}
use Rattle.ipc_items.specs.Buffers.{capacity}
use Rattle.ipc_items.specs.Fit.{overflow_offset}
use Rattle.ipc_items.specs.Pieces.{simple_items, first_pointer}
use Rattle.ipc_items.specs.Strings.{size_of}

-- simple items

at_place : {X : Type 0} (f : X → ℕ) (xs : List X) (k : ℕ) (d : X) → k < length xs → option_map_or f (slice_get xs k) 0 ≡ f (get_or xs k d)
at_place f xs k d h = rw (slice_get-get_or xs k d h) refl

pub simple_items-more : (buffers : List (List Substring)) (strings : List (List ℕ)) (k n pointer : ℕ) → k < length strings → k < length buffers → n ≡ option_map_or (λ s. length s) (slice_get strings k) 0 → pointer ≡ option_map_or first_pointer (slice_get buffers k) 0 → simple_items (drop k buffers) (drop k strings) ≡ n * 1024 ∷ pointer ∷ simple_items (drop (suc k) buffers) (drop (suc k) strings)
simple_items-more buffers strings k n pointer h l e f =
    let s = e ∙ at_place (λ (s : List ℕ). length s) strings k [] h in
    let b = f ∙ at_place first_pointer buffers k [] l in
    rw (drop-cons strings k [] h, drop-cons buffers k [] l, s, b) refl

pub append_two : (words : List ℕ) (first same pointer : ℕ) (rest : List ℕ) → first ≡ same → ((words ++ first ∷ []) ++ pointer ∷ []) ++ rest ≡ words ++ (same ∷ pointer ∷ rest)
append_two words first same pointer rest e =
    append_assoc (words ++ first ∷ []) (pointer ∷ []) rest ∙ append_assoc words (first ∷ []) (pointer ∷ rest) ∙ ap (λ n. words ++ (n ∷ pointer ∷ rest)) e

-- a list of no strings
pub no_strings : (strings : List (List ℕ)) → (length strings == 0) ≡ true → strings ≡ []
no_strings [] h = refl
no_strings (s ∷ strings) h = absurd (omega (arith, eqb-true (length (s ∷ strings)) 0 h))

-- no string is longer than all together
pub length-le-size : (strings : List (List ℕ)) (k : ℕ) → option_map_or (λ s. length s) (slice_get strings k) 0 ≤ size_of strings
length-le-size [] k = omega arith
length-le-size (s ∷ strings) zero = omega (arith, sum_by-cons (λ (s : List ℕ). length s) s strings)
length-le-size (s ∷ strings) (suc k) = omega (arith, sum_by-cons (λ (s : List ℕ). length s) s strings, length-le-size strings k)

-- strings that fit are no more than the buffer strings
pub fitting-length : (strings : List (List ℕ)) (buffers : List (List Substring)) → overflow_offset strings buffers ≡ None → length strings ≤ length buffers
fitting-length [] buffers h = omega arith
fitting-length (s ∷ strings) [] h = absurd (none-some 0 (sym h))
fitting-length (s ∷ strings) (b ∷ buffers) h = go (nat_le (length s) (capacity b)) (overflow_offset strings buffers) refl h (fitting-length strings buffers)
  where
    go : (t : Bool) (o : Option ℕ) → overflow_offset strings buffers ≡ o → cond t (option_map (λ offset. length s + offset) o) (Some 0) ≡ None → (overflow_offset strings buffers ≡ None → length strings ≤ length buffers) → length (s ∷ strings) ≤ length (b ∷ buffers)
    go true None e h rest = omega (arith, rest e)
    go true (Some x) e h rest = absurd (none-some (length s + x) (sym h))
    go false o e h rest = absurd (none-some 0 (sym h))
