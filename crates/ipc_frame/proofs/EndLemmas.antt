-- A frame that gets just the bytes that are wanted ends with them.
use Rattle.std.proofs.Common.{◌≡◌, ℕ, zero, suc, ◌-◌, ◌≤◌, inl, inr, List, [], ◌∷◌, ◌++◌, length, take, drop, refl, sym, ap, ap₂, ◌∙◌, arith, length-append}
use Rattle.std.proofs.lemmas.List.{append-nil, take_at, take-append-le, take-append-drop, length-take-le}
use Rattle.std.proofs.lemmas.Bool.{cases_lt}
use Rattle.ipc_frame.specs.declared.kind.Side.{Side}
use Rattle.ipc_frame.specs.declared.frame.Frame.{Frame}
use Rattle.ipc_frame.specs.Numbers.{IsBytes}
use Rattle.ipc_frame.specs.Frames.{spelling}
use Rattle.ipc_frame.specs.Reading.{Short, Whole, reading}
use Rattle.ipc_frame.proofs.NumberLemmas.{bytes_append}
use Rattle.ipc_frame.proofs.SpellingLemmas.{reading_again}
use Rattle.ipc_frame.proofs.FoundLemmas.{whole_within, reading_begins}
use Rattle.ipc_frame.proofs.StreamLemmas.{short_is_exact, whole_told}

-- the front of joined lists
pub take_past : (n : ℕ) (xs ys : List ℕ) → length xs ≤ n → take n (xs ++ ys) ≡ xs ++ take (n - length xs) ys
take_past n [] ys h = let z : n - 0 ≡ n = omega arith in rw z refl
take_past zero (x ∷ xs) ys h = absurd (omega arith)
take_past (suc n) (x ∷ xs) ys h = let z : suc n - suc (length xs) ≡ n - length xs = omega arith in rw z (ap (λ zs. x ∷ zs) (take_past n xs ys (omega arith)))

pub ends_exactly : (side : Side) (bytes more : List ℕ) (wanted : ℕ) (f : Frame) (n : ℕ) → IsBytes bytes → IsBytes more → reading side bytes ≡ Short wanted → length more ≤ wanted → reading side (bytes ++ more) ≡ Whole f n → n ≡ length (bytes ++ more)
ends_exactly side bytes more wanted f n hb hm short few whole =
    let begins = reading_begins side (bytes ++ more) f n (bytes_append bytes more hb hm) whole in
    let within = whole_within side (bytes ++ more) f n whole in
    let total = length-append bytes more in
    let front : take n (bytes ++ more) ≡ spelling f = ap (take n) (sym begins.text) ∙ take_at (spelling f) (drop n (bytes ++ more)) n (sym begins.count) in
    elim (cases_lt n (length (bytes ++ more))) [
      | inr least ↦ omega (arith, within.1)
      | inl less ↦ elim (cases_lt (length bytes) n) [
        | inr early ↦
            let shape : bytes ≡ spelling f ++ drop n bytes = sym (take-append-drop n bytes) ∙ ap (λ xs. xs ++ drop n bytes) (sym (take-append-le n bytes more early) ∙ front) in
            let again = reading_again f begins.is (drop n bytes) in
            let bad : reading side bytes ≡ Whole f _ = ap₂ reading (sym begins.side_is) shape ∙ again in
            absurd (whole_told f _ wanted (sym bad ∙ short))
        | inl late ↦
            let part = take (n - length bytes) more in
            let shape : bytes ++ part ≡ spelling f = sym (take_past n bytes more (omega arith)) ∙ front in
            let size : length part ≡ n - length bytes = length-take-le (n - length bytes) more (omega arith) in
            let again = reading_again f begins.is [] in
            let bad : reading side (bytes ++ part) ≡ Whole f _ = ap₂ reading (sym begins.side_is) (shape ∙ sym (append-nil (spelling f))) ∙ again in
            let still = (short_is_exact side bytes part wanted short).1 (omega arith) in
            absurd (whole_told f _ _ (sym bad ∙ still))
      ]
    ]
