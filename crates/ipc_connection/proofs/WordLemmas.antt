-- Words that are read from bytes.
use Rattle.std.proofs.Common.{◌≡◌, ℕ, suc, ◌+◌, ◌*◌, ◌≤◌, List, [], ◌∷◌, length, take, drop, replicate, refl, sym, ap, ap₂, ◌∙◌, arith}
use Rattle.std.proofs.lemmas.List.{drop-drop, length-take-le, take-append-drop}
use Rattle.byteorder.specs.Endian.{big_number, IsRead}
use Rattle.ipc_frame.specs.Numbers.{number_in, words_in}
use Rattle.ipc_frame.proofs.FieldLemmas.{sum_eights}
use Rattle.ipc_frame.proofs.JudgeLemmas.{fields_more}

pub words_read : (src dst : List ℕ) → IsRead big_number 8 src dst → dst ≡ words_in (length dst) src
unfolding number_in
words_read src [] h = refl
words_read src (word ∷ dst) h =
    let first : word ≡ number_in 8 src = h 0 (omega arith) in
    let rest = words_read (drop 8 src) dst (λ k few. h (suc k) (omega (arith, few)) ∙ ap (big_number 8) (step k)) in
    ap₂ (λ w ws. w ∷ ws) first rest
  where
    step : (k : ℕ) → drop (8 * suc k) src ≡ drop (8 * k) (drop 8 src)
    step k = let sum : 8 * suc k ≡ 8 + 8 * k = omega arith in ap (λ n. drop n src) sum ∙ sym (drop-drop (8 * k) 8 src)

pub words_there : (n : ℕ) (xs : List ℕ) (m : ℕ) → m ≡ 8 * n → 8 * n ≤ length xs → words_in n (take m xs) ≡ words_in n xs
words_there n xs m e few =
    let there : length (take m xs) ≡ m = length-take-le m xs (omega arith) in
    sym (fields_more (replicate n 8) (take m xs) (drop m xs) (omega (arith, sum_eights n, there, e))) ∙ ap (words_in n) (take-append-drop m xs)
