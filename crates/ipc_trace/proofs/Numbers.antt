-- The lines of thread numbers, and the lists of numbers that they fill.
use Rattle.std.proofs.Common.{◌≡◌, ℕ, zero, suc, ◌+◌, ◌-◌, ◌≤◌, true, false, List, [], ◌∷◌, ◌++◌, length, replicate, refl, sym, ap, ◌∙◌, arith, append_assoc, append-nil, length-append}
use Rattle.std.specs.Prelude.{◌==◌, ◌&&◌, not}
use Rattle.std.proofs.lemmas.List.{length-replicate, replicate_more, take_all}
use Rattle.std.proofs.lemmas.Bool.{not-true}
use Rattle.ipc_trace.specs.Parts.{number_line, number_lines}
use Rattle.ipc_trace.specs.Steps.{filled}
use Rattle.ipc_trace.specs.declared.line.PartLine.{PartLine}
use Rattle.ipc_trace.specs.declared.line.PartLine.TheVariants as line

pub filled_up : (place : ℕ) (xs : List ℕ) → length xs ≤ place → filled place xs ≡ xs ++ replicate (place - length xs) 0
filled_up place xs within = ap (λ (l : List ℕ). l ++ replicate (place - length xs) 0) (take_all place xs within)

pub filled_length : (place : ℕ) (xs : List ℕ) → length xs ≤ place → length (filled place xs) ≡ place
filled_length place xs within =
    ap length (filled_up place xs within) ∙ length-append xs (replicate (place - length xs) 0)
    ∙ omega (arith, length-replicate {A = ℕ} (place - length xs) 0)

-- one place more
pub filled_more : (place : ℕ) (xs : List ℕ) → length xs ≤ place → filled (place + 1) xs ≡ filled place xs ++ 0 ∷ []
filled_more place xs within =
    let next : (place + 1) - length xs ≡ (place - length xs) + 1 = omega arith in
    filled_up (place + 1) xs (omega arith) ∙ ap (λ n. xs ++ replicate n 0) next
    ∙ ap (λ (l : List ℕ). xs ++ l) (sym (replicate_more (place - length xs) 0))
    ∙ sym (append_assoc xs (replicate (place - length xs) 0) (0 ∷ []))
    ∙ ap (λ (l : List ℕ). l ++ 0 ∷ []) (sym (filled_up place xs within))

-- what is long enough is filled
pub filled_already : (place : ℕ) (xs : List ℕ) → length xs ≡ place → filled place xs ≡ xs
filled_already place xs same =
    let none : place - length xs ≡ 0 = omega arith in
    filled_up place xs (omega arith) ∙ ap (λ n. xs ++ replicate n 0) none ∙ append-nil xs

pub filled_none : (xs : List ℕ) → length xs ≤ 0 → filled 0 xs ≡ []
filled_none [] none = refl
filled_none (x ∷ xs) none = absurd (omega arith)

-- the lines of thread numbers, one list behind another
pub numbers_append : (k : ℕ) (vs ds ws es : List ℕ) → length vs ≡ length ds
    → number_lines k (vs ++ ws) (ds ++ es) ≡ number_lines k vs ds ++ number_lines (k + length vs) ws es
numbers_append k [] [] ws es same = let e : k ≡ k + 0 = omega arith in ap (λ n. number_lines n ws es) e
numbers_append k [] (d ∷ ds) ws es same = absurd (omega (arith, same))
numbers_append k (v ∷ vs) [] ws es same = absurd (omega (arith, same))
numbers_append k (v ∷ vs) (d ∷ ds) ws es same =
    let rest = numbers_append (k + 1) vs ds ws es (omega (arith, same)) in
    let next : (k + 1) + length vs ≡ k + length (v ∷ vs) = omega arith in
    ap (λ (l : List PartLine). number_line k v d ++ l) (rest ∙ ap (λ n. number_lines (k + 1) vs ds ++ number_lines n ws es) next)
    ∙ sym (append_assoc (number_line k v d) (number_lines (k + 1) vs ds) (number_lines (k + length (v ∷ vs)) ws es))

-- numbers that had no thread have no line
pub numbers_none : (k n : ℕ) → number_lines k (replicate n 0) (replicate n 0) ≡ []
numbers_none k zero = refl
numbers_none k (suc n) = numbers_none (k + 1) n

pub numbers_filled : (place : ℕ) (vs ds : List ℕ) → length vs ≡ length ds → length vs ≤ place
    → number_lines 0 (filled place vs) (filled place ds) ≡ number_lines 0 vs ds
numbers_filled place vs ds same within =
    let n : place - length ds ≡ place - length vs = omega (arith, same) in
    (λ i. number_lines 0 (filled_up place vs within i) (filled_up place ds (omega (arith, same)) i))
    ∙ ap (λ m. number_lines 0 (vs ++ replicate (place - length vs) 0) (ds ++ replicate m 0)) n
    ∙ numbers_append 0 vs ds (replicate (place - length vs) 0) (replicate (place - length vs) 0) same
    ∙ ap (λ (l : List PartLine). number_lines 0 vs ds ++ l) (numbers_none (0 + length vs) (place - length vs))
    ∙ append-nil (number_lines 0 vs ds)

-- a number whose line says something
pub number_said : (k v d : ℕ) → not ((v == 0) && (d == 0)) ≡ true → number_line k v d ≡ line.Number k v d ∷ []
number_said k v d said = let no : ((v == 0) && (d == 0)) ≡ false = not-true ((v == 0) && (d == 0)) said in rw no

-- one number more
pub numbers_more : (vs ds : List ℕ) (k v d : ℕ) → length vs ≡ length ds → length vs ≤ k → not ((v == 0) && (d == 0)) ≡ true
    → number_lines 0 (filled k vs ++ v ∷ []) (filled k ds ++ d ∷ []) ≡ number_lines 0 vs ds ++ line.Number k v d ∷ []
numbers_more vs ds k v d same within said =
    let long : 0 + length (filled k vs) ≡ k = omega (arith, filled_length k vs within) in
    let same_filled : length (filled k vs) ≡ length (filled k ds) = filled_length k vs within ∙ sym (filled_length k ds (omega (arith, same))) in
    numbers_append 0 (filled k vs) (filled k ds) (v ∷ []) (d ∷ []) same_filled
    ∙ ap (λ n. number_lines 0 (filled k vs) (filled k ds) ++ (number_line n v d ++ [])) long
    ∙ ap (λ (l : List PartLine). l ++ (number_line k v d ++ [])) (numbers_filled k vs ds same within)
    ∙ ap (λ (l : List PartLine). number_lines 0 vs ds ++ l) (append-nil (number_line k v d) ∙ number_said k v d said)
