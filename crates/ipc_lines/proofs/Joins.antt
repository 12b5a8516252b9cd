-- Lists of texts with a byte between each two, one more at a time.
use Rattle.std.proofs.Common.{◌≡◌, ℕ, suc, ◌+◌, ◌<◌, false, List, [], ◌∷◌, ◌++◌, length, get_or, take, map, refl, sym, ap, ◌∙◌, arith, append_assoc}
use Rattle.std.specs.Prelude.{if◌then◌else◌, ◌==◌}
use Rattle.std.specs.List.{join_with_byte}
use Rattle.std.proofs.lemmas.Bool.{ne_eqb}
use Rattle.std.proofs.lemmas.List.{map_more, length-map, length-take-le}
use Rattle.ipc_lines.specs.Texts.{listed}

-- one more text behind one or more
join_after : (c : ℕ) (x : List ℕ) (xs : List (List ℕ)) (y : List ℕ) → join_with_byte c ((x ∷ xs) ++ y ∷ []) ≡ join_with_byte c (x ∷ xs) ++ (c ∷ y)
join_after c x [] y = refl
join_after c x (z ∷ xs) y = simp (join_after c z xs y, append_assoc)

-- what stands before a text at a place
abbrev before : ℕ → ℕ → List ℕ
before c n = if n == 0 then [] else c ∷ []

before_later : (c n : ℕ) → before c (suc n) ≡ c ∷ []
before_later c n =
    let e : (suc n == 0) ≡ false = ne_eqb (suc n) 0 (λ h. absurd (omega arith)) in
    rw e refl

-- one more text
join_push : (c : ℕ) (xs : List (List ℕ)) (y : List ℕ) → join_with_byte c (xs ++ y ∷ []) ≡ (join_with_byte c xs ++ before c (length xs)) ++ y
join_push c [] y = refl
join_push c (x ∷ xs) y =
    join_after c x xs y ∙ sym (append_assoc (join_with_byte c (x ∷ xs)) (c ∷ []) y)
    ∙ ap (λ s. (join_with_byte c (x ∷ xs) ++ s) ++ y) (sym (before_later c (length xs)))

-- one more element of a list
pub join_more : {X : Type 0} (c : ℕ) (f : X → List ℕ) (xs : List X) (k : ℕ) (d : X) → k < length xs
    → join_with_byte c (map f (take (k + 1) xs)) ≡ (join_with_byte c (map f (take k xs)) ++ (if k == 0 then [] else c ∷ [])) ++ f (get_or xs k d)
join_more c f xs k d h =
    let e : length (map f (take k xs)) ≡ k = length-map (take k xs) f ∙ length-take-le k xs (omega arith) in
    ap (λ ys. join_with_byte c ys) (map_more f xs k d h) ∙ join_push c (map f (take k xs)) (f (get_or xs k d))
    ∙ ap (λ n. (join_with_byte c (map f (take k xs)) ++ before c n) ++ f (get_or xs k d)) e

-- a turn of a loop: the separator and the text of an element were appended
pub join_turn : {X : Type 0} (c : ℕ) (f : X → List ℕ) (xs : List X) (k : ℕ) (d x : X) (start now apart next : List ℕ) → k < length xs → get_or xs k d ≡ x
    → now ≡ start ++ join_with_byte c (map f (take k xs)) → apart ≡ now ++ (if k == 0 then [] else c ∷ []) → next ≡ apart ++ f x
    → next ≡ start ++ join_with_byte c (map f (take (k + 1) xs))
join_turn c f xs k d x start now apart next h here e1 e2 e3 =
    let more = join_more c f xs k d h in
    let x_is : f (get_or xs k d) ≡ f x = ap f here in
    e3 ∙ ap (λ s. s ++ f x) (e2 ∙ ap (λ s. s ++ before c k) e1)
    ∙ append_assoc (start ++ join_with_byte c (map f (take k xs))) (before c k) (f x)
    ∙ append_assoc start (join_with_byte c (map f (take k xs))) (before c k ++ f x)
    ∙ ap (λ s. start ++ s) (sym (append_assoc (join_with_byte c (map f (take k xs))) (before c k) (f x)) ∙ ap (λ s. (join_with_byte c (map f (take k xs)) ++ before c k) ++ s) (sym x_is) ∙ sym more)

-- where there is an element, the text for none is not used
pub listed_some : {X : Type 0} (none : List ℕ) (c : ℕ) (f : X → List ℕ) (xs : List X) → 0 < length xs → listed none c f xs ≡ join_with_byte c (map f xs)
listed_some none c f [] h = absurd (omega arith)
listed_some none c f (x ∷ xs) h = refl
