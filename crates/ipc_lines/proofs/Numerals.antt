-- The digits of a number in a base, one digit at the end at a time.
use Rattle.std.proofs.Common.{◌≡◌, ℕ, zero, suc, ◌+◌, ◌*◌, ◌/◌, ◌%◌, ◌^◌, ◌<◌, ◌≤◌, Bool, true, false, cond, eqb, List, [], ◌∷◌, ◌++◌, length, refl, sym, ap, ◌∙◌, ◌⊎◌, inl, inr, ⊎_elim, append_assoc, length-append, arith}
use Rattle.std.proofs.Math.Nat.{div-eq_of_lt, div-add-mod, div-add-mod', mod-lt, mod-eq_of_lt, mul-le-mul_right, pow-suc, mul-add-div_right, mul-add-mod_self_right}
use Rattle.std.specs.Fmt.{decimal, digits, digits_onto, digit_glyph}
use Rattle.std.specs.Prelude.{nat_lt}
use Rattle.std.specs.List.{All}
use Rattle.std.proofs.lemmas.List.Elements.{All-cons, All-nil}
use Rattle.std.proofs.lemmas.Bool.Decides.{nat_tests}
use Rattle.std.proofs.lemmas.Bool.{cases_lt}
use borrow.Author.Tests.{eq-eqb, ne_eqb}

-- a list with one element at its end
pub snoc_same : {A : Type 0} (xs ys : List A) (x y : A) → xs ++ x ∷ [] ≡ ys ++ y ∷ [] → (xs ≡ ys) × (x ≡ y)
snoc_same [] [] x y e = (refl, cc)
snoc_same {A} [] (b ∷ bs) x y e = absurd (omega (arith, ap length e, length-append bs (y ∷ [])))
snoc_same {A} (a ∷ as') [] x y e = absurd (omega (arith, ap length e, length-append as' (x ∷ [])))
snoc_same {A} (a ∷ as') (b ∷ bs) x y e =
    let rest : as' ++ x ∷ [] ≡ bs ++ y ∷ [] = cc in
    let h = snoc_same as' bs x y rest in
    (let front = h.0 in cc, h.1)

module _ (base : ℕ) (low : 2 ≤ base) (high : base ≤ 16) where
  quotient_zero : (n : ℕ) → n < base → n / base ≡ 0
  quotient_zero n h = div-eq_of_lt h

  quotient_some : (n : ℕ) → base ≤ n → 0 < n / base
  quotient_some n h = ⊎_elim (λ l. omega (arith, div-add-mod n base, mod-lt n {m = base} (omega arith), ap (λ q. base * q) (zero_of _ l))) (λ l. l) (cases_lt (n / base) 1)
    where
      zero_of : (q : ℕ) → q < 1 → q ≡ 0
      zero_of q h = omega arith

  quotient_half : (n k : ℕ) → n < 2 ^ suc k → n / base < 2 ^ k
  quotient_half n k h = omega (arith, div-add-mod n base, mul-le-mul_right (n / base) low, pow-suc 2 k)

  onto_last : (k n : ℕ) (acc : List ℕ) → n < base → digits_onto (suc k) base false n acc ≡ digit_glyph false (n % base) ∷ acc
  onto_last k n acc h = ap (λ t. cond t (digit_glyph false (n % base) ∷ acc) (digits_onto k base false (n / base) (digit_glyph false (n % base) ∷ acc))) (eq-eqb (n / base) 0 (quotient_zero n h))

  onto_next : (k n : ℕ) (acc : List ℕ) → base ≤ n → digits_onto (suc k) base false n acc ≡ digits_onto k base false (n / base) (digit_glyph false (n % base) ∷ acc)
  onto_next k n acc h = ap (λ t. cond t (digit_glyph false (n % base) ∷ acc) (digits_onto k base false (n / base) (digit_glyph false (n % base) ∷ acc))) (ne_eqb (n / base) 0 (λ e. omega (arith, quotient_some n h)))

  onto-append : (k n : ℕ) (acc : List ℕ) → digits_onto k base false n acc ≡ digits_onto k base false n [] ++ acc
  onto-append zero n acc = refl
  onto-append (suc k) n acc = ⊎_elim
      (λ l. onto_last k n acc l ∙ ap (λ x. x ++ acc) (sym (onto_last k n [] l)))
      (λ l. onto_next k n acc l ∙ onto-append k (n / base) (digit_glyph false (n % base) ∷ acc) ∙ sym (append_assoc (digits_onto k base false (n / base) []) (digit_glyph false (n % base) ∷ []) acc) ∙ ap (λ x. x ++ acc) (sym (onto_next k n [] l ∙ onto-append k (n / base) (digit_glyph false (n % base) ∷ []))))
      (cases_lt n base)

  -- the limit on the digits does not matter once it is large enough
  onto_enough : (j k n : ℕ) (acc : List ℕ) → n < 2 ^ suc j → n < 2 ^ suc k → digits_onto (suc j) base false n acc ≡ digits_onto (suc k) base false n acc
  onto_enough zero k n acc p q = onto_last zero n acc (omega arith) ∙ sym (onto_last k n acc (omega arith))
  onto_enough (suc j) zero n acc p q = onto_last (suc j) n acc (omega arith) ∙ sym (onto_last zero n acc (omega arith))
  onto_enough (suc j) (suc k) n acc p q = ⊎_elim
      (λ l. onto_last (suc j) n acc l ∙ sym (onto_last (suc k) n acc l))
      (λ l. onto_next (suc j) n acc l ∙ onto_enough j k (n / base) (digit_glyph false (n % base) ∷ acc) (quotient_half n (suc j) p) (quotient_half n (suc k) q) ∙ sym (onto_next (suc k) n acc l))
      (cases_lt n base)

  pub digits_one : (n : ℕ) → n < base → digits base false n ≡ digit_glyph false n ∷ []
  unfolding digits
  digits_one n h = onto_last 63 n [] h ∙ ap (λ m. digit_glyph false m ∷ []) (mod-eq_of_lt h)

  pub digits_step : (n : ℕ) → base ≤ n → n < 2 ^ 64 → digits base false n ≡ digits base false (n / base) ++ digit_glyph false (n % base) ∷ []
  unfolding digits
  digits_step n h small =
      onto_next 63 n [] h ∙ onto_enough 62 63 (n / base) (digit_glyph false (n % base) ∷ []) (quotient_half n 63 small) (omega (arith, quotient_half n 63 small)) ∙ onto-append 64 (n / base) (digit_glyph false (n % base) ∷ [])

  -- the digits of h * base + l
  pub digits_more : (h l : ℕ) → 0 < h → l < base → h * base + l < 2 ^ 64 → digits base false (h * base + l) ≡ digits base false h ++ digit_glyph false l ∷ []
  digits_more h l some below small =
      let front : (h * base + l) / base ≡ h = mul-add-div_right {m = base} (omega arith) h l ∙ omega (arith, quotient_zero l below) in
      let end : (h * base + l) % base ≡ l = mul-add-mod_self_right h base l ∙ mod-eq_of_lt below in
      digits_step (h * base + l) (omega (arith, mul-le-mul_right {m = 1} {n = h} base some)) small ∙ (λ i. digits base false (front i) ++ digit_glyph false (end i) ∷ [])

  onto_length : (k n : ℕ) (acc : List ℕ) → length (digits_onto k base false n acc) ≤ k + length acc
  onto_length zero n acc = omega arith
  onto_length (suc k) n acc = ⊎_elim
      (λ l. omega (arith, ap length (onto_last k n acc l)))
      (λ l. omega (arith, ap length (onto_next k n acc l), onto_length k (n / base) (digit_glyph false (n % base) ∷ acc)))
      (cases_lt n base)

  pub length-digits : (n : ℕ) → length (digits base false n) ≤ 64
  unfolding digits
  length-digits n = onto_length 64 n []

  -- what a last digit says
  pub digits_cases : (v : ℕ) (front : List ℕ) (last : ℕ) → v < 2 ^ 64 → front ++ last ∷ [] ≡ digits base false v
      → ((v < base) × (front ≡ []) × (last ≡ digit_glyph false v)) ⊎ ((base ≤ v) × (front ≡ digits base false (v / base)) × (last ≡ digit_glyph false (v % base)))
  digits_cases v front last small e = ⊎_elim
      (λ l. let h = snoc_same front [] last (digit_glyph false v) (e ∙ digits_one v l) in inl (l, h.0, h.1))
      (λ l. let h = snoc_same front (digits base false (v / base)) last (digit_glyph false (v % base)) (e ∙ digits_step v l small) in inr (l, h.0, h.1))
      (cases_lt v base)

  pub digits_some : (n : ℕ) → n < 2 ^ 64 → 0 < length (digits base false n)
  digits_some n small = ⊎_elim
      (λ l. omega (arith, ap length (digits_one n l)))
      (λ l. omega (arith, ap length (digits_step n l small), length-append (digits base false (n / base)) (digit_glyph false (n % base) ∷ [])))
      (cases_lt n base)

  -- what bytes with this last digit spell
  pub found_one : (bytes front : List ℕ) (last low : ℕ) → bytes ≡ front ++ last ∷ [] → length front ≡ 0 → low < base → last ≡ digit_glyph false low → bytes ≡ digits base false low
  found_one bytes front last low e z l is = e ∙ ap (λ xs. xs ++ last ∷ []) (empty_of front z) ∙ ap (λ b. b ∷ []) is ∙ sym (digits_one low l)
    where
      empty_of : (xs : List ℕ) → length xs ≡ 0 → xs ≡ []
      empty_of [] h = refl
      empty_of (x ∷ xs) h = absurd (omega arith)

  pub found_more : (bytes front : List ℕ) (last low high : ℕ) → bytes ≡ front ++ last ∷ [] → front ≡ digits base false high → 0 < high → low < base → last ≡ digit_glyph false low → high * base + low < 2 ^ 64
      → bytes ≡ digits base false (high * base + low)
  found_more bytes front last low high e f some l is small = e ∙ (λ i. f i ++ is i ∷ []) ∙ sym (digits_more high low some l small)

  -- which digit is the last of a number, and what is in front of it
  pub last_low : (v : ℕ) → ℕ
  last_low v = v % base

  pub last_of : (v : ℕ) (bytes front : List ℕ) (last : ℕ) → v < 2 ^ 64 → bytes ≡ front ++ last ∷ [] → bytes ≡ digits base false v → (v % base < base) × (last ≡ digit_glyph false (v % base))
  last_of v bytes front last small e d =
      (mod-lt v {m = base} (omega arith), ⊎_elim (λ h. h.2 ∙ ap (digit_glyph false) (sym (mod-eq_of_lt h.0))) (λ h. h.2) (digits_cases v front last small (sym e ∙ d)))

  -- where nothing is in front, the number is its last digit
  pub short_of : (v : ℕ) (bytes front : List ℕ) (last : ℕ) → v < 2 ^ 64 → bytes ≡ front ++ last ∷ [] → bytes ≡ digits base false v → length front ≡ 0 → v % base ≡ v
  short_of v bytes front last small e d z = ⊎_elim (λ h. mod-eq_of_lt h.0)
      (λ h. absurd (omega (arith, ap length h.1, digits_some (v / base) (omega (arith, quotient_half v 63 small)))))
      (digits_cases v front last small (sym e ∙ d))

  -- where something is in front, that is the digits of a number above 0
  pub front_of : (v : ℕ) (bytes front : List ℕ) (last : ℕ) → v < 2 ^ 64 → bytes ≡ front ++ last ∷ [] → bytes ≡ digits base false v → (length front ≡ 0 → ⊥)
      → (v / base < 2 ^ 64) × (front ≡ digits base false (v / base)) × (0 < v / base) × (v / base * base + v % base ≡ v)
  front_of v bytes front last small e d some = ⊎_elim (λ h. absurd (some (ap length h.1)))
      (λ h. (omega (arith, quotient_half v 63 small), h.1, quotient_some v h.0, div-add-mod' v base))
      (digits_cases v front last small (sym e ∙ d))

-- what holds of each digit holds of each byte of a number
onto_all : (base : ℕ) (P : ℕ → Type 0) → ((d : ℕ) → d < base → P (digit_glyph false d)) → 2 ≤ base → (k n : ℕ) (acc : List ℕ) → All P acc → All P (digits_onto k base false n acc)
onto_all base P each low zero n acc h = h
onto_all base P each low (suc k) n acc h =
    let g = each (n % base) (mod-lt n {m = base} (omega arith)) in
    let more = All-cons P (digit_glyph false (n % base)) acc g h in
    by (eqb (n / base) 0) _ _ more (onto_all base P each low k (n / base) (digit_glyph false (n % base) ∷ acc) more)
  where
    by : (b : Bool) (xs ys : List ℕ) → All P xs → All P ys → All P (cond b xs ys)
    by true xs ys p q = p
    by false xs ys p q = q

pub digits_all : (base : ℕ) (P : ℕ → Type 0) → ((d : ℕ) → d < base → P (digit_glyph false d)) → 2 ≤ base → (n : ℕ) → All P (digits base false n)
unfolding digits
digits_all base P each low n = onto_all base P each low 64 n [] (All-nil P)

-- the bytes of a decimal are below 58, and those of digits from 48 on
pub decimal_low : (n : ℕ) → All (λ b. b < 58) (decimal n)
decimal_low n = digits_all 10 (λ b. b < 58) (λ d h. grind (arith, nat_tests)) (omega arith) n

pub digits_high : (base : ℕ) → 2 ≤ base → (n : ℕ) → All (λ b. 48 ≤ b) (digits base false n)
digits_high base low n = digits_all base (λ b. 48 ≤ b) (λ d h. glyph_high (nat_lt d 10) d) low n
  where
    glyph_high : (t : Bool) (d : ℕ) → 48 ≤ cond t (48 + d) (87 + d)
    glyph_high true d = omega arith
    glyph_high false d = omega arith
