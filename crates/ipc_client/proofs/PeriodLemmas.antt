-- The least period that is not shorter than so many microseconds.
use Rattle.std.proofs.Common.{◌≡◌, ℕ, ◌+◌, ◌-◌, ◌*◌, ◌/◌, ◌%◌, ◌^◌, ◌==◌, ◌≤◌, ◌<◌, Some, false}
use Rattle.std.proofs.Common.{nat_lt, inl, inr, refl, ap, ◌∙◌, arith}
use Rattle.std.proofs.Math.Nat.{mul-le-mul_left}
use Rattle.std.proofs.lemmas.Nat.{pow-add}
use Rattle.std.proofs.lemmas.Bool.{cases_Bool, cases_lt, ne_eqb}
use Rattle.ipc_words.specs.Time.{period_in, span}
use Rattle.ipc_client.specs.Timeouts.{IsLeastPeriod}

-- so many microseconds, divided by a power of two and rounded up, where each lesser power leaves
-- more than 1,023
pub record IsHalved (micros e m : ℕ) : Type 0 where
  pub upper : micros ≤ 2 ^ e * m
  pub lower : 2 ^ e * m < micros + 2 ^ e
  pub before : (d : ℕ) → d < e → 2 ^ d * 1023 < micros
  pub some : 0 < m
  pub within : e ≤ 31

pub halved_none : (micros : ℕ) → 0 < micros → IsHalved micros 0 micros
halved_none micros h = record {
  upper = omega arith;
  lower = omega arith;
  before = λ d less. absurd
      (omega (arith, less));
  some = h;
  within = omega arith;
}

-- one power of two less holds no more than 1,023 of it
past : (micros e m : ℕ) → IsHalved micros e m → 1023 < m → 2 ^ e * 1023 < micros
past micros e m h many =
    let p = 2 ^ e in
    let more : p * 1024 ≤ p * m = mul-le-mul_left p (omega (arith, many)) in
    let lower : p * m < micros + p = h.lower in
    omega (arith, more, lower)

pub halved_more : (micros e m n : ℕ) → IsHalved micros e m → 1023 < m → e < 31 → n ≡ m / 2 + m % 2 → IsHalved micros (e + 1) n
halved_more micros e m n h many few is =
    let p = 2 ^ e in
    let twice : 2 ^ (e + 1) ≡ p * 2 = pow-add 2 e 1 in
    let up : m ≤ 2 * n = omega (arith, is) in
    let down : 2 * n ≤ m + 1 = omega (arith, is) in
    let a : p * m ≤ p * (2 * n) = mul-le-mul_left p up in
    let b : p * (2 * n) ≤ p * (m + 1) = mul-le-mul_left p down in
    let shape : (p * 2) * n ≡ p * (2 * n) = product p 2 n in
    let plus : p * (m + 1) ≡ p * m + p = one_more p m in
    record {
      upper = rw twice (omega (arith, shape, a, h.upper));
      lower = rw twice (omega (arith, shape, b, plus, h.lower));
      before = λ d less. elim (cases_lt d e) [
        | inl earlier ↦ h.before d earlier
        | inr later ↦ let
            same : d ≡ e = omega (arith, less, later) in rw same (past micros e m h many)
      ];
      some = omega (arith, up, many);
      within = omega (arith, few);
    }
  where
    product : (a b c : ℕ) → (a * b) * c ≡ a * (b * c)
    product a b c = grind arith

    one_more : (a b : ℕ) → a * (b + 1) ≡ a * b + a
    one_more a b = grind arith

-- the parts of a period that has a span
span_parts : (other long : ℕ) → span other ≡ Some long → long ≡ 2 ^ (other / 1024) * (other % 1024)
span_parts other long is = elim (cases_Bool (other == 0)) [
  | inl here ↦ let none = rw here at is in absurd (cc)
  | inr there ↦ let some = rw there at is in cc
]

-- a period of a lesser exponent is shorter
too_short : (micros d m long : ℕ) → 2 ^ d * 1023 < micros → m ≤ 1023 → long ≡ 2 ^ d * m → micros ≤ long → ⊥
too_short micros d m long before few is enough =
    let p = 2 ^ d in
    let most : p * m ≤ p * 1023 = mul-le-mul_left p few in
    omega (arith, before, most, is, enough)

-- one of no lesser exponent is no shorter than the rounded one
no_shorter : (micros e m k q long : ℕ) → IsHalved micros e m → long ≡ 2 ^ (e + k) * q → micros ≤ long → 2 ^ e * m ≤ long
no_shorter micros e m k q long h is enough =
    let p = 2 ^ e in
    let r = 2 ^ k * q in
    let shape : long ≡ p * r = is ∙ ap (λ x. x * q) (pow-add 2 e k) ∙ product p (2 ^ k) q in
    let plus : p * (r + 1) ≡ p * r + p = one_more p r in
    elim (cases_lt r m) [
      | inr least ↦ let a : p * m ≤ p * r = mul-le-mul_left p least in omega (arith, a, shape)
      | inl more ↦ let a : p * (r + 1) ≤ p * m = mul-le-mul_left p (omega (arith, more)) in absurd
          (omega (arith, a, plus, h.lower, shape, enough))
    ]
  where
    product : (a b c : ℕ) → (a * b) * c ≡ a * (b * c)
    product a b c = grind arith

    one_more : (a b : ℕ) → a * (b + 1) ≡ a * b + a
    one_more a b = grind arith

-- the word of an exponent and a mantissa
word_span : (e m word : ℕ) → word ≡ 1024 * e + m → 0 < m → m ≤ 1023 → span word ≡ Some (2 ^ e * m)
word_span e m word is some few =
    let exponent : word / 1024 ≡ e = omega (arith, is, few) in
    let mantissa : word % 1024 ≡ m = omega (arith, is, few) in
    let not_zero : (word == 0) ≡ false = ne_eqb word 0 (λ zero_is. absurd (omega (arith, is, some, zero_is))) in
    rw (not_zero, exponent, mantissa) refl

pub halved_is_least : (micros e m word : ℕ) → IsHalved micros e m → m ≤ 1023 → word ≡ 1024 * e + m → IsLeastPeriod micros word
halved_is_least micros e m word h few is =
    let own = word_span e m word is h.some few in
    record {
      long = rw own h.upper;
      least = λ other long below spanned enough.
          let parts = span_parts other long spanned in
          let small : other % 1024 ≤ 1023 = omega arith in (
            2 ^ e * m,
            own,
            elim (cases_lt (other / 1024) e) [
              | inl earlier ↦ absurd (too_short micros (other / 1024) (other % 1024) long
                  (h.before (other / 1024) earlier) small parts enough)
              | inr later ↦
                  let sum : other / 1024 ≡ e + (other / 1024 - e) = omega (arith, later) in
                  no_shorter micros e m (other / 1024 - e) (other % 1024) long h (parts
                  ∙ ap (λ x. 2 ^ x * (other % 1024)) sum) enough
            ],
          );
    }

-- no period is so long
pub never_is_least : (micros e m : ℕ) → IsHalved micros e m → 1023 < m → 31 ≤ e → IsLeastPeriod micros 0
never_is_least micros e m h many last =
    record {
      long = tt;
      least = λ other long below spanned enough.
          let parts = span_parts other long spanned in
          let small : other % 1024 ≤ 1023 = omega arith in
          let exponent : other / 1024 ≤ 31 = omega (arith, below) in
          elim (cases_lt (other / 1024) e) [
            | inl earlier ↦ absurd (too_short micros (other / 1024) (other % 1024) long
                (h.before (other / 1024) earlier) small parts enough)
            | inr later ↦
                let same : other / 1024 ≡ e = omega (arith, exponent, later, last, h.within) in
                absurd (too_short micros e (other % 1024) long (past micros e m h many) small
                (parts ∙ ap (λ x. 2 ^ x * (other % 1024)) same) enough)
          ];
    }

pub zero_is_least : (micros : ℕ) → micros ≡ 0 → IsLeastPeriod micros 0x400
zero_is_least micros is = record { long = omega (arith, is); least = λ other long below spanned enough. (0, refl, omega arith) }

-- the period that a word below 2^15 holds
pub period_is : (time period : ℕ) → Some period ≡ period_in time → period ≡ time
period_is time period is = elim (cases_Bool (nat_lt time (2 ^ 15))) [
  | inl here ↦ let some = rw here at is in cc
  | inr there ↦ let none = rw there at is in absurd (cc)
]
