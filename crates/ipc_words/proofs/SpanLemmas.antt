-- How long a period is at most.
use Rattle.std.proofs.Common.{ℕ, ◌<◌, ◌≤◌, ◌/◌, ◌%◌, ◌*◌, ◌^◌, ◌==◌, true, false, Some, None, if◌then◌else◌, IfSome, arith}
use Rattle.std.proofs.Math.Pow.{pow_mono}
use Rattle.std.proofs.Math.Nat.{mul-le-mul}
use Rattle.ipc_words.specs.Time.{span, longest_span}

-- 2^e * m is at most 2^31 * 1023
product-le-longest : (period : ℕ) → period < 2 ^ 15 → 2 ^ (period / 1024) * (period % 1024) ≤ longest_span
product-le-longest period h =
    let e : period / 1024 ≤ 31 = omega arith in
    let m : period % 1024 ≤ 1023 = omega arith in
    let power : 2 ^ (period / 1024) ≤ 2 ^ 31 = pow_mono e in
    mul-le-mul power m

pub span-le-longest : (period : ℕ) → period < 2 ^ 15 → IfSome (span period) (λ micros. micros ≤ longest_span)
span-le-longest period h =
    elim (period == 0) as (λ b. IfSome (if b then None else Some (2 ^ (period / 1024) * (period % 1024))) (λ micros. micros ≤ longest_span)) [ true ↦ tt | false ↦ product-le-longest period h ]
