-- What `get_one` reads of an option of `run`.
use Rattle.std.proofs.Common.{◌≡◌, ◌<◌, ◌^◌, ℕ, Option, Some, None, refl, arith}
use Rattle.std.specs.Prelude.{IfSome, IsSome, IsSomeAnd, Result, Ok, Err, option_map}
use Rattle.std.specs.Str.Parse.{ParsesUnsigned, digits_value, without_leading_plus}
use Rattle.clap.specs.Words.{IsUnsignedIn, ReadsOne, Text}

-- the number that a text of decimal digits reads as
abbrev pub value : Text → ℕ
value text = digits_value 10 (without_leading_plus text)

-- a number that was read is that of the text
pub read_number : (E : Type 0) (bits : ℕ) (gives : Text → Result ℕ E → Type 0) (text : Option Text) (read : Option ℕ)
    → ((t : Text) (r : Result ℕ E) → gives t r → ParsesUnsigned bits 10 t r)
    → (text ≡ None → read ≡ None) → ((t : Text) → text ≡ Some t → ReadsOne gives t read)
    → IfSome read (λ n. option_map value text ≡ Some n)
read_number E bits gives text None parses none some = tt
read_number E bits gives None (Some n) parses none some = let bad = none refl in cc
read_number E bits gives (Some t) (Some n) parses none some =
    let parsed = parses t (Ok n) (some t refl) in
    let same : n ≡ value t = parsed.1 in
    cc

-- a text of a number in range is read
pub found_number : (E : Type 0) (gives : Text → Result ℕ E → Type 0) (text : Option Text) (read : Option ℕ)
    → ((t : Text) (r : Result ℕ E) → gives t r → ParsesUnsigned 32 10 t r)
    → ((t : Text) → text ≡ Some t → ReadsOne gives t read)
    → IsSomeAnd text (IsUnsignedIn 0 4294967295) → IsSome read
found_number E gives text (Some n) parses some within = refl
found_number E gives None None parses some within = absurd within
found_number E gives (Some t) None parses some within =
    let failed = some t refl in
    let small : value t < 2 ^ 32 = omega arith in
    absurd (parses t (Err failed.0) failed.1 (within.0, small))
