-- How a thread id is spelled.
use Rattle.std.proofs.Common.{◌≡◌, ℕ, ◌%◌, ◌<◌, Bool, true, false, eqb, List, [], ◌∷◌, ◌++◌, get_or, ◌⊎◌, inl, inr, ⊎_elim, append_assoc, refl, ap, ◌∙◌, codes, arith}
use Rattle.std.specs.Fmt.{decimal}
use Rattle.std.specs.List.{All}
use Rattle.ipc_words.specs.ThreadId.{nilthread, anythread, anylocalthread, number_of, version_of}
use Rattle.ipc_lines.specs.Texts.{hex_text, id_text}
use Rattle.ipc_lines.specs.Reading.{is_named, IsNumbered}
use Rattle.ipc_lines.proofs.Numerals.{decimal_low}
use borrow.Author.Tests.{eqb-true, eqb-false}

pub data IdForm (id : ℕ) : Type 0 where
  is_nil : id ≡ nilthread → id_text id ≡ codes "nil" → IdForm id
  is_any : id ≡ anythread → id_text id ≡ codes "any" → IdForm id
  is_local : id ≡ anylocalthread → id_text id ≡ codes "local" → IdForm id
  is_plain : is_named id ≡ false → id % 64 ≡ 0 → id_text id ≡ hex_text id → IdForm id
  is_numbered : IsNumbered id → id_text id ≡ decimal (number_of id) ++ codes "." ++ decimal (version_of id) → IdForm id

pub id_form : (id : ℕ) → IdForm id
id_form id = by (eqb id nilthread) (eqb id anythread) (eqb id anylocalthread) (eqb (id % 64) 0) refl refl refl refl
  where
    by : (a b c d : Bool) → eqb id nilthread ≡ a → eqb id anythread ≡ b → eqb id anylocalthread ≡ c → eqb (id % 64) 0 ≡ d → IdForm id
    by true b c d p q r s = is_nil (eqb-true id nilthread p) (rw p refl)
    by false true c d p q r s = is_any (eqb-true id anythread q) (rw (p, q) refl)
    by false false true d p q r s = is_local (eqb-true id anylocalthread r) (rw (p, q, r) refl)
    by false false false true p q r s = is_plain (rw (p, q, r) refl) (eqb-true (id % 64) 0 s) (rw (p, q, r, s) refl)
    by false false false false p q r s = is_numbered (eqb-false (id % 64) 0 s, eqb-false id anythread q) (rw (p, q, r, s) refl)

before_point : (ds back : List ℕ) → All (λ b. b < 58) ds → (get_or (ds ++ 46 ∷ back) 0 0 ≡ 46) ⊎ (get_or (ds ++ 46 ∷ back) 1 0 < 58)
before_point [] back low = inl refl
before_point (d ∷ []) back low = inr (omega arith)
before_point (d ∷ f ∷ ds) back low = inr (low 1 0 (omega arith))

hex_not_before : (ds xs back : List ℕ) → All (λ b. b < 58) ds → 48 ∷ 120 ∷ xs ≡ ds ++ 46 ∷ back → ⊥
hex_not_before ds xs back low e = ⊎_elim
    (λ h. omega (arith, ap (λ l. get_or l 0 0) e, h))
    (λ h. omega (arith, ap (λ l. get_or l 1 0) e, h))
    (before_point ds back low)

-- HEX is not a number and a version
pub hex_not_numbered : (w n : ℕ) (back : List ℕ) → hex_text w ≡ decimal n ++ codes "." ++ back → ⊥
hex_not_numbered w n back e = hex_not_before (decimal n) _ back (decimal_low n) (e ∙ append_assoc (decimal n) (46 ∷ []) back)
