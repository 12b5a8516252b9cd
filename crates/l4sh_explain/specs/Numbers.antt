-- Numbers as people type them.
use Rattle.std.specs.Prelude.{◌≡◌, ◌⊎◌, ℕ, List}
use Rattle.std.specs.Fmt.{decimal}
use Rattle.ipc_lines.specs.Texts.{hex_text}

-- a decimal or HEX
abbrev pub IsNumber : List ℕ → ℕ → Type 0
IsNumber text number = (text ≡ decimal number) ⊎ (text ≡ hex_text number)
