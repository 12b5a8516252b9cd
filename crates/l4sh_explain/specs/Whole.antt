-- Our choice (docs/FORMATS.md): what is at fault with a line as a whole, before its fields are
-- looked at.
use Rattle.std.specs.Prelude.{ℕ, Bool, false, ◌&&◌, ◌||◌, ◌==◌, nat_eq, List, [], ◌∷◌, Option, codes, find, true, drop}
use Rattle.std.specs.List.{list_any, starts_with, ends_with, zip}
use Rattle.l4sh_explain.specs.declared.grammars.Grammar.{Grammar}
use Rattle.l4sh_explain.specs.declared.grammars.Grammar.TheVariants.{Trace}
use Rattle.l4sh_explain.specs.declared.whole.LineFault.{LineFault}
use Rattle.l4sh_explain.specs.declared.whole.LineFault.TheVariants as fault

abbrev pub is_trace : Grammar → Bool
is_trace Trace = true
is_trace _ = false

-- two spaces with nothing between
abbrev pub has_two_spaces : List ℕ → Bool
has_two_spaces line = list_any (λ pair. (pair.0 == 32) && (pair.1 == 32)) (zip line (drop 1 line))

-- a tab anywhere
abbrev pub has_tab : List ℕ → Bool
has_tab line = list_any (λ byte. byte == 9) line

-- whether a line has a fault: a comment, an answer of `l4sh run` in a trace, a space or a tab where
-- none stands, a carriage return
abbrev pub shows : Grammar → List ℕ → LineFault → Bool
shows grammar line fault.Comment = starts_with nat_eq line (codes "#")
shows grammar line fault.Answer =
    is_trace grammar && (starts_with nat_eq line (codes "=") || starts_with nat_eq line (codes "!"))
shows grammar line fault.SpaceBefore = starts_with nat_eq line (codes " ")
shows grammar line fault.CarriageReturn = ends_with nat_eq line (13 ∷ [])
shows grammar line fault.SpaceBehind = ends_with nat_eq line (codes " ")
shows grammar line fault.TabBehind = ends_with nat_eq line (9 ∷ [])
shows grammar line fault.TwoSpaces = has_two_spaces line
shows grammar line fault.Tab = has_tab line

-- the order in which they are told
abbrev pub line_faults : List LineFault
line_faults =
    fault.Comment ∷ fault.Answer ∷ fault.SpaceBefore ∷ fault.CarriageReturn ∷ fault.SpaceBehind
    ∷ fault.TabBehind ∷ fault.TwoSpaces ∷ fault.Tab ∷ []

-- the first of them that a line has
abbrev pub line_fault_of : Grammar → List ℕ → Option LineFault
line_fault_of grammar line = find (shows grammar line) line_faults
