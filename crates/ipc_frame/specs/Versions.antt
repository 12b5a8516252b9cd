-- Our choice (docs/FORMATS.md): the versions of the wire protocol, and what each tells of a call
-- before the numbers of an outcome that all versions tell. These numbers are words: what follows
-- knows how many they are, and nothing else of them.
use Rattle.std.specs.Prelude.{ℕ, ◌==◌, Bool, true, false, List, [], ◌∷◌, slice_index, replicate, Option, Some, None, if◌then◌else◌}
use Rattle.ipc_history.specs.Outcomes.{OutcomeParts}
use Rattle.ipc_frame.specs.declared.version.CallEnd.{CallEnd}
use Rattle.ipc_frame.specs.declared.version.WireVersion.{WireVersion}
use Rattle.ipc_frame.specs.declared.version.WireVersion.TheVariants.{One, Two}

abbrev pub versions : List WireVersion
versions = One ∷ Two ∷ []

abbrev pub version_number : WireVersion → ℕ
version_number One = 1
version_number Two = 2

-- whether a HELLO names it: that of version 1 names none
abbrev pub is_named : WireVersion → Bool
is_named One = false
is_named version = true

-- the version of a number that a HELLO names
abbrev pub version_of : ℕ → Option WireVersion
version_of number = (if number == 2 then Some Two else None)

-- the kind byte of an IPCR
abbrev pub ipcr_byte : WireVersion → ℕ
ipcr_byte One = 0x82
ipcr_byte Two = 0x86

-- how many words a version tells of a call, and their widths
abbrev pub end_count : WireVersion → ℕ
end_count One = 0
end_count Two = 2

abbrev pub end_widths : WireVersion → List ℕ
end_widths version = replicate (end_count version) 8

-- these words, and the version that tells just them
abbrev pub end_words : Option CallEnd → List ℕ
end_words None = []
end_words (Some end) = end.call ∷ end.moment ∷ []

abbrev pub version_told : Option CallEnd → WireVersion
version_told None = One
version_told (Some end) = Two

-- what the first words of an outcome say, in a version
abbrev pub end_in : WireVersion → List ℕ → Option CallEnd
end_in One words = None
end_in Two words = Some (record { call = slice_index words 0; moment = slice_index words 1 })

-- what a version tells of an outcome: version 2 the call and when it was over
abbrev pub end_of : WireVersion → OutcomeParts → Option CallEnd
end_of One outcome = None
end_of Two outcome = Some (record { call = outcome.call; moment = outcome.moment })
