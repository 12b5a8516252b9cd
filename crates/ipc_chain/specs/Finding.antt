-- What is said of a history that was found, and of entries that are none behind it.
use Rattle.std.specs.Prelude.{⊤}
use Rattle.ipc_chain.specs.Judging.{ChainParts}
use Rattle.ipc_chain.specs.declared.verdict.Behind.{Behind}
use Rattle.ipc_chain.specs.declared.verdict.Behind.TheVariants.{No, Unknown, Whole}
use Rattle.ipc_chain.specs.declared.verdict.ChainVerdict.{ChainVerdict}

abbrev pub IfWhole : (ChainParts → Type 0) → Behind → Type 0
IfWhole fact (Whole chain) = fact chain
IfWhole fact (No verdict) = ⊤
IfWhole fact Unknown = ⊤

abbrev pub IfBroken : (ChainVerdict → Type 0) → Behind → Type 0
IfBroken fact (Whole chain) = ⊤
IfBroken fact (No verdict) = fact verdict
IfBroken fact Unknown = ⊤
