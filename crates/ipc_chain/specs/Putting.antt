-- The part that is written behind a history.
use Rattle.std.specs.Prelude.{◌≡◌, ℕ, List, [], ◌∷◌, ◌++◌}
use Rattle.ipc_history.specs.declared.entry.Entry.{Entry}
use Rattle.ipc_trace.specs.Putting.{PutsLine, TraceParts}
use Rattle.ipc_trace.specs.Parts.{PartParts, part_text}
use Rattle.ipc_chain.specs.Chains.{BeginsAt, HasBefore, IsChain}
use Rattle.ipc_chain.specs.Judging.{ChainParts}

-- a part without entries was written that begins where a history ends
pub record PutsBegun (chain : ChainParts) (old new : TraceParts) : Type 0 where
  pub part : PartParts
  pub put : PutsLine old new (part_text part)
  pub empty : part.entries ≡ []
  pub taken : List ℕ
  pub begins : BeginsAt chain.past chain.taken chain.told part.base part.kept taken

-- a part was written that stands behind these files
pub record PutsBehind (entries : List Entry) (parts : List PartParts) (old new : TraceParts) : Type 0 where
  pub part : PartParts
  pub put : PutsLine old new (part_text part)
  pub chain : IsChain entries (parts ++ part ∷ [])

-- a part was written that stands behind these parts, of which the first begins in the middle of
-- some history
pub record PutsBehindParts (parts : List PartParts) (old new : TraceParts) : Type 0 where
  pub part : PartParts
  pub put : PutsLine old new (part_text part)
  pub chain : HasBefore (parts ++ part ∷ [])
