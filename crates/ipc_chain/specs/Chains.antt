-- Our choice (docs/FORMATS.md): a history whose entries stand in several files, the first from its
-- beginning, each further one as a part.
use Rattle.std.specs.Prelude.{◌≡◌, ℕ, ◌+◌, ◌≤◌, List, [], ◌∷◌, ◌++◌, Bool, true, false, Option, Some, None, filter_map, length, if◌then◌else◌, IsTrue}
use Rattle.ipc_history.specs.Calls.{calls_made, is_called}
use Rattle.ipc_history.specs.Legal.{Legal, Quiet}
use Rattle.ipc_history.specs.Phases.{is_over}
use Rattle.ipc_history.specs.declared.entry.Entry.{Entry}
use Rattle.ipc_history.specs.declared.entry.Entry.TheVariants.{Given}
use Rattle.ipc_history.specs.declared.entry.Input.TheVariants.{Called}
use Rattle.ipc_compact.specs.Compact.{Base, base_of, is_among, kept_of}
use Rattle.ipc_compact.specs.Later.{AreAmong}
use Rattle.ipc_compact.specs.Kept.{TookOthers}
use Rattle.ipc_trace.specs.Parts.{PartParts}
use Rattle.ipc_trace.specs.declared.part.Part.{Part}
use Rattle.ipc_chain.specs.declared.verdict.ChainVerdict.{ChainVerdict}
use Rattle.ipc_chain.specs.declared.verdict.ChainVerdict.TheVariants.{NoPart}

-- the thread that makes a call by an entry, where that call does not count as over: it is open, or
-- its outcome is to be taken
abbrev pub caller_kept : List ℕ → Entry → Option ℕ
caller_kept over (Given (Called n thread call)) = (if is_among n over then None else Some thread)
caller_kept over _ = None

-- the threads of whose calls a part keeps one
abbrev pub callers_kept : Base → List Entry → List ℕ
callers_kept base kept = filter_map (caller_kept base.over) kept

-- the outcomes of these calls may have been taken by the end of a history, where those before were
-- taken already: of calls that are over, and of each thread that of every call but its last, since
-- a thread makes a call only behind the outcome of the one before
pub record MayBeTaken (H : List Entry) (before taken : List ℕ) : Type 0 where
  pub more : AreAmong before taken
  pub called : (n : ℕ) → IsTrue (is_among n taken) → IsTrue (is_called H n)
  pub over : (n : ℕ) → IsTrue (is_among n taken) → IsTrue (is_over H n)
  pub others : TookOthers H taken

-- how many were taken the part alone tells, since a thread that has ended may have taken its last
-- outcome or not: no fewer than the part before it told, and with the calls that are kept, so many,
-- no more than were made
pub record IsCount (H : List Entry) (told kept takes : ℕ) : Type 0 where
  pub least : told ≤ takes
  pub most : takes + kept ≤ calls_made H

-- a part with this base and these kept entries begins where a history ends, of which these outcomes
-- were taken
pub record BeginsAt (H : List Entry) (before : List ℕ) (told : ℕ) (base : Base) (kept : List Entry) (taken : List ℕ) : Type 0 where
  pub quiet : Quiet H
  pub may : MayBeTaken H before taken
  pub kept_is : kept_of H taken ≡ kept
  pub base_is : record (base_of H taken) { takes = base.takes } ≡ base
  pub count : IsCount H told (length (callers_kept base kept)) base.takes

-- these parts stand behind a history, of which these outcomes were taken, and so many were told:
-- each begins where the entries before it end, and all entries are one legal history
abbrev pub ChainFrom : List Entry → List ℕ → ℕ → List PartParts → Type 0
ChainFrom H before told [] = Legal H
ChainFrom H before told (part ∷ parts) =
    Legal H × ((taken : List ℕ) × BeginsAt H before told part.base part.kept taken
    × ChainFrom (H ++ part.entries) taken part.base.takes parts)

-- what a part says
abbrev pub parts_of : Part → PartParts
parts_of part = record { base = part.base; kept = part.kept.items; entries = part.entries.items }

-- the entries of a trace and of these parts are one history
abbrev pub IsChain : List Entry → List PartParts → Type 0
IsChain entries parts = ChainFrom entries [] 0 parts

-- a part before the entries that came since
abbrev pub begun : PartParts → PartParts
begun part = record { base = part.base; kept = part.kept; entries = [] }

-- the entries of these parts, one part behind the other
abbrev pub entries_of : List PartParts → List Entry
entries_of [] = []
entries_of (part ∷ parts) = part.entries ++ entries_of parts

-- behind some history that ends as the first of these parts says, they are one history with it
abbrev pub HasBefore : List PartParts → Type 0
HasBefore parts = (before : List Entry) × IsChain before parts

-- behind some history that ends as a part says, its entries and the parts behind it are none
abbrev pub BreaksBehind : PartParts → List PartParts → Type 0
BreaksBehind first parts = (before : List Entry) × (IsChain before (begun first ∷ []) × (IsChain before (first ∷ parts) → ⊥))

-- the entries of a part follow whatever history ends as it says
abbrev pub FollowsEach : PartParts → Type 0
FollowsEach part =
    (before : List Entry) (old taken : List ℕ) (told : ℕ) → Legal before → BeginsAt before old told part.base part.kept taken
    → Legal (before ++ part.entries)

-- a part begins where the files before it end
abbrev pub has_joined : Option ChainVerdict → Bool
has_joined (Some (NoPart file difference)) = false
has_joined verdict = true
