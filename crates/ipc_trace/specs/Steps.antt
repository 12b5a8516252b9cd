-- What the lines of a part say, one after the other: which may follow, and what each adds.
use Rattle.std.specs.Prelude.{ℕ, ◌-◌, List, [], ◌∷◌, ◌++◌, Bool, true, ◌==◌, ◌&&◌, not, nat_le, nat_lt, length, take, replicate, IsTrue}
use Rattle.ipc_words.specs.Limits.{table_slots}
use Rattle.ipc_history.specs.declared.entry.Entry.{Entry}
use Rattle.ipc_compact.specs.Compact.{Base}
use Rattle.ipc_trace.specs.Lines.{may_stand}
use Rattle.ipc_trace.specs.Parts.{PartParts}
use Rattle.ipc_trace.specs.declared.line.PartLine.{PartLine}
use Rattle.ipc_trace.specs.declared.line.PartLine.TheVariants as line
use Rattle.ipc_trace.specs.declared.line.Stage.{Stage}
use Rattle.ipc_trace.specs.declared.line.Stage.TheVariants as stage

-- what was read of a part so far, and what comes next
pub record PartSoFar : Type 0 where
  pub stage : Stage
  pub base : Base
  pub kept : List Entry
  pub entries : List Entry

abbrev pub no_base : Base
no_base = record { versions = []; dropped = []; moment = 0; calls = 0; takes = 0; over = [] }

-- before the first line
abbrev pub nothing_read : PartSoFar
nothing_read = record { stage = stage.Version; base = no_base; kept = []; entries = [] }

-- numbers up to a place, with 0 where there was none
abbrev pub filled : ℕ → List ℕ → List ℕ
filled place numbers = take place numbers ++ replicate (place - length numbers) 0

abbrev pub filled_base : ℕ → Base → Base
filled_base place base = record base {
  versions = filled place base.versions;
  dropped = filled place base.dropped;
}

-- a thread number is greater than those before it, and its line says something
abbrev pub number_fits : Base → PartLine → Bool
number_fits base (line.Number number version dropped) =
    nat_le (length base.versions) number && (nat_lt number table_slots && not ((version == 0) && (dropped == 0)))
number_fits base _ = true

-- whether a line may follow
abbrev pub may_follow : PartSoFar → PartLine → Bool
may_follow so_far read = may_stand so_far.stage read && number_fits so_far.base read

-- an entry is one of those that are kept, or that came since
abbrev pub with_entry : Stage → PartSoFar → Entry → PartSoFar
with_entry stage.Kept so_far entry = record so_far { kept = so_far.kept ++ entry ∷ [] }
with_entry _ so_far entry = record so_far { entries = so_far.entries ++ entry ∷ [] }

abbrev pub with_number : Base → ℕ → ℕ → ℕ → Base
with_number base number version dropped = record base {
  versions = filled number base.versions ++ version ∷ [];
  dropped = filled number base.dropped ++ dropped ∷ [];
}

-- what a line adds
abbrev pub after : PartSoFar → PartLine → PartSoFar
after so_far line.Version = record so_far { stage = stage.Moment }
after so_far (line.Moment moment) = record so_far { stage = stage.Calls; base = record so_far.base { moment = moment } }
after so_far (line.Calls calls) = record so_far { stage = stage.Takes; base = record so_far.base { calls = calls } }
after so_far (line.Takes takes) = record so_far { stage = stage.Numbers; base = record so_far.base { takes = takes } }
after so_far (line.Number number version dropped) = record so_far { base = with_number so_far.base number version dropped }
after so_far (line.Over call) =
    record so_far { stage = stage.Overs; base = record so_far.base { over = so_far.base.over ++ call ∷ [] } }
after so_far line.Kept = record so_far { stage = stage.Kept; base = filled_base table_slots so_far.base }
after so_far line.Since = record so_far { stage = stage.Since }
after so_far (line.Entry entry) = with_entry so_far.stage so_far entry

-- lines that follow one another
abbrev pub Follow : PartSoFar → List PartLine → Type 0
Follow so_far [] = Unit {0}
Follow so_far (read ∷ lines) = IsTrue (may_follow so_far read) × Follow (after so_far read) lines

-- what they say
abbrev pub after_all : PartSoFar → List PartLine → PartSoFar
after_all so_far [] = so_far
after_all so_far (read ∷ lines) = after_all (after so_far read) lines

abbrev pub part_in : PartSoFar → PartParts
part_in so_far = record { base = so_far.base; kept = so_far.kept; entries = so_far.entries }
