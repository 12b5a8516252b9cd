-- The slots of the empty history.
use Rattle.std.proofs.Common.{◌≡◌, refl, sym, ◌∙◌, ℕ, [], ◌∷◌, length, arith}
use Rattle.std.proofs.lemmas.Grind.{common_steps}
use Rattle.std.specs.Prelude.{replicate}
use Rattle.ipc_words.specs.Limits.{table_slots}
use Rattle.ipc_history.specs.Calls.{calls_made, numbers}
use Rattle.ipc_history.specs.Threads.{now, next_version}
use Rattle.ipc_history.specs.Legal.{Legal}
use Rattle.ipc_threads.specs.Slots.{Stands, blank, slot_of, live_of}
use Rattle.ipc_threads.specs.declared.last.Last.TheVariants.{Nothing}
use Rattle.ipc_threads.proofs.LiveSlots.{live_blank}
use Rattle.ipc_threads.proofs.LiveCounts.{live_none}
use Rattle.ipc_threads.proofs.Tables.{slot_at-replicate}

none_made : calls_made [] ≡ 0
unfolding calls_made numbers
none_made = refl

at_start : now [] ≡ 0
unfolding now
at_start = refl

pub slot_none : (k : ℕ) → slot_of [] k ≡ blank
unfolding slot_of next_version live_of
slot_none k = refl

pub length_replicate : (n : ℕ) → length (replicate n blank) ≡ n
length_replicate n = grind (arith, common_steps)

pub nothing_legal : Legal []
unfolding Legal
nothing_legal [] e rest whole = absurd (cc)
nothing_legal (f ∷ P) e rest whole = absurd (cc)

pub stands_none : Stands [] (record { table = replicate table_slots blank; moment = 0; calls_made = 0; last = Nothing; top = 0; recent = 0 })
stands_none = record { size = length_replicate table_slots; moment = sym at_start; calls_made = sym none_made; live = live_blank table_slots ∙ sym live_none; top = omega arith; above = λ k h. refl; table = λ k. slot_at-replicate table_slots k ∙ sym (slot_none k); last = refl }
