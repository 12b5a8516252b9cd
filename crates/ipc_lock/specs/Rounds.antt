-- The rounds of pens outside the lock: each is written with and laid down in its box, until none
-- comes out again.
use Rattle.std.specs.Prelude.{◌≡◌, ℕ, zero, suc, List, None}
use Rattle.ipc_core.specs.KernelParts.{KernelParts}
use Rattle.ipc_seats.specs.Boxes.{BoxParts}
use Rattle.ipc_seats.specs.Places.{OnlyWrites, TakesBack}
use Rattle.ipc_seats.specs.declared.errands.Errands.{Errands}

-- it was written with each pen, and none was given anything
pub record Writes {C P : Type 0} (errands written : Errands C P) : Type 0 where
  pub first : OnlyWrites errands.first written.first
  pub second : OnlyWrites errands.second written.second
  pub third : OnlyWrites errands.third written.third

-- a round: it was written with the pens, and under the lock they were laid down in their boxes, out
-- of which they came again with what is told next
pub record Round {C P : Type 0} (errands errands_now : Errands C P) : Type 0 where
  pub written : Errands C P
  pub old : KernelParts
  pub new : KernelParts
  pub boxes : List BoxParts
  pub boxes_now : List BoxParts
  pub writes : Writes errands written
  pub takes : TakesBack old new boxes boxes_now written errands_now

-- so many rounds, one after the other
abbrev pub Rounds : {C P : Type 0} → ℕ → Errands C P → Errands C P → Type 0
Rounds zero errands errands_now = errands_now ≡ errands
Rounds {C} {P} (suc count) errands errands_now = (between : Errands C P) × Rounds count errands between × Round between errands_now

-- no pen is out
pub record HasNone {C P : Type 0} (errands : Errands C P) : Type 0 where
  pub first : errands.first ≡ None
  pub second : errands.second ≡ None
  pub third : errands.third ≡ None

-- the pens went round until none was out
pub record Carries {C P : Type 0} (errands errands_now : Errands C P) : Type 0 where
  pub count : ℕ
  pub rounds : Rounds count errands errands_now
  pub none : HasNone errands_now
