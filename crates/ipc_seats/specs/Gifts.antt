-- What connections were given under the lock, as the pens show it that came out of their boxes.
use Rattle.std.specs.Prelude.{ℕ, Bool, List, [], ◌∷◌, ◌++◌, Option, Some, None, if◌then◌else◌}
use Rattle.ipc_history.specs.Outcomes.{OutcomeParts}
use Rattle.ipc_seats.specs.Boxes.{BoxParts, is_idle}
pub use Rattle.ipc_seats.specs.Giving.{gift_in, gift_of, gift_to, last_of}
use Rattle.ipc_seats.specs.declared.errands.Errands.{Errands}
use Rattle.ipc_seats.specs.declared.events.Gift.{Gift}
use Rattle.ipc_seats.specs.declared.post_box.Work.{Work}
use Rattle.ipc_seats.specs.declared.post_box.Work.TheVariants as work
use Rattle.ipc_seats.specs.declared.seated.Taken.{Taken}

-- no pen is out
abbrev pub no_errands : {C P : Type 0} → Errands C P
no_errands = record { first = None; second = None; third = None }

-- what the pens on errands were given, the first one first
abbrev pub gifts : {C P : Type 0} → Errands C P → List Gift
gifts errands = gift_in errands.first ++ gift_in errands.second ++ gift_in errands.third

-- what a writer's pen was given: something where it lay in its box at its end, and nothing where it
-- goes on with a frame
abbrev pub work_gifts : {C P : Type 0} → Option BoxParts → Option (Work C P) → List Gift
work_gifts (Some box) (Some (work.Write pen)) = if is_idle box.pen then gift_of pen else []
work_gifts box next = []

-- whether the pen of a box lies there at its end, if there is a box
abbrev pub idle_in : Option BoxParts → List Bool
idle_in None = []
idle_in (Some box) = is_idle box.pen ∷ []

-- what a writer's pen was given, where it lay in its box at its end, or did not
abbrev pub gifts_of_work : {C P : Type 0} → List Bool → Option (Work C P) → List Gift
gifts_of_work (idle ∷ others) (Some (work.Write pen)) = if idle then gift_of pen else []
gifts_of_work idle next = []

-- the outcome that was taken, if any
abbrev pub outcomes_in : {T : Type 0} → Option (Taken T) → List OutcomeParts
outcomes_in None = []
outcomes_in (Some taken) = taken.outcome ∷ []

-- the number of the connection of a box, if it has one
abbrev pub number_of_box : Option ℕ → List ℕ
number_of_box None = []
number_of_box (Some number) = number ∷ []

abbrev pub number_in : Option BoxParts → List ℕ
number_in None = []
number_in (Some box) = number_of_box box.number
