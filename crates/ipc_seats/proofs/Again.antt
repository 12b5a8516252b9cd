-- A seated call that is made once more where the history was full.
use Rattle.std.proofs.lemmas.Bool.{false≢true}
use Rattle.std.proofs.Common.{◌≡◌, ℕ, ◌==◌, Bool, true, false, Option, Result, Ok, Err, refl, sym, ap, ◌∙◌, subst}
use Rattle.std.specs.Prelude.{IfErr, IfOk, MatchBool}
use Rattle.ipc_history.specs.CallParts.{CallParts}
use Rattle.ipc_core.specs.Again.{MayObeyAgain, says_history_full}
use Rattle.ipc_core.specs.Compacting.{Compacts}
use Rattle.ipc_core.specs.KernelParts.{KernelParts}
use Rattle.ipc_core.specs.Obeying.{MayObey}
use Rattle.ipc_core.specs.Outcomes.{made_by}
use Rattle.ipc_core.specs.declared.answers.Compacted.{Compacted}
use Rattle.ipc_core.specs.declared.command.Answer.{Answer}
use Rattle.ipc_core.specs.declared.command.Answer.TheVariants.{Opened, Refused}
use Rattle.ipc_core.specs.declared.command.Command.{Command}
use Rattle.ipc_core.specs.declared.command.Command.TheVariants.{Advance, At, Broke, Enter}
use Rattle.ipc_core.specs.declared.refusal.Refusal.{Refusal}
use Rattle.ipc_core.specs.declared.refusal.Refusal.TheVariants.{NoThread}
use Rattle.ipc_core.proofs.AgainLaws.{break_lacks_none, clock_lacks_none, copy_lacks_none, obeyed_again, obeyed_at_once, obeyed_first}
use Rattle.ipc_seats.specs.Acting.{StepDoes}
use Rattle.ipc_seats.specs.Seats.{ObeysRoomy, SeatObeys, SeatObeysAgain, SeatObeysRoomy}
use Rattle.ipc_seats.specs.declared.seated.seats.CallSeat.{CallSeat}

-- a command that was refused with K5, which changed nothing, and obeyed once more behind a
-- compaction
pub once_more : (old full roomy : KernelParts) (done : Compacted) (command : Command) (first answer : Answer) (new : KernelParts)
    → full ≡ old → MayObey old command first full → says_history_full first ≡ true
    → Compacts full roomy full.held.mark done → MayObey roomy command answer new
    → MayObeyAgain old.held.mark old command answer new
once_more old full roomy done command first answer new same refused is_full compacts obeys =
    obeyed_again old.held.mark old command first full roomy done answer new refused is_full
    (subst (λ (k : KernelParts). Compacts full roomy k.held.mark done) same compacts) obeys

-- the same of an open
pub opened_roomy : {A E : Type 0} (result : Result A E) (thread_of : A → ℕ) (old roomy new : KernelParts) (done : Compacted) (command : Command)
    → Compacts old roomy old.held.mark done
    → IfOk result (λ opened. MayObey roomy command (Opened (thread_of opened)) new)
    → IfOk result (λ opened. ObeysRoomy old command (Opened (thread_of opened)) new)
opened_roomy (Ok opened) thread_of old roomy new done command compacts obeys =
    record { roomy = roomy; done = done; compacts = compacts; obeys = obeys }
opened_roomy (Err refusal) thread_of old roomy new done command compacts obeys = obeys

pub refused_roomy : {A : Type 0} (result : Result A Refusal) (old roomy new : KernelParts) (done : Compacted) (command : Command)
    → Compacts old roomy old.held.mark done
    → IfErr result (λ refusal. MayObey roomy command (Refused refusal) new)
    → IfErr result (λ refusal. ObeysRoomy old command (Refused refusal) new)
refused_roomy (Ok opened) old roomy new done command compacts obeys = obeys
refused_roomy (Err refusal) old roomy new done command compacts obeys =
    record { roomy = roomy; done = done; compacts = compacts; obeys = obeys }

again_so : (old full : KernelParts) (command : Command) (first answer : Answer) (new : KernelParts) → full ≡ old
    → MayObey old command first full → says_history_full first ≡ true → ObeysRoomy full command answer new
    → MayObeyAgain old.held.mark old command answer new
again_so old full command first answer new same refused is_full tried =
    once_more old full tried.roomy tried.done command first answer new same refused is_full tried.compacts tried.obeys

pub opened_again : {A E : Type 0} (result : Result A E) (thread_of : A → ℕ) (old full new : KernelParts) (command : Command) (first : Answer)
    → full ≡ old → MayObey old command first full → says_history_full first ≡ true
    → IfOk result (λ opened. ObeysRoomy full command (Opened (thread_of opened)) new)
    → IfOk result (λ opened. MayObeyAgain old.held.mark old command (Opened (thread_of opened)) new)
opened_again (Ok opened) thread_of old full new command first same refused is_full tried =
    again_so old full command first (Opened (thread_of opened)) new same refused is_full tried
opened_again (Err refusal) thread_of old full new command first same refused is_full tried = tried

pub refused_again : {A : Type 0} (result : Result A Refusal) (old full new : KernelParts) (command : Command) (first : Answer)
    → full ≡ old → MayObey old command first full → says_history_full first ≡ true
    → IfErr result (λ refusal. ObeysRoomy full command (Refused refusal) new)
    → IfErr result (λ refusal. MayObeyAgain old.held.mark old command (Refused refusal) new)
refused_again (Ok opened) old full new command first same refused is_full tried = tried
refused_again (Err refusal) old full new command first same refused is_full tried =
    again_so old full command first (Refused refusal) new same refused is_full tried

-- the same by a seat
pub seat_first : (amount count : ℕ) (old : KernelParts) (command : Command) (answer : Answer) (new : KernelParts)
    → SeatObeys amount count old command answer new → says_history_full answer ≡ false
    → SeatObeysAgain amount count old command answer new
seat_first amount count old command answer new obeys other = go (amount == count) obeys
  where
    go : (same : Bool) → MatchBool same (MayObey old command answer new) ((answer ≡ Refused NoThread) × (new ≡ old))
        → MatchBool same (MayObeyAgain old.held.mark old command answer new) ((answer ≡ Refused NoThread) × (new ≡ old))
    go true does = obeyed_first old.held.mark old command answer new does other
    go false stale = stale

seat_more : (amount count : ℕ) (old full roomy : KernelParts) (done : Compacted) (command : Command) (first answer : Answer)
    (new : KernelParts) → full ≡ old → SeatObeys amount count old command first full → says_history_full first ≡ true
    → Compacts full roomy full.held.mark done → SeatObeys amount count roomy command answer new
    → SeatObeysAgain amount count old command answer new
seat_more amount count old full roomy done command first answer new same refused is_full compacts obeys =
    go (amount == count) refused obeys
  where
    go : (fits : Bool)
        → MatchBool fits (MayObey old command first full) ((first ≡ Refused NoThread) × (full ≡ old))
        → MatchBool fits (MayObey roomy command answer new) ((answer ≡ Refused NoThread) × (new ≡ roomy))
        → MatchBool fits (MayObeyAgain old.held.mark old command answer new)
        ((answer ≡ Refused NoThread) × (new ≡ old))
    go true was tried = once_more old full roomy done command first answer new same was is_full compacts tried
    go false stale tried = absurd (false≢true (sym (ap says_history_full stale.0) ∙ is_full))

seat_by : (amount amount2 thread thread2 : ℕ) (old full : KernelParts) (command command2 : Command) (first answer : Answer)
    (new : KernelParts) → full ≡ old → amount2 ≡ amount → thread2 ≡ thread → command2 ≡ command
    → SeatObeys amount (made_by old.history thread) old command first full → says_history_full first ≡ true
    → SeatObeysRoomy amount2 thread2 full command2 answer new
    → SeatObeysAgain amount (made_by old.history thread) old command answer new
seat_by amount amount2 thread thread2 old full command command2 first answer new
    same amounts threads commands refused is_full tried =
    let counts : made_by tried.roomy.history thread2 ≡ made_by old.history thread =
    ap (λ H. made_by H thread2) tried.compacts.history ∙ (ap (λ (k : KernelParts). made_by k.history thread2) same
    ∙ ap (made_by old.history) threads) in
    let by_amount : SeatObeys amount (made_by tried.roomy.history thread2) tried.roomy command2 answer new =
    subst (λ (n : ℕ). SeatObeys n (made_by tried.roomy.history thread2) tried.roomy command2 answer new) amounts tried.obeys in
    let by_count : SeatObeys amount (made_by old.history thread) tried.roomy command2 answer new =
    subst (λ (n : ℕ). SeatObeys amount n tried.roomy command2 answer new) counts by_amount in
    let by_command : SeatObeys amount (made_by old.history thread) tried.roomy command answer new =
    subst (λ (k : Command). SeatObeys amount (made_by old.history thread) tried.roomy k answer new) commands by_count in
    seat_more amount (made_by old.history thread) old full tried.roomy tried.done command first answer new
    same refused is_full tried.compacts by_command

-- a call
pub enter_so : (amount amount2 thread thread2 : ℕ) (call call2 : CallParts) (old full : KernelParts) (first answer : Answer)
    (new : KernelParts) → full ≡ old → amount2 ≡ amount → thread2 ≡ thread → call2 ≡ call
    → SeatObeys amount (made_by old.history thread) old (Enter thread call) first full → says_history_full first ≡ true
    → SeatObeysRoomy amount2 thread2 full (Enter thread2 call2) answer new
    → SeatObeysAgain amount (made_by old.history thread) old (Enter thread call) answer new
enter_so amount amount2 thread thread2 call call2 old full first answer new same amounts threads calls refused is_full tried =
    let commands : Enter thread2 call2 ≡ Enter thread call =
    ap (λ (t : ℕ). Enter t call2) threads ∙ ap (λ (k : CallParts). Enter thread k) calls in
    seat_by amount amount2 thread thread2 old full (Enter thread call) (Enter thread2 call2) first answer new
    same amounts threads commands refused is_full tried

-- an ExchangeRegisters
pub exreg_so : (amount thread : ℕ) (old full : KernelParts) (command : Command) (first answer : Answer) (new : KernelParts)
    → full ≡ old → SeatObeys amount (made_by old.history thread) old command first full → says_history_full first ≡ true
    → SeatObeysRoomy amount thread full command answer new
    → SeatObeysAgain amount (made_by old.history thread) old command answer new
exreg_so amount thread old full command first answer new same refused is_full tried =
    seat_by amount amount thread thread old full command command first answer new same refl refl refl refused is_full tried

-- a command that K5 never refuses, and that everybody may give
pub advance_does : {C : Type 0} (seat : Option (CallSeat C)) (old new : KernelParts) (answer said : Answer)
    → said ≡ answer → MayObey old Advance answer new → StepDoes old seat Advance said new
unfolding StepDoes
advance_does seat old new answer said same obeys =
    subst (λ (a : Answer). MayObeyAgain old.held.mark old Advance a new) (sym same)
    (obeyed_at_once old.held.mark old Advance answer new (copy_lacks_none old) obeys)

pub clock_does : {C : Type 0} (seat : Option (CallSeat C)) (old new : KernelParts) (reading : ℕ) (answer said : Answer)
    → said ≡ answer → MayObey old (At reading) answer new → StepDoes old seat (At reading) said new
unfolding StepDoes
clock_does seat old new reading answer said same obeys =
    subst (λ (a : Answer). MayObeyAgain old.held.mark old (At reading) a new) (sym same)
    (obeyed_at_once old.held.mark old (At reading) answer new (clock_lacks_none old reading) obeys)

pub break_does : {C : Type 0} (seat : Option (CallSeat C)) (old new : KernelParts) (thread : ℕ) (answer said : Answer)
    → said ≡ answer → MayObey old (Broke thread) answer new → StepDoes old seat (Broke thread) said new
unfolding StepDoes
break_does seat old new thread answer said same obeys =
    subst (λ (a : Answer). MayObeyAgain old.held.mark old (Broke thread) a new) (sym same)
    (obeyed_at_once old.held.mark old (Broke thread) answer new (break_lacks_none old thread) obeys)
