-- The calls of a history are those that the kernel accepted.
use Rattle.std.proofs.Common.{◌≡◌, List, [], ◌∷◌, ◌++◌, ℕ, Bool, true, false, refl, sym, ap, ◌∙◌, Option, Some, None, inl, inr, map, subst}
use Rattle.std.specs.Prelude.{filter_map, nat_lt, MatchBool}
use Rattle.std.specs.List.{list_any}
use Rattle.std.proofs.lemmas.List.{append-nil, append_assoc}
use Rattle.std.proofs.lemmas.List.Elements.{filter_map-append}
use Rattle.ipc_history.specs.Calls.{numbers}
use Rattle.ipc_history.specs.Threads.{now}
use Rattle.ipc_history.specs.Timing.{is_due_at}
use Rattle.ipc_history.specs.Legal.{Legal}
use Rattle.ipc_history.specs.Settled.{Settled}
use Rattle.ipc_history.specs.declared.entry.Entry.{Entry}
use Rattle.ipc_history.specs.declared.entry.Entry.TheVariants.{Given, Written}
use Rattle.ipc_history.specs.declared.entry.Input.{Input}
use Rattle.ipc_history.specs.declared.entry.Input.TheVariants as input
use Rattle.ipc_history.specs.declared.entry.Output.{Output}
use Rattle.ipc_core.specs.KernelParts.{KernelParts}
use Rattle.ipc_core.specs.Effects.{Ticks}
use Rattle.ipc_core.specs.Steps.{Takes, at_if_later, at_moment, with_input}
use Rattle.ipc_core.proofs.AgainLaws.{room_history}
use Rattle.ipc_core.proofs.RunLaws.{obeys_legal}
use Rattle.ipc_core.specs.Obeying.{Does, Obeys, ObeysOr, cause_of}
use Rattle.ipc_core.specs.declared.answers.Advance.TheVariants.{Moved, Idle}
use Rattle.ipc_core.specs.declared.command.Answer.{Answer}
use Rattle.ipc_core.specs.declared.command.Answer.TheVariants.{Opened, Entered, Exchanged, Done, Advanced, Taken, Refused}
use Rattle.ipc_core.specs.declared.command.Command.{Command}
use Rattle.ipc_core.specs.declared.command.Command.TheVariants.{Open, Enter, Exreg, Broke, At, Advance, Take}
use Rattle.ipc_core.specs.declared.refusal.Refusal.{Refusal}
use Rattle.ipc_core.specs.declared.refusal.Refusal.TheVariants.{NoMemory}
use Rattle.ipc_exchange.specs.Serving.{Ample, AnswersIn, MayLack, Memory, ObeysIn}
use Rattle.ipc_exchange.specs.Laws.{CallsAreAccepted, LegalStays, accepted, call_in, calls_in}
use Rattle.ipc_exchange.proofs.Along.{events_along}

outputs_call : (outputs : List Output) → calls_in (map Written outputs) ≡ []
outputs_call [] = refl
outputs_call (output ∷ outputs) = outputs_call outputs

clock_calls : (H : List Entry) (moment : ℕ) → calls_in (at_if_later H moment) ≡ []
clock_calls H moment = go (nat_lt (now H) moment) refl
  where
    go : (b : Bool) → nat_lt (now H) moment ≡ b → calls_in (at_if_later H moment) ≡ []
    go true e = rw e refl
    go false e = rw e refl

settled_calls : (P Q : List Entry) → Settled P Q → calls_in Q ≡ calls_in P
settled_calls P Q settled = ap calls_in settled.appended ∙ (filter_map-append call_in P (map Written settled.outputs) ∙ (ap (λ l. calls_in P ++ l) (outputs_call settled.outputs) ∙ append-nil (calls_in P)))

takes_calls : (old new : KernelParts) (given : Input) → Takes old new given → calls_in new.history ≡ calls_in old.history ++ calls_in (Given given ∷ [])
takes_calls old new given takes =
    settled_calls (with_input old.history old.moment given) new.history takes.history
    ∙ (filter_map-append call_in (old.history ++ at_if_later old.history old.moment) (Given given ∷ []) ∙ ap (λ l. l ++ calls_in (Given given ∷ [])) (filter_map-append call_in old.history (at_if_later old.history old.moment) ∙ (ap (λ l. calls_in old.history ++ l) (clock_calls old.history old.moment) ∙ append-nil (calls_in old.history))))

same_calls : (old new : KernelParts) → new.history ≡ old.history → calls_in new.history ≡ calls_in old.history ++ []
same_calls old new same = ap calls_in same ∙ sym (append-nil (calls_in old.history))

ticks_calls : (old new : KernelParts) (reading : ℕ) → Ticks old new reading → calls_in new.history ≡ calls_in old.history ++ []
ticks_calls old new reading ticks = go (list_any (is_due_at old.history (at_moment old reading)) (numbers old.history)) ticks.history
  where
    go : (b : Bool) → MatchBool b (Settled (old.history ++ Given (input.At (at_moment old reading)) ∷ []) new.history) (new.history ≡ old.history) → calls_in new.history ≡ calls_in old.history ++ []
    go true settled = settled_calls _ new.history settled ∙ filter_map-append call_in old.history (Given (input.At (at_moment old reading)) ∷ [])
    go false same = same_calls old new same

abbrev Adds : KernelParts → Command → Answer → KernelParts → Type 0
Adds old command answer new = calls_in new.history ≡ calls_in old.history ++ filter_map accepted (record { command = command; answer = answer } ∷ [])

does_calls : (old new : KernelParts) (command : Command) (answer : Answer) → Does old command answer new → Adds old command answer new
unfolding Does
does_calls old new (Open number space) (Opened thread) does = takes_calls old new _ does.takes
does_calls old new (Enter thread call) (Entered number) does = takes_calls old new _ does.takes
does_calls old new (Exreg thread target control) (Exchanged answer) does = takes_calls old new _ does.takes
does_calls old new (Broke thread) Done does = takes_calls old new _ does.takes
does_calls old new (At reading) Done does = ticks_calls old new reading does
does_calls old new Advance (Advanced Moved) does = takes_calls old new _ does.takes
does_calls old new Advance (Advanced Idle) does = same_calls old new (ap (λ (k : KernelParts). k.history) does.1)
does_calls old new (Take thread) (Taken outcome) does = same_calls old new (ap (λ (k : KernelParts). k.history) does.taken)
does_calls old new command answer does = absurd does

refused_adds : (command : Command) (refusal : Refusal) → filter_map accepted (record { command = command; answer = Refused refusal } ∷ []) ≡ []
refused_adds (Open number space) refusal = refl
refused_adds (Enter thread call) refusal = refl
refused_adds (Exreg thread target control) refusal = refl
refused_adds (Broke thread) refusal = refl
refused_adds (At reading) refusal = refl
refused_adds Advance refusal = refl
refused_adds (Take thread) refusal = refl

refused_calls : (old new : KernelParts) (command : Command) (answer : Answer) (refusal : Refusal) → answer ≡ Refused refusal → new ≡ old → Adds old command answer new
refused_calls old new command answer refusal is same =
    same_calls old new (ap (λ (k : KernelParts). k.history) same) ∙ ap (λ l. calls_in old.history ++ l) (sym (ap (λ a. filter_map accepted (record { command = command; answer = a } ∷ [])) is ∙ refused_adds command refusal))

obeys_calls : (old new : KernelParts) (command : Command) (answer : Answer) → Obeys old command answer new → Adds old command answer new
unfolding Obeys
obeys_calls old new command answer obeys = go (cause_of old command) obeys
  where
    go : (cause : Option Refusal) → ObeysOr cause old command answer new → Adds old command answer new
    go None does = does_calls old new command answer does
    go (Some refusal) refused = refused_calls old new command answer refusal refused.0 refused.1

obeyed_calls : (memory : Memory) (old new : KernelParts) (command : Command) (answer : Answer) → AnswersIn memory old command answer new → Adds old command answer new
obeyed_calls Ample old new command answer obeys = obeys_calls old new command answer obeys
obeyed_calls MayLack old new command answer (inl obeys) = obeys_calls old new command answer obeys
obeyed_calls MayLack old new command answer (inr lacks) = refused_calls old new command answer NoMemory lacks.answer_is lacks.stays

-- a command that is obeyed, and the kernel at rest
obeys_in_calls : (memory : Memory) (old new : KernelParts) (command : Command) (answer : Answer) → ObeysIn memory old command answer new → Adds old command answer new
obeys_in_calls memory old new command answer obeys =
    ap (λ (k : KernelParts). calls_in k.history) obeys.new_is
    ∙ (obeyed_calls memory obeys.roomy obeys.after command answer obeys.answers
    ∙ ap (λ H. calls_in H ++ filter_map accepted (record { command = command; answer = answer } ∷ [])) (room_history old.held.mark old obeys.roomy command obeys.makes_room))

pub calls_are_accepted : CallsAreAccepted
calls_are_accepted memory old new events asked happen =
    events_along memory (λ h asked k. calls_in k.history ≡ calls_in h.history ++ filter_map accepted asked)
    (λ h. sym (append-nil (calls_in h.history)))
    (λ h k l first rest here later. later ∙ (ap (λ c. c ++ filter_map accepted rest) here ∙ (append_assoc (calls_in h.history) (filter_map accepted first) (filter_map accepted rest) ∙ ap (λ c. calls_in h.history ++ c) (sym (filter_map-append accepted first rest)))))
    (λ before after command answer obeys. obeys_in_calls memory before after command answer obeys)
    (λ kernel thread. sym (append-nil (calls_in kernel.history)))
    events old new asked happen

obeyed_legal : (memory : Memory) (old new : KernelParts) (command : Command) (answer : Answer) → AnswersIn memory old command answer new → Legal old.history → Legal new.history
obeyed_legal Ample old new command answer obeys legal = obeys_legal old new command answer legal obeys
obeyed_legal MayLack old new command answer (inl obeys) legal = obeys_legal old new command answer legal obeys
obeyed_legal MayLack old new command answer (inr lacks) legal = subst (λ (k : KernelParts). Legal k.history) (sym lacks.stays) legal

pub obeys_in_legal : (memory : Memory) (old new : KernelParts) (command : Command) (answer : Answer) → ObeysIn memory old command answer new → Legal old.history → Legal new.history
obeys_in_legal memory old new command answer obeys legal =
    subst (λ (k : KernelParts). Legal k.history) (sym obeys.new_is)
    (obeyed_legal memory obeys.roomy obeys.after command answer obeys.answers (subst Legal (sym (room_history old.held.mark old obeys.roomy command obeys.makes_room)) legal))

pub legal_stays : LegalStays
legal_stays memory old new events asked happen =
    events_along memory (λ h asked k. Legal h.history → Legal k.history)
    (λ h legal. legal)
    (λ h k l first rest here later legal. later (here legal))
    (λ before after command answer obeys. obeys_in_legal memory before after command answer obeys)
    (λ kernel thread legal. legal)
    events old new asked happen
