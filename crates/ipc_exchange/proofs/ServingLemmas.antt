-- What serving does to the stages, and serving one list after another.
use Rattle.std.proofs.Common.{◌≡◌, ℕ, zero, suc, List, [], ◌∷◌, ◌++◌, refl, sym, ap, subst, ◌∙◌, Result, Err}
use Rattle.std.specs.Prelude.{slice_set}
use Rattle.ipc_frame.specs.declared.fault.FrameFault.{FrameFault}
use Rattle.ipc_core.specs.KernelParts.{KernelParts}
use Rattle.ipc_connection.proofs.ChainLemmas.{chain_split}
use Rattle.ipc_connection.specs.Asking.{asks}
use Rattle.ipc_connection.specs.Chain.{Chain}
use Rattle.ipc_connection.specs.Replying.{next_stage}
use Rattle.ipc_connection.specs.declared.stage.Stage.{Stage}
use Rattle.ipc_connection.specs.declared.stage.Stage.TheVariants.{Greeting, Serving, Finished}
use Rattle.ipc_connection.specs.declared.heard.Heard.{Heard}
use Rattle.ipc_words.specs.Limits.{table_slots}
use Rattle.ipc_exchange.specs.Service.{ConnectionParts, ServiceParts, connection_at, delivered, delivered_to, place_of, told_connection}
use Rattle.ipc_exchange.specs.Serving.{Asked, Memory, Serves, ServesAll, ServesBy, Tells}

-- a connection with the stage of the one that it replaces
pub set_stage : (connections : List ConnectionParts) (at place : ℕ) (connection : ConnectionParts) → connection.stage ≡ (connection_at connections at).stage → (connection_at (slice_set connections at connection) place).stage ≡ (connection_at connections place).stage
set_stage [] at place connection h = refl
set_stage (l ∷ connections) zero zero connection h = h
set_stage (l ∷ connections) zero (suc place) connection h = refl
set_stage (l ∷ connections) (suc at) zero connection h = refl
set_stage (l ∷ connections) (suc at) (suc place) connection h = set_stage connections at place connection h

delivered_to_stage : (numbers : ℕ) (service : ServiceParts) (place : ℕ) → (connection_at (delivered_to numbers service).connections place).stage ≡ (connection_at service.connections place).stage
unfolding delivered_to
delivered_to_stage zero service place = refl
delivered_to_stage (suc number) service place = set_stage (delivered_to number service).connections (place_of number (delivered_to number service).connections) place _ refl ∙ delivered_to_stage number service place

-- outcomes change no stage
pub delivered_stage : (connections : List ConnectionParts) (kernel : KernelParts) (place : ℕ) → (connection_at (delivered kernel connections).connections place).stage ≡ (connection_at connections place).stage
unfolding delivered
delivered_stage connections kernel place = delivered_to_stage table_slots (record { kernel = kernel; connections = connections }) place

-- a finished connection in a place
set_finished : (connections : List ConnectionParts) (place : ℕ) (connection : ConnectionParts) → connection.stage ≡ Finished → (connection_at (slice_set connections place connection) place).stage ≡ Finished
set_finished [] place connection h = refl
set_finished (l ∷ connections) zero connection h = h
set_finished (l ∷ connections) (suc place) connection h = set_finished connections place connection h

module _ (memory : Memory) (place : ℕ) where
  told_finished : (old new : ServiceParts) (asked : List Asked) (told : _) → Tells memory old place told asked new → (told_connection told (connection_at old.connections place)).stage ≡ Finished → (connection_at new.connections place).stage ≡ Finished
  told_finished old new asked told tells h =
      ap (λ (s : ServiceParts). (connection_at s.connections place).stage) tells.new_is ∙ (delivered_stage (slice_set old.connections place (told_connection told (connection_at old.connections place))) tells.kernel place ∙ set_finished old.connections place (told_connection told (connection_at old.connections place)) h)

  -- a fault ends the connection
  pub fault_finishes : (old new : ServiceParts) (fault : FrameFault) (asked : List Asked) → Serves memory old place (Err fault) asked new → (connection_at new.connections place).stage ≡ Finished
  unfolding Serves asks next_stage
  fault_finishes old new fault asked serves = go (connection_at old.connections place).stage refl serves
    where
      go : (stage : Stage) → (connection_at old.connections place).stage ≡ stage → ServesBy memory old place (asks stage (Err fault)) asked new → (connection_at new.connections place).stage ≡ Finished
      go Finished e s = ap (λ (s : ServiceParts). (connection_at s.connections place).stage) s.1 ∙ e
      go Greeting e s = told_finished old new asked _ s refl
      go (Serving thread) e s = told_finished old new asked _ s refl

  -- a connection that has ended asks for nothing
  idle : (old new : ServiceParts) (heard : Result Heard FrameFault) (asked : List Asked) → (connection_at old.connections place).stage ≡ Finished → Serves memory old place heard asked new → (asked ≡ []) × (new ≡ old)
  unfolding Serves asks
  idle old new heard asked e serves = subst (λ stage. ServesBy memory old place (asks stage heard) asked new) e serves

  pub idle_again : (old : ServiceParts) (heard : Result Heard FrameFault) → (connection_at old.connections place).stage ≡ Finished → Serves memory old place heard [] old
  unfolding Serves asks
  idle_again old heard e = subst (λ stage. ServesBy memory old place (asks stage heard) [] old) (sym e) (refl, refl)

  pub all_idle : (heard : List (Result Heard FrameFault)) (old new : ServiceParts) (asked : List Asked) → (connection_at old.connections place).stage ≡ Finished → ServesAll memory old place heard asked new → (asked ≡ []) × (new ≡ old)
  unfolding Chain
  all_idle [] old new asked e serves = serves
  all_idle (h ∷ heard) old new asked e (first, rest, between, both, one, more) =
      let here = idle old between h first e one in
      let same : between ≡ old = here.1 in
      let later = all_idle heard between new rest (ap (λ (s : ServiceParts). (connection_at s.connections place).stage) same ∙ e) more in
      let none : first ++ rest ≡ [] = rw (here.0, later.0) refl in
      (both ∙ none, later.1 ∙ same)

  pub all_idle_again : (heard : List (Result Heard FrameFault)) (old : ServiceParts) → (connection_at old.connections place).stage ≡ Finished → ServesAll memory old place heard [] old
  unfolding Chain
  all_idle_again [] old e = (refl, refl)
  all_idle_again (h ∷ heard) old e = ([], [], old, refl, idle_again old h e, all_idle_again heard old e)

  -- what ends in a fault ends the connection
  pub stopped_finishes : (front : List (Result Heard FrameFault)) (fault : FrameFault) (old new : ServiceParts) (asked : List Asked) → ServesAll memory old place (front ++ Err fault ∷ []) asked new → (connection_at new.connections place).stage ≡ Finished
  unfolding Chain
  stopped_finishes front fault old new asked serves =
      let split = chain_split (λ before one told after. Serves memory before place one told after) front (Err fault ∷ []) old new asked serves in
      let (first, rest, next, both, here, done) = split.chain_more in
      ap (λ (s : ServiceParts). (connection_at s.connections place).stage) done.1 ∙ fault_finishes split.between next fault first here
