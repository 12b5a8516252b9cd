-- Outcomes go out, each on the connection of its thread.
use Rattle.std.proofs.Common.{◌≡◌, ◌≢◌, ℕ, zero, suc, ◌+◌, ◌<◌, ◌≤◌, Bool, true, false, ◌==◌, eqb-true, eq-eqb, List, [], ◌∷◌, ◌++◌, length, refl, sym, ap, ap₂, subst, ◌∙◌, add-one, Option, Some, None, arith}
use Rattle.std.specs.Prelude.{slice_set, slice_index_or, nat_lt}
use Rattle.std.proofs.lemmas.Bool.{false≢true, false_from_ne_true}
use Rattle.std.proofs.lemmas.List.{append-nil, length-set, map-set, set-get_or}
use Rattle.std.proofs.lemmas.List.Sums.{position_or_len_is}
use Rattle.ipc_words.specs.ThreadId.{number_of}
use Rattle.ipc_history.specs.Outcomes.{OutcomeParts}
use Rattle.ipc_frame.specs.Frames.{spelling}
use Rattle.ipc_frame.specs.Replies.{ipcr_of}
use Rattle.ipc_laws.proofs.Tests.{not_both}
use Rattle.ipc_core.specs.KernelParts.{KernelParts}
use Rattle.ipc_core.specs.Laws.{IsSound}
use Rattle.ipc_core.specs.Obeying.{MayObey}
use Rattle.ipc_core.specs.Outcomes.{is_busy, outcome_to_take}
use Rattle.ipc_core.specs.Steps.{taken_after}
use Rattle.ipc_core.specs.declared.command.Answer.{Answer}
use Rattle.ipc_core.specs.declared.command.Command.TheVariants.{Take}
use Rattle.ipc_connection.specs.declared.stage.Stage.{Stage}
use Rattle.ipc_connection.specs.declared.stage.Stage.TheVariants.{Greeting, Serving, Finished}
use Rattle.ipc_words.specs.Limits.{table_slots}
use Rattle.ipc_exchange.specs.Service.{ConnectionParts, ServiceParts, at_rest, connection_at, delivered, delivered_to, nobody, outcome_at, place_of, serves_number, told_outcome, with_outcome, without_outcome}
use Rattle.ipc_exchange.specs.Due.{NothingDue}
use Rattle.ipc_exchange.specs.Rooms.{HasRoom, IsPlaced, Ready, RoomyConnection, RoomyService, StaysReady, connections_of, roomy_at, service_of, stage_at}
use Rattle.ipc_core.proofs.IdleLaws.{idle_has_nothing}
use Rattle.ipc_core.proofs.BusyLaws.{taken_is_idle}
use Rattle.ipc_exchange.proofs.ReadyLemmas.{at_each, command_ready, same_place}
use Rattle.ipc_exchange.proofs.RestedLemmas.{same_outcome}
use Rattle.ipc_exchange.proofs.TellingLemmas.{at_roomy, connection_there, roomy_self}

-- Which connection a number has

-- a connection that serves a thread is there
pub serving_within : (connections : List RoomyConnection) (q u : ℕ) → stage_at connections q ≡ Serving u → q < length connections
serving_within [] q u e = absurd cc
serving_within (roomy ∷ connections) zero u e = omega arith
serving_within (roomy ∷ connections) (suc q) u e = let h = serving_within connections q u e in omega (arith, h)

pub connections_long : (connections : List RoomyConnection) → length (connections_of connections) ≡ length connections
connections_long [] = refl
connections_long (roomy ∷ connections) = ap suc (connections_long connections)

module _ (connections : List RoomyConnection) (number : ℕ) where
  abbrev serves : ConnectionParts → Bool
  serves connection = serves_number number connection.stage

  none_serves : (q : ℕ) (stage : Stage) → stage_at connections q ≡ stage → ((u : ℕ) → stage_at connections q ≡ Serving u → number_of u ≢ number) → serves_number number stage ≡ false
  none_serves q Greeting e none = refl
  none_serves q Finished e none = refl
  none_serves q (Serving u) e none = false_from_ne_true (number_of u == number) (λ same. none u e (eqb-true (number_of u) number same))

  at_place : (q : ℕ) → ((u : ℕ) → stage_at connections q ≡ Serving u → number_of u ≢ number) → serves (connection_at (connections_of connections) q) ≡ false
  at_place q none = ap serves (connection_there connections q) ∙ none_serves q (stage_at connections q) refl none

  pub place_none : ((q u : ℕ) → stage_at connections q ≡ Serving u → number_of u ≢ number) → length connections ≡ place_of number (connections_of connections)
  unfolding place_of
  place_none none = sym (position_or_len_is serves (connections_of connections) (length connections) nobody (omega (arith, connections_long connections)) (λ k below. at_place k (none k)) (λ below. absurd (omega (arith, below, connections_long connections))))

  pub place_is : (p t : ℕ) → ((q u : ℕ) → stage_at connections q ≡ Serving u → number_of u ≡ number → q ≡ p) → stage_at connections p ≡ Serving t → number_of t ≡ number → p ≡ place_of number (connections_of connections)
  unfolding place_of
  place_is p t alone e is = sym (position_or_len_is serves (connections_of connections) p nobody
      (let within = serving_within connections p t e in omega (arith, within, connections_long connections))
      (λ k below. at_place k (λ u f same. (let clash = alone k u f same in absurd (omega (arith, clash, below)))))
      (λ below. ap serves (connection_there connections p) ∙ (ap (serves_number number) e ∙ eq-eqb (number_of t) number is)))

-- the connection that the table names, if any
pub place_found : (s : RoomyService) (number p t : ℕ) → Ready s → stage_at s.connections p ≡ Serving t → number_of t ≡ number → p ≡ place_of number (connections_of s.connections)
place_found s number p t ready e is = place_is s.connections number p t (λ q u f same. same_place s ready.placed q p u t f e (same ∙ sym is)) e is

pub place_missing : (s : RoomyService) (number connection : ℕ) → Ready s → connection ≡ slice_index_or s.table number 0 → ((p t : ℕ) → connection ≡ suc p → stage_at s.connections p ≡ Serving t → number_of t ≢ number) → length s.connections ≡ place_of number (connections_of s.connections)
place_missing s number connection ready is none = place_none s.connections number (λ q u e same. none q u (is ∙ (ap (λ n. slice_index_or s.table n 0) (sym same) ∙ (ready.placed q u e).found)) e same)

-- What goes out

pub none_told : (service : ServiceParts) (place : ℕ) → outcome_at service.kernel (connection_at service.connections place).stage ≡ None → told_outcome place service ≡ service
none_told service place none =
    let same_connection : with_outcome None (connection_at service.connections place) ≡ connection_at service.connections place = ap (λ l. record (connection_at service.connections place) { out = l }) (append-nil (connection_at service.connections place).out) in
    ap (λ o. record { kernel = without_outcome service.kernel o; connections = slice_set service.connections place (with_outcome o (connection_at service.connections place)) }) none
    ∙ (ap (λ l. record { kernel = service.kernel; connections = slice_set service.connections place l }) same_connection ∙ ap (λ l. record { kernel = service.kernel; connections = l }) (set-get_or service.connections place nobody))

-- the kernel after a taking
abbrev pub taking : KernelParts → Option OutcomeParts → KernelParts
taking kernel outcome = record kernel { taken = taken_after outcome kernel.taken; since = length kernel.history }

-- where the thread has nothing to take
pub nothing_told : (s : RoomyService) (place thread : ℕ) (kernel : KernelParts) → stage_at s.connections place ≡ Serving thread → None ≡ outcome_to_take s.kernel thread → kernel ≡ taking s.kernel None → service_of (record s { kernel = kernel }) ≡ told_outcome place (service_of s)
nothing_told s place thread kernel e none is =
    ap (λ k. service_of (record s { kernel = k })) is
    ∙ sym (none_told (service_of s) place (ap (outcome_at (at_rest s.kernel)) (ap (λ (l : ConnectionParts). l.stage) (connection_there s.connections place) ∙ e) ∙ (same_outcome s.kernel thread ∙ sym none)))

-- where the connection serves no thread
pub nobody_told : (s : RoomyService) (place : ℕ) → ((t : ℕ) → stage_at s.connections place ≢ Serving t) → service_of s ≡ told_outcome place (service_of s)
nobody_told s place none = sym (none_told (service_of s) place (ap (outcome_at (at_rest s.kernel)) (ap (λ (l : ConnectionParts). l.stage) (connection_there s.connections place)) ∙ idle (stage_at s.connections place) refl))
  where
    idle : (stage : Stage) → stage_at s.connections place ≡ stage → outcome_at (at_rest s.kernel) stage ≡ None
    idle Greeting e = refl
    idle Finished e = refl
    idle (Serving t) e = absurd (none t e)

-- a place past the end
pub past_stage : (connections : List RoomyConnection) (place : ℕ) → length connections ≤ place → stage_at connections place ≡ Finished
past_stage [] place past = refl
past_stage (roomy ∷ connections) zero past = absurd (omega (arith, past))
past_stage (roomy ∷ connections) (suc place) past = past_stage connections place (omega (arith, past))

pub past_told : (s : RoomyService) (place : ℕ) → length s.connections ≤ place → service_of s ≡ told_outcome place (service_of s)
past_told s place past = nobody_told s place (λ t e. (let f = past_stage s.connections place past in absurd cc))

-- where it has an outcome to take
pub outcome_told : (s : RoomyService) (place thread : ℕ) (outcome : OutcomeParts) (kernel : KernelParts) (roomy : RoomyConnection) → stage_at s.connections place ≡ Serving thread → Some outcome ≡ outcome_to_take s.kernel thread → kernel ≡ taking s.kernel (Some outcome) → roomy.connection ≡ record (roomy_at s.connections place).connection { out = (roomy_at s.connections place).connection.out ++ spelling (ipcr_of (roomy_at s.connections place).connection.version outcome) } → service_of (record s { kernel = kernel; connections = slice_set s.connections place roomy }) ≡ told_outcome place (service_of s)
outcome_told s place thread outcome kernel roomy e told is connection =
    let outcome_is : outcome_at (at_rest s.kernel) (connection_at (connections_of s.connections) place).stage ≡ Some outcome = ap (outcome_at (at_rest s.kernel)) (ap (λ (l : ConnectionParts). l.stage) (connection_there s.connections place) ∙ e) ∙ (same_outcome s.kernel thread ∙ sym told) in
    let kernels : at_rest kernel ≡ without_outcome (at_rest s.kernel) (Some outcome) = ap at_rest is in
    let connections : connections_of (slice_set s.connections place roomy) ≡ slice_set (connections_of s.connections) place (with_outcome (Some outcome) (connection_at (connections_of s.connections) place)) = map-set (λ (l : RoomyConnection). l.connection) s.connections place roomy ∙ ap (λ (l : ConnectionParts). slice_set (connections_of s.connections) place l) (connection ∙ ap (with_outcome (Some outcome)) (sym (connection_there s.connections place))) in
    ap₂ (λ k l. record { kernel = k; connections = l }) kernels connections
    ∙ ap (λ o. record { kernel = without_outcome (at_rest s.kernel) o; connections = slice_set (connections_of s.connections) place (with_outcome o (connection_at (connections_of s.connections) place)) }) (sym outcome_is)

-- The service stays ready

pub busy_with : (kernel : KernelParts) (thread : ℕ) (outcome : OutcomeParts) → Some outcome ≡ outcome_to_take kernel thread → is_busy kernel thread ≡ true
busy_with kernel thread outcome told = go (is_busy kernel thread) refl
  where
    go : (b : Bool) → is_busy kernel thread ≡ b → is_busy kernel thread ≡ true
    go true e = e
    go false e = let none = told ∙ idle_has_nothing kernel thread e in absurd cc

pub took_ready : (s : RoomyService) (thread : ℕ) (said : Answer) (kernel : KernelParts) → Ready s → IsSound kernel → MayObey s.kernel (Take thread) said kernel → Ready (record s { kernel = kernel })
took_ready s thread said kernel ready sound obeys = command_ready s (Take thread) said kernel ready (λ t. refl) (λ t. refl) sound obeys

pub told_room : (s : RoomyService) (place thread : ℕ) (outcome : OutcomeParts) → Ready s → stage_at s.connections place ≡ Serving thread → Some outcome ≡ outcome_to_take s.kernel thread → 2 ≤ (roomy_at s.connections place).free
told_room s place thread outcome ready e told = (ready.room place).busy thread e (busy_with s.kernel thread outcome told)

pub told_ready : (s : RoomyService) (place thread : ℕ) (outcome : OutcomeParts) (said : Answer) (kernel : KernelParts) (roomy : RoomyConnection) → place < length s.connections → Ready s → stage_at s.connections place ≡ Serving thread → Some outcome ≡ outcome_to_take s.kernel thread → kernel ≡ taking s.kernel (Some outcome) → IsSound kernel → MayObey s.kernel (Take thread) said kernel → roomy.connection.stage ≡ stage_at s.connections place → (roomy_at s.connections place).free ≡ roomy.free + 1 → Ready (record s { kernel = kernel; connections = slice_set s.connections place roomy })
told_ready s place thread outcome said kernel roomy within ready e told is sound obeys stage free =
    let after = took_ready s thread said kernel ready sound obeys in
    let two = told_room s place thread outcome ready e told in
    let idle : is_busy kernel thread ≡ false = taken_is_idle s.kernel kernel thread (length s.kernel.history) outcome sound (sym told) is in
    record {
      sound = after.sound;
      placed = at_each s place roomy within (λ q (l : RoomyConnection). (t : ℕ) → l.connection.stage ≡ Serving t → IsPlaced kernel s.table q t) (λ t f. after.placed place t (sym stage ∙ f)) (λ q other t f. after.placed q t f);
      table = after.table;
      room = at_each s place roomy within (λ q l. HasRoom kernel l) (record {
        greeting = λ f. omega (arith, two, free);
        serving = λ t f. omega (arith, two, free);
        busy = λ t f is. (let again : Serving thread ≡ Serving t = sym e ∙ (sym stage ∙ f) in let same : thread ≡ t = cc in not_both is (ap (is_busy kernel) (sym same) ∙ idle));
      }) (λ q other. after.room q);
    }

pub stage_is : (connections : List RoomyConnection) (place thread : ℕ) (roomy : RoomyConnection) → place < length connections → roomy ≡ slice_index_or connections place roomy → Serving thread ≡ roomy.connection.stage → stage_at connections place ≡ Serving thread
stage_is connections place thread roomy within e f = ap (λ (l : RoomyConnection). l.connection.stage) (at_roomy connections place roomy within e) ∙ sym f

module _ (s : RoomyService) (place thread : ℕ) (roomy read new : RoomyConnection) (outcome : OutcomeParts) (kernel : KernelParts) (answer : List ℕ)
    (within : place < length s.connections) (there : roomy ≡ slice_index_or s.connections place roomy) (serving : Serving thread ≡ roomy.connection.stage)
    (told : Some outcome ≡ outcome_to_take s.kernel thread) (is : kernel ≡ taking s.kernel (Some outcome))
    (again : read ≡ slice_index_or s.connections place read) (spelled : answer ≡ spelling (ipcr_of read.connection.version outcome))
    (connection : new.connection ≡ record read.connection { out = read.connection.out ++ answer })
  where
    pub deliver_told : service_of (record s { kernel = kernel; connections = slice_set s.connections place new }) ≡ told_outcome place (service_of s)
    deliver_told = outcome_told s place thread outcome kernel new (stage_is s.connections place thread roomy within there serving) told is
        (connection ∙ (ap (λ (bytes : List ℕ). record read.connection { out = read.connection.out ++ bytes }) spelled ∙ ap (λ (l : ConnectionParts). record l { out = l.out ++ spelling (ipcr_of l.version outcome) }) (ap (λ (l : RoomyConnection). l.connection) (sym (at_roomy s.connections place read within again)))))

    pub deliver_ready : (said : Answer) → Ready s → IsSound kernel → MayObey s.kernel (Take thread) said kernel → read.free ≡ new.free + 1 → StaysReady s (record s { kernel = kernel; connections = slice_set s.connections place new })
    deliver_ready said ready sound obeys free = record {
      ready = told_ready s place thread outcome said kernel new within ready (stage_is s.connections place thread roomy within there serving) told is sound obeys
          (ap (λ (l : ConnectionParts). l.stage) connection ∙ ap (λ (l : RoomyConnection). l.connection.stage) (sym (at_roomy s.connections place read within again)))
          (ap (λ (l : RoomyConnection). l.free) (at_roomy s.connections place read within again) ∙ free);
      same = length-set s.connections place new;
    }

-- Number by number

pub deliver_start : (s : RoomyService) → service_of s ≡ delivered_to 0 (service_of s)
unfolding delivered_to
deliver_start s = refl

pub deliver_more : (s now next : RoomyService) (number : ℕ) → service_of now ≡ delivered_to number (service_of s) → service_of next ≡ told_outcome (place_of number (connections_of now.connections)) (service_of now) → service_of next ≡ delivered_to (number + 1) (service_of s)
unfolding delivered_to
deliver_more s now next number before told = rw add-one (told ∙ ap (λ (p : ServiceParts). told_outcome (place_of number p.connections) p) before)

pub deliver_end : (s now : RoomyService) (number : ℕ) → service_of now ≡ delivered_to number (service_of s) → number ≡ table_slots → service_of now ≡ delivered (at_rest s.kernel) (connections_of s.connections)
unfolding delivered
deliver_end s now number before all = before ∙ ap (λ n. delivered_to n (service_of s)) all

-- What the table names

pub found_by : (s : RoomyService) (number p : ℕ) (roomy : RoomyConnection) → Ready s → p < length s.connections → roomy ≡ slice_index_or s.connections p roomy → serves_number number roomy.connection.stage ≡ true → p ≡ place_of number (connections_of s.connections)
found_by s number p roomy ready within there holds = go roomy.connection.stage refl holds
  where
    go : (stage : Stage) → roomy.connection.stage ≡ stage → serves_number number stage ≡ true → p ≡ place_of number (connections_of s.connections)
    go (Serving t) e holds = place_found s number p t ready (ap (λ (l : RoomyConnection). l.connection.stage) (at_roomy s.connections p roomy within there) ∙ e) (eqb-true (number_of t) number holds)
    go Greeting e holds = absurd (false≢true holds)
    go Finished e holds = absurd (false≢true holds)

-- no connection had the number, or one that is not there
pub missing_none : (s : RoomyService) (number connection : ℕ) → Ready s → connection ≡ slice_index_or s.table number 0 → connection ≡ 0 → length s.connections ≡ place_of number (connections_of s.connections)
missing_none s number connection ready is none = place_missing s number connection ready is (λ p t e f. absurd (omega (arith, e, none)))

pub missing_past : (s : RoomyService) (number connection : ℕ) → Ready s → connection ≡ slice_index_or s.table number 0 → length s.connections < connection → length s.connections ≡ place_of number (connections_of s.connections)
missing_past s number connection ready is past = place_missing s number connection ready is (λ p t e f. (let within = serving_within s.connections p t f in absurd (omega (arith, e, past, within))))

-- its thread has another number
pub missing_other : (s : RoomyService) (number connection p : ℕ) (roomy : RoomyConnection) → Ready s → connection ≡ slice_index_or s.table number 0 → connection ≡ suc p → p < length s.connections → roomy ≡ slice_index_or s.connections p roomy → serves_number number roomy.connection.stage ≡ false → length s.connections ≡ place_of number (connections_of s.connections)
missing_other s number connection p roomy ready is next within there fails = place_missing s number connection ready is (λ q t e f same.
    let places : q ≡ p = (let both = sym e ∙ next in cc) in
    let stage : roomy.connection.stage ≡ Serving t = ap (λ (l : RoomyConnection). l.connection.stage) (sym (at_roomy s.connections p roomy within there)) ∙ (ap (stage_at s.connections) (sym places) ∙ f) in
    not_both (eq-eqb (number_of t) number same) (ap (serves_number number) (sym stage) ∙ fails))

any_default : (xs : List ℕ) (i x : ℕ) → i < length xs → x ≡ slice_index_or xs i x → x ≡ slice_index_or xs i 0
any_default [] i x within e = absurd (omega (arith, within))
any_default (y ∷ xs) zero x within e = e
any_default (y ∷ xs) (suc i) x within e = any_default xs i x (omega (arith, within)) e

pub table_read : (s : RoomyService) (number x : ℕ) → Ready s → number < table_slots → x ≡ slice_index_or s.table number x → x ≡ slice_index_or s.table number 0
table_read s number x ready within e = any_default s.table number x (rw ready.table within) e

-- A number of which nothing is due is passed over
module _ (s : RoomyService) (number : ℕ) (ready : Ready s) (none : NothingDue s.kernel number) where
  abbrev Skipped : Type 0
  Skipped = service_of s ≡ told_outcome (place_of number (connections_of s.connections)) (service_of s)

  nobody_there : length s.connections ≡ place_of number (connections_of s.connections) → Skipped
  nobody_there past = subst (λ p. service_of s ≡ told_outcome p (service_of s)) past (past_told s (length s.connections) (omega arith))

  stage_nothing : (stage : Stage) → serves_number number stage ≡ true → outcome_at (at_rest s.kernel) stage ≡ None
  stage_nothing (Serving t) holds = same_outcome s.kernel t ∙ none t (eqb-true (number_of t) number holds)
  stage_nothing Greeting holds = refl
  stage_nothing Finished holds = refl

  connection_nothing : (p : ℕ) → serves_number number (stage_at s.connections p) ≡ true → service_of s ≡ told_outcome p (service_of s)
  connection_nothing p holds = sym (none_told (service_of s) p (ap (outcome_at (at_rest s.kernel)) (ap (λ (l : ConnectionParts). l.stage) (connection_there s.connections p)) ∙ stage_nothing (stage_at s.connections p) holds))

  serving_skipped : (p : ℕ) → suc p ≡ slice_index_or s.table number 0 → p < length s.connections → (b : Bool) → serves_number number (stage_at s.connections p) ≡ b → Skipped
  serving_skipped p is within true holds = subst (λ q. service_of s ≡ told_outcome q (service_of s)) (found_by s number p (roomy_at s.connections p) ready within (roomy_self s.connections p within) holds) (connection_nothing p holds)
  serving_skipped p is within false fails = nobody_there (missing_other s number (suc p) p (roomy_at s.connections p) ready is refl within (roomy_self s.connections p within) fails)

  named_skipped : (connection : ℕ) → connection ≡ slice_index_or s.table number 0 → Skipped
  named_skipped zero is = nobody_there (missing_none s number 0 ready is refl)
  named_skipped (suc p) is = go (nat_lt p (length s.connections)) refl
    where
      go : (b : Bool) → nat_lt p (length s.connections) ≡ b → Skipped
      go true e = serving_skipped p is (grind (arith, e)) (serves_number number (stage_at s.connections p)) refl
      go false e = nobody_there (missing_past s number (suc p) ready is (grind (arith, e)))

  pub skip_told : Skipped
  skip_told = named_skipped (slice_index_or s.table number 0) refl
