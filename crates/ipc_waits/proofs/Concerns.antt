-- A rule gives nothing for a call that it does not concern.
use Rattle.std.proofs.Common.{◌≡◌, refl, sym, ◌∙◌, ℕ, Bool, false, ◌||◌, List, None}
use Rattle.ipc_history.specs.Threads.{is_live}
use Rattle.ipc_history.specs.Legal.{Legal}
use Rattle.ipc_history.specs.declared.entry.Entry.{Entry}
use Rattle.ipc_laws.proofs.Tests.{not_both}
use Rattle.ipc_waits.specs.Rules.{abort_by, concerns, end_by, rule_of, timeout_by, waits_to_receive, waits_to_send}
use Rattle.ipc_threads.specs.Standings.{IsStanding}
use Rattle.ipc_waits.specs.declared.rules.Rule.{Rule}
use Rattle.ipc_waits.specs.declared.rules.Rule.TheVariants.{Ends, Fails, Expires, Copies}
use Rattle.ipc_threads.specs.declared.slot.Phase.{Phase}
use Rattle.ipc_threads.specs.declared.slot.Phase.TheVariants.{Sending, Passing, Receiving, Taking}
use Rattle.ipc_threads.specs.declared.slot.Standing.{Standing}
use Rattle.ipc_waits.proofs.PhaseRules.{end_at, timeout_at}
use Rattle.ipc_waits.proofs.Stops.{abort_told}

no_end : (b : Bool) (s : Standing) (p : Phase) → s.phase ≡ p → concerns Ends p ≡ false → end_by b s ≡ None
no_end b s Sending is h = rw is refl
no_end b s (Passing m) is h = not_both refl h
no_end b s Receiving is h = rw is refl
no_end b s (Taking k by bytes) is h = rw is refl

no_abort : (b : Bool) (s : Standing) (p : Phase) → s.phase ≡ p → concerns Copies p ≡ false → abort_by b s ≡ None
no_abort b s Sending is h = rw is refl
no_abort b s (Passing m) is h = not_both refl h
no_abort b s Receiving is h = rw is refl
no_abort b s (Taking k by bytes) is h = rw is refl

no_timeout : (moment : ℕ) (s : Standing) (p : Phase) → s.phase ≡ p → (waits_to_send p || waits_to_receive p) ≡ false → timeout_by moment s ≡ None
no_timeout moment s Sending is h = not_both refl h
no_timeout moment s (Passing m) is h = rw is refl
no_timeout moment s Receiving is h = not_both refl h
no_timeout moment s (Taking k by bytes) is h = rw is refl

pub unconcerned : (rule : Rule) (P : List Entry) → Legal P → (s : Standing) → IsStanding P s → concerns rule s.phase ≡ false → rule_of rule P s.number ≡ None
unconcerned Ends P legal s call h = sym (end_at P legal s call) ∙ no_end (is_live P s.to) s s.phase refl h
unconcerned Copies P legal s call h = sym (abort_told P legal s call) ∙ no_abort (is_live P s.to) s s.phase refl h
unconcerned (Expires moment) P legal s call h = sym (timeout_at P legal moment s call) ∙ no_timeout moment s s.phase refl h
unconcerned Fails P legal s call h = not_both refl h
