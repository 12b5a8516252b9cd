-- Which opens and which ExchangeRegisters are admissible.
use Rattle.std.proofs.lemmas.Bool.{le-leb}
use Rattle.std.proofs.Common.{◌≡◌, refl, sym, ap, ◌∙◌, ℕ, ◌≤◌, eq-eqb, ◌==◌, not, Bool, true, false, List, IsTrue, Some, None, nat_le}
use Rattle.std.specs.Option.{option_map_or}
use Rattle.ipc_words.specs.Limits.{max_space, max_thread_number}
use Rattle.ipc_words.specs.ThreadId.{number_of, version_of}
use Rattle.ipc_words.specs.Control.{control_of, is_masked, masked_of, stops_receive, stops_send}
use Rattle.ipc_history.specs.Threads.{is_live, is_taken, next_version}
use Rattle.ipc_history.specs.Phases.{open_call}
use Rattle.ipc_history.specs.Legal.{is_admissible, is_free, may_open}
use Rattle.ipc_history.specs.declared.entry.Entry.{Entry}
use Rattle.ipc_history.specs.declared.entry.Input.TheVariants.{Opened, Exreg}

-- a number and a space within the limits
pub record InRange (number space : ℕ) : Type 0 where
  pub least : 1 ≤ number
  pub most : number ≤ max_thread_number
  pub inner : 1 ≤ space
  pub outer : space ≤ max_space

-- a thread of a number that is not taken, with its next version, may open
pub may_open_next : (H : List Entry) (thread number version space : ℕ) → InRange number space → number_of thread ≡ number → version_of thread ≡ version → is_taken H number ≡ false → next_version H number ≡ Some version → IsTrue (is_admissible H (Opened thread space))
unfolding is_admissible may_open
may_open_next H thread number version space range number_is version_is free next =
    let taken : not (is_taken H (number_of thread)) ≡ true = ap not (ap (is_taken H) number_is ∙ free) in
    let versions : option_map_or (λ v. v == version_of thread) (next_version H (number_of thread)) false ≡ true = ap (λ o. option_map_or (λ v. v == version_of thread) o false) (ap (next_version H) number_is ∙ next) ∙ eq-eqb version (version_of thread) (sym version_is) in
    let least : nat_le 1 (number_of thread) ≡ true = ap (nat_le 1) number_is ∙ le-leb 1 number range.least in
    let most : nat_le (number_of thread) max_thread_number ≡ true = ap (λ k. nat_le k max_thread_number) number_is ∙ le-leb number max_thread_number range.most in
    let inner = le-leb 1 space range.inner in
    let outer = le-leb space max_space range.outer in
    rw (least, most, taken, versions, inner, outer) refl

-- a control word of the bits R and S alone
control_is_masked : (receive send : Bool) → is_masked (control_of receive send) ≡ true
control_is_masked true true = refl
control_is_masked true false = refl
control_is_masked false true = refl
control_is_masked false false = refl

-- a live thread with no open call may stop phases
pub may_stop : (H : List Entry) (thread target control masked : ℕ) → is_live H thread ≡ true → open_call H thread ≡ None → masked ≡ masked_of control → IsTrue (is_admissible H (Exreg thread target masked))
unfolding is_admissible is_free
may_stop H thread target control masked live none same =
    let bits : is_masked masked ≡ true = ap is_masked same ∙ control_is_masked (stops_receive control) (stops_send control) in
    rw (live, none, bits) refl
