-- Of each thread every call but its last was taken: what keeps this true.
use Rattle.std.proofs.lemmas.Bool.{false≢true}
use Rattle.std.proofs.Common.{◌≡◌, refl, sym, ap, ◌∙◌, ℕ, Bool, true, false, ◌||◌, ◌==◌, if◌then◌else◌, eqb-true, List, [], Some, None, ◌⊎◌, inl, inr}
use Rattle.std.specs.Option.{option_or}
use Rattle.ipc_history.specs.Calls.{call_at, caller_of, is_called}
use Rattle.ipc_history.specs.declared.entry.Entry.{Entry}
use Rattle.ipc_history.specs.declared.entry.Entry.TheVariants.{Given}
use Rattle.ipc_history.specs.declared.entry.Input.{Input}
use Rattle.ipc_history.specs.declared.entry.Input.TheVariants.{At, Opened, Called, Exreg, Broke, Moved}
use Rattle.ipc_laws.proofs.Growth.{caller_of_kept}
use Rattle.ipc_desks.specs.CallsOf.{last_call, number_by}
use Rattle.ipc_core.specs.Books.{TookOthers}
use Rattle.ipc_core.specs.Outcomes.{is_among}
use Rattle.ipc_core.proofs.NewCalls.{Grows}

-- the thread whose call an input is has taken its last one
abbrev pub IsIdleFor : List Entry → List ℕ → Input → Type 0
IsIdleFor H taken (Called n thread call) = (m : ℕ) → last_call H thread ≡ Some m → is_among m taken ≡ true
IsIdleFor H taken _ = Unit {0}

-- no call was made
pub others_none : TookOthers [] []
unfolding is_called call_at
others_none n called = absurd (false≢true called)

-- more were taken
pub others_more : (H : List Entry) (old new : List ℕ) → TookOthers H old → ((n : ℕ) → is_among n old ≡ true → is_among n new ≡ true) → TookOthers H new
others_more H old new others more n called = elim (others n called) [ inl last ↦ inl last | inr among ↦ inr (more n among) ]

-- a call that was the last one of its thread is so still, or was taken
after_input : (H : List Entry) (taken : List ℕ) (input : Input) (thread n : ℕ) → last_call H thread ≡ Some n → IsIdleFor H taken input → (option_or (number_by thread (Given input)) (last_call H thread) ≡ Some n) ⊎ (is_among n taken ≡ true)
after_input H taken (Called k caller call) thread n last idle = go (caller == thread) refl
  where
    go : (b : Bool) → (caller == thread) ≡ b → (option_or (if caller == thread then Some k else None) (last_call H thread) ≡ Some n) ⊎ (is_among n taken ≡ true)
    go true is = inr (idle n (ap (last_call H) (eqb-true caller thread is) ∙ last))
    go false is = inl (rw is last)
after_input H taken (At moment) thread n last idle = inl last
after_input H taken (Opened t space) thread n last idle = inl last
after_input H taken (Exreg t target control) thread n last idle = inl last
after_input H taken (Broke t) thread n last idle = inl last
after_input H taken (Moved k count) thread n last idle = inl last

or_right : (a b : Bool) → a ≡ false → (a || b) ≡ true → b ≡ true
or_right true b h o = absurd (false≢true (sym h))
or_right false b h o = o

-- after a command
pub others_grown : (H K : List Entry) (input : Input) → Grows H K input → (old new : List ℕ) → new ≡ old → TookOthers H old → IsIdleFor H old input → TookOthers K new
others_grown H K input grows old new same others idle n called = go (is_called H n) refl
  where
    go : (b : Bool) → is_called H n ≡ b → (last_call K (caller_of K n) ≡ Some n) ⊎ (is_among n new ≡ true)
    go false absent = inl (grows.entered n absent (or_right _ _ absent (sym (grows.called n) ∙ called)))
    go true was =
        let caller : caller_of K n ≡ caller_of H n = ap (λ l. caller_of l n) grows.whole ∙ caller_of_kept H grows.more n was in
        elim (others n was) [
          | inr among ↦ inr (ap (is_among n) same ∙ among)
          | inl last ↦ elim (after_input H old input (caller_of H n) n last idle) [
            | inl still ↦ inl (ap (last_call K) caller ∙ (grows.last (caller_of H n) ∙ still))
            | inr among ↦ inr (ap (is_among n) same ∙ among)
          ]
        ]
