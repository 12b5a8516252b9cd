-- Of each thread every call but its last was taken: with one more entry, and with one less.
use Rattle.std.proofs.lemmas.Bool.{false≢true}
use Rattle.std.proofs.Common.{◌≡◌, refl, sym, ap, ◌∙◌, subst, ℕ, Bool, true, false, not, ◌==◌, eq-eqb, eqb-true, if◌then◌else◌, List, [], ◌∷◌, ◌++◌, Option, Some, None, ◌⊎◌, inl, inr, arith}
use Rattle.std.specs.Option.{option_map_or, option_or}
use Rattle.std.proofs.lemmas.Option.{same_Some}
use Rattle.ipc_history.specs.CallParts.{CallParts}
use Rattle.ipc_history.specs.Calls.{caller_of, is_called, last_call}
use Rattle.ipc_history.specs.Entries.{calls, number_by}
use Rattle.ipc_history.specs.Legal.{Follows, Legal}
use Rattle.ipc_history.specs.Phases.{is_over, open_call}
use Rattle.ipc_history.specs.Threads.{is_live}
use Rattle.ipc_history.specs.declared.entry.Entry.{Entry}
use Rattle.ipc_history.specs.declared.entry.Entry.TheVariants.{Given, Written}
use Rattle.ipc_history.specs.declared.entry.Input.TheVariants.{At, Opened, Called, Exreg, Broke, Moved}
use Rattle.ipc_laws.proofs.EntryLeaves.{is_new}
use Rattle.ipc_laws.proofs.Growth.{caller_of_kept, is_called_kept}
use Rattle.ipc_laws.proofs.Numbering.{called_below, entered}
use Rattle.ipc_laws.proofs.OneOpen.{caller_at, free_parts, none_open}
use Rattle.ipc_compact.specs.Compact.{is_among}
use Rattle.ipc_desks.specs.CallsOf.{is_busy}
use Rattle.ipc_desks.proofs.LastCalls.{last_is, last_push, new_call_at}
use Rattle.ipc_compact.specs.Kept.{TookOthers}
use Rattle.ipc_core.specs.CourseParts.{ComesIdle}
use Rattle.ipc_chain.specs.Judging.{IsSure, TakesLast, TakesSure}

-- the last call of an idle thread was taken
idle_taken : (H : List Entry) (taken : List ℕ) (t n : ℕ) → is_busy H taken t ≡ false → last_call H t ≡ Some n → is_among n taken ≡ true
unfolding is_busy
idle_taken H taken t n idle last = go (is_among n taken) (rw last at idle)
  where
    go : (b : Bool) → not b ≡ false → b ≡ true
    go b h = grind arith

module _ (H : List Entry) (legal : Legal H) where
  -- a call that was made is none that is made now
  old_call : (k t n : ℕ) (call : CallParts) → Follows H (Given (Called k t call)) → is_called H n ≡ true → k ≡ n → ⊥
  unfolding Follows
  old_call k t n call follows called same =
      let below = called_below H legal n called in
      let next = (entered H k t call follows.1).1 in
      absurd (omega (arith, below, next, same))

  -- the last call of a thread, behind one more entry
  last_before : (e : Entry) → Follows H e → (t n : ℕ) → is_called H n ≡ true → last_call (H ++ e ∷ []) t ≡ Some n → last_call H t ≡ Some n
  last_before e follows t n called last = go e follows (sym (last_push H e t) ∙ last)
    where
      go : (e : Entry) → Follows H e → option_or (number_by t e) (last_call H t) ≡ Some n → last_call H t ≡ Some n
      go (Given (Called k caller call)) follows last = at (caller == t) last
        where
          at : (b : Bool) → option_or (if b then Some k else None) (last_call H t) ≡ Some n → last_call H t ≡ Some n
          at true is = absurd (old_call k caller n call follows called (same_Some _ _ is))
          at false is = is
      go (Given (At moment)) follows last = last
      go (Given (Opened thread space)) follows last = last
      go (Given (Exreg thread target control)) follows last = last
      go (Given (Broke thread)) follows last = last
      go (Given (Moved k count)) follows last = last
      go (Written output) follows last = last

  pub others_back : (e : Entry) → Follows H e → (taken : List ℕ) → TookOthers (H ++ e ∷ []) taken → TookOthers H taken
  others_back e follows taken others n called = elim (others n (is_called_kept H (e ∷ []) n called)) [
    | inl last ↦ inl (last_before e follows (caller_of H n) n called (ap (last_call (H ++ e ∷ [])) (sym (caller_of_kept H (e ∷ []) n called)) ∙ last))
    | inr among ↦ inr among
  ]

  -- what was surely taken was so behind one more entry
  pub sure_on : (e : Entry) → Follows H e → (n : ℕ) → IsSure H n → IsSure (H ++ e ∷ []) n
  sure_on e follows n sure taken others = sure taken (others_back e follows taken others)

  -- a call is the last one of its thread still, or was taken
  after_entry : (e : Entry) (taken : List ℕ) → ComesIdle H taken e → (t n : ℕ) → last_call H t ≡ Some n → (last_call (H ++ e ∷ []) t ≡ Some n) ⊎ (is_among n taken ≡ true)
  after_entry e taken idle t n last = go e idle (last_push H e t)
    where
      go : (e : Entry) → ComesIdle H taken e → last_call (H ++ e ∷ []) t ≡ option_or (number_by t e) (last_call H t) → (last_call (H ++ e ∷ []) t ≡ Some n) ⊎ (is_among n taken ≡ true)
      go (Given (Called k caller call)) idle push = at (caller == t) refl
        where
          at : (b : Bool) → (caller == t) ≡ b → (last_call (H ++ Given (Called k caller call) ∷ []) t ≡ Some n) ⊎ (is_among n taken ≡ true)
          at true is = inr (idle_taken H taken caller n idle (ap (last_call H) (eqb-true caller t is) ∙ last))
          at false is = inl (push ∙ rw is last)
      go (Given (At moment)) idle push = inl (push ∙ last)
      go (Given (Opened thread space)) idle push = inl (push ∙ last)
      go (Given (Exreg thread target control)) idle push = inl (push ∙ last)
      go (Given (Broke thread)) idle push = inl (push ∙ last)
      go (Given (Moved k count)) idle push = inl (push ∙ last)
      go (Written output) idle push = inl (push ∙ last)

  -- a call that is new is the last one of its thread
  entered_last : (e : Entry) (n : ℕ) → is_called H n ≡ false → calls n e ≡ true → last_call (H ++ e ∷ []) (caller_of (H ++ e ∷ []) n) ≡ Some n
  entered_last (Given (Called k t call)) n absent is = subst (λ m. last_call (H ++ Given (Called k t call) ∷ []) (caller_of (H ++ Given (Called k t call) ∷ []) m) ≡ Some m) (eqb-true k n is) here
    where
      fresh : is_called H k ≡ false
      fresh = subst (λ m. is_called H m ≡ false) (sym (eqb-true k n is)) absent

      caller : caller_of (H ++ Given (Called k t call) ∷ []) k ≡ t
      caller = caller_at (H ++ Given (Called k t call) ∷ []) k t call (new_call_at H k t call fresh)

      here : last_call (H ++ Given (Called k t call) ∷ []) (caller_of (H ++ Given (Called k t call) ∷ []) k) ≡ Some k
      here = ap (last_call (H ++ Given (Called k t call) ∷ [])) caller ∙ (last_push H (Given (Called k t call)) t ∙ rw (eq-eqb t t refl) refl)
  entered_last _ n absent is = absurd (false≢true is)

  pub others_push : (e : Entry) (taken : List ℕ) → ComesIdle H taken e → TookOthers H taken → TookOthers (H ++ e ∷ []) taken
  others_push e taken idle others n called = go (is_called H n) refl
    where
      go : (b : Bool) → is_called H n ≡ b → (last_call (H ++ e ∷ []) (caller_of (H ++ e ∷ []) n) ≡ Some n) ⊎ (is_among n taken ≡ true)
      go false absent = inl (entered_last e n absent (is_new H e n absent called))
      go true was = elim (others n was) [
        | inl last ↦ elim (after_entry e taken idle (caller_of H n) n last) [
          | inl still ↦ inl (ap (last_call (H ++ e ∷ [])) (caller_of_kept H (e ∷ []) n was) ∙ still)
          | inr among ↦ inr among
        ]
        | inr among ↦ inr among
      ]

  -- who calls has no open call, and behind the outcome of the call before is idle; that outcome was
  -- surely taken
  module _ (k t : ℕ) (call : CallParts) (follows : Follows H (Given (Called k t call))) (old new : List ℕ) (takes : TakesLast H t old new) where
    free : (is_live H t ≡ true) × (open_call H t ≡ None)
    unfolding Follows
    free = free_parts H t (entered H k t call follows.1).0

    pub caller_idle : is_busy H new t ≡ false
    unfolding is_busy
    caller_idle = go (last_call H t) refl
      where
        go : (o : Option ℕ) → last_call H t ≡ o → option_map_or (λ n. not (is_among n new)) (last_call H t) false ≡ false
        go None last = rw last refl
        go (Some n) last =
            let is = last_is H legal t n last in
            let over : is_over H n ≡ true = none_open H n is.1 (ap (open_call H) is.0 ∙ free.1) in
            let among : is_among n new ≡ true = takes.all n last over in
            rw (last, among) refl

    surely : (n : ℕ) → last_call H t ≡ Some n → IsSure (H ++ Given (Called k t call) ∷ []) n
    surely n last taken others =
        let is = last_is H legal t n last in
        elim (others n (is_called_kept H (Given (Called k t call) ∷ []) n is.1)) [
          | inr among ↦ among
          | inl still ↦ absurd (old_call k t n call follows is.1 (same_Some _ _ (sym pushed ∙ (ap (last_call (H ++ Given (Called k t call) ∷ [])) (sym (caller_of_kept H (Given (Called k t call) ∷ []) n is.1 ∙ is.0)) ∙ still))))
        ]
      where
        pushed : last_call (H ++ Given (Called k t call) ∷ []) t ≡ Some k
        pushed = last_push H (Given (Called k t call)) t ∙ rw (eq-eqb t t refl) refl

    pub caller_sure : TakesSure (H ++ Given (Called k t call) ∷ []) old new
    caller_sure = record {
      more = takes.more;
      sure = λ n among. elim (takes.only n among) [ inl was ↦ inl was | inr last ↦ inr (surely n last) ];
    }

pub nothing_sure : (H : List Entry) (taken : List ℕ) → TakesSure H taken taken
nothing_sure H taken = record { more = λ n among. among; sure = λ n among. inl among }
