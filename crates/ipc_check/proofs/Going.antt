-- What a history that goes on holds, and where the entries that a checker is given stop to be
-- legal.
use Rattle.std.proofs.lemmas.Bool.{false≢true}
use Rattle.std.proofs.lemmas.List.{take-append-le, take_all}
use lib.Seq.{take-append_seam}
use Rattle.std.proofs.lemmas.List.Elements.{All-head, All-push, All-set, All-weaker, Contains-append_left}
use Rattle.std.proofs.Common.{◌≡◌, refl, sym, ap, ◌∙◌, subst, append-nil, append_assoc, ℕ, zero, suc, ◌+◌, ◌<◌, slice_index_or, slice_set, Bool, true, false, eqb-true, List, [], ◌∷◌, ◌++◌, length, length-append, take, Option, Some, None, is_some, Result, Ok, Err, OnOk, OnErr, All, Contains, if◌then◌else◌, arith}
use Rattle.std.specs.Bool.{OnTrue}
use Rattle.std.specs.Prelude.{◌↔◌, not}
use Rattle.std.specs.Option.{option_or}
use Rattle.ipc_words.specs.ThreadId.{number_of}
use Rattle.ipc_history.specs.CallParts.{CallParts}
use Rattle.ipc_history.specs.Calls.{call_at, caller_of, is_called}
use Rattle.ipc_history.specs.Entries.{call_in, calls, number_in}
use Rattle.ipc_history.specs.Holding.{Holds}
use Rattle.ipc_history.specs.Legal.{Follows, Legal}
use Rattle.ipc_history.specs.NextOutput.{next_output}
use Rattle.ipc_history.specs.Phases.{is_over}
use Rattle.ipc_history.specs.Words.{first_some}
use Rattle.ipc_history.specs.declared.entry.Entry.{Entry}
use Rattle.ipc_history.specs.declared.entry.Entry.TheVariants.{Given, Written}
use Rattle.ipc_history.specs.declared.entry.Input.TheVariants.{At, Opened, Called, Exreg, Broke, Moved}
use Rattle.ipc_history.specs.declared.entry.Output.{Output}
use Rattle.ipc_history.proofs.EnteredOnce.{entered_once, silent_call}
use Rattle.ipc_history.proofs.HoldingLemmas.{first_among, pushed_holds, second_among}
use Rattle.ipc_laws.proofs.Histories.{follows_last}
use Rattle.ipc_laws.proofs.OneOpen.{caller_at}
use Rattle.ipc_laws.proofs.Steps.{call_at_push}
use Rattle.ipc_threads.specs.PastSlots.{PastSlots}
use Rattle.ipc_threads.specs.Slot.{Slot}
use Rattle.ipc_threads.specs.Slots.{slot_at, slot_of}
use Rattle.ipc_threads.specs.Steps.{holds}
use Rattle.ipc_threads.proofs.Holders.{held_somewhere}
use Rattle.ipc_check.specs.Faults.{HasFaultAt, IfNo, IsFirstFault}
use Rattle.ipc_check.specs.Ongoing.{IsJudged, IsJudgment, IsOngoing, IsSpare, is_held_call, max_given}
use Rattle.ipc_check.specs.declared.checker.Verdict.{Verdict}
use Rattle.ipc_check.specs.declared.checker.Verdict.TheVariants.{Yes, No}
use Rattle.ipc_check.proofs.Walks.{fault_whole, no_is_not_yes}

-- an entry that enters no call need not be held
pub passed_holds : (P held : List Entry) (e : Entry) → number_in e ≡ None → Holds P held → Holds (P ++ e ∷ []) held
unfolding is_called
passed_holds P held e none holds = record {
  among = All-weaker (Contains P) (Contains (P ++ e ∷ [])) (λ x h. Contains-append_left P (e ∷ []) x h) held holds.among;
  called = λ n opened. ap is_some (sym (call_at_push held e none n)) ∙ (pushed_holds P held e holds).called n opened;
}

some_first : (n : ℕ) (e : Entry) (call : Option (ℕ × CallParts)) → calls n e ≡ true → is_some (option_or (call_in n e) call) ≡ true
some_first n (Given (Called k t c)) call is = rw is refl
some_first n (Given (At moment)) call is = absurd (false≢true is)
some_first n (Given (Opened thread space)) call is = absurd (false≢true is)
some_first n (Given (Exreg thread target control)) call is = absurd (false≢true is)
some_first n (Given (Broke thread)) call is = absurd (false≢true is)
some_first n (Given (Moved k count)) call is = absurd (false≢true is)
some_first n (Written output) call is = absurd (false≢true is)

-- a call that is held stays so behind another entry
later_called : (n : ℕ) (e : Entry) (rest : List Entry) → is_called rest n ≡ true → is_called (e ∷ rest) n ≡ true
unfolding is_called call_at
later_called n e rest is = go (calls n e) refl
  where
    go : (b : Bool) → calls n e ≡ b → is_some (first_some (call_in n) (e ∷ rest)) ≡ true
    go true enters = some_first n e (first_some (call_in n) rest) enters
    go false none = rw (silent_call n e none) is

-- an entry that does not enter it does not matter
only_later : (n : ℕ) (e : Entry) (rest : List Entry) → calls n e ≡ false → is_called (e ∷ rest) n ≡ true → is_called rest n ≡ true
unfolding is_called call_at
only_later n e rest none is = rw (silent_call n e none) at is

first_called : (n : ℕ) (e : Entry) (rest : List Entry) → calls n e ≡ true → is_called (e ∷ rest) n ≡ true
unfolding is_called call_at
first_called n e rest enters = some_first n e (first_some (call_in n) rest) enters

-- the last entry may stand before the others
moved_called : (n : ℕ) (e : Entry) (rest : List Entry) → is_called (rest ++ e ∷ []) n ≡ true → is_called (e ∷ rest) n ≡ true
moved_called n e [] is = is
moved_called n e (x ∷ rest) is = go (λ silent. moved_called n e rest (only_later n x (rest ++ e ∷ []) silent is)) (calls n e) refl (calls n x) refl
  where
    go : (calls n x ≡ false → is_called (e ∷ rest) n ≡ true) → (b : Bool) → calls n e ≡ b → (c : Bool) → calls n x ≡ c → is_called (e ∷ x ∷ rest) n ≡ true
    go again true enters c is_c = first_called n e (x ∷ rest) enters
    go again false none true enters = later_called n e (x ∷ rest) (first_called n x rest enters)
    go again false none false silent = later_called n e (x ∷ rest) (later_called n x rest (only_later n e rest none (again silent)))

-- the last entry may stand instead of one that does not enter it
set_called : (n : ℕ) (e : Entry) (held : List Entry) (place : ℕ) → place < length held → ((d : Entry) → calls n (slice_index_or held place d) ≡ false)
    → is_called (held ++ e ∷ []) n ≡ true → is_called (slice_set held place e) n ≡ true
set_called n e [] place within silent is = absurd (omega (arith, within))
set_called n e (x ∷ held) zero within silent is = moved_called n e held (only_later n x (held ++ e ∷ []) (silent x) is)
set_called n e (x ∷ held) (suc place) within silent is =
    go (λ none. set_called n e held place (omega (arith, within)) silent (only_later n x (held ++ e ∷ []) none is)) (calls n x) refl
  where
    go : (calls n x ≡ false → is_called (slice_set held place e) n ≡ true) → (b : Bool) → calls n x ≡ b → is_called (x ∷ slice_set held place e) n ≡ true
    go again true enters = first_called n x (slice_set held place e) enters
    go again false none = later_called n x (slice_set held place e) (again none)

-- an entry takes the place of one that enters no open call
pub set_holds : (P held : List Entry) (place : ℕ) (e : Entry) → IsSpare P held place → Holds P (held ++ e ∷ []) → Holds P (slice_set held place e)
set_holds P held place e spare holds = record {
  among = All-set (Contains P) held place e (All-head (Contains P) e [] (second_among P held (e ∷ []) holds)) (first_among P held (e ∷ []) holds);
  called = λ n opened. set_called n e held place spare.within (spare.silent n opened) (holds.called n opened);
}

nothing_called : (n : ℕ) → is_called [] n ≡ true → ⊥
unfolding is_called call_at
nothing_called n is = false≢true is

-- a call that is held stays so before another entry
called_before : (n : ℕ) (rest : List Entry) (e : Entry) → is_called rest n ≡ true → is_called (rest ++ e ∷ []) n ≡ true
called_before n [] e is = absurd (nothing_called n is)
called_before n (x ∷ rest) e is = go (λ none. called_before n rest e (only_later n x rest none is)) (calls n x) refl
  where
    go : (calls n x ≡ false → is_called (rest ++ e ∷ []) n ≡ true) → (b : Bool) → calls n x ≡ b → is_called (x ∷ rest ++ e ∷ []) n ≡ true
    go again true enters = first_called n x (rest ++ e ∷ []) enters
    go again false none = later_called n x (rest ++ e ∷ []) (again none)

-- a copy of an entry of the past may be held too
pub copy_holds : (P held : List Entry) (e : Entry) → Contains P e → Holds P held → Holds P (held ++ e ∷ [])
copy_holds P held e inside all = record {
  among = All-push (Contains P) held e all.among inside;
  called = λ n opened. called_before n held e (all.called n opened);
}

pub pushed_copy : (P held : List Entry) (e : Entry) (b : Bool) → Contains P e → Holds P held → Holds P (if b then held ++ e ∷ [] else held)
pushed_copy P held e true inside all = copy_holds P held e inside all
pushed_copy P held e false inside all = all

-- a copy of an entry takes the place of one that enters no open call
pub replaced : (P view held items : List Entry) (slots : PastSlots) (place : ℕ) (copy e : Entry) → IsOngoing P slots held → P ≡ view → copy ≡ e → Contains view e → items ≡ held
    → IsSpare slots.past items place → IsOngoing P slots (slice_set held place copy)
replaced P view held items slots place copy e was seen same inside all spare =
    let among : Contains P copy = subst (λ l. Contains l copy) (sym seen) (subst (Contains view) (sym same) inside) in
    let here : IsSpare P held place = subst (λ l. IsSpare l held place) was.told (subst (λ l. IsSpare slots.past l place) all spare) in
    record { told = was.told; holds = set_holds P held place copy here (copy_holds P held copy among was.holds) }

-- the slot of its caller holds an open call
pub open_is_held : (P : List Entry) → Legal P → (table : List Slot) → ((k : ℕ) → slot_at table k ≡ slot_of P k) → (n : ℕ) (e : Entry) → is_over P n ≡ false → Contains P e → calls n e ≡ true → is_held_call table e ≡ true
open_is_held P legal table are n (Given (Called k t c)) opened (place, within, at) is =
    let e = Given (Called k t c) in
    let number : k ≡ n = eqb-true k n is in
    let found : call_at P n ≡ call_in n e = entered_once P legal n place within e (ap (calls n) at ∙ is) ∙ ap (call_in n) at in
    let some : call_in n e ≡ Some (t, c) = rw is refl in
    let caller : caller_of P n ≡ t = caller_at P n t c (found ∙ some) in
    ap (holds (slot_at table (number_of t))) number ∙ subst (λ caller. holds (slot_at table (number_of caller)) n ≡ true) caller (held_somewhere P legal table are n opened)
open_is_held P legal table are n (Given (At moment)) opened inside is = absurd (false≢true is)
open_is_held P legal table are n (Given (Opened thread space)) opened inside is = absurd (false≢true is)
open_is_held P legal table are n (Given (Exreg thread target control)) opened inside is = absurd (false≢true is)
open_is_held P legal table are n (Given (Broke thread)) opened inside is = absurd (false≢true is)
open_is_held P legal table are n (Given (Moved k count)) opened inside is = absurd (false≢true is)
open_is_held P legal table are n (Written output) opened inside is = absurd (false≢true is)

-- an entry that no slot holds enters no open call
pub spare_is : (P held : List Entry) (place : ℕ) (e : Entry) → Legal P → (table : List Slot) → ((k : ℕ) → slot_at table k ≡ slot_of P k) → All (Contains P) held
    → place < length held → ((d : Entry) → slice_index_or held place d ≡ e) → is_held_call table e ≡ false → IsSpare P held place
spare_is P held place e legal table are among within at free = record {
  within = within;
  silent = λ n opened d. rw (at d) (silent n opened (calls n e) refl);
}
  where
    inside : Contains P e
    inside = subst (Contains P) (at e) (among place e within)

    silent : (n : ℕ) → is_over P n ≡ false → (b : Bool) → calls n e ≡ b → calls n e ≡ false
    silent n opened true enters = absurd (false≢true (sym free ∙ open_is_held P legal table are n e opened inside enters))
    silent n opened false none = none

pub if_not : (Q : Type 0) (b : Bool) → (b ≡ false → Q) → OnTrue (not b) Q
if_not Q true f = tt
if_not Q false f = f refl

-- an entry that does not follow is the first fault
pub fault_here : (P : List Entry) (e : Entry) (expected : Option Output) → Legal P → (Follows P e → ⊥) → expected ≡ next_output P → IsFirstFault (P ++ e ∷ []) (length P) expected
fault_here P e expected legal refused told = record {
  within = omega (arith, length-append P (e ∷ []));
  before = rw (take-append_seam P (e ∷ [])) legal;
  fault = λ whole. refused (follows_last P e (subst Legal (take_all (length P + 1) (P ++ e ∷ []) (omega (arith, length-append P (e ∷ [])))) whole));
  told = told ∙ ap next_output (sym (take-append_seam P (e ∷ [])));
}

-- and stays so
pub fault_stays : (H : List Entry) (e : Entry) (index : ℕ) (expected : Option Output) → IsFirstFault H index expected → IsFirstFault (H ++ e ∷ []) index expected
fault_stays H e index expected fault =
    let within = fault.within in
    let before : take index (H ++ e ∷ []) ≡ take index H = take-append-le index H (e ∷ []) (omega (arith, within)) in
    let upto : take (index + 1) (H ++ e ∷ []) ≡ take (index + 1) H = take-append-le (index + 1) H (e ∷ []) (omega (arith, within)) in
    record {
      within = omega (arith, within, length-append H (e ∷ []));
      before = subst Legal (sym before) fault.before;
      fault = λ legal. fault.fault (subst Legal upto legal);
      told = fault.told ∙ ap next_output (sym before);
    }

-- one more entry behind the rest, and behind the front where there is no rest
pub given_behind : (front rest new : List Entry) (e : Entry) → new ≡ rest ++ e ∷ [] → front ++ new ≡ (front ++ rest) ++ e ∷ []
given_behind front rest new e is = ap (λ l. front ++ l) is ∙ sym (append_assoc front rest (e ∷ []))

pub no_rest : (front rest : List Entry) → rest ≡ [] → front ++ rest ≡ front
no_rest front rest none = ap (λ l. front ++ l) none ∙ append-nil front

pub rest_is : (front rest : List Entry) (verdict : Verdict) → verdict ≡ Yes → IsJudgment front rest verdict → rest ≡ []
rest_is front rest verdict told_yes judged = subst (IsJudgment front rest) told_yes judged

pub given_in_front : (front new rest : List Entry) (count : ℕ) (verdict : Verdict) (e : Entry) → verdict ≡ Yes → IsJudged front rest count verdict → new ≡ front ++ e ∷ []
    → new ++ rest ≡ (front ++ rest) ++ e ∷ []
given_in_front front new rest count verdict e told_yes judged is =
    let none = rest_is front rest verdict told_yes judged.judged in
    no_rest new rest none ∙ (is ∙ ap (λ l. l ++ e ∷ []) (sym (no_rest front rest none)))

one_longer : (before after : List Entry) (e : Entry) (count : ℕ) → count ≡ length before → after ≡ before ++ e ∷ [] → count + 1 ≡ length after
one_longer before after e count was is = omega (arith, was, ap length is, length-append before (e ∷ []))

-- an entry that follows keeps the front legal
pub judged_on : (front new rest : List Entry) (count : ℕ) (verdict : Verdict) (e : Entry) → verdict ≡ Yes → IsJudged front rest count verdict → count < max_given → new ≡ front ++ e ∷ []
    → IsJudged new rest (count + 1) verdict
judged_on front new rest count verdict e told_yes judged few is = record {
  counted = one_longer (front ++ rest) (new ++ rest) e count judged.counted (given_in_front front new rest count verdict e told_yes judged is);
  few = omega (arith, few);
  judged = subst (IsJudgment new rest) (sym told_yes) (rest_is front rest verdict told_yes judged.judged);
}

-- one that does not is the first fault
pub judged_fault : (front rest new : List Entry) (count : ℕ) (verdict : Verdict) (e : Entry) (expected : Option Output) → verdict ≡ Yes → IsJudged front rest count verdict → count < max_given
    → Legal front → (Follows front e → ⊥) → expected ≡ next_output front → new ≡ rest ++ e ∷ [] → IsJudged front new (count + 1) (No count expected)
judged_fault front rest new count verdict e expected told_yes judged few legal refused told is =
    let none = rest_is front rest verdict told_yes judged.judged in
    let all : front ++ new ≡ front ++ e ∷ [] = given_behind front rest new e is ∙ ap (λ l. l ++ e ∷ []) (no_rest front rest none) in
    let place : length front ≡ count = ap length (sym (no_rest front rest none)) ∙ sym judged.counted in
    record {
      counted = one_longer (front ++ rest) (front ++ new) e count judged.counted (given_behind front rest new e is);
      few = omega (arith, few);
      judged = subst (λ i. IsFirstFault (front ++ new) i expected) place (subst (λ l. IsFirstFault l (length front) expected) (sym all) (fault_here front e expected legal refused told));
    }

-- and stays so, whatever comes behind it
pub judged_behind : (front rest new : List Entry) (count : ℕ) (verdict : Verdict) (e : Entry) (index : ℕ) (expected : Option Output) → verdict ≡ No index expected
    → IsJudged front rest count verdict → count < max_given → new ≡ rest ++ e ∷ [] → IsJudged front new (count + 1) verdict
judged_behind front rest new count verdict e index expected told_no judged few is =
    let all = given_behind front rest new e is in
    let fault = subst (IsJudgment front rest) told_no judged.judged in
    record {
      counted = one_longer (front ++ rest) (front ++ new) e count judged.counted all;
      few = omega (arith, few);
      judged = subst (IsJudgment front new) (sym told_no) (subst (λ l. IsFirstFault l index expected) (sym all) (fault_stays (front ++ rest) e index expected fault));
    }

-- where nothing was appended all is as it was
pub judged_still : (front new rest : List Entry) (count : ℕ) (verdict : Verdict) → IsJudged front rest count verdict → new ≡ front → IsJudged new rest count verdict
judged_still front new rest count verdict judged same = subst (λ l. IsJudged l rest count verdict) (sym same) judged

pub same_front : (front new rest : List Entry) → new ≡ front → new ++ rest ≡ front ++ rest
same_front front new rest same = ap (λ l. l ++ rest) same

-- what is judged is what is told
pub yes_is_legal : (front rest : List Entry) (verdict : Verdict) → Legal front → IsJudgment front rest verdict → (verdict ≡ Yes) ↔ Legal (front ++ rest)
yes_is_legal front rest Yes legal none = ((λ told_yes. subst Legal (sym (no_rest front rest none)) legal), (λ whole. refl))
yes_is_legal front rest (No index expected) legal fault =
    ((λ told_yes. absurd (no_is_not_yes index expected told_yes)), (λ whole. absurd (fault_whole (front ++ rest) index expected fault whole)))

pub fault_at : (front rest : List Entry) (verdict : Verdict) (index : ℕ) (expected : Option Output) → verdict ≡ No index expected → IsJudgment front rest verdict → HasFaultAt (front ++ rest) index
fault_at front rest verdict index expected told_no judged = (expected, subst (IsJudgment front rest) told_no judged)

pub no_is_fault : (front rest : List Entry) (verdict : Verdict) → IsJudgment front rest verdict → IfNo verdict (IsFirstFault (front ++ rest))
no_is_fault front rest Yes none = tt
no_is_fault front rest (No index expected) fault = fault

-- what follows where a call went well, and where it did not
pub where_ok : {X E : Type 0} {P Q : Type 0} (result : Result X E) → (P → Q) → OnOk result P → OnOk result Q
where_ok (Ok x) f p = f p
where_ok (Err e) f p = tt

pub where_err : {X E : Type 0} {P Q : Type 0} (result : Result X E) → (P → Q) → OnErr result P → OnErr result Q
where_err (Ok x) f p = tt
where_err (Err e) f p = f p
