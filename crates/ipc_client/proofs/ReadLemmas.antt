-- What was taken of a port, part by part, is a frame or the front of one.
use Rattle.std.proofs.Common.{◌≡◌, ◌≢◌, ℕ, ◌≤◌, List, [], ◌++◌, Option, Result, Ok, Err, IfOk, IfErr}
use Rattle.std.proofs.Common.{IsOk, is_err, true, OnOk, length, take, drop, sym, ap, subst, ◌∙◌, arith}
use Rattle.std.proofs.lemmas.List.{append-nil, drop_all}
use Rattle.std.proofs.Math.Seq.{take-append_seam, drop-append_seam}
use Rattle.ipc_base.proofs.Giving.{gives_then}
use Rattle.ipc_base.specs.Ports.{Gives, Input}
use Rattle.ipc_frame.specs.declared.fault.FrameFault.{FrameFault}
use Rattle.ipc_frame.specs.declared.fault.FrameFault.TheVariants as fault
use Rattle.ipc_frame.specs.declared.frame.Frame.{Frame}
use Rattle.ipc_frame.specs.declared.kind.Side.{Side}
use Rattle.ipc_frame.specs.Numbers.{IsBytes}
use Rattle.ipc_frame.specs.Frames.{spelling}
use Rattle.ipc_frame.specs.Reading.{Reading, Short, Bad, Whole, reading}
use Rattle.ipc_frame.proofs.FaultLemmas.{IsFormatFault, bad_formats}
use Rattle.ipc_frame.proofs.NumberLemmas.{bytes_drop, bytes_take}
use Rattle.ipc_frame.proofs.EndLemmas.{ends_exactly}
use Rattle.ipc_frame.proofs.FoundLemmas.{reading_begins, whole_within}
use Rattle.ipc_client.specs.Devices.{IsDeviceFault}
use Rattle.ipc_client.specs.Reading.{ShowsFault, TakesFrame, TakesNoFrame, TakesNoPart}

-- a frame that bytes begin with ends with them
abbrev pub IsTight : Side → List ℕ → Type 0
IsTight side bytes = IsBytes bytes → (f : Frame) (n : ℕ) → reading side bytes ≡ Whole f n → n ≡ length bytes

pub tight_start : (side : Side) (bytes : List ℕ) → length bytes ≡ 0 → IsTight side bytes
tight_start side bytes none are f n whole =
    let within = whole_within side bytes f n whole in
    absurd (omega (arith, within.0, within.1, none))

pub tight_more : (side : Side) (before after part : List ℕ) (wanted : ℕ) → after ≡ before ++ part
    → length part ≤ wanted → reading side before ≡ Short wanted → IsTight side after
tight_more side before after part wanted joined few short are f n whole =
    let front : take (length before) after ≡ before = ap (take (length before)) joined ∙ take-append_seam before part in
    let back : drop (length before) after ≡ part = ap (drop (length before)) joined ∙ drop-append_seam before part in
    let whole2 : reading side (before ++ part) ≡ Whole f n = ap (reading side) (sym joined) ∙ whole in
    ends_exactly side before part wanted f n
    (subst IsBytes front (bytes_take (length before) after are))
    (subst IsBytes back (bytes_drop (length before) after are)) short few whole2
    ∙ ap length (sym joined)

-- a whole frame
pub whole_taken : (side : Side) (a b : Input) (bytes : List ℕ) (f : Frame) (n : ℕ)
    → IsBytes bytes → Gives a b bytes → IsTight side bytes → reading side bytes ≡ Whole f n
    → TakesFrame side a b f
whole_taken side a b bytes f n are taken tight whole =
    let begins = reading_begins side bytes f n are whole in
    let none : drop n bytes ≡ [] = drop_all n bytes (omega (arith, tight are f n whole)) in
    let same : spelling f ≡ bytes = sym (append-nil (spelling f)) ∙ (ap (λ xs. spelling f ++ xs) (sym none) ∙ begins.text) in
    record { is = begins.is; side_is = begins.side_is; taken = subst (Gives a b) (sym same) taken }

format_shows : (shown : FrameFault) (r : Reading) (new : Option (List ℕ)) → IsFormatFault shown
    → r ≡ Bad shown → ShowsFault shown r new
format_shows fault.TooLong r new h bad = bad
format_shows fault.UnknownKind r new h bad = bad
format_shows fault.WrongSize r new h bad = bad
format_shows fault.TooManyWords r new h bad = bad
format_shows fault.UnknownVersion r new h bad = bad
format_shows fault.PastWords r new h bad = bad
format_shows fault.ReservedBit r new h bad = bad
format_shows fault.OutsidePayload r new h bad = bad
format_shows fault.TooManyBytes r new h bad = bad
format_shows fault.Unfinished r new h bad = absurd h
format_shows fault.Device r new h bad = absurd h
format_shows fault.Interrupted r new h bad = absurd h
format_shows fault.TimePoint r new h bad = bad
format_shows fault.Spent r new h bad = bad
format_shows fault.NoMemory r new h bad = tt

no_device : (shown : FrameFault) → IsFormatFault shown → IsDeviceFault shown → ⊥
no_device fault.Device h k = h
no_device fault.Interrupted h k = h
no_device _ h k = k

-- bytes that show a fault
pub bad_taken : (side : Side) (a b : Input) (bytes : List ℕ) (shown : FrameFault)
    → Gives a b bytes → reading side bytes ≡ Bad shown → TakesNoFrame side a b shown
bad_taken side a b bytes shown taken bad = (bytes, taken, format_shows shown _ b.left (bad_formats side bytes shown bad) bad)

-- which is none of the device
pub bad_is_no_device : (side : Side) (bytes : List ℕ) (shown : FrameFault)
    → reading side bytes ≡ Bad shown → IsDeviceFault shown → ⊥
bad_is_no_device side bytes shown bad = no_device shown (bad_formats side bytes shown bad)

-- nor want of memory
pub bad_is_memory : (side : Side) (bytes : List ℕ) (shown : FrameFault)
    → reading side bytes ≡ Bad shown → shown ≢ fault.NoMemory
bad_is_memory side bytes shown bad none = subst IsFormatFault none (bad_formats side bytes shown bad)

-- bytes of which the next part does not come
nothing_more : (a b c : Input) (bytes : List ℕ) → Gives a b bytes → Gives b c [] → Gives a c bytes
nothing_more a b c bytes taken none = subst (Gives a c) (append-nil bytes) (gives_then a b c bytes [] taken none)

pub part_missing : (side : Side) (a b c : Input) (bytes : List ℕ) (wanted : ℕ)
    (shown : FrameFault) → Gives a b bytes → reading side bytes ≡ Short wanted
    → TakesNoPart b c shown → TakesNoFrame side a c shown
part_missing side a b c bytes wanted fault.Unfinished taken short h =
    (bytes, nothing_more a b c bytes taken h.0, ((wanted, short), h.1))
part_missing side a b c bytes wanted fault.Device taken short h = (bytes, nothing_more a b c bytes taken h, (wanted, short))
part_missing side a b c bytes wanted fault.Interrupted taken short h = (bytes, nothing_more a b c bytes taken h, (wanted, short))
part_missing side a b c bytes wanted fault.NoMemory taken short h = (bytes ++ h.0, gives_then a b c bytes h.0 taken h.1, tt)
part_missing side a b c bytes wanted _ taken short h = absurd h

-- no memory
pub memory_missing : (side : Side) (a b : Input) (bytes : List ℕ) (shown : FrameFault)
    → Gives a b bytes → shown ≡ fault.NoMemory → TakesNoFrame side a b shown
memory_missing side a b bytes shown taken none = rw none (bytes, taken, tt)

pub memory_is_no_device : (shown : FrameFault) → shown ≡ fault.NoMemory → IsDeviceFault shown → ⊥
memory_is_no_device shown none h = subst IsDeviceFault none h

-- a result that says one thing says what follows from it
pub if_ok : {A E : Type 0} (P Q : A → Type 0) (r : Result A E) → ((a : A) → P a → Q a) → IfOk r P → IfOk r Q
if_ok P Q (Ok a) f h = f a h
if_ok P Q (Err e) f h = tt

pub if_err : {A E : Type 0} (P Q : E → Type 0) (r : Result A E) → ((e : E) → P e → Q e) → IfErr r P → IfErr r Q
if_err P Q (Ok a) f h = tt
if_err P Q (Err e) f h = f e h

pub ok_has_no_err : {A E : Type 0} (r : Result A E) (P : E → Type 0) → IsOk r → IfErr r P
ok_has_no_err (Ok a) P h = tt
ok_has_no_err (Err e) P h = absurd (cc)

pub ok_is_no_err : {A E : Type 0} (r : Result A E) → IsOk r → is_err r ≡ true → ⊥
ok_is_no_err (Ok a) h k = absurd (cc)
ok_is_no_err (Err e) h k = absurd (cc)

pub on_ok : {A E X : Type 0} (r : Result A E) → X → OnOk r X
on_ok (Ok a) x = x
on_ok (Err e) x = tt
