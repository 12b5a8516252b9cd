-- Laws of the words: a word and its fields determine each other, and what follows for the values
-- made of them.
use Rattle.std.specs.Prelude.{ℕ, ◌-◌, ◌*◌, ◌%◌, ◌^◌, ◌<◌, ◌≤◌, ◌≡◌, ◌≢◌, ◌↔◌, Bool, false, Some, IsTrue, IsNone, IfSome}
use Rattle.ipc_words.specs.ThreadId.{number_of, version_of, id_of, IsGlobal}
use Rattle.ipc_words.specs.ThreadIdKind.{kind_of}
use Rattle.ipc_words.specs.MsgTag.{untyped_of, typed_of, propagates, redirects, crosses, has_failed, label_of}
use Rattle.ipc_words.specs.TagFields.{tag_of, fields_of, FitsTag, received_tag}
use Rattle.ipc_words.specs.Time.{span, period_of, exponent_of, mantissa_of, longest_span}
use Rattle.ipc_words.specs.Timeouts.{timeouts_of, receive_time, send_time, receive_period, send_period}
use Rattle.ipc_words.specs.ErrorCode.{error_code, phase_bit, code_of, offset_of}
use Rattle.ipc_words.specs.IpcError.{bit_of_phase, code_of_kind, phase_of, kind_of_code}
use Rattle.ipc_words.specs.Control.{stops_receive, stops_send, is_masked, control_of, masked_of}
use Rattle.ipc_words.specs.Version.{next_version_of}
use Rattle.ipc_words.specs.declared.tag_fields.TagFields.{TagFields}
use Rattle.ipc_words.specs.declared.thread_id.ThreadIdKind.TheVariants.{Global}
use Rattle.ipc_words.specs.declared.ipc_error.Phase.{Phase}
use Rattle.ipc_words.specs.declared.ipc_error.ErrorKind.{ErrorKind}

-- a tag's word is the sum of its fields, each at its place
abbrev pub TagIsSumOfFields : Type 0
TagIsSumOfFields = (tag : ℕ) → tag_of (fields_of tag) ≡ tag

-- the fields that a tag was made of are read back
abbrev pub FieldsOfTagReadBack : Type 0
FieldsOfTagReadBack = (fields : TagFields) → FitsTag fields → fields_of (tag_of fields) ≡ fields

-- a received tag has u and the label of the sent one, t and p as given, and no other flag
pub record IsReceivedTag (sent t : ℕ) (p : Bool) (tag : ℕ) : Type 0 where
  pub untyped : untyped_of tag ≡ untyped_of sent
  pub typed : typed_of tag ≡ t
  pub propagated : propagates tag ≡ p
  pub redirected : redirects tag ≡ false
  pub crossed : crosses tag ≡ false
  pub failed : has_failed tag ≡ false
  pub label : label_of tag ≡ label_of sent

abbrev pub ReceivedTagReadsBack : Type 0
ReceivedTagReadsBack =
    (sent t : ℕ) (p : Bool) → t < 2 ^ 6 → IsReceivedTag sent t p (received_tag sent t p)

-- a thread id is the sum of its version and its number, each at its place
abbrev pub IdIsSumOfFields : Type 0
IdIsSumOfFields = (id : ℕ) → id_of (number_of id) (version_of id) ≡ id

abbrev pub FieldsOfIdReadBack : Type 0
FieldsOfIdReadBack =
    (number version : ℕ) → version < 2 ^ 32
    → (number_of (id_of number version) ≡ number) × (version_of (id_of number version) ≡ version)

-- the ids of kind global are those that a number and a version make
abbrev pub GlobalIdIsGlobal : Type 0
GlobalIdIsGlobal =
    (number version : ℕ) → version < 2 ^ 32 → IsGlobal number version → kind_of (id_of number version) ≡ Global number version

abbrev pub GlobalKindIsOfGlobalId : Type 0
GlobalKindIsOfGlobalId =
    (id number version : ℕ) → kind_of id ≡ Global number version → (id ≡ id_of number version) × IsGlobal number version

-- a period is the sum of its mantissa and its exponent, each at its place
abbrev pub PeriodIsSumOfFields : Type 0
PeriodIsSumOfFields = (period : ℕ) → period_of (exponent_of period) (mantissa_of period) ≡ period

abbrev pub FieldsOfPeriodReadBack : Type 0
FieldsOfPeriodReadBack =
    (e m : ℕ) → m < 2 ^ 10 → (exponent_of (period_of e m) ≡ e) × (mantissa_of (period_of e m) ≡ m)

-- a period that is not never lasts 2^e * m microseconds, only never has no span, and none lasts
-- longer than the longest
abbrev pub SpanOfPeriod : Type 0
SpanOfPeriod =
    (e m : ℕ) → m < 2 ^ 10 → period_of e m ≢ 0 → span (period_of e m) ≡ Some (2 ^ e * m)

abbrev pub OnlyNeverHasNoSpan : Type 0
OnlyNeverHasNoSpan = (period : ℕ) → IsNone (span period) ↔ (period ≡ 0)

abbrev pub SpanIsBounded : Type 0
SpanIsBounded = (period : ℕ) → period < 2 ^ 15 → IfSome (span period) (λ micros. micros ≤ longest_span)

-- a word of timeouts is the sum of its two times, each at its place
abbrev pub TimeoutsAreSumOfTimes : Type 0
TimeoutsAreSumOfTimes = (timeouts : ℕ) → timeouts_of (receive_time timeouts) (send_time timeouts) ≡ timeouts

abbrev pub TimesOfTimeoutsReadBack : Type 0
TimesOfTimeoutsReadBack =
    (receive send : ℕ) → receive < 2 ^ 16
    → (receive_time (timeouts_of receive send) ≡ receive)
    × (send_time (timeouts_of receive send) ≡ send)

-- two periods are read back as they were put in
abbrev pub PeriodsOfTimeoutsReadBack : Type 0
PeriodsOfTimeoutsReadBack =
    (receive send : ℕ) → receive < 2 ^ 15 → send < 2 ^ 15
    → (receive_period (timeouts_of receive send) ≡ Some receive)
    × (send_period (timeouts_of receive send) ≡ Some send)

-- an error code is the sum of p, e and the offset, each at its place
abbrev pub ErrorIsSumOfFields : Type 0
ErrorIsSumOfFields = (error : ℕ) → error_code (phase_bit error) (code_of error) (offset_of error) ≡ error

abbrev pub FieldsOfErrorReadBack : Type 0
FieldsOfErrorReadBack =
    (p e offset : ℕ) → p < 2 → e < 2 ^ 3
    → (phase_bit (error_code p e offset) ≡ p)
    × (code_of (error_code p e offset) ≡ e)
    × (offset_of (error_code p e offset) ≡ offset)

-- the phase and what went wrong in it are read back
abbrev pub PhaseAndKindReadBack : Type 0
PhaseAndKindReadBack =
    (phase : Phase) (kind : ErrorKind) (offset : ℕ) →
    (phase_of (error_code (bit_of_phase phase) (code_of_kind kind) offset) ≡ phase)
    × (kind_of_code (code_of (error_code (bit_of_phase phase) (code_of_kind kind) offset))
    ≡ Some kind)

-- a masked control has the bits R and S of the control, and no other
abbrev pub MaskedControlKeepsBits : Type 0
MaskedControlKeepsBits =
    (control : ℕ)
    → (stops_receive (masked_of control) ≡ stops_receive control)
    × (stops_send (masked_of control) ≡ stops_send control)

abbrev pub MaskedControlHasNoOtherBit : Type 0
MaskedControlHasNoOtherBit = (control : ℕ) → IsTrue (is_masked (masked_of control))

abbrev pub MaskedControlIsItsBits : Type 0
MaskedControlIsItsBits = (control : ℕ) → IsTrue (is_masked control) → masked_of control ≡ control

abbrev pub BitsOfControlReadBack : Type 0
BitsOfControlReadBack =
    (receive send : Bool) → (stops_receive (control_of receive send) ≡ receive) × (stops_send (control_of receive send) ≡ send)

-- the next version is the least one above that has low six bits that are not all zero
pub record IsNextVersion (version next : ℕ) : Type 0 where
  pub above : version < next
  pub fits : next < 2 ^ 32
  pub good : next % 2 ^ 6 ≢ 0
  pub least : (between : ℕ) → version < between → between < next → between % 2 ^ 6 ≡ 0

abbrev pub NextVersionIsLeast : Type 0
NextVersionIsLeast =
    (version : ℕ) → version < 2 ^ 32 → IfSome (next_version_of version) (λ next. IsNextVersion version next)

abbrev pub OnlyLastVersionHasNoNext : Type 0
OnlyLastVersionHasNoNext = (version : ℕ) → IsNone (next_version_of version) ↔ (version ≡ 2 ^ 32 - 1)
