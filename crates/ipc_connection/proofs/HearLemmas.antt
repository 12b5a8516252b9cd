-- What the bytes of a whole frame say.
use Rattle.std.proofs.Common.{◌≡◌, ◌≢◌, inl, inr, ℕ, ◌<◌, false, List, length, drop, slice_index, Result, Ok, Err, is_ok, if◌then◌else◌, refl, sym, ap, ap₂, ◌∙◌, arith}
use Rattle.std.proofs.lemmas.Bool.{cases_Bool}
use Rattle.ipc_frame.specs.declared.fault.FrameFault.{FrameFault}
use Rattle.ipc_frame.specs.declared.fault.FrameFault.TheVariants.{NoMemory, TimePoint}
use Rattle.ipc_frame.specs.declared.frame.Frame.{Frame}
use Rattle.ipc_frame.specs.declared.frame.Frame.TheVariants as frame
use Rattle.ipc_connection.specs.Holding.{FrameAt, IpcAt, HearsOf, version_at}
use Rattle.ipc_connection.specs.declared.calls.IpcHead.{IpcHead}
use Rattle.ipc_connection.specs.declared.heard.Heard.TheVariants.{Hello, Call, Exreg, Bye}
use Rattle.ipc_frame.specs.declared.version.WireVersion.{WireVersion}
use Rattle.ipc_frame.specs.Numbers.{number_in}
use Rattle.ipc_connection.specs.Hearing.{heard_of}
use Rattle.ipc_history.specs.CallParts.{CallParts}
use Rattle.ipc_frame.specs.Parts.{IpcParts}
use Rattle.ipc_connection.specs.Reads.{Reads}
use Rattle.ipc_connection.specs.CallOf.{call_of, asks_memory, has_time_point}

abbrev head_made : ℕ → ℕ → ℕ → ℕ → ℕ → ℕ → IpcHead
head_made to from timeouts originator tag acceptor = record { to = to; from = from; timeouts = timeouts; originator = originator; tag = tag; acceptor = acceptor }

pub same_head : (a1 b1 a2 b2 a3 b3 a4 b4 a5 b5 a6 b6 : ℕ) → a1 ≡ b1 → a2 ≡ b2 → a3 ≡ b3 → a4 ≡ b4 → a5 ≡ b5 → a6 ≡ b6 → head_made a1 a2 a3 a4 a5 a6 ≡ head_made b1 b2 b3 b4 b5 b6
same_head a1 b1 a2 b2 a3 b3 a4 b4 a5 b5 a6 b6 e1 e2 e3 e4 e5 e6 = cc

made_timely : (ipc : IpcParts) (call : CallParts) → call_of ipc ≡ Ok call → has_time_point ipc ≡ false
unfolding call_of
made_timely ipc call e = elim (cases_Bool (has_time_point ipc)) [
  | inl late ↦ let no = rw late at e in absurd (cc)
  | inr timely ↦ timely
]

module _ (start rest : List ℕ) where
  pub hears_hello : (number : ℕ) (version : WireVersion) → slice_index start 4 ≡ 1 → number ≡ number_in 2 (drop 5 start) → version ≡ version_at (length start) → (f : Frame) → FrameAt start rest f → HearsOf f (Ok (Hello number version))
  unfolding heard_of
  hears_hello number version kind e v (frame.Hello other named) h =
      let same : number ≡ other = e ∙ sym h.3 in
      let as_named : version ≡ named = v ∙ sym h.4 in
      inl (ap₂ (λ n k. Ok (Hello n k)) same as_named)
  hears_hello number version kind e v (frame.Ipc ipc) h = absurd (omega (arith, kind, h.kind))
  hears_hello number version kind e v (frame.Exreg target control) h = absurd (omega (arith, kind, h.0))
  hears_hello number version kind e v frame.Bye h = absurd (omega (arith, kind, h.0))
  hears_hello number version kind e v (frame.Welcome id) h = absurd h
  hears_hello number version kind e v (frame.Ipcr ipcr) h = absurd h
  hears_hello number version kind e v (frame.Exregr result control code moment) h = absurd h
  hears_hello number version kind e v (frame.Refused n) h = absurd h
  hears_hello number version kind e v (frame.Fault class n) h = absurd h

  pub hears_exreg : (a b : ℕ) → slice_index start 4 ≡ 3 → a ≡ number_in 8 (drop 5 start) → b ≡ number_in 8 (drop 13 start) → (f : Frame) → FrameAt start rest f → HearsOf f (Ok (Exreg a b))
  unfolding heard_of
  hears_exreg a b kind e1 e2 (frame.Exreg target control) h =
      let one : a ≡ target = e1 ∙ sym h.3 in
      let two : b ≡ control = e2 ∙ sym h.4 in
      inl (ap₂ (λ x y. Ok (Exreg x y)) one two)
  hears_exreg a b kind e1 e2 (frame.Hello number version) h = absurd (omega (arith, kind, h.0))
  hears_exreg a b kind e1 e2 (frame.Ipc ipc) h = absurd (omega (arith, kind, h.kind))
  hears_exreg a b kind e1 e2 frame.Bye h = absurd (omega (arith, kind, h.0))
  hears_exreg a b kind e1 e2 (frame.Welcome id) h = absurd h
  hears_exreg a b kind e1 e2 (frame.Ipcr ipcr) h = absurd h
  hears_exreg a b kind e1 e2 (frame.Exregr result control code moment) h = absurd h
  hears_exreg a b kind e1 e2 (frame.Refused n) h = absurd h
  hears_exreg a b kind e1 e2 (frame.Fault class n) h = absurd h

  pub hears_bye : slice_index start 4 ≢ 1 → slice_index start 4 ≢ 2 → slice_index start 4 ≢ 3 → (f : Frame) → FrameAt start rest f → HearsOf f (Ok Bye)
  unfolding heard_of
  hears_bye n1 n2 n3 frame.Bye h = inl refl
  hears_bye n1 n2 n3 (frame.Hello number version) h = absurd (n1 h.0)
  hears_bye n1 n2 n3 (frame.Ipc ipc) h = absurd (n2 h.kind)
  hears_bye n1 n2 n3 (frame.Exreg target control) h = absurd (n3 h.0)
  hears_bye n1 n2 n3 (frame.Welcome id) h = absurd h
  hears_bye n1 n2 n3 (frame.Ipcr ipcr) h = absurd h
  hears_bye n1 n2 n3 (frame.Exregr result control code moment) h = absurd h
  hears_bye n1 n2 n3 (frame.Refused n) h = absurd h
  hears_bye n1 n2 n3 (frame.Fault class n) h = absurd h

  -- an IPC frame, by what is answered for its call
  abbrev Answers : Result CallParts FrameFault → Type 0
  Answers result = (ipc : IpcParts) → IpcAt start rest ipc → Reads NoMemory (call_of ipc) (asks_memory ipc) result

  read_ok : (ipc : IpcParts) (call : CallParts) → Reads NoMemory (call_of ipc) (asks_memory ipc) (Ok call) → call_of ipc ≡ Ok call
  read_ok ipc call = go (call_of ipc)
    where
      go : (o : Result CallParts FrameFault) → Reads NoMemory o (asks_memory ipc) (Ok call) → o ≡ Ok call
      go (Ok other) (inl e) = sym e
      go (Ok other) (inr e) = let no = e.0 in absurd (cc)
      go (Err fault) e = absurd (cc)

  pub hears_call : (call : CallParts) → slice_index start 4 ≡ 2 → Answers (Ok call) → (f : Frame) → FrameAt start rest f → HearsOf f (Ok (Call call))
  unfolding heard_of
  hears_call call kind h (frame.Ipc ipc) at = let e = read_ok ipc call (h ipc at) in inl (rw e refl)
  hears_call call kind h (frame.Hello number version) at = absurd (omega (arith, kind, at.0))
  hears_call call kind h (frame.Exreg target control) at = absurd (omega (arith, kind, at.0))
  hears_call call kind h frame.Bye at = absurd (omega (arith, kind, at.0))
  hears_call call kind h (frame.Welcome id) at = absurd at
  hears_call call kind h (frame.Ipcr ipcr) at = absurd at
  hears_call call kind h (frame.Exregr result control code moment) at = absurd at
  hears_call call kind h (frame.Refused n) at = absurd at
  hears_call call kind h (frame.Fault class n) at = absurd at

  fault_heard : (ipc : IpcParts) (fault : FrameFault) → Reads NoMemory (call_of ipc) (asks_memory ipc) (Err fault) → HearsOf (frame.Ipc ipc) (Err fault)
  unfolding heard_of
  fault_heard ipc fault h = go (call_of ipc) refl h
    where
      go : (o : Result CallParts FrameFault) → call_of ipc ≡ o → Reads NoMemory o (asks_memory ipc) (Err fault) → HearsOf (frame.Ipc ipc) (Err fault)
      go (Ok call) e (inl h) = absurd (cc)
      go (Ok call) e (inr h) = let lack = h.0 in let same : fault ≡ NoMemory = cc in inr (ap Err same, (made_timely ipc call e, inr (ap is_ok e, h.1)))
      go (Err other) e h = let same : fault ≡ other = cc in inl (rw e (ap Err same))

  pub hears_fault : (fault : FrameFault) → slice_index start 4 ≡ 2 → Answers (Err fault) → (f : Frame) → FrameAt start rest f → HearsOf f (Err fault)
  hears_fault fault kind h (frame.Ipc ipc) at = fault_heard ipc fault (h ipc at)
  hears_fault fault kind h (frame.Hello number version) at = absurd (omega (arith, kind, at.0))
  hears_fault fault kind h (frame.Exreg target control) at = absurd (omega (arith, kind, at.0))
  hears_fault fault kind h frame.Bye at = absurd (omega (arith, kind, at.0))
  hears_fault fault kind h (frame.Welcome id) at = absurd at
  hears_fault fault kind h (frame.Ipcr ipcr) at = absurd at
  hears_fault fault kind h (frame.Exregr result control code moment) at = absurd at
  hears_fault fault kind h (frame.Refused n) at = absurd at
  hears_fault fault kind h (frame.Fault class n) at = absurd at

-- a payload that was counted off
lacks_ipc : (ipc : IpcParts) (fault : FrameFault) → 0 < length ipc.payload → fault ≡ (if has_time_point ipc then TimePoint else NoMemory) → HearsOf (frame.Ipc ipc) (Err fault)
unfolding heard_of call_of
lacks_ipc ipc fault some e = elim (cases_Bool (has_time_point ipc)) [
  | inl late ↦ let is : fault ≡ TimePoint = rw late at e in rw late (inl (ap Err is))
  | inr timely ↦ let is : fault ≡ NoMemory = rw timely at e in inr (ap Err is, (timely, inl some))
]

pub hears_lack : (start rest : List ℕ) (fault : FrameFault) → 0 < length rest → ((ipc : IpcParts) (behind : List ℕ) → IpcAt start behind ipc → fault ≡ (if has_time_point ipc then TimePoint else NoMemory)) → (f : Frame) → FrameAt start rest f → HearsOf f (Err fault)
hears_lack start rest fault some h (frame.Ipc ipc) at = lacks_ipc ipc fault (omega (arith, some, ap length at.payload)) (h ipc rest at)
hears_lack start rest fault some h (frame.Hello number version) at = absurd (omega (arith, some, ap length at.2))
hears_lack start rest fault some h (frame.Exreg target control) at = absurd (omega (arith, some, ap length at.2))
hears_lack start rest fault some h frame.Bye at = absurd (omega (arith, some, ap length at.2))
hears_lack start rest fault some h (frame.Welcome id) at = absurd at
hears_lack start rest fault some h (frame.Ipcr ipcr) at = absurd at
hears_lack start rest fault some h (frame.Exregr result control code moment) at = absurd at
hears_lack start rest fault some h (frame.Refused n) at = absurd at
hears_lack start rest fault some h (frame.Fault class n) at = absurd at
