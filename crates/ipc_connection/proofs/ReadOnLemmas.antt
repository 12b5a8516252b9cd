-- Reading straight into the memory of a payload.
use Rattle.std.proofs.Common.{◌≡◌, ℕ, ◌+◌, ◌-◌, ◌<◌, ◌≤◌, false, List, [], ◌++◌, length, take, Option, Some, None, Result, Ok, Err, refl, sym, ap, ◌∙◌, arith, length-append}
use Rattle.std.proofs.lemmas.List.{append-nil, append_assoc, take-append-le, take-take, nil_from_length}
use Rattle.std.proofs.Math.Seq.{take-append-add}
use Rattle.ipc_base.specs.Ports.{Input}
use Rattle.ipc_base.specs.declared.fault.PortFault.{PortFault}
use Rattle.ipc_frame.specs.declared.kind.Side.TheVariants.{Server}
use Rattle.ipc_frame.specs.Reading.{Short, reading}
use Rattle.ipc_frame.proofs.StreamLemmas.{short_is_exact}
use Rattle.ipc_connection.specs.Holding.{Kept}
use Rattle.ipc_connection.specs.ReadOn.{KeepsOn, ReadsInto, TakesOn}
use Rattle.ipc_connection.specs.Taking.{Decoding, Takes}

-- what stands in front of memory that was read into, and the bytes that were read
pub front_is : (front read behind rest : List ℕ) (len count size : ℕ) → length front ≡ len → count ≤ length read → len + count ≤ size → take (len + count) (take size ((front ++ (read ++ behind)) ++ rest)) ≡ front ++ take count read
front_is front read behind rest len count size l c s =
    let all = length-append front (read ++ behind) in
    let some = length-append read behind in
    let enough : len + count ≤ length (front ++ (read ++ behind)) = omega (arith, all, some, l, c) in
    take-take (len + count) size ((front ++ (read ++ behind)) ++ rest) s
    ∙ (take-append-le (len + count) (front ++ (read ++ behind)) rest enough
    ∙ (ap (λ k. take (k + count) (front ++ (read ++ behind))) (sym l)
    ∙ (take-append-add front (read ++ behind) count
    ∙ ap (λ xs. front ++ xs) (take-append-le count read behind c))))

-- the bytes of a frame, those of its payload read on
module _ (input input_now : Input) (start old new : List ℕ) (most wanted : ℕ) (short : reading Server (start ++ old) ≡ Short wanted) (less : most < wanted) where
  pub keeps_on : (result : Option (Result ℕ PortFault)) → ReadsInto input input_now old new most result → KeepsOn input input_now (record { bytes = start ++ old; lost = 0 }) (record { bytes = start ++ new; lost = 0 }) result
  keeps_on None same = ap (λ xs. record { bytes = start ++ xs; lost = 0 }) same
  keeps_on (Some (Err fault)) same = ap (λ xs. record { bytes = start ++ xs; lost = 0 }) same
  keeps_on (Some (Ok count)) read =
      let r = read.1 in
      let behind : start ++ new ≡ (start ++ old) ++ r.more = ap (λ xs. start ++ xs) r.behind ∙ sym (append_assoc start old r.more) in
      let still = (short_is_exact Server (start ++ old) r.more wanted short).1 (omega (arith, r.counted, read.0, less)) in
      (refl, refl, (wanted - length r.more, ap (reading Server) behind ∙ still), record { more = r.more; counted = r.counted; behind = behind; gave = r.gave; at_end = r.at_end })

-- and a decoder
module _ (input input_now : Input) (old new : Kept) where
  abbrev decoding : Kept → Decoding
  decoding held = record { kept = held.bytes; lost = held.lost; spent = false }

  pub takes_on : (result : Option (Result ℕ PortFault)) → KeepsOn input input_now old new result → TakesOn input input_now (decoding old) (decoding new) result
  unfolding Takes
  takes_on None same = ap decoding same
  takes_on (Some (Err fault)) same = ap decoding same
  takes_on (Some (Ok count)) kept =
      let r = kept.3 in record {
        more = r.more;
        gave = r.gave;
        at_end = r.at_end;
        takes = λ bytes holds.
            let none = nil_from_length holds.gone (holds.counted ∙ kept.0) in
            let whole : bytes ≡ old.bytes = holds.bytes_are ∙ (ap (λ xs. old.bytes ++ xs) none ∙ append-nil old.bytes) in
            let same : bytes ++ r.more ≡ new.bytes = ap (λ xs. xs ++ r.more) whole ∙ sym r.behind in
            rw (ap (reading Server) same ∙ kept.2.1)
            (ap (λ k. Ok (k, None)) (sym r.counted), record { unspent = refl; gone = []; counted = sym kept.1; are_bytes = λ i. omega arith; bytes_are = same ∙ sym (append-nil new.bytes) });
      }
