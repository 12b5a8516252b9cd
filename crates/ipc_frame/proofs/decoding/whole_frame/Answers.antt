use Rattle.std.proofs.Common.{◌≡◌, ◌+◌, ◌-◌, ℕ, List, Option, true, inl, inr, Ok, Some, None, length, take, drop, slice_index, sum, refl, sym, ap, ap₂, subst, ◌∙◌, arith, length-drop}
use Rattle.std.proofs.lemmas.List.{take_rest, length-take-le}
use Rattle.std.proofs.lemmas.Bool.{cases_Bool}
use Rattle.ipc_frame.specs.declared.kind.FrameKind.{FrameKind}
use Rattle.ipc_frame.specs.declared.kind.Side.{Side}
use Rattle.ipc_frame.specs.Numbers.{number_in, fields_in}
use Rattle.ipc_frame.specs.Frames.{widths, kind_of}
use Rattle.ipc_frame.specs.Reading.{frame_of, is_longer, kind_in}
use Rattle.ipc_frame.specs.Decoding.{MakesFrame}
use Rattle.ipc_frame.proofs.DecodeLemmas.{whole_at, whole_of, one_value}
use Rattle.ipc_frame.proofs.decoding.whole_frame.Goals as goal

-- the kind is that of the byte and the length
of_kind : (side : Side) (bytes : List ℕ) (size : ℕ) (kind : Option FrameKind) → kind ≡ kind_in side size (slice_index bytes 4) → size ≡ number_in 4 bytes → kind ≡ kind_in side (number_in 4 bytes) (slice_index bytes 4)
of_kind side bytes size kind e same = e ∙ ap (λ n. kind_in side n (slice_index bytes 4)) same

pub read_u32-size-requires : goal.read_u32-size-requires
read_u32-size-requires g c =
    let at = whole_at c.args.side c.args.bytes.now c.requires.0 c.requires.1.0 (λ i. omega (arith, c.type_inv.bytes i)) c.requires.1.1 in
    omega (arith, at.1.there)

pub bounds-bytes-4 : goal.bounds-bytes-4
bounds-bytes-4 g c =
    let at = whole_at c.args.side c.args.bytes.now c.requires.0 c.requires.1.0 (λ i. omega (arith, c.type_inv.bytes i)) c.requires.1.1 in
    omega (arith, at.1.there, at.1.least)

pub returns-in_default : goal.returns-in_default
returns-in_default g c =
    let at = whole_at c.args.side c.args.bytes.now c.requires.0 c.requires.1.0 (λ i. omega (arith, c.type_inv.bytes i)) c.requires.1.1 in
    let none : None ≡ Some at.0 = sym c.in_default.is ∙ (of_kind c.args.side c.args.bytes.now c.read_u32-size.result c.of.result c.of.ensures c.read_u32-size.ensures ∙ at.1.kind_is) in
    absurd (cc)

pub split_at-requires : goal.split_at-requires
split_at-requires g c =
    let w = whole_of c.args.side c.args.bytes.now c.requires.0 c.requires.1.0 c.in-Some.kind (λ i. omega (arith, c.type_inv.bytes i)) c.requires.1.1 (sym (of_kind c.args.side c.args.bytes.now c.read_u32-size.result c.of.result c.of.ensures c.read_u32-size.ensures) ∙ c.in-Some.is) in
    rw (take_rest c.args.bytes.now 5) (omega (arith, w.there, w.least, c.head.ensures, length-drop 5 c.args.bytes.now))

pub slice_bounds-read_frame-count : goal.slice_bounds-read_frame-count
slice_bounds-read_frame-count g c =
    let w = whole_of c.args.side c.args.bytes.now c.requires.0 c.requires.1.0 c.in-Some.kind (λ i. omega (arith, c.type_inv.bytes i)) c.requires.1.1 (sym (of_kind c.args.side c.args.bytes.now c.read_u32-size.result c.of.result c.of.ensures c.read_u32-size.ensures) ∙ c.in-Some.is) in
    omega (arith, w.least, c.head-2.ensures, c.read_u32-size.ensures)

pub slice_bounds-read_frame-length : goal.slice_bounds-read_frame-length
slice_bounds-read_frame-length g c =
    let w = whole_of c.args.side c.args.bytes.now c.requires.0 c.requires.1.0 c.in-Some.kind (λ i. omega (arith, c.type_inv.bytes i)) c.requires.1.1 (sym (of_kind c.args.side c.args.bytes.now c.read_u32-size.result c.of.result c.of.ensures c.read_u32-size.ensures) ∙ c.in-Some.is) in
    let bytes = c.args.bytes.now in
    let kind = c.in-Some.kind in
    let back : c.split_at.result.1.now ≡ drop (sum (widths kind)) (drop 5 bytes) = c.split_at.ensures.back ∙ ap₂ (λ n xs. drop n xs) c.head.ensures (take_rest bytes 5) in
    let l1 = length-drop (sum (widths kind)) (drop 5 bytes) in
    let l2 = length-drop 5 bytes in
    sym (length-take-le (c.read_u32-size.result - (1 + c.head-2.result)) c.split_at.result.1.now (omega (arith, ap length back, l1, l2, w.there, w.least, c.head-2.ensures, c.read_u32-size.ensures)))

pub read_frame-requires-clause-made : goal.read_frame-requires-clause-made
read_frame-requires-clause-made g c =
    let w = whole_of c.args.side c.args.bytes.now c.requires.0 c.requires.1.0 c.in-Some.kind (λ i. omega (arith, c.type_inv.bytes i)) c.requires.1.1 (sym (of_kind c.args.side c.args.bytes.now c.read_u32-size.result c.of.result c.of.ensures c.read_u32-size.ensures) ∙ c.in-Some.is) in
    let bytes = c.args.bytes.now in
    let kind = c.in-Some.kind in
    let eq0 : c.split_at.result.0.now ≡ take (sum (widths kind)) (drop 5 bytes) = c.split_at.ensures.front ∙ ap₂ (λ n xs. take n xs) c.head.ensures (take_rest bytes 5) in
    let back : c.split_at.result.1.now ≡ drop (sum (widths kind)) (drop 5 bytes) = c.split_at.ensures.back ∙ ap₂ (λ n xs. drop n xs) c.head.ensures (take_rest bytes 5) in
    let eq1 : take (c.read_u32-size.result - (1 + c.head-2.result)) c.split_at.result.1.now ≡ take (number_in 4 bytes - (1 + sum (widths kind))) (drop (sum (widths kind)) (drop 5 bytes)) = ap₂ (λ n xs. take n xs) (ap₂ (λ a b. a - (1 + b)) c.read_u32-size.ensures c.head-2.ensures) back in
    (c.requires.0, subst (λ xs. MakesFrame kind (fields_in (widths kind) xs) (take (c.read_u32-size.result - (1 + c.head-2.result)) c.split_at.result.1.now) c.requires.0) (sym eq0) (subst (λ ys. MakesFrame kind (fields_in (widths kind) (take (sum (widths kind)) (drop 5 bytes))) ys c.requires.0) (sym eq1) w.makes))

pub returns-in-Ok-clause-decodes : goal.returns-in-Ok-clause-decodes
returns-in-Ok-clause-decodes g c =
    let w = whole_of c.args.side c.args.bytes.now c.requires.0 c.requires.1.0 c.in-Some.kind (λ i. omega (arith, c.type_inv.bytes i)) c.requires.1.1 (sym (of_kind c.args.side c.args.bytes.now c.read_u32-size.result c.of.result c.of.ensures c.read_u32-size.ensures) ∙ c.in-Some.is) in
    let bytes = c.args.bytes.now in
    let kind = c.in-Some.kind in
    let eq0 : c.split_at.result.0.now ≡ take (sum (widths kind)) (drop 5 bytes) = c.split_at.ensures.front ∙ ap₂ (λ n xs. take n xs) c.head.ensures (take_rest bytes 5) in
    let back : c.split_at.result.1.now ≡ drop (sum (widths kind)) (drop 5 bytes) = c.split_at.ensures.back ∙ ap₂ (λ n xs. drop n xs) c.head.ensures (take_rest bytes 5) in
    let eq1 : take (c.read_u32-size.result - (1 + c.head-2.result)) c.split_at.result.1.now ≡ take (number_in 4 bytes - (1 + sum (widths kind))) (drop (sum (widths kind)) (drop 5 bytes)) = ap₂ (λ n xs. take n xs) (ap₂ (λ a b. a - (1 + b)) c.read_u32-size.ensures c.head-2.ensures) back in
    let found = ap₂ (λ xs ys. frame_of kind (fields_in (widths kind) xs) ys) eq0 eq1 ∙ w.makes.made in
    let same : c.in-Ok.frame ≡ c.requires.0 = one_value _ _ _ c.in-Ok.ensures.frame found in
    rw c.requires.1.1 (inl (ap₂ (λ f n. Ok (f, n)) same (ap (λ k. 4 + k) c.read_u32-size.ensures ∙ sym w.count)))

pub returns-in-Err-clause-decodes : goal.returns-in-Err-clause-decodes
returns-in-Err-clause-decodes g c =
    let w = whole_of c.args.side c.args.bytes.now c.requires.0 c.requires.1.0 c.in-Some.kind (λ i. omega (arith, c.type_inv.bytes i)) c.requires.1.1 (sym (of_kind c.args.side c.args.bytes.now c.read_u32-size.result c.of.result c.of.ensures c.read_u32-size.ensures) ∙ c.in-Some.is) in
    let longer : is_longer (kind_of c.requires.0) ≡ true = elim (cases_Bool (is_longer (kind_of c.requires.0))) [
      | inl here ↦ here
      | inr other ↦ (let refused = c.in-Err.ensures.memory (ap is_longer (sym w.is) ∙ other) in absurd (cc))
    ] in
    rw c.requires.1.1 (inr (refl, longer))
