use Rattle.std.proofs.Common.{◌≡◌, ◌+◌, ◌*◌, ◌/◌, ◌%◌, Some, length, ap, ◌∙◌, arith, rules, false, None, refl}
use Rattle.std.specs.Fmt.{digits}
use Rattle.ipc_lines.proofs.Options.{IfSome-from_iff, Some-from_iff, none_not_some, some_same}
use Rattle.ipc_lines.proofs.Numerals.{digits_some, found_one, found_more, last_of, short_of, front_of}
use Rattle.ipc_lines.proofs.numbers.+number.Goals as goal

pub returns-in_err-last-clause-only : goal.returns-in_err-last-clause-only
returns-in_err-last-clause-only t c v small e =
    let h = digits_some c.args.base c.requires.low c.requires.high v small in
    absurd (omega (arith, h, ap length e, c.in_err-last.ensures.cases))

pub returns-in_err-low-clause-only : goal.returns-in_err-low-clause-only
returns-in_err-low-clause-only t c v small e =
    let h = last_of c.args.base c.requires.low c.requires.high v c.args.bytes.now c.in_ok-last.front.now c.in_ok-last.last.now small c.in_ok-last.ensures.cases.0 e in
    let no = c.in_err-low.ensures.only (v % c.args.base) h.0 h.1 in
    absurd (none_not_some None _ refl no)

pub returns-then-is_empty-clause-found : goal.returns-then-is_empty-clause-found
returns-then-is_empty-clause-found t c =
    let h = found_one c.args.base c.requires.low c.requires.high c.args.bytes.now c.in_ok-last.front.now c.in_ok-last.last.now c.in_ok-low.low c.in_ok-last.ensures.cases.0 (search rules) c.in_ok-low.ensures.below c.in_ok-low.ensures.found in
    cc

pub returns-then-is_empty-clause-only : goal.returns-then-is_empty-clause-only
returns-then-is_empty-clause-only t c v small e =
    let l = last_of c.args.base c.requires.low c.requires.high v c.args.bytes.now c.in_ok-last.front.now c.in_ok-last.last.now small c.in_ok-last.ensures.cases.0 e in
    let h = short_of c.args.base c.requires.low c.requires.high v c.args.bytes.now c.in_ok-last.front.now c.in_ok-last.last.now small c.in_ok-last.ensures.cases.0 e (search rules) in
    let low = c.in_ok-low.ensures.only (v % c.args.base) l.0 l.1 in
    cc

pub returns-in_err-high-clause-only : goal.returns-in_err-high-clause-only
returns-in_err-high-clause-only t c v small e =
    let f = front_of c.args.base c.requires.low c.requires.high v c.args.bytes.now c.in_ok-last.front.now c.in_ok-last.last.now small c.in_ok-last.ensures.cases.0 e (search rules) in
    let no = c.in_err-high.ensures.only (v / c.args.base) f.0 f.1 in
    absurd (none_not_some None _ refl no)

pub returns-clause-found : goal.returns-clause-found
returns-clause-found t c = IfSome-from_iff (λ value. c.args.bytes.now ≡ digits c.args.base false value) c.append.result (c.in_ok-high.high * c.args.base + c.in_ok-low.low) c.append.ensures
    (λ p. found_more c.args.base c.requires.low c.requires.high c.args.bytes.now c.in_ok-last.front.now c.in_ok-last.last.now c.in_ok-low.low c.in_ok-high.high c.in_ok-last.ensures.cases.0 c.in_ok-high.ensures.found p.0 c.in_ok-low.ensures.below c.in_ok-low.ensures.found p.1)

pub returns-clause-only : goal.returns-clause-only
returns-clause-only t c v small e =
    let l = last_of c.args.base c.requires.low c.requires.high v c.args.bytes.now c.in_ok-last.front.now c.in_ok-last.last.now small c.in_ok-last.ensures.cases.0 e in
    let f = front_of c.args.base c.requires.low c.requires.high v c.args.bytes.now c.in_ok-last.front.now c.in_ok-last.last.now small c.in_ok-last.ensures.cases.0 e (search rules) in
    let low = c.in_ok-low.ensures.only (v % c.args.base) l.0 l.1 in
    let high = c.in_ok-high.ensures.only (v / c.args.base) f.0 f.1 in
    let low_is : c.in_ok-low.low ≡ v % c.args.base = some_same _ _ low in
    let high_is : c.in_ok-high.high ≡ v / c.args.base = some_same _ _ high in
    let sum : c.in_ok-high.high * c.args.base + c.in_ok-low.low ≡ v = (λ i. high_is i * c.args.base + low_is i) ∙ f.3 in
    Some-from_iff c.append.result (c.in_ok-high.high * c.args.base + c.in_ok-low.low) c.append.ensures (omega (arith, f.2, high_is), omega (arith, sum, small)) ∙ ap Some sum
