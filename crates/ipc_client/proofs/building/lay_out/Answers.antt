use Rattle.std.proofs.Common.{sym, arith}
use Rattle.ipc_client.proofs.BuildLemmas.{laid_out_more, laid_out_all, place_within, string_within}
use Rattle.ipc_client.proofs.building.lay_out.Goals as goal

pub put_string-requires : goal.put_string-requires
put_string-requires c = omega (
  arith,
  string_within c.args.strings.now c.strings.place
      c.in-Some.string.now (sym c.in-Some.ensures),
  c.size.ensures.bound,
)

pub strings-smaller : goal.strings-smaller
strings-smaller c = omega (arith, place_within c.args.strings.now c.strings.place c.in-Some.string.now (sym c.in-Some.ensures))

pub strings-preserved : goal.strings-preserved
strings-preserved c =
    laid_out_more c.args.words.now c.strings.registers.items c.strings.payload.items
    c.put_string.new.registers.items c.put_string.new.payload.items c.args.strings.now
    c.strings.place c.in-Some.string.now
    c.strings.invariant (sym c.in-Some.ensures) c.in_ok-put_string.ensures.registers c.in_ok-put_string.ensures.payload

pub returns-clause-registers : goal.returns-clause-registers
returns-clause-registers c = (laid_out_all c.args.words.now c.strings.registers.items
    c.strings.payload.items c.args.strings.now c.strings.place c.strings.invariant
    (sym c.in_default.ensures)).0

pub returns-clause-payload : goal.returns-clause-payload
returns-clause-payload c = (laid_out_all c.args.words.now c.strings.registers.items
    c.strings.payload.items c.args.strings.now c.strings.place c.strings.invariant
    (sym c.in_default.ensures)).1
