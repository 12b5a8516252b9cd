use Rattle.std.proofs.Common.{sym, ◌∙◌}
use Rattle.ipc_threads.specs.declared.last.Last.TheVariants.{Nothing, ExchangeRegisters, Began}
use Rattle.ipc_waits.proofs.Lasts.{began_told, exreg_told, last_at}
use Rattle.ipc_waits.proofs.last.after_last.Goals as goal

pub stop_exreg-requires : goal.stop_exreg-requires
stop_exreg-requires c =
    let l = c.in-ExchangeRegisters in
    let is = sym c.last.ensures ∙ l.is in
    last_at c.args.slots.now.past c.kept.result.now c.kept.ensures.stands (ExchangeRegisters l.thread l.target l.control) is

pub turn_began-requires : goal.turn_began-requires
turn_began-requires c =
    let l = c.in-Began in
    let is = sym c.last.ensures ∙ l.is in
    last_at c.args.slots.now.past c.kept.result.now c.kept.ensures.stands (Began l.sending l.receiving) is

pub returns-in-Nothing : goal.returns-in-Nothing
returns-in-Nothing c =
    let is = sym c.last.ensures ∙ c.in-Nothing.is in
    sym (last_at c.args.slots.now.past c.kept.result.now c.kept.ensures.stands Nothing is)

pub returns-in-ExchangeRegisters : goal.returns-in-ExchangeRegisters
returns-in-ExchangeRegisters c =
    let l = c.in-ExchangeRegisters in
    let P = c.args.slots.now.past in
    let is = sym c.last.ensures ∙ l.is in
    let last = last_at P c.kept.result.now c.kept.ensures.stands (ExchangeRegisters l.thread l.target l.control) is in
    c.stop_exreg.ensures ∙ sym (exreg_told P l.thread l.target l.control last)

pub returns-in-Began : goal.returns-in-Began
returns-in-Began c =
    let l = c.in-Began in
    let P = c.args.slots.now.past in
    let is = sym c.last.ensures ∙ l.is in
    let last = last_at P c.kept.result.now c.kept.ensures.stands (Began l.sending l.receiving) is in
    c.turn_began.ensures ∙ sym (began_told P l.sending l.receiving last)
