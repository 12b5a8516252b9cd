use Rattle.std.proofs.Common.{arith, refl}
use Rattle.std.specs.String.{string_bytes}
use Rattle.ipc_shell.proofs.WireLemmas.{all_written, next_written, none_written, rest_written, shows_long}
use Rattle.ipc_shell.proofs.wire.write_outputs.Goals as goal

pub loop-turn-init : goal.loop-turn-init
loop-turn-init c = λ parts shows. (omega arith, omega arith, none_written _ parts _ shows)

pub loop-turn-preserved : goal.loop-turn-preserved
loop-turn-preserved c = λ parts shows.
    let (turns, within, written) = c.loop-turn.invariant parts shows in
    let next = next_written parts c.loop-turn.behind c.in-Some.connection (string_bytes c.args.text.now) (string_bytes c.loop-turn.text) (string_bytes c.write_output.new.text) c.loop-turn.exchange c.write_output.new.exchange
    c.in-Some.ensures.some.0 c.in-Some.ensures.some.1 c.in-Some.ensures.first written c.in_ok-write_output.ensures in
    (omega (arith, turns, c.in-Some.ensures.some.0), next.0, next.1)

pub returns-in_default : goal.returns-in_default
returns-in_default c = λ parts shows.
    let (turns, within, written) = c.loop-turn.invariant parts shows in
    rest_written parts c.loop-turn.behind (string_bytes c.args.text.now) (string_bytes c.loop-turn.text) c.loop-turn.exchange within (c.in_default.ensures.none refl) written

pub returns : goal.returns
returns c = λ parts shows.
    let (turns, within, written) = c.loop-turn.invariant parts shows in
    all_written parts c.loop-turn.behind (string_bytes c.args.text.now) (string_bytes c.loop-turn.text) c.loop-turn.exchange
    (omega (arith, turns, within, c.loop-turn-test.false, c.connections-turn-end.ensures, shows_long c.args.exchange.now parts shows)) written
