use Rattle.std.proofs.Common.{◌++◌}
use Rattle.std.specs.Prelude.{codes}
use Rattle.std.specs.String.{string_bytes}
use Rattle.l4sh_look.specs.Texts.{json_numbers_text, json_waits_text}
use Rattle.l4sh_look.proofs.Texts.{behind, ok_if}
use Rattle.l4sh_look.proofs.json.put_row.Goals as goal

pub returns : goal.returns
returns c =
    let row = c.args.row.now in
    let old = string_bytes c.args.text.now in
    let new = string_bytes c.push_str-3.new.self in
    let numbers = string_bytes c.put_numbers.new.text in
    let sends = string_bytes c.push_str.new.self in
    let sent = string_bytes c.put_waits.new.text in
    let receives = string_bytes c.push_str-2.new.self in
    let received = string_bytes c.put_waits-2.new.text in
    let four = json_waits_text row.received ++ codes "}" in
    let three = codes ", \"receives_took\": " ++ four in
    let two = json_waits_text row.sent ++ three in
    ok_if c.push_str-3.result new (received ++ codes "}") received
    (λ last. behind old numbers new (json_numbers_text row) (codes "\"sends_took\": " ++ two) c.in_ok-put_numbers.ensures
    (behind numbers sends new (codes "\"sends_took\": ") two c.in_ok-push_str.ensures.bytes
    (behind sends sent new (json_waits_text row.sent) three c.in_ok-put_waits.ensures
    (behind sent receives new (codes ", \"receives_took\": ") four c.in_ok-push_str-2.ensures.bytes
    (behind receives received new (json_waits_text row.received) (codes "}") c.in_ok-put_waits-2.ensures last)))))
    c.push_str-3.ensures.bytes
