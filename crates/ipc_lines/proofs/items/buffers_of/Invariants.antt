use Rattle.std.proofs.Common.{◌≡◌, List, map, take}
use Rattle.ipc_items.specs.declared.buffer_list.Substring.{Substring}
use Rattle.ipc_lines.specs.Texts.{buffer_text}
use Rattle.ipc_lines.specs.Reading.{IsBufferList}
use Rattle.ipc_lines.proofs.items.buffers_of.Given as goal

abbrev pub invariant-loop-text : goal.invariant-loop-text
invariant-loop-text l = record {
  found : map (λ text. text.now) (take l.text-index l.texts) ≡ map buffer_text l.buffers;
  only : (list : List (List Substring)) → IsBufferList list → map (λ text. text.now) l.texts ≡ map buffer_text list → l.buffers ≡ take l.text-index list;
}
