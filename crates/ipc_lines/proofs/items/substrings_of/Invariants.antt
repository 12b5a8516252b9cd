use Rattle.std.proofs.Common.{◌≡◌, List, map, take}
use Rattle.std.specs.List.{All}
use Rattle.ipc_items.specs.declared.buffer_list.Substring.{Substring}
use Rattle.ipc_lines.specs.Texts.{substring_text}
use Rattle.ipc_lines.specs.Reading.{IsSubstring}
use Rattle.ipc_lines.proofs.items.substrings_of.Given as goal

abbrev pub invariant-loop-text : goal.invariant-loop-text
invariant-loop-text l = record {
  found : map (λ text. text.now) (take l.text-index l.texts) ≡ map substring_text l.parts.items;
  only : (list : List Substring) → All IsSubstring list → map (λ text. text.now) l.texts ≡ map substring_text list → l.parts.items ≡ take l.text-index list;
}
