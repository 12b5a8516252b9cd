use Rattle.std.proofs.Common.{◌≡◌, ℕ, List, map, take}
use Rattle.ipc_lines.specs.Texts.{bytes_text}
use Rattle.ipc_lines.specs.Reading.{IsStringList}
use Rattle.ipc_lines.proofs.items.strings_of.Given as goal

abbrev pub invariant-loop-text : goal.invariant-loop-text
invariant-loop-text l = record {
  found : map (λ text. text.now) (take l.text-index l.texts) ≡ map bytes_text l.strings;
  only : (list : List (List ℕ)) → IsStringList list → map (λ text. text.now) l.texts ≡ map bytes_text list → l.strings ≡ take l.text-index list;
}
