use Rattle.std.proofs.Common.{◌≡◌, ℕ, List, map, take}
use Rattle.ipc_lines.specs.Texts.{hex_text}
use Rattle.ipc_lines.specs.Reading.{AreWords}
use Rattle.ipc_lines.proofs.items.words_of.Given as goal

abbrev pub invariant-loop-text : goal.invariant-loop-text
invariant-loop-text l = record {
  found : map (λ text. text.now) (take l.text-index l.texts) ≡ map hex_text l.words.items;
  only : (list : List ℕ) → AreWords list → map (λ text. text.now) l.texts ≡ map hex_text list → l.words.items ≡ take l.text-index list;
}
