-- Pieces are joined, strings are cut, and buffer strings are laid out, one after the other.
use Rattle.std.proofs.Common.{◌≡◌, ℕ, zero, suc, ◌+◌, ◌*◌, ◌/◌, ◌^◌, ◌≤◌, ◌<◌, List, [], ◌∷◌, ◌++◌}
use Rattle.std.proofs.Common.{Vec, false, length, take, drop, get_or, slice_index, refl, sym, ap}
use Rattle.std.proofs.Common.{ap₂, ◌∙◌, arith, append_assoc, append-nil}
use Rattle.std.specs.declared.alloc.Global.{Global}
use Rattle.std.specs.List.{list_any}
use Rattle.std.proofs.lemmas.List.{drop_more, drop_all, map-append}
use Rattle.std.proofs.lemmas.Bool.{or_parts, leb-false}
use Rattle.ipc_items.specs.declared.buffer_list.Substring.{Substring}
use Rattle.ipc_items.specs.Pieces.{PlacedBytes, joined}
use Rattle.ipc_items.specs.Strings.{strings_of}
use Rattle.ipc_client.specs.Receiving.{item_strings}
use Rattle.ipc_client.specs.Buffering.{buffer_words, is_long}

-- one more piece
pub joined_more : (pieces : List PlacedBytes) (i : ℕ) (piece : PlacedBytes)
    (bytes new all : List ℕ) → i < length pieces → piece ≡ get_or pieces i piece
    → new ≡ bytes ++ piece.bytes → bytes ++ joined (drop i pieces) ≡ all
    → new ++ joined (drop (i + 1) pieces) ≡ all
joined_more pieces i piece bytes new all lt is is_new h =
    let here : drop i pieces ≡ piece ∷ drop (i + 1) pieces = drop_more pieces i piece lt
    ∙ ap (λ p. p ∷ drop (i + 1) pieces) (sym is) in
    ap (λ xs. xs ++ joined (drop (i + 1) pieces)) is_new ∙ append_assoc bytes piece.bytes
    (joined (drop (i + 1) pieces)) ∙ ap (λ ps. bytes ++ joined ps) (sym here) ∙ h

pub joined_all : (pieces : List PlacedBytes) (i : ℕ) (bytes all : List ℕ) → length pieces ≤ i
    → bytes ++ joined (drop i pieces) ≡ all → bytes ≡ all
joined_all pieces i bytes all past h = sym (append-nil bytes) ∙ ap (λ ps. bytes ++ joined ps) (sym (drop_all i pieces past)) ∙ h

-- one more string
items_more : (items bytes : List ℕ) → 2 ≤ length items → item_strings items bytes ≡ take
    (slice_index items 0 / 1024) bytes ∷ item_strings (drop 2 items)
    (drop (slice_index items 0 / 1024) bytes)
items_more [] bytes h = absurd (omega (arith, h))
items_more (a ∷ []) bytes h = absurd (omega (arith, h))
items_more (a ∷ b ∷ items) bytes h = refl

pub cut_more : (strings next : List (Vec ℕ Global)) (string : Vec ℕ Global)
    (items after bytes rest : List ℕ) (all : List (List ℕ)) → 2 ≤ length items
    → string.items ≡ take (slice_index items 0 / 1024) bytes
    → rest ≡ drop (slice_index items 0 / 1024) bytes → after ≡ drop 2 items
    → next ≡ strings ++ string ∷ [] → strings_of strings ++ item_strings items bytes ≡ all
    → strings_of next ++ item_strings after rest ≡ all
cut_more strings next string items after bytes rest all some is is_rest is_after is_next h =
    let grown : strings_of next ≡ strings_of strings ++ string.items ∷ [] = ap strings_of is_next
    ∙ map-append (λ (v : Vec ℕ Global). v.items) strings (string ∷ []) in
    let n = slice_index items 0 / 1024 in
    ap₂ (λ ss ts. ss ++ ts) grown (ap₂ item_strings is_after is_rest)
    ∙ append_assoc (strings_of strings) (string.items ∷ []) (item_strings (drop 2 items) (drop n bytes))
    ∙ ap (λ xs. strings_of strings ++ xs ∷ item_strings (drop 2 items) (drop n bytes)) is
    ∙ ap (λ ss. strings_of strings ++ ss) (sym (items_more items bytes some))
    ∙ h

items_end : (items bytes : List ℕ) → length items < 2 → item_strings items bytes ≡ []
items_end [] bytes h = refl
items_end (a ∷ []) bytes h = refl
items_end (a ∷ b ∷ items) bytes h = absurd (omega (arith, h))

pub cut_all : (strings : List (Vec ℕ Global)) (items bytes : List ℕ) (all : List (List ℕ))
    → length items < 2 → strings_of strings ++ item_strings items bytes ≡ all
    → strings_of strings ≡ all
cut_all strings items bytes all few h = sym (append-nil (strings_of strings))
    ∙ ap (λ ss. strings_of strings ++ ss) (sym (items_end items bytes few)) ∙ h

-- one more buffer string
pub short_at : (parts : List Substring) (i : ℕ) (part : Substring) → list_any is_long parts ≡ false
    → i < length parts → part ≡ get_or parts i part → part.length < 2 ^ 54
short_at [] i part none lt is = absurd (omega (arith, lt))
short_at (x ∷ xs) zero part none lt is =
    let small : x.length < 2 ^ 54 = leb-false (2 ^ 54) x.length (or_parts (is_long x) (list_any is_long xs) none).0 in
    omega (arith, ap (λ (p : Substring). p.length) is, small)
short_at (x ∷ xs) (suc i) part none lt is = short_at xs i part
    (or_parts (is_long x) (list_any is_long xs) none).1 (omega (arith, lt)) is

pub laid_more : (parts : List Substring) (i : ℕ) (part : Substring) (words mid new all : List ℕ)
    → i < length parts → part ≡ get_or parts i part → mid ≡ words ++ part.length * 1024 ∷ []
    → new ≡ mid ++ part.pointer ∷ [] → words ++ buffer_words (drop i parts) ≡ all
    → new ++ buffer_words (drop (i + 1) parts) ≡ all
laid_more parts i part words mid new all lt is is_mid is_new h =
    let rest = buffer_words (drop (i + 1) parts) in
    let here : drop i parts ≡ part ∷ drop (i + 1) parts = drop_more parts i part lt ∙ ap (λ p. p ∷ drop (i + 1) parts) (sym is) in
    ap (λ xs. xs ++ rest) is_new ∙ append_assoc mid (part.pointer ∷ []) rest
    ∙ ap (λ xs. xs ++ part.pointer ∷ rest) is_mid
    ∙ append_assoc words (part.length * 1024 ∷ []) (part.pointer ∷ rest)
    ∙ ap (λ ps. words ++ buffer_words ps) (sym here) ∙ h

pub laid_all : (parts : List Substring) (i : ℕ) (words all : List ℕ) → length parts ≤ i
    → words ++ buffer_words (drop i parts) ≡ all → words ≡ all
laid_all parts i words all past h = sym (append-nil words) ∙ ap (λ ps. words ++ buffer_words ps) (sym (drop_all i parts past)) ∙ h
