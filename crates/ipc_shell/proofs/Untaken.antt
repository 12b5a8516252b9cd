-- Which outcomes are to be taken behind one more entry, and behind outputs.
use Rattle.std.proofs.Common.{◌≡◌, refl, sym, ap, ◌∙◌, ℕ, Bool, true, false, List, [], ◌∷◌, ◌++◌, append_assoc, append-nil, map, reverse}
use Rattle.std.proofs.Common.{find}
use Rattle.std.specs.List.{list_any}
use Rattle.std.specs.Option.{option_map_or}
use Rattle.std.proofs.lemmas.List.{reverse-append}
use Rattle.ipc_history.specs.declared.entry.Entry.{Entry}
use Rattle.ipc_history.specs.declared.entry.Entry.TheVariants.{Written}
use Rattle.ipc_history.specs.declared.entry.Output.{Output}
use Rattle.ipc_laws.proofs.Tests.{neither_left, neither_right}
use Rattle.ipc_shell.specs.Script.{is_act, is_call, is_untaken}

pub untaken_act : (P : List Entry) (e : Entry) (t : ℕ) → is_act t e ≡ true → is_untaken (P ++ e ∷ []) t ≡ is_call e
unfolding is_untaken
untaken_act P e t acts = ap (λ l. option_map_or is_call (find (is_act t) l) false) (reverse-append P (e ∷ [])) ∙ rw acts refl

pub untaken_other : (P : List Entry) (e : Entry) (t : ℕ) → is_act t e ≡ false → is_untaken (P ++ e ∷ []) t ≡ is_untaken P t
unfolding is_untaken
untaken_other P e t other = ap (λ l. option_map_or is_call (find (is_act t) l) false) (reverse-append P (e ∷ [])) ∙ rw other refl

pub untaken_written : (P : List Entry) (outputs : List Output) (t : ℕ) → is_untaken (P ++ map Written outputs) t ≡ is_untaken P t
untaken_written P [] t = ap (λ l. is_untaken l t) (append-nil P)
untaken_written P (output ∷ outputs) t =
    ap (λ l. is_untaken l t) (sym (append_assoc P (Written output ∷ []) (map Written outputs)))
    ∙ (untaken_written (P ++ Written output ∷ []) outputs t ∙ untaken_other P (Written output) t refl)

-- behind entries that are no acts of the thread
pub untaken_more : (P rest : List Entry) (t : ℕ) → list_any (is_act t) rest ≡ false → is_untaken (P ++ rest) t ≡ is_untaken P t
untaken_more P [] t none = ap (λ l. is_untaken l t) (append-nil P)
untaken_more P (e ∷ rest) t none =
    ap (λ l. is_untaken l t) (sym (append_assoc P (e ∷ []) rest))
    ∙ (untaken_more (P ++ e ∷ []) rest t (neither_right (is_act t e) _ none) ∙ untaken_other P e t (neither_left (is_act t e) _ none))

-- where an entry is the last act of the thread
pub untaken_last : (P rest : List Entry) (e : Entry) (t : ℕ) → is_act t e ≡ true → list_any (is_act t) rest ≡ false
    → is_untaken (P ++ e ∷ rest) t ≡ is_call e
untaken_last P rest e t acts none =
    ap (λ l. is_untaken l t) (sym (append_assoc P (e ∷ []) rest))
    ∙ (untaken_more (P ++ e ∷ []) rest t none ∙ untaken_act P e t acts)

pub untaken_none : (t : ℕ) → is_untaken [] t ≡ false
unfolding is_untaken
untaken_none t = refl
