-- The text of a script, entry by entry.
use Rattle.std.proofs.Common.{◌≡◌, refl, sym, ap, ap₂, subst, ◌∙◌, ℕ, suc, ◌+◌, ◌-◌, ◌≤◌, ◌<◌, List, [], ◌∷◌, ◌++◌, append_assoc}
use Rattle.std.proofs.Common.{append-nil, take, drop, get_or, length, length-drop, arith}
use Rattle.std.proofs.lemmas.Grind.{common_steps, flat_map-append}
use Rattle.std.proofs.lemmas.List.{take_all, take_more}
use Rattle.std.proofs.Math.Seq.{drop-cons}
use Rattle.ipc_history.specs.declared.entry.Entry.{Entry}
use Rattle.ipc_core.specs.declared.command.Command.{Command}
use Rattle.ipc_shell.specs.Commands.{command_line, script_text}
use Rattle.ipc_shell.specs.Script.{commands_at, commands_from, commands_of, last_take, last_takes}

pub text_append : (one two : List Command) → script_text (one ++ two) ≡ script_text one ++ script_text two
text_append one two = flat_map-append command_line one two

-- one more text, and what is left is shorter by it
text_turn : (start out new : List ℕ) (whole one two : List Command) → out ++ script_text whole ≡ start → whole ≡ one ++ two
    → new ≡ out ++ script_text one → new ++ script_text two ≡ start
text_turn start out new whole one two before split more =
    ap (λ l. l ++ script_text two) more
    ∙ (append_assoc out (script_text one) (script_text two)
    ∙ (ap (λ l. out ++ l) (sym (text_append one two) ∙ ap script_text (sym split)) ∙ before))

module _ (entries : List Entry) (i : ℕ) (e : Entry) (within : i < length entries) (here : e ≡ get_or entries i e) where
  rest_is : drop i entries ≡ e ∷ drop (i + 1) entries
  rest_is = let next : suc i ≡ i + 1 = omega arith in drop-cons entries i e within ∙ ap₂ (λ x j. x ∷ drop j entries) (sym here) next

  front_is : take (i + 1) entries ≡ take i entries ++ e ∷ []
  front_is = take_more entries i e within ∙ ap (λ x. take i entries ++ x ∷ []) (sym here)

  commands_turn : commands_from (take i entries) (drop i entries) ≡ commands_at (take i entries) e ++ commands_from
      (take (i + 1) entries) (drop (i + 1) entries)
  unfolding commands_from
  commands_turn =
      ap (commands_from (take i entries)) rest_is
      ∙ ap (λ P. commands_at (take i entries) e ++ commands_from P (drop (i + 1) entries)) (sym front_is)

  takes_turn : last_takes entries (drop i entries) ≡ last_take entries e (drop (i + 1) entries) ++ last_takes entries
      (drop (i + 1) entries)
  unfolding last_takes
  takes_turn = ap (last_takes entries) rest_is

  pub commands_more : (start out new : List ℕ) → out ++ script_text (commands_from (take i entries) (drop i entries)) ≡ start
      → new ≡ out ++ script_text (commands_at (take i entries) e)
      → new ++ script_text (commands_from (take (i + 1) entries) (drop (i + 1) entries)) ≡ start
  commands_more start out new before more = text_turn start out new _ (commands_at (take i entries) e) _ before commands_turn more

  -- where a slice from the next place on is what is left
  slice_is : take (length entries - (i + 1)) (drop (i + 1) entries) ≡ drop (i + 1) entries
  slice_is = take_all (length entries - (i + 1)) (drop (i + 1) entries) (omega (arith, length-drop (i + 1) entries))

  pub takes_more : (start out new : List ℕ) → out ++ script_text (last_takes entries (drop i entries)) ≡ start
      → new ≡ out ++ script_text (last_take entries e (take (length entries - (i + 1)) (drop (i + 1) entries)))
      → new ++ script_text (last_takes entries (drop (i + 1) entries)) ≡ start
  takes_more start out new before more =
      text_turn start out new _ (last_take entries e (drop (i + 1) entries)) _ before takes_turn
      (more ∙ ap (λ l. out ++ script_text (last_take entries e l)) slice_is)

-- at the end nothing is left
drop_past : (xs : List Entry) (i : ℕ) → length xs ≤ i → drop i xs ≡ []
drop_past xs i past = grind (arith, common_steps)

pub commands_end : (entries : List Entry) (i : ℕ) (start out : List ℕ) → length entries ≤ i
    → out ++ script_text (commands_from (take i entries) (drop i entries)) ≡ start → out ≡ start
unfolding commands_from
commands_end entries i start out past before =
    sym (append-nil out) ∙ (ap (λ l. out ++ script_text (commands_from (take i entries) l)) (sym (drop_past entries i past)) ∙ before)

pub takes_end : (entries : List Entry) (i : ℕ) (start out : List ℕ) → length entries ≤ i
    → out ++ script_text (last_takes entries (drop i entries)) ≡ start → out ≡ start
unfolding last_takes
takes_end entries i start out past before =
    sym (append-nil out) ∙ (ap (λ l. out ++ script_text (last_takes entries l)) (sym (drop_past entries i past)) ∙ before)

-- both parts of a script
pub script_whole : (H : List Entry) (out new : List ℕ) → out ≡ script_text (commands_from [] H)
    → new ≡ out ++ script_text (last_takes H H) → new ≡ script_text (commands_of H)
unfolding commands_of
script_whole H out new first more =
    more ∙ (ap (λ l. l ++ script_text (last_takes H H)) first ∙ sym (text_append (commands_from [] H) (last_takes H H)))
