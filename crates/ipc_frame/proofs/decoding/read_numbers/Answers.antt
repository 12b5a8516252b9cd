use Rattle.std.proofs.Common.{◌≡◌, Option, Some, None, true, is_some, [], sym, subst, ap, ap₂, ◌∙◌, drop}
use Rattle.std.specs.Option.{option_map}
use Rattle.std.proofs.lemmas.List.{get_or-drop, take_rest}
use Rattle.ipc_frame.specs.Versions.{version_of}
use Rattle.ipc_frame.specs.Numbers.{number_in, fields_in}
use Rattle.ipc_frame.specs.Frames.{widths}
use Rattle.ipc_frame.specs.Reading.{frame_of}
use Rattle.ipc_frame.specs.declared.frame.Frame.TheVariants as frame
use Rattle.ipc_frame.proofs.JudgeLemmas.{number_one}
use Rattle.ipc_frame.proofs.decoding.read_numbers.Goals as goal

pub returns-in-Refused : goal.returns-in-Refused
returns-in-Refused c = λ tail. rw c.in-Refused.is (ap (λ n. Some (frame.Refused n)) (number_one c.args.head.now))

pub returns-in-Fault : goal.returns-in-Fault
returns-in-Fault c = λ tail. rw c.in-Fault.is (ap₂ (λ a b. Some (frame.Fault a b)) (number_one c.args.head.now) (number_one (drop 1 c.args.head.now) ∙ get_or-drop 1 c.args.head.now 0 0))

-- none is mapped to none
none_mapped : {X Y : Type 0} (f : X → Y) (o : Option X) → o ≡ None → is_some (option_map f o) ≡ true → ⊥
none_mapped f None e h = cc
none_mapped f (Some x) e h = cc

pub unreachable-requires : goal.unreachable-requires
unreachable-requires c =
    let head = c.args.head.now in
    let number : c.read_u16-in-HelloTwo.result ≡ number_in 2 (drop 2 head) = c.read_u16-in-HelloTwo.ensures ∙ ap (number_in 2) (take_rest head 2) in
    let none : version_of (number_in 2 (drop 2 head)) ≡ None = sym (ap version_of number) ∙ (sym c.named.ensures ∙ c.in-None.is) in
    let known = subst (λ kind. is_some (frame_of kind (fields_in (widths kind) head) []) ≡ true) c.in-HelloTwo.is (c.requires.known []) in
    none_mapped (frame.Hello (number_in 2 head)) (version_of (number_in 2 (drop 2 head))) none known
