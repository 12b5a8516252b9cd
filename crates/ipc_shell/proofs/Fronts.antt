-- The outputs that a list begins with.
use Rattle.std.proofs.Common.{◌≡◌, refl, sym, ap, subst, ◌∙◌, ℕ, Bool, true, List, [], ◌∷◌, ◌++◌, append_assoc, append-nil, map, Some}
use Rattle.std.proofs.lemmas.Option.{none-some}
use Rattle.ipc_history.specs.Legal.{Legal, Quiet, Follows, is_admissible}
use Rattle.ipc_history.specs.NextOutput.{next_output}
use Rattle.ipc_history.specs.declared.entry.Entry.{Entry}
use Rattle.ipc_history.specs.declared.entry.Entry.TheVariants.{Given, Written}
use Rattle.ipc_history.specs.declared.entry.Input.{Input}
use Rattle.ipc_history.specs.declared.entry.Output.{Output}
use Rattle.ipc_laws.proofs.Histories.{legal_front}

abbrev pub lead : List Entry → List Output
lead [] = []
lead (Written output ∷ rest) = output ∷ lead rest
lead (Given given ∷ rest) = []

-- what may follow
pub follows_next : (P : List Entry) (e : Entry) (rest : List Entry) → Legal (P ++ e ∷ rest) → Follows P e
unfolding Legal
follows_next P e rest h = h P e rest refl

pub given_parts : (P : List Entry) (given : Input) → Follows P (Given given) → Quiet P × (is_admissible P given ≡ true)
unfolding Follows
given_parts P given f = (f.0, f.1)

written_part : (P : List Entry) (output : Output) → Follows P (Written output) → next_output P ≡ Some output
unfolding Follows
written_part P output f = f

-- up to the next input a legal list is legal, and it is quiet there
pub legal_lead : (Q rest : List Entry) → Legal (Q ++ rest) → Legal (Q ++ map Written (lead rest))
legal_lead Q [] h = h
legal_lead Q (Written output ∷ rest) h =
    subst Legal (append_assoc Q (Written output ∷ []) (map Written (lead rest)))
    (legal_lead (Q ++ Written output ∷ []) rest (subst Legal (sym (append_assoc Q (Written output ∷ []) rest)) h))
legal_lead Q (Given given ∷ rest) h = subst Legal (sym (append-nil Q)) (legal_front Q (Given given ∷ rest) h)

pub quiet_lead : (Q rest : List Entry) → Legal (Q ++ rest) → Quiet (Q ++ rest) → Quiet (Q ++ map Written (lead rest))
quiet_lead Q [] h quiet = quiet
quiet_lead Q (Written output ∷ rest) h quiet =
    ap next_output (sym (append_assoc Q (Written output ∷ []) (map Written (lead rest))))
    ∙ quiet_lead (Q ++ Written output ∷ []) rest (subst Legal (sym (append_assoc Q (Written output ∷ []) rest)) h)
    (ap next_output (append_assoc Q (Written output ∷ []) rest) ∙ quiet)
quiet_lead Q (Given given ∷ rest) h quiet = ap next_output (append-nil Q) ∙ (given_parts Q given (follows_next Q (Given given) rest h)).0

-- behind a quiet history it begins with none
pub no_lead : (Q rest : List Entry) → Quiet Q → Legal (Q ++ rest) → lead rest ≡ []
no_lead Q [] quiet h = refl
no_lead Q (Written output ∷ rest) quiet h =
    absurd (none-some output (sym quiet ∙ written_part Q output (follows_next Q (Written output) rest h)))
no_lead Q (Given given ∷ rest) quiet h = refl
