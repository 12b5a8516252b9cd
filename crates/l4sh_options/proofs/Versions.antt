-- `l4sh --version`.
use Rattle.std.proofs.Common.{◌≡◌, ◌∙◌, ap, inl, inr, refl, subst, sym, List, [], ◌∷◌}
use Rattle.std.specs.Prelude.{Result, Err, codes}
use Rattle.clap.proofs.OnLiterals.{clap_on_literals}
use Rattle.clap.specs.Kinds.{HasKind, Kinds}
use Rattle.clap.specs.Words.{Text, fault_of}
use Rattle.clap.specs.declared.error.Error.{Error}
use Rattle.clap.specs.declared.error.kind.ErrorKind.TheVariants as kind
use Rattle.l4sh_options.specs.Shell.{shell_app}
use Rattle.l4sh_options.specs.Shell.{AsksVersion, TellsVersion}

version_fault : (program : Text) → fault_of shell_app (program ∷ codes "--version" ∷ []) ≡ kind.DisplayVersion ∷ []
unfolding clap_on_literals
version_fault program = refl

-- words that ask for the version have this fault and no other
pub asked : (words : List Text) → AsksVersion words → fault_of shell_app words ≡ kind.DisplayVersion ∷ []
asked words (program, same) = ap (fault_of shell_app) same ∙ version_fault program

told_of : (error : Error) → HasKind (kind.DisplayVersion ∷ []) error → TellsVersion error
told_of error (inl lost) = inr lost
told_of error (inr (inl is)) = inl is
told_of error (inr (inr bad)) = absurd bad

-- an error of that fault tells the version
pub told : {T : Type 0} (result : Result T Error) (error : Error) (kinds : Kinds) → result ≡ Err error → kinds ≡ kind.DisplayVersion ∷ [] → HasKind kinds error
    → TellsVersion error
told result error kinds was same has = told_of error (subst (λ (ks : Kinds). HasKind ks error) same has)

-- there is one
pub is_some_fault : (kinds : Kinds) → kinds ≡ [] → kinds ≡ kind.DisplayVersion ∷ [] → ⊥
is_some_fault kinds none one = let bad : [] ≡ kind.DisplayVersion ∷ [] = sym none ∙ one in cc
