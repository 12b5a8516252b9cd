-- Clauses on an answer that may be absent.
use Rattle.std.proofs.Common.{◌≡◌, Option, Some, None, IfSome, Bool, true, false, IsSome, Result, Ok, Err, sym, ap, subst}
use Rattle.std.specs.Option.{SomeIff, IsSomeAnd}

pub IfSome-from_iff : {T : Type 0} {P : Type 0} (F : T → Type 0) (r : Option T) (v : T) → SomeIff r P v → (P → F v) → IfSome r F
IfSome-from_iff F None v h f = tt
IfSome-from_iff F (Some x) v h f = subst F (sym h.1) (f h.0)

pub Some-from_iff : {T : Type 0} {P : Type 0} (r : Option T) (v : T) → SomeIff r P v → P → r ≡ Some v
Some-from_iff None v h p = absurd (h p)
Some-from_iff (Some x) v h p = ap Some h.1

pub IfSome-weaker : {T : Type 0} (o : Option T) (P Q : T → Type 0) → ((x : T) → P x → Q x) → IfSome o P → IfSome o Q
IfSome-weaker None P Q f h = tt
IfSome-weaker (Some x) P Q f h = f x h

pub false_not : {P : Type 0} (b : Bool) → b ≡ false → (P → b ≡ true) → P → ⊥
false_not b h f p = cc (h, f p)

pub none_of : {T : Type 0} (P : T → Type 0) (o : Option T) → o ≡ None → IsSomeAnd o P → ⊥
none_of P None e h = h
none_of P (Some x) e h = cc

pub is_some_and : {T : Type 0} (P : T → Type 0) (o : Option T) (x : T) → o ≡ Some x → IsSomeAnd o P → P x
is_some_and P None x e h = absurd h
is_some_and P (Some y) x e h = let same : y ≡ x = cc in subst P same h

pub some_same : {T : Type 0} (x y : T) → Some x ≡ Some y → x ≡ y
some_same x y e = cc

pub none_is_not : {T : Type 0} (o : Option T) → o ≡ None → IsSome o → ⊥
none_is_not None e h = cc
none_is_not (Some x) e h = cc

pub ok_not_err : {T E : Type 0} (r : Result T E) (x : T) (e : E) → r ≡ Ok x → r ≡ Err e → ⊥
ok_not_err r x e p q = cc

pub some_value : {T : Type 0} (o : Option T) (x : T) → IsSome o → IfSome o (λ y. y ≡ x) → o ≡ Some x
some_value None x s h = cc
some_value (Some y) x s h = ap Some h

pub none_not_some : {T : Type 0} (o : Option T) (x : T) → o ≡ None → o ≡ Some x → ⊥
none_not_some o x p q = cc
