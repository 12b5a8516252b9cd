-- Buffer strings that are within the limits pass the test of it.
use Rattle.std.proofs.lemmas.Bool.{lt-ltb, le-leb}
use Rattle.std.proofs.lemmas.List.Elements.{All-head, All-tail}
use Rattle.std.proofs.Common.{◌≡◌, refl, ◌^◌, Bool, true, ◌&&◌, List, [], ◌∷◌, All, nat_lt, arith}
use Rattle.std.specs.List.{list_all}
use Rattle.ipc_items.specs.Buffers.{AreBuffers, IsBuffer}
use Rattle.ipc_items.specs.declared.buffer_list.Substring.{Substring}
use Rattle.ipc_history.specs.CallParts.{are_buffers, is_buffer}

both : (a b : Bool) → a ≡ true → b ≡ true → (a && b) ≡ true
both a b p q = grind arith

-- what holds of each element passes a test of each
passes : {X : Type 0} (P : X → Type 0) (test : X → Bool) → ((x : X) → P x → test x ≡ true) → (xs : List X) → All P xs → list_all test xs ≡ true
passes P test h [] all = refl
passes P test h (x ∷ xs) all = both (test x) (list_all test xs) (h x (All-head P x xs all)) (passes P test h xs (All-tail P x xs all))

is_buffer_passes : (parts : List Substring) → IsBuffer parts → is_buffer parts ≡ true
is_buffer_passes parts h = both _ _ (lt-ltb _ _ h.0) (passes _ (λ part. nat_lt part.length (2 ^ 54)) (λ part below. lt-ltb _ _ below) parts h.1)

pub are_buffers_passes : (buffers : List (List Substring)) → AreBuffers buffers → are_buffers buffers ≡ true
are_buffers_passes buffers h = both _ _ (passes _ is_buffer is_buffer_passes buffers h.0) (le-leb _ _ h.1)
