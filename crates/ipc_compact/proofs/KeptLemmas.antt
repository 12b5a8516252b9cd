-- What is kept for so many first numbers.
use Rattle.std.proofs.lemmas.Bool.{false≢true}
use Rattle.std.proofs.lemmas.List.{append-nil, append_assoc, length-append}
use Rattle.std.proofs.Common.{◌≡◌, refl, sym, ap, ◌∙◌, subst, ℕ, zero, suc, add-one, ◌+◌, ◌*◌, ◌≤◌, Bool, true, false, not, if◌then◌else◌, List, [], ◌∷◌, ◌++◌, length, Option, Some, None, option_and_then, arith}
use Rattle.std.specs.Option.{option_map_or}
use Rattle.ipc_history.specs.Calls.{last_call}
use Rattle.ipc_history.specs.Threads.{is_live}
use Rattle.ipc_history.specs.declared.entry.Entry.{Entry}
use Rattle.ipc_threads.specs.Slots.{live_of}
use Rattle.ipc_threads.proofs.Holders.{live_of_is}
use Rattle.ipc_desks.specs.CallsOf.{is_busy}
use Rattle.ipc_compact.specs.Compact.{is_among}
use Rattle.ipc_compact.specs.Partners.{Knows, joined_at, joined_of}
use Rattle.ipc_compact.specs.Kept.{KeptParts, calls_at, calls_for, gathered, kept_call, kept_upto, partner_numbers, partner_threads, partners_at, partners_for, partners_in, threads_at, threads_for, threads_in}
use Rattle.ipc_compact.specs.declared.partners.Joined.{Joined}
use Rattle.ipc_compact.specs.declared.partners.Partner.{Partner}

parts_same : (a b : KeptParts) → a.calls ≡ b.calls → a.partners ≡ b.partners → a.threads ≡ b.threads → a ≡ b
parts_same a b p q r = λ i. record { calls = p i; partners = q i; threads = r i }

-- how much it is

few_numbers : (p : Option Partner) → length (partner_numbers p) ≤ 1
few_numbers None = omega arith
few_numbers (Some p) = omega arith

few_threads : (p : Option Partner) → length (partner_threads p) ≤ 2
few_threads None = omega arith
few_threads (Some p) = omega arith

few_calls_for : (H : List Entry) (o : Option ℕ) → length (calls_for H o) ≤ 1
few_calls_for H None = omega arith
few_calls_for H (Some n) = omega arith

few_partners_for : (H : List Entry) (o : Option ℕ) → length (partners_for H o) ≤ 2
few_partners_for H None = omega arith
few_partners_for H (Some n) = let j = joined_of H n in omega (arith, length-append (partner_numbers j.receiver) (partner_numbers j.sender), few_numbers j.receiver, few_numbers j.sender)

few_threads_for : (H : List Entry) (o : Option ℕ) → length (threads_for H o) ≤ 5
few_threads_for H None = omega arith
few_threads_for H (Some n) = let j = joined_of H n in omega (arith, length-append (partner_threads j.receiver) (partner_threads j.sender), few_threads j.receiver, few_threads j.sender)

few_at : (f : ℕ → List ℕ) (most : ℕ) → ((t : ℕ) → length (f t) ≤ most) → (o : Option ℕ) → length (option_map_or f o []) ≤ most
few_at f most each None = omega arith
few_at f most each (Some t) = each t

gathered_few : (f : ℕ → List ℕ) (most : ℕ) → ((k : ℕ) → length (f k) ≤ most) → (count : ℕ) → length (gathered f count) ≤ count * most
gathered_few f most each zero = omega arith
gathered_few f most each (suc count) = let again = gathered_few f most each count in let one = each count in let all = length-append (gathered f count) (f count) in let more : suc count * most ≡ count * most + most = grind arith in omega (arith, again, one, all, more)

module _ (H : List Entry) (taken : List ℕ) (count : ℕ) where
  few_calls : length (gathered (calls_at H taken) count) ≤ count * 1
  few_calls = gathered_few _ 1 (λ k. few_at (λ t. calls_for H (kept_call H taken t)) 1 (λ t. few_calls_for H (kept_call H taken t)) (live_of H k)) count

  few_partners : length (gathered (partners_at H taken) count) ≤ count * 2
  few_partners = gathered_few _ 2 (λ k. few_at (λ t. partners_for H (kept_call H taken t)) 2 (λ t. few_partners_for H (kept_call H taken t)) (live_of H k)) count

  few_all : length (gathered (threads_at H taken) count) ≤ count * 6
  few_all = gathered_few _ 6 (λ k. few_at (λ t. t ∷ threads_for H (kept_call H taken t)) 6 (λ t. let few = few_threads_for H (kept_call H taken t) in omega (arith, few)) (live_of H k)) count

  pub within : (kept : KeptParts) → kept ≡ kept_upto H taken count → (length kept.calls ≤ count) × (length kept.partners ≤ count * 2) × (length kept.threads ≤ count * 6)
  unfolding kept_upto
  within kept is = rw is ((let few = few_calls in omega (arith, few)), few_partners, few_all)

-- one more number

pub busy_call : (H : List Entry) (taken : List ℕ) (t : ℕ) → is_busy H taken t ≡ true → (n : ℕ) × (last_call H t ≡ Some n) × (kept_call H taken t ≡ Some n)
unfolding is_busy kept_call
busy_call H taken t busy = go (last_call H t) refl busy
  where
    go : (o : Option ℕ) → last_call H t ≡ o → option_map_or (λ n. not (is_among n taken)) o false ≡ true → (n : ℕ) × (last_call H t ≡ Some n) × (option_and_then (λ n. if is_among n taken then None else Some n) (last_call H t) ≡ Some n)
    go None last h = absurd (false≢true h)
    go (Some n) last h = (n, last, rw (last, untaken (is_among n taken) h) refl)
      where
        untaken : (b : Bool) → not b ≡ true → b ≡ false
        untaken b h = grind arith

pub idle_call : (H : List Entry) (taken : List ℕ) (t : ℕ) → is_busy H taken t ≡ false → kept_call H taken t ≡ None
unfolding is_busy kept_call
idle_call H taken t idle = go (last_call H t) idle
  where
    go : (o : Option ℕ) → option_map_or (λ n. not (is_among n taken)) o false ≡ false → option_and_then (λ n. if is_among n taken then None else Some n) o ≡ None
    go None h = refl
    go (Some n) h = rw (taken_is (is_among n taken) h) refl
      where
        taken_is : (b : Bool) → not b ≡ false → b ≡ true
        taken_is b h = grind arith

module _ (H : List Entry) (taken : List ℕ) (k : ℕ) (was : KeptParts) (is : was ≡ kept_upto H taken k) where
  next_more : (new : KeptParts) → new.calls ≡ was.calls ++ calls_at H taken k → new.partners ≡ was.partners ++ partners_at H taken k → new.threads ≡ was.threads ++ threads_at H taken k → new ≡ kept_upto H taken (suc k)
  unfolding kept_upto
  next_more new c p t = parts_same new _ (c ∙ ap (λ w. w.calls ++ calls_at H taken k) is) (p ∙ ap (λ w. w.partners ++ partners_at H taken k) is) (t ∙ ap (λ w. w.threads ++ threads_at H taken k) is)

  one_more : (new : KeptParts) → new.calls ≡ was.calls ++ calls_at H taken k → new.partners ≡ was.partners ++ partners_at H taken k → new.threads ≡ was.threads ++ threads_at H taken k → new ≡ kept_upto H taken (k + 1)
  one_more new c p t = subst (λ m. new ≡ kept_upto H taken m) (sym (add-one k)) (next_more new c p t)

  pub none_more : live_of H k ≡ None → was ≡ kept_upto H taken (k + 1)
  none_more none = one_more was (sym (rw none (append-nil was.calls))) (sym (rw none (append-nil was.partners))) (sym (rw none (append-nil was.threads)))

  module _ (t : ℕ) (lives : live_of H k ≡ Some t) where
    pub alive : is_live H t ≡ true
    alive = (live_of_is H k t lives).live

    pub idle_more : (new : KeptParts) → is_busy H taken t ≡ false → new ≡ record was { threads = was.threads ++ t ∷ [] } → new ≡ kept_upto H taken (k + 1)
    idle_more new idle at =
        let none = idle_call H taken t idle in
        rw at (one_more (record was { threads = was.threads ++ t ∷ [] }) (sym (rw (lives, none) (append-nil was.calls))) (sym (rw (lives, none) (append-nil was.partners))) (rw (lives, none) refl))

    pub busy_more : (table : List Joined) → Knows H table → is_busy H taken t ≡ true → (between new : KeptParts) → between ≡ record was { threads = was.threads ++ t ∷ [] } → (j : Joined) → j ≡ joined_at table k → new.calls ≡ between.calls ++ j.number ∷ [] → new.partners ≡ between.partners ++ partners_in j → new.threads ≡ between.threads ++ threads_in j → new ≡ kept_upto H taken (k + 1)
    unfolding joined_of
    busy_more table knows busy between new at j read c p r =
        let last = busy_call H taken t busy in
        let known : j ≡ joined_of H last.0 = read ∙ (ap (joined_at table) (sym (live_of_is H k t lives).number) ∙ knows.known t last.0 alive last.1) in
        one_more new
        (c ∙ rw (at, known, lives, last.2) refl)
        (p ∙ rw (at, known, lives, last.2) refl)
        (r ∙ rw (at, known, lives, last.2) (append_assoc was.threads (t ∷ []) (threads_in (joined_of H last.0))))
