-- The slots of a history are read of what is kept of it and of the base.
use Rattle.std.proofs.lemmas.Bool.{false_from_ne_true}
use Rattle.std.proofs.lemmas.Option.{none-some}
use Rattle.std.proofs.Common.{◌≡◌, refl, sym, ap, ◌∙◌, subst, ℕ, ◌==◌, eqb-true, eq-eqb, Bool, true, false, not, ◌&&◌, List, [], ◌∷◌, Option, Some, None, option_map, find, if◌then◌else◌, arith}
use Rattle.std.specs.Option.{option_or}
use Rattle.ipc_words.specs.ThreadId.{number_of}
use Rattle.ipc_words.specs.Version.{next_version_of}
use Rattle.ipc_history.specs.Words.{last_some}
use Rattle.ipc_history.specs.Entries.{opens, thread_in}
use Rattle.ipc_history.specs.Calls.{caller_of, numbers}
use Rattle.ipc_history.specs.Threads.{is_live}
use Rattle.ipc_history.specs.Phases.{is_over, open_call}
use Rattle.ipc_history.specs.Legal.{Legal}
use Rattle.ipc_history.specs.declared.entry.Entry.{Entry}
use Rattle.ipc_history.specs.declared.entry.Entry.TheVariants.{Given}
use Rattle.ipc_history.specs.declared.entry.Input.TheVariants.{Opened}
use Rattle.std.proofs.lemmas.Option.{cond_some}
use Rattle.ipc_laws.proofs.Growth.{open_is_called}
use Rattle.ipc_laws.proofs.OneOpen.{none_open, one_open}
use Rattle.ipc_laws.proofs.Places.{Place}
use Rattle.ipc_laws.proofs.Tests.{left, not_both, refuted, right}
use Rattle.ipc_threads.specs.Slots.{live_at, live_of, slot_of}
use Rattle.ipc_threads.specs.Standings.{standing_of}
use Rattle.ipc_laws.proofs.Finds.{find_nothing, find_only, find_passes}
use Rattle.ipc_threads.proofs.Holders.{live_of_at, live_of_is}
use Rattle.ipc_compact.specs.Compact.{further_calls, is_among, is_kept, keeps, kept_list, kept_of, last_version}
use Rattle.ipc_compact.specs.SlotsKept.{SlotsKept, live_from, open_from}
use Rattle.ipc_compact.proofs.CallReading as there
use Rattle.ipc_compact.proofs.KeepLemmas.{IsKept, kept_so}
use Rattle.ipc_compact.proofs.Reading as reading
use Rattle.ipc_compact.proofs.SameCompact as compacts
use Rattle.ipc_compact.proofs.StandingReading.{over_same, standing_same}
use Rattle.ipc_compact.proofs.ThreadReading as threads

-- The last of those that are kept

none_left : {Y : Type 0} (test : Entry → Bool) (f : Entry → Option Y) (H : List Entry) → last_some f H ≡ None → last_some f (kept_list test H) ≡ None
none_left test f [] h = refl
none_left {Y} test f (e ∷ H) h = go (none_left test f H) (last_some f H) refl (f e) refl h
  where
    whole : last_some f (kept_list test H) ≡ None → f e ≡ None → (b : Bool) → last_some f (if b then e ∷ kept_list test H else kept_list test H) ≡ None
    whole n m true = rw (n, m) refl
    whole n m false = n

    go : (last_some f H ≡ None → last_some f (kept_list test H) ≡ None) → (a : Option Y) → last_some f H ≡ a → (b : Option Y) → f e ≡ b → option_or (last_some f H) (f e) ≡ None → last_some f (if keeps test e H then e ∷ kept_list test H else kept_list test H) ≡ None
    go again None n None m g = whole (again n) m (keeps test e H)
    go again None n (Some y) m g = absurd (none-some y (sym (rw (n, m) at g)))
    go again (Some y) n b m g = absurd (none-some y (sym (rw n at g)))

last_stays : {Y : Type 0} (test : Entry → Bool) (f : Entry → Option Y) (y : Y) (H : List Entry) → ((e : Entry) → Place H e → f e ≡ Some y → IsKept test e) → last_some f H ≡ Some y → last_some f (kept_list test H) ≡ Some y
last_stays test f y [] kept h = absurd (none-some y h)
last_stays {Y} test f y (e ∷ H) kept h = go (last_stays test f y H later) (last_some f H) refl h
  where
    later : (x : Entry) → Place H x → f x ≡ Some y → IsKept test x
    later x at = kept x (record { front = e ∷ at.front; rest = at.rest; whole = ap (λ l. e ∷ l) at.whole })

    behind : last_some f (kept_list test H) ≡ Some y → (b : Bool) → last_some f (if b then e ∷ kept_list test H else kept_list test H) ≡ Some y
    behind g true = rw g refl
    behind g false = g

    first : last_some f H ≡ None → f e ≡ Some y → (b : Bool) → keeps test e H ≡ b → last_some f (if b then e ∷ kept_list test H else kept_list test H) ≡ Some y
    first n g true is = rw (none_left test f H n) g
    first n g false is = not_both (kept_so test e H (kept e (record { front = []; rest = H; whole = refl }) g)) is

    go : (last_some f H ≡ Some y → last_some f (kept_list test H) ≡ Some y) → (a : Option Y) → last_some f H ≡ a → option_or (last_some f H) (f e) ≡ Some y → last_some f (if keeps test e H then e ∷ kept_list test H else kept_list test H) ≡ Some y
    go again None n g = first n (rw n at g) (keeps test e H) refl
    go again (Some z) n g = behind (again (n ∙ (rw n at g))) (keeps test e H)

first_of : (a b c : Bool) → (a && b && c) ≡ true → a ≡ true
first_of a b c h = grind arith

second_of : (a b c : Bool) → (a && not b && c) ≡ true → b ≡ false
second_of a b c h = grind arith

third_of : (a b c : Bool) → (a && b && not c) ≡ true → c ≡ false
third_of a b c h = grind arith

opens_in : (k t : ℕ) (e : Entry) → thread_in k e ≡ Some t → opens t e ≡ true
opens_in k t (Given (Opened u space)) h = let c = cond_some (number_of u == k) u t h in eq-eqb u t c.1
opens_in k t _ h = absurd (none-some t h)

module _ (H : List Entry) (taken : List ℕ) (legal : Legal H) where
  abbrev K : List Entry
  K = kept_of H taken

  abbrev over : List ℕ
  over = further_calls H taken

  -- the live thread of a number
  live_last : (k t : ℕ) → is_live H t ≡ true → last_some (thread_in k) H ≡ Some t → last_some (thread_in k) K ≡ Some t
  unfolding kept_of
  live_last k t l h = last_stays (is_kept H taken) (thread_in k) t H each h
    where
      each : (e : Entry) → Place H e → thread_in k e ≡ Some t → IsKept (is_kept H taken) e
      each e at is = let o = threads.opened_is H taken t e (opens_in k t e is) in (o.0, o.1 ∙ threads.lives_stays H taken t l)

  live_some : (k t : ℕ) → last_some (thread_in k) K ≡ Some t → is_live K t ≡ true → live_of K k ≡ Some t
  unfolding live_of
  live_some k t h l = rw (h, l) refl

  live_kept : (k : ℕ) → live_of K k ≡ live_of H k
  live_kept k = go (live_of H k) refl (live_of K k) refl
    where
      go : (a : Option ℕ) → live_of H k ≡ a → (b : Option ℕ) → live_of K k ≡ b → live_of K k ≡ live_of H k
      go (Some t) h b g =
          let is = live_of_is H k t h in
          live_some k t (live_last k t is.live is.last) (threads.live_read H taken t ∙ is.live) ∙ sym h
      go None h None g = g ∙ sym h
      go None h (Some t) g =
          let is = live_of_is K k t g in
          absurd (none-some t (sym h ∙ (ap (live_of H) (sym is.number) ∙ live_of_at H legal t (sym (threads.live_read H taken t) ∙ is.live))))

  -- its open call
  abbrev test : ℕ → ℕ → Bool
  test t n = (caller_of K n == t) && not (is_over K n) && not (is_among n over)

  is_open : (t n : ℕ) → test t n ≡ true → (is_over H n ≡ false) × (caller_of H n ≡ t)
  is_open t n h =
      let o : is_over K n ≡ false = second_of (caller_of K n == t) (is_over K n) (not (is_among n over)) h in
      let f : is_among n over ≡ false = third_of (caller_of K n == t) (not (is_over K n)) (is_among n over) h in
      let k = there.there H taken n (compacts.called_any K n (open_is_called K n o)) f in
      (sym (over_same H taken n k) ∙ o, sym (reading.caller_read H taken n k) ∙ eqb-true (caller_of K n) t (first_of (caller_of K n == t) (not (is_over K n)) (not (is_among n over)) h))

  passes : (n : ℕ) → is_over H n ≡ false → test (caller_of H n) n ≡ true
  passes n o =
      let k = compacts.kept_open H taken legal n o in
      rw (reading.caller_read H taken n k, over_same H taken n k, o, there.not_further H taken n k, eq-eqb (caller_of H n) (caller_of H n) refl) refl

  in_kept : (n : ℕ) → is_over H n ≡ false → is_among n (numbers K) ≡ true
  in_kept n o =
      let k = compacts.kept_open H taken legal n o in
      compacts.among_numbers K n (compacts.called_same K H n (reading.call_read H taken n k) (open_is_called H n o))

  open_parts : (t c : ℕ) → open_call H t ≡ Some c → ((caller_of H c == t) && not (is_over H c)) ≡ true
  unfolding open_call
  open_parts t c h = find_passes (λ n. (caller_of H n == t) && not (is_over H n)) c (numbers H) h

  open_kept : (t : ℕ) → open_from K over t ≡ open_call H t
  open_kept t = go (open_call H t) refl
    where
      go : (r : Option ℕ) → open_call H t ≡ r → find (test t) (numbers K) ≡ open_call H t
      go None h = find_nothing (test t) (numbers K) (λ n. false_from_ne_true (test t n) (λ p.
          let is = is_open t n p in
          not_both (none_open H n (open_is_called H n is.0) (ap (open_call H) is.1 ∙ h)) is.0)) ∙ sym h
      go (Some c) h =
          let p = open_parts t c h in
          let o : is_over H c ≡ false = refuted _ (right (caller_of H c == t) _ p) in
          let by : caller_of H c ≡ t = eqb-true (caller_of H c) t (left (caller_of H c == t) _ p) in
          find_only (test t) c (numbers K)
          (λ n q. let is = is_open t n q in one_open H legal n c is.0 o (is.1 ∙ sym by))
          (subst (λ t. test t c ≡ true) by (passes c o))
          (in_kept c o)
          ∙ sym h

  -- so all that a slot says of it
  standing_kept : (t : ℕ) → option_map (standing_of K) (open_from K over t) ≡ option_map (standing_of H) (open_call H t)
  standing_kept t = ap (option_map (standing_of K)) (open_kept t) ∙ go (open_call H t) refl
    where
      go : (r : Option ℕ) → open_call H t ≡ r → option_map (standing_of K) r ≡ option_map (standing_of H) r
      go None h = refl
      go (Some c) h = ap (λ s. Some s) (standing_same H taken legal c (refuted _ (right (caller_of H c == t) _ (open_parts t c h))))

  live_same : (t : ℕ) → is_live H t ≡ true → live_at H t ≡ live_from K over t
  unfolding live_at
  live_same t l = rw (threads.space_read H taken t (threads.lives_stays H taken t l), standing_kept t) refl

  live_all : (k : ℕ) → option_map (live_at H) (live_of H k) ≡ option_map (live_from K over) (live_of K k)
  live_all k = go (live_of H k) refl ∙ ap (option_map (live_from K over)) (sym (live_kept k))
    where
      go : (r : Option ℕ) → live_of H k ≡ r → option_map (live_at H) (live_of H k) ≡ option_map (live_from K over) (live_of H k)
      go None h = rw h refl
      go (Some t) h = rw h (ap (λ l. Some l) (live_same t (live_of_is H k t h).live))

  pub slot_same : (k : ℕ) → slot_of H k ≡ record { version = next_version_of (last_version H k); live = option_map (live_from K over) (live_of K k) }
  unfolding slot_of
  slot_same k = rw (compacts.version_by H taken legal k, live_all k) refl

pub slots_kept : SlotsKept
slots_kept H taken legal k = slot_same H taken legal k
