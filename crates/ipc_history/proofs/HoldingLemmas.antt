-- What is held: at the start, after one more entry, and where some are let go.
use Rattle.std.proofs.lemmas.Bool.{false≢true, true≢false}
use Rattle.std.proofs.lemmas.List.{drop-append-le, drop-drop, length_push, take-append-drop}
use lib.Seq.{take-add, take-append_seam, drop-append_seam}
use Rattle.std.proofs.lemmas.List.Elements.{All-nil, All-append, All-cons, All-head, All-tail, All-take, All-drop, All-push, All-weaker, All-contains_itself, Contains-append_left, Contains-push}
use Rattle.std.proofs.Common.{◌≡◌, refl, sym, ap, ◌∙◌, subst, slice_index_or, ℕ, ◌+◌, ◌-◌, ◌^◌, ◌<◌, ◌≤◌, Bool, true, false, ◌||◌, ◌&&◌, List, [], ◌∷◌, ◌++◌, length, take, drop, Option, Some, None, is_some, All, Contains, if◌then◌else◌, nat_lt, arith}
use Rattle.std.specs.List.{list_any}
use Rattle.std.specs.Option.{option_or}
use Rattle.ipc_history.specs.CallParts.{CallParts}
use Rattle.ipc_history.specs.Calls.{call_at, caller_of, from_of, is_called, to_of}
use Rattle.ipc_history.specs.Entries.{call_in, calls, closes, ends_send, breaks}
use Rattle.ipc_history.specs.Holding.{HasCall, Holds, IsHeld, reached}
use Rattle.ipc_history.specs.Keeping.{is_at, keeps, kept_ahead}
use Rattle.ipc_history.specs.HistoryParts.{HeldParts, HistoryParts}
use Rattle.ipc_history.specs.Legal.{Legal}
use Rattle.ipc_history.specs.Phases.{is_over, is_sent}
use Rattle.ipc_history.specs.Threads.{has_broken}
use Rattle.ipc_history.specs.Words.{first_some}
use Rattle.ipc_history.specs.declared.entry.Entry.{Entry}
use Rattle.ipc_history.specs.declared.entry.Entry.TheVariants.{Given, Written}
use Rattle.ipc_history.specs.declared.entry.Input.TheVariants.{At, Opened, Called, Exreg, Broke, Moved}
use Rattle.ipc_history.proofs.EnteredOnce.{entered_once, open_was_entered, silent_call}

any_first : (b : Bool) (xs ys : Bool) → (xs ≡ true → ys ≡ true) → (b || xs) ≡ true → (b || ys) ≡ true
any_first true xs ys up h = refl
any_first false xs ys up h = up h

any_push : (test : Entry → Bool) (P : List Entry) (e : Entry) → list_any test P ≡ true → list_any test (P ++ e ∷ []) ≡ true
any_push test [] e h = absurd (false≢true h)
any_push test (x ∷ P) e h = any_first (test x) (list_any test P) (list_any test (P ++ e ∷ [])) (any_push test P e) h

or_three : {X : Type 0} (a b c : Option X) → option_or a (option_or b c) ≡ option_or (option_or a b) c
or_three None b c = refl
or_three (Some x) b c = refl

first_push : {X : Type 0} (f : Entry → Option X) (P : List Entry) (e : Entry) → first_some f (P ++ e ∷ []) ≡ option_or (first_some f P) (option_or (f e) None)
first_push f [] e = refl
first_push f (x ∷ P) e = ap (option_or (f x)) (first_push f P e) ∙ or_three (f x) (first_some f P) (option_or (f e) None)

some_or : {X : Type 0} (a b : Option X) → is_some (option_or a b) ≡ (is_some a || is_some b)
some_or None b = refl
some_or (Some x) b = refl

none_or : (b : Bool) → (b || false) ≡ b
none_or b = grind arith

called_push : (P : List Entry) (e : Entry) (n : ℕ) → is_called (P ++ e ∷ []) n ≡ (is_called P n || is_some (call_in n e))
unfolding is_called call_at
called_push P e n = ap is_some (first_push (call_in n) P e) ∙ (some_or (first_some (call_in n) P) (option_or (call_in n e) None) ∙ ap (λ b. is_some (first_some (call_in n) P) || b) (some_or (call_in n e) None ∙ none_or (is_some (call_in n e))))

at_push : (P : List Entry) (e : Entry) (n : ℕ) (c : ℕ × CallParts) → call_at P n ≡ Some c → call_at (P ++ e ∷ []) n ≡ Some c
unfolding call_at
at_push P e n c h = first_push (call_in n) P e ∙ rw h refl

over_grows : (a b s f t a' b' s' f' t' : Bool) → (a ≡ true → a' ≡ true) → (b ≡ true → b' ≡ true) → (s ≡ true → s' ≡ true) → f ≡ f' → t ≡ t' → (a || b || (f && (s || t))) ≡ true → (a' || b' || (f' && (s' || t'))) ≡ true
over_grows false false s f t a' b' s' f' t' h i j p q o = grind arith
over_grows true b s f t a' b' s' f' t' h i j p q o = let up = h refl in grind arith
over_grows false true s f t a' b' s' f' t' h i j p q o = let up = i refl in grind arith

some_is : {X : Type 0} (o : Option X) → is_some o ≡ true → (x : X) × (o ≡ Some x)
some_is None h = absurd (false≢true h)
some_is (Some x) h = (x, refl)

-- a call that was entered and is over stays over
over_stays : (P : List Entry) (e : Entry) (n : ℕ) → is_called P n ≡ true → is_over P n ≡ true → is_over (P ++ e ∷ []) n ≡ true
unfolding is_over is_called is_sent has_broken caller_of from_of to_of
over_stays P e n called over =
    let at = some_is (call_at P n) called in
    let before : call_at P n ≡ Some at.0 = at.1 in
    let after : call_at (P ++ e ∷ []) n ≡ Some at.0 = at_push P e n at.0 before in
    over_grows _ _ _ _ _ _ _ _ _ _ (any_push (closes n) P e) (λ h. rw (after) (any_push (breaks at.0.0) P e (rw before at h))) (any_push (ends_send n) P e) (rw (before, after) refl) (rw (before, after) refl) over

or_left : (a b : Bool) → a ≡ true → (a || b) ≡ true
or_left a b h = grind arith

or_right : (a b : Bool) → b ≡ true → (a || b) ≡ true
or_right a b h = grind arith

or_second : (a b : Bool) → a ≡ false → (a || b) ≡ true → b ≡ true
or_second a b h o = grind arith

pub empty_holds : Holds [] []
empty_holds = record { among = All-nil (Contains []); called = λ n o. open_was_entered [] n o }

pub all_held : (P : List Entry) → Holds P P
all_held P = record { among = All-contains_itself P; called = λ n o. open_was_entered P n o }

pub pushed_holds : (P held : List Entry) (e : Entry) → Holds P held → Holds (P ++ e ∷ []) (held ++ e ∷ [])
pushed_holds P held e holds = record {
  among = All-push (Contains (P ++ e ∷ [])) held e (All-weaker (Contains P) (Contains (P ++ e ∷ [])) (λ x h. Contains-append_left P (e ∷ []) x h) held holds.among) (Contains-push P e);
  called = λ n o. called_push held e n ∙ still n o (is_called P n) refl (is_over P n) refl;
}
  where
    still : (n : ℕ) → is_over (P ++ e ∷ []) n ≡ false → (a : Bool) → is_called P n ≡ a → (b : Bool) → is_over P n ≡ b → (is_called held n || is_some (call_in n e)) ≡ true
    still n o false was b is = or_right _ _ (or_second _ _ was (sym (called_push P e n) ∙ open_was_entered (P ++ e ∷ []) n o))
    still n o true was false is = or_left _ _ (holds.called n is)
    still n o true was true is = absurd (true≢false (sym (over_stays P e n was is) ∙ o))

some_any : (n : ℕ) (held : List Entry) → is_called held n ≡ list_any (λ e. is_some (call_in n e)) held
unfolding is_called call_at
some_any n [] = refl
some_any n (e ∷ held) = some_or (call_in n e) (first_some (call_in n) held) ∙ ap (λ b. is_some (call_in n e) || b) (some_any n held)

-- what is kept of the front of a list stood there
pub All-kept : (Q : Entry → Type 0) (test : Entry → Bool) (front rest : List Entry) → All Q front → All Q (kept_ahead test front rest)
All-kept Q test [] rest all = all
All-kept Q test (x ∷ front) rest all = go (All-head Q x front all) (All-kept Q test front rest (All-tail Q x front all)) (keeps test x (front ++ rest))
  where
    go : Q x → All Q (kept_ahead test front rest) → (b : Bool) → All Q (if b then x ∷ kept_ahead test front rest else kept_ahead test front rest)
    go one more true = All-cons Q x (kept_ahead test front rest) one more
    go one more false = more

-- a test that is passed stays so where the elements that pass it are kept, and are no At
any_kept : (test q : Entry → Bool) (P front rest : List Entry) → ((e : Entry) → Contains P e → q e ≡ true → (is_at e ≡ false) × (test e ≡ true)) → All (Contains P) front → list_any q front ≡ true → list_any q (kept_ahead test front rest) ≡ true
any_kept test q P [] rest keep among h = h
any_kept test q P (x ∷ front) rest keep among h = go (any_kept test q P front rest keep (All-tail (Contains P) x front among)) (keeps test x (front ++ rest)) refl (q x) refl
  where
    here : q x ≡ true → keeps test x (front ++ rest) ≡ true
    here passes = let it = keep x (All-head (Contains P) x front among) passes in rw (it.0, it.1) refl

    go : (list_any q front ≡ true → list_any q (kept_ahead test front rest) ≡ true) → (b : Bool) → keeps test x (front ++ rest) ≡ b → (c : Bool) → q x ≡ c → list_any q (if b then x ∷ kept_ahead test front rest else kept_ahead test front rest) ≡ true
    go again true is true has = rw has refl
    go again true is false lacks = rw lacks (again (rw lacks at h))
    go again false is true has = absurd (false≢true (sym is ∙ here has))
    go again false is false lacks = again (rw lacks at h)

any_append : (q : Entry → Bool) (xs ys : List Entry) → list_any q (xs ++ ys) ≡ (list_any q xs || list_any q ys)
any_append q [] ys = refl
any_append q (x ∷ xs) ys = rw (any_append q xs ys) (or_assoc (q x) (list_any q xs) (list_any q ys))
  where
    or_assoc : (a b c : Bool) → (a || (b || c)) ≡ ((a || b) || c)
    or_assoc a b c = grind arith

or_either : (a b c : Bool) → (a ≡ true → c ≡ true) → (a || b) ≡ true → (c || b) ≡ true
or_either true b c h o = let up = h refl in grind arith
or_either false b c h o = grind arith

pub called_is : (n : ℕ) (e : Entry) → is_some (call_in n e) ≡ true → calls n e ≡ true
called_is n e h = go (calls n e) refl
  where
    go : (b : Bool) → calls n e ≡ b → calls n e ≡ true
    go true is = is
    go false is = absurd (false≢true (ap is_some (sym (silent_call n e is)) ∙ h))

-- an entry that enters a call is no At
no_moment : (n : ℕ) (e : Entry) → calls n e ≡ true → is_at e ≡ false
no_moment n (Given (Called k thread call)) h = refl
no_moment n (Given (At moment)) h = absurd (false≢true h)
no_moment n (Given (Opened thread space)) h = absurd (false≢true h)
no_moment n (Given (Exreg thread target control)) h = absurd (false≢true h)
no_moment n (Given (Broke thread)) h = absurd (false≢true h)
no_moment n (Given (Moved k count)) h = absurd (false≢true h)
no_moment n (Written output) h = absurd (false≢true h)

-- of so many first entries those are kept that pass a test, which the entries of open calls pass
pub kept_holds : (P held now : List Entry) (test : Entry → Bool) (behind kept : ℕ) → Holds P held → ((n : ℕ) (e : Entry) → is_over P n ≡ false → Contains P e → calls n e ≡ true → test e ≡ true) → take kept now ≡ kept_ahead test (take behind held) (drop behind held) → drop kept now ≡ drop behind held → Holds P now
kept_holds P held now test behind kept holds keeps front rest =
    let few = kept_ahead test (take behind held) (drop behind held) in
    let is : now ≡ few ++ drop behind held = sym (take-append-drop kept now) ∙ rw (front, rest) refl in
    rw is (record {
      among = All-append (Contains P) few (drop behind held) (All-kept (Contains P) test (take behind held) (drop behind held) (All-take (Contains P) behind held holds.among)) (All-drop (Contains P) behind held holds.among);
      called = λ n o. some_any n _ ∙ (any_append _ few (drop behind held) ∙ or_either _ _ _ (any_kept test (λ e. is_some (call_in n e)) P (take behind held) (drop behind held) (λ e inside h. (no_moment n e (called_is n e h), keeps n e o inside (called_is n e h))) (All-take (Contains P) behind held holds.among)) (sym (any_append _ (take behind held) (drop behind held)) ∙ (ap (list_any _) (take-append-drop behind held) ∙ (sym (some_any n held) ∙ holds.called n o))));
    })

called_both : (xs ys : List Entry) (n : ℕ) → is_called (xs ++ ys) n ≡ (is_called xs n || is_called ys n)
called_both xs ys n = some_any n (xs ++ ys) ∙ (any_append _ xs ys ∙ rw (some_any n xs, some_any n ys) refl)

-- the entries that are held in two pieces: those of each are of the past, and each open call is in
-- one
module _ (P held since : List Entry) (holds : Holds P (held ++ since)) where
  pub first_among : All (Contains P) held
  first_among = subst (All (Contains P)) (take-append_seam held since) (All-take (Contains P) (length held) (held ++ since) holds.among)

  pub second_among : All (Contains P) since
  second_among = subst (All (Contains P)) (drop-append_seam held since) (All-drop (Contains P) (length held) (held ++ since) holds.among)

  pub in_neither : (n : ℕ) → is_over P n ≡ false → is_called held n ≡ false → is_called since n ≡ false → ⊥
  in_neither n o one other = false≢true (sym (called_both held since n ∙ rw (one, other) refl) ∙ holds.called n o)

-- an entry of a legal past that enters a call
pub entered_by : (P piece : List Entry) → Legal P → All (Contains P) piece → (n place : ℕ) (found : Entry) → HasCall piece place n → found ≡ slice_index_or piece place found → call_at P n ≡ call_in n found
entered_by P piece legal all n place found has is =
    let here : slice_index_or piece place found ≡ found = sym is in
    let among : Contains P found = subst (Contains P) here (all place found has.0) in
    let enters = ap (calls n) among.2 ∙ (ap (calls n) (sym here) ∙ has.1 found) in
    entered_once P legal n among.0 among.1 found enters ∙ ap (call_in n) among.2

module _ (P items : List Entry) (kept gone : ℕ) (was : IsHeld P items kept gone) where
  -- what stands from a place of the past on
  pub drop_at : (place : ℕ) → kept + gone ≤ place → drop (place - gone) items ≡ drop place P
  drop_at place h =
      let more : place - gone ≡ kept + (place - gone - kept) = omega (arith, h) in
      let all : (kept + gone) + (place - gone - kept) ≡ place = omega (arith, h) in
      ap (λ k. drop k items) more ∙ (sym (drop-drop (place - gone - kept) kept items) ∙ (ap (drop (place - gone - kept)) was.whole ∙ (drop-drop (place - gone - kept) (kept + gone) P ∙ ap (λ k. drop k P) all)))

  -- and what stands before it
  pub take_at : (place : ℕ) → kept + gone ≤ place → take (place - gone) items ≡ take kept items ++ take (place - (kept + gone)) (drop (kept + gone) P)
  take_at place h =
      let more : place - gone ≡ kept + (place - (kept + gone)) = omega (arith, h) in
      ap (λ k. take k items) more ∙ (take-add kept (place - (kept + gone)) items ∙ ap (λ l. take kept items ++ take (place - (kept + gone)) l) was.whole)

  pub held_all : take kept items ++ drop (kept + gone) P ≡ items
  held_all = ap (λ l. take kept items ++ l) (sym was.whole) ∙ take-append-drop kept items

  pub pushed : (e : Entry) → IsHeld (P ++ e ∷ []) (items ++ e ∷ []) kept gone
  pushed e =
      let within = was.within in
      let size = was.size in
      record {
        holds = pushed_holds P items e was.holds;
        within = omega (arith, within, length_push items e);
        whole = drop-append-le kept items (e ∷ []) within ∙ (ap (λ l. l ++ e ∷ []) was.whole ∙ sym (drop-append-le (kept + gone) P (e ∷ []) (omega (arith, within, size))));
        size = omega (arith, size, length_push items e, length_push P e);
        few = was.few;
      }

  pub still_held : (now : List Entry) (test : Entry → Bool) (place k : ℕ) → kept + gone ≤ place → place ≤ length P → length P < 2 ^ 63 → ((n : ℕ) (e : Entry) → is_over P n ≡ false → Contains P e → calls n e ≡ true → test e ≡ true) → k ≤ place - gone → take k now ≡ kept_ahead test (take (place - gone) items) (drop (place - gone) items) → drop k now ≡ drop (place - gone) items → length now + (place - gone) ≡ length items + k → IsHeld P now k (gone + (place - gone - k))
  still_held now test place k low high few keeps less front rest len =
      let size = was.size in
      let all : k + (gone + (place - gone - k)) ≡ place = omega (arith, low, less) in
      record {
        holds = kept_holds P items now test (place - gone) k was.holds keeps front rest;
        within = omega (arith, len, low, high, size, less);
        whole = rest ∙ (drop_at place low ∙ ap (λ n. drop n P) (sym all));
        size = omega (arith, len, low, high, size, less);
        few = omega (arith, few, high, low, less);
      }

module _ (history : HistoryParts) (upto : ℕ) where
  pub reached_least : history.held.whole_from ≤ length history.entries → history.held.whole_from ≤ reached upto history
  reached_least h = go (nat_lt upto history.held.whole_from) refl (nat_lt upto (length history.entries)) refl
    where
      go : (a : Bool) → nat_lt upto history.held.whole_from ≡ a → (b : Bool) → nat_lt upto (length history.entries) ≡ b → history.held.whole_from ≤ reached upto history
      go true i b j = rw i (omega arith)
      go false i true j = rw (i, j) (grind arith)
      go false i false j = rw (i, j) h

  pub reached_most : history.held.whole_from ≤ length history.entries → reached upto history ≤ length history.entries
  reached_most h = go (nat_lt upto history.held.whole_from) refl (nat_lt upto (length history.entries)) refl
    where
      go : (a : Bool) → nat_lt upto history.held.whole_from ≡ a → (b : Bool) → nat_lt upto (length history.entries) ≡ b → reached upto history ≤ length history.entries
      go true i b j = rw i h
      go false i true j = rw (i, j) (grind arith)
      go false i false j = rw (i, j) (omega arith)

pub held_fields : (front front2 : List Entry) (places places2 : List ℕ) (from from2 mark : ℕ) → front ≡ front2 → places ≡ places2 → from ≡ from2 → ◌≡◌ {A = HeldParts} (record { front = front; places = places; whole_from = from; mark = mark }) (record { front = front2; places = places2; whole_from = from2; mark = mark })
held_fields front front2 places places2 from from2 mark f p w = rw (f, p, w) refl
