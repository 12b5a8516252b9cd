-- Each step keeps the rule.
use Rattle.std.proofs.Common.{◌≡◌, ◌==◌, ◌≢◌, ◌⊎◌, ℕ, zero, suc, List, [], ◌∷◌, ◌++◌, length, set, Bool, true, false, refl, sym, ap, ◌∙◌, subst, inl, inr, ⊎_elim, arith}
use Rattle.std.specs.Prelude.{Contains}
use Rattle.std.proofs.lemmas.List.{append-nil}
use Rattle.std.proofs.lemmas.List.Elements.{Contains-append_right}
use Rattle.std.specs.List.{IsDistinct}
use mathlib.Core.List.{IsPrefix}
use mathlib.Core.Option.{some, none, some-ne-none, some-injective}
use lib.ListN.{get_elem?}
use Rattle.atomic_table.specs.Table.{Allows, Joins, Splits, keeps, opening, step}
use Rattle.atomic_table.proofs.Lists.{at_set, set_again}
use Rattle.ipc_base.specs.declared.shared_log.rule.View.{View}
use Rattle.ipc_base.specs.LogViews.{Known, enrolled, fronting, gathering, joined, keeping, meeting, nobody, owning, parted, rolling}
use Rattle.ipc_base.specs.LogRules.{AddsOne, BeginsOne, CallsRoll, ComparesTwo, EndsOne, EndsOnce, Fits, IsNobodys, IsOnlyOf, IsRolled, IsTrueOf, KeepsOne, Kept, LooksOn, added, begun, entries_of, first_of, numbers_of}
use mathlib.Core.Logic.{dite}
use native.Mathlib.Decide.{ℕ_discrete}
use Rattle.ipc_base.proofs.LogFitting.{fits_given, fits_on, fits_rolled, is_apart, off, rolled_on}
use Rattle.ipc_base.proofs.LogRows.{ends_last_on, entries_more, entries_one, entries_same, given, given_same, in_one, not_in_none, numbers_more, numbers_one, numbers_same, once_none, once_on, prefix_either, prefix_nothing, prefix_on, set_all, snoc_all, still_there, there_or, was_there}

module _ {E : Type 0} (is_of : E → ℕ → Bool) (begins ends : E → List ℕ) where
  -- an entry is nobody's, but perhaps that of the owner whom a pass has
  abbrev IsItsOrNobodys : View E → E → Type 0
  IsItsOrNobodys v e = (number : ℕ) → ((v.owns ≡ true) × (number ≡ v.number)) ⊎ (is_of e number ≡ false)

  -- who knows nothing
  fits_nobody : (seat gatherer : ℕ) (holder : ℕ → ℕ) (log : List E) (j : ℕ) → Fits is_of begins ends seat gatherer holder log j nobody
  fits_nobody seat gatherer holder log j = record {
    seen = prefix_nothing log;
    before = prefix_nothing log;
    whole = off;
    mine = off;
    began = off;
    alone = off;
    lives = off;
    rolls = off;
  }

  -- who knows the whole log is told what is true
  is_true : (views : List (View E)) (by : ℕ) (v : View E) → (k : Kept is_of begins ends views) → get_elem? views by ≡ some v → v.keeps ≡ true → IsTrueOf is_of v v.seen
  is_true views by v k at keeper =
      let f = k.fits by v at in
      let same = sym (f.whole keeper).1 in
      (subst (λ l. IsPrefix v.before l) same f.before, λ o. f.mine o ∙ ap (entries_of is_of v.number) same)

  -- an entry came with which nobody ends, and that is nobody's who has ended
  once_same : (log : List E) (e : E) → ends e ≡ [] → ((number : ℕ) → Contains (numbers_of ends log) number → is_of e number ≡ false)
      → EndsOnce is_of ends log → EndsOnce is_of ends (log ++ e ∷ [])
  once_same log e quiet apart h = record {
    over = ends_last_on is_of ends log e h.over apart;
    once = subst (λ (ns : List ℕ). IsDistinct (λ (a b : ℕ). a == b) ns) (sym (numbers_same ends log e quiet)) h.once;
  }

  kept_adds : (views : List (View E)) (by : ℕ) (v : View E) (e : E) → (k : Kept is_of begins ends views) → get_elem? views by ≡ some v → v.keeps ≡ true
      → IsItsOrNobodys v e → ends e ≡ [] → Kept is_of begins ends (set views by (added is_of v (e ∷ [])))
  kept_adds views by v e k at keeper its quiet =
      let f = k.fits by v at in
      let known = f.whole keeper in
      record {
        seat = k.seat;
        gatherer = k.gatherer;
        holder = k.holder;
        log = k.log ++ e ∷ [];
        fits = set_all (Fits is_of begins ends k.seat k.gatherer k.holder (k.log ++ e ∷ [])) views by (added is_of v (e ∷ []))
            (λ j u apart there. fits_on is_of begins ends k.seat k.gatherer k.holder k.log e j u
            (λ kp. apart (((k.fits j u there).whole kp).0 ∙ sym known.0))
            (λ o. ⊎_elim
            (λ (x : (v.owns ≡ true) × (u.number ≡ v.number)). absurd (is_apart is_of begins ends k.seat k.gatherer k.holder k.log v.number by j u (f.alone x.0) apart (k.fits j u there) o x.1))
            (λ (x : is_of e u.number ≡ false). x)
            (its u.number))
            (λ _. not_in_none (ends e) u.number quiet)
            (λ _. quiet)
            (k.fits j u there))
            (record {
              seen = ([], append-nil (v.seen ++ e ∷ []) ∙ ap (λ l. l ++ e ∷ []) known.1);
              before = prefix_on v.before k.log (e ∷ []) f.before;
              whole = λ _. (known.0, ap (λ l. l ++ e ∷ []) known.1);
              mine = λ o. ap (λ l. l ++ entries_of is_of v.number (e ∷ [])) (f.mine o) ∙ sym (entries_more is_of v.number k.log (e ∷ []));
              began = λ o. still_there begins k.log (e ∷ []) v.number (f.began o);
              alone = f.alone;
              lives = λ o there. f.lives o (was_there ends k.log e v.number quiet there);
              rolls = λ r. ((f.rolls r).0, rolled_on ends v.last k.log e quiet (f.rolls r).1);
            });
        others = λ number none. ⊎_elim
            (λ (x : (v.owns ≡ true) × (number ≡ v.number)). absurd (none (subst (λ n. Contains (numbers_of begins (k.log ++ e ∷ [])) n) (sym x.1)
            (still_there begins k.log (e ∷ []) v.number (f.began x.0)))))
            (λ (x : is_of e number ≡ false). entries_same is_of number k.log e x ∙ k.others number (λ h. none (still_there begins k.log (e ∷ []) number h)))
            (its number);
        had = λ number there. still_there begins k.log (e ∷ []) number (k.had number (was_there ends k.log e number quiet there));
        once = once_same k.log e quiet (λ number there. ⊎_elim
            (λ (x : (v.owns ≡ true) × (number ≡ v.number)). absurd (f.lives x.0 (subst (λ n. Contains (numbers_of ends k.log) n) x.1 there)))
            (λ (x : is_of e number ≡ false). x)
            (its number)) k.once;
      }

  -- an entry came from which on there is an owner
  abbrev owner_of : List E → E → ℕ → View E
  owner_of seen e number = record { keeps = true; seen = seen ++ e ∷ []; before = []; owns = true; number = number; mine = e ∷ []; gathers = false; last = [] }

  begun_is : (seen : List E) (e : E) (number : ℕ) → begins e ≡ number ∷ [] → is_of e number ≡ true
      → begun is_of begins (keeping seen) (e ∷ []) ≡ owner_of seen e number
  begun_is seen e number begin its =
      ap (λ (ns : List ℕ). record { keeps = true; seen = seen ++ e ∷ []; before = []; owns = true; number = first_of (ns ++ []); mine = entries_of is_of (first_of (ns ++ [])) (e ∷ []); gathers = false; last = [] }) begin
      ∙ ap (λ (own : List E). record { keeps = true; seen = seen ++ e ∷ []; before = []; owns = true; number = number; mine = own; gathers = false; last = [] }) (entries_one is_of number e its)

  kept_begins : (views : List (View E)) (by : ℕ) (seen : List E) (e : E) (number : ℕ) → (k : Kept is_of begins ends views) → get_elem? views by ≡ some (keeping seen)
      → begins e ≡ number ∷ [] → (Contains (numbers_of begins seen) number → ⊥) → IsOnlyOf is_of e number → ends e ≡ []
      → Kept is_of begins ends (set views by (owner_of seen e number))
  kept_begins views by seen e number k at begin new only quiet =
      let f = k.fits by (keeping seen) at in
      let known = f.whole refl in
      let is_new : Contains (numbers_of begins k.log) number → ⊥ = λ h. new (subst (λ l. Contains (numbers_of begins l) number) (sym known.1) h) in
      let log' : List E = k.log ++ e ∷ [] in
      let there : Contains (numbers_of begins log') number =
      subst (λ l. Contains l number) (sym (numbers_more begins k.log (e ∷ [])))
      (Contains-append_right (numbers_of begins k.log) (numbers_of begins (e ∷ [])) number
      (subst (λ (ns : List ℕ). Contains (ns ++ []) number) (sym begin) (0, omega arith, refl))) in
      record {
        seat = k.seat;
        gatherer = k.gatherer;
        holder = given k.holder number by;
        log = log';
        fits = set_all (Fits is_of begins ends k.seat k.gatherer (given k.holder number by) log') views by (owner_of seen e number)
            (λ j u apart at_j.
            let g = k.fits j u at_j in
            let other : u.owns ≡ true → u.number ≢ number = λ o same. is_new (subst (λ n. Contains (numbers_of begins k.log) n) same (g.began o)) in
            fits_given is_of begins ends k.seat k.gatherer k.holder log' number by j u other
            (fits_on is_of begins ends k.seat k.gatherer k.holder k.log e j u (λ kp. apart ((g.whole kp).0 ∙ sym known.0)) (λ o. only.1 u.number (other o))
            (λ _. not_in_none (ends e) u.number quiet) (λ _. quiet) g))
            (record {
              seen = ([], append-nil (seen ++ e ∷ []) ∙ ap (λ l. l ++ e ∷ []) known.1);
              before = prefix_nothing log';
              whole = λ _. (known.0, ap (λ l. l ++ e ∷ []) known.1);
              mine = λ _. sym (entries_more is_of number k.log (e ∷ []) ∙ (ap (λ l. l ++ entries_of is_of number (e ∷ [])) (k.others number is_new) ∙ entries_one is_of number e only.0));
              began = λ _. there;
              alone = λ _. sym (given_same k.holder number by);
              lives = λ _ ended. is_new (k.had number (was_there ends k.log e number quiet ended));
              rolls = off;
            });
        others = λ n none.
            let apart : n ≢ number = λ same. none (subst (λ m. Contains (numbers_of begins log') m) (sym same) there) in
            entries_same is_of n k.log e (only.1 n apart) ∙ k.others n (λ h. none (still_there begins k.log (e ∷ []) n h));
        had = λ n ended. still_there begins k.log (e ∷ []) n (k.had n (was_there ends k.log e n quiet ended));
        once = once_same k.log e quiet (λ n ended. only.1 n (λ same. is_new (subst (λ m. Contains (numbers_of begins k.log) m) same (k.had n ended)))) k.once;
      }

  -- an entry came with which an owner ends, and who has the roll is told
  kept_ends : (views : List (View E)) (by : ℕ) (v : View E) (e : E) → (k : Kept is_of begins ends views) → get_elem? views by ≡ some v
      → v.keeps ≡ true → v.owns ≡ true → v.gathers ≡ true → IsOnlyOf is_of e v.number → ends e ≡ v.number ∷ []
      → Kept is_of begins ends (set views by (gathering (v.seen ++ e ∷ []) (v.seen ++ e ∷ [])))
  kept_ends views by v e k at keeper owner roll only last =
      let f = k.fits by v at in
      let known = f.whole keeper in
      let log' : List E = k.log ++ e ∷ [] in
      let same : v.seen ++ e ∷ [] ≡ log' = ap (λ l. l ++ e ∷ []) known.1 in
      record {
        seat = k.seat;
        gatherer = k.gatherer;
        holder = k.holder;
        log = log';
        fits = set_all (Fits is_of begins ends k.seat k.gatherer k.holder log') views by (gathering (v.seen ++ e ∷ []) (v.seen ++ e ∷ []))
            (λ j u apart at_j.
            let g = k.fits j u at_j in
            let other : u.owns ≡ true → u.number ≢ v.number = is_apart is_of begins ends k.seat k.gatherer k.holder k.log v.number by j u (f.alone owner) apart g in
            fits_on is_of begins ends k.seat k.gatherer k.holder k.log e j u (λ kp. apart ((g.whole kp).0 ∙ sym known.0)) (λ o. only.1 u.number (other o))
            (λ o there. other o (in_one (ends e) v.number u.number last there)) (λ r. absurd (apart ((g.rolls r).0 ∙ sym (f.rolls roll).0))) g)
            (record {
              seen = ([], append-nil (v.seen ++ e ∷ []) ∙ same);
              before = prefix_nothing log';
              whole = λ _. (known.0, same);
              mine = off;
              began = off;
              alone = off;
              lives = off;
              rolls = λ _. ((f.rolls roll).0, record { began = ([], append-nil (v.seen ++ e ∷ []) ∙ same); ended = ap (numbers_of ends) same });
            });
        others = λ number none.
            let apart : number ≢ v.number = λ is. none (subst (λ n. Contains (numbers_of begins log') n) (sym is) (still_there begins k.log (e ∷ []) v.number (f.began owner))) in
            entries_same is_of number k.log e (only.1 number apart) ∙ k.others number (λ h. none (still_there begins k.log (e ∷ []) number h));
        had = λ number ended. still_there begins k.log (e ∷ []) number (⊎_elim
            (k.had number)
            (λ there. subst (λ n. Contains (numbers_of begins k.log) n) (sym (in_one (ends e) v.number number last there)) (f.began owner))
            (there_or ends k.log e number ended));
        once = record {
          over = ends_last_on is_of ends k.log e k.once.over
              (λ number ended. only.1 number (λ is. f.lives owner (subst (λ n. Contains (numbers_of ends k.log) n) is ended)));
          once = subst (λ (ns : List ℕ). IsDistinct (λ (a b : ℕ). a == b) ns) (sym (numbers_one ends k.log e v.number last))
              (once_on (numbers_of ends k.log) v.number k.once.once (f.lives owner));
        };
      }

  -- who has the roll is told what the log is
  kept_calls : (views : List (View E)) (by : ℕ) (v : View E) → (k : Kept is_of begins ends views) → get_elem? views by ≡ some v → v.keeps ≡ true → v.gathers ≡ true
      → Kept is_of begins ends (set views by (gathering v.seen v.seen))
  kept_calls views by v k at keeper roll =
      let f = k.fits by v at in
      let known = f.whole keeper in
      record {
        seat = k.seat;
        gatherer = k.gatherer;
        holder = k.holder;
        log = k.log;
        fits = set_all (Fits is_of begins ends k.seat k.gatherer k.holder k.log) views by (gathering v.seen v.seen) (λ j u _ at_j. k.fits j u at_j)
            (record {
              seen = f.seen;
              before = prefix_nothing k.log;
              whole = λ _. known;
              mine = off;
              began = off;
              alone = off;
              lives = off;
              rolls = λ _. ((f.rolls roll).0, record { began = f.seen; ended = ap (numbers_of ends) known.1 });
            });
        others = k.others;
        had = k.had;
        once = k.once;
      }

  -- what the roll says is true of the whole log
  is_rolled : (views : List (View E)) (by : ℕ) (v : View E) → (k : Kept is_of begins ends views) → get_elem? views by ≡ some v → v.keeps ≡ true → v.gathers ≡ true
      → IsRolled ends v.last v.seen
  is_rolled views by v k at keeper roll =
      let f = k.fits by v at in
      subst (λ l. IsRolled ends v.last l) (sym (f.whole keeper).1) (f.rolls roll).1

  -- the roll goes to another place
  kept_roll_goes : (views : List (View E)) (by : ℕ) (last : List E) → (k : Kept is_of begins ends views) → get_elem? views by ≡ some (rolling last)
      → Kept is_of begins ends (set views by nobody ++ rolling last ∷ [])
  kept_roll_goes views by last k at =
      let f = k.fits by (rolling last) at in
      let n = length (set views by nobody) in
      record {
        seat = k.seat;
        gatherer = n;
        holder = k.holder;
        log = k.log;
        fits = snoc_all (Fits is_of begins ends k.seat n k.holder k.log) (set views by nobody) (rolling last)
            (λ i w _ there. set_all (Fits is_of begins ends k.seat n k.holder k.log) views by nobody
            (λ j u apart at_j. fits_rolled is_of begins ends k.seat k.gatherer n k.holder k.log j u (λ is. apart (is ∙ sym (f.rolls refl).0)) (k.fits j u at_j))
            (fits_nobody k.seat n k.holder k.log by) i w there)
            (record {
              seen = f.seen;
              before = f.before;
              whole = off;
              mine = off;
              began = off;
              alone = off;
              lives = off;
              rolls = λ _. (refl, (f.rolls refl).1);
            });
        others = k.others;
        had = k.had;
        once = k.once;
      }

  -- who knows the whole log takes in the roll
  kept_takes_roll : (views : List (View E)) (by : ℕ) (v : View E) (other : ℕ) (last : List E) → (k : Kept is_of begins ends views) → get_elem? views by ≡ some v
      → (other ≡ by → ⊥) → get_elem? (set views by (enrolled v (rolling last))) other ≡ some (rolling last)
      → Kept is_of begins ends (set (set views by (enrolled v (rolling last))) other nobody)
  kept_takes_roll views by v other last k at apart there =
      let both = enrolled v (rolling last) in
      let f = k.fits by v at in
      let g = ⊎_elim (λ (x : (other ≡ by) × (both ≡ rolling last)). absurd (apart x.0))
      (λ (x : (other ≢ by) × (get_elem? views other ≡ some (rolling last))). k.fits other (rolling last) x.1)
      (at_set views by other both (rolling last) there) in
      record {
        seat = k.seat;
        gatherer = by;
        holder = k.holder;
        log = k.log;
        fits = set_all (Fits is_of begins ends k.seat by k.holder k.log) (set views by both) other nobody
            (λ i w ne at_i. set_all (λ j u. j ≢ other → Fits is_of begins ends k.seat by k.holder k.log j u) views by both
            (λ j u _ at_j not_it. fits_rolled is_of begins ends k.seat k.gatherer by k.holder k.log j u (λ is. not_it (is ∙ sym (g.rolls refl).0)) (k.fits j u at_j))
            (λ _. record {
              seen = f.seen;
              before = prefix_nothing k.log;
              whole = f.whole;
              mine = off;
              began = off;
              alone = off;
              lives = off;
              rolls = λ _. (refl, (g.rolls refl).1);
            })
            i w at_i ne)
            (fits_nobody k.seat by k.holder k.log other);
        others = k.others;
        had = k.had;
        once = k.once;
      }

  -- who knows the whole log gives the roll back
  kept_parts_roll : (views : List (View E)) (by : ℕ) (v : View E) → (k : Kept is_of begins ends views) → get_elem? views by ≡ some v → v.keeps ≡ true → v.gathers ≡ true
      → Kept is_of begins ends (set views by (keeping v.seen) ++ rolling v.last ∷ [])
  kept_parts_roll views by v k at keeper roll =
      let f = k.fits by v at in
      let n = length (set views by (keeping v.seen)) in
      record {
        seat = k.seat;
        gatherer = n;
        holder = k.holder;
        log = k.log;
        fits = snoc_all (Fits is_of begins ends k.seat n k.holder k.log) (set views by (keeping v.seen)) (rolling v.last)
            (λ i w _ there. set_all (Fits is_of begins ends k.seat n k.holder k.log) views by (keeping v.seen)
            (λ j u apart at_j. fits_rolled is_of begins ends k.seat k.gatherer n k.holder k.log j u (λ is. apart (is ∙ sym (f.rolls roll).0)) (k.fits j u at_j))
            (record {
              seen = f.seen;
              before = prefix_nothing k.log;
              whole = λ _. f.whole keeper;
              mine = off;
              began = off;
              alone = off;
              lives = off;
              rolls = off;
            })
            i w there)
            (record {
              seen = prefix_nothing k.log;
              before = prefix_nothing k.log;
              whole = off;
              mine = off;
              began = off;
              alone = off;
              lives = off;
              rolls = λ _. (refl, (f.rolls roll).1);
            });
        others = k.others;
        had = k.had;
        once = k.once;
      }

  -- a pass with an owner goes to another place
  kept_goes : (views : List (View E)) (by : ℕ) (own : Known E) → (k : Kept is_of begins ends views) → get_elem? views by ≡ some (owning own)
      → Kept is_of begins ends (set views by nobody ++ owning own ∷ [])
  kept_goes views by own k at =
      let f = k.fits by (owning own) at in
      let n = length (set views by nobody) in
      let H = given k.holder own.number n in
      record {
        seat = k.seat;
        gatherer = k.gatherer;
        holder = H;
        log = k.log;
        fits = snoc_all (Fits is_of begins ends k.seat k.gatherer H k.log) (set views by nobody) (owning own)
            (λ i w _ there. set_all (Fits is_of begins ends k.seat k.gatherer H k.log) views by nobody
            (λ j u apart at_j. fits_given is_of begins ends k.seat k.gatherer k.holder k.log own.number n j u
            (is_apart is_of begins ends k.seat k.gatherer k.holder k.log own.number by j u (f.alone refl) apart (k.fits j u at_j)) (k.fits j u at_j))
            (fits_nobody k.seat k.gatherer H k.log by) i w there)
            (record {
              seen = f.seen;
              before = f.before;
              whole = off;
              mine = f.mine;
              began = f.began;
              alone = λ _. sym (given_same k.holder own.number n);
              lives = f.lives;
              rolls = off;
            });
        others = k.others;
        had = k.had;
        once = k.once;
      }

  -- who knows the whole log takes in an owner
  kept_takes : (views : List (View E)) (by : ℕ) (v : View E) (other : ℕ) (own : Known E) → (k : Kept is_of begins ends views) → get_elem? views by ≡ some v
      → (other ≡ by → ⊥) → get_elem? (set views by (joined v (owning own))) other ≡ some (owning own)
      → Kept is_of begins ends (set (set views by (joined v (owning own))) other nobody)
  kept_takes views by v other own k at apart there =
      let both = joined v (owning own) in
      let f = k.fits by v at in
      let g = ⊎_elim (λ (x : (other ≡ by) × (both ≡ owning own)). absurd (apart x.0))
      (λ (x : (other ≢ by) × (get_elem? views other ≡ some (owning own))). k.fits other (owning own) x.1)
      (at_set views by other both (owning own) there) in
      let H = given k.holder own.number by in
      record {
        seat = k.seat;
        gatherer = k.gatherer;
        holder = H;
        log = k.log;
        fits = set_all (Fits is_of begins ends k.seat k.gatherer H k.log) (set views by both) other nobody
            (λ i w ne at_i. set_all (λ j u. j ≢ other → Fits is_of begins ends k.seat k.gatherer H k.log j u) views by both
            (λ j u _ at_j not_it. fits_given is_of begins ends k.seat k.gatherer k.holder k.log own.number by j u
            (is_apart is_of begins ends k.seat k.gatherer k.holder k.log own.number other j u (g.alone refl) not_it (k.fits j u at_j)) (k.fits j u at_j))
            (λ _. record {
              seen = f.seen;
              before = g.seen;
              whole = f.whole;
              mine = g.mine;
              began = g.began;
              alone = λ _. sym (given_same k.holder own.number by);
              lives = g.lives;
              rolls = f.rolls;
            })
            i w at_i ne)
            (fits_nobody k.seat k.gatherer H k.log other);
        others = k.others;
        had = k.had;
        once = k.once;
      }

  -- who knows the whole log gives an owner back
  kept_parts : (views : List (View E)) (by : ℕ) (v : View E) → (k : Kept is_of begins ends views) → get_elem? views by ≡ some v → v.keeps ≡ true → v.owns ≡ true
      → Kept is_of begins ends (set views by (keeping v.seen) ++ parted v ∷ [])
  kept_parts views by v k at keeper owner =
      let f = k.fits by v at in
      let n = length (set views by (keeping v.seen)) in
      let H = given k.holder v.number n in
      record {
        seat = k.seat;
        gatherer = k.gatherer;
        holder = H;
        log = k.log;
        fits = snoc_all (Fits is_of begins ends k.seat k.gatherer H k.log) (set views by (keeping v.seen)) (parted v)
            (λ i w _ there. set_all (Fits is_of begins ends k.seat k.gatherer H k.log) views by (keeping v.seen)
            (λ j u apart at_j. fits_given is_of begins ends k.seat k.gatherer k.holder k.log v.number n j u
            (is_apart is_of begins ends k.seat k.gatherer k.holder k.log v.number by j u (f.alone owner) apart (k.fits j u at_j)) (k.fits j u at_j))
            (record {
              seen = f.seen;
              before = prefix_nothing k.log;
              whole = λ _. f.whole keeper;
              mine = off;
              began = off;
              alone = off;
              lives = off;
              rolls = off;
            })
            i w there)
            (record {
              seen = f.seen;
              before = prefix_nothing k.log;
              whole = off;
              mine = f.mine;
              began = f.began;
              alone = λ _. sym (given_same k.holder v.number n);
              lives = f.lives;
              rolls = off;
            });
        others = k.others;
        had = k.had;
        once = k.once;
      }

  -- what two saw meets
  kept_meets : (views : List (View E)) (by : ℕ) (one : List E) (other : ℕ) (seen : List E) → (k : Kept is_of begins ends views) → get_elem? views by ≡ some (fronting one)
      → (other ≡ by → ⊥) → get_elem? (set views by (meeting (fronting one) (fronting seen))) other ≡ some (fronting seen)
      → Kept is_of begins ends (set (set views by (meeting (fronting one) (fronting seen))) other nobody)
  kept_meets views by one other seen k at apart there =
      let both = meeting (fronting one) (fronting seen) in
      let g = ⊎_elim (λ (x : (other ≡ by) × (both ≡ fronting seen)). absurd (apart x.0))
      (λ (x : (other ≢ by) × (get_elem? views other ≡ some (fronting seen))). k.fits other (fronting seen) x.1)
      (at_set views by other both (fronting seen) there) in
      record {
        seat = k.seat;
        gatherer = k.gatherer;
        holder = k.holder;
        log = k.log;
        fits = set_all (Fits is_of begins ends k.seat k.gatherer k.holder k.log) (set views by both) other nobody
            (λ i w _ at_i. set_all (Fits is_of begins ends k.seat k.gatherer k.holder k.log) views by both (λ j u _ at_j. k.fits j u at_j)
            (record {
              seen = (k.fits by (fronting one) at).seen;
              before = g.seen;
              whole = off;
              mine = off;
              began = off;
              alone = off;
              lives = off;
              rolls = off;
            })
            i w at_i)
            (fits_nobody k.seat k.gatherer k.holder k.log other);
        others = k.others;
        had = k.had;
        once = k.once;
      }

  kept_compares : (views : List (View E)) (by : ℕ) (v : View E) → (k : Kept is_of begins ends views) → get_elem? views by ≡ some v
      → Kept is_of begins ends (set views by (fronting v.seen))
  kept_compares views by v k at = record {
    seat = k.seat;
    gatherer = k.gatherer;
    holder = k.holder;
    log = k.log;
    fits = set_all (Fits is_of begins ends k.seat k.gatherer k.holder k.log) views by (fronting v.seen) (λ j u _ at_j. k.fits j u at_j)
        (record {
          seen = (k.fits by v at).seen;
          before = prefix_nothing k.log;
          whole = off;
          mine = off;
          began = off;
          alone = off;
          lives = off;
          rolls = off;
        });
    others = k.others;
    had = k.had;
    once = k.once;
  }

  -- what was seen is shown
  kept_shows : (views : List (View E)) (by : ℕ) (v : View E) → (k : Kept is_of begins ends views) → get_elem? views by ≡ some v
      → Kept is_of begins ends (set views by v ++ fronting v.seen ∷ [])
  kept_shows views by v k at = record {
    seat = k.seat;
    gatherer = k.gatherer;
    holder = k.holder;
    log = k.log;
    fits = snoc_all (Fits is_of begins ends k.seat k.gatherer k.holder k.log) (set views by v) (fronting v.seen)
        (λ j u _ there. k.fits j u (subst (λ l. get_elem? l j ≡ some u) (set_again views by v at) there))
        (record {
          seen = (k.fits by v at).seen;
          before = prefix_nothing k.log;
          whole = off;
          mine = off;
          began = off;
          alone = off;
          lives = off;
          rolls = off;
        });
    others = k.others;
    had = k.had;
    once = k.once;
  }

  -- a log begins
  pub opens : (words : List ℕ) → KeepsOne is_of begins ends (opening words [] (gathering [] []))
  opens words = record {
    seat = 0;
    gatherer = 0;
    holder = λ n. n;
    log = [];
    fits = at_first;
    others = λ number none. refl;
    had = λ number ended. absurd (omega (arith, ended.1));
    once = record { over = tt; once = once_none };
  }
    where
      at_first : (by : ℕ) (v : View E) → get_elem? (gathering [] [] ∷ []) by ≡ some v → Fits is_of begins ends 0 0 (λ n. n) [] by v
      at_first zero v e = subst (λ w. Fits is_of begins ends 0 0 (λ n. n) [] 0 w) (some-injective _ _ e) (record {
        seen = prefix_nothing [];
        before = prefix_nothing [];
        whole = λ _. (refl, refl);
        mine = off;
        began = off;
        alone = off;
        lives = off;
        rolls = λ _. (refl, record { began = prefix_nothing []; ended = refl });
      })
      at_first (suc by) v e = absurd (some-ne-none v (sym e))

  -- the steps, at a pass that is known
  pub adds : (slots by word first second : ℕ) (f : ℕ → ℕ) (me : View E × List (ℕ × E)) (v : View E) (held : List (ℕ × E)) (e : E) → me ≡ (v, held) → v.keeps ≡ true → IsItsOrNobodys v e → ends e ≡ []
      → Allows (KeepsOne is_of begins ends) slots by me word f (AddsOne is_of (step slots word first second (some e)) me)
  adds slots by word first second f me v held e is keeper its quiet =
      subst (λ (m : View E × List (ℕ × E)). Allows (KeepsOne is_of begins ends) slots by m word f (AddsOne is_of (step slots word first second (some e)) m)) (sym is)
      (λ s k _ at _. (added is_of v (e ∷ []), keeps, tt, kept_adds s.views by v e k at keeper its quiet, (refl, is_true s.views by v k at keeper)))

  pub its_or_nobodys : (v : View E) (e : E) (number : ℕ) → v.owns ≡ true → v.number ≡ number → IsOnlyOf is_of e number → IsItsOrNobodys v e
  its_or_nobodys v e number owner same only k =
      dite (ℕ_discrete k number) (λ is. inl (owner, is ∙ sym same)) (λ apart. inr (only.1 k apart))

  pub adds_nobodys : (slots by word first second : ℕ) (f : ℕ → ℕ) (me : View E × List (ℕ × E)) (log : List E) (e : E) → me ≡ (keeping log, []) → IsNobodys is_of e → ends e ≡ []
      → Allows (KeepsOne is_of begins ends) slots by me word f (AddsOne is_of (step slots word first second (some e)) me)
  adds_nobodys slots by word first second f me log e is nobodys quiet = adds slots by word first second f me (keeping log) [] e is refl (λ number. inr (nobodys number)) quiet

  pub begins_one : (slots by word first second : ℕ) (f : ℕ → ℕ) (me : View E × List (ℕ × E)) (log : List E) (e : E) (number : ℕ) → me ≡ (keeping log, [])
      → begins e ≡ number ∷ [] → (Contains (numbers_of begins log) number → ⊥) → IsOnlyOf is_of e number → ends e ≡ []
      → Allows (KeepsOne is_of begins ends) slots by me word f (BeginsOne is_of begins (step slots word first second (some e)) me)
  begins_one slots by word first second f me log e number is begin new only quiet =
      subst (λ (m : View E × List (ℕ × E)). Allows (KeepsOne is_of begins ends) slots by m word f (BeginsOne is_of begins (step slots word first second (some e)) m)) (sym is)
      (λ s k _ at _. (
        begun is_of begins (keeping log) (e ∷ []),
        keeps,
        tt,
        subst (λ (w : View E). Kept is_of begins ends (set s.views by w)) (sym (begun_is log e number begin only.0)) (kept_begins s.views by log e number k at begin new only quiet),
        refl,
      ))

  pub looks : (slots by word first second : ℕ) (f : ℕ → ℕ) (me : View E × List (ℕ × E)) (v : View E) (held : List (ℕ × E)) → me ≡ (v, held) → v.keeps ≡ true
      → Allows (KeepsOne is_of begins ends) slots by me word f (LooksOn is_of (step slots word first second none) me)
  looks slots by word first second f me v held is keeper =
      subst (λ (m : View E × List (ℕ × E)). Allows (KeepsOne is_of begins ends) slots by m word f (LooksOn is_of (step slots word first second none) m)) (sym is)
      (λ s k _ at _. (
        v,
        keeps,
        tt,
        subst (Kept is_of begins ends) (sym (set_again s.views by v at)) k,
        (refl, is_true s.views by v k at keeper),
      ))

  pub goes : (by : ℕ) (v : View E) (own : Known E) → v ≡ owning own → Splits (KeepsOne is_of begins ends) by v nobody v
  goes by v own is =
      subst (λ (w : View E). Splits (KeepsOne is_of begins ends) by w nobody w) (sym is) (λ s k at. kept_goes s.views by own k at)

  pub takes : (by : ℕ) (v : View E) (other : ℕ) (w : View E) (own : Known E) → w ≡ owning own
      → Joins (KeepsOne is_of begins ends) by v other w (joined v w) nobody
  takes by v other w own is_own =
      subst (λ (y : View E). Joins (KeepsOne is_of begins ends) by v other y (joined v y) nobody) (sym is_own)
      (λ s k at apart there. kept_takes s.views by v other own k at apart there)

  -- those of the roll
  pub ends_one : (slots by word first second : ℕ) (f : ℕ → ℕ) (me : View E × List (ℕ × E)) (v : View E) (held : List (ℕ × E)) (e : E) → me ≡ (v, held)
      → v.keeps ≡ true → v.owns ≡ true → v.gathers ≡ true → IsOnlyOf is_of e v.number → ends e ≡ v.number ∷ []
      → Allows (KeepsOne is_of begins ends) slots by me word f (EndsOne is_of ends (step slots word first second (some e)) me)
  ends_one slots by word first second f me v held e is keeper owner roll only last =
      subst (λ (m : View E × List (ℕ × E)). Allows (KeepsOne is_of begins ends) slots by m word f (EndsOne is_of ends (step slots word first second (some e)) m)) (sym is)
      (λ s k _ at _. (
        gathering (v.seen ++ e ∷ []) (v.seen ++ e ∷ []),
        keeps,
        tt,
        kept_ends s.views by v e k at keeper owner roll only last,
        (refl, is_true s.views by v k at keeper, is_rolled s.views by v k at keeper roll),
      ))

  -- what is told of the whole log
  once_of : (views : List (View E)) (by : ℕ) (v : View E) → (k : Kept is_of begins ends views) → get_elem? views by ≡ some v → v.keeps ≡ true → EndsOnce is_of ends v.seen
  once_of views by v k at keeper = subst (λ l. EndsOnce is_of ends l) (sym ((k.fits by v at).whole keeper).1) k.once

  pub calls : (slots by word first second : ℕ) (f : ℕ → ℕ) (me : View E × List (ℕ × E)) (v : View E) (held : List (ℕ × E)) → me ≡ (v, held)
      → v.keeps ≡ true → v.gathers ≡ true
      → Allows (KeepsOne is_of begins ends) slots by me word f (CallsRoll is_of ends (step slots word first second none) me)
  calls slots by word first second f me v held is keeper roll =
      subst (λ (m : View E × List (ℕ × E)). Allows (KeepsOne is_of begins ends) slots by m word f (CallsRoll is_of ends (step slots word first second none) m)) (sym is)
      (λ s k _ at _. (
        gathering v.seen v.seen,
        keeps,
        tt,
        kept_calls s.views by v k at keeper roll,
        (refl, is_rolled s.views by v k at keeper roll, once_of s.views by v k at keeper),
      ))

  pub roll_goes : (by : ℕ) (v : View E) (last : List E) → v ≡ rolling last → Splits (KeepsOne is_of begins ends) by v nobody v
  roll_goes by v last is =
      subst (λ (w : View E). Splits (KeepsOne is_of begins ends) by w nobody w) (sym is) (λ s k at. kept_roll_goes s.views by last k at)

  pub takes_roll : (by : ℕ) (v : View E) (other : ℕ) (w : View E) (last : List E) → w ≡ rolling last
      → Joins (KeepsOne is_of begins ends) by v other w (enrolled v w) nobody
  takes_roll by v other w last is =
      subst (λ (y : View E). Joins (KeepsOne is_of begins ends) by v other y (enrolled v y) nobody) (sym is)
      (λ s k at apart there. kept_takes_roll s.views by v other last k at apart there)

  pub parts_roll : (by : ℕ) (v : View E) → v.keeps ≡ true → v.gathers ≡ true → Splits (KeepsOne is_of begins ends) by v (keeping v.seen) (rolling v.last)
  parts_roll by v keeper roll s k at = kept_parts_roll s.views by v k at keeper roll

  pub parts : (by : ℕ) (v : View E) → v.keeps ≡ true → v.owns ≡ true → Splits (KeepsOne is_of begins ends) by v (keeping v.seen) (parted v)
  parts by v keeper owner s k at = kept_parts s.views by v k at keeper owner

  pub shows : (by : ℕ) (v : View E) → Splits (KeepsOne is_of begins ends) by v v (fronting v.seen)
  shows by v s k at = kept_shows s.views by v k at

  pub meets : (by : ℕ) (v : View E) (one : List E) (other : ℕ) (w : View E) (seen : List E) → v ≡ fronting one → w ≡ fronting seen
      → Joins (KeepsOne is_of begins ends) by v other w (meeting v w) nobody
  meets by v one other w seen is is_other =
      subst (λ (x : View E). Joins (KeepsOne is_of begins ends) by x other w (meeting x w) nobody) (sym is)
      (subst (λ (y : View E). Joins (KeepsOne is_of begins ends) by (fronting one) other y (meeting (fronting one) y) nobody) (sym is_other)
      (λ s k at apart there. kept_meets s.views by one other seen k at apart there))

  pub compares : (slots by word first second : ℕ) (f : ℕ → ℕ) (me : View E × List (ℕ × E))
      → Allows (KeepsOne is_of begins ends) slots by me word f (ComparesTwo (step slots word first second none) me)
  compares slots by word first second f me s k _ at _ =
      let fits = k.fits by me.0 at in
      (fronting me.0.seen, keeps, tt, kept_compares s.views by me.0 k at, (refl, prefix_either me.0.seen me.0.before k.log fits.seen fits.before))
