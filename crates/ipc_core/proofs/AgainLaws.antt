-- A command that is obeyed once more after a compaction.
use Rattle.std.proofs.lemmas.Bool.{false≢true}
use Rattle.std.proofs.Common.{◌≡◌, refl, sym, ap, ap₂, subst, ◌∙◌, ℕ, ◌+◌, ◌≤◌, Bool, true, false, if◌then◌else◌, List, [], ◌∷◌, ◌++◌, Option, Some, None, inl, inr, length, min, drop, arith}
use Rattle.std.specs.Prelude.{MatchBool}
use Rattle.ipc_words.specs.Limits.{max_command_entries}
use Rattle.ipc_history.specs.HistoryParts.{HeldParts}
use Rattle.ipc_history.specs.Holding.{held_of}
use Rattle.ipc_history.specs.Legal.{Legal}
use Rattle.ipc_history.specs.Threads.{is_live}
use Rattle.ipc_history.specs.declared.entry.Entry.{Entry}
use Rattle.ipc_core.specs.Again.{MakesRoom, MayObeyAgain, ObeysAgainOnce, StaysSoundAgain, is_history_full, lacks_entries, says_history_full}
use Rattle.ipc_core.specs.Compacting.{Compacts, kept_to, most_entries}
use Rattle.ipc_core.specs.KernelParts.{KernelParts, history_of, without_room}
use Rattle.ipc_core.specs.Laws.{IsSound}
use Rattle.ipc_core.specs.Obeying.{Does, MayObey, Obeys, ObeysOr, Runs, cause_of}
use Rattle.ipc_core.specs.declared.answers.Compacted.{Compacted}
use Rattle.ipc_core.specs.declared.command.Answer.{Answer}
use Rattle.ipc_core.specs.declared.command.Answer.TheVariants.{Opened, Entered, Exchanged, Done, Advanced, Taken, Refused}
use Rattle.ipc_core.specs.declared.command.Command.{Command}
use Rattle.ipc_core.specs.declared.command.Command.TheVariants.{Open, Enter, Exreg, Broke, At, Advance, Take}
use Rattle.ipc_core.specs.declared.refusal.Refusal.{Refusal}
use Rattle.ipc_core.specs.declared.refusal.Refusal.TheVariants.{HistoryFull, NoThread}
use Rattle.ipc_core.proofs.Few.{obeys_few}
use Rattle.ipc_core.proofs.RunLaws.{runs_once}
use Rattle.ipc_core.proofs.SeenFrom.{cause_seen, does_seen}
use Rattle.ipc_core.proofs.SoundLaws.{stays_sound}

-- What a compaction leaves

-- a kernel of which memory holds less
abbrev pub let_go : KernelParts → ℕ → HeldParts → ℕ → KernelParts
let_go old limit held room = record old { entries_limit = limit; held = held; since = length old.history; room = room }

compacted_is : (old new : KernelParts) (upto : ℕ) (done : Compacted) → Compacts old new upto done → new ≡ let_go old new.entries_limit new.held new.room
compacted_is old new upto done c = λ i. record { entries_limit = new.entries_limit; calls_limit = c.calls_limit i; moment = c.moment i; history = c.history i; held = new.held; taken = c.taken i; since = c.since i; room = new.room }

-- what does not depend on what memory holds stays true
pub made_room : (P : KernelParts → Type 0) (upto : ℕ) (old roomy : KernelParts) (command : Command) → ((limit room : ℕ) (held : HeldParts) → P old → P (let_go old limit held room)) → MakesRoom upto old command roomy → P old → P roomy
made_room P upto old roomy command stays makes is = go (lacks_entries old command) makes
  where
    go : (b : Bool) → MatchBool b ((done : Compacted) × Compacts old roomy upto done) (roomy ≡ old) → P roomy
    go true (done, compacts) = subst P (sym (compacted_is old roomy upto done compacts)) (stays roomy.entries_limit roomy.room roomy.held is)
    go false same = subst P (sym same) is

pub room_history : (upto : ℕ) (old roomy : KernelParts) (command : Command) → MakesRoom upto old command roomy → roomy.history ≡ old.history
room_history upto old roomy command makes = made_room (λ k. k.history ≡ old.history) upto old roomy command (λ limit room held same. same) makes refl

pub room_sound : (upto : ℕ) (old roomy : KernelParts) (command : Command) → MakesRoom upto old command roomy → IsSound old → IsSound roomy
room_sound upto old roomy command makes sound = made_room IsSound upto old roomy command (λ limit room held s. record { legal = s.legal; quiet = s.quiet; taken = s.taken; once = s.once; others = s.others; since = omega arith }) makes sound

-- Which answer is K5

not_full : (refusal : Refusal) (answer : Answer) → answer ≡ Refused refusal → says_history_full answer ≡ is_history_full (Some refusal)
not_full refusal answer is = ap says_history_full is ∙ both refusal
  where
    both : (refusal : Refusal) → says_history_full (Refused refusal) ≡ is_history_full (Some refusal)
    both HistoryFull = refl
    both _ = refl

done_not_full : (old new : KernelParts) (command : Command) (answer : Answer) → Does old command answer new → says_history_full answer ≡ false
unfolding Does
done_not_full old new (Open number space) (Opened t) a = refl
done_not_full old new (Enter thread call) (Entered n) a = refl
done_not_full old new (Exreg thread target control) (Exchanged x) a = refl
done_not_full old new (Broke thread) Done a = refl
done_not_full old new (At reading) Done a = refl
done_not_full old new Advance (Advanced _) a = refl
done_not_full old new (Take thread) (Taken outcome) a = refl
done_not_full old new _ _ a = absurd a

-- the answer is K5 where K5 is the first cause
pub full_where_lacking : (old new : KernelParts) (command : Command) (answer : Answer) → MayObey old command answer new → says_history_full answer ≡ lacks_entries old command
unfolding Obeys
full_where_lacking old new command answer (inr lacks) = ap says_history_full lacks.answer_is ∙ ap is_history_full (sym lacks.no_other_cause)
full_where_lacking old new command answer (inl obeys) = go (cause_of old command) obeys
  where
    go : (cause : Option Refusal) → ObeysOr cause old command answer new → says_history_full answer ≡ is_history_full cause
    go None does = done_not_full old new command answer does
    go (Some refusal) refused = not_full refusal answer refused.0

-- and then nothing changed
full_stays : (old new : KernelParts) (command : Command) (answer : Answer) → MayObey old command answer new → says_history_full answer ≡ true → new ≡ old
unfolding Obeys
full_stays old new command answer (inr lacks) full = lacks.stays
full_stays old new command answer (inl obeys) full = go (cause_of old command) obeys
  where
    go : (cause : Option Refusal) → ObeysOr cause old command answer new → new ≡ old
    go None does = absurd (false≢true (sym (done_not_full old new command answer does) ∙ full))
    go (Some refusal) refused = refused.1

-- which commands are never refused with K5
pub break_lacks_none : (kernel : KernelParts) (thread : ℕ) → lacks_entries kernel (Broke thread) ≡ false
unfolding cause_of
break_lacks_none kernel thread = go (is_live kernel.history thread)
  where
    go : (b : Bool) → is_history_full (if b then None else Some NoThread) ≡ false
    go true = refl
    go false = refl

pub clock_lacks_none : (kernel : KernelParts) (reading : ℕ) → lacks_entries kernel (At reading) ≡ false
unfolding cause_of
clock_lacks_none kernel reading = refl

pub copy_lacks_none : (kernel : KernelParts) → lacks_entries kernel Advance ≡ false
unfolding cause_of
copy_lacks_none kernel = refl

pub take_lacks_none : (kernel : KernelParts) (thread : ℕ) → lacks_entries kernel (Take thread) ≡ false
unfolding cause_of
take_lacks_none kernel thread = refl

module _ (upto : ℕ) (old : KernelParts) (command : Command) where
  -- a command that was not refused with K5 at first
  pub obeyed_first : (answer : Answer) (new : KernelParts) → MayObey old command answer new → says_history_full answer ≡ false → MayObeyAgain upto old command answer new
  obeyed_first answer new obeys other = record {
    roomy = old;
    makes_room = subst (λ b. MatchBool b ((done : Compacted) × Compacts old old upto done) (old ≡ old)) (sym other ∙ full_where_lacking old new command answer obeys) refl;
    obeys = obeys;
  }

  -- one that is never refused so
  pub obeyed_at_once : (answer : Answer) (new : KernelParts) → lacks_entries old command ≡ false → MayObey old command answer new → MayObeyAgain upto old command answer new
  obeyed_at_once answer new other obeys = obeyed_first answer new obeys (full_where_lacking old new command answer obeys ∙ other)

  -- and one that was, and was obeyed once more after a compaction
  pub obeyed_again : (first : Answer) (middle roomy : KernelParts) (done : Compacted) (answer : Answer) (new : KernelParts) → MayObey old command first middle → says_history_full first ≡ true → Compacts middle roomy upto done → MayObey roomy command answer new → MayObeyAgain upto old command answer new
  obeyed_again first middle roomy done answer new refused full compacts obeys = record {
    roomy = roomy;
    makes_room = subst (λ b. MatchBool b ((d : Compacted) × Compacts old roomy upto d) (roomy ≡ old)) (sym full ∙ full_where_lacking old middle command first refused) (done, subst (λ k. Compacts k roomy upto done) (full_stays old middle command first refused full) compacts);
    obeys = obeys;
  }

pub again_few : (upto : ℕ) (old : KernelParts) (command : Command) (answer : Answer) (new : KernelParts) → MayObeyAgain upto old command answer new → Legal new.history → length new.history ≤ length old.history + max_command_entries
again_few upto old command answer new again legal = omega (arith, obeys_few again.roomy command answer new again.obeys legal, ap length (room_history upto old again.roomy command again.makes_room))

pub again_sound : StaysSoundAgain
again_sound upto old command answer new sound again = stays_sound again.roomy command answer new (room_sound upto old again.roomy command again.makes_room sound) again.obeys

-- Kernels that are the same but for the room

-- how many entries memory holds
abbrev held_count : KernelParts → ℕ
held_count k = length (held_of (history_of k))

-- what a compaction leaves in memory
abbrev kept_by : ℕ → KernelParts → HeldParts
kept_by upto k = kept_to k.taken upto (history_of k)

same_dropped : (d e l m p q r s : ℕ) → l ≡ p → m ≡ q → p ≡ q → d + l ≡ r → e + m ≡ s → r ≡ s → d ≡ e
same_dropped d e l m p q r s lp mq pq dr es rs = omega (arith, lp, mq, pq, dr, es, rs)

compacted_once : (upto : ℕ) (a b x y : KernelParts) (done did : Compacted) → without_room a ≡ without_room b → Compacts a x upto done → Compacts b y upto did → without_room x ≡ without_room y
compacted_once upto a b x y done did same c d =
    let held : x.held ≡ y.held = c.held ∙ (ap (kept_by upto) same ∙ sym d.held) in
    let history : x.history ≡ y.history = c.history ∙ (ap (λ (k : KernelParts). k.history) same ∙ sym d.history) in
    let left : held_count x ≡ held_count y = ap₂ (λ (h : HeldParts) (l : List Entry). length (h.front ++ drop h.whole_from l)) held history in
    let before : held_count a ≡ held_count b = ap held_count same in
    let dropped : done.dropped ≡ did.dropped = same_dropped done.dropped did.dropped done.left did.left (held_count x) (held_count y) (held_count a) (held_count b) c.left d.left left c.dropped d.dropped before in
    let limit : x.entries_limit ≡ y.entries_limit = c.entries_limit ∙ (ap₂ (λ (k : KernelParts) (n : ℕ). min (k.entries_limit + n) most_entries) same dropped ∙ sym d.entries_limit) in
    let calls : x.calls_limit ≡ y.calls_limit = c.calls_limit ∙ (ap (λ (k : KernelParts). k.calls_limit) same ∙ sym d.calls_limit) in
    let moment : x.moment ≡ y.moment = c.moment ∙ (ap (λ (k : KernelParts). k.moment) same ∙ sym d.moment) in
    let taken : x.taken ≡ y.taken = c.taken ∙ (ap (λ (k : KernelParts). k.taken) same ∙ sym d.taken) in
    let since : x.since ≡ y.since = c.since ∙ (ap (λ (k : KernelParts). length k.history) same ∙ sym d.since) in
    λ i. record { entries_limit = limit i; calls_limit = calls i; moment = moment i; history = history i; held = held i; taken = taken i; since = since i; room = 0 }

lacking_once : (a b : KernelParts) (command : Command) → without_room a ≡ without_room b → lacks_entries a command ≡ lacks_entries b command
lacking_once a b command same =
    ap is_history_full (sym (cause_seen a.since a command) ∙ (ap (λ (k : KernelParts). cause_of k command) same ∙ cause_seen b.since b command))

pub room_once : (upto : ℕ) (a b x y : KernelParts) (command : Command) → without_room a ≡ without_room b → MakesRoom upto a command x → MakesRoom upto b command y → without_room x ≡ without_room y
room_once upto a b x y command same makes made =
    go (lacks_entries a command) makes (subst (λ c. MatchBool c ((d : Compacted) × Compacts b y upto d) (y ≡ b)) (sym (lacking_once a b command same)) made)
  where
    go : (c : Bool) → MatchBool c ((d : Compacted) × Compacts a x upto d) (x ≡ a) → MatchBool c ((d : Compacted) × Compacts b y upto d) (y ≡ b) → without_room x ≡ without_room y
    go true (done, c) (did, d) = compacted_once upto a b x y done did same c d
    go false x_is y_is = ap without_room x_is ∙ (same ∙ sym (ap without_room y_is))

-- a command that is obeyed, said without the room
pub bare_obeys : (old new : KernelParts) (command : Command) (answer : Answer) → Obeys old command answer new → Obeys (without_room old) command answer (without_room new)
unfolding Obeys
bare_obeys old new command answer obeys = subst (λ cause. ObeysOr cause (without_room old) command answer (without_room new)) (sym (cause_seen old.since old command)) (go (cause_of old command) obeys)
  where
    go : (cause : Option Refusal) → ObeysOr cause old command answer new → ObeysOr cause (without_room old) command answer (without_room new)
    go (Some refusal) x = (x.0, ap without_room x.1)
    go None x = does_seen old.since old new command answer x

pub obeyed_alike : (a b one two : KernelParts) (command : Command) (answer said : Answer) → without_room a ≡ without_room b → Legal a.history → Obeys a command answer one → Obeys b command said two → (answer ≡ said) × (without_room one ≡ without_room two)
unfolding Runs
obeyed_alike a b one two command answer said same legal obeys did =
    let here = bare_obeys a one command answer obeys in
    let there : Obeys (without_room a) command said (without_room two) = subst (λ (k : KernelParts). Obeys k command said (without_room two)) (sym same) (bare_obeys b two command said did) in
    let once = runs_once (without_room a) (without_room one) (without_room two) (command ∷ []) (answer ∷ []) (said ∷ []) legal (without_room one, here, refl) (without_room two, there, refl) in
    let answers : answer ≡ said = (let both = once.0 in cc) in
    (answers, once.1)

pub again_once : ObeysAgainOnce
again_once upto old other one two command answer said sound same a b =
    let alike = room_once upto old other a.roomy b.roomy command same a.makes_room b.makes_room in
    obeyed_alike a.roomy b.roomy one two command answer said alike (room_sound upto old a.roomy command a.makes_room sound).legal a.obeys b.obeys
