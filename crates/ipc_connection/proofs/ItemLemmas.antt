-- Items never lack memory by what they spell, and few words spell few strings.
use Rattle.std.proofs.Common.{◌≡◌, ◌≢◌, ℕ, ◌+◌, ◌*◌, ◌≤◌, Bool, true, false, List, [], ◌∷◌, length, Option, Some, None, nat_lt, Ok, Err, if◌then◌else◌, refl, arith}
use Rattle.std.specs.Option.{option_or}
use Rattle.std.specs.List.{list_any}
use Rattle.ipc_words.specs.Limits.{max_string_bytes}
use Rattle.ipc_items.specs.declared.item_fault.ItemFault.{ItemFault}
use Rattle.ipc_items.specs.declared.item_fault.ItemFault.TheVariants.{PastWords, ReservedBit, OutsidePayload, TooLong, NoMemory}
use Rattle.ipc_items.specs.ItemWords.{ItemWords, length_of, items_within, items_of, strings_by, has_reserved_bit}
use Rattle.ipc_items.specs.ItemFault.{item_fault, runs_past, range_fault, is_outside, bytes_in, string_fault, buffer_fault}
use Rattle.ipc_items.specs.StringItem.{bytes_of, string_reading, buffer_reading, unless_fault}
use Rattle.ipc_items.proofs.LimitLemmas.{within_words, full_strings, few_items, length_strings}

abbrev Never : Option ItemFault → Type 0
Never fault = fault ≢ Some NoMemory

never_if : (test : Bool) (a b : Option ItemFault) → Never a → Never b → Never (if test then a else b)
never_if true a b h k = h
never_if false a b h k = k

never_or : (a b : Option ItemFault) → Never a → Never b → Never (option_or a b)
never_or None b h k = k
never_or (Some fault) b h k = h

never_item : (item : ItemWords) (items : List ItemWords) → Never (item_fault item items)
never_item item items =
    never_if (has_reserved_bit item.descriptor) (Some ReservedBit) _ (λ e. cc) (never_if (runs_past item items) (Some PastWords) None (λ e. cc) (λ e. cc))

never_range : (size before : ℕ) (item : ItemWords) → Never (range_fault size before item)
never_range size before item =
    never_if (list_any (is_outside size (length_of item.descriptor)) item.pointers) (Some OutsidePayload) _ (λ e. cc) (never_if (nat_lt max_string_bytes (before + bytes_in item)) (Some TooLong) None (λ e. cc) (λ e. cc))

never_strings : (size before : ℕ) (items : List ItemWords) → Never (string_fault size before items)
never_strings size before [] = λ e. cc
never_strings size before (item ∷ items) =
    never_or (item_fault item items) _ (never_item item items) (never_or (range_fault size before item) _ (never_range size before item) (never_strings size (before + bytes_in item) items))

never_buffers : (items : List ItemWords) → Never (buffer_fault items)
never_buffers [] = λ e. cc
never_buffers (item ∷ items) = never_or (item_fault item items) _ (never_item item items) (never_buffers items)

never_unless : {A : Type 0} (fault : Option ItemFault) (list : A) → Never fault → unless_fault fault list ≢ Err NoMemory
never_unless None list h e = cc
never_unless (Some fault) list h e = let same : fault ≡ NoMemory = cc in h (rw same refl)

pub strings_never : (words payload : List ℕ) → string_reading words payload ≢ Err NoMemory
strings_never words payload = never_unless _ _ (never_strings (length payload) 0 (items_of words))

pub buffers_never : (words : List ℕ) → buffer_reading words ≢ Err NoMemory
buffers_never words = never_unless _ _ (never_buffers (items_of words))

-- each string takes two words at least

unless_none : {A : Type 0} (fault : Option ItemFault) (list got : A) → unless_fault fault list ≡ Ok got → (fault ≡ None) × (got ≡ list)
unless_none None list got e = (refl, cc)
unless_none (Some fault) list got e = absurd (cc)

pub few_strings : (words payload : List ℕ) (strings : List (List ℕ)) → string_reading words payload ≡ Ok strings → 2 * length strings ≤ length words
unfolding items_of
few_strings words payload strings e =
    let items = items_within (length words) words in
    let read = unless_none (string_fault (length payload) 0 items) (strings_by (bytes_of payload) items) strings e in
    rw read.1 (omega (arith, few_items items (full_strings (length payload) 0 items read.0), within_words (length words) words, length_strings (bytes_of payload) items))
