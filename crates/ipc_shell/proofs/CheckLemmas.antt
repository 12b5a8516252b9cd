-- From a trace with a torn line to what is printed of it.
use Rattle.std.proofs.Common.{◌≡◌, ◌≢◌, ℕ, Bool, true, false, refl, sym, Option, Some, None, IfSome, List, [], ◌++◌, ap, ◌∙◌, append-nil, inr}
use Rattle.std.proofs.lemmas.List.Elements.{All-nil}
use Rattle.ipc_history.specs.declared.entry.Entry.{Entry}
use Rattle.std.proofs.KnownBytes.{Appends-nil}
use Rattle.ipc_trace.specs.Traces.{HasUnknownVersion, IsRead, versioned_text}
use Rattle.ipc_trace.specs.declared.version.TraceVersion.{TraceVersion}
use Rattle.ipc_trace.specs.declared.fault.TraceEnd.TheVariants as end
use Rattle.ipc_shell.specs.Checking.{PrintsVerdict, HasBadLine, HasLines, ChecksTrace}
use Rattle.ipc_shell.specs.declared.exit.Exit.{Exit}
use Rattle.ipc_shell.specs.declared.exit.Exit.TheVariants.{Done, BadLine, NoMemory, DeviceFailed, Illegal, UnknownVersion}

pub whole_lines : (bytes left : Option (List ℕ)) (version : TraceVersion) (entries : List Entry) → IsRead bytes left version entries end.Whole → IfSome bytes (λ bytes. HasLines bytes version entries false)
whole_lines None left version entries read = tt
whole_lines (Some bytes) None version entries (held, taken, at_end) = absurd taken
whole_lines (Some bytes) (Some rest) version entries (held, taken, at_end) = record {
  held = held;
  torn = [];
  one = All-nil (λ byte. byte ≢ 10);
  bytes_are = taken ∙ ap (λ (t : List ℕ). versioned_text version entries ++ t) at_end;
  is_there = λ is. absurd (false_is_not_true is);
  is_none = λ _. refl;
}
  where
    false_is_not_true : false ≡ true → ⊥
    false_is_not_true is = cc

pub torn_lines : (bytes left : Option (List ℕ)) (version : TraceVersion) (entries : List Entry) → IsRead bytes left version entries end.Torn → IfSome bytes (λ bytes. HasLines bytes version entries true)
torn_lines None left version entries read = tt
torn_lines (Some bytes) None version entries (held, (torn, one, some, taken, at_end)) = absurd taken
torn_lines (Some bytes) (Some rest) version entries (held, (torn, one, some, taken, at_end)) = record {
  held = held;
  torn = torn;
  one = one;
  bytes_are = taken ∙ ap (λ (t : List ℕ). (versioned_text version entries ++ torn) ++ t) at_end ∙ append-nil (versioned_text version entries ++ torn);
  is_there = λ _. some;
  is_none = λ is. absurd (true_is_not_false is);
}
  where
    true_is_not_false : true ≡ false → ⊥
    true_is_not_false is = cc

-- a line is bad
pub bad_line : (bytes left : Option (List ℕ)) (version : TraceVersion) (entries : List Entry) (number : ℕ) → IsRead bytes left version entries (end.BadLine number)
    → IfSome bytes (λ bytes. HasBadLine bytes number)
bad_line None left version entries number read = tt
bad_line (Some bytes) left version entries number (held, number_is, (bad, one, behind, (rest, is))) = record {
  version = version;
  entries = entries;
  held = held;
  bad = bad;
  rest = rest;
  one = one;
  is_bad = behind;
  bytes_are = sym is;
  number_is = number_is;
}

-- nothing was printed of it
pub bad_unjudged : (bytes said : Option (List ℕ)) (number : ℕ) → IfSome bytes (λ bytes. HasBadLine bytes number) → ChecksTrace bytes said said (BadLine number)
bad_unjudged None said number has = tt
bad_unjudged (Some bytes) said number has = (has, Appends-nil said)

-- nor of an unknown version
pub unknown_unjudged : (bytes said : Option (List ℕ)) → IfSome bytes HasUnknownVersion → ChecksTrace bytes said said UnknownVersion
unknown_unjudged None said has = tt
unknown_unjudged (Some bytes) said has = (has, Appends-nil said)

-- the verdict on the whole lines was printed
pub judged : (bytes before after : Option (List ℕ)) (version : TraceVersion) (entries : List Entry) (is_torn : Bool) (exit : Exit)
    → IfSome bytes (λ bytes. HasLines bytes version entries is_torn) → PrintsVerdict version entries is_torn before after exit → ChecksTrace bytes before after exit
judged None before after version entries is_torn exit lines prints = tt
judged (Some bytes) before after version entries is_torn Done lines prints = (version, (entries, (is_torn, lines, prints)))
judged (Some bytes) before after version entries is_torn Illegal lines prints = (version, (entries, (is_torn, lines, prints)))
judged (Some bytes) before after version entries is_torn (BadLine number) lines prints = absurd prints
judged (Some bytes) before after version entries is_torn UnknownVersion lines prints = absurd prints
judged (Some bytes) before after version entries is_torn NoMemory lines prints = prints
judged (Some bytes) before after version entries is_torn DeviceFailed lines prints = inr (version, (entries, (is_torn, lines, prints)))
