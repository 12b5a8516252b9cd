-- What the matches of a subcommand have that the options need, by its name.
use Rattle.std.proofs.Common.{◌≡◌, Bool, List, codes, false, inl, inr, refl, sym, true, ◌∙◌}
use Rattle.std.proofs.lemmas.Slice.Eq.{bytes_eq-Decides}
use Rattle.std.specs.Str.{bytes_eq}
use Rattle.clap.specs.Words.{Row, Text}
use Rattle.l4sh_options.specs.Shell.{Reads, ReadsAsChart, ReadsAsFiles, ReadsAsMigrate, ReadsAsRun, ReadsAsState, ReadsAsTalk}

-- a name is not two different ones
never : (a b name : Text) → name ≡ a → name ≡ b → bytes_eq a b ≡ false → ⊥
never a b name e is differ = true_is_not_false (bytes_eq a b) ((bytes_eq-Decides a b).1 (sym e ∙ is)) differ
  where
    true_is_not_false : (test : Bool) → test ≡ true → test ≡ false → ⊥
    true_is_not_false test holds fails = cc (holds, fails)

pub reads_run : (name : Text) (rows : List Row) → name ≡ codes "run" → Reads name rows → ReadsAsRun rows
unfolding Reads
reads_run name rows e (inl (is, reads)) = reads
reads_run name rows e (inr (inl is)) = absurd (never _ _ name e is refl)
reads_run name rows e (inr (inr (inl (inl is, reads)))) = absurd (never _ _ name e is refl)
reads_run name rows e (inr (inr (inl (inr is, reads)))) = absurd (never _ _ name e is refl)
reads_run name rows e (inr (inr (inr (inl (is, reads))))) = absurd (never _ _ name e is refl)
reads_run name rows e (inr (inr (inr (inr (inl (is, reads)))))) = absurd (never _ _ name e is refl)
reads_run name rows e (inr (inr (inr (inr (inr (inl (is, reads))))))) = absurd (never _ _ name e is refl)
reads_run name rows e (inr (inr (inr (inr (inr (inr (inl (is, reads)))))))) = absurd (never _ _ name e is refl)
reads_run name rows e (inr (inr (inr (inr (inr (inr (inr (inl (is, reads))))))))) = absurd (never _ _ name e is refl)
reads_run name rows e (inr (inr (inr (inr (inr (inr (inr (inr (inl (is, reads)))))))))) = absurd (never _ _ name e is refl)
reads_run name rows e (inr (inr (inr (inr (inr (inr (inr (inr (inr (inl (is, reads))))))))))) = absurd (never _ _ name e is refl)
reads_run name rows e (inr (inr (inr (inr (inr (inr (inr (inr (inr (inr (inl is, reads))))))))))) = absurd (never _ _ name e is refl)
reads_run name rows e (inr (inr (inr (inr (inr (inr (inr (inr (inr (inr (inr (inl is), reads))))))))))) = absurd (never _ _ name e is refl)
reads_run name rows e (inr (inr (inr (inr (inr (inr (inr (inr (inr (inr (inr (inr (inl is)), reads))))))))))) = absurd (never _ _ name e is refl)
reads_run name rows e (inr (inr (inr (inr (inr (inr (inr (inr (inr (inr (inr (inr (inr is)), reads))))))))))) = absurd (never _ _ name e is refl)

pub reads_check : (name : Text) (rows : List Row) → name ≡ codes "check" → Reads name rows → ReadsAsFiles rows
unfolding Reads
reads_check name rows e (inl (is, reads)) = absurd (never _ _ name e is refl)
reads_check name rows e (inr (inl is)) = absurd (never _ _ name e is refl)
reads_check name rows e (inr (inr (inl (inl is, reads)))) = reads
reads_check name rows e (inr (inr (inl (inr is, reads)))) = reads
reads_check name rows e (inr (inr (inr (inl (is, reads))))) = absurd (never _ _ name e is refl)
reads_check name rows e (inr (inr (inr (inr (inl (is, reads)))))) = absurd (never _ _ name e is refl)
reads_check name rows e (inr (inr (inr (inr (inr (inl (is, reads))))))) = absurd (never _ _ name e is refl)
reads_check name rows e (inr (inr (inr (inr (inr (inr (inl (is, reads)))))))) = absurd (never _ _ name e is refl)
reads_check name rows e (inr (inr (inr (inr (inr (inr (inr (inl (is, reads))))))))) = absurd (never _ _ name e is refl)
reads_check name rows e (inr (inr (inr (inr (inr (inr (inr (inr (inl (is, reads)))))))))) = absurd (never _ _ name e is refl)
reads_check name rows e (inr (inr (inr (inr (inr (inr (inr (inr (inr (inl (is, reads))))))))))) = absurd (never _ _ name e is refl)
reads_check name rows e (inr (inr (inr (inr (inr (inr (inr (inr (inr (inr (inl is, reads))))))))))) = absurd (never _ _ name e is refl)
reads_check name rows e (inr (inr (inr (inr (inr (inr (inr (inr (inr (inr (inr (inl is), reads))))))))))) = absurd (never _ _ name e is refl)
reads_check name rows e (inr (inr (inr (inr (inr (inr (inr (inr (inr (inr (inr (inr (inl is)), reads))))))))))) = absurd (never _ _ name e is refl)
reads_check name rows e (inr (inr (inr (inr (inr (inr (inr (inr (inr (inr (inr (inr (inr is)), reads))))))))))) = absurd (never _ _ name e is refl)

pub reads_part : (name : Text) (rows : List Row) → name ≡ codes "part" → Reads name rows → ReadsAsFiles rows
unfolding Reads
reads_part name rows e (inl (is, reads)) = absurd (never _ _ name e is refl)
reads_part name rows e (inr (inl is)) = absurd (never _ _ name e is refl)
reads_part name rows e (inr (inr (inl (inl is, reads)))) = reads
reads_part name rows e (inr (inr (inl (inr is, reads)))) = reads
reads_part name rows e (inr (inr (inr (inl (is, reads))))) = absurd (never _ _ name e is refl)
reads_part name rows e (inr (inr (inr (inr (inl (is, reads)))))) = absurd (never _ _ name e is refl)
reads_part name rows e (inr (inr (inr (inr (inr (inl (is, reads))))))) = absurd (never _ _ name e is refl)
reads_part name rows e (inr (inr (inr (inr (inr (inr (inl (is, reads)))))))) = absurd (never _ _ name e is refl)
reads_part name rows e (inr (inr (inr (inr (inr (inr (inr (inl (is, reads))))))))) = absurd (never _ _ name e is refl)
reads_part name rows e (inr (inr (inr (inr (inr (inr (inr (inr (inl (is, reads)))))))))) = absurd (never _ _ name e is refl)
reads_part name rows e (inr (inr (inr (inr (inr (inr (inr (inr (inr (inl (is, reads))))))))))) = absurd (never _ _ name e is refl)
reads_part name rows e (inr (inr (inr (inr (inr (inr (inr (inr (inr (inr (inl is, reads))))))))))) = absurd (never _ _ name e is refl)
reads_part name rows e (inr (inr (inr (inr (inr (inr (inr (inr (inr (inr (inr (inl is), reads))))))))))) = absurd (never _ _ name e is refl)
reads_part name rows e (inr (inr (inr (inr (inr (inr (inr (inr (inr (inr (inr (inr (inl is)), reads))))))))))) = absurd (never _ _ name e is refl)
reads_part name rows e (inr (inr (inr (inr (inr (inr (inr (inr (inr (inr (inr (inr (inr is)), reads))))))))))) = absurd (never _ _ name e is refl)

pub reads_chart : (name : Text) (rows : List Row) → name ≡ codes "chart" → Reads name rows → ReadsAsChart rows
unfolding Reads
reads_chart name rows e (inl (is, reads)) = absurd (never _ _ name e is refl)
reads_chart name rows e (inr (inl is)) = absurd (never _ _ name e is refl)
reads_chart name rows e (inr (inr (inl (inl is, reads)))) = absurd (never _ _ name e is refl)
reads_chart name rows e (inr (inr (inl (inr is, reads)))) = absurd (never _ _ name e is refl)
reads_chart name rows e (inr (inr (inr (inl (is, reads))))) = reads
reads_chart name rows e (inr (inr (inr (inr (inl (is, reads)))))) = absurd (never _ _ name e is refl)
reads_chart name rows e (inr (inr (inr (inr (inr (inl (is, reads))))))) = absurd (never _ _ name e is refl)
reads_chart name rows e (inr (inr (inr (inr (inr (inr (inl (is, reads)))))))) = absurd (never _ _ name e is refl)
reads_chart name rows e (inr (inr (inr (inr (inr (inr (inr (inl (is, reads))))))))) = absurd (never _ _ name e is refl)
reads_chart name rows e (inr (inr (inr (inr (inr (inr (inr (inr (inl (is, reads)))))))))) = absurd (never _ _ name e is refl)
reads_chart name rows e (inr (inr (inr (inr (inr (inr (inr (inr (inr (inl (is, reads))))))))))) = absurd (never _ _ name e is refl)
reads_chart name rows e (inr (inr (inr (inr (inr (inr (inr (inr (inr (inr (inl is, reads))))))))))) = absurd (never _ _ name e is refl)
reads_chart name rows e (inr (inr (inr (inr (inr (inr (inr (inr (inr (inr (inr (inl is), reads))))))))))) = absurd (never _ _ name e is refl)
reads_chart name rows e (inr (inr (inr (inr (inr (inr (inr (inr (inr (inr (inr (inr (inl is)), reads))))))))))) = absurd (never _ _ name e is refl)
reads_chart name rows e (inr (inr (inr (inr (inr (inr (inr (inr (inr (inr (inr (inr (inr is)), reads))))))))))) = absurd (never _ _ name e is refl)

pub reads_state : (name : Text) (rows : List Row) → name ≡ codes "state" → Reads name rows → ReadsAsState rows
unfolding Reads
reads_state name rows e (inl (is, reads)) = absurd (never _ _ name e is refl)
reads_state name rows e (inr (inl is)) = absurd (never _ _ name e is refl)
reads_state name rows e (inr (inr (inl (inl is, reads)))) = absurd (never _ _ name e is refl)
reads_state name rows e (inr (inr (inl (inr is, reads)))) = absurd (never _ _ name e is refl)
reads_state name rows e (inr (inr (inr (inl (is, reads))))) = absurd (never _ _ name e is refl)
reads_state name rows e (inr (inr (inr (inr (inl (is, reads)))))) = reads
reads_state name rows e (inr (inr (inr (inr (inr (inl (is, reads))))))) = absurd (never _ _ name e is refl)
reads_state name rows e (inr (inr (inr (inr (inr (inr (inl (is, reads)))))))) = absurd (never _ _ name e is refl)
reads_state name rows e (inr (inr (inr (inr (inr (inr (inr (inl (is, reads))))))))) = absurd (never _ _ name e is refl)
reads_state name rows e (inr (inr (inr (inr (inr (inr (inr (inr (inl (is, reads)))))))))) = absurd (never _ _ name e is refl)
reads_state name rows e (inr (inr (inr (inr (inr (inr (inr (inr (inr (inl (is, reads))))))))))) = absurd (never _ _ name e is refl)
reads_state name rows e (inr (inr (inr (inr (inr (inr (inr (inr (inr (inr (inl is, reads))))))))))) = absurd (never _ _ name e is refl)
reads_state name rows e (inr (inr (inr (inr (inr (inr (inr (inr (inr (inr (inr (inl is), reads))))))))))) = absurd (never _ _ name e is refl)
reads_state name rows e (inr (inr (inr (inr (inr (inr (inr (inr (inr (inr (inr (inr (inl is)), reads))))))))))) = absurd (never _ _ name e is refl)
reads_state name rows e (inr (inr (inr (inr (inr (inr (inr (inr (inr (inr (inr (inr (inr is)), reads))))))))))) = absurd (never _ _ name e is refl)

pub reads_script : (name : Text) (rows : List Row) → name ≡ codes "script" → Reads name rows → ReadsAsFiles rows
unfolding Reads
reads_script name rows e (inl (is, reads)) = absurd (never _ _ name e is refl)
reads_script name rows e (inr (inl is)) = absurd (never _ _ name e is refl)
reads_script name rows e (inr (inr (inl (inl is, reads)))) = absurd (never _ _ name e is refl)
reads_script name rows e (inr (inr (inl (inr is, reads)))) = absurd (never _ _ name e is refl)
reads_script name rows e (inr (inr (inr (inl (is, reads))))) = absurd (never _ _ name e is refl)
reads_script name rows e (inr (inr (inr (inr (inl (is, reads)))))) = absurd (never _ _ name e is refl)
reads_script name rows e (inr (inr (inr (inr (inr (inl (is, reads))))))) = reads
reads_script name rows e (inr (inr (inr (inr (inr (inr (inl (is, reads)))))))) = absurd (never _ _ name e is refl)
reads_script name rows e (inr (inr (inr (inr (inr (inr (inr (inl (is, reads))))))))) = absurd (never _ _ name e is refl)
reads_script name rows e (inr (inr (inr (inr (inr (inr (inr (inr (inl (is, reads)))))))))) = absurd (never _ _ name e is refl)
reads_script name rows e (inr (inr (inr (inr (inr (inr (inr (inr (inr (inl (is, reads))))))))))) = absurd (never _ _ name e is refl)
reads_script name rows e (inr (inr (inr (inr (inr (inr (inr (inr (inr (inr (inl is, reads))))))))))) = absurd (never _ _ name e is refl)
reads_script name rows e (inr (inr (inr (inr (inr (inr (inr (inr (inr (inr (inr (inl is), reads))))))))))) = absurd (never _ _ name e is refl)
reads_script name rows e (inr (inr (inr (inr (inr (inr (inr (inr (inr (inr (inr (inr (inl is)), reads))))))))))) = absurd (never _ _ name e is refl)
reads_script name rows e (inr (inr (inr (inr (inr (inr (inr (inr (inr (inr (inr (inr (inr is)), reads))))))))))) = absurd (never _ _ name e is refl)

pub reads_count : (name : Text) (rows : List Row) → name ≡ codes "count" → Reads name rows → ReadsAsFiles rows
unfolding Reads
reads_count name rows e (inl (is, reads)) = absurd (never _ _ name e is refl)
reads_count name rows e (inr (inl is)) = absurd (never _ _ name e is refl)
reads_count name rows e (inr (inr (inl (inl is, reads)))) = absurd (never _ _ name e is refl)
reads_count name rows e (inr (inr (inl (inr is, reads)))) = absurd (never _ _ name e is refl)
reads_count name rows e (inr (inr (inr (inl (is, reads))))) = absurd (never _ _ name e is refl)
reads_count name rows e (inr (inr (inr (inr (inl (is, reads)))))) = absurd (never _ _ name e is refl)
reads_count name rows e (inr (inr (inr (inr (inr (inl (is, reads))))))) = absurd (never _ _ name e is refl)
reads_count name rows e (inr (inr (inr (inr (inr (inr (inl (is, reads)))))))) = reads
reads_count name rows e (inr (inr (inr (inr (inr (inr (inr (inl (is, reads))))))))) = absurd (never _ _ name e is refl)
reads_count name rows e (inr (inr (inr (inr (inr (inr (inr (inr (inl (is, reads)))))))))) = absurd (never _ _ name e is refl)
reads_count name rows e (inr (inr (inr (inr (inr (inr (inr (inr (inr (inl (is, reads))))))))))) = absurd (never _ _ name e is refl)
reads_count name rows e (inr (inr (inr (inr (inr (inr (inr (inr (inr (inr (inl is, reads))))))))))) = absurd (never _ _ name e is refl)
reads_count name rows e (inr (inr (inr (inr (inr (inr (inr (inr (inr (inr (inr (inl is), reads))))))))))) = absurd (never _ _ name e is refl)
reads_count name rows e (inr (inr (inr (inr (inr (inr (inr (inr (inr (inr (inr (inr (inl is)), reads))))))))))) = absurd (never _ _ name e is refl)
reads_count name rows e (inr (inr (inr (inr (inr (inr (inr (inr (inr (inr (inr (inr (inr is)), reads))))))))))) = absurd (never _ _ name e is refl)

pub reads_follow : (name : Text) (rows : List Row) → name ≡ codes "follow" → Reads name rows → ReadsAsFiles rows
unfolding Reads
reads_follow name rows e (inl (is, reads)) = absurd (never _ _ name e is refl)
reads_follow name rows e (inr (inl is)) = absurd (never _ _ name e is refl)
reads_follow name rows e (inr (inr (inl (inl is, reads)))) = absurd (never _ _ name e is refl)
reads_follow name rows e (inr (inr (inl (inr is, reads)))) = absurd (never _ _ name e is refl)
reads_follow name rows e (inr (inr (inr (inl (is, reads))))) = absurd (never _ _ name e is refl)
reads_follow name rows e (inr (inr (inr (inr (inl (is, reads)))))) = absurd (never _ _ name e is refl)
reads_follow name rows e (inr (inr (inr (inr (inr (inl (is, reads))))))) = absurd (never _ _ name e is refl)
reads_follow name rows e (inr (inr (inr (inr (inr (inr (inl (is, reads)))))))) = absurd (never _ _ name e is refl)
reads_follow name rows e (inr (inr (inr (inr (inr (inr (inr (inl (is, reads))))))))) = reads
reads_follow name rows e (inr (inr (inr (inr (inr (inr (inr (inr (inl (is, reads)))))))))) = absurd (never _ _ name e is refl)
reads_follow name rows e (inr (inr (inr (inr (inr (inr (inr (inr (inr (inl (is, reads))))))))))) = absurd (never _ _ name e is refl)
reads_follow name rows e (inr (inr (inr (inr (inr (inr (inr (inr (inr (inr (inl is, reads))))))))))) = absurd (never _ _ name e is refl)
reads_follow name rows e (inr (inr (inr (inr (inr (inr (inr (inr (inr (inr (inr (inl is), reads))))))))))) = absurd (never _ _ name e is refl)
reads_follow name rows e (inr (inr (inr (inr (inr (inr (inr (inr (inr (inr (inr (inr (inl is)), reads))))))))))) = absurd (never _ _ name e is refl)
reads_follow name rows e (inr (inr (inr (inr (inr (inr (inr (inr (inr (inr (inr (inr (inr is)), reads))))))))))) = absurd (never _ _ name e is refl)

pub reads_talk : (name : Text) (rows : List Row) → name ≡ codes "talk" → Reads name rows → ReadsAsTalk rows
unfolding Reads
reads_talk name rows e (inl (is, reads)) = absurd (never _ _ name e is refl)
reads_talk name rows e (inr (inl is)) = absurd (never _ _ name e is refl)
reads_talk name rows e (inr (inr (inl (inl is, reads)))) = absurd (never _ _ name e is refl)
reads_talk name rows e (inr (inr (inl (inr is, reads)))) = absurd (never _ _ name e is refl)
reads_talk name rows e (inr (inr (inr (inl (is, reads))))) = absurd (never _ _ name e is refl)
reads_talk name rows e (inr (inr (inr (inr (inl (is, reads)))))) = absurd (never _ _ name e is refl)
reads_talk name rows e (inr (inr (inr (inr (inr (inl (is, reads))))))) = absurd (never _ _ name e is refl)
reads_talk name rows e (inr (inr (inr (inr (inr (inr (inl (is, reads)))))))) = absurd (never _ _ name e is refl)
reads_talk name rows e (inr (inr (inr (inr (inr (inr (inr (inl (is, reads))))))))) = absurd (never _ _ name e is refl)
reads_talk name rows e (inr (inr (inr (inr (inr (inr (inr (inr (inl (is, reads)))))))))) = reads
reads_talk name rows e (inr (inr (inr (inr (inr (inr (inr (inr (inr (inl (is, reads))))))))))) = absurd (never _ _ name e is refl)
reads_talk name rows e (inr (inr (inr (inr (inr (inr (inr (inr (inr (inr (inl is, reads))))))))))) = absurd (never _ _ name e is refl)
reads_talk name rows e (inr (inr (inr (inr (inr (inr (inr (inr (inr (inr (inr (inl is), reads))))))))))) = absurd (never _ _ name e is refl)
reads_talk name rows e (inr (inr (inr (inr (inr (inr (inr (inr (inr (inr (inr (inr (inl is)), reads))))))))))) = absurd (never _ _ name e is refl)
reads_talk name rows e (inr (inr (inr (inr (inr (inr (inr (inr (inr (inr (inr (inr (inr is)), reads))))))))))) = absurd (never _ _ name e is refl)

pub reads_migrate : (name : Text) (rows : List Row) → name ≡ codes "migrate" → Reads name rows → ReadsAsMigrate rows
unfolding Reads
reads_migrate name rows e (inl (is, reads)) = absurd (never _ _ name e is refl)
reads_migrate name rows e (inr (inl is)) = absurd (never _ _ name e is refl)
reads_migrate name rows e (inr (inr (inl (inl is, reads)))) = absurd (never _ _ name e is refl)
reads_migrate name rows e (inr (inr (inl (inr is, reads)))) = absurd (never _ _ name e is refl)
reads_migrate name rows e (inr (inr (inr (inl (is, reads))))) = absurd (never _ _ name e is refl)
reads_migrate name rows e (inr (inr (inr (inr (inl (is, reads)))))) = absurd (never _ _ name e is refl)
reads_migrate name rows e (inr (inr (inr (inr (inr (inl (is, reads))))))) = absurd (never _ _ name e is refl)
reads_migrate name rows e (inr (inr (inr (inr (inr (inr (inl (is, reads)))))))) = absurd (never _ _ name e is refl)
reads_migrate name rows e (inr (inr (inr (inr (inr (inr (inr (inl (is, reads))))))))) = absurd (never _ _ name e is refl)
reads_migrate name rows e (inr (inr (inr (inr (inr (inr (inr (inr (inl (is, reads)))))))))) = absurd (never _ _ name e is refl)
reads_migrate name rows e (inr (inr (inr (inr (inr (inr (inr (inr (inr (inl (is, reads))))))))))) = reads
reads_migrate name rows e (inr (inr (inr (inr (inr (inr (inr (inr (inr (inr (inl is, reads))))))))))) = absurd (never _ _ name e is refl)
reads_migrate name rows e (inr (inr (inr (inr (inr (inr (inr (inr (inr (inr (inr (inl is), reads))))))))))) = absurd (never _ _ name e is refl)
reads_migrate name rows e (inr (inr (inr (inr (inr (inr (inr (inr (inr (inr (inr (inr (inl is)), reads))))))))))) = absurd (never _ _ name e is refl)
reads_migrate name rows e (inr (inr (inr (inr (inr (inr (inr (inr (inr (inr (inr (inr (inr is)), reads))))))))))) = absurd (never _ _ name e is refl)
