-- An event is read just of a line whose words are as its parameters say.
use Rattle.std.proofs.Common.{◌≡◌, ℕ, Bool, true, false, cond, List, [], ◌∷◌, Option, Some, None, refl, sym}
use Rattle.std.specs.Prelude.{codes, bytes_eq, is_some, is_none}
use Rattle.std.specs.Option.{option_map}
use Rattle.std.specs.Result.{result_ok}
use Rattle.std.specs.List.{list_all}
use Rattle.std.proofs.lemmas.Slice.Eq.{bytes_eq-Decides}
use Rattle.am_names.specs.{path_read, PipeState, Status}
use Rattle.am_names.specs.declared.fail_no.FailNo.{FailNo}
use Rattle.am_names.specs.declared.fail_no.FailNo.TheVariants.{ENOENT}
use Rattle.am_group.specs.{Change}
use Rattle.am_propagate.specs.{CopyForm}
use Rattle.am_propagate.specs.declared.subtree.namespace.CopyForm.TheVariants.{Full}
use Rattle.am_machine.specs.{Event}
use Rattle.am_machine.specs.declared.event.Event.TheVariants as events
use Rattle.am_script.specs.Numbers.{u32_read, u64_read}
use Rattle.am_script.specs.EventWords.{pipe_read, change_read, form_read, immediate_read, failure_read, outcome_read, outcome_word_read, status_read, trigger_name_read, packet_read}
use Rattle.am_script.specs.AdministratorLines.{mount_of, mount_read, bind_of, bind_read, umount_of, umount_read, change_of, change_line_read, kind_of, kind_read, nscopy_of, nscopy_read, nsdrop_read, admincat_read}
use Rattle.am_script.specs.WalkerLines.{walk_of, walk_read, resume_of, resume_read, leave_read, expire_of, expire_read}
use Rattle.am_script.specs.DaemonLines.{attach_read, deliver_of, deliver_read, act_of, act_read, repeat_of, repeat_read, catatonic_of, catatonic_read, timeout_of, timeout_read, die_read, reattach_read, record_of, record_read}
use Rattle.am_script.specs.Events.{event_by_word, event_read}
use Rattle.am_diagnosis.specs.declared.expected.Expected.{Expected}
use Rattle.am_diagnosis.specs.declared.expected.Expected.TheVariants as expected
use Rattle.am_diagnosis.specs.declared.expected.Expected.TheVariants.{Walker, Namespace, FileSystem, Token, Job, Attachment, Seconds, Moment, Path, Pipe, Expiry, Reduced, Packet, Outcome, Failure, Name}
use Rattle.am_diagnosis.specs.declared.misfit.Misfit.{Misfit}
use Rattle.am_diagnosis.specs.Misfits.{Words, ReadsJust, misfit_at, misfit_of, misfit_by}
use Rattle.am_diagnosis.specs.Parameters.{parameters}
use Rattle.am_diagnosis.specs.Events.{event_misfit, IsEvent}
use Rattle.am_diagnosis.proofs.MisfitLemmas.{is_met, shut}
use Rattle.am_diagnosis.proofs.LawLemmas.{AreMet, IsTable, just_by_tests}

-- these words are read as an event just where they are as the parameters say
abbrev Agrees : Option Event → List Expected → Words → Type 0
Agrees event parameters words = is_some event ≡ is_none (misfit_of 1 parameters words)

-- ---- events with so many words

attach_whole : (m1 : Misfit) (a : Option (Words)) → is_some (option_map events.Attach a) ≡ is_none (cond (is_some a) (None) (Some m1))
attach_whole m1 None = refl
attach_whole m1 (Some a) = refl

attach_agrees : (words : Words) → Agrees (attach_read words) (Path ∷ []) words
attach_agrees [] = refl
attach_agrees (a ∷ []) = attach_whole _ (result_ok (path_read a))
attach_agrees (a ∷ other ∷ words) = sym (shut 1 (Path ∷ []) a (other ∷ words) refl)

mount_whole : (m1 m2 : Misfit) (a : Option (ℕ)) (b : Option (Words)) → is_some (mount_of a b) ≡ is_none (cond (is_some a) (cond (is_some b) (None) (Some m2)) (Some m1))
mount_whole m1 m2 None b = refl
mount_whole m1 m2 (Some a) None = refl
mount_whole m1 m2 (Some a) (Some b) = refl

mount_agrees : (words : Words) → Agrees (mount_read words) (Namespace ∷ Path ∷ []) words
mount_agrees [] = refl
mount_agrees (a ∷ []) = sym (shut 1 (Namespace ∷ Path ∷ []) a [] refl)
mount_agrees (a ∷ b ∷ []) = mount_whole _ _ (u32_read a) (result_ok (path_read b))
mount_agrees (a ∷ b ∷ other ∷ words) = sym (shut 1 (Namespace ∷ Path ∷ []) a (b ∷ other ∷ words) (shut 2 (Path ∷ []) b (other ∷ words) refl))

bind_whole : (m1 m2 m3 : Misfit) (a : Option (ℕ)) (b : Option (Words)) (c : Option (Words)) → is_some (bind_of a b c) ≡ is_none (cond (is_some a) (cond (is_some b) (cond (is_some c) (None) (Some m3)) (Some m2)) (Some m1))
bind_whole m1 m2 m3 None b c = refl
bind_whole m1 m2 m3 (Some a) None c = refl
bind_whole m1 m2 m3 (Some a) (Some b) None = refl
bind_whole m1 m2 m3 (Some a) (Some b) (Some c) = refl

bind_agrees : (words : Words) → Agrees (bind_read words) (Namespace ∷ Path ∷ Path ∷ []) words
bind_agrees [] = refl
bind_agrees (a ∷ []) = sym (shut 1 (Namespace ∷ Path ∷ Path ∷ []) a [] refl)
bind_agrees (a ∷ b ∷ []) = sym (shut 1 (Namespace ∷ Path ∷ Path ∷ []) a (b ∷ []) (shut 2 (Path ∷ Path ∷ []) b [] refl))
bind_agrees (a ∷ b ∷ c ∷ []) = bind_whole _ _ _ (u32_read a) (result_ok (path_read b)) (result_ok (path_read c))
bind_agrees (a ∷ b ∷ c ∷ other ∷ words) = sym (shut 1 (Namespace ∷ Path ∷ Path ∷ []) a (b ∷ c ∷ other ∷ words) (shut 2 (Path ∷ Path ∷ []) b (c ∷ other ∷ words) (shut 3 (Path ∷ []) c (other ∷ words) refl)))

umount_whole : (m1 m2 : Misfit) (a : Option (ℕ)) (b : Option (Words)) → is_some (umount_of a b) ≡ is_none (cond (is_some a) (cond (is_some b) (None) (Some m2)) (Some m1))
umount_whole m1 m2 None b = refl
umount_whole m1 m2 (Some a) None = refl
umount_whole m1 m2 (Some a) (Some b) = refl

umount_agrees : (words : Words) → Agrees (umount_read words) (Namespace ∷ Path ∷ []) words
umount_agrees [] = refl
umount_agrees (a ∷ []) = sym (shut 1 (Namespace ∷ Path ∷ []) a [] refl)
umount_agrees (a ∷ b ∷ []) = umount_whole _ _ (u32_read a) (result_ok (path_read b))
umount_agrees (a ∷ b ∷ other ∷ words) = sym (shut 1 (Namespace ∷ Path ∷ []) a (b ∷ other ∷ words) (shut 2 (Path ∷ []) b (other ∷ words) refl))

change_whole : (m1 m2 m3 : Misfit) (a : Option (ℕ)) (b : Option (Words)) (c : Option (Change)) → is_some (change_of a b c) ≡ is_none (cond (is_some a) (cond (is_some b) (cond (is_some c) (None) (Some m3)) (Some m2)) (Some m1))
change_whole m1 m2 m3 None b c = refl
change_whole m1 m2 m3 (Some a) None c = refl
change_whole m1 m2 m3 (Some a) (Some b) None = refl
change_whole m1 m2 m3 (Some a) (Some b) (Some c) = refl

change_agrees : (words : Words) → Agrees (change_line_read words) (Namespace ∷ Path ∷ expected.Change ∷ []) words
change_agrees [] = refl
change_agrees (a ∷ []) = sym (shut 1 (Namespace ∷ Path ∷ expected.Change ∷ []) a [] refl)
change_agrees (a ∷ b ∷ []) = sym (shut 1 (Namespace ∷ Path ∷ expected.Change ∷ []) a (b ∷ []) (shut 2 (Path ∷ expected.Change ∷ []) b [] refl))
change_agrees (a ∷ b ∷ c ∷ []) = change_whole _ _ _ (u32_read a) (result_ok (path_read b)) (change_read c)
change_agrees (a ∷ b ∷ c ∷ other ∷ words) = sym (shut 1 (Namespace ∷ Path ∷ expected.Change ∷ []) a (b ∷ c ∷ other ∷ words) (shut 2 (Path ∷ expected.Change ∷ []) b (c ∷ other ∷ words) (shut 3 (expected.Change ∷ []) c (other ∷ words) refl)))

kind_whole : (m1 m2 : Misfit) (a : Option (ℕ)) (b : Option (Words)) → is_some (kind_of a b) ≡ is_none (cond (is_some a) (cond (is_some b) (None) (Some m2)) (Some m1))
kind_whole m1 m2 None b = refl
kind_whole m1 m2 (Some a) None = refl
kind_whole m1 m2 (Some a) (Some b) = refl

kind_agrees : (words : Words) → Agrees (kind_read words) (Namespace ∷ Path ∷ []) words
kind_agrees [] = refl
kind_agrees (a ∷ []) = sym (shut 1 (Namespace ∷ Path ∷ []) a [] refl)
kind_agrees (a ∷ b ∷ []) = kind_whole _ _ (u32_read a) (result_ok (path_read b))
kind_agrees (a ∷ b ∷ other ∷ words) = sym (shut 1 (Namespace ∷ Path ∷ []) a (b ∷ other ∷ words) (shut 2 (Path ∷ []) b (other ∷ words) refl))

nsdrop_whole : (m1 : Misfit) (a : Option (ℕ)) → is_some (option_map events.DropNamespace a) ≡ is_none (cond (is_some a) (None) (Some m1))
nsdrop_whole m1 None = refl
nsdrop_whole m1 (Some a) = refl

nsdrop_agrees : (words : Words) → Agrees (nsdrop_read words) (Namespace ∷ []) words
nsdrop_agrees [] = refl
nsdrop_agrees (a ∷ []) = nsdrop_whole _ (u32_read a)
nsdrop_agrees (a ∷ other ∷ words) = sym (shut 1 (Namespace ∷ []) a (other ∷ words) refl)

walk_whole : (m1 m2 m3 m4 m5 : Misfit) (a : Option (ℕ)) (b : Option (ℕ)) (c : Option (Words)) (d : Option (ℕ)) (e : Option (PipeState)) → is_some (walk_of a b c d e) ≡ is_none (cond (is_some a) (cond (is_some b) (cond (is_some c) (cond (is_some d) (cond (is_some e) (None) (Some m5)) (Some m4)) (Some m3)) (Some m2)) (Some m1))
walk_whole m1 m2 m3 m4 m5 None b c d e = refl
walk_whole m1 m2 m3 m4 m5 (Some a) None c d e = refl
walk_whole m1 m2 m3 m4 m5 (Some a) (Some b) None d e = refl
walk_whole m1 m2 m3 m4 m5 (Some a) (Some b) (Some c) None e = refl
walk_whole m1 m2 m3 m4 m5 (Some a) (Some b) (Some c) (Some d) None = refl
walk_whole m1 m2 m3 m4 m5 (Some a) (Some b) (Some c) (Some d) (Some e) = refl

walk_agrees : (words : Words) → Agrees (walk_read words) (Walker ∷ Namespace ∷ Path ∷ Moment ∷ Pipe ∷ []) words
walk_agrees [] = refl
walk_agrees (a ∷ []) = sym (shut 1 (Walker ∷ Namespace ∷ Path ∷ Moment ∷ Pipe ∷ []) a [] refl)
walk_agrees (a ∷ b ∷ []) = sym (shut 1 (Walker ∷ Namespace ∷ Path ∷ Moment ∷ Pipe ∷ []) a (b ∷ []) (shut 2 (Namespace ∷ Path ∷ Moment ∷ Pipe ∷ []) b [] refl))
walk_agrees (a ∷ b ∷ c ∷ []) = sym (shut 1 (Walker ∷ Namespace ∷ Path ∷ Moment ∷ Pipe ∷ []) a (b ∷ c ∷ []) (shut 2 (Namespace ∷ Path ∷ Moment ∷ Pipe ∷ []) b (c ∷ []) (shut 3 (Path ∷ Moment ∷ Pipe ∷ []) c [] refl)))
walk_agrees (a ∷ b ∷ c ∷ d ∷ []) = sym (shut 1 (Walker ∷ Namespace ∷ Path ∷ Moment ∷ Pipe ∷ []) a (b ∷ c ∷ d ∷ []) (shut 2 (Namespace ∷ Path ∷ Moment ∷ Pipe ∷ []) b (c ∷ d ∷ []) (shut 3 (Path ∷ Moment ∷ Pipe ∷ []) c (d ∷ []) (shut 4 (Moment ∷ Pipe ∷ []) d [] refl))))
walk_agrees (a ∷ b ∷ c ∷ d ∷ e ∷ []) = walk_whole _ _ _ _ _ (u32_read a) (u32_read b) (result_ok (path_read c)) (u64_read d) (pipe_read e)
walk_agrees (a ∷ b ∷ c ∷ d ∷ e ∷ other ∷ words) = sym (shut 1 (Walker ∷ Namespace ∷ Path ∷ Moment ∷ Pipe ∷ []) a (b ∷ c ∷ d ∷ e ∷ other ∷ words) (shut 2 (Namespace ∷ Path ∷ Moment ∷ Pipe ∷ []) b (c ∷ d ∷ e ∷ other ∷ words) (shut 3 (Path ∷ Moment ∷ Pipe ∷ []) c (d ∷ e ∷ other ∷ words) (shut 4 (Moment ∷ Pipe ∷ []) d (e ∷ other ∷ words) (shut 5 (Pipe ∷ []) e (other ∷ words) refl)))))

resume_whole : (m1 m2 m3 : Misfit) (a : Option (ℕ)) (b : Option (ℕ)) (c : Option (PipeState)) → is_some (resume_of a b c) ≡ is_none (cond (is_some a) (cond (is_some b) (cond (is_some c) (None) (Some m3)) (Some m2)) (Some m1))
resume_whole m1 m2 m3 None b c = refl
resume_whole m1 m2 m3 (Some a) None c = refl
resume_whole m1 m2 m3 (Some a) (Some b) None = refl
resume_whole m1 m2 m3 (Some a) (Some b) (Some c) = refl

resume_agrees : (words : Words) → Agrees (resume_read words) (Walker ∷ Moment ∷ Pipe ∷ []) words
resume_agrees [] = refl
resume_agrees (a ∷ []) = sym (shut 1 (Walker ∷ Moment ∷ Pipe ∷ []) a [] refl)
resume_agrees (a ∷ b ∷ []) = sym (shut 1 (Walker ∷ Moment ∷ Pipe ∷ []) a (b ∷ []) (shut 2 (Moment ∷ Pipe ∷ []) b [] refl))
resume_agrees (a ∷ b ∷ c ∷ []) = resume_whole _ _ _ (u32_read a) (u64_read b) (pipe_read c)
resume_agrees (a ∷ b ∷ c ∷ other ∷ words) = sym (shut 1 (Walker ∷ Moment ∷ Pipe ∷ []) a (b ∷ c ∷ other ∷ words) (shut 2 (Moment ∷ Pipe ∷ []) b (c ∷ other ∷ words) (shut 3 (Pipe ∷ []) c (other ∷ words) refl)))

leave_whole : (m1 : Misfit) (a : Option (ℕ)) → is_some (option_map events.Leave a) ≡ is_none (cond (is_some a) (None) (Some m1))
leave_whole m1 None = refl
leave_whole m1 (Some a) = refl

leave_agrees : (words : Words) → Agrees (leave_read words) (Walker ∷ []) words
leave_agrees [] = refl
leave_agrees (a ∷ []) = leave_whole _ (u32_read a)
leave_agrees (a ∷ other ∷ words) = sym (shut 1 (Walker ∷ []) a (other ∷ words) refl)

expire_whole : (m1 m2 m3 m4 m5 : Misfit) (a : Option (ℕ)) (b : Option (ℕ)) (c : Option (ℕ)) (d : Option (Bool)) (e : Option (PipeState)) → is_some (expire_of a b c d e) ≡ is_none (cond (is_some a) (cond (is_some b) (cond (is_some c) (cond (is_some d) (cond (is_some e) (None) (Some m5)) (Some m4)) (Some m3)) (Some m2)) (Some m1))
expire_whole m1 m2 m3 m4 m5 None b c d e = refl
expire_whole m1 m2 m3 m4 m5 (Some a) None c d e = refl
expire_whole m1 m2 m3 m4 m5 (Some a) (Some b) None d e = refl
expire_whole m1 m2 m3 m4 m5 (Some a) (Some b) (Some c) None e = refl
expire_whole m1 m2 m3 m4 m5 (Some a) (Some b) (Some c) (Some d) None = refl
expire_whole m1 m2 m3 m4 m5 (Some a) (Some b) (Some c) (Some d) (Some e) = refl

expire_agrees : (words : Words) → Agrees (expire_read words) (Walker ∷ FileSystem ∷ Moment ∷ Expiry ∷ Pipe ∷ []) words
expire_agrees [] = refl
expire_agrees (a ∷ []) = sym (shut 1 (Walker ∷ FileSystem ∷ Moment ∷ Expiry ∷ Pipe ∷ []) a [] refl)
expire_agrees (a ∷ b ∷ []) = sym (shut 1 (Walker ∷ FileSystem ∷ Moment ∷ Expiry ∷ Pipe ∷ []) a (b ∷ []) (shut 2 (FileSystem ∷ Moment ∷ Expiry ∷ Pipe ∷ []) b [] refl))
expire_agrees (a ∷ b ∷ c ∷ []) = sym (shut 1 (Walker ∷ FileSystem ∷ Moment ∷ Expiry ∷ Pipe ∷ []) a (b ∷ c ∷ []) (shut 2 (FileSystem ∷ Moment ∷ Expiry ∷ Pipe ∷ []) b (c ∷ []) (shut 3 (Moment ∷ Expiry ∷ Pipe ∷ []) c [] refl)))
expire_agrees (a ∷ b ∷ c ∷ d ∷ []) = sym (shut 1 (Walker ∷ FileSystem ∷ Moment ∷ Expiry ∷ Pipe ∷ []) a (b ∷ c ∷ d ∷ []) (shut 2 (FileSystem ∷ Moment ∷ Expiry ∷ Pipe ∷ []) b (c ∷ d ∷ []) (shut 3 (Moment ∷ Expiry ∷ Pipe ∷ []) c (d ∷ []) (shut 4 (Expiry ∷ Pipe ∷ []) d [] refl))))
expire_agrees (a ∷ b ∷ c ∷ d ∷ e ∷ []) = expire_whole _ _ _ _ _ (u32_read a) (u32_read b) (u64_read c) (immediate_read d) (pipe_read e)
expire_agrees (a ∷ b ∷ c ∷ d ∷ e ∷ other ∷ words) = sym (shut 1 (Walker ∷ FileSystem ∷ Moment ∷ Expiry ∷ Pipe ∷ []) a (b ∷ c ∷ d ∷ e ∷ other ∷ words) (shut 2 (FileSystem ∷ Moment ∷ Expiry ∷ Pipe ∷ []) b (c ∷ d ∷ e ∷ other ∷ words) (shut 3 (Moment ∷ Expiry ∷ Pipe ∷ []) c (d ∷ e ∷ other ∷ words) (shut 4 (Expiry ∷ Pipe ∷ []) d (e ∷ other ∷ words) (shut 5 (Pipe ∷ []) e (other ∷ words) refl)))))

repeat_whole : (m1 m2 m3 : Misfit) (a : Option (ℕ)) (b : Option (ℕ)) (c : Option (Status)) → is_some (repeat_of a b c) ≡ is_none (cond (is_some a) (cond (is_some b) (cond (is_some c) (None) (Some m3)) (Some m2)) (Some m1))
repeat_whole m1 m2 m3 None b c = refl
repeat_whole m1 m2 m3 (Some a) None c = refl
repeat_whole m1 m2 m3 (Some a) (Some b) None = refl
repeat_whole m1 m2 m3 (Some a) (Some b) (Some c) = refl

repeat_agrees : (words : Words) → Agrees (repeat_read words) (Attachment ∷ Token ∷ expected.Status ∷ []) words
repeat_agrees [] = refl
repeat_agrees (a ∷ []) = sym (shut 1 (Attachment ∷ Token ∷ expected.Status ∷ []) a [] refl)
repeat_agrees (a ∷ b ∷ []) = sym (shut 1 (Attachment ∷ Token ∷ expected.Status ∷ []) a (b ∷ []) (shut 2 (Token ∷ expected.Status ∷ []) b [] refl))
repeat_agrees (a ∷ b ∷ c ∷ []) = repeat_whole _ _ _ (u32_read a) (u32_read b) (status_read c)
repeat_agrees (a ∷ b ∷ c ∷ other ∷ words) = sym (shut 1 (Attachment ∷ Token ∷ expected.Status ∷ []) a (b ∷ c ∷ other ∷ words) (shut 2 (Token ∷ expected.Status ∷ []) b (c ∷ other ∷ words) (shut 3 (expected.Status ∷ []) c (other ∷ words) refl)))

catatonic_whole : (m1 m2 : Misfit) (a : Option (ℕ)) (b : Option (ℕ)) → is_some (catatonic_of a b) ≡ is_none (cond (is_some a) (cond (is_some b) (None) (Some m2)) (Some m1))
catatonic_whole m1 m2 None b = refl
catatonic_whole m1 m2 (Some a) None = refl
catatonic_whole m1 m2 (Some a) (Some b) = refl

catatonic_agrees : (words : Words) → Agrees (catatonic_read words) (Attachment ∷ FileSystem ∷ []) words
catatonic_agrees [] = refl
catatonic_agrees (a ∷ []) = sym (shut 1 (Attachment ∷ FileSystem ∷ []) a [] refl)
catatonic_agrees (a ∷ b ∷ []) = catatonic_whole _ _ (u32_read a) (u32_read b)
catatonic_agrees (a ∷ b ∷ other ∷ words) = sym (shut 1 (Attachment ∷ FileSystem ∷ []) a (b ∷ other ∷ words) (shut 2 (FileSystem ∷ []) b (other ∷ words) refl))

admincat_whole : (m1 : Misfit) (a : Option (ℕ)) → is_some (option_map events.AdminCatatonic a) ≡ is_none (cond (is_some a) (None) (Some m1))
admincat_whole m1 None = refl
admincat_whole m1 (Some a) = refl

admincat_agrees : (words : Words) → Agrees (admincat_read words) (FileSystem ∷ []) words
admincat_agrees [] = refl
admincat_agrees (a ∷ []) = admincat_whole _ (u32_read a)
admincat_agrees (a ∷ other ∷ words) = sym (shut 1 (FileSystem ∷ []) a (other ∷ words) refl)

timeout_whole : (m1 m2 m3 : Misfit) (a : Option (ℕ)) (b : Option (ℕ)) (c : Option (ℕ)) → is_some (timeout_of a b c) ≡ is_none (cond (is_some a) (cond (is_some b) (cond (is_some c) (None) (Some m3)) (Some m2)) (Some m1))
timeout_whole m1 m2 m3 None b c = refl
timeout_whole m1 m2 m3 (Some a) None c = refl
timeout_whole m1 m2 m3 (Some a) (Some b) None = refl
timeout_whole m1 m2 m3 (Some a) (Some b) (Some c) = refl

timeout_agrees : (words : Words) → Agrees (timeout_read words) (Attachment ∷ FileSystem ∷ Seconds ∷ []) words
timeout_agrees [] = refl
timeout_agrees (a ∷ []) = sym (shut 1 (Attachment ∷ FileSystem ∷ Seconds ∷ []) a [] refl)
timeout_agrees (a ∷ b ∷ []) = sym (shut 1 (Attachment ∷ FileSystem ∷ Seconds ∷ []) a (b ∷ []) (shut 2 (FileSystem ∷ Seconds ∷ []) b [] refl))
timeout_agrees (a ∷ b ∷ c ∷ []) = timeout_whole _ _ _ (u32_read a) (u32_read b) (u32_read c)
timeout_agrees (a ∷ b ∷ c ∷ other ∷ words) = sym (shut 1 (Attachment ∷ FileSystem ∷ Seconds ∷ []) a (b ∷ c ∷ other ∷ words) (shut 2 (FileSystem ∷ Seconds ∷ []) b (c ∷ other ∷ words) (shut 3 (Seconds ∷ []) c (other ∷ words) refl)))

reattach_whole : (m1 : Misfit) (a : Option (ℕ)) → is_some (option_map events.Reattach a) ≡ is_none (cond (is_some a) (None) (Some m1))
reattach_whole m1 None = refl
reattach_whole m1 (Some a) = refl

reattach_agrees : (words : Words) → Agrees (reattach_read words) (FileSystem ∷ []) words
reattach_agrees [] = refl
reattach_agrees (a ∷ []) = reattach_whole _ (u32_read a)
reattach_agrees (a ∷ other ∷ words) = sym (shut 1 (FileSystem ∷ []) a (other ∷ words) refl)

record_whole : (m1 m2 : Misfit) (a : Option (ℕ)) (b : Option (Option (List ℕ))) → is_some (record_of a b) ≡ is_none (cond (is_some a) (cond (is_some b) (None) (Some m2)) (Some m1))
record_whole m1 m2 None b = refl
record_whole m1 m2 (Some a) None = refl
record_whole m1 m2 (Some a) (Some b) = refl

record_agrees : (words : Words) → Agrees (record_read words) (FileSystem ∷ Name ∷ []) words
record_agrees [] = refl
record_agrees (a ∷ []) = sym (shut 1 (FileSystem ∷ Name ∷ []) a [] refl)
record_agrees (a ∷ b ∷ []) = record_whole _ _ (u32_read a) (trigger_name_read b)
record_agrees (a ∷ b ∷ other ∷ words) = sym (shut 1 (FileSystem ∷ Name ∷ []) a (b ∷ other ∷ words) (shut 2 (Name ∷ []) b (other ∷ words) refl))

-- ---- events that may have a word more

nscopy_short : (m : Misfit) (a : Option ℕ) → is_some (nscopy_of a (Some Full)) ≡ is_none (cond (is_some a) None (Some m))
nscopy_short m None = refl
nscopy_short m (Some a) = refl

nscopy_whole : (m1 m2 : Misfit) (a : Option ℕ) (b : Option CopyForm) → is_some (nscopy_of a b) ≡ is_none (cond (is_some a) (cond (is_some b) None (Some m2)) (Some m1))
nscopy_whole m1 m2 None b = refl
nscopy_whole m1 m2 (Some a) None = refl
nscopy_whole m1 m2 (Some a) (Some b) = refl

nscopy_agrees : (words : Words) → Agrees (nscopy_read words) (Namespace ∷ Reduced ∷ []) words
nscopy_agrees [] = refl
nscopy_agrees (a ∷ []) = nscopy_short (misfit_at 1 Namespace) (u32_read a)
nscopy_agrees (a ∷ b ∷ []) = nscopy_whole (misfit_at 1 Namespace) (misfit_at 2 Reduced) (u32_read a) (form_read b)
nscopy_agrees (a ∷ b ∷ other ∷ words) = sym (shut 1 (Namespace ∷ Reduced ∷ []) a (b ∷ other ∷ words) (shut 2 (Reduced ∷ []) b (other ∷ words) refl))

deliver_short : (m : Misfit) (a : Option ℕ) → is_some (option_map (λ (t : ℕ). events.Deliver t None) a) ≡ is_none (cond (is_some a) None (Some m))
deliver_short m None = refl
deliver_short m (Some a) = refl

deliver_whole : (m1 m2 : Misfit) (a : Option ℕ) (b : Option (List ℕ)) → is_some (deliver_of a b) ≡ is_none (cond (is_some a) (cond (is_some b) None (Some m2)) (Some m1))
deliver_whole m1 m2 None b = refl
deliver_whole m1 m2 (Some a) None = refl
deliver_whole m1 m2 (Some a) (Some b) = refl

deliver_agrees : (words : Words) → Agrees (deliver_read words) (Token ∷ Packet ∷ []) words
deliver_agrees [] = refl
deliver_agrees (a ∷ []) = deliver_short (misfit_at 1 Token) (u32_read a)
deliver_agrees (a ∷ b ∷ []) = deliver_whole (misfit_at 1 Token) (misfit_at 2 Packet) (u32_read a) (packet_read b)
deliver_agrees (a ∷ b ∷ other ∷ words) = sym (shut 1 (Token ∷ Packet ∷ []) a (b ∷ other ∷ words) (shut 2 (Packet ∷ []) b (other ∷ words) refl))

die_agrees : (words : Words) → Agrees (die_read words) [] words
die_agrees [] = refl
die_agrees (other ∷ words) = refl

-- ---- acts

act_none : (a : Option ℕ) → is_some (act_of a None) ≡ false
act_none None = refl
act_none (Some a) = refl

-- how an act goes is read where the words behind its job are so
act_whole : (m : Misfit) (a : Option ℕ) (b : Option (Option FailNo)) (o : Option Misfit) → is_some b ≡ is_none o → is_some (act_of a b) ≡ is_none (cond (is_some a) o (Some m))
act_whole m None b o h = refl
act_whole m (Some a) None o h = h
act_whole m (Some a) (Some b) o h = h

-- one word, behind which the line may end
outcome_alone : (m : Misfit) (ok fail : Bool) → is_some (cond ok (Some None) (cond fail (Some (Some ENOENT)) None)) ≡ is_none (cond (is_some (cond ok (Some None) (cond fail (Some (Some ENOENT)) None))) (misfit_of 3 (cond ok [] (Failure ∷ [])) []) (Some m))
outcome_alone m true fail = refl
outcome_alone m false true = refl
outcome_alone m false false = refl

number_agrees : (m : Misfit) (f : Option FailNo) → is_some (option_map Some f) ≡ is_none (cond (is_some f) None (Some m))
number_agrees m None = refl
number_agrees m (Some f) = refl

-- a word and the number of an error, which only `fail` has
outcome_numbered : (m : Misfit) (ok fail : Bool) (digits : List ℕ) → (ok ≡ true → fail ≡ false) → is_some (cond fail (option_map Some (failure_read digits)) None) ≡ is_none (cond (is_some (cond ok (Some None) (cond fail (Some (Some ENOENT)) None))) (misfit_of 3 (cond ok [] (Failure ∷ [])) (digits ∷ [])) (Some m))
outcome_numbered m true true digits h = absurd (let e = h refl in cc)
outcome_numbered m true false digits h = refl
outcome_numbered m false true digits h = number_agrees (misfit_at 3 Failure) (failure_read digits)
outcome_numbered m false false digits h = refl

outcome_long : (ok : Bool) (digits other : List ℕ) (words : Words) → is_none (misfit_of 3 (cond ok [] (Failure ∷ [])) (digits ∷ other ∷ words)) ≡ false
outcome_long true digits other words = refl
outcome_long false digits other words = shut 3 (Failure ∷ []) digits (other ∷ words) refl

ok_or_fail : (word : List ℕ) → bytes_eq word (codes "ok") ≡ true → bytes_eq word (codes "fail") ≡ false
ok_or_fail word e = rw ((bytes_eq-Decides word (codes "ok")).0 e) refl

act_agrees : (words : Words) → Agrees (act_read words) (Job ∷ Outcome ∷ Failure ∷ []) words
act_agrees [] = refl
act_agrees (job ∷ []) = act_whole (misfit_at 1 Job) (u32_read job) None (Some (misfit_at 2 Outcome)) refl
act_agrees (job ∷ word ∷ []) = act_whole (misfit_at 1 Job) (u32_read job) (outcome_word_read word) (misfit_of 2 (Outcome ∷ Failure ∷ []) (word ∷ [])) (outcome_alone (misfit_at 2 Outcome) (bytes_eq word (codes "ok")) (bytes_eq word (codes "fail")))
act_agrees (job ∷ word ∷ digits ∷ []) = act_whole (misfit_at 1 Job) (u32_read job) (outcome_read (word ∷ digits ∷ [])) (misfit_of 2 (Outcome ∷ Failure ∷ []) (word ∷ digits ∷ [])) (outcome_numbered (misfit_at 2 Outcome) (bytes_eq word (codes "ok")) (bytes_eq word (codes "fail")) digits (ok_or_fail word))
act_agrees (job ∷ word ∷ digits ∷ other ∷ words) = act_whole (misfit_at 1 Job) (u32_read job) None (misfit_of 2 (Outcome ∷ Failure ∷ []) (word ∷ digits ∷ other ∷ words)) (sym (shut 2 (Outcome ∷ Failure ∷ []) word (digits ∷ other ∷ words) (outcome_long (bytes_eq word (codes "ok")) digits other words)))

-- ---- any event

-- a line more of the two tables
row : (word : Bool) (event others : Option Event) (kinds : List Expected) (rows : Option (List Expected)) (words : Words) → Agrees event kinds words → is_some others ≡ is_none (misfit_by expected.Event rows words) → is_some (cond word event others) ≡ is_none (misfit_by expected.Event (cond word (Some kinds) rows) words)
row true event others kinds rows words here behind = here
row false event others kinds rows words here behind = behind

pub event_agrees : (words : Words) → is_some (event_read words) ≡ is_none (event_misfit words)
unfolding event_by_word parameters
event_agrees [] = refl
event_agrees (word ∷ words) =
    row (bytes_eq word (codes "attach")) _ _ _ _ words (attach_agrees words) (
    row (bytes_eq word (codes "mount")) _ _ _ _ words (mount_agrees words) (
    row (bytes_eq word (codes "bind")) _ _ _ _ words (bind_agrees words) (
    row (bytes_eq word (codes "umount")) _ _ _ _ words (umount_agrees words) (
    row (bytes_eq word (codes "change")) _ _ _ _ words (change_agrees words) (
    row (bytes_eq word (codes "kind")) _ _ _ _ words (kind_agrees words) (
    row (bytes_eq word (codes "nscopy")) _ _ _ _ words (nscopy_agrees words) (
    row (bytes_eq word (codes "nsdrop")) _ _ _ _ words (nsdrop_agrees words) (
    row (bytes_eq word (codes "walk")) _ _ _ _ words (walk_agrees words) (
    row (bytes_eq word (codes "resume")) _ _ _ _ words (resume_agrees words) (
    row (bytes_eq word (codes "leave")) _ _ _ _ words (leave_agrees words) (
    row (bytes_eq word (codes "expire")) _ _ _ _ words (expire_agrees words) (
    row (bytes_eq word (codes "deliver")) _ _ _ _ words (deliver_agrees words) (
    row (bytes_eq word (codes "act")) _ _ _ _ words (act_agrees words) (
    row (bytes_eq word (codes "repeat")) _ _ _ _ words (repeat_agrees words) (
    row (bytes_eq word (codes "catatonic")) _ _ _ _ words (catatonic_agrees words) (
    row (bytes_eq word (codes "admincat")) _ _ _ _ words (admincat_agrees words) (
    row (bytes_eq word (codes "timeout")) _ _ _ _ words (timeout_agrees words) (
    row (bytes_eq word (codes "die")) _ _ _ _ words (die_agrees words) (
    row (bytes_eq word (codes "reattach")) _ _ _ _ words (reattach_agrees words) (
    row (bytes_eq word (codes "record")) _ _ _ _ words (record_agrees words) (refl)))))))))))))))))))))

-- ---- each parameter can be met

row_met : (word : Bool) (kinds : List Expected) (rows : Option (List Expected)) → list_all is_met kinds ≡ true → AreMet rows → AreMet (cond word (Some kinds) rows)
row_met true kinds rows here behind = here
row_met false kinds rows here behind = behind

pub parameters_met : (word : List ℕ) → AreMet (parameters word)
unfolding parameters
parameters_met word =
    row_met (bytes_eq word (codes "attach")) _ _ refl (
    row_met (bytes_eq word (codes "mount")) _ _ refl (
    row_met (bytes_eq word (codes "bind")) _ _ refl (
    row_met (bytes_eq word (codes "umount")) _ _ refl (
    row_met (bytes_eq word (codes "change")) _ _ refl (
    row_met (bytes_eq word (codes "kind")) _ _ refl (
    row_met (bytes_eq word (codes "nscopy")) _ _ refl (
    row_met (bytes_eq word (codes "nsdrop")) _ _ refl (
    row_met (bytes_eq word (codes "walk")) _ _ refl (
    row_met (bytes_eq word (codes "resume")) _ _ refl (
    row_met (bytes_eq word (codes "leave")) _ _ refl (
    row_met (bytes_eq word (codes "expire")) _ _ refl (
    row_met (bytes_eq word (codes "deliver")) _ _ refl (
    row_met (bytes_eq word (codes "act")) _ _ refl (
    row_met (bytes_eq word (codes "repeat")) _ _ refl (
    row_met (bytes_eq word (codes "catatonic")) _ _ refl (
    row_met (bytes_eq word (codes "admincat")) _ _ refl (
    row_met (bytes_eq word (codes "timeout")) _ _ refl (
    row_met (bytes_eq word (codes "die")) _ _ refl (
    row_met (bytes_eq word (codes "reattach")) _ _ refl (
    row_met (bytes_eq word (codes "record")) _ _ refl (tt)))))))))))))))))))))

pub events_are_a_table : IsTable expected.Event parameters
unfolding parameters
events_are_a_table = record {
  fits_rows = λ word. refl;
  goes_on = refl;
  met = parameters_met;
  some = codes "die" ∷ [];
  some_read = refl;
}

pub events_are_read : ReadsJust IsEvent event_misfit
events_are_read = just_by_tests (λ words. is_some (event_read words)) event_misfit event_agrees
