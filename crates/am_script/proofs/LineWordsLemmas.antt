-- A line that has another number of words is no event, and says not how long failures last.
use Rattle.std.proofs.Common.{◌≡◌, ℕ, false, List, [], ◌∷◌, None, refl}
use Rattle.am_script.specs.{negative_read, is_one, are_two, are_three, are_five, walk_read, resume_read, leave_read, expire_read, attach_read, repeat_read, catatonic_read, timeout_read, reattach_read, record_read, mount_read, bind_read, umount_read, change_line_read, kind_read, nsdrop_read, admincat_read}

pub no_walk : (words : List (List ℕ)) → are_five words ≡ false → walk_read words ≡ None
no_walk [] h = refl
no_walk (a ∷ []) h = refl
no_walk (a ∷ b ∷ []) h = refl
no_walk (a ∷ b ∷ c ∷ []) h = refl
no_walk (a ∷ b ∷ c ∷ d ∷ []) h = refl
no_walk (a ∷ b ∷ c ∷ d ∷ e ∷ []) h = absurd cc
no_walk (a ∷ b ∷ c ∷ d ∷ e ∷ f ∷ words) h = refl

pub no_resume : (words : List (List ℕ)) → are_three words ≡ false → resume_read words ≡ None
no_resume [] h = refl
no_resume (a ∷ []) h = refl
no_resume (a ∷ b ∷ []) h = refl
no_resume (a ∷ b ∷ c ∷ []) h = absurd cc
no_resume (a ∷ b ∷ c ∷ d ∷ words) h = refl

pub no_leave : (words : List (List ℕ)) → is_one words ≡ false → leave_read words ≡ None
no_leave [] h = refl
no_leave (a ∷ []) h = absurd cc
no_leave (a ∷ b ∷ words) h = refl

pub no_expire : (words : List (List ℕ)) → are_five words ≡ false → expire_read words ≡ None
no_expire [] h = refl
no_expire (a ∷ []) h = refl
no_expire (a ∷ b ∷ []) h = refl
no_expire (a ∷ b ∷ c ∷ []) h = refl
no_expire (a ∷ b ∷ c ∷ d ∷ []) h = refl
no_expire (a ∷ b ∷ c ∷ d ∷ e ∷ []) h = absurd cc
no_expire (a ∷ b ∷ c ∷ d ∷ e ∷ f ∷ words) h = refl

pub no_attach : (words : List (List ℕ)) → is_one words ≡ false → attach_read words ≡ None
no_attach [] h = refl
no_attach (a ∷ []) h = absurd cc
no_attach (a ∷ b ∷ words) h = refl

pub no_repeat : (words : List (List ℕ)) → are_three words ≡ false → repeat_read words ≡ None
no_repeat [] h = refl
no_repeat (a ∷ []) h = refl
no_repeat (a ∷ b ∷ []) h = refl
no_repeat (a ∷ b ∷ c ∷ []) h = absurd cc
no_repeat (a ∷ b ∷ c ∷ d ∷ words) h = refl

pub no_catatonic : (words : List (List ℕ)) → are_two words ≡ false → catatonic_read words ≡ None
no_catatonic [] h = refl
no_catatonic (a ∷ []) h = refl
no_catatonic (a ∷ b ∷ []) h = absurd cc
no_catatonic (a ∷ b ∷ c ∷ words) h = refl

pub no_timeout : (words : List (List ℕ)) → are_three words ≡ false → timeout_read words ≡ None
no_timeout [] h = refl
no_timeout (a ∷ []) h = refl
no_timeout (a ∷ b ∷ []) h = refl
no_timeout (a ∷ b ∷ c ∷ []) h = absurd cc
no_timeout (a ∷ b ∷ c ∷ d ∷ words) h = refl

pub no_reattach : (words : List (List ℕ)) → is_one words ≡ false → reattach_read words ≡ None
no_reattach [] h = refl
no_reattach (a ∷ []) h = absurd cc
no_reattach (a ∷ b ∷ words) h = refl

pub no_record : (words : List (List ℕ)) → are_two words ≡ false → record_read words ≡ None
no_record [] h = refl
no_record (a ∷ []) h = refl
no_record (a ∷ b ∷ []) h = absurd cc
no_record (a ∷ b ∷ c ∷ words) h = refl

pub no_mount : (words : List (List ℕ)) → are_two words ≡ false → mount_read words ≡ None
no_mount [] h = refl
no_mount (a ∷ []) h = refl
no_mount (a ∷ b ∷ []) h = absurd cc
no_mount (a ∷ b ∷ c ∷ words) h = refl

pub no_bind : (words : List (List ℕ)) → are_three words ≡ false → bind_read words ≡ None
no_bind [] h = refl
no_bind (a ∷ []) h = refl
no_bind (a ∷ b ∷ []) h = refl
no_bind (a ∷ b ∷ c ∷ []) h = absurd cc
no_bind (a ∷ b ∷ c ∷ d ∷ words) h = refl

pub no_umount : (words : List (List ℕ)) → are_two words ≡ false → umount_read words ≡ None
no_umount [] h = refl
no_umount (a ∷ []) h = refl
no_umount (a ∷ b ∷ []) h = absurd cc
no_umount (a ∷ b ∷ c ∷ words) h = refl

pub no_change_line : (words : List (List ℕ)) → are_three words ≡ false → change_line_read words ≡ None
no_change_line [] h = refl
no_change_line (a ∷ []) h = refl
no_change_line (a ∷ b ∷ []) h = refl
no_change_line (a ∷ b ∷ c ∷ []) h = absurd cc
no_change_line (a ∷ b ∷ c ∷ d ∷ words) h = refl

pub no_kind : (words : List (List ℕ)) → are_two words ≡ false → kind_read words ≡ None
no_kind [] h = refl
no_kind (a ∷ []) h = refl
no_kind (a ∷ b ∷ []) h = absurd cc
no_kind (a ∷ b ∷ c ∷ words) h = refl

pub no_nsdrop : (words : List (List ℕ)) → is_one words ≡ false → nsdrop_read words ≡ None
no_nsdrop [] h = refl
no_nsdrop (a ∷ []) h = absurd cc
no_nsdrop (a ∷ b ∷ words) h = refl

pub no_admincat : (words : List (List ℕ)) → is_one words ≡ false → admincat_read words ≡ None
no_admincat [] h = refl
no_admincat (a ∷ []) h = absurd cc
no_admincat (a ∷ b ∷ words) h = refl

pub no_negative : (words : List (List ℕ)) → is_one words ≡ false → negative_read words ≡ None
no_negative [] h = refl
no_negative (a ∷ []) h = absurd cc
no_negative (a ∷ b ∷ words) h = refl
