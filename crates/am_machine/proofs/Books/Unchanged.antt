-- What the kernel does keeps the daemon's book right where no file system is served that wasn't.
use Rattle.std.proofs.Common.{◌≡◌, ℕ, ◌+◌, ◌≤◌, Bool, true, false, cond, List, [], ◌∷◌, map, Option, Some, None, refl, sym, ap, subst, ◌∙◌, arith}
use Rattle.std.specs.Prelude.{◌==◌, find, if◌then◌else◌}
use Rattle.std.specs.Option.{option_map}
use Rattle.std.proofs.lemmas.Bool.Decides.{nat_tests}
use Rattle.std.proofs.lemmas.List.Elements.{All-weaker}
use Rattle.am_names.proofs.Basics.{equal_by_test}
use Rattle.am_state.specs.{HeldRow}
use Rattle.am_trigger.specs.{Autofs, catatonic_row}
use Rattle.am_kernel.specs.{Attached, KernelState, with_latest, is_live, is_live_row, latest_attach, attach_of, timeout_row, with_timeout, reattached_row, with_pipe, made_catatonic}
use Rattle.am_daemon.specs.{DaemonState}
use Rattle.am_machine.specs.{IsServed, BookAgrees}
use Rattle.am_machine.proofs.Lists.Found.{found_unchanged, read_unchanged}
use Rattle.am_machine.proofs.Places.Unchanged.{catatonic_fs}

-- no file system has an attachment that it hadn't, and no number of one is taken back
pub record Narrows (k made : KernelState) : Type 0 where
  pub current : (fs attach : ℕ) → attach_of made fs ≡ Some attach → attach_of k fs ≡ Some attach
  pub given : k.last_fs ≤ made.last_fs

served_before : (k made : KernelState) (d : DaemonState) (fs attach : ℕ) → Narrows k made → IsServed made d fs attach → IsServed k d fs attach
served_before k made d fs attach n s = record { current = n.current fs attach s.current; held = s.held }

-- the book stays right
pub narrowed : (k made : KernelState) (d : DaemonState) → Narrows k made → BookAgrees k d → BookAgrees made d
narrowed k made d n h = record {
  pending = λ fs attach s g same token. h.pending fs attach (served_before k made d fs attach n s) g same token;
  held = h.held;
  given = All-weaker (λ (row : HeldRow). row.fs ≤ k.last_fs) (λ (row : HeldRow). row.fs ≤ made.last_fs) (λ row least. omega (arith, least, n.given)) d.held h.given;
}

-- ---- attachments that stay

-- where all attachments stay
pub same_attachments : (k made : KernelState) → ((fs : ℕ) → attach_of made fs ≡ attach_of k fs) → k.last_fs ≤ made.last_fs → Narrows k made
same_attachments k made same given = record { current = λ fs attach e. sym (same fs) ∙ e; given = given }

pub narrows_itself : (k : KernelState) → Narrows k k
narrows_itself k = record { current = λ fs attach e. e; given = omega arith }

pub one_after_another : (k mid made : KernelState) → Narrows k mid → Narrows mid made → Narrows k made
one_after_another k mid made n m = record { current = λ fs attach e. n.current fs attach (m.current fs attach e); given = omega (arith, n.given, m.given) }

-- the latest moment is no attachment
pub narrows_latest : (k made : KernelState) (moment : ℕ) → Narrows k made → Narrows k (with_latest moment made)
narrows_latest k made moment n = record { current = n.current; given = n.given }

-- ---- the attachment of a file system, by its rows

-- by its autofs and by its latest attachment
abbrev pub attach_in : Option Autofs → Option Attached → Option ℕ
attach_in autofs row = if is_live_row autofs then option_map (λ r. r.attach) row else None

-- rows that are found as before
pub found_same : (autofs other : Option Autofs) (row later : Option Attached) → autofs ≡ other → row ≡ later → attach_in autofs row ≡ attach_in other later
found_same autofs other row later e f = ap (λ (a : Option Autofs). attach_in a row) e ∙ ap (attach_in other) f

-- ---- a timeout changes

timeout_fs : (fs timeout : ℕ) (row : Attached) → (timeout_row fs timeout row).fs ≡ row.fs
timeout_fs fs timeout row = elim (row.fs == fs) as (λ b. (if b then record row { timeout = timeout } else row).fs ≡ row.fs) [ true ↦ refl | false ↦ refl ]

timeout_attach : (fs timeout : ℕ) (row : Attached) → (timeout_row fs timeout row).attach ≡ row.attach
timeout_attach fs timeout row = elim (row.fs == fs) as (λ b. (if b then record row { timeout = timeout } else row).attach ≡ row.attach) [ true ↦ refl | false ↦ refl ]

pub timeout_narrows : (k : KernelState) (fs timeout : ℕ) → Narrows k (with_timeout fs timeout k)
timeout_narrows k fs timeout =
    same_attachments k (with_timeout fs timeout k) (λ f.
    ap (λ (o : Option ℕ). if is_live k f then o else None)
    (read_unchanged (λ (row : Attached). row.fs) (λ (row : Attached). row.attach) (timeout_row fs timeout) f k.attached (timeout_fs fs timeout) (timeout_attach fs timeout)))
    (omega arith)

-- ---- a file system becomes catatonic, or it is so no longer

-- a row of one file system isn't another's
pub not_this : (fs f n : ℕ) → (fs == f) ≡ false → (n == f) ≡ true → (n == fs) ≡ false
not_this fs f n other same = grind (arith, nat_tests, other, same)

-- the other autofs are found as before
pub autofs_unchanged : (fs f : ℕ) (b : Bool) (rows : List Autofs) → (fs == f) ≡ false → find (λ row. row.fs == f) (map (catatonic_row fs b) rows) ≡ find (λ row. row.fs == f) rows
autofs_unchanged fs f b rows other =
    found_unchanged (λ (row : Autofs). row.fs) (catatonic_row fs b) f rows (catatonic_fs fs b) (λ row same. rw (not_this fs f row.fs other same) refl)

closed_row : (fs : ℕ) (row : Autofs) (o : Option Autofs) (b : Bool) → (row.fs == fs) ≡ b → is_live_row o ≡ false → is_live_row (cond ((catatonic_row fs true row).fs == fs) (Some (catatonic_row fs true row)) o) ≡ false
closed_row fs row o true same later = rw (same, same) refl
closed_row fs row o false other later = rw (other, other) later

not_live : (fs : ℕ) (rows : List Autofs) → is_live_row (find (λ row. row.fs == fs) (map (catatonic_row fs true) rows)) ≡ false
not_live fs [] = refl
not_live fs (row ∷ rows) = closed_row fs row (find (λ row. row.fs == fs) (map (catatonic_row fs true) rows)) (row.fs == fs) refl (not_live fs rows)

no_attachment : (live : Bool) (row : Option ℕ) (attach : ℕ) → live ≡ false → (if live then row else None) ≡ Some attach → ⊥
no_attachment true row attach dead e = absurd cc
no_attachment false row attach dead e = absurd cc

closed_by_cases : (k : KernelState) (fs f attach : ℕ) (b : Bool) → (fs == f) ≡ b → attach_of (made_catatonic fs k) f ≡ Some attach → attach_of k f ≡ Some attach
closed_by_cases k fs f attach true same e =
    let here : attach_of (made_catatonic fs k) fs ≡ Some attach = subst (λ (n : ℕ). attach_of (made_catatonic fs k) n ≡ Some attach) (sym (equal_by_test fs f same)) e in
    absurd (no_attachment (is_live (made_catatonic fs k) fs) (latest_attach k.attached fs) attach (not_live fs k.triggers.autofs) here)
closed_by_cases k fs f attach false other e =
    sym (found_same _ _ _ _ (autofs_unchanged fs f true k.triggers.autofs other) refl) ∙ e

pub closed_narrows : (k : KernelState) (fs : ℕ) → Narrows k (made_catatonic fs k)
closed_narrows k fs = record { current = λ f attach e. closed_by_cases k fs f attach (fs == f) refl e; given = omega arith }

-- ---- a new pipe

attached_fs : (fs attach : ℕ) (row : Attached) → (reattached_row fs attach row).fs ≡ row.fs
attached_fs fs attach row = elim (row.fs == fs) as (λ t. (if t then record row { attach = attach } else row).fs ≡ row.fs) [ true ↦ refl | false ↦ refl ]

-- the other file systems keep their attachments
pub pipe_others : (k : KernelState) (fs f : ℕ) → (fs == f) ≡ false → attach_of (with_pipe fs k) f ≡ attach_of k f
pipe_others k fs f other =
    found_same _ _ _ _ (autofs_unchanged fs f false k.triggers.autofs other)
    (found_unchanged (λ (row : Attached). row.fs) (reattached_row fs (k.last_attach + 1)) f k.attached (attached_fs fs (k.last_attach + 1)) (λ row same. rw (not_this fs f row.fs other same) refl))
