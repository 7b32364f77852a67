-- What becomes of an act, by what its calls came to.
use Rattle.std.proofs.Common.{◌≡◌, ℕ, Bool, true, false, not, List, [], ◌∷◌, ◌++◌, Option, Some, None, refl, sym, ap, ◌∙◌, subst, inl, inr}
use Rattle.std.specs.Prelude.{Result, Ok, Err, OnOk, OnErr, if◌then◌else◌}
use Rattle.std.proofs.lemmas.List.{append-nil}
use Rattle.am_names.specs.declared.fail_no.FailNo.{FailNo}
use Rattle.am_names.specs.declared.errno.Errno.{Errno}
use Rattle.am_names.specs.declared.errno.Errno.TheVariants.{ENOENT, EPERM, EBUSY, EEXIST, NoMemory, Stranger}
use Rattle.am_names.specs.{RefusedAs}
use Rattle.am_names.specs.declared.trigger.Trigger.{Trigger}
use Rattle.am_state.specs.{Obs, QueuedRow}
use Rattle.am_job.specs.declared.act.Outcome as job
use Rattle.am_job.specs.declared.act.Outcome.TheVariants as came
use Rattle.std.specs.Prelude.{is_some, ◌&&◌, ◌||◌, ◌==◌}
use Rattle.std.specs.List.{list_any}
use Rattle.std.proofs.Common.{arith}
use Rattle.std.proofs.lemmas.Bool.Decides.{nat_tests}
use Rattle.am_state.specs.declared.obs.Obs.TheVariants.{Recorded}
use Rattle.am_kernel.specs.{Attached, catatonic_observations, catatonic_observations_if_live, KernelState, is_current, is_live, is_attached_by, with_directory, without_directory, mount_on_refusal, umount_from_refusal}
use Rattle.am_daemon.specs.{Writing, DaemonFault, delivery_fault, DaemonState, JobPlan, finished}
use Rattle.am_machine.specs.{takes, delivered_at, Answer, refused, after, goes_on, mkdir_by, mount_fails, mount_by, mount_act, umount_fails, umount_by, umount_act, rmdir_by}
use Rattle.am_machine.specs.declared.answer.Answer.TheVariants as answers
use Rattle.am_machine.specs.State.{State}
use Rattle.am_machine.specs.EventOutcome.{EventOutcome}
use Rattle.am_machine.specs.Events.Acts as acts
use Rattle.am_world.specs.{written, Yields, as_made, as_removed, is_no_memory}

abbrev pub machine : KernelState → DaemonState → List Obs → State → State
machine k d trace s = record { kernel = k; daemon = d; trace = trace }

pub went : (s : State) (row : JobPlan) (number : ℕ) (outcome : job.Outcome) (answer : Answer) (shown : List Obs) (k new : KernelState) (d : DaemonState) (trace : List Obs) →
    row.token ≡ number → d ≡ finished number outcome s.daemon → new ≡ k → trace ≡ s.trace ++ shown → machine new d trace s ≡ after s (goes_on s row outcome answer shown k)
went s row number outcome answer shown k new d trace token its kernel seen =
    ap (λ (x : KernelState). machine x d trace s) kernel
    ∙ ap (λ (x : DaemonState). machine k x trace s) (its ∙ ap (λ (n : ℕ). finished n outcome s.daemon) (sym token))
    ∙ ap (λ (x : List Obs). machine k (finished row.token outcome s.daemon) x s) seen

-- nothing was seen
pub went_unseen : (s : State) (row : JobPlan) (number : ℕ) (outcome : job.Outcome) (answer : Answer) (k new : KernelState) (d : DaemonState) →
    row.token ≡ number → d ≡ finished number outcome s.daemon → new ≡ k → machine new d s.trace s ≡ after s (goes_on s row outcome answer [] k)
went_unseen s row number outcome answer k new d token its kernel = went s row number outcome answer [] k new d s.trace token its kernel (sym (append-nil s.trace))

-- ---- directories

pub mkdir_goes : (r : Result (Unit {0}) Errno) (first : Option Errno) (s : State) (row : JobPlan) (g : Trigger) (number : ℕ) (new : KernelState) (d : DaemonState) →
    RefusedAs first r → OnOk r (new ≡ with_directory g s.kernel) → OnErr r (new ≡ s.kernel) → as_made r ≡ Ok tt → row.token ≡ number → d ≡ finished number came.Done s.daemon →
    Yields (mkdir_by first s row g) s (Ok answers.DidMkdir) (machine new d s.trace s)
mkdir_goes (Ok u) first s row g number new d refusal ok err is token its =
    subst (λ (f : Option Errno). Yields (mkdir_by f s row g) s (Ok answers.DidMkdir) (machine new d s.trace s)) (sym refusal)
    (refl, went_unseen s row number came.Done answers.DidMkdir (with_directory g s.kernel) new d token its ok)
mkdir_goes (Err EEXIST) first s row g number new d refusal ok err is token its =
    subst (λ (f : Option Errno). Yields (mkdir_by f s row g) s (Ok answers.DidMkdir) (machine new d s.trace s)) (sym refusal)
    (refl, went_unseen s row number came.Done answers.DidMkdir s.kernel new d token its err)
mkdir_goes (Err _) first s row g number new d refusal ok err is token its = absurd cc

pub mkdir_fails : (r : Result (Unit {0}) Errno) (first : Option Errno) (s : State) (row : JobPlan) (g : Trigger) (e : Errno) (new : KernelState) →
    RefusedAs first r → OnErr r (new ≡ s.kernel) → as_made r ≡ Err e → Yields (mkdir_by first s row g) s (Err e) (machine new s.daemon s.trace s)
mkdir_fails (Ok u) first s row g e new refusal err is = absurd cc
mkdir_fails (Err EEXIST) first s row g e new refusal err is = absurd cc
mkdir_fails (Err NoMemory) first s row g e new refusal err is = (ap (λ (x : KernelState). machine x s.daemon s.trace s) err, inl (cc))
mkdir_fails (Err f) first s row g e new refusal err is =
    let same : f ≡ e = cc in
    (ap (λ (x : KernelState). machine x s.daemon s.trace s) err, inr (ap (λ (o : Option Errno). mkdir_by o s row g) refusal ∙ ap (refused s) same))

pub rmdir_goes : (r : Result (Unit {0}) Errno) (first : Option Errno) (s : State) (row : JobPlan) (g : Trigger) (number : ℕ) (new : KernelState) (d : DaemonState) →
    RefusedAs first r → OnOk r (new ≡ without_directory g s.kernel) → OnErr r (new ≡ s.kernel) → as_removed r ≡ Ok tt → row.token ≡ number → d ≡ finished number came.Done s.daemon →
    Yields (rmdir_by first s row g) s (Ok answers.DidRmdir) (machine new d s.trace s)
rmdir_goes (Ok u) first s row g number new d refusal ok err is token its =
    subst (λ (f : Option Errno). Yields (rmdir_by f s row g) s (Ok answers.DidRmdir) (machine new d s.trace s)) (sym refusal)
    (refl, went_unseen s row number came.Done answers.DidRmdir (without_directory g s.kernel) new d token its ok)
rmdir_goes (Err ENOENT) first s row g number new d refusal ok err is token its =
    subst (λ (f : Option Errno). Yields (rmdir_by f s row g) s (Ok answers.DidRmdir) (machine new d s.trace s)) (sym refusal)
    (refl, went_unseen s row number came.Done answers.DidRmdir s.kernel new d token its err)
rmdir_goes (Err EBUSY) first s row g number new d refusal ok err is token its =
    subst (λ (f : Option Errno). Yields (rmdir_by f s row g) s (Ok answers.DidRmdir) (machine new d s.trace s)) (sym refusal)
    (refl, went_unseen s row number came.Done answers.DidRmdir s.kernel new d token its err)
rmdir_goes (Err _) first s row g number new d refusal ok err is token its = absurd cc

pub rmdir_fails : (r : Result (Unit {0}) Errno) (first : Option Errno) (s : State) (row : JobPlan) (g : Trigger) (e : Errno) (new : KernelState) →
    RefusedAs first r → OnErr r (new ≡ s.kernel) → as_removed r ≡ Err e → Yields (rmdir_by first s row g) s (Err e) (machine new s.daemon s.trace s)
rmdir_fails (Ok u) first s row g e new refusal err is = absurd cc
rmdir_fails (Err ENOENT) first s row g e new refusal err is = absurd cc
rmdir_fails (Err EBUSY) first s row g e new refusal err is = absurd cc
rmdir_fails (Err NoMemory) first s row g e new refusal err is = (ap (λ (x : KernelState). machine x s.daemon s.trace s) err, inl (cc))
rmdir_fails (Err f) first s row g e new refusal err is =
    let same : f ≡ e = cc in
    (ap (λ (x : KernelState). machine x s.daemon s.trace s) err, inr (ap (λ (o : Option Errno). rmdir_by o s row g) refusal ∙ ap (refused s) same))

-- ---- mounts

first_unless_memory_of : (T : Type 0) (first : Option Errno) (e : Errno) → RefusedAs {T = T} first (Err e) → is_no_memory e ≡ false → first ≡ Some e
first_unless_memory_of T first NoMemory h other = absurd cc
first_unless_memory_of T first _ h other = h

-- an error that isn't that of memory is the first of the tests
pub first_unless_memory : (T : Type 0) (first : Option Errno) (e : Errno) (r : Result T Errno) → r ≡ Err e → RefusedAs first r → is_no_memory e ≡ false → first ≡ Some e
first_unless_memory T first e r is h other = first_unless_memory_of T first e (subst (λ (x : Result T Errno). RefusedAs first x) is h) other

-- no failure is told
pub none_unless_failed : (failure : Option FailNo) → ((error : FailNo) → failure ≡ Some error → ⊥) → failure ≡ None
none_unless_failed None h = refl
none_unless_failed (Some error) h = absurd (h error refl)

-- the attachment is current
mount_well : (s : State) (row : JobPlan) (g : Trigger) (failure : Option FailNo) (attach : ℕ) → row.attach ≡ attach → true ≡ is_current s.kernel g.fs attach →
    mount_act s row g failure ≡ acts.mount_tried failure s row g
mount_well s row g failure attach its current =
    ap (λ (b : Bool). if not b then refused s EPERM else acts.mount_tried failure s row g) (ap (is_current s.kernel g.fs) its ∙ sym current)

pub mount_unwell : (s : State) (row : JobPlan) (g : Trigger) (failure : Option FailNo) (error : FailNo) (attach : ℕ) → row.attach ≡ attach → true ≡ is_current s.kernel g.fs attach → failure ≡ Some error → mount_act s row g failure ≡ mount_fails s row error
mount_unwell s row g failure error attach its current unwell =
    mount_well s row g failure attach its current ∙ ap (λ (o : Option FailNo). acts.mount_tried o s row g) unwell

pub mount_tried : (s : State) (row : JobPlan) (g : Trigger) (failure : Option FailNo) (attach : ℕ) (first : Option Errno) → row.attach ≡ attach → true ≡ is_current s.kernel g.fs attach → failure ≡ None → mount_on_refusal s.kernel attach g ≡ first →
    mount_act s row g failure ≡ mount_by first s row g
mount_tried s row g failure attach first its current well refusal =
    mount_well s row g failure attach its current ∙ ap (λ (o : Option FailNo). acts.mount_tried o s row g) well
    ∙ ap (λ (o : Option Errno). mount_by o s row g) (ap (λ (a : ℕ). mount_on_refusal s.kernel a g) its ∙ refusal)

umount_well : (s : State) (row : JobPlan) (g : Trigger) (failure : Option FailNo) (attach : ℕ) → row.attach ≡ attach → true ≡ is_current s.kernel g.fs attach →
    umount_act s row g failure ≡ acts.umount_tried failure s row g
umount_well s row g failure attach its current =
    ap (λ (b : Bool). if not b then refused s EPERM else acts.umount_tried failure s row g) (ap (is_current s.kernel g.fs) its ∙ sym current)

pub umount_unwell : (s : State) (row : JobPlan) (g : Trigger) (failure : Option FailNo) (error : FailNo) (attach : ℕ) → row.attach ≡ attach → true ≡ is_current s.kernel g.fs attach → failure ≡ Some error → umount_act s row g failure ≡ umount_fails s row error
umount_unwell s row g failure error attach its current unwell =
    umount_well s row g failure attach its current ∙ ap (λ (o : Option FailNo). acts.umount_tried o s row g) unwell

pub umount_tried : (s : State) (row : JobPlan) (g : Trigger) (failure : Option FailNo) (attach : ℕ) (first : Option Errno) → row.attach ≡ attach → true ≡ is_current s.kernel g.fs attach → failure ≡ None → umount_from_refusal s.kernel attach g ≡ first →
    umount_act s row g failure ≡ umount_by first s row g
umount_tried s row g failure attach first its current well refusal =
    umount_well s row g failure attach its current ∙ ap (λ (o : Option FailNo). acts.umount_tried o s row g) well
    ∙ ap (λ (o : Option Errno). umount_by o s row g) (ap (λ (a : ℕ). umount_from_refusal s.kernel a g) its ∙ refusal)

-- the outcome is another name of one that has come
pub goes_by_equal_outcome : (o p : EventOutcome) (s : State) (answer : Answer) (new : State) → o ≡ p → answer ≡ p.answer → new ≡ after s p → Yields o s (Ok answer) new
goes_by_equal_outcome o p s answer new same told left = subst (λ (x : EventOutcome). Yields x s (Ok answer) new) (sym same) (told, left)

-- ---- a packet that is taken up

pub written_is : (b : Bool) (w : Writing) → written (if b then None else Some w) ≡ (if b then [] else Recorded w.trigger w.entry ∷ [])
written_is true w = refl
written_is false w = refl

pub packet_is_taken : (s : State) (row : QueuedRow) → delivery_fault row.attach row.packet s.daemon ≡ None → delivered_at (Some row) s None ≡ takes s row
packet_is_taken s row h = ap (λ (f : Option DaemonFault). if not (is_some f) then takes s row else refused s Stranger) h

pub halves_are : (s : State) (k new : KernelState) (d e : DaemonState) (trace more : List Obs) → new ≡ k → e ≡ d → more ≡ trace → machine new e more s ≡ machine k d trace s
halves_are s k new d e trace more a b c =
    ap (λ (x : KernelState). machine x e more s) a ∙ ap (λ (x : DaemonState). machine k x more s) b ∙ ap (λ (x : List Obs). machine k d x s) c

-- ---- catatonic mode

outer_two_of_and : (a b c : Bool) → (a && (b && c)) ≡ true → (a ≡ true) × (c ≡ true)
outer_two_of_and true true true h = (refl, refl)
outer_two_of_and true true false h = absurd cc
outer_two_of_and true false c h = absurd cc
outer_two_of_and false b c h = absurd cc

live_by_either : (first later live : Bool) → (first || later) ≡ true → (first ≡ true → live ≡ true) → (later ≡ true → live ≡ true) → live ≡ true
live_by_either true later live h here rest = here refl
live_by_either false later live h here rest = rest h

current_is_live : (k : KernelState) (fs attach : ℕ) (rows : List Attached) → list_any (λ row. row.fs == fs && is_attached_by k attach row) rows ≡ true → is_live k fs ≡ true
current_is_live k fs attach [] h = absurd cc
current_is_live k fs attach (row ∷ rows) h =
    live_by_either (row.fs == fs && is_attached_by k attach row) (list_any (λ row. row.fs == fs && is_attached_by k attach row) rows) (is_live k fs) h
    (λ here.
    let both = outer_two_of_and (row.fs == fs) (row.attach == attach) (is_live k row.fs) here in
    subst (λ (n : ℕ). is_live k n ≡ true) (grind (arith, nat_tests, both.0)) both.1)
    (current_is_live k fs attach rows)

-- a file system of a current attachment is live
pub current_closes : (k : KernelState) (fs attach : ℕ) → true ≡ is_current k fs attach → catatonic_observations_if_live fs k ≡ catatonic_observations fs k
current_closes k fs attach h = ap (λ (b : Bool). if b then catatonic_observations fs k else []) (current_is_live k fs attach k.attached (sym h))
