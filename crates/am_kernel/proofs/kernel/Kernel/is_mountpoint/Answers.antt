use Rattle.std.proofs.Common.{◌≡◌, ℕ, List, ap, ◌∙◌}
use Rattle.std.specs.Prelude.{is_some}
use Rattle.am_names.specs.declared.trigger.Trigger.{Trigger}
use Rattle.am_names.specs.{MountRow, names_of}
use Rattle.am_mount.specs.{mounts_where, has_fs, top_of}
use Rattle.am_trigger.specs.{place_of}
use Rattle.am_kernel.specs.{KernelState, is_any_mounted_on, is_mountpoint}
use Rattle.am_kernel.proofs.ListedLemmas.{any_with}
use Rattle.am_kernel.proofs.kernel.Kernel.is_mountpoint.Goals as goal

-- what is mounted on the mounts of the file system is mounted on the trigger
on_trigger :
    (k : KernelState) (trigger : Trigger) (rows : List MountRow) (place : List (List ℕ)) →
    rows ≡ k.table.rows → place ≡ place_of trigger →
    is_any_mounted_on rows place (mounts_where (has_fs trigger.fs) rows) ≡ is_mountpoint k trigger
on_trigger k trigger rows place e f =
    ap (λ (rs : List MountRow). is_any_mounted_on rs place (mounts_where (has_fs trigger.fs) rs)) e ∙
    ap (λ (at : List (List ℕ)).
    is_any_mounted_on k.table.rows at (mounts_where (has_fs trigger.fs) k.table.rows)) f ∙
    any_with trigger.fs (λ m. is_some (top_of k.table.rows m (place_of trigger))) k.table.rows

pub returns-in-Some : goal.returns-in-Some
returns-in-Some c =
    let tree = c.tree-tree.result.now in
    let rows = c.tree-tree.ensures.rows ∙ ap (λ (k : KernelState). k.table.rows) c.self.view_is in
    c.is_any_mounted_on.ensures ∙
    ap (is_any_mounted_on tree (names_of c.args.place.now)) c.in-Some.ensures ∙
    on_trigger c.args.self.now c.args.trigger.now tree _ rows c.requires.place

pub returns-in-None : goal.returns-in-None
returns-in-None c =
    let rows = c.tree-tree.ensures.rows ∙ ap (λ (k : KernelState). k.table.rows) c.self.view_is in
    c.is_any_mounted_with.ensures ∙
    on_trigger c.args.self.now c.args.trigger.now c.tree-tree.result.now _ rows c.requires.place
