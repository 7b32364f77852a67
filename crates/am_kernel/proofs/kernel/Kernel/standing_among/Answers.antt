use Rattle.std.proofs.Common.{◌≡◌, ◌∷◌, ◌++◌, [], ℕ, List, Option, Some, None, take, sym, ap, ◌∙◌}
use Rattle.std.specs.List.{flat_map}
use Rattle.std.proofs.lemmas.List.{append-nil}
use Rattle.am_names.specs.declared.trigger.Trigger.{Trigger}
use Rattle.am_kernel.specs.{trigger_under_mount, standing_on, standing_mount}
use Rattle.am_kernel.proofs.MountLemmas.{flat_one_more}
use Rattle.am_kernel.proofs.kernel.Kernel.standing_among.Goals as goal
use Rattle.am_kernel.proofs.kernel.Kernel.standing_among.Goals.{in-Some+in_ok-push, in_default}

pub loop-mount-preserved : goal.loop-mount-preserved
loop-mount-preserved c =
    let k = c.args.self.now in
    let autofs = c.args.autofs.now in
    let mount = c.mount-item.result in
    let mounts = c.args.mounts.now in
    let before : List (Trigger × ℕ) = flat_map (standing_mount k autofs) (take c.loop-mount.mount-index mounts) in
    let more = flat_one_more (standing_mount k autofs) mounts c.loop-mount.mount-index mount c.loop-mount-test.true c.mount-item.is in
    elim c.match-trigger_under_mount.branch [
      | in-Some+in_ok-push w ↦
          let under : trigger_under_mount k autofs mount ≡ Some w.in-Some.trigger = sym c.trigger_under_mount.ensures ∙ w.in-Some.is in
          ap (λ v. v.items) w.standing-is ∙ w.in_ok-push.ensures.items
          ∙ ap (λ (xs : List (Trigger × ℕ)). xs ++ (w.in-Some.trigger, mount) ∷ []) c.loop-mount.invariant
          ∙ ap (λ (o : Option Trigger). before ++ standing_on o mount) (sym under) ∙ sym more
      | in_default w ↦
          let under : trigger_under_mount k autofs mount ≡ None = sym c.trigger_under_mount.ensures ∙ w.in_default.is in
          ap (λ v. v.items) w.standing-is ∙ c.loop-mount.invariant ∙ sym (append-nil before)
          ∙ ap (λ (o : Option Trigger). before ++ standing_on o mount) (sym under) ∙ sym more
    ]
