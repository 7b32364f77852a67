use Rattle.std.proofs.Common.{◌≡◌, ◌==◌, ℕ, Option, Some, sym, ap, subst, ◌∙◌}
use Rattle.std.specs.Prelude.{find}
use Rattle.std.specs.Option.{option_map}
use Rattle.std.specs.List.{All}
use Rattle.am_kernel.specs.{Attached, KernelState, is_live}
use Rattle.am_kernel.proofs.HolderLemmas.{none_passes, one_fails, one_passes}
use Rattle.am_kernel.proofs.kernel.Kernel.fs_of_attach.Goals as goal

-- the file system that the attachment is of, in the state
abbrev fs_by : ℕ → KernelState → Option ℕ
fs_by attach k = option_map (λ (row : Attached). row.fs) (find (λ (row : Attached). row.attach == attach) k.attached)

-- each row of the attachment is of this one
abbrev IsAlone : ℕ → Option ℕ → KernelState → Type 0
IsAlone attach fs k = All (λ (row : Attached). row.attach ≡ attach → fs ≡ Some row.fs) k.attached

pub returns-in_err-fs : goal.returns-in_err-fs
returns-in_err-fs c =
    let k : KernelState = c.args.self.now in
    let attach : ℕ = c.args.attach in
    let found : c.holder.result ≡ fs_by attach k = c.holder.ensures.holder ∙ ap (fs_by attach) c.self.view_is in
    let all : IsAlone attach c.holder.result k = subst (IsAlone attach c.holder.result) c.self.view_is c.holder.ensures.alone in
    c.from_residual.ensures ∙ sym (none_passes attach (is_live k) k.attached c.holder.result found all c.in_err-fs.was)

pub returns-then-not-is_live : goal.returns-then-not-is_live
returns-then-not-is_live c =
    let k : KernelState = c.args.self.now in
    let attach : ℕ = c.args.attach in
    let found : c.holder.result ≡ fs_by attach k = c.holder.ensures.holder ∙ ap (fs_by attach) c.self.view_is in
    let all : IsAlone attach c.holder.result k = subst (IsAlone attach c.holder.result) c.self.view_is c.holder.ensures.alone in
    sym (one_fails attach (is_live k) k.attached c.holder.result found all c.in_ok-fs.fs c.in_ok-fs.was (sym c.is_live.ensures ∙ c.if-not-is_live.true))

pub returns : goal.returns
returns c =
    let k : KernelState = c.args.self.now in
    let attach : ℕ = c.args.attach in
    let found : c.holder.result ≡ fs_by attach k = c.holder.ensures.holder ∙ ap (fs_by attach) c.self.view_is in
    let all : IsAlone attach c.holder.result k = subst (IsAlone attach c.holder.result) c.self.view_is c.holder.ensures.alone in
    sym (one_passes attach (is_live k) k.attached c.holder.result found all c.in_ok-fs.fs c.in_ok-fs.was (sym c.is_live.ensures ∙ c.if-not-is_live.false))
