use Rattle.std.proofs.Common.{◌≡◌, ◌==◌, sym, ap, subst, ◌∙◌}
use Rattle.std.specs.Prelude.{find}
use Rattle.am_kernel.specs.{Attached, KernelState, RiseByFs, is_attached_by}
use Rattle.am_kernel.proofs.RisingLemmas.{passes, any_is_found}
use Rattle.am_kernel.proofs.kernel.Kernel.is_current.Goals as goal

pub returns-in-Some : goal.returns-in-Some
returns-in-Some c =
    let k = c.args.self.now in
    let test = is_attached_by k c.args.attach in
    let rises : RiseByFs k.attached = subst (λ (x : KernelState). RiseByFs x.attached) c.self.view_is c.get.ensures.rising in
    let found : c.get.result ≡ find (λ (row : Attached). row.fs == c.args.fs) k.attached = c.get.ensures.row ∙ ap (λ (x : KernelState). find (λ (row : Attached). row.fs == c.args.fs) x.attached) c.self.view_is in
    c.is_attached_by.ensures
    ∙ ap (passes (λ (row : Attached). row.fs) test) (sym c.in-Some.is ∙ found)
    ∙ sym (any_is_found (λ (row : Attached). row.fs) c.args.fs test 0 k.attached rises)

pub returns-in-None : goal.returns-in-None
returns-in-None c =
    let k = c.args.self.now in
    let test = is_attached_by k c.args.attach in
    let rises : RiseByFs k.attached = subst (λ (x : KernelState). RiseByFs x.attached) c.self.view_is c.get.ensures.rising in
    let found : c.get.result ≡ find (λ (row : Attached). row.fs == c.args.fs) k.attached = c.get.ensures.row ∙ ap (λ (x : KernelState). find (λ (row : Attached). row.fs == c.args.fs) x.attached) c.self.view_is in
    ap (passes (λ (row : Attached). row.fs) test) (sym c.in-None.is ∙ found)
    ∙ sym (any_is_found (λ (row : Attached). row.fs) c.args.fs test 0 k.attached rises)
