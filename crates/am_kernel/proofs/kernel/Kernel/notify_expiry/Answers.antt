use Rattle.std.proofs.Common.{sym, ap, subst, ◌∙◌, refl}
use Rattle.am_names.specs.{PipeState}
use Rattle.am_wait.specs.{open_refusal}
use Rattle.am_kernel.specs.{KernelState, Yields, expires_by}
use Rattle.am_kernel.specs.CallOutcome.{CallOutcome}
use Rattle.am_kernel.proofs.ExpireLemmas.{expiry_refused, expiry_by}
use Rattle.am_kernel.proofs.kernel.Kernel.notify_expiry.Goals as goal

pub returns-in-Some : goal.returns-in-Some
returns-in-Some c =
    expiry_refused c.args.self.now c.args.walker c.args.trigger c.args.attach c.args.pipe c.in-Some.errno c.args.seen.now.items c.requires
    (ap (λ (k : KernelState). open_refusal c.args.walker k.waits) (sym c.self.view_is) ∙ sym c.open_refusal.ensures ∙ c.in-Some.is)

pub returns-in-Room : goal.returns-in-Room
returns-in-Room c =
    let k = c.args.self.now in
    let by = expiry_by k c.args.walker c.args.trigger c.args.attach c.args.pipe c.requires (ap (λ (s : KernelState). open_refusal c.args.walker s.waits) (sym c.self.view_is) ∙ sym c.open_refusal.ensures ∙ c.in_default.is) in
    subst (λ (o : CallOutcome). Yields o c.queue_expiry.result k c.queue_expiry.new.self c.args.seen.now.items c.queue_expiry.new.seen.items)
    (sym (by ∙ ap (λ (p : PipeState). expires_by p k c.args.walker c.args.trigger c.args.attach) c.in-Room.is)) c.queue_expiry.ensures

pub returns-in-Full : goal.returns-in-Full
returns-in-Full c =
    let k = c.args.self.now in
    let by = expiry_by k c.args.walker c.args.trigger c.args.attach c.args.pipe c.requires (ap (λ (s : KernelState). open_refusal c.args.walker s.waits) (sym c.self.view_is) ∙ sym c.open_refusal.ensures ∙ c.in_default.is) in
    rw (by ∙ ap (λ (p : PipeState). expires_by p k c.args.walker c.args.trigger c.args.attach) c.in-Full.is) (refl, record { state = refl; seen = refl })

pub returns-in-Gone : goal.returns-in-Gone
returns-in-Gone c =
    let k = c.args.self.now in
    let by = expiry_by k c.args.walker c.args.trigger c.args.attach c.args.pipe c.requires (ap (λ (s : KernelState). open_refusal c.args.walker s.waits) (sym c.self.view_is) ∙ sym c.open_refusal.ensures ∙ c.in_default.is) in
    subst (λ (o : CallOutcome). Yields o c.hang_up_expiry.result k c.hang_up_expiry.new.self c.args.seen.now.items c.hang_up_expiry.new.seen.items)
    (sym (by ∙ ap (λ (p : PipeState). expires_by p k c.args.walker c.args.trigger c.args.attach) c.in-Gone.is)) c.hang_up_expiry.ensures
