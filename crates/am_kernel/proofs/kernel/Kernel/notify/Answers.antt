use Rattle.std.proofs.Common.{sym, ap, subst, ◌∙◌, refl}
use Rattle.am_names.specs.{PipeState}
use Rattle.am_wait.specs.{reopen_refusal}
use Rattle.am_kernel.specs.{KernelState, Yields, notifies_by, wait_collected_as}
use Rattle.am_kernel.specs.CallOutcome.{CallOutcome}
use Rattle.am_kernel.proofs.NotifyLemmas.{notify_refused, notify_by}
use Rattle.am_kernel.proofs.kernel.Kernel.notify.Goals as goal

pub returns-in-Some-reopen_refusal : goal.returns-in-Some-reopen_refusal
returns-in-Some-reopen_refusal c =
    notify_refused c.args.waited.now c.args.self.now c.args.attempt.now c.args.trigger c.in-Some.attach c.args.pipe c.args.passed.now c.in-Some-reopen_refusal.errno c.args.seen.now.items c.requires.free
    (sym c.attach_of.ensures ∙ c.in-Some.is)
    (ap (λ (k : KernelState). reopen_refusal c.args.attempt.now.walker k.waits) (sym c.self.view_is) ∙ sym c.reopen_refusal.ensures ∙ c.in-Some-reopen_refusal.is)

pub returns-in-Room : goal.returns-in-Room
returns-in-Room c =
    let k = c.args.self.now in
    let b = c.args.attempt.now in
    let base = wait_collected_as c.args.waited.now b.walker b.moment k in
    let by = notify_by c.args.waited.now k b c.args.trigger c.in-Some.attach c.args.pipe c.args.passed.now c.requires.free (sym c.attach_of.ensures ∙ c.in-Some.is) (ap (λ (s : KernelState). reopen_refusal b.walker s.waits) (sym c.self.view_is) ∙ sym c.reopen_refusal.ensures ∙ c.in_default-reopen_refusal.is) in
    subst (λ (o : CallOutcome). Yields o c.queue.result k c.queue.new.self c.args.seen.now.items c.queue.new.seen.items)
    (sym (by ∙ ap (λ (p : PipeState). notifies_by p base b c.args.trigger c.in-Some.attach c.args.passed.now) c.in-Room.is)) c.queue.ensures

pub returns-in-Full : goal.returns-in-Full
returns-in-Full c =
    let k = c.args.self.now in
    let b = c.args.attempt.now in
    let base = wait_collected_as c.args.waited.now b.walker b.moment k in
    let by = notify_by c.args.waited.now k b c.args.trigger c.in-Some.attach c.args.pipe c.args.passed.now c.requires.free (sym c.attach_of.ensures ∙ c.in-Some.is) (ap (λ (s : KernelState). reopen_refusal b.walker s.waits) (sym c.self.view_is) ∙ sym c.reopen_refusal.ensures ∙ c.in_default-reopen_refusal.is) in
    rw (by ∙ ap (λ (p : PipeState). notifies_by p base b c.args.trigger c.in-Some.attach c.args.passed.now) c.in-Full.is) (refl, record { state = refl; seen = refl })

pub returns-in-Gone : goal.returns-in-Gone
returns-in-Gone c =
    let k = c.args.self.now in
    let b = c.args.attempt.now in
    let base = wait_collected_as c.args.waited.now b.walker b.moment k in
    let by = notify_by c.args.waited.now k b c.args.trigger c.in-Some.attach c.args.pipe c.args.passed.now c.requires.free (sym c.attach_of.ensures ∙ c.in-Some.is) (ap (λ (s : KernelState). reopen_refusal b.walker s.waits) (sym c.self.view_is) ∙ sym c.reopen_refusal.ensures ∙ c.in_default-reopen_refusal.is) in
    subst (λ (o : CallOutcome). Yields o c.on_broken_pipe.result k c.on_broken_pipe.new.self c.args.seen.now.items c.on_broken_pipe.new.seen.items)
    (sym (by ∙ ap (λ (p : PipeState). notifies_by p base b c.args.trigger c.in-Some.attach c.args.passed.now) c.in-Gone.is)) c.on_broken_pipe.ensures
