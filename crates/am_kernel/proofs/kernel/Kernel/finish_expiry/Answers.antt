use Rattle.std.proofs.Common.{sym, ap, subst, refl}
use Rattle.am_names.specs.{TokenKind}
use Rattle.am_kernel.specs.declared.waited.Waited.{Waited}
use Rattle.am_kernel.specs.CallOutcome.{CallOutcome}
use Rattle.am_kernel.specs.{Yields, expiry_finished_as, HasNoOpenWait}
use Rattle.am_kernel.proofs.RetryLemmas.{told_ready, told_failed}
use Rattle.am_kernel.proofs.kernel.Kernel.finish_expiry.Goals as goal

pub returns-in-Missing-default : goal.returns-in-Missing-default
returns-in-Missing-default c =
    rw (ap (λ (t : TokenKind). expiry_finished_as t c.args.status c.args.self.now c.args.wait.now c.args.moment) c.in-Missing-default.is-0) (refl, record { state = refl; seen = refl })

pub end-requires : goal.end-requires
end-requires c =
    subst (λ (w : Waited). HasNoOpenWait w c.args.wait.now.walker c.args.self.now.waits) (sym c.waited_on-expiry.ensures) c.requires

pub fail-requires : goal.fail-requires
fail-requires c =
    subst (λ (w : Waited). HasNoOpenWait w c.args.wait.now.walker c.args.self.now.waits) (sym c.waited_on-expiry.ensures) c.requires

pub returns-in-Expire-Ready : goal.returns-in-Expire-Ready
returns-in-Expire-Ready c =
    subst (λ (o : CallOutcome). Yields o c.end.result c.args.self.now c.end.new.self c.args.seen.now.items c.end.new.seen.items)
    (sym (told_ready c.args.wait.now c.waited_on-expiry.result c.args.status c.args.moment c.args.self.now c.in-Expire-Ready.is-0 c.in-Expire-Ready.is-1 c.waited_on-expiry.ensures)) c.end.ensures

pub returns-in-Expire-Fail : goal.returns-in-Expire-Fail
returns-in-Expire-Fail c =
    subst (λ (o : CallOutcome). Yields o c.fail.result c.args.self.now c.fail.new.self c.args.seen.now.items c.fail.new.seen.items)
    (sym (told_failed c.args.wait.now c.waited_on-expiry.result c.args.status c.in-Expire-Fail.no c.errno.result c.args.moment c.args.self.now c.in-Expire-Fail.is-0 c.in-Expire-Fail.is-1 c.errno.ensures c.waited_on-expiry.ensures)) c.fail.ensures
