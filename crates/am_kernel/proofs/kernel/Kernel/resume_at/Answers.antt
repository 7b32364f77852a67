use Rattle.std.proofs.Common.{◌≡◌, Some, None, true, false, sym, ap, subst, ◌∙◌, inl, inr}
use Rattle.std.specs.Prelude.{is_some}
use Rattle.std.specs.Option.{option_copied}
use Rattle.am_names.proofs.Basics.{none_where_not_some}
use Rattle.am_wait.specs.{wait_of}
use Rattle.am_expire.specs.{mount_of_walker}
use Rattle.am_kernel.specs.{KernelState, Yields, walk_in, resumed_walk}
use Rattle.am_kernel.specs.CallOutcome.{CallOutcome}
use Rattle.am_kernel.proofs.RetryLemmas.{resume_is, resume_failed, resume_again, resume_outside, resume_free, copied_some}
use Rattle.am_kernel.proofs.kernel.Kernel.resume_at.Goals as goal

pub returns-then-is_none : goal.returns-then-is_none
returns-then-is_none c =
    let k = c.args.self.now in
    let n = c.args.walker in
    let outside : is_some (mount_of_walker k.uses n) ≡ false = ap (λ (s : KernelState). is_some (mount_of_walker s.uses n)) (sym c.self.view_is) ∙ ap (λ o. is_some o) (sym c.mount_of_walker.ensures) ∙ sym c.is_some.ensures ∙ c.if-is_some.false in
    let waits : wait_of k.waits.waits n ≡ Some c.in-Some.wait = ap (λ (s : KernelState). wait_of s.waits.waits n) (sym c.self.view_is) ∙ sym c.wait_of.ensures.wait ∙ c.in-Some.is in
    let lost : walk_in k.walks n ≡ None = sym c.walk_row.ensures ∙ ap (λ o. option_copied o) (none_where_not_some c.walk_row.result c.if-is_none.ensures) in
    subst (λ (o : CallOutcome). Yields o c.finish_expiry.result k c.finish_expiry.new.self c.args.seen.now.items c.finish_expiry.new.seen.items)
    (sym (resume_is c.args.pipe k n c.args.moment c.in-Some.wait c.in-Some-status.status outside waits c.in-Some-status.is ∙ ap (λ o. resumed_walk o c.in-Some-status.status c.args.pipe k c.in-Some.wait c.args.moment) lost))
    c.finish_expiry.ensures

pub finish_expiry-requires : goal.finish_expiry-requires
finish_expiry-requires c =
    let n = c.args.walker in
    resume_free c.args.self.now n c.in-Some.wait c.in-Some-status.status
    (ap (λ (s : KernelState). wait_of s.waits.waits n) (sym c.self.view_is) ∙ sym c.wait_of.ensures.wait ∙ c.in-Some.is) c.in-Some-status.is

pub returns-in-Missing-Fail : goal.returns-in-Missing-Fail
returns-in-Missing-Fail c =
    let k = c.args.self.now in
    let n = c.args.walker in
    let outside : is_some (mount_of_walker k.uses n) ≡ false = ap (λ (s : KernelState). is_some (mount_of_walker s.uses n)) (sym c.self.view_is) ∙ ap (λ o. is_some o) (sym c.mount_of_walker.ensures) ∙ sym c.is_some.ensures ∙ c.if-is_some.false in
    let waits : wait_of k.waits.waits n ≡ Some c.in-Some.wait = ap (λ (s : KernelState). wait_of s.waits.waits n) (sym c.self.view_is) ∙ sym c.wait_of.ensures.wait ∙ c.in-Some.is in
    let there : is_some (walk_in k.walks n) ≡ true = ap (λ o. is_some o) (sym c.walk_row.ensures) ∙ copied_some c.walk_row.result c.if-is_none.ensures in
    subst (λ (o : CallOutcome). Yields o c.fail.result k c.fail.new.self c.args.seen.now.items c.fail.new.seen.items)
    (sym (resume_failed c.args.pipe k n c.args.moment c.in-Some.wait c.in-Some-status.status c.in-Missing-Fail.no c.errno.result outside waits c.in-Some-status.is there c.in-Missing-Fail.is-0 c.in-Missing-Fail.is-1 c.errno.ensures))
    c.fail.ensures

pub retry-requires-clause-outside : goal.retry-requires-clause-outside
retry-requires-clause-outside c =
    let k = c.args.self.now in
    let n = c.args.walker in
    resume_outside k n c.in-Some.wait
    (ap (λ (s : KernelState). is_some (mount_of_walker s.uses n)) (sym c.self.view_is) ∙ ap (λ o. is_some o) (sym c.mount_of_walker.ensures) ∙ sym c.is_some.ensures ∙ c.if-is_some.false)
    (ap (λ (s : KernelState). wait_of s.waits.waits n) (sym c.self.view_is) ∙ sym c.wait_of.ensures.wait ∙ c.in-Some.is)

pub retry-requires-clause-free : goal.retry-requires-clause-free
retry-requires-clause-free c =
    let n = c.args.walker in
    resume_free c.args.self.now n c.in-Some.wait c.in-Some-status.status
    (ap (λ (s : KernelState). wait_of s.waits.waits n) (sym c.self.view_is) ∙ sym c.wait_of.ensures.wait ∙ c.in-Some.is) c.in-Some-status.is

pub retry-requires-in-Expire-default-clause-outside : goal.retry-requires-in-Expire-default-clause-outside
retry-requires-in-Expire-default-clause-outside c =
    let k = c.args.self.now in
    let n = c.args.walker in
    resume_outside k n c.in-Some.wait
    (ap (λ (s : KernelState). is_some (mount_of_walker s.uses n)) (sym c.self.view_is) ∙ ap (λ o. is_some o) (sym c.mount_of_walker.ensures) ∙ sym c.is_some.ensures ∙ c.if-is_some.false)
    (ap (λ (s : KernelState). wait_of s.waits.waits n) (sym c.self.view_is) ∙ sym c.wait_of.ensures.wait ∙ c.in-Some.is)

pub retry-requires-in-Expire-default-clause-free : goal.retry-requires-in-Expire-default-clause-free
retry-requires-in-Expire-default-clause-free c =
    let n = c.args.walker in
    resume_free c.args.self.now n c.in-Some.wait c.in-Some-status.status
    (ap (λ (s : KernelState). wait_of s.waits.waits n) (sym c.self.view_is) ∙ sym c.wait_of.ensures.wait ∙ c.in-Some.is) c.in-Some-status.is

pub returns-in-Missing-Ready : goal.returns-in-Missing-Ready
returns-in-Missing-Ready c =
    let k = c.args.self.now in
    let n = c.args.walker in
    let outside : is_some (mount_of_walker k.uses n) ≡ false = ap (λ (s : KernelState). is_some (mount_of_walker s.uses n)) (sym c.self.view_is) ∙ ap (λ o. is_some o) (sym c.mount_of_walker.ensures) ∙ sym c.is_some.ensures ∙ c.if-is_some.false in
    let waits : wait_of k.waits.waits n ≡ Some c.in-Some.wait = ap (λ (s : KernelState). wait_of s.waits.waits n) (sym c.self.view_is) ∙ sym c.wait_of.ensures.wait ∙ c.in-Some.is in
    let there : is_some (walk_in k.walks n) ≡ true = ap (λ o. is_some o) (sym c.walk_row.ensures) ∙ copied_some c.walk_row.result c.if-is_none.ensures in
    subst (λ (o : CallOutcome). Yields o c.retry.result k c.retry.new.self c.args.seen.now.items c.retry.new.seen.items)
    (sym (resume_again c.args.pipe k n c.args.moment c.in-Some.wait c.in-Some-status.status outside waits c.in-Some-status.is there (inl (c.in-Missing-Ready.is-0, c.in-Missing-Ready.is-1)))) c.retry.ensures

pub returns-in-Expire-default : goal.returns-in-Expire-default
returns-in-Expire-default c =
    let k = c.args.self.now in
    let n = c.args.walker in
    let outside : is_some (mount_of_walker k.uses n) ≡ false = ap (λ (s : KernelState). is_some (mount_of_walker s.uses n)) (sym c.self.view_is) ∙ ap (λ o. is_some o) (sym c.mount_of_walker.ensures) ∙ sym c.is_some.ensures ∙ c.if-is_some.false in
    let waits : wait_of k.waits.waits n ≡ Some c.in-Some.wait = ap (λ (s : KernelState). wait_of s.waits.waits n) (sym c.self.view_is) ∙ sym c.wait_of.ensures.wait ∙ c.in-Some.is in
    let there : is_some (walk_in k.walks n) ≡ true = ap (λ o. is_some o) (sym c.walk_row.ensures) ∙ copied_some c.walk_row.result c.if-is_none.ensures in
    subst (λ (o : CallOutcome). Yields o c.retry-in-Expire-default.result k c.retry-in-Expire-default.new.self c.args.seen.now.items c.retry-in-Expire-default.new.seen.items)
    (sym (resume_again c.args.pipe k n c.args.moment c.in-Some.wait c.in-Some-status.status outside waits c.in-Some-status.is there (inr c.in-Expire-default.is-0))) c.retry-in-Expire-default.ensures
