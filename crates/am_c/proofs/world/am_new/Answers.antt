use Rattle.std.proofs.Common.{Ok, Err, refl, subst, arith}
use Rattle.std.proofs.lemmas.Bool.Decides.{nat_tests}
use Rattle.am_script.specs.{Summary}
use Rattle.am_c.specs.Scripts.{IsTold}
use Rattle.am_c.proofs.SessionLemmas.{none_held, news_made}
use Rattle.am_c.proofs.world.am_new.Goals as goal

pub returns-in-Ok : goal.returns-in-Ok
returns-in-Ok c =
    let none = none_held c.args.world.now.kept.inside c.args.world.now.held c.args.world.now.fits (grind (arith, nat_tests, c.if-world-ne0.false)) in
    news_made c.args.head.now c.args.world.now.kept.inside _ _ (Ok c.in-Ok.session.value) 0 none c.in-Ok.ensures.ok c.put.ensures
    (subst (λ (ended : Summary). IsTold c.args.head.now 0 (Ok ended) c.tell_of.result) c.no_event.ensures c.tell_of.ensures) refl

pub returns-in-Err : goal.returns-in-Err
returns-in-Err c =
    let none = none_held c.args.world.now.kept.inside c.args.world.now.held c.args.world.now.fits (grind (arith, nat_tests, c.if-world-ne0.false)) in
    news_made c.args.head.now c.args.world.now.kept.inside _ _ (Err c.in-Err.fault) c.number.result none c.in-Err.ensures.err none c.tell_of-in-Err.ensures c.number.ensures
