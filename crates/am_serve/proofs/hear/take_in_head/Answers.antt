use Rattle.std.proofs.Common.{◌≡◌, Bool, true, sym, subst, arith}
use Rattle.am_serve.proofs.HeadLemmas.{head_heard}
use Rattle.am_serve.specs.Heads.{ends_head}
use Rattle.am_serve.specs.Hearing.{HeardInHead}
use Rattle.am_serve.specs.declared.stands.Serving.{Serving}
use Rattle.am_serve.proofs.hear.take_in_head.Goals as goal

pub returns-clause-heard : goal.returns-clause-heard
returns-clause-heard c =
    let head = c.in-Gathering.head in
    let line = c.args.line.now in
    let ends : ends_head head line ≡ true = grind (arith, c.ends.ensures, c.if-not-ends.false) in
    let new : Serving = record { stand = c.follow.new.stand; lines = c.follow.new.lines } in
    rw (c.in-Gathering.is)
    (subst (λ (b : Bool). HeardInHead b head c.args.lines.now line new c.follow.result) (sym ends)
    (head_heard c.open_head-opened.result head c.args.lines.now line c.follow.new.stand c.follow.new.lines c.follow.result c.open_head-opened.ensures.ok c.open_head-opened.ensures.err c.follow.ensures.follows))
