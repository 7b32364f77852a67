use Rattle.std.proofs.Common.{◌≡◌, rules, sym, subst}
use Rattle.am_serve.specs.Hearing.{Heard, is_within}
use Rattle.am_serve.specs.Requests.{request_of}
use Rattle.am_serve.specs.declared.request.Request.{Request}
use Rattle.am_serve.specs.declared.request.Request.TheVariants.{Long}
use Rattle.am_serve.proofs.hear.hear.Goals as goal

pub returns-in-Long-clause-heard : goal.returns-in-Long-clause-heard
returns-in-Long-clause-heard c =
    let old = c.args.serving.now in
    let line = c.args.line.now in
    let is : request_of (is_within old.stand) line ≡ Long = search rules in
    subst (λ (r : Request). Heard r old line old c.hear_long.result) (sym is) (c.hear_long.ensures.long line)
