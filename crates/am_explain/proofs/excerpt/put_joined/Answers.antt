use Rattle.std.proofs.Common.{◌≡◌, decimal, sym, ◌∙◌}
use Rattle.am_explain.proofs.excerpt.put_joined.Goals as goal

pub returns : goal.returns
returns c =
    let digits : c.as_bytes.result.now ≡ decimal c.args.column = c.as_bytes.ensures.value ∙ c.format.ensures.text in
    let words : c.as_bytes-2.result.now ≡ c.args.expected.now = c.as_bytes-2.ensures.value in
    rw (sym digits, sym words) c.put_parts.ensures
