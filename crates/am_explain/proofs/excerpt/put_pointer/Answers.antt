use Rattle.std.proofs.Common.{◌≡◌, ℕ, decimal, replicate, sym, ◌∙◌, ap}
use Rattle.std.proofs.lemmas.List.{take-replicate}
use Rattle.am_explain.specs.Excerpts.{indent}
use Rattle.am_explain.proofs.excerpt.put_pointer.Goals as goal

pub returns : goal.returns
returns c =
    let digits : c.as_bytes.result.now ≡ decimal c.args.column = c.as_bytes.ensures.value ∙ c.format.ensures.text in
    let words : c.as_bytes-2.result.now ≡ c.args.expected.now = c.as_bytes-2.ensures.value in
    let space : c.beginning_of.result.now ≡ replicate (indent c.args.column) 32 =
    c.beginning_of.ensures ∙ take-replicate c.indent.result 60 32 c.indent.ensures.few ∙ ap (λ (n : ℕ). replicate n 32) c.indent.ensures.value in
    rw (sym digits, sym words, sym space) c.put_parts.ensures
