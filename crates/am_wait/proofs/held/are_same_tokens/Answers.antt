use Rattle.std.proofs.Common.{rules, ◌≡◌, ◌<◌, true, false, [], length, arith}
use Rattle.std.specs.Prelude.{None}
use Rattle.am_names.specs.declared.row.TokenKind.TheVariants.{Missing}
use Rattle.am_wait.specs.{HeldToken, token_in}
use Rattle.am_wait.proofs.AlikeLemmas.{one_more_mapped, each_mapped}
use Rattle.am_wait.proofs.held.are_same_tokens.Goals as goal

-- in place of a token where there is none
none : HeldToken
none = record { token = 0; trigger = record { fs = 0; name = None }; kind = Missing; keys = [] }

pub returns-then-not-is_same_at : goal.returns-then-not-is_same_at
returns-then-not-is_same_at c =
    let less : c.loop-at.at < length c.args.tokens.now.items = search rules in
    let below : c.loop-at.at < length c.args.other_tokens.now.items = search rules in
    let differ : c.is_same_at.result ≡ false = c.if-not-is_same_at.true in (
      λ h. absurd cc,
      λ h.
          let same : c.is_same_at.result ≡ true = (c.is_same_at.ensures none none).1 (each_mapped (token_in c.args.slab.now) (token_in c.args.others.now) c.args.tokens.now.items c.args.other_tokens.now.items c.loop-at.at none none less below h) in
          absurd cc,
    )

pub loop-at-preserved : goal.loop-at-preserved
loop-at-preserved c =
    let less : c.loop-at.at < length c.args.tokens.now.items = search rules in
    let below : c.loop-at.at < length c.args.other_tokens.now.items = search rules in
    let same = (c.is_same_at.ensures none none).0 c.if-not-is_same_at.false in
    (one_more_mapped (token_in c.args.slab.now) (token_in c.args.others.now) c.args.tokens.now.items c.args.other_tokens.now.items c.loop-at.at none none less below c.loop-at.invariant.0 same, omega (arith, less))
