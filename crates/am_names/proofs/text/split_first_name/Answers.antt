use Rattle.am_names.proofs.PathLemmas.{cuts_first}
use Rattle.am_names.proofs.text.split_first_name.Goals as goal

pub split_at-requires : goal.split_at-requires
split_at-requires c = (cuts_first c.args.text.now c.in_ok-_slash.below.now _ c.name_len.result c.requires c.in_ok-_slash.ensures.cases.0 c.name_len.ensures).fits

pub of-requires : goal.of-requires
of-requires c = rw c.split_at.ensures.front (cuts_first c.args.text.now c.in_ok-_slash.below.now _ c.name_len.result c.requires c.in_ok-_slash.ensures.cases.0 c.name_len.ensures).named

pub returns-clause-some : goal.returns-clause-some
returns-clause-some c =
    let cuts = cuts_first c.args.text.now c.in_ok-_slash.below.now _ c.name_len.result c.requires c.in_ok-_slash.ensures.cases.0 c.name_len.ensures in
    rw (c.of.ensures, c.split_at.ensures.front, c.split_at.ensures.back) cuts.names

pub returns-clause-rest : goal.returns-clause-rest
returns-clause-rest c =
    rw c.split_at.ensures.back (cuts_first c.args.text.now c.in_ok-_slash.below.now _ c.name_len.result c.requires c.in_ok-_slash.ensures.cases.0 c.name_len.ensures).rest
