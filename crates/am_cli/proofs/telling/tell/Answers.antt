use Rattle.std.specs.List.{flat_map}
use Rattle.am_cli.proofs.PartLemmas.{told_either}
use Rattle.am_cli.proofs.telling.tell.Goals as goal

pub returns : goal.returns
returns g c =
    let tells = g.E.Write.contents in
    told_either c.write_parts.result (tells c.args.errors.now) (tells c.write_parts.new.writer) (flat_map (λ part. part.now) c.args.parts.now) c.write_parts.ensures.whole c.write_parts.ensures.cut
