use Rattle.am_import.specs.Likeness.{ns_of, spaces_of, told_of}
use Rattle.am_import.proofs.likeness.has_namespace.Goals as goal

pub returns : goal.returns
returns c = λ t rows told.
    let stands = c.stands_for.ensures (spaces_of rows) (told_of (ns_of t) rows) told.spaces told.namespaces in
    rw (c.space_of.ensures, c.ns_of.ensures) at stands
