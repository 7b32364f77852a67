use Rattle.am_mountinfo.proofs.mount_line.put_type.Goals as goal

pub returns-in-Some : goal.returns-in-Some
returns-in-Some g c =
    rw (← c.autofs.ensures, c.in-Some.is, ← c.requires c.args.fs, ← c.get.ensures) c.put_autofs.ensures

pub returns-in-None : goal.returns-in-None
returns-in-None g c = rw (← c.autofs.ensures, c.in-None.is) c.put_word.ensures
