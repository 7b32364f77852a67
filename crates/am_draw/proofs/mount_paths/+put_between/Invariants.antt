use Rattle.am_draw.proofs.mount_paths.+put_between.Given as goal

abbrev pub decreases-put_between : goal.decreases-put_between
decreases-put_between g l = l.most
