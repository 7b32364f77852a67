use Rattle.am_draw.proofs.mount_paths.+path_length.Given as goal

abbrev pub decreases-path_length : goal.decreases-path_length
decreases-path_length l = l.most
