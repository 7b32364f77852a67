-- The paths of one mount more.
use Rattle.std.proofs.Common.{◌≡◌, ◌<◌, ◌+◌, ◌==◌, ℕ, List, [], ◌∷◌, length, take, get_or, reverse, if◌then◌else◌, sym, ap, ◌∙◌, ap₂}
use Rattle.std.proofs.lemmas.List.{take_more, reverse-append}
use Rattle.am_names.specs.{MountRow}
use Rattle.am_mountinfo.specs.declared.paths.Paths.{Paths}
use Rattle.am_mountinfo.specs.{below, parent_of, path_among, path_of, ArePaths, HasOneMore}

-- the paths of the rows so far, and that of the next
path_more :
    (rows : List MountRow) (i : ℕ) (row : MountRow) (m : ℕ) → i < length rows →
    path_of (take (i + 1) rows) m ≡ path_among (get_or rows i row ∷ reverse (take i rows)) m
path_more rows i row m inside =
    ap (λ (t : List MountRow). path_among (reverse t) m) (take_more rows i row inside)
    ∙ ap (λ (t : List MountRow). path_among t m) (reverse-append (take i rows) (get_or rows i row ∷ []))

pub paths_more :
    (rows : List MountRow) (i : ℕ) (row : MountRow) (old new : Paths) → i < length rows →
    row ≡ get_or rows i row → ArePaths old (take i rows) → HasOneMore row old new →
    ArePaths new (take (i + 1) rows)
paths_more rows i row old new inside is h more m =
    more m
    ∙ ap₂ (λ (x y : List ℕ). if row.mount == m then below x row.mountpoint else y) (h (parent_of row)) (h m)
    ∙ ap (λ (r : MountRow). path_among (r ∷ reverse (take i rows)) m) is
    ∙ sym (path_more rows i row m inside)
