-- In rows that rise, each mount's path is below that of its parent.
use Rattle.std.proofs.Common.{◌≡◌, ◌<◌, ◌+◌, ◌==◌, ℕ, Bool, true, false, cond, List, [], ◌∷◌, ◌++◌, reverse, Option, Some, None, refl, sym, ap, ◌∙◌, subst, append_assoc, append-nil, arith}
use Rattle.std.proofs.lemmas.Bool.{eqb-true, eq-eqb, ne_eqb}
use Rattle.std.proofs.lemmas.List.{reverse-append}
use Rattle.am_names.specs.{MountRow, Position}
use Rattle.am_mount.specs.{RiseFrom, IsRising, mount_row, IsOn}
use Rattle.am_mountinfo.specs.{below, parent_in, parent_of, path_among, ArePlaced}

-- the last of those that are turned round
turned : (r : MountRow) (rest older : List MountRow) → reverse (r ∷ rest) ++ older ≡ reverse rest ++ r ∷ older
turned r rest older =
    ap (λ (t : List MountRow). t ++ older) (reverse-append (r ∷ []) rest)
    ∙ append_assoc (reverse rest) (r ∷ []) older

-- a row of another number is passed over
passed : (r : MountRow) (older : List MountRow) (p : ℕ) → (r.mount == p) ≡ false → path_among (r ∷ older) p ≡ path_among older p
passed r older p e =
    ap (λ (b : Bool). cond b (below (path_among older (parent_of r)) r.mountpoint) (path_among older p)) e

-- and so are all that are younger
skipped : (rest older : List MountRow) (low p : ℕ) → p < low → RiseFrom low rest → path_among (reverse rest ++ older) p ≡ path_among older p
skipped [] older low p under rises = refl
skipped (r ∷ rest) older low p under rises =
    ap (λ (t : List MountRow). path_among t p) (turned r rest older)
    ∙ skipped rest (r ∷ older) (r.mount + 1) p (omega (arith, under, rises.0)) rises.1
    ∙ passed r older p (ne_eqb r.mount p (λ e. omega (arith, under, rises.0, e)))

-- what the mount is mounted on, if it is, is older
abbrev ParentIsBelow : ℕ → MountRow → Type 0
ParentIsBelow m row = (position : Position) → row.mountpoint ≡ Some position → position.mount < m

parent_path : (r : MountRow) (rest older : List MountRow) (o : Option Position) → r.mountpoint ≡ o → ParentIsBelow r.mount r → RiseFrom (r.mount + 1) rest → below (path_among older (parent_in r.mount o)) o ≡ below (path_among (reverse rest ++ r ∷ older) (parent_in r.mount o)) o
parent_path r rest older None e under rises = refl
parent_path r rest older (Some position) e under rises =
    let less = under position e in
    ap (λ (t : List ℕ). below t (Some position))
    (sym (skipped rest (r ∷ older) (r.mount + 1) position.mount (omega (arith, less)) rises
    ∙ passed r older position.mount (ne_eqb r.mount position.mount (λ e. omega (arith, less, e)))))

here_placed : (r : MountRow) (rest older : List MountRow) → ParentIsBelow r.mount r → RiseFrom (r.mount + 1) rest → path_among (reverse rest ++ r ∷ older) r.mount ≡ below (path_among (reverse rest ++ r ∷ older) (parent_of r)) r.mountpoint
here_placed r rest older under rises =
    skipped rest (r ∷ older) (r.mount + 1) r.mount (omega arith) rises
    ∙ ap (λ (b : Bool). cond b (below (path_among older (parent_of r)) r.mountpoint) (path_among older r.mount)) (eq-eqb r.mount r.mount refl)
    ∙ parent_path r rest older r.mountpoint refl under rises

abbrev row_or : MountRow → Option MountRow → MountRow
row_or r None = r
row_or r (Some row) = row

some_same : (r row : MountRow) → Some r ≡ Some row → r ≡ row
some_same r row e = ap (λ (o : Option MountRow). row_or r o) e

placed : (older rows : List MountRow) (low m : ℕ) (row : MountRow) → RiseFrom low rows → mount_row rows m ≡ Some row → ParentIsBelow m row → path_among (reverse rows ++ older) m ≡ below (path_among (reverse rows ++ older) (parent_of row)) row.mountpoint
placed older [] low m row rises e under = absurd cc
placed older (r ∷ rest) low m row rises e under =
    by (r.mount == m) refl (λ found. placed (r ∷ older) rest (r.mount + 1) m row rises.1 found under)
  where
    Goal : List MountRow → Type 0
    Goal t = path_among t m ≡ below (path_among t (parent_of row)) row.mountpoint

    by : (b : Bool) → (r.mount == m) ≡ b → (mount_row rest m ≡ Some row → Goal (reverse rest ++ r ∷ older)) → Goal (reverse (r ∷ rest) ++ older)
    by true same behind =
        let number : r.mount ≡ m = eqb-true r.mount m same in
        let is : r ≡ row = some_same r row (sym (ap (λ (b : Bool). cond b (Some r) (mount_row rest m)) same) ∙ e) in
        subst Goal (sym (turned r rest older))
        (subst (λ (n : ℕ). path_among (reverse rest ++ r ∷ older) n ≡ below (path_among (reverse rest ++ r ∷ older) (parent_of row)) row.mountpoint) number
        (subst (λ (x : MountRow). path_among (reverse rest ++ r ∷ older) r.mount ≡ below (path_among (reverse rest ++ r ∷ older) (parent_of x)) x.mountpoint) is
        (here_placed r rest older (λ position at. subst (λ (n : ℕ). position.mount < n) (sym number) (under position (sym (ap (λ (x : MountRow). x.mountpoint) is) ∙ at))) rises.1)))
    by false other behind =
        subst Goal (sym (turned r rest older))
        (behind (sym (ap (λ (b : Bool). cond b (Some r) (mount_row rest m)) other) ∙ e))

pub are_placed : (rows : List MountRow) → IsRising rows → ((m p : ℕ) (row : MountRow) → mount_row rows m ≡ Some row → IsOn p row → p < m) → ArePlaced rows
are_placed rows rising older m row e =
    subst (λ (t : List MountRow). path_among t m ≡ below (path_among t (parent_of row)) row.mountpoint) (append-nil (reverse rows))
    (placed [] rows 0 m row rising e (λ position is. older m position.mount row e (position.place, is)))
