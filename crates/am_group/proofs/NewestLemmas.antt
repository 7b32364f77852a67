-- Mounts that stand last: what they come to keeps the order, and so does what is left without them.
use Rattle.std.proofs.Common.{◌≡◌, ◌≤◌, ◌+◌, ◌-◌, ℕ, List, [], ◌∷◌, ◌++◌, length, take, drop, Option, Some, None, inl, inr, ⊎_elim, refl, sym, ap, subst, ◌∙◌, arith}
use Rattle.std.specs.Prelude.{filter, not, option_map, ◌==◌}
use Rattle.std.specs.List.{slice_get}
use Rattle.std.specs.Option.{option_or}
use Rattle.std.proofs.lemmas.Bool.{eq-eqb, ne_eqb}
use Rattle.std.proofs.lemmas.List.{length-append, take-append-drop}
use Rattle.std.proofs.lemmas.List.Folds.{find-append}
use Rattle.std.proofs.Math.Seq.{take-append_seam}
use Rattle.am_names.specs.{MemberRow, is_among}
use Rattle.am_names.specs.PeerGroups.{PeerGroups}
use Rattle.am_group.specs.{AreWithout, Indexes, IsOrderly, ListMembers, RiseFrom, group_in, member_row, slave_in, without_newest}
use Rattle.am_group.proofs.IndexedLemmas.{gone_earlier, mount_less, none_gone}
use Rattle.am_group.proofs.LeaveLemmas.{RiseBy-take, newest_out}

-- a mount that was there is there still
pub member_still : (xs ys : List MemberRow) (m : ℕ) (row : MemberRow) → member_row xs m ≡ Some row → member_row (xs ++ ys) m ≡ Some row
member_still xs ys m row e =
    find-append (λ (r : MemberRow). r.mount == m) xs ys ∙ ap (λ (o : Option MemberRow). option_or o (member_row ys m)) e

-- its group is, and its master
still : (f : Option MemberRow → Option ℕ) → f None ≡ None → (xs ys : List MemberRow) (m g : ℕ) → f (member_row xs m) ≡ Some g → f (member_row (xs ++ ys) m) ≡ Some g
still f none xs ys m g e = go (member_row xs m) refl
  where
    go : (o : Option MemberRow) → member_row xs m ≡ o → f (member_row (xs ++ ys) m) ≡ Some g
    go None absent = absurd (let no : None ≡ Some g = sym none ∙ ap f (sym absent) ∙ e in cc)
    go (Some row) found = ap f (member_still xs ys m row found ∙ sym found) ∙ e

-- the first of the mounts are in order, where all are
pub orderly_front : (s : PeerGroups) (xs ys : List MemberRow) → IsOrderly (record s { members = xs ++ ys }) → IsOrderly (record s { members = xs })
orderly_front s xs ys o = record {
  rising = subst (λ (rows : List MemberRow). RiseFrom 0 rows) (take-append_seam xs ys)
      (RiseBy-take (λ (row : MemberRow). row.mount) 0 (length xs) (xs ++ ys) o.rising);
  groups_rising = o.groups_rising;
  group_named = λ m g e. o.group_named m g (still group_in refl xs ys m g e);
  master_named = λ g master. o.master_named g
      (⊎_elim (λ slave. inl (slave.0, still slave_in refl xs ys slave.0 g slave.1)) (λ below. inr below) master);
  down = o.down;
  fresh = o.fresh;
}

-- the newest is left out
pub newest_left :
    (rows : List MemberRow) (x : ℕ) → RiseFrom 0 rows → option_map (λ (row : MemberRow). row.mount) (slice_get rows (length rows - 1)) ≡ Some x →
    filter (λ row. not (is_among (x ∷ []) row.mount)) rows ≡ take (length rows - 1) rows
newest_left rows x rises newest =
    sym (newest_out (λ (row : MemberRow). row.mount) rows rises (x ∷ []) 0 x (omega arith) refl newest) ∙
    none_gone (λ (row : MemberRow). row.mount) [] (take (length rows - 1) rows)

-- the last of mounts that rise is found
last_above : (low : ℕ) (rows : List MemberRow) (row : MemberRow) → RiseFrom low (rows ++ row ∷ []) → low ≤ row.mount
last_above low [] row rises = rises.0
last_above low (x ∷ rows) row rises =
    let first : low ≤ x.mount = rises.0 in
    let rest : x.mount + 1 ≤ row.mount = last_above (x.mount + 1) rows row rises.1 in
    omega arith

last_found : (low : ℕ) (rows : List MemberRow) (row : MemberRow) → RiseFrom low (rows ++ row ∷ []) → member_row (rows ++ row ∷ []) row.mount ≡ Some row
last_found low [] row rises = rw (eq-eqb row.mount row.mount refl) refl
last_found low (x ∷ rows) row rises =
    let above : x.mount + 1 ≤ row.mount = last_above (x.mount + 1) rows row rises.1 in
    rw (ne_eqb x.mount row.mount (λ same. omega (arith, above, same))) (last_found (x.mount + 1) rows row rises.1)

-- it is taken out of the indexes
pub newest_indexed :
    (rows : List MemberRow) (row : MemberRow) (old new : Indexes) → RiseFrom 0 (rows ++ row ∷ []) →
    AreWithout row old new → ListMembers (rows ++ row ∷ []) old → ListMembers rows new
newest_indexed rows row old new rises without indexed =
    let all = rows ++ row ∷ [] in
    let x = row.mount in
    let left : ListMembers (filter (λ (r : MemberRow). not (is_among (x ∷ []) r.mount)) all) new =
    mount_less x (λ (r : MemberRow). not (is_among [] r.mount)) (λ (r : MemberRow). not (is_among (x ∷ []) r.mount))
    (λ r. gone_earlier (x ∷ []) 1 x (omega arith) (omega arith) refl r.mount) all rises row old new (last_found 0 rows row rises) without
    (subst (λ (rs : List MemberRow). ListMembers rs old) (sym (none_gone (λ (r : MemberRow). r.mount) [] all)) indexed) in
    subst (λ (rs : List MemberRow). ListMembers rs new)
    (newest_left all x rises (ap (option_map (λ (r : MemberRow). r.mount)) (last_of rows row)) ∙ front rows row) left
  where
    many : (rs : List MemberRow) (r : MemberRow) → length (rs ++ r ∷ []) - 1 ≡ length rs
    many rs r = let long : length (rs ++ r ∷ []) ≡ length rs + length (r ∷ []) = length-append rs (r ∷ []) in omega arith

    last_of : (rs : List MemberRow) (r : MemberRow) → slice_get (rs ++ r ∷ []) (length (rs ++ r ∷ []) - 1) ≡ Some r
    last_of rs r = ap (slice_get (rs ++ r ∷ [])) (many rs r) ∙ at_end rs r
      where
        at_end : (xs : List MemberRow) (y : MemberRow) → slice_get (xs ++ y ∷ []) (length xs) ≡ Some y
        at_end [] y = refl
        at_end (x ∷ xs) y = at_end xs y

    front : (rs : List MemberRow) (r : MemberRow) → take (length (rs ++ r ∷ []) - 1) (rs ++ r ∷ []) ≡ rs
    front rs r = ap (λ (n : ℕ). take n (rs ++ r ∷ [])) (many rs r) ∙ take-append_seam rs (r ∷ [])

-- it is in order
pub newest_orderly : (s : PeerGroups) (count : ℕ) → IsOrderly s → IsOrderly (without_newest count s)
newest_orderly s count o =
    let n = length s.members - count in
    orderly_front s (take n s.members) (drop n s.members)
    (subst (λ (rows : List MemberRow). IsOrderly (record s { members = rows })) (sym (take-append-drop n s.members)) o)
