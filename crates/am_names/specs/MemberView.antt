-- A mount's row and its membership: each tells the other.
use Rattle.std.specs.Prelude.{◌≡◌, refl, ℕ}
use Rattle.am_names.specs.declared.membership.Membership.{Membership}
use Rattle.am_names.specs.declared.membership.Membership.TheVariants.{InGroup, SlaveOf, Private, Unbindable}
use Rattle.am_names.specs.declared.row.MemberRow.TheInside.{Inside}
use Rattle.am_names.specs.Member.{MemberRow}
use Rattle.am_names.specs.Memberships.{membership_where, row_with}

-- the row as it is stored
abbrev pub inside_of : MemberRow → Inside
inside_of row = record { mount = row.mount; membership = membership_where row.group row.master row.unbindable }

-- the membership that a row tells is its own
membership_back : (m : ℕ) (k : Membership) → inside_of (row_with k m) ≡ record { mount = m; membership = k }
membership_back m (InGroup g) = refl
membership_back m (SlaveOf g) = refl
membership_back m Private = refl
membership_back m Unbindable = refl

-- what is stored of the row that is stored is the same
pub stored_back : (r : Inside) → inside_of (row_with r.membership r.mount) ≡ r
stored_back r = membership_back r.mount r.membership
